-- EACH PART THAT IT ASKS FOR is of a node that was added.
use Rattle.std.proofs.Common.{◌≡◌, ◌⊎◌, inl, inr, ℕ, ◌+◌, ◌≤◌, Bool, true, false, cond, List, [], ◌∷◌, ◌++◌, map, Option, None, Some, refl, sym, ap, ◌∙◌, subst, arith}
use Rattle.std.specs.Prelude.{not, filter, flat_map, if◌then◌else◌}
use Rattle.std.specs.List.{AllByRecursion}
use Rattle.std.proofs.lemmas.Bool.{eq-eqb}
use Rattle.std.proofs.lemmas.List.{append-nil}
use Rattle.atspi_tree_model.specs.declared.view.Row.{Row}
use Rattle.atspi_tree_model.specs.Forest.{Forest, nil, tree, count, labels}
use Rattle.atspi_tree_model.specs.Path.{path_of}
use Rattle.atspi_tree_model.specs.Row.{TreeRow}
use Rattle.atspi_tree_model.specs.Tree.{is_node}
use Rattle.atspi_tree_model.specs.View.{Told, view}
use Rattle.atspi_script_lines.specs.declared.line.Line.{Line}
use Rattle.atspi_script_lines.specs.declared.line.Party.{Party}
use Rattle.atspi_script_lines.specs.declared.line.Party.TheVariants.{App}
use Rattle.atspi_protocol.specs.declared.news.part.PartName.{PartName}
use Rattle.atspi_protocol.specs.declared.following.question.Question.{Question}
use Rattle.atspi_protocol.specs.declared.following.question.Question.TheVariants.{GetItems, GetPart}
use Rattle.atspi_protocol.specs.following.Calls.{asking}
use Rattle.atspi_protocol.specs.following.ReaderState.{Followed, Pending, Done, sends, ReaderState, start_calls}
use Rattle.atspi_protocol.specs.following.Takes.{asks_first, goes_on}
use Rattle.atspi_protocol.specs.following.Wishes.{is_refused, unknown_parts, row_wishes, wishes_of, wishes}
use Rattle.atspi_trace.specs.Entry.{Entry}
use Rattle.atspi_trace.specs.World.{World}
use Rattle.atspi_trace.specs.Hearing.{question_in}
use Rattle.atspi_trace.specs.Causes.{told_in}
use Rattle.atspi_trace_laws.specs.laws.Words.{Kept, added, is_sent_as, before_sent, as_of, held}
use Rattle.atspi_trace_caches.specs.caches.Caches.{followed}
use Rattle.atspi_trace_caches.specs.caches.Laws.{CacheIs}
use Rattle.atspi_trace_caches.specs.settled.Laws.{question_of, IsOfNode}
use Rattle.atspi_trace_laws.proofs.OfOrder.Parties.{no_none, same_some, false_true, all_append, all_back}
use Rattle.atspi_trace_laws.proofs.OfSteps.LawSteps.{steps_apply}
use Rattle.atspi_trace_laws.proofs.OfViews.LawViews.{trees_stand}
use Rattle.atspi_trace_laws.proofs.OfAnswered.Counted.{sent_counted}
use Rattle.atspi_trace_caches.proofs.OfCaches.LawCaches.{caches_follow}
use Rattle.atspi_trace_caches.proofs.OfServed.LawServed.{steps_asked}
use Rattle.atspi_trace_caches.proofs.OfSettled.Settling_parts.{added_more}
use Rattle.atspi_trace_played.proofs.Facts.{Ground, AreDistinct, IsSeen, IsOfApp, IsStarting, SeesWell}
use Rattle.atspi_trace_played.proofs.AskingWords.{all_both, all_flat, IsFound, all_found}
use Rattle.atspi_trace_played.proofs.AskingWishes.{own_read}

-- A ROW of a node
abbrev HasNode : ℕ → Row → Type 0
HasNode most row = (n : ℕ) × (row.path ≡ path_of n) × (n ≤ most)

nodes_in : (told : List ℕ → Told) (f : Forest TreeRow) (most : ℕ) → ((n : ℕ) → 1 ≤ count (is_node n) f → n ≤ most) → AllByRecursion (HasNode most) (labels (view told f))
nodes_in told nil most low = tt
nodes_in told (tree row children rest) most low = (
  (row.shape.node, refl, low row.shape.node (first (eq-eqb row.shape.node row.shape.node refl))),
  all_append (HasNode most) (labels (view told children)) (labels (view told rest)) (nodes_in told children most (λ n l. low n (omega (arith, l)))) (nodes_in told rest most (λ n l. low n (omega (arith, l)))),
)
  where
    first : is_node row.shape.node row ≡ true → 1 ≤ count (is_node row.shape.node) (tree row children rest)
    first e = subst (λ b. 1 ≤ cond b 1 0 + (count (is_node row.shape.node) children + count (is_node row.shape.node) rest)) (sym e) (omega arith)

-- what stands before a message is a front
front_of : (who : Party) (serial : ℕ) (es : List Entry) → (rest : List Entry) × (es ≡ before_sent who serial es ++ rest)
front_of who serial [] = ([], refl)
front_of who serial (x ∷ xs) = by (is_sent_as who serial x) (front_of who serial xs)
  where
    by : (b : Bool) → (rest : List Entry) × (xs ≡ before_sent who serial xs ++ rest) → (rest : List Entry) × (x ∷ xs ≡ cond b [] (x ∷ before_sent who serial xs) ++ rest)
    by true h = (x ∷ xs, refl)
    by false h = (h.0, ap (λ l. x ∷ l) h.1)

-- A QUESTION of a node, if it is for a part
abbrev pub AsksNode : List Entry → Question → Type 0
AsksNode es q = (name path : List ℕ) (part : PartName) → q ≡ GetPart name path part → IsOfNode es name path

is_part : Question → Bool
is_part (GetPart name path part) = true
is_part q = false

name_of : Question → List ℕ
name_of (GetPart name path part) = name
name_of q = []

path_in : Question → List ℕ
path_in (GetPart name path part) = path
path_in q = []

no_part : (es : List Entry) (q : Question) → is_part q ≡ false → AsksNode es q
unfolding is_part
no_part es q h name path part is = absurd (false_true (sym h ∙ ap is_part is))

of_part : (es : List Entry) (name path : List ℕ) (part : PartName) → IsOfNode es name path → AsksNode es (GetPart name path part)
unfolding name_of path_in
of_part es name path part i other way which is = subst (λ n. IsOfNode es n way) (ap name_of is) (subst (λ p. IsOfNode es name p) (ap path_in is) i)

module _ (script : List Line) (es : List Entry) (w : World) (free : Option ℕ) (g : Ground script es w free) (r : ℕ) where
  abbrev HasNodes : ℕ → Option (Forest Row) → Type 0
  HasNodes app o = (v : Forest Row) → o ≡ Some v → AllByRecursion (HasNode (added es app)) (labels v)

  tree_nodes : (app : ℕ) (k : Kept) → AllByRecursion (HasNode (added es app)) (labels (view (told_in k.told) (as_of es app k.last)))
  tree_nodes app k = nodes_in (told_in k.told) (as_of es app k.last) (added es app) low
    where
      low : (n : ℕ) → 1 ≤ count (is_node n) (as_of es app k.last) → n ≤ added es app
      low n l =
          let then_ = sent_counted es app (trees_stand script es g.can g.goes) (steps_apply script es g.can g.goes) es [] (sym (append-nil es)) k.last n l in
          let front = front_of (App app) k.last es in
          let more : added (before_sent (App app) k.last es) app ≤ added es app =
          subst (λ z. added (before_sent (App app) k.last es) app ≤ added z app) (sym front.1) (added_more (before_sent (App app) k.last es) front.0 app) in
          omega (arith, then_, more)

  held_nodes : (app : ℕ) (k : Option Kept) (f : Followed) → CacheIs es app k f → HasNodes app f.view
  held_nodes app None f c v e = absurd (no_none v (sym c ∙ e))
  held_nodes app (Some k) f c v e =
      subst (λ l. AllByRecursion (HasNode (added es app)) (labels l)) (same_some (view (told_in k.told) (as_of es app k.last)) v (sym c.shows ∙ e)) (tree_nodes app k)

  module _ (s : ReaderState) (sees : SeesWell es r s) where
    rows_of : (f : Followed) (o : IsOfApp es f) → IsFound s.apps f → HasNodes o.app f.view
    rows_of f o found v e =
        let seen = subst (λ x. IsSeen x (followed f.name es r o.app)) found (sees.seen f.name o.app o.its_name) in
        held_nodes o.app (held es r o.app) (followed f.name es r o.app)
        (caches_follow script es g.can g.goes g.nothing_owed f.name r o.app (λ own is. same_some own f.name (sym is ∙ o.its_name)) (steps_asked script es g.can g.goes f.name r o.app) es [] (sym (append-nil es)))
        v (sym seen.0 ∙ e)

    of_row : (f : Followed) (o : IsOfApp es f) (row : Row) → HasNode (added es o.app) row → AllByRecursion (AsksNode es) (row_wishes f row)
    of_row f o row x = by (filter (λ (part : PartName). not (is_refused f.refused row.path part)) (unknown_parts row))
      where
        by : (parts : List PartName) → AllByRecursion (AsksNode es) (map (λ (part : PartName). GetPart f.name row.path part) parts)
        by [] = tt
        by (part ∷ parts) = (of_part es f.name row.path part (record { app = o.app; its_name = o.its_name; node = x.0; is_of = x.1; was_added = x.2 }), by parts)

    of_app : (f : Followed) → IsOfApp es f × IsFound s.apps f → AllByRecursion (AsksNode es) (wishes_of f)
    unfolding is_part
    of_app f k = by f.view refl
      where
        items : AsksNode es (GetItems f.name)
        items = no_part es (GetItems f.name) refl

        by : (o : Option (Forest Row)) → f.view ≡ o → AllByRecursion (AsksNode es) (wishes_of (record f { view = o }))
        by None is = (items, tt)
        by (Some v) is = at f.reload
          where
            at : (b : Bool) → AllByRecursion (AsksNode es) (if b then GetItems f.name ∷ [] else flat_map (row_wishes (record f { view = Some v })) (labels v))
            at true = (items, tt)
            at false =
                all_flat (HasNode (added es k.0.app)) (AsksNode es) (row_wishes (record f { view = Some v }))
                (λ row x. of_row (record f { view = Some v }) (record { app = k.0.app; its_name = k.0.its_name; root = k.0.root }) row x) (labels v) (rows_of f k.0 k.1 v is)

    pub wishes_of_nodes : AreDistinct s.apps → AllByRecursion (AsksNode es) (wishes s.apps)
    wishes_of_nodes d = all_flat (λ f. IsOfApp es f × IsFound s.apps f) (AsksNode es) wishes_of of_app s.apps (all_both (IsOfApp es) (IsFound s.apps) s.apps sees.apps (all_found s.apps d))

-- what is left of the start asks for no part
start_plain : (es : List Entry) → AllByRecursion (AsksNode es) start_calls
unfolding is_part
start_plain es =
    let p : (q : Question) → is_part q ≡ false → AsksNode es q = no_part es in
    (p _ refl, (p _ refl, (p _ refl, (p _ refl, (p _ refl, (p _ refl, (p _ refl, (p _ refl, (p _ refl, (p _ refl, tt))))))))))

pub left_plain : (es : List Entry) (asked : List Rattle.atspi_trace.specs.World.Asked) (to_come : List Question) → IsStarting asked to_come → AllByRecursion (AsksNode es) to_come
left_plain es asked to_come (inl none) = subst (AllByRecursion (AsksNode es)) (sym none) tt
left_plain es asked to_come (inr is) = all_back (AsksNode es) (map question_of asked) to_come (subst (AllByRecursion (AsksNode es)) (sym is) (start_plain es))

-- WHAT GOES ON asks nothing, or one of these
pub went : (P : Question → Type 0) (t : ReaderState) → AllByRecursion P t.to_come → AllByRecursion P (wishes t.apps) → ((goes_on t).out ≡ t.out) ⊎ ((q : Question) × P q × ((goes_on t).out ≡ t.out ++ sends (asking t.next q) ∷ []))
went P t a b = by t.pending t.to_come a
  where
    first : (y : ReaderState) (questions : List Question) → AllByRecursion P questions → ((asks_first y questions).out ≡ y.out) ⊎ ((q : Question) × P q × ((asks_first y questions).out ≡ y.out ++ sends (asking y.next q) ∷ []))
    first y [] c = inl refl
    first y (q ∷ qs) c = inr (q, c.0, refl)

    by : (o : Option Pending) (l : List Question) → AllByRecursion P l
        → ((goes_on (record t { pending = o; to_come = l })).out ≡ t.out) ⊎ ((q : Question) × P q × ((goes_on (record t { pending = o; to_come = l })).out ≡ t.out ++ sends (asking t.next q) ∷ []))
    by (Some p) l c = inl refl
    by None (q ∷ l) c = inr (q, c.0, refl)
    by None [] c = first (record t { pending = None; to_come = [] }) (wishes t.apps) b

-- the last of a list
last_or : Done → List Done → Done
last_or d [] = d
last_or d (x ∷ xs) = last_or x xs

last_is : (d x : Done) (xs : List Done) → last_or d (xs ++ x ∷ []) ≡ x
unfolding last_or
last_is d x [] = refl
last_is d x (y ∷ ys) = last_is y x ys

pub same_question : (front early : List Done) (n k : ℕ) (p q : Question) → front ++ sends (asking n p) ∷ [] ≡ early ++ sends (asking k q) ∷ [] → p ≡ q
same_question front early n k p q is =
    same_some p q (sym (own_read n p) ∙ ap asked_in (sym (last_is (sends (asking n p)) (sends (asking n p)) front) ∙ ap (last_or (sends (asking n p))) is ∙ last_is (sends (asking n p)) (sends (asking k q)) early) ∙ own_read k q)
  where
    asked_in : Done → Option Question
    asked_in (sends m) = question_in m
    asked_in d = None
