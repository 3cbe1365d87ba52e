-- What is on its way is what the trace tells: each message on an up link was sent, with the tree and the step that it then told of.
use Rattle.std.proofs.Common.{◌≡◌, ◌⊎◌, inl, inr, ℕ, zero, suc, ◌+◌, ◌≤◌, Bool, true, false, List, [], ◌∷◌, ◌++◌, length, map, None, Some, refl, sym, ap, ◌∙◌, subst, arith, is_some}
use Rattle.std.specs.Prelude.{Option, codes, if◌then◌else◌}
use Rattle.std.specs.List.{AllByRecursion}
use Rattle.std.proofs.lemmas.Bool.{eq-eqb, ne_eqb}
use Rattle.std.proofs.lemmas.List.{append_assoc}
use Rattle.atspi_tree_model.specs.declared.step.Step.{Step}
use Rattle.atspi_tree_model.specs.declared.step.Step.TheVariants.{Add, Remove, Move, SetName, SetDescription, SetRole, SetState, Insert, Delete, Caret, TextSelect, Relate}
use Rattle.atspi_tree_model.specs.Forest.{Forest, labels, width, pick, find, children_at}
use Rattle.atspi_tree_model.specs.Row.{TreeRow}
use Rattle.atspi_tree_model.specs.RowRules.{rows}
use Rattle.atspi_tree_model.specs.Tree.{is_node, after, seat_of}
use Rattle.atspi_script_lines.specs.declared.line.Party.{Party}
use Rattle.atspi_script_lines.specs.declared.line.Party.TheVariants.{Bus as The_bus, Registry, App, Reader}
use Rattle.atspi_message.specs.Envelope.{Envelope}
use Rattle.atspi_protocol.specs.ends.Messages.{numbered}
use Rattle.atspi_protocol.specs.ends.Places.{reference}
use Rattle.atspi_tree_model.specs.Path.{path_of}
use Rattle.atspi_protocol.specs.announcing.Signals.{Signal, property_changed, child_changed, removed}
use Rattle.atspi_protocol.specs.announcing.Announced.{told_node, left, announced}
use Rattle.atspi_protocol.specs.exporting.Exporter.{Happening, steps, sends, hears, deaf, Exporter}
use Rattle.atspi_protocol.specs.exporting.Starting.{name_or_empty}
use Rattle.atspi_protocol.specs.exporting.Hearing.{is_covered}
use Rattle.atspi_protocol.specs.exporting.Laws.{numbers_among, rising}
use Rattle.atspi_trace.specs.Entry.{Entry, changed, sent, heard, unheard}
use Rattle.atspi_trace.specs.World.{Said, Letter}
use Rattle.atspi_trace.specs.Ends.{same_party, plain}
use Rattle.atspi_trace.specs.Causes.{did, saids, announced_if}
use Rattle.atspi_trace_laws.specs.laws.Words.{tree_after, live_tree, message, before_sent, as_of, heard_pairs, name_in}
use Rattle.atspi_trace_laws.specs.laws.NineLaws.{IsAskedFor, Announces}
use Rattle.atspi_trace_laws.proofs.OfOrder.Parties.{no_none}
use Rattle.atspi_trace_laws.proofs.OfSteps.Doings.{IsStill}
use Rattle.atspi_trace_laws.proofs.OfSteps.Trees.{tree_more}
use Rattle.atspi_trace_laws.proofs.OfSerials.Serial.{head_of, tail_of}
use Rattle.atspi_trace_laws.proofs.OfHeard.Pairs.{heard_more}
use Rattle.atspi_trace_laws.proofs.OfHeard.Heeding.{NoListeners, IsOneKind}
use Rattle.atspi_trace_laws.proofs.OfTaken.Found.{found_more, none_more, found_here, front_more, front_here, NotSent, look_is, looked}

-- what an application's message tells beside its bytes
pub record TellsTree (es : List Entry) (app : ℕ) (said : Said) : Type 0 where
  pub tree : as_of es app said.message.serial ≡ said.tree
  pub step : (step : Step) → Announces es app said.message.serial step → said.announces ≡ Some step
  pub announced : (step : Step) → said.announces ≡ Some step → Announces es app said.message.serial step

abbrev pub TellsOf : List Entry → Party → Said → Type 0
TellsOf es (App app) said = TellsTree es app said
TellsOf es who said = Unit {0}

-- a message on an up link
pub record IsSaid (es : List Entry) (who : Party) (said : Said) : Type 0 where
  pub was : message es who said.message.serial ≡ Some said.message
  pub tells : TellsOf es who said

-- one on a down link, of an end: the bus has set its sender
pub record IsLetter (es : List Entry) (letter : Letter) : Type 0 where
  pub first : Envelope
  pub was : message es letter.from letter.said.message.serial ≡ Some first
  pub alike : letter.said.message ≡ record first { sender = letter.said.message.sender }
  pub tells : TellsOf es letter.from letter.said

abbrev pub Comes : List Entry → Letter → Type 0
Comes es letter = (letter.from ≡ The_bus) ⊎ IsLetter es letter

-- so it stays
tells_more : (es ys : List Entry) (who : Party) (said : Said) (m : Envelope) → message es who said.message.serial ≡ Some m → TellsOf es who said → TellsOf (es ++ ys) who said
tells_more es ys (App app) said m was t =
    let same : before_sent (App app) said.message.serial (es ++ ys) ≡ before_sent (App app) said.message.serial es = front_more es ys (App app) said.message.serial m was in
    record {
      tree = ap (λ l. live_tree l app) same ∙ t.tree;
      step = λ step a. t.step step (record { early = a.early; is_sent = ap is_some was; stands = sym same ∙ a.stands; asked = a.asked });
      announced = λ step h.
          let a : Announces es app said.message.serial step = t.announced step h in
          record { early = a.early; is_sent = ap is_some (found_more es ys (App app) said.message.serial m was); stands = same ∙ a.stands; asked = a.asked };
    }
tells_more es ys The_bus said m was t = tt
tells_more es ys Registry said m was t = tt
tells_more es ys (Reader r) said m was t = tt

pub said_more : (es ys : List Entry) (who : Party) (said : Said) → IsSaid es who said → IsSaid (es ++ ys) who said
said_more es ys who said i = record { was = found_more es ys who said.message.serial said.message i.was; tells = tells_more es ys who said said.message i.was i.tells }

pub comes_more : (es ys : List Entry) (letter : Letter) → Comes es letter → Comes (es ++ ys) letter
comes_more es ys letter (inl h) = inl h
comes_more es ys letter (inr i) =
    inr (record {
      first = i.first;
      was = found_more es ys letter.from letter.said.message.serial i.first i.was;
      alike = i.alike;
      tells = tells_more es ys letter.from letter.said i.first i.was i.tells;
    })

-- WHOSE STEP A MESSAGE ANNOUNCES
-- the last entry of a list, and those before it
abbrev last_entry : List Entry → Option Entry
last_entry [] = None
last_entry (x ∷ []) = Some x
last_entry (x ∷ (y ∷ ys)) = last_entry (y ∷ ys)

abbrev pub front_entries : List Entry → List Entry
front_entries [] = []
front_entries (x ∷ []) = []
front_entries (x ∷ (y ∷ ys)) = x ∷ front_entries (y ∷ ys)

last_is : (xs : List Entry) (x : Entry) → last_entry (xs ++ x ∷ []) ≡ Some x
last_is [] x = refl
last_is (y ∷ []) x = refl
last_is (y ∷ (z ∷ zs)) x = last_is (z ∷ zs) x

pub front_is : (xs : List Entry) (x : Entry) → front_entries (xs ++ x ∷ []) ≡ xs
front_is [] x = refl
front_is (y ∷ []) x = refl
front_is (y ∷ (z ∷ zs)) x = ap (λ l. y ∷ l) (front_is (z ∷ zs) x)

abbrev step_in : Option Entry → Option Step
step_in (Some (changed app step)) = Some step
step_in entry = None

same_step : (a b : Step) → Some a ≡ Some b → a ≡ b
same_step a b e = ap (λ o. step_or a o) e
  where
    step_or : Step → Option Step → Step
    step_or d None = d
    step_or d (Some x) = x

-- an announcement that was asked for stands directly behind this step
pub record IsBehind (early : List Entry) (app : ℕ) (step : Step) : Type 0 where
  pub before : List Entry
  pub stands : early ≡ before ++ changed app step ∷ []
  pub asked : IsAskedFor (heard_pairs before app) (announced (name_or_empty (name_in before (App app))) (live_tree before app) step)

-- what stands in front of a message, and the step that it announces
pub record Rightly (early : List Entry) (app : ℕ) (announces : Option Step) : Type 0 where
  pub to : (step : Step) → IsBehind early app step → announces ≡ Some step
  pub from : (step : Step) → announces ≡ Some step → IsBehind early app step

-- behind an entry that is no step nothing is announced
pub no_step_rightly : (early : List Entry) (app : ℕ) (entry : Entry) → step_in (Some entry) ≡ None → Rightly (early ++ entry ∷ []) app None
no_step_rightly early app entry none = record {
  to = λ step i. absurd (no_none step (sym none ∙ ap step_in (sym (last_is early entry) ∙ ap last_entry i.stands ∙ last_is i.before (changed app step))));
  from = λ step h. absurd (no_none step h);
}

-- the name that an application signs with is no matter of which events a step is
node_same : (pairs : List (List ℕ × List ℕ)) (b c : List ℕ) (step : Step) (p i n : ℕ) (o : Option TreeRow) (xs ys : List Signal) → (IsAskedFor pairs xs → announced_if pairs step ys ≡ Some step)
    → IsAskedFor pairs (told_node b p i n o ++ xs) → announced_if pairs step (told_node c p i n o ++ ys) ≡ Some step
node_same pairs b c step p i n None xs ys f a = f a
node_same pairs b c step p i n (Some row) xs ys f a = ap (λ t. if t then Some step else None) a

left_same : (pairs : List (List ℕ × List ℕ)) (b c : List ℕ) (step : Step) (n : ℕ) (o : Option (Option ℕ × ℕ)) (xs ys : List Signal) → (IsAskedFor pairs xs → announced_if pairs step ys ≡ Some step)
    → IsAskedFor pairs (left b n o ++ xs) → announced_if pairs step (left c n o ++ ys) ≡ Some step
left_same pairs b c step n None xs ys f a = f a
left_same pairs b c step n (Some (None, index)) xs ys f a = f a
left_same pairs b c step n (Some (Some parent, index)) xs ys f a = ap (λ t. if t then Some step else None) a

removed_same : (pairs : List (List ℕ × List ℕ)) (b c : List ℕ) (step : Step) (rs : List TreeRow)
    → IsAskedFor pairs (map (λ (row : TreeRow). removed b row.shape.node) rs) → announced_if pairs step (map (λ (row : TreeRow). removed c row.shape.node) rs) ≡ Some step
removed_same pairs b c step [] a = absurd a
removed_same pairs b c step (r ∷ rs) a = ap (λ t. if t then Some step else None) a

-- where a node was put: its parent is told, and it to its parent
abbrev placed : List ℕ → ℕ → ℕ → ℕ → List Signal
placed b p i n = property_changed n (codes "accessible-parent") (reference b (path_of p)) ∷ child_changed b p (codes "add") i n ∷ []

pub asked_same : (pairs : List (List ℕ × List ℕ)) (b c : List ℕ) (f : Forest TreeRow) (step : Step) → IsAskedFor pairs (announced b f step) → announced_if pairs step (announced c f step) ≡ Some step
asked_same pairs b c f (Add n p i seed) a = ap (λ t. if t then Some (Add n p i seed) else None) a
asked_same pairs b c f (Remove n) a =
    left_same pairs b c (Remove n) n (seat_of rows n f) _ _ (removed_same pairs b c (Remove n) (labels (pick (is_node n) f))) a
asked_same pairs b c f (Move n p i) a =
    let g : Forest TreeRow = after rows f (Move n p i) in
    let k : ℕ = width (children_at (is_node n) g) in
    let o : Option TreeRow = find (is_node n) g in
    ap (announced_if pairs (Move n p i)) (append_assoc (told_node c p i k o) (left c n (seat_of rows n f)) (placed c p i n))
    ∙ node_same pairs b c (Move n p i) p i k o (left b n (seat_of rows n f) ++ placed b p i n) (left c n (seat_of rows n f) ++ placed c p i n)
    (left_same pairs b c (Move n p i) n (seat_of rows n f) (placed b p i n) (placed c p i n) (λ x. ap (λ t. if t then Some (Move n p i) else None) x))
    (subst (IsAskedFor pairs) (append_assoc (told_node b p i k o) (left b n (seat_of rows n f)) (placed b p i n)) a)
asked_same pairs b c f (SetName n x) a = ap (λ t. if t then Some (SetName n x) else None) a
asked_same pairs b c f (SetDescription n x) a = ap (λ t. if t then Some (SetDescription n x) else None) a
asked_same pairs b c f (SetRole n role) a = ap (λ t. if t then Some (SetRole n role) else None) a
asked_same pairs b c f (SetState n state on) a = ap (λ t. if t then Some (SetState n state on) else None) a
asked_same pairs b c f (Insert n at x) a = ap (λ t. if t then Some (Insert n at x) else None) a
asked_same pairs b c f (Delete n at x) a = ap (λ t. if t then Some (Delete n at x) else None) a
asked_same pairs b c f (Caret n at) a = ap (λ t. if t then Some (Caret n at) else None) a
asked_same pairs b c f (TextSelect n marks) a = absurd a
asked_same pairs b c f (Relate n kind targets) a = absurd a

-- what is announced was asked for, and is this step
asked_if : (pairs : List (List ℕ × List ℕ)) (step other : Step) (xs : List Signal) → announced_if pairs step xs ≡ Some other → (step ≡ other) × IsAskedFor pairs xs
asked_if pairs step other [] h = absurd (no_none other h)
asked_if pairs step other (x ∷ xs) h = by (is_covered pairs x.event x.minor) refl h
  where
    by : (b : Bool) → is_covered pairs x.event x.minor ≡ b → (if b then Some step else None) ≡ Some other → (step ≡ other) × IsAskedFor pairs (x ∷ xs)
    by true g e = (same_step step other e, g)
    by false g e = absurd (no_none other e)

-- behind a step its announcement is announced, where it was asked for
pub step_rightly : (early : List Entry) (app : ℕ) (step : Step) (pairs : List (List ℕ × List ℕ)) (name : List ℕ) (f : Forest TreeRow) → heard_pairs early app ≡ pairs → live_tree early app ≡ f
    → Rightly (early ++ changed app step ∷ []) app (announced_if pairs step (announced name f step))
step_rightly early app step pairs name f ps tree = record { to = to; from = from }
  where
    to : (other : Step) → IsBehind (early ++ changed app step ∷ []) app other → announced_if pairs step (announced name f step) ≡ Some other
    to other i =
        let front : early ≡ i.before = sym (front_is early (changed app step)) ∙ ap front_entries i.stands ∙ front_is i.before (changed app other) in
        let same : step ≡ other = same_step step other (ap step_in (sym (last_is early (changed app step)) ∙ ap last_entry i.stands ∙ last_is i.before (changed app other))) in
        let mine : List ℕ = name_or_empty (name_in i.before (App app)) in
        let there : IsAskedFor pairs (announced mine f step) =
        subst (λ p. IsAskedFor p (announced mine f step)) ps
        (subst (λ t. IsAskedFor (heard_pairs early app) (announced mine t step)) tree
        (subst (λ l. IsAskedFor (heard_pairs l app) (announced mine (live_tree l app) step)) (sym front)
        (subst (λ x. IsAskedFor (heard_pairs i.before app) (announced mine (live_tree i.before app) x)) (sym same) i.asked))) in
        asked_same pairs mine name f step there ∙ ap Some same

    from : (other : Step) → announced_if pairs step (announced name f step) ≡ Some other → IsBehind (early ++ changed app step ∷ []) app other
    from other h =
        let is = asked_if pairs step other (announced name f step) h in
        let mine : List ℕ = name_or_empty (name_in early (App app)) in
        let asked : IsAskedFor pairs (announced mine f step) = (asked_if pairs step step (announced mine f step) (asked_same pairs name mine f step is.1)).1 in
        subst (IsBehind (early ++ changed app step ∷ []) app) is.0 (record {
          before = early;
          stands = refl;
          asked = subst (λ p. IsAskedFor p (announced mine (live_tree early app) step)) (sym ps) (subst (λ t. IsAskedFor pairs (announced mine t step)) (sym tree) asked);
        })

-- WHAT AN APPLICATION SAYS
-- its next message stands behind no step, or behind the one that it announces
abbrev pub Ready : List Entry → ℕ → Option Step → List Happening → Type 0
Ready early app announces (sends e ∷ hs) = Rightly early app announces
Ready early app announces hs = Unit {0}

pub ready_of : (early : List Entry) (app : ℕ) (announces : Option Step) (hs : List Happening) → Rightly early app announces → Ready early app announces hs
ready_of early app announces [] r = tt
ready_of early app announces (sends e ∷ hs) r = r
ready_of early app announces (steps step ∷ hs) r = tt
ready_of early app announces (hears listener pattern ∷ hs) r = tt
ready_of early app announces (deaf listener pattern ∷ hs) r = tt

-- one message of it
one_said : (early rest : List Entry) (app : ℕ) (e : Envelope) (f : Forest TreeRow) (announces : Option Step) → message early (App app) e.serial ≡ None → live_tree early app ≡ f → Rightly early app announces
    → IsSaid (early ++ sent (App app) e ∷ rest) (App app) (record { message = e; tree = f; announces = announces })
one_said early rest app e f announces none tree rightly =
    let front : before_sent (App app) e.serial (early ++ sent (App app) e ∷ rest) ≡ early = front_here early rest (App app) e none in
    record {
      was = found_here early rest (App app) e none;
      tells = record {
        tree = ap (λ l. live_tree l app) front ∙ tree;
        step = λ step a. rightly.to step (record { before = a.early; stands = sym front ∙ a.stands; asked = a.asked });
        announced = λ step h.
            let i : IsBehind early app step = rightly.from step h in
            record { early = i.before; is_sent = ap is_some (found_here early rest (App app) e none); stands = front ∙ i.stands; asked = i.asked };
      };
    }

not_sent_behind : (early : List Entry) (who : Party) (e : Envelope) (n : ℕ) → e.serial ≡ n → NotSent early who n → NotSent (early ++ sent who e ∷ []) who (n + 1)
not_sent_behind early who e n is none s h =
    none_more early (sent who e ∷ []) who s (none s (omega (arith, h))) ∙ look_is who who e [] s
    ∙ ap (λ b. looked (same_party who who) b e None) (ne_eqb e.serial s (λ same. apart same)) ∙ neither (same_party who who)
  where
    apart : e.serial ≡ s → ⊥
    apart same = omega (arith, h, is, same)

    neither : (a : Bool) → looked a false e None ≡ None
    neither true = refl
    neither false = refl

-- all of them, where nobody's pattern changes
module _ (app : ℕ) (s : Exporter) (rest : List Entry) where
  abbrev Goal : List Entry → List Happening → List Said → Type 0
  Goal early hs l = AllByRecursion (IsSaid (early ++ (map (did app) hs ++ rest)) (App app)) l

  moved_on : (early : List Entry) (x : Entry) (hs : List Happening) (l : List Said) → Goal (early ++ x ∷ []) hs l → AllByRecursion (IsSaid (early ++ (x ∷ (map (did app) hs ++ rest))) (App app)) l
  moved_on early x hs l g = subst (λ es. AllByRecursion (IsSaid es (App app)) l) (append_assoc early (x ∷ []) (map (did app) hs ++ rest)) g

  quiet_tree : (early : List Entry) (f : Forest TreeRow) (x : Entry) → ((g : Forest TreeRow) → tree_after app g x ≡ g) → live_tree early app ≡ f → live_tree (early ++ x ∷ []) app ≡ f
  quiet_tree early f x same tree = tree_more app early (x ∷ []) ∙ same (live_tree early app) ∙ tree

  -- without a step
  still_said : (hs : List Happening) (k n : ℕ) (early : List Entry) (f : Forest TreeRow) → IsStill hs → numbers_among hs ≡ rising k n → NotSent early (App app) n
      → live_tree early app ≡ f → Ready early app None hs → Goal early hs (saids s f None hs)
  still_said [] k n early f st h none tree ready = tt
  still_said (steps step ∷ hs) k n early f st h none tree ready = absurd st
  still_said (sends e ∷ hs) zero n early f st h none tree ready = absurd (omega (arith, ap length h))
  still_said (sends e ∷ hs) (suc k) n early f st h none tree ready =
      let serial : e.serial ≡ n = ap (head_of n) h in (
        one_said early (map (did app) hs ++ rest) app e f None (none e.serial (omega (arith, serial))) tree ready,
        moved_on early (sent (App app) e) hs (saids s f None hs)
            (still_said hs k (n + 1) (early ++ sent (App app) e ∷ []) f st (ap tail_of h) (not_sent_behind early (App app) e n serial none) (quiet_tree early f (sent (App app) e) (λ g. refl) tree)
            (ready_of (early ++ sent (App app) e ∷ []) app None hs (no_step_rightly early app (sent (App app) e) refl))),
      )
  still_said (hears listener pattern ∷ hs) k n early f st h none tree ready =
      moved_on early (heard app listener pattern) hs (saids s f None hs)
      (still_said hs k n (early ++ heard app listener pattern ∷ []) f st h (λ m g. none_more early (heard app listener pattern ∷ []) (App app) m (none m g)) (quiet_tree early f (heard app listener pattern) (λ g. refl) tree)
      (ready_of (early ++ heard app listener pattern ∷ []) app None hs (no_step_rightly early app (heard app listener pattern) refl)))
  still_said (deaf listener pattern ∷ hs) k n early f st h none tree ready =
      moved_on early (unheard app listener pattern) hs (saids s f None hs)
      (still_said hs k n (early ++ unheard app listener pattern ∷ []) f st h (λ m g. none_more early (unheard app listener pattern ∷ []) (App app) m (none m g)) (quiet_tree early f (unheard app listener pattern) (λ g. refl) tree)
      (ready_of (early ++ unheard app listener pattern ∷ []) app None hs (no_step_rightly early app (unheard app listener pattern) refl)))

  -- with steps
  told_said : (hs : List Happening) (k n : ℕ) (early : List Entry) (f : Forest TreeRow) (announces : Option Step) → NoListeners hs → numbers_among hs ≡ rising k n → NotSent early (App app) n
      → live_tree early app ≡ f → heard_pairs early app ≡ s.heard → Ready early app announces hs → Goal early hs (saids s f announces hs)
  told_said [] k n early f a st h none tree pairs ready = tt
  told_said (hears listener pattern ∷ hs) k n early f a st h none tree pairs ready = absurd st
  told_said (deaf listener pattern ∷ hs) k n early f a st h none tree pairs ready = absurd st
  told_said (sends e ∷ hs) zero n early f a st h none tree pairs ready = absurd (omega (arith, ap length h))
  told_said (sends e ∷ hs) (suc k) n early f a st h none tree pairs ready =
      let serial : e.serial ≡ n = ap (head_of n) h in (
        one_said early (map (did app) hs ++ rest) app e f a (none e.serial (omega (arith, serial))) tree ready,
        moved_on early (sent (App app) e) hs (saids s f None hs)
            (told_said hs k (n + 1) (early ++ sent (App app) e ∷ []) f None st (ap tail_of h) (not_sent_behind early (App app) e n serial none) (quiet_tree early f (sent (App app) e) (λ g. refl) tree)
            (heard_more app early (sent (App app) e ∷ []) ∙ pairs)
            (ready_of (early ++ sent (App app) e ∷ []) app None hs (no_step_rightly early app (sent (App app) e) refl))),
      )
  told_said (steps step ∷ hs) k n early f a st h none tree pairs ready =
      let g : Forest TreeRow = after rows f step in
      let announces : Option Step = announced_if s.heard step (announced (name_or_empty s.name) f step) in
      moved_on early (changed app step) hs (saids s g announces hs)
      (told_said hs k n (early ++ changed app step ∷ []) g announces st h (λ m x. none_more early (changed app step ∷ []) (App app) m (none m x))
      (tree_more app early (changed app step ∷ []) ∙ ap (λ b. if b then after rows (live_tree early app) step else live_tree early app) (eq-eqb app app refl) ∙ ap (λ t. after rows t step) tree)
      (heard_more app early (changed app step ∷ []) ∙ pairs)
      (ready_of (early ++ changed app step ∷ []) app announces hs (step_rightly early app step s.heard (name_or_empty s.name) f pairs tree)))

  pub all_said : (hs : List Happening) (k n : ℕ) (early : List Entry) (f : Forest TreeRow) → IsOneKind hs → numbers_among hs ≡ rising k n → NotSent early (App app) n → live_tree early app ≡ f
      → heard_pairs early app ≡ s.heard → Ready early app None hs → Goal early hs (saids s f None hs)
  all_said hs k n early f (inl st) h none tree pairs ready = still_said hs k n early f st h none tree ready
  all_said hs k n early f (inr st) h none tree pairs ready = told_said hs k n early f None st h none tree pairs ready

-- WHAT OTHERS SAY
abbrev pub NoApp : Party → Type 0
NoApp (App a) = ⊥
NoApp who = Unit {0}

tells_none : (es : List Entry) (who : Party) (said : Said) → NoApp who → TellsOf es who said
tells_none es (App a) said h = absurd h
tells_none es The_bus said h = tt
tells_none es Registry said h = tt
tells_none es (Reader r) said h = tt

pub plain_said : (early rest : List Entry) (who : Party) (e : Envelope) → NoApp who → message early who e.serial ≡ None → IsSaid (early ++ sent who e ∷ rest) who (plain e)
plain_said early rest who e other none =
    record { was = found_here early rest who e none; tells = tells_none (early ++ sent who e ∷ rest) who (plain e) other }

pub plains_said : (who : Party) (n : ℕ) (early : List Entry) (es : List Envelope) → NoApp who → NotSent early who n
    → AllByRecursion (IsSaid (early ++ map (sent who) (numbered n es)) who) (map plain (numbered n es))
plains_said who n early [] other none = tt
plains_said who n early (e ∷ es) other none =
    let m : Envelope = record e { serial = n } in (
      plain_said early (map (sent who) (numbered (n + 1) es)) who m other (none n (least n)),
      subst (λ l. AllByRecursion (IsSaid l who) (map plain (numbered (n + 1) es))) (append_assoc early (sent who m ∷ []) (map (sent who) (numbered (n + 1) es)))
          (plains_said who (n + 1) (early ++ sent who m ∷ []) es other (not_sent_behind early who m n refl none)),
    )
  where
    least : (k : ℕ) → k ≤ k
    least k = omega arith
