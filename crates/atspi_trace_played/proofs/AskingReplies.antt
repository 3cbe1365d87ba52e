-- What a reader asked, behind a message that is or is not the reply to its call that waits.
use Rattle.std.proofs.Common.{◌≡◌, ◌⊎◌, inl, inr, ℕ, Bool, true, false, List, [], ◌∷◌, ◌++◌, map, Option, None, Some, refl, sym, ap, ◌∙◌, subst}
use Rattle.std.specs.Prelude.{bytes_eq, filter, not, ◌&&◌, ◌||◌, ◌==◌, if◌then◌else◌}
use Rattle.std.specs.List.{AllByRecursion, fold, list_any}
use Rattle.std.proofs.lemmas.Bool.{and_parts}
use Rattle.std.proofs.lemmas.List.{append-nil}
use Rattle.atspi_base.specs.valid_names.Names.{is_bus_name, is_unique_name}
use Rattle.atspi_tree_model.specs.declared.news.Item.{Item}
use Rattle.atspi_tree_model.specs.declared.news.News.{News}
use Rattle.atspi_tree_model.specs.declared.news.Reference.{Reference}
use Rattle.atspi_tree_model.specs.declared.view.Row.{Row}
use Rattle.atspi_tree_model.specs.Forest.{Forest}
use Rattle.atspi_message.specs.Envelope.{Envelope}
use Rattle.atspi_match.specs.routing.Routing.{is_reply}
use Rattle.atspi_protocol.specs.declared.news.part.PartName.{PartName}
use Rattle.atspi_protocol.specs.declared.following.question.Question.{Question}
use Rattle.atspi_protocol.specs.declared.following.question.Question.TheVariants.{GetChildren}
use Rattle.atspi_protocol.specs.news.Replies.{elements_of}
use Rattle.atspi_protocol.specs.following.ReaderState.{Followed, ReaderState, is_named, start_calls}
use Rattle.atspi_protocol.specs.following.Known.{is_connection, references_among, made_known, unasked}
use Rattle.atspi_protocol.specs.following.Replied.{is_reply_to, changed, loaded, told_part, refused_part, with_items, with_part}
use Rattle.atspi_trace.specs.World.{waits, returned, failed, Asked, Holding, Hearer, World}
use Rattle.atspi_trace.specs.Hearing.{fate_of, answered_by, question_returned, registry_after, names_told, is_answered}
use Rattle.atspi_trace_caches.specs.settled.Laws.{question_of}
use Rattle.atspi_trace_laws.proofs.OfOrder.Parties.{false_true, all_append, all_front}
use Rattle.atspi_trace_played.proofs.Facts.{RepliesWell, NeverFailed, KnowsNothing, IsStarted, IsNamed, AreDistinct, AsksWell}
use Rattle.atspi_trace_played.proofs.AskingWords.{all_weaker, all_filter, all_of_test, test_of_all, any_front, any_back, or_true, bytes_same, KeepsName, changed_all, changed_distinct, filter_distinct, fold_all, fold_distinct}
use Rattle.atspi_trace_played.proofs.AskingStarts.{last_of_start, all_listens, all_registered}

-- a reader as the laws of traces see it, behind a message: its calls then, and the question that was returned
abbrev pub heard : Hearer → Envelope → List Asked → Option Question → List Holding → Hearer
heard h m asked o holds = record h { asked = asked; registry = registry_after h m o; named = h.named ++ names_told h m o; holds = holds }

pub named_still : (h : Hearer) (m : Envelope) (asked : List Asked) (o : Option Question) (holds : List Holding) (apps : List Followed) → AllByRecursion (IsNamed h) apps → AllByRecursion (IsNamed (heard h m asked o holds)) apps
named_still h m asked o holds apps a =
    all_weaker (IsNamed h) (IsNamed (heard h m asked o holds)) (λ f n. record { bus_name = n.bus_name; told = any_front (bytes_eq f.name) h.named (names_told h m o) n.told }) apps a

pub named_same : (h : Hearer) (f g : Followed) → g.name ≡ f.name → IsNamed h f → IsNamed h g
named_same h f g e n = record { bus_name = ap is_bus_name e ∙ n.bus_name; told = ap (λ x. list_any (bytes_eq x) h.named) e ∙ n.told }

-- NO REPLY to a call
abbrev pub NotTo : Envelope → Asked → Type 0
NotTo m a = (is_reply m && is_reply_to a.serial m.reply) ≡ false

pub none_to : (m : Envelope) (asked : List Asked) → AllByRecursion (NotTo m) asked → map (answered_by m) asked ≡ asked
none_to m [] n = refl
none_to m (a ∷ asked) n = ap (λ b. (if b then record a { fate = fate_of m } else a) ∷ map (answered_by m) asked) n.0 ∙ ap (λ l. a ∷ l) (none_to m asked n.1)

not_returned : (k2 k3 r : Bool) → ((k2 || k3) && r) ≡ false → (k2 && r) ≡ false
not_returned true k3 r h = h
not_returned false k3 r h = refl

pub none_returned : (m : Envelope) (early late : List Asked) → AllByRecursion (NotTo m) early → question_returned m (early ++ late) ≡ question_returned m late
none_returned m [] late n = refl
none_returned m (a ∷ early) late n =
    ap (λ b. if b then Some a.question else question_returned m (early ++ late)) (not_returned (m.kind == 2) (m.kind == 3) (is_reply_to a.serial m.reply) n.0) ∙ none_returned m early late n.1

-- an answered call has no other reply
pub not_to : (w : World) (m : Envelope) (asked : List Asked) → AllByRecursion (λ (a : Asked). is_answered a ≡ true) asked → RepliesWell w m asked → AllByRecursion (NotTo m) asked
not_to w m [] d g = tt
not_to w m (a ∷ asked) d g = (by (is_reply m && is_reply_to a.serial m.reply) refl, not_to w m asked d.1 (λ k. (g k).1))
  where
    by : (b : Bool) → (is_reply m && is_reply_to a.serial m.reply) ≡ b → b ≡ false
    by false e = refl
    by true e =
        let both = and_parts (is_reply m) (is_reply_to a.serial m.reply) e in
        absurd (false_true (subst (λ f. is_answered (record { serial = a.serial; question = a.question; fate = f }) ≡ true) ((g both.0).0 both.1).waited d.0))

-- NOTHING of its own was answered
stays : (h : Hearer) (m : Envelope) (holds : List Holding) (s : ReaderState) → AsksWell h s → AsksWell (heard h m h.asked None holds) s
stays h m holds s a = record {
  next = a.next;
  silent = a.silent;
  waiting = a.waiting;
  order = a.order;
  starting = a.starting;
  returned = a.returned;
  started = by a.started;
  registry = a.registry;
  names = named_still h m h.asked None holds s.apps a.names;
  distinct = a.distinct;
}
  where
    by : KnowsNothing s ⊎ IsStarted s h → KnowsNothing s ⊎ IsStarted s (heard h m h.asked None holds)
    by (inl k) = inl k
    by (inr i) = inr (record { come = i.come; listening = i.listening; registered = i.registered })

pub unanswered : (h : Hearer) (m : Envelope) (holds : List Holding) (s : ReaderState) → AllByRecursion (NotTo m) h.asked → AsksWell h s → AsksWell (heard h m (map (answered_by m) h.asked) (question_returned m h.asked) holds) s
unanswered h m holds s n a =
    subst (λ l. AsksWell (heard h m l (question_returned m h.asked) holds) s) (sym (none_to m h.asked n))
    (subst (λ o. AsksWell (heard h m h.asked o holds) s) (sym none) (stays h m holds s a))
  where
    none : question_returned m h.asked ≡ None
    none = ap (question_returned m) (sym (append-nil h.asked)) ∙ none_returned m h.asked [] n

-- THE CALL THAT WAITED was answered
abbrev pub returned_if : Bool → Question → Option Question
returned_if true q = Some q
returned_if false q = None

same_questions : (early : List Asked) (x y : Asked) → x.question ≡ y.question → map question_of (early ++ x ∷ []) ≡ map question_of (early ++ y ∷ [])
same_questions [] x y e = ap (λ q. q ∷ []) e
same_questions (a ∷ early) x y e = ap (λ l. a.question ∷ l) (same_questions early x y e)

spread : (early : List Asked) (x : Asked) (to_come : List Question) → map question_of (early ++ x ∷ []) ++ to_come ≡ map question_of early ++ x.question ∷ to_come
spread [] x to_come = refl
spread (a ∷ early) x to_come = ap (λ l. a.question ∷ l) (spread early x to_come)

told_keeps : (news : News) → KeepsName (told_part news)
told_keeps news f = by f.name f.root f.view f.reload f.last f.refused
  where
    by : (name root : List ℕ) (view : Option (Forest Row)) (reload : Bool) (last : ℕ) (refused : List (List ℕ × PartName))
        → (told_part news (record { name = name; root = root; view = view; reload = reload; last = last; refused = refused })).name ≡ name
    by name root None reload last refused = refl
    by name root (Some v) reload last refused = refl

each_told : (roots : List Reference) → AllByRecursion (λ (root : Reference). list_any (bytes_eq root.bus) (map (λ (x : Reference). x.bus) roots) ≡ true) roots
each_told [] = tt
each_told (r ∷ roots) = (
  ap (λ b. b || list_any (bytes_eq r.bus) (map (λ (x : Reference). x.bus) roots)) (bytes_same r.bus),
  all_weaker (λ (root : Reference). list_any (bytes_eq root.bus) (map (λ (x : Reference). x.bus) roots) ≡ true) (λ (root : Reference). list_any (bytes_eq root.bus) (r.bus ∷ map (λ (x : Reference). x.bus) roots) ≡ true)
      (λ root e. ap (λ b. bytes_eq root.bus r.bus || b) e ∙ or_true (bytes_eq root.bus r.bus)) roots (each_told roots),
)

module _ (w : World) (h : Hearer) (m : Envelope) (holds : List Holding) (to_come : List Question) (serial : ℕ) (question : Question) (registry : Option (List ℕ)) (apps : List Followed) (next : ℕ)
    (a : AsksWell h (record { to_come = to_come; pending = Some (record { serial = serial; question = question }); registry = registry; apps = apps; next = next; out = [] })) where
  abbrev early : List Asked
  early = a.waiting.0

  abbrev x : Asked
  x = record { serial = serial; question = question; fate = waits }

  abbrev y : Asked
  y = record { serial = serial; question = question; fate = fate_of m }

  abbrev now : List Asked
  now = early ++ y ∷ []

  abbrev waiting : ReaderState
  waiting = record { to_come = to_come; pending = Some (record { serial = serial; question = question }); registry = registry; apps = apps; next = next; out = [] }

  abbrev behind : Option (List ℕ) → List Followed → ReaderState
  behind r fs = record { to_come = to_come; pending = None; registry = r; apps = fs; next = next; out = [] }

  same_now : map question_of now ≡ map question_of h.asked
  same_now = same_questions early y x refl ∙ sym (ap (map question_of) a.waiting.1)

  fate_done : is_answered y ≡ true
  fate_done = by (m.kind == 2)
    where
      by : (b : Bool) → is_answered (record { serial = serial; question = question; fate = if b then returned else failed }) ≡ true
      by true = refl
      by false = refl

  all_done : AllByRecursion (λ (z : Asked). is_answered z ≡ true) now
  all_done = all_append (λ (z : Asked). is_answered z ≡ true) early (y ∷ []) (test_of_all is_answered early a.waiting.2) (fate_done, tt)

  module _ (never : NeverFailed question (fate_of m)) where
    all_never : AllByRecursion (λ (z : Asked). NeverFailed z.question z.fate) now
    all_never =
        all_append (λ (z : Asked). NeverFailed z.question z.fate) early (y ∷ [])
        (all_front (λ (z : Asked). NeverFailed z.question z.fate) early (x ∷ []) (subst (AllByRecursion (λ (z : Asked). NeverFailed z.question z.fate)) a.waiting.1 a.returned)) (never, tt)

    core : (o : Option Question) (r : Option (List ℕ)) (fs : List Followed) → r ≡ registry_after h m o → AllByRecursion (IsNamed (heard h m now o holds)) fs → AreDistinct fs
        → KnowsNothing (behind r fs) ⊎ (to_come ≡ []) → AsksWell (heard h m now o holds) (behind r fs)
    core o r fs same names distinct k = record {
      next = a.next;
      silent = refl;
      waiting = all_of_test is_answered now all_done;
      order = (a.order.0, ap (λ l. l ++ to_come) same_now ∙ a.order.1, a.order.2);
      starting = starting a.starting;
      returned = all_never;
      started = started k;
      registry = same;
      names = names;
      distinct = distinct;
    }
      where
        starting : (to_come ≡ []) ⊎ (map question_of h.asked ++ to_come ≡ start_calls) → (to_come ≡ []) ⊎ (map question_of now ++ to_come ≡ start_calls)
        starting (inl e) = inl e
        starting (inr e) = inr (ap (λ l. l ++ to_come) same_now ∙ e)

        started : KnowsNothing (behind r fs) ⊎ (to_come ≡ []) → KnowsNothing (behind r fs) ⊎ IsStarted (behind r fs) (heard h m now o holds)
        started (inl e) = inl e
        started (inr e) =
            let all : map question_of now ≡ start_calls ++ a.order.0 = same_now ∙ sym (append-nil (map question_of h.asked)) ∙ ap (λ l. map question_of h.asked ++ l) (sym e) ∙ a.order.1 in
            inr (record { come = e; listening = all_listens now a.order.0 all all_never all_done; registered = all_registered now a.order.0 all all_never all_done })

    -- one that tells nothing of the registry
    abbrev OfOther : Option Question → Type 0
    OfOther o = registry_after h m o ≡ h.registry

    other : (o : Option Question) (fs : List Followed) → OfOther o → (apps ≡ [] → fs ≡ []) → AllByRecursion (IsNamed h) fs → AreDistinct fs → AsksWell (heard h m now o holds) (behind registry fs)
    other o fs none empty names distinct = core o registry fs (a.registry ∙ sym none) (named_still h m now o holds fs names) distinct (by a.started)
      where
        by : KnowsNothing waiting ⊎ IsStarted waiting h
            → KnowsNothing (behind registry fs) ⊎ (to_come ≡ [])
        by (inl k) = inl (record { registry = k.registry; apps = empty k.apps })
        by (inr i) = inr i.come

    pub plain : (o : Option Question) → OfOther o → AsksWell (heard h m now o holds) (behind registry apps)
    plain o none = other o apps none (λ e. e) a.names a.distinct

    with_change : (o : Option Question) → OfOther o → (change : Followed → Followed) (name : List ℕ) → KeepsName change → AsksWell (heard h m now o holds) (behind registry (changed change name apps))
    with_change o none change name k =
        other o (changed change name apps) none (λ e. ap (changed change name) e) (changed_all (IsNamed h) (named_same h) change name k apps a.names) (changed_distinct change name k apps a.distinct)

    pub items : (o : Option Question) → OfOther o → (name : List ℕ) (is : Option (List Item)) → AsksWell (heard h m now o holds) (with_items (behind registry apps) name is)
    items o none name (Some is) = with_change o none (loaded is) name (λ f. refl)
    items o none name None =
        let keeps : Followed → Bool = λ app. not (is_named name app) in
        other o (filter keeps apps) none (λ e. ap (filter keeps) e) (all_filter (IsNamed h) keeps apps a.names) (filter_distinct keeps apps a.distinct)

    pub part : (o : Option Question) → OfOther o → (name path : List ℕ) (p : PartName) (is : Option News) → AsksWell (heard h m now o holds) (with_part (behind registry apps) name path p is)
    part o none name path p (Some news) = with_change o none (told_part news) name (told_keeps news)
    part o none name path p None = with_change o none (refused_part path p) name (λ f. refl)

    -- the children of the registry
    pub children : to_come ≡ [] → AsksWell (heard h m now (Some GetChildren) holds) (behind m.sender (fold made_known apps (references_among (elements_of m.body))))
    children e = core (Some GetChildren) m.sender (fold made_known apps roots) refl (fold_all (IsNamed g) apps roots new (named_still h m now (Some GetChildren) holds apps a.names)) (fold_distinct apps roots a.distinct) (inr e)
      where
        roots : List Reference
        roots = references_among (elements_of m.body)

        g : Hearer
        g = heard h m now (Some GetChildren) holds

        new : AllByRecursion (λ (root : Reference). is_connection root.bus ≡ true → IsNamed g (unasked root)) roots
        new =
            all_weaker (λ (root : Reference). list_any (bytes_eq root.bus) (map (λ (z : Reference). z.bus) roots) ≡ true) (λ (root : Reference). is_connection root.bus ≡ true → IsNamed g (unasked root))
            (λ root e is. record { bus_name = (and_parts (is_bus_name root.bus) (is_unique_name root.bus) is).0; told = any_back (bytes_eq root.bus) h.named (map (λ (z : Reference). z.bus) roots) e }) roots (each_told roots)

  -- the start is over where its last call is the one that waited
  pub over_at : question ≡ GetChildren → (to_come ≡ []) ⊎ (map question_of h.asked ++ to_come ≡ start_calls) → to_come ≡ []
  over_at is (inl e) = e
  over_at is (inr e) =
      last_of_start (map question_of early) to_come
      (ap (λ q. map question_of early ++ q ∷ to_come) (sym is) ∙ sym (spread early x to_come) ∙ ap (λ l. map question_of l ++ to_come) (sym a.waiting.1) ∙ e)
