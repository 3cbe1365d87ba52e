-- What a reader that misses nothing has of an application is the view of its tree as of the last message taken.
use Rattle.std.proofs.Common.{◌≡◌, ◌⊎◌, inl, inr, ℕ, suc, ◌≤◌, Bool, true, false, List, [], ◌∷◌, ◌++◌, length, map, Option, None, Some, refl, sym, ap, ap₂, ◌∙◌, subst, arith, is_some}
use Rattle.std.specs.Prelude.{◌==◌, ◌&&◌, ◌||◌, if◌then◌else◌, bytes_eq, cond}
use Rattle.std.specs.List.{AllByRecursion, cons_option, fold}
use Rattle.std.proofs.lemmas.Bool.{eq-eqb, eqb-true}
use Rattle.std.proofs.lemmas.List.{append-nil, append_assoc}
use Rattle.std.proofs.lemmas.Slice.Eq.{bytes_eq-Decides}
use Rattle.atspi_tree_model.specs.declared.news.Item.{Item}
use Rattle.atspi_tree_model.specs.declared.news.News.{News}
use Rattle.atspi_tree_model.specs.declared.news.News.TheVariants.{Nothing}
use Rattle.atspi_tree_model.specs.declared.step.Step.{Step}
use Rattle.atspi_tree_model.specs.declared.step.Step.TheVariants.{Add, Remove, Move, SetName, SetDescription, SetRole, SetState, Insert, Delete, Caret as CaretStep, TextSelect, Relate}
use Rattle.atspi_tree_model.specs.declared.view.Row.{Row}
use Rattle.atspi_tree_model.specs.Forest.{Forest}
use Rattle.atspi_tree_model.specs.Path.{path_of}
use Rattle.atspi_tree_model.specs.Row.{TreeRow}
use Rattle.atspi_tree_model.specs.Tree.{added_after, after}
use Rattle.atspi_tree_model.specs.View.{Told, view, nothing_told}
use Rattle.atspi_tree_model.specs.News.{effect, load}
use Rattle.atspi_tree_model.specs.Laws.{UntoldOfNew}
use Rattle.atspi_tree_model.proofs.Path.{path_of_apart}
use Rattle.atspi_speech.specs.Speech.{lines as read_lines, says_after, closing_lines, closing_says}
use Rattle.atspi_speech.proofs.DueLemmas.{says_due, closes_due}
use Rattle.atspi_tree_model.specs.RowRules.{rows}
use Rattle.atspi_script_lines.specs.declared.line.Line.{Line}
use Rattle.atspi_script_lines.specs.declared.line.Party.TheVariants.{Bus as The_bus, Registry, App, Reader}
use Rattle.atspi_message.specs.Envelope.{Envelope}
use Rattle.atspi_protocol.specs.ends.Messages.{numbered}
use Rattle.atspi_protocol.specs.announcing.Signals.{Signal}
use Rattle.atspi_protocol.specs.announcing.Announced.{announced}
use Rattle.atspi_protocol.specs.exporting.Telling.{asked_for}
use Rattle.atspi_protocol.specs.declared.news.part.PartName.{PartName}
use Rattle.atspi_protocol.specs.declared.news.part.PartName.TheVariants.{Text, Caret, Columns}
use Rattle.atspi_protocol.specs.declared.following.question.Question.{Question}
use Rattle.atspi_protocol.specs.declared.following.question.Question.TheVariants.{Hello, AddMatch, RegisterEvent, GetChildren, GetItems, GetPart}
use Rattle.atspi_protocol.specs.news.NewsOf.{news_of}
use Rattle.atspi_protocol.specs.news.Replies.{items_told, part_told}
use Rattle.atspi_protocol.specs.following.ReaderState.{Followed}
use Rattle.atspi_protocol.specs.following.Wishes.{same_part, is_refused}
use Rattle.atspi_protocol.specs.following.Replied.{told_part}
use Rattle.atspi_protocol.specs.following.Takes.{noted, folded}
use Rattle.atspi_trace.specs.Entry.{Entry, changed, sent, got, gone}
use Rattle.atspi_trace.specs.Ends.{same_party}
use Rattle.atspi_trace.specs.Causes.{told_in}
use Rattle.atspi_trace.specs.Due.{begins, after_all, Goes}
use Rattle.atspi_trace_laws.specs.laws.Words.{tree_after, live_tree, added, messages, message, with_serial, before_sent, as_of, heard_pairs, answers_question, Kept, kept_with, kept_after, held_on, held}
use Rattle.atspi_trace_laws.specs.laws.NineLaws.{Everywhere, WasSent, LawOfLinks, StepIsOne}
use Rattle.atspi_trace_laws.specs.order.Scripts.{CanAllStand}
use Rattle.atspi_trace_laws.specs.heard.Laws.{signals_under, IsAmong}
use Rattle.atspi_trace_laws.specs.views.Laws.{IsCarried, StepIsCarried, StepsOnTree}
use Rattle.atspi_trace_caches.specs.caches.Caches.{unasked, with_items, with_part, replied, reads, reads_if, follows_after, follows_on, followed}
use Rattle.atspi_trace_laws.specs.answered.Laws.{TellsItems, TellsPart}
use Rattle.atspi_trace_caches.specs.caches.Laws.{IsServed, CacheIs, IsRead, ReadsAt, ReadsDue}
use Rattle.atspi_trace_laws.proofs.OfOrder.Parties.{no_none, same_some, party-same, false_true, all_append, all_back, all_front}
use Rattle.atspi_trace_laws.proofs.OfSteps.Trees.{tree_more, count_more}
use Rattle.atspi_trace_laws.proofs.OfSteps.LawSteps.{steps_apply}
use Rattle.atspi_trace_laws.proofs.OfSerials.Serial.{messages_more}
use Rattle.atspi_trace_laws.proofs.OfTaken.Found.{found_more, front_more, sent_split}
use Rattle.atspi_trace_laws.proofs.OfDelivered.LawLinks.{links_hold}
use Rattle.atspi_trace_laws.proofs.OfHeld.Keeping.{held_more}
use Rattle.atspi_trace_laws.proofs.OfViews.LawViews.{announcements_carry, trees_stand}
use Rattle.atspi_trace_laws.specs.signed.Laws.{IsItsName}
use Rattle.atspi_trace_laws.proofs.OfSigned.LawSigned.{signed_law}
use Rattle.atspi_trace_laws.proofs.OfAnswered.LawAnswered.{items_law, parts_law}
use Rattle.atspi_trace_laws.specs.missed.Laws.{IsLoad}
use Rattle.atspi_trace_caches.specs.ways.Laws.{MissesNothing}
use Rattle.atspi_trace_laws.proofs.OfMissed.LawMissed.{no_signal_missed}
use Rattle.atspi_trace_caches.proofs.OfCaches.Served.{Tells, IsWholly, wholly}
use Rattle.atspi_trace_laws.proofs.OfSigned.Starts.{StartsAnew, starts_anew}
use Rattle.atspi_trace_laws.proofs.OfSigned.Between.{IsStep, OfMessage, behind_first, echo_messages, signal_messages, announced_step, IsAnnounced, SameViews, AllSilent, Walked, walk, echo_lines, none_due, silent_step, OneStep}

-- A MESSAGE IN ITS PLACE
-- a message has its serial
serial_in : (s : ℕ) (xs : List Envelope) (m : Envelope) → with_serial s xs ≡ Some m → m.serial ≡ s
serial_in s [] m h = absurd (no_none m h)
serial_in s (x ∷ xs) m h = by (x.serial == s) refl h (λ e. serial_in s xs m e)
  where
    by : (b : Bool) → (x.serial == s) ≡ b → (if b then Some x else with_serial s xs) ≡ Some m → (with_serial s xs ≡ Some m → m.serial ≡ s) → m.serial ≡ s
    by true g e ih = ap (λ (y : Envelope). y.serial) (sym (same_some x m e)) ∙ eqb-true x.serial s g
    by false g e ih = ih e

-- LISTS FROM THEIR ENDS
no_end : {X : Type 0} (xs : List X) (x : X) → [] ≡ xs ++ x ∷ [] → ⊥
no_end [] x h = absurd (omega (arith, ap length h))
no_end (y ∷ ys) x h = absurd (omega (arith, ap length h))

abbrev last_or : {X : Type 0} → X → List X → X
last_or d [] = d
last_or d (x ∷ xs) = last_or x xs

last_end : {X : Type 0} (d : X) (xs : List X) (x : X) → last_or d (xs ++ x ∷ []) ≡ x
last_end d [] x = refl
last_end d (y ∷ ys) x = last_end y ys x

abbrev but_last : {X : Type 0} → List X → List X
but_last [] = []
but_last (x ∷ []) = []
but_last (x ∷ (y ∷ ys)) = x ∷ but_last (y ∷ ys)

but_end : {X : Type 0} (xs : List X) (x : X) → but_last (xs ++ x ∷ []) ≡ xs
but_end [] x = refl
but_end (y ∷ []) x = refl
but_end (y ∷ (z ∷ zs)) x = ap (λ l. y ∷ l) (but_end (z ∷ zs) x)

pub record Ended {X : Type 0} (xs : List X) : Type 0 where
  pub front : List X
  pub last : X
  pub is : xs ≡ front ++ last ∷ []

-- a list is empty, or has a last one
from_end : {X : Type 0} (xs : List X) → (xs ≡ []) ⊎ Ended xs
from_end [] = inl refl
from_end (x ∷ xs) = by (from_end xs)
  where
    by : ((xs ≡ []) ⊎ Ended xs) → (x ∷ xs ≡ []) ⊎ Ended (x ∷ xs)
    by (inl h) = inr (record { front = []; last = x; is = ap (λ l. x ∷ l) h })
    by (inr e) = inr (record { front = x ∷ e.front; last = e.last; is = ap (λ l. x ∷ l) e.is })

-- WHAT WAS TOLD OF A NEW NODE
abbrev pub IsLow : ℕ → List ℕ × PartName → Type 0
IsLow n p = (m : ℕ) × (p.0 ≡ path_of m) × (m ≤ n)

unrefused : (parts : List (List ℕ × PartName)) (n k : ℕ) (part : PartName) → AllByRecursion (IsLow n) parts → k ≡ suc n → is_refused parts (path_of k) part ≡ false
unrefused [] n k part a h = refl
unrefused (p ∷ parts) n k part a h = ap₂ (λ b c. (b && same_part p.1 part) || c) differs (unrefused parts n k part a.1 h)
  where
    no : p.0 ≡ path_of k → ⊥
    no e = let same : a.0.0 ≡ k = path_of_apart a.0.0 k (sym a.0.1 ∙ e) in below a.0.0 n k a.0.2 same h
      where
        below : (m n k : ℕ) → m ≤ n → m ≡ k → k ≡ suc n → ⊥
        below m n k x y z = absurd (omega (arith, x, y, z))

    differs : bytes_eq p.0 (path_of k) ≡ false
    differs = by (bytes_eq p.0 (path_of k)) refl
      where
        by : (b : Bool) → bytes_eq p.0 (path_of k) ≡ b → b ≡ false
        by true g = absurd (no ((bytes_eq-Decides p.0 (path_of k)).0 g))
        by false g = refl

untold_new : (parts : List (List ℕ × PartName)) (early : List Entry) (app : ℕ) (step : Step) (behind : List Entry) → AllByRecursion (IsLow (added early app)) parts → StepIsOne early (changed app step) behind
    → UntoldOfNew (told_in parts) step
untold_new parts early app (Add n p i seed) behind a one =
    (unrefused parts (added early app) n Text a one.1.next, unrefused parts (added early app) n Caret a one.1.next, unrefused parts (added early app) n Columns a one.1.next)
untold_new parts early app (Remove n) behind a one = tt
untold_new parts early app (Move n p i) behind a one = tt
untold_new parts early app (SetName n x) behind a one = tt
untold_new parts early app (SetDescription n x) behind a one = tt
untold_new parts early app (SetRole n role) behind a one = tt
untold_new parts early app (SetState n state on) behind a one = tt
untold_new parts early app (Insert n at x) behind a one = tt
untold_new parts early app (Delete n at x) behind a one = tt
untold_new parts early app (CaretStep n at) behind a one = tt
untold_new parts early app (TextSelect n marks) behind a one = tt
untold_new parts early app (Relate n kind targets) behind a one = tt

-- messages change no tree
sends_same : (app : ℕ) (P : Envelope → Type 0) (f : Forest TreeRow) (es : List Entry) → AllByRecursion (OfMessage P app) es → fold (tree_after app) f es ≡ f
sends_same app P f [] a = refl
sends_same app P f (sent (App n) e ∷ es) a = sends_same app P f es a.1
sends_same app P f (x ∷ es) a = absurd a.0

abbrev step_or : Step → Entry → Step
step_or d (changed a step) = step
step_or d entry = d

-- THE NEWS OF THE NEXT MESSAGE
news_none : (name : List ℕ) (e : Envelope) → (e.kind == 4) ≡ false → news_of name e ≡ Nothing
news_none name e h = rw h refl

module _ (T : List Entry) (name : List ℕ) (reader app : ℕ) (served : IsWholly T name reader app) (carried : Everywhere StepIsCarried T) (one : Everywhere StepIsOne T) (starts : Everywhere StartsAnew T) where
  -- the last message taken, and the next one
  module _ (before behind : List Entry) (at : T ≡ before ++ behind) (last serial : ℕ) (e : Envelope) (is_sent : message before (App app) serial ≡ Some e) (m : MissesNothing name before app last serial) where
    abbrev pub earlier : List Entry
    earlier = before_sent (App app) last before

    abbrev pub early : List Entry
    early = earlier ++ sent (App app) m.first ∷ []

    abbrev pub now : List Entry
    now = before_sent (App app) serial before

    abbrev pub post : List Entry
    post = (sent_split before (App app) serial e is_sent).0 ++ behind

    stands : T ≡ now ++ sent (App app) e ∷ post
    stands = at ∙ ap (λ l. l ++ behind) (sent_split before (App app) serial e is_sent).1 ∙ append_assoc now (sent (App app) e ∷ (sent_split before (App app) serial e is_sent).0) behind

    is_now : now ≡ early ++ m.between
    is_now = m.stands

    same_start : SameViews earlier early app
    same_start = record { views = λ parts. ap (view parts) (tree_more app earlier (sent (App app) m.first ∷ [])); count = count_more app earlier (sent (App app) m.first ∷ []) }

    walked : Walked name early m.between app e
    walked =
        walk T name app served.signed carried starts e post early m.between
        (stands ∙ ap (λ l. l ++ sent (App app) e ∷ post) is_now ∙ append_assoc early m.between (sent (App app) e ∷ post)) m.no_signal
        (λ h. has_sent (messages earlier (App app)) (sym (messages_more earlier (sent (App app) m.first ∷ []) (App app)) ∙ h)) m.asked
      where
        has_sent : (xs : List Envelope) → xs ++ messages (sent (App app) m.first ∷ []) (App app) ≡ [] → ⊥
        has_sent xs h = mine (same_party (App app) (App app)) (party-same (App app)) h
          where
            mine : (b : Bool) → b ≡ true → xs ++ cons_option (if b then Some m.first else None) [] ≡ [] → ⊥
            mine true g k = no_end xs m.first (sym k)
            mine false g k = absurd (false_true g)

    -- where the last entry is a step, and all that stand between are silent, it is announced by nothing
    ended_with : AllSilent name early m.between app → (xs : List Entry) (step : Step) → now ≡ xs ++ changed app step ∷ [] → announced name (live_tree xs app) step ≡ []
    ended_with silent xs step is = by (from_end m.between)
      where
        ends : early ++ m.between ≡ xs ++ changed app step ∷ []
        ends = sym is_now ∙ is

        by : ((m.between ≡ []) ⊎ Ended m.between) → announced name (live_tree xs app) step ≡ []
        by (inl h) =
            let same : sent (App app) m.first ≡ changed app step =
            sym (last_end (sent (App app) m.first) earlier (sent (App app) m.first)) ∙ ap (last_or (sent (App app) m.first)) (sym (append-nil early) ∙ ap (λ l. early ++ l) (sym h) ∙ ends)
            ∙ last_end (sent (App app) m.first) xs (changed app step) in
            absurd (subst IsStep (sym same) tt)
        by (inr z) =
            let joined : (early ++ z.front) ++ z.last ∷ [] ≡ xs ++ changed app step ∷ [] = append_assoc early z.front (z.last ∷ []) ∙ ap (λ l. early ++ l) (sym z.is) ∙ ends in
            let last_is : z.last ≡ changed app step = sym (last_end z.last (early ++ z.front) z.last) ∙ ap (last_or z.last) joined ∙ last_end z.last xs (changed app step) in
            let front_is : early ++ z.front ≡ xs = sym (but_end (early ++ z.front) z.last) ∙ ap but_last joined ∙ but_end xs (changed app step) in
            ap (λ l. announced name (live_tree l app) step) (sym front_is) ∙ silent.silent z.front [] step (z.is ∙ ap (λ l. z.front ++ l ∷ []) last_is)

    -- a signal of which no step stands between is an echo: it changes nothing, and nothing is read from it
    abbrev IsEcho : (List ℕ → Told) → Type 0
    IsEcho parts = (effect (path_of 0) name (view parts (live_tree now app)) (news_of name e) ≡ view parts (live_tree now app)) × ((v : Forest Row) → read_lines (path_of 0) name v (news_of name e) ≡ [])

    echoes_only : (parts : List ℕ → Told) → AllSilent name early m.between app → e.kind ≡ 4 → IsEcho parts
    echoes_only parts silent four = by a.front refl
      where
        x : (among : IsAmong now app e) × (among.name ≡ name)
        x = served.signed now (sent (App app) e) post stands refl four

        a : IsAmong now app e
        a = x.0

        listed : signals_under name a.early app a.step ≡ a.front ++ sent (App app) e ∷ a.back
        listed = ap (λ n. signals_under n a.early app a.step) (sym x.1) ∙ a.listed

        c : IsCarried a.early app a.step
        c = carried a.early (changed app a.step) (a.front ++ sent (App app) e ∷ post) (stands ∙ ap (λ l. l ++ sent (App app) e ∷ post) a.stands ∙ append_assoc a.early (changed app a.step ∷ a.front) (sent (App app) e ∷ post))

        all_four : AllByRecursion (OfMessage (λ y. y.kind ≡ 4) app) (a.front ++ sent (App app) e ∷ a.back)
        all_four = subst (AllByRecursion (OfMessage (λ y. y.kind ≡ 4) app)) listed (signal_messages a.early app name a.step)

        nothing_listed : announced name (live_tree a.early app) a.step ≡ [] → signals_under name a.early app a.step ≡ a.front ++ sent (App app) e ∷ a.back → ⊥
        nothing_listed h l = by_list (announced name (live_tree a.early app) a.step) h l
          where
            empty : {X : Type 0} (xs : List X) (x : X) (ys : List X) → [] ≡ xs ++ x ∷ ys → ⊥
            empty [] x ys g = absurd (omega (arith, ap length g))
            empty (y ∷ zs) x ys g = absurd (omega (arith, ap length g))

            by_list : (xs : List Signal) → xs ≡ [] → map (sent (App app)) (numbered (suc (length (messages a.early (App app)))) (map (λ (s : Signal). s.message) (asked_for (heard_pairs a.early app) xs))) ≡ a.front ++ sent (App app) e ∷ a.back → ⊥
            by_list [] g k = empty a.front (sent (App app) e) a.back k
            by_list (y ∷ ys) g k = absurd (omega (arith, ap length g))

        -- the step itself would stand last
        no_front : a.front ≡ [] → ⊥
        no_front none = nothing_listed (ended_with silent a.early a.step (a.stands ∙ ap (λ l. a.early ++ changed app a.step ∷ l) none)) listed

        -- behind other signals of the step, which are the last messages before it
        behind_others : (f : Entry) (fs : List Entry) → a.front ≡ f ∷ fs → IsEcho parts
        behind_others f fs is = (subst (λ v. effect (path_of 0) name v (news_of name e) ≡ v) (sym tree_same) echo, silence)
          where
            echo_entry : OfMessage (λ y. effect (path_of 0) name (view parts (live_tree (a.early ++ changed app a.step ∷ []) app)) (news_of name y) ≡ view parts (live_tree (a.early ++ changed app a.step ∷ []) app)) app (sent (App app) e)
            echo_entry =
                (all_back _ fs (sent (App app) e ∷ a.back)
                (subst (AllByRecursion _) (ap behind_first (listed ∙ ap (λ l. l ++ sent (App app) e ∷ a.back) is)) (echo_messages a.early app name parts a.step c))).0

            echo : effect (path_of 0) name (view parts (live_tree (a.early ++ changed app a.step ∷ []) app)) (news_of name e) ≡ view parts (live_tree (a.early ++ changed app a.step ∷ []) app)
            echo = echo_entry.1

            silent_entry : (v : Forest Row) → OfMessage (λ y. read_lines (path_of 0) name v (news_of name y) ≡ []) app (sent (App app) e)
            silent_entry v =
                (all_back _ fs (sent (App app) e ∷ a.back)
                (subst (AllByRecursion _) (ap behind_first (listed ∙ ap (λ l. l ++ sent (App app) e ∷ a.back) is)) (echo_lines a.early app name v a.step c))).0

            silence : (v : Forest Row) → read_lines (path_of 0) name v (news_of name e) ≡ []
            silence v = (silent_entry v).1

            tree_same : view parts (live_tree now app) ≡ view parts (live_tree (a.early ++ changed app a.step ∷ []) app)
            tree_same =
                ap (λ l. view parts (live_tree l app)) (a.stands ∙ sym (append_assoc a.early (changed app a.step ∷ []) a.front))
                ∙ ap (view parts) (tree_more app (a.early ++ changed app a.step ∷ []) a.front ∙ sends_same app (λ y. y.kind ≡ 4) (live_tree (a.early ++ changed app a.step ∷ []) app) a.front (all_front _ a.front (sent (App app) e ∷ a.back) all_four))

        by : (l : List Entry) → a.front ≡ l → IsEcho parts
        by [] h = absurd (no_front h)
        by (f ∷ fs) h = behind_others f fs h

    -- the view behind the message
    pub next_view : (parts : List (List ℕ × PartName)) → AllByRecursion (IsLow (added earlier app)) parts
        → effect (path_of 0) name (view (told_in parts) (live_tree earlier app)) (news_of name e) ≡ view (told_in parts) (live_tree now app)
    next_view parts low = by walked
      where
        t : List ℕ → Told
        t = told_in parts

        silently : AllSilent name early m.between app → view t (live_tree now app) ≡ view t (live_tree earlier app)
        silently s = ap (λ l. view t (live_tree l app)) is_now ∙ s.same.views t ∙ same_start.views t

        by_kind : AllSilent name early m.between app → (b : Bool) → (e.kind == 4) ≡ b → effect (path_of 0) name (view t (live_tree earlier app)) (news_of name e) ≡ view t (live_tree now app)
        by_kind s true g = subst (λ v. effect (path_of 0) name v (news_of name e) ≡ view t (live_tree now app)) (silently s) (echoes_only t s (eqb-true e.kind 4 g)).0
        by_kind s false g = ap (effect (path_of 0) name (view t (live_tree earlier app))) (news_none name e g) ∙ sym (silently s)

        by : Walked name early m.between app e → effect (path_of 0) name (view t (live_tree earlier app)) (news_of name e) ≡ view t (live_tree now app)
        by (inl s) = by_kind s (e.kind == 4) refl
        by (inr o) =
            ap (λ v. effect (path_of 0) name v (news_of name e)) (sym (o.same.views t ∙ same_start.views t))
            ∙ ap (effect (path_of 0) name (view t (live_tree (early ++ o.front) app))) (ap (news_of name) o.message ∙ is.first)
            ∙ c.announcement name t (untold_new parts (early ++ o.front) app o.step (sent (App app) e ∷ post) (subst (λ n. AllByRecursion (IsLow n) parts) (sym (o.same.count ∙ same_start.count)) low)
            (one (early ++ o.front) (changed app o.step) (sent (App app) e ∷ post) place))
            ∙ ap (λ l. view t (live_tree l app)) (sym here)
          where
            here : now ≡ (early ++ o.front) ++ changed app o.step ∷ []
            here = is_now ∙ ap (λ l. early ++ l) o.stands ∙ sym (append_assoc early o.front (changed app o.step ∷ []))

            place : T ≡ (early ++ o.front) ++ changed app o.step ∷ (sent (App app) e ∷ post)
            place = stands ∙ ap (λ l. l ++ sent (App app) e ∷ post) here ∙ append_assoc (early ++ o.front) (changed app o.step ∷ []) (sent (App app) e ∷ post)

            c : IsCarried (early ++ o.front) app o.step
            c = carried (early ++ o.front) (changed app o.step) (sent (App app) e ∷ post) place

            is : IsAnnounced name (live_tree (early ++ o.front) app) o.step o.first o.more
            is = announced_step (early ++ o.front) app name o.step o.first o.more c o.told

    -- as many nodes as before, or more
    pub more_added : added earlier app ≤ added now app
    more_added = by walked
      where
        same_count : (n k : ℕ) → k ≡ n → n ≤ k
        same_count n k h = omega (arith, h)

        grows : (n : ℕ) (step : Step) → n ≤ added_after n step
        grows n (Add k p i seed) = omega arith
        grows n (Remove k) = same_count n n refl
        grows n (Move k p i) = same_count n n refl
        grows n (SetName k x) = same_count n n refl
        grows n (SetDescription k x) = same_count n n refl
        grows n (SetRole k role) = same_count n n refl
        grows n (SetState k state on) = same_count n n refl
        grows n (Insert k i x) = same_count n n refl
        grows n (Delete k i x) = same_count n n refl
        grows n (CaretStep k i) = same_count n n refl
        grows n (TextSelect k marks) = same_count n n refl
        grows n (Relate k kind targets) = same_count n n refl

        by : Walked name early m.between app e → added earlier app ≤ added now app
        by (inl s) = same_count (added earlier app) (added now app) (ap (λ l. added l app) is_now ∙ s.same.count ∙ same_start.count)
        by (inr o) =
            subst (λ k. added earlier app ≤ k)
            (sym (ap (λ l. added l app) (is_now ∙ ap (λ l. early ++ l) o.stands ∙ sym (append_assoc early o.front (changed app o.step ∷ []))) ∙ count_more app (early ++ o.front) (changed app o.step ∷ [])
            ∙ ap (λ b. cond b (added_after (added (early ++ o.front) app) o.step) (added (early ++ o.front) app)) (eq-eqb app app refl)))
            (subst (λ k. k ≤ added_after (added (early ++ o.front) app) o.step) (o.same.count ∙ same_start.count) (grows (added (early ++ o.front) app) o.step))

    -- WHAT THE READER READS from the view before it
    silent_lines : AllSilent name early m.between app → (v : Forest Row) → read_lines (path_of 0) name v (news_of name e) ≡ []
    silent_lines s v = by (e.kind == 4) refl
      where
        by : (b : Bool) → (e.kind == 4) ≡ b → read_lines (path_of 0) name v (news_of name e) ≡ []
        by true g = (echoes_only nothing_told s (eqb-true e.kind 4 g)).1 v
        by false g = ap (read_lines (path_of 0) name v) (news_none name e g)

    next_lines : Everywhere StepsOnTree T → (parts : List (List ℕ × PartName)) → AllByRecursion (IsLow (added earlier app)) parts → IsRead name before app serial (view (told_in parts) (live_tree earlier app)) e
    next_lines trees parts low = record { behind_step = λ xs step is. behind_step xs step is walked; elsewhere = λ none. elsewhere none walked }
      where
        t : List ℕ → Told
        t = told_in parts

        here : (o : OneStep name early m.between app e) → now ≡ (early ++ o.front) ++ changed app o.step ∷ []
        here o = is_now ∙ ap (λ l. early ++ l) o.stands ∙ sym (append_assoc early o.front (changed app o.step ∷ []))

        elsewhere : ((xs : List Entry) (step : Step) → now ≡ xs ++ changed app step ∷ [] → ⊥) → Walked name early m.between app e → read_lines (path_of 0) name (view t (live_tree earlier app)) (news_of name e) ≡ []
        elsewhere none (inl s) = silent_lines s (view t (live_tree earlier app))
        elsewhere none (inr o) = absurd (none (early ++ o.front) o.step (here o))

        step_at : (xs : List Entry) (step : Step) → now ≡ xs ++ changed app step ∷ [] → T ≡ xs ++ changed app step ∷ (sent (App app) e ∷ post)
        step_at xs step is = stands ∙ ap (λ l. l ++ sent (App app) e ∷ post) is ∙ append_assoc xs (changed app step ∷ []) (sent (App app) e ∷ post)

        behind_step : (xs : List Entry) (step : Step) → now ≡ xs ++ changed app step ∷ [] → Walked name early m.between app e
            → read_lines (path_of 0) name (view t (live_tree earlier app)) (news_of name e) ≡ says_after (live_tree now app) step
        behind_step xs step is (inl s) =
            let c : IsCarried xs app step = carried xs (changed app step) (sent (App app) e ∷ post) (step_at xs step is) in
            silent_lines s (view t (live_tree earlier app)) ∙ sym (none_due name (live_tree xs app) (live_tree now app) step (silent_step xs app name step c (ended_with s xs step is)))
        behind_step xs step is (inr o) =
            ap (λ w. read_lines (path_of 0) name w (news_of name e)) (sym (o.same.views t ∙ same_start.views t))
            ∙ ap (read_lines (path_of 0) name (view t f)) (ap (news_of name) o.message ∙ announces.first)
            ∙ says_due name t f (added (early ++ o.front) app) o.step (trees (early ++ o.front) (changed app o.step) (sent (App app) e ∷ post) place) (one (early ++ o.front) (changed app o.step) (sent (App app) e ∷ post) place).1 untold
            ∙ ap (λ g. says_after g o.step) (sym now_tree)
            ∙ ap (says_after (live_tree now app)) same_step
          where
            f : Forest TreeRow
            f = live_tree (early ++ o.front) app

            place : T ≡ (early ++ o.front) ++ changed app o.step ∷ (sent (App app) e ∷ post)
            place = step_at (early ++ o.front) o.step (here o)

            announces : IsAnnounced name f o.step o.first o.more
            announces = announced_step (early ++ o.front) app name o.step o.first o.more (carried (early ++ o.front) (changed app o.step) (sent (App app) e ∷ post) place) o.told

            untold : UntoldOfNew t o.step
            untold =
                untold_new parts (early ++ o.front) app o.step (sent (App app) e ∷ post) (subst (λ n. AllByRecursion (IsLow n) parts) (sym (o.same.count ∙ same_start.count)) low)
                (one (early ++ o.front) (changed app o.step) (sent (App app) e ∷ post) place)

            now_tree : live_tree now app ≡ after rows f o.step
            now_tree = ap (λ l. live_tree l app) (here o) ∙ tree_more app (early ++ o.front) (changed app o.step ∷ []) ∙ ap (λ b. cond b (after rows f o.step) f) (eq-eqb app app refl)

            same_step : o.step ≡ step
            same_step =
                ap (step_or step)
                (sym (last_end (changed app step) (early ++ o.front) (changed app o.step)) ∙ ap (last_or (changed app step)) (sym (here o) ∙ is) ∙ last_end (changed app step) xs (changed app step))

  -- WHAT THE READER HAS, along the trace
  pub record IsHad (es : List Entry) (k : Kept) (f : Followed) : Type 0 where
    pub shows : f.view ≡ Some (view (told_in k.told) (as_of es app k.last))
    pub last : f.last ≡ k.last
    pub first : Envelope
    pub was : message es (App app) k.last ≡ Some first
    pub low : AllByRecursion (IsLow (added (before_sent (App app) k.last es) app)) k.told

  abbrev pub Has : List Entry → Option Kept → Followed → Type 0
  Has es None f = f.view ≡ None
  Has es (Some k) f = IsHad es k f

  pub record Inv (es : List Entry) (k : Option Kept) (f : Followed) : Type 0 where
    pub is_held : held es reader app ≡ k
    pub named : f.name ≡ name
    pub root : f.root ≡ path_of 0
    pub has : Has es k f

  -- what folding does to a view
  folded_some : (n : News) (f : Followed) (v : Forest Row) → f.view ≡ Some v → (folded n f).view ≡ Some (effect f.root f.name v n)
  folded_some n f v h = rw h refl

  folded_none : (n : News) (f : Followed) → f.view ≡ None → (folded n f).view ≡ None
  folded_none n f h = rw h refl

  folded_rest : (n : News) (f : Followed) → ((folded n f).name ≡ f.name) × ((folded n f).root ≡ f.root) × ((folded n f).last ≡ f.last)
  folded_rest n f = by f.view refl
    where
      by : (o : Option (Forest Row)) → f.view ≡ o → ((folded n f).name ≡ f.name) × ((folded n f).root ≡ f.root) × ((folded n f).last ≡ f.last)
      by None h = rw h (refl, refl, refl)
      by (Some v) h = rw h (refl, refl, refl)

  told_some : (n : News) (f : Followed) (v : Forest Row) → f.view ≡ Some v → (told_part n f).view ≡ Some (effect f.root f.name v n)
  told_some n f v h = rw h refl

  told_none : (n : News) (f : Followed) → f.view ≡ None → (told_part n f).view ≡ None
  told_none n f h = rw h refl

  told_rest : (n : News) (f : Followed) → ((told_part n f).name ≡ f.name) × ((told_part n f).root ≡ f.root) × ((told_part n f).last ≡ f.last)
  told_rest n f = by f.view refl
    where
      by : (o : Option (Forest Row)) → f.view ≡ o → ((told_part n f).name ≡ f.name) × ((told_part n f).root ≡ f.root) × ((told_part n f).last ≡ f.last)
      by None h = rw h (refl, refl, refl)
      by (Some v) h = rw h (refl, refl, refl)

  -- what a return brings, by the rest of what is known
  replied_rest : (q : Option Question) (e : Envelope) (f : Followed) → ((replied q e f).name ≡ f.name) × ((replied q e f).root ≡ f.root) × ((replied q e f).last ≡ f.last)
  replied_rest (Some (GetItems n)) e f = by (items_told e)
    where
      by : (o : Option (List Item)) → ((with_items o f).name ≡ f.name) × ((with_items o f).root ≡ f.root) × ((with_items o f).last ≡ f.last)
      by None = (refl, refl, refl)
      by (Some items) = (refl, refl, refl)
  replied_rest (Some (GetPart n path part)) e f = by (part_told part path e)
    where
      by : (o : Option News) → ((with_part path part o f).name ≡ f.name) × ((with_part path part o f).root ≡ f.root) × ((with_part path part o f).last ≡ f.last)
      by None = (refl, refl, refl)
      by (Some news) = told_rest news f
  replied_rest (Some Hello) e f = (refl, refl, refl)
  replied_rest (Some (AddMatch rule)) e f = (refl, refl, refl)
  replied_rest (Some (RegisterEvent pattern)) e f = (refl, refl, refl)
  replied_rest (Some GetChildren) e f = (refl, refl, refl)
  replied_rest None e f = (refl, refl, refl)

  reads_rest : (q : Option Question) (e : Envelope) (f : Followed) → ((reads q e f).name ≡ f.name) × ((reads q e f).root ≡ f.root) × ((reads q e f).last ≡ e.serial)
  reads_rest q e f =
      let a = folded_rest (news_of f.name e) (replied q e (noted e.serial f)) in
      let b = replied_rest q e (noted e.serial f) in (a.0 ∙ b.0, a.1 ∙ b.1, a.2 ∙ b.2)

  -- a return is no signal
  kind_two : {X : Type 0} (b : Bool) (n : ℕ) → (n == 2) ≡ b → (o : Option X) (x : X) → (if b then o else None) ≡ Some x → (n == 4) ≡ false
  kind_two true n g o x h = ap (λ k. k == 4) (eqb-true n 2 g)
  kind_two false n g o x h = absurd (no_none x h)

  items_kind : (e : Envelope) (items : List Item) → items_told e ≡ Some items → (e.kind == 4) ≡ false
  items_kind e items h = kind_two (e.kind == 2) e.kind refl _ items h

  part_kind : (part : PartName) (path : List ℕ) (e : Envelope) (news : News) → part_told part path e ≡ Some news → (e.kind == 4) ≡ false
  part_kind part path e news h = kind_two (e.kind == 2) e.kind refl _ news h

  -- an empty part list tells nothing
  pub low_more : (n m : ℕ) (parts : List (List ℕ × PartName)) → n ≤ m → AllByRecursion (IsLow n) parts → AllByRecursion (IsLow m) parts
  low_more n m [] h a = tt
  low_more n m (p ∷ parts) h a = ((a.0.0, a.0.1, up a.0.0 n m a.0.2 h), low_more n m parts h a.1)
    where
      up : (k n m : ℕ) → k ≤ n → n ≤ m → k ≤ m
      up k n m x y = omega (arith, x, y)

  -- A MESSAGE OF THE APPLICATION
  module _ (es behind : List Entry) (serial : ℕ) (at : T ≡ es ++ got (Reader reader) (App app) serial ∷ behind) (e : Envelope) (was : message es (App app) serial ≡ Some e) where
    abbrev pub entry : Entry
    entry = got (Reader reader) (App app) serial

    abbrev pub q : Option Question
    q = answers_question es reader (message es (App app) serial)

    abbrev pub tree : Forest TreeRow
    tree = as_of es app serial

    abbrev pub count : ℕ
    count = added (before_sent (App app) serial es) app

    number : e.serial ≡ serial
    number = serial_in serial (messages es (App app)) e was

    tells : Tells name tree count q e
    tells =
        subst (λ o. Tells name tree count (answers_question es reader o) e) (sym was)
        (served.answered es entry behind at refl refl e was)

    -- the state behind it
    new : (k : Kept) (f : Followed) → k.last ≡ serial → f.view ≡ Some (view (told_in k.told) tree) → f.last ≡ e.serial → AllByRecursion (IsLow count) k.told → Has (es ++ entry ∷ []) (Some k) f
    new k f is shows last low =
        let later : before_sent (App app) serial (es ++ entry ∷ []) ≡ before_sent (App app) serial es = front_more es (entry ∷ []) (App app) serial e was in
        record {
          shows = shows ∙ ap (λ l. Some (view (told_in k.told) (live_tree l app))) (sym later) ∙ ap (λ n. Some (view (told_in k.told) (as_of (es ++ entry ∷ []) app n))) (sym is);
          last = last ∙ number ∙ sym is;
          first = e;
          was = ap (message (es ++ entry ∷ []) (App app)) is ∙ found_more es (entry ∷ []) (App app) serial e was;
          low = subst (λ n. AllByRecursion (IsLow (added (before_sent (App app) n (es ++ entry ∷ [])) app)) k.told) (sym is) (subst (λ l. AllByRecursion (IsLow (added l app)) k.told) (sym later) low);
        }

    -- what was held before, seen as of the message
    module _ (k : Kept) (f : Followed) (i : Inv es (Some k) f) (no_load : IsLoad q → ⊥) where
      m : MissesNothing name es app k.last serial
      m = served.nothing_missed es entry behind at refl refl no_load k i.is_held

      view_now : effect (path_of 0) name (view (told_in k.told) (as_of es app k.last)) (news_of name e) ≡ view (told_in k.told) tree
      view_now = next_view es (entry ∷ behind) at k.last serial e was m k.told i.has.low

      low_now : AllByRecursion (IsLow count) k.told
      low_now = low_more (added (before_sent (App app) k.last es) app) count k.told (more_added es (entry ∷ behind) at k.last serial e was m) i.has.low

    plain_reads : (k : Kept) (f : Followed) → Inv es (Some k) f → (IsLoad q → ⊥) → Has (es ++ entry ∷ []) (Some (record k { last = serial })) (folded (news_of f.name e) (noted e.serial f))
    plain_reads k f i no_load =
        new (record k { last = serial }) (folded (news_of f.name e) (noted e.serial f)) refl
        (folded_some (news_of f.name e) (noted e.serial f) (view (told_in k.told) (as_of es app k.last)) i.has.shows
        ∙ ap₂ (λ r n. Some (effect r n (view (told_in k.told) (as_of es app k.last)) (news_of n e))) i.root i.named ∙ ap Some (view_now k f i no_load))
        (folded_rest (news_of f.name e) (noted e.serial f)).2 (low_now k f i no_load)

    by_question : (p : Option Question) → q ≡ p → (k : Option Kept) (f : Followed) → Inv es k f → Has (es ++ entry ∷ []) (kept_with serial p k) (reads p e f)
    by_question (Some (GetItems n)) is k f i =
        let t : TellsItems name tree e = subst (λ p. Tells name tree count p e) is tells in
        let f1 : Followed = with_items (items_told e) (noted e.serial f) in
        let loads : f1.view ≡ Some (view (told_in []) tree) =
        ap (λ o. (with_items o (noted e.serial f)).view) t.told ∙ ap₂ (λ r b. Some (load r b t.items)) i.root i.named ∙ ap Some t.loads in
        new (record { last = serial; told = [] }) (folded (news_of f.name e) f1) refl
        (ap (λ n. (folded n f1).view) (news_none f.name e (items_kind e t.items t.told)) ∙ folded_some Nothing f1 (view (told_in []) tree) loads)
        (reads_rest (Some (GetItems n)) e f).2 tt
    by_question (Some (GetPart n path part)) is None f i =
        let t : TellsPart name tree count path part e = subst (λ p. Tells name tree count p e) is tells in
        folded_none (news_of f.name e) (with_part path part (part_told part path e) (noted e.serial f))
        (ap (λ o. (with_part path part o (noted e.serial f)).view) t.told ∙ told_none t.news (noted e.serial f) i.has)
    by_question (Some (GetPart n path part)) is (Some k) f i =
        let t : TellsPart name tree count path part e = subst (λ p. Tells name tree count p e) is tells in
        let no_load : IsLoad q → ⊥ = λ l. subst IsLoad is l in
        let f1 : Followed = with_part path part (part_told part path e) (noted e.serial f) in
        let silent : news_of name e ≡ Nothing = news_none name e (part_kind part path e t.news t.told) in
        let same : view (told_in k.told) (as_of es app k.last) ≡ view (told_in k.told) tree =
        ap (effect (path_of 0) name (view (told_in k.told) (as_of es app k.last))) (sym silent) ∙ view_now k f i no_load in
        let shows : f1.view ≡ Some (view (told_in (k.told ++ (path, part) ∷ [])) tree) =
        ap (λ o. (with_part path part o (noted e.serial f)).view) t.told
        ∙ told_some t.news (noted e.serial f) (view (told_in k.told) (as_of es app k.last)) i.has.shows
        ∙ ap₂ (λ r b. Some (effect r b (view (told_in k.told) (as_of es app k.last)) t.news)) i.root i.named
        ∙ ap (λ v. Some (effect (path_of 0) name v t.news)) same ∙ ap Some (t.shows k.told) in
        new (record { last = serial; told = k.told ++ (path, part) ∷ [] }) (folded (news_of f.name e) f1) refl
        (ap (λ n. (folded n f1).view) (news_none f.name e (part_kind part path e t.news t.told)) ∙ folded_some Nothing f1 (view (told_in (k.told ++ (path, part) ∷ [])) tree) shows)
        (reads_rest (Some (GetPart n path part)) e f).2
        (all_append (IsLow count) k.told ((path, part) ∷ []) (low_now k f i no_load) ((t.node, t.is_of, t.was_added), tt))
    by_question (Some Hello) is None f i = folded_none (news_of f.name e) (noted e.serial f) i.has
    by_question (Some (AddMatch rule)) is None f i = folded_none (news_of f.name e) (noted e.serial f) i.has
    by_question (Some (RegisterEvent pattern)) is None f i = folded_none (news_of f.name e) (noted e.serial f) i.has
    by_question (Some GetChildren) is None f i = folded_none (news_of f.name e) (noted e.serial f) i.has
    by_question None is None f i = folded_none (news_of f.name e) (noted e.serial f) i.has
    by_question (Some Hello) is (Some k) f i = plain_reads k f i (λ l. subst IsLoad is l)
    by_question (Some (AddMatch rule)) is (Some k) f i = plain_reads k f i (λ l. subst IsLoad is l)
    by_question (Some (RegisterEvent pattern)) is (Some k) f i = plain_reads k f i (λ l. subst IsLoad is l)
    by_question (Some GetChildren) is (Some k) f i = plain_reads k f i (λ l. subst IsLoad is l)
    by_question None is (Some k) f i = plain_reads k f i (λ l. subst IsLoad is l)

  -- EACH ENTRY
  -- one that is no matter of the two
  others : (es : List Entry) (x : Entry) (k : Option Kept) (f : Followed) → kept_after es reader app k x ≡ k → follows_after es reader app f x ≡ f → Inv es k f
      → Inv (es ++ x ∷ []) (kept_after es reader app k x) (follows_after es reader app f x)
  others es x k f keeps follows i =
      subst (λ l. Inv (es ++ x ∷ []) l (follows_after es reader app f x)) (sym keeps) (subst (Inv (es ++ x ∷ []) k) (sym follows) (record {
        is_held = held_more es (x ∷ []) reader app ∙ ap (λ l. kept_after es reader app l x) i.is_held ∙ keeps;
        named = i.named;
        root = i.root;
        has = by k i.has;
      }))
    where
      by : (l : Option Kept) → Has es l f → Has (es ++ x ∷ []) l f
      by None h = h
      by (Some l) h =
          let later : before_sent (App app) l.last (es ++ x ∷ []) ≡ before_sent (App app) l.last es = front_more es (x ∷ []) (App app) l.last h.first h.was in
          record {
            shows = h.shows ∙ ap (λ z. Some (view (told_in l.told) (live_tree z app))) (sym later);
            last = h.last;
            first = h.first;
            was = found_more es (x ∷ []) (App app) l.last h.first h.was;
            low = subst (λ z. AllByRecursion (IsLow (added z app)) l.told) (sym later) h.low;
          }

  taken_one : (es behind : List Entry) (serial : ℕ) (k : Option Kept) (f : Followed) → T ≡ es ++ got (Reader reader) (App app) serial ∷ behind → is_some (message es (App app) serial) ≡ true → Inv es k f
      → Inv (es ++ got (Reader reader) (App app) serial ∷ []) (kept_with serial (answers_question es reader (message es (App app) serial)) k)
      (reads_if (answers_question es reader (message es (App app) serial)) (message es (App app) serial) f)
  taken_one es behind serial k f at some i = by (message es (App app) serial) refl some
    where
      x : Entry
      x = got (Reader reader) (App app) serial

      q : Option Question
      q = answers_question es reader (message es (App app) serial)

      kept_now : kept_after es reader app k x ≡ kept_with serial q k
      kept_now = ap₂ (λ a b. if a && b then kept_with serial q k else k) (eq-eqb reader reader refl) (eq-eqb app app refl)

      by : (o : Option Envelope) → message es (App app) serial ≡ o → is_some o ≡ true → Inv (es ++ x ∷ []) (kept_with serial q k) (reads_if q (message es (App app) serial) f)
      by None h g = absurd (false_true g)
      by (Some e) h g =
          subst (λ o. Inv (es ++ x ∷ []) (kept_with serial q k) (reads_if q o f)) (sym h) (record {
            is_held = held_more es (x ∷ []) reader app ∙ ap (λ l. kept_after es reader app l x) i.is_held ∙ kept_now;
            named = (reads_rest q e f).0 ∙ i.named;
            root = (reads_rest q e f).1 ∙ i.root;
            has = by_question es behind serial at e h q refl k f i;
          })

  ended_one : (es : List Entry) (k : Option Kept) (f : Followed) → Inv es k f → Inv (es ++ gone reader app ∷ []) None (unasked f.name)
  ended_one es k f i = record {
    is_held = held_more es (gone reader app ∷ []) reader app ∙ ap₂ (λ a b. if a && b then None else held es reader app) (eq-eqb reader reader refl) (eq-eqb app app refl);
    named = i.named;
    root = refl;
    has = refl;
  }

  step : (es behind : List Entry) (x : Entry) (k : Option Kept) (f : Followed) → T ≡ es ++ x ∷ behind → WasSent es x behind → Inv es k f
      → Inv (es ++ x ∷ []) (kept_after es reader app k x) (follows_after es reader app f x)
  step es behind (got (Reader r) (App a) serial) k f at sent_ i = by (r == reader && a == app) refl
    where
      x : Entry
      x = got (Reader r) (App a) serial

      both : (b c : Bool) → (b && c) ≡ true → (b ≡ true) × (c ≡ true)
      both true true h = (refl, refl)
      both true false h = absurd (false_true h)
      both false c h = absurd (false_true h)

      mine : (n m : ℕ) → n ≡ reader → m ≡ app → T ≡ es ++ got (Reader n) (App m) serial ∷ behind → is_some (message es (App m) serial) ≡ true
          → Inv (es ++ got (Reader n) (App m) serial ∷ []) (kept_with serial (answers_question es reader (message es (App app) serial)) k)
          (reads_if (answers_question es reader (message es (App app) serial)) (message es (App app) serial) f)
      mine n m rs bs place some =
          subst (λ l. Inv (es ++ got (Reader l) (App m) serial ∷ []) (kept_with serial (answers_question es reader (message es (App app) serial)) k)
          (reads_if (answers_question es reader (message es (App app) serial)) (message es (App app) serial) f)) (sym rs)
          (subst (λ l. Inv (es ++ got (Reader reader) (App l) serial ∷ []) (kept_with serial (answers_question es reader (message es (App app) serial)) k)
          (reads_if (answers_question es reader (message es (App app) serial)) (message es (App app) serial) f)) (sym bs)
          (taken_one es behind serial k f (place ∙ ap₂ (λ l z. es ++ got (Reader l) (App z) serial ∷ behind) rs bs) (ap (λ z. is_some (message es (App z) serial)) (sym bs) ∙ some) i))

      by : (b : Bool) → (r == reader && a == app) ≡ b → Inv (es ++ x ∷ []) (kept_after es reader app k x) (follows_after es reader app f x)
      by true g =
          let t = both (r == reader) (a == app) g in
          subst (λ b. Inv (es ++ x ∷ []) (if b then kept_with serial (answers_question es reader (message es (App app) serial)) k else k)
          (if b then reads_if (answers_question es reader (message es (App app) serial)) (message es (App app) serial) f else f)) (sym g)
          (mine r a (eqb-true r reader t.0) (eqb-true a app t.1) at sent_.1)
      by false g =
          others es x k f (ap (λ b. if b then kept_with serial (answers_question es reader (message es (App app) serial)) k else k) g)
          (ap (λ b. if b then reads_if (answers_question es reader (message es (App app) serial)) (message es (App app) serial) f else f) g) i
  step es behind (gone r a) k f at sent_ i = by (r == reader && a == app) refl
    where
      x : Entry
      x = gone r a

      both : (b c : Bool) → (b && c) ≡ true → (b ≡ true) × (c ≡ true)
      both true true h = (refl, refl)
      both true false h = absurd (false_true h)
      both false c h = absurd (false_true h)

      by : (b : Bool) → (r == reader && a == app) ≡ b → Inv (es ++ x ∷ []) (kept_after es reader app k x) (follows_after es reader app f x)
      by true g =
          let t = both (r == reader) (a == app) g in
          subst (λ b. Inv (es ++ x ∷ []) (if b then None else k) (if b then unasked f.name else f)) (sym g)
          (subst (λ l. Inv (es ++ gone l a ∷ []) None (unasked f.name)) (sym (eqb-true r reader t.0))
          (subst (λ l. Inv (es ++ gone reader l ∷ []) None (unasked f.name)) (sym (eqb-true a app t.1)) (ended_one es k f i)))
      by false g = others es x k f (ap (λ b. if b then None else k) g) (ap (λ b. if b then unasked f.name else f) g) i
  step es behind x k f at sent_ i = others es x k f refl refl i

  pub along : (es xs rest : List Entry) (k : Option Kept) (f : Followed) → T ≡ es ++ (xs ++ rest) → LawOfLinks T → Inv es k f → Inv (es ++ xs) (held_on es reader app k xs) (follows_on es reader app f xs)
  along es [] rest k f at links i = subst (λ l. Inv l k f) (sym (append-nil es)) i
  along es (x ∷ xs) rest k f at links i =
      subst (λ l. Inv l (held_on es reader app k (x ∷ xs)) (follows_on es reader app f (x ∷ xs))) (append_assoc es (x ∷ []) xs)
      (along (es ++ x ∷ []) xs rest (kept_after es reader app k x) (follows_after es reader app f x) (at ∙ sym (append_assoc es (x ∷ []) (xs ++ rest))) links
      (step es (xs ++ rest) x k f at (links es x (xs ++ rest) at) i))

  pub cache_is : (front rest : List Entry) → T ≡ front ++ rest → LawOfLinks T → CacheIs front app (held front reader app) (followed name front reader app)
  cache_is front rest at links = by (held front reader app) (along [] front rest None (unasked name) at links (record { is_held = refl; named = refl; root = refl; has = refl })).has
    where
      by : (k : Option Kept) → Has front k (followed name front reader app) → CacheIs front app k (followed name front reader app)
      by None h = h
      by (Some k) h = record { shows = h.shows; last = h.last }

  -- WHAT THE READER READS, along the trace
  reads_at : Everywhere StepsOnTree T → LawOfLinks T → (before behind : List Entry) (serial : ℕ) (at : T ≡ before ++ got (Reader reader) (App app) serial ∷ behind) → (IsLoad (answers_question before reader (message before (App app) serial)) → ⊥)
      → (e : Envelope) → message before (App app) serial ≡ Some e → (v : Forest Row) → (followed name before reader app).view ≡ Some v → IsRead name before app serial v e
  reads_at trees links before behind serial at no_load e was v h =
      by (held before reader app) refl (along [] before (got (Reader reader) (App app) serial ∷ behind) None (unasked name) at links (record { is_held = refl; named = refl; root = refl; has = refl })).has
    where
      by : (k : Option Kept) → held before reader app ≡ k → Has before k (followed name before reader app) → IsRead name before app serial v e
      by None g has = absurd (no_none v (sym has ∙ h))
      by (Some k) g i =
          let m : MissesNothing name before app k.last serial = served.nothing_missed before (got (Reader reader) (App app) serial) behind at refl refl no_load k g in
          subst (λ w. IsRead name before app serial w e) (same_some (view (told_in k.told) (as_of before app k.last)) v (sym i.shows ∙ h))
          (next_lines before (got (Reader reader) (App app) serial ∷ behind) at k.last serial e was m trees k.told i.low)

  closes_at : LawOfLinks T → (before behind : List Entry) (at : T ≡ before ++ behind) (k : Kept) → held before reader app ≡ Some k → (v : Forest Row) → (followed name before reader app).view ≡ Some v
      → closing_lines v ≡ closing_says (as_of before app k.last)
  closes_at links before behind at k g v h =
      by (subst (λ o. CacheIs before app o (followed name before reader app)) g (cache_is before behind at links))
    where
      by : CacheIs before app (Some k) (followed name before reader app) → closing_lines v ≡ closing_says (as_of before app k.last)
      by i =
          ap closing_lines (sym (same_some (view (told_in k.told) (as_of before app k.last)) v (sym i.shows ∙ h))) ∙ closes_due (told_in k.told) (as_of before app k.last)

  pub reads_due : Everywhere StepsOnTree T → LawOfLinks T → Everywhere (ReadsDue name reader app) T
  reads_due trees links before (got (Reader r) (App a) serial) behind at = λ rs bs.
      subst (λ n. ReadsAt name n a before serial) (sym rs)
      (subst (λ n. ReadsAt name reader n before serial) (sym bs)
      (reads_at trees links before behind serial (at ∙ ap₂ (λ x y. before ++ got (Reader x) (App y) serial ∷ behind) rs bs)))
  reads_due trees links before (got (Reader r) The_bus serial) behind at = tt
  reads_due trees links before (got (Reader r) Registry serial) behind at = tt
  reads_due trees links before (got (Reader r) (Reader other) serial) behind at = tt
  reads_due trees links before (got The_bus from serial) behind at = tt
  reads_due trees links before (got Registry from serial) behind at = tt
  reads_due trees links before (got (App a) from serial) behind at = tt
  reads_due trees links before (gone r a) behind at = λ rs bs. closes_at links before (gone r a ∷ behind) at
  reads_due trees links before x behind at = tt

pub caches_follow : (lines : List Line) (trace : List Entry) → CanAllStand lines → Goes (begins lines) trace → (after_all (begins lines) trace).owing ≡ []
    → (name : List ℕ) (reader app : ℕ) → IsItsName trace app name → IsServed trace name reader app
    → (front rest : List Entry) → trace ≡ front ++ rest → CacheIs front app (held front reader app) (followed name front reader app)
caches_follow lines trace a g none name reader app its served front rest at =
    cache_is trace name reader app (wholly trace name reader app its (signed_law lines trace a g none) (items_law lines trace a g) (parts_law lines trace a g) (no_signal_missed lines trace a g) served) (announcements_carry lines trace a g) (steps_apply lines trace a g) (starts_anew lines trace a g) front rest at (links_hold lines trace a g)

pub lines_are_read : (script : List Line) (trace : List Entry) → CanAllStand script → Goes (begins script) trace → (after_all (begins script) trace).owing ≡ []
    → (name : List ℕ) (reader app : ℕ) → IsItsName trace app name → IsServed trace name reader app → Everywhere (ReadsDue name reader app) trace
lines_are_read script trace a g none name reader app its served =
    reads_due trace name reader app
    (wholly trace name reader app its (signed_law script trace a g none) (items_law script trace a g) (parts_law script trace a g) (no_signal_missed script trace a g) served) (announcements_carry script trace a g) (steps_apply script trace a g) (starts_anew script trace a g)
    (trees_stand script trace a g) (links_hold script trace a g)
