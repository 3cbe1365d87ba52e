-- The lines that are due at a message of an application that a reader holds are those that it reads from what it has.
use Rattle.std.proofs.Common.{◌≡◌, ◌⊎◌, inl, inr, ℕ, Bool, true, false, List, [], ◌∷◌, ◌++◌, length, Option, None, Some, is_some, refl, sym, ap, ◌∙◌, subst, arith}
use Rattle.std.specs.Prelude.{◌==◌, if◌then◌else◌}
use Rattle.std.proofs.lemmas.Bool.{eq-eqb, eqb-true}
use Rattle.std.proofs.lemmas.List.{append-nil, append_assoc}
use Rattle.atspi_tree_model.specs.declared.step.Step.{Step}
use Rattle.atspi_tree_model.specs.declared.view.Row.{Row}
use Rattle.atspi_tree_model.specs.Forest.{Forest}
use Rattle.atspi_tree_model.specs.Path.{path_of}
use Rattle.atspi_speech.specs.Speech.{lines as read_lines, says_after}
use Rattle.atspi_script_lines.specs.declared.line.Line.{Line}
use Rattle.atspi_script_lines.specs.declared.line.Party.TheVariants.{App, Reader}
use Rattle.atspi_message.specs.Envelope.{Envelope}
use Rattle.atspi_protocol.specs.announcing.Signals.{Signal}
use Rattle.atspi_protocol.specs.announcing.Announced.{announced}
use Rattle.atspi_protocol.specs.exporting.Hearing.{is_covered}
use Rattle.atspi_protocol.specs.exporting.Starting.{name_or_empty}
use Rattle.atspi_protocol.specs.news.NewsOf.{news_of}
use Rattle.atspi_trace.specs.Entry.{Entry, changed, sent, got}
use Rattle.atspi_trace.specs.World.{Said, World}
use Rattle.atspi_trace.specs.Hearing.{step_lines}
use Rattle.atspi_trace.specs.Causes.{announced_if}
use Rattle.atspi_trace_laws.specs.laws.Words.{message, before_sent, as_of, live_tree, heard_pairs, answers_question, name_in, Kept, held}
use Rattle.atspi_trace_laws.specs.laws.NineLaws.{IsAskedFor, Announces}
use Rattle.atspi_trace_laws.specs.signed.Laws.{IsItsName}
use Rattle.atspi_trace_laws.specs.folds.Laws.{AreAllCovered}
use Rattle.atspi_trace_laws.specs.missed.Laws.{IsLoad, NoSignalBetween}
use Rattle.atspi_trace_caches.specs.caches.Caches.{followed}
use Rattle.atspi_trace_caches.specs.caches.Laws.{IsServed, AreAsked, IsRead}
use Rattle.atspi_trace_laws.specs.views.Laws.{IsCarried}
use Rattle.atspi_trace_laws.proofs.OfOrder.Parties.{no_none, false_true}
use Rattle.atspi_trace_laws.proofs.OfTaken.Found.{found_more, found_here, sent_split}
use Rattle.atspi_trace_laws.proofs.OfTaken.Said.{TellsTree, asked_same}
use Rattle.atspi_trace_laws.proofs.OfViews.LawViews.{announcements_carry}
use Rattle.atspi_trace_laws.proofs.OfMissed.LawMissed.{no_signal_missed}
use Rattle.atspi_trace_caches.proofs.OfServed.LawServed.{steps_asked}
use Rattle.atspi_trace_caches.proofs.OfCaches.LawCaches.{lines_are_read}
use Rattle.atspi_trace_laws.proofs.OfSigned.Between.{none_due, silent_step}
use Rattle.atspi_trace_played.proofs.Facts.{Ground}

-- LISTS FROM THEIR ENDS
abbrev last_of : {X : Type 0} → X → List X → X
last_of d [] = d
last_of d (x ∷ xs) = last_of x xs

last_end : {X : Type 0} (d : X) (xs : List X) (x : X) → last_of d (xs ++ x ∷ []) ≡ x
last_end d [] x = refl
last_end d (y ∷ ys) x = last_end y ys x

abbrev but_last : {X : Type 0} → List X → List X
but_last [] = []
but_last (x ∷ []) = []
but_last (x ∷ (y ∷ ys)) = x ∷ but_last (y ∷ ys)

but_end : {X : Type 0} (xs : List X) (x : X) → but_last (xs ++ x ∷ []) ≡ xs
but_end [] x = refl
but_end (y ∷ []) x = refl
but_end (y ∷ (z ∷ zs)) x = ap (λ l. y ∷ l) (but_end (z ∷ zs) x)

record Ended (xs : List Entry) : Type 0 where
  front : List Entry
  last : Entry
  is : xs ≡ front ++ last ∷ []

from_end : (xs : List Entry) → (xs ≡ []) ⊎ Ended xs
from_end [] = inl refl
from_end (x ∷ xs) = by (from_end xs)
  where
    by : ((xs ≡ []) ⊎ Ended xs) → (x ∷ xs ≡ []) ⊎ Ended (x ∷ xs)
    by (inl h) = inr (record { front = []; last = x; is = ap (λ l. x ∷ l) h })
    by (inr e) = inr (record { front = x ∷ e.front; last = e.last; is = ap (λ l. x ∷ l) e.is })

abbrev StepLast : ℕ → List Entry → Type 0
StepLast b l = (xs : List Entry) × (step : Step) × (l ≡ xs ++ changed b step ∷ [])

no_end : (xs : List Entry) (x : Entry) → [] ≡ xs ++ x ∷ [] → ⊥
no_end [] x h = absurd (omega (arith, ap length h))
no_end (y ∷ ys) x h = absurd (omega (arith, ap length h))

abbrev IsStepOf : ℕ → Entry → Type 0
IsStepOf b (changed a step) = a ≡ b
IsStepOf b entry = ⊥

-- the last entry is a step of the application, or it is not
step_last : (b : ℕ) (l : List Entry) → StepLast b l ⊎ ((xs : List Entry) (step : Step) → l ≡ xs ++ changed b step ∷ [] → ⊥)
step_last b l = by (from_end l)
  where
    other : (z : Ended l) → (IsStepOf b z.last → ⊥) → (xs : List Entry) (step : Step) → l ≡ xs ++ changed b step ∷ [] → ⊥
    other z ne xs step e = ne (subst (IsStepOf b) (sym (sym (last_end z.last z.front z.last) ∙ ap (last_of z.last) (sym z.is ∙ e) ∙ last_end z.last xs (changed b step))) refl)

    one : (z : Ended l) (last : Entry) → z.last ≡ last → StepLast b l ⊎ ((xs : List Entry) (step : Step) → l ≡ xs ++ changed b step ∷ [] → ⊥)
    one z (changed a step) e = same (a == b) refl
      where
        same : (t : Bool) → (a == b) ≡ t → StepLast b l ⊎ ((xs : List Entry) (step : Step) → l ≡ xs ++ changed b step ∷ [] → ⊥)
        same true g = inl (z.front, step, z.is ∙ ap (λ x. z.front ++ x ∷ []) (e ∙ ap (λ n. changed n step) (eqb-true a b g)))
        same false g = inr (other z (λ i. false_true (sym g ∙ eq-eqb a b (subst (IsStepOf b) e i))))
    one z entry e = inr (other z (λ i. subst (IsStepOf b) e i))

    by : ((l ≡ []) ⊎ Ended l) → StepLast b l ⊎ ((xs : List Entry) (step : Step) → l ≡ xs ++ changed b step ∷ [] → ⊥)
    by (inl none) = inr (λ xs step e. no_end xs (changed b step) (sym none ∙ e))
    by (inr z) = one z z.last refl

if_announced : (pairs : List (List ℕ × List ℕ)) (step : Step) (xs : List Signal) → announced_if pairs step xs ≡ Some step → IsAskedFor pairs xs
if_announced pairs step [] h = absurd (no_none step h)
if_announced pairs step (x ∷ xs) h = by (is_covered pairs x.event x.minor) refl h
  where
    by : (t : Bool) → is_covered pairs x.event x.minor ≡ t → (if t then Some step else None) ≡ Some step → is_covered pairs x.event x.minor ≡ true
    by true g e = g
    by false g e = absurd (no_none step e)

-- WHAT IS DUE AT A MESSAGE
module _ (script : List Line) (es ys : List Entry) (w : World) (free : Option ℕ) (r b : ℕ) (x : List ℕ) (said : Said) (first : Envelope) (g : Ground script (es ++ got (Reader r) (App b) said.message.serial ∷ ys) w free)
    (its : IsItsName (es ++ got (Reader r) (App b) said.message.serial ∷ ys) b x) (was : message es (App b) said.message.serial ≡ Some first) (tells : TellsTree es b said)
    (no_load : IsLoad (answers_question es r (message es (App b) said.message.serial)) → ⊥) (k : Kept) (is_held : held es r b ≡ Some k) where
  abbrev serial : ℕ
  serial = said.message.serial

  abbrev trace : List Entry
  trace = es ++ got (Reader r) (App b) serial ∷ ys

  served : IsServed trace x r b
  served = steps_asked script trace g.can g.goes x r b

  read : (v : Forest Row) → (followed x es r b).view ≡ Some v → IsRead x es b serial v first
  read v h = lines_are_read script trace g.can g.goes g.nothing_owed x r b its served es (got (Reader r) (App b) serial) ys refl refl refl no_load first was v h

  asked : AreAsked x es b k.last serial
  asked = served.all_asked es (got (Reader r) (App b) serial) ys refl refl refl no_load k is_held

  between : NoSignalBetween es b k.last serial
  between = no_signal_missed script trace g.can g.goes es (got (Reader r) (App b) serial) ys refl no_load k is_held

  -- the last message taken was sent before the step
  sent_before : (xs : List Entry) (step : Step) → before_sent (App b) serial es ≡ xs ++ changed b step ∷ [] → is_some (message xs (App b) k.last) ≡ true
  sent_before xs step is = by (from_end between.between)
    where
      e0 : List Entry
      e0 = before_sent (App b) k.last es

      e1 : Entry
      e1 = sent (App b) between.first

      there : (l : List Entry) → is_some (message ((e0 ++ e1 ∷ []) ++ l) (App b) k.last) ≡ true
      there l = found (message e0 (App b) between.first.serial) refl
        where
          found : (o : Option Envelope) → message e0 (App b) between.first.serial ≡ o → is_some (message ((e0 ++ e1 ∷ []) ++ l) (App b) k.last) ≡ true
          found (Some m) h =
              ap (λ n. is_some (message ((e0 ++ e1 ∷ []) ++ l) (App b) n)) (sym between.has_serial)
              ∙ ap is_some (found_more (e0 ++ e1 ∷ []) l (App b) between.first.serial m (found_more e0 (e1 ∷ []) (App b) between.first.serial m h))
          found None h =
              ap (λ n. is_some (message ((e0 ++ e1 ∷ []) ++ l) (App b) n)) (sym between.has_serial)
              ∙ ap is_some (found_more (e0 ++ e1 ∷ []) l (App b) between.first.serial between.first (found_here e0 [] (App b) between.first h))

      whole : (e0 ++ e1 ∷ []) ++ between.between ≡ xs ++ changed b step ∷ []
      whole = sym between.stands ∙ is

      by : ((between.between ≡ []) ⊎ Ended between.between) → is_some (message xs (App b) k.last) ≡ true
      by (inl none) =
          let same : e1 ≡ changed b step =
          sym (last_end e1 e0 e1) ∙ ap (last_of e1) (sym (append-nil (e0 ++ e1 ∷ [])) ∙ ap (λ l. (e0 ++ e1 ∷ []) ++ l) (sym none) ∙ whole) ∙ last_end e1 xs (changed b step) in
          absurd (subst (IsStepOf b) (sym same) refl)
      by (inr z) =
          let joined : ((e0 ++ e1 ∷ []) ++ z.front) ++ z.last ∷ [] ≡ xs ++ changed b step ∷ [] =
          append_assoc (e0 ++ e1 ∷ []) z.front (z.last ∷ []) ∙ ap (λ l. (e0 ++ e1 ∷ []) ++ l) (sym z.is) ∙ whole in
          ap (λ l. is_some (message l (App b) k.last)) (sym (sym (but_end ((e0 ++ e1 ∷ []) ++ z.front) z.last) ∙ ap but_last joined ∙ but_end xs (changed b step))) ∙ there z.front

  -- a step behind which it stands and that is announced by something is announced by it
  announces : (xs : List Entry) (step : Step) → before_sent (App b) serial es ≡ xs ++ changed b step ∷ [] → (sig : Signal) (more : List Signal) → announced x (live_tree xs b) step ≡ sig ∷ more → said.announces ≡ Some step
  announces xs step is sig more shape =
      tells.step step (record {
        early = xs;
        is_sent = ap is_some was;
        stands = is;
        asked = if_announced (heard_pairs xs b) step (announced (name_or_empty (name_in xs (App b))) (live_tree xs b) step) (asked_same (heard_pairs xs b) x (name_or_empty (name_in xs (App b))) (live_tree xs b) step by_it);
      })
    where
      covered : AreAllCovered (heard_pairs xs b) (announced x (live_tree xs b) step)
      covered = asked xs [] step is (sent_before xs step is)

      by_it : IsAskedFor (heard_pairs xs b) (announced x (live_tree xs b) step)
      by_it = subst (IsAskedFor (heard_pairs xs b)) (sym shape) (subst (AreAllCovered (heard_pairs xs b)) shape covered).0

  carried : (xs : List Entry) (step : Step) → before_sent (App b) serial es ≡ xs ++ changed b step ∷ [] → IsCarried xs b step
  carried xs step is =
      let split = sent_split es (App b) serial first was in
      announcements_carry script trace g.can g.goes xs (changed b step) (sent (App b) first ∷ (split.0 ++ got (Reader r) (App b) serial ∷ ys))
      (ap (λ l. l ++ got (Reader r) (App b) serial ∷ ys) (split.1 ∙ ap (λ l. l ++ sent (App b) first ∷ split.0) is)
      ∙ append_assoc (xs ++ changed b step ∷ []) (sent (App b) first ∷ split.0) (got (Reader r) (App b) serial ∷ ys)
      ∙ append_assoc xs (changed b step ∷ []) (sent (App b) first ∷ (split.0 ++ got (Reader r) (App b) serial ∷ ys)))

  pub due_lines : (v : Forest Row) → (followed x es r b).view ≡ Some v → read_lines (path_of 0) x v (news_of x first) ≡ step_lines said said.announces
  due_lines v h = by said.announces refl
    where
      by : (o : Option Step) → said.announces ≡ o → read_lines (path_of 0) x v (news_of x first) ≡ step_lines said o
      by (Some step) is =
          let a : Announces es b serial step = tells.announced step is in
          (read v h).behind_step a.early step a.stands ∙ ap (λ t. says_after t step) tells.tree
      by None is = nothing (step_last b (before_sent (App b) serial es))
        where
          silent : (xs : List Entry) (step : Step) → before_sent (App b) serial es ≡ xs ++ changed b step ∷ [] → (l : List Signal) → announced x (live_tree xs b) step ≡ l → says_after (as_of es b serial) step ≡ []
          silent xs step at [] shape = none_due x (live_tree xs b) (as_of es b serial) step (silent_step xs b x step (carried xs step at) shape)
          silent xs step at (sig ∷ more) shape = absurd (no_none step (sym is ∙ announces xs step at sig more shape))

          nothing : StepLast b (before_sent (App b) serial es) ⊎ ((xs : List Entry) (step : Step) → before_sent (App b) serial es ≡ xs ++ changed b step ∷ [] → ⊥) → read_lines (path_of 0) x v (news_of x first) ≡ []
          nothing (inr no_step) = (read v h).elsewhere no_step
          nothing (inl y) = (read v h).behind_step y.0 y.1 y.2 ∙ silent y.0 y.1 y.2 (announced x (live_tree y.0 b) y.1) refl
