-- Which own calls of a reader fail: none of its start; one for items only where no application that is here has the name; one for a part may.
use Rattle.std.proofs.Common.{◌≡◌, ℕ, suc, ◌+◌, ◌≤◌, List, [], ◌∷◌, ◌++◌, length, map, Some, refl, sym, ap, ◌∙◌, subst, arith, length-append}
use Rattle.std.specs.Prelude.{codes, encode_utf8_all}
use Rattle.std.specs.List.{AllByRecursion}
use Rattle.std.proofs.lemmas.List.{append_assoc}
use lib.Utf8.{encode}
use Rattle.atspi_match.specs.declared.condition.Condition.{Condition}
use Rattle.atspi_script_lines.specs.declared.line.Party.TheVariants.{Reader}
use Rattle.atspi_protocol.specs.declared.following.question.Question.{Question}
use Rattle.atspi_protocol.specs.declared.following.question.Question.TheVariants.{Hello, AddMatch, RegisterEvent, GetChildren, GetItems, GetPart}
use Rattle.atspi_protocol.specs.following.ReaderState.{start_calls}
use Rattle.atspi_trace.specs.Entry.{Entry}
use Rattle.atspi_trace.specs.Rules.{owner_rule, cache_rule, event_rule, rules_asked, rule_written}
use Rattle.atspi_trace.specs.World.{here, failed, Asked, a_reader, Hearer, End, World}
use Rattle.atspi_trace.specs.Ends.{end_at}
use Rattle.atspi_trace_caches.specs.settled.Laws.{question_of}
use Rattle.atspi_trace_laws.proofs.OfOrder.Shape.{Shape}
use Rattle.atspi_trace_laws.proofs.OfOrder.Each.{Each}
use Rattle.atspi_trace_laws.proofs.OfOwn.Writing.{Lives}
use Rattle.atspi_trace_caches.proofs.OfSettled.Settling_ground.{Grounds}
use Rattle.atspi_trace_caches.proofs.OfSettled.Settling_replies.{TakesReplies}
use Rattle.atspi_trace_caches.proofs.OfSettled.Settling_held.{Sure, all_sure}
use Rattle.atspi_trace_caches.proofs.OfSettled.Settling_asked.{AsksApps}
use Rattle.atspi_trace_caches.proofs.OfSettled.Settling_refused.{no_registering, no_children, hello_late, match_full, no_items}
use Rattle.atspi_trace_caches.proofs.OfSettled.Settling_serials.{serials}
use Rattle.atspi_trace_caches.proofs.OfSettled.Settling_counted.{Rises, HeadOne, count_below, place_below, Counts}
use Rattle.atspi_trace_played.proofs.Facts.{IsGone, IsLate, InOrder}

abbrev pub CanFail : World → Question → Type 0
CanFail w (GetItems name) = IsGone w name
CanFail w (GetPart name path part) = Unit {0}
CanFail w question = ⊥

abbrev pub FailsWell : World → Asked → Type 0
FailsWell w x = x.fate ≡ failed → CanFail w x.question

-- what is asked behind Hello
abbrev pub IsNext : Question → Type 0
IsNext (AddMatch text) = (rule : List Condition) × (rule_written (encode_utf8_all text) rules_asked ≡ Some rule)
IsNext (RegisterEvent pattern) = Unit {0}
IsNext GetChildren = Unit {0}
IsNext question = ⊥

owner_spelled : rule_written (encode_utf8_all (codes "type='signal',interface='org.freedesktop.DBus',member='NameOwnerChanged'")) rules_asked ≡ Some owner_rule
unfolding encode
owner_spelled = refl

cache_spelled : rule_written (encode_utf8_all (codes "type='signal',interface='org.a11y.atspi.Cache'")) rules_asked ≡ Some cache_rule
unfolding encode
cache_spelled = refl

event_spelled : rule_written (encode_utf8_all (codes "type='signal',interface='org.a11y.atspi.Event.Object'")) rules_asked ≡ Some event_rule
unfolding encode
event_spelled = refl

abbrev tail_of : List Question → List Question
tail_of [] = []
tail_of (x ∷ xs) = xs

abbrev head_of : Question → List Question → Question
head_of q [] = q
head_of q (x ∷ xs) = x

abbrev pub nine : List Question
nine = tail_of start_calls

pub nine_next : AllByRecursion IsNext nine
nine_next = ((owner_rule, owner_spelled), ((cache_rule, cache_spelled), ((event_rule, event_spelled), (tt, (tt, (tt, (tt, (tt, (tt, tt)))))))))

map_append : (xs ys : List Asked) → map (λ (a : Asked). a.serial) (xs ++ ys) ≡ map (λ (a : Asked). a.serial) xs ++ map (λ (a : Asked). a.serial) ys
map_append [] ys = refl
map_append (x ∷ xs) ys = ap (λ l. x.serial ∷ l) (map_append xs ys)

map_length : (xs : List Asked) → length (map (λ (a : Asked). a.serial) xs) ≡ length xs
map_length [] = refl
map_length (x ∷ xs) = ap suc (map_length xs)

module _ (es : List Entry) (w : World) (sh : Shape w) (g : Grounds es w) (law : Each TakesReplies [] es) (apps : Each AsksApps [] es) (live : Lives es) (k r : ℕ) (e : End) (h : Hearer) (there : end_at w.ends k ≡ Some e)
    (whose : e.who ≡ Reader r)
    (role : e.role ≡ a_reader h) (on : e.standing ≡ here) (c : Counts es r h) where
  abbrev IsSure : Asked → Type 0
  IsSure = Sure es w sh g law live k r e h there whose role on

  -- one of the start, behind Hello
  next_fails : (front back : List Asked) (x : Asked) → h.asked ≡ front ++ x ∷ back → length front ≤ 10 → IsSure x → (q : Question) → x.question ≡ q → IsNext q → x.fate ≡ failed → ⊥
  next_fails front back x is few s (AddMatch text) question next fate =
      let full = match_full es w sh g law apps live k r e h there whose role on x s fate text next.0 question next.1 in
      let most = c.adds x.serial in
      let place = place_below 0 x.serial (map (λ (a : Asked). a.serial) front) (map (λ (a : Asked). a.serial) back) (subst (Rises 0) all c.rises) in
      let size = map_length front in
      let below : count_below x.serial (serials h) ≡ count_below x.serial (map (λ (a : Asked). a.serial) front ++ x.serial ∷ map (λ (a : Asked). a.serial) back) = ap (count_below x.serial) all in
      omega (arith, full, most, place, size, below, few)
    where
      all : serials h ≡ map (λ (a : Asked). a.serial) front ++ x.serial ∷ map (λ (a : Asked). a.serial) back
      all = ap (map (λ (a : Asked). a.serial)) is ∙ map_append front (x ∷ back)
  next_fails front back x is few s (RegisterEvent pattern) question next fate = no_registering es w sh g law apps live k r e h there whose role on x s fate pattern question
  next_fails front back x is few s GetChildren question next fate = no_children es w sh g law apps live k r e h there whose role on x s fate question
  next_fails front back x is few s Hello question next fate = next
  next_fails front back x is few s (GetItems name) question next fate = next
  next_fails front back x is few s (GetPart name path part) question next fate = next

  -- one that is asked late
  late_fails : (x : Asked) → IsSure x → (q : Question) → x.question ≡ q → IsLate q → x.fate ≡ failed → CanFail w q
  late_fails x s (GetItems name) question late fate = record {
    nobody = λ j a d its_there its_whose its_on its_name. no_items es w sh g law apps live k r e h there whose role on x s fate name question (j, a, d, its_there, its_whose, its_on, its_name);
  }
  late_fails x s (GetPart name path part) question late fate = tt
  late_fails x s Hello question late fate = absurd late
  late_fails x s (AddMatch rule) question late fate = absurd late
  late_fails x s (RegisterEvent pattern) question late fate = absurd late
  late_fails x s GetChildren question late fate = absurd late

  all_late : (asked_ : List Asked) (to_come late : List Question) → map question_of asked_ ++ to_come ≡ late → AllByRecursion IsLate late → AllByRecursion IsSure asked_ → AllByRecursion (FailsWell w) asked_
  all_late [] to_come late is a sure = tt
  all_late (x ∷ xs) to_come late is a sure =
      let b : AllByRecursion IsLate (x.question ∷ (map question_of xs ++ to_come)) = subst (AllByRecursion IsLate) (sym is) a in
      ((λ fate. late_fails x sure.0 x.question refl b.0 fate), all_late xs to_come (map question_of xs ++ to_come) refl b.1 sure.1)

  rest_fails : (front asked_ : List Asked) (qs to_come late : List Question) → h.asked ≡ front ++ asked_ → length front + length qs ≤ 10 → map question_of asked_ ++ to_come ≡ qs ++ late → AllByRecursion IsNext qs
      → AllByRecursion IsLate late → AllByRecursion IsSure asked_ → AllByRecursion (FailsWell w) asked_
  rest_fails front asked_ [] to_come late is few same next a sure = all_late asked_ to_come late same a sure
  rest_fails front [] (q ∷ qs) to_come late is few same next a sure = tt
  rest_fails front (x ∷ xs) (q ∷ qs) to_come late is few same next a sure = (
    (λ fate. absurd (next_fails front xs x is (less (length front) (length qs) few) sure.0 q (ap (head_of q) same) next.0 fate)),
    rest_fails (front ++ x ∷ []) xs qs to_come late (is ∙ sym (append_assoc front (x ∷ []) xs)) (further (length front) (length qs) (length (front ++ x ∷ [])) (length-append front (x ∷ [])) few) (ap tail_of same) next.1 a sure.1,
  )
    where
      less : (a b : ℕ) → a + suc b ≤ 10 → a ≤ 10
      less a b l = omega (arith, l)

      further : (a b n : ℕ) → n ≡ a + 1 → a + suc b ≤ 10 → n + b ≤ 10
      further a b n is l = omega (arith, is, l)

  -- all, where it asked in order
  fail_well : (asked_ : List Asked) (to_come : List Question) → h.asked ≡ asked_ → InOrder asked_ to_come → AllByRecursion IsSure asked_ → AllByRecursion (FailsWell w) asked_
  fail_well [] to_come is order sure = tt
  fail_well (x ∷ xs) to_come is order sure =
      ((λ fate. absurd (first_fails fate)), rest_fails (x ∷ []) xs nine to_come order.0 is (omega arith) (ap tail_of order.1) nine_next order.2 sure.1)
    where
      question : x.question ≡ Hello
      question = ap (head_of Hello) order.1

      first_fails : x.fate ≡ failed → ⊥
      first_fails fate =
          let second = hello_late es w sh g law apps live k r e h there whose role on x sure.0 fate question in
          let first : x.serial ≡ 1 = subst HeadOne (ap (map (λ (a : Asked). a.serial)) is) c.head in
          omega (arith, second, first)

  pub calls_fail_well : (to_come : List Question) → InOrder h.asked to_come → AllByRecursion (FailsWell w) h.asked
  calls_fail_well to_come order = fail_well h.asked to_come refl order (all_sure es w sh g law live k r e h there whose role on)
