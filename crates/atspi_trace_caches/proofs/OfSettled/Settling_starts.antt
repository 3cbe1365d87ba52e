-- The start of a reader is returned: of one whose own calls begin with its start, in order, none of the first ten is refused.
use Rattle.std.proofs.Common.{◌≡◌, ℕ, suc, ◌+◌, ◌≤◌, List, [], ◌∷◌, ◌++◌, length, map, Some, refl, sym, ap, ◌∙◌, subst, arith, length-append}
use Rattle.std.specs.Prelude.{codes, encode_utf8_all}
use Rattle.std.specs.List.{AllByRecursion}
use Rattle.std.proofs.lemmas.List.{append_assoc}
use lib.Utf8.{encode}
use Rattle.atspi_match.specs.declared.condition.Condition.{Condition}
use Rattle.atspi_script_lines.specs.declared.limits.TheConstants.{QUOTA_MOST}
use Rattle.atspi_script_lines.specs.declared.line.Party.TheVariants.{Reader}
use Rattle.atspi_protocol.specs.declared.following.question.Question.{Question}
use Rattle.atspi_protocol.specs.declared.following.question.Question.TheVariants.{Hello, AddMatch, RegisterEvent, GetChildren, GetItems, GetPart}
use Rattle.atspi_protocol.specs.following.ReaderState.{start_calls}
use Rattle.atspi_trace.specs.Entry.{Entry, sent}
use Rattle.atspi_trace.specs.Rules.{owner_rule, cache_rule, event_rule, rules_asked, rule_written}
use Rattle.atspi_trace.specs.World.{here, failed, Asked, a_reader, Hearer, End, World, first_world}
use Rattle.atspi_trace.specs.Causes.{does, at_end}
use Rattle.atspi_trace.specs.Due.{asks_at}
use Rattle.atspi_trace.specs.Ends.{end_at}
use Rattle.atspi_trace_caches.specs.settled.Laws.{question_of}
use Rattle.atspi_trace_laws.proofs.OfOrder.Shape.{Shape}
use Rattle.atspi_trace_laws.proofs.OfOrder.Along.{Keeps}
use Rattle.atspi_trace_laws.proofs.OfOrder.Growing.{Shaped, And}
use Rattle.atspi_trace_laws.proofs.OfOrder.Each.{Each}
use Rattle.atspi_trace_laws.proofs.OfOwn.Writing.{Lives}
use Rattle.atspi_trace_caches.proofs.OfSettled.Facts.{AreReturned, StartsReturn}
use Rattle.atspi_trace_laws.proofs.OfReaders.Fates.{both_keep}
use Rattle.atspi_trace_caches.proofs.OfSettled.Settling_ground.{Ground, Grounds, grounds}
use Rattle.atspi_trace_caches.proofs.OfSettled.Settling_replies.{TakesReplies, Replied, replied_keeps}
use Rattle.atspi_trace_caches.proofs.OfSettled.Settling_held.{Sure, all_sure}
use Rattle.atspi_trace_caches.proofs.OfSettled.Settling_asked.{AsksApps, AllAskApps, ask_keep}
use Rattle.atspi_trace_caches.proofs.OfSettled.Settling_refused.{no_registering, no_children, hello_late, match_full}
use Rattle.atspi_trace_caches.proofs.OfSettled.Settling_serials.{serials}
use Rattle.atspi_trace_caches.proofs.OfSettled.Settling_counted.{Rises, HeadOne, count_below, place_below, Counts, AllCounted, counted_keep}

-- WHAT IS ASKED behind Hello
abbrev IsLater : Question → Type 0
IsLater (AddMatch text) = (rule : List Condition) × (rule_written (encode_utf8_all text) rules_asked ≡ Some rule)
IsLater (RegisterEvent pattern) = Unit {0}
IsLater GetChildren = Unit {0}
IsLater question = ⊥

owner_spelled : rule_written (encode_utf8_all (codes "type='signal',interface='org.freedesktop.DBus',member='NameOwnerChanged'")) rules_asked ≡ Some owner_rule
unfolding encode
owner_spelled = refl

cache_spelled : rule_written (encode_utf8_all (codes "type='signal',interface='org.a11y.atspi.Cache'")) rules_asked ≡ Some cache_rule
unfolding encode
cache_spelled = refl

event_spelled : rule_written (encode_utf8_all (codes "type='signal',interface='org.a11y.atspi.Event.Object'")) rules_asked ≡ Some event_rule
unfolding encode
event_spelled = refl

abbrev nine : List Question
nine =
    AddMatch (codes "type='signal',interface='org.freedesktop.DBus',member='NameOwnerChanged'")
    ∷ (AddMatch (codes "type='signal',interface='org.a11y.atspi.Cache'")
    ∷ (AddMatch (codes "type='signal',interface='org.a11y.atspi.Event.Object'")
    ∷ (RegisterEvent (codes "object:children-changed")
    ∷ (RegisterEvent (codes "object:property-change")
    ∷ (RegisterEvent (codes "object:state-changed")
    ∷ (RegisterEvent (codes "object:text-changed")
    ∷ (RegisterEvent (codes "object:text-caret-moved")
    ∷ (GetChildren
    ∷ []))))))))

nine_later : AllByRecursion IsLater nine
nine_later = ((owner_rule, owner_spelled), ((cache_rule, cache_spelled), ((event_rule, event_spelled), (tt, (tt, (tt, (tt, (tt, (tt, tt)))))))))

abbrev head_of : Question → List Question → Question
head_of q [] = q
head_of q (x ∷ xs) = x

abbrev tail_of : List Question → List Question
tail_of [] = []
tail_of (x ∷ xs) = xs

no_questions : (q : Question) (qs : List Question) → [] ≡ q ∷ qs → ⊥
no_questions q qs h = let none : 0 ≡ length (q ∷ qs) = ap length h in omega (arith, none)

map_append : (xs ys : List Asked) → map (λ (a : Asked). a.serial) (xs ++ ys) ≡ map (λ (a : Asked). a.serial) xs ++ map (λ (a : Asked). a.serial) ys
map_append [] ys = refl
map_append (x ∷ xs) ys = ap (λ l. x.serial ∷ l) (map_append xs ys)

map_length : (xs : List Asked) → length (map (λ (a : Asked). a.serial) xs) ≡ length xs
map_length [] = refl
map_length (x ∷ xs) = ap suc (map_length xs)

module _ (es : List Entry) (w : World) (sh : Shape w) (g : Grounds es w) (law : Each TakesReplies [] es) (apps : Each AsksApps [] es) (live : Lives es) (k r : ℕ) (e : End) (h : Hearer) (there : end_at w.ends k ≡ Some e) (whose : e.who ≡ Reader r)
    (role : e.role ≡ a_reader h) (on : e.standing ≡ here) (c : Counts es r h) where
  abbrev IsSure : Asked → Type 0
  IsSure = Sure es w sh g law live k r e h there whose role on

  -- one at a place in front of the tenth
  one_returned : (front back : List Asked) (x : Asked) → h.asked ≡ front ++ x ∷ back → length front ≤ 10 → IsSure x → (q : Question) → x.question ≡ q → IsLater q → x.fate ≡ failed → ⊥
  one_returned front back x is few s (AddMatch text) question later fate =
      let full = match_full es w sh g law apps live k r e h there whose role on x s fate text later.0 question later.1 in
      let most = c.adds x.serial in
      let place = place_below 0 x.serial (map (λ (a : Asked). a.serial) front) (map (λ (a : Asked). a.serial) back) (subst (Rises 0) all c.rises) in
      let size = map_length front in
      let below : count_below x.serial (serials h) ≡ count_below x.serial (map (λ (a : Asked). a.serial) front ++ x.serial ∷ map (λ (a : Asked). a.serial) back) = ap (count_below x.serial) all in
      omega (arith, full, most, place, size, below, few)
    where
      all : serials h ≡ map (λ (a : Asked). a.serial) front ++ x.serial ∷ map (λ (a : Asked). a.serial) back
      all = ap (map (λ (a : Asked). a.serial)) is ∙ map_append front (x ∷ back)
  one_returned front back x is few s (RegisterEvent pattern) question later fate = no_registering es w sh g law apps live k r e h there whose role on x s fate pattern question
  one_returned front back x is few s GetChildren question later fate = no_children es w sh g law apps live k r e h there whose role on x s fate question
  one_returned front back x is few s Hello question later fate = later
  one_returned front back x is few s (GetItems name) question later fate = later
  one_returned front back x is few s (GetPart name path part) question later fate = later

  rest_returned : (front asked_ : List Asked) (qs late : List Question) → h.asked ≡ front ++ asked_ → length front + length qs ≤ 10 → map question_of asked_ ≡ qs ++ late → AllByRecursion IsLater qs → AllByRecursion IsSure asked_ → AreReturned qs asked_
  rest_returned front asked_ [] late is few same later sure = tt
  rest_returned front [] (q ∷ qs) late is few same later sure = absurd (no_questions q (qs ++ late) same)
  rest_returned front (x ∷ xs) (q ∷ qs) late is few same later sure =
      let rest = rest_returned (front ++ x ∷ []) xs qs late (is ∙ sym (append_assoc front (x ∷ []) xs)) (next (length front) (length qs) (length (front ++ x ∷ [])) (length-append front (x ∷ [])) few) (ap tail_of same) later.1 sure.1 in
      (question, (one_returned front xs x is (less (length front) (length qs) few) sure.0 q question later.0, rest))
    where
      question : x.question ≡ q
      question = ap (head_of q) same

      less : (a b : ℕ) → a + suc b ≤ 10 → a ≤ 10
      less a b l = omega (arith, l)

      next : (a b n : ℕ) → n ≡ a + 1 → a + suc b ≤ 10 → n + b ≤ 10
      next a b n is l = omega (arith, is, l)

  are_returned : (asked_ : List Asked) → h.asked ≡ asked_ → (late : List Question) → map question_of asked_ ≡ start_calls ++ late → AllByRecursion IsSure asked_ → AreReturned start_calls asked_
  are_returned [] is late same sure = absurd (no_questions Hello (nine ++ late) same)
  are_returned (x ∷ xs) is late same sure =
      let rest = rest_returned (x ∷ []) xs nine late is (omega arith) (ap tail_of same) nine_later sure.1 in
      (ap (head_of Hello) same, (first_returned, rest))
    where
      first_returned : x.fate ≡ failed → ⊥
      first_returned fate =
          let second = hello_late es w sh g law apps live k r e h there whose role on x sure.0 fate (ap (head_of Hello) same) in
          let first : x.serial ≡ 1 = subst HeadOne (ap (map (λ (a : Asked). a.serial)) is) c.head in
          omega (arith, second, first)

pub starts_return : (es : List Entry) (w : World) → Shape w → Grounds es w → Each TakesReplies [] es → Each AsksApps [] es
    → ((k r : ℕ) (e : End) (h : Hearer) → end_at w.ends k ≡ Some e → e.who ≡ Reader r → e.role ≡ a_reader h → Counts es r h) → StartsReturn es w
starts_return es w sh g law apps counts live k r e h there whose role on begins =
    are_returned es w sh g law apps live k r e h there whose role on (counts k r e h there whose role) h.asked refl begins.0 begins.1 (all_sure es w sh g law live k r e h there whose role on)

-- KEPT, since it follows from what stands below
follows : (A B : List Entry → World → Type 0) → ((es : List Entry) (w : World) → Shape w → A es w → B es w) → Keeps (Shaped A) → Keeps (Shaped (And A B))
follows A B f k = record {
  begins = (k.begins.0, (k.begins.1, f [] (first_world QUOTA_MOST) k.begins.0 k.begins.1));
  caused = λ es w c i a. let after = k.caused es w c (i.0, i.1.0) a in (after.0, (after.1, f (es ++ (does w c).entries) (does w c).world after.0 after.1));
  moved = λ es w v i m. let after = k.moved es w v (i.0, i.1.0) m in (after.0, (after.1, f es v after.0 after.1));
  passed = λ es w free i. i;
  asked = λ es w conn r m question i a.
      let after = k.asked es w conn r m question (i.0, i.1.0) a in
      (after.0, (after.1, f (es ++ sent (Reader r) m ∷ []) (at_end w conn (asks_at m question)) after.0 after.1));
}

abbrev pub Under_returns : List Entry → World → Type 0
Under_returns es w = And (And Ground Replied) (And (And Ground AllAskApps) (And Ground AllCounted)) es w

under_returns : Keeps (Shaped Under_returns)
under_returns = both_keep (And Ground Replied) (And (And Ground AllAskApps) (And Ground AllCounted)) replied_keeps (both_keep (And Ground AllAskApps) (And Ground AllCounted) ask_keep counted_keep)

pub returns_keep : Keeps (Shaped (And Under_returns StartsReturn))
returns_keep = follows Under_returns StartsReturn (λ es w sh u. starts_return es w sh (grounds es w u.0.0) u.0.1 u.1.0.1 u.1.1.1) under_returns
