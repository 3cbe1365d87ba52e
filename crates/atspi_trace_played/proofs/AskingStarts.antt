-- The start of a reader: its calls may be sent, what it begins with, and when it is over.
use Rattle.std.proofs.Common.{◌≡◌, ◌⊎◌, inl, inr, ℕ, Bool, true, List, [], ◌∷◌, ◌++◌, length, map, refl, sym, ap, ◌∙◌, subst, arith}
use Rattle.std.specs.Prelude.{codes, ◌||◌}
use Rattle.std.specs.List.{AllByRecursion, list_any}
use Rattle.atspi_protocol.specs.declared.following.question.Question.{Question}
use Rattle.atspi_protocol.specs.declared.following.question.Question.TheVariants.{Hello, AddMatch, RegisterEvent, GetChildren}
use Rattle.atspi_protocol.specs.following.ReaderState.{start_calls}
use Rattle.atspi_trace.specs.World.{Fate, waits, returned, failed, Asked, Hearer}
use Rattle.atspi_trace.specs.Hearing.{is_answered, patterns_in, registers, is_registered, rules_in, listens, is_listening, may_ask}
use Rattle.atspi_trace_caches.specs.settled.Laws.{question_of}
use Rattle.atspi_trace_laws.proofs.OfOrder.Parties.{false_true}
use Rattle.atspi_trace_played.proofs.Facts.{NeverFailed}
use Rattle.atspi_trace_played.proofs.AskingWords.{all_of_test, or_true, bytes_same}

-- EACH CALL OF THE START MAY BE SENT
pub starts_may : (h : Hearer) → AllByRecursion (λ q. may_ask h q ≡ true) start_calls
starts_may h = (refl, (refl, (refl, (refl, (refl, (refl, (refl, (refl, (refl, (refl, tt))))))))))

pub in_start : (P : Question → Type 0) (early : List Question) (q : Question) (late : List Question) → early ++ q ∷ late ≡ start_calls → AllByRecursion P start_calls → P q
in_start P early q late is a = by early start_calls is a
  where
    by : (front all : List Question) → front ++ q ∷ late ≡ all → AllByRecursion P all → P q
    by front all is a = among front (subst (AllByRecursion P) (sym is) a)
      where
        among : (front : List Question) → AllByRecursion P (front ++ q ∷ late) → P q
        among [] a = a.0
        among (x ∷ xs) a = among xs a.1

-- THE LAST OF THEM
abbrev NotChildren : Question → Type 0
NotChildren GetChildren = ⊥
NotChildren question = Unit {0}

abbrev nine : List Question
nine =
    Hello
    ∷ (AddMatch (codes "type='signal',interface='org.freedesktop.DBus',member='NameOwnerChanged'")
    ∷ (AddMatch (codes "type='signal',interface='org.a11y.atspi.Cache'")
    ∷ (AddMatch (codes "type='signal',interface='org.a11y.atspi.Event.Object'")
    ∷ (RegisterEvent (codes "object:children-changed")
    ∷ (RegisterEvent (codes "object:property-change")
    ∷ (RegisterEvent (codes "object:state-changed")
    ∷ (RegisterEvent (codes "object:text-changed")
    ∷ (RegisterEvent (codes "object:text-caret-moved")
    ∷ []))))))))

abbrev tail_of : List Question → List Question
tail_of [] = []
tail_of (x ∷ xs) = xs

abbrev head_of : Question → List Question → Question
head_of q [] = q
head_of q (x ∷ xs) = x

not_none : (qs : List Question) (q : Question) (rest : List Question) → qs ++ q ∷ rest ≡ [] → ⊥
not_none [] q rest h = let none : length (q ∷ rest) ≡ 0 = ap length h in omega (arith, none)
not_none (x ∷ qs) q rest h = let none : length (x ∷ (qs ++ q ∷ rest)) ≡ 0 = ap length h in omega (arith, none)

ends_there : (front : List Question) → AllByRecursion NotChildren front → (qs to_come : List Question) → qs ++ GetChildren ∷ to_come ≡ front ++ GetChildren ∷ [] → to_come ≡ []
ends_there [] a [] to_come h = ap tail_of h
ends_there [] a (q ∷ qs) to_come h = absurd (not_none qs GetChildren to_come (ap tail_of h))
ends_there (f ∷ fs) a [] to_come h = absurd (subst NotChildren (sym (ap (head_of f) h)) a.0)
ends_there (f ∷ fs) a (q ∷ qs) to_come h = ends_there fs a.1 qs to_come (ap tail_of h)

pub last_of_start : (qs to_come : List Question) → qs ++ GetChildren ∷ to_come ≡ start_calls → to_come ≡ []
last_of_start qs to_come h = ends_there nine (tt, (tt, (tt, (tt, (tt, (tt, (tt, (tt, (tt, tt))))))))) qs to_come h

-- ALL OF THE START WERE RETURNED
abbrev IsOf : Question → List Question → Type 0
IsOf q [] = ⊥
IsOf q (x ∷ xs) = (x ≡ q) ⊎ IsOf q xs

abbrev Never : Asked → Type 0
Never a = NeverFailed a.question a.fate

is_returned : (serial : ℕ) (question : Question) (fate : Fate) → is_answered (record { serial = serial; question = question; fate = fate }) ≡ true → (fate ≡ failed → ⊥) → fate ≡ returned
is_returned serial question waits h n = absurd (false_true h)
is_returned serial question returned h n = refl
is_returned serial question failed h n = absurd (n refl)

module _ (counts : Question → Fate → Bool) (q : Question) (one : counts q returned ≡ true) (strict : (fate : Fate) → NeverFailed q fate → fate ≡ failed → ⊥) where
  any_counts : (asked : List Asked) → AllByRecursion Never asked → AllByRecursion (λ (a : Asked). is_answered a ≡ true) asked → IsOf q (map question_of asked) → list_any (λ (a : Asked). counts a.question a.fate) asked ≡ true
  any_counts [] n d i = absurd i
  any_counts (a ∷ asked) n d (inl e) = ap (λ b. b || list_any (λ (x : Asked). counts x.question x.fate) asked) counted
    where
      counted : counts a.question a.fate ≡ true
      counted =
          ap (λ x. counts x a.fate) e
          ∙ ap (counts q) (is_returned a.serial a.question a.fate d.0 (strict a.fate (subst (λ x. NeverFailed x a.fate) e n.0))) ∙ one
  any_counts (a ∷ asked) n d (inr i) = ap (λ b. counts a.question a.fate || b) (any_counts asked n.1 d.1 i) ∙ or_true (counts a.question a.fate)

module _ (asked : List Asked) (late : List Question) (is : map question_of asked ≡ start_calls ++ late) (never : AllByRecursion Never asked) (done : AllByRecursion (λ (a : Asked). is_answered a ≡ true) asked) where
  rule_there : (rule : List ℕ) → IsOf (AddMatch rule) (start_calls ++ late) → list_any (λ (a : Asked). listens rule a.question a.fate) asked ≡ true
  rule_there rule i = any_counts (listens rule) (AddMatch rule) (bytes_same rule) (λ fate n. n) asked never done (subst (IsOf (AddMatch rule)) (sym is) i)

  pattern_there : (pattern : List ℕ) → IsOf (RegisterEvent pattern) (start_calls ++ late) → list_any (λ (a : Asked). registers pattern a.question a.fate) asked ≡ true
  pattern_there pattern i = any_counts (registers pattern) (RegisterEvent pattern) (bytes_same pattern) (λ fate n. n) asked never done (subst (IsOf (RegisterEvent pattern)) (sym is) i)

  pub all_listens : is_listening asked ≡ true
  all_listens =
      all_of_test (λ rule. list_any (λ (a : Asked). listens rule a.question a.fate) asked) (rules_in start_calls)
      (rule_there _ (inr (inl refl)), (rule_there _ (inr (inr (inl refl))), (rule_there _ (inr (inr (inr (inl refl)))), tt)))

  pub all_registered : is_registered asked ≡ true
  all_registered =
      all_of_test (λ pattern. list_any (λ (a : Asked). registers pattern a.question a.fate) asked) (patterns_in start_calls) (
        pattern_there _ (inr (inr (inr (inr (inl refl))))),
        (
          pattern_there _ (inr (inr (inr (inr (inr (inl refl)))))),
          (
            pattern_there _ (inr (inr (inr (inr (inr (inr (inl refl))))))),
            (
              pattern_there _ (inr (inr (inr (inr (inr (inr (inr (inl refl)))))))),
              (pattern_there _ (inr (inr (inr (inr (inr (inr (inr (inr (inl refl))))))))), tt),
            ),
          ),
        ),
      )
