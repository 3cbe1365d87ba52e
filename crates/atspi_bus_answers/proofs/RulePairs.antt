-- RemoveMatch finds the rule that it takes out.
use Rattle.std.proofs.Common.{◌≡◌, ℕ, suc, ◌+◌, Bool, true, false, cond, ◌&&◌, ◌||◌, ◌==◌, List, [], ◌∷◌, ◌++◌, length, refl, sym, ap, ◌∙◌, subst, arith}
use Rattle.std.specs.Prelude.{bytes_eq, codes, Some}
use Rattle.std.specs.List.{list_any}
use Rattle.std.proofs.lemmas.Bool.Decides.{nat_tests}
use Rattle.std.proofs.lemmas.Slice.Eq.{bytes_eq-Decides}
use Rattle.atspi_match.specs.declared.condition.Condition.{Condition}
use Rattle.atspi_match.specs.Conditions.{same_rule, same_condition, rank, value_text}
use Rattle.atspi_match.specs.RuleIndex.{is_pair, without_first}
use Rattle.atspi_match.specs.routing.BusState.{BusState}
use Rattle.atspi_match.specs.routing.Answers.{returns, fails, only, removes_rule}
use Rattle.atspi_bus_answers.specs.declared.answering.Reply.{Reply}
use Rattle.atspi_bus_answers.specs.Answered.{reply_of, IsAnswer}

eq_same : (k : ℕ) → (k == k) ≡ true
eq_same k = grind (arith, nat_tests)

same_self : (c : Condition) → same_condition c c ≡ true
same_self c = ap (λ b. b && bytes_eq (value_text c) (value_text c)) (eq_same (rank c)) ∙ (bytes_eq-Decides (value_text c) (value_text c)).1 refl

rule_self : (rule : List Condition) → same_rule rule rule ≡ true
rule_self [] = refl
rule_self (c ∷ rule) = ap (λ b. b && same_rule rule rule) (same_self c) ∙ rule_self rule

pair_self : (conn : ℕ) (rule : List Condition) → is_pair conn rule (conn, rule) ≡ true
pair_self conn rule = ap (λ b. b && same_rule rule rule) (eq_same conn) ∙ rule_self rule

-- a list in which the pair stands has it
pub any-stands : (conn : ℕ) (rule : List Condition) (pairs front back : List (ℕ × List Condition)) → pairs ≡ front ++ (conn, rule) ∷ back → list_any (is_pair conn rule) pairs ≡ true
any-stands conn rule pairs front back is = ap (list_any (is_pair conn rule)) is ∙ by front
  where
    or_true : (b : Bool) → (b || true) ≡ true
    or_true true = refl
    or_true false = refl

    by : (front : List (ℕ × List Condition)) → list_any (is_pair conn rule) (front ++ (conn, rule) ∷ back) ≡ true
    by [] = ap (λ b. b || list_any (is_pair conn rule) back) (pair_self conn rule)
    by (p ∷ front) = ap (λ b. is_pair conn rule p || b) (by front) ∙ or_true (is_pair conn rule p)

-- and one that loses none has none
pub none-lost : (conn : ℕ) (rule : List Condition) (pairs : List (ℕ × List Condition)) → without_first pairs conn rule ≡ pairs → list_any (is_pair conn rule) pairs ≡ false
none-lost conn rule [] e = refl
none-lost conn rule (p ∷ pairs) e = by (is_pair conn rule p) e (none-lost conn rule pairs)
  where
    later : List (ℕ × List Condition) → List (ℕ × List Condition)
    later [] = []
    later (q ∷ qs) = qs

    by : (b : Bool) → cond b pairs (p ∷ without_first pairs conn rule) ≡ p ∷ pairs → (without_first pairs conn rule ≡ pairs → list_any (is_pair conn rule) pairs ≡ false)
        → (b || list_any (is_pair conn rule) pairs) ≡ false
    by true e rest = let longer : length pairs ≡ suc (length pairs) = ap length e in absurd (omega arith)
    by false e rest = rest cc

module _ (s : BusState) (conn : ℕ) (rule : List Condition) (new : List (ℕ × List Condition)) (given : Reply) where
  pub removed : list_any (is_pair conn rule) s.rules ≡ true → new ≡ without_first s.rules conn rule → reply_of given ≡ returns []
      → IsAnswer (removes_rule s conn (Some rule)) s.owners new [] [] given
  removed has is replied =
      subst (λ b. IsAnswer (cond b (record (only s (returns [])) { rules = without_first s.rules conn rule }) (only s (fails (codes "MatchRuleNotFound")))) s.owners new [] [] given)
      (sym has) (record { owners = refl; rules = is; told = refl; reply = replied })

  pub not_removed : list_any (is_pair conn rule) s.rules ≡ false → new ≡ s.rules → reply_of given ≡ fails (codes "MatchRuleNotFound")
      → IsAnswer (removes_rule s conn (Some rule)) s.owners new [] [] given
  not_removed has is replied =
      subst (λ b. IsAnswer (cond b (record (only s (returns [])) { rules = without_first s.rules conn rule }) (only s (fails (codes "MatchRuleNotFound")))) s.owners new [] [] given)
      (sym has) (record { owners = refl; rules = is; told = refl; reply = replied })
