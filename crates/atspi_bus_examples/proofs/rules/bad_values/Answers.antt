use Rattle.std.proofs.Common.{◌≡◌, ◌≢◌, ℕ, List, [], Bool, true, false, length, get_or, inl, inr, refl, ap, subst, arith}
use Rattle.std.specs.Prelude.{codes}
use Rattle.atspi_base.specs.valid_names.Names.{IsMember, IsPath}
use Rattle.atspi_match.specs.Conditions.{bool_text}
use Rattle.atspi_match.specs.RuleFaults.{IsNoValue, FirstRuleFault}
use Rattle.atspi_match.specs.declared.condition.Condition.TheVariants.{Kind, Sender, Interface, Member, Path, PathNamespace}
use Rattle.atspi_match.specs.declared.condition.Condition.TheVariants.{Destination, Arg, ArgPath, Arg0Namespace, Eavesdrop}
use Rattle.atspi_match.proofs.FaultLemmas.{value_first}
use Rattle.atspi_bus_examples.proofs.Faults.{at_first, only, word, may_stand, plain_item, item_at}
use Rattle.atspi_bus_examples.proofs.rules.bad_values.Goals as goal

-- a value that is no member, no path, or no truth value
no_member : (value : List ℕ) → (IsMember value → ⊥) → IsNoValue (codes "member") value
no_member value none (Kind t) is on e = omega (arith, ap (λ l. get_or l 0 0) on)
no_member value none (Sender name) is on e = omega (arith, ap (λ l. get_or l 0 0) on)
no_member value none (Interface name) is on e = omega (arith, ap (λ l. get_or l 0 0) on)
no_member value none (Member name) is on e = none (subst (λ l. IsMember l) e is)
no_member value none (Path path) is on e = omega (arith, ap (λ l. get_or l 0 0) on)
no_member value none (PathNamespace path) is on e = omega (arith, ap (λ l. get_or l 0 0) on)
no_member value none (Destination name) is on e = omega (arith, ap (λ l. get_or l 0 0) on)
no_member value none (Arg n text) is on e = omega (arith, ap (λ l. get_or l 0 0) on)
no_member value none (ArgPath n text) is on e = omega (arith, ap (λ l. get_or l 0 0) on)
no_member value none (Arg0Namespace text) is on e = omega (arith, ap (λ l. get_or l 0 0) on)
no_member value none (Eavesdrop b) is on e = omega (arith, ap (λ l. get_or l 0 0) on)

no_path : (value : List ℕ) → (IsPath value → ⊥) → IsNoValue (codes "path") value
no_path value none (Kind t) is on e = omega (arith, ap (λ l. get_or l 0 0) on)
no_path value none (Sender name) is on e = omega (arith, ap (λ l. get_or l 0 0) on)
no_path value none (Interface name) is on e = omega (arith, ap (λ l. get_or l 0 0) on)
no_path value none (Member name) is on e = omega (arith, ap (λ l. get_or l 0 0) on)
no_path value none (Path path) is on e = none (subst (λ l. IsPath l) e is)
no_path value none (PathNamespace path) is on e = omega (arith, ap length on)
no_path value none (Destination name) is on e = omega (arith, ap (λ l. get_or l 0 0) on)
no_path value none (Arg n text) is on e = omega (arith, ap (λ l. get_or l 0 0) on)
no_path value none (ArgPath n text) is on e = omega (arith, ap (λ l. get_or l 0 0) on)
no_path value none (Arg0Namespace text) is on e = omega (arith, ap (λ l. get_or l 0 0) on)
no_path value none (Eavesdrop b) is on e = omega (arith, ap (λ l. get_or l 0 0) on)

no_truth : (value : List ℕ) → ((b : Bool) → bool_text b ≢ value) → IsNoValue (codes "eavesdrop") value
no_truth value none (Kind t) is on e = omega (arith, ap (λ l. get_or l 0 0) on)
no_truth value none (Sender name) is on e = omega (arith, ap (λ l. get_or l 0 0) on)
no_truth value none (Interface name) is on e = omega (arith, ap (λ l. get_or l 0 0) on)
no_truth value none (Member name) is on e = omega (arith, ap (λ l. get_or l 0 0) on)
no_truth value none (Path path) is on e = omega (arith, ap (λ l. get_or l 0 0) on)
no_truth value none (PathNamespace path) is on e = omega (arith, ap (λ l. get_or l 0 0) on)
no_truth value none (Destination name) is on e = omega (arith, ap (λ l. get_or l 0 0) on)
no_truth value none (Arg n text) is on e = omega (arith, ap (λ l. get_or l 0 0) on)
no_truth value none (ArgPath n text) is on e = omega (arith, ap (λ l. get_or l 0 0) on)
no_truth value none (Arg0Namespace text) is on e = omega (arith, ap (λ l. get_or l 0 0) on)
no_truth value none (Eavesdrop b) is on e = none b e

truth : (b : Bool) → bool_text b ≢ codes "yes"
truth true e = omega (arith, ap length e)
truth false e = omega (arith, ap length e)

member : FirstRuleFault (codes "member=a.b") 7 6
member =
    at_first (codes "member=a.b") 7 6 (omega arith)
    (value_first [] (codes "member=a.b") (plain_item (codes "member") (codes "a.b")) [] 6
    (item_at (codes "member") (codes "a.b") (word (codes "member") refl refl) refl)
    (may_stand (codes "member") (λ u. u (Member (codes "M")) (record { element = (refl, tt); short = omega arith }) refl))
    (inr (refl, λ e. omega (arith, ap length e))) (no_member (codes "a.b") (λ h. let e : false ≡ true = h.element.1.0 in absurd cc)))

pub returns-clause-member : goal.returns-clause-member
returns-clause-member c = member

pub returns-clause-path : goal.returns-clause-path
returns-clause-path c =
    at_first (codes "path=a") 5 6 (omega arith)
    (value_first [] (codes "path=a") (plain_item (codes "path") (codes "a")) [] 6
    (item_at (codes "path") (codes "a") (word (codes "path") refl refl) refl)
    (may_stand (codes "path") (λ u. u (Path (codes "/")) (refl, inl refl) refl))
    (inr (refl, λ e. omega (arith, ap (λ l. get_or l 0 0) e))) (no_path (codes "a") (λ h. omega (arith, h.0))))

pub returns-clause-eavesdrop : goal.returns-clause-eavesdrop
returns-clause-eavesdrop c =
    at_first (codes "eavesdrop=yes") 10 6 (omega arith)
    (value_first [] (codes "eavesdrop=yes") (plain_item (codes "eavesdrop") (codes "yes")) [] 6
    (item_at (codes "eavesdrop") (codes "yes") (word (codes "eavesdrop") refl refl) refl)
    (may_stand (codes "eavesdrop") (λ u. u (Eavesdrop true) tt refl))
    (inr (refl, λ e. omega (arith, ap length e))) (no_truth (codes "yes") truth))

pub returns-clause-not_five : goal.returns-clause-not_five
returns-clause-not_five c = λ other. omega (arith, (only (codes "member=a.b") 7 6 7 5 member other).1)
