use Rattle.std.proofs.Common.{◌≡◌, ℕ, zero, suc, List, [], ◌∷◌, length, inl, inr, refl, ap, arith}
use Rattle.std.specs.Prelude.{codes, Contains}
use Rattle.atspi_match.specs.Conditions.{IsRule}
use Rattle.atspi_match.specs.RuleFaults.{FirstRuleFault}
use Rattle.atspi_match.specs.inner.Items.{ReadSoFar}
use Rattle.atspi_match.specs.declared.condition.Condition.TheVariants.{Path, PathNamespace}
use Rattle.atspi_match.proofs.FaultLemmas.{rival_first}
use Rattle.atspi_bus_examples.proofs.Faults.{behind, only, word, key_at, after_one}
use Rattle.atspi_bus_examples.proofs.rules.both_paths.Goals as goal

path_rule : IsRule (Path (codes "/") ∷ [])
path_rule = record { rising = (tt, tt); each = ((refl, inl refl), tt); one_path = refl }

namespace_rule : IsRule (PathNamespace (codes "/") ∷ [])
namespace_rule = record { rising = (tt, tt); each = ((refl, inl refl), tt); one_path = refl }

after_path : ReadSoFar (codes "path=/,path_namespace=/") 7 (Path (codes "/") ∷ [])
after_path =
    after_one (codes "path") (codes "/") (Path (codes "/")) (codes "path=/,path_namespace=/") 7
    (word (codes "path") refl refl) refl refl refl path_rule refl refl

after_namespace : ReadSoFar (codes "path_namespace=/,path=/") 17 (PathNamespace (codes "/") ∷ [])
after_namespace =
    after_one (codes "path_namespace") (codes "/") (PathNamespace (codes "/")) (codes "path_namespace=/,path=/") 17
    (word (codes "path_namespace") refl refl) refl refl refl namespace_rule refl refl

-- one key and another one
differ : (a b : List ℕ) → (length a ≡ length b → ⊥) → Contains (a ∷ []) b → ⊥
differ a b apart (zero, within, is) = apart (ap length is)
differ a b apart (suc n, within, is) = omega (arith, within)

namespace_second : FirstRuleFault (codes "path=/,path_namespace=/") 7 7
namespace_second =
    behind (codes "path=/,path_namespace=/") 7 (Path (codes "/") ∷ []) 0 7 after_path (omega arith) (omega arith)
    (rival_first (codes "path" ∷ []) (codes "path_namespace=/") [] (codes "path_namespace") (codes "/")
    (key_at (codes "path_namespace=/") 0 14 refl refl refl refl).key (λ u. u (PathNamespace (codes "/")) (refl, inl refl) refl)
    (differ (codes "path") (codes "path_namespace") (λ e. omega (arith, e))) (inr (refl, (0, omega arith, refl))))

pub returns-clause-namespace_second : goal.returns-clause-namespace_second
returns-clause-namespace_second c = namespace_second

pub returns-clause-path_second : goal.returns-clause-path_second
returns-clause-path_second c =
    behind (codes "path_namespace=/,path=/") 17 (PathNamespace (codes "/") ∷ []) 0 7 after_namespace (omega arith) (omega arith)
    (rival_first (codes "path_namespace" ∷ []) (codes "path=/") [] (codes "path") (codes "/")
    (key_at (codes "path=/") 0 4 refl refl refl refl).key (λ u. u (Path (codes "/")) (refl, inl refl) refl)
    (differ (codes "path_namespace") (codes "path") (λ e. omega (arith, e))) (inl (refl, (0, omega arith, refl))))

pub returns-clause-not_the_first : goal.returns-clause-not_the_first
returns-clause-not_the_first c = λ other. omega (arith, (only (codes "path=/,path_namespace=/") 7 7 0 7 namespace_second other).0)
