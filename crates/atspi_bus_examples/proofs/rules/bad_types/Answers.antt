use Rattle.std.proofs.Common.{◌≢◌, ℕ, List, [], length, get_or, inl, refl, ap, arith}
use Rattle.std.specs.Prelude.{codes}
use Rattle.atspi_match.specs.Conditions.{type_text}
use Rattle.atspi_match.specs.RuleFaults.{IsUnknown, IsNoValue, FirstRuleFault}
use Rattle.atspi_match.specs.declared.condition.Condition.TheVariants.{Kind, Sender, Interface, Member, Path, PathNamespace}
use Rattle.atspi_match.specs.declared.condition.Condition.TheVariants.{Destination, Arg, ArgPath, Arg0Namespace, Eavesdrop}
use Rattle.atspi_match.specs.declared.condition.MessageType.{MessageType}
use Rattle.atspi_match.specs.declared.condition.MessageType.TheVariants.{Signal, MethodCall, MethodReturn, Error}
use Rattle.atspi_match.proofs.FaultLemmas.{value_first}
use Rattle.atspi_bus_examples.proofs.Faults.{at_first, only, word, may_stand, plain_item, item_at}
use Rattle.atspi_bus_examples.proofs.rules.bad_types.Goals as goal

-- a value that names no type
no_type : (value : List ℕ) → ((t : MessageType) → type_text t ≢ value) → IsNoValue (codes "type") value
no_type value none (Kind t) is on e = none t e
no_type value none (Sender name) is on e = omega (arith, ap (λ l. get_or l 0 0) on)
no_type value none (Interface name) is on e = omega (arith, ap (λ l. get_or l 0 0) on)
no_type value none (Member name) is on e = omega (arith, ap (λ l. get_or l 0 0) on)
no_type value none (Path path) is on e = omega (arith, ap (λ l. get_or l 0 0) on)
no_type value none (PathNamespace path) is on e = omega (arith, ap (λ l. get_or l 0 0) on)
no_type value none (Destination name) is on e = omega (arith, ap (λ l. get_or l 0 0) on)
no_type value none (Arg n text) is on e = omega (arith, ap (λ l. get_or l 0 0) on)
no_type value none (ArgPath n text) is on e = omega (arith, ap (λ l. get_or l 0 0) on)
no_type value none (Arg0Namespace text) is on e = omega (arith, ap (λ l. get_or l 0 0) on)
no_type value none (Eavesdrop b) is on e = omega (arith, ap (λ l. get_or l 0 0) on)

known : IsUnknown (codes "type") → ⊥
known u = u (Kind Signal) tt refl

signals : (t : MessageType) → type_text t ≢ codes "signals"
signals Signal e = omega (arith, ap length e)
signals MethodCall e = omega (arith, ap length e)
signals MethodReturn e = omega (arith, ap length e)
signals Error e = omega (arith, ap length e)

capital : (t : MessageType) → type_text t ≢ codes "Signal"
capital Signal e = omega (arith, ap (λ l. get_or l 0 0) e)
capital MethodCall e = omega (arith, ap length e)
capital MethodReturn e = omega (arith, ap length e)
capital Error e = omega (arith, ap length e)

empty : (t : MessageType) → type_text t ≢ []
empty Signal e = omega (arith, ap length e)
empty MethodCall e = omega (arith, ap length e)
empty MethodReturn e = omega (arith, ap length e)
empty Error e = omega (arith, ap length e)

unknown : FirstRuleFault (codes "type=signals") 5 5
unknown =
    at_first (codes "type=signals") 5 5 (omega arith)
    (value_first [] (codes "type=signals") (plain_item (codes "type") (codes "signals")) [] 5
    (item_at (codes "type") (codes "signals") (word (codes "type") refl refl) refl) (may_stand (codes "type") known) (inl (refl, refl)) (no_type (codes "signals") signals))

pub returns-clause-unknown : goal.returns-clause-unknown
returns-clause-unknown c = unknown

pub returns-clause-capital : goal.returns-clause-capital
returns-clause-capital c =
    at_first (codes "type=Signal") 5 5 (omega arith)
    (value_first [] (codes "type=Signal") (plain_item (codes "type") (codes "Signal")) [] 5
    (item_at (codes "type") (codes "Signal") (word (codes "type") refl refl) refl) (may_stand (codes "type") known) (inl (refl, refl)) (no_type (codes "Signal") capital))

pub returns-clause-empty : goal.returns-clause-empty
returns-clause-empty c =
    at_first (codes "type=") 5 5 (omega arith)
    (value_first [] (codes "type=") (plain_item (codes "type") []) [] 5
    (item_at (codes "type") [] (word (codes "type") refl refl) refl) (may_stand (codes "type") known) (inl (refl, refl)) (no_type [] empty))

pub returns-clause-not_six : goal.returns-clause-not_six
returns-clause-not_six c = λ other. omega (arith, (only (codes "type=signals") 5 5 5 6 unknown other).1)

pub returns-clause-none_named_type : goal.returns-clause-none_named_type
returns-clause-none_named_type c = no_type (codes "type") none
  where
    none : (t : MessageType) → type_text t ≢ codes "type"
    none Signal e = omega (arith, ap length e)
    none MethodCall e = omega (arith, ap length e)
    none MethodReturn e = omega (arith, ap length e)
    none Error e = omega (arith, ap length e)

pub returns-clause-not_signal : goal.returns-clause-not_signal
returns-clause-not_signal c = λ none. none (Kind Signal) tt refl refl
