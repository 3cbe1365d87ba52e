-- Words that only the private contracts and proofs beside `Ask` use.
use Rattle.std.specs.Prelude.{◌≡◌, ℕ, false, List, IsOkAnd, Result, Ok, Err, []}
use Rattle.atspi_protocol.specs.ends.Messages.{error_word}
use Rattle.atspi_protocol.specs.declared.ends.error.CallError.{CallError}
use Rattle.atspi_protocol.specs.declared.ends.error.CallError.TheVariants.{PropertyReadOnly}
use Rattle.atspi_protocol.specs.members.Table.{PropertyLine}
use Rattle.atspi_protocol.specs.declared.members.property.ObjectProperty.TheVariants as properties
use Rattle.atspi_registry.specs.declared.calls.ask.Ask.{Ask}
use Rattle.atspi_registry.specs.declared.calls.ask.Ask.TheVariants.{Name, ChildCount}
use Rattle.atspi_registry.specs.declared.calls.ask.Ask.TheVariants.{AllProperties, NoProperties}
use Rattle.atspi_protocol.specs.members.Objects.{registry_root}

-- a property that is asked for is one of the root's, or the error tells that it is none
abbrev pub IsProperty : Result Ask CallError → Result PropertyLine (List ℕ) → Type 0
IsProperty (Ok Name) found = IsOkAnd found (λ l. (l.property ≡ properties.Name) × (l.is_settable ≡ false))
IsProperty (Ok ChildCount) found = IsOkAnd found (λ l. (l.property ≡ properties.ChildCount) × (l.is_settable ≡ false))
IsProperty (Ok _) found = ⊥
IsProperty (Err error) found = found ≡ Err (error_word error)

-- all properties of an interface are the root's, or none
abbrev pub AreProperties : Result Ask CallError → Result (List PropertyLine) (List ℕ) → Type 0
AreProperties (Ok AllProperties) found = found ≡ Ok registry_root.properties
AreProperties (Ok NoProperties) found = found ≡ Ok []
AreProperties (Ok _) found = ⊥
AreProperties (Err error) found = found ≡ Err (error_word error)

-- why it cannot be set
abbrev pub refusal_of : Result Ask CallError → CallError
refusal_of (Ok ask) = PropertyReadOnly
refusal_of (Err error) = error
