-- Names of a header: they are text, and each is of its rule.
use Rattle.std.proofs.Common.{◌≡◌, ℕ, List, Option, Some, None, Bool, true, false, refl, subst}
use Rattle.std.specs.Prelude.{◌&&◌, IfSome}
use Rattle.std.specs.Borrow.{Bor}
use Rattle.std.specs.Str.{IsUtf8}
use Rattle.std.proofs.lemmas.Str.{IsUtf8-from_ascii}
use Rattle.atspi_base.specs.valid_names.Names.{is_path, is_interface, is_member, is_bus_name, IsPath, IsInterface, IsMember, IsBusName}
use Rattle.atspi_base.proofs.OfValidNames.NameLemmas.{IsPath-from_test, IsInterface-from_test, IsMember-from_test, IsBusName-from_test, IsAscii-IsPath, IsAscii-IsInterface, IsAscii-IsMember, IsAscii-IsBusName, is_path-from_IsPath, is_interface-from_IsInterface, is_member-from_IsMember, is_bus_name-from_IsBusName}
use Rattle.atspi_marshal.specs.declared.input.Bound.{Bound}
use Rattle.atspi_marshal.specs.Input.{Input}
use Rattle.atspi_message.specs.Envelope.{Envelope}
use Rattle.atspi_message.specs.Rules.{HasNames}
use Rattle.atspi_message.specs.inner.Reading.{is_name, name_at, value_at}
use Rattle.atspi_message_in_place.specs.declared.code.NameCode.{NameCode}
use Rattle.atspi_message_in_place.specs.declared.code.NameCode.TheVariants.{Path, Interface, Member, Error, Destination, Sender}
use Rattle.atspi_message_in_place.specs.inner.Codes.{name_code}
use Rattle.atspi_message_in_place.specs.Names.{fits, are_named}
use Rattle.atspi_message_in_place.specs.View.{bytes_of}

-- a name of any rule is ASCII
pub name_is_text : (c : NameCode) (bytes : List ℕ) → is_name (name_code c) bytes ≡ true → IsUtf8 bytes
name_is_text Path bytes e = IsUtf8-from_ascii bytes (IsAscii-IsPath bytes (IsPath-from_test bytes e))
name_is_text Interface bytes e = IsUtf8-from_ascii bytes (IsAscii-IsInterface bytes (IsInterface-from_test bytes e))
name_is_text Member bytes e = IsUtf8-from_ascii bytes (IsAscii-IsMember bytes (IsMember-from_test bytes e))
name_is_text Error bytes e = IsUtf8-from_ascii bytes (IsAscii-IsInterface bytes (IsInterface-from_test bytes e))
name_is_text Destination bytes e = IsUtf8-from_ascii bytes (IsAscii-IsBusName bytes (IsBusName-from_test bytes e))
name_is_text Sender bytes e = IsUtf8-from_ascii bytes (IsAscii-IsBusName bytes (IsBusName-from_test bytes e))

-- the value of such a field is the name
pub value_is_name : (c : NameCode) (i : Input) (b : Bound) (at : ℕ) → value_at i b (name_code c) at ≡ name_at (name_code c) i b at
value_is_name Path i b at = refl
value_is_name Interface i b at = refl
value_is_name Member i b at = refl
value_is_name Error i b at = refl
value_is_name Destination i b at = refl
value_is_name Sender i b at = refl

-- a name that is there is of the rule
fits_from : (rule : List ℕ → Bool) (P : List ℕ → Type 0) → ((bytes : List ℕ) → P bytes → rule bytes ≡ true) → (o : Option (Bor (List ℕ))) (bytes : Option (List ℕ)) → bytes ≡ bytes_of o → IfSome bytes P → fits rule o ≡ true
fits_from rule P test (Some name) (Some bytes) e h = let same : bytes ≡ name.now = cc in test name.now (let Q : List ℕ → Type 0 = P in subst Q same h)
fits_from rule P test (Some name) None e h = absurd cc
fits_from rule P test None bytes e h = refl

all_six : (a b c d e f : Bool) → a ≡ true → b ≡ true → c ≡ true → d ≡ true → e ≡ true → f ≡ true → (a && (b && (c && (d && (e && f))))) ≡ true
all_six a b c d e f p q r s t u = rw (p, q, r, s, t, u) refl

-- the names of a message are named
pub named_from : (p i m e d s : Option (Bor (List ℕ))) (envelope : Envelope) → HasNames envelope → envelope.path ≡ bytes_of p → envelope.interface ≡ bytes_of i → envelope.member ≡ bytes_of m → envelope.error ≡ bytes_of e
    → envelope.destination ≡ bytes_of d → envelope.sender ≡ bytes_of s → are_named p i m e d s ≡ true
named_from p i m e d s envelope names a b c f g h =
    all_six _ _ _ _ _ _ (fits_from is_path IsPath is_path-from_IsPath p envelope.path a names.path) (fits_from is_interface IsInterface is_interface-from_IsInterface i envelope.interface b names.interface)
    (fits_from is_member IsMember is_member-from_IsMember m envelope.member c names.member) (fits_from is_interface IsInterface is_interface-from_IsInterface e envelope.error f names.error)
    (fits_from is_bus_name IsBusName is_bus_name-from_IsBusName d envelope.destination g names.destination) (fits_from is_bus_name IsBusName is_bus_name-from_IsBusName s envelope.sender h names.sender)

-- each name of several is of its rule
and_parts : (a b : Bool) → (a && b) ≡ true → (a ≡ true) × (b ≡ true)
and_parts true b h = (refl, h)
and_parts false b h = absurd cc

pub record EachNamed (p i m e d s : Option (Bor (List ℕ))) : Type 0 where
  pub path : fits is_path p ≡ true
  pub interface : fits is_interface i ≡ true
  pub member : fits is_member m ≡ true
  pub error : fits is_interface e ≡ true
  pub destination : fits is_bus_name d ≡ true
  pub sender : fits is_bus_name s ≡ true

pub each_named : (p i m e d s : Option (Bor (List ℕ))) → are_named p i m e d s ≡ true → EachNamed p i m e d s
each_named p i m e d s h =
    let h1 = and_parts (fits is_path p) _ h in
    let h2 = and_parts (fits is_interface i) _ h1.1 in
    let h3 = and_parts (fits is_member m) _ h2.1 in
    let h4 = and_parts (fits is_interface e) _ h3.1 in
    let h5 = and_parts (fits is_bus_name d) (fits is_bus_name s) h4.1 in
    record { path = h1.0; interface = h2.0; member = h3.0; error = h4.0; destination = h5.0; sender = h5.1 }
