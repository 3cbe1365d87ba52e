-- What the registry reads of messages that are no calls.
use Rattle.std.specs.Prelude.{◌≡◌, ◌==◌, ◌&&◌, ℕ, Bool, true, false, List, [], ◌∷◌, Option, None, Some, chars, codes}
use Rattle.std.specs.Borrow.{Bor}
use Rattle.atspi_types.specs.Data.{Data, text_data}
use Rattle.atspi_message.specs.Envelope.{Envelope}
use Rattle.atspi_protocol.specs.ends.Places.{bus}
use Rattle.atspi_protocol.specs.members.Asked.{is_text}
use Rattle.atspi_protocol.specs.registering.Steps.{is_from_bus, is_reply_to}

-- a text that is lent from bytes, as its characters
abbrev pub lent_text : Option (Bor (List ℕ)) → Option (List ℕ)
lent_text None = None
lent_text (Some name) = Some (chars name.now)

-- it is a return to the call with this number
abbrev pub is_return : Option ℕ → Envelope → Bool
is_return hello e = e.kind == 2 && is_reply_to hello e.reply

-- it is the bus's news of a name's owners
abbrev pub is_owner_news : Envelope → Bool
is_owner_news e = e.kind
    == 4 && (is_from_bus e && (is_text e.interface bus && is_text e.member (codes "NameOwnerChanged")))

-- the first of the values is a text
abbrev pub begins_with_text : List Data → Bool
begins_with_text (text_data cs ∷ ds) = true
begins_with_text ds = false

-- a text came, and behind it stand the others; or the first value is none
abbrev pub TextComes : Option (Bor (List ℕ)) → List Data → List Data → Type 0
TextComes (Some s) old new = old ≡ text_data (chars s.now) ∷ new
TextComes None old new = begins_with_text old ≡ false
