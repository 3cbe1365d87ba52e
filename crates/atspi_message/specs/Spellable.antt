-- Messages that bytes spell as long as they are short.
use Rattle.std.specs.Prelude.{◌<◌, ◌≤◌, ◌^◌, ℕ, Some, List, length, IfSome}
use Rattle.atspi_types.specs.Data.{items_of, types_of}
use Rattle.atspi_base.specs.valid_names.Names.{IsBusName}
use Rattle.atspi_types.specs.Signatures.{IsSignature}
use Rattle.atspi_message.specs.Envelope.{Envelope}
use Rattle.atspi_message.specs.Rules.{MeetsRules, HasNames}
use Rattle.atspi_message.specs.Bytes.{FitsWire, IsMessage, rising_fields, written}
use Rattle.atspi_message.specs.Sits.{AllSit}

-- it keeps the rules and the names, its numbers are in their widths, and its values can be written wherever they stand
pub record IsSpellable (e : Envelope) : Type 0 where
  pub meets : MeetsRules e
  pub named : HasNames e
  pub kind : e.kind < 256
  pub flags : e.flags < 256
  pub serial : e.serial < 2 ^ 32
  pub reply : IfSome e.reply (λ n. n < 2 ^ 32)
  pub types : IsSignature (types_of (items_of e.body))
  pub body : AllSit (items_of e.body) 64

-- such a message, where what is written of it is at most 64 MiB, is what its bytes spell
abbrev pub ShortAreSpelled : Type 0
ShortAreSpelled = (e : Envelope) → IsSpellable e → length (written e) ≤ 67108864 → IsMessage e (written e)

-- so of one that passes a limit of the wire more than 64 MiB would be written
abbrev pub UnfitAreLong : Type 0
UnfitAreLong = (e : Envelope) → IsSpellable e → ¬ FitsWire e (rising_fields e) → 67108864 < length (written e)

-- a message that its bytes spell is one, and with another sender too
abbrev pub SpelledStaySpellable : Type 0
SpelledStaySpellable = (e : Envelope) (bytes : List ℕ) → IsMessage e bytes
    → IsSpellable e × ((name : List ℕ) → IsBusName name → IsSpellable (record e { sender = Some name }))
