-- How many bytes a message has, as it is told, and the messages that can have very many.
use Rattle.std.specs.Prelude.{◌≡◌, ℕ, min, List, [], ◌∷◌, map}
use Rattle.atspi_types.specs.Kinds.{text}
use Rattle.atspi_types.specs.Data.{text_data, array_data, items_of}
use Rattle.atspi_message.specs.Envelope.{Envelope}

-- a number of bytes as it is told: 4,294,967,295 at most, the last of 32 bits
abbrev pub told : ℕ → ℕ
told n = min n 4294967295

-- the body is one list of texts
abbrev pub ListsTexts : Envelope → Type 0
ListsTexts e = (texts : List (List ℕ)) × (e.body ≡ array_data text (items_of (map text_data texts)) ∷ [])
