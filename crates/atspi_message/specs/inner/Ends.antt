-- Where each field of a header ends that is written, so that its length is known where nothing is written.
use Rattle.std.specs.Prelude.{ℕ, ◌+◌, List, [], ◌∷◌, length, Option, Some, None}
use Rattle.atspi_types.specs.Data.{Data, items_of, types_of}
use Rattle.atspi_types.specs.Signatures.{signature_bytes}
use Rattle.atspi_marshal.specs.Input.{aligned}

-- A field begins at the first multiple of 8. One of a text or a path has its code and its type, a count, the bytes and
-- a zero byte,
abbrev pub name_end : ℕ → Option (List ℕ) → ℕ
name_end at None = at
name_end at (Some name) = aligned 8 at + 9 + length name

-- one of a number its code and its type, and the number,
abbrev pub number_end : ℕ → Option ℕ → ℕ
number_end at None = at
number_end at (Some n) = aligned 8 at + 8

-- and that of the types of a body its code and its type, a count, the types and a zero byte
abbrev pub types_end : ℕ → List Data → ℕ
types_end at [] = at
types_end at (d ∷ ds) = aligned 8 at + 6 + length (signature_bytes (types_of (items_of (d ∷ ds))))
