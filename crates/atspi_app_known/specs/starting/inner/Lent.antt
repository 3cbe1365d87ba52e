-- A text that lies in bytes, if it is there, by its characters.
use Rattle.std.specs.Prelude.{ℕ, List, Option, None, Some, chars}
use Rattle.std.specs.Borrow.{Bor}

abbrev pub chars_or_none : Option (Bor (List ℕ)) → Option (List ℕ)
chars_or_none None = None
chars_or_none (Some text) = Some (chars text.now)
