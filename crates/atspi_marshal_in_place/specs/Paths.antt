-- A path, seen by each byte and the one behind it.
use Rattle.std.specs.Prelude.{ℕ, zero, suc, ◌+◌, ◌-◌, Bool, true, not, ◌&&◌, ◌||◌, ◌==◌, List, length}
use Rattle.std.specs.List.{slice_index}
use Rattle.atspi_base.specs.valid_names.Elements.{is_plain}

-- a letter, a digit, _ or /
abbrev pub is_in_path : ℕ → Bool
is_in_path b = is_plain b || b == 47

-- no two / stand together
abbrev pub may_precede : ℕ → ℕ → Bool
may_precede b next = is_in_path b && not (b == 47 && next == 47)

-- each of n bytes from a place on, before the one behind it
abbrev pub precede : ℕ → ℕ → List ℕ → Bool
precede at zero bytes = true
precede at (suc n) bytes = precede at n bytes
    && may_precede (slice_index bytes (at + n)) (slice_index bytes (at + n + 1))

-- it begins with /, and ends with another byte
abbrev pub is_long_path : List ℕ → Bool
is_long_path bytes = slice_index bytes 0
    == 47 && (may_precede (slice_index bytes (length bytes - 1)) 47 && precede 0 (length bytes - 1) bytes)
