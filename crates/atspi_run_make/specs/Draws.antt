-- The generator of `make`: its state after a draw, the number drawn, and what is drawn of a list.
use Rattle.std.specs.Prelude.{ℕ, ◌+◌, ◌*◌, ◌/◌, ◌%◌, List, length, slice_index}

abbrev pub next_state : ℕ → ℕ
next_state x = (x * 1103515245 + 12345) % 2147483648

abbrev pub drawn : ℕ → ℕ
drawn x = next_state x / 65536

-- the number of a list at an index that is drawn
abbrev pub drawn_of : List ℕ → ℕ → ℕ
drawn_of numbers x = slice_index numbers (drawn x % length numbers)
