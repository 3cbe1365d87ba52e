-- The bytes that stand between quotes as they are.
use Rattle.std.specs.Prelude.{ℕ, Bool, not, ◌||◌}
use Rattle.atspi_base.specs.Quoted.{is_marked, is_control}

-- neither marked nor a control character
abbrev pub stands : ℕ → Bool
stands b = not (is_marked b || is_control b)
