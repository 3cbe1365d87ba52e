-- Values that are borrowed, as arguments.
use Rattle.std.specs.Prelude.{ℤ, ◌==◌, Bool, false, Option, None, Some}
use Rattle.atspi_types.specs.declared.borrowed.ValueRef.{ValueRef}
use Rattle.atspi_types.specs.declared.borrowed.ValueRef.TheVariants as refs

-- a signed number
abbrev pub signed_ref : ValueRef → Option ℤ
signed_ref (refs.I32 z) = Some z
signed_ref _ = None

-- the coordinate type of the screen
abbrev pub is_screen_ref : ValueRef → Bool
is_screen_ref (refs.U32 n) = n == 0
is_screen_ref _ = false
