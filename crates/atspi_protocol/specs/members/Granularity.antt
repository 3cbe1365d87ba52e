-- Which pieces of a text are asked for, by the numbers of AtspiTextGranularity.
use Rattle.std.specs.Prelude.{ℕ, ◌==◌, ◌||◌, Option, None, Some, if◌then◌else◌}
use Rattle.atspi_units.specs.declared.grain.Grain.{Grain}
use Rattle.atspi_units.specs.declared.grain.Grain.TheVariants.{Char, Word, Line}

-- 0 its characters, 1 its words, 3 its lines and 4 its paragraphs, which are lines here; sentences, which are 2, and
-- other numbers are not told
abbrev pub grain_of : ℕ → Option Grain
grain_of n =
    if n == 0 then Some Char else if n == 1 then Some Word else if (n == 3) || (n == 4) then Some Line else None
