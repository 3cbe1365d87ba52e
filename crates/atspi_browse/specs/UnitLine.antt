-- The line `unit R A N WAY UNIT`: a reader reads a unit of the text of an application's node, at its cursor there; and
-- the line that it writes.
use Rattle.std.specs.Prelude.{ℕ, List, [], ◌∷◌, ◌-◌, take, drop, codes, Option, None, Some}
use Rattle.atspi_units.specs.declared.grain.Grain.{Grain}
use Rattle.atspi_units.specs.declared.grain.Grain.TheVariants as grains
use Rattle.atspi_cursors.specs.declared.reading.Way.{Way}
use Rattle.atspi_cursors.specs.declared.reading.Way.TheVariants.{Here, Next, Prev}
use Rattle.atspi_cursors.specs.declared.reading.Reading.{Reading}
use Rattle.atspi_script_lines.specs.Words.{Word, literal, number, app_name, reader_name, quote, SpellsWords}
use Rattle.atspi_trace_texts.specs.Written.{words_text}
use Rattle.atspi_trace_texts.specs.EventText.{ended}
use Rattle.atspi_browse.specs.declared.line.UnitLine.{UnitLine}

abbrev pub way_word : Way → List ℕ
way_word Here = codes "here"
way_word Next = codes "next"
way_word Prev = codes "prev"

abbrev pub grain_word : Grain → List ℕ
grain_word grains.Char = codes "char"
grain_word grains.Word = codes "word"
grain_word grains.Line = codes "line"

-- who reads, and in which text
abbrev pub text_named : UnitLine → List Word → List Word
text_named l words = reader_name l.reader ∷ app_name l.app ∷ number l.node ∷ words

-- the words of the line, behind `unit`
abbrev pub unit_words : UnitLine → List Word
unit_words l = text_named l (literal (way_word l.way) ∷ literal (grain_word l.grain) ∷ [])

abbrev pub unit_form : UnitLine → List Word
unit_form l = literal (codes "unit") ∷ unit_words l

-- the bytes, without their line feed, spell this line
abbrev pub SpellsUnit : UnitLine → List ℕ → Type 0
SpellsUnit l bytes = SpellsWords (unit_form l) (32 ∷ bytes)

-- WHAT IT WRITES: where the unit starts and where the next one does, and its characters; `end` where no unit is there
abbrev pub told_form : UnitLine → List ℕ → Option Reading → List Word
told_form l text None = literal (codes "unit") ∷ text_named l (literal (codes "end") ∷ [])
told_form l text (Some unit) =
    literal (codes "unit")
    ∷ text_named l
    (number unit.start ∷ number unit.end ∷ quote (take (unit.end - unit.start) (drop unit.start text)) ∷ [])

abbrev pub unit_text : UnitLine → List ℕ → Option Reading → List ℕ
unit_text l text unit = ended (words_text (told_form l text unit))
