-- Which words name no way and no units, and what the words of a line say.
use Rattle.std.proofs.Common.{◌≡◌, ℕ, List, ◌∷◌, ◌++◌, refl, ap, Option, None, Some, MatchOption}
use Rattle.std.specs.Prelude.{codes}
use Rattle.atspi_units.specs.declared.grain.Grain.{Grain}
use Rattle.atspi_units.specs.declared.grain.Grain.TheVariants as grains
use Rattle.atspi_cursors.specs.declared.reading.Way.{Way}
use Rattle.atspi_cursors.specs.declared.reading.Way.TheVariants.{Here, Next, Prev}
use Rattle.atspi_script_lines.specs.Words.{IsBehind, Leads, SpellsWords, literal}
use Rattle.atspi_script_lines.specs.inner.Reading.{HasNoSpace}
use Rattle.atspi_script_lines.proofs.LeadLemmas.{led, rest_of, word_is}
use Rattle.atspi_script_lines.proofs.SpaceLemmas.{tested_no_space}
use Rattle.atspi_browse.specs.UnitLine.{SpellsUnit, grain_word, unit_words, way_word}
use Rattle.atspi_browse.specs.declared.line.UnitLine.{UnitLine}

pub way_free : (way : Way) → HasNoSpace (way_word way)
way_free Here = tested_no_space (codes "here") refl
way_free Next = tested_no_space (codes "next") refl
way_free Prev = tested_no_space (codes "prev") refl

pub grain_free : (grain : Grain) → HasNoSpace (grain_word grain)
grain_free grains.Char = tested_no_space (codes "char") refl
grain_free grains.Word = tested_no_space (codes "word") refl
grain_free grains.Line = tested_no_space (codes "line") refl

pub no_way : (word rest bytes : List ℕ) → HasNoSpace word → Leads (literal word) rest bytes → (word ≡ codes "here" → ⊥) → (word ≡ codes "next" → ⊥) → (word ≡ codes "prev" → ⊥)
    → (way : Way) (more : List ℕ) → Leads (literal (way_word way)) more bytes → ⊥
no_way word rest bytes free p here next prev Here more q = here (word_is word rest more bytes (literal (codes "here")) free (way_free Here) p q)
no_way word rest bytes free p here next prev Next more q = next (word_is word rest more bytes (literal (codes "next")) free (way_free Next) p q)
no_way word rest bytes free p here next prev Prev more q = prev (word_is word rest more bytes (literal (codes "prev")) free (way_free Prev) p q)

pub no_grain : (word rest bytes : List ℕ) → HasNoSpace word → Leads (literal word) rest bytes → (word ≡ codes "char" → ⊥) → (word ≡ codes "word" → ⊥) → (word ≡ codes "line" → ⊥)
    → (grain : Grain) (more : List ℕ) → Leads (literal (grain_word grain)) more bytes → ⊥
no_grain word rest bytes free p char word_ line grains.Char more q = char (word_is word rest more bytes (literal (codes "char")) free (grain_free grains.Char) p q)
no_grain word rest bytes free p char word_ line grains.Word more q = word_ (word_is word rest more bytes (literal (codes "word")) free (grain_free grains.Word) p q)
no_grain word rest bytes free p char word_ line grains.Line more q = line (word_is word rest more bytes (literal (codes "line")) free (grain_free grains.Line) p q)

unit_free : HasNoSpace (codes "unit")
unit_free = tested_no_space (codes "unit") refl

-- the first word of bytes, and what follows it
first : (word rest bytes : List ℕ) → bytes ≡ word ++ rest → IsBehind rest → Leads (literal word) rest (32 ∷ bytes)
first word rest bytes all behind = record { spelling = word; spelled = refl; front = ap (λ l. 32 ∷ l) all; behind = behind }

-- bytes that begin with another word are no such line
pub not_unit : (word rest bytes : List ℕ) → bytes ≡ word ++ rest → HasNoSpace word → IsBehind rest → (word ≡ codes "unit" → ⊥) → (l : UnitLine) → SpellsUnit l bytes → ⊥
not_unit word rest bytes all free behind other l s = other (word_is word rest s.0 (32 ∷ bytes) (literal (codes "unit")) free unit_free (first word rest bytes all behind) s.1)

-- those that begin with it are one where the other words are
pub is_unit : (word rest bytes : List ℕ) (found : Option UnitLine) → bytes ≡ word ++ rest → HasNoSpace word → IsBehind rest → word ≡ codes "unit"
    → MatchOption found ((l : UnitLine) → SpellsWords (unit_words l) rest → ⊥) (λ l. SpellsWords (unit_words l) rest) → MatchOption found ((l : UnitLine) → SpellsUnit l bytes → ⊥) (λ l. SpellsUnit l bytes)
is_unit word rest bytes None all free behind unit h = λ l s. h l (rest_of (literal word) (literal (codes "unit")) rest (32 ∷ bytes) (unit_words l) (free, unit_free) (first word rest bytes all behind) s)
is_unit word rest bytes (Some l) all free behind unit h = (rest, led word rest (32 ∷ bytes) (literal (codes "unit")) unit (first word rest bytes all behind), h)
