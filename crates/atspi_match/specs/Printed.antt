-- How a match rule is printed (D-Bus Specification, "Match Rules"): the keys in their order, each value in apostrophes.
use Rattle.std.specs.Prelude.{ℕ, ◌==◌, List, [], ◌∷◌, ◌++◌, if◌then◌else◌, map, flat_map}
use Rattle.std.specs.List.{join_with_byte}
use Rattle.atspi_match.specs.declared.condition.Condition.{Condition}
use Rattle.atspi_match.specs.Conditions.{key_text, value_text}

-- a byte inside apostrophes; an apostrophe is '\''
abbrev pub quoted_byte : ℕ → List ℕ
quoted_byte b = if b == 39 then 39 ∷ 92 ∷ 39 ∷ 39 ∷ [] else b ∷ []

-- bytes in apostrophes
abbrev pub in_quotes : List ℕ → List ℕ
in_quotes bytes = 39 ∷ (flat_map quoted_byte bytes ++ 39 ∷ [])

-- a key, `=` and its value
abbrev pub printed_condition : Condition → List ℕ
printed_condition c = key_text c ++ 61 ∷ in_quotes (value_text c)

-- the conditions, joined by commas
abbrev pub printed : List Condition → List ℕ
printed rule = join_with_byte 44 (map printed_condition rule)
