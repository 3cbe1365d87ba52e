-- Which events a listener asks for by a pattern, a text of the form class:name:minor (AT-SPI2's registry interface).
use Rattle.std.specs.Prelude.{◌==◌, ◌&&◌, not, ℕ, ◌+◌, Bool, true, nat_le, List, [], ◌∷◌, map, filter, codes, bytes_eq}
use Rattle.std.specs.Prelude.{if◌then◌else◌}
use Rattle.std.specs.List.{before_first, after_first}

-- a letter of ASCII as a small one, and any other byte as it is
abbrev pub lowered : ℕ → ℕ
lowered b = if nat_le 65 b && nat_le b 90 then b + 32 else b

-- what is compared of a part: its bytes without dashes, in small letters
abbrev pub compared : List ℕ → List ℕ
compared part = map lowered (filter (λ b. not (b == 45)) part)

abbrev pub is_colon : ℕ → Bool
is_colon b = b == 58

-- an empty part covers all words; one that is missing is empty
abbrev pub part_covers : List ℕ → List ℕ → Bool
part_covers [] word = true
part_covers (b ∷ bytes) word = bytes_eq (compared (b ∷ bytes)) (compared word)

-- the first, the second and the third part of a pattern cover the class of all events here, an event's name and its
-- minor word
abbrev pub covers : List ℕ → List ℕ → List ℕ → Bool
covers pattern name minor =
    let rest = after_first is_colon pattern in
    part_covers (before_first is_colon pattern) (codes "object")
    && (part_covers (before_first is_colon rest) name
    && part_covers (before_first is_colon (after_first is_colon rest)) minor)
