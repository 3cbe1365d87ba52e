-- Quoted texts, as scripts and traces write them.
use Rattle.std.specs.Prelude.{ℕ, ◌+◌, ◌/◌, ◌%◌, ◌==◌, nat_lt, Bool, ◌||◌, List, [], ◌∷◌, ◌++◌, if◌then◌else◌}
use Rattle.std.specs.Prelude.{encode_utf8_all}
use Rattle.std.specs.List.{flat_map}

-- the lower-case digit of a number below 16
abbrev pub hex_digit : ℕ → ℕ
hex_digit n = if nat_lt n 10 then 48 + n else 87 + n

-- the quote and the backslash
abbrev pub is_marked : ℕ → Bool
is_marked b = (b == 34) || (b == 92)

-- U+0000 to U+001F and U+007F
abbrev pub is_control : ℕ → Bool
is_control b = nat_lt b 32 || (b == 127)

-- a byte between quotes: `\"` and `\\`, a control character as `\x` and two digits, any other as it is
abbrev pub escaped : ℕ → List ℕ
escaped b =
    if is_marked b then 92 ∷ b ∷ []
    else (if is_control b then 92 ∷ 120 ∷ hex_digit (b / 16) ∷ hex_digit (b % 16) ∷ [] else b ∷ [])

-- bytes between quotes
abbrev pub in_quotes : List ℕ → List ℕ
in_quotes bytes = 34 ∷ flat_map escaped bytes ++ 34 ∷ []

-- a text, in UTF-8 between quotes
abbrev pub quoted : List ℕ → List ℕ
quoted text = in_quotes (encode_utf8_all text)
