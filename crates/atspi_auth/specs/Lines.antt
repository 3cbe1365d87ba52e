-- The lines of some bytes. A line ends in CR LF.
use Rattle.std.specs.Prelude.{◌≡◌, ℕ, ◌==◌, ◌&&◌, Bool, false, if◌then◌else◌, List, [], ◌∷◌, ◌++◌}

-- CR LF
abbrev pub end_of_line : List ℕ
end_of_line = 13 ∷ 10 ∷ []

-- the whole lines, each without its CR LF, and what has come of the next
pub record Lines : Type 0 where
  pub whole : List (List ℕ)
  pub rest : List ℕ

-- the lines with one more byte in front
abbrev pub onto : ℕ → List (List ℕ) → List ℕ → Lines
onto b [] rest = record { whole = []; rest = b ∷ rest }
onto b (line ∷ lines) rest = record { whole = (b ∷ line) ∷ lines; rest = rest }

-- the lines of these bytes
unfoldable pub lines_of : List ℕ → Lines
lines_of [] = record { whole = []; rest = [] }
lines_of (b ∷ []) = record { whole = []; rest = b ∷ [] }
lines_of (b ∷ c ∷ more) =
    if b == 13 && c == 10 then record { whole = [] ∷ (lines_of more).whole; rest = (lines_of more).rest }
    else onto b (lines_of (c ∷ more)).whole (lines_of (c ∷ more)).rest

-- no line ends in these bytes
abbrev pub HasNoEnd : List ℕ → Type 0
HasNoEnd bytes = (lines_of bytes).whole ≡ []

-- the bytes of whole lines and of a rest
unfoldable pub joined : List (List ℕ) → List ℕ → List ℕ
joined [] rest = rest
joined (line ∷ lines) rest = line ++ (end_of_line ++ joined lines rest)

-- the last byte is CR
unfoldable pub ends_in_return : List ℕ → Bool
ends_in_return [] = false
ends_in_return (b ∷ []) = b == 13
ends_in_return (b ∷ c ∷ more) = ends_in_return (c ∷ more)
