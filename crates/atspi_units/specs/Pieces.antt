-- The piece that holds a character, as a value: none where no piece does.
use Rattle.std.specs.Prelude.{ℕ, ◌+◌, nat_lt, List, [], ◌∷◌, length, Option, None, Some, if◌then◌else◌}

-- its characters; so many characters stand before the first of them, and before the next piece
pub record Piece : Type 0 where
  pub characters : List ℕ
  pub start : ℕ
  pub end : ℕ

-- the first piece begins behind so many characters
abbrev pub piece_from : ℕ → List (List ℕ) → ℕ → Option Piece
piece_from start [] at = None
piece_from start (piece ∷ pieces) at =
    let end = start + length piece in
    if nat_lt at end then Some (record { characters = piece; start = start; end = end }) else piece_from end pieces at

abbrev pub piece_at : List (List ℕ) → ℕ → Option Piece
piece_at pieces at = piece_from 0 pieces at
