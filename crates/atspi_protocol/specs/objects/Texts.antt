-- The text of a node, and parts of it; places count characters from 0.
use Rattle.std.specs.Prelude.{ℕ, ℤ, pos, negsuc, ◌-◌, nat_le, List, [], ◌∷◌, length, take, drop, Option, None, Some}
use Rattle.std.specs.Prelude.{if◌then◌else◌}
use Rattle.atspi_types.specs.Data.{Data, text_data}
use Rattle.atspi_units.specs.Pieces.{Piece, piece_at}
use Rattle.atspi_units.specs.Units.{units}
use Rattle.atspi_units.specs.declared.grain.Grain.{Grain}
use Rattle.atspi_tree_model.specs.Row.{TextContents, TreeRow}
use Rattle.atspi_protocol.specs.members.Arguments.{int}
use Rattle.atspi_protocol.specs.objects.Values.{count_data}

-- a node without a text has an empty one here
abbrev pub text_of : TreeRow → TextContents
text_of row = there row.contents.text
  where
    there : Option TextContents → TextContents
    there None = record { characters = []; caret = 0; selections = [] }
    there (Some text) = text

-- The characters from one place up to another. One below 0 is the beginning as a start and the end as an end, and an
-- end behind the text is its end; where the start passes the end there are none.
abbrev pub part_of : List ℕ → ℤ → ℤ → List ℕ
part_of characters start end = let from = start_at start in take (end_at end - from) (drop from characters)
  where
    start_at : ℤ → ℕ
    start_at (pos n) = n
    start_at (negsuc n) = 0

    end_at : ℤ → ℕ
    end_at (pos n) = if nat_le n (length characters) then n else length characters
    end_at (negsuc n) = length characters

-- a character's code point, 0 where there is none
abbrev pub character_data : Option ℕ → Data
character_data None = count_data 0
character_data (Some c) = count_data c

-- the piece of a text that holds the character at a place, if there is one
abbrev pub piece_there : Option Grain → List ℕ → ℤ → Option Piece
piece_there (Some grain) characters (pos n) = piece_at (units grain characters) n
piece_there _ characters place = None

-- its characters, where it starts and where the next one does; no characters, and -1 twice, where there is none
abbrev pub piece_data : Option Piece → List Data
piece_data None = text_data [] ∷ int (negsuc 0) ∷ int (negsuc 0) ∷ []
piece_data (Some piece) = text_data piece.characters ∷ count_data piece.start ∷ count_data piece.end ∷ []

-- the ends of a selection, -1 where there is none
abbrev pub selection_data : Option (ℕ × ℕ) → List Data
selection_data None = int (negsuc 0) ∷ int (negsuc 0) ∷ []
selection_data (Some selection) = count_data selection.0 ∷ count_data selection.1 ∷ []
