-- How a shown row is written: `| NODE PARENT INDEX ROLE STATES NAME DESCRIPTION KINDS TEXT CARET COLUMNS`.
use Rattle.std.specs.Prelude.{◌≡◌, ◌⊎◌, ◌<◌, ◌^◌, ℕ, ◌/◌, ◌%◌, ◌==◌, cond, List, [], ◌∷◌, ◌++◌, length, drop, Option}
use Rattle.std.specs.Prelude.{None, Some, codes, bytes_eq}
use Rattle.std.specs.Fmt.{decimal, signed_decimal}
use Rattle.std.specs.Str.Parse.{digits_value}
use Rattle.atspi_base.specs.Digits.{hex_digits}
use Rattle.atspi_tree_model.specs.declared.view.Part.{Part}
use Rattle.atspi_tree_model.specs.declared.view.Part.TheVariants.{Absent, Unknown, Known}
use Rattle.atspi_tree_model.specs.declared.view.NumPart.{NumPart}
use Rattle.atspi_tree_model.specs.declared.view.NumPart.TheVariants.{Absent as NoNumber, Unknown as UnknownNumber}
use Rattle.atspi_tree_model.specs.declared.view.NumPart.TheVariants.{Known as KnownNumber}
use Rattle.atspi_tree_model.specs.Path.{base_path, path_of}
use Rattle.atspi_script_lines.specs.Words.{Word, literal, role_name, quote}
use Rattle.atspi_trace_events.specs.declared.shown.ShownRow.{ShownRow}
use Rattle.atspi_trace_texts.specs.Written.{words_text}

-- the number that a path ends with, where it is the path of a node but the root
unfoldable pub last_number : List ℕ → ℕ
last_number path = digits_value 10 (drop (length base_path) path)

-- a node by its path: the root as `root`, another node of the application by its number, and any other path as it is
unfoldable pub node_text : List ℕ → List ℕ
node_text path =
    cond (bytes_eq path (path_of 0)) (codes "root")
    (cond (bytes_eq path (path_of (last_number path))) (decimal (last_number path)) path)

-- what the path of a node has behind that: `root`, or a number from 1 on
abbrev pub IsNodeWord : List ℕ → Type 0
IsNodeWord word = (word ≡ codes "root") ⊎ ((n : ℕ) × (n < 2 ^ 32) × (0 < n) × (word ≡ decimal n))

-- a node's parent; the root has none
abbrev pub parent_text : Option (List ℕ) → List ℕ
parent_text None = codes "-"
parent_text (Some path) = node_text path

-- a letter where the number is odd
abbrev pub letter_if_odd : ℕ → ℕ → List ℕ
letter_if_odd letter n = cond (n % 2 == 1) (letter ∷ []) []

-- the interfaces by their bits, the least first: T Text, E EditableText, L Selection, B Table, A Action; `-` where
-- there are none
abbrev pub kinds_text : ℕ → List ℕ
kinds_text faces =
    cond (faces % 32 == 0) (codes "-")
    (letter_if_odd 84 faces
    ++ (letter_if_odd 69 (faces / 2)
    ++ (letter_if_odd 76 (faces / 4) ++ (letter_if_odd 66 (faces / 8) ++ letter_if_odd 65 (faces / 16)))))

-- a text: `-` where there is none, `?` where it is not known
abbrev pub part_word : Part → Word
part_word Absent = literal (codes "-")
part_word Unknown = literal (codes "?")
part_word (Known text) = quote text

-- a number, the same way
abbrev pub number_text : NumPart → List ℕ
number_text NoNumber = codes "-"
number_text UnknownNumber = codes "?"
number_text (KnownNumber n) = decimal n

-- a row's words
abbrev pub row_form : ShownRow → List Word
row_form shown =
    literal (codes "|") ∷ literal (node_text shown.row.path) ∷ literal (parent_text shown.parent)
    ∷ literal (signed_decimal shown.index) ∷ role_name shown.row.role ∷ literal (hex_digits 16 shown.row.states)
    ∷ quote shown.row.name ∷ quote shown.row.description ∷ literal (kinds_text shown.row.faces)
    ∷ part_word shown.row.text ∷ literal (number_text shown.row.caret) ∷ literal (number_text shown.row.columns) ∷ []

-- a row's line
abbrev pub row_line : ShownRow → List ℕ
row_line shown = words_text (row_form shown)
