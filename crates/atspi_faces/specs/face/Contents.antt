-- The contents of one node, and what a change makes of them.
use Rattle.std.specs.Prelude.{◌≡◌, ℕ, ◌+◌, ◌-◌, ◌≤◌, ◌<◌, List, [], ◌++◌, length, take, drop, slice_index_or}
use Rattle.atspi_tree_model.specs.declared.contents.FaceKind.{FaceKind}
use Rattle.atspi_tree_model.specs.declared.contents.FaceKind.TheVariants.{Chars as chars_kind, Grid as grid_kind}
use Rattle.atspi_tree_model.specs.declared.contents.FaceKind.TheVariants.{Deeds as deeds_kind}
use Rattle.atspi_tree_model.specs.declared.contents.FaceData.{FaceData}
use Rattle.atspi_tree_model.specs.declared.contents.FaceData.TheVariants.{Chars, Grid, Deeds}
use Rattle.atspi_faces.specs.declared.face.change.Change.{Change}
use Rattle.atspi_faces.specs.declared.face.change.Change.TheVariants.{Insert, Delete, Caret, Marks}

abbrev pub kind_of : FaceData → FaceKind
kind_of (Chars text caret marks) = chars_kind
kind_of (Grid columns) = grid_kind
kind_of (Deeds names) = deeds_kind

-- how many characters, columns or actions
abbrev pub count_of : FaceData → ℕ
count_of (Chars text caret marks) = length text
count_of (Grid columns) = columns
count_of (Deeds names) = length names

-- the caret of a text
abbrev pub caret_of : FaceData → ℕ
caret_of (Chars text caret marks) = caret
caret_of (Grid columns) = 0
caret_of (Deeds names) = 0

-- the text selections of a text
abbrev pub marks_of : FaceData → List (ℕ × ℕ)
marks_of (Chars text caret marks) = marks
marks_of (Grid columns) = []
marks_of (Deeds names) = []

-- the characters from one place up to another, or the name of an action
abbrev pub part_of : FaceData → ℕ → ℕ → List ℕ
part_of (Chars text caret marks) from to = take (to - from) (drop from text)
part_of (Grid columns) from to = []
part_of (Deeds names) from to = slice_index_or names from []

-- such a part may be asked for
abbrev pub IsPart : FaceData → ℕ → ℕ → Type 0
IsPart (Chars text caret marks) from to = (from ≤ to) × (to ≤ length text)
IsPart (Grid columns) from to = ⊥
IsPart (Deeds names) from to = from < length names

-- a change is of a text, is inside it, and leaves the caret inside
abbrev pub IsChange : FaceData → Change → Type 0
IsChange (Chars text caret marks) (Insert at more) = at ≤ length text
IsChange (Chars text caret marks) (Delete at len) = (at + len ≤ length text) × (caret + len ≤ length text)
IsChange (Chars text caret marks) (Caret to) = to ≤ length text
IsChange (Chars text caret marks) (Marks ranges) = Unit {0}
IsChange (Grid columns) change = ⊥
IsChange (Deeds names) change = ⊥

-- the contents after a change
abbrev pub changed : FaceData → Change → FaceData
changed (Chars text caret marks) (Insert at more) = Chars (take at text ++ (more ++ drop at text)) caret []
changed (Chars text caret marks) (Delete at len) = Chars (take at text ++ drop (at + len) text) caret []
changed (Chars text caret marks) (Caret to) = Chars text to marks
changed (Chars text caret marks) (Marks ranges) = Chars text caret ranges
changed (Grid columns) change = Grid columns
changed (Deeds names) change = Deeds names

-- a change that may want memory
abbrev pub TakesMemory : Change → Type 0
TakesMemory (Insert at more) = Unit {0}
TakesMemory (Delete at len) = ⊥
TakesMemory (Caret to) = ⊥
TakesMemory (Marks ranges) = 0 < length ranges

-- contents of a kind: the caret is inside the text, and a u32 counts what is there
pub record IsContents (kind : FaceKind) (what : FaceData) : Type 0 where
  pub of_kind : kind_of what ≡ kind
  pub caret_inside : caret_of what ≤ count_of what
  pub counted : count_of what < 4294967296
