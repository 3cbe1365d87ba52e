-- What a reader wants to know next.
use Rattle.std.specs.Prelude.{ℕ, Bool, true, false, ◌&&◌, not, List, [], ◌∷◌, ◌++◌, flat_map, filter, map, Option, Some}
use Rattle.std.specs.Prelude.{None, bytes_eq, if◌then◌else◌}
use Rattle.std.specs.List.{list_any}
use Rattle.atspi_tree_model.specs.declared.view.Row.{Row}
use Rattle.atspi_tree_model.specs.declared.view.Part.{Part}
use Rattle.atspi_tree_model.specs.declared.view.Part.TheVariants.{Unknown}
use Rattle.atspi_tree_model.specs.declared.view.NumPart.{NumPart}
use Rattle.atspi_tree_model.specs.declared.view.NumPart.TheVariants.{Unknown as UnknownNumber}
use Rattle.atspi_tree_model.specs.Forest.{Forest, labels}
use Rattle.atspi_protocol.specs.declared.news.part.PartName.{PartName}
use Rattle.atspi_protocol.specs.declared.news.part.PartName.TheVariants.{Text, Caret, Columns}
use Rattle.atspi_protocol.specs.declared.following.question.Question.{Question}
use Rattle.atspi_protocol.specs.declared.following.question.Question.TheVariants.{GetItems, GetPart}
use Rattle.atspi_protocol.specs.following.ReaderState.{Followed}

-- whether two parts are the same
abbrev pub same_part : PartName → PartName → Bool
same_part Text Text = true
same_part Caret Caret = true
same_part Columns Columns = true
same_part one other = false

-- whether an application would not tell a part of the row with this path
abbrev pub is_refused : List (List ℕ × PartName) → List ℕ → PartName → Bool
is_refused refused path part = list_any (λ (r : List ℕ × PartName). bytes_eq r.0 path && same_part r.1 part) refused

-- those that were refused of the rows with other paths
abbrev pub of_others : List ℕ → List (List ℕ × PartName) → List (List ℕ × PartName)
of_others path refused = filter (λ (r : List ℕ × PartName). not (bytes_eq r.0 path)) refused

-- a part that is there and not known
abbrev pub text_is_unknown : Part → Bool
text_is_unknown Unknown = true
text_is_unknown part = false

abbrev pub number_is_unknown : NumPart → Bool
number_is_unknown UnknownNumber = true
number_is_unknown part = false

-- the unknown parts of a row, in the order in which they are asked for
abbrev pub unknown_if : Bool → PartName → List PartName
unknown_if true part = part ∷ []
unknown_if false part = []

abbrev pub unknown_parts : Row → List PartName
unknown_parts row =
    unknown_if (text_is_unknown row.text) Text
    ++ (unknown_if (number_is_unknown row.caret) Caret
    ++ unknown_if (number_is_unknown row.columns) Columns)

-- the wishes about the rows of a held application that needs no loading: row by row in preorder, the refused ones left
-- out
abbrev pub row_wishes : Followed → Row → List Question
row_wishes app row =
    map (λ (part : PartName). GetPart app.name row.path part)
    (filter (λ (part : PartName). not (is_refused app.refused row.path part)) (unknown_parts row))

-- the wishes about an application: all of it, where it was not loaded or is to be loaded again
abbrev pub wishes_of : Followed → List Question
wishes_of app = by app.view
  where
    by : Option (Forest Row) → List Question
    by None = GetItems app.name ∷ []
    by (Some view) = if app.reload then GetItems app.name ∷ [] else flat_map (row_wishes app) (labels view)

-- all wishes, in the order of the applications
abbrev pub wishes : List Followed → List Question
wishes apps = flat_map wishes_of apps
