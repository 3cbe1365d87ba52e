-- The first wish, and what it would be after a change that is planned.
use Rattle.std.specs.Prelude.{ℕ, Bool, cond, ◌&&◌, not, List, [], ◌∷◌, ◌++◌, filter, Option, Some, None, if◌then◌else◌}
use Rattle.std.specs.Option.{option_map}
use Rattle.std.specs.Borrow.{Bor}
use Rattle.atspi_tree_model.specs.declared.view.Row.{Row}
use Rattle.atspi_tree_model.specs.declared.news.News.{News}
use Rattle.atspi_tree_model.specs.declared.news.News.TheVariants.{ChildAdded, Item as NewItem}
use Rattle.atspi_tree_model.specs.Forest.{Forest, first_of, has, find}
use Rattle.atspi_tree_model.specs.News.{is_path, fresh}
use Rattle.atspi_speech.specs.Looked.{adds}
use Rattle.atspi_protocol.specs.declared.news.part.PartName.{PartName}
use Rattle.atspi_protocol.specs.declared.news.part.PartName.TheVariants.{Text, Caret, Columns}
use Rattle.atspi_protocol.specs.declared.following.question.Question.{Question}
use Rattle.atspi_protocol.specs.declared.following.question.Question.TheVariants.{GetItems, GetPart}
use Rattle.atspi_protocol.specs.following.ReaderState.{Followed}
use Rattle.atspi_protocol.specs.following.Wishes.{is_refused, unknown_parts, text_is_unknown, number_is_unknown}

-- the first of some
abbrev pub first : {A : Type 0} → List A → Option A
first [] = None
first (x ∷ xs) = Some x

-- the unknown parts of a row that were not refused
abbrev pub unrefused : List (List ℕ × PartName) → Row → List PartName
unrefused refused row = filter (λ (part : PartName). not (is_refused refused row.path part)) (unknown_parts row)

-- the first of them, tried one after the other
abbrev pub part_if : Bool → PartName → Option PartName → Option PartName
part_if wanted part other = if wanted then Some part else other

abbrev pub first_part : List (List ℕ × PartName) → Row → Option PartName
first_part refused row =
    part_if (text_is_unknown row.text && not (is_refused refused row.path Text)) Text
    (part_if (number_is_unknown row.caret && not (is_refused refused row.path Caret)) Caret
    (part_if (number_is_unknown row.columns && not (is_refused refused row.path Columns)) Columns None))

-- the first such part of some rows, with its row's path
abbrev pub first_wanted : List (List ℕ × PartName) → List Row → Option (List ℕ × PartName)
first_wanted refused [] = None
first_wanted refused (row ∷ rows) =
    first_of (option_map (λ (part : PartName). (row.path, part)) (first_part refused row)) (first_wanted refused rows)

-- a path that is lent, and a part
abbrev pub lent : Bor (List ℕ) × PartName → List ℕ × PartName
lent found = (found.0.now, found.1)

-- the question for a part
abbrev pub part_question : List ℕ → List ℕ × PartName → Question
part_question name found = GetPart name found.0 found.1

-- with more parts refused
abbrev pub refusing : List (List ℕ × PartName) → Followed → Followed
refusing more app = record app { refused = app.refused ++ more }

-- the first wish at a news of a held application without a wish, given the view before it
abbrev pub wish_at : Followed → Forest Row → News → Option Question
wish_at app view (ChildAdded child) = cond (has (is_path child) view) None (Some (GetItems app.name))
wish_at app view (NewItem item) =
    cond (adds app.root app.name (find (is_path item.object.path) view) (has (is_path item.parent.path) view) item)
    (option_map (GetPart app.name item.object.path) (first_part [] (fresh item)))
    None
wish_at app view news = None
