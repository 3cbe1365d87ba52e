-- The first unknown part of a row, tried one after the other.
use Rattle.std.proofs.Common.{◌≡◌, ℕ, Bool, true, false, cond, not, List, [], ◌∷◌, ◌++◌, filter, Option, Some, None, refl, ap, ◌∙◌}
use Rattle.std.specs.Prelude.{◌&&◌, flat_map}
use Rattle.std.specs.Option.{option_map}
use Rattle.atspi_tree_model.specs.declared.view.Row.{Row}
use Rattle.atspi_tree_model.specs.Forest.{first_of}
use Rattle.atspi_protocol.specs.declared.news.part.PartName.{PartName}
use Rattle.atspi_protocol.specs.declared.news.part.PartName.TheVariants.{Text, Caret, Columns}
use Rattle.atspi_protocol.specs.declared.following.question.Question.{Question}
use Rattle.atspi_protocol.specs.declared.following.question.Question.TheVariants.{GetPart}
use Rattle.atspi_protocol.specs.following.ReaderState.{Followed}
use Rattle.atspi_protocol.specs.following.Wishes.{is_refused, unknown_if, row_wishes, text_is_unknown, number_is_unknown}
use Rattle.atspi_reader_known.specs.Wanted.{first, first_part, first_wanted, part_if, part_question, unrefused}
use Rattle.atspi_reader_known.proofs.Firsts.{first-append, first-map, first_of-map}

module _ (p : PartName → Bool) where
  last_part : (c : Bool) (x : PartName) → first (filter p (unknown_if c x)) ≡ part_if (c && p x) x None
  last_part false x = refl
  last_part true x = by (p x)
    where
      by : (t : Bool) → first (cond t (x ∷ []) []) ≡ part_if t x None
      by true = refl
      by false = refl

  one_part : (c : Bool) (x : PartName) (xs : List PartName) (o : Option PartName) → first (filter p xs) ≡ o
      → first (filter p (unknown_if c x ++ xs)) ≡ part_if (c && p x) x o
  one_part false x xs o e = e
  one_part true x xs o e = by (p x)
    where
      by : (t : Bool) → first (cond t (x ∷ filter p xs) (filter p xs)) ≡ part_if t x o
      by true = refl
      by false = e

pub first_unrefused : (refused : List (List ℕ × PartName)) (row : Row) → first (unrefused refused row) ≡ first_part refused row
first_unrefused refused row =
    let p = λ (part : PartName). not (is_refused refused row.path part) in
    one_part p (text_is_unknown row.text) Text _ _
    (one_part p (number_is_unknown row.caret) Caret _ _
    (last_part p (number_is_unknown row.columns) Columns))

-- the first wish about some rows
pub first_rows : (app : Followed) (rows : List Row) → first (flat_map (row_wishes app) rows) ≡ option_map (part_question app.name) (first_wanted app.refused rows)
first_rows app [] = refl
first_rows app (row ∷ rows) =
    first-append (row_wishes app row) (flat_map (row_wishes app) rows)
    ∙ ap (λ (o : Option Question). first_of o (first (flat_map (row_wishes app) rows))) (one_row (first_part app.refused row) (first_unrefused app.refused row))
    ∙ ap (first_of (option_map (part_question app.name) (option_map (λ (part : PartName). (row.path, part)) (first_part app.refused row)))) (first_rows app rows)
    ∙ first_of-map (part_question app.name) (option_map (λ (part : PartName). (row.path, part)) (first_part app.refused row)) (first_wanted app.refused rows)
  where
    one_row : (o : Option PartName) → first (unrefused app.refused row) ≡ o
        → first (row_wishes app row) ≡ option_map (part_question app.name) (option_map (λ (part : PartName). (row.path, part)) o)
    one_row o e = first-map (λ (part : PartName). GetPart app.name row.path part) (unrefused app.refused row) ∙ ap (option_map (λ (part : PartName). GetPart app.name row.path part)) e ∙ twice o
      where
        twice : (o : Option PartName) → option_map (λ (part : PartName). GetPart app.name row.path part) o ≡ option_map (part_question app.name) (option_map (λ (part : PartName). (row.path, part)) o)
        twice None = refl
        twice (Some part) = refl
