-- The rows that a walk shows are the labels in preorder; the first wish of an application.
use Rattle.std.proofs.Common.{◌≡◌, ℕ, suc, false, List, ◌∷◌, ◌++◌, map, Option, Some, None, refl, sym, ap, ◌∙◌}
use Rattle.std.specs.Option.{option_map}
use Rattle.std.proofs.lemmas.List.{map-append}
use Rattle.atspi_tree_model.specs.declared.view.Row.{Row}
use Rattle.atspi_tree_model.specs.Forest.{Forest, nil, tree, labels, relabel, seats}
use Rattle.atspi_cache_arena.specs.Sights.{Sight, sight, sights}
use Rattle.atspi_protocol.specs.following.ReaderState.{Followed}
use Rattle.atspi_protocol.specs.following.Wishes.{wishes_of}
use Rattle.atspi_reader_known.specs.Wanted.{first, first_wanted, part_question}
use Rattle.atspi_reader_known.proofs.Parts.{first_rows}

abbrev pub row_of_sight : Sight → Row
row_of_sight s = s.row

sight_row : (up : Option (List ℕ)) (i : ℕ) (row : Row) → (sight (up, i, row)).row ≡ row
sight_row None i row = refl
sight_row (Some up) i row = refl

abbrev name_of : Row → Option (List ℕ)
name_of row = Some row.path

rows_seats : (up : Option (List ℕ)) (i : ℕ) (f : Forest Row) → map row_of_sight (map sight (seats name_of up i f)) ≡ labels f
rows_seats up i nil = refl
rows_seats up i (tree a c r) =
    ap (λ (row : Row). row ∷ map row_of_sight (map sight (seats name_of (name_of a) 0 c ++ seats name_of up (suc i) r))) (sight_row up i a)
    ∙ ap (λ (rows : List Row). a ∷ rows) (
    ap (map row_of_sight) (map-append sight (seats name_of (name_of a) 0 c) (seats name_of up (suc i) r))
    ∙ map-append row_of_sight (map sight (seats name_of (name_of a) 0 c)) (map sight (seats name_of up (suc i) r))
    ∙ ap (λ (rows : List Row). rows ++ map row_of_sight (map sight (seats name_of up (suc i) r))) (rows_seats (name_of a) 0 c)
    ∙ ap (λ (rows : List Row). labels c ++ rows) (rows_seats up (suc i) r))

pub rows_shown : (v : Forest Row) → map row_of_sight (sights v) ≡ labels v
rows_shown v = rows_seats None 0 v

pub labels-relabel : {A B : Type 0} (h : A → B) (f : Forest A) → labels (relabel h f) ≡ map h (labels f)
labels-relabel h nil = refl
labels-relabel h (tree a c r) =
    ap (λ (xs : List _). h a ∷ (xs ++ labels (relabel h r))) (labels-relabel h c)
    ∙ ap (λ (xs : List _). h a ∷ (map h (labels c) ++ xs)) (labels-relabel h r)
    ∙ ap (λ (xs : List _). h a ∷ xs) (sym (map-append h (labels c) (labels r)))

-- the first wish of a held application that needs no loading
pub first_held : (app : Followed) (v : Forest Row) → app.view ≡ Some v → app.reload ≡ false
    → first (wishes_of app) ≡ option_map (part_question app.name) (first_wanted app.refused (labels v))
first_held app v e f = rw (e, f) (first_rows app (labels v))
