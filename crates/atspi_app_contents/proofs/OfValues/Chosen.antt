-- Nodes that are selected, one after the other.
use Rattle.std.proofs.Common.{◌≡◌, ℕ, zero, suc, ◌+◌, ◌-◌, ◌<◌, ◌≤◌, Bool, true, false, cond, List, [], ◌∷◌, Some, None, length, drop, get_or, refl, sym, ap, ◌∙◌, arith}
use Rattle.std.specs.Prelude.{slice_get, count_by}
use Rattle.std.proofs.lemmas.List.Sums.{length-filter, count_by-le-length}
use Rattle.std.proofs.lemmas.List.{drop_more}
use Rattle.atspi_tree_model.specs.Forest.{Forest}
use Rattle.atspi_tree_model.specs.Row.{ShapeRow}
use Rattle.atspi_app_contents.specs.values.Numbers.{is_selected, selected_among}

-- what is selected from an index on
from_there : (f : Forest ShapeRow) (ms : List ℕ) (i : ℕ) (b : Bool) → i < length ms → is_selected f (get_or ms i 0) ≡ b
    → selected_among f (drop i ms) ≡ cond b (get_or ms i 0 ∷ selected_among f (drop (i + 1) ms)) (selected_among f (drop (i + 1) ms))
from_there f ms i b l e =
    ap (selected_among f) (drop_more ms i 0 l)
    ∙ ap (λ d. cond d (get_or ms i 0 ∷ selected_among f (drop (i + 1) ms)) (selected_among f (drop (i + 1) ms))) e

pub passed : (f : Forest ShapeRow) (ms : List ℕ) (i place left : ℕ) → i < length ms → slice_get (selected_among f ms) place ≡ slice_get (selected_among f (drop i ms)) left
    → is_selected f (get_or ms i 0) ≡ false → slice_get (selected_among f ms) place ≡ slice_get (selected_among f (drop (i + 1) ms)) left
passed f ms i place left l so e = so ∙ ap (λ (ns : List ℕ). slice_get ns left) (from_there f ms i false l e)

pub counted : (f : Forest ShapeRow) (ms : List ℕ) (i place left : ℕ) → i < length ms → slice_get (selected_among f ms) place ≡ slice_get (selected_among f (drop i ms)) left
    → is_selected f (get_or ms i 0) ≡ true → (left ≡ 0 → ⊥) → slice_get (selected_among f ms) place ≡ slice_get (selected_among f (drop (i + 1) ms)) (left - 1)
counted f ms i place zero l so e ne = absurd (ne refl)
counted f ms i place (suc k) l so e ne =
    let one : k ≡ suc k - 1 = omega arith in
    so ∙ ap (λ (ns : List ℕ). slice_get ns (suc k)) (from_there f ms i true l e) ∙ ap (slice_get (selected_among f (drop (i + 1) ms))) one

pub reached : (f : Forest ShapeRow) (ms : List ℕ) (i place left : ℕ) → i < length ms → slice_get (selected_among f ms) place ≡ slice_get (selected_among f (drop i ms)) left
    → is_selected f (get_or ms i 0) ≡ true → left ≡ 0 → Some (get_or ms i 0) ≡ slice_get (selected_among f ms) place
reached f ms i place left l so e g =
    sym (so ∙ ap (λ (ns : List ℕ). slice_get ns left) (from_there f ms i true l e)
    ∙ ap (slice_get (get_or ms i 0 ∷ selected_among f (drop (i + 1) ms))) g)

dropped : (ms : List ℕ) (i : ℕ) → length ms ≤ i → drop i ms ≡ []
dropped [] zero l = refl
dropped [] (suc i) l = refl
dropped (m ∷ ms) zero l = absurd (omega (arith, l))
dropped (m ∷ ms) (suc i) l = dropped ms i (omega (arith, l))

pub ended : (f : Forest ShapeRow) (ms : List ℕ) (i place left : ℕ) → length ms ≤ i → slice_get (selected_among f ms) place ≡ slice_get (selected_among f (drop i ms)) left
    → None ≡ slice_get (selected_among f ms) place
ended f ms i place left l so = sym (so ∙ ap (λ (ns : List ℕ). slice_get (selected_among f ns) left) (dropped ms i l))

pub count_is : (f : Forest ShapeRow) (ms : List ℕ) → count_by (is_selected f) ms ≡ length (selected_among f ms)
count_is f ms = sym (length-filter (is_selected f) ms)

pub count_within : (f : Forest ShapeRow) (ms : List ℕ) → count_by (is_selected f) ms ≤ length ms
count_within f ms = count_by-le-length (is_selected f) ms
