-- A character is a piece by itself.
use Rattle.std.proofs.Common.{◌≡◌, ℕ, ◌+◌, ◌<◌, zero, suc, List, [], ◌∷◌, ◌++◌, length, take, drop, refl, sym, ap, subst, ◌∙◌, arith}
use Rattle.std.proofs.lemmas.List.{take-append-drop, length-take-le}
use Rattle.unicode_segmentation.specs.Segments.{cut}
use Rattle.atspi_units.specs.Units.{ends_unit, units, IsUnitAt}
use Rattle.atspi_units.specs.declared.grain.Grain.TheVariants.{Char}
use Rattle.atspi_units.proofs.CutLemmas.{onto, cut-single, unit_between}

split_at : (cs : List ℕ) (at : ℕ) → at < length cs → (c : ℕ) × (ys : List ℕ) × (drop at cs ≡ c ∷ ys)
split_at [] at h = absurd (omega arith)
split_at (c ∷ cs) zero h = (c, cs, refl)
split_at (c ∷ cs) (suc at) h = split_at cs at (omega arith)

pub char_is : (text : List ℕ) (at : ℕ) → at < length text → IsUnitAt (units Char text) at at (at + 1)
char_is text at h =
    let here = split_at text at h in
    let xs = take at text in
    let count : length xs ≡ at = length-take-le at text (omega (arith, h)) in
    let whole : xs ++ ((here.0 ∷ []) ++ here.1) ≡ text = ap (λ l. xs ++ l) (sym here.2) ∙ take-append-drop at text in
    let is = unit_between (ends_unit Char) xs (here.0 ∷ []) here.1 at (λ some. refl) refl (cut-single (ends_unit Char) (onto xs []) here.0 here.1)
    (omega (arith, count)) (omega (arith, count)) in
    let t : length xs + 1 ≡ at + 1 = omega (arith, count) in
    subst (λ x. IsUnitAt (units Char text) at x (at + 1)) count
    (subst (λ x. IsUnitAt (units Char text) at (length xs) x) t
    (subst (λ x. IsUnitAt (cut (ends_unit Char) [] x []) at (length xs) (length xs + 1)) whole is))
