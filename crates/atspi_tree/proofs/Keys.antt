-- Keys of a table that are equal or differ, and what a cell says.
use Rattle.std.proofs.Common.{◌≡◌, ℕ, Bool, true, false, cond, Option, Some, refl, ap, ◌∙◌, subst, arith}
use Rattle.std.specs.Prelude.{◌==◌, IsSome}
use Rattle.std.specs.Option.{option_map}
use Rattle.std.specs.Ordering.{nat_cmp, is_eq}
use Rattle.std.proofs.lemmas.Bool.Decides.{nat_tests}
use Rattle.atspi_tree.specs.declared.cell.Cell.{Cell}
use Rattle.atspi_tree.specs.Table.{Kept, kept, SameCell}

pub is_same : (p n : ℕ) → is_eq (nat_cmp p n) ≡ true → p ≡ n
is_same p n e = grind (arith, nat_tests)

pub is_other : (p n : ℕ) → (n == p) ≡ false → is_eq (nat_cmp p n) ≡ false
is_other p n e = grind (arith, nat_tests)

-- what the cell that was found says
pub kept_is : (o : Option Cell) (n : ℕ) (cell : Cell) (k : Kept) → Some cell ≡ o → option_map (kept n) o ≡ Some k → kept n cell ≡ k
kept_is o n cell k e h = let z : Some (kept n cell) ≡ Some k = ap (option_map (kept n)) e ∙ h in cc

pub is_there : (o : Option Cell) (cell : Cell) → Some cell ≡ o → IsSome o
is_there o cell e = let z : IsSome (Some cell) = refl in subst IsSome e z

-- one look-up after a cell was written that says what was said there
pub same_at : (G : ℕ → Option Cell) (p n : ℕ) (w o : Cell) (b : Bool) → (b ≡ true → p ≡ n) → Some o ≡ G p → SameCell o w
    → option_map (kept n) (cond b (Some w) (G n)) ≡ option_map (kept n) (G n)
same_at G p n w o true k e s = ap Some (s n) ∙ ap (option_map (kept n)) (e ∙ ap G (k refl))
same_at G p n w o false k e s = refl
