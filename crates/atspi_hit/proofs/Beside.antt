-- Rows and columns of cells: what stands beside a cell.
use Rattle.std.proofs.Common.{◌≡◌, ℕ, suc, ◌+◌, ◌-◌, ◌*◌, ◌/◌, ◌%◌, ◌<◌, ◌≤◌, sym, ap, ◌∙◌, subst, arith}
use Rattle.std.proofs.Math.Arith.{digits_lt, digits_div, digits_mod}
use Rattle.std.proofs.Math.Nat.{mod-lt, mod-add-div', div-lt_iff_lt-mul}
use Rattle.atspi_hit.specs.declared.cells.Way.TheVariants.{Up, Down, Left, Right}
use Rattle.atspi_hit.specs.Cells.{cells, IsNeighbour}

-- a place is made of its row and its column
made : (i c : ℕ) → i ≡ i / c * c + i % c
made i c = let e = mod-add-div' i c in omega arith

-- and tells them
record IsAt (i q r c : ℕ) : Type 0 where
  pub row : i / c ≡ q
  pub column : i % c ≡ r

is_at : (i q r c : ℕ) → r < c → i ≡ q * c + r → IsAt i q r c
is_at i q r c l e = record {
  row = ap (λ n. n / c) e ∙ digits_div q l;
  column = ap (λ n. n % c) e ∙ digits_mod q l;
}

pub above : (n c i to : ℕ) → 0 < c → i < cells n c → c ≤ i → to ≡ i - c → IsNeighbour n c Up i to
above n c i to some in_cells row e =
    let m = mod-lt i some in
    let k = made i c in
    let s : suc (to / c) ≡ i / c = (let a = is_at i (suc (to / c)) (to % c) c (mod-lt to some) (let t = made to c in omega arith) in sym a.row) in
    let t : i % c ≡ to % c = (is_at i (suc (to / c)) (to % c) c (mod-lt to some) (let t = made to c in omega arith)).column in
    record { cell = omega arith; beside = (sym s, t) }

pub under : (n c i to : ℕ) → 0 < c → i + c < cells n c → to ≡ i + c → IsNeighbour n c Down i to
under n c i to some in_cells e =
    let a = is_at to (suc (i / c)) (i % c) c (mod-lt i some) (let k = made i c in omega arith) in
    record { cell = omega arith; beside = (a.row, a.column) }

pub before : (n c i to : ℕ) → 0 < c → i < cells n c → 0 < i % c → to ≡ i - 1 → IsNeighbour n c Left i to
before n c i to some in_cells column e =
    let k = made i c in
    let m = mod-lt i some in
    let a = is_at to (i / c) (i % c - 1) c (omega arith) (omega arith) in
    let b = a.column in
    record { cell = omega arith; beside = (a.row, omega arith) }

pub behind : (n c i to : ℕ) → 0 < c → i < cells n c → i % c + 1 < c → to ≡ i + 1 → IsNeighbour n c Right i to
behind n c i to some in_cells column e =
    let k = made i c in
    let rows : i / c < n / c = (div-lt_iff_lt-mul some).1 in_cells in
    let is : to ≡ i / c * c + (i % c + 1) = omega arith in
    let a = is_at to (i / c) (i % c + 1) c column is in
    record {
      cell = subst (λ m. m < n / c * c) (sym is) (digits_lt rows column);
      beside = (a.row, a.column ∙ omega arith);
    }
