-- The cells of a table.
use Rattle.std.proofs.Common.{◌≡◌, ℕ, zero, suc, ◌+◌, ◌*◌, ◌/◌, ◌%◌, ◌<◌, ◌≤◌, Bool, true, false, cond, List, [], ◌∷◌, ◌++◌, Option, Some, None, length, map, take, drop, refl, sym, ap, ◌∙◌, arith}
use Rattle.std.specs.Prelude.{filter, ◌&&◌, nat_lt, slice_get}
use Rattle.std.specs.List.{list_all}
use Rattle.std.proofs.Math.Nat.{mul-le-mul_right, suc-mul, div-mul-le_self, div-le_self, div-zero, mod-le, mul-zero}
use Rattle.std.proofs.lemmas.Bool.{lt-ltb, le-ltb}
use Rattle.std.proofs.lemmas.List.{append-nil, map-append}
use Rattle.std.proofs.lemmas.List.Elements.{filter-append}
use Rattle.atspi_types.specs.Data.{Data}
use Rattle.atspi_tree_model.specs.Forest.{Forest}
use Rattle.atspi_tree_model.specs.Row.{ShapeRow}
use Rattle.atspi_tree_model.specs.Edits.{numbers_to}
use Rattle.atspi_tree.specs.TreeShape.{TreeShape, IsLawful, children_of}
use Rattle.atspi_tree.proofs.Walks.{index_small}
use Rattle.atspi_tree_edits.proofs.Switched.{below, all_below}
use Rattle.atspi_protocol.specs.objects.Values.{count_data}
use Rattle.atspi_app_contents.specs.values.Numbers.{is_selected, cell_in, is_selected_row, rows_selected}

-- a node has few children
none_short : {A : Type 0} (xs : List A) (k : ℕ) → slice_get xs k ≡ None → length xs ≤ k
none_short [] k e = omega arith
none_short (x ∷ xs) zero e = absurd (let z : Some x ≡ None = e in cc)
none_short (x ∷ xs) (suc k) e = let h = none_short xs k e in omega (arith, h)

pub few_children : (t : TreeShape) (n : ℕ) → IsLawful t → length (children_of n t) ≤ 8192
few_children t n lawful = by (slice_get (children_of n t) 8192) refl
  where
    by : (o : Option ℕ) → slice_get (children_of n t) 8192 ≡ o → length (children_of n t) ≤ 8192
    by None e = none_short (children_of n t) 8192 e
    by (Some c) e = let h : 8192 < 8192 = index_small t n 8192 c lawful e in absurd (omega (arith, h))

-- a whole row is among the cells, and so is each cell of it
pub whole_row : (cells columns r : ℕ) → r < cells / columns → r * columns + columns ≤ cells
whole_row cells columns r l =
    let m : suc r * columns ≤ cells / columns * columns = mul-le-mul_right columns l in
    let s = suc-mul r columns in
    let d = div-mul-le_self cells columns in
    omega (arith, m, s, d)

pub in_row : (cells columns r c : ℕ) → r < cells / columns → c < columns → r * columns + c < cells
in_row cells columns r c l m = let w = whole_row cells columns r l in omega (arith, w, m)

pub cell_some : (cells columns r c : ℕ) → r < cells / columns → c < columns → Some (r * columns + c) ≡ cell_in cells columns (Some r) (Some c)
cell_some cells columns r c l m =
    sym (ap (λ b. cond (b && nat_lt c columns) (Some (r * columns + c)) None) (lt-ltb r (cells / columns) l) ∙ ap (λ b. cond b (Some (r * columns + c)) None) (lt-ltb c columns m))

pub no_row : (cells columns r c : ℕ) → cells / columns ≤ r → None ≡ cell_in cells columns (Some r) (Some c)
no_row cells columns r c l = sym (ap (λ b. cond (b && nat_lt c columns) (Some (r * columns + c)) None) (le-ltb r (cells / columns) l))

pub no_column : (cells columns r c : ℕ) → columns ≤ c → None ≡ cell_in cells columns (Some r) (Some c)
no_column cells columns r c l = sym (ap (λ b. cond (nat_lt r (cells / columns) && b) (Some (r * columns + c)) None) (le-ltb c columns l) ∙ none (nat_lt r (cells / columns)))
  where
    none : (b : Bool) → cond (b && false) (Some (r * columns + c)) None ≡ None
    none true = refl
    none false = refl

pub no_node : (cells columns : ℕ) (o : Option ℕ) → None ≡ cell_in cells columns None o
no_node cells columns None = refl
no_node cells columns (Some c) = refl

pub no_node_there : (cells columns r : ℕ) → None ≡ cell_in cells columns (Some r) None
no_node_there cells columns r = refl

pub no_columns : (cells columns : ℕ) → columns ≡ 0 → 0 ≡ cells / columns
no_columns cells columns e = sym (ap (λ (k : ℕ). cells / k) e ∙ div-zero cells)

-- a cell that is in a row has a row and a column
pub some_columns : (cells columns i : ℕ) → i < cells / columns * columns → 0 < columns
some_columns cells zero i l = absurd (let z = mul-zero (cells / zero) in omega (arith, l, z))
some_columns cells (suc k) i l = omega arith

pub few_cells : (cells columns i : ℕ) → cells ≤ 8192 → i < cells / columns * columns → i ≤ 8192
few_cells cells columns i few l = let d = div-mul-le_self cells columns in omega (arith, l, d, few)

pub few_rows : (cells columns i : ℕ) → cells ≤ 8192 → i < cells / columns * columns → i / columns ≤ 8192
few_rows cells columns i few l = let d = div-mul-le_self cells columns in let q = div-le_self i columns in omega (arith, l, d, few, q)

pub few_columns : (cells columns i : ℕ) → cells ≤ 8192 → i < cells / columns * columns → i % columns ≤ 8192
few_columns cells columns i few l = let d = div-mul-le_self cells columns in let q = mod-le i columns in omega (arith, l, d, few, q)

-- rows that are selected, one after the other
module _ (f : Forest ShapeRow) (nodes : List ℕ) (columns : ℕ) where
  abbrev p : ℕ → Bool
  p = is_selected_row f nodes columns

  pub row_more : (rows more : List Data) (k : ℕ) (b : Bool) → p k ≡ b → rows ≡ map count_data (filter p (below k)) → more ≡ rows ++ cond b (count_data k ∷ []) []
      → more ≡ map count_data (filter p (below (suc k)))
  row_more rows more k b e h g =
      g ∙ ap (λ (ds : List Data). ds ++ cond b (count_data k ∷ []) []) h
      ∙ ap (λ (ds : List Data). map count_data (filter p (below k)) ++ ds) (last b e)
      ∙ sym (ap (map count_data) (filter-append p (below k) (k ∷ [])) ∙ map-append count_data (filter p (below k)) (filter p (k ∷ [])))
    where
      last : (b : Bool) → p k ≡ b → cond b (count_data k ∷ []) [] ≡ map count_data (filter p (k ∷ []))
      last true e = rw e refl
      last false e = rw e refl

  pub all_rows : (rows : List Data) (k : ℕ) → k ≡ length nodes / columns → rows ≡ map count_data (filter p (below k)) → rows ≡ map count_data (rows_selected f nodes columns)
  all_rows rows k e h =
      let past : p k ≡ false = ap (λ b. b && list_all (is_selected f) (take columns (drop (k * columns) nodes))) (le-ltb k (length nodes / columns) (omega (arith, e))) in
      row_more rows rows k false past h (sym (append-nil rows))
      ∙ sym (ap (λ (ns : List ℕ). map count_data (filter p ns)) (all_below k))
      ∙ ap (λ (m : ℕ). map count_data (filter p (numbers_to m))) e
