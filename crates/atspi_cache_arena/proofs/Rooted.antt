-- An arena with a root alone.
use Rattle.std.proofs.Common.{◌≡◌, ◌≢◌, ◌↔◌, ℕ, ◌+◌, ◌≤◌, ◌==◌, Bool, true, false, cond, Option, Some, None, List, [], refl, sym, ap, ◌∙◌, arith}
use Rattle.std.specs.Prelude.{bytes_eq}
use Rattle.std.specs.HashMap.{get_by_text}
use Rattle.std.specs.Option.{option_to_list}
use Rattle.std.proofs.lemmas.Bool.{eqb-true, eq-eqb}
use Rattle.slab.specs.Slab.{Slab}
use Rattle.atspi_tree_model.specs.declared.view.Row.{Row}
use Rattle.atspi_tree_model.specs.Forest.{Forest, nil, tree, count}
use Rattle.atspi_cache_arena.specs.Keys.{Node, is_key}
use Rattle.atspi_cache_arena.specs.Table.{look_in}
use Rattle.atspi_cache_arena.specs.Arena.{is_row, IsIndexed, IsArena, rows_of}
use Rattle.atspi_cache_arena.specs.declared.cell.Cell.{Cell}
use Rattle.atspi_cache_arena.specs.declared.paths.Paths.{Paths}
use Rattle.atspi_cache_arena.proofs.Shown.{rows, seen, Becomes, becomes}
use Rattle.atspi_cache_arena.proofs.Inserted.{node_of}

no_forest : (f : Forest (Node Row)) → rows f ≡ nil → f ≡ nil
no_forest nil e = refl
no_forest (tree a c r) e = cc

-- an arena without rows knows no path
no_key : (s : Slab Cell) (paths : Paths) (c : IsArena s paths) → c.forest ≡ nil → (q : List ℕ) (o : Option ℕ) → get_by_text paths.index q ≡ o → get_by_text paths.index q ≡ None
no_key s paths c e q None eo = eo
no_key s paths c e q (Some m) eo =
    let a = (c.indexed.index q m).0 eo in let z = ap (count (is_row q m)) e in absurd (omega arith)

root_indexed : (paths : Paths) (k : ℕ) (row : Row) → paths.root ≡ Some k → ((q : List ℕ) → get_by_text paths.index q ≡ cond (bytes_eq row.path q) (Some k) None) → IsIndexed paths (tree (node_of k row) nil nil)
root_indexed paths k row root ix = record {
  root = sym (ap option_to_list root);
  index = λ q m. exact q m (bytes_eq row.path q) refl (k == m) refl;
  once = λ q. few (bytes_eq row.path q);
}
  where
    few : (b : Bool) → cond b 1 0 + 0 ≤ 1
    few true = omega arith
    few false = omega arith

    exact : (q : List ℕ) (m : ℕ) (b : Bool) → bytes_eq row.path q ≡ b → (d : Bool) → (k == m) ≡ d → (get_by_text paths.index q ≡ Some m) ↔ (1 ≤ count (is_row q m) (tree (node_of k row) nil nil))
    exact q m true e true ed =
        let x : cond {A = ℕ} (cond (k == m) (bytes_eq row.path q) false) 1 0 ≡ 1 = rw (ed, e) refl in
        ((λ h. omega arith), (λ h. ix q ∙ (ap (λ b. cond b (Some k) None) e ∙ ap Some (eqb-true k m ed))))
    exact q m true e false ed =
        let x : cond {A = ℕ} (cond (k == m) (bytes_eq row.path q) false) 1 0 ≡ 0 = rw ed refl in
        let g : get_by_text paths.index q ≡ Some k = ix q ∙ ap (λ b. cond b (Some k) None) e in
        ((λ h. let s : k ≡ m = cc in let u = eq-eqb k m s in cc), (λ h. absurd (omega arith)))
    exact q m false e d ed =
        let x : cond {A = ℕ} (cond (k == m) (bytes_eq row.path q) false) 1 0 ≡ 0 = rw e (none (k == m)) in
        let g : get_by_text paths.index q ≡ None = ix q ∙ ap (λ b. cond b (Some k) None) e in
        ((λ h. let z : None ≡ Some m = sym g ∙ h in cc), (λ h. absurd (omega arith)))
      where
        none : (b : Bool) → cond {A = ℕ} (cond b false false) 1 0 ≡ 0
        none true = refl
        none false = refl

pub rooted : (s s' : Slab Cell) (paths paths' : Paths) (v : Forest Row) (k : ℕ) (row : Row) → IsArena s paths → rows_of s paths ≡ v → v ≡ nil
    → look_in s' k ≡ Some (record { row = row; children = []; parent = None }) → ((n : ℕ) → n ≢ k → look_in s' n ≡ look_in s n)
    → paths'.root ≡ Some k → ((q : List ℕ) → get_by_text paths'.index q ≡ cond (bytes_eq row.path q) (Some k) (get_by_text paths.index q))
    → Becomes s' paths' (tree row nil nil)
rooted s s' paths paths' v k row c view empty new others root ix =
    becomes s' paths' (tree (node_of k row) nil nil) (tree row nil nil) after refl refl
  where
    bare : c.forest ≡ nil
    bare = no_forest c.forest (sym (seen s paths c) ∙ (view ∙ empty))

    none : (n : ℕ) → look_in s n ≡ None
    none n = c.held.only n (ap (count (is_key n)) bare)

    once : (n : ℕ) (b : Bool) → cond b 1 0 + 0 ≤ 1
    once n true = omega arith
    once n false = omega arith

    only : (n : ℕ) (b : Bool) → (k == n) ≡ b → count (is_key n) (tree (node_of k row) nil nil) ≡ 0 → look_in s' n ≡ None
    only n true e z = let x : cond {A = ℕ} (k == n) 1 0 ≡ 1 = ap (λ b. cond {A = ℕ} b 1 0) e in absurd (omega arith)
    only n false e z = others n (λ t. let u = eq-eqb k n (sym t) in cc) ∙ none n

    after : IsArena s' paths'
    after = record {
      forest = tree (node_of k row) nil nil;
      held = record { nodes = (new, tt, tt); once = λ n. once n (k == n); only = λ n z. only n (k == n) refl z };
      indexed = root_indexed paths' k row root (λ q. ix q ∙ ap (λ o. cond (bytes_eq row.path q) (Some k) o) (no_key s paths c bare q (get_by_text paths.index q) refl));
    }
