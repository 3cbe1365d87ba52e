-- A tree at its start is a tree.
use Rattle.std.proofs.Common.{◌≡◌, ℕ, ◌+◌, ◌≤◌, ◌==◌, Bool, true, false, cond, List, refl, sym, ap, ◌∙◌, subst, arith}
use Rattle.std.proofs.lemmas.Bool.{ne_eqb}
use Rattle.atspi_tree_model.specs.Forest.{nil, count}
use Rattle.atspi_tree_model.specs.Row.{IsName, IsShape}
use Rattle.atspi_tree_model.specs.RowRules.{RowRules, rows, shapes}
use Rattle.atspi_tree_model.specs.Tree.{is_number, HasTargets, IsTree, root_seed, first_tree}
use Rattle.atspi_tree_model.proofs.RowRules.{Sound, rows_sound, shapes_sound}

module _ {A : Type 0} (rules : RowRules A) (sound : Sound rules) (name : List ℕ) (lawful : rules.IsLawful (rules.first 0 (root_seed name))) where
  at : (n : ℕ) → count (is_number rules n) (first_tree rules name) ≡ cond (0 == n) 1 0 + (0 + 0)
  at n = ap (λ x. cond {A = ℕ} (x == n) 1 0 + (0 + 0)) (sound.number_first 0 (root_seed name))

  pub begins : IsTree rules (first_tree rules name) 0
  begins = record {
    rooted = (rules.first 0 (root_seed name), nil, sound.number_first 0 (root_seed name), refl);
    once = λ n. once_at (0 == n) n (at n);
    numbered = λ n l. at n ∙ (rw (ne_eqb 0 n (λ e. omega arith)) refl);
    few = omega arith;
    few_ever = omega arith;
    lawful = (lawful, tt, tt);
    targets = (subst (HasTargets rules (first_tree rules name)) (sym (sound.targets_first 0 (root_seed name))) tt, tt, tt);
  }
    where
      once_at : (b : Bool) (n : ℕ) → count (is_number rules n) (first_tree rules name) ≡ cond b 1 0 + (0 + 0)
          → count (is_number rules n) (first_tree rules name) ≤ 1
      once_at true n e = omega arith
      once_at false n e = omega arith

root_shape : (name : List ℕ) → IsName name → IsShape (shapes.first 0 (root_seed name))
root_shape name h = record { name = h; description = omega arith; editable = λ e. e }

pub rows_begin : (name : List ℕ) → IsName name → IsTree rows (first_tree rows name) 0
rows_begin name h = begins rows rows_sound name
    (root_shape name h, record { text = refl; lawful_text = tt; table = refl; lawful_columns = tt; action = refl; few_actions = omega arith })

pub shapes_begin : (name : List ℕ) → IsName name → IsTree shapes (first_tree shapes name) 0
shapes_begin name h = begins shapes shapes_sound name (root_shape name h)
