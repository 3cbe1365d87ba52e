use Rattle.std.proofs.Common.{◌≡◌, ℕ, List, refl, arith}
use Rattle.std.specs.Prelude.{codes}
use Rattle.std.specs.Fmt.{digits}
use Rattle.atspi_tree_model.specs.declared.edit.Edit.TheVariants.{Focus}
use Rattle.atspi_script_lines.specs.declared.line.Line.TheVariants.{App, Edit}
use Rattle.atspi_script_lines.proofs.OnceLemmas.{one_reading}
use Rattle.atspi_live_examples.specs.app.Lines.{named}
use Rattle.atspi_live_examples.proofs.OfApp.Asked.{comment, empty, first_is, focus, not_whole, start}
use Rattle.atspi_live_examples.proofs.app.asking.lines_that_ask.Goals as goal

pub returns-clause-nothing : goal.returns-clause-nothing
returns-clause-nothing c = empty

pub returns-clause-comment : goal.returns-clause-comment
returns-clause-comment c = comment

pub returns-clause-start : goal.returns-clause-start
returns-clause-start c = start

pub returns-clause-edit : goal.returns-clause-edit
returns-clause-edit c = (0, focus)

pub returns-clause-wait : goal.returns-clause-wait
unfolding digits
returns-clause-wait c = (omega arith, refl)

pub returns-clause-edit_line : goal.returns-clause-edit_line
returns-clause-edit_line c = (0, focus)

pub returns-clause-not_nothing : goal.returns-clause-not_nothing
returns-clause-not_nothing c s = by s.form
  where
    by : ◌≡◌ {A = ℕ} 119 35 → ⊥
    by h = omega (arith, h)

pub returns-clause-other_name : goal.returns-clause-other_name
returns-clause-other_name c s = by (first_is (name_is (one_reading named (App (codes "U")) (App (codes "T")) s start)))
  where
    name_is : {x y : List ℕ} → App x ≡ App y → x ≡ y
    name_is h = cc

    by : ◌≡◌ {A = ℕ} 85 84 → ⊥
    by h = omega (arith, h)

pub returns-clause-other_edit : goal.returns-clause-other_edit
returns-clause-other_edit c s = by (one_reading (codes "edit a0 focus 5") (Edit s.0 (Focus 6)) (Edit 0 (Focus 5)) s.1 focus)
  where
    node_is : {a b m n : ℕ} → Edit a (Focus m) ≡ Edit b (Focus n) → m ≡ n
    node_is h = cc

    by : Edit s.0 (Focus 6) ≡ Edit 0 (Focus 5) → ⊥
    by h = omega (arith, node_is h)

pub returns-clause-whole_edit : goal.returns-clause-whole_edit
returns-clause-whole_edit c s = not_whole s.0 s.1.form.1

pub returns-clause-no_wait : goal.returns-clause-no_wait
returns-clause-no_wait c h = by (first_is h.1)
  where
    by : ◌≡◌ {A = ℕ} 102 119 → ⊥
    by h = omega (arith, h)
