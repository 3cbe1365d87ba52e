use Rattle.std.proofs.Common.{◌≡◌, ℕ, arith}
use Rattle.std.specs.Prelude.{codes}
use Rattle.atspi_tree_model.specs.declared.edit.Edit.TheVariants.{Focus}
use Rattle.atspi_script_lines.specs.declared.line.Line.TheVariants.{Edit}
use Rattle.atspi_script_lines.proofs.OnceLemmas.{one_reading}
use Rattle.atspi_live_examples.proofs.OfApp.Asked.{focus}
use Rattle.atspi_live_examples.proofs.app.asking.edits_read.Goals as goal

pub returns-clause-edit : goal.returns-clause-edit
returns-clause-edit c = (0, focus)

pub returns-clause-other : goal.returns-clause-other
returns-clause-other c s = by (one_reading (codes "edit a0 focus 5") (Edit s.0 (Focus 6)) (Edit 0 (Focus 5)) s.1 focus)
  where
    node_is : {a b m n : ℕ} → Edit a (Focus m) ≡ Edit b (Focus n) → m ≡ n
    node_is h = cc

    by : Edit s.0 (Focus 6) ≡ Edit 0 (Focus 5) → ⊥
    by h = omega (arith, node_is h)

pub returns-clause-long : goal.returns-clause-long
returns-clause-long c bytes h = h

pub returns-clause-not_utf8 : goal.returns-clause-not_utf8
returns-clause-not_utf8 c bytes h = h

pub returns-clause-none : goal.returns-clause-none
returns-clause-none c bytes never = λ edit is. never is.1.utf8

pub returns-clause-not_none : goal.returns-clause-not_none
returns-clause-not_none c never = never (Focus 5) (0, focus)

pub returns-clause-wanting : goal.returns-clause-wanting
returns-clause-wanting c = tt
