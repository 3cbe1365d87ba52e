use Rattle.std.proofs.Common.{◌≡◌, ℕ, refl, arith}
use Rattle.std.specs.Prelude.{codes}
use Rattle.std.specs.Fmt.{digits}
use Rattle.atspi_tree_model.specs.declared.edit.Edit.TheVariants.{Focus}
use Rattle.atspi_live_app.specs.Asking.{IsWait}
use Rattle.atspi_live_examples.proofs.OfApp.Asked.{first_is, focus}
use Rattle.atspi_live_examples.proofs.app.asking.others_read.Goals as goal

waits : IsWait 2 (codes "wait 2")
unfolding digits
waits = (omega arith, refl)

pub returns-clause-wait : goal.returns-clause-wait
returns-clause-wait c = waits

pub returns-clause-edit : goal.returns-clause-edit
returns-clause-edit c = (0, focus)

pub returns-clause-other : goal.returns-clause-other
returns-clause-other c h = by (first_is h.1)
  where
    by : ◌≡◌ {A = ℕ} 102 119 → ⊥
    by h = omega (arith, h)

pub returns-clause-long : goal.returns-clause-long
returns-clause-long c bytes h = h

pub returns-clause-not_utf8 : goal.returns-clause-not_utf8
returns-clause-not_utf8 c bytes h = h

pub returns-clause-none : goal.returns-clause-none
returns-clause-none c bytes never wait = (λ edit is. never is.1.utf8, wait)

pub returns-clause-is_wait : goal.returns-clause-is_wait
returns-clause-is_wait c never = never.1 2 waits

pub returns-clause-is_edit : goal.returns-clause-is_edit
returns-clause-is_edit c never = never.0 (Focus 5) (0, focus)

pub returns-clause-wanting : goal.returns-clause-wanting
returns-clause-wanting c = tt
