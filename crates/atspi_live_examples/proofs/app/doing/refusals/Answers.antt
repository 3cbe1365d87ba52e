use Rattle.std.proofs.Common.{◌≡◌, ◌<◌, true, false, None, Some, Result, Err, refl, sym, subst, arith}
use Rattle.std.specs.Prelude.{codes}
use Rattle.atspi_tree_model.specs.Row.{IsName}
use Rattle.atspi_tree_model.specs.declared.edit.EditFault.{EditFault}
use Rattle.atspi_tree_model.specs.declared.edit.EditFault.TheVariants.{Full, IsRoot, NoNode, TextFull}
use Rattle.atspi_protocol.specs.exporting.Exporter.{Exporter}
use Rattle.atspi_app_known.specs.application.Seen.{IsSpentAfter}
use Rattle.atspi_live_examples.proofs.app.doing.refusals.Goals as goal

pub returns-clause-long_name : goal.returns-clause-long_name
returns-clause-long_name c name long = (long, refl)

pub returns-clause-long_name_other : goal.returns-clause-long_name_other
returns-clause-long_name_other c name h = by h.1
  where
    by : Full ≡ TextFull → ⊥
    by h = cc

short : IsName (codes "T")
unfolding lib.Utf8.encode
short = omega arith

pub returns-clause-short_name : goal.returns-clause-short_name
returns-clause-short_name c h = h.0 short

pub returns-clause-root : goal.returns-clause-root
returns-clause-root c = refl

pub returns-clause-root_other : goal.returns-clause-root_other
returns-clause-root_other c h = by h
  where
    by : ◌≡◌ {A = Result Exporter EditFault} (Err IsRoot) (Err NoNode) → ⊥
    by h = cc

pub returns-clause-wait : goal.returns-clause-wait
returns-clause-wait c None why h = h
returns-clause-wait c (Some s) why h = h

pub returns-clause-started : goal.returns-clause-started
returns-clause-started c s name why h = h

pub returns-clause-lawful : goal.returns-clause-lawful
returns-clause-lawful c = omega arith

pub returns-clause-unlawful : goal.returns-clause-unlawful
returns-clause-unlawful c h = by h
  where
    by : 44 < 44 → ⊥
    by h = omega (arith, h)

pub returns-clause-other_lawful : goal.returns-clause-other_lawful
returns-clause-other_lawful c = tt

pub returns-clause-spent : goal.returns-clause-spent
returns-clause-spent c s t edit is spent = subst (λ (r : Result Exporter EditFault). IsSpentAfter r) (sym is) spent

pub returns-clause-not_spent : goal.returns-clause-not_spent
unfolding lib.Utf8.encode
returns-clause-not_spent c h = by h
  where
    by : false ≡ true → ⊥
    by h = cc

pub returns-clause-wait_spent : goal.returns-clause-wait_spent
returns-clause-wait_spent c s h = h

pub returns-clause-none_spent : goal.returns-clause-none_spent
returns-clause-none_spent c edit h = h
