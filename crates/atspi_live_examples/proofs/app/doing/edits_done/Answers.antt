use Rattle.std.proofs.Common.{◌≡◌, Option, None, Some, Result, Ok, Err, refl, sym, ◌∙◌, arith}
use Rattle.std.specs.Prelude.{codes}
use Rattle.atspi_tree_model.specs.declared.edit.EditFault.{EditFault}
use Rattle.atspi_protocol.specs.exporting.Exporter.{Exporter, begins}
use Rattle.atspi_live_examples.proofs.OfApp.Asked.{next_is, some_is}
use Rattle.atspi_live_examples.proofs.app.doing.edits_done.Goals as goal

-- what an edit answers, it answers alone
ok_is : {s t : Exporter} {r : Result Exporter EditFault} → r ≡ Ok s → r ≡ Ok t → s ≡ t
ok_is a b = same (sym a ∙ b)
  where
    same : {s t : Exporter} → ◌≡◌ {A = Result Exporter EditFault} (Ok s) (Ok t) → s ≡ t
    same h = cc

pub fault_apart : {s : Exporter} {why : EditFault} {r : Result Exporter EditFault} → r ≡ Ok s → r ≡ Err why → ⊥
fault_apart a b = apart (sym a ∙ b)
  where
    apart : {s : Exporter} {why : EditFault} → ◌≡◌ {A = Result Exporter EditFault} (Ok s) (Err why) → ⊥
    apart h = cc

none_apart : {s : Exporter} → ◌≡◌ {A = Option Exporter} None (Some s) → ⊥
none_apart h = cc

pub returns-clause-same : goal.returns-clause-same
unfolding lib.Utf8.encode
returns-clause-same c = (begins (codes "T"), refl, refl)

pub returns-clause-edited : goal.returns-clause-edited
returns-clause-edited c s t edit is = (t, is, refl)

pub returns-clause-other : goal.returns-clause-other
returns-clause-other c s t u edit is differ d = differ (some_is d.2 ∙ ok_is d.1 is)

pub returns-clause-refused : goal.returns-clause-refused
returns-clause-refused c s t edit why is d = fault_apart d.1 is

pub returns-clause-gone : goal.returns-clause-gone
returns-clause-gone c s edit d = none_apart d.2

pub returns-clause-starts : goal.returns-clause-starts
unfolding lib.Utf8.encode
returns-clause-starts c = (omega arith, refl)

pub returns-clause-not_called : goal.returns-clause-not_called
returns-clause-not_called c d = next_is d.1

pub returns-clause-long_name : goal.returns-clause-long_name
returns-clause-long_name c name t long d = long d.0

pub returns-clause-waits_gone : goal.returns-clause-waits_gone
returns-clause-waits_gone c s d = none_apart d

pub returns-clause-waits_called : goal.returns-clause-waits_called
returns-clause-waits_called c d = next_is (sym d)
