use Rattle.std.proofs.Common.{refl, arith, lit<}
use Rattle.atspi_live_examples.proofs.app.pacing.rounds_begun.Goals as goal

pub returns-clause-first : goal.returns-clause-first
returns-clause-first c l = (lit< tt, tt)

pub returns-clause-second : goal.returns-clause-second
returns-clause-second c l m = (lit< tt, (lit< tt, tt))

pub returns-clause-second_late : goal.returns-clause-second_late
returns-clause-second_late c l m h = omega (arith, h.1.0)

pub returns-clause-behind_wait : goal.returns-clause-behind_wait
returns-clause-behind_wait c l m h = omega (arith, h.1.0)

pub returns-clause-late : goal.returns-clause-late
returns-clause-late c l h = omega (arith, h.0)

pub returns-clause-all_done : goal.returns-clause-all_done
returns-clause-all_done c = refl

pub returns-clause-peer : goal.returns-clause-peer
returns-clause-peer c = refl
