use Rattle.std.proofs.Common.{refl, inl, inr, lit<}
use Rattle.atspi_stream.specs.Stream.{few}
use Rattle.atspi_live_bus_examples.proofs.Facts.{three_not_open, gone_no_close, gone_same, stopped_close, stopped_good, stopped_all}
use Rattle.atspi_live_bus_examples.proofs.closing.what_ceases.Goals as goal

pub returns-clause-is_closed : goal.returns-clause-is_closed
returns-clause-is_closed c x rest = inl (three_not_open, refl, refl)

pub returns-clause-awaits : goal.returns-clause-awaits
returns-clause-awaits c x = inr (inl (inl refl, few (lit< tt), refl, refl))

pub returns-clause-none_of_one_closed : goal.returns-clause-none_of_one_closed
returns-clause-none_of_one_closed c x y rest calls w = gone_no_close x y rest calls w

pub returns-clause-same_of_one_closed : goal.returns-clause-same_of_one_closed
returns-clause-same_of_one_closed c x y rest calls w = gone_same x y rest calls w

pub returns-clause-stopped : goal.returns-clause-stopped
returns-clause-stopped c x rest = inl (refl, refl)

pub returns-clause-stopped_behind_close : goal.returns-clause-stopped_behind_close
returns-clause-stopped_behind_close c x rest bad = inr (inl refl, bad, (refl, refl))

pub returns-clause-stopped_closed : goal.returns-clause-stopped_closed
returns-clause-stopped_closed c x y rest w = stopped_close x y rest w

pub returns-clause-stopped_for_nothing : goal.returns-clause-stopped_for_nothing
returns-clause-stopped_for_nothing c x y rest good w = stopped_good x y rest good w

pub returns-clause-stopped_same : goal.returns-clause-stopped_same
returns-clause-stopped_same c x y rest calls w = stopped_all x y rest calls w
