use Rattle.std.proofs.Common.{refl, inl, inr}
use Rattle.atspi_live_bus_examples.proofs.Facts.{three_not_open, closed_gives_none, closed_gives_same, gift_is_due, stopped_before, stopped_gives_none}
use Rattle.atspi_live_bus_examples.proofs.rounding.may_give.Goals as goal

pub returns-clause-closed : goal.returns-clause-closed
returns-clause-closed c x past = inl (three_not_open, refl, refl)

pub returns-clause-closed_same : goal.returns-clause-closed_same
returns-clause-closed_same c x y past calls m = closed_gives_same x y past calls m

pub returns-clause-closed_none : goal.returns-clause-closed_none
returns-clause-closed_none c x y past calls m = closed_gives_none x y past calls m

pub returns-clause-all : goal.returns-clause-all
returns-clause-all c x y past out given = inr (inl (inl refl, out, given, refl))

pub returns-clause-gift : goal.returns-clause-gift
returns-clause-gift c x y past calls g = inr (inr (inl refl, g))

pub returns-clause-due : goal.returns-clause-due
returns-clause-due c x y past none m = gift_is_due x y past none m

pub returns-clause-stopped : goal.returns-clause-stopped
returns-clause-stopped c x past = inl (refl, refl)

pub returns-clause-stopped_same : goal.returns-clause-stopped_same
returns-clause-stopped_same c x y past m = stopped_before x y past m

pub returns-clause-stopped_gift : goal.returns-clause-stopped_gift
returns-clause-stopped_gift c x y past calls g = inr (inl refl, g)

pub returns-clause-stopped_closed : goal.returns-clause-stopped_closed
returns-clause-stopped_closed c x y past calls d m = stopped_gives_none x y past calls d m
