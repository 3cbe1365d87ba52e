use Rattle.std.proofs.Common.{refl, inl, inr}
use Rattle.atspi_live_bus_examples.proofs.Facts.{cut_none, cut_part, cut_closed}
use Rattle.atspi_live_bus_examples.proofs.rounding.cut_turns.Goals as goal

pub returns-clause-nothing : goal.returns-clause-nothing
returns-clause-nothing c x past = inl (refl, refl)

pub returns-clause-no_change : goal.returns-clause-no_change
returns-clause-no_change c x y past k none cut = cut_none x y past k none cut

pub returns-clause-part : goal.returns-clause-part
returns-clause-part c x y past calls stands seated is = cut_part x y past calls stands seated is

pub returns-clause-of_one_closed : goal.returns-clause-of_one_closed
returns-clause-of_one_closed c x y past calls d stands cut = cut_closed x y past calls d stands cut

pub returns-clause-whole : goal.returns-clause-whole
returns-clause-whole c x y past calls m = m

pub returns-clause-cut : goal.returns-clause-cut
returns-clause-cut c x y past calls is = is

pub returns-clause-gift_part : goal.returns-clause-gift_part
returns-clause-gift_part c x m y past read gift heard given = inr (m, read, gift, heard, given, refl)

pub returns-clause-read_part : goal.returns-clause-read_part
returns-clause-read_part c x y past calls h = inl h
