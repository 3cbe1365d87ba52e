use Rattle.std.proofs.Common.{inl, inr}
use Rattle.atspi_live_bus_examples.proofs.Facts.{not_spent}
use Rattle.atspi_live_bus_examples.proofs.asking.last_numbers.Goals as goal

pub returns-clause-by_message : goal.returns-clause-by_message
returns-clause-by_message c b e rule is over = inl (3, e, rule, is, over)

pub returns-clause-by_leaving : goal.returns-clause-by_leaving
returns-clause-by_leaving c b over = inr (3, over)

pub returns-clause-not_yet : goal.returns-clause-not_yet
returns-clause-not_yet c b takes_few leaves_few spends = not_spent b takes_few leaves_few spends
