use Rattle.std.proofs.lemmas.Bool.Decides.{not_from_Decides}
use Rattle.atspi_message_in_place.specs.View.{envelope_at}
use Rattle.atspi_match.proofs.SlotLemmas.{hears_it, hears_not}
use Rattle.atspi_match.proofs.slots.heard.Goals as goal

pub returns-then-not-matches : goal.returns-then-not-matches
returns-then-not-matches c =
    hears_not c.args.pair.now (envelope_at c.args.m.now) c.args.names.now (not_from_Decides _ c.matches.ensures c.if-not-matches.true)

pub returns : goal.returns
returns c = hears_it c.args.pair.now (envelope_at c.args.m.now) c.args.names.now (c.matches.ensures.0 c.if-not-matches.false)
