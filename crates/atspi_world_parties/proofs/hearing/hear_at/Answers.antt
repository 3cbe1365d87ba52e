use Rattle.std.proofs.lemmas.Result.{on_ok_weaker}
use Rattle.atspi_world_parties.proofs.Heard.{heard_at}
use Rattle.atspi_world_parties.proofs.hearing.hear_at.Goals as goal

pub returns : goal.returns
returns c = record {
  hears = on_ok_weaker c.hear.result (heard_at c.args.at_end.now c.args.conn c.index-at_end-place.result c.hear.new.at_end c.args.registry.now c.hear.new.registry) c.hear.ensures.hears;
}
