use Rattle.atspi_app_answers.proofs.PlaceLemmas.{node_offers}
use Rattle.atspi_app_answers.proofs.place.node_object.Goals as goal

pub returns : goal.returns
returns c = node_offers c.args.tree.now c.args.node c.kinds.result c.kinds.ensures
