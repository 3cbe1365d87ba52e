use Rattle.atspi_tree_model.proofs.Load.{load_items}
use Rattle.atspi_tree_model.proofs.laws.items_are_seen.Goals as goal

pub returns : goal.returns
returns c = load_items
