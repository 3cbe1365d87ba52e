use Rattle.atspi_base.proofs.OfValidNames.NameLemmas.{is_path-from_IsPath}
use Rattle.atspi_registry.proofs.registry.Registry.add_child.Goals as goal

pub path-requires : goal.path-requires
path-requires c = is_path-from_IsPath c.args.place.now c.requires.place
