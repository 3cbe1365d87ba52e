use Rattle.std.proofs.Common.{ap, ◌∙◌}
use Rattle.atspi_base.specs.valid_names.Names.{is_path}
use Rattle.atspi_protocol_messages.proofs.PathRule.{numbered_path, root_is_path}
use Rattle.atspi_protocol_messages.proofs.paths.node_path.Goals as goal

pub path-requires : goal.path-requires
path-requires c = root_is_path

pub path-requires-2 : goal.path-requires-2
path-requires-2 c = ap is_path (c.deref.ensures ∙ c.in_ok-text.ensures.ok) ∙ numbered_path c.args.node c.ranges.node.fits
