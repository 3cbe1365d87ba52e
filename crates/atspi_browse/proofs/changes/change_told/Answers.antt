use Rattle.std.proofs.Common.{rules, Some}
use Rattle.atspi_message.specs.Envelope.{envelope_of}
use Rattle.atspi_tree_model.specs.Path.{path_of}
use Rattle.atspi_browse.proofs.ChangeLemmas.{at_node, no_node, no_path, none_at_node, quiet}
use Rattle.atspi_browse.proofs.changes.change_told.Goals as goal

pub returns-then-not-is_text_event : goal.returns-then-not-is_text_event
returns-then-not-is_text_event c = λ n l. quiet (path_of n) (envelope_of c.args.m.now) (search rules)

pub returns-in_default : goal.returns-in_default
returns-in_default c = λ n l. no_path (envelope_of c.args.m.now) n (search rules) (search rules)

pub returns-in_default-node_at : goal.returns-in_default-node_at
returns-in_default-node_at c = λ n l. no_node (envelope_of c.args.m.now) c.as_str.result.now n (search rules) (search rules) (c.in_default-node_at.ensures n l)

pub returns-in-Some-body_told : goal.returns-in-Some-body_told
returns-in-Some-body_told c = λ n l.
    at_node (envelope_of c.args.m.now) c.as_str.result.now c.in-Some-node_at.node n (Some c.in-Some-body_told.change) (search rules) (search rules) c.in-Some-node_at.ensures c.in-Some-body_told.ensures

pub returns-in-None : goal.returns-in-None
returns-in-None c = λ n l. none_at_node (envelope_of c.args.m.now) c.as_str.result.now n (search rules) (search rules) c.in-None.ensures
