use Rattle.std.proofs.Common.{refl}
use Rattle.atspi_tree_model.specs.Path.{path_of}
use Rattle.atspi_base.specs.valid_names.Names.{is_bus_name}
use Rattle.atspi_base.specs.valid_names.Elements.{are_two_or_more, are_elements, parts_of}
use Rattle.atspi_protocol.proofs.exporting.examples.taking.edits.Goals as goal

pub returns-clause-name : goal.returns-clause-name
unfolding lib.Utf8.encode path_of is_bus_name are_two_or_more are_elements parts_of
returns-clause-name c = refl

pub returns-clause-insert : goal.returns-clause-insert
unfolding lib.Utf8.encode path_of is_bus_name are_two_or_more are_elements parts_of
returns-clause-insert c = refl

pub returns-clause-insert_heard : goal.returns-clause-insert_heard
unfolding lib.Utf8.encode path_of is_bus_name are_two_or_more are_elements parts_of
returns-clause-insert_heard c = refl
