use Rattle.atspi_names.specs.Owners.{own_name}
use Rattle.atspi_names.proofs.UniqueLemmas.{is_bus_name-own_name, never_refused}
use Rattle.atspi_names.proofs.unique.own_name.Goals as goal

pub unreachable-requires : goal.unreachable-requires
unreachable-requires c = never_refused c.in-Err-Form.field-0 own_name is_bus_name-own_name c.in-Err-Form.ensures.tested c.in-Err-Form.field-0-is
