use Rattle.std.proofs.Common.{ap, ◌∙◌}
use Rattle.atspi_base.specs.valid_names.Names.{is_bus_name}
use Rattle.atspi_names.proofs.UniqueLemmas.{is_bus_name-unique_name, never_refused}
use Rattle.atspi_names.proofs.unique.unique_name.Goals as goal

pub unreachable-requires : goal.unreachable-requires
unreachable-requires c =
    never_refused c.in-Err-Form.field-0 c.as_bytes.result.now
    (ap is_bus_name (c.as_bytes.ensures.value ∙ c.in_ok-text.ensures.ok) ∙ is_bus_name-unique_name c.args.n c.ranges.n.fits)
    c.in-Err-Form.ensures.tested c.in-Err-Form.field-0-is
