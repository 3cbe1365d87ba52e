use Rattle.std.proofs.Common.{sym, ap, ◌∙◌}
use Rattle.atspi_base.specs.valid_names.Names.{is_bus_name}
use Rattle.atspi_reader.proofs.Spelled.{app_named, no_app}
use Rattle.atspi_reader.proofs.known.app_of.Goals as goal

pub returns-in-Ok : goal.returns-in-Ok
returns-in-Ok c =
    app_named c.as_str.result.now c.args.reference.bus c.args.reference.path c.as_str.utf8 c.as_str.ensures.chars c.in-Ok.name c.app_named.result
    (ap is_bus_name (sym c.as_bytes.ensures.value) ∙ c.in-Ok.ensures.tested.1) (c.in-Ok.ensures.tested.0 ∙ c.as_bytes.ensures.value) c.app_named.ensures

pub returns : goal.returns
returns c =
    no_app c.as_str.result.now c.args.reference.bus c.args.reference.path c.as_str.utf8 c.as_str.ensures.chars
    (ap is_bus_name (sym c.as_bytes.ensures.value) ∙ (rw c.in-Err-Form.field-0-is at c.in-Err-Form.ensures).tested)
