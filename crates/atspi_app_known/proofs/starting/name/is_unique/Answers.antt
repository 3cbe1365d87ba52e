use Rattle.std.proofs.Common.{◌≡◌, true, false, sym, ap, ◌∙◌}
use Rattle.atspi_base.specs.valid_names.Names.{is_bus_name, is_unique_name}
use Rattle.atspi_app_known.proofs.OfStarting.Unique.{unique_yes, unique_no}
use Rattle.atspi_app_known.proofs.starting.name.is_unique.Goals as goal

pub returns-then-is_bus_name : goal.returns-then-is_bus_name
returns-then-is_bus_name c =
    let rule : is_bus_name c.args.text.now ≡ true = ap is_bus_name (sym c.as_bytes-bytes.ensures.value) ∙ sym c.is_bus_name.ensures.tested ∙ c.if-is_bus_name.true in
    c.has_colon.ensures ∙ ap is_unique_name c.as_bytes-bytes.ensures.value ∙ unique_yes c.args.text.now c.utf8.text rule

pub returns : goal.returns
returns c =
    let rule : is_bus_name c.args.text.now ≡ false = ap is_bus_name (sym c.as_bytes-bytes.ensures.value) ∙ sym c.is_bus_name.ensures.tested ∙ c.if-is_bus_name.false in
    unique_no c.args.text.now c.utf8.text rule
