use Rattle.std.proofs.Common.{ap, ◌∙◌}
use Rattle.atspi_base.specs.valid_names.Names.{is_member}
use Rattle.atspi_bus_answers.proofs.NameTexts.{never_refused}
use Rattle.atspi_bus_answers.proofs.literal.member.Goals as goal

pub unreachable-requires : goal.unreachable-requires
unreachable-requires c =
    never_refused is_member c.in-Err-Form.field-0 c.as_bytes.result.now (ap is_member c.as_bytes.ensures.value ∙ c.requires) c.in-Err-Form.ensures.tested c.in-Err-Form.field-0-is
