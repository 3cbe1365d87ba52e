use Rattle.std.proofs.Common.{ap, chars, ◌∙◌}
use Rattle.std.specs.Prelude.{bytes_eq}
use Rattle.atspi_reader_known.proofs.Same.{same_text, name_chars}
use Rattle.atspi_reader_known.proofs.app.is_bus.Goals as goal

pub returns : goal.returns
returns c =
    c.eq.ensures
    ∙ same_text c.as_str.result.now c.as_str-2.result.now c.args.text.now c.as_str.utf8 c.as_str-2.utf8 c.as_str.ensures.chars
    ∙ ap (bytes_eq c.args.text.now) (ap chars c.as_str-2.ensures.bytes ∙ name_chars c.args.name.now c.as_str-2.ensures.rule)
