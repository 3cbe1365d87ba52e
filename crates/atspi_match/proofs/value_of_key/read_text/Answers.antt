use Rattle.atspi_base.specs.declared.text.TextFault.TheVariants.{Zero, Utf8}
use Rattle.atspi_match.proofs.TextLemmas.{text_read, no_text}
use Rattle.atspi_match.proofs.value_of_key.read_text.Goals as goal

pub returns-in-Ok-clause-ok : goal.returns-in-Ok-clause-ok
returns-in-Ok-clause-ok c = text_read c.args.value.now c.in-Ok.text c.if-value-ge4294967296.false c.in-Ok.ensures.text

pub returns-in-Err-Zero-clause-form : goal.returns-in-Err-Zero-clause-form
returns-in-Err-Zero-clause-form c = λ _. no_text c.args.value.now (Zero c.in-Err-Zero.field-0-0) (rw c.in-Err-Zero.field-0-is at c.in-Err-Zero.ensures.text)

pub returns-in-Err-Utf8-clause-form : goal.returns-in-Err-Utf8-clause-form
returns-in-Err-Utf8-clause-form c = λ _. no_text c.args.value.now (Utf8 c.in-Err-Utf8.field-0-0) (rw c.in-Err-Utf8.field-0-is at c.in-Err-Utf8.ensures.text)
