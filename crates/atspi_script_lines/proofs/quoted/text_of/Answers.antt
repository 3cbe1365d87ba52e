use Rattle.std.proofs.Common.{arith}
use Rattle.atspi_script_lines.proofs.QuoteLemmas.{no_text, text_read}
use Rattle.atspi_script_lines.proofs.quoted.text_of.Goals as goal

pub returns-in-Ok : goal.returns-in-Ok
returns-in-Ok c = text_read c.args.raw.now c.in-Ok.text (omega arith) c.in-Ok.ensures.text

pub returns-in-Err-Zero : goal.returns-in-Err-Zero
returns-in-Err-Zero c = λ t. no_text c.args.raw.now t _ (rw c.in-Err-Zero.field-0-is at c.in-Err-Zero.ensures.text)

pub returns-in-Err-Utf8 : goal.returns-in-Err-Utf8
returns-in-Err-Utf8 c = λ t. no_text c.args.raw.now t _ (rw c.in-Err-Utf8.field-0-is at c.in-Err-Utf8.ensures.text)
