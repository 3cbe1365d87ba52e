use Rattle.std.proofs.Common.{◌∙◌}
use Rattle.atspi_base.proofs.TextLemmas.{zero_comes, whole, not_text}
use Rattle.atspi_base.proofs.text.read_str.Goals as goal

pub returns-then-before-bytes-clause-text : goal.returns-then-before-bytes-clause-text
returns-then-before-bytes-clause-text c = zero_comes c.args.bytes.now c.before_zero-before.result c.in-Ok.ensures.cases.1 c.before_zero-before.ensures c.if-before-bytes.true

pub returns-else-before-bytes-clause-text : goal.returns-else-before-bytes-clause-text
returns-else-before-bytes-clause-text c = whole c.args.bytes.now c.before_zero-before.result c.in-Ok.ensures.cases.1 c.before_zero-before.ensures c.if-before-bytes.false

pub returns-else-before-valid-clause-text : goal.returns-else-before-valid-clause-text
returns-else-before-valid-clause-text c = not_text c.args.bytes.now c.before_zero-before.result c.valid_up_to-valid.result c.in-Err.ensures.cases.0 c.before_zero-before.ensures (c.valid_up_to-valid.ensures ∙ c.in-Err.ensures.valid_len) c.if-before-valid.false
