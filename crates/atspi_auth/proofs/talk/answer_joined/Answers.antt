use Rattle.atspi_auth.proofs.TellsLemmas.{too_long_answer}
use Rattle.atspi_auth.proofs.talk.answer_joined.Goals as goal

pub returns-then-held-last-gt-LINE_LIMIT : goal.returns-then-held-last-gt-LINE_LIMIT
returns-then-held-last-gt-LINE_LIMIT c = too_long_answer c.args.waiting c.args.held.now c.args.last.now c.if-held-last-gt-LINE_LIMIT.true
