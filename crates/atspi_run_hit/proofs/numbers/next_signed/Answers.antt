use Rattle.atspi_run_hit.proofs.OwnLines.{signed_is}
use Rattle.atspi_run_hit.proofs.numbers.next_signed.Goals as goal

pub returns-in-None : goal.returns-in-None
returns-in-None c = λ z rest f h. c.in-None.ensures z f (signed_is c.in-Some.word.now c.in-Some.rest.now rest c.args.bytes.now z c.in-Some.ensures.0 f c.in-Some.ensures.1 h)
