use Rattle.std.proofs.Common.{arith}
use Rattle.atspi_script_lines.proofs.NumberLemmas.{too_many}
use Rattle.atspi_script_lines.proofs.PartLemmas.{cut_front}
use Rattle.atspi_browse.proofs.words.read_app.Goals as goal

pub returns-then-app-ge-APP_COUNT : goal.returns-then-app-ge-APP_COUNT
returns-then-app-ge-APP_COUNT c = λ n.
    too_many c.args.word.now _ 97 c.in-Some.app 16 (cut_front c.args.word.now 97 (omega arith) (omega arith)) c.in-Some.ensures.0 c.in-Some.ensures.1 (omega arith) (omega arith) n
