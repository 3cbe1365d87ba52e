use Rattle.std.proofs.Common.{arith}
use Rattle.atspi_script_lines.proofs.NumberLemmas.{too_many}
use Rattle.atspi_script_lines.proofs.PartLemmas.{cut_front}
use Rattle.atspi_browse.proofs.words.read_reader.Goals as goal

pub returns-then-reader-ge-READER_COUNT : goal.returns-then-reader-ge-READER_COUNT
returns-then-reader-ge-READER_COUNT c = λ n.
    too_many c.args.word.now _ 114 c.in-Some.reader 4 (cut_front c.args.word.now 114 (omega arith) (omega arith)) c.in-Some.ensures.0 c.in-Some.ensures.1 (omega arith) (omega arith) n
