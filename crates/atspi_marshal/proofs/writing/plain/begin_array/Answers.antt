use Rattle.atspi_marshal.proofs.WritingSteps.{array_begun}
use Rattle.atspi_marshal.proofs.writing.plain.begin_array.Goals as goal

pub returns-clause-writes : goal.returns-clause-writes
returns-clause-writes c = array_begun c.args.align c.args.at c.in_ok-unpadded.unpadded c.args.out.now c.put_padded.new.out c.put_padding.new.out c.put_padding.result c.in_ok-unpadded.ensures.writes c.put_padding.ensures.pads
