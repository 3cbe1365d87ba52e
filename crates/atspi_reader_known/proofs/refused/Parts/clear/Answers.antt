use Rattle.atspi_reader_known.specs.declared.refused.Parts.{Parts}
use Rattle.atspi_reader_known.proofs.Refusals.{clears_parts}
use Rattle.atspi_reader_known.proofs.refused.Parts.clear.Goals as goal

pub returns : goal.returns
returns c =
    let new : Parts = record { texts = c.take_out.new.set; carets = c.take_out-2.new.set; columns = c.take_out-3.new.set } in
    clears_parts c.args.self.now new c.args.path.now c.take_out.ensures c.take_out-2.ensures c.take_out-3.ensures
