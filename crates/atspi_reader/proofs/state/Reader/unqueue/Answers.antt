use Rattle.std.proofs.Common.{List, sym, ap, ◌∙◌}
use Rattle.std.proofs.lemmas.List.{take-map}
use Rattle.atspi_protocol.specs.following.ReaderState.{Done}
use Rattle.atspi_reader.specs.Doing.{done_of, all_done}
use Rattle.atspi_reader.specs.ReaderOf.{reader_of}
use Rattle.atspi_reader.proofs.state.Reader.unqueue.Goals as goal

pub returns : goal.returns
returns c =
    ap (λ (l : List Done). record (reader_of c.args.self.now) { out = l })
    (ap all_done c.truncate.ensures.items ∙ sym (take-map done_of c.args.count c.args.self.now.out.items))
