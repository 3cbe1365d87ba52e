use Rattle.std.proofs.Common.{List, ℕ, ap, subst, ◌∙◌}
use Rattle.atspi_protocol.specs.following.Wishes.{wishes}
use Rattle.atspi_protocol.specs.following.Replied.{changed, refused_part}
use Rattle.atspi_reader_known.specs.Wanted.{first}
use Rattle.atspi_reader.specs.inner.Asked.{Queues}
use Rattle.atspi_reader.specs.ReaderOf.{reader_of}
use Rattle.atspi_reader.proofs.state.Reader.proceeds_without.Goals as goal

pub returns : goal.returns
returns c =
    let s = reader_of c.args.self.now in
    subst (Queues c.proceeds.result s (reader_of c.proceeds.new.self) s.to_come)
    (c.in_ok-wish.ensures ∙ ap (λ (n : List ℕ). first (wishes (changed (refused_part c.args.path.now c.args.part) n s.apps))) c.as_str.ensures.bytes)
    c.proceeds.ensures
