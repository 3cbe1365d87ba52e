use Rattle.std.proofs.Common.{◌++◌, drop, ap, ◌∙◌}
use Rattle.atspi_faces.proofs.BufferLemmas.{moved_left, at_most}
use Rattle.atspi_faces.proofs.buffer.Buffer.move_left.Goals as goal

pub returns-clause-back : goal.returns-clause-back
returns-clause-back c =
    let front = ap (λ p. p.0) c.self.view_is in
    moved_left c.self.inside.bytes.items c.copy_within.new.self.items c.args.at c.self.inside.start c.self.inside.end (at_most c.self.inside.bytes.items c.self.inside.start c.args.at _ front c.requires) c.self.invariant.0 c.self.invariant.1 c.copy_within.ensures.items
    ∙ ap (λ p. drop c.args.at p.0 ++ p.1) c.self.view_is
