use Rattle.std.proofs.Common.{drop, length, ap, ◌∙◌, arith}
use Rattle.std.proofs.lemmas.List.{length-drop}
use Rattle.atspi_faces.proofs.BufferLemmas.{moved_right}
use Rattle.atspi_faces.proofs.buffer.Buffer.move_right.Goals as goal

pub returns-clause-back : goal.returns-clause-back
returns-clause-back c =
    moved_right c.self.inside.bytes.items c.copy_within.new.self.items c.self.inside.start c.self.inside.end c.args.len c.self.invariant.0 (omega (arith, c.requires, ap length (ap (λ p. p.1) c.self.view_is), length-drop c.self.inside.end c.self.inside.bytes.items)) c.copy_within.ensures.items
    ∙ ap (λ p. drop c.args.len p.1) c.self.view_is
