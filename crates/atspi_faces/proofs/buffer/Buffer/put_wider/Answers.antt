use Rattle.std.proofs.Common.{drop, ap, ◌∙◌}
use Rattle.atspi_faces.proofs.BufferLemmas.{written_back}
use Rattle.atspi_faces.proofs.buffer.Buffer.put_wider.Goals as goal

pub returns-clause-back : goal.returns-clause-back
returns-clause-back c =
    written_back c.in_ok-wider.wider.items c.overwrite.new.bytes.items c.args.bytes.now c.self.inside.start c.in_ok-wider.end c.in_ok-wider.ensures.wide c.in_ok-wider.ensures.end c.overwrite.ensures
    ∙ c.in_ok-wider.ensures.back ∙ ap (λ l. drop c.self.inside.end l) c.deref.ensures.value ∙ ap (λ p. p.1) c.self.view_is
