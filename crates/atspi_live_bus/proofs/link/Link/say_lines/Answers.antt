use Rattle.std.proofs.Common.{ℕ, List, [], ◌∷◌, ◌++◌, sym, ap, subst, ◌∙◌}
use Rattle.atspi_auth.specs.Talk.{HandsOut, Standing, server_start}
use Rattle.atspi_live_bus.proofs.Conversing.{line_said}
use Rattle.atspi_live_bus.proofs.link.Link.say_lines.Goals as goal

pub lines-preserved : goal.lines-preserved
lines-preserved c = record {
  talks = λ m h t g v.
      line_said m h c.lines.self c.queue.new.self t g c.in-Some.line
      (subst (λ (n : Standing). HandsOut server_start c.lines.self.server n (c.in-Some.line ∷ [])) (sym c.queue.ensures.server) c.in-Some.ensures.whole)
      (c.in-Some.ensures.line ∙ ap (λ (n : Standing). c.in-Some.line ∷ n.unsent) (sym c.queue.ensures.server))
      (ap (λ (n : Standing). n.stage) c.queue.ensures.server ∙ c.in-Some.ensures.stage)
      c.queue.ensures.feeder (c.in_default-queue.ensures.out ∙ ap (λ (w : List ℕ). c.lines.self.out.items ++ w) c.bytes.ensures) (c.lines.invariant.talks m h t g v);
  number = c.queue.ensures.number ∙ c.lines.invariant.number;
  conn = c.queue.ensures.conn ∙ c.lines.invariant.conn;
}
