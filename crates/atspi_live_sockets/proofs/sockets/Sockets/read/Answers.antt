use Rattle.std.proofs.Common.{refl, ap, ◌∙◌}
use Rattle.atspi_live_sockets.specs.Numbers.{numbers}
use Rattle.atspi_live_sockets.proofs.LinkLemmas.{numbers_set}
use Rattle.atspi_live_sockets.proofs.sockets.Sockets.read.Goals.{then-is_none, else-is_none}
use Rattle.atspi_live_sockets.proofs.sockets.Sockets.read.Goals as goal

pub returns-clause-links : goal.returns-clause-links
returns-clause-links c = numbers_set c.if-is_none.self.links.items c.in-Some.place c.index_mut.result.now _ c.index_mut.ensures.value refl
    ∙ elim c.if-is_none.branch [ then-is_none w ↦ ap (λ s. numbers s.links.items) w.self-is | else-is_none w ↦ ap (λ s. numbers s.links.items) w.self-is ]
