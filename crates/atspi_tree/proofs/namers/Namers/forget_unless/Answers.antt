use Rattle.std.proofs.Common.{refl, sym, ◌∙◌}
use Rattle.atspi_tree.proofs.Notes.{named_more}
use Rattle.atspi_tree.proofs.namers.Namers.forget_unless.Goals as goal

pub returns-then-not-contains-clause-named : goal.returns-then-not-contains-clause-named
returns-then-not-contains-clause-named c =
    named_more c.args.self.now.sets c.args.self.now.sets c.forget.new.self.sets c.args.named.now c.args.node c.args.target (λ t h. refl) c.forget.ensures.note (sym c.contains.ensures ∙ c.if-not-contains.true)
