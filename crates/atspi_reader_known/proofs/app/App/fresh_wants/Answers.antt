use Rattle.std.proofs.Common.{ap, sym, ◌∙◌}
use Rattle.std.proofs.lemmas.Result.{IfOk-weaker}
use Rattle.atspi_reader_known.specs.Listed.{fresh_wants}
use Rattle.atspi_reader_known.proofs.Following.{others_add}
use Rattle.atspi_reader_known.proofs.app.App.fresh_wants.Goals as goal

pub returns-in-Item : goal.returns-in-Item
returns-in-Item c = λ view e.
    IfOk-weaker c.added_wants.result _ _ (λ wants same. same ∙ ap (fresh_wants c.args.self.now view) (sym c.in-Item.is)) (c.added_wants.ensures view e)

pub returns-in_default : goal.returns-in_default
returns-in_default c = λ view e. c.new.ensures ∙ sym (others_add c.args.self.now view c.args.news.now c.in_default.not-Item)
