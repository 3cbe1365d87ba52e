use Rattle.std.proofs.Common.{sym, ap, ◌∙◌}
use Rattle.std.proofs.lemmas.Result.{IfOk-weaker}
use Rattle.atspi_tree_model.specs.declared.news.News.{News}
use Rattle.atspi_protocol.specs.following.Takes.{still_refused}
use Rattle.atspi_reader_known.proofs.Anew.{others_stay}
use Rattle.atspi_reader_known.proofs.app.App.gone_refusals.Goals as goal

pub returns-in-Item : goal.returns-in-Item
returns-in-Item c = λ view e.
    IfOk-weaker c.gone_of.result _ _ (λ gone same. same ∙ ap (λ (n : News). still_refused view n c.args.self.now.refused) (sym c.in-Item.is)) (c.gone_of.ensures view e)

pub returns-in_default : goal.returns-in_default
returns-in_default c = λ view e. others_stay view c.args.news.now c.args.self.now.refused c.in_default.not-Item
