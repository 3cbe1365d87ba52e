use Rattle.std.proofs.Common.{ap, sym, ◌∙◌}
use Rattle.std.proofs.lemmas.Result.{IfOk-weaker}
use Rattle.atspi_protocol.specs.following.ReaderState.{Followed}
use Rattle.atspi_reader_known.specs.Kept.{kept}
use Rattle.atspi_reader_known.specs.Wanted.{wish_at}
use Rattle.atspi_reader_known.proofs.Found.{no_other_wish, view_there}
use Rattle.atspi_reader_known.proofs.News.{news_wish_is}
use Rattle.atspi_reader_known.proofs.app.App.news_wish.Goals as goal

pub returns-in-Item : goal.returns-in-Item
returns-in-Item c =
    let now = c.args.self.now in
    let t = view_there (kept c.self.inside.cache) (sym c.is_held.ensures ∙ c.if-not-is_held.false) in
    let e = sym (ap (λ (a : Followed). a.view) c.self.view_is) ∙ t.1 in
    IfOk-weaker c.item_wish.result _ _ (λ w same. same ∙ ap (wish_at now t.0) (sym c.in-Item.is) ∙ news_wish_is now t.0 c.args.news.now e c.requires.nothing) (c.item_wish.ensures t.0 e)

pub returns-in-ChildAdded : goal.returns-in-ChildAdded
returns-in-ChildAdded c =
    let now = c.args.self.now in
    let t = view_there (kept c.self.inside.cache) (sym c.is_held.ensures ∙ c.if-not-is_held.false) in
    let e = sym (ap (λ (a : Followed). a.view) c.self.view_is) ∙ t.1 in
    IfOk-weaker c.child_wish.result _ _ (λ w same. same ∙ ap (wish_at now t.0) (sym c.in-ChildAdded.is) ∙ news_wish_is now t.0 c.args.news.now e c.requires.nothing) (c.child_wish.ensures t.0 e)

pub returns-in_default : goal.returns-in_default
returns-in_default c =
    let now = c.args.self.now in
    let t = view_there (kept c.self.inside.cache) (sym c.is_held.ensures ∙ c.if-not-is_held.false) in
    let e = sym (ap (λ (a : Followed). a.view) c.self.view_is) ∙ t.1 in
    no_other_wish now t.0 c.args.news.now c.in_default.not-Item c.in_default.not-ChildAdded ∙ news_wish_is now t.0 c.args.news.now e c.requires.nothing
