use Rattle.std.proofs.Common.{List, ℕ, ap, sym, ◌∙◌}
use Rattle.std.specs.Option.{option_copied}
use Rattle.std.proofs.lemmas.Result.{IfOk-weaker}
use Rattle.atspi_protocol.specs.following.Wishes.{wishes}
use Rattle.atspi_protocol.specs.following.Replied.{changed}
use Rattle.atspi_protocol.specs.following.Takes.{folded}
use Rattle.atspi_reader_known.specs.Wanted.{first}
use Rattle.atspi_reader.proofs.Changed.{wishes_found, wishes_only, nobody_found}
use Rattle.atspi_reader.proofs.News.{nobody_wants}
use Rattle.atspi_reader.proofs.state.Reader.sender_wish.Goals as goal

pub news_wish-requires : goal.news_wish-requires
news_wish-requires c =
    record { nothing = wishes_found c.sender_of.result.now c.args.self.now.apps c.in-Some.app.now c.requires.resting (sym c.found.ensures ∙ ap option_copied c.in-Some.is) }

pub returns-in-Some : goal.returns-in-Some
returns-in-Some c =
    let apps = c.args.self.now.apps in
    let news = c.args.news.now in
    IfOk-weaker c.news_wish.result _ _
    (λ w same. same
    ∙ sym (ap first (wishes_only (folded news) c.sender_of.result.now apps c.in-Some.app.now c.requires.fine.unique c.requires.resting (sym c.found.ensures ∙ ap option_copied c.in-Some.is)))
    ∙ ap (λ (n : List ℕ). first (wishes (changed (folded news) n apps))) c.sender_of.ensures)
    c.news_wish.ensures

pub returns-in-None : goal.returns-in-None
returns-in-None c =
    let apps = c.args.self.now.apps in
    let news = c.args.news.now in
    sym (nobody_wants news c.sender_of.result.now apps c.requires.resting (nobody_found c.sender_of.result.now apps (sym c.found.ensures ∙ ap option_copied c.in-None.is)))
    ∙ ap (λ (n : List ℕ). first (wishes (changed (folded news) n apps))) c.sender_of.ensures
