use Rattle.std.proofs.Common.{List, ℕ, ap, sym, ◌∙◌}
use Rattle.std.specs.Option.{option_copied}
use Rattle.std.proofs.lemmas.Result.{IfOk-weaker}
use Rattle.atspi_message_in_place.specs.View.{envelope_at}
use Rattle.atspi_tree_model.specs.declared.news.News.TheVariants.{Nothing}
use Rattle.atspi_protocol.specs.news.NewsOf.{news_of, or_empty}
use Rattle.atspi_protocol.specs.following.Takes.{found_in}
use Rattle.atspi_reader.proofs.Changed.{found_name}
use Rattle.atspi_reader.proofs.Rest.{untold, news_by_name}
use Rattle.atspi_reader.proofs.state.Reader.read_news.Goals as goal

pub returns-in-Some : goal.returns-in-Some
returns-in-Some c = λ h.
    let e = envelope_at c.args.m.now in
    let apps = c.args.self.now.apps in
    let found = sym (ap (λ (n : List ℕ). found_in n apps) c.sender_of.ensures) ∙ sym c.found.ensures ∙ ap option_copied c.in-Some.is in
    IfOk-weaker c.news_of.result _ _
    (λ news same. same ∙ news_by_name c.as_str.result.now c.name.result.now (or_empty e.sender) e c.as_str.ensures.rule c.as_str.ensures.bytes (c.name.ensures ∙ found_name (or_empty e.sender) apps c.in-Some.app.now found))
    c.news_of.ensures

pub returns-in-None : goal.returns-in-None
returns-in-None c = λ h.
    let e = envelope_at c.args.m.now in
    let apps = c.args.self.now.apps in
    let found = sym (ap (λ (n : List ℕ). found_in n apps) c.sender_of.ensures) ∙ sym c.found.ensures ∙ ap option_copied c.in-None.is in
    untold (or_empty e.sender) apps Nothing (news_of (or_empty e.sender) e) found h
