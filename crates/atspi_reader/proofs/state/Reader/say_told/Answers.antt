use Rattle.std.proofs.Common.{List, ℕ, ◌++◌, ap, sym, ◌∙◌}
use Rattle.std.specs.Option.{option_copied}
use Rattle.std.proofs.lemmas.Result.{on_ok_weaker}
use Rattle.atspi_message_in_place.specs.View.{envelope_at}
use Rattle.atspi_protocol.specs.news.NewsOf.{or_empty}
use Rattle.atspi_protocol.specs.following.ReaderState.{Done}
use Rattle.atspi_protocol.specs.following.Takes.{found_in}
use Rattle.atspi_reader.specs.Doing.{all_done}
use Rattle.atspi_reader.proofs.Rest.{lines_none, lines_found}
use Rattle.atspi_reader.proofs.state.Reader.say_told.Goals as goal

pub returns-in-Some : goal.returns-in-Some
returns-in-Some c =
    let from = or_empty (envelope_at c.args.m.now).sender in
    let apps = c.args.self.now.apps in
    let found = sym (ap (λ (n : List ℕ). found_in n apps) c.sender_of.ensures) ∙ sym c.found.ensures ∙ ap option_copied c.in-Some.is in
    on_ok_weaker c.say_news.result
    (λ same. same ∙ ap (λ (l : List Done). all_done c.args.events.now.items ++ l) (lines_found c.args.news.now from apps c.in-Some.app.now c.requires.unique found))
    c.say_news.ensures

pub returns-in-None : goal.returns-in-None
returns-in-None c =
    let from = or_empty (envelope_at c.args.m.now).sender in
    let apps = c.args.self.now.apps in
    let found = sym (ap (λ (n : List ℕ). found_in n apps) c.sender_of.ensures) ∙ sym c.found.ensures ∙ ap option_copied c.in-None.is in
    lines_none c.args.news.now from apps (all_done c.args.events.now.items) found
