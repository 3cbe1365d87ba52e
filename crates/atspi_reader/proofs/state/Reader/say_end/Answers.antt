use Rattle.std.proofs.Common.{List, ◌++◌, ap, sym, ◌∙◌, chars, append_assoc}
use Rattle.std.specs.Option.{option_copied}
use Rattle.std.proofs.lemmas.List.{append-nil}
use Rattle.std.proofs.lemmas.Result.{on_ok_weaker}
use Rattle.atspi_protocol.specs.following.ReaderState.{Done}
use Rattle.atspi_protocol.specs.following.Known.{closing_of, end_of_connection}
use Rattle.atspi_reader.specs.Doing.{all_done}
use Rattle.atspi_reader.proofs.Spelled.{closings_found, closings_none}
use Rattle.atspi_reader.proofs.state.Reader.say_end.Goals as goal

pub returns-in-Some : goal.returns-in-Some
returns-in-Some c =
    let t = c.args.name.now in
    let apps = c.args.self.now.apps in
    let before = all_done c.args.events.now.items in
    let end = end_of_connection (chars t) in
    let found = sym c.found.ensures ∙ ap option_copied c.in-Some.is in
    let close = closings_found t c.utf8.name apps c.requires c.in-Some.app.now found in
    on_ok_weaker c.say_closing.result
    (λ same. same ∙ ap (λ (l : List Done). l ++ closing_of c.in-Some.app.now) c.in_ok-tell_end.ensures ∙ append_assoc before end (closing_of c.in-Some.app.now) ∙ ap (λ (l : List Done). before ++ (end ++ l)) (sym close))
    c.say_closing.ensures

pub returns-in-None : goal.returns-in-None
returns-in-None c =
    let t = c.args.name.now in
    let apps = c.args.self.now.apps in
    let before = all_done c.args.events.now.items in
    let end = end_of_connection (chars t) in
    let found = sym c.found.ensures ∙ ap option_copied c.in-None.is in
    c.in_ok-tell_end.ensures ∙ ap (λ (l : List Done). before ++ l) (sym (append-nil end) ∙ ap (λ (l : List Done). end ++ l) (sym (closings_none t c.utf8.name apps c.requires found)))
