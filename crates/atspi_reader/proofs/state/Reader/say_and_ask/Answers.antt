use Rattle.std.proofs.Common.{◌++◌, filter, flat_map, ap, refl, ◌∙◌}
use Rattle.std.proofs.lemmas.Result.{err_from_is_err_and}
use Rattle.atspi_message_in_place.specs.View.{envelope_at}
use Rattle.atspi_protocol.specs.news.NewsOf.{or_empty}
use Rattle.atspi_protocol.specs.following.ReaderState.{is_named}
use Rattle.atspi_protocol.specs.following.Replied.{changed}
use Rattle.atspi_protocol.specs.following.Takes.{folded, lines_at}
use Rattle.atspi_protocol.specs.following.Wishes.{wishes}
use Rattle.atspi_reader_known.specs.Wanted.{first}
use Rattle.atspi_reader.specs.Doing.{all_done}
use Rattle.atspi_reader.specs.inner.Turns.{listed}
use Rattle.atspi_reader.specs.ReaderOf.{reader_of}
use Rattle.atspi_reader.proofs.News.{spoken, unspoken}
use Rattle.atspi_reader.proofs.state.Reader.say_and_ask.Goals as goal

pub returns : goal.returns
returns c = λ a is unheld.
    let s = reader_of c.args.self.now in
    let from = or_empty (envelope_at c.args.m.now).sender in
    let said = flat_map (lines_at c.args.news.now) (filter (is_named from) s.apps) in
    spoken s _ said _ (all_done c.rest.new.events.items) c.in_ok-wish.wish (first (wishes (changed (folded c.args.news.now) from (s.apps ++ listed a))))
    (λ h. c.in_ok-wish.ensures h a is unheld) c.in_ok-next.next
    (c.in_ok-say_told.ensures ∙ ap (λ l. all_done l ++ said) c.new-events.ensures.items)
    c.in_ok-next.ensures c.in_ok-queue.ensures.ok

pub returns-in_err-next : goal.returns-in_err-next
returns-in_err-next c = λ a is unheld.
    let s = reader_of c.args.self.now in
    let from = or_empty (envelope_at c.args.m.now).sender in
    let said = flat_map (lines_at c.args.news.now) (filter (is_named from) s.apps) in
    let p = err_from_is_err_and c.from_residual-in_err-next.result c.from_residual-in_err-next.ensures.1 in
    rw (p.1, p.2) (unspoken s s said _ (all_done c.rest.new.events.items) c.in_ok-wish.wish (first (wishes (changed (folded c.args.news.now) from (s.apps ++ listed a))))
    (λ h. c.in_ok-wish.ensures h a is unheld) c.in_err-next.field-0.0 c.in_err-next.ensures refl)
