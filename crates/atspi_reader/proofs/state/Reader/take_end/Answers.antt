use Rattle.std.proofs.Common.{List, ◌++◌, None, not, filter, ap, sym, ◌∙◌, chars, subst}
use Rattle.std.specs.Prelude.{Ok}
use Rattle.atspi_message_in_place.specs.View.{envelope_at}
use Rattle.atspi_protocol.specs.following.ReaderState.{Done, Followed, ReaderState, is_named}
use Rattle.atspi_protocol.specs.following.Known.{end_of_connection, closings}
use Rattle.atspi_protocol.specs.following.Takes.{notes}
use Rattle.atspi_reader.specs.Doing.{all_done}
use Rattle.atspi_reader.specs.inner.Asked.{Asks, went_on}
use Rattle.atspi_reader.specs.inner.Turns.{did, with_apps}
use Rattle.atspi_reader.specs.ReaderOf.{reader_of}
use Rattle.atspi_reader.proofs.News.{rested_done, ended_is, ended_wishes}
use Rattle.atspi_reader.proofs.Spelled.{left_by_chars}
use Rattle.atspi_reader.proofs.state.Reader.take_end.Goals as goal

pub returns : goal.returns
returns c =
    let s = reader_of c.args.self.now in
    let e = envelope_at c.args.m.now in
    let t = c.args.name.now in
    let said = end_of_connection (chars t) ++ closings (filter (is_named (chars t)) s.apps) in
    let after = all_done c.rest.new.events.items in
    let spoken = c.in_ok-say_end.ensures ∙ ap (λ l. all_done l ++ said) c.new-events.ensures.items in
    let gone = c.forget.ensures ∙ ap (λ (r : ReaderState). filter (λ (app : Followed). not (is_named t app)) r.apps) c.in_ok-queue.ensures.ok ∙ sym (left_by_chars t c.utf8.name s.apps c.requires.fine.named) in
    rested_done s _ said _ None (ended_is s e (chars t)) (λ h. ended_wishes s e (chars t) (c.requires.resting h)) _ c.in_ok-next.next after _
    (subst (λ (l : List Done). Asks (Ok c.in_ok-next.next) l after s.pending s.next s.to_come None) spoken c.in_ok-next.ensures)
    (c.goes_on.ensures
    ∙ ap (went_on c.in_ok-next.next)
    (c.note.ensures ∙ ap (λ (r : ReaderState). notes r e) (ap (λ (r : ReaderState). with_apps r c.forget.new.self) c.in_ok-queue.ensures.ok ∙ ap (with_apps (did s after)) gone)))
