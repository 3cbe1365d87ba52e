use Rattle.std.proofs.Common.{sym, ap, ◌∙◌, List}
use Rattle.atspi_message_in_place.specs.View.{envelope_at}
use Rattle.atspi_protocol.specs.news.Replies.{items_told}
use Rattle.atspi_protocol.specs.following.ReaderState.{Followed}
use Rattle.atspi_protocol.specs.following.Takes.{goes_on}
use Rattle.atspi_reader.specs.inner.Turns.{free, with_apps, replaced}
use Rattle.atspi_reader.specs.ReaderOf.{reader_of}
use Rattle.atspi_reader.proofs.Done.{same_step}
use Rattle.atspi_reader.proofs.Replies.{items_is}
use Rattle.atspi_reader.proofs.state.Reader.take_items.Goals as goal

pub returns-in-Some : goal.returns-in-Some
returns-in-Some c =
    let s = reader_of c.args.self.now in
    let e = envelope_at c.args.m.now in
    same_step _ _ _ _ _
    (ap (λ (l : List Followed). goes_on (free (with_apps s l) e)) (ap (λ o. replaced o c.args.name.now s.apps) (sym c.in-Some.is) ∙ c.in_ok-app.ensures.apps)
    ∙ ap goes_on (items_is s e c.args.name.now (items_told e)))
    c.put_app.ensures

pub returns-in-None : goal.returns-in-None
returns-in-None c =
    let s = reader_of c.args.self.now in
    let e = envelope_at c.args.m.now in
    same_step _ _ _ _ _
    (ap (λ (l : List Followed). goes_on (free (with_apps s l) e)) (ap (λ o. replaced o c.args.name.now s.apps) (sym c.in-None.is) ∙ c.in_ok-app.ensures.apps)
    ∙ ap goes_on (items_is s e c.args.name.now (items_told e)))
    c.forget_app.ensures
