use Rattle.std.proofs.Common.{true, ap, refl}
use Rattle.std.proofs.lemmas.Result.{err_from_is_err_and}
use Rattle.atspi_message_in_place.specs.View.{envelope_at}
use Rattle.atspi_protocol.specs.following.ReaderState.{ReaderState}
use Rattle.atspi_protocol.specs.following.Takes.{goes_on}
use Rattle.atspi_reader.specs.ReaderOf.{reader_of}
use Rattle.atspi_reader.proofs.Done.{same_step}
use Rattle.atspi_reader.proofs.Replies.{answer_kept, answer_failed, start_is}
use Rattle.atspi_reader.proofs.state.Reader.take_start.Goals as goal

pub returns : goal.returns
returns c =
    let s = reader_of c.args.self.now in
    let mid = reader_of c.proceeds.new.self in
    let e = envelope_at c.args.m.now in
    same_step _ _ _ _ _ (ap goes_on (start_is s e c.args.starts))
    (answer_kept s mid mid (reader_of c.note.new.self) (reader_of c.answered.new.self) e true c.args.starts s.registry s.apps c.in_ok-wish.wish c.in_ok-wish.ensures
    _ c.in_ok-next.next c.in_ok-next.ensures
    (ap (λ (r : ReaderState). record mid { apps = r.apps }) c.in_ok-next.ensures.queued)
    c.note.ensures c.answered.ensures)

pub returns-in_err-next : goal.returns-in_err-next
returns-in_err-next c =
    let s = reader_of c.args.self.now in
    let mid = reader_of c.proceeds.new.self in
    let e = envelope_at c.args.m.now in
    let p = err_from_is_err_and c.from_residual-in_err-next.result c.from_residual-in_err-next.ensures.1 in
    rw (p.1, p.2) (same_step _ _ _ _ _ (ap goes_on (start_is s e c.args.starts))
    (answer_failed s mid mid mid mid e true c.args.starts s.registry s.apps c.in_ok-wish.wish c.in_ok-wish.ensures _ c.in_err-next.ensures refl))
