use Rattle.std.proofs.Common.{true, ap, refl, ◌∙◌}
use Rattle.std.proofs.lemmas.Result.{err_from_is_err_and}
use Rattle.atspi_message_in_place.specs.View.{envelope_at}
use Rattle.atspi_protocol.specs.news.Replies.{part_told}
use Rattle.atspi_protocol.specs.following.ReaderState.{ReaderState}
use Rattle.atspi_protocol.specs.following.Wishes.{wishes}
use Rattle.atspi_protocol.specs.following.Replied.{changed, refused_part}
use Rattle.atspi_protocol.specs.following.Takes.{goes_on}
use Rattle.atspi_reader_known.specs.Wanted.{first}
use Rattle.atspi_reader.specs.inner.Turns.{with_apps, parted}
use Rattle.atspi_reader.specs.ReaderOf.{reader_of}
use Rattle.atspi_reader.proofs.Done.{same_step}
use Rattle.atspi_reader.proofs.Parts.{part_wish}
use Rattle.atspi_reader.proofs.Replies.{answer_kept, answer_failed, part_is}
use Rattle.atspi_reader.proofs.state.Reader.take_part.Goals as goal

pub returns-in-Ok : goal.returns-in-Ok
returns-in-Ok c =
    let s = reader_of c.args.self.now in
    let e = envelope_at c.args.m.now in
    let name = c.args.name.now in
    let path = c.args.path in
    let part = c.args.part in
    let told = part_told part path e in
    let mid = reader_of c.proceeds_without.new.self in
    same_step _ _ _ _ _ (ap goes_on (part_is s e name path part told))
    (answer_kept s mid (reader_of c.settle_part.new.self) (reader_of c.note.new.self) (reader_of c.answered.new.self) e true true s.registry
    (changed (parted told path part) name s.apps) (first (wishes (changed (refused_part path part) name s.apps))) (part_wish part path e told name s.apps refl)
    _ c.in_ok-next.next c.in_ok-next.ensures
    (c.in-Ok.ensures.ok ∙ ap (λ (r : ReaderState). with_apps mid (changed (parted told path part) name r.apps)) c.in_ok-next.ensures.queued)
    c.note.ensures c.answered.ensures)

pub returns-in_err-next : goal.returns-in_err-next
returns-in_err-next c =
    let s = reader_of c.args.self.now in
    let e = envelope_at c.args.m.now in
    let name = c.args.name.now in
    let path = c.args.path in
    let part = c.args.part in
    let told = part_told part path e in
    let mid = reader_of c.proceeds_without.new.self in
    let p = err_from_is_err_and c.from_residual.result c.from_residual.ensures.1 in
    rw (p.1, p.2) (same_step _ _ _ _ _ (ap goes_on (part_is s e name path part told))
    (answer_failed s mid mid mid mid e true true s.registry
    (changed (parted told path part) name s.apps) (first (wishes (changed (refused_part path part) name s.apps))) (part_wish part path e told name s.apps refl) _ c.in_err-next.ensures refl))
