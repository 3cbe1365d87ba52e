use Rattle.std.proofs.Common.{List, ℕ, true, ap, refl, ◌∙◌}
use Rattle.std.proofs.lemmas.Result.{err_from_is_err_and}
use Rattle.atspi_message_in_place.specs.View.{envelope_at}
use Rattle.atspi_protocol.specs.following.ReaderState.{ReaderState}
use Rattle.atspi_protocol.specs.following.Wishes.{wishes}
use Rattle.atspi_reader_known.specs.Wanted.{first}
use Rattle.atspi_protocol.specs.following.Replied.{changed}
use Rattle.atspi_reader.specs.inner.Turns.{with_apps}
use Rattle.atspi_reader.specs.ReaderOf.{reader_of}
use Rattle.atspi_reader.proofs.Replies.{answer_kept, answer_failed}
use Rattle.atspi_reader.proofs.state.Reader.put_app.Goals as goal

pub returns : goal.returns
returns c =
    let s = reader_of c.args.self.now in
    let mid = reader_of c.proceeds_with.new.self in
    let app = c.args.app in
    let all = changed (λ _. app) c.args.name.now s.apps in
    answer_kept s mid (with_apps mid c.put.new.self) (reader_of c.note.new.self) (reader_of c.answered.new.self) (envelope_at c.args.m.now) true true s.registry
    all (first (wishes all)) refl
    _ c.in_ok-next.next c.in_ok-next.ensures
    (ap (with_apps mid) (c.put.ensures ∙ ap (λ (n : List ℕ). changed (λ _. app) n mid.apps) c.requires.named ∙ ap (λ (r : ReaderState). changed (λ _. app) c.args.name.now r.apps) c.in_ok-next.ensures.queued))
    c.note.ensures c.answered.ensures

pub returns-in_err-next : goal.returns-in_err-next
returns-in_err-next c =
    let s = reader_of c.args.self.now in
    let mid = reader_of c.proceeds_with.new.self in
    let all = changed (λ _. c.args.app) c.args.name.now s.apps in
    let p = err_from_is_err_and c.from_residual.result c.from_residual.ensures.1 in
    rw (p.1, p.2) (answer_failed s mid mid mid mid (envelope_at c.args.m.now) true true s.registry all (first (wishes all)) refl _ c.in_err-next.ensures refl)
