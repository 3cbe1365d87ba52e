use Rattle.std.proofs.Common.{List, ℕ, true, not, filter, ap, refl, ◌∙◌}
use Rattle.std.proofs.lemmas.Result.{err_from_is_err_and}
use Rattle.atspi_message_in_place.specs.View.{envelope_at}
use Rattle.atspi_protocol.specs.following.ReaderState.{Followed, ReaderState, is_named}
use Rattle.atspi_protocol.specs.following.Wishes.{wishes}
use Rattle.atspi_reader_known.specs.Wanted.{first}
use Rattle.atspi_reader.specs.inner.Turns.{with_apps}
use Rattle.atspi_reader.specs.ReaderOf.{reader_of}
use Rattle.atspi_reader.proofs.Replies.{answer_kept, answer_failed}
use Rattle.atspi_reader.proofs.state.Reader.forget_app.Goals as goal

pub returns : goal.returns
returns c =
    let s = reader_of c.args.self.now in
    let mid = reader_of c.proceeds.new.self in
    let name = c.args.name.now in
    answer_kept s mid (with_apps mid c.forget.new.self) (reader_of c.note.new.self) (reader_of c.answered.new.self) (envelope_at c.args.m.now) true true s.registry
    (filter (λ (app : Followed). not (is_named name app)) s.apps) c.in_ok-wish.wish
    (c.in_ok-wish.ensures ∙ ap (λ (n : List ℕ). first (wishes (filter (λ (app : Followed). not (is_named n app)) s.apps))) c.as_str.ensures.bytes)
    _ c.in_ok-next.next c.in_ok-next.ensures
    (ap (with_apps mid) (c.forget.ensures ∙ ap (λ (n : List ℕ). filter (λ (app : Followed). not (is_named n app)) mid.apps) c.as_str-2.ensures.bytes ∙ ap (λ (r : ReaderState). filter (λ (app : Followed). not (is_named name app)) r.apps) c.in_ok-next.ensures.queued))
    c.note.ensures c.answered.ensures

pub returns-in_err-next : goal.returns-in_err-next
returns-in_err-next c =
    let s = reader_of c.args.self.now in
    let mid = reader_of c.proceeds.new.self in
    let p = err_from_is_err_and c.from_residual-in_err-next.result c.from_residual-in_err-next.ensures.1 in
    rw (p.1, p.2) (answer_failed s mid mid mid mid (envelope_at c.args.m.now) true true s.registry
    (filter (λ (app : Followed). not (is_named c.args.name.now app)) s.apps) c.in_ok-wish.wish
    (c.in_ok-wish.ensures ∙ ap (λ (n : List ℕ). first (wishes (filter (λ (app : Followed). not (is_named n app)) s.apps))) c.as_str.ensures.bytes)
    _ c.in_err-next.ensures refl)
