use Rattle.std.proofs.Common.{ap, sym, bytes_eq, cond, List, ℕ, false, true, Some, ◌≡◌, ◌∙◌}
use Rattle.std.specs.Prelude.{is_some}
use Rattle.std.proofs.lemmas.Result.{on_ok_weaker}
use Rattle.atspi_reader_known.specs.Places.{place_in}
use Rattle.atspi_reader_known.proofs.Refusals.{place_kept, place_put}
use Rattle.atspi_reader_known.proofs.refused.note.Goals as goal

pub returns-then-is_some-clause-ok : goal.returns-then-is_some-clause-ok
returns-then-is_some-clause-ok c =
    let f = place_in c.args.since.now in
    let there : is_some (f c.args.path.now) ≡ true =
    ap (λ (p : List ℕ). is_some (f p)) (sym c.as_str-name.ensures.bytes) ∙ ap is_some (sym c.find.ensures) ∙ sym c.is_some.ensures ∙ c.if-is_some.true in
    place_kept c.args.path.now c.args.place f there

pub returns-clause-ok : goal.returns-clause-ok
returns-clause-ok c =
    let f = place_in c.args.since.now in
    let none : is_some (f c.args.path.now) ≡ false =
    ap (λ (p : List ℕ). is_some (f p)) (sym c.as_str-name.ensures.bytes) ∙ ap is_some (sym c.find.ensures) ∙ sym c.is_some.ensures ∙ c.if-is_some.false in
    on_ok_weaker c.put.result
    (λ h. λ q. h q ∙ ap (λ (n : List ℕ). cond (bytes_eq n q) (Some c.args.place) (f q)) c.as_str-name.ensures.bytes ∙ place_put c.args.path.now c.args.place f none q)
    c.put.ensures.ok
