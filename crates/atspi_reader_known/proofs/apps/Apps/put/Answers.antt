use Rattle.std.proofs.Common.{List, ℕ, ap, sym, set, subst, ◌∙◌}
use Rattle.std.specs.List.{position}
use Rattle.atspi_protocol.specs.following.ReaderState.{Followed, is_named}
use Rattle.atspi_reader_known.specs.Places.{AreFound}
use Rattle.atspi_reader_known.proofs.Placed.{found_put}
use Rattle.atspi_reader_known.proofs.Uniqueness.{nobody_changes, set_changed}
use Rattle.atspi_reader_known.proofs.apps.Apps.put.Goals as goal

pub invariant_of-self : goal.invariant_of-self
invariant_of-self c =
    let items = c.self.inside.items.items in
    let now = c.args.self.now in
    let pos = ap (λ (n : List ℕ). position (is_named n) now) (sym (c.as_str.ensures.bytes ∙ c.name.ensures)) ∙ sym c.place.ensures ∙ c.in-Some.is in
    subst (λ (b : Followed). AreFound c.self.inside.places (set items c.in-Some.place b)) (sym c.replace.ensures.after)
    (found_put c.self.inside.places items now c.in-Some.place c.index_mut.result.now c.args.app c.self.view_is pos c.index_mut.ensures.value c.self.invariant)

pub returns-in-Some : goal.returns-in-Some
returns-in-Some c =
    let items = c.self.inside.items.items in
    let now = c.args.self.now in
    let pos = ap (λ (n : List ℕ). position (is_named n) now) (sym (c.as_str.ensures.bytes ∙ c.name.ensures)) ∙ sym c.place.ensures ∙ c.in-Some.is in
    ap (set items c.in-Some.place) c.replace.ensures.after
    ∙ set_changed (λ _. c.args.app) c.args.app.name items now c.in-Some.place c.index_mut.result.now c.self.view_is pos c.index_mut.ensures.value c.self.invariant.0

pub returns-in-None : goal.returns-in-None
returns-in-None c =
    let spelled = c.as_str.ensures.bytes ∙ c.name.ensures in
    nobody_changes (λ _. c.args.app) c.args.app.name c.args.self.now (ap (λ (n : List ℕ). position (is_named n) c.args.self.now) (sym spelled) ∙ sym c.place.ensures ∙ c.in-None.is)
