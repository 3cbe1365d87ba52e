use Rattle.std.proofs.Common.{rules, not, filter, ap, sym, subst, ◌∙◌}
use Rattle.std.specs.List.{position}
use Rattle.std.proofs.lemmas.Fn.{filter_same}
use Rattle.atspi_protocol.specs.following.ReaderState.{Followed, is_named}
use Rattle.atspi_reader_known.specs.Places.{AreFound}
use Rattle.atspi_reader_known.proofs.Placed.{found_forget, nobody_forgotten}
use Rattle.atspi_reader_known.proofs.Uniqueness.{nobody}
use Rattle.atspi_reader_known.proofs.apps.Apps.forget.Goals as goal

pub invariant_of-self : goal.invariant_of-self
invariant_of-self c =
    let kept = filter_same _ (λ (app : Followed). not (is_named c.args.name.now app)) _ (λ x b f' r. search rules) _ _ c.retain.ensures.filtered in
    subst (AreFound c.move_up.new.self) (sym kept)
    (found_forget c.self.inside.places c.remove.new.self c.move_up.new.self c.args.name.now c.in-Some.place c.self.inside.items.items
    (ap (position (is_named c.args.name.now)) c.self.view_is ∙ sym c.place.ensures ∙ c.in-Some.is) c.self.invariant c.remove.ensures c.move_up.ensures)

pub returns-in-Some : goal.returns-in-Some
returns-in-Some c =
    filter_same _ (λ (app : Followed). not (is_named c.args.name.now app)) _ (λ x b f' r. search rules) _ _ c.retain.ensures.filtered
    ∙ ap (filter (λ (app : Followed). not (is_named c.args.name.now app))) c.self.view_is

pub returns-in_default : goal.returns-in_default
returns-in_default c = nobody_forgotten c.args.name.now c.args.self.now (nobody c.args.name.now c.args.self.now (sym c.place.ensures ∙ c.in_default.is))
