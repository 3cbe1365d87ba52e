use Rattle.std.proofs.Common.{◌++◌, ◌∷◌, [], sym, ap, ◌∙◌, append_assoc, append-nil}
use Rattle.atspi_match.proofs.rule_groups.append_places.Goals as goal

pub loop-place-preserved : goal.loop-place-preserved
loop-place-preserved c =
    let place = c.in-Some.place.now in
    let rest = c.next.new.self in
    ap (λ l. l ++ rest) c.in_ok-push.ensures.items ∙ append_assoc c.loop-place.places.items (place ∷ []) rest
    ∙ ap (λ l. c.loop-place.places.items ++ l) (sym c.in-Some.ensures.steps) ∙ c.loop-place.invariant

pub returns : goal.returns
returns c =
    sym (append-nil c.loop-place.places.items) ∙ ap (λ l. c.loop-place.places.items ++ l) (sym c.in-None.ensures.steps.0) ∙ c.loop-place.invariant
    ∙ ap (λ l. c.reserve.new.self.items ++ l) c.into_iter-place-iterator.ensures.into_iter_gives.0 ∙ ap (λ l. l ++ c.args.set.now.keys) c.in_ok-reserve.ensures.items
