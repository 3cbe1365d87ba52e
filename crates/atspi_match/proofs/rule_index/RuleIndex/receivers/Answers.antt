use Rattle.std.proofs.Common.{◌≡◌, ◌+◌, ◌≤◌, ℕ, List, ap, sym, ◌∙◌, ◌++◌, subst, length, arith}
use Rattle.std.proofs.lemmas.Result.{on_ok_weaker}
use Rattle.atspi_message_in_place.specs.View.{envelope_at}
use Rattle.std.proofs.lemmas.List.Sums.{count_by-le-length}
use Rattle.atspi_match.specs.RuleIndex.{is_near, nearby}
use Rattle.atspi_match.specs.Slots.{Slots, Pair, held_in, chosen}
use Rattle.atspi_match.proofs.IndexLemmas.{Finds, are_receivers, appended, rising_once}
use Rattle.atspi_match.proofs.SlotLemmas.{chosen_few, finds_all}
use Rattle.atspi_match.proofs.rule_index.RuleIndex.receivers.Goals as goal

pub returns-in_err-found-clause-steps : goal.returns-in_err-found-clause-steps
returns-in_err-found-clause-steps c =
    let e = envelope_at c.args.m.now in
    let near = λ (p : Pair). is_near e p.1 in
    let slots = c.self.inside.slots.items in
    let places = c.dedup.new.self.items in
    let rise = rising_once c.in_ok-places.places.items c.sort_unstable.new.self.items places c.sort_unstable.ensures.permutation c.sort_unstable.ensures.sorted c.dedup.ensures.filtered in
    let few : nearby e (chosen slots places) ≤ nearby e (held_in slots) = chosen_few near slots places rise.0 in
    let all : nearby e (held_in slots) ≤ length (held_in slots) = count_by-le-length near (held_in slots) in
    let seen : length (held_in slots) ≡ length c.args.self.now = ap (λ l. length l) c.self.view_is in
    let looked : nearby e (chosen c.deref.result.now c.deref-2.result.now) ≡ nearby e (chosen slots places) =
    ap (λ (l : Slots). nearby e (chosen l c.deref-2.result.now)) c.deref.ensures.value ∙ ap (λ l. nearby e (chosen slots l)) c.deref-2.ensures.value in (
      omega (arith, c.receiving.ensures.steps.0),
      omega (arith, c.receiving.ensures.steps.1),
    )

pub returns-clause-steps : goal.returns-clause-steps
returns-clause-steps c =
    let e = envelope_at c.args.m.now in
    let near = λ (p : Pair). is_near e p.1 in
    let slots = c.self.inside.slots.items in
    let places = c.dedup.new.self.items in
    let rise = rising_once c.in_ok-places.places.items c.sort_unstable.new.self.items places c.sort_unstable.ensures.permutation c.sort_unstable.ensures.sorted c.dedup.ensures.filtered in
    let few : nearby e (chosen slots places) ≤ nearby e (held_in slots) = chosen_few near slots places rise.0 in
    let all : nearby e (held_in slots) ≤ length (held_in slots) = count_by-le-length near (held_in slots) in
    let seen : length (held_in slots) ≡ length c.args.self.now = ap (λ l. length l) c.self.view_is in
    let looked : nearby e (chosen c.deref.result.now c.deref-2.result.now) ≡ nearby e (chosen slots places) =
    ap (λ (l : Slots). nearby e (chosen l c.deref-2.result.now)) c.deref.ensures.value ∙ ap (λ l. nearby e (chosen slots l)) c.deref-2.ensures.value in (
      omega (arith, c.receiving.ensures.steps.0),
      omega (arith, c.receiving.ensures.steps.1),
    )

pub returns-in_err-found-clause-few : goal.returns-in_err-found-clause-few
returns-in_err-found-clause-few c =
    let e = envelope_at c.args.m.now in
    let near = λ (p : Pair). is_near e p.1 in
    let slots = c.self.inside.slots.items in
    let places = c.dedup.new.self.items in
    let rise = rising_once c.in_ok-places.places.items c.sort_unstable.new.self.items places c.sort_unstable.ensures.permutation c.sort_unstable.ensures.sorted c.dedup.ensures.filtered in
    let few : nearby e (chosen slots places) ≤ nearby e (held_in slots) = chosen_few near slots places rise.0 in
    let seen : nearby e (held_in slots) ≡ nearby e c.args.self.now = ap (nearby e) c.self.view_is in
    let looked : nearby e (chosen c.deref.result.now c.deref-2.result.now) ≡ nearby e (chosen slots places) =
    ap (λ (l : Slots). nearby e (chosen l c.deref-2.result.now)) c.deref.ensures.value ∙ ap (λ l. nearby e (chosen slots l)) c.deref-2.ensures.value in
    omega (arith, c.receiving.ensures.steps.1)

pub returns-clause-few : goal.returns-clause-few
returns-clause-few c =
    let e = envelope_at c.args.m.now in
    let near = λ (p : Pair). is_near e p.1 in
    let slots = c.self.inside.slots.items in
    let places = c.dedup.new.self.items in
    let rise = rising_once c.in_ok-places.places.items c.sort_unstable.new.self.items places c.sort_unstable.ensures.permutation c.sort_unstable.ensures.sorted c.dedup.ensures.filtered in
    let few : nearby e (chosen slots places) ≤ nearby e (held_in slots) = chosen_few near slots places rise.0 in
    let seen : nearby e (held_in slots) ≡ nearby e c.args.self.now = ap (nearby e) c.self.view_is in
    let looked : nearby e (chosen c.deref.result.now c.deref-2.result.now) ≡ nearby e (chosen slots places) =
    ap (λ (l : Slots). nearby e (chosen l c.deref-2.result.now)) c.deref.ensures.value ∙ ap (λ l. nearby e (chosen slots l)) c.deref-2.ensures.value in
    omega (arith, c.receiving.ensures.steps.1)

pub returns-clause-ok : goal.returns-clause-ok
returns-clause-ok c =
    let slots = c.self.inside.slots.items in
    let places = c.dedup.new.self.items in
    let found = c.in_ok-found.found.items in
    let e = envelope_at c.args.m.now in
    let rise = rising_once c.in_ok-places.places.items c.sort_unstable.new.self.items places c.sort_unstable.ensures.permutation c.sort_unstable.ensures.sorted c.dedup.ensures.filtered in
    let looked = subst (λ (l : Slots). Finds found (chosen l c.deref-2.result.now) e c.args.names.now) c.deref.ensures.value c.in_ok-found.ensures.found in
    let finds = subst (λ (l : List ℕ). Finds found (chosen slots l) e c.args.names.now) c.deref-2.ensures.value looked in
    let all = finds_all found slots places e c.args.names.now finds (λ place p is m. rise.1 place (c.in_ok-places.ensures p.1 c.args.names.now place (c.self.invariant.noted place p is) m)) in
    let are = are_receivers found c.sort_unstable-2.new.self.items c.dedup-2.new.self.items (held_in slots) e c.args.names.now all
    c.sort_unstable-2.ensures.permutation c.sort_unstable-2.ensures.sorted c.dedup-2.ensures.filtered in
    on_ok_weaker c.append.result
    (λ is. appended c.args.out.now c.append.new.out c.dedup-2.new.self.items c.args.self.now e c.args.names.now
    (rw (← c.self.view_is) are) (is ∙ ap (λ z. c.args.out.now ++ z) c.deref-3.ensures.value))
    c.append.ensures.ok
