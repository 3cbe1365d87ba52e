use Rattle.std.proofs.Common.{◌≡◌, ◌+◌, ◌≤◌, ◌<◌, [], ◌++◌, length, take, get_or, sym, ap, ◌∙◌, subst, arith}
use Rattle.std.specs.Prelude.{option_to_list}
use Rattle.std.proofs.lemmas.List.{take_all}
use Rattle.atspi_message_in_place.specs.View.{envelope_at}
use Rattle.atspi_match.specs.RuleIndex.{is_near, nearby}
use Rattle.atspi_match.specs.Slots.{Pair, chosen, slot_at}
use Rattle.atspi_match.proofs.IndexLemmas.{Finds}
use Rattle.atspi_match.proofs.SlotLemmas.{chosen-more, chosen_front, count-append, finds_heard, finds_nobody}
use Rattle.atspi_match.proofs.slots.receiving.Goals as goal

pub loop-place-init : goal.loop-place-init
loop-place-init c = record {
  finds = subst (λ l. Finds l [] (envelope_at c.args.m.now) c.args.names.now) (sym c.in_ok-found.ensures.items) (finds_nobody (envelope_at c.args.m.now) c.args.names.now);
  rose = omega arith;
  few = omega arith;
}

pub loop-place-preserved : goal.loop-place-preserved
loop-place-preserved c =
    let e = envelope_at c.args.m.now in
    let slots = c.args.slots.now in
    let xs = c.args.places.now in
    let i = c.loop-place.place-index in
    let lt : i < length xs = omega arith in
    let more = chosen-more slots xs i 0 lt in
    let long : nearby e (chosen slots (take (i + 1) xs)) ≡ nearby e (chosen slots (take i xs)) + nearby e (option_to_list (slot_at slots (get_or xs i 0))) =
    ap (nearby e) more ∙ count-append (λ (p : Pair). is_near e p.1) (chosen slots (take i xs)) (option_to_list (slot_at slots (get_or xs i 0))) in
    record {
      finds = subst (λ l. Finds c.put.new.found.items l (envelope_at c.args.m.now) c.args.names.now) (sym more)
          (finds_heard c.loop-place.found.items c.put.new.found.items c.heard_at-conn.result (chosen slots (take i xs)) (option_to_list (slot_at slots (get_or xs i 0)))
          (envelope_at c.args.m.now) c.args.names.now c.loop-place.invariant.finds c.heard_at-conn.ensures.heard c.in_ok-put.ensures);
      rose = omega (arith, c.heard_at-conn.ensures.steps.0, c.loop-place.invariant.rose);
      few = omega (arith, c.heard_at-conn.ensures.steps.1, c.loop-place.invariant.few);
    }

pub returns-in_err-put-clause-steps : goal.returns-in_err-put-clause-steps
returns-in_err-put-clause-steps c =
    let e = envelope_at c.args.m.now in
    let slots = c.args.slots.now in
    let xs = c.args.places.now in
    let i = c.loop-place.place-index in
    let lt : i < length xs = omega arith in
    let long : nearby e (chosen slots (take (i + 1) xs)) ≡ nearby e (chosen slots (take i xs)) + nearby e (option_to_list (slot_at slots (get_or xs i 0))) =
    ap (nearby e) (chosen-more slots xs i 0 lt) ∙ count-append (λ (p : Pair). is_near e p.1) (chosen slots (take i xs)) (option_to_list (slot_at slots (get_or xs i 0))) in
    let front = chosen_front (λ (p : Pair). is_near e p.1) slots xs (i + 1) in (
      omega (arith, c.heard_at-conn.ensures.steps.0, c.loop-place.invariant.rose),
      omega (arith, c.heard_at-conn.ensures.steps.1, c.loop-place.invariant.few),
    )

pub returns-clause-found : goal.returns-clause-found
returns-clause-found c =
    let past : length c.args.places.now ≤ c.loop-place.place-index = omega arith in
    subst (λ l. Finds c.loop-place.found.items (chosen c.args.slots.now l) (envelope_at c.args.m.now) c.args.names.now)
    (take_all c.loop-place.place-index c.args.places.now past) c.loop-place.invariant.finds

pub returns-clause-steps : goal.returns-clause-steps
returns-clause-steps c =
    let e = envelope_at c.args.m.now in
    let front = chosen_front (λ (p : Pair). is_near e p.1) c.args.slots.now c.args.places.now c.loop-place.place-index in (
      omega (arith, c.loop-place.invariant.rose),
      omega (arith, c.loop-place.invariant.few),
    )
