use Rattle.std.proofs.Common.{◌≡◌, List, ℕ, [], ◌∷◌, None, Some, map, sym, ap, ◌∙◌}
use Rattle.atspi_message_in_place.specs.View.{bytes_of, envelope_at}
use Rattle.atspi_message.specs.Bytes.{written}
use Rattle.atspi_match.specs.routing.Routing.{receivers, one_or_none}
use Rattle.atspi_match.specs.routing.Steps.{is_unowned, calls_after_all}
use Rattle.atspi_bus_steps.specs.inner.Handing.{queued_each}
use Rattle.atspi_bus_steps.specs.InnerBus.{call_of, parts}
use Rattle.atspi_bus_steps.proofs.Asking.{receivers-to}
use Rattle.atspi_bus_steps.proofs.InPlace.{told-as}
use Rattle.atspi_bus_steps.proofs.passing.pass_to_all.Goals as goal

pub returns-in-Some-clause-ok : goal.returns-in-Some-clause-ok
returns-in-Some-clause-ok c =
    let s = parts c.args.joined.now c.args.names.now c.args.rules.now in
    let e = envelope_at c.args.m.now in
    let calls = map call_of c.args.calls.now.items in
    let queues = c.args.queues.now in
    let is : e.destination ≡ Some c.in-Some.text.now = ap bytes_of c.in-Some.is in
    told-as _ _ _ _ c.pass_to_owner.result
    (λ w.
    let to : w.0 ∷ [] ≡ receivers s e = sym (receivers-to s e c.in-Some.text.now is ∙ ap one_or_none w.1) in
    record {
      owned = ap (λ d. is_unowned d (receivers s e)) is ∙ ap (is_unowned (Some c.in-Some.text.now)) (sym to);
      noted_is = w.2 ∙ ap (calls_after_all calls c.args.conn e) to;
      after_is = w.3 ∙ ap (λ (conns : List ℕ). record queues { waiting = queued_each queues.quota queues.waiting (written e) conns }) to;
    })
    (λ same. same)
    c.pass_to_owner.ensures.ok

pub returns-in_ok-found-in-None-clause-ok : goal.returns-in_ok-found-in-None-clause-ok
returns-in_ok-found-in-None-clause-ok c =
    let s = parts c.args.joined.now c.args.names.now c.args.rules.now in
    let e = envelope_at c.args.m.now in
    let calls = map call_of c.args.calls.now.items in
    let queues = c.args.queues.now in
    let is : e.destination ≡ None = ap bytes_of c.in-None.is in
    let to = c.deref.ensures.value ∙ c.in_ok-found-in-None.ensures in
    told-as _ _ _ _ c.hand_to_each.result
    (λ w. record {
      owned = ap (λ d. is_unowned d (receivers s e)) is;
      noted_is = w.0 ∙ ap (calls_after_all calls c.args.conn e) to;
      after_is = w.1 ∙ ap (λ (conns : List ℕ). record queues { waiting = queued_each queues.quota queues.waiting (written e) conns }) to;
    })
    (λ same. same)
    c.hand_to_each.ensures.ok
