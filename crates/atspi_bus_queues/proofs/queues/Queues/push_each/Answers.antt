use Rattle.std.proofs.Common.{◌<◌, ◌++◌, suc, length, get_or, take, drop, drop-cons, sym, ap, ◌∙◌, subst, arith}
use Rattle.std.proofs.lemmas.List.{take_more, take-append-drop}
use Rattle.atspi_bus_queues.specs.Held.{Held}
use Rattle.atspi_bus_queues.specs.Each.{WentToEach}
use Rattle.atspi_bus_queues.proofs.Pushing.{HasGone, gone-went, gone-full, gone-back, gone-next, gone-due}
use Rattle.atspi_bus_queues.proofs.queues.Queues.push_each.Goals as goal

pub take_back_each-requires-clause-went : goal.take_back_each-requires-clause-went
take_back_each-requires-clause-went c =
    let w = c.args.self.now.waiting in
    let none = rw c.in-Ok-false.field-0-test at c.in-Ok-false.ensures.ok in (
      w,
      subst (λ (h : Held). WentToEach h.quota w h.waiting c.args.bytes.now (take c.loop-i.i c.args.conns.now)) (sym none.1)
          (gone-went c.args.self.now.quota w c.args.bytes.now c.args.conns.now c.loop-i.self c.loop-i.i c.loop-i.invariant),
    )

pub take_back_each-requires-in-Err-clause-went : goal.take_back_each-requires-in-Err-clause-went
take_back_each-requires-in-Err-clause-went c =
    let w = c.args.self.now.waiting in (
      w,
      subst (λ (h : Held). WentToEach h.quota w h.waiting c.args.bytes.now (take c.loop-i.i c.args.conns.now)) (sym c.in-Err.ensures.err)
          (gone-went c.args.self.now.quota w c.args.bytes.now c.args.conns.now c.loop-i.self c.loop-i.i c.loop-i.invariant),
    )

pub returns-in-Ok-false-clause-ok : goal.returns-in-Ok-false-clause-ok
returns-in-Ok-false-clause-ok c =
    let conns = c.args.conns.now in
    let quota = c.args.self.now.quota in
    let w = c.args.self.now.waiting in
    let i = c.loop-i.i in
    let lt : c.loop-i.i < length c.args.conns.now = omega arith in
    let none = rw c.in-Ok-false.field-0-test at c.in-Ok-false.ensures.ok in (
      gone-full quota w c.args.bytes.now conns c.loop-i.self i (get_or conns i 0) (drop (suc i) conns)
          (sym (take-append-drop i conns) ∙ ap (λ z. take i conns ++ z) (drop-cons conns i 0 lt))
          c.loop-i.invariant none.0,
      gone-back quota w c.args.bytes.now conns c.push_if_room.new.self c.take_back_each.new.self i
          (subst (λ (h : Held). HasGone quota w c.args.bytes.now conns h i) (sym none.1) c.loop-i.invariant)
          (c.take_back_each.ensures w (subst (λ (h : Held). WentToEach h.quota w h.waiting c.args.bytes.now (take i conns)) (sym none.1)
          (gone-went quota w c.args.bytes.now conns c.loop-i.self i c.loop-i.invariant))),
    )

pub returns-clause-due : goal.returns-clause-due
returns-clause-due c = gone-due c.args.self.now.quota c.args.self.now.waiting c.args.bytes.now c.args.conns.now c.loop-i.self c.loop-i.i c.loop-i.invariant

pub loop-i-preserved : goal.loop-i-preserved
loop-i-preserved c =
    let conns = c.args.conns.now in
    let i = c.loop-i.i in
    let lt : c.loop-i.i < length c.args.conns.now = omega arith in
    let went = rw c.in-Ok-true.field-0-test at c.in-Ok-true.ensures.ok in
    gone-next c.args.self.now.quota c.args.self.now.waiting c.args.bytes.now conns c.loop-i.self c.push_if_room.new.self i (get_or conns i 0) (take_more conns i 0 lt)
    c.loop-i.invariant went.0 went.1
