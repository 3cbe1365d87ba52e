use Rattle.std.proofs.Common.{◌≡◌, Err, ap}
use Rattle.atspi_protocol.specs.declared.ends.fault.EndFault.{EndFault}
use Rattle.atspi_protocol.specs.declared.ends.fault.EndFault.TheVariants.{Spent}
use Rattle.atspi_message_in_place.specs.View.{envelope_at}
use Rattle.atspi_live_conversation.proofs.SentLemmas.{attends_more, attends_none, attends_to_spent, may_take, shorter}
use Rattle.atspi_live_conversation.proofs.attending.attend.Goals as goal

pub messages-init : goal.messages-init
messages-init g c = record { attends = λ aside. attends_none (g.E.BusEnd.Stands aside) c.args.feeder.now c.args.end.now; may = c.requires }

pub messages-preserved : goal.messages-preserved
messages-preserved g c =
    let new = c.next.follows.lender-at-none in
    let left = rw c.in-Message.is at c.next.follows.holds-at-none in
    let m = left.message in
    record {
      attends = λ aside. attends_more (g.E.BusEnd.Stands aside) c.args.feeder.now c.messages.feeder new c.args.end.now c.messages.end c.take.new.self (envelope_at c.in-Message.message) m.0 (c.messages.invariant.attends aside) m.1 m.2 (c.in_default.ensures.ok aside);
      may = may_take g.E.BusEnd.Stands c.messages.end c.take.new.self (envelope_at c.in-Message.message) c.messages.invariant.may c.in_default.ensures.ok m.1.meets;
    }

pub messages-smaller : goal.messages-smaller
messages-smaller g c =
    let new = c.next.follows.lender-at-none in
    let left = rw c.in-Message.is at c.next.follows.holds-at-none in
    let m = left.message in
    shorter (envelope_at c.in-Message.message) m.0 c.messages.feeder new m.1 m.2

pub returns-in-Err-clause-spent : goal.returns-in-Err-clause-spent
returns-in-Err-clause-spent g c e aside =
    let new = c.next.follows.lender-at-none in
    let left = rw c.in-Message.is at c.next.follows.holds-at-none in
    let m = left.message in
    let is : c.in-Err.fault ≡ Spent = cc in
    attends_to_spent (g.E.BusEnd.Stands aside) g.E.BusEnd.IsSpent c.args.feeder.now c.messages.feeder new c.args.end.now c.messages.end c.take.new.self (envelope_at c.in-Message.message) m.0 (c.messages.invariant.attends aside) m.1 m.2
    (c.in-Err.ensures.spent (ap (λ (x : EndFault). Err x) is)) (c.in-Err.ensures.err aside)
