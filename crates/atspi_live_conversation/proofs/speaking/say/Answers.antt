use Rattle.std.proofs.Common.{rules, ◌≡◌, true, false}
use Rattle.atspi_live_conversation.proofs.SentLemmas.{may_hand_out, says_more, says_none, says_rests}
use Rattle.atspi_live_conversation.proofs.speaking.say.Goals as goal

pub messages-init : goal.messages-init
messages-init g c = record { says = λ aside. says_none (g.E.BusEnd.Stands aside) c.args.end.now c.args.unsent.now; may = c.requires }

pub messages-preserved : goal.messages-preserved
messages-preserved g c =
    let more : c.in-Ok.more ≡ true = search rules in
    let s = rw more at c.in-Ok.ensures.says in
    record {
      says = λ aside. says_more (g.E.BusEnd.Stands aside) c.args.end.now c.messages.end c.say_one.new.end c.args.unsent.now c.messages.unsent c.say_one.new.unsent (s aside).0 (c.messages.invariant.says aside) (s aside).1 (s aside).2;
      may = may_hand_out g.E.BusEnd.Stands c.messages.end c.say_one.new.end (λ aside. (s aside).0) c.messages.invariant.may (λ aside. (s aside).1);
    }

pub returns-then-not-more-clause-says : goal.returns-then-not-more-clause-says
returns-then-not-more-clause-says g c aside =
    let more : c.in-Ok.more ≡ false = search rules in
    let s = rw more at c.in-Ok.ensures.says in
    says_rests (g.E.BusEnd.Stands aside) c.args.end.now c.messages.end c.say_one.new.end c.args.unsent.now c.messages.unsent c.say_one.new.unsent (c.messages.invariant.says aside) (s aside).0 (s aside).1
