use Rattle.std.proofs.Common.{rules, ◌≡◌, true, false, refl, ◌∙◌}
use Rattle.atspi_live_bus.proofs.Hearing.{all_taken, cut_taken, some_first, some_more}
use Rattle.atspi_live_bus.proofs.hall.Hall.attend.Goals as goal

pub messages-init : goal.messages-init
messages-init g c = record {
  serves = c.requires.serves;
  calls = some_first c.args.self.now.bus c.args.self.now.links.items c.args.number (g.H.Host.calls c.args.host.now);
  same = refl;
}

pub messages-preserved : goal.messages-preserved
messages-preserved g c =
    let more : c.in-Ok-true.field-0 ≡ true = search rules in record {
      serves = c.in-Ok-true.ensures.serves;
      calls = some_more c.args.self.now.bus c.messages.self.bus c.attend_one.new.self.bus c.args.self.now.links.items c.messages.self.links.items c.attend_one.new.self.links.items c.args.number
          (g.H.Host.calls c.args.host.now) (g.H.Host.calls c.messages.host) (g.H.Host.calls c.attend_one.new.host) c.messages.invariant.calls (rw more at c.in-Ok-true.ensures.calls);
      same = c.attend_one.ensures.same ∙ c.messages.invariant.same;
    }

pub returns-in-Ok-false-clause-calls : goal.returns-in-Ok-false-clause-calls
returns-in-Ok-false-clause-calls g c =
    let none : c.in-Ok-false.field-0 ≡ false = search rules in
    all_taken c.args.self.now.bus c.messages.self.bus c.attend_one.new.self.bus c.args.self.now.links.items c.messages.self.links.items c.attend_one.new.self.links.items c.args.number
    (g.H.Host.calls c.args.host.now) (g.H.Host.calls c.messages.host) (g.H.Host.calls c.attend_one.new.host) c.messages.invariant.calls (rw none at c.in-Ok-false.ensures.calls)

pub returns-in-Err-clause-calls : goal.returns-in-Err-clause-calls
returns-in-Err-clause-calls g c =
    cut_taken c.args.self.now.bus c.messages.self.bus c.args.self.now.links.items c.messages.self.links.items c.attend_one.new.self.links.items c.args.number c.in-Err.stop
    (g.H.Host.calls c.args.host.now) (g.H.Host.calls c.messages.host) (g.H.Host.calls c.attend_one.new.host) c.messages.invariant.calls c.in-Err.ensures.calls
