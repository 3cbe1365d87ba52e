use Rattle.std.proofs.Common.{◌≡◌, length, sym, ap, ◌∙◌, arith}
use Rattle.std.specs.Prelude.{vec_items, take}
use Rattle.atspi_bus_steps.specs.InnerBus.{inner_of}
use Rattle.atspi_world_parties.proofs.Queued.{written_back}
use Rattle.atspi_world.proofs.Beginning.{begun_so, begins_as, first_as}
use Rattle.atspi_world.proofs.stage.Stage.join_registry.Goals as goal

pub returns-clause-begins : goal.returns-clause-begins
returns-clause-begins g c = λ quota room most bus posts given registry.
    let s = c.args.self.now in
    let trace = ap vec_items c.in_ok-conn.ensures.trace in
    let long : c.len-told.result ≡ length s.carrier.trace.items = first_of (omega (arith, c.len-told.ensures), grind (arith, c.len-told.ensures)) in
    begins_as quota (inner_of c.hear_all.new.carrier.bus) c.greet.new.self.posts.items c.hear_all.new.carrier.posts.items c.hear_all.new.carrier.at_end.items c.hear_all.new.registry s.carrier.trace.items
    c.greet.new.self.trace.items c.hear_all.new.carrier.trace.items _
    (begun_so quota room most c.in_ok-conn.conn (inner_of s.carrier.bus) (inner_of c.join.new.self.bus) (inner_of c.greet.new.self.bus) (inner_of c.hear_all.new.carrier.bus) s.carrier.posts.items c.join.new.self.posts.items _
    c.greet.new.self.posts.items s.carrier.at_end.items c.join.new.self.at_end.items c.greet.new.self.at_end.items c.hear_all.new.carrier.at_end.items s.cast.registry c.start.new.self c.tell_first.new.registry c.hear_all.new.registry
    s.carrier.trace.items c.tell_first.new.trace.items c.greet.new.self.trace.items bus posts given registry c.in_ok-conn.ensures.place c.in_ok-conn.ensures.joins c.in_ok-conn.ensures.linked c.in_ok-start.ensures.ok
    (first_as c.start.new.self c.tell_first.new.registry _ _ _ _ _ _ c.tell_first.new.trace.items c.deref_mut.ensures.value (sym (written_back _ c.tell_first.new.posts _ (omega arith))) trace c.in_ok-tell_first.ensures.told)
    c.in_ok-greet.ensures.greets c.in_ok-greet.ensures.linked c.in_ok-hear_all.ensures.heard c.in_ok-hear_all.ensures.hears)
    (ap vec_items c.hear_all.ensures.posts) (ap vec_items c.hear_all.ensures.trace) (c.truncate.ensures.items ∙ ap (λ n. take n c.hear_all.new.carrier.trace.items) long)
