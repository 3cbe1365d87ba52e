use Rattle.std.proofs.Common.{◌≡◌, length, map, refl, sym, ap, ◌∙◌, arith}
use Rattle.atspi_trace.specs.Entry.{entries_of}
use Rattle.atspi_world.proofs.Joining.{app_start, counted}
use Rattle.atspi_world_parties.proofs.Queued.{written_back, tells_as}
use Rattle.atspi_world.proofs.stage.Stage.add_app.Goals as goal

pub returns-clause-does : goal.returns-clause-does
returns-clause-does g c =
    let exporter = g.A.Application.exporter in
    let s = c.args.self.now in
    let number : c.in-Ok.number ≡ length s.cast.apps.items = first_of (omega (arith, c.in-Ok.ensures, c.len.ensures), grind (arith, c.in-Ok.ensures, c.len.ensures)) in
    let trace : c.join.new.self.trace.items ≡ c.tell_start.new.trace.items = first_of (cc (c.in_ok-conn.ensures.trace), grind (arith, c.in_ok-conn.ensures.trace)) in
    λ p is. app_start p c.args.name.now c.in-Ok.number c.in_ok-conn.conn _ _ (map exporter c.start_app_at.new.apps.items) c.join.new.self.posts.items c.join.new.self.trace.items is
    (counted exporter s.cast.apps.items c.in-Ok.number number)
    c.in_ok-conn.ensures.place c.in_ok-conn.ensures.joins c.in_ok-conn.ensures.linked
    (ap entries_of trace ∙ c.in_ok-tell_start.ensures.told) c.in_ok-start_app_at.ensures.starts
    (tells_as _ _ _ _ _ _ _ _ c.in-Ok.number c.in_ok-conn.conn _ _ (ap (map exporter) c.deref_mut.ensures.value) (ap (map exporter) (sym (written_back _ c.tell_app_at.new.apps _ (omega arith))))
    c.deref_mut-2.ensures.value (sym (written_back _ c.tell_app_at.new.posts _ (omega arith))) c.in_ok-tell_app_at.ensures.told) refl (record { registry = refl; kits = refl; spares = refl })
