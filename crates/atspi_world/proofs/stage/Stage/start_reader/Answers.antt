use Rattle.std.proofs.Common.{◌≡◌, length, map, refl, sym, ap, ◌∙◌, arith}
use Rattle.atspi_trace.specs.Entry.{entries_of}
use Rattle.atspi_world.proofs.Joining.{reader_start, counted}
use Rattle.atspi_world_parties.proofs.Queued.{written_back, tells_reader_as}
use Rattle.atspi_world.proofs.stage.Stage.start_reader.Goals as goal

pub returns-clause-does : goal.returns-clause-does
returns-clause-does g c =
    let follower = g.R.Follower.follower in
    let s = c.args.self.now in
    let number : c.in-Ok.number ≡ length s.cast.readers.items = first_of (omega (arith, c.in-Ok.ensures, c.len.ensures), grind (arith, c.in-Ok.ensures, c.len.ensures)) in
    let trace : c.join.new.self.trace.items ≡ c.tell_start.new.trace.items = first_of (cc (c.in_ok-conn.ensures.trace), grind (arith, c.in_ok-conn.ensures.trace)) in
    λ p is few. reader_start p c.in-Ok.number c.in_ok-conn.conn _ _ (map follower c.start_reader_at.new.readers.items) c.join.new.self.posts.items c.join.new.self.trace.items is
    (counted follower s.cast.readers.items c.in-Ok.number number)
    c.in_ok-conn.ensures.place c.in_ok-conn.ensures.joins c.in_ok-conn.ensures.linked
    (ap entries_of trace ∙ c.in_ok-tell_start.ensures.told) c.in_ok-start_reader_at.ensures.starts
    (tells_reader_as _ _ _ _ _ _ _ _ c.in-Ok.number c.in_ok-conn.conn _ _ (ap (map follower) c.deref_mut.ensures.value) (ap (map follower) (sym (written_back _ c.tell_reader_at.new.readers _ (omega arith))))
    c.deref_mut-2.ensures.value (sym (written_back _ c.tell_reader_at.new.posts _ (omega arith))) c.in_ok-tell_reader_at.ensures.told) refl (record { registry = refl; kits = refl; spares = refl })
