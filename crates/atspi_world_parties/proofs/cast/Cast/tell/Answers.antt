use Rattle.std.proofs.Common.{map, refl, sym, ap, arith}
use Rattle.atspi_world_parties.proofs.Queued.{written_back}
use Rattle.atspi_world_parties.proofs.Tellings.{app_tells, reader_tells}
use Rattle.atspi_world_parties.proofs.cast.Cast.tell.Goals as goal

pub returns-in-App-clause-tells : goal.returns-in-App-clause-tells
returns-in-App-clause-tells g c =
    app_tells c.tell_app_at.result c.args.who c.in-App.number c.args.conn _ _ _ _ c.args.posts.now c.tell_app_at.new.posts c.args.trace.now.items c.tell_app_at.new.trace.items c.in-App.is
    (ap (map g.A.Application.exporter) c.deref_mut.ensures.value) (ap (map g.A.Application.exporter) (sym (written_back _ c.tell_app_at.new.apps _ (omega arith)))) refl refl c.tell_app_at.ensures.told

pub returns-in-Reader-clause-tells : goal.returns-in-Reader-clause-tells
returns-in-Reader-clause-tells g c =
    reader_tells c.tell_reader_at.result c.args.who c.in-Reader.number c.args.conn _ _ _ _ c.args.posts.now c.tell_reader_at.new.posts c.args.trace.now.items c.tell_reader_at.new.trace.items c.in-Reader.is
    (ap (map g.R.Follower.follower) c.deref_mut-in-Reader.ensures.value) (ap (map g.R.Follower.follower) (sym (written_back _ c.tell_reader_at.new.readers _ (omega arith)))) refl refl c.tell_reader_at.ensures.told
