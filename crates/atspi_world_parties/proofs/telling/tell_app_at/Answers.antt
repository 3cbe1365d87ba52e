use Rattle.atspi_world_parties.proofs.Elements.{tells_at}
use Rattle.atspi_world_parties.proofs.telling.tell_app_at.Goals as goal

pub returns-clause-told : goal.returns-clause-told
returns-clause-told g c =
    tells_at g.A.Application.exporter c.tell_app.result c.args.apps.now _ c.tell_app.new.app c.args.number c.args.conn c.args.posts.now _ c.tell_app.new.post c.args.trace.now.items c.tell_app.new.trace.items
    (cc (c.index-apps-place.is)) (cc (c.index-posts-at.is)) c.tell_app.ensures.told
