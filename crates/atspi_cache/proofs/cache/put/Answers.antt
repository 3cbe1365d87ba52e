use Rattle.atspi_cache.proofs.ViewLemmas.{put_views}
use Rattle.atspi_cache.proofs.cache.put.Goals as goal

pub returns-clause-ok : goal.returns-clause-ok
returns-clause-ok c = put_views c.args.apps.now c.insert.new.self c.args.app c.args.held c.in_ok-insert.ensures.updates.0
