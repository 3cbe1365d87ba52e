use Rattle.std.proofs.Common.{ap, ◌∙◌}
use Rattle.std.specs.FinMap.{remove}
use Rattle.atspi_cache.proofs.ViewLemmas.{drop_views}
use Rattle.atspi_cache.proofs.cache.Cache.drop_app.Goals as goal

pub returns : goal.returns
returns c = drop_views c.self.inside.apps c.remove.new.self c.args.app c.remove.ensures.updates.0 ∙ ap (λ v. remove v c.args.app) c.self.view_is
