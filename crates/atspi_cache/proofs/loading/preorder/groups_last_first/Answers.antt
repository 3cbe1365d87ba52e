use Rattle.std.proofs.Common.{ap, ◌∙◌}
use Rattle.std.specs.Prelude.{filter}
use Rattle.std.proofs.lemmas.Result.{IfOk-weaker}
use Rattle.atspi_cache.specs.loading.Shared.{is_below, shared}
use Rattle.atspi_cache.proofs.loading.preorder.groups_last_first.Goals as goal

pub returns : goal.returns
returns c = IfOk-weaker c.groups.result _ _ (λ groups h path. h path ∙ ap (filter (is_below c.args.root.now c.args.bus.now path)) (ap shared c.deref.ensures.value ∙ c.in_ok-last_first.ensures)) c.groups.ensures
