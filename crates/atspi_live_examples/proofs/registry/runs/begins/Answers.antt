use Rattle.std.proofs.Common.{◌≡◌, [], ◌∷◌, refl}
use Rattle.atspi_live_host.specs.declared.call.Call.TheVariants.{Close}
use Rattle.atspi_live_examples.proofs.registry.runs.begins.Goals as goal

pub returns-clause-none : goal.returns-clause-none
returns-clause-none c = refl

pub returns-clause-untold : goal.returns-clause-untold
returns-clause-untold c = tt

pub returns-clause-one : goal.returns-clause-one
returns-clause-one c h = by h
  where
    by : Close 0 ∷ [] ≡ [] → ⊥
    by h = cc
