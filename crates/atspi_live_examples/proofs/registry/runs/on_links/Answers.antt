use Rattle.std.proofs.Common.{◌≡◌, List, [], ◌∷◌, refl}
use Rattle.std.specs.Prelude.{codes}
use Rattle.atspi_live_host.specs.declared.call.Call.{Call}
use Rattle.atspi_live_host.specs.declared.call.Call.TheVariants.{Close, Connect}
use Rattle.atspi_live_host.specs.declared.call.Did.TheVariants.{Done}
use Rattle.atspi_live_examples.proofs.registry.runs.on_links.Goals as goal

pub returns-clause-connected : goal.returns-clause-connected
returns-clause-connected c = (Close 3 ∷ [], refl, refl)

pub returns-clause-untold : goal.returns-clause-untold
returns-clause-untold c = tt

pub returns-clause-no_such : goal.returns-clause-no_such
returns-clause-no_such c s = s.1

pub returns-clause-other_path : goal.returns-clause-other_path
returns-clause-other_path c s = by s.0 s.2
  where
    by : (calls : List Call) → Connect (codes "/pq") (Done 3) ∷ [] ≡ Connect (codes "/p") (Done 3) ∷ calls → ⊥
    by calls h = cc

pub returns-clause-other_link : goal.returns-clause-other_link
returns-clause-other_link c s = by s.0 s.2
  where
    by : (calls : List Call) → Connect (codes "/p") (Done 4) ∷ [] ≡ Connect (codes "/p") (Done 3) ∷ calls → ⊥
    by calls h = cc

pub returns-clause-not_connected : goal.returns-clause-not_connected
returns-clause-not_connected c s = by s.0 s.2
  where
    by : (calls : List Call) → [] ≡ Connect (codes "/p") (Done 3) ∷ calls → ⊥
    by calls h = cc
