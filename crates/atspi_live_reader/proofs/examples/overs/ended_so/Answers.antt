use Rattle.std.proofs.Common.{◌≡◌, List, [], ◌∷◌, ◌++◌, refl, arith}
use Rattle.atspi_live_host.specs.declared.call.Did.{Did}
use Rattle.atspi_live_host.specs.declared.call.Did.TheVariants.{End, NotYet}
use Rattle.atspi_live_reader.proofs.FirstRounds.{in_order}
use Rattle.atspi_live_reader.proofs.examples.overs.ended_so.Goals as goal

pub returns-clause-peer : goal.returns-clause-peer
returns-clause-peer c = (in_order, ([], refl, tt))

pub returns-clause-not_peer : goal.returns-clause-not_peer
returns-clause-not_peer c h = by h.1.0 h.1.1
  where
    by : (before : List Did) → NotYet ∷ [] ≡ before ++ End ∷ [] → ⊥
    by [] h = cc
    by (d ∷ []) h = cc
    by (d ∷ e ∷ before) h = cc

pub returns-clause-other_link : goal.returns-clause-other_link
returns-clause-other_link c h = by h.1.0 h.1.1
  where
    by : (before : List Did) → [] ≡ before ++ End ∷ [] → ⊥
    by [] h = cc
    by (d ∷ before) h = cc

pub returns-clause-all_done : goal.returns-clause-all_done
returns-clause-all_done c = (in_order, (tt, tt), refl)

pub returns-clause-not_done : goal.returns-clause-not_done
returns-clause-not_done c h = omega (arith, h.2)

pub returns-clause-sink : goal.returns-clause-sink
returns-clause-sink c = tt
