use Rattle.std.proofs.Common.{[], ◌∷◌, refl, arith}
use Rattle.std.specs.Prelude.{codes}
use Rattle.atspi_live_host.specs.declared.call.Did.TheVariants.{Done, NotYet}
use Rattle.atspi_live_host.specs.declared.call.Call.TheVariants.{Accept, Listen}
use Rattle.atspi_live_bus.specs.Course.{start}
use Rattle.atspi_live_bus.proofs.Worked.{empty_round, quiet_round, rounds_count, some_round, turn_due, two_round}
use Rattle.atspi_live_bus.proofs.examples.rounds.Goals as goal

pub returns-clause-no_link : goal.returns-clause-no_link
returns-clause-no_link c = empty_round start (Listen (codes "/p") (Done 0) ∷ []) refl

pub returns-clause-one_link : goal.returns-clause-one_link
returns-clause-one_link c = quiet_round

pub returns-clause-two_links : goal.returns-clause-two_links
returns-clause-two_links c = two_round

pub returns-clause-no_turn : goal.returns-clause-no_turn
returns-clause-no_turn c y r = turn_due y r

pub returns-clause-no_accept : goal.returns-clause-no_accept
returns-clause-no_accept c y r = some_round start y [] r

pub returns-clause-two : goal.returns-clause-two
returns-clause-two c = (
  start,
  Accept NotYet ∷ [],
  Accept NotYet ∷ [],
  (start, [], Accept NotYet ∷ [], (refl, refl), empty_round start [] refl, refl),
  empty_round start (Accept NotYet ∷ []) refl,
  refl,
)

pub returns-clause-only_one : goal.returns-clause-only_one
returns-clause-only_one c y r = omega (arith, rounds_count 2 start y [] (Accept NotYet ∷ []) r)
