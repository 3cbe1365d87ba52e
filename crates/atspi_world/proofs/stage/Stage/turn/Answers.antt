use Rattle.std.proofs.Common.{Some, refl, ap, ◌∙◌}
use Rattle.std.proofs.lemmas.Result.{on_ok_weaker}
use Rattle.atspi_world.proofs.Parts.{on_ok_both}
use Rattle.atspi_world.proofs.Turns.{route_turn, part_turn, get_turn}
use Rattle.atspi_world.proofs.BusHalted.{route_lost, route_spent, part_lost, part_spent, get_spent}
use Rattle.atspi_world.proofs.stage.Stage.turn.Goals as goal

pub returns-in-Route-clause-does : goal.returns-in-Route-clause-does
returns-in-Route-clause-does g c =
    on_ok_both c.route.result (λ routes links p k playing found turn. route_turn p k c.in-Route.conn _ _ playing found (turn ∙ ap Some c.in-Route.is) routes links refl refl (record { registry = refl; kits = refl; spares = refl }))
    c.route.ensures.does c.route.ensures.linked

pub returns-in-Part-clause-does : goal.returns-in-Part-clause-does
returns-in-Part-clause-does g c =
    on_ok_both c.part.result (λ parts links p k playing found turn. part_turn p k c.in-Part.conn _ _ playing found (turn ∙ ap Some c.in-Part.is) parts links refl refl (record { registry = refl; kits = refl; spares = refl }))
    c.part.ensures.does c.part.ensures.linked

pub returns-in-Get-clause-does : goal.returns-in-Get-clause-does
returns-in-Get-clause-does g c = on_ok_weaker c.take_next.result (λ takes p k playing found turn. get_turn p k c.in-Get.conn _ _ playing found (turn ∙ ap Some c.in-Get.is) takes) c.take_next.ensures.does

pub returns-in-Route-clause-lost : goal.returns-in-Route-clause-lost
returns-in-Route-clause-lost g c = λ is p k playing found turn. route_lost p k c.in-Route.conn _ _ playing found (turn ∙ ap Some c.in-Route.is) (c.route.ensures.lost is)

pub returns-in-Route-clause-spent : goal.returns-in-Route-clause-spent
returns-in-Route-clause-spent g c = λ is p k playing found turn. route_spent p k c.in-Route.conn _ _ playing found (turn ∙ ap Some c.in-Route.is) (c.route.ensures.spent is)

pub returns-in-Part-clause-lost : goal.returns-in-Part-clause-lost
returns-in-Part-clause-lost g c = λ is p k playing found turn. part_lost p k c.in-Part.conn _ _ playing found (turn ∙ ap Some c.in-Part.is) (c.part.ensures.lost is)

pub returns-in-Part-clause-spent : goal.returns-in-Part-clause-spent
returns-in-Part-clause-spent g c = λ is p k playing found turn. part_spent p k c.in-Part.conn _ _ playing found (turn ∙ ap Some c.in-Part.is) (c.part.ensures.spent is)

pub returns-in-Get-clause-spent : goal.returns-in-Get-clause-spent
returns-in-Get-clause-spent g c = λ is p k playing found turn. get_spent p k c.in-Get.conn _ _ playing found (turn ∙ ap Some c.in-Get.is) (c.take_next.ensures.spent is)
