use Rattle.std.proofs.Common.{List, ℕ, sym, ap, ◌∙◌}
use Rattle.atspi_names.specs.Queue.{owner_in}
use Rattle.atspi_names.specs.Owners.{list_of}
use Rattle.atspi_bus_steps.proofs.InPlace.{told-as}
use Rattle.atspi_bus_steps.proofs.passing.pass_to_owner.Goals as goal

pub returns-in-Some-clause-ok : goal.returns-in-Some-clause-ok
returns-in-Some-clause-ok c =
    told-as _ _ _ _ c.hand_to_each.result
    (λ w. (c.in-Some.owner, ap (λ (n : List ℕ). owner_in (list_of c.args.names.now.lists n)) (sym c.in_ok-name.ensures) ∙ (sym c.owner.ensures ∙ c.in-Some.is), w.0, w.1))
    (λ same. same)
    c.hand_to_each.ensures.ok
