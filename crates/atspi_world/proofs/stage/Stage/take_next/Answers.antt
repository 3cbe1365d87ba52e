use Rattle.std.proofs.Common.{Err, ap, ◌∙◌}
use Rattle.atspi_world_parties.proofs.Faults.{given_is}
use Rattle.atspi_world.proofs.GotMessages.{next_got, gets_as}
use Rattle.atspi_world.proofs.Spending.{next_spent}
use Rattle.atspi_world.proofs.DownwardHalted.{spends_as}
use Rattle.atspi_world.proofs.stage.Stage.take_next.Goals as goal

pub returns-clause-does : goal.returns-clause-does
returns-clause-does g c = λ p e letter rest playing at stands link.
    next_got p c.args.conn _ e letter rest _ _ _ _ _ playing at link c.in_ok-fill.ensures.brings
    (gets_as c.args.conn _ _ _ _ _ (ap (λ v. v.items) c.fill.ensures.posts) (ap (λ v. v.items) c.fill.ensures.trace) c.in_ok-get.ensures.got)

pub returns-in_err-get-clause-spent : goal.returns-in_err-get-clause-spent
returns-in_err-get-clause-spent g c = λ is p e letter rest playing at stands link.
    let fault = ap Err (given_is c.from_residual-in_err-get.result _ _ c.from_residual-in_err-get.ensures.1 is) in
    next_spent p c.args.conn e letter rest _ playing at link _ _ _ _ c.in_ok-fill.ensures.brings
    (spends_as c.args.conn _ _ _ _ _ _ _ (ap (λ v. v.items) c.fill.ensures.posts) (ap (λ v. v.items) c.fill.ensures.trace) (c.in_err-get.ensures.spent fault))
    (c.in_err-get.ensures.stays fault ∙ ap (λ v. v.items) c.fill.ensures.posts)
