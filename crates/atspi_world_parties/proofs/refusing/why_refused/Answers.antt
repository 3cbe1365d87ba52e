use Rattle.std.proofs.Common.{◌≡◌, ◌+◌, ◌∙◌, ap, sym, arith}
use Rattle.atspi_script_lines.specs.declared.line.Party.TheVariants.{App, Reader}
use Rattle.atspi_trace.specs.Ends.{end_of}
use Rattle.atspi_world_parties.specs.Refusals.{first_refusal}
use Rattle.atspi_world_parties.proofs.Seats.{call-exact, show-exact, swap-exact}
use Rattle.atspi_world_parties.proofs.refusing.why_refused.Goals as goal

pub returns-in-Call-clause-exact : goal.returns-in-Call-clause-exact
returns-in-Call-clause-exact c = λ w is.
    call-exact _ _ _ _ _ (end_of w.ends (Reader c.in-Call.reader)) (end_of w.ends (App c.in-Call.app)) c.either-in-Call.ensures c.either.ensures
    (c.unless_started.ensures w.ends is.seats) (c.unless_started-in-Call.ensures w.ends is.seats) (c.unless_here-in-Call.ensures w.ends is.seats)
    ∙ ap (first_refusal w) (sym c.in-Call.is)

pub returns-in-Swap-clause-exact : goal.returns-in-Swap-clause-exact
returns-in-Swap-clause-exact c = λ w is.
    let left : w.swaps + c.args.spares ≡ 16 = omega (arith, is.spares_are) in
    swap-exact _ _ _ _ (end_of w.ends (App c.in-Swap.app)) c.either-in-Swap.ensures (c.unless_here-in-Swap.ensures w.ends is.seats) (c.unless_spare.ensures w.swaps left)
    ∙ ap (first_refusal w) (sym c.in-Swap.is)

pub returns-in-Show-clause-exact : goal.returns-in-Show-clause-exact
returns-in-Show-clause-exact c = λ w is.
    show-exact _ _ _ (end_of w.ends (Reader c.in-Show.reader)) (end_of w.ends (App c.in-Show.app)) c.either-in-Show.ensures
    (c.unless_started-in-Show.ensures w.ends is.seats) (c.unless_started-in-Show-2.ensures w.ends is.seats)
    ∙ ap (first_refusal w) (sym c.in-Show.is)
