use Rattle.std.proofs.Common.{refl, ◌∷◌, []}
use Rattle.atspi_base.specs.valid_names.Names.{is_bus_name}
use Rattle.atspi_base.specs.valid_names.Elements.{are_two_or_more, are_elements, parts_of}
use Rattle.atspi_trace.specs.Causes.{exits, gets, swaps_face, tells_busy, tells_quiet}
use Rattle.atspi_trace.specs.Entry.{busy}
use Rattle.atspi_trace.specs.Work.{doing, draining, moving_up, resting, turning}
use Rattle.atspi_trace.specs.play.Plays.{plays}
use Rattle.atspi_trace.specs.play.Played.{caused, at_rest as still}
use Rattle.atspi_examples.specs.Players.{at_rest, bytes_world, hello_returned, hello_waits, holder, playing, starting_world}
use Rattle.atspi_examples.proofs.PlayingOut.{over, one_cause}
use Rattle.atspi_examples.proofs.played.lines.Goals as goal

pub returns-clause-blank : goal.returns-clause-blank
returns-clause-blank c = λ b. over (at_rest b) resting refl

pub returns-clause-swap : goal.returns-clause-swap
returns-clause-swap c = λ b. one_cause (at_rest b) swaps_face (doing swaps_face) resting refl refl

pub returns-clause-exit : goal.returns-clause-exit
returns-clause-exit c = λ b. one_cause (at_rest b) (exits 2) (doing (exits 2)) resting refl refl

pub returns-clause-drain : goal.returns-clause-drain
returns-clause-drain c = λ b. one_cause (at_rest b) tells_quiet draining resting refl refl

pub returns-clause-bytes : goal.returns-clause-bytes
returns-clause-bytes c = λ b said long.
    still (playing (bytes_world b said 0) holder) (bytes_world b said 5) (moving_up 4 5) (rw long refl)

pub returns-clause-turns : goal.returns-clause-turns
unfolding is_bus_name are_two_or_more are_elements parts_of
returns-clause-turns c = λ b.
    let p = playing (starting_world b (hello_returned ∷ [])) hello_waits in
    let q = (plays p (gets 4)).now in
    caused p q p.world (turning 1 1) (turning 1 0) (gets 4) (busy 1 ∷ []) refl (one_cause q (tells_busy 1) (turning 1 0) resting refl refl)
