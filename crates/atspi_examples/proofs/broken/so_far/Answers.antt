use Rattle.std.proofs.Common.{◌≡◌, List, [], ◌∷◌, refl}
use Rattle.atspi_base.specs.valid_names.Names.{is_bus_name}
use Rattle.atspi_base.specs.valid_names.Elements.{are_two_or_more, are_elements, parts_of}
use Rattle.atspi_trace.specs.Causes.{gets, tells_busy}
use Rattle.atspi_trace.specs.Entry.{Entry, busy}
use Rattle.atspi_trace.specs.Work.{Work, draining, resting, turning}
use Rattle.atspi_trace.specs.play.Breaking as breaking
use Rattle.atspi_trace.specs.play.Breaking.{PlaysOn, caused}
use Rattle.atspi_trace.specs.play.Playing.{Playing}
use Rattle.atspi_trace.specs.play.Plays.{plays}
use Rattle.atspi_examples.specs.Players.{at_rest, hello_returned, hello_waits, playing, starting_world}
use Rattle.atspi_examples.proofs.broken.so_far.Goals as goal

pub returns-clause-nothing : goal.returns-clause-nothing
returns-clause-nothing c = λ b. breaking.so_far (at_rest b) draining

pub returns-clause-turn : goal.returns-clause-turn
unfolding is_bus_name are_two_or_more are_elements parts_of
returns-clause-turn c = λ b.
    let p = playing (starting_world b (hello_returned ∷ [])) hello_waits in
    let q = (plays p (gets 4)).now in
    caused p q p.world (turning 1 1) (turning 1 0) (turning 1 0) (gets 4) [] refl (breaking.so_far q (turning 1 0))

pub returns-clause-both : goal.returns-clause-both
unfolding is_bus_name are_two_or_more are_elements parts_of
returns-clause-both c = λ b.
    let p = playing (starting_world b (hello_returned ∷ [])) hello_waits in
    let q = (plays p (gets 4)).now in
    let last = (plays q (tells_busy 1)).now in
    caused p last p.world (turning 1 1) (turning 1 0) resting (gets 4) (busy 1 ∷ []) refl (caused q last q.world (turning 1 0) resting resting (tells_busy 1) [] refl (breaking.so_far last resting))

-- where all rests nothing is done
nothing_more : (p : Playing) (left : Work) (entries : List Entry) (q : Playing) (last : Work) → PlaysOn p left entries q last → left ≡ resting → entries ≡ []
nothing_more _ _ _ _ _ (breaking.so_far p left) rests = refl
nothing_more _ _ _ _ _ (caused p q v left rest last c entries is h) rests = absurd cc

pub returns-clause-resting : goal.returns-clause-resting
returns-clause-resting c = λ b entry q last h. let none : entry ∷ [] ≡ [] = nothing_more (at_rest b) resting (entry ∷ []) q last h refl in absurd cc
