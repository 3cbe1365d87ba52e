-- Where nothing waits on an up link, no bytes of it are moved.
use Rattle.std.proofs.Common.{◌≡◌, ℕ, List, [], Option, None, Some, ap, ◌∙◌}
use Rattle.std.specs.Option.{option_map}
use Rattle.std.proofs.lemmas.Option.{same_Some}
use Rattle.atspi_trace.specs.World.{Standing, here, Said, End, World}
use Rattle.atspi_trace.specs.Ends.{end_at}
use Rattle.atspi_trace.specs.Work.{moving_up, rests, of_end, next_of, next_up}

-- how an end stands, and what waits on its up link
abbrev pub up_link : End → Standing × List Said
up_link e = (e.standing, e.up)

pub nothing_moves : (w : World) (conn count : ℕ) → option_map up_link (end_at w.ends conn) ≡ Some (here, []) → next_of w (moving_up conn count) ≡ rests w
nothing_moves w conn count h = by (end_at w.ends conn) h
  where
    by : (o : Option End) → option_map up_link o ≡ Some (here, []) → of_end w o (λ e. next_up w conn count e.standing e.up_moved e.up) ≡ rests w
    by None n = absurd cc
    by (Some e) s =
        let link = same_Some (up_link e) (here, []) s in
        let stands : e.standing ≡ here = ap (λ (x : Standing × List Said). x.0) link in
        let empty : e.up ≡ [] = ap (λ (x : Standing × List Said). x.1) link in
        ap (λ t. next_up w conn count t e.up_moved e.up) stands ∙ ap (next_up w conn count here e.up_moved) empty
