-- ALL LINKS ARE TIED along each run.
use Rattle.std.proofs.Common.{◌≡◌, ℕ, ◌+◌, true, List, Option, None, Some, arith, false}
use Rattle.atspi_trace.specs.World.{here, End, World}
use Rattle.atspi_trace.specs.Ends.{end_at}
use Rattle.atspi_trace.specs.Work.{Work, resting, doing, moving_up, moving_down, turning, draining}
use Rattle.atspi_headline.specs.Words.{Act, entries_in}
use Rattle.atspi_headline.specs.Links.{moved, sizes}
use Rattle.atspi_trace_laws.proofs.OfOwn.Writing.{Lives}
use Rattle.atspi_headline_laws.proofs.Ran.{Ran}
use Rattle.atspi_headline_laws.proofs.Growing.{front_of}
use Rattle.atspi_headline_links.proofs.Sent.{took_up, ups_are, link_is}
use Rattle.atspi_headline_links.proofs.Marks.{NotUp, none_ahead, ahead_up, up_tied}
use Rattle.atspi_headline_links.proofs.Starting.{first_is}
use Rattle.atspi_headline_quiet.proofs.Waiting.{LinkIs, ups, downs}
use Rattle.atspi_headline_quiet.proofs.Along.{NotDown}
use Rattle.atspi_headline_quiet.proofs.Linked.{down_is, down_between}
use Rattle.atspi_headline_quiet.proofs.Tying.{Steady, LinksTied}

not_up : (at : Option Work) → Steady at → NotUp at
not_up None s = tt
not_up (Some (moving_up conn count)) s = absurd s
not_up (Some (moving_down conn count)) s = absurd s
not_up (Some (turning count left)) s = tt
not_up (Some draining) s = tt
not_up (Some resting) s = tt
not_up (Some (doing c)) s = tt

not_down : (work : Work) → Steady (Some work) → NotDown work
not_down (moving_up conn count) s = absurd s
not_down (moving_down conn count) s = absurd s
not_down (turning count left) s = tt
not_down draining s = tt
not_down resting s = tt
not_down (doing c) s = tt

up_link : (run : List Act) (w : World) (free : Option ℕ) (at : Option Work) → Ran run w free at → Lives (entries_in run) → Steady at → (k : ℕ) (e : End) → end_at w.ends k ≡ Some e → e.standing ≡ here → LinkIs run e.who true (ups e) e.up_moved
up_link run w free at r live s k e there on = record {
  taken = took_up run e.who;
  whole = link_is run e (ups_are run w free (front_of run w free at r live) k e there on);
  count = less (moved run e.who true) (sizes (took_up run e.who) + e.up_moved) (ahead_up at k e) (up_tied run w free at r live k e there on).moved (none_ahead at k e (not_up at s));
}
  where
    less : (a b c : ℕ) → a ≡ b + c → c ≡ 0 → a ≡ b
    less a b c h g = omega (arith, h, g)

down_link : (run : List Act) (w : World) (free : Option ℕ) (at : Option Work) → Ran run w free at → Lives (entries_in run) → Steady at → (k : ℕ) (e : End) → end_at w.ends k ≡ Some e → e.standing ≡ here → LinkIs run e.who false (downs e) e.down_moved
down_link run w free None r live s k e there on = down_between first_is run w free r live k e there on
down_link run w free (Some work) r live s k e there on = down_is first_is run w free work r live (not_down work s) k e there on

pub links_tied : LinksTied
links_tied run w free at r live s = record { up = up_link run w free at r live s; down = down_link run w free at r live s }
