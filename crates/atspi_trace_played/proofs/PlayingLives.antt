-- Once the registry is lost it stays so: where it is here behind what is left of a line, it was here all along.
use Rattle.std.proofs.Common.{◌≡◌, ◌⊎◌, inl, inr, ℕ, zero, suc, ◌+◌, ◌-◌, Bool, true, false, List, [], ◌∷◌, Option, None, Some, refl, sym, subst}
use Rattle.std.specs.Prelude.{nat_le, slice_get, if◌then◌else◌}
use Rattle.atspi_script_lines.specs.declared.line.Party.{Party}
use Rattle.atspi_script_lines.specs.declared.line.Party.TheVariants.{Bus as The_bus, Registry, App, Reader}
use Rattle.atspi_protocol.specs.following.ReaderState.{ReaderState}
use Rattle.atspi_protocol.specs.following.Takes.{reader_takes}
use Rattle.atspi_trace.specs.Entry.{Entry}
use Rattle.atspi_trace.specs.World.{Standing, here, stopped, away, Said, Letter, End, World}
use Rattle.atspi_trace.specs.Ends.{end_at}
use Rattle.atspi_trace.specs.Causes.{Cause, renews, starts_app, starts_reader, edits, calls, swaps_face, exits, shows, tells_busy, tells_quiet, routes, unjoins, gets, missing, does}
use Rattle.atspi_trace.specs.Work.{Work, resting, doing, moving_up, moving_down, turning, draining, next_turn, Next, cause, rests, moved_up, moved_down, next_up, next_down, of_end, next_of_turns, next_of_drain, next_of}
use Rattle.atspi_trace.specs.Due.{is_lost}
use Rattle.atspi_trace_laws.proofs.OfOrder.Allowed.{MovedUp, MovedDown, Moves, IsBare, bare-work, NextFine}
use Rattle.atspi_trace_laws.proofs.OfOrder.Frame.{Over, IsOrder, over_same, over_both, over_with}
use Rattle.atspi_trace_laws.proofs.OfOrder.Next.{next_fine}
use Rattle.atspi_trace.specs.play.Playing.{Playing}
use Rattle.atspi_trace.specs.play.Plays.{reader_got, got_at, got_by, plays}
use Rattle.atspi_trace.specs.play.Played.{PlaysOut, at_rest, caused}
use Rattle.atspi_trace.specs.play.Breaking as breaking
use Rattle.atspi_trace.specs.play.Breaking.{PlaysOn, so_far}
use Rattle.atspi_trace_played.proofs.BuildingStanding.{gets_over, out_over}
use Rattle.atspi_trace_played.proofs.BuildingFading.{Fades, fading, as_it_stands, IsTurn, IsQuietTurn, turn_over, here_before}
use Rattle.atspi_trace_played.proofs.BuildingFuel.{is_turn}

-- what is next of a line at work is a turn, or tells that all was done
abbrev QuietNext : Next → Type 0
QuietNext (cause c v rest) = IsQuietTurn c
QuietNext (rests v) = Unit {0}

turn_is_quiet : (c : Cause) → IsTurn c → IsQuietTurn c
turn_is_quiet (routes conn) t = tt
turn_is_quiet (unjoins conn) t = tt
turn_is_quiet (gets conn) t = tt
turn_is_quiet (renews quota) t = absurd t
turn_is_quiet (starts_app name) t = absurd t
turn_is_quiet starts_reader t = absurd t
turn_is_quiet (edits conn edit) t = absurd t
turn_is_quiet (calls conn name node deed) t = absurd t
turn_is_quiet swaps_face t = absurd t
turn_is_quiet (exits conn) t = absurd t
turn_is_quiet (shows conn app) t = absurd t
turn_is_quiet (tells_busy turns) t = tt
turn_is_quiet tells_quiet t = tt

module _ (w : World) where
  quiet_up : (conn count : ℕ) (st : Standing) (m : ℕ) (link : List Said) → QuietNext (next_up w conn count st m link)
  quiet_up conn count here m (said ∷ rest) = by (nat_le (missing said.message m) count)
    where
      by : (b : Bool) → QuietNext (if b then cause (routes conn) w (moving_up conn (count - missing said.message m)) else rests (moved_up w conn count))
      by true = tt
      by false = tt
  quiet_up conn count here m [] = tt
  quiet_up conn zero stopped m link = tt
  quiet_up conn (suc count) stopped m link = tt
  quiet_up conn count away m link = tt

  quiet_down : (conn count : ℕ) (st : Standing) (m : ℕ) (link : List Letter) → QuietNext (next_down w conn count st m link)
  quiet_down conn count here m (letter ∷ rest) = by (nat_le (missing letter.said.message m) count)
    where
      by : (b : Bool) → QuietNext (if b then cause (gets conn) w (moving_down conn (count - missing letter.said.message m)) else rests (moved_down w conn count))
      by true = tt
      by false = tt
  quiet_down conn count here m [] = tt
  quiet_down conn count stopped m link = tt
  quiet_down conn count away m link = tt

  quiet_at_up : (conn count : ℕ) (o : Option End) → QuietNext (of_end w o (λ e. next_up w conn count e.standing e.up_moved e.up))
  quiet_at_up conn count None = tt
  quiet_at_up conn count (Some e) = quiet_up conn count e.standing e.up_moved e.up

  quiet_at_down : (conn count : ℕ) (o : Option End) → QuietNext (of_end w o (λ e. next_down w conn count e.standing e.down_moved e.down))
  quiet_at_down conn count None = tt
  quiet_at_down conn count (Some e) = quiet_down conn count e.standing e.down_moved e.down

  quiet_turns : (count left : ℕ) (o : Option Cause) → next_turn w ≡ o → QuietNext (next_of_turns w count left o)
  quiet_turns count left None h = tt
  quiet_turns count zero (Some c) h = tt
  quiet_turns count (suc left) (Some c) h = turn_is_quiet c (is_turn w c h)

  quiet_drain : (o : Option Cause) → next_turn w ≡ o → QuietNext (next_of_drain w o)
  quiet_drain None h = tt
  quiet_drain (Some c) h = turn_is_quiet c (is_turn w c h)

  quiet_next : (work : Work) → IsBare work → QuietNext (next_of w work)
  quiet_next resting b = tt
  quiet_next (doing c) b = absurd b
  quiet_next (moving_up conn count) b = quiet_at_up conn count (end_at w.ends conn)
  quiet_next (moving_down conn count) b = quiet_at_down conn count (end_at w.ends conn)
  quiet_next (turning count left) b = quiet_turns count left (next_turn w) refl
  quiet_next draining b = quiet_drain (next_turn w) refl

-- what an end takes leaves the standing of each
module _ (R : End → End → Type 0) (order : IsOrder R) (stay : (e d : End) → d.standing ≡ e.standing → R e d) (p : Playing) (conn : ℕ) where
  does_over : Over R p.world.ends (does p.world (gets conn)).world.ends
  does_over = gets_over R order stay p.world conn (end_at p.world.ends conn)

  took_over : (r : ℕ) (letter : Letter) (o : Option ReaderState) → Over R p.world.ends (reader_got p conn r letter o).now.world.ends
  took_over r letter None = does_over
  took_over r letter (Some s) =
      over_both R order p.world.ends (does p.world (gets conn)).world.ends _ does_over
      (out_over R order stay conn (does p.world (gets conn)).world (reader_takes s letter.said.message).out)

  at_over : (who : Party) (down : List Letter) → Over R p.world.ends (got_at p conn who down).now.world.ends
  at_over (Reader r) (letter ∷ rest) = took_over r letter (slice_get p.readers r)
  at_over (Reader r) [] = does_over
  at_over The_bus down = does_over
  at_over Registry down = does_over
  at_over (App a) down = does_over

  pub by_over : (o : Option End) → Over R p.world.ends (got_by p conn o).now.world.ends
  by_over None = does_over
  by_over (Some e) = at_over e.who e.down

-- what is played fades nobody in
plays_over : (p : Playing) (c : Cause) → IsQuietTurn c → Over Fades p.world.ends (plays p c).now.world.ends
plays_over p (gets conn) t = by_over Fades fading as_it_stands p conn (end_at p.world.ends conn)
plays_over p (routes conn) t = turn_over p.world (routes conn) tt
plays_over p (unjoins conn) t = turn_over p.world (unjoins conn) tt
plays_over p (tells_busy turns) t = turn_over p.world (tells_busy turns) tt
plays_over p tells_quiet t = turn_over p.world tells_quiet tt
plays_over p (renews quota) t = absurd t
plays_over p (starts_app name) t = absurd t
plays_over p starts_reader t = absurd t
plays_over p (edits conn edit) t = absurd t
plays_over p (calls conn name node deed) t = absurd t
plays_over p swaps_face t = absurd t
plays_over p (exits conn) t = absurd t
plays_over p (shows conn app) t = absurd t

moves_over : (w v : World) → Moves w v → Over Fades w.ends v.ends
moves_over w v (inl same) = subst (λ (x : World). Over Fades w.ends x.ends) (sym same) (over_same Fades fading w.ends)
moves_over w v (inr m) = by m
  where
    by : (MovedUp w v ⊎ MovedDown w v) → Over Fades w.ends v.ends
    by (inl m) = subst (λ (x : World). Over Fades w.ends x.ends) (sym m.after) (over_with Fades fading (λ e. record e { up_moved = e.up_moved + m.count }) (λ e. as_it_stands e _ refl) m.conn w.ends)
    by (inr m) = subst (λ (x : World). Over Fades w.ends x.ends) (sym m.after) (over_with Fades fading (λ e. record e { down_moved = e.down_moved + m.count }) (λ e. as_it_stands e _ refl) m.conn w.ends)

pub here_all_along : (p : Playing) (left : Work) (entries : List Entry) (q : Playing) → PlaysOut p left entries q → IsBare left → is_lost q.world ≡ false → is_lost p.world ≡ false
here_all_along _ _ _ _ (at_rest p v left is) bare last =
    here_before p.world v (moves_over p.world v (subst (NextFine p.world) is (next_fine p.world left (bare-work p.world left bare)))) last
here_all_along _ _ _ _ (caused p q v left rest c entries is h) bare last =
    let fine : NextFine p.world (cause c v rest) = subst (NextFine p.world) is (next_fine p.world left (bare-work p.world left bare)) in
    let quiet : IsQuietTurn c = subst QuietNext is (quiet_next p.world left bare) in
    let now : is_lost (plays (record p { world = v }) c).now.world ≡ false = here_all_along (plays (record p { world = v }) c).now rest entries q h fine.2 last in
    subst (λ x. is_lost x ≡ false) fine.0 (here_before v (plays (record p { world = v }) c).now.world (plays_over (record p { world = v }) c quiet) now)

-- so it is where only some causes were done
pub here_so_far : (p : Playing) (left : Work) (entries : List Entry) (q : Playing) (last : Work) → PlaysOn p left entries q last → IsBare left → is_lost q.world ≡ false → is_lost p.world ≡ false
here_so_far _ _ _ _ _ (so_far p left) bare last = last
here_so_far _ _ _ _ _ (breaking.caused p q v left rest end c entries is h) bare last =
    let fine : NextFine p.world (cause c v rest) = subst (NextFine p.world) is (next_fine p.world left (bare-work p.world left bare)) in
    let quiet : IsQuietTurn c = subst QuietNext is (quiet_next p.world left bare) in
    let now : is_lost (plays (record p { world = v }) c).now.world ≡ false = here_so_far (plays (record p { world = v }) c).now rest entries q end h fine.2 last in
    subst (λ x. is_lost x ≡ false) fine.0 (here_before v (plays (record p { world = v }) c).now.world (plays_over (record p { world = v }) c quiet) now)
