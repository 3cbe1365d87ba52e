-- One turn after another: what the code finds first is what the definitions find.
use Rattle.std.proofs.Common.{◌≡◌, ℕ, suc, ◌+◌, List, [], ◌∷◌, Option, None, Some, refl, sym, ap, ◌∙◌, subst, arith}
use Rattle.std.specs.Prelude.{IsSome}
use Rattle.std.proofs.lemmas.Option.{same_Some}
use Rattle.atspi_tree_model.specs.Forest.{first_of}
use Rattle.atspi_trace.specs.World.{Standing, here, stopped, away, Said, Letter, End, World}
use Rattle.atspi_trace.specs.Ends.{end_at}
use Rattle.atspi_trace.specs.Causes.{Cause, does, routes, unjoins, gets}
use Rattle.atspi_trace.specs.Work.{up_turn, down_turn, first_up, first_down, next_turn}
use Rattle.atspi_world_moves.specs.Carried.{IsDone, IsCarried}
use Rattle.atspi_world_moves.specs.Linked.{IsLinked}
use Rattle.atspi_world_moves.specs.inner.Waits.{turn_of}
use Rattle.atspi_world_moves.specs.declared.waiting.Turn.TheVariants.{Route, Part, Get}
use Rattle.atspi_world_moves.proofs.Staying.{lives_so}
use Rattle.atspi_trace.specs.play.Playing.{Playing}
use Rattle.atspi_trace.specs.play.Plays.{plays}
use Rattle.atspi_world.specs.Worlds.{Staged, IsPlaying, Happens}
use Rattle.atspi_world.proofs.Routing.{routes_parts, ends_parts}
use Rattle.atspi_world.proofs.Stays.{Beside, same_world, only_happens}

-- WHAT A TURN IS: at the place of its connection an end that sent something, or stopped, or for which a letter waits
abbrev pub IsTurnOf : End → Cause → Type 0
IsTurnOf e (routes k) = (e.standing ≡ here) × ((said : Said) × ((rest : List Said) × (e.up ≡ said ∷ rest)))
IsTurnOf e (unjoins k) = e.standing ≡ stopped
IsTurnOf e (gets k) = (e.standing ≡ here) × ((letter : Letter) × ((rest : List Letter) × (e.down ≡ letter ∷ rest)))
IsTurnOf e c = ⊥

abbrev pub conn_in : Cause → ℕ
conn_in (routes k) = k
conn_in (unjoins k) = k
conn_in (gets k) = k
conn_in c = 0

record IsTurn (conn : ℕ) (ends : List End) (c : Cause) : Type 0 where
  pub place : ℕ
  pub the_end : End
  pub sum : conn_in c ≡ conn + place
  pub at : end_at ends place ≡ Some the_end
  pub is : IsTurnOf the_end c

plus_none : (n : ℕ) → n ≡ n + 0
plus_none n = omega arith

later : (conn : ℕ) (e : End) (es : List End) (c : Cause) → IsTurn (suc conn) es c → IsTurn conn (e ∷ es) c
later conn e es c t = record { place = suc t.place; the_end = t.the_end; sum = (let sum = t.sum in omega (arith, sum)); at = t.at; is = t.is }

up_is : (conn : ℕ) (ends : List End) (c : Cause) → first_up conn ends ≡ Some c → IsTurn conn ends c
up_is conn [] c h = absurd cc
up_is conn (e ∷ es) c h = by e.standing e.up refl refl h (λ found. later conn e es c (up_is (suc conn) es c found))
  where
    by : (s : Standing) (link : List Said) → e.standing ≡ s → e.up ≡ link → first_of (up_turn conn s link) (first_up (suc conn) es) ≡ Some c → (first_up (suc conn) es ≡ Some c → IsTurn conn (e ∷ es) c) → IsTurn conn (e ∷ es) c
    by here [] stands up found go = go found
    by here (said ∷ rest) stands up found go =
        subst (IsTurn conn (e ∷ es)) (same_Some (routes conn) c found) (record { place = 0; the_end = e; sum = plus_none conn; at = refl; is = (stands, (said, (rest, up))) })
    by stopped link stands up found go = subst (IsTurn conn (e ∷ es)) (same_Some (unjoins conn) c found) (record { place = 0; the_end = e; sum = plus_none conn; at = refl; is = stands })
    by away link stands up found go = go found

down_is : (conn : ℕ) (ends : List End) (c : Cause) → first_down conn ends ≡ Some c → IsTurn conn ends c
down_is conn [] c h = absurd cc
down_is conn (e ∷ es) c h = by e.standing e.down refl refl h (λ found. later conn e es c (down_is (suc conn) es c found))
  where
    by : (s : Standing) (link : List Letter) → e.standing ≡ s → e.down ≡ link → first_of (down_turn conn s link) (first_down (suc conn) es) ≡ Some c → (first_down (suc conn) es ≡ Some c → IsTurn conn (e ∷ es) c)
        → IsTurn conn (e ∷ es) c
    by here [] stands down found go = go found
    by here (letter ∷ rest) stands down found go =
        subst (IsTurn conn (e ∷ es)) (same_Some (gets conn) c found) (record { place = 0; the_end = e; sum = plus_none conn; at = refl; is = (stands, (letter, (rest, down))) })
    by stopped link stands down found go = go found
    by away link stands down found go = go found

turn_is : (w : World) (c : Cause) → next_turn w ≡ Some c → IsTurn 0 w.ends c
turn_is w c h = by (first_up 0 w.ends) refl h
  where
    by : (o : Option Cause) → first_up 0 w.ends ≡ o → first_of o (first_down 0 w.ends) ≡ Some c → IsTurn 0 w.ends c
    by None none found = down_is 0 w.ends c found
    by (Some u) some found = up_is 0 w.ends c (some ∙ found)

-- the end of a turn's connection
pub record HasTurn (w : World) (c : Cause) : Type 0 where
  pub the_end : End
  pub at : end_at w.ends (conn_in c) ≡ Some the_end
  pub is : IsTurnOf the_end c

pub turn_at : (w : World) (c : Cause) → next_turn w ≡ Some c → HasTurn w c
turn_at w c h =
    let t = turn_is w c h in
    let place : conn_in c ≡ t.place = (let sum = t.sum in omega (arith, sum)) in
    record { the_end = t.the_end; at = ap (end_at w.ends) place ∙ t.at; is = t.is }

-- each turn is one of the code's
pub turn_some : (w : World) (c : Cause) → next_turn w ≡ Some c → IsSome (turn_of c)
turn_some w c h = by c (turn_at w c h).is
  where
    e : End
    e = (turn_at w c h).the_end

    by : (k : Cause) → IsTurnOf e k → IsSome (turn_of k)
    by (routes k) is = refl
    by (unjoins k) is = refl
    by (gets k) is = refl
    by _ is = absurd is

pub only_route : (c : Cause) (conn : ℕ) → turn_of c ≡ Some (Route conn) → c ≡ routes conn
only_route (routes k) conn h = (let same : k ≡ conn = cc in ap routes same)
only_route c conn h = absurd cc

pub only_part : (c : Cause) (conn : ℕ) → turn_of c ≡ Some (Part conn) → c ≡ unjoins conn
only_part (unjoins k) conn h = (let same : k ≡ conn = cc in ap unjoins same)
only_part c conn h = absurd cc

pub only_get : (c : Cause) (conn : ℕ) → turn_of c ≡ Some (Get conn) → c ≡ gets conn
only_get (gets k) conn h = (let same : k ≡ conn = cc in ap gets same)
only_get c conn h = absurd cc

-- ONE TURN: the bus takes a message
pub route_turn : (p : Playing) (c : Cause) (conn : ℕ) (old new : Staged) → IsPlaying p old → next_turn p.world ≡ Some c → turn_of c ≡ Some (Route conn)
    → ((v : World) (e : End) (said : Said) (rest : List Said) → IsCarried v old.bus old.posts → end_at v.ends conn ≡ Some e → e.up ≡ said ∷ rest → IsDone (does v (routes conn)) new.bus new.posts old.trace new.trace)
    → ((v : World) (e : End) (said : Said) (rest : List Said) → IsCarried v old.bus old.posts → IsLinked v old.given → end_at v.ends conn ≡ Some e → e.standing ≡ here → e.up ≡ said ∷ rest → IsLinked (does v (routes conn)).world new.given)
    → new.apps ≡ old.apps → new.readers ≡ old.readers → Beside old new → Happens (plays p c) old new
route_turn p c conn old new playing found turn does_ links apps readers beside =
    let same = only_route c conn turn in
    let t : HasTurn p.world (routes conn) = turn_at p.world (routes conn) (subst (λ k. next_turn p.world ≡ Some k) same found) in
    let is = playing.is in
    let done = does_ p.world t.the_end t.is.1.0 t.is.1.1.0 is.carried t.at t.is.1.1.1 in
    let linked = links p.world t.the_end t.is.1.0 t.is.1.1.0 is.carried is.linked t.at t.is.0 t.is.1.1.1 in
    let d = does p.world (routes conn) in
    let parts = routes_parts p.world conn in
    subst (λ k. Happens (plays p k) old new) (sym same)
    (only_happens p d old new playing (same_world p.world d.world old new is parts.0 parts.1 done.tied linked (lives_so d.world new.given linked) apps readers beside) readers done.wrote)

-- it takes an end that stopped
pub part_turn : (p : Playing) (c : Cause) (conn : ℕ) (old new : Staged) → IsPlaying p old → next_turn p.world ≡ Some c → turn_of c ≡ Some (Part conn)
    → ((v : World) → IsCarried v old.bus old.posts → IsDone (does v (unjoins conn)) new.bus new.posts old.trace new.trace)
    → ((v : World) (e : End) → IsCarried v old.bus old.posts → IsLinked v old.given → end_at v.ends conn ≡ Some e → e.standing ≡ stopped → IsLinked (does v (unjoins conn)).world new.given)
    → new.apps ≡ old.apps → new.readers ≡ old.readers → Beside old new → Happens (plays p c) old new
part_turn p c conn old new playing found turn does_ links apps readers beside =
    let same = only_part c conn turn in
    let t : HasTurn p.world (unjoins conn) = turn_at p.world (unjoins conn) (subst (λ k. next_turn p.world ≡ Some k) same found) in
    let is = playing.is in
    let done = does_ p.world is.carried in
    let linked = links p.world t.the_end is.carried is.linked t.at t.is in
    let d = does p.world (unjoins conn) in
    subst (λ k. Happens (plays p k) old new) (sym same)
    (only_happens p d old new playing
    (same_world p.world d.world old new is (ends_parts (record { bus = p.world.bus; ends = p.world.ends }) conn) refl done.tied linked (lives_so d.world new.given linked) apps readers beside) readers done.wrote)

-- an end takes a message
pub get_turn : (p : Playing) (c : Cause) (conn : ℕ) (old new : Staged) → IsPlaying p old → next_turn p.world ≡ Some c → turn_of c ≡ Some (Get conn)
    → ((q : Playing) (e : End) (letter : Letter) (rest : List Letter) → IsPlaying q old → end_at q.world.ends conn ≡ Some e → e.standing ≡ here → e.down ≡ letter ∷ rest → Happens (plays q (gets conn)) old new)
    → Happens (plays p c) old new
get_turn p c conn old new playing found turn does_ =
    let same = only_get c conn turn in
    let t : HasTurn p.world (gets conn) = turn_at p.world (gets conn) (subst (λ k. next_turn p.world ≡ Some k) same found) in
    subst (λ k. Happens (plays p k) old new) (sym same) (does_ p t.the_end t.is.1.0 t.is.1.1.0 playing t.at t.is.0 t.is.1.1.1)
