-- Bytes that a line moves up: whom it leaves as they are, and where nothing moves.
use Rattle.std.proofs.Common.{◌≡◌, inl, ℕ, zero, suc, ◌+◌, ◌-◌, Bool, true, false, List, [], ◌∷◌, ◌++◌, map, Option, None, Some, refl, sym, ap, ◌∙◌, subst, append-nil}
use Rattle.std.specs.Prelude.{nat_le, if◌then◌else◌}
use Rattle.atspi_script_lines.specs.declared.line.Line.TheVariants as lines
use Rattle.atspi_script_lines.specs.declared.line.Party.{Party}
use Rattle.atspi_world_links.specs.declared.post.Post.{Post}
use Rattle.atspi_world_links.specs.declared.post.Standing.TheVariants.{Here, Stopped, Away}
use Rattle.atspi_trace.specs.Entry.{Entry, entries_of}
use Rattle.atspi_trace.specs.World.{Standing, here, stopped, away, Said, End, World}
use Rattle.atspi_trace.specs.Ends.{end_at, end_if, end_of}
use Rattle.atspi_trace.specs.Causes.{Cause, does, routes, unjoins, missing}
use Rattle.atspi_trace.specs.Work.{Work, resting, doing, moving_up, moving_down, turning, draining, Next, cause, rests, moved_up, next_up, of_end, next_of, with_conn, moving, if_started, no_more}
use Rattle.atspi_trace.specs.Works as works
use Rattle.atspi_trace.specs.Works.{Works}
use Rattle.atspi_world_moves.specs.Carried.{standing_at, post_of}
use Rattle.atspi_world_moves.specs.Segments.{IsWorked}
use Rattle.atspi_world_moves.specs.Moving.{MovesAt, MovesAll}
use Rattle.atspi_world_moves.proofs.Staying.{lives_so}
use Rattle.atspi_world_moves.proofs.Ties.{post_at}
use Rattle.atspi_protocol.specs.following.ReaderState.{ReaderState}
use Rattle.atspi_trace.specs.play.Playing.{Playing}
use Rattle.atspi_trace.specs.play.Plays.{plays}
use Rattle.atspi_trace.specs.play.Played.{PlaysOut, at_rest, caused}
use Rattle.atspi_world.specs.Lines.{IsSegment, WorkDone, WorkOf}
use Rattle.atspi_world.specs.Worlds.{Staged, IsPlaying, Happens}
use Rattle.atspi_world.proofs.Changed.{part_of}
use Rattle.atspi_world.proofs.Conns.{conn_end}
use Rattle.atspi_world.proofs.Lining.{Finds, found_is}
use Rattle.atspi_world.proofs.Routing.{routes_parts, ends_parts}
use Rattle.atspi_world.proofs.Stays.{Beside, parts_kept, same_world}

-- all are and play the same, and no face is used
pub record Keeps (w v : World) : Type 0 where
  pub parts : map part_of v.ends ≡ map part_of w.ends
  pub swaps : v.swaps ≡ w.swaps

both_keep : (u v w : World) → Keeps u v → Keeps v w → Keeps u w
both_keep u v w a b = record { parts = b.parts ∙ a.parts; swaps = b.swaps ∙ a.swaps }

same_keeps : (w : World) → Keeps w w
same_keeps w = record { parts = refl; swaps = refl }

-- the work moves bytes up, or rests; its causes are the bus's
abbrev pub IsUp : Work → Type 0
IsUp (moving_up conn count) = Unit {0}
IsUp resting = Unit {0}
IsUp work = ⊥

abbrev pub IsOfBus : Cause → Type 0
IsOfBus (routes conn) = Unit {0}
IsOfBus (unjoins conn) = Unit {0}
IsOfBus c = ⊥

abbrev pub GoesUp : World → Next → Type 0
GoesUp w (cause c v left) = (v ≡ w) × IsOfBus c × IsUp left
GoesUp w (rests v) = Keeps w v

up_goes : (w : World) (conn count : ℕ) (s : Standing) (moved : ℕ) (link : List Said) → GoesUp w (next_up w conn count s moved link)
up_goes w conn count here moved [] = same_keeps w
up_goes w conn count here moved (said ∷ rest) = by (nat_le (missing said.message moved) count)
  where
    by : (t : Bool) → GoesUp w (if t then cause (routes conn) w (moving_up conn (count - missing said.message moved)) else rests (moved_up w conn count))
    by true = (refl, tt, tt)
    by false = record { parts = parts_kept (λ e. record e { up_moved = e.up_moved + count }) (λ e. refl) w.ends conn; swaps = refl }
up_goes w conn zero stopped moved link = same_keeps w
up_goes w conn (suc count) stopped moved link = (refl, tt, tt)
up_goes w conn count away moved link = same_keeps w

pub work_goes : (w : World) (work : Work) → IsUp work → GoesUp w (next_of w work)
work_goes w resting up = same_keeps w
work_goes w (moving_up conn count) up = by (end_at w.ends conn)
  where
    by : (o : Option End) → GoesUp w (of_end w o (λ e. next_up w conn count e.standing e.up_moved e.up))
    by None = same_keeps w
    by (Some e) = up_goes w conn count e.standing e.up_moved e.up
work_goes w (doing c) up = absurd up
work_goes w (moving_down conn count) up = absurd up
work_goes w (turning count left) up = absurd up
work_goes w draining up = absurd up

bus_keeps : (w : World) (c : Cause) → IsOfBus c → Keeps w (does w c).world
bus_keeps w (routes conn) b = (let same = routes_parts w conn in record { parts = same.0; swaps = same.1 })
bus_keeps w (unjoins conn) b = record { parts = ends_parts (record { bus = w.bus; ends = w.ends }) conn; swaps = refl }
bus_keeps w c b = absurd b

works_keep : (w u : World) (work : Work) (es : List Entry) → Works w work es u → IsUp work → Keeps w u
works_keep _ _ _ _ (works.at_rest w v work e) up = subst (GoesUp w) e (work_goes w work up)
works_keep _ _ _ _ (works.caused w v u work left c more e h) up =
    let g = subst (GoesUp w) e (work_goes w work up) in
    both_keep w v u (subst (Keeps w) (sym g.0) (same_keeps w)) (both_keep v (does v c).world u (bus_keeps v c g.1) (works_keep (does v c).world u left more h g.2))

-- the bus's causes do in a world whose readers are those of their own definitions what they do in any
bus_plays : (readers : List ReaderState) (w v u : World) (work left : Work) (c : Cause) (more : List Entry) → IsOfBus c → next_of w work ≡ cause c v left
    → PlaysOut (record { world = (does v c).world; readers = readers }) left more (record { world = u; readers = readers })
    → PlaysOut (record { world = w; readers = readers }) work ((does v c).entries ++ more) (record { world = u; readers = readers })
bus_plays readers w v u work left (routes conn) more of_bus next rest = caused (record { world = w; readers = readers }) (record { world = u; readers = readers }) v work left (routes conn) more next rest
bus_plays readers w v u work left (unjoins conn) more of_bus next rest = caused (record { world = w; readers = readers }) (record { world = u; readers = readers }) v work left (unjoins conn) more next rest
bus_plays readers w v u work left c more of_bus next rest = absurd of_bus

works_play : (readers : List ReaderState) (w u : World) (work : Work) (es : List Entry) → Works w work es u → IsUp work
    → PlaysOut (record { world = w; readers = readers }) work es (record { world = u; readers = readers })
works_play readers _ _ _ _ (works.at_rest w v work e) up = at_rest (record { world = w; readers = readers }) v work e
works_play readers _ _ _ _ (works.caused w v u work left c more e h) up =
    let g = subst (GoesUp w) e (work_goes w work up) in
    bus_plays readers w v u work left c more g.1 e (works_play readers (does v c).world u left more h g.2)

-- WHAT WAS MOVED UP, as the whole world sees it
pub move_world : (p : Playing) (conn count : ℕ) (old new : Staged) → IsPlaying p old → IsWorked p.world (moving_up conn count) new.bus new.posts old.given new.given old.trace new.trace
    → new.apps ≡ old.apps → new.readers ≡ old.readers → Beside old new → IsSegment p (moving_up conn count) old new
move_world p conn count old new is worked apps readers beside =
    let links = worked.linked is.is.linked in
    let kept = works_keep p.world worked.after (moving_up conn count) worked.entries worked.works tt in
    record {
      after = record p { world = worked.after };
      entries = worked.entries;
      plays = works_play p.readers p.world worked.after (moving_up conn count) worked.entries worked.works tt;
      is = record { is = same_world p.world worked.after old new is.is kept.parts kept.swaps worked.tied links (lives_so worked.after new.given links) apps readers beside; readers = readers ∙ is.readers };
      wrote = worked.wrote;
    }

-- where nothing moves
still : (p : Playing) (work : Work) (s : Staged) → next_of p.world work ≡ rests p.world → IsPlaying p s → IsSegment p work s s
still p work s e is = record { after = p; entries = []; plays = at_rest p p.world work e; is = is; wrote = sym (append-nil (entries_of s.trace)) }

pub standing_next : (w : World) (conn count : ℕ) (e : End) (s : Standing) → end_at w.ends conn ≡ Some e → e.standing ≡ s → next_of w (moving_up conn count) ≡ next_up w conn count s e.up_moved e.up
standing_next w conn count e s at is = ap (λ o. of_end w o (λ x. next_up w conn count x.standing x.up_moved x.up)) at ∙ ap (λ t. next_up w conn count t e.up_moved e.up) is

pub stopped_is : (s : Standing) → standing_at s ≡ Stopped → s ≡ stopped
stopped_is here h = absurd cc
stopped_is stopped h = refl
stopped_is away h = absurd cc

away_is : (s : Standing) → standing_at s ≡ Away → s ≡ away
away_is here h = absurd cc
away_is stopped h = absurd cc
away_is away h = refl

-- THE LINE'S END, by how it stands
pub up_here : (p : Playing) (conn count : ℕ) (e : End) (post : Post) (old new : Staged) → IsPlaying p old → end_at p.world.ends conn ≡ Some e → post ≡ post_of e → post.standing ≡ Here
    → MovesAll old.bus new.bus old.posts new.posts old.given new.given conn count old.trace new.trace → new.apps ≡ old.apps → new.readers ≡ old.readers → Beside old new → IsSegment p (moving_up conn count) old new
up_here p conn count e post old new is at post_is stands moves_ apps readers beside =
    let there : MovesAt old.posts conn = record { post = post; there = post_at p.world old.bus old.posts conn e is.is.carried at ∙ ap Some (sym post_is); moves = inl stands } in
    move_world p conn count old new is (moves_ p.world is.is.carried there) apps readers beside

pub up_stopped_none : (p : Playing) (conn count : ℕ) (e : End) (post : Post) (s : Staged) → IsPlaying p s → end_at p.world.ends conn ≡ Some e → post ≡ post_of e → post.standing ≡ Stopped → count ≡ 0 → IsSegment p (moving_up conn count) s s
up_stopped_none p conn zero e post s is at post_is stands none =
    still p (moving_up conn 0) s (standing_next p.world conn 0 e stopped at (stopped_is e.standing (ap (λ (q : Post). q.standing) (sym post_is) ∙ stands))) is
up_stopped_none p conn (suc count) e post s is at post_is stands none = absurd cc

pub up_stopped : (p : Playing) (conn count : ℕ) (e : End) (post : Post) (old new : Staged) → IsPlaying p old → end_at p.world.ends conn ≡ Some e → post ≡ post_of e → post.standing ≡ Stopped → (count ≡ 0 → ⊥)
    → Happens (plays p (unjoins conn)) old new → IsSegment p (moving_up conn count) old new
up_stopped p conn zero e post old new is at post_is stands some after_ = absurd (some refl)
up_stopped p conn (suc count) e post old new is at post_is stands some after_ =
    let next = standing_next p.world conn (suc count) e stopped at (stopped_is e.standing (ap (λ (q : Post). q.standing) (sym post_is) ∙ stands)) in
    let d = plays p (unjoins conn) in
    record {
      after = d.now;
      entries = d.entries ++ [];
      plays = caused p d.now p.world (moving_up conn (suc count)) resting (unjoins conn) [] next (at_rest d.now d.now.world resting refl);
      is = after_.is;
      wrote = after_.wrote ∙ ap (λ l. entries_of old.trace ++ l) (sym (append-nil d.entries));
    }

pub up_away : (p : Playing) (conn count : ℕ) (e : End) (post : Post) (s : Staged) → IsPlaying p s → end_at p.world.ends conn ≡ Some e → post ≡ post_of e → post.standing ≡ Away → IsSegment p (moving_up conn count) s s
up_away p conn count e post s is at post_is stands =
    still p (moving_up conn count) s (standing_next p.world conn count e away at (away_is e.standing (ap (λ (q : Post). q.standing) (sym post_is) ∙ stands))) is

-- a party that was not started is refused
pub bytes_none : (who : Party) (up : Bool) (count : ℕ) (old new : Staged) → Finds None who old.posts → WorkOf (lines.Bytes who up count) old new
bytes_none who up count old new found = λ p is free. absurd (refused (end_of p.world.ends who) (ap (end_if p.world.ends) (found_is p.world old who None is.is found)) free)
  where
    refused : (o : Option End) → o ≡ None → if_started o no_more ≡ None → ⊥
    refused None e h = cc
    refused (Some x) e h = cc

-- bytes of one that was, up or down
bytes_some : (who : Party) (up : Bool) (count conn : ℕ) (old new : Staged) → Finds (Some conn) who old.posts
    → ((p : Playing) (e : End) → IsPlaying p old → end_at p.world.ends conn ≡ Some e → WorkDone p (moving up count conn) old new) → WorkOf (lines.Bytes who up count) old new
bytes_some who up count conn old new found does_ = λ p is free.
    let there = found_is p.world old who (Some conn) is.is found in
    let e = conn_end p.world.ends who conn there in
    subst (λ o. WorkDone p (with_conn o (moving up count)) old new) (sym there) (does_ p e.0 is e.1)

pub bytes_up_some : (who : Party) (up : Bool) (count conn : ℕ) (old new : Staged) → up ≡ true → Finds (Some conn) who old.posts
    → ((p : Playing) (e : End) → IsPlaying p old → end_at p.world.ends conn ≡ Some e → IsSegment p (moving_up conn count) old new) → WorkOf (lines.Bytes who up count) old new
bytes_up_some who up count conn old new goes_up found does_ =
    bytes_some who up count conn old new found (λ p e is at. subst (λ u. WorkDone p (moving u count conn) old new) (sym goes_up) (does_ p e is at))

pub bytes_down_some : (who : Party) (up : Bool) (count conn : ℕ) (old new : Staged) → up ≡ false → Finds (Some conn) who old.posts
    → ((p : Playing) (e : End) → IsPlaying p old → end_at p.world.ends conn ≡ Some e → IsSegment p (moving_down conn count) old new) → WorkOf (lines.Bytes who up count) old new
bytes_down_some who up count conn old new goes_down found does_ =
    bytes_some who up count conn old new found (λ p e is at. subst (λ u. WorkDone p (moving u count conn) old new) (sym goes_down) (does_ p e is at))
