-- Bytes of a down link, one message after another.
use Rattle.std.proofs.Common.{◌≡◌, ℕ, ◌+◌, ◌-◌, ◌<◌, Bool, true, false, List, [], ◌∷◌, length, Some, refl, sym, ap, ◌∙◌, subst, append-nil, arith}
use Rattle.std.specs.Prelude.{nat_le, slice_get, if◌then◌else◌}
use Rattle.std.proofs.lemmas.Bool.{lt-leb}
use Rattle.atspi_message.specs.Bytes.{written}
use Rattle.atspi_match.specs.routing.Queues.{Bus}
use Rattle.atspi_trace.specs.World.{Standing, here, stopped, away, Letter, End, World}
use Rattle.atspi_trace.specs.Ends.{end_at}
use Rattle.atspi_trace.specs.Causes.{gets, missing}
use Rattle.atspi_trace.specs.Work.{moving_down, moved_down, next_down, of_end, next_of, cause, rests}
use Rattle.atspi_world_moves.specs.Carried.{standing_at, post_of, IsCarried}
use Rattle.atspi_world_moves.specs.Downs.{IsBegun}
use Rattle.atspi_world_moves.specs.Filled.{FillsAt}
use Rattle.atspi_world_moves.specs.Linked.{given_of, IsLinked, BringsDown, ComesDown}
use Rattle.atspi_world_moves.proofs.Beginning.{gave_none}
use Rattle.atspi_world_links.proofs.Changes.{set_same}
use Rattle.atspi_world_moves.proofs.Coming.{brings_down}
use Rattle.atspi_world_moves.proofs.Staying.{lives_so}
use Rattle.atspi_world_moves.proofs.Ties.{post_at}
use Rattle.atspi_trace.specs.play.Playing.{Playing}
use Rattle.atspi_world.specs.Lines.{IsSegment}
use Rattle.atspi_world.specs.inner.Taken.{Gets, is_standing, stands_here}
use Rattle.atspi_world.specs.inner.Turns.{PartDone}
use Rattle.atspi_world.specs.Worlds.{Staged, IsPlaying, IsWorld}
use Rattle.atspi_world.proofs.Downward.{StandsAt, gets_stands, lies_so, lies_awaits}
use Rattle.atspi_world.proofs.GotMessages.{got_whole}
use Rattle.atspi_world.proofs.Parts.{none_done, one_done, all_done}
use Rattle.atspi_world.proofs.Stays.{same_world, parts_kept}
use Rattle.atspi_world.proofs.Still.{still}
use Rattle.atspi_world.proofs.Taking.{with_at}

-- WHAT IS NEXT of bytes that are moved down to an end that is there
pub next_so : (w : World) (conn n : ℕ) (e : End) (letters : List Letter) → end_at w.ends conn ≡ Some e → e.standing ≡ here → e.down ≡ letters → next_of w (moving_down conn n) ≡ next_down w conn n here e.down_moved letters
next_so w conn n e letters at stands link =
    ap (λ o. of_end w o (λ x. next_down w conn n x.standing x.down_moved x.down)) at ∙ ap (λ s. next_down w conn n s e.down_moved e.down) stands ∙ ap (next_down w conn n here e.down_moved) link

pub next_if : (w : World) (conn n : ℕ) (letter : Letter) (moved : ℕ) (b : Bool) → nat_le (missing letter.said.message moved) n ≡ b
    → (if nat_le (missing letter.said.message moved) n then cause (gets conn) w (moving_down conn (n - missing letter.said.message moved)) else rests (moved_down w conn n))
    ≡ (if b then cause (gets conn) w (moving_down conn (n - missing letter.said.message moved)) else rests (moved_down w conn n))
next_if w conn n letter moved b is = ap (λ (t : Bool). if t then cause (gets conn) w (moving_down conn (n - missing letter.said.message moved)) else rests (moved_down w conn n)) is

-- bytes that complete no message
pub moved_playing : (p : Playing) (conn n : ℕ) (s : Staged) (b : Bus) (given : List (List ℕ)) → IsPlaying p s → IsCarried (moved_down p.world conn n) b s.posts → IsLinked (moved_down p.world conn n) given
    → IsPlaying (record p { world = moved_down p.world conn n }) (record s { bus = b; given = given })
moved_playing p conn n s b given playing tied linked =
    let is = playing.is in
    record {
      is = same_world p.world (moved_down p.world conn n) s (record s { bus = b; given = given }) is (parts_kept (λ e. record e { down_moved = e.down_moved + n }) (λ e. refl) p.world.ends conn) refl tied linked
          (lives_so (moved_down p.world conn n) given linked) refl refl (record { registry = refl; kits = refl; spares = refl });
      readers = playing.readers;
    }

-- nothing comes of none
none_fills : (b : Bus) (given : List (List ℕ)) (conn : ℕ) → FillsAt b b given given conn 0 0
none_fills b given conn = λ g there. record {
  now = g;
  ends_are = sym (set_same given conn g there);
  filled = record {
    gives = record { there = omega arith; bus = sym (gave_none b conn); put = sym (append-nil g) };
    within = λ m rest is all few. few;
    stops = λ less some more. omega (arith, less);
  };
}

-- THE BYTES MOVED SO FAR, the end being there still
pub record MovedSoFar (p : Playing) (conn most left : ℕ) (old now : Staged) : Type 0 where
  pub part : PartDone p (moving_down conn most) (moving_down conn left) old now
  pub stands : StandsAt here part.now.world conn

pub moved_none : (p : Playing) (conn most : ℕ) (e : End) (s : Staged) → IsPlaying p s → end_at p.world.ends conn ≡ Some e → e.standing ≡ here → MovedSoFar p conn most most s s
moved_none p conn most e s playing at stands = record { part = none_done p (moving_down conn most) s playing; stands = record { the_end = e; at = at; stands = stands } }

-- what one message more, or none, is, whatever the end answers
abbrev pub Goes : Bool → Playing → ℕ → ℕ → ℕ → ℕ → Staged → Staged → Type 0
Goes true p conn most left count old new = MovedSoFar p conn most (left - count) old new × (0 < count)
Goes false p conn most left count old new = IsSegment p (moving_down conn most) old new

module _ (p : Playing) (conn most left count : ℕ) (old mid new : Staged) (b : Bus) (given : List (List ℕ)) (so_far : MovedSoFar p conn most left old mid)
    (brings : BringsDown mid.bus b mid.posts mid.given given conn left count) (took : Bool)
    (gets_ : Gets conn (record mid { bus = b; given = given }) new took) where
  abbrev q : Playing
  q = so_far.part.now

  abbrev e : End
  e = so_far.stands.the_end

  at : end_at q.world.ends conn ≡ Some e
  at = so_far.stands.at

  is : IsWorld q.world mid
  is = so_far.part.is.is

  -- where it is still no message, all stays
  ends_here : (v : World) (x : End) → e.who ≡ x.who → IsPlaying (record q { world = v }) (record mid { bus = b; given = given }) → end_at v.ends conn ≡ Some x → next_of q.world (moving_down conn left) ≡ rests v
      → Goes took p conn most left count old new
  ends_here v x same playing there next =
      let got = gets_ (post_of x) (given_of x) (post_at v b mid.posts conn x playing.is.carried there) (lies_so v given conn x playing.is.linked there) in
      let none = got.part (lies_awaits v given conn x playing.is.linked there) in
      let stays = still (record q { world = v }) conn x (record mid { bus = b; given = given }) new playing there got.bus none.left got.kits got.spares none.tells in
      subst (λ t. Goes t p conn most left count old new) (sym none.took_none) (all_done p (moving_down conn most) (moving_down conn left) v old mid new so_far.part next stays.0 stays.1)

  pub goes_down : Goes took p conn most left count old new
  goes_down = by e.down refl
    where
      comes : ComesDown q.world mid.bus b mid.posts mid.given given conn left count e
      comes = brings q.world e is.carried is.linked at

      by : (letters : List Letter) → e.down ≡ letters → Goes took p conn most left count old new
      by [] link =
          let none = comes.none link in
          let same : IsPlaying q (record mid { bus = b; given = given }) =
          subst (λ x. IsPlaying q (record mid { bus = x; given = given })) (sym none.bus) (subst (λ g. IsPlaying q (record mid { bus = mid.bus; given = g })) (sym none.lies) so_far.part.is) in
          ends_here q.world e refl same at (next_so q.world conn left e [] at so_far.stands.stands link)
      by (letter ∷ rest) link = enough (nat_le (missing letter.said.message e.down_moved) left) refl
        where
          next : next_of q.world (moving_down conn left) ≡ next_down q.world conn left here e.down_moved (letter ∷ rest)
          next = next_so q.world conn left e (letter ∷ rest) at so_far.stands.stands link

          enough : (t : Bool) → nat_le (missing letter.said.message e.down_moved) left ≡ t → Goes took p conn most left count old new
          enough true le =
              let came = comes.whole letter rest link le in
              let got = got_whole q conn e letter rest mid new b given took so_far.part.is at link came.whole gets_ in
              let one = one_done p (moving_down conn most) (moving_down conn left) (moving_down conn (left - missing letter.said.message e.down_moved)) (gets conn) old mid new so_far.part
              (next ∙ next_if q.world conn left letter e.down_moved true le) got.1 in
              let there : StandsAt here one.now.world conn = subst (λ s. StandsAt s one.now.world conn) so_far.stands.stands (gets_stands q conn e at) in
              let begun : e.down_moved < length (written letter.said.message) = subst (IsBegun e.down_moved) link (is.linked.wait conn e at).begun in
              let many = came.many in
              subst (λ t. Goes t p conn most left count old new) (sym got.0)
              (subst (λ n. MovedSoFar p conn most (left - n) old new) (sym many) (record { part = one; stands = there }), omega (arith, begun, many))
          enough false le =
              let part = comes.part letter rest link le in
              let v : World = moved_down q.world conn left in
              ends_here v (record e { down_moved = e.down_moved + left }) refl (moved_playing q conn left mid b given so_far.part.is part.tied part.linked)
              (with_at (λ x. record x { down_moved = x.down_moved + left }) q.world.ends conn e at) (next ∙ next_if q.world conn left letter e.down_moved false le)

pub goes_on : (took : Bool) (p : Playing) (conn most left count : ℕ) (old new : Staged) → took ≡ true → Goes took p conn most left count old new → MovedSoFar p conn most (left - count) old new × (0 < count)
goes_on took p conn most left count old new is g = subst (λ t. Goes t p conn most left count old new) is g

pub goes_no_more : (took : Bool) (p : Playing) (conn most left count : ℕ) (old new : Staged) → took ≡ false → Goes took p conn most left count old new → IsSegment p (moving_down conn most) old new
goes_no_more took p conn most left count old new is g = subst (λ t. Goes t p conn most left count old new) is g

-- ALL BYTES WERE MOVED
none_left : (p : Playing) (conn most : ℕ) (old now : Staged) → MovedSoFar p conn most 0 old now → IsSegment p (moving_down conn most) old now
none_left p conn most old now so_far = by e.down refl
  where
    q : Playing
    q = so_far.part.now

    e : End
    e = so_far.stands.the_end

    is : IsWorld q.world now
    is = so_far.part.is.is

    by : (letters : List Letter) → e.down ≡ letters → IsSegment p (moving_down conn most) old now
    by [] link = all_done p (moving_down conn most) (moving_down conn 0) q.world old now now so_far.part (next_so q.world conn 0 e [] so_far.stands.at so_far.stands.stands link) so_far.part.is refl
    by (letter ∷ rest) link =
        let comes = brings_down now.bus now.bus now.posts now.given now.given conn 0 0 (omega arith) (none_fills now.bus now.given conn) q.world e is.carried is.linked so_far.stands.at in
        let begun : e.down_moved < length (written letter.said.message) = subst (IsBegun e.down_moved) link (is.linked.wait conn e so_far.stands.at).begun in
        let le : nat_le (missing letter.said.message e.down_moved) 0 ≡ false = not_enough (missing letter.said.message e.down_moved) (omega (arith, begun)) in
        let part = comes.part letter rest link le in
        all_done p (moving_down conn most) (moving_down conn 0) (moved_down q.world conn 0) old now now so_far.part
        (next_so q.world conn 0 e (letter ∷ rest) so_far.stands.at so_far.stands.stands link ∙ next_if q.world conn 0 letter e.down_moved false le) (moved_playing q conn 0 now now.bus now.given so_far.part.is part.tied part.linked) refl
      where
        not_enough : (n : ℕ) → 0 < n → nat_le n 0 ≡ false
        not_enough n some = lt-leb n 0 some

pub moved_all : (p : Playing) (conn most left : ℕ) (old now : Staged) → left ≡ 0 → MovedSoFar p conn most left old now → IsSegment p (moving_down conn most) old now
moved_all p conn most left old now none so_far = none_left p conn most old now (subst (λ n. MovedSoFar p conn most n old now) none so_far)

-- AN END THAT IS NOT THERE, and one that is
stands_so : (w : World) (s : Staged) (conn : ℕ) (e : End) (b : Bool) → IsCarried w s.bus s.posts → end_at w.ends conn ≡ Some e → stands_here (slice_get s.posts conn) ≡ b → is_standing (standing_at e.standing) ≡ b
stands_so w s conn e b is at found = ap stands_here (sym (post_at w s.bus s.posts conn e is at)) ∙ found

pub is_there : (p : Playing) (conn : ℕ) (e : End) (s : Staged) → IsPlaying p s → end_at p.world.ends conn ≡ Some e → stands_here (slice_get s.posts conn) ≡ true → e.standing ≡ here
is_there p conn e s playing at found = by e.standing (stands_so p.world s conn e true playing.is.carried at found)
  where
    by : (x : Standing) → is_standing (standing_at x) ≡ true → x ≡ here
    by here h = refl
    by stopped h = absurd cc
    by away h = absurd cc

pub moved_away : (p : Playing) (conn most : ℕ) (e : End) (s : Staged) → IsPlaying p s → end_at p.world.ends conn ≡ Some e → stands_here (slice_get s.posts conn) ≡ false → IsSegment p (moving_down conn most) s s
moved_away p conn most e s playing at found =
    all_done p (moving_down conn most) (moving_down conn most) p.world s s s (none_done p (moving_down conn most) s playing)
    (ap (λ o. of_end p.world o (λ x. next_down p.world conn most x.standing x.down_moved x.down)) at ∙ by e.standing (stands_so p.world s conn e false playing.is.carried at found)) playing refl
  where
    by : (x : Standing) → is_standing (standing_at x) ≡ false → next_down p.world conn most x e.down_moved e.down ≡ rests p.world
    by here h = absurd cc
    by stopped h = refl
    by away h = refl
