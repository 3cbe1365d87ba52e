-- Bytes of a down link: the end that takes the message that they complete spends its serials.
use Rattle.std.proofs.Common.{◌≡◌, ℕ, ◌+◌, ◌-◌, Bool, true, false, List, [], ◌∷◌, refl, sym, subst, ◌∙◌}
use Rattle.std.specs.Prelude.{Some, nat_le}
use Rattle.atspi_match.specs.routing.Queues.{Bus}
use Rattle.atspi_trace_events.specs.declared.event.Event.{Event}
use Rattle.atspi_world_links.specs.declared.post.Post.{Post}
use Rattle.atspi_trace.specs.World.{here, Letter, End, World}
use Rattle.atspi_trace.specs.Ends.{end_at}
use Rattle.atspi_trace.specs.Causes.{gets, missing}
use Rattle.atspi_trace.specs.Work.{moving_down, moved_down, next_down, next_of}
use Rattle.atspi_world_moves.specs.Carried.{post_of}
use Rattle.atspi_world_moves.specs.Linked.{given_of, BringsDown, ComesDown}
use Rattle.atspi_world_moves.proofs.Ties.{post_at}
use Rattle.atspi_trace.specs.play.Playing.{Playing}
use Rattle.atspi_world_parties.specs.inner.Spending.{GetsSpent}
use Rattle.atspi_world.specs.Halts.{WorkSpent}
use Rattle.atspi_world_parties.specs.Taken.{Ends}
use Rattle.atspi_world.specs.inner.Taken.{ends_in}
use Rattle.atspi_world.specs.Worlds.{Staged, IsPlaying, IsWorld}
use Rattle.atspi_world.proofs.Downward.{lies_so, lies_awaits}
use Rattle.atspi_world.proofs.DownwardSteps.{MovedSoFar, next_so, next_if, moved_playing}
use Rattle.atspi_world.proofs.Halted.{then_spent}
use Rattle.atspi_world.proofs.Spending.{got_spent}
use Rattle.atspi_world.proofs.Taking.{with_at}

module _ (p : Playing) (conn most left count : ℕ) (old mid : Staged) (b : Bus) (given : List (List ℕ)) (new : Staged) (so_far : MovedSoFar p conn most left old mid)
    (brings : BringsDown mid.bus b mid.posts mid.given given conn left count) (gets_ : GetsSpent conn mid.posts given (ends_in mid) mid.trace new.trace) (stays : new.posts ≡ mid.posts) where
  abbrev q : Playing
  q = so_far.part.now

  abbrev e : End
  e = so_far.stands.the_end

  at : end_at q.world.ends conn ≡ Some e
  at = so_far.stands.at

  is : IsWorld q.world mid
  is = so_far.part.is.is

  -- where it is still no message, none is taken
  no_more : (v : World) (x : End) → IsPlaying (record q { world = v }) (record mid { bus = b; given = given }) → end_at v.ends conn ≡ Some x → ⊥
  no_more v x playing there =
      let got = gets_ (post_of x) (given_of x) (post_at v b mid.posts conn x playing.is.carried there) (lies_so v given conn x playing.is.linked there) in
      got.part (lies_awaits v given conn x playing.is.linked there)

  pub goes_spent : WorkSpent p (moving_down conn most) old new
  goes_spent = by e.down refl
    where
      comes : ComesDown q.world mid.bus b mid.posts mid.given given conn left count e
      comes = brings q.world e is.carried is.linked at

      by : (letters : List Letter) → e.down ≡ letters → WorkSpent p (moving_down conn most) old new
      by [] link =
          let none = comes.none link in
          let same : IsPlaying q (record mid { bus = b; given = given }) =
          subst (λ x. IsPlaying q (record mid { bus = x; given = given })) (sym none.bus) (subst (λ g. IsPlaying q (record mid { bus = mid.bus; given = g })) (sym none.lies) so_far.part.is) in
          absurd (no_more q.world e same at)
      by (letter ∷ rest) link = enough (nat_le (missing letter.said.message e.down_moved) left) refl
        where
          next : next_of q.world (moving_down conn left) ≡ next_down q.world conn left here e.down_moved (letter ∷ rest)
          next = next_so q.world conn left e (letter ∷ rest) at so_far.stands.stands link

          enough : (t : Bool) → nat_le (missing letter.said.message e.down_moved) left ≡ t → WorkSpent p (moving_down conn most) old new
          enough true le =
              let came = comes.whole letter rest link le in
              then_spent p (moving_down conn most) (moving_down conn left) (moving_down conn (left - missing letter.said.message e.down_moved)) (gets conn) old mid new so_far.part
              (next ∙ next_if q.world conn left letter e.down_moved true le) (got_spent q conn e letter rest mid so_far.part.is at link b given new came.whole gets_ stays)
          enough false le =
              let part = comes.part letter rest link le in
              absurd (no_more (moved_down q.world conn left) (record e { down_moved = e.down_moved + left }) (moved_playing q conn left mid b given so_far.part.is part.tied part.linked)
              (with_at (λ x. record x { down_moved = x.down_moved + left }) q.world.ends conn e at))

-- what is got where connections and trace are known otherwise
pub spends_as : (conn : ℕ) (posts posts' : List Post) (given : List (List ℕ)) (ends : Ends) (old old' new : List Event) → posts ≡ posts' → old ≡ old' → GetsSpent conn posts given ends old new → GetsSpent conn posts' given ends old' new
spends_as conn posts posts' given ends old old' new ps ts g = subst (λ x. GetsSpent conn x given ends old' new) ps (subst (λ x. GetsSpent conn posts given ends x new) ts g)
