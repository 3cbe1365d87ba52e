-- The registry takes what lies on its down link, one message after the other.
use Rattle.std.proofs.Common.{◌≡◌, ℕ, zero, suc, ◌<◌, List, [], ◌∷◌, length, Some, refl, sym, ap, ◌∙◌, subst}
use Rattle.std.proofs.lemmas.Option.{same_Some}
use Rattle.atspi_message.specs.Envelope.{Envelope}
use Rattle.atspi_message.specs.Bytes.{IsMessage, written}
use Rattle.atspi_protocol.specs.registering.Steps.{Registry, takes}
use Rattle.atspi_match.specs.routing.Queues.{Bus}
use Rattle.atspi_world_links.specs.declared.post.Post.{Post}
use Rattle.atspi_trace.specs.World.{Letter, End, World}
use Rattle.atspi_trace.specs.Ends.{end_at, with_end, rest_of, taken_down}
use Rattle.atspi_world_moves.specs.Carried.{IsCarried}
use Rattle.atspi_world_moves.specs.inner.Downs.{messages_of}
use Rattle.atspi_world_moves.specs.Filled.{waits_for}
use Rattle.atspi_world_moves.specs.Linked.{IsLinked, BringsDown}
use Rattle.atspi_world_moves.proofs.Coming.{off_link, linked_taken, letter_spelled, letter_waits, always_enough}
use Rattle.atspi_world_moves.proofs.Starting.{none_below}
use Rattle.atspi_world_parties.specs.Hearing.{HearsAt}
use Rattle.atspi_world.specs.inner.Hearing.{takes_all, HearsAll}

pub at_as : (lay given lies given' : List (List ℕ)) (conn : ℕ) (r t : Registry) → lay ≡ given → lies ≡ given' → HearsAt lay lies conn r t → HearsAt given given' conn r t
at_as lay given lies given' conn r t before after hears = subst (λ x. HearsAt x given' conn r t) before (subst (λ x. HearsAt lay x conn r t) after hears)

-- WHAT IS LEFT leads to where all that lay on the link leads
pub record IsHearing (ms : List Envelope) (bus : Bus) (posts : List Post) (given : List (List ℕ)) (conn : ℕ) (r t : Registry) : Type 0 where
  pub now : World
  pub the_end : End
  pub at : end_at now.ends conn ≡ Some the_end
  pub carried : IsCarried now bus posts
  pub linked : IsLinked now given
  pub left : takes_all t (messages_of the_end.down) ≡ takes_all r ms

abbrev pub Hears : Bus → Bus → List Post → List Post → List (List ℕ) → List (List ℕ) → ℕ → Registry → Registry → Type 0
Hears before after posts posts' given given' conn r t =
    (w : World) (e : End) → IsCarried w before posts → IsLinked w given → end_at w.ends conn ≡ Some e → IsHearing (messages_of e.down) after posts' given' conn r t

pub nothing_heard : (b : Bus) (posts : List Post) (given : List (List ℕ)) (conn : ℕ) (r : Registry) → Hears b b posts posts given given conn r r
nothing_heard b posts given conn r = λ w e carried linked at. record { now = w; the_end = e; at = at; carried = carried; linked = linked; left = refl }

own_at : (f : End → End) (ends : List End) (conn : ℕ) (e : End) → end_at ends conn ≡ Some e → end_at (with_end conn f ends) conn ≡ Some (f e)
own_at f [] zero e h = absurd cc
own_at f [] (suc conn) e h = absurd cc
own_at f (x ∷ xs) zero e h = ap (λ y. Some (f y)) (same_Some x e h)
own_at f (x ∷ xs) (suc conn) e h = own_at f xs conn e h

-- one message more
one_heard : (ms : List Envelope) (b b' : Bus) (posts : List Post) (given given' given'' : List (List ℕ)) (conn count : ℕ) (r t t' : Registry) → IsHearing ms b posts given conn r t → 0 < length (waits_for b conn)
    → BringsDown b b' posts given given' conn 18446744073709551615 count → HearsAt given' given'' conn t t' → IsHearing ms b' posts given'' conn r t'
one_heard ms b b' posts given given' given'' conn count r t t' h some brings hears =
    by (letter_waits h.now b posts given conn h.the_end h.carried h.linked h.at some)
  where
    by : (letter : Letter) × ((rest : List Letter) × (h.the_end.down ≡ letter ∷ rest)) → IsHearing ms b' posts given'' conn r t'
    by (letter, (rest, link)) =
        let m = letter.said.message in
        let spelled : IsMessage m (written m) = letter_spelled h.now given conn h.the_end letter rest h.linked h.at link in
        let came = (brings h.now h.the_end h.carried h.linked h.at).whole letter rest link (always_enough m h.the_end.down_moved spelled) in
        let heard = hears m spelled came.whole.lies in
        let next = linked_taken h.now conn h.the_end letter rest b b' posts given given' h.carried h.linked h.at link came.whole in
        record {
          now = off_link h.now conn m h.the_end.down_moved;
          the_end = taken_down h.the_end;
          at = own_at taken_down h.now.ends conn h.the_end h.at;
          carried = next.0;
          linked = subst (IsLinked (off_link h.now conn m h.the_end.down_moved)) (sym heard.gone) next.1;
          left = ap (λ x. takes_all x (messages_of (taken_down h.the_end).down)) heard.took
              ∙ ap (λ l. takes_all (takes t m) (messages_of (rest_of l))) link
              ∙ sym (ap (λ l. takes_all t (messages_of l)) link) ∙ h.left;
        }

pub more_heard : (a b b' : Bus) (posts posts' : List Post) (given now given' given'' : List (List ℕ)) (conn count : ℕ) (r t t' : Registry) → Hears a b posts posts' given now conn r t → 0 < length (waits_for b conn)
    → BringsDown b b' posts' now given' conn 18446744073709551615 count → HearsAt given' given'' conn t t' → Hears a b' posts posts' given given'' conn r t'
more_heard a b b' posts posts' given now given' given'' conn count r t t' hears some brings at = λ w e carried linked there.
    one_heard (messages_of e.down) b b' posts' now given' given'' conn count r t t' (hears w e carried linked there) some brings at

-- nothing waits any more
pub all_heard : (a b : Bus) (posts : List Post) (given now : List (List ℕ)) (conn : ℕ) (r t : Registry) → Hears a b posts posts given now conn r t → waits_for b conn ≡ [] → HearsAll a b posts given now conn r t
all_heard a b posts given now conn r t hears none = λ w e carried linked there.
    let h = hears w e carried linked there in
    record {
      now = h.now;
      carried = h.carried;
      linked = h.linked;
      took = sym (ap (λ l. takes_all t (messages_of l)) (none_below h.now b posts now conn h.the_end h.carried h.linked h.at none)) ∙ h.left;
    }

-- the same, where connections stay as they are
pub heard_as : (a b : Bus) (posts posts' posts'' : List Post) (given now : List (List ℕ)) (conn : ℕ) (r t : Registry) → posts' ≡ posts'' → Hears a b posts posts' given now conn r t → Hears a b posts posts'' given now conn r t
heard_as a b posts posts' posts'' given now conn r t same hears = subst (λ p. Hears a b posts p given now conn r t) same hears
