-- What waits first: the code's next turn is the world's.
use Rattle.std.proofs.Common.{◌≡◌, ℕ, suc, ◌+◌, ◌<◌, true, false, List, [], ◌∷◌, length, map, drop, Option, Some, refl, sym, ap, ◌∙◌, subst, length-append, length-drop, arith}
use Rattle.std.specs.Prelude.{◌-◌, nat_lt, ◌||◌, slice_get, if◌then◌else◌}
use Rattle.std.specs.Option.{option_map}
use Rattle.std.proofs.lemmas.Bool.{lt-ltb}
use Rattle.atspi_tree_model.specs.Forest.{first_of}
use Rattle.atspi_message.specs.Bytes.{written}
use Rattle.atspi_match.specs.routing.Queues.{Bus, or_nothing}
use Rattle.atspi_world_links.specs.declared.post.Post.{Post}
use Rattle.atspi_world_links.specs.declared.post.Standing.TheVariants.{Here}
use Rattle.atspi_trace.specs.World.{Standing, here, stopped, away, Said, Letter, End, World}
use Rattle.atspi_trace.specs.Ends.{end_at}
use Rattle.atspi_trace.specs.Causes.{Cause}
use Rattle.atspi_trace.specs.Work.{up_turn, down_turn, first_up, first_down, next_turn}
use Rattle.atspi_world_moves.specs.Carried.{standing_at, bytes_up, post_of, IsCarried}
use Rattle.atspi_world_moves.specs.Downs.{bytes_down, IsBegun, IsWaiting}
use Rattle.atspi_world_moves.specs.Filled.{waits_for}
use Rattle.atspi_world_moves.specs.Linked.{given_of, IsLinked}
use Rattle.atspi_world_moves.specs.Waits as waits
use Rattle.atspi_world_moves.specs.Waits.{up_turn_by, waits_below, waits_at}
use Rattle.atspi_world_moves.specs.inner.Waits.{turn_next}
use Rattle.atspi_world_moves.specs.declared.waiting.Turn.{Turn}
use Rattle.atspi_world_moves.specs.declared.waiting.Turn.TheVariants.{Route, Get}
use Rattle.atspi_world_links.proofs.Changes.{get-map}
use Rattle.atspi_world_moves.proofs.Views.{written_some}

-- ON UP LINKS, and whatever waits behind them
first_by : (conn : ℕ) (said : Said) (rest : List Said) → up_turn_by conn Here (bytes_up (said ∷ rest)) ≡ Some (Route conn)
first_by conn said rest = by (bytes_up (said ∷ rest)) (let some = written_some said.message in omega (arith, some, length-append (written said.message) (bytes_up rest)))
  where
    by : (bytes : List ℕ) → 0 < length bytes → up_turn_by conn Here bytes ≡ Some (Route conn)
    by [] h = absurd (omega (arith, h))
    by (b ∷ bs) h = refl

up_agrees : (conn : ℕ) (ends : List End) (turn : Option Turn) (cause : Option Cause) → turn ≡ turn_next cause → first_of (waits.first_up conn (map post_of ends)) turn ≡ turn_next (first_of (first_up conn ends) cause)
up_agrees conn [] turn cause behind = behind
up_agrees conn (e ∷ es) turn cause behind = by e.standing e.up (up_agrees (suc conn) es turn cause behind)
  where
    by : (s : Standing) (link : List Said) → first_of (waits.first_up (suc conn) (map post_of es)) turn ≡ turn_next (first_of (first_up (suc conn) es) cause)
        → first_of (first_of (up_turn_by conn (standing_at s) (bytes_up link)) (waits.first_up (suc conn) (map post_of es))) turn ≡ turn_next (first_of (first_of (up_turn conn s link) (first_up (suc conn) es)) cause)
    by here [] rest = rest
    by here (said ∷ saids) rest = ap (λ o. first_of (first_of o (waits.first_up (suc conn) (map post_of es))) turn) (first_by conn said saids)
    by stopped link rest = refl
    by away link rest = rest

-- ON DOWN LINKS: bytes of a letter wait in the bus, and without a letter there are none, at the end neither
some_below : (b : Bus) (given : List (List ℕ)) (conn : ℕ) (e : End) (letter : Letter) (rest : List Letter) → IsWaiting b.waiting.queues conn e → e.down ≡ letter ∷ rest → waits_below b given conn ≡ true
some_below b given conn e letter rest waiting link =
    let begun : e.down_moved < length (written letter.said.message) = subst (IsBegun e.down_moved) link waiting.begun in
    let many : length (waits_for b conn) ≡ length (bytes_down e.down) - e.down_moved = ap length waiting.bytes ∙ length-drop e.down_moved (bytes_down e.down) in
    let whole : length (bytes_down e.down) ≡ length (written letter.said.message) + length (bytes_down rest) = ap (λ l. length (bytes_down l)) link ∙ length-append (written letter.said.message) (bytes_down rest) in
    ap (λ t. t || nat_lt 0 (length (or_nothing (slice_get given conn)))) (lt-ltb 0 (length (waits_for b conn)) (omega (arith, begun, many, whole)))

none_below : (b : Bus) (given : List (List ℕ)) (conn : ℕ) (e : End) → IsWaiting b.waiting.queues conn e → slice_get given conn ≡ Some (given_of e) → e.down ≡ [] → waits_below b given conn ≡ false
none_below b given conn e waiting there link =
    let unmoved : e.down_moved ≡ 0 = subst (IsBegun e.down_moved) link waiting.begun in
    let queue : waits_for b conn ≡ [] = waiting.bytes ∙ ap (λ n. drop n (bytes_down e.down)) unmoved ∙ ap bytes_down link in
    let lies : or_nothing (slice_get given conn) ≡ given_of e = ap or_nothing there in
    let empty : or_nothing (slice_get given conn) ≡ [] = lies ∙ ap (λ (n : ℕ). given_of (record e { down_moved = n })) unmoved in
    ap (λ l. nat_lt 0 (length l) || nat_lt 0 (length (or_nothing (slice_get given conn)))) queue ∙ ap (λ l. nat_lt 0 (length l)) empty

-- what holds of the ends from one on
record AreBelow (b : Bus) (given : List (List ℕ)) (conn : ℕ) (ends : List End) : Type 0 where
  pub wait : (i : ℕ) (e : End) → end_at ends i ≡ Some e → IsWaiting b.waiting.queues (conn + i) e
  pub lies : (i : ℕ) (e : End) → end_at ends i ≡ Some e → slice_get given (conn + i) ≡ Some (given_of e)

one_behind : (conn i : ℕ) → conn + suc i ≡ suc conn + i
one_behind conn i = omega arith

plus_none : (n : ℕ) → n + 0 ≡ n
plus_none n = omega arith

later_below : (b : Bus) (given : List (List ℕ)) (conn : ℕ) (e : End) (es : List End) → AreBelow b given conn (e ∷ es) → AreBelow b given (suc conn) es
later_below b given conn e es h = record {
  wait = λ i x at. subst (λ k. IsWaiting b.waiting.queues k x) (one_behind conn i) (h.wait (suc i) x at);
  lies = λ i x at. subst (λ k. slice_get given k ≡ Some (given_of x)) (one_behind conn i) (h.lies (suc i) x at);
}

down_agrees : (b : Bus) (given : List (List ℕ)) (conn : ℕ) (ends : List End) → AreBelow b given conn ends → waits.first_down b given conn (map post_of ends) ≡ turn_next (first_down conn ends)
down_agrees b given conn [] h = refl
down_agrees b given conn (e ∷ es) h = by e.standing e.down refl (down_agrees b given (suc conn) es (later_below b given conn e es h))
  where
    waiting : IsWaiting b.waiting.queues conn e
    waiting = subst (λ k. IsWaiting b.waiting.queues k e) (plus_none conn) (h.wait 0 e refl)

    there : slice_get given conn ≡ Some (given_of e)
    there = subst (λ k. slice_get given k ≡ Some (given_of e)) (plus_none conn) (h.lies 0 e refl)

    by : (s : Standing) (link : List Letter) → e.down ≡ link → waits.first_down b given (suc conn) (map post_of es) ≡ turn_next (first_down (suc conn) es)
        → (if waits_at b given conn (standing_at s) then Some (Get conn) else waits.first_down b given (suc conn) (map post_of es)) ≡ turn_next (first_of (down_turn conn s link) (first_down (suc conn) es))
    by here [] down rest = ap (λ t. if t then Some (Get conn) else waits.first_down b given (suc conn) (map post_of es)) (none_below b given conn e waiting there down) ∙ rest
    by here (letter ∷ letters) down rest = ap (λ t. if t then Some (Get conn) else waits.first_down b given (suc conn) (map post_of es)) (some_below b given conn e letter letters waiting down)
    by stopped link down rest = rest
    by away link down rest = rest

none_before : (i : ℕ) → i ≡ 0 + i
none_before i = omega arith

-- THE NEXT TURN
pub turns_agree : (w : World) (b : Bus) (posts : List Post) (given : List (List ℕ)) → IsCarried w b posts → IsLinked w given → first_of (waits.first_up 0 posts) (waits.first_down b given 0 posts) ≡ turn_next (next_turn w)
turns_agree w b posts given is linked =
    ap (λ l. first_of (waits.first_up 0 l) (waits.first_down b given 0 l)) is.posts_are
    ∙ up_agrees 0 w.ends (waits.first_down b given 0 (map post_of w.ends)) (first_down 0 w.ends) (down_agrees b given 0 w.ends below)
  where
    wait : (i : ℕ) (e : End) → end_at w.ends i ≡ Some e → IsWaiting b.waiting.queues i e
    wait i e at = subst (λ (x : Bus). IsWaiting x.waiting.queues i e) (sym is.bus_is) (linked.wait i e at)

    lies : (i : ℕ) (e : End) → end_at w.ends i ≡ Some e → slice_get given i ≡ Some (given_of e)
    lies i e at = ap (λ l. slice_get l i) linked.given_are ∙ get-map given_of w.ends i ∙ ap (option_map given_of) at

    below : AreBelow b given 0 w.ends
    below = record {
      wait = λ i e at. subst (λ k. IsWaiting b.waiting.queues k e) (none_before i) (wait i e at);
      lies = λ i e at. subst (λ k. slice_get given k ≡ Some (given_of e)) (none_before i) (lies i e at);
    }
