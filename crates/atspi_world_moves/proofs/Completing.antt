-- Bytes of an up link that are moved, and what they complete.
use Rattle.std.proofs.Common.{◌≡◌, ◌⊎◌, inl, inr, ℕ, zero, suc, ◌+◌, ◌-◌, ◌<◌, ◌≤◌, Bool, true, false, List, [], ◌∷◌, ◌++◌, length, map, set, Option, None, Some, refl, sym, ap, ◌∙◌, subst, append-nil, arith, length-append}
use Rattle.std.specs.Prelude.{slice_get, nat_le, if◌then◌else◌}
use Rattle.std.specs.Option.{option_map}
use Rattle.std.specs.List.{AllByRecursion}
use Rattle.std.proofs.lemmas.Bool.{leb-true, le-leb}
use Rattle.std.proofs.lemmas.List.{length-set}
use Rattle.std.proofs.lemmas.Option.{same_Some}
use Rattle.atspi_script_lines.specs.declared.line.Party.{Party}
use Rattle.atspi_message.specs.Bytes.{written}
use Rattle.atspi_match.specs.routing.BusState.{unique_of}
use Rattle.atspi_match.specs.routing.Steps.{bus_takes}
use Rattle.atspi_match.specs.routing.Queues.{Bus}
use Rattle.atspi_match.specs.declared.routing.closing.Closing.{Closing}
use Rattle.atspi_tree_model.specs.Forest.{first_of}
use Rattle.atspi_trace_events.specs.declared.event.Event.{Event}
use Rattle.atspi_world_links.specs.declared.post.Post.{Post}
use Rattle.atspi_trace.specs.Entry.{entries_of}
use Rattle.atspi_trace.specs.Rules.{rule_in}
use Rattle.atspi_trace.specs.World.{here, Said, End, World}
use Rattle.atspi_trace.specs.Ends.{end_at, with_end, taken_up}
use Rattle.atspi_trace.specs.Carrying.{Carried, letter_of, stepped, settled, named, with_name}
use Rattle.atspi_trace.specs.Causes.{Done, does, on_end, routed, routes, missing}
use Rattle.atspi_trace.specs.Work.{cause, rests, moving_up, moved_up, next_up, of_end, next_of}
use Rattle.atspi_trace.specs.Works.{at_rest}
use Rattle.atspi_world_links.specs.Changes.{changed_at}
use Rattle.atspi_world_moves.specs.inner.Told.{gone, all_gone, whose}
use Rattle.atspi_world_moves.specs.Carried.{standing_at, bytes_up, post_of, IsSendable, AreSendable, HasMark, IsWithin, IsCarried, IsDone}
use Rattle.atspi_world_moves.specs.Halted.{HasRegistryFirst, IsLostBy, IsSpentBy}
use Rattle.atspi_world_moves.specs.inner.Halted.{IsLostNext, IsSpentNext}
use Rattle.atspi_world_moves.specs.Segments.{IsWorked}
use Rattle.atspi_world_moves.specs.Moving.{Moves, MovesAt}
use Rattle.atspi_world_moves.specs.inner.Moving.{IsLacking, IsCompleted}
use Rattle.atspi_world_links.proofs.Changes.{map-changed, map-changed_known, map-kept, get-map}
use Rattle.atspi_world_moves.specs.Linked.{IsLinked}
use Rattle.atspi_world_moves.proofs.Downs.{wait_same}
use Rattle.atspi_world_moves.proofs.Linked.{linked_same}
use Rattle.atspi_world_moves.proofs.Staying.{here_is, away_is}
use Rattle.atspi_world_moves.proofs.Losing.{first_stays}
use Rattle.atspi_world_moves.proofs.OwnTold.{who_of}
use Rattle.atspi_world_moves.proofs.Views.{with-changed, stepped_view, gone_whose, settles, all_with, written_some}
use Rattle.atspi_world_moves.proofs.Ties.{all_at, whose_posts}

-- the end of a connection that is there
record HasEnd (w : World) (conn : ℕ) (p : Post) : Type 0 where
  pub the_end : End
  pub at : end_at w.ends conn ≡ Some the_end
  pub post : p ≡ post_of the_end

has_end : (w : World) (b : Bus) (posts : List Post) (conn : ℕ) (p : Post) → IsCarried w b posts → slice_get posts conn ≡ Some p → HasEnd w conn p
has_end w b posts conn p is there = by (end_at w.ends conn) refl (sym (get-map post_of w.ends conn) ∙ ap (λ l. slice_get l conn) (sym is.posts_are) ∙ there)
  where
    by : (o : Option End) → end_at w.ends conn ≡ o → option_map post_of o ≡ Some p → HasEnd w conn p
    by None at h = absurd cc
    by (Some e) at h = record { the_end = e; at = at; post = sym (same_Some (post_of e) p h) }

no_bytes : (saids : List Said) → bytes_up saids ≡ [] → saids ≡ []
no_bytes [] h = refl
no_bytes (s ∷ ss) h =
    let none : length (written s.message ++ bytes_up ss) ≡ 0 = ap length h in
    absurd (omega (arith, none, length-append (written s.message) (bytes_up ss), written_some s.message))

next_is : (w : World) (conn count : ℕ) (e : End) → end_at w.ends conn ≡ Some e → next_of w (moving_up conn count) ≡ next_up w conn count e.standing e.up_moved e.up
next_is w conn count e at = ap (λ o. of_end w o (λ x. next_up w conn count x.standing x.up_moved x.up)) at

-- nothing waits on the link
rests_so : (w : World) (conn count : ℕ) (e : End) → Moves (post_of e) → e.up ≡ [] → next_up w conn count e.standing e.up_moved e.up ≡ rests w
rests_so w conn count e (inl there) none = ap (λ s. next_up w conn count s e.up_moved e.up) (here_is e.standing there) ∙ ap (next_up w conn count here e.up_moved) none
rests_so w conn count e (inr left) none = ap (λ s. next_up w conn count s e.up_moved e.up) (away_is e.standing left.0)

pub none_moved : (w : World) (conn count : ℕ) (b : Bus) (posts : List Post) (p : Post) (given : List (List ℕ)) (t : List Event) → IsCarried w b posts → slice_get posts conn ≡ Some p → Moves p → p.up ≡ []
    → IsWorked w (moving_up conn count) b posts given given t t
none_moved w conn count b posts p given t is there moves none =
    let h = has_end w b posts conn p is there in
    let empty : h.the_end.up ≡ [] = no_bytes h.the_end.up (sym (ap (λ (q : Post). q.up) h.post) ∙ none) in
    record {
      after = w;
      entries = [];
      works = at_rest w w (moving_up conn count) (next_is w conn count h.the_end h.at ∙ rests_so w conn count h.the_end (subst Moves h.post moves) empty);
      tied = is;
      linked = λ l. l;
      wrote = sym (append-nil (entries_of t));
    }

-- its first message
pub record HasFirst (w : World) (conn : ℕ) (p : Post) : Type 0 where
  pub the_end : End
  pub at : end_at w.ends conn ≡ Some the_end
  pub post : p ≡ post_of the_end
  pub first : Said
  pub rest : List Said
  pub up : the_end.up ≡ first ∷ rest
  pub sends : IsSendable first.message
  pub within : the_end.up_moved < length (written first.message)

pub has_first : (w : World) (b : Bus) (posts : List Post) (conn : ℕ) (p : Post) → IsCarried w b posts → slice_get posts conn ≡ Some p → (p.up ≡ []) ⊎ HasFirst w conn p
has_first w b posts conn p is there =
    by h.the_end.up refl (all_at AreSendable w.ends conn h.the_end is.sendable h.at) (all_at HasMark w.ends conn h.the_end is.marked h.at)
  where
    h : HasEnd w conn p
    h = has_end w b posts conn p is there

    by : (saids : List Said) → h.the_end.up ≡ saids → AreSendable h.the_end → HasMark h.the_end → (p.up ≡ []) ⊎ HasFirst w conn p
    by [] u sends mark = inl (ap (λ (q : Post). q.up) h.post ∙ ap bytes_up u)
    by (s ∷ ss) u sends mark =
        let one : AllByRecursion (λ (said : Said). IsSendable said.message) (s ∷ ss) = subst (AllByRecursion (λ (said : Said). IsSendable said.message)) u sends in
        inr (record { the_end = h.the_end; at = h.at; post = h.post; first = s; rest = ss; up = u; sends = one.0; within = subst (IsWithin h.the_end.up_moved) u mark })

-- what a search for its first message says
first_lacks : (w : World) (conn : ℕ) (p : Post) (len : Option ℕ) → IsLacking p len → (f : HasFirst w conn p) → len ≡ Some (missing f.first.message f.the_end.up_moved)
first_lacks w conn p len lacks f =
    lacks.some f.first.message (bytes_up f.rest) f.sends.is (ap (λ (q : Post). q.up) f.post ∙ ap bytes_up f.up) ∙ ap (λ (q : Post). Some (length (written f.first.message) - q.begun)) f.post

pub lacks_none : (w : World) (b : Bus) (posts : List Post) (conn : ℕ) (p : Post) → IsCarried w b posts → slice_get posts conn ≡ Some p → IsLacking p None → p.up ≡ []
lacks_none w b posts conn p is there lacks = by (has_first w b posts conn p is there)
  where
    by : (p.up ≡ []) ⊎ HasFirst w conn p → p.up ≡ []
    by (inl none) = none
    by (inr f) = let clash : None ≡ Some (missing f.first.message f.the_end.up_moved) = first_lacks w conn p None lacks f in absurd cc

-- one that is not empty has an end that is there
stands_here : (e : End) (s : Said) (ss : List Said) → Moves (post_of e) → e.up ≡ s ∷ ss → e.standing ≡ here
stands_here e s ss (inl there) up = here_is e.standing there
stands_here e s ss (inr left) up = let none : s ∷ ss ≡ [] = sym up ∙ no_bytes e.up left.1 in absurd cc

next_first : (w : World) (conn count : ℕ) (p : Post) (f : HasFirst w conn p) → Moves p → next_of w (moving_up conn count) ≡ next_up w conn count here f.the_end.up_moved (f.first ∷ f.rest)
next_first w conn count p f moves =
    next_is w conn count f.the_end f.at ∙ ap (λ s. next_up w conn count s f.the_end.up_moved f.the_end.up) (stands_here f.the_end f.first f.rest (subst Moves f.post moves) f.up)
    ∙ ap (next_up w conn count here f.the_end.up_moved) f.up

-- a fact of each end, where the one at a connection changes
all_one : (P : End → Type 0) (f : End → End) (ends : List End) (conn : ℕ) (e : End) → end_at ends conn ≡ Some e → P (f e) → AllByRecursion P ends → AllByRecursion P (with_end conn f ends)
all_one P f [] zero e at h a = tt
all_one P f [] (suc conn) e at h a = tt
all_one P f (x ∷ xs) zero e at h a = (subst (λ y. P (f y)) (sym (same_Some x e at)) h, a.1)
all_one P f (x ∷ xs) (suc conn) e at h a = (a.0, all_one P f xs conn e at h a.1)

too_few : (n k : ℕ) → k < n → nat_le n k ≡ false
too_few n k h = by (nat_le n k) refl
  where
    by : (t : Bool) → nat_le n k ≡ t → t ≡ false
    by true e = absurd (omega (arith, h, leb-true n k e))
    by false e = refl

-- the bytes do not complete it
abbrev moves_by : ℕ → End → End
moves_by count e = record e { up_moved = e.up_moved + count }

moved_tie : (w : World) (conn count : ℕ) (b : Bus) (posts : List Post) (p : Post) (f : HasFirst w conn p) (begun : ℕ) → IsCarried w b posts → begun ≡ p.begun + count
    → f.the_end.up_moved + count < length (written f.first.message) → IsCarried (moved_up w conn count) b (set posts conn (record p { begun = begun }))
moved_tie w conn count b posts p f begun is so within =
    let q_is : record p { begun = begun } ≡ post_of (moves_by count f.the_end) = ap (λ n. record p { begun = n }) so ∙ ap (λ (q : Post). record q { begun = q.begun + count }) f.post in
    record {
      bus_is = is.bus_is;
      own_told = is.own_told;
      closings_told = is.closings_told;
      posts_are = ap (λ l. set l conn (record p { begun = begun })) is.posts_are ∙ ap (set (map post_of w.ends) conn) q_is
          ∙ sym (map-changed_known post_of (moves_by count) w.ends conn f.the_end f.at) ∙ ap (map post_of) (sym (with-changed (moves_by count) w.ends conn));
      few = subst (λ n. n ≤ 4294967296) (sym (length-set posts conn (record p { begun = begun }))) is.few;
      sendable = all_with AreSendable (moves_by count) (λ e h. h) conn w.ends is.sendable;
      marked = all_one HasMark (moves_by count) w.ends conn f.the_end f.at (subst (IsWithin (f.the_end.up_moved + count)) (sym f.up) within) is.marked;
      waits = wait_same (moves_by count) (λ e. refl) (λ e. refl) w.bus.waiting.queues w.ends conn is.waits;
    }

pub first_moved : (w : World) (conn count : ℕ) (b : Bus) (posts : List Post) (p : Post) (f : HasFirst w conn p) (begun : ℕ) (given : List (List ℕ)) (t : List Event) → IsCarried w b posts → Moves p → begun ≡ p.begun + count
    → count < missing f.first.message f.the_end.up_moved → IsWorked w (moving_up conn count) b (set posts conn (record p { begun = begun })) given given t t
first_moved w conn count b posts p f begun given t is moves so few =
    let next : next_of w (moving_up conn count) ≡ rests (moved_up w conn count) =
    next_first w conn count p f moves
    ∙ ap (λ t. if t then cause (routes conn) w (moving_up conn (count - missing f.first.message f.the_end.up_moved)) else rests (moved_up w conn count))
    (too_few (missing f.first.message f.the_end.up_moved) count few) in
    record {
      after = moved_up w conn count;
      entries = [];
      works = at_rest w (moved_up w conn count) (moving_up conn count) next;
      tied = moved_tie w conn count b posts p f begun is so (omega (arith, few));
      linked = λ l. linked_same w conn (moves_by count) given (λ e. (refl, refl, refl, refl, refl)) l;
      wrote = sym (append-nil (entries_of t));
    }

pub some_moved : (w : World) (conn count n : ℕ) (b : Bus) (posts : List Post) (p : Post) (begun : ℕ) (given : List (List ℕ)) (t : List Event) → IsCarried w b posts → slice_get posts conn ≡ Some p → Moves p
    → IsLacking p (Some n) → count < n → begun ≡ p.begun + count → IsWorked w (moving_up conn count) b (set posts conn (record p { begun = begun })) given given t t
some_moved w conn count n b posts p begun given t is there moves lacks few so = by (has_first w b posts conn p is there)
  where
    by : (p.up ≡ []) ⊎ HasFirst w conn p → IsWorked w (moving_up conn count) b (set posts conn (record p { begun = begun })) given given t t
    by (inl none) = let clash : Some n ≡ None = lacks.none none in absurd cc
    by (inr f) =
        let same : n ≡ missing f.first.message f.the_end.up_moved = same_Some n (missing f.first.message f.the_end.up_moved) (first_lacks w conn p (Some n) lacks f) in
        first_moved w conn count b posts p f begun given t is moves so (subst (λ k. count < k) same few)

-- the connection of an end that the bus took a message of is there, or its end left
pub own_at : (f : End → End) (ends : List End) (conn : ℕ) (e : End) → end_at ends conn ≡ Some e → end_at (with_end conn f ends) conn ≡ Some (f e)
own_at f [] zero e h = absurd cc
own_at f [] (suc conn) e h = absurd cc
own_at f (x ∷ xs) zero e h = ap (λ y. Some (f y)) (same_Some x e h)
own_at f (x ∷ xs) (suc conn) e h = own_at f xs conn e h

get_changed : (f : Post → Post) (posts : List Post) (i conn : ℕ) (p : Post) → slice_get posts conn ≡ Some p
    → (slice_get (changed_at i f posts) conn ≡ Some p) ⊎ (slice_get (changed_at i f posts) conn ≡ Some (f p))
get_changed f [] i zero p h = absurd cc
get_changed f [] i (suc conn) p h = absurd cc
get_changed f (x ∷ xs) zero zero p h = inr (ap (λ y. Some (f y)) (same_Some x p h))
get_changed f (x ∷ xs) zero (suc conn) p h = inl h
get_changed f (x ∷ xs) (suc i) zero p h = inl h
get_changed f (x ∷ xs) (suc i) (suc conn) p h = get_changed f xs i conn p h

moves_changed : (f : Post → Post) → ((p : Post) → Moves p → Moves (f p)) → (posts : List Post) (i conn : ℕ) → MovesAt posts conn → MovesAt (changed_at i f posts) conn
moves_changed f keeps posts i conn m = by (get_changed f posts i conn m.post m.there)
  where
    by : (slice_get (changed_at i f posts) conn ≡ Some m.post) ⊎ (slice_get (changed_at i f posts) conn ≡ Some (f m.post)) → MovesAt (changed_at i f posts) conn
    by (inl there) = record { post = m.post; there = there; moves = m.moves }
    by (inr there) = record { post = f m.post; there = there; moves = keeps m.post m.moves }

moves_gone : (cs : List Closing) (posts : List Post) (conn : ℕ) → MovesAt posts conn → MovesAt (all_gone cs posts) conn
moves_gone [] posts conn m = m
moves_gone (c ∷ cs) posts conn m = moves_gone cs (changed_at c.conn gone posts) conn (moves_changed gone (λ p h. inr (refl, refl)) posts c.conn conn m)

-- a connection with the name that the bus has for it
abbrev named_post : Bus → ℕ → Post → Post
named_post b conn p = record p { name = first_of p.name (unique_of b.state.owners conn) }

routed_moves : (w : World) (conn : ℕ) (e : End) (said : Said) (rest : List Said) (b : Bus) (posts : List Post) (old new : List Event) → end_at w.ends conn ≡ Some e → e.up ≡ said ∷ rest → e.standing ≡ here
    → IsDone (does w (routes conn)) b posts old new → MovesAt posts conn
routed_moves w conn e said rest b posts old new at up stands done =
    let off : Carried = record { bus = w.bus; ends = with_end conn taken_up w.ends } in
    let step = bus_takes w.bus.state conn said.message (rule_in said.message) in
    let handed : Carried = stepped (letter_of e.who said) off step in
    let called : Carried = with_name conn handed in
    let s = settles (length w.bus.state.joined) called in
    let does_is = ap (λ o. on_end w o (λ x. routed w conn x.who x.up)) at ∙ ap (routed w conn e.who) up in
    let view : posts ≡ all_gone s.closed (map post_of called.ends) = done.tied.posts_are ∙ ap (λ (d : Done). map post_of d.world.ends) does_is ∙ s.view in
    let names : map post_of called.ends ≡ changed_at conn (named_post handed.bus conn) (map post_of off.ends) =
    ap (map post_of) (with-changed (named handed.bus conn) handed.ends conn) ∙ map-changed post_of (named handed.bus conn) (named_post handed.bus conn) (λ x. refl) handed.ends conn
    ∙ ap (changed_at conn (named_post handed.bus conn)) (stepped_view (letter_of e.who said) off step) in
    let first : MovesAt (map post_of off.ends) conn =
    record { post = post_of (taken_up e); there = get-map post_of off.ends conn ∙ ap (option_map post_of) (own_at taken_up w.ends conn e at); moves = inl (ap standing_at stands) } in
    subst (λ l. MovesAt l conn) (sym view)
    (moves_gone s.closed (map post_of called.ends) conn
    (subst (λ l. MovesAt l conn) (sym names) (moves_changed (named_post handed.bus conn) (λ p h. h) (map post_of off.ends) conn conn first)))

-- what is known of a route: the bus took the first message, and what lies at the ends is as in the world behind it
abbrev pub RoutesSo : Bus → Bus → List Post → List Post → ℕ → List Event → List Event → Type 0
RoutesSo b b' posts posts' conn old new =
    (v : World) (e : End) (said : Said) (rest : List Said) → IsCarried v b posts → end_at v.ends conn ≡ Some e → e.up ≡ said ∷ rest → IsDone (does v (routes conn)) b' posts' old new

abbrev pub LinksSo : Bus → List Post → List (List ℕ) → List (List ℕ) → ℕ → Type 0
LinksSo b posts given given' conn =
    (v : World) (e : End) (said : Said) (rest : List Said) → IsCarried v b posts → IsLinked v given → end_at v.ends conn ≡ Some e → e.standing ≡ here → e.up ≡ said ∷ rest → IsLinked (does v (routes conn)).world given'

-- the bytes complete it
pub record Completes (w : World) (conn count left : ℕ) : Type 0 where
  pub the_end : End
  pub first : Said
  pub rest : List Said
  pub at : end_at w.ends conn ≡ Some the_end
  pub up : the_end.up ≡ first ∷ rest
  pub stands : the_end.standing ≡ here
  pub next : next_of w (moving_up conn count) ≡ cause (routes conn) w (moving_up conn left)
  pub fewer : left < count

pub completes : (w : World) (conn count n : ℕ) (b : Bus) (posts : List Post) (p : Post) → IsCarried w b posts → slice_get posts conn ≡ Some p → Moves p → IsLacking p (Some n) → n ≤ count
    → Completes w conn count (count - n)
completes w conn count n b posts p is there moves lacks enough = by (has_first w b posts conn p is there)
  where
    by : (p.up ≡ []) ⊎ HasFirst w conn p → Completes w conn count (count - n)
    by (inl none) = let clash : Some n ≡ None = lacks.none none in absurd cc
    by (inr f) =
        let same : n ≡ missing f.first.message f.the_end.up_moved = same_Some n (missing f.first.message f.the_end.up_moved) (first_lacks w conn p (Some n) lacks f) in
        record {
          the_end = f.the_end;
          first = f.first;
          rest = f.rest;
          at = f.at;
          up = f.up;
          stands = stands_here f.the_end f.first f.rest (subst Moves f.post moves) f.up;
          next = next_first w conn count p f moves
              ∙ ap (λ t. if t then cause (routes conn) w (moving_up conn (count - missing f.first.message f.the_end.up_moved)) else rests (moved_up w conn count))
              (le-leb (missing f.first.message f.the_end.up_moved) count (subst (λ k. k ≤ count) same enough))
              ∙ ap (λ k. cause (routes conn) w (moving_up conn (count - k))) (sym same);
          fewer = (let some = f.within in omega (arith, same, some, enough));
        }

-- and the bus takes it
pub all_moved : (w : World) (conn count n : ℕ) (b b' : Bus) (posts posts' : List Post) (p : Post) (given given' : List (List ℕ)) (old new : List Event) → IsCarried w b posts → slice_get posts conn ≡ Some p → Moves p
    → IsLacking p (Some n) → n ≤ count → RoutesSo b b' posts posts' conn old new → LinksSo b posts given given' conn → IsCompleted w conn count (count - n) b' posts' given given' old new
all_moved w conn count n b b' posts posts' p given given' old new is there moves lacks enough routes_ links =
    let f = completes w conn count n b posts p is there moves lacks enough in
    let done = routes_ w f.the_end f.first f.rest is f.at f.up in
    record {
      next = f.next;
      done = done;
      linked = λ l. links w f.the_end f.first f.rest is l f.at f.stands f.up;
      moves = routed_moves w conn f.the_end f.first f.rest b' posts' old new f.at f.up f.stands done;
      fewer = f.fewer;
    }

-- or is lost with that, or spends its serials
abbrev pub LosesSo : Bus → List Post → List Post → ℕ → List Event → List Event → Type 0
LosesSo b posts posts' conn old new = (v : World) (e : End) (said : Said) (rest : List Said) → IsCarried v b posts → HasRegistryFirst v.ends → end_at v.ends conn ≡ Some e → e.up ≡ said ∷ rest → IsLostBy (does v (routes conn)) posts' old new

abbrev pub SpendsSo : Bus → List Post → List Post → ℕ → List Event → List Event → Type 0
SpendsSo b posts posts' conn old new = (v : World) (e : End) (said : Said) (rest : List Said) → IsCarried v b posts → end_at v.ends conn ≡ Some e → e.up ≡ said ∷ rest → IsSpentBy v (does v (routes conn)) posts' old new

pub all_lost : (w : World) (conn count n : ℕ) (b : Bus) (posts posts' : List Post) (p : Post) (old new : List Event) → IsCarried w b posts → HasRegistryFirst w.ends → slice_get posts conn ≡ Some p → Moves p → IsLacking p (Some n) → n ≤ count
    → LosesSo b posts posts' conn old new → IsLostNext w (moving_up conn count) posts' old new
all_lost w conn count n b posts posts' p old new is first there moves lacks enough loses =
    let f = completes w conn count n b posts p is there moves lacks enough in
    record {
      has = record { moved = w; rest = moving_up conn (count - n); next = routes conn; is_next = f.next };
      lost = loses w f.the_end f.first f.rest is first f.at f.up;
    }

pub all_spent : (w : World) (conn count n : ℕ) (b : Bus) (posts posts' : List Post) (p : Post) (old new : List Event) → IsCarried w b posts → slice_get posts conn ≡ Some p → Moves p → IsLacking p (Some n) → n ≤ count
    → SpendsSo b posts posts' conn old new → IsSpentNext w (moving_up conn count) posts' old new
all_spent w conn count n b posts posts' p old new is there moves lacks enough spends =
    let f = completes w conn count n b posts p is there moves lacks enough in
    record {
      has = record { moved = w; rest = moving_up conn (count - n); next = routes conn; is_next = f.next };
      spent = spends w f.the_end f.first f.rest is f.at f.up;
    }

-- whose each end is stays so, whatever the bus takes of one
who_routed : (w : World) (conn : ℕ) (who : Party) (saids : List Said) → map who_of (routed w conn who saids).world.ends ≡ map who_of w.ends
who_routed w conn who [] = refl
who_routed w conn who (said ∷ rest) =
    let off : Carried = record { bus = w.bus; ends = with_end conn taken_up w.ends } in
    let step = bus_takes w.bus.state conn said.message (rule_in said.message) in
    let handed : Carried = stepped (letter_of who said) off step in
    let called : Carried = with_name conn handed in
    let c : Carried = settled (length w.bus.state.joined) called in
    let s = settles (length w.bus.state.joined) called in
    sym (whose_posts c.ends) ∙ ap (map whose) s.view ∙ gone_whose s.closed (map post_of called.ends) ∙ whose_posts called.ends
    ∙ ap (map who_of) (with-changed (named handed.bus conn) handed.ends conn) ∙ map-kept who_of (named handed.bus conn) (λ e. refl) handed.ends conn
    ∙ sym (whose_posts handed.ends) ∙ ap (map whose) (stepped_view (letter_of who said) off step) ∙ whose_posts off.ends
    ∙ ap (map who_of) (with-changed taken_up w.ends conn) ∙ map-kept who_of taken_up (λ e. refl) w.ends conn

pub routes_first : (w : World) (conn : ℕ) → HasRegistryFirst w.ends → HasRegistryFirst (does w (routes conn)).world.ends
routes_first w conn h = first_stays w.ends (does w (routes conn)).world.ends (by (end_at w.ends conn)) h
  where
    by : (o : Option End) → map who_of (on_end w o (λ e. routed w conn e.who e.up)).world.ends ≡ map who_of w.ends
    by None = refl
    by (Some e) = who_routed w conn e.who e.up
