-- Bytes of an up link that are moved, round by round: what was done so far, and the last.
use Rattle.std.proofs.Common.{◌≡◌, ◌⊎◌, inl, inr, ℕ, ◌+◌, ◌-◌, ◌<◌, ◌≤◌, List, [], ◌++◌, length, set, get_or, min, Option, None, Some, refl, sym, ap, ◌∙◌, subst, append_assoc, append-nil, add-zero, arith}
use Rattle.std.proofs.lemmas.Option.{slice_get_within, get_or_from_slice_get}
use Rattle.atspi_match.specs.routing.Queues.{Bus}
use Rattle.atspi_trace_events.specs.declared.event.Event.{Event}
use Rattle.atspi_world_links.specs.declared.post.Post.{Post}
use Rattle.atspi_trace.specs.Entry.{Entry, entries_of}
use Rattle.atspi_trace.specs.World.{World}
use Rattle.atspi_trace.specs.Causes.{Done, does, routes, missing}
use Rattle.atspi_trace.specs.Work.{Work, moving_up}
use Rattle.atspi_trace.specs.Works.{Works, caused}
use Rattle.atspi_world_moves.specs.Carried.{IsCarried}
use Rattle.atspi_world_moves.specs.Halted as halted
use Rattle.atspi_world_moves.specs.Halted.{HasRegistryFirst, WorksOn, so_far, IsAtWork, IsLostOn, IsSpentOn}
use Rattle.atspi_world_moves.specs.inner.Halted.{HasNext, IsLostNext, IsSpentNext}
use Rattle.atspi_world_moves.specs.Segments.{IsWorked}
use Rattle.atspi_world_moves.specs.Moving.{MovesAt}
use Rattle.atspi_world_moves.specs.inner.Moving.{IsLacking, IsCompleted, MovedSome, MovesSome}
use Rattle.atspi_world_links.proofs.Changes.{set_same}
use Rattle.atspi_world_moves.specs.Linked.{IsLinked}
use Rattle.atspi_world_moves.proofs.Completing.{RoutesSo, LinksSo, LosesSo, SpendsSo, HasFirst, has_first, none_moved, first_moved, some_moved, lacks_none, all_moved, all_lost, all_spent, routes_first}
use Rattle.atspi_world_moves.proofs.Staying.{lives_so}

-- WHAT WAS DONE SO FAR, and so many bytes are left to move
pub record Continues (w : World) (conn most left : ℕ) (bus : Bus) (posts : List Post) (given given' : List (List ℕ)) (old new : List Event) : Type 0 where
  pub now : World
  pub entries : List Entry
  pub tied : IsCarried now bus posts
  pub linked : IsLinked w given → IsLinked now given'
  pub moves : MovesAt posts conn
  pub wrote : entries_of new ≡ entries_of old ++ entries
  pub completes : (es : List Entry) (u : World) → Works now (moving_up conn left) es u → Works w (moving_up conn most) (entries ++ es) u
  pub goes_on : (es : List Entry) (u : World) (last : Work) → WorksOn now (moving_up conn left) es u last → WorksOn w (moving_up conn most) (entries ++ es) u last
  pub first : HasRegistryFirst w.ends → HasRegistryFirst now.ends

pub not_yet : (w : World) (conn most : ℕ) (b : Bus) (posts : List Post) (given : List (List ℕ)) (t : List Event) → IsCarried w b posts → MovesAt posts conn → Continues w conn most most b posts given given t t
not_yet w conn most b posts given t is moves =
    record { now = w; entries = []; tied = is; linked = λ l. l; moves = moves; wrote = sym (append-nil (entries_of t)); completes = λ es u h. h; goes_on = λ es u last h. h; first = λ h. h }

one_more : (w : World) (conn most left rest : ℕ) (b b' : Bus) (posts posts' : List Post) (given given1 given2 : List (List ℕ)) (old mid new : List Event) → (so : Continues w conn most left b posts given given1 old mid)
    → IsCompleted so.now conn left rest b' posts' given1 given2 mid new → Continues w conn most rest b' posts' given given2 old new
one_more w conn most left rest b b' posts posts' given given1 given2 old mid new so c =
    let d : Done = does so.now (routes conn) in
    record {
      now = d.world;
      entries = so.entries ++ d.entries;
      tied = c.done.tied;
      linked = λ l. c.linked (so.linked l);
      moves = c.moves;
      wrote = c.done.wrote ∙ ap (λ l. l ++ d.entries) so.wrote ∙ append_assoc (entries_of old) so.entries d.entries;
      completes = λ es u h. subst (λ l. Works w (moving_up conn most) l u) (sym (append_assoc so.entries d.entries es))
          (so.completes (d.entries ++ es) u (caused so.now so.now u (moving_up conn left) (moving_up conn rest) (routes conn) es c.next h));
      goes_on = λ es u last h. subst (λ l. WorksOn w (moving_up conn most) l u last) (sym (append_assoc so.entries d.entries es))
          (so.goes_on (d.entries ++ es) u last (halted.caused so.now so.now u (moving_up conn left) (moving_up conn rest) last (routes conn) es c.next h));
      first = λ h. routes_first so.now conn (so.first h);
    }

no_more : (w : World) (conn most left : ℕ) (b b' : Bus) (posts posts' : List Post) (given given1 given2 : List (List ℕ)) (old mid new : List Event) → (so : Continues w conn most left b posts given given1 old mid)
    → IsWorked so.now (moving_up conn left) b' posts' given1 given2 mid new → IsWorked w (moving_up conn most) b' posts' given given2 old new
no_more w conn most left b b' posts posts' given given1 given2 old mid new so k = record {
  after = k.after;
  entries = so.entries ++ k.entries;
  works = so.completes k.entries k.after k.works;
  tied = k.tied;
  linked = λ l. k.linked (so.linked l);
  wrote = k.wrote ∙ ap (λ l. l ++ k.entries) so.wrote ∙ append_assoc (entries_of old) so.entries k.entries;
}

-- where no byte is left to move
none_left : (w : World) (conn : ℕ) (b : Bus) (posts : List Post) (given : List (List ℕ)) (t : List Event) → IsCarried w b posts → MovesAt posts conn → IsWorked w (moving_up conn 0) b posts given given t t
none_left w conn b posts given t is m = by (has_first w b posts conn m.post is m.there)
  where
    by : (m.post.up ≡ []) ⊎ HasFirst w conn m.post → IsWorked w (moving_up conn 0) b posts given given t t
    by (inl none) = none_moved w conn 0 b posts m.post given t is m.there m.moves none
    by (inr f) =
        let some : 0 < missing f.first.message f.the_end.up_moved = (let within = f.within in omega (arith, within)) in
        subst (λ l. IsWorked w (moving_up conn 0) b l given given t t) (set_same posts conn m.post m.there) (first_moved w conn 0 b posts m.post f m.post.begun given t is m.moves (sym (add-zero m.post.begun)) some)

pub at_end : (w : World) (conn most left : ℕ) (b : Bus) (posts : List Post) (given given' : List (List ℕ)) (old new : List Event) → Continues w conn most left b posts given given' old new → left ≡ 0
    → IsWorked w (moving_up conn most) b posts given given' old new
at_end w conn most left b posts given given' old new so none =
    no_more w conn most left b b posts posts given given' given' old new new so (subst (λ k. IsWorked so.now (moving_up conn k) b posts given' given' new new) (sym none) (none_left so.now conn b posts given' new so.tied so.moves))

-- ONE ROUND, by what is found at the connection
pub lack_none : (p : Post) (o : Option ℕ) → ((n : ℕ) → o ≡ Some n → ⊥) → IsLacking p o → IsLacking p None
lack_none p None none h = h
lack_none p (Some n) none h = absurd (none n refl)

pub no_post : (conn most : ℕ) (b : Bus) (posts : List Post) (given : List (List ℕ)) (t : List Event) → length posts ≤ conn → MovesSome b b posts posts given given conn most None t t
no_post conn most b posts given t past = λ w is m. let within = slice_get_within posts conn m.post m.there in absurd (omega (arith, within, past))

same_post : (posts : List Post) (conn : ℕ) (p : Post) (m : MovesAt posts conn) → p ≡ get_or posts conn p → p ≡ m.post
same_post posts conn p m there = there ∙ get_or_from_slice_get posts conn m.post p m.there

pub nothing_lacks : (conn most : ℕ) (b : Bus) (posts : List Post) (p : Post) (given : List (List ℕ)) (t : List Event) → p ≡ get_or posts conn p → IsLacking p None → MovesSome b b posts posts given given conn most None t t
nothing_lacks conn most b posts p given t there lacks = λ w is m.
    let lacks_there = subst (λ q. IsLacking q None) (same_post posts conn p m there) lacks in
    none_moved w conn most b posts m.post given t is m.there m.moves (lacks_none w b posts conn m.post is m.there lacks_there)

-- the sum of what was moved before and is now does not pass the largest number
pub few_moved : (conn most n : ℕ) (b : Bus) (posts : List Post) (p q r : Post) (begun : ℕ) (given : List (List ℕ)) (t : List Event) → p ≡ get_or posts conn p → q ≡ get_or posts conn q → IsLacking p (Some n)
    → n + p.begun ≤ 18446744073709551615 → most < n → begun ≡ min (q.begun + most) 18446744073709551615 → r ≡ record q { begun = begun } → MovesSome b b posts (set posts conn r) given given conn most None t t
few_moved conn most n b posts p q r begun given t there there' lacks room few so put = λ w is m.
    let p_is = same_post posts conn p m there in
    let q_is = same_post posts conn q m there' in
    let same : p.begun ≡ q.begun = ap (λ (x : Post). x.begun) (p_is ∙ sym q_is) in
    let sum : begun ≡ q.begun + most = (omega (arith, so, same, room, few)) in
    subst (λ x. IsWorked w (moving_up conn most) b (set posts conn x) given given t t) (sym (put ∙ ap (λ (x : Post). record x { begun = begun }) q_is))
    (some_moved w conn most n b posts m.post begun given t is m.there m.moves (subst (λ x. IsLacking x (Some n)) p_is lacks) few (sum ∙ ap (λ (x : Post). x.begun + most) q_is))

pub one_completed : (conn most n : ℕ) (b b' : Bus) (posts posts' : List Post) (p : Post) (given given' : List (List ℕ)) (old new : List Event) → p ≡ get_or posts conn p → IsLacking p (Some n) → n ≤ most
    → RoutesSo b b' posts posts' conn old new → LinksSo b posts given given' conn → MovesSome b b' posts posts' given given' conn most (Some (most - n)) old new
one_completed conn most n b b' posts posts' p given given' old new there lacks enough routes_ links = λ w is m.
    all_moved w conn most n b b' posts posts' m.post given given' old new is m.there m.moves (subst (λ q. IsLacking q (Some n)) (same_post posts conn p m there) lacks) enough routes_ links

-- one more round, or the last
pub round_more : (w : World) (conn most left made rest : ℕ) (o : Option ℕ) (b b' : Bus) (posts posts' : List Post) (given given1 given2 : List (List ℕ)) (old mid new : List Event)
    → Continues w conn most left b posts given given1 old mid × (left + made ≤ most) → o ≡ Some rest → MovesSome b b' posts posts' given1 given2 conn left o mid new
    → Continues w conn most rest b' posts' given given2 old new × (rest + (made + 1) ≤ most)
round_more w conn most left made rest o b b' posts posts' given given1 given2 old mid new so is moves_ =
    let t = so.0 in
    let done : IsCompleted t.now conn left rest b' posts' given1 given2 mid new = subst (λ x. MovedSome t.now conn left x b' posts' given1 given2 mid new) is (moves_ t.now t.tied t.moves) in
    (one_more w conn most left rest b b' posts posts' given given1 given2 old mid new t done, (let fewer = done.fewer in let within = so.1 in omega (arith, fewer, within)))

pub round_last : (w : World) (conn most left made : ℕ) (o : Option ℕ) (b b' : Bus) (posts posts' : List Post) (given given1 given2 : List (List ℕ)) (old mid new : List Event)
    → Continues w conn most left b posts given given1 old mid × (left + made ≤ most) → o ≡ None → MovesSome b b' posts posts' given1 given2 conn left o mid new → IsWorked w (moving_up conn most) b' posts' given given2 old new
round_last w conn most left made o b b' posts posts' given given1 given2 old mid new so is moves_ =
    let t = so.0 in
    no_more w conn most left b b' posts posts' given given1 given2 old mid new t (subst (λ x. MovedSome t.now conn left x b' posts' given1 given2 mid new) is (moves_ t.now t.tied t.moves))

-- THE NEXT CAUSE, behind what was done so far, is lost with the registry, or spends the serials of the bus
module _ (w : World) (conn most left made : ℕ) (b : Bus) (posts posts' : List Post) (given given' : List (List ℕ)) (old mid new : List Event) (so : Continues w conn most left b posts given given' old mid × (left + made ≤ most))
    (linked : IsLinked w given) where
  abbrev t : Continues w conn most left b posts given given' old mid
  t = so.0

  abbrev at_work : HasNext t.now (moving_up conn left) → IsAtWork w (moving_up conn most)
  at_work has = record {
    entries = t.entries ++ [];
    now = t.now;
    last = moving_up conn left;
    done = t.goes_on [] t.now (moving_up conn left) (so_far t.now (moving_up conn left));
    lives = lives_so t.now given' (t.linked linked);
    moved = has.moved;
    rest = has.rest;
    next = has.next;
    is_next = has.is_next;
  }

  behind : (es : List Entry) → entries_of new ≡ entries_of mid ++ es → entries_of new ≡ entries_of old ++ ((t.entries ++ []) ++ es)
  behind es wrote = wrote ∙ ap (λ l. l ++ es) t.wrote ∙ append_assoc (entries_of old) t.entries es ∙ ap (λ l. entries_of old ++ (l ++ es)) (sym (append-nil t.entries))

  pub round_lost : HasRegistryFirst w.ends → ((v : World) → IsCarried v b posts → HasRegistryFirst v.ends → MovesAt posts conn → IsLostNext v (moving_up conn left) posts' mid new) → IsLostOn w (moving_up conn most) posts' old new
  round_lost first loses =
      let n = loses t.now t.tied (t.first first) t.moves in
      record { at = at_work n.has; lost = n.lost.lost; wrote = behind (does n.has.moved n.has.next).entries n.lost.wrote; names = n.lost.names }

  pub round_spent : ((v : World) → IsCarried v b posts → MovesAt posts conn → IsSpentNext v (moving_up conn left) posts' mid new) → IsSpentOn w (moving_up conn most) posts' old new
  round_spent spends =
      let n = spends t.now t.tied t.moves in
      let p = n.spent.1 in
      record { at = at_work n.has; spent = n.spent.0; part = p.part; missing = p.missing; front = p.front; wrote = behind p.part p.wrote; names = n.spent.2 }

-- of what was found at the connection
pub first_lost : (conn most n : ℕ) (b : Bus) (posts posts' : List Post) (p : Post) (old new : List Event) → p ≡ get_or posts conn p → IsLacking p (Some n) → n ≤ most → LosesSo b posts posts' conn old new
    → (w : World) → IsCarried w b posts → HasRegistryFirst w.ends → MovesAt posts conn → IsLostNext w (moving_up conn most) posts' old new
first_lost conn most n b posts posts' p old new there lacks enough loses w is first m =
    all_lost w conn most n b posts posts' m.post old new is first m.there m.moves (subst (λ q. IsLacking q (Some n)) (same_post posts conn p m there) lacks) enough loses

pub first_spent : (conn most n : ℕ) (b : Bus) (posts posts' : List Post) (p : Post) (old new : List Event) → p ≡ get_or posts conn p → IsLacking p (Some n) → n ≤ most → SpendsSo b posts posts' conn old new
    → (w : World) → IsCarried w b posts → MovesAt posts conn → IsSpentNext w (moving_up conn most) posts' old new
first_spent conn most n b posts posts' p old new there lacks enough spends w is m =
    all_spent w conn most n b posts posts' m.post old new is m.there m.moves (subst (λ q. IsLacking q (Some n)) (same_post posts conn p m there) lacks) enough spends
