-- The bus takes a message, or an end that stopped, and drops the registry, or spends its serials; so do bytes that are moved up.
use Rattle.std.proofs.Common.{◌≡◌, ◌⊎◌, inl, inr, ℕ, zero, suc, false, List, [], ◌∷◌, ◌++◌, map, Some, refl, sym, ap, ◌∙◌, subst}
use Rattle.std.specs.List.{AllByRecursion}
use Rattle.atspi_script_lines.specs.declared.line.Party.{Party}
use Rattle.atspi_script_lines.specs.declared.line.Party.TheVariants.{Bus as The_bus, Registry as The_registry, App, Reader}
use Rattle.atspi_world_links.specs.declared.post.Post.{Post}
use Rattle.atspi_world_links.specs.declared.post.Standing.TheVariants.{Here, Stopped}
use Rattle.atspi_trace.specs.Entry.{Entry}
use Rattle.atspi_trace.specs.World.{here, stopped, Said, Letter, End, World}
use Rattle.atspi_trace.specs.Ends.{same_party, end_at}
use Rattle.atspi_trace.specs.Causes as causes
use Rattle.atspi_trace.specs.Causes.{Cause, does, routes, unjoins, gets}
use Rattle.atspi_trace.specs.Due.{is_lost}
use Rattle.atspi_trace.specs.Work.{Work, resting, moving_up, cause, next_of, next_turn}
use Rattle.atspi_world_moves.specs.Carried.{post_of, IsCarried}
use Rattle.atspi_world_moves.specs.Halted as halted
use Rattle.atspi_world_moves.specs.Halted.{naming_of, AreNamedAs, HaveNames, HasRegistryFirst, IsAnother}
use Rattle.atspi_world_moves.specs.Linked.{IsLinked}
use Rattle.atspi_world_moves.specs.Moving.{MovesAt}
use Rattle.atspi_world_moves.specs.inner.Waits.{turn_of}
use Rattle.atspi_world_moves.specs.declared.waiting.Turn.TheVariants.{Route, Part, Get}
use Rattle.atspi_world_moves.proofs.Ties.{post_at}
use Rattle.atspi_protocol.specs.following.ReaderState.{ReaderState}
use Rattle.atspi_trace.specs.play.Breaking as breaking
use Rattle.atspi_trace.specs.play.Breaking.{PlaysOn, IsAtWork, IsSpent}
use Rattle.atspi_trace.specs.play.Playing.{Playing, Happened}
use Rattle.atspi_trace.specs.play.Plays.{only, plays}
use Rattle.atspi_world.specs.Halts.{IsLostBy, IsSpentBy, WorkLost, WorkSpent}
use Rattle.atspi_world.specs.Worlds.{Staged, who_of, AreApart, BeginsWithRegistry, IsWorld, IsPlaying}
use Rattle.atspi_world.proofs.Halted.{then_lost, then_spent}
use Rattle.atspi_world.proofs.Moved.{IsUp, IsOfBus, GoesUp, work_goes, standing_next, stopped_is}
use Rattle.atspi_world.proofs.Parts.{none_done}
use Rattle.atspi_world.proofs.Turns.{HasTurn, only_route, only_part, only_get, turn_at}

-- THE REGISTRY IS THE FIRST of the ends, and no other is
another : (e : End) → same_party The_registry e.who ≡ false → IsAnother e
another e differ = by e.who differ
  where
    by : (who : Party) → same_party The_registry who ≡ false → same_party who The_registry ≡ false
    by The_bus d = refl
    by The_registry d = absurd cc
    by (App a) d = refl
    by (Reader r) d = refl

others : (ends : List End) → AllByRecursion (λ q. same_party The_registry q ≡ false) (map who_of ends) → AllByRecursion IsAnother ends
others [] h = tt
others (e ∷ es) h = (another e h.0, others es h.1)

first_apart : (ends : List End) → BeginsWithRegistry ends → AreApart (map who_of ends) → HasRegistryFirst ends
first_apart [] first apart = absurd first
first_apart (e ∷ es) first apart = (first, others es (subst (λ who. AllByRecursion (λ q. same_party who q ≡ false) (map who_of es)) first apart.0))

pub registry_first : (w : World) (s : Staged) → IsWorld w s → HasRegistryFirst w.ends
registry_first w s is = first_apart w.ends is.first is.apart.1

-- what the bus does is the same to readers
lost_so : (p : Playing) (d : causes.Done) (old new : Staged) → halted.IsLostBy d new.posts old.trace new.trace → IsLostBy (only p d) old new
lost_so p d old new h = record { lost = h.lost; wrote = h.wrote; names = h.names }

spent_so : (p : Playing) (d : causes.Done) (old new : Staged) → IsPlaying p old → halted.IsSpentBy p.world d new.posts old.trace new.trace → IsSpentBy (only p d) old new
spent_so p d old new playing h = record { spent = inl h.0; part = h.1.part; missing = h.1.missing; front = h.1.front; wrote = h.1.wrote; names = by h.2 }
  where
    by : HaveNames p.world new.posts ⊎ HaveNames d.world new.posts → AreNamedAs old.posts new.posts ⊎ HaveNames d.world new.posts
    by (inl before) = inl (before ∙ ap (map naming_of) (sym playing.is.carried.posts_are))
    by (inr behind) = inr behind

-- A TURN: the bus takes a message
module _ (p : Playing) (c : Cause) (conn : ℕ) (old new : Staged) (playing : IsPlaying p old) (found : next_turn p.world ≡ Some c) where
  pub route_lost : turn_of c ≡ Some (Route conn)
      → ((w : World) (e : End) (said : Said) (rest : List Said) → IsCarried w old.bus old.posts → HasRegistryFirst w.ends → end_at w.ends conn ≡ Some e → e.up ≡ said ∷ rest → halted.IsLostBy (does w (routes conn)) new.posts old.trace new.trace)
      → IsLostBy (plays p c) old new
  route_lost turn loses =
      let same = only_route c conn turn in
      let t : HasTurn p.world (routes conn) = turn_at p.world (routes conn) (subst (λ k. next_turn p.world ≡ Some k) same found) in
      subst (λ k. IsLostBy (plays p k) old new) (sym same)
      (lost_so p (does p.world (routes conn)) old new (loses p.world t.the_end t.is.1.0 t.is.1.1.0 playing.is.carried (registry_first p.world old playing.is) t.at t.is.1.1.1))

  pub route_spent : turn_of c ≡ Some (Route conn)
      → ((w : World) (e : End) (said : Said) (rest : List Said) → IsCarried w old.bus old.posts → end_at w.ends conn ≡ Some e → e.up ≡ said ∷ rest → halted.IsSpentBy w (does w (routes conn)) new.posts old.trace new.trace)
      → IsSpentBy (plays p c) old new
  route_spent turn spends =
      let same = only_route c conn turn in
      let t : HasTurn p.world (routes conn) = turn_at p.world (routes conn) (subst (λ k. next_turn p.world ≡ Some k) same found) in
      subst (λ k. IsSpentBy (plays p k) old new) (sym same) (spent_so p (does p.world (routes conn)) old new playing (spends p.world t.the_end t.is.1.0 t.is.1.1.0 playing.is.carried t.at t.is.1.1.1))

  -- it takes an end that stopped
  pub part_lost : turn_of c ≡ Some (Part conn) → ((w : World) → IsCarried w old.bus old.posts → HasRegistryFirst w.ends → halted.IsLostBy (does w (unjoins conn)) new.posts old.trace new.trace) → IsLostBy (plays p c) old new
  part_lost turn loses =
      subst (λ k. IsLostBy (plays p k) old new) (sym (only_part c conn turn))
      (lost_so p (does p.world (unjoins conn)) old new (loses p.world playing.is.carried (registry_first p.world old playing.is)))

  pub part_spent : turn_of c ≡ Some (Part conn) → ((w : World) → IsCarried w old.bus old.posts → halted.IsSpentBy w (does w (unjoins conn)) new.posts old.trace new.trace) → IsSpentBy (plays p c) old new
  part_spent turn spends = subst (λ k. IsSpentBy (plays p k) old new) (sym (only_part c conn turn)) (spent_so p (does p.world (unjoins conn)) old new playing (spends p.world playing.is.carried))

  -- an end takes a message
  pub get_spent : turn_of c ≡ Some (Get conn)
      → ((q : Playing) (e : End) (letter : Letter) (rest : List Letter) → IsPlaying q old → end_at q.world.ends conn ≡ Some e → e.standing ≡ here → e.down ≡ letter ∷ rest → IsSpentBy (plays q (gets conn)) old new)
      → IsSpentBy (plays p c) old new
  get_spent turn spends =
      let same = only_get c conn turn in
      let t : HasTurn p.world (gets conn) = turn_at p.world (gets conn) (subst (λ k. next_turn p.world ≡ Some k) same found) in
      subst (λ k. IsSpentBy (plays p k) old new) (sym same) (spends p t.the_end t.is.1.0 t.is.1.1.0 playing t.at t.is.0 t.is.1.1.1)

-- BYTES THAT ARE MOVED UP: their causes are the bus's
bus_only : (p : Playing) (c : Cause) → IsOfBus c → plays p c ≡ only p (does p.world c)
bus_only p (routes conn) of_bus = refl
bus_only p (unjoins conn) of_bus = refl
bus_only p c of_bus = absurd of_bus

bus_on : (readers : List ReaderState) (w v u : World) (work left last : Work) (c : Cause) (more : List Entry) → IsOfBus c → next_of w work ≡ cause c v left
    → PlaysOn (record { world = (does v c).world; readers = readers }) left more (record { world = u; readers = readers }) last
    → PlaysOn (record { world = w; readers = readers }) work ((does v c).entries ++ more) (record { world = u; readers = readers }) last
bus_on readers w v u work left last (routes conn) more of_bus next rest =
    breaking.caused (record { world = w; readers = readers }) (record { world = u; readers = readers }) v work left last (routes conn) more next rest
bus_on readers w v u work left last (unjoins conn) more of_bus next rest =
    breaking.caused (record { world = w; readers = readers }) (record { world = u; readers = readers }) v work left last (unjoins conn) more next rest
bus_on readers w v u work left last c more of_bus next rest = absurd of_bus

on_plays : (readers : List ReaderState) (w u : World) (work last : Work) (es : List Entry) → halted.WorksOn w work es u last → IsUp work
    → PlaysOn (record { world = w; readers = readers }) work es (record { world = u; readers = readers }) last × IsUp last
on_plays readers _ _ _ _ _ (halted.so_far w work) up = (breaking.so_far (record { world = w; readers = readers }) work, up)
on_plays readers _ _ _ _ _ (halted.caused w v u work left last c more e h) up =
    let g = subst (GoesUp w) e (work_goes w work up) in
    let rest = on_plays readers (does v c).world u left last more h g.2 in
    (bus_on readers w v u work left last c more g.1 e rest.0, rest.1)

-- the same place of the work among readers
record IsSame (p : Playing) (work : Work) (a : halted.IsAtWork p.world work) : Type 0 where
  pub at : IsAtWork p work
  pub entries : at.entries ≡ a.entries
  pub moved : at.moved ≡ a.moved
  pub happens : breaking.does_next at ≡ only (record p { world = a.moved }) (halted.does_next a)

same_at : (p : Playing) (work : Work) → IsUp work → (a : halted.IsAtWork p.world work) → IsSame p work a
same_at p work up a =
    let on = on_plays p.readers p.world a.now work a.last a.entries a.done up in
    let goes = subst (GoesUp a.now) a.is_next (work_goes a.now a.last on.1) in
    record {
      at = record { entries = a.entries; now = record p { world = a.now }; last = a.last; done = on.0; lives = a.lives; moved = a.moved; rest = a.rest; next = a.next; is_next = a.is_next };
      entries = refl;
      moved = refl;
      happens = bus_only (record p { world = a.moved }) a.next goes.1;
    }

pub up_lost : (p : Playing) (work : Work) (old new : Staged) → IsUp work → halted.IsLostOn p.world work new.posts old.trace new.trace → WorkLost p work old new
up_lost p work old new up h =
    let same = same_at p work up h.at in (
      h.at.entries ++ (halted.does_next h.at).entries,
      record {
        at = same.at;
        lost = ap (λ (x : Happened). is_lost x.now.world) same.happens ∙ h.lost;
        wrote = sym (ap (λ l. l ++ (breaking.does_next same.at).entries) same.entries ∙ ap (λ (x : Happened). h.at.entries ++ x.entries) same.happens);
      },
      h.wrote,
      subst (λ (x : Happened). HaveNames x.now.world new.posts) (sym same.happens) h.names,
    )

pub up_spent : (p : Playing) (work : Work) (old new : Staged) → IsUp work → halted.IsSpentOn p.world work new.posts old.trace new.trace → WorkSpent p work old new
up_spent p work old new up h =
    let same = same_at p work up h.at in (
      h.at.entries ++ h.part,
      record {
        at = same.at;
        spent = subst (λ (x : Happened). IsSpent x.now) (sym same.happens) (inl h.spent);
        part = h.part;
        missing = h.missing;
        front = ap (λ (x : Happened). x.entries) same.happens ∙ h.front;
        wrote = ap (λ l. l ++ h.part) (sym same.entries);
      },
      h.wrote,
      names same h.names,
    )
  where
    names : (same : IsSame p work h.at) → HaveNames h.at.moved new.posts ⊎ HaveNames (halted.does_next h.at).world new.posts
        → HaveNames same.at.moved new.posts ⊎ HaveNames (breaking.does_next same.at).now.world new.posts
    names same (inl before) = inl (subst (λ (w : World). HaveNames w new.posts) (sym same.moved) before)
    names same (inr behind) = inr (subst (λ (x : Happened). HaveNames x.now.world new.posts) (sym same.happens) behind)

-- AN END THAT IS THERE, and one that stopped
module _ (p : Playing) (conn count : ℕ) (e : End) (post : Post) (old new : Staged) (playing : IsPlaying p old) (at : end_at p.world.ends conn ≡ Some e) (post_is : post ≡ post_of e) where
  moves_at : post.standing ≡ Here → MovesAt old.posts conn
  moves_at stands = record { post = post; there = post_at p.world old.bus old.posts conn e playing.is.carried at ∙ ap Some (sym post_is); moves = inl stands }

  pub here_lost : post.standing ≡ Here
      → ((w : World) → IsCarried w old.bus old.posts → IsLinked w old.given → HasRegistryFirst w.ends → MovesAt old.posts conn → halted.IsLostOn w (moving_up conn count) new.posts old.trace new.trace) → WorkLost p (moving_up conn count) old new
  here_lost stands loses = up_lost p (moving_up conn count) old new tt (loses p.world playing.is.carried playing.is.linked (registry_first p.world old playing.is) (moves_at stands))

  pub here_spent : post.standing ≡ Here → ((w : World) → IsCarried w old.bus old.posts → IsLinked w old.given → MovesAt old.posts conn → halted.IsSpentOn w (moving_up conn count) new.posts old.trace new.trace) → WorkSpent p (moving_up conn count) old new
  here_spent stands spends = up_spent p (moving_up conn count) old new tt (spends p.world playing.is.carried playing.is.linked (moves_at stands))

  stopped_next : post.standing ≡ Stopped → (count ≡ 0 → ⊥) → next_of p.world (moving_up conn count) ≡ cause (unjoins conn) p.world resting
  stopped_next stands some = by count refl
    where
      by : (n : ℕ) → count ≡ n → next_of p.world (moving_up conn n) ≡ cause (unjoins conn) p.world resting
      by zero is = absurd (some is)
      by (suc n) is = standing_next p.world conn (suc n) e stopped at (stopped_is e.standing (ap (λ (q : Post). q.standing) (sym post_is) ∙ stands))

  pub stopped_lost : post.standing ≡ Stopped → (count ≡ 0 → ⊥) → ((w : World) → IsCarried w old.bus old.posts → HasRegistryFirst w.ends → halted.IsLostBy (does w (unjoins conn)) new.posts old.trace new.trace) → WorkLost p (moving_up conn count) old new
  stopped_lost stands some loses =
      then_lost p (moving_up conn count) (moving_up conn count) resting (unjoins conn) old old new (none_done p (moving_up conn count) old playing) (stopped_next stands some)
      (lost_so p (does p.world (unjoins conn)) old new (loses p.world playing.is.carried (registry_first p.world old playing.is)))

  pub stopped_spent : post.standing ≡ Stopped → (count ≡ 0 → ⊥) → ((w : World) → IsCarried w old.bus old.posts → halted.IsSpentBy w (does w (unjoins conn)) new.posts old.trace new.trace) → WorkSpent p (moving_up conn count) old new
  stopped_spent stands some spends =
      then_spent p (moving_up conn count) (moving_up conn count) resting (unjoins conn) old old new (none_done p (moving_up conn count) old playing) (stopped_next stands some)
      (spent_so p (does p.world (unjoins conn)) old new playing (spends p.world playing.is.carried))
