-- What the bus does to itself and to the connections it does to the world.
use Rattle.std.proofs.Common.{◌≡◌, ◌⊎◌, inl, inr, ℕ, ◌+◌, ◌<◌, ◌≤◌, List, [], ◌∷◌, ◌++◌, length, map, set, get_or, None, Some, refl, sym, ap, ◌∙◌, subst, append_assoc, append-nil, zero, suc, arith}
use Rattle.std.specs.Prelude.{slice_get, position, cond, not, nat_lt}
use Rattle.std.specs.Option.{option_map}
use Rattle.std.specs.List.{AllByRecursion, position_or_len}
use Rattle.std.proofs.lemmas.List.{map-append, length-map, length-set}
use Rattle.std.proofs.lemmas.Option.{same_Some, slice_get_within, get_or_from_slice_get}
use Rattle.atspi_tree_model.specs.Forest.{first_of}
use Rattle.atspi_script_lines.specs.declared.line.Party.{Party}
use Rattle.atspi_script_lines.specs.declared.line.Party.TheVariants.{Bus as The_bus}
use Rattle.atspi_match.specs.routing.BusState.{unique_of}
use Rattle.atspi_match.specs.routing.Steps.{BusStep, bus_takes}
use Rattle.atspi_match.specs.routing.Queues as queues
use Rattle.atspi_match.specs.routing.Queues.{Bus}
use Rattle.atspi_trace_events.specs.declared.event.Event.{Event}
use Rattle.atspi_trace_events.specs.declared.event.Event.TheVariants.{Got, Exit}
use Rattle.atspi_world_links.specs.declared.post.Post.{Post}
use Rattle.atspi_world_links.specs.declared.post.Standing.TheVariants.{Here, Stopped}
use Rattle.atspi_trace.specs.Entry.{Entry, entry_of, entries_of, got, exited}
use Rattle.atspi_trace.specs.Rules.{rule_in}
use Rattle.atspi_trace.specs.World.{Role, Said, End, World, newcomer}
use Rattle.atspi_trace.specs.Ends as trace_ends
use Rattle.atspi_trace.specs.Ends.{same_party, conn_of, end_at, party_at, with_end, rest_of, put_up, taken_up, leaves, stops}
use Rattle.atspi_trace.specs.Carrying.{Carried, letter_of, stepped, left, settled, named, with_name, takes, takes_end, bus_entries, all_told}
use Rattle.atspi_trace.specs.Causes.{Done, does, joins, on_end, routed, routes, unjoins, exits, bus_did}
use Rattle.atspi_trace.proofs.Following.{links_follow}
use Rattle.atspi_world_links.specs.Changes.{changed_at}
use Rattle.atspi_world_moves.specs.inner.Told.{gone, all_gone, whose, AreOthers, bus_told}
use Rattle.atspi_world_moves.specs.Downs.{Wait}
use Rattle.atspi_world_moves.specs.Halted.{naming_of, AreNamedAs, HaveNames, HasRegistryFirst, IsPartDone, IsLostBy, IsSpentBy}
use Rattle.atspi_world_moves.specs.inner.Routed.{IsTaken, IsSpentTaking, IsRouted, RoutesFront, SpendsAtFront, taken_off}
use Rattle.atspi_world_moves.specs.Carried.{bytes_up, post_of, IsSendable, AreSendable, HasMark, IsCarried, IsDone}
use Rattle.atspi_world_links.proofs.Changes.{changed-set, set_same, length-changed, map-kept, map-changed, map-changed_known, get-map}
use Rattle.atspi_world_moves.proofs.Downs.{wait_same, joined_wait, letter_message, left_wait, settled_wait, stepped_wait}
use Rattle.atspi_world_moves.proofs.Losing.{FirstOfParties, first_party, whose_set, registry_leaves, lost_so}
use Rattle.atspi_world_moves.proofs.OwnSerials.{IsTelling, takes_tells, leaves_tells, settled_higher}
use Rattle.atspi_world_moves.proofs.OwnTold.{who_of, told_is}
use Rattle.atspi_world_moves.proofs.RuleLemmas.{same_taken}
use Rattle.atspi_world_moves.proofs.Views.{with-changed, stepped_view, left_view, gone_whose, gone_names, length-gone, Settles, settles, all_with, stepped_all, left_all, settled_all, put_sendable, left_sendable, named_sendable, taken_sendable, put_mark, left_mark, named_mark, taken_mark}

pub whose_posts : (ends : List End) → map whose (map post_of ends) ≡ map who_of ends
whose_posts [] = refl
whose_posts (e ∷ es) = ap (λ l. e.who ∷ l) (whose_posts es)

-- the same of a fact of each end, at one
pub all_at : (P : End → Type 0) (ends : List End) (conn : ℕ) (e : End) → AllByRecursion P ends → end_at ends conn ≡ Some e → P e
all_at P [] zero e a h = absurd cc
all_at P [] (suc conn) e a h = absurd cc
all_at P (x ∷ xs) zero e a h = subst P (same_Some x e h) a.0
all_at P (x ∷ xs) (suc conn) e a h = all_at P xs conn e a.1 h

-- the connection of an end
pub post_at : (w : World) (b : Bus) (posts : List Post) (conn : ℕ) (e : End) → IsCarried w b posts → end_at w.ends conn ≡ Some e → slice_get posts conn ≡ Some (post_of e)
post_at w b posts conn e is at = ap (λ l. slice_get l conn) is.posts_are ∙ get-map post_of w.ends conn ∙ ap (option_map post_of) at

pub post_below : (w : World) (b : Bus) (posts : List Post) (conn : ℕ) (e : End) → IsCarried w b posts → end_at w.ends conn ≡ Some e → conn < length posts
post_below w b posts conn e is at = slice_get_within posts conn (post_of e) (post_at w b posts conn e is at)

pub post_is : (w : World) (b : Bus) (posts : List Post) (conn : ℕ) (e : End) (p : Post) → IsCarried w b posts → end_at w.ends conn ≡ Some e → p ≡ get_or posts conn p → p ≡ post_of e
post_is w b posts conn e p is at h = h ∙ get_or_from_slice_get posts conn (post_of e) p (post_at w b posts conn e is at)

-- closings change no name
settled_names : (n : ℕ) (a : Carried) (posts posts' : List Post) → posts ≡ map post_of a.ends → AreNamedAs posts posts' → AreNamedAs (map post_of (settled n a).ends) posts'
settled_names n a posts posts' view named_so =
    let s : Settles a (settled n a) = settles n a in
    named_so ∙ ap (map naming_of) view ∙ sym (ap (map naming_of) s.view ∙ gone_names s.closed (map post_of a.ends))

-- the closings that follow what a bus has done: the connections behind them, and what is written
module _ (n : ℕ) (a : Carried) (b1 : Bus) (posts1 : List Post) (view : posts1 ≡ map post_of a.ends) (is : b1 ≡ (settled n a).bus) where
  closings_view : a.bus.closings ≡ [] → all_gone b1.closings posts1 ≡ map post_of (settled n a).ends
  closings_view none =
      let s : Settles a (settled n a) = settles n a in
      let closed : (settled n a).bus.closings ≡ s.closed = s.told ∙ ap (λ l. l ++ s.closed) none in
      ap (λ (b : Bus). all_gone b.closings posts1) is ∙ ap (λ l. all_gone l posts1) closed ∙ ap (all_gone s.closed) view ∙ sym s.view

  closings_wrote : (front : List Entry) (old mid new : List Event) (m : ℕ) → IsTelling m (settled n a).bus → entries_of mid ≡ entries_of old ++ front
      → entries_of new ≡ entries_of mid ++ bus_told (map whose posts1) b1.own b1.closings
      → entries_of new ≡ entries_of old ++ (front ++ bus_entries (settled n a).ends (settled n a).bus.own (settled n a).bus.closings)
  closings_wrote front old mid new m tells before behind =
      let c : Carried = settled n a in
      let s : Settles a c = settles n a in
      let parties : map whose posts1 ≡ map who_of c.ends = ap (map whose) view ∙ sym (gone_whose s.closed (map post_of a.ends)) ∙ ap (map whose) (sym s.view) ∙ whose_posts c.ends in
      let same : bus_told (map whose posts1) b1.own b1.closings ≡ bus_entries c.ends c.bus.own c.bus.closings =
      ap (λ (b : Bus). bus_told (map whose posts1) b.own b.closings) is ∙ sym (told_is c.ends (map whose posts1) parties c.bus.closings m c.bus.own tells.own) in
      behind ∙ ap (λ l. l ++ bus_told (map whose posts1) b1.own b1.closings) before ∙ append_assoc (entries_of old) front (bus_told (map whose posts1) b1.own b1.closings)
      ∙ ap (λ l. entries_of old ++ (front ++ l)) same

  -- the registry is among them
  closings_lost : (w : World) (front : List Entry) (posts2 : List Post) (old mid new : List Event) (m : ℕ) → a.bus.closings ≡ [] → FirstOfParties (map whose posts1) → IsTelling m (settled n a).bus
      → entries_of mid ≡ entries_of old ++ front → entries_of new ≡ entries_of mid ++ bus_told (map whose posts1) b1.own b1.closings → (AreOthers (map whose posts1) b1.closings → ⊥)
      → AreNamedAs posts1 posts2 → IsLostBy (bus_did w front (settled n a)) posts2 old new
  closings_lost w front posts2 old mid new m none first tells before behind some named_so = record {
    lost = lost_so (bus_did w front (settled n a)).world (all_gone b1.closings posts1) (closings_view none) (registry_leaves (map whose posts1) b1.closings posts1 refl first some);
    wrote = closings_wrote front old mid new m tells before behind;
    names = settled_names n a posts1 posts2 view named_so;
  }

-- what a bus has done, the closings that follow, and the telling of both
module _ (w : World) (front : List Entry) (n : ℕ) (a : Carried) (b1 b2 : Bus) (posts1 posts2 : List Post) (old mid new : List Event) where
  pub closings_done : length posts1 ≤ 4294967296 → a.bus.closings ≡ [] → AllByRecursion AreSendable a.ends → AllByRecursion HasMark a.ends → Wait a.bus.waiting.queues a.ends → posts1 ≡ map post_of a.ends → (m : ℕ) → IsTelling m (settled n a).bus → b1 ≡ (settled n a).bus
      → b2 ≡ all_told b1 → posts2 ≡ all_gone b1.closings posts1 → entries_of mid ≡ entries_of old ++ front
      → entries_of new ≡ entries_of mid ++ bus_told (map whose posts1) b1.own b1.closings
      → IsDone (bus_did w front (settled n a)) b2 posts2 old new
  closings_done few none sendable marked waits view m tells is told gone_are before behind =
      record {
        tied = record {
          bus_is = told ∙ ap all_told is;
          own_told = refl;
          closings_told = refl;
          posts_are = gone_are ∙ closings_view n a b1 posts1 view is none;
          few = subst (λ n. n ≤ 4294967296) (sym (ap length gone_are ∙ length-gone b1.closings posts1)) few;
          sendable = settled_all AreSendable put_sendable left_sendable n a sendable;
          marked = settled_all HasMark put_mark left_mark n a marked;
          waits = settled_wait n a waits;
        };
        wrote = closings_wrote n a b1 posts1 view is front old mid new m tells before behind;
      }

-- the bus takes the end of an end
pub parted_bus : (w : World) (b b1 : Bus) (posts : List Post) (conn : ℕ) → IsCarried w b posts → b1 ≡ queues.leaves b conn → b1 ≡ (takes_end (record { bus = w.bus; ends = w.ends }) conn).bus
parted_bus w b b1 posts conn is left_is = left_is ∙ ap (λ x. queues.leaves x conn) is.bus_is ∙ sym (links_follow.ended (record { bus = w.bus; ends = w.ends }) conn)

pub parted_done : (w : World) (conn : ℕ) (b b1 b2 : Bus) (posts posts1 posts2 : List Post) (old new : List Event) → IsCarried w b posts → posts1 ≡ changed_at conn gone posts → b1 ≡ queues.leaves b conn
    → b2 ≡ all_told b1 → posts2 ≡ all_gone b1.closings posts1 → entries_of new ≡ entries_of old ++ bus_told (map whose posts1) b1.own b1.closings
    → IsDone (does w (unjoins conn)) b2 posts2 old new
parted_done w conn b b1 b2 posts posts1 posts2 old new is left_is leaves_is told gone_are wrote =
    let c : Carried = record { bus = w.bus; ends = w.ends } in
    let same : b1 ≡ (takes_end c conn).bus = parted_bus w b b1 posts conn is leaves_is in
    closings_done w [] (length w.bus.state.joined) (left c conn) b1 b2 posts1 posts2 old old new (subst (λ n. n ≤ 4294967296) (sym (ap length left_is ∙ length-changed gone posts conn)) is.few) is.closings_told (left_all AreSendable put_sendable left_sendable c conn is.sendable)
    (left_all HasMark put_mark left_mark c conn is.marked) (left_wait c conn is.waits)
    (left_is ∙ ap (changed_at conn gone) is.posts_are ∙ sym (left_view c conn))
    w.bus.state.next (subst (IsTelling w.bus.state.next) (sym (links_follow.ended c conn)) (leaves_tells w.bus conn is.own_told)) same told gone_are (sym (append-nil (entries_of old))) wrote

-- its closings drop the registry
pub parted_lost : (w : World) (conn : ℕ) (b b1 : Bus) (posts posts1 posts2 : List Post) (old new : List Event) → IsCarried w b posts → posts1 ≡ changed_at conn gone posts → b1 ≡ queues.leaves b conn → HasRegistryFirst w.ends
    → entries_of new ≡ entries_of old ++ bus_told (map whose posts1) b1.own b1.closings → (AreOthers (map whose posts1) b1.closings → ⊥) → AreNamedAs posts1 posts2 → IsLostBy (does w (unjoins conn)) posts2 old new
parted_lost w conn b b1 posts posts1 posts2 old new is left_is leaves_is first wrote some named_so =
    let c : Carried = record { bus = w.bus; ends = w.ends } in
    let parties : map whose posts1 ≡ map who_of w.ends = ap (map whose) left_is ∙ map-kept whose gone (λ p. refl) posts conn ∙ ap (map whose) is.posts_are ∙ whose_posts w.ends in
    closings_lost (length w.bus.state.joined) (left c conn) b1 posts1 (left_is ∙ ap (changed_at conn gone) is.posts_are ∙ sym (left_view c conn)) (parted_bus w b b1 posts conn is leaves_is)
    w [] posts2 old old new w.bus.state.next is.closings_told (subst FirstOfParties (sym parties) (first_party w.ends first)) (subst (IsTelling w.bus.state.next) (sym (links_follow.ended c conn)) (leaves_tells w.bus conn is.own_told))
    (sym (append-nil (entries_of old))) wrote some named_so

-- it has no serials left: nothing was written
pub parted_spent : (w : World) (conn : ℕ) (b : Bus) (posts posts' : List Post) (old new : List Event) → IsCarried w b posts → AreNamedAs posts posts' → 4294967296 < (queues.leaves b conn).state.next
    → entries_of new ≡ entries_of old → IsSpentBy w (does w (unjoins conn)) posts' old new
parted_spent w conn b posts posts' old new is named_so spent same = (
  subst (λ (x : Bus). 4294967296 < x.state.next) (parted_bus w b (queues.leaves b conn) posts conn is refl) spent,
  record { part = []; missing = (does w (unjoins conn)).entries; front = refl; wrote = same ∙ sym (append-nil (entries_of old)) },
  inl (named_so ∙ ap (map naming_of) is.posts_are),
)

above : (n m k : ℕ) → n < m → m ≤ k → n < k
above n m k h i = omega (arith, h, i)

-- a connection with the name that the bus has for it
abbrev named_post : Bus → ℕ → Post → Post
named_post b conn p = record p { name = first_of p.name (unique_of b.state.owners conn) }

-- the bus takes the first message of an up link
module _ (w : World) (conn : ℕ) (e : End) (said : Said) (rest : List Said) (b b0 b1 b2 : Bus) (posts posts1 posts2 : List Post) (p q : Post) (old mid new : List Event) where
  abbrev taken_off_link : Carried
  taken_off_link = record { bus = w.bus; ends = with_end conn taken_up w.ends }

  abbrev step : BusStep
  step = bus_takes w.bus.state conn said.message (rule_in said.message)

  abbrev handed : Carried
  handed = stepped (letter_of e.who said) taken_off_link step

  does-routes : end_at w.ends conn ≡ Some e → e.up ≡ said ∷ rest
      → does w (routes conn) ≡ bus_did w (got The_bus e.who said.message.serial ∷ []) (settled (length w.bus.state.joined) (with_name conn handed))
  does-routes at up = ap (λ o. on_end w o (λ x. routed w conn x.who x.up)) at ∙ ap (routed w conn e.who) up

  same_bus : IsCarried w b posts → IsSendable said.message → IsTaken said.message b b0 conn p.who old mid → b0 ≡ handed.bus
  same_bus is sends taken =
      let t : IsTaken said.message w.bus b0 conn p.who old mid = subst (λ x. IsTaken said.message x b0 conn p.who old mid) is.bus_is taken in
      t.bus ∙ ap (queues.stepped w.bus) (same_taken w.bus.state conn said.message t.rule (rule_in said.message) t.reads (λ name h. sends.reads))

  put_posts : IsCarried w b posts → end_at w.ends conn ≡ Some e → e.up ≡ said ∷ rest → p ≡ post_of e → q ≡ taken_off b0 conn (bytes_up rest) p → b0 ≡ handed.bus
      → set posts conn q ≡ map post_of (with_name conn handed).ends
  put_posts is at up p_is q_is bus =
      let off : q ≡ named_post handed.bus conn (post_of (taken_up e)) =
      q_is ∙ ap (λ x. taken_off x conn (bytes_up rest) p) bus ∙ ap (taken_off handed.bus conn (bytes_up rest)) p_is
      ∙ ap (λ l. taken_off handed.bus conn (bytes_up (rest_of l)) (post_of e)) (sym up) in
      let link : map post_of handed.ends ≡ set (map post_of w.ends) conn (post_of (taken_up e)) =
      stepped_view (letter_of e.who said) taken_off_link step ∙ ap (map post_of) (with-changed taken_up w.ends conn) ∙ map-changed_known post_of taken_up w.ends conn e at in
      ap (λ l. set l conn q) is.posts_are ∙ ap (set (map post_of w.ends) conn) off
      ∙ sym (changed-set (named_post handed.bus conn) (map post_of w.ends) conn (post_of (taken_up e)))
      ∙ ap (changed_at conn (named_post handed.bus conn)) (sym link)
      ∙ sym (map-changed post_of (named handed.bus conn) (named_post handed.bus conn) (λ x. refl) handed.ends conn)
      ∙ ap (map post_of) (sym (with-changed (named handed.bus conn) handed.ends conn))

  same_posts : IsCarried w b posts → end_at w.ends conn ≡ Some e → e.up ≡ said ∷ rest → p ≡ post_of e → q ≡ taken_off b0 conn (bytes_up rest) p → b0 ≡ handed.bus → posts1 ≡ set posts conn q
      → posts1 ≡ map post_of (with_name conn handed).ends
  same_posts is at up p_is q_is bus set_is = set_is ∙ put_posts is at up p_is q_is bus

  pub first_sends : IsCarried w b posts → end_at w.ends conn ≡ Some e → e.up ≡ said ∷ rest → IsSendable said.message
  first_sends is at up = first_of_all (subst (AllByRecursion (λ (s : Said). IsSendable s.message)) up (all_at AreSendable w.ends conn e is.sendable at))
    where
      first_of_all : AllByRecursion (λ (s : Said). IsSendable s.message) (said ∷ rest) → IsSendable said.message
      first_of_all a = a.0

  pub front_routed : IsCarried w b posts → end_at w.ends conn ≡ Some e → e.up ≡ said ∷ rest → p ≡ post_of e → RoutesFront b b0 conn p q old mid → IsRouted said.message b b0 conn p q (bytes_up rest) old mid
  front_routed is at up p_is routes_ = routes_ said.message (bytes_up rest) (first_sends is at up).is (ap (λ (x : Post). x.up) p_is ∙ ap bytes_up up)

  -- the bus is that of the world behind it
  pub routed_bus : IsCarried w b posts → end_at w.ends conn ≡ Some e → e.up ≡ said ∷ rest → p ≡ post_of e → RoutesFront b b0 conn p q old mid → b1 ≡ queues.settled (length b.state.joined) b0
      → b1 ≡ (takes (record { bus = w.bus; ends = w.ends }) conn e.who said).bus
  routed_bus is at up p_is routes_ settled_is =
      let bus : b0 ≡ handed.bus = same_bus is (first_sends is at up) (front_routed is at up p_is routes_).taken in
      settled_is ∙ ap (λ (x : Bus). queues.settled (length x.state.joined) b0) is.bus_is ∙ ap (queues.settled (length w.bus.state.joined)) bus ∙ sym (links_follow.taken (record { bus = w.bus; ends = w.ends }) conn e.who said)

  -- what is told of a message that the bus takes
  got_told : (sender : Party) (old' mid' : List Event) → sender ≡ e.who → mid' ≡ old' ++ Got The_bus sender said.message.serial ∷ [] → entries_of mid' ≡ entries_of old' ++ got The_bus e.who said.message.serial ∷ []
  got_told sender old' mid' who told =
      ap entries_of told ∙ map-append entry_of old' (Got The_bus sender said.message.serial ∷ []) ∙ ap (λ x. entries_of old' ++ got The_bus x said.message.serial ∷ []) who

  pub routed_done : IsCarried w b posts → end_at w.ends conn ≡ Some e → e.up ≡ said ∷ rest → p ≡ post_of e → RoutesFront b b0 conn p q old mid → posts1 ≡ set posts conn q
      → b1 ≡ queues.settled (length b.state.joined) b0 → b2 ≡ all_told b1 → posts2 ≡ all_gone b1.closings posts1
      → entries_of new ≡ entries_of mid ++ bus_told (map whose posts1) b1.own b1.closings
      → IsDone (does w (routes conn)) b2 posts2 old new
  routed_done is at up p_is routes_ set_is settled_is told gone_are wrote =
      let c : Carried = record { bus = w.bus; ends = w.ends } in
      let r = front_routed is at up p_is routes_ in
      let bus : b0 ≡ handed.bus = same_bus is (first_sends is at up) r.taken in
      let follows = links_follow.taken c conn e.who said in
      let same : b1 ≡ (takes c conn e.who said).bus = routed_bus is at up p_is routes_ settled_is in
      let who : p.who ≡ e.who = ap whose p_is in
      let before = got_told p.who old mid who r.taken.told in
      subst (λ d. IsDone d b2 posts2 old new) (sym (does-routes at up))
      (closings_done w (got The_bus e.who said.message.serial ∷ []) (length w.bus.state.joined) (with_name conn handed) b1 b2 posts1 posts2 old mid new (subst (λ n. n ≤ 4294967296) (sym (ap length set_is ∙ length-set posts conn q)) is.few) is.closings_told
      (all_with AreSendable (named handed.bus conn) (named_sendable handed.bus conn) conn handed.ends
      (stepped_all AreSendable put_sendable left_sendable (letter_of e.who said) taken_off_link step (all_with AreSendable taken_up taken_sendable conn w.ends is.sendable)))
      (all_with HasMark (named handed.bus conn) (named_mark handed.bus conn) conn handed.ends
      (stepped_all HasMark put_mark left_mark (letter_of e.who said) taken_off_link step (all_with HasMark taken_up taken_mark conn w.ends is.marked)))
      (wait_same (named handed.bus conn) (λ x. refl) (λ x. refl) handed.bus.waiting.queues handed.ends conn
      (stepped_wait (letter_of e.who said) (letter_message e.who said) taken_off_link step (wait_same taken_up (λ x. refl) (λ x. refl) w.bus.waiting.queues w.ends conn is.waits)))
      (same_posts is at up p_is r.post bus set_is) w.bus.state.next
      (subst (IsTelling w.bus.state.next) (sym follows) (takes_tells w.bus conn said.message (rule_in said.message) is.own_told)) same told gone_are before wrote)

  -- its closings drop the registry
  pub routed_lost : IsCarried w b posts → end_at w.ends conn ≡ Some e → e.up ≡ said ∷ rest → p ≡ post_of e → RoutesFront b b0 conn p q old mid → posts1 ≡ set posts conn q
      → b1 ≡ queues.settled (length b.state.joined) b0 → HasRegistryFirst w.ends → entries_of new ≡ entries_of mid ++ bus_told (map whose posts1) b1.own b1.closings
      → (AreOthers (map whose posts1) b1.closings → ⊥) → AreNamedAs posts1 posts2 → IsLostBy (does w (routes conn)) posts2 old new
  routed_lost is at up p_is routes_ set_is settled_is first wrote some named_so =
      let c : Carried = record { bus = w.bus; ends = w.ends } in
      let r = front_routed is at up p_is routes_ in
      let bus : b0 ≡ handed.bus = same_bus is (first_sends is at up) r.taken in
      let who : p.who ≡ e.who = ap whose p_is in
      let parties : map whose posts1 ≡ map who_of w.ends =
      ap (map whose) set_is ∙ whose_set posts conn (post_of e) q (post_at w b posts conn e is at) (ap whose r.post ∙ who) ∙ ap (map whose) is.posts_are ∙ whose_posts w.ends in
      subst (λ d. IsLostBy d posts2 old new) (sym (does-routes at up))
      (closings_lost (length w.bus.state.joined) (with_name conn handed) b1 posts1 (same_posts is at up p_is r.post bus set_is) (routed_bus is at up p_is routes_ settled_is)
      w (got The_bus e.who said.message.serial ∷ []) posts2 old mid new w.bus.state.next is.closings_told (subst FirstOfParties (sym parties) (first_party w.ends first))
      (subst (IsTelling w.bus.state.next) (sym (links_follow.taken c conn e.who said)) (takes_tells w.bus conn said.message (rule_in said.message) is.own_told)) (got_told p.who old mid who r.taken.told) wrote some named_so)

  -- no serials are left: just that it was taken is told
  got_only : end_at w.ends conn ≡ Some e → e.up ≡ said ∷ rest → 4294967296 < (takes (record { bus = w.bus; ends = w.ends }) conn e.who said).bus.state.next
      → entries_of mid ≡ entries_of old ++ got The_bus e.who said.message.serial ∷ [] → HaveNames w posts2 ⊎ HaveNames (does w (routes conn)).world posts2 → IsSpentBy w (does w (routes conn)) posts2 old mid
  got_only at up spent wrote names =
      let d : Carried = settled (length w.bus.state.joined) (with_name conn handed) in
      let so : (4294967296 < (does w (routes conn)).world.bus.state.next) × IsPartDone (does w (routes conn)) old mid =
      subst (λ (x : Done). (4294967296 < x.world.bus.state.next) × IsPartDone x old mid) (sym (does-routes at up))
      (spent, record { part = got The_bus e.who said.message.serial ∷ []; missing = bus_entries d.ends d.bus.own d.bus.closings; front = refl; wrote = wrote }) in
      (so.0, so.1, names)

  -- for what the message itself brings
  pub taken_spent : IsCarried w b posts → end_at w.ends conn ≡ Some e → e.up ≡ said ∷ rest → p ≡ post_of e → SpendsAtFront p.up b conn p.who old mid → posts2 ≡ set posts conn p → IsSpentBy w (does w (routes conn)) posts2 old mid
  taken_spent is at up p_is spends stays =
      let c : Carried = record { bus = w.bus; ends = w.ends } in
      let sends = first_sends is at up in
      let t : IsSpentTaking said.message w.bus conn p.who old mid =
      subst (λ x. IsSpentTaking said.message x conn p.who old mid) is.bus_is (spends said.message (bytes_up rest) sends.is (ap (λ (x : Post). x.up) p_is ∙ ap bytes_up up)) in
      let past : 4294967296 < step.state.next =
      subst (λ (x : BusStep). 4294967296 < x.state.next) (same_taken w.bus.state conn said.message t.rule (rule_in said.message) t.reads (λ name h. sends.reads)) t.spent in
      let spent : 4294967296 < (queues.takes w.bus conn said.message (rule_in said.message)).state.next =
      above 4294967296 step.state.next (queues.takes w.bus conn said.message (rule_in said.message)).state.next past (settled_higher (length w.bus.state.joined) (queues.stepped w.bus step)) in
      got_only at up (subst (λ (x : Bus). 4294967296 < x.state.next) (sym (links_follow.taken c conn e.who said)) spent) (got_told p.who old mid (ap whose p_is) t.told)
      (inl (ap (map naming_of) (stays ∙ set_same posts conn p (post_at w b posts conn e is at ∙ ap Some (sym p_is)) ∙ is.posts_are)))

  -- for the closings behind it
  pub settled_spent : IsCarried w b posts → end_at w.ends conn ≡ Some e → e.up ≡ said ∷ rest → p ≡ post_of e → RoutesFront b b0 conn p q old mid → b1 ≡ queues.settled (length b.state.joined) b0
      → 4294967296 < b1.state.next → posts2 ≡ set posts conn q → IsSpentBy w (does w (routes conn)) posts2 old mid
  settled_spent is at up p_is routes_ settled_is spent set_is =
      let r = front_routed is at up p_is routes_ in
      let bus : b0 ≡ handed.bus = same_bus is (first_sends is at up) r.taken in
      let view : set posts conn q ≡ map post_of (with_name conn handed).ends = put_posts is at up p_is r.post bus in
      got_only at up (subst (λ (x : Bus). 4294967296 < x.state.next) (routed_bus is at up p_is routes_ settled_is) spent)
      (got_told p.who old mid (ap whose p_is) r.taken.told)
      (inr (subst (λ (x : Done). HaveNames x.world posts2) (sym (does-routes at up))
      (settled_names (length w.bus.state.joined) (with_name conn handed) (set posts conn q) posts2 view (ap (map naming_of) set_is))))

-- an end stops
stop_sendable : (e : End) → AreSendable e → AreSendable (stops e)
stop_sendable e h = tt

pub exited_done : (w : World) (conn : ℕ) (e : End) (b b' : Bus) (posts posts' : List Post) (p q : Post) (old new : List Event) → IsCarried w b posts → end_at w.ends conn ≡ Some e → b' ≡ b → p ≡ post_of e
    → q ≡ record p { standing = Stopped; up = []; begun = 0 } → posts' ≡ set posts conn q → new ≡ old ++ Exit p.who ∷ [] → IsDone (does w (exits conn)) b' posts' old new
exited_done w conn e b b' posts posts' p q old new is at same p_is q_is set_is wrote =
    let who : p.who ≡ party_at w.ends conn = ap whose p_is ∙ ap trace_ends.whose (sym at) in
    record {
      tied = record {
        bus_is = same ∙ is.bus_is;
        own_told = is.own_told;
        closings_told = is.closings_told;
        posts_are = set_is ∙ ap (λ l. set l conn q) is.posts_are ∙ ap (set (map post_of w.ends) conn) (q_is ∙ ap (λ (x : Post). record x { standing = Stopped; up = []; begun = 0 }) p_is)
            ∙ sym (map-changed_known post_of stops w.ends conn e at) ∙ ap (map post_of) (sym (with-changed stops w.ends conn));
        few = subst (λ n. n ≤ 4294967296) (sym (ap length set_is ∙ length-set posts conn q)) is.few;
        sendable = all_with AreSendable stops stop_sendable conn w.ends is.sendable;
        marked = all_with HasMark stops (λ x h. refl) conn w.ends is.marked;
        waits = wait_same stops (λ x. refl) (λ x. refl) w.bus.waiting.queues w.ends conn is.waits;
      };
      wrote = ap entries_of wrote ∙ map-append entry_of old (Exit p.who ∷ []) ∙ ap (λ x. entries_of old ++ exited x ∷ []) who;
    }

-- an end joins, and sent nothing yet
pub joined : (w : World) (who : Party) (role : Role) (b b' : Bus) (posts posts' : List Post) (p : Post) → length posts' ≤ 4294967296 → IsCarried w b posts → b' ≡ queues.joins b (length posts) → posts' ≡ posts ++ p ∷ []
    → p ≡ post_of (newcomer who role) → IsCarried (joins w who role []) b' posts'
joined w who role b b' posts posts' p few is bus more p_is =
    let many : length posts ≡ length w.ends = ap length is.posts_are ∙ length-map w.ends post_of in
    record {
      bus_is = bus ∙ ap (queues.joins b) many ∙ ap (λ x. queues.joins x (length w.ends)) is.bus_is;
      own_told = is.own_told;
      closings_told = is.closings_told;
      posts_are = more ∙ ap (λ x. posts ++ x ∷ []) p_is ∙ ap (λ l. l ++ post_of (newcomer who role) ∷ []) is.posts_are ∙ sym (map-append post_of w.ends (put_up [] (newcomer who role) ∷ []));
      few = few;
      sendable = all_more AreSendable w.ends (put_up [] (newcomer who role)) is.sendable tt;
      marked = all_more HasMark w.ends (put_up [] (newcomer who role)) is.marked refl;
      waits = joined_wait w.bus.waiting.queues w.ends (put_up [] (newcomer who role)) refl refl is.waits;
    }
  where
    all_more : (P : End → Type 0) (es : List End) (e : End) → AllByRecursion P es → P e → AllByRecursion P (es ++ e ∷ [])
    all_more P [] e a h = (h, tt)
    all_more P (x ∷ xs) e a h = (a.0, all_more P xs e a.1 h)

-- a connection that sent nothing yet, by its parts
pub new_post : (p : Post) (who : Party) (role : Role) → p.who ≡ who → p.standing ≡ Here → p.name ≡ None → p.up ≡ [] → p.begun ≡ 0 → p ≡ post_of (newcomer who role)
new_post p who role is here_ unnamed up begun =
    ap (λ x. record p { who = x }) is ∙ ap (λ x. record p { who = who; standing = x }) here_ ∙ ap (λ x. record p { who = who; standing = Here; name = x }) unnamed
    ∙ ap (λ x. record p { who = who; standing = Here; name = None; up = x }) up ∙ ap (λ x. record { who = who; standing = Here; name = None; up = []; begun = x }) begun

-- the connection of a party
place_map : (who : Party) (es : List End) → position_or_len (λ (p : Post). same_party p.who who) (map post_of es) ≡ position_or_len (λ (e : End). same_party e.who who) es
place_map who [] = refl
place_map who (e ∷ es) = ap (λ n. cond (not (same_party e.who who)) (1 + n) 0) (place_map who es)

pub conn_is : (w : World) (b : Bus) (posts : List Post) (who : Party) → IsCarried w b posts → position (λ (p : Post). same_party p.who who) posts ≡ conn_of w.ends who
conn_is w b posts who is =
    ap (position (λ (p : Post). same_party p.who who)) is.posts_are
    ∙ ap (λ n. cond (nat_lt n (length (map post_of w.ends))) (Some n) None) (place_map who w.ends)
    ∙ ap (λ k. cond (nat_lt (position_or_len (λ (e : End). same_party e.who who) w.ends) k) (Some (position_or_len (λ (e : End). same_party e.who who) w.ends)) None) (length-map w.ends post_of)
