-- The beginning of a world, as the code makes it: the registry joins, its calls are sent and taken, and it takes what they bring.
use Rattle.std.proofs.Common.{◌≡◌, ℕ, ◌+◌, ◌≤◌, cond, List, [], ◌∷◌, ◌++◌, length, map, take, Some, refl, sym, ap, ◌∙◌, subst, append-nil, append_assoc, arith}
use Rattle.std.specs.List.{AllByRecursion}
use Rattle.std.proofs.lemmas.Bool.{leb-true}
use Rattle.atspi_message.specs.Envelope.{Envelope}
use Rattle.atspi_message.specs.Bytes.{IsMessage, written}
use Rattle.atspi_script_lines.specs.declared.line.Party.TheVariants as party
use Rattle.atspi_protocol.specs.registering.RegistryState.{begins}
use Rattle.atspi_protocol.specs.registering.Steps.{Registry, starts}
use Rattle.atspi_match.specs.routing.Queues.{Bus, empty_bus}
use Rattle.atspi_trace_events.specs.declared.event.Event.{Event}
use Rattle.atspi_world_links.specs.declared.post.Post.{Post}
use Rattle.atspi_trace.specs.Entry.{Entry, entry_of, entries_of, sent}
use Rattle.atspi_trace.specs.World.{Role, the_registry, End, World, newcomer, first_world}
use Rattle.atspi_trace.specs.Ends.{plain, put_up, is_app, is_reader, app_count, reader_count}
use Rattle.atspi_trace.specs.Causes.{renews, joins}
use Rattle.atspi_world_moves.specs.Beginning.{with_one_taken, IsGreeting, IsGreeted}
use Rattle.atspi_world_moves.specs.inner.Beginning.{IsHeard}
use Rattle.atspi_world_moves.specs.Carried.{post_of, IsCarried}
use Rattle.atspi_world_moves.specs.Linked.{IsLinked}
use Rattle.atspi_world_moves.proofs.Beginning.{name, nobody_waits, calls, called_world, third_taken, called_carried, greeting_up, first_carried, heard, greeting_heard}
use Rattle.atspi_world_moves.proofs.Starting.{empty_linked, called_linked, heard_linked}
use Rattle.atspi_trace.specs.play.Playing.{Playing, first_playing}
use Rattle.atspi_trace.specs.play.Plays.{plays}
use Rattle.atspi_world_parties.specs.Doing.{all_sent, TellsFirst}
use Rattle.atspi_world.specs.inner.Hearing.{takes_all, HearsAll}
use Rattle.atspi_world.specs.Worlds.{Staged, BeginsWithRegistry, IsWorld, IsPlaying, Happens, IsBegun}
use Rattle.atspi_world.proofs.Calling.{put_is}

pub first_as : (r t : Registry) (p p' q q' : List Post) (old old' new : List Event) → p ≡ p' → q ≡ q' → old ≡ old' → TellsFirst r t p q old new → TellsFirst r t p' q' old' new
first_as r t p p' q q' old old' new ep eq eo told =
    subst (λ x. TellsFirst r t x q' old' new) ep (subst (λ x. TellsFirst r t p x old' new) eq (subst (λ x. TellsFirst r t p q x new) eo told))

-- messages of an end that were sent are on its link
all_put : (ms : List Envelope) (e : End) → all_sent ms (post_of e) ≡ post_of (put_up (map plain ms) e)
all_put [] e = ap (λ l. post_of (record e { up = l })) (sym (append-nil e.up))
all_put (m ∷ ms) e =
    ap (all_sent ms) (sym (put_is m e.role e)) ∙ all_put ms (put_up (plain m ∷ []) e) ∙ ap (λ l. post_of (record e { up = l })) (append_assoc e.up (plain m ∷ []) (map plain ms))

-- what was written behind others is cut off again
cut_back : (old new : List Event) (more : List Entry) → entries_of new ≡ entries_of old ++ more → entries_of (take (length old) new) ≡ entries_of old
cut_back [] new more is = refl
cut_back (x ∷ xs) [] more is = absurd cc
cut_back (x ∷ xs) (y ∷ ys) more is =
    let first : entry_of y ≡ entry_of x = cc in
    let behind : entries_of ys ≡ entries_of xs ++ more = cc in
    ap (λ e. e ∷ entries_of (take (length xs) ys)) first ∙ ap (λ l. entry_of x ∷ l) (cut_back xs ys more behind)

-- where no bytes wait, none are left
pub none_left : (bytes : List ℕ) → length bytes ≡ 0 → bytes ≡ []
none_left [] none = refl
none_left (b ∷ bs) none = absurd (omega (arith, none))

-- nobody is there
abbrev empty_world : ℕ → World
empty_world quota = record { bus = empty_bus quota; ends = []; swaps = 0 }

abbrev beginner : Role
beginner = the_registry begins

-- what the registry knows behind its start
heard_so : takes_all (record { state = record begins { hello = Some 1; next = 4 }; out = [] }) heard ≡ record { state = record begins { hello = Some 1; own = Some name; next = 4 }; out = [] }
unfolding lib.Utf8.encode
heard_so = refl

-- THE REGISTRY STARTS: joined, told, greeted, and behind all that it took
pub begun_so : (quota : ℕ) → 1024 ≤ quota → quota ≤ 16777216 → (conn : ℕ) (b0 b1 b2 b3 : Bus) (posts0 posts1 posts2 posts3 : List Post) (given0 given1 given2 given3 : List (List ℕ)) (r0 r1 r2 r3 : Registry) (t0 t1 t2 : List Event)
    → b0 ≡ empty_bus quota → posts0 ≡ [] → given0 ≡ [] → r0 ≡ record { state = begins; out = [] } → conn ≡ length posts0
    → ((w : World) (role : Role) → IsCarried w b0 posts0 → IsCarried (joins w party.Registry role []) b1 posts1)
    → ((w : World) (role : Role) → IsLinked w given0 → (w.ends ≡ [] → party.Registry ≡ party.Registry) → IsLinked (joins w party.Registry role []) given1)
    → r1 ≡ starts r0 → TellsFirst r1 r2 posts1 posts2 t0 t1 → ((w : World) → IsCarried w b1 posts2 → IsGreeting w conn → IsGreeted w conn b2 posts3 t1 t2)
    → ((w : World) → IsCarried w b1 posts2 → IsLinked w given1 → IsGreeting w conn → IsLinked (with_one_taken (with_one_taken (with_one_taken w conn) conn) conn) given2)
    → IsHeard b2 b3 conn → HearsAll b2 b3 posts3 given2 given3 conn r2 r3 → IsBegun quota b3 posts3 given3 r3 t0 (take (length t0) t2)
begun_so quota room most conn b0 b1 b2 b3 posts0 posts1 posts2 posts3 given0 given1 given2 given3 r0 r1 r2 r3 t0 t1 t2 b0_is posts0_is given0_is r0_is conn_is joins_ links r1_is tells greets keeps heard_ hears =
    let first : conn ≡ 0 = conn_is ∙ ap length posts0_is in
    let small : quota ≤ 67108864 = omega (arith, most) in
    let none : IsCarried (empty_world quota) b0 posts0 = record {
      bus_is = b0_is;
      own_told = refl;
      closings_told = refl;
      posts_are = posts0_is;
      few = subst (λ n. n ≤ 4294967296) (sym (ap length posts0_is)) (leb-true 0 4294967296 refl);
      sendable = tt;
      marked = tt;
      waits = nobody_waits (empty_bus quota).waiting.queues;
    } in
    let one = joins_ (empty_world quota) beginner none in
    let said : r1.out ≡ calls = ap (λ (r : Registry). r.out) (r1_is ∙ ap starts r0_is) in
    let told = tells (post_of (newcomer party.Registry beginner)) [] one.posts_are in
    let post : told.post ≡ post_of (put_up (map plain calls) (newcomer party.Registry beginner)) =
    told.told.post ∙ ap (λ o. all_sent o (post_of (newcomer party.Registry beginner))) said ∙ all_put calls (newcomer party.Registry beginner) in
    let two : IsCarried (called_world quota beginner) b1 posts2 =
    called_carried quota beginner posts2 (told.posts_are ∙ ap (λ p. p ∷ []) post) (subst (AllByRecursion (λ e. IsMessage e (written e))) said told.told.written_) b1 one.bus_is in
    let up : IsGreeting (called_world quota beginner) conn = subst (IsGreeting (called_world quota beginner)) (sym first) (greeting_up quota beginner room) in
    let three : IsGreeted (called_world quota beginner) 0 b2 posts3 t1 t2 = subst (λ k. IsGreeted (called_world quota beginner) k b2 posts3 t1 t2) first (greets (called_world quota beginner) two up) in
    let called : IsLinked (called_world quota beginner) given1 =
    called_linked quota beginner given1 (links (empty_world quota) beginner (subst (IsLinked (empty_world quota)) (sym given0_is) (empty_linked quota 0 small)) (λ nobody. refl)) in
    let kept : IsLinked (third_taken quota beginner) given2 =
    subst (λ k. IsLinked (with_one_taken (with_one_taken (with_one_taken (called_world quota beginner) k) k) k) given2) first (keeps (called_world quota beginner) two called up) in
    let waits = greeting_heard quota beginner room in
    let all = subst (λ k. HearsAll b2 b3 posts3 given2 given3 k r2 r3) first hears (third_taken quota beginner) waits.the_end three.carried kept waits.at in
    let silent : r2 ≡ record { state = record begins { hello = Some 1; next = 4 }; out = [] } = told.told.registry ∙ ap (λ (r : Registry). record r { out = [] }) (r1_is ∙ ap starts r0_is) in
    let now : r3 ≡ record { state = record begins { hello = Some 1; own = Some name; next = 4 }; out = [] } = all.took ∙ ap (λ ms. takes_all r2 ms) waits.down ∙ ap (λ r. takes_all r heard) silent ∙ heard_so in
    let gone = subst (IsHeard b2 b3) first heard_ in
    let alone : length posts3 ≡ 1 = ap length (first_carried quota beginner b2 b3 posts3 room three.carried gone).posts_are in
    record {
      carried = first_carried quota beginner b2 b3 posts3 room three.carried gone;
      linked = heard_linked quota all.now b3 posts3 given3 small all.carried all.linked alone gone.none;
      registry_plays = (ap (λ (r : Registry). the_registry r.state) (sym now), ap (λ (r : Registry). r.out) now);
      silent = cut_back t0 t2 (map (sent party.Registry) r1.out ++ three.extends.more)
          (three.extends.wrote ∙ ap (λ l. l ++ three.extends.more) told.told.wrote ∙ append_assoc (entries_of t0) (map (sent party.Registry) r1.out) three.extends.more);
    }

-- THE FIRST WORLD
world_first : (quota : ℕ) (s : Staged) (old : List Event) → IsBegun quota s.bus s.posts s.given s.registry old s.trace → length s.apps ≡ 0 → length s.readers ≡ 0 → s.kits ≡ 16 → s.spares ≡ 16 → IsWorld (first_world quota) s
world_first quota s old begun apps readers kits spares =
    let all_kits : length s.apps + s.kits ≡ 16 = omega (arith, apps, kits) in
    let all_spares : 0 + s.spares ≡ 16 = omega (arith, spares) in
    record {
      carried = begun.carried;
      linked = begun.linked;
      apart = ((refl, tt), (tt, tt));
      registry_plays = begun.registry_plays;
      apps_play = λ number e there. absurd cc;
      readers_play = λ number e there. absurd cc;
      apps_are = sym apps;
      readers_are = sym readers;
      first = refl;
      lives = refl;
      kits_are = all_kits;
      spares_are = all_spares;
      unused = λ none. refl;
    }

-- the registry alone is no application and no reader
alone : (ends : List End) → BeginsWithRegistry ends → length ends ≤ 1 → (app_count ends ≡ 0) × (reader_count ends ≡ 0)
alone [] first few = absurd first
alone (e ∷ []) first few = (ap (λ p. length (cond (is_app p) (e ∷ []) [])) first, ap (λ p. length (cond (is_reader p) (e ∷ []) [])) first)
alone (e ∷ (x ∷ xs)) first few = absurd (omega (arith, few))

nobody : {X : Type 0} (xs : List X) → length xs ≡ 0 → xs ≡ []
nobody [] none = refl
nobody (x ∷ xs) none = absurd (omega (arith, none))

pub first_plays : (quota : ℕ) (s : Staged) (old : List Event) → IsBegun quota s.bus s.posts s.given s.registry old s.trace → length s.apps ≡ 0 → length s.readers ≡ 0 → s.kits ≡ 16 → s.spares ≡ 16
    → IsPlaying (first_playing quota) s
first_plays quota s old begun apps readers kits spares = record { is = world_first quota s old begun apps readers kits spares; readers = nobody s.readers readers }

pub renewed : (p : Playing) (quota : ℕ) (old new : Staged) → IsPlaying p old → length p.world.ends ≤ 1 → IsBegun quota new.bus new.posts new.given new.registry old.trace new.trace → new.apps ≡ old.apps → new.readers ≡ old.readers
    → new.kits ≡ old.kits → new.spares ≡ old.spares → Happens (plays p (renews quota)) old new
renewed p quota old new playing few begun apps readers kits_same spares_same =
    let is = playing.is in
    let none = alone p.world.ends is.first few in
    let no_app : length new.apps ≡ 0 = ap length apps ∙ sym is.apps_are ∙ none.0 in
    let no_reader : length new.readers ≡ 0 = ap length readers ∙ sym is.readers_are ∙ none.1 in
    let kits : new.kits ≡ 16 = (let all = is.kits_are in let nobody_left = ap length apps in omega (arith, all, kits_same, nobody_left, no_app)) in
    let spares : new.spares ≡ 16 = (let all = is.spares_are in let unused = is.unused none.0 in omega (arith, all, spares_same, unused)) in
    record {
      is = first_plays quota new old.trace begun no_app no_reader kits spares;
      wrote = begun.silent ∙ sym (append-nil (entries_of old.trace));
    }

-- the same, where connections and trace stay behind the takings, and the trace is cut
pub begins_as : (quota : ℕ) (bus : Bus) (posts posts' : List Post) (given : List (List ℕ)) (r : Registry) (old mid mid' new : List Event) → IsBegun quota bus posts given r old (take (length old) mid) → posts' ≡ posts → mid' ≡ mid
    → new ≡ take (length old) mid' → IsBegun quota bus posts' given r old new
begins_as quota bus posts posts' given r old mid mid' new begun same kept cut = record {
  carried = subst (IsCarried (first_world quota) bus) (sym same) begun.carried;
  linked = begun.linked;
  registry_plays = begun.registry_plays;
  silent = ap entries_of (cut ∙ ap (take (length old)) kept) ∙ begun.silent;
}

-- the same, where what was told before stayed
pub begun_over : (quota : ℕ) (bus : Bus) (posts : List Post) (given : List (List ℕ)) (r : Registry) (old old' new : List Event) → old ≡ old' → IsBegun quota bus posts given r old new → IsBegun quota bus posts given r old' new
begun_over quota bus posts given r old old' new same begun =
    record { carried = begun.carried; linked = begun.linked; registry_plays = begun.registry_plays; silent = begun.silent ∙ ap entries_of same }

-- where no entry was written, nothing was told
pub untold : (events : List Event) → entries_of events ≡ [] → events ≡ []
untold [] h = refl
untold (event ∷ events) h = absurd cc
