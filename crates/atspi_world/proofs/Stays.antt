-- The tie to a world of the definitions stays, where one end changes and where one joins.
use Rattle.std.proofs.Common.{◌≡◌, ℕ, zero, suc, ◌+◌, ◌<◌, true, false, cond, List, [], ◌∷◌, ◌++◌, length, map, set, Some, refl, sym, ap, ◌∙◌, subst, add-zero, arith}
use Rattle.std.specs.Prelude.{if◌then◌else◌}
use Rattle.std.proofs.lemmas.List.{length-set, length-append}
use Rattle.atspi_script_lines.specs.declared.line.Party.TheVariants.{Registry as The_registry, App, Reader}
use Rattle.atspi_protocol.specs.exporting.Exporter.{Exporter}
use Rattle.atspi_protocol.specs.following.ReaderState.{ReaderState}
use Rattle.atspi_trace.specs.Entry.{entries_of}
use Rattle.atspi_trace.specs.World.{the_registry, End, World}
use Rattle.atspi_trace.specs.Ends.{is_here, same_party, conn_of, end_at, with_end, is_app, is_reader, app_count, reader_count}
use Rattle.atspi_trace.specs.Causes.{Done}
use Rattle.atspi_trace.specs.Due.{is_lost}
use Rattle.atspi_world_moves.specs.Carried.{IsCarried}
use Rattle.atspi_world_moves.specs.Linked.{IsLinked}
use Rattle.atspi_world_links.proofs.Changes.{map-kept}
use Rattle.atspi_world_moves.proofs.Views.{with-changed}
use Rattle.atspi_trace.specs.play.Playing.{Playing}
use Rattle.atspi_trace.specs.play.Plays.{only}
use Rattle.atspi_world.specs.Cast.{IsApp, IsReader, ArePlayed}
use Rattle.atspi_world.specs.Worlds.{Staged, IsRegistry, IsWorld, IsPlaying, Happens}
use Rattle.atspi_world.proofs.Apart.{apart_parts, apart_with, apart_more}
use Rattle.atspi_world.proofs.Conns.{same-party, conn_who}
use Rattle.atspi_world.proofs.Changed.{part_of, parts_count, same_count, more_count}
use Rattle.atspi_world.proofs.Firsts.{first_parts, registry_parts, first_same, registry_same, lost_if, lost_first, lives_same, first_kept, first_more, first_with, first_is, registry_is, registry_first}
use Rattle.atspi_world.proofs.Plays.{plays_same, plays_beside, plays_one, plays_more, plays_more_beside}

-- what no end is asked for stays, and the registry
pub record Beside (old new : Staged) : Type 0 where
  pub registry : new.registry ≡ old.registry
  pub kits : new.kits ≡ old.kits
  pub spares : new.spares ≡ old.spares

-- no end changes its role
pub same_world : (w v : World) (old new : Staged) → IsWorld w old → map part_of v.ends ≡ map part_of w.ends → v.swaps ≡ w.swaps → IsCarried v new.bus new.posts → IsLinked v new.given → is_lost v ≡ false
    → new.apps ≡ old.apps → new.readers ≡ old.readers → Beside old new → IsWorld v new
same_world w v old new is same swaps carried linked lives apps readers beside =
    record {
      carried = carried;
      linked = linked;
      apart = apart_parts w.ends v.ends same is.apart;
      registry_plays = registry_parts new.registry w.ends v.ends same (subst (λ r. IsRegistry r w.ends) (sym beside.registry) is.registry_plays);
      apps_play = subst (λ xs. ArePlayed App IsApp xs v.ends) (sym apps) (plays_same App IsApp old.apps w.ends v.ends same is.apps_play);
      readers_play = subst (λ xs. ArePlayed Reader IsReader xs v.ends) (sym readers) (plays_same Reader IsReader old.readers w.ends v.ends same is.readers_play);
      apps_are = parts_count is_app w.ends v.ends same ∙ is.apps_are ∙ ap length (sym apps);
      readers_are = parts_count is_reader w.ends v.ends same ∙ is.readers_are ∙ ap length (sym readers);
      first = first_parts w.ends v.ends same is.first;
      lives = lives;
      kits_are = ap (λ xs. length xs + new.kits) apps ∙ ap (λ k. length old.apps + k) beside.kits ∙ is.kits_are;
      spares_are = ap (λ n. n + new.spares) swaps ∙ ap (λ k. w.swaps + k) beside.spares ∙ is.spares_are;
      unused = λ no_app. swaps ∙ is.unused (sym (parts_count is_app w.ends v.ends same) ∙ no_app);
    }

-- one end changes, and not its role
pub parts_kept : (f : End → End) → ((e : End) → part_of (f e) ≡ part_of e) → (ends : List End) (conn : ℕ) → map part_of (with_end conn f ends) ≡ map part_of ends
parts_kept f same ends conn = ap (map part_of) (with-changed f ends conn) ∙ map-kept part_of f same ends conn

-- two changes of one end are one
pub with_twice : (f g : End → End) (ends : List End) (conn : ℕ) → with_end conn g (with_end conn f ends) ≡ with_end conn (λ e. g (f e)) ends
with_twice f g [] zero = refl
with_twice f g [] (suc conn) = refl
with_twice f g (e ∷ es) zero = refl
with_twice f g (e ∷ es) (suc conn) = ap (λ l. e ∷ l) (with_twice f g es conn)

-- a world in which one end changed, and stays who it is
pub record Changes (w v : World) (conn : ℕ) (f : End → End) : Type 0 where
  pub ends : v.ends ≡ with_end conn f w.ends
  pub swaps : v.swaps ≡ w.swaps
  pub who : (y : End) → (f y).who ≡ y.who

-- an application does something
pub app_world : (w v : World) (conn a : ℕ) (e : End) (f : End → End) (t : Exporter) (old new : Staged) → Changes w v conn f → IsApp t (f e).role → IsWorld w old
    → conn_of w.ends (App a) ≡ Some conn → end_at w.ends conn ≡ Some e → IsCarried v new.bus new.posts → IsLinked v new.given → a < length old.apps → new.apps ≡ set old.apps a t → new.readers ≡ old.readers
    → Beside old new → IsWorld v new
app_world w v conn a e f t old new change plays is there at carried linked few apps readers beside =
    let many : length new.apps ≡ length old.apps = ap length apps ∙ length-set old.apps a t in
    let first : end_at v.ends 0 ≡ end_at w.ends 0 = ap (λ es. end_at es 0) change.ends ∙ first_kept f w.ends conn is.first (λ y q. ap (λ p. same_party p The_registry) (conn_who w.ends (App a) conn y there q)) in
    let apps_count : app_count v.ends ≡ app_count w.ends = ap app_count change.ends ∙ same_count f change.who is_app w.ends conn in
    record {
      carried = carried;
      linked = linked;
      apart = apart_with f change.who w.ends v.ends conn change.ends is.apart;
      registry_plays = registry_same new.registry w.ends v.ends first (subst (λ r. IsRegistry r w.ends) (sym beside.registry) is.registry_plays);
      apps_play = subst (λ es. ArePlayed App IsApp new.apps es) (sym change.ends)
          (subst (λ xs. ArePlayed App IsApp xs (with_end conn f w.ends)) (sym apps) (plays_one App IsApp old.apps t w.ends f conn a e (λ x y. refl) change.who there at few plays is.apps_play));
      readers_play = subst (λ es. ArePlayed Reader IsReader new.readers es) (sym change.ends)
          (subst (λ xs. ArePlayed Reader IsReader xs (with_end conn f w.ends)) (sym readers)
          (plays_beside Reader IsReader old.readers w.ends f conn change.who (λ n y q. ap (λ p. same_party p (Reader n)) (conn_who w.ends (App a) conn y there q)) is.readers_play));
      apps_are = apps_count ∙ is.apps_are ∙ sym many;
      readers_are = ap reader_count change.ends ∙ same_count f change.who is_reader w.ends conn ∙ is.readers_are ∙ ap length (sym readers);
      first = first_same w.ends v.ends first is.first;
      lives = lives_same w v first is.lives;
      kits_are = ap (λ n. n + new.kits) many ∙ ap (λ k. length old.apps + k) beside.kits ∙ is.kits_are;
      spares_are = ap (λ n. n + new.spares) change.swaps ∙ ap (λ k. w.swaps + k) beside.spares ∙ is.spares_are;
      unused = λ no_app. change.swaps ∙ is.unused (sym apps_count ∙ no_app);
    }

-- a reader does
pub reader_world : (w v : World) (conn r : ℕ) (e : End) (f : End → End) (t : ReaderState) (old new : Staged) → Changes w v conn f → IsReader t (f e).role → IsWorld w old
    → conn_of w.ends (Reader r) ≡ Some conn → end_at w.ends conn ≡ Some e → IsCarried v new.bus new.posts → IsLinked v new.given → r < length old.readers → new.readers ≡ set old.readers r t → new.apps ≡ old.apps
    → Beside old new → IsWorld v new
reader_world w v conn r e f t old new change plays is there at carried linked few readers apps beside =
    let first : end_at v.ends 0 ≡ end_at w.ends 0 = ap (λ es. end_at es 0) change.ends ∙ first_kept f w.ends conn is.first (λ y q. ap (λ p. same_party p The_registry) (conn_who w.ends (Reader r) conn y there q)) in
    let apps_count : app_count v.ends ≡ app_count w.ends = ap app_count change.ends ∙ same_count f change.who is_app w.ends conn in
    record {
      carried = carried;
      linked = linked;
      apart = apart_with f change.who w.ends v.ends conn change.ends is.apart;
      registry_plays = registry_same new.registry w.ends v.ends first (subst (λ r. IsRegistry r w.ends) (sym beside.registry) is.registry_plays);
      apps_play = subst (λ es. ArePlayed App IsApp new.apps es) (sym change.ends)
          (subst (λ xs. ArePlayed App IsApp xs (with_end conn f w.ends)) (sym apps)
          (plays_beside App IsApp old.apps w.ends f conn change.who (λ n y q. ap (λ p. same_party p (App n)) (conn_who w.ends (Reader r) conn y there q)) is.apps_play));
      readers_play = subst (λ es. ArePlayed Reader IsReader new.readers es) (sym change.ends)
          (subst (λ xs. ArePlayed Reader IsReader xs (with_end conn f w.ends)) (sym readers)
          (plays_one Reader IsReader old.readers t w.ends f conn r e (λ x y. refl) change.who there at few plays is.readers_play));
      apps_are = apps_count ∙ is.apps_are ∙ ap length (sym apps);
      readers_are = ap reader_count change.ends ∙ same_count f change.who is_reader w.ends conn ∙ is.readers_are ∙ sym (ap length readers ∙ length-set old.readers r t);
      first = first_same w.ends v.ends first is.first;
      lives = lives_same w v first is.lives;
      kits_are = ap (λ xs. length xs + new.kits) apps ∙ ap (λ k. length old.apps + k) beside.kits ∙ is.kits_are;
      spares_are = ap (λ n. n + new.spares) change.swaps ∙ ap (λ k. w.swaps + k) beside.spares ∙ is.spares_are;
      unused = λ no_app. change.swaps ∙ is.unused (sym apps_count ∙ no_app);
    }

-- the registry does, at the first connection
pub registry_world : (w v : World) (e : End) (f : End → End) (old new : Staged) → Changes w v 0 f → (f e).role ≡ the_registry new.registry.state → new.registry.out ≡ [] → (f e).standing ≡ e.standing → IsWorld w old
    → end_at w.ends 0 ≡ Some e → IsCarried v new.bus new.posts → IsLinked v new.given → new.apps ≡ old.apps → new.readers ≡ old.readers → new.kits ≡ old.kits → new.spares ≡ old.spares → IsWorld v new
registry_world w v e f old new change role quiet stands is at carried linked apps readers kits spares =
    let first : end_at v.ends 0 ≡ Some (f e) = ap (λ es. end_at es 0) change.ends ∙ first_with f w.ends e at in
    let apps_count : app_count v.ends ≡ app_count w.ends = ap app_count change.ends ∙ same_count f change.who is_app w.ends 0 in
    let whose : e.who ≡ The_registry = first_is w.ends e at is.first in
    record {
      carried = carried;
      linked = linked;
      apart = apart_with f change.who w.ends v.ends 0 change.ends is.apart;
      registry_plays = registry_is new.registry v.ends (f e) first role quiet;
      apps_play = subst (λ es. ArePlayed App IsApp new.apps es) (sym change.ends)
          (subst (λ xs. ArePlayed App IsApp xs (with_end 0 f w.ends)) (sym apps)
          (plays_beside App IsApp old.apps w.ends f 0 change.who (λ n y q. ap (λ p. same_party p (App n)) (first_is w.ends y q is.first)) is.apps_play));
      readers_play = subst (λ es. ArePlayed Reader IsReader new.readers es) (sym change.ends)
          (subst (λ xs. ArePlayed Reader IsReader xs (with_end 0 f w.ends)) (sym readers)
          (plays_beside Reader IsReader old.readers w.ends f 0 change.who (λ n y q. ap (λ p. same_party p (Reader n)) (first_is w.ends y q is.first)) is.readers_play));
      apps_are = apps_count ∙ is.apps_are ∙ ap length (sym apps);
      readers_are = ap reader_count change.ends ∙ same_count f change.who is_reader w.ends 0 ∙ is.readers_are ∙ ap length (sym readers);
      first = registry_first v.ends (f e) first (change.who e ∙ whose);
      lives = lost_first v.bus v.ends v.swaps ∙ ap lost_if first ∙ ap (λ s. if is_here s then false else true) stands ∙ sym (lost_first w.bus w.ends w.swaps ∙ ap lost_if at) ∙ is.lives;
      kits_are = ap (λ xs. length xs + new.kits) apps ∙ ap (λ k. length old.apps + k) kits ∙ is.kits_are;
      spares_are = ap (λ n. n + new.spares) change.swaps ∙ ap (λ k. w.swaps + k) spares ∙ is.spares_are;
      unused = λ no_app. change.swaps ∙ is.unused (sym apps_count ∙ no_app);
    }

-- an application joins, over a kit
pub app_joins : (w v : World) (n : End) (t : Exporter) (old new : Staged) → n.who ≡ App (length old.apps) → IsApp t n.role → IsWorld w old → v.ends ≡ w.ends ++ n ∷ [] → v.swaps ≡ w.swaps
    → IsCarried v new.bus new.posts → IsLinked v new.given → new.apps ≡ old.apps ++ t ∷ [] → new.readers ≡ old.readers → new.registry ≡ old.registry → suc new.kits ≡ old.kits → new.spares ≡ old.spares → IsWorld v new
app_joins w v n t old new who plays is ends swaps carried linked apps readers registry kits spares =
    let many : length new.apps ≡ length old.apps + 1 = ap length apps ∙ length-append old.apps (t ∷ []) in
    let left : length old.apps + old.kits ≡ 16 = is.kits_are in
    let all : length new.apps + new.kits ≡ 16 = omega (arith, many, left, kits) in
    let one : cond (is_app n.who) 1 0 ≡ 1 = ap (λ p. cond (is_app p) 1 0) who in
    let none : cond (is_reader n.who) 1 0 ≡ 0 = ap (λ p. cond (is_reader p) 1 0) who in
    let apps_more = ap app_count ends ∙ more_count is_app w.ends n in
    let readers_more = ap reader_count ends ∙ more_count is_reader w.ends n in
    let stays : end_at v.ends 0 ≡ end_at w.ends 0 = ap (λ es. end_at es 0) ends ∙ first_more w.ends n is.first in
    record {
      carried = carried;
      linked = linked;
      apart = apart_more App IsApp old.apps w.ends is.apart is.apps_play n v.ends who (λ p h. same-party p (App (length old.apps)) h) refl ends;
      registry_plays = registry_same new.registry w.ends v.ends stays (subst (λ r. IsRegistry r w.ends) (sym registry) is.registry_plays);
      apps_play = subst (λ es. ArePlayed App IsApp new.apps es) (sym ends)
          (subst (λ xs. ArePlayed App IsApp xs (w.ends ++ n ∷ [])) (sym apps) (plays_more App IsApp old.apps t w.ends n (λ x y. refl) who plays is.apps_play));
      readers_play = subst (λ es. ArePlayed Reader IsReader new.readers es) (sym ends)
          (subst (λ xs. ArePlayed Reader IsReader xs (w.ends ++ n ∷ [])) (sym readers) (plays_more_beside Reader IsReader old.readers w.ends n (λ k. ap (λ p. same_party p (Reader k)) who) is.readers_play));
      apps_are = apps_more ∙ ap (λ k. app_count w.ends + k) one ∙ ap (λ k. k + 1) is.apps_are ∙ sym many;
      readers_are = readers_more ∙ ap (λ k. reader_count w.ends + k) none ∙ add-zero (reader_count w.ends) ∙ is.readers_are ∙ ap length (sym readers);
      first = first_same w.ends v.ends stays is.first;
      lives = lives_same w v stays is.lives;
      kits_are = all;
      spares_are = ap (λ k. k + new.spares) swaps ∙ ap (λ k. w.swaps + k) spares ∙ is.spares_are;
      unused = λ no_app. absurd (omega (arith, apps_more, one, no_app));
    }

-- a reader joins
pub reader_joins : (w v : World) (n : End) (t : ReaderState) (old new : Staged) → n.who ≡ Reader (length old.readers) → IsReader t n.role → IsWorld w old → v.ends ≡ w.ends ++ n ∷ [] → v.swaps ≡ w.swaps
    → IsCarried v new.bus new.posts → IsLinked v new.given → new.readers ≡ old.readers ++ t ∷ [] → new.apps ≡ old.apps → Beside old new → IsWorld v new
reader_joins w v n t old new who plays is ends swaps carried linked readers apps beside =
    let many : length new.readers ≡ length old.readers + 1 = ap length readers ∙ length-append old.readers (t ∷ []) in
    let one : cond (is_reader n.who) 1 0 ≡ 1 = ap (λ p. cond (is_reader p) 1 0) who in
    let none : cond (is_app n.who) 1 0 ≡ 0 = ap (λ p. cond (is_app p) 1 0) who in
    let apps_more = ap app_count ends ∙ more_count is_app w.ends n in
    let readers_more = ap reader_count ends ∙ more_count is_reader w.ends n in
    let stays : end_at v.ends 0 ≡ end_at w.ends 0 = ap (λ es. end_at es 0) ends ∙ first_more w.ends n is.first in
    record {
      carried = carried;
      linked = linked;
      apart = apart_more Reader IsReader old.readers w.ends is.apart is.readers_play n v.ends who (λ p h. same-party p (Reader (length old.readers)) h) refl ends;
      registry_plays = registry_same new.registry w.ends v.ends stays (subst (λ r. IsRegistry r w.ends) (sym beside.registry) is.registry_plays);
      apps_play = subst (λ es. ArePlayed App IsApp new.apps es) (sym ends)
          (subst (λ xs. ArePlayed App IsApp xs (w.ends ++ n ∷ [])) (sym apps) (plays_more_beside App IsApp old.apps w.ends n (λ k. ap (λ p. same_party p (App k)) who) is.apps_play));
      readers_play = subst (λ es. ArePlayed Reader IsReader new.readers es) (sym ends)
          (subst (λ xs. ArePlayed Reader IsReader xs (w.ends ++ n ∷ [])) (sym readers) (plays_more Reader IsReader old.readers t w.ends n (λ x y. refl) who plays is.readers_play));
      apps_are = apps_more ∙ ap (λ k. app_count w.ends + k) none ∙ add-zero (app_count w.ends) ∙ is.apps_are ∙ ap length (sym apps);
      readers_are = readers_more ∙ ap (λ k. reader_count w.ends + k) one ∙ ap (λ k. k + 1) is.readers_are ∙ sym many;
      first = first_same w.ends v.ends stays is.first;
      lives = lives_same w v stays is.lives;
      kits_are = ap (λ xs. length xs + new.kits) apps ∙ ap (λ k. length old.apps + k) beside.kits ∙ is.kits_are;
      spares_are = ap (λ k. k + new.spares) swaps ∙ ap (λ k. w.swaps + k) beside.spares ∙ is.spares_are;
      unused = λ no_app. swaps ∙ is.unused (omega (arith, apps_more, none, no_app));
    }

-- a face is used
pub swap_world : (w : World) (old new : Staged) → IsWorld w old → new.bus ≡ old.bus → new.posts ≡ old.posts → new.given ≡ old.given → new.registry ≡ old.registry → new.apps ≡ old.apps → new.readers ≡ old.readers → new.kits ≡ old.kits
    → suc new.spares ≡ old.spares → 0 < app_count w.ends → IsWorld (record w { swaps = suc w.swaps }) new
swap_world w old new is bus posts given registry apps readers kits spares some =
    let c : IsCarried w new.bus new.posts = subst (λ b. IsCarried w b new.posts) (sym bus) (subst (IsCarried w old.bus) (sym posts) is.carried) in
    let left : w.swaps + old.spares ≡ 16 = is.spares_are in
    let used : suc w.swaps + new.spares ≡ 16 = omega (arith, left, spares) in
    record {
      carried = record { bus_is = c.bus_is; own_told = c.own_told; closings_told = c.closings_told; posts_are = c.posts_are; few = c.few; sendable = c.sendable; marked = c.marked; waits = c.waits };
      linked = record {
        given_are = given ∙ is.linked.given_are;
        wait = is.linked.wait;
        hands = record { quota = is.linked.hands.quota; known = is.linked.hands.known; letters = is.linked.hands.letters };
        named = is.linked.named;
        there = is.linked.there;
      };
      apart = is.apart;
      registry_plays = subst (λ r. IsRegistry r w.ends) (sym registry) is.registry_plays;
      apps_play = subst (λ xs. ArePlayed App IsApp xs w.ends) (sym apps) is.apps_play;
      readers_play = subst (λ xs. ArePlayed Reader IsReader xs w.ends) (sym readers) is.readers_play;
      apps_are = is.apps_are ∙ ap length (sym apps);
      readers_are = is.readers_are ∙ ap length (sym readers);
      first = is.first;
      lives = is.lives;
      kits_are = ap (λ xs. length xs + new.kits) apps ∙ ap (λ k. length old.apps + k) kits ∙ is.kits_are;
      spares_are = used;
      unused = λ no_app. absurd (omega (arith, some, no_app));
    }

-- a cause that readers do not see was done
pub only_happens : (p : Playing) (d : Done) (old new : Staged) → IsPlaying p old → IsWorld d.world new → new.readers ≡ old.readers → entries_of new.trace ≡ entries_of old.trace ++ d.entries → Happens (only p d) old new
only_happens p d old new playing is readers wrote = record { is = record { is = is; readers = readers ∙ playing.readers }; wrote = wrote }
