-- An application takes the message that lies whole at it, and the registry does.
use Rattle.std.proofs.Common.{◌≡◌, ℕ, Bool, List, [], ◌∷◌, ◌++◌, map, set, None, Some, refl, sym, ap, ◌∙◌, subst, append_assoc}
use Rattle.std.specs.List.{AllByRecursion}
use Rattle.std.proofs.lemmas.Option.{same_Some, slice_get_within}
use Rattle.atspi_script_lines.specs.declared.line.Party.TheVariants.{Bus as The_bus, Registry as The_registry, App}
use Rattle.atspi_message.specs.Bytes.{IsMessage, written}
use Rattle.atspi_protocol.specs.exporting.Exporter.{Exporter}
use Rattle.atspi_protocol.specs.exporting.Taking.{app_takes}
use Rattle.atspi_protocol.specs.registering.Steps.{Registry, RegistryStep, registry_takes}
use Rattle.atspi_world_links.specs.declared.post.Post.{Post}
use Rattle.atspi_trace.specs.Entry.{Entry, entries_of, got, sent}
use Rattle.atspi_trace.specs.World.{the_registry, Role, Letter, End, World}
use Rattle.atspi_trace.specs.Ends.{end_at, end_if, conn_of, with_end, taken_down}
use Rattle.atspi_trace.specs.Causes as causes
use Rattle.atspi_trace.specs.Causes.{at_end, did, app_did, has_done, gets, does, Done}
use Rattle.atspi_world_moves.specs.Carried.{post_of, IsCarried, IsDone}
use Rattle.atspi_world_links.specs.Changes.{changed_at}
use Rattle.atspi_world_moves.proofs.Linked.{linked_same}
use Rattle.atspi_world_moves.proofs.Ties.{post_at}
use Rattle.atspi_trace.specs.play.Playing.{Playing}
use Rattle.atspi_trace.specs.play.Plays.{only, plays}
use Rattle.atspi_world_parties.specs.Doing.{quiet, all_sent}
use Rattle.atspi_world.specs.inner.Taken.{GotWhole}
use Rattle.atspi_world.specs.Worlds.{Staged, AreApart, who_of, BeginsWithRegistry, IsRegistry, IsWorld, Happens}
use Rattle.atspi_world.proofs.Apart.{conn_here}
use Rattle.atspi_world.proofs.AskingApps.{taking_sends}
use Rattle.atspi_world.proofs.AskingRegistry.{registry_asks}
use Rattle.atspi_world.proofs.Sayings.{told_done, set_set}
use Rattle.atspi_world.proofs.Stays.{with_twice, app_world, registry_world, only_happens}
use Rattle.atspi_world.proofs.Taking.{IsComing, message, world_off, stage_mid, carried_off, linked_off, taken_at, does_so, plays_so, told_so, changed_known, get_changed, sends_all, all_sendable, all_carried, truly_sendable}

-- THE REGISTRY stands at the first connection
pub first_conn : (ends : List End) (k : ℕ) → AreApart (The_bus ∷ map who_of ends) → BeginsWithRegistry ends → conn_of ends The_registry ≡ Some k → 0 ≡ k
first_conn [] k apart h is = absurd h
first_conn (y ∷ ys) k apart h is = same_Some 0 k (sym (conn_here (y ∷ ys) 0 y The_registry apart refl h) ∙ is)

pub plays_registry : (r : Registry) (ends : List End) (e : End) → IsRegistry r ends → end_at ends 0 ≡ Some e → (e.role ≡ the_registry r.state) × (r.out ≡ [])
plays_registry r [] e h there = absurd h
plays_registry r (y ∷ ys) e h there = (ap (λ (z : End). z.role) (sym (same_Some y e there)) ∙ h.0, h.1)

pub posts_first : (ends : List End) (e : End) → end_at ends 0 ≡ Some e → (more : List Post) × (map post_of ends ≡ post_of e ∷ more)
posts_first [] e there = absurd cc
posts_first (y ∷ ys) e there = (map post_of ys, ap (λ z. post_of z ∷ map post_of ys) (same_Some y e there))

module _ {p : Playing} {conn : ℕ} {old new : Staged} {took : Bool} (x : IsComing p conn old new took) where
  -- AN APPLICATION
  pub app_got : (a : ℕ) → x.the_end.who ≡ App a → GotWhole (message x) conn (App a) (stage_mid x) new took → Happens (plays p (gets conn)) old new
  app_got a who g =
      let e : End = x.the_end in
      let at = x.at in
      let letter : Letter = x.letter in
      let playing = x.playing in
      let is : IsWorld p.world old = playing.is in
      let there : conn_of p.world.ends (App a) ≡ Some conn = conn_here p.world.ends conn e (App a) is.apart at who in
      let play = is.apps_play a e (ap (end_if p.world.ends) there ∙ at) in
      let s : Exporter = play.player in
      let t : Exporter = app_takes s (message x) in
      let told = g.tells.0 t (post_of e) (get_changed (λ z. app_takes z (message x)) old.apps a s play.there) (post_at p.world old.bus old.posts conn e is.carried at) in
      let front : List Entry = got (App a) letter.from (message x).serial ∷ [] in
      let done : IsDone (app_did (world_off x) conn front s t) new.bus new.posts old.trace new.trace =
      told_done (world_off x) conn a (taken_down e) front s t new.bus new.bus old.posts new.posts old.trace new.trace (carried_off x) (taken_at x) who
      (truly_sendable s s.tree None t.out told.written_ (taking_sends s (message x) play.plays.quiet)) refl told.posts_are
      (told.wrote ∙ ap (λ l. l ++ map (did a) t.out) (told_so x (App a) g) ∙ append_assoc (entries_of old.trace) front (map (did a) t.out)) in
      let after_ : IsWorld (app_did (world_off x) conn front s t).world new =
      app_world p.world (app_did (world_off x) conn front s t).world conn a e (λ y. has_done s t (taken_down y)) (quiet t) old new
      (record { ends = with_twice taken_down (has_done s t) p.world.ends conn; swaps = refl; who = λ y. refl }) (record { role_is = refl; quiet = refl }) is there at done.tied
      (linked_same (world_off x) conn (has_done s t) new.given (λ y. (refl, refl, refl, refl, refl)) (linked_off x (App a) g)) (slice_get_within old.apps a s play.there)
      (told.apps ∙ ap (λ l. set l a (quiet t)) (changed_known (λ z. app_takes z (message x)) old.apps a s play.there) ∙ set_set old.apps a t (quiet t)) g.tells.1.1
      (record { registry = g.tells.1.0; kits = x.kits; spares = x.spares }) in
      let does_is : does p.world (gets conn) ≡ app_did (world_off x) conn front s t = does_so x ∙ ap (λ z. causes.took (world_off x) conn letter z e.role) who ∙ ap (causes.took (world_off x) conn letter (App a)) play.plays.role_is in
      subst (λ h. Happens h old new) (sym (plays_so x (App a) who))
      (subst (λ d. Happens (only p d) old new) (sym does_is) (only_happens p (app_did (world_off x) conn front s t) old new playing after_ g.tells.1.1 done.wrote))

  -- THE REGISTRY
  pub registry_got : x.the_end.who ≡ The_registry → GotWhole (message x) conn The_registry (stage_mid x) new took → Happens (plays p (gets conn)) old new
  registry_got who g =
      let e : End = x.the_end in
      let at = x.at in
      let letter : Letter = x.letter in
      let playing = x.playing in
      let is : IsWorld p.world old = playing.is in
      let zero_is : 0 ≡ conn = first_conn p.world.ends conn is.apart is.first (conn_here p.world.ends conn e The_registry is.apart at who) in
      let at_first : end_at p.world.ends 0 ≡ Some e = ap (end_at p.world.ends) zero_is ∙ at in
      let play = plays_registry old.registry p.world.ends e is.registry_plays at_first in
      let posts_ = posts_first p.world.ends e at_first in
      let step : RegistryStep = registry_takes old.registry.state (message x) in
      let r : Registry = record { state = step.state; out = old.registry.out ++ step.sent } in
      let first = g.tells.0 (post_of e) posts_.0 (is.carried.posts_are ∙ posts_.1) in
      let out_is : r.out ≡ step.sent = ap (λ l. l ++ step.sent) play.1 in
      let told = first.told in
      let posts_are : new.posts ≡ changed_at 0 (all_sent step.sent) old.posts =
      first.posts_are ∙ ap (λ q. q ∷ posts_.0) (told.post ∙ ap (λ l. all_sent l (post_of e)) out_is) ∙ ap (changed_at 0 (all_sent step.sent)) (sym (is.carried.posts_are ∙ posts_.1)) in
      let role : Role = the_registry step.state in
      let sends_ = sends_all step.sent role in
      let u : World = at_end (world_off x) conn sends_ in
      let carried : IsCarried u new.bus new.posts =
      all_carried (world_off x) conn step.sent role new.bus old.posts new.posts (carried_off x)
      (all_sendable step.sent (subst (AllByRecursion (λ m. IsMessage m (written m))) out_is told.written_) (registry_asks old.registry.state (message x))) (posts_are ∙ ap (λ k. changed_at k (all_sent step.sent) old.posts) zero_is) in
      let after_ : IsWorld u new =
      registry_world p.world u e (λ y. sends_ (taken_down y)) old new
      (record { ends = with_twice taken_down sends_ p.world.ends conn ∙ ap (λ k. with_end k (λ y. sends_ (taken_down y)) p.world.ends) (sym zero_is); swaps = refl; who = λ y. refl })
      (ap (λ (z : Registry). the_registry z.state) (sym told.registry)) (ap (λ (z : Registry). z.out) told.registry) refl is at_first carried
      (linked_same (world_off x) conn sends_ new.given (λ y. (refl, refl, refl, refl, refl)) (linked_off x The_registry g)) g.tells.1.0 g.tells.1.1 x.kits x.spares in
      let front : List Entry = got The_registry letter.from (message x).serial ∷ [] in
      let d : Done = record { world = u; entries = front ++ map (sent The_registry) step.sent } in
      let does_is : does p.world (gets conn) ≡ d = does_so x ∙ ap (λ z. causes.took (world_off x) conn letter z e.role) who ∙ ap (causes.took (world_off x) conn letter The_registry) play.0 in
      let wrote : entries_of new.trace ≡ entries_of old.trace ++ d.entries =
      told.wrote ∙ ap (λ l. entries_of g.mid ++ map (sent The_registry) l) out_is ∙ ap (λ l. l ++ map (sent The_registry) step.sent) (told_so x The_registry g)
      ∙ append_assoc (entries_of old.trace) front (map (sent The_registry) step.sent) in
      subst (λ h. Happens h old new) (sym (plays_so x The_registry who)) (subst (λ z. Happens (only p z) old new) (sym does_is) (only_happens p d old new playing after_ g.tells.1.1 wrote))
