-- An end that takes nothing has nothing to tell: all stays as it is.
use Rattle.std.proofs.Common.{◌≡◌, ℕ, [], ◌∷◌, ◌++◌, map, set, Some, refl, sym, ap, ◌∙◌, subst, append-nil}
use Rattle.atspi_script_lines.specs.declared.line.Party.{Party}
use Rattle.atspi_script_lines.specs.declared.line.Party.TheVariants.{Bus as The_bus, Registry as The_registry, App, Reader}
use Rattle.atspi_protocol.specs.exporting.Exporter.{Exporter}
use Rattle.atspi_protocol.specs.following.ReaderState.{ReaderState}
use Rattle.atspi_protocol.specs.registering.Steps.{Registry}
use Rattle.atspi_trace.specs.Entry.{entries_of, sent}
use Rattle.atspi_trace.specs.World.{End}
use Rattle.atspi_trace.specs.Ends.{end_at, end_if, conn_of}
use Rattle.atspi_trace.specs.Causes.{did}
use Rattle.atspi_world_moves.specs.Carried.{post_of, IsCarried}
use Rattle.atspi_world_links.specs.Changes.{changed_at}
use Rattle.atspi_world_moves.specs.Linked.{IsLinked}
use Rattle.atspi_world_links.proofs.Changes.{set_same}
use Rattle.atspi_world_moves.proofs.Ties.{post_at, post_below}
use Rattle.atspi_trace.specs.play.Playing.{Playing}
use Rattle.atspi_world_parties.specs.Doing.{all_said, all_sent, messages, told_by}
use Rattle.std.specs.Prelude.{flat_map}
use Rattle.atspi_world_parties.specs.Taken.{Tells}
use Rattle.atspi_world.specs.inner.Taken.{ends_in}
use Rattle.atspi_world.specs.Worlds.{Staged, IsWorld, IsPlaying}
use Rattle.atspi_world.proofs.Apart.{conn_here, not_bus}
use Rattle.atspi_world.proofs.Stays.{same_world}
use Rattle.atspi_world.proofs.TakingEnds.{first_conn, plays_registry, posts_first}
use Rattle.atspi_world_parties.proofs.ToldAll.{changed_none}

module _ (p : Playing) (conn : ℕ) (e : End) (old new : Staged) (playing : IsPlaying p old) (at : end_at p.world.ends conn ≡ Some e) (bus : new.bus ≡ old.bus) (given : new.given ≡ old.given) (kits : new.kits ≡ old.kits)
    (spares : new.spares ≡ old.spares) where
  is : IsWorld p.world old
  is = playing.is

  same_stage : new.registry ≡ old.registry → new.apps ≡ old.apps → new.readers ≡ old.readers → new.posts ≡ old.posts → IsPlaying p new
  same_stage registry apps readers posts = record {
    is = same_world p.world p.world old new is refl refl (subst (λ b. IsCarried p.world b new.posts) (sym bus) (subst (IsCarried p.world old.bus) (sym posts) is.carried))
        (subst (IsLinked p.world) (sym given) is.linked) is.lives apps readers (record { registry = registry; kits = kits; spares = spares });
    readers = readers ∙ playing.readers;
  }

  -- what stays
  abbrev pub Stays : Type 0
  Stays = IsPlaying p new × (entries_of new.trace ≡ entries_of old.trace)

  app_still : (a : ℕ) → e.who ≡ App a → Tells (App a) conn (ends_in old) (ends_in new) old.posts new.posts old.trace new.trace → Stays
  app_still a who tells =
      let there : conn_of p.world.ends (App a) ≡ Some conn = conn_here p.world.ends conn e (App a) is.apart at who in
      let play = is.apps_play a e (ap (end_if p.world.ends) there ∙ at) in
      let s : Exporter = play.player in
      let none : s.out ≡ [] = play.plays.quiet in
      let post = post_at p.world old.bus old.posts conn e is.carried at in
      let told = tells.0 s (post_of e) play.there post in
      let apps : new.apps ≡ old.apps = told.apps ∙ ap (λ o. set old.apps a (record s { out = o })) (sym none) ∙ set_same old.apps a s play.there in
      let posts : new.posts ≡ old.posts = told.posts_are ∙ ap (λ o. set old.posts conn (all_said o (post_of e))) none ∙ set_same old.posts conn (post_of e) post in
      (same_stage tells.1.0 apps tells.1.1 posts, told.wrote ∙ ap (λ o. entries_of old.trace ++ map (did a) o) none ∙ append-nil (entries_of old.trace))

  reader_still : (r : ℕ) → e.who ≡ Reader r → Tells (Reader r) conn (ends_in old) (ends_in new) old.posts new.posts old.trace new.trace → Stays
  reader_still r who tells =
      let there : conn_of p.world.ends (Reader r) ≡ Some conn = conn_here p.world.ends conn e (Reader r) is.apart at who in
      let play = is.readers_play r e (ap (end_if p.world.ends) there ∙ at) in
      let s : ReaderState = play.player in
      let none : s.out ≡ [] = play.plays.quiet in
      let told = tells.0 s play.there in
      let all = told.tells (post_below p.world old.bus old.posts conn e is.carried at) in
      let readers : new.readers ≡ old.readers = told.readers ∙ ap (λ o. set old.readers r (record s { out = o })) (sym none) ∙ set_same old.readers r s play.there in
      let posts : new.posts ≡ old.posts = all.posts_are ∙ ap (λ o. changed_at conn (all_sent (messages o)) old.posts) none ∙ changed_none conn old.posts in
      (same_stage tells.1.0 tells.1.1 readers posts, all.wrote ∙ ap (λ o. entries_of old.trace ++ flat_map (told_by r old.posts) o) none ∙ append-nil (entries_of old.trace))

  registry_still : e.who ≡ The_registry → Tells The_registry conn (ends_in old) (ends_in new) old.posts new.posts old.trace new.trace → Stays
  registry_still who tells =
      let zero_is : 0 ≡ conn = first_conn p.world.ends conn is.apart is.first (conn_here p.world.ends conn e The_registry is.apart at who) in
      let at_first : end_at p.world.ends 0 ≡ Some e = ap (end_at p.world.ends) zero_is ∙ at in
      let r : Registry = old.registry in
      let none : r.out ≡ [] = (plays_registry r p.world.ends e is.registry_plays at_first).1 in
      let posts_ = posts_first p.world.ends e at_first in
      let are : old.posts ≡ post_of e ∷ posts_.0 = is.carried.posts_are ∙ posts_.1 in
      let first = tells.0 (post_of e) posts_.0 are in
      let told = first.told in
      let registry : new.registry ≡ r = told.registry ∙ ap (λ o. record r { out = o }) (sym none) in
      let posts : new.posts ≡ old.posts = first.posts_are ∙ ap (λ q. q ∷ posts_.0) (told.post ∙ ap (λ o. all_sent o (post_of e)) none) ∙ sym are in
      (same_stage registry tells.1.0 tells.1.1 posts, told.wrote ∙ ap (λ o. entries_of old.trace ++ map (sent The_registry) o) none ∙ append-nil (entries_of old.trace))

  pub still : Tells e.who conn (ends_in old) (ends_in new) old.posts new.posts old.trace new.trace → Stays
  still t = by e.who refl t
    where
      by : (who : Party) → e.who ≡ who → Tells who conn (ends_in old) (ends_in new) old.posts new.posts old.trace new.trace → Stays
      by The_bus who tells = absurd (not_bus p.world.ends conn e is.apart at who)
      by The_registry who tells = registry_still who tells
      by (App a) who tells = app_still a who tells
      by (Reader r) who tells = reader_still r who tells
