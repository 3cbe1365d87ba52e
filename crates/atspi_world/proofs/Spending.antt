-- An end that takes a message, or does what its user asks for, spends its serials: so does the world.
use Rattle.std.proofs.Common.{◌≡◌, inl, inr, ℕ, List, [], ◌∷◌, ◌++◌, map, set, Option, Some, refl, sym, ap, ◌∙◌, subst, append-nil}
use Rattle.std.specs.Prelude.{flat_map, slice_get}
use Rattle.std.proofs.lemmas.List.{map-append}
use Rattle.std.proofs.lemmas.Option.{same_Some, slice_get_within}
use Rattle.atspi_tree_model.specs.declared.edit.Edit.{Edit}
use Rattle.atspi_script_lines.specs.declared.deed.Deed.{Deed}
use Rattle.atspi_script_lines.specs.declared.line.Party.{Party}
use Rattle.atspi_script_lines.specs.declared.line.Party.TheVariants.{Bus as The_bus, Registry as The_registry, App, Reader}
use Rattle.atspi_message.specs.Envelope.{Envelope}
use Rattle.atspi_message.specs.Bytes.{written}
use Rattle.atspi_protocol.specs.exporting.Exporter.{Exporter}
use Rattle.atspi_protocol.specs.exporting.Taking.{app_takes}
use Rattle.atspi_protocol.specs.following.ReaderState.{ReaderState}
use Rattle.atspi_protocol.specs.following.Takes.{reader_takes, reader_calls}
use Rattle.atspi_protocol.specs.registering.Steps.{registry_takes}
use Rattle.atspi_match.specs.routing.Queues.{Bus}
use Rattle.atspi_trace.specs.Entry.{Entry, entry_of, entries_of, sent, got}
use Rattle.atspi_trace.specs.World.{Letter, End, World}
use Rattle.atspi_trace.specs.Ends.{end_at, end_if, conn_of, with_end, taken_down, party_at, number_of, whose}
use Rattle.atspi_trace.specs.Causes as causes
use Rattle.atspi_trace.specs.Causes.{app_did, has_done, registry_did, on_end, taken, without_bytes, missing, gets, edits, calls, does}
use Rattle.atspi_world_moves.specs.Carried.{post_of}
use Rattle.atspi_world_moves.specs.Halted.{naming_of}
use Rattle.atspi_world_moves.specs.Linked.{IsWhole, BringsDown}
use Rattle.atspi_world_moves.proofs.Coming.{always_enough}
use Rattle.atspi_world_moves.proofs.Senders.{sender_named}
use Rattle.atspi_world_moves.proofs.Ties.{post_at}
use Rattle.atspi_trace.specs.play.Breaking.{IsPast, IsSpent}
use Rattle.atspi_trace.specs.play.Playing.{Playing, Happened, silent}
use Rattle.atspi_trace.specs.play.Plays.{only, got_at, got_by, reader_did, reader_got, told, with_reader, plays}
use Rattle.atspi_world_parties.specs.Spending.{HasSpentAll}
use Rattle.atspi_world_parties.specs.inner.Spending.{GetsSpent}
use Rattle.atspi_world_parties.specs.Asked.{EditSpends, CallSpends}
use Rattle.atspi_world.specs.Halts.{IsSpentBy}
use Rattle.atspi_world_parties.specs.Taken as taking
use Rattle.atspi_world_parties.specs.Taken.{ends_after}
use Rattle.atspi_world.specs.inner.Taken.{ends_in}
use Rattle.atspi_world.specs.Worlds.{Staged, IsPlaying}
use Rattle.atspi_world.proofs.Apart.{conn_here}
use Rattle.atspi_world.proofs.Conns.{conn_end, conn_who}
use Rattle.atspi_world.proofs.GotMessages.{letter_spelled}
use Rattle.atspi_world.proofs.Plays.{get_set}
use Rattle.atspi_world.proofs.Sayings.{does-edits}
use Rattle.atspi_world.proofs.Segments.{with_reader_is}
use Rattle.atspi_world.proofs.Taking.{get_changed, with_at}
use Rattle.atspi_world.proofs.TakingEnds.{first_conn, plays_registry}

-- what happened spent serials, and this was written of it at first
record Spends (h : Happened) (first : Entry) : Type 0 where
  pub spent : IsSpent h.now
  pub missing : List Entry
  pub front : h.entries ≡ first ∷ missing

-- AN END TAKES THE FIRST MESSAGE of its down link
module _ (p : Playing) (conn : ℕ) (e : End) (letter : Letter) (rest : List Letter) (old : Staged) (playing : IsPlaying p old) (at : end_at p.world.ends conn ≡ Some e) (link : e.down ≡ letter ∷ rest) where
  abbrev m : Envelope
  m = letter.said.message

  abbrev off : World
  off = record p.world { bus = without_bytes conn (missing m e.down_moved) p.world.bus; ends = with_end conn taken_down p.world.ends }

  at_off : end_at off.ends conn ≡ Some (taken_down e)
  at_off = with_at taken_down p.world.ends conn e at

  does_so : does p.world (gets conn) ≡ causes.took off conn letter e.who e.role
  does_so = ap (λ o. on_end p.world o (λ x. taken p.world conn x x.down)) at ∙ ap (taken p.world conn e) link

  plays_so : (who : Party) → e.who ≡ who → plays p (gets conn) ≡ got_at p conn who (letter ∷ rest)
  plays_so who is = ap (got_by p conn) at ∙ ap (λ y. got_at p conn y e.down) is ∙ ap (got_at p conn who) link

  app_spends : (a : ℕ) → e.who ≡ App a → HasSpentAll (App a) (ends_after (App a) m (ends_in old)) → Spends (plays p (gets conn)) (got (App a) letter.from m.serial)
  app_spends a who (t, there, past) =
      let is = playing.is in
      let play = is.apps_play a e (ap (end_if p.world.ends) (conn_here p.world.ends conn e (App a) is.apart at who) ∙ at) in
      let s : Exporter = play.player in
      let next : Exporter = app_takes s m in
      let next_is : t ≡ next = same_Some t next (sym there ∙ get_changed (λ z. app_takes z m) old.apps a s play.there) in
      let front : List Entry = got (App a) letter.from m.serial ∷ [] in
      let does_is : does p.world (gets conn) ≡ app_did off conn front s next = does_so ∙ ap (λ z. causes.took off conn letter z e.role) who ∙ ap (causes.took off conn letter (App a)) play.plays.role_is in
      subst (λ h. Spends h (got (App a) letter.from m.serial)) (sym (plays_so (App a) who))
      (subst (λ d. Spends (only p d) (got (App a) letter.from m.serial)) (sym does_is) (record {
        spent = inr (inl (conn, has_done s next (taken_down e), with_at (has_done s next) off.ends conn (taken_down e) at_off, subst (λ (x : Exporter). IsPast x.next) next_is past));
        missing = map (causes.did (number_of (party_at off.ends conn))) next.out;
        front = refl;
      }))

  registry_spends : e.who ≡ The_registry → HasSpentAll The_registry (ends_after The_registry m (ends_in old)) → Spends (plays p (gets conn)) (got The_registry letter.from m.serial)
  registry_spends who past =
      let is = playing.is in
      let zero_is : 0 ≡ conn = first_conn p.world.ends conn is.apart is.first (conn_here p.world.ends conn e The_registry is.apart at who) in
      let play = plays_registry old.registry p.world.ends e is.registry_plays (ap (end_at p.world.ends) zero_is ∙ at) in
      let step = registry_takes old.registry.state m in
      let does_is = does_so ∙ ap (λ z. causes.took off conn letter z e.role) who ∙ ap (causes.took off conn letter The_registry) play.0 in
      subst (λ h. Spends h (got The_registry letter.from m.serial)) (sym (plays_so The_registry who))
      (subst (λ d. Spends (only p d) (got The_registry letter.from m.serial)) (sym does_is) (record {
        spent = inr (inl (conn, registry_did step (taken_down e), with_at (registry_did step) off.ends conn (taken_down e) at_off, past));
        missing = map (sent The_registry) step.sent;
        front = refl;
      }))

  reader_spends : (r : ℕ) → e.who ≡ Reader r → HasSpentAll (Reader r) (ends_after (Reader r) m (ends_in old)) → Spends (plays p (gets conn)) (got (Reader r) letter.from m.serial)
  reader_spends r who (t, there, past) =
      let is = playing.is in
      let play = is.readers_play r e (ap (end_if p.world.ends) (conn_here p.world.ends conn e (Reader r) is.apart at who) ∙ at) in
      let s : ReaderState = play.player in
      let next : ReaderState = reader_takes s m in
      let next_is : t ≡ next = same_Some t next (sym there ∙ get_changed (λ z. reader_takes z m) old.readers r s play.there) in
      let player : slice_get p.readers r ≡ Some s = ap (λ l. slice_get l r) (sym playing.readers) ∙ play.there in
      let it : plays p (gets conn) ≡ reader_did p conn r letter next = plays_so (Reader r) who ∙ ap (reader_got p conn r letter) player in
      subst (λ h. Spends h (got (Reader r) letter.from m.serial)) (sym it) (record {
        spent = inr (inr (r, silent next, get_set p.readers r (silent next) (slice_get_within p.readers r s player), subst (λ (x : ReaderState). IsPast x.next) next_is past));
        missing = flat_map (told r p.world.ends) next.out;
        front = refl;
      })

  who_spends : HasSpentAll e.who (ends_after e.who m (ends_in old)) → Spends (plays p (gets conn)) (got e.who letter.from m.serial)
  who_spends h = by e.who refl h
    where
      by : (who : Party) → e.who ≡ who → HasSpentAll who (ends_after who m (ends_in old)) → Spends (plays p (gets conn)) (got who letter.from m.serial)
      by The_bus is g = absurd g
      by The_registry is g = registry_spends is g
      by (App a) is g = app_spends a is g
      by (Reader r) is g = reader_spends r is g

  pub got_spent : (b : Bus) (given : List (List ℕ)) (new : Staged) → IsWhole old.bus b old.given given conn m e.down_moved → GetsSpent conn old.posts given (ends_in old) old.trace new.trace → new.posts ≡ old.posts
      → IsSpentBy (plays p (gets conn)) old new
  got_spent b given new whole gets_ stays =
      let it = gets_ (post_of e) (written m) (post_at p.world old.bus old.posts conn e playing.is.carried at) whole.lies in
      let with_ = it.whole m [] (letter_spelled p.world old.given conn e letter rest playing.is.linked at link) (sym (append-nil (written m))) in
      let spends_ = who_spends with_.spent in
      record {
        spent = spends_.spent;
        part = got e.who letter.from m.serial ∷ [];
        missing = spends_.missing;
        front = spends_.front;
        wrote = ap entries_of with_.told ∙ map-append entry_of old.trace (taking.got_by e.who old.posts m ∷ [])
            ∙ ap (λ from. entries_of old.trace ++ got e.who from m.serial ∷ [])
            (sender_named p.world old.bus old.posts old.given conn e letter rest playing.is.carried playing.is.linked at link);
        names = inl (ap (map naming_of) stays);
      }

  pub next_spent : (count : ℕ) (b : Bus) (given : List (List ℕ)) (new : Staged) → BringsDown old.bus b old.posts old.given given conn 18446744073709551615 count → GetsSpent conn old.posts given (ends_in old) old.trace new.trace
      → new.posts ≡ old.posts → IsSpentBy (plays p (gets conn)) old new
  next_spent count b given new brings gets_ stays =
      let enough = always_enough m e.down_moved (letter_spelled p.world old.given conn e letter rest playing.is.linked at link) in
      got_spent b given new ((brings p.world e playing.is.carried playing.is.linked at).whole letter rest link enough).whole gets_ stays

-- AN APPLICATION MAKES AN EDIT of its user
pub edit_spent : (p : Playing) (conn a : ℕ) (edit : Edit) (old new : Staged) → IsPlaying p old → conn_of p.world.ends (App a) ≡ Some conn → EditSpends old.apps a edit → new.trace ≡ old.trace → new.posts ≡ old.posts
    → IsSpentBy (plays p (edits conn edit)) old new
edit_spent p conn a edit old new playing there spends_ same stays =
    let w : World = p.world in
    let found = conn_end w.ends (App a) conn there in
    let e : End = found.0 in
    let play = playing.is.apps_play a e (ap (end_if w.ends) there ∙ found.1) in
    let s : Exporter = play.player in
    let k = spends_ s play.there in
    let d = app_did w conn [] s k.state in
    subst (λ x. IsSpentBy (only p x) old new) (sym (does-edits w conn edit e s k.state found.1 play.plays.role_is k.edited)) (record {
      spent = inr (inl (conn, has_done s k.state e, with_at (has_done s k.state) w.ends conn e found.1, k.spent));
      part = [];
      missing = d.entries;
      front = refl;
      wrote = ap entries_of same ∙ sym (append-nil (entries_of old.trace));
      names = inl (ap (map naming_of) stays);
    })

-- A READER SENDS A CALL of its user
pub call_spent : (p : Playing) (conn r : ℕ) (name : List ℕ) (callee : Option (List ℕ)) (node : ℕ) (deed : Deed) (old new : Staged) → IsPlaying p old → conn_of p.world.ends (Reader r) ≡ Some conn
    → CallSpends old.readers r callee node deed → new.trace ≡ old.trace → new.posts ≡ old.posts → IsSpentBy (plays p (calls conn name node deed)) old new
call_spent p conn r name callee node deed old new playing there spends_ same stays =
    let w : World = p.world in
    let found = conn_end w.ends (Reader r) conn there in
    let e : End = found.0 in
    let play = playing.is.readers_play r e (ap (end_if w.ends) there ∙ found.1) in
    let s : ReaderState = play.player in
    let k = spends_ s play.there in
    let h = plays p (calls conn name node deed) in
    let change : ReaderState → ReaderState = λ z. silent (reader_calls z name node deed) in
    let mine : slice_get p.readers r ≡ Some s = ap (λ l. slice_get l r) (sym playing.readers) ∙ play.there in
    let party : party_at w.ends conn ≡ Reader r = ap whose found.1 ∙ conn_who w.ends (Reader r) conn e there found.1 in
    let readers_are : h.now.readers ≡ set p.readers r (change s) = ap (λ q. with_reader (number_of q) change p.readers) party ∙ with_reader_is r change p.readers s mine in
    record {
      spent = inr (inr (r, change s, ap (λ l. slice_get l r) readers_are ∙ get_set p.readers r (change s) (slice_get_within p.readers r s mine), k.spent));
      part = [];
      missing = h.entries;
      front = refl;
      wrote = ap entries_of same ∙ sym (append-nil (entries_of old.trace));
      names = inl (ap (map naming_of) stays);
    }
