-- A reader takes the message that lies whole at it: it asks at most one call of its own, and tells what it tells.
use Rattle.std.proofs.Common.{◌≡◌, inl, inr, ℕ, suc, ◌+◌, Bool, List, [], ◌∷◌, ◌++◌, set, Some, refl, sym, ap, ◌∙◌, subst, append-nil, append_assoc, arith}
use Rattle.std.specs.Prelude.{flat_map, slice_get}
use Rattle.std.specs.List.{fold, AllByRecursion}
use Rattle.std.proofs.lemmas.Option.{slice_get_within}
use Rattle.atspi_script_lines.specs.declared.line.Party.TheVariants.{Reader}
use Rattle.atspi_message.specs.Envelope.{Envelope}
use Rattle.atspi_protocol.specs.following.Calls.{asking}
use Rattle.atspi_protocol.specs.following.ReaderState.{Done, sends, speaks, tells_end, ReaderState}
use Rattle.atspi_protocol.specs.following.Takes.{reader_takes}
use Rattle.atspi_match.specs.routing.Queues.{Bus}
use Rattle.atspi_world_links.specs.declared.post.Post.{Post}
use Rattle.atspi_trace.specs.Entry.{Entry, entries_of, got, spoke, gone}
use Rattle.atspi_trace.specs.World.{a_reader, Hearer, Role, Letter, End, World}
use Rattle.atspi_trace.specs.Ends.{end_at, end_if, conn_of, taken_down}
use Rattle.atspi_trace.specs.Causes as causes
use Rattle.atspi_trace.specs.Causes.{asks, at_end, gets, does}
use Rattle.atspi_trace.specs.Due.{asks_at}
use Rattle.atspi_trace.specs.Hearing.{hears_letter}
use Rattle.atspi_world_moves.specs.Carried.{IsCarried}
use Rattle.atspi_world_moves.proofs.Linked.{linked_same}
use Rattle.atspi_world_moves.proofs.Senders.{app_names}
use Rattle.atspi_world_moves.proofs.Ties.{post_below}
use Rattle.atspi_trace.specs.play.Playing.{Playing, silent}
use Rattle.atspi_trace.specs.play.Plays.{of_app, told, asked, asked_with, reader_did, reader_got, plays}
use Rattle.atspi_world_parties.specs.Doing.{told_by, messages}
use Rattle.atspi_world.specs.inner.Taken.{GotWhole}
use Rattle.atspi_world.specs.Worlds.{Staged, IsWorld, Happens}
use Rattle.atspi_world.proofs.Apart.{conn_here}
use Rattle.atspi_world.proofs.AskingOnce.{AsksOnce, reader_asks_once}
use Rattle.atspi_world.proofs.AskingQuestions.{question_read}
use Rattle.atspi_world.proofs.AskingReaders.{takes_left, reader_asks, messages_ask}
use Rattle.atspi_world.proofs.AskingTelling.{IsTold, before_asking}
use Rattle.atspi_world.proofs.Sayings.{set_set}
use Rattle.atspi_world.proofs.Stays.{with_twice, reader_world}
use Rattle.atspi_world.proofs.Taking.{IsComing, message, world_off, stage_mid, carried_off, linked_off, taken_at, does_so, plays_so, told_so, changed_known, get_changed, with_same, sends_all, all_sendable, all_carried}

-- WHAT IS TOLD is told of the applications of the world
one_told : (w : World) (b : Bus) (posts : List Post) (reader : ℕ) → IsCarried w b posts → (d : Done) → told_by reader posts d ≡ told reader w.ends d
one_told w b posts reader is (sends m) = refl
one_told w b posts reader is (speaks name line) = ap (λ o. of_app o (λ app. spoke reader app line)) (app_names w b posts name is)
one_told w b posts reader is (tells_end name) = ap (λ o. of_app o (λ app. gone reader app)) (app_names w b posts name is)

all_told : (w : World) (b : Bus) (posts : List Post) (reader : ℕ) → IsCarried w b posts → (ds : List Done) → flat_map (told_by reader posts) ds ≡ flat_map (told reader w.ends) ds
all_told w b posts reader is [] = refl
all_told w b posts reader is (d ∷ ds) =
    ap (λ l. l ++ flat_map (told_by reader posts) ds) (one_told w b posts reader is d) ∙ ap (λ l. told reader w.ends d ++ l) (all_told w b posts reader is ds)

-- WHAT IS ASKED waits, and nothing that is told does
told_asks : (conn : ℕ) (w : World) (ds more : List Done) → AllByRecursion IsTold ds → fold (asked conn) w (ds ++ more) ≡ fold (asked conn) w more
told_asks conn w [] more a = refl
told_asks conn w (sends m ∷ ds) more a = absurd a.0
told_asks conn w (speaks name line ∷ ds) more a = told_asks conn w ds more a.1
told_asks conn w (tells_end name ∷ ds) more a = told_asks conn w ds more a.1

-- what the reader asked then, as the laws see it
record Asks (conn : ℕ) (v : World) (s t : ReaderState) (h : Hearer) : Type 0 where
  pub hearer : Hearer
  pub next : t.next ≡ hearer.next
  pub world : (w : World) → w ≡ at_end v conn (λ y. record y { role = a_reader h }) → fold (asked conn) w t.out ≡ at_end v conn (sends_all (messages t.out) (a_reader hearer))

asks_so : (conn : ℕ) (v : World) (e : End) (s : ReaderState) (m : Envelope) (h : Hearer) → end_at v.ends conn ≡ Some e → s.next ≡ h.next → AsksOnce s (before_asking s m) (reader_takes s m) → Asks conn v s (reader_takes s m) h
asks_so conn v e s m h at next (inl a) = record {
  hearer = h;
  next = a.next ∙ next;
  world = λ w is.
      ap (fold (asked conn) w) (sym (append-nil (reader_takes s m).out)) ∙ told_asks conn w (reader_takes s m).out [] a.tells ∙ is
      ∙ ap (λ l. record v { ends = l }) (with_same (λ y. record y { role = a_reader h }) (sends_all [] (a_reader h)) v.ends conn e at (ap (λ l. record e { role = a_reader h; up = l }) (sym (append-nil e.up))))
      ∙ ap (λ es. at_end v conn (sends_all es (a_reader h))) (sym a.sends_none);
}
asks_so conn v e s m h at next (inr a) =
    let t : ReaderState = reader_takes s m in
    let hears : End → End = λ y. record y { role = a_reader h } in
    let n_is : asking s.next a.question ≡ asking h.next a.question = ap (λ n. asking n a.question) next in
    let own : Envelope = asking s.next a.question in
    record {
      hearer = asks a.question h;
      next = a.next ∙ ap (λ n. n + 1) next ∙ one_more h.next;
      world = λ w is.
          ap (fold (asked conn) w) a.out ∙ told_asks conn w a.told (sends own ∷ []) a.tells ∙ ap (asked_with conn w own) (question_read s.next a.question)
          ∙ ap (λ x. at_end x conn (asks_at own a.question)) is
          ∙ ap (λ l. record v { ends = l }) (with_twice hears (asks_at own a.question) v.ends conn
          ∙ with_same (λ y. asks_at own a.question (hears y)) (sends_all (own ∷ []) (a_reader (asks a.question h))) v.ends conn e at refl)
          ∙ ap (λ es. at_end v conn (sends_all es (a_reader (asks a.question h)))) (sym a.sends_one);
    }
  where
    one_more : (n : ℕ) → n + 1 ≡ suc n
    one_more n = omega arith

module _ {p : Playing} {conn : ℕ} {old new : Staged} {took : Bool} (x : IsComing p conn old new took) where
  pub reader_got_so : (r : ℕ) → x.the_end.who ≡ Reader r → GotWhole (message x) conn (Reader r) (stage_mid x) new took → Happens (plays p (gets conn)) old new
  reader_got_so r who g =
      let e : End = x.the_end in
      let at = x.at in
      let letter : Letter = x.letter in
      let playing = x.playing in
      let w : World = p.world in
      let is : IsWorld w old = playing.is in
      let there : conn_of w.ends (Reader r) ≡ Some conn = conn_here w.ends conn e (Reader r) is.apart at who in
      let play = is.readers_play r e (ap (end_if w.ends) there ∙ at) in
      let s : ReaderState = play.player in
      let t : ReaderState = reader_takes s (message x) in
      let quiet : s.out ≡ [] = play.plays.quiet in
      let h : Hearer = hears_letter play.plays.hearer (world_off x).ends letter in
      let told_ = g.tells.0 t (get_changed (λ z. reader_takes z (message x)) old.readers r s play.there) in
      let all = told_.tells (post_below w old.bus old.posts conn e is.carried at) in
      let asks_ : Asks conn (world_off x) s t h = asks_so conn (world_off x) (taken_down e) s (message x) h (taken_at x) play.plays.next (reader_asks_once s (message x) quiet) in
      let es : List Envelope = messages t.out in
      let role : Role = a_reader asks_.hearer in
      let sent_ = sends_all es role in
      let u : World = at_end (world_off x) conn sent_ in
      let carried : IsCarried u new.bus new.posts =
      all_carried (world_off x) conn es role new.bus old.posts new.posts (carried_off x) (all_sendable es all.written_ (messages_ask t.out (reader_asks s (message x) quiet play.plays.left))) all.posts_are in
      let after_ : IsWorld u new =
      reader_world w u conn r e (λ y. sent_ (taken_down y)) (silent t) old new
      (record { ends = with_twice taken_down sent_ w.ends conn; swaps = refl; who = λ y. refl })
      (record { hearer = asks_.hearer; role_is = refl; next = asks_.next; quiet = refl; left = takes_left s (message x) play.plays.left }) is there at carried
      (linked_same (world_off x) conn sent_ new.given (λ y. (refl, refl, refl, refl, refl)) (linked_off x (Reader r) g)) (slice_get_within old.readers r s play.there)
      (told_.readers ∙ ap (λ l. set l r (silent t)) (changed_known (λ z. reader_takes z (message x)) old.readers r s play.there) ∙ set_set old.readers r t (silent t)) g.tells.1.1
      (record { registry = g.tells.1.0; kits = x.kits; spares = x.spares }) in
      let does_is : (does w (gets conn)).world ≡ at_end (world_off x) conn (λ y. record y { role = a_reader h }) =
      ap (λ (d : causes.Done). d.world) (does_so x ∙ ap (λ z. causes.took (world_off x) conn letter z e.role) who ∙ ap (causes.took (world_off x) conn letter (Reader r)) play.plays.role_is) in
      let world_is : fold (asked conn) (does w (gets conn)).world t.out ≡ u = asks_.world (does w (gets conn)).world does_is in
      let front : List Entry = got (Reader r) letter.from (message x).serial ∷ [] in
      let player : slice_get p.readers r ≡ Some s = ap (λ l. slice_get l r) (sym playing.readers) ∙ play.there in
      let it : plays p (gets conn) ≡ reader_did p conn r letter t = plays_so x (Reader r) who ∙ ap (reader_got p conn r letter) player in
      subst (λ z. Happens z old new) (sym it) (record {
        is = record {
          is = subst (λ z. IsWorld z new) (sym world_is) after_;
          readers = told_.readers ∙ ap (λ l. set l r (silent t)) (changed_known (λ z. reader_takes z (message x)) old.readers r s play.there) ∙ set_set old.readers r t (silent t)
              ∙ ap (λ l. set l r (silent t)) playing.readers;
        };
        wrote = all.wrote ∙ ap (λ l. l ++ flat_map (told_by r old.posts) t.out) (told_so x (Reader r) g) ∙ append_assoc (entries_of old.trace) front (flat_map (told_by r old.posts) t.out)
            ∙ ap (λ l. entries_of old.trace ++ (front ++ l)) (all_told w old.bus old.posts r is.carried t.out);
      })
