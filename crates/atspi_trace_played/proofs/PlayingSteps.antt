-- The causes of a script that are a reader's: another quota, a start, a call of its user's, what it shows.
use Rattle.std.proofs.Common.{◌≡◌, ℕ, zero, suc, false, List, [], ◌∷◌, ◌++◌, Option, None, Some, refl, sym, ap, ◌∙◌, subst}
use Rattle.std.specs.Prelude.{slice_get, slice_set}
use Rattle.std.specs.List.{AllByRecursion}
use Rattle.std.proofs.lemmas.List.{append-nil}
use Rattle.atspi_script_lines.specs.declared.deed.Deed.{Deed}
use Rattle.atspi_script_lines.specs.declared.line.Line.{Line}
use Rattle.atspi_script_lines.specs.declared.line.Party.{Party}
use Rattle.atspi_script_lines.specs.declared.line.Party.TheVariants.{App, Reader}
use Rattle.atspi_protocol.specs.declared.following.question.Question.TheVariants.{Hello, GetPart}
use Rattle.atspi_protocol.specs.declared.news.part.PartName.{PartName}
use Rattle.atspi_protocol.specs.following.Calls.{asking, user_call}
use Rattle.atspi_protocol.specs.following.ReaderState.{ReaderState, begins as begins_reader}
use Rattle.atspi_protocol.specs.following.Takes.{starts, reader_calls}
use Rattle.atspi_trace.specs.Entry.{Entry, sent, showed}
use Rattle.atspi_trace.specs.World.{Hearer, a_reader, End, World, first_registry, first_world}
use Rattle.atspi_trace.specs.Ends.{is_reader, whose, with_end, party_at, end_at, end_of, number_of, reader_count}
use Rattle.atspi_trace.specs.Hearing.{holding_of}
use Rattle.atspi_trace.specs.Causes as causes
use Rattle.atspi_trace.specs.Causes.{Cause, renews, starts_reader, calls, shows, does, on_end, called, shown, reader_sends, asks, first_hearer, rows_held}
use Rattle.atspi_trace.specs.Work.{Work, cause, next_of}
use Rattle.atspi_trace.specs.Due.{is_lost}
use Rattle.atspi_trace_laws.specs.laws.NineLaws.{Everywhere}
use Rattle.atspi_trace_caches.specs.settled.Laws.{AsksOfNode}
use Rattle.atspi_trace_laws.proofs.OfOrder.Parties.{no_none, same_some, false_true}
use Rattle.atspi_trace_laws.proofs.OfOrder.Effects.{reader_role}
use Rattle.atspi_trace_laws.proofs.OfOrder.Plain.{user_plain}
use Rattle.atspi_trace_laws.proofs.OfOrder.Shape.{RoleFits, Shape}
use Rattle.atspi_trace_laws.proofs.OfOrder.Shaped.{new_reader}
use Rattle.atspi_trace_laws.proofs.OfReaders.Fates.{hello_read}
use Rattle.atspi_trace.specs.play.Playing.{Playing, Happened, silent, held_by, unique_in, view_in, view_rows}
use Rattle.atspi_trace.specs.play.Plays.{only, with_reader, plays}
use Rattle.atspi_trace_played.proofs.Facts.{SeesWell, Tied}
use Rattle.atspi_trace_played.proofs.Pieces.{Pieces, Skips}
use Rattle.atspi_trace_played.proofs.PlayingEnds.{NoReader, Apart, untouched_same}
use Rattle.atspi_trace_played.proofs.PlayingLists.{nodes_none, AsksNoPart}
use Rattle.atspi_trace_played.proofs.PlayingStage.{Stage, before, shape, allowed, ground_behind, stage_with, tied_still, stage_apart}
use Rattle.atspi_trace_played.proofs.PlayingTied.{Changed, changed_at, tied_changed, tied_joined}

-- the reader at a connection
pub hearer_at : (w : World) (e : End) (r : ℕ) → RoleFits e.who e.role → e.who ≡ Reader r → (h : Hearer) × (e.role ≡ a_reader h)
hearer_at w e r f who = reader_role e.role r (subst (λ p. RoleFits p e.role) who f)

no_part : (name path : List ℕ) (part : PartName) → Hello ≡ GetPart name path part → ⊥
no_part name path part h = cc

hello_asks_none : (who : Party) → AsksNoPart (sent who (asking 1 Hello))
hello_asks_none (Reader r) = λ name path part h. no_part name path part (same_some Hello (GetPart name path part) (sym hello_read ∙ h))
hello_asks_none who = tt

user_asks_none : (who : Party) (serial : ℕ) (name : List ℕ) (node : ℕ) (deed : Deed) → AsksNoPart (sent who (user_call serial name node deed))
user_asks_none (Reader r) serial name node deed = λ n path part h. no_none (GetPart n path part) (sym (user_plain serial name node deed) ∙ h)
user_asks_none who serial name node deed = tt

pub other_party : (q r : ℕ) → (q ≡ r → ⊥) → Reader r ≡ Reader q → ⊥
other_party q r other h = other (sym (ap number_of h))

-- what is shown by a reader, and what becomes of the one with a number
abbrev shows_so : Playing → ℕ → ℕ → Party → Happened
shows_so p conn app (Reader reader) = record { now = p; entries = showed reader app (view_rows (view_in p reader (unique_in (end_of p.world.ends (App app))))) ∷ [] }
shows_so p conn app who = only p (does p.world (shows conn app))

abbrev becomes : List ReaderState → ℕ → (ReaderState → ReaderState) → Option ReaderState → List ReaderState
becomes readers r change None = readers
becomes readers r change (Some s) = slice_set readers r (change s)

with_known : (r : ℕ) (change : ReaderState → ReaderState) (readers : List ReaderState) (s : ReaderState) → slice_get readers r ≡ Some s → with_reader r change readers ≡ slice_set readers r (change s)
with_known r change readers s at = ap (becomes readers r change) at

-- a call of its user's changes a reader's end
called_changed : (w v : World) (conn r : ℕ) (e : End) (h : Hearer) (name : List ℕ) (node : ℕ) (deed : Deed) → Shape w → end_at w.ends conn ≡ Some e → e.who ≡ Reader r
    → v.ends ≡ with_end conn (reader_sends (record h { next = suc h.next }) (user_call h.next name node deed)) w.ends → Changed w v r (record h { next = suc h.next })
called_changed w v conn r e h name node deed s there who is =
    changed_at w v conn r e (record h { next = suc h.next }) (reader_sends (record h { next = suc h.next }) (user_call h.next name node deed)) s there who is (λ x. refl) refl

module _ (pieces : Pieces) (script : List Line) (es : List Entry) (p : Playing) (work rest : Work) (more : List Line) where
  -- A QUOTA BEGINS ANEW
  pub renews_step : (quota : ℕ) → Stage script es p work more → next_of p.world work ≡ cause (renews quota) p.world rest → Stage script (es ++ (plays p (renews quota)).entries) (plays p (renews quota)).now rest more
  renews_step quota st is =
      stage_with pieces script es p work rest more (renews quota) st is [] refl (record {
        tied = λ k r d there who. absurd (nobody k r d there who);
        count = refl;
        of_nodes = subst (Everywhere AsksOfNode) (sym (append-nil es)) st.tied.of_nodes;
      })
    where
      nobody : (k r : ℕ) (d : End) → end_at (first_world quota).ends k ≡ Some d → d.who ≡ Reader r → ⊥
      nobody zero r d there who = false_true (ap is_reader (ap (λ (x : End). x.who) (same_some first_registry d there) ∙ who))
      nobody (suc k) r d there who = no_none d there

  -- A READER STARTS
  pub start_step : Stage script es p work more → next_of p.world work ≡ cause starts_reader p.world rest → is_lost (does p.world starts_reader).world ≡ false
      → Stage script (es ++ (plays p starts_reader).entries) (plays p starts_reader).now rest more
  start_step st is lives =
      let v : World = (does p.world starts_reader).world in
      let ys : List Entry = (does p.world starts_reader).entries in
      let g = before pieces script es p work rest more starts_reader st is in
      let after = ground_behind pieces script es p work rest more starts_reader st is lives in
      stage_with pieces script es p work rest more starts_reader st is (p.readers ++ silent (starts begins_reader) ∷ []) lives
      (tied_joined es (es ++ ys) p v (new_reader p.world) (asks Hello first_hearer) (silent (starts begins_reader)) refl refl refl
      (λ k r e h s there who role t. tied_still pieces script es p work rest more starts_reader st is lives k r e h s (tt, (tt, tt)) tt there who role t) (record {
        asks = pieces.asks_first;
        sees = pieces.sees_first script es p.world g after;
        wants = pieces.wants_first script es p.world g after;
      }) (nodes_none es ys st.tied.of_nodes (tt, (hello_asks_none (Reader (reader_count p.world.ends)), tt))) st.tied)

  -- A READER SHOWS WHAT IT HAS
  pub show_step : (conn app : ℕ) → Stage script es p work more → next_of p.world work ≡ cause (shows conn app) p.world rest → Stage script (es ++ (plays p (shows conn app)).entries) (plays p (shows conn app)).now rest more
  show_step conn app st is =
      let a = allowed pieces script es p work rest more (shows conn app) st is in
      let e : End = a.0 in
      let r : ℕ = a.1 in
      let there : end_at p.world.ends conn ≡ Some e = a.2 in
      let who : e.who ≡ Reader r = a.3 in
      let o = st.tied.tied conn r e there who in
      let h : Hearer = o.0 in
      let s : ReaderState = o.2.0 in
      let g = before pieces script es p work rest more (shows conn app) st is in
      let due = (pieces.shows_due script es p.world conn r app e h s g there who o.1 o.2.2).0 in
      let party : party_at p.world.ends conn ≡ Reader r = ap whose there ∙ who in
      let done : does p.world (shows conn app) ≡ shown p.world conn app (a_reader h) = ap (λ x. on_end p.world x (λ e. shown p.world conn app e.role)) there ∙ ap (shown p.world conn app) o.1 in
      let wrote : (does p.world (shows conn app)).entries ≡ showed r app (rows_held (holding_of app h.holds)) ∷ [] =
      ap (λ (d : causes.Done). d.entries) done ∙ ap (λ w. showed (number_of w) app (rows_held (holding_of app h.holds)) ∷ []) party in
      let stays : (does p.world (shows conn app)).world ≡ p.world = ap (λ (d : causes.Done). d.world) done in
      let played : plays p (shows conn app) ≡ record { now = p; entries = showed r app (view_rows (view_in p r (unique_in (end_of p.world.ends (App app))))) ∷ [] } = ap (shows_so p conn app) party in
      let same : (plays p (shows conn app)).entries ≡ (does p.world (shows conn app)).entries =
      ap (λ (x : Happened). x.entries) played
      ∙ ap (λ rows. showed r app rows ∷ []) (ap (λ x. view_rows (held_by x (unique_in (end_of p.world.ends (App app))))) o.2.1 ∙ due) ∙ sym wrote in
      let now : (plays p (shows conn app)).now ≡ record p { world = (does p.world (shows conn app)).world } = ap (λ (x : Happened). x.now) played ∙ ap (λ w. record p { world = w }) (sym stays) in
      let apart : Apart p.world (does p.world (shows conn app)) =
      record { entries = subst (AllByRecursion NoReader) (sym wrote) (tt, tt); ends = untouched_same p.world (does p.world (shows conn app)).world (ap (λ (x : World). x.ends) stays) } in
      let stage = stage_apart pieces script es p work rest more (shows conn app) st is apart (λ q. tt) (ap is_lost stays ∙ st.here) in
      subst (λ l. Stage script (es ++ l) (plays p (shows conn app)).now rest more) (sym same) (subst (λ x. Stage script (es ++ (does p.world (shows conn app)).entries) x rest more) (sym now) stage)

  -- A CALL OF A READER'S USER
  pub call_step : (conn : ℕ) (name : List ℕ) (node : ℕ) (deed : Deed) → Stage script es p work more → next_of p.world work ≡ cause (calls conn name node deed) p.world rest
      → is_lost (does p.world (calls conn name node deed)).world ≡ false → Stage script (es ++ (plays p (calls conn name node deed)).entries) (plays p (calls conn name node deed)).now rest more
  call_step conn name node deed st is lives =
      let c : Cause = calls conn name node deed in
      let a = allowed pieces script es p work rest more c st is in
      let e : End = a.0 in
      let r : ℕ = a.1 in
      let there : end_at p.world.ends conn ≡ Some e = a.2.there in
      let who : e.who ≡ Reader r = a.3 in
      let o = st.tied.tied conn r e there who in
      let h : Hearer = o.0 in
      let s : ReaderState = o.2.0 in
      let t : ReaderState = silent (reader_calls s name node deed) in
      let v : World = (does p.world c).world in
      let ys : List Entry = (does p.world c).entries in
      let g = before pieces script es p work rest more c st is in
      let after = ground_behind pieces script es p work rest more c st is lives in
      let party : party_at p.world.ends conn ≡ Reader r = ap whose there ∙ who in
      let done : does p.world c ≡ called p.world conn name node deed (a_reader h) = ap (λ x. on_end p.world x (λ e. called p.world conn name node deed e.role)) there ∙ ap (called p.world conn name node deed) o.1 in
      let wrote : ys ≡ sent (party_at p.world.ends conn) (user_call h.next name node deed) ∷ [] = ap (λ (d : causes.Done). d.entries) done in
      let none : AllByRecursion AsksNoPart ys = subst (AllByRecursion AsksNoPart) (sym wrote) (user_asks_none (party_at p.world.ends conn) h.next name node deed, tt) in
      let skips : (q : ℕ) → AllByRecursion (Skips q) ys = λ q. subst (AllByRecursion (Skips q)) (sym wrote) (tt, tt) in
      let changed = called_changed p.world v conn r e h name node deed (shape pieces script es p work rest more c st is) there who (ap (λ (d : causes.Done). d.world.ends) done) in
      let seen : SeesWell (es ++ ys) r s = pieces.sees_more script es ys p.world v None None r s g after (skips r) o.2.2.sees in
      let its : Tied (es ++ ys) v r (record h { next = suc h.next }) t = record {
        asks = pieces.asks_called h s name node deed o.2.2.asks;
        sees = record { seen = seen.seen; apps = seen.apps; asking = seen.asking; to_come = seen.to_come; unnamed = seen.unnamed };
        wants = pieces.wants_called script es p.world conn r name node deed e h s g after a.2 who o.1 o.2.2.wants;
      } in
      let tied = tied_changed es (es ++ ys) p v r (record h { next = suc h.next }) s t changed o.2.1
      (λ k q d g x other at is_it role tie. tied_still pieces script es p work rest more c st is lives k q d g x (skips q) (λ same. other_party q r other (sym party ∙ same)) at is_it role tie) its
      (nodes_none es ys st.tied.of_nodes none) st.tied in
      let readers : with_reader (number_of (party_at p.world.ends conn)) (λ s. silent (reader_calls s name node deed)) p.readers ≡ slice_set p.readers r t =
      ap (λ w. with_reader (number_of w) (λ s. silent (reader_calls s name node deed)) p.readers) party ∙ with_known r (λ s. silent (reader_calls s name node deed)) p.readers s o.2.1 in
      subst (λ l. Stage script (es ++ ys) (record { world = v; readers = l }) rest more) (sym readers)
      (stage_with pieces script es p work rest more c st is (slice_set p.readers r t) lives tied)
