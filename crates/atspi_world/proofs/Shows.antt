-- What a reader shows.
use Rattle.std.proofs.Common.{◌≡◌, ℕ, ◌<◌, ◌≤◌, List, [], ◌∷◌, ◌++◌, length, Option, None, Some, refl, sym, ap, ◌∙◌, subst, arith}
use Rattle.std.specs.Prelude.{slice_get}
use Rattle.std.proofs.lemmas.List.{map-append}
use Rattle.std.proofs.lemmas.Option.{slice_get_within}
use Rattle.atspi_script_lines.specs.declared.line.Line.TheVariants as lines
use Rattle.atspi_script_lines.specs.declared.line.Party.TheVariants.{App, Reader}
use Rattle.atspi_protocol.specs.following.ReaderState.{ReaderState}
use Rattle.atspi_trace_events.specs.declared.event.Event.TheVariants.{Show}
use Rattle.atspi_trace_events.specs.declared.shown.ShownRow.{ShownRow}
use Rattle.atspi_world_links.specs.declared.post.Post.{Post}
use Rattle.atspi_trace.specs.Entry.{entry_of, entries_of, showed}
use Rattle.atspi_trace.specs.World.{End, World}
use Rattle.atspi_trace.specs.Ends.{conn_of, end_at, end_if, end_of, party_at, whose}
use Rattle.atspi_trace.specs.Causes.{shows}
use Rattle.atspi_trace.specs.Work.{doing, if_started, no_more, with_conn}
use Rattle.atspi_world_moves.specs.Carried.{post_of, IsCarried}
use Rattle.atspi_world_moves.specs.Linked.{IsLinked}
use Rattle.atspi_trace.specs.play.Playing.{Playing, unique_in, view_in, view_rows}
use Rattle.atspi_trace.specs.play.Plays.{plays}
use Rattle.atspi_world_parties.specs.Shown.{shown_by}
use Rattle.atspi_world.specs.Lines.{WorkDone, WorkOf}
use Rattle.atspi_world.specs.Worlds.{Staged, IsWorld, IsPlaying, Happens}
use Rattle.atspi_world.proofs.Conns.{conn_end, conn_who}
use Rattle.atspi_world.proofs.Lining.{Finds, found_is}
use Rattle.atspi_world.proofs.Segments.{caused_once, shows_is}
use Rattle.atspi_world.proofs.Stays.{Beside, same_world}

-- a place past a list of readers shows nothing
pub none_shown : (readers : List ReaderState) (number : ℕ) (name : Option (List ℕ)) → length readers ≤ number → None ≡ shown_by (slice_get readers number) name
none_shown readers number None past = refl
none_shown readers number (Some name) past = by (slice_get readers number) refl
  where
    by : (o : Option ReaderState) → slice_get readers number ≡ o → None ≡ shown_by o (Some name)
    by None e = refl
    by (Some s) e = let within : number < length readers = slice_get_within readers number s e in absurd (omega (arith, within, past))

-- WHAT A READER SHOWS: it is written, and nothing else changed
pub shown_as : (p : Playing) (conn at reader app : ℕ) (e : End) (post : Post) (rows : Option (List ShownRow)) (old new : Staged) → IsPlaying p old → conn_of p.world.ends (App app) ≡ Some conn
    → conn_of p.world.ends (Reader reader) ≡ Some at → end_at p.world.ends conn ≡ Some e → post ≡ post_of e → rows ≡ shown_by (slice_get old.readers reader) post.name → new.trace ≡ old.trace ++ Show reader app rows ∷ []
    → new.bus ≡ old.bus → new.posts ≡ old.posts → new.given ≡ old.given → new.apps ≡ old.apps → new.readers ≡ old.readers → Beside old new → Happens (plays p (shows at app)) old new
shown_as p conn at reader app e post rows old new playing there place at_e post_is rows_are wrote bus posts given apps readers beside =
    let w : World = p.world in
    let is : IsWorld w old = playing.is in
    let r = conn_end w.ends (Reader reader) at place in
    let who : party_at w.ends at ≡ Reader reader = ap whose r.1 ∙ conn_who w.ends (Reader reader) at r.0 place r.1 in
    let end_is : end_of w.ends (App app) ≡ Some e = ap (end_if w.ends) there ∙ at_e in
    let rows_is : rows ≡ view_rows (view_in p reader (unique_in (end_of w.ends (App app)))) =
    rows_are ∙ ap (λ (q : Post). shown_by (slice_get old.readers reader) q.name) post_is ∙ ap (λ l. shown_by (slice_get l reader) e.unique) playing.readers
    ∙ ap (λ o. view_rows (view_in p reader (unique_in o))) (sym end_is) in
    let carried : IsCarried w new.bus new.posts = subst (λ b. IsCarried w b new.posts) (sym bus) (subst (IsCarried w old.bus) (sym posts) is.carried) in
    let after_ : IsWorld w new = same_world w w old new is refl refl carried (subst (IsLinked w) (sym given) is.linked) is.lives apps readers beside in
    subst (λ h. Happens h old new) (sym (shows_is p at app reader who)) (record {
      is = record { is = after_; readers = readers ∙ playing.readers };
      wrote = ap entries_of wrote ∙ map-append entry_of old.trace (Show reader app rows ∷ []) ∙ ap (λ x. entries_of old.trace ++ showed reader app x ∷ []) rows_is;
    })

pub show_some : (reader app conn : ℕ) (old new : Staged) → Finds (Some conn) (App app) old.posts
    → ((p : Playing) (at : ℕ) → IsPlaying p old → conn_of p.world.ends (App app) ≡ Some conn → conn_of p.world.ends (Reader reader) ≡ Some at → Happens (plays p (shows at app)) old new) → WorkOf (lines.Show reader app) old new
show_some reader app conn old new found shows_ = λ p is free. by p is (conn_of p.world.ends (Reader reader)) refl free
  where
    by : (p : Playing) → IsPlaying p old → (o : Option ℕ) → conn_of p.world.ends (Reader reader) ≡ o → if_started (end_if p.world.ends o) (λ r. if_started (end_of p.world.ends (App app)) no_more) ≡ None
        → WorkDone p (with_conn o (λ k. doing (shows k app))) old new
    by p is None place h = absurd cc
    by p is (Some at) place h = caused_once p (shows at app) old new (shows_ p at is (found_is p.world old (App app) (Some conn) is.is found) place)

-- one of an application that was not started is refused
show_refused : (r a : Option End) → a ≡ None → if_started r (λ x. if_started a no_more) ≡ None → ⊥
show_refused None a e h = cc
show_refused (Some x) None e h = cc
show_refused (Some x) (Some y) e h = cc

pub show_none : (reader app : ℕ) (old new : Staged) → Finds None (App app) old.posts → WorkOf (lines.Show reader app) old new
show_none reader app old new found = λ p is free.
    absurd (show_refused (end_of p.world.ends (Reader reader)) (end_of p.world.ends (App app)) (ap (end_if p.world.ends) (found_is p.world old (App app) None is.is found)) free)
