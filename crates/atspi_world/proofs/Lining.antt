-- What a line's causes do is what the line does: an edit, an end that stops, a call.
use Rattle.std.proofs.Common.{◌≡◌, ℕ, Bool, true, false, List, Option, None, Some, refl, sym, ap, ◌∙◌, subst}
use Rattle.std.specs.Prelude.{◌≤◌, length, position, slice_get, if◌then◌else◌}
use Rattle.std.proofs.lemmas.Option.{same_Some}
use Rattle.atspi_tree_model.specs.declared.edit.Edit.{Edit}
use Rattle.atspi_script_lines.specs.declared.deed.Deed.{Deed}
use Rattle.atspi_script_lines.specs.declared.line.Line.TheVariants as lines
use Rattle.atspi_script_lines.specs.declared.line.Party.{Party}
use Rattle.atspi_script_lines.specs.declared.line.Party.TheVariants.{Registry as The_registry, App, Reader}
use Rattle.atspi_world_links.specs.declared.post.Post.{Post}
use Rattle.atspi_trace.specs.World.{Standing, here, stopped, away, End, World}
use Rattle.atspi_trace.specs.Ends.{is_here, same_party, conn_of, end_at, end_if, end_of, stops}
use Rattle.atspi_trace.specs.Causes.{does, edits, calls, exits}
use Rattle.atspi_trace.specs.Work.{Refusal, dead, edit_refusal, if_started, if_here, no_more, doing, with_conn, name_of}
use Rattle.atspi_world_moves.specs.Carried.{post_of, IsCarried, IsDone}
use Rattle.atspi_world_moves.specs.Linked.{IsLinked}
use Rattle.atspi_world_moves.proofs.Staying.{lives_so}
use Rattle.atspi_world_moves.proofs.Ties.{conn_is, post_at}
use Rattle.atspi_trace.specs.play.Playing.{Playing, view_in, held_by}
use Rattle.atspi_trace.specs.play.Plays.{plays}
use Rattle.atspi_trace.specs.play.Played.{if_viewed, refused}
use Rattle.atspi_world.specs.Lines.{CausedAt, WorkDone, LineDoneElse}
use Rattle.atspi_world_parties.specs.Refusals.{first_refusal, refusal_of}
use Rattle.atspi_world_parties.specs.Asked.{EditIsRefused}
use Rattle.atspi_world.specs.Refusals.{RefusedElse, CallAtIsRefused}
use Rattle.atspi_world_parties.specs.declared.refusing.Refusal as fault
use Rattle.atspi_world.specs.Worlds.{Staged, IsWorld, IsPlaying, Happens}
use Rattle.atspi_world.proofs.Conns.{conn_end, conn_who}
use Rattle.atspi_world.proofs.Segments.{caused_once}
use Rattle.atspi_world.proofs.Stays.{Beside, same_world, parts_kept, only_happens}

-- what the search for a party's connection says
abbrev pub Finds : Option ℕ → Party → List Post → Type 0
Finds o who posts = length posts ≤ 4294967296 → o ≡ position (λ (p : Post). same_party p.who who) posts

pub found_is : (w : World) (old : Staged) (who : Party) (o : Option ℕ) → IsWorld w old → Finds o who old.posts → conn_of w.ends who ≡ o
found_is w old who o is h = sym (conn_is w old.bus old.posts who is.carried) ∙ sym (h is.carried.few)

pub find_none : (o : Option ℕ) (who : Party) (posts : List Post) → ((k : ℕ) → o ≡ Some k → ⊥) → Finds o who posts → Finds None who posts
find_none None who posts none h = h
find_none (Some k) who posts none h = absurd (none k refl)

-- a party that was started and is here, where a line asks for more
here_then : (o : Option End) (e : End) (then_ : End → Option Refusal) → o ≡ Some e → if_started o (λ x. if_here x no_more) ≡ None → if_started o (λ x. if_here x then_) ≡ then_ e
here_then None e then_ is free = absurd cc
here_then (Some x) e then_ is free = by (is_here x.standing) free ∙ ap then_ (same_Some x e is)
  where
    by : (b : Bool) → (if b then no_more x else Some dead) ≡ None → (if b then then_ x else Some dead) ≡ then_ x
    by true h = refl
    by false h = absurd cc

stands_here : (s : Standing) (b : Option Refusal) → (if is_here s then b else Some dead) ≡ None → s ≡ here
stands_here here b h = refl
stands_here stopped b h = absurd cc
stands_here away b h = absurd cc

here_is : (o : Option End) (e : End) → o ≡ Some e → if_started o (λ x. if_here x no_more) ≡ None → e.standing ≡ here
here_is None e is free = absurd cc
here_is (Some x) e is free = ap (λ (y : End). y.standing) (sym (same_Some x e is)) ∙ stands_here x.standing None free

not_there : (o : Option End) (then_ : End → Option Refusal) → o ≡ None → if_started o then_ ≡ None → ⊥
not_there None then_ e h = cc
not_there (Some x) then_ e h = cc

call_then : (r a : Option End) (x y : End) (f : End → Option Refusal) → r ≡ Some x → a ≡ Some y → if_started r (λ u. if_started a (λ b. if_here u no_more)) ≡ None
    → if_started r (λ u. if_started a (λ b. if_here u (λ c. f b))) ≡ f y
call_then None a x y f ri ai free = absurd cc
call_then (Some u) None x y f ri ai free = absurd cc
call_then (Some u) (Some b) x y f ri ai free = by (is_here u.standing) free ∙ ap f (same_Some b y ai)
  where
    by : (t : Bool) → (if t then no_more u else Some dead) ≡ None → (if t then f b else Some dead) ≡ f b
    by true h = refl
    by false h = absurd cc

-- AN EDIT: it is refused as the application refuses it
pub edit_is : (app : ℕ) (edit : Edit) (conn : ℕ) (old : Staged) (why : Option Refusal) → Finds (Some conn) (App app) old.posts → EditIsRefused why old.apps app edit
    → (p : Playing) → IsPlaying p old → first_refusal p.world (lines.Edit app edit) ≡ None → refused p (lines.Edit app edit) ≡ why
edit_is app edit conn old why found says = λ p is free.
    let w = p.world in
    let there = found_is w old (App app) (Some conn) is.is found in
    let e = conn_end w.ends (App app) conn there in
    let e_is : end_of w.ends (App app) ≡ Some e.0 = ap (end_if w.ends) there ∙ e.1 in
    let play = is.is.apps_play app e.0 e_is in
    here_then (end_of w.ends (App app)) e.0 (λ a. edit_refusal edit a.role) e_is free ∙ ap (edit_refusal edit) play.plays.role_is ∙ says play.player play.there

pub edit_some : (app : ℕ) (edit : Edit) (conn : ℕ) (old new : Staged) → Finds (Some conn) (App app) old.posts
    → ((p : Playing) → IsPlaying p old → conn_of p.world.ends (App app) ≡ Some conn → Happens (plays p (edits conn edit)) old new) → EditIsRefused None old.apps app edit → LineDoneElse (lines.Edit app edit) old new
edit_some app edit conn old new found does_ accepts = λ p is free.
    let there = found_is p.world old (App app) (Some conn) is.is found in
    record {
      not_refused = edit_is app edit conn old None found accepts p is free;
      done = subst (λ o. WorkDone p (with_conn o (λ k. doing (edits k edit))) old new) (sym there) (caused_once p (edits conn edit) old new (does_ p is there));
    }

pub edit_none : (app : ℕ) (edit : Edit) (old new : Staged) → Finds None (App app) old.posts → LineDoneElse (lines.Edit app edit) old new
edit_none app edit old new found = λ p is free.
    absurd (not_there (end_of p.world.ends (App app)) (λ e. if_here e no_more) (ap (end_if p.world.ends) (found_is p.world old (App app) None is.is found)) free)

pub edit_refused : (app : ℕ) (edit : Edit) (conn : ℕ) (old : Staged) (why : fault.Refusal) → Finds (Some conn) (App app) old.posts → EditIsRefused (Some (refusal_of why)) old.apps app edit
    → RefusedElse (lines.Edit app edit) why old
edit_refused app edit conn old why found says = edit_is app edit conn old (Some (refusal_of why)) found says

-- AN END THAT STOPS
pub exit_some : (who : Party) (conn : ℕ) (old new : Staged) → same_party who The_registry ≡ false → Finds (Some conn) who old.posts
    → ((w : World) (e : End) → IsCarried w old.bus old.posts → end_at w.ends conn ≡ Some e → IsDone (does w (exits conn)) new.bus new.posts old.trace new.trace)
    → ((w : World) (e : End) → IsLinked w old.given → end_at w.ends conn ≡ Some e → e.standing ≡ here → same_party e.who The_registry ≡ false → IsLinked (does w (exits conn)).world new.given)
    → new.apps ≡ old.apps → new.readers ≡ old.readers → Beside old new → CausedAt who exits old new
exit_some who conn old new other found does_ linked apps readers beside = λ p k e is there at stands.
    let same : conn ≡ k = same_Some conn k (sym (found_is p.world old who (Some conn) is.is found) ∙ there) in
    subst (λ n. Happens (plays p (exits n)) old new) same (by p e is (subst (λ n. end_at p.world.ends n ≡ Some e) (sym same) at) stands)
  where
    by : (p : Playing) (e : End) → IsPlaying p old → end_at p.world.ends conn ≡ Some e → e.standing ≡ here → Happens (plays p (exits conn)) old new
    by p e is at stands =
        let w = p.world in
        let v : World = (does w (exits conn)).world in
        let done = does_ w e is.is.carried at in
        let apart : same_party e.who The_registry ≡ false = ap (λ z. same_party z The_registry) (conn_who w.ends who conn e (found_is w old who (Some conn) is.is found) at) ∙ other in
        let links : IsLinked v new.given = linked w e is.is.linked at stands apart in
        let after_ : IsWorld v new =
        same_world w v old new is.is (parts_kept stops (λ y. refl) w.ends conn) refl done.tied links (lives_so v new.given links) apps readers beside in
        only_happens p (does w (exits conn)) old new is after_ readers done.wrote

pub exit_none : (who : Party) (old new : Staged) → Finds None who old.posts → CausedAt who exits old new
exit_none who old new found = λ p k e is there at stands. let no : None ≡ Some k = sym (found_is p.world old who None is.is found) ∙ there in absurd cc

pub exit_line : (who : Party) (old new : Staged) → CausedAt who exits old new → (p : Playing) → IsPlaying p old → if_started (end_of p.world.ends who) (λ e. if_here e no_more) ≡ None
    → WorkDone p (with_conn (conn_of p.world.ends who) (λ k. doing (exits k))) old new
exit_line who old new does_ p is free = by (conn_of p.world.ends who) refl free
  where
    by : (o : Option ℕ) → conn_of p.world.ends who ≡ o → if_started (end_if p.world.ends o) (λ e. if_here e no_more) ≡ None → WorkDone p (with_conn o (λ k. doing (exits k))) old new
    by None there h = absurd cc
    by (Some k) there h = (let e = conn_end p.world.ends who k there in caused_once p (exits k) old new (does_ p k e.0 is there e.1 (here_is (end_at p.world.ends k) e.0 e.1 h)))

-- A CALL: it is refused as the reader refuses it
pub call_is : (reader app node : ℕ) (deed : Deed) (conn callee : ℕ) (old : Staged) (why : Option Refusal) → Finds (Some conn) (Reader reader) old.posts → Finds (Some callee) (App app) old.posts
    → CallAtIsRefused why old.readers reader old.posts callee → (p : Playing) → IsPlaying p old → first_refusal p.world (lines.Call reader app node deed) ≡ None → refused p (lines.Call reader app node deed) ≡ why
call_is reader app node deed conn callee old why found other says = λ p is free.
    let w = p.world in
    let there = found_is w old (Reader reader) (Some conn) is.is found in
    let there' = found_is w old (App app) (Some callee) is.is other in
    let r = conn_end w.ends (Reader reader) conn there in
    let a = conn_end w.ends (App app) callee there' in
    let r_is : end_of w.ends (Reader reader) ≡ Some r.0 = ap (end_if w.ends) there ∙ r.1 in
    let a_is : end_of w.ends (App app) ≡ Some a.0 = ap (end_if w.ends) there' ∙ a.1 in
    let play = is.is.readers_play reader r.0 r_is in
    let mine : slice_get p.readers reader ≡ Some play.player = ap (λ l. slice_get l reader) (sym is.readers) ∙ play.there in
    call_then (end_of w.ends (Reader reader)) (end_of w.ends (App app)) r.0 a.0 (λ z. if_viewed (view_in p reader z.unique)) r_is a_is free
    ∙ ap (λ o. if_viewed (held_by o a.0.unique)) mine
    ∙ says (post_of a.0) (post_at w old.bus old.posts callee a.0 is.is.carried a.1) play.player play.there

pub call_some : (reader app node : ℕ) (deed : Deed) (conn callee : ℕ) (old new : Staged) → Finds (Some conn) (Reader reader) old.posts → Finds (Some callee) (App app) old.posts
    → ((p : Playing) (e : End) → IsPlaying p old → conn_of p.world.ends (Reader reader) ≡ Some conn → end_at p.world.ends callee ≡ Some e → Happens (plays p (calls conn (name_of (Some e)) node deed)) old new)
    → CallAtIsRefused None old.readers reader old.posts callee → LineDoneElse (lines.Call reader app node deed) old new
call_some reader app node deed conn callee old new found other does_ accepts = λ p is free.
    let w = p.world in
    let there = found_is w old (Reader reader) (Some conn) is.is found in
    let there' = found_is w old (App app) (Some callee) is.is other in
    let e = conn_end w.ends (App app) callee there' in
    let end_is : end_of w.ends (App app) ≡ Some e.0 = ap (end_if w.ends) there' ∙ e.1 in
    record {
      not_refused = call_is reader app node deed conn callee old None found other accepts p is free;
      done = subst (λ o. WorkDone p (with_conn o (λ k. doing (calls k (name_of (end_of w.ends (App app))) node deed))) old new) (sym there)
          (subst (λ x. WorkDone p (doing (calls conn (name_of x) node deed)) old new) (sym end_is) (caused_once p (calls conn (name_of (Some e.0)) node deed) old new (does_ p e.0 is there e.1)));
    }

pub call_refused : (reader app node : ℕ) (deed : Deed) (conn callee : ℕ) (old : Staged) (why : fault.Refusal) → Finds (Some conn) (Reader reader) old.posts → Finds (Some callee) (App app) old.posts
    → CallAtIsRefused (Some (refusal_of why)) old.readers reader old.posts callee → RefusedElse (lines.Call reader app node deed) why old
call_refused reader app node deed conn callee old why found other says = call_is reader app node deed conn callee old (Some (refusal_of why)) found other says

pub call_none : (reader app node : ℕ) (deed : Deed) (old new : Staged) → Finds None (Reader reader) old.posts → LineDoneElse (lines.Call reader app node deed) old new
call_none reader app node deed old new found = λ p is free.
    absurd (not_there (end_of p.world.ends (Reader reader)) (λ x. if_started (end_of p.world.ends (App app)) (λ b. if_here x no_more))
    (ap (end_if p.world.ends) (found_is p.world old (Reader reader) None is.is found)) free)

no_callee : (r a : Option End) → a ≡ None → if_started r (λ x. if_started a (λ b. if_here x no_more)) ≡ None → ⊥
no_callee None a e h = cc
no_callee (Some x) None e h = cc
no_callee (Some x) (Some y) e h = cc

pub callee_none : (reader app node : ℕ) (deed : Deed) (old new : Staged) → Finds None (App app) old.posts → LineDoneElse (lines.Call reader app node deed) old new
callee_none reader app node deed old new found = λ p is free.
    absurd (no_callee (end_of p.world.ends (Reader reader)) (end_of p.world.ends (App app)) (ap (end_if p.world.ends) (found_is p.world old (App app) None is.is found)) free)
