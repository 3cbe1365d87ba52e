-- What an application said is what stands on its link.
use Rattle.std.proofs.Common.{◌≡◌, ℕ, zero, suc, ◌<◌, ◌≤◌, List, [], ◌∷◌, ◌++◌, length, map, set, None, Some, refl, sym, ap, ◌∙◌, subst, append_assoc, append-nil}
use Rattle.std.specs.Prelude.{Option, Ok, slice_get}
use Rattle.std.proofs.lemmas.List.{length-set}
use Rattle.std.proofs.lemmas.Option.{slice_get_within}
use Rattle.std.specs.List.{AllByRecursion}
use Rattle.atspi_tree_model.specs.declared.edit.Edit.{Edit}
use Rattle.atspi_tree_model.specs.declared.step.Step.{Step}
use Rattle.atspi_tree_model.specs.Forest.{Forest}
use Rattle.atspi_tree_model.specs.Row.{TreeRow}
use Rattle.atspi_tree_model.specs.RowRules.{rows}
use Rattle.atspi_tree_model.specs.Tree.{after}
use Rattle.atspi_message.specs.Envelope.{Envelope}
use Rattle.atspi_message.specs.Bytes.{written}
use Rattle.atspi_protocol.specs.announcing.Announced.{announced}
use Rattle.atspi_protocol.specs.exporting.Exporter.{Happening, steps, sends, hears, deaf, Exporter}
use Rattle.atspi_protocol.specs.exporting.Starting.{name_or_empty}
use Rattle.atspi_protocol.specs.exporting.Taking.{app_edits}
use Rattle.atspi_match.specs.routing.Queues.{Bus}
use Rattle.atspi_trace_events.specs.declared.event.Event.{Event}
use Rattle.atspi_script_lines.specs.declared.line.Party.TheVariants.{App}
use Rattle.atspi_world_links.specs.declared.post.Post.{Post}
use Rattle.atspi_trace.specs.Entry.{Entry, entries_of}
use Rattle.atspi_trace.specs.World.{an_application, Said, End, World}
use Rattle.atspi_trace.specs.Ends.{number_of, whose, party_at, conn_of, end_at, end_if}
use Rattle.atspi_trace.specs.Causes.{at_end, saids, announced_if, has_done, did, app_did, edited, edited_to, on_end, edits, does}
use Rattle.atspi_trace.specs.Rules.{rule_in}
use Rattle.atspi_bus_steps.specs.Spoken.{IsRuleNamed}
use Rattle.atspi_world_moves.specs.Carried.{bytes_up, post_of, IsSendable, AreSendable, HasMark, IsCarried, IsDone}
use Rattle.atspi_world_moves.specs.Linked.{IsLinked}
use Rattle.atspi_world_moves.proofs.Linked.{LeavesDown, linked_same}
use Rattle.atspi_world_links.proofs.Changes.{map-changed_known}
use Rattle.atspi_world_moves.proofs.Views.{with-changed, all_with, within_more}
use Rattle.atspi_world_moves.proofs.Downs.{wait_same}
use Rattle.atspi_world_moves.proofs.Ties.{post_at}
use Rattle.atspi_trace.specs.play.Playing.{Playing}
use Rattle.atspi_trace.specs.play.Plays.{only, plays}
use Rattle.atspi_world_parties.specs.Doing.{all_said, quiet, CanBeWritten, EditsAt, TellsAt}
use Rattle.atspi_world.specs.Worlds.{Staged, IsWorld, IsPlaying, Happens}
use Rattle.atspi_world.proofs.Conns.{conn_end, conn_who}
use Rattle.atspi_world.proofs.Plays.{get_set}
use Rattle.atspi_world.proofs.Signals.{all-append, SendsSignal, edited_signals}
use Rattle.atspi_world.proofs.Stays.{Beside, app_world, only_happens}

pub up-append : (xs ys : List Said) → bytes_up (xs ++ ys) ≡ bytes_up xs ++ bytes_up ys
up-append [] ys = refl
up-append (x ∷ xs) ys = ap (λ l. written x.message ++ l) (up-append xs ys) ∙ sym (append_assoc (written x.message) (bytes_up xs) (bytes_up ys))

-- its bytes stand behind those before
said-is : (s : Exporter) (f : Forest TreeRow) (a : Option Step) (hs : List Happening) (p : Post) → all_said hs p ≡ record p { up = p.up ++ bytes_up (saids s f a hs) }
said-is s f a [] p = ap (λ l. record p { up = l }) (sym (append-nil p.up))
said-is s f a (steps step ∷ hs) p = said-is s (after rows f step) (announced_if s.heard step (announced (name_or_empty s.name) f step)) hs p
said-is s f a (sends e ∷ hs) p =
    said-is s f None hs (record p { up = p.up ++ written e }) ∙ ap (λ l. record p { up = l }) (append_assoc p.up (written e) (bytes_up (saids s f None hs)))
said-is s f a (hears listener pattern ∷ hs) p = said-is s f a hs p
said-is s f a (deaf listener pattern ∷ hs) p = said-is s f a hs p

pub done-is : (s t : Exporter) (e : End) → post_of (has_done s t e) ≡ all_said t.out (post_of e)
done-is s t e = ap (λ l. record (post_of e) { up = l }) (up-append e.up (saids s s.tree None t.out)) ∙ sym (said-is s s.tree None t.out (post_of e))

-- a message of one kind asks the bus for no rule
signal_reads : (e : Envelope) → e.kind ≡ 4 → IsRuleNamed e (rule_in e)
signal_reads e four bus one = absurd (no (sym one ∙ four))
  where
    no : ◌≡◌ {A = ℕ} 1 4 → ⊥
    no h = cc

pub signals_sendable : (s : Exporter) (f : Forest TreeRow) (a : Option Step) (hs : List Happening) → AllByRecursion CanBeWritten hs → AllByRecursion SendsSignal hs
    → AllByRecursion (λ (said : Said). IsSendable said.message) (saids s f a hs)
signals_sendable s f a [] w g = tt
signals_sendable s f a (steps step ∷ hs) w g = signals_sendable s (after rows f step) (announced_if s.heard step (announced (name_or_empty s.name) f step)) hs w.1 g.1
signals_sendable s f a (sends e ∷ hs) w g = (record { is = w.0; reads = signal_reads e g.0 }, signals_sendable s f None hs w.1 g.1)
signals_sendable s f a (hears listener pattern ∷ hs) w g = signals_sendable s f a hs w.1 g.1
signals_sendable s f a (deaf listener pattern ∷ hs) w g = signals_sendable s f a hs w.1 g.1

pub done_sendable : (s t : Exporter) (e : End) → AreSendable e → AllByRecursion (λ (said : Said). IsSendable said.message) (saids s s.tree None t.out) → AreSendable (has_done s t e)
done_sendable s t e a b = all-append (λ (said : Said). IsSendable said.message) e.up (saids s s.tree None t.out) a b

-- what an application did, on its link and in the trace
pub told_done : (w : World) (conn a : ℕ) (e : End) (front : List Entry) (s t : Exporter) (b b' : Bus) (posts posts' : List Post) (old new : List Event)
    → IsCarried w b posts → end_at w.ends conn ≡ Some e → e.who ≡ App a → AllByRecursion (λ (said : Said). IsSendable said.message) (saids s s.tree None t.out)
    → b' ≡ b → posts' ≡ set posts conn (all_said t.out (post_of e)) → entries_of new ≡ entries_of old ++ (front ++ map (did a) t.out) → IsDone (app_did w conn front s t) b' posts' old new
told_done w conn a e front s t b b' posts posts' old new is at who can same set_is wrote =
    let number : a ≡ number_of (party_at w.ends conn) = ap number_of (sym who) ∙ ap (λ o. number_of (whose o)) (sym at) in
    record {
      tied = record {
        bus_is = same ∙ is.bus_is;
        own_told = is.own_told;
        closings_told = is.closings_told;
        posts_are = set_is ∙ ap (λ l. set l conn (all_said t.out (post_of e))) is.posts_are ∙ ap (set (map post_of w.ends) conn) (sym (done-is s t e))
            ∙ sym (map-changed_known post_of (has_done s t) w.ends conn e at) ∙ ap (map post_of) (sym (with-changed (has_done s t) w.ends conn));
        few = subst (λ n. n ≤ 4294967296) (sym (ap length set_is ∙ length-set posts conn (all_said t.out (post_of e)))) is.few;
        sendable = all_with AreSendable (has_done s t) (λ x h. done_sendable s t x h can) conn w.ends is.sendable;
        marked = all_with HasMark (has_done s t) (λ x h. within_more x.up_moved x.up (saids s s.tree None t.out) h) conn w.ends is.marked;
        waits = wait_same (has_done s t) (λ x. refl) (λ x. refl) w.bus.waiting.queues w.ends conn is.waits;
      };
      wrote = wrote ∙ ap (λ n. entries_of old ++ (front ++ map (did n) t.out)) number;
    }

pub does-edits : (w : World) (conn : ℕ) (edit : Edit) (e : End) (s t : Exporter) → end_at w.ends conn ≡ Some e → e.role ≡ an_application s → app_edits s edit ≡ Ok t
    → does w (edits conn edit) ≡ app_did w conn [] s t
does-edits w conn edit e s t at role is = ap (λ o. on_end w o (λ x. edited w conn edit x.role)) at ∙ ap (edited w conn edit) role ∙ ap (edited_to w conn s) is

pub set_set : {X : Type 0} (xs : List X) (i : ℕ) (y z : X) → set (set xs i y) i z ≡ set xs i z
set_set [] zero y z = refl
set_set [] (suc i) y z = refl
set_set (x ∷ xs) zero y z = refl
set_set (x ∷ xs) (suc i) y z = ap (λ l. x ∷ l) (set_set xs i y z)

-- what an application did changes none of its down link
pub done_leaves : (s t : Exporter) → LeavesDown (has_done s t)
done_leaves s t = λ e. (refl, refl, refl, refl, refl)

-- an application made an edit, and that is told
pub edit_world : (p : Playing) (conn a : ℕ) (edit : Edit) (old new : Staged) (apps : List Exporter) → IsPlaying p old → conn_of p.world.ends (App a) ≡ Some conn → EditsAt old.apps apps a edit
    → TellsAt apps new.apps a conn old.posts new.posts old.trace new.trace → new.bus ≡ old.bus → new.given ≡ old.given → new.readers ≡ old.readers → Beside old new → Happens (plays p (edits conn edit)) old new
edit_world p conn a edit old new apps playing there edited_ tells bus given readers beside =
    let w : World = p.world in
    let is : IsWorld w old = playing.is in
    let found = conn_end w.ends (App a) conn there in
    let e : End = found.0 in
    let at : end_at w.ends conn ≡ Some e = found.1 in
    let who : e.who ≡ App a = conn_who w.ends (App a) conn e there at in
    let play = is.apps_play a e (ap (end_if w.ends) there ∙ at) in
    let s : Exporter = play.player in
    let d = edited_ s play.there in
    let t : Exporter = d.state in
    let few : a < length old.apps = slice_get_within old.apps a s play.there in
    let put : slice_get apps a ≡ Some t = ap (λ l. slice_get l a) d.apps ∙ get_set old.apps a t few in
    let told = tells t (post_of e) put (post_at w old.bus old.posts conn e is.carried at) in
    let v : World = at_end w conn (has_done s t) in
    let done : IsDone (app_did w conn [] s t) new.bus new.posts old.trace new.trace =
    told_done w conn a e [] s t old.bus new.bus old.posts new.posts old.trace new.trace is.carried at who
    (signals_sendable s s.tree None t.out told.written_ (edited_signals s t edit play.plays.quiet d.edited)) bus told.posts_are told.wrote in
    let linked : IsLinked v new.given = subst (IsLinked v) (sym given) (linked_same w conn (has_done s t) old.given (done_leaves s t) is.linked) in
    let after_ : IsWorld v new =
    app_world w v conn a e (has_done s t) (quiet t) old new (record { ends = refl; swaps = refl; who = λ y. refl }) (record { role_is = refl; quiet = refl }) is there at done.tied linked few
    (told.apps ∙ ap (λ l. set l a (quiet t)) d.apps ∙ set_set old.apps a t (quiet t)) readers beside in
    subst (λ x. Happens (only p x) old new) (sym (does-edits w conn edit e s t at play.plays.role_is d.edited)) (only_happens p (app_did w conn [] s t) old new playing after_ readers done.wrote)
