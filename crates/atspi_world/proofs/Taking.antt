-- An end takes the message that lies whole at it, and what it did then is told: what both an application and the registry do.
use Rattle.std.proofs.Common.{◌≡◌, ℕ, zero, suc, ◌≤◌, Bool, List, [], ◌∷◌, ◌++◌, length, map, set, Option, None, Some, refl, sym, ap, ◌∙◌, subst, append-nil, append_assoc}
use Rattle.std.specs.Prelude.{slice_get, slice_set}
use Rattle.std.specs.List.{AllByRecursion}
use Rattle.std.proofs.lemmas.List.{map-append}
use Rattle.std.proofs.lemmas.Option.{same_Some}
use Rattle.atspi_tree_model.specs.Forest.{Forest}
use Rattle.atspi_tree_model.specs.declared.step.Step.{Step}
use Rattle.atspi_tree_model.specs.Row.{TreeRow}
use Rattle.atspi_tree_model.specs.RowRules.{rows}
use Rattle.atspi_tree_model.specs.Tree.{after}
use Rattle.atspi_script_lines.specs.declared.line.Party.{Party}
use Rattle.atspi_message.specs.Envelope.{Envelope}
use Rattle.atspi_message.specs.Bytes.{IsMessage, written}
use Rattle.atspi_protocol.specs.announcing.Announced.{announced}
use Rattle.atspi_protocol.specs.exporting.Exporter.{Happening, steps, sends, hears, deaf, Exporter}
use Rattle.atspi_protocol.specs.exporting.Starting.{name_or_empty}
use Rattle.atspi_match.specs.routing.Queues.{Bus}
use Rattle.atspi_world_links.specs.declared.post.Post.{Post}
use Rattle.atspi_trace.specs.Entry.{entry_of, entries_of, got}
use Rattle.atspi_trace.specs.World.{Role, Said, Letter, End, World}
use Rattle.atspi_trace.specs.Ends.{end_at, with_end, plain, put_up, taken_down}
use Rattle.atspi_trace.specs.Causes as causes
use Rattle.atspi_trace.specs.Causes.{at_end, saids, announced_if, on_end, taken, gets, does}
use Rattle.atspi_world_moves.specs.Carried.{bytes_up, post_of, IsSendable, AreSendable, HasMark, IsCarried}
use Rattle.atspi_world_links.specs.Changes.{changed_at}
use Rattle.atspi_world_moves.specs.Linked.{IsLinked, IsWhole}
use Rattle.atspi_world_links.proofs.Changes.{length-changed, map-changed}
use Rattle.atspi_world_moves.proofs.Coming.{off_link, linked_taken}
use Rattle.atspi_world_moves.proofs.Downs.{wait_same}
use Rattle.atspi_world_moves.proofs.Senders.{sender_named}
use Rattle.atspi_world_moves.proofs.Views.{with-changed, all_with, within_more}
use Rattle.atspi_trace.specs.play.Playing.{Playing}
use Rattle.atspi_trace.specs.play.Plays.{got_at, got_by, plays}
use Rattle.atspi_world_parties.specs.Doing.{sent_on, all_sent, CanBeWritten}
use Rattle.atspi_world_parties.specs.Taken as taking
use Rattle.atspi_world.specs.inner.Taken.{GotWhole}
use Rattle.atspi_world.specs.Worlds.{Staged, IsPlaying}
use Rattle.atspi_world.proofs.Asking.{AsksTruly}
use Rattle.atspi_world.proofs.AskingApps.{SendsTruly}
use Rattle.atspi_world.proofs.Sayings.{up-append}
use Rattle.atspi_world.proofs.Signals.{all-append}

-- ONE OF MANY, where it is known
module _ {X : Type 0} where
  pub changed_known : (f : X → X) (xs : List X) (i : ℕ) (x : X) → slice_get xs i ≡ Some x → changed_at i f xs ≡ set xs i (f x)
  changed_known f [] zero x at = refl
  changed_known f [] (suc i) x at = refl
  changed_known f (y ∷ ys) zero x at = ap (λ z. f z ∷ ys) (same_Some y x at)
  changed_known f (y ∷ ys) (suc i) x at = ap (λ l. y ∷ l) (changed_known f ys i x at)

  pub get_changed : (f : X → X) (xs : List X) (i : ℕ) (x : X) → slice_get xs i ≡ Some x → slice_get (changed_at i f xs) i ≡ Some (f x)
  get_changed f [] zero x at = absurd cc
  get_changed f [] (suc i) x at = absurd cc
  get_changed f (y ∷ ys) zero x at = ap (λ z. Some (f z)) (same_Some y x at)
  get_changed f (y ∷ ys) (suc i) x at = get_changed f ys i x at

pub with_at : (f : End → End) (ends : List End) (conn : ℕ) (e : End) → end_at ends conn ≡ Some e → end_at (with_end conn f ends) conn ≡ Some (f e)
with_at f ends conn e at = ap (λ l. end_at l conn) (with-changed f ends conn) ∙ get_changed f ends conn e at

-- two changes that agree where they are made
pub with_same : (f g : End → End) (ends : List End) (conn : ℕ) (e : End) → end_at ends conn ≡ Some e → f e ≡ g e → with_end conn f ends ≡ with_end conn g ends
with_same f g [] zero e at h = refl
with_same f g [] (suc conn) e at h = refl
with_same f g (x ∷ xs) zero e at h = ap (λ y. y ∷ xs) (ap f (same_Some x e at) ∙ h ∙ sym (ap g (same_Some x e at)))
with_same f g (x ∷ xs) (suc conn) e at h = ap (λ l. x ∷ l) (with_same f g xs conn e at h)

-- AN END SENDS MESSAGES and may change its role
abbrev pub sends_all : List Envelope → Role → End → End
sends_all es role e = put_up (map plain es) (record e { role = role })

all_up : (es : List Envelope) (p : Post) → all_sent es p ≡ record p { up = p.up ++ bytes_up (map plain es) }
all_up [] p = ap (λ l. record p { up = l }) (sym (append-nil p.up))
all_up (e ∷ es) p = all_up es (sent_on e p) ∙ ap (λ l. record p { up = l }) (append_assoc p.up (written e) (bytes_up (map plain es)))

all_put : (es : List Envelope) (role : Role) (e : End) → post_of (sends_all es role e) ≡ all_sent es (post_of e)
all_put es role e = ap (λ l. record (post_of e) { up = l }) (up-append e.up (map plain es)) ∙ sym (all_up es (post_of e))

pub all_sendable : (es : List Envelope) → AllByRecursion (λ e. IsMessage e (written e)) es → AllByRecursion AsksTruly es → AllByRecursion (λ (said : Said). IsSendable said.message) (map plain es)
all_sendable [] w a = tt
all_sendable (e ∷ es) w a = (record { is = w.0; reads = a.0 }, all_sendable es w.1 a.1)

pub all_carried : (w : World) (conn : ℕ) (es : List Envelope) (role : Role) (b : Bus) (posts posts' : List Post) → IsCarried w b posts → AllByRecursion (λ (said : Said). IsSendable said.message) (map plain es)
    → posts' ≡ changed_at conn (all_sent es) posts → IsCarried (at_end w conn (sends_all es role)) b posts'
all_carried w conn es role b posts posts' is sendable changed = record {
  bus_is = is.bus_is;
  own_told = is.own_told;
  closings_told = is.closings_told;
  posts_are = changed ∙ ap (changed_at conn (all_sent es)) is.posts_are ∙ sym (map-changed post_of (sends_all es role) (all_sent es) (all_put es role) w.ends conn)
      ∙ ap (map post_of) (sym (with-changed (sends_all es role) w.ends conn));
  few = subst (λ n. n ≤ 4294967296) (sym (ap length changed ∙ length-changed (all_sent es) posts conn)) is.few;
  sendable = all_with AreSendable (sends_all es role) (λ y h. all-append (λ (said : Said). IsSendable said.message) y.up (map plain es) h sendable) conn w.ends is.sendable;
  marked = all_with HasMark (sends_all es role) (λ y h. within_more y.up_moved y.up (map plain es) h) conn w.ends is.marked;
  waits = wait_same (sends_all es role) (λ y. refl) (λ y. refl) w.bus.waiting.queues w.ends conn is.waits;
}

-- what an application sends
pub truly_sendable : (s : Exporter) (f : Forest TreeRow) (a : Option Step) (hs : List Happening) → AllByRecursion CanBeWritten hs → AllByRecursion SendsTruly hs
    → AllByRecursion (λ (said : Said). IsSendable said.message) (saids s f a hs)
truly_sendable s f a [] w g = tt
truly_sendable s f a (steps step ∷ hs) w g = truly_sendable s (after rows f step) (announced_if s.heard step (announced (name_or_empty s.name) f step)) hs w.1 g.1
truly_sendable s f a (sends e ∷ hs) w g = (record { is = w.0; reads = g.0 }, truly_sendable s f None hs w.1 g.1)
truly_sendable s f a (hears listener pattern ∷ hs) w g = truly_sendable s f a hs w.1 g.1
truly_sendable s f a (deaf listener pattern ∷ hs) w g = truly_sendable s f a hs w.1 g.1

-- A MESSAGE COMES WHOLE TO AN END, which took it, or not
pub record IsComing (p : Playing) (conn : ℕ) (old new : Staged) (took : Bool) : Type 0 where
  pub the_end : End
  pub letter : Letter
  pub rest : List Letter
  pub bus : Bus
  pub given : List (List ℕ)
  pub playing : IsPlaying p old
  pub at : end_at p.world.ends conn ≡ Some the_end
  pub link : the_end.down ≡ letter ∷ rest
  pub whole : IsWhole old.bus bus old.given given conn letter.said.message the_end.down_moved
  pub same_bus : new.bus ≡ bus
  pub kits : new.kits ≡ old.kits
  pub spares : new.spares ≡ old.spares

module _ {p : Playing} {conn : ℕ} {old new : Staged} {took : Bool} (x : IsComing p conn old new took) where
  abbrev pub message : Envelope
  message = x.letter.said.message

  -- the world with the message off the link, and the stage before it is taken
  abbrev pub world_off : World
  world_off = off_link p.world conn message x.the_end.down_moved

  abbrev pub stage_mid : Staged
  stage_mid = record old { bus = x.bus; given = x.given }

  both_off : IsCarried world_off x.bus old.posts × IsLinked world_off (slice_set x.given conn [])
  both_off = linked_taken p.world conn x.the_end x.letter x.rest old.bus x.bus old.posts old.given x.given x.playing.is.carried x.playing.is.linked x.at x.link x.whole

  pub carried_off : IsCarried world_off new.bus old.posts
  carried_off = subst (λ b. IsCarried world_off b old.posts) (sym x.same_bus) both_off.0

  pub linked_off : (who : Party) → GotWhole message conn who stage_mid new took → IsLinked world_off new.given
  linked_off who g = subst (IsLinked world_off) (sym g.left) both_off.1

  pub taken_at : end_at world_off.ends conn ≡ Some (taken_down x.the_end)
  taken_at = with_at taken_down p.world.ends conn x.the_end x.at

  pub does_so : does p.world (gets conn) ≡ causes.took world_off conn x.letter x.the_end.who x.the_end.role
  does_so = ap (λ o. on_end p.world o (λ e. taken p.world conn e e.down)) x.at ∙ ap (taken p.world conn x.the_end) x.link

  pub plays_so : (who : Party) → x.the_end.who ≡ who → plays p (gets conn) ≡ got_at p conn who (x.letter ∷ x.rest)
  plays_so who is = ap (got_by p conn) x.at ∙ ap (λ y. got_at p conn y x.the_end.down) is ∙ ap (got_at p conn who) x.link

  pub told_so : (who : Party) (g : GotWhole message conn who stage_mid new took) → entries_of g.mid ≡ entries_of old.trace ++ got who x.letter.from message.serial ∷ []
  told_so who g =
      ap entries_of g.told ∙ map-append entry_of old.trace (taking.got_by who old.posts message ∷ [])
      ∙ ap (λ from. entries_of old.trace ++ got who from message.serial ∷ [])
      (sender_named p.world old.bus old.posts old.given conn x.the_end x.letter x.rest x.playing.is.carried x.playing.is.linked x.at x.link)
