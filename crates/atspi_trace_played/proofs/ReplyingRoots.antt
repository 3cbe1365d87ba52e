-- EACH CHILD THAT THE REGISTRY TELLS OF IS AN APPLICATION'S ROOT, along a lawful trace: only applications ask to be embedded, each with its root's path.
use Rattle.std.proofs.Common.{◌≡◌, ◌⊎◌, inl, inr, ℕ, zero, suc, ◌+◌, Bool, true, false, List, [], ◌∷◌, ◌++◌, length, map, Option, Some, refl, sym, ap, ◌∙◌, subst}
use Rattle.std.specs.Prelude.{codes}
use Rattle.std.specs.List.{AllByRecursion}
use Rattle.std.proofs.lemmas.List.{append-nil}
use lib.Utf8.{encode}
use Rattle.atspi_tree_model.specs.Path.{path_of}
use Rattle.atspi_script_lines.specs.declared.limits.TheConstants.{QUOTA_MOST}
use Rattle.atspi_script_lines.specs.declared.line.Line.{Line}
use Rattle.atspi_script_lines.specs.declared.line.Party.{Party}
use Rattle.atspi_script_lines.specs.declared.line.Party.TheVariants.{Bus as The_bus, Registry, App, Reader}
use Rattle.atspi_message.specs.Envelope.{Envelope}
use Rattle.atspi_protocol.specs.registering.RegistryState.{RegistryState}
use Rattle.atspi_protocol.specs.registering.Answers.{reference_in}
use Rattle.atspi_protocol.specs.registering.Steps.{RegistryStep, registry_takes}
use Rattle.atspi_protocol.specs.exporting.Exporter.{StartCall, hello, add_match, get_registered_events, embed, Exporter}
use Rattle.atspi_protocol.specs.exporting.Starting.{start_call}
use Rattle.atspi_protocol.specs.exporting.Taking.{app_takes}
use Rattle.atspi_protocol.specs.following.Calls.{user_call}
use Rattle.atspi_match.specs.routing.Members.{is_text}
use Rattle.atspi_protocol.specs.declared.following.question.Question.{Question}
use Rattle.atspi_trace.specs.Entry.{Entry, sent, got}
use Rattle.atspi_trace.specs.World.{Role, the_registry, a_reader, Hearer, Said, first_registry, first_world, End, World}
use Rattle.atspi_trace.specs.Ends.{same_party, end_at, with_end, taken_down, stops, number_of, whose}
use Rattle.atspi_trace.specs.Carrying as carrying
use Rattle.atspi_trace.specs.Carrying.{Carried}
use Rattle.atspi_trace.specs.Causes.{Done, at_end, has_done, asks, reader_sends, registry_did, app_starts, reader_starts}
use Rattle.atspi_trace.specs.Due.{asks_as, asks_at}
use Rattle.atspi_trace.specs.Hearing.{hears_letter}
use Rattle.atspi_trace_laws.specs.laws.Words.{messages, message}
use Rattle.atspi_trace_laws.proofs.OfOrder.Parties.{no_none, same_some, false_true, all_append}
use Rattle.atspi_trace_laws.proofs.OfOrder.Allowed.{MovedUp, MovedDown, Asks}
use Rattle.atspi_trace_laws.proofs.OfOrder.Frame.{Over, over_same, over_both, over_with, over_at, at_changed, joined_cases}
use Rattle.atspi_trace_laws.proofs.OfOrder.Shape.{RoleFits, Shape}
use Rattle.atspi_trace_laws.proofs.OfOrder.Shaped.{new_app, new_reader, app_joined, received_at}
use Rattle.atspi_trace_laws.proofs.OfOrder.Effects.{received, RegistryTakes, Effect, resets, app_joins, reader_joins, app_edited, app_took, reader_called, swapped, exited_, showed_, told_busy, told_quiet, bus_took, bus_ended, registry_took, reader_took}
use Rattle.atspi_trace_laws.proofs.OfOrder.Along.{Keeps}
use Rattle.atspi_trace_laws.proofs.OfOrder.Growing.{Grows, Shaped, And, grown}
use Rattle.atspi_trace_laws.proofs.OfSerials.Serial.{messages_more}
use Rattle.atspi_trace_laws.proofs.OfHeard.Quiet.{heard_all}
use Rattle.atspi_trace_laws.proofs.OfSigned.Mail.{NameIs, IsMail}
use Rattle.atspi_trace_laws.proofs.OfMissed.Arriving.{Goes_on, took_goes, ended_goes}
use Rattle.atspi_trace_laws.proofs.OfMissed.Registering.{NotRegistry, none_sent, did_quiet, bus_quiet, role_registry, same_state, all_sent}
use Rattle.atspi_trace_caches.proofs.OfServed.HearingWords.{IsStart, Well, words_grow, said_well}
use Rattle.atspi_trace_caches.proofs.OfServed.ListingTold.{SameChildren, same_children, no_registry}
use Rattle.atspi_trace_caches.proofs.OfSettled.Embedders.{an_embedder}
use Rattle.atspi_trace_caches.proofs.OfSettled.Settling_ground as under
use Rattle.atspi_trace_caches.proofs.OfSettled.Settling_ground.{ground_keep, Grounds, grounds, no_bus}
use Rattle.atspi_trace_played.proofs.Facts.{Ground}
use Rattle.atspi_trace_played.proofs.ReplyingPaths.{PathsOnly, PathsIn, AreSo, registry_paths}

abbrev pub IsRoot : List ℕ → Type 0
IsRoot path = path ≡ path_of 0

-- A CALL OF EMBED tells the root's path
abbrev embeds_with : Envelope → Type 0
embeds_with m = m.member ≡ Some (codes "Embed") → IsRoot (reference_in m.body).1

no_embed : (m : Envelope) → is_text m.member (codes "Embed") ≡ false → embeds_with m
no_embed m none is = absurd (false_true (sym none ∙ ap (λ o. is_text o (codes "Embed")) is))

start_embeds : (name : List ℕ) (call : StartCall) → embeds_with (start_call name call)
unfolding encode path_of
start_embeds name embed is = refl
start_embeds name hello is = no_embed (start_call name hello) refl is
start_embeds name add_match is = no_embed (start_call name add_match) refl is
start_embeds name get_registered_events is = no_embed (start_call name get_registered_events) refl is

-- WHAT IS KEPT
pub record Roots (es : List Entry) (w : World) : Type 0 where
  pub told : PathsIn IsRoot (messages es Registry)
  pub children : (k : ℕ) (e : End) (s : RegistryState) → end_at w.ends k ≡ Some e → e.role ≡ the_registry s → AreSo IsRoot s.children

abbrev Under : List Entry → World → Type 0
Under es w = And under.Ground Well es w

under_keeps : Keeps (Shaped Under)
under_keeps = grown under.Ground Well ground_keep (words_grow under.Ground (λ es w g. (grounds es w g).trees))

told_as_before : (es ys : List Entry) → PathsIn IsRoot (messages es Registry) → AllByRecursion NotRegistry ys → PathsIn IsRoot (messages (es ++ ys) Registry)
told_as_before es ys a quiet = subst (PathsIn IsRoot) (sym (messages_more es ys Registry ∙ ap (λ l. messages es Registry ++ l) (none_sent ys quiet) ∙ append-nil (messages es Registry))) a

quiet_roots : (es ys : List Entry) (w v : World) → Roots es w → Over SameChildren w.ends v.ends → AllByRecursion NotRegistry ys → Roots (es ++ ys) v
quiet_roots es ys w v i o quiet = record {
  told = told_as_before es ys i.told quiet;
  children = λ k e s there role. let x = o.back k e there in i.children k x.0 s x.1 (x.2 s role);
}

abbrev is_registry : Role → Bool
is_registry (the_registry s) = true
is_registry role = false

joined_roots : (es ys : List Entry) (w v : World) (nu : End) → Roots es w → v.ends ≡ w.ends ++ nu ∷ [] → is_registry nu.role ≡ false → AllByRecursion NotRegistry ys → Roots (es ++ ys) v
joined_roots es ys w v nu i is none quiet = record {
  told = told_as_before es ys i.told quiet;
  children = λ k e s there role. by k e s role (joined_cases w.ends nu k e (ap (λ l. end_at l k) (sym is) ∙ there));
}
  where
    by : (k : ℕ) (e : End) (s : RegistryState) → e.role ≡ the_registry s → (end_at w.ends k ≡ Some e) ⊎ ((k ≡ length w.ends) × (e ≡ nu)) → AreSo IsRoot s.children
    by k e s role (inl there) = i.children k e s there role
    by k e s role (inr h) = absurd (false_true (sym none ∙ ap is_registry (ap (λ (x : End). x.role) (sym h.1) ∙ role)))

abbrev children_in : Role → List (List ℕ × List ℕ)
children_in (the_registry s) = s.children
children_in role = []

first_roots : (es : List Entry) (quota : ℕ) → PathsIn IsRoot (messages es Registry) → Roots es (first_world quota)
first_roots es quota told = record { told = told; children = λ k e s there role. subst (AreSo IsRoot) (ap children_in (ap (λ (x : End). x.role) (sym (first_only k e there)) ∙ role)) tt }
  where
    first_only : (k : ℕ) (e : End) → end_at (first_registry ∷ []) k ≡ Some e → e ≡ first_registry
    first_only zero e h = sym (same_some first_registry e h)
    first_only (suc k) e h = absurd (no_none e h)

alike_in : (e d : End) → d.role ≡ e.role → SameChildren e d
alike_in e d same s role = sym same ∙ role

goes_alike : (xs zs : List End) → Over Goes_on xs zs → Over SameChildren xs zs
goes_alike xs zs o = record { size = o.size; back = λ k d there. let x = o.back k d there in (x.0, x.1, alike_in x.0 d x.2.role) }

module _ (es : List Entry) (w : World) (d : Done) (i : Roots es w) where
  by_over : (x : Done) → d ≡ x → Over SameChildren w.ends x.world.ends → AllByRecursion NotRegistry x.entries → Roots (es ++ d.entries) d.world
  by_over x is o quiet = subst (λ y. Roots (es ++ y.entries) y.world) (sym is) (quiet_roots es x.entries w x.world i o quiet)

  by_end : (x : Done) → d ≡ x → (f : End → End) (conn : ℕ) → ((e : End) → SameChildren e (f e)) → x.world.ends ≡ with_end conn f w.ends → AllByRecursion NotRegistry x.entries → Roots (es ++ d.entries) d.world
  by_end x is f conn same ends quiet = by_over x is (subst (Over SameChildren w.ends) (sym ends) (over_with SameChildren same_children f same conn w.ends)) quiet

  by_both : (x : Done) → d ≡ x → (f : End → End) (conn : ℕ) → ((e : End) → SameChildren e (f e)) → x.world.ends ≡ with_end conn f (with_end conn taken_down w.ends) → AllByRecursion NotRegistry x.entries → Roots (es ++ d.entries) d.world
  by_both x is f conn same ends quiet =
      by_over x is
      (subst (Over SameChildren w.ends) (sym ends)
      (over_both SameChildren same_children w.ends (with_end conn taken_down w.ends) (with_end conn f (with_end conn taken_down w.ends)) (over_with SameChildren same_children taken_down (λ e. alike_in e (taken_down e) refl) conn w.ends)
      (over_with SameChildren same_children f same conn (with_end conn taken_down w.ends)))) quiet

  by_same : (x : Done) → d ≡ x → x.world.ends ≡ w.ends → AllByRecursion NotRegistry x.entries → Roots (es ++ d.entries) d.world
  by_same x is ends quiet = by_over x is (subst (Over SameChildren w.ends) (sym ends) (over_same SameChildren same_children w.ends)) quiet

-- THE REGISTRY TAKES A MESSAGE
module _ (es : List Entry) (w : World) (d : Done) (sh : Shape w) (after : Shape d.world) (g : Grounds es w) (words : Well es w) (i : Roots es w) (b : RegistryTakes w d) where
  abbrev m : Envelope
  m = b.letter.said.message

  abbrev reaction : RegistryStep
  reaction = registry_takes b.before m

  abbrev taking : Entry
  taking = got b.e.who b.letter.from m.serial

  wrote : d.entries ≡ taking ∷ map (sent Registry) reaction.sent
  wrote = ap (λ x. x.entries) b.is ∙ ap (λ p. taking ∷ map (sent p) reaction.sent) b.whose

  its_mail : IsMail es b.e.who b.letter
  its_mail = (subst (AllByRecursion (IsMail es b.e.who)) b.link (g.mail.downs b.conn b.e b.is_here.there b.is_here.standing)).0

  embeds : m.kind ≡ 1 → m.member ≡ Some (codes "Embed") → IsRoot (reference_in m.body).1
  embeds one member = by its_mail
    where
      by : IsMail es b.e.who b.letter → IsRoot (reference_in m.body).1
      by (inl bus) = absurd (bus.no_call one)
      by (inr p) = subst (λ x. IsRoot (reference_in x).1) (sym (ap (λ (z : Said). z.message.body) p.alike))
          (at b.letter.from refl (an_embedder es w b.letter.from p.first.message.serial p.first.message g.embedders p.sent_.was first_one first_member))
        where
          first_one : p.first.message.kind ≡ 1
          first_one = ap (λ (z : Said). z.message.kind) (sym p.alike) ∙ one

          first_member : p.first.message.member ≡ Some (codes "Embed")
          first_member = ap (λ (z : Said). z.message.member) (sym p.alike) ∙ member

          of_start : (a : ℕ) → b.letter.from ≡ App a → IsStart p.first.message → IsRoot (reference_in p.first.message.body).1
          of_start a from s = subst (λ x. IsRoot (reference_in x.body).1) (sym s.2) (start_embeds s.0 s.1 (ap (λ (x : Envelope). x.member) (sym s.2) ∙ first_member))

          at : (who : Party) → b.letter.from ≡ who → (b.letter.from ≡ The_bus) ⊎ ((a : ℕ) × (b.letter.from ≡ App a)) → IsRoot (reference_in p.first.message.body).1
          at who is (inl bus) = absurd (no_bus es w sh g p.caller (subst (λ q. NameIs es q p.caller) bus p.name))
          at who is (inr (a, from)) =
              of_start a from (said_well es (App a) p.first.message.serial p.first.message words (ap (λ q. message es q p.first.message.serial) (sym from) ∙ p.sent_.was) first_one)

  paths : PathsIn IsRoot reaction.sent × AreSo IsRoot reaction.state.children
  paths = registry_paths IsRoot b.before m (i.children b.conn b.e b.before b.is_here.there b.role) embeds

  abbrev now_end : End
  now_end = registry_did reaction (taken_down b.e)

  now_there : end_at d.world.ends b.conn ≡ Some now_end
  now_there =
      ap (λ x. end_at x.world.ends b.conn) b.is
      ∙ at_changed (registry_did reaction) (received w b.conn b.e b.letter).ends b.conn (taken_down b.e) (received_at w b.conn b.e b.letter b.is_here.there)

  children_now : (k : ℕ) (x : End) (s : RegistryState) → end_at d.world.ends k ≡ Some x → x.role ≡ the_registry s → AreSo IsRoot s.children
  children_now k x s there role =
      let who : x.who ≡ Registry = role_registry x.who s (subst (RoleFits x.who) role (after.roles k x there)) in
      let at : k ≡ b.conn = after.one k b.conn x now_end there now_there (who ∙ sym b.whose) in
      let same : now_end ≡ x = same_some now_end x (sym now_there ∙ ap (end_at d.world.ends) (sym at) ∙ there) in
      subst (λ (t : RegistryState). AreSo IsRoot t.children) (same_state reaction.state s (ap (λ (y : End). y.role) same ∙ role)) paths.1

  registry_roots : Roots (es ++ d.entries) d.world
  registry_roots = record {
    told = subst (λ l. PathsIn IsRoot (messages (es ++ l) Registry)) (sym wrote)
        (subst (PathsIn IsRoot) (sym (messages_more es (taking ∷ map (sent Registry) reaction.sent) Registry))
        (all_append (λ (x : Envelope). PathsOnly IsRoot x.body) (messages es Registry) (messages (taking ∷ map (sent Registry) reaction.sent) Registry) i.told (subst (PathsIn IsRoot) (sym (all_sent reaction.sent)) paths.0)));
    children = children_now;
  }

-- EACH CAUSE
app_same : (s t : Exporter) (e : End) → SameChildren e (has_done s t e)
app_same s t e = no_registry e (has_done s t e) refl

caused : (es : List Entry) (w : World) (d : Done) → Shape w → Shape d.world → Grounds es w → Well es w → Roots es w → Effect w d → Roots (es ++ d.entries) d.world
caused es w d s after g words i (resets quota fewer is) = subst (λ x. Roots (es ++ x.entries) x.world) (sym is) (first_roots (es ++ []) quota (told_as_before es [] i.told tt))
caused es w d s after g words i (app_joins name short is) =
    subst (λ x. Roots (es ++ x.entries) x.world) (sym is) (joined_roots es (app_starts w name).entries w (app_starts w name).world (new_app w name) i (app_joined w name) refl (tt, (refl, tt)))
caused es w d s after g words i (reader_joins fewer is) =
    subst (λ x. Roots (es ++ x.entries) x.world) (sym is) (joined_roots es (reader_starts w).entries w (reader_starts w).world (new_reader w) i refl refl (tt, (refl, tt)))
caused es w d s after g words i (app_edited b) = by_end es w d i _ b.is (has_done b.before b.after) b.conn (app_same b.before b.after) refl (did_quiet _ b.after.out)
caused es w d s after g words i (app_took b) =
    let then_app : Exporter = app_takes b.before b.letter.said.message in by_both es w d i _ b.is (has_done b.before then_app) b.conn (app_same b.before then_app) refl (tt, did_quiet _ then_app.out)
caused es w d s after g words i (reader_called b) =
    let h : Hearer = record b.hearer { next = suc b.hearer.next } in
    let m : Envelope = user_call b.hearer.next b.name b.node b.deed in
    by_end es w d i _ b.is (reader_sends h m) b.conn (λ e. no_registry e (reader_sends h m e) refl) refl (ap (λ p. same_party p Registry) (ap whose b.is_here.there ∙ b.whose), tt)
caused es w d s after g words i (swapped b) = by_same es w d i _ b.is refl tt
caused es w d s after g words i (exited_ b) = by_end es w d i _ b.is stops b.conn (λ e. alike_in e (stops e) refl) refl (tt, tt)
caused es w d s after g words i (showed_ b) = by_same es w d i _ b.is refl (tt, tt)
caused es w d s after g words i (told_busy turns is) = by_same es w d i _ is refl (tt, tt)
caused es w d s after g words i (told_quiet none is) = by_same es w d i _ is refl (tt, tt)
caused es w d s after g words i (bus_took b) =
    let c0 : Carried = record { bus = w.bus; ends = w.ends } in
    by_over es w d i _ b.is (goes_alike w.ends _ (took_goes c0 b.conn b.e.who b.said)) (tt, bus_quiet (carrying.takes c0 b.conn b.e.who b.said))
caused es w d s after g words i (bus_ended b) =
    let c0 : Carried = record { bus = w.bus; ends = w.ends } in by_over es w d i _ b.is (goes_alike w.ends _ (ended_goes c0 b.conn)) (bus_quiet (carrying.takes_end c0 b.conn))
caused es w d s after g words i (registry_took b) = registry_roots es w d s after g words i b
caused es w d s after g words i (reader_took b) =
    let v : World = received w b.conn b.e b.letter in
    let f : End → End = λ x. record x { role = a_reader (hears_letter b.hearer v.ends b.letter) } in
    by_both es w d i _ b.is f b.conn (λ e. no_registry e (f e) refl) refl (tt, heard_all NotRegistry (λ r app line. tt) (λ r app. tt) (number_of b.e.who) b.hearer v.ends b.letter)

moved_roots : (es : List Entry) (w v : World) → Roots es w → (MovedUp w v ⊎ MovedDown w v) → Roots es v
moved_roots es w v i (inl m) =
    subst (λ l. Roots l v) (append-nil es) (quiet_roots es [] w v i
    (subst (λ (x : World). Over SameChildren w.ends x.ends) (sym m.after)
    (over_with SameChildren same_children (λ e. record e { up_moved = e.up_moved + m.count }) (λ e. alike_in e (record e { up_moved = e.up_moved + m.count }) refl) m.conn w.ends)) tt)
moved_roots es w v i (inr m) =
    subst (λ l. Roots l v) (append-nil es) (quiet_roots es [] w v i
    (subst (λ (x : World). Over SameChildren w.ends x.ends) (sym m.after)
    (over_with SameChildren same_children (λ e. record e { down_moved = e.down_moved + m.count }) (λ e. alike_in e (record e { down_moved = e.down_moved + m.count }) refl) m.conn w.ends)) tt)

asked_roots : (es : List Entry) (w : World) (conn r : ℕ) (m : Envelope) (question : Question) → Roots es w → Asks w conn r m question → Roots (es ++ sent (Reader r) m ∷ []) (at_end w conn (asks_at m question))
asked_roots es w conn r m question i a =
    quiet_roots es (sent (Reader r) m ∷ []) w (at_end w conn (asks_at m question)) i
    (over_at SameChildren same_children (asks_at m question) conn w.ends a.asker a.is_here.there
    (subst (λ x. SameChildren a.asker (asks_as x m question a.asker)) (sym a.reader) (no_registry a.asker (reader_sends (asks question a.hearer) m a.asker) refl))) (refl, tt)

roots_grow : Grows Under Roots
roots_grow = record {
  begins = first_roots [] QUOTA_MOST tt;
  caused = λ es w d s a i e after b. caused es w d s after (grounds es w a.0) a.1 i e;
  moved = λ es w v s a i m. moved_roots es w v i m;
  asked = λ es w conn r m question s a i asks. asked_roots es w conn r m question i asks;
}

pub roots_keep : Keeps (Shaped (And Under Roots))
roots_keep = grown Under Roots under_keeps roots_grow

-- THE LAW
abbrev pub RootsAreTold : List Entry → Type 0
RootsAreTold es = PathsIn IsRoot (messages es Registry)

pub roots_are_told : (script : List Line) (es : List Entry) (w : World) (free : Option ℕ) → Ground script es w free → RootsAreTold es
roots_are_told script es w free g = (g.kept (Shaped (And Under Roots)) roots_keep).1.1.told
