-- The names that readers were told, cause by cause.
use Rattle.std.proofs.Common.{◌≡◌, ◌⊎◌, inl, inr, ℕ, suc, ◌+◌, ◌≤◌, List, [], ◌∷◌, ◌++◌, length, map, Some, refl, sym, ap, ◌∙◌, subst}
use Rattle.std.specs.Prelude.{codes}
use Rattle.std.specs.List.{AllByRecursion}
use Rattle.std.proofs.lemmas.List.{append-nil}
use Rattle.atspi_script_lines.specs.declared.line.Party.TheVariants.{Registry, Reader}
use Rattle.atspi_message.specs.Envelope.{Envelope}
use Rattle.atspi_protocol.specs.registering.RegistryState.{RegistryState}
use Rattle.atspi_protocol.specs.registering.Steps.{RegistryStep, registry_takes}
use Rattle.atspi_protocol.specs.exporting.Exporter.{Exporter}
use Rattle.atspi_protocol.specs.exporting.Taking.{app_takes}
use Rattle.atspi_protocol.specs.following.Calls.{user_call}
use Rattle.atspi_protocol.specs.declared.following.question.Question.{Question}
use Rattle.atspi_protocol.specs.declared.following.question.Question.TheVariants.{Hello, GetChildren}
use Rattle.atspi_trace.specs.Entry.{Entry, sent, got}
use Rattle.atspi_trace.specs.World.{Role, the_registry, an_application, a_reader, Hearer, Said, End, World}
use Rattle.atspi_trace.specs.Ends.{same_party, whose, number_of, end_at, with_end, taken_down, stops}
use Rattle.atspi_trace.specs.Carrying as carrying
use Rattle.atspi_trace.specs.Carrying.{Carried}
use Rattle.atspi_trace.specs.Hearing.{question_returned, hears_letter}
use Rattle.atspi_trace.specs.Causes.{Done, at_end, has_done, registry_did, asks, first_hearer, reader_sends, app_starts, reader_starts}
use Rattle.atspi_trace.specs.Due.{asks_as, asks_at}
use Rattle.atspi_trace_laws.proofs.OfOrder.Parties.{no_none, same_some, false_true}
use Rattle.atspi_trace_laws.proofs.OfOrder.Allowed.{MovedUp, MovedDown, Asks}
use Rattle.atspi_trace_laws.proofs.OfOrder.Frame.{Over, over_same, over_both, over_with, over_at, at_changed}
use Rattle.atspi_trace_laws.proofs.OfOrder.Shape.{RoleFits, Shape}
use Rattle.atspi_trace_laws.proofs.OfOrder.Shaped.{new_app, new_reader, app_joined, received_at}
use Rattle.atspi_trace_laws.proofs.OfOrder.Effects.{received, ReaderCalls, RegistryTakes, ReaderTakes, Effect, resets, app_joins, reader_joins, app_edited, app_took, reader_called, swapped, exited_, showed_, told_busy, told_quiet, bus_took, bus_ended, registry_took, reader_took}
use Rattle.atspi_trace_laws.proofs.OfHeard.Quiet.{heard_all}
use Rattle.atspi_trace_laws.proofs.OfNames.Places.{greeted}
use Rattle.atspi_trace_laws.proofs.OfSigned.Mail.{NameIs, IsMail}
use Rattle.atspi_trace_laws.proofs.OfSigned.LawMail.{Mail}
use Rattle.atspi_trace_laws.proofs.OfMissed.Arriving.{Goes_on, took_goes, ended_goes}
use Rattle.atspi_trace_laws.proofs.OfMissed.Registering.{NotRegistry, did_quiet, bus_quiet, role_registry, same_state, all_sent}
use Rattle.atspi_trace_laws.proofs.OfMissed.Ruled.{changed_twice}
use Rattle.atspi_trace_caches.proofs.OfServed.Listing.{NamesIn, AreKnown, registry_names}
use Rattle.atspi_trace_caches.proofs.OfServed.ListingTold.{Embedded, embedded_more, HasHeard, Listed, known_more, heard_more, told_more, told_as_before, SameChildren, SameHeard, SameBoth, same_children, same_heard, same_both, alike, is_reader_role, no_registry, no_reader, children_over, readers_over, quiet_listed, joined_listed, first_listed, hears_now}

-- NOBODY LEARNS A NAME
module _ (es : List Entry) (w : World) (d : Done) (i : Listed es w) where
  by_over : (x : Done) → d ≡ x → Over SameBoth w.ends x.world.ends → AllByRecursion NotRegistry x.entries → Listed (es ++ d.entries) d.world
  by_over x is o quiet = subst (λ y. Listed (es ++ y.entries) y.world) (sym is) (quiet_listed es x.entries w x.world i o quiet)

  by_end : (x : Done) → d ≡ x → (f : End → End) (conn : ℕ) → ((e : End) → SameBoth e (f e)) → x.world.ends ≡ with_end conn f w.ends → AllByRecursion NotRegistry x.entries → Listed (es ++ d.entries) d.world
  by_end x is f conn same ends quiet = by_over x is (subst (Over SameBoth w.ends) (sym ends) (over_with SameBoth same_both f same conn w.ends)) quiet

  by_both : (x : Done) → d ≡ x → (f : End → End) (conn : ℕ) → ((e : End) → SameBoth e (f e)) → x.world.ends ≡ with_end conn f (with_end conn taken_down w.ends) → AllByRecursion NotRegistry x.entries → Listed (es ++ d.entries) d.world
  by_both x is f conn same ends quiet =
      by_over x is
      (subst (Over SameBoth w.ends) (sym ends)
      (over_both SameBoth same_both w.ends (with_end conn taken_down w.ends) (with_end conn f (with_end conn taken_down w.ends)) (over_with SameBoth same_both taken_down (λ e. alike e (taken_down e) refl) conn w.ends)
      (over_with SameBoth same_both f same conn (with_end conn taken_down w.ends)))) quiet

  by_same : (x : Done) → d ≡ x → x.world.ends ≡ w.ends → AllByRecursion NotRegistry x.entries → Listed (es ++ d.entries) d.world
  by_same x is ends quiet = by_over x is (subst (Over SameBoth w.ends) (sym ends) (over_same SameBoth same_both w.ends)) quiet

app_same : (s t : Exporter) (e : End) → SameBoth e (has_done s t e)
app_same s t e = (no_registry e (has_done s t e) refl, no_reader e (has_done s t e) refl)

goes_same : (xs zs : List End) → Over Goes_on xs zs → Over SameBoth xs zs
goes_same xs zs o = record { size = o.size; back = λ k d there. let x = o.back k d there in (x.0, x.1, alike x.0 d x.2.role) }

-- a reader sends a call: it learns nothing
abbrev hearer_in : Role → Hearer → Hearer
hearer_in (a_reader h) g = h
hearer_in role g = g

same_hearer : (h g : Hearer) → a_reader h ≡ a_reader g → h ≡ g
same_hearer h g is = ap (λ role. hearer_in role h) is

pub sends_same : (h g : Hearer) (m : Envelope) (e : End) → e.role ≡ a_reader h → g.registry ≡ h.registry → g.named ≡ h.named → SameBoth e (reader_sends g m e)
sends_same h g m e role registry named = (
  no_registry e (reader_sends g m e) refl,
  λ x is. (h, role, ap (λ (y : Hearer). y.registry) (sym (same_hearer g x is)) ∙ registry, ap (λ (y : Hearer). y.named) (sym (same_hearer g x is)) ∙ named),
)

calls_listed : (es : List Entry) (w : World) (d : Done) → Listed es w → ReaderCalls w d → Listed (es ++ d.entries) d.world
calls_listed es w d i b =
    let g : Hearer = record b.hearer { next = suc b.hearer.next } in
    let m : Envelope = user_call b.hearer.next b.name b.node b.deed in
    by_over es w d i _ b.is (over_at SameBoth same_both (reader_sends g m) b.conn w.ends b.e b.is_here.there (sends_same b.hearer g m b.e b.role refl refl))
    (ap (λ p. same_party p Registry) (ap whose b.is_here.there ∙ b.whose), tt)

pub asks_listed : (es : List Entry) (w : World) (conn r : ℕ) (m : Envelope) (question : Question) → Listed es w → Asks w conn r m question → Listed (es ++ sent (Reader r) m ∷ []) (at_end w conn (asks_at m question))
asks_listed es w conn r m question i a =
    quiet_listed es (sent (Reader r) m ∷ []) w (at_end w conn (asks_at m question)) i
    (over_at SameBoth same_both (asks_at m question) conn w.ends a.asker a.is_here.there
    (subst (λ x. SameBoth a.asker (asks_as x m question a.asker)) (sym a.reader) (sends_same a.hearer (asks question a.hearer) m a.asker a.reader refl refl))) (refl, tt)

-- THE REGISTRY TAKES A MESSAGE
module _ (es : List Entry) (w : World) (d : Done) (after : Shape d.world) (mail : Mail es w) (i : Listed es w) (b : RegistryTakes w d) where
  abbrev m : Envelope
  m = b.letter.said.message

  abbrev reaction : RegistryStep
  reaction = registry_takes b.before m

  abbrev taking : Entry
  taking = got b.e.who b.letter.from m.serial

  abbrev words : List Entry
  words = taking ∷ map (sent Registry) reaction.sent

  abbrev later : List Entry
  later = es ++ words

  wrote : d.entries ≡ words
  wrote = ap (λ x. x.entries) b.is ∙ ap (λ p. taking ∷ map (sent p) reaction.sent) b.whose

  -- whoever asks to be embedded has the name that it is embedded under
  embeds : IsMail es b.e.who b.letter → (caller : List ℕ) → m.sender ≡ Some caller → m.kind ≡ 1 → m.member ≡ Some (codes "Embed") → Embedded es caller
  embeds (inl bus) caller sender one member = absurd (bus.no_call one)
  embeds (inr p) caller sender one member = record {
    who = b.letter.from;
    has = subst (NameIs es b.letter.from) (same_some p.caller caller (sym p.sender ∙ sender)) p.name;
    call = p.first.message;
    serial = p.first.message.serial;
    was = p.sent_.was;
    is_call = ap (λ (z : Said). z.message.kind) (sym p.alike) ∙ one;
    member = ap (λ (z : Said). z.message.member) (sym p.alike) ∙ member;
  }

  its_mail : IsMail es b.e.who b.letter
  its_mail = (subst (AllByRecursion (IsMail es b.e.who)) b.link (mail.downs b.conn b.e b.is_here.there b.is_here.standing)).0

  names : NamesIn (Embedded later) reaction.sent × AreKnown (Embedded later) reaction.state.children
  names =
      registry_names (Embedded later) b.before m (known_more es words b.before.children (i.children b.conn b.e b.before b.is_here.there b.role))
      (λ caller sender one member. embedded_more es words caller (embeds its_mail caller sender one member))

  abbrev now_end : End
  now_end = registry_did reaction (taken_down b.e)

  now_there : end_at d.world.ends b.conn ≡ Some now_end
  now_there =
      ap (λ x. end_at x.world.ends b.conn) b.is
      ∙ at_changed (registry_did reaction) (received w b.conn b.e b.letter).ends b.conn (taken_down b.e) (received_at w b.conn b.e b.letter b.is_here.there)

  children_now : (k : ℕ) (x : End) (s : RegistryState) → end_at d.world.ends k ≡ Some x → x.role ≡ the_registry s → AreKnown (Embedded later) s.children
  children_now k x s there role =
      let who : x.who ≡ Registry = role_registry x.who s (subst (RoleFits x.who) role (after.roles k x there)) in
      let at : k ≡ b.conn = after.one k b.conn x now_end there now_there (who ∙ sym b.whose) in
      let same : now_end ≡ x = same_some now_end x (sym now_there ∙ ap (end_at d.world.ends) (sym at) ∙ there) in
      subst (λ (t : RegistryState). AreKnown (Embedded later) t.children) (same_state reaction.state s (ap (λ (y : End). y.role) same ∙ role)) names.1

  readers_over_it : Over SameHeard w.ends d.world.ends
  readers_over_it =
      subst (Over SameHeard w.ends) (sym (ap (λ x. x.world.ends) b.is))
      (over_both SameHeard same_heard w.ends (with_end b.conn taken_down w.ends) (with_end b.conn (registry_did reaction) (with_end b.conn taken_down w.ends))
      (over_with SameHeard same_heard taken_down (λ e. (alike e (taken_down e) refl).1) b.conn w.ends)
      (over_with SameHeard same_heard (registry_did reaction) (λ e. no_reader e (registry_did reaction e) refl) b.conn (with_end b.conn taken_down w.ends)))

  pub registry_listed : Listed (es ++ d.entries) d.world
  registry_listed =
      subst (λ zs. Listed (es ++ zs) d.world) (sym wrote)
      (record {
        told = told_more es words i.told (subst (NamesIn (Embedded later)) (sym (all_sent reaction.sent)) names.0);
        children = children_now;
        readers = readers_over es words w d.world i readers_over_it;
      })

-- A READER TAKES A MESSAGE: a return to GetChildren is the registry's
abbrev pub ReturnsChildren : World → Done → Type 0
ReturnsChildren w d = (b : ReaderTakes w d) → question_returned b.letter.said.message b.hearer.asked ≡ Some GetChildren → b.letter.from ≡ Registry

takes_listed : (es : List Entry) (w : World) (d : Done) → length (greeted es) ≤ 1000 → Mail es w → Listed es w → (b : ReaderTakes w d) → (question_returned b.letter.said.message b.hearer.asked ≡ Some GetChildren → b.letter.from ≡ Registry)
    → Listed (es ++ d.entries) d.world
takes_listed es w d few mail i b returns = record {
  told = told_as_before es d.entries i.told quiet;
  children = children_over es d.entries w d.world i children_over_it;
  readers = λ k x h there role. by k x h there role (changed_twice w d.world b.conn b.e f b.is_here.there (ap (λ z. z.world.ends) b.is) k x there);
}
  where
    v : World
    v = received w b.conn b.e b.letter

    g : Hearer
    g = hears_letter b.hearer v.ends b.letter

    f : End → End
    f x = record x { role = a_reader g }

    quiet : AllByRecursion NotRegistry d.entries
    quiet =
        subst (λ z. AllByRecursion NotRegistry z.entries) (sym b.is)
        (tt, heard_all NotRegistry (λ r app line. tt) (λ r app. tt) (number_of b.e.who) b.hearer v.ends b.letter)

    children_over_it : Over SameChildren w.ends d.world.ends
    children_over_it =
        subst (Over SameChildren w.ends) (sym (ap (λ x. x.world.ends) b.is))
        (over_both SameChildren same_children w.ends (with_end b.conn taken_down w.ends) (with_end b.conn f (with_end b.conn taken_down w.ends)) (over_with SameChildren same_children taken_down (λ e. (alike e (taken_down e) refl).0) b.conn w.ends)
        (over_with SameChildren same_children f (λ e. no_registry e (f e) refl) b.conn (with_end b.conn taken_down w.ends)))

    its_mail : IsMail es b.e.who b.letter
    its_mail = (subst (AllByRecursion (IsMail es b.e.who)) b.link (mail.downs b.conn b.e b.is_here.there b.is_here.standing)).0

    now : HasHeard (es ++ d.entries) g
    now = heard_more es d.entries g g refl refl (hears_now es b.e.who b.hearer v.ends b.letter few its_mail i.told (i.readers b.conn b.e b.hearer b.is_here.there b.role) returns)

    by : (k : ℕ) (x : End) (h : Hearer) → end_at d.world.ends k ≡ Some x → x.role ≡ a_reader h → ((k ≡ b.conn) × (x ≡ f (taken_down b.e))) ⊎ (end_at w.ends k ≡ Some x) → HasHeard (es ++ d.entries) h
    by k x h there role (inl same) = subst (HasHeard (es ++ d.entries)) (same_hearer g h (ap (λ (y : End). y.role) (sym same.1) ∙ role)) now
    by k x h there role (inr old) = heard_more es d.entries h h refl refl (i.readers k x h old role)

-- EACH CAUSE
nobody_heard : (es : List Entry) → HasHeard es (asks Hello first_hearer)
nobody_heard es = record { registry = λ name is. absurd (no_none name is); named = tt }

app_apart : {s : Exporter} (h : Hearer) → an_application s ≡ a_reader h → ⊥
app_apart h is = false_true (ap is_reader_role is)

pub caused_listed : (es : List Entry) (w : World) (d : Done) → Shape d.world → length (greeted es) ≤ 1000 → Mail es w → ReturnsChildren w d → Listed es w → Effect w d → Listed (es ++ d.entries) d.world
caused_listed es w d after few mail returns i (resets quota fewer is) =
    subst (λ x. Listed (es ++ x.entries) x.world) (sym is) (first_listed (es ++ []) quota (told_as_before es [] i.told tt))
caused_listed es w d after few mail returns i (app_joins name short is) =
    subst (λ x. Listed (es ++ x.entries) x.world) (sym is)
    (joined_listed es (app_starts w name).entries w (app_starts w name).world (new_app w name) i (app_joined w name) refl (λ h role. absurd (app_apart h role)) (tt, (refl, tt)))
caused_listed es w d after few mail returns i (reader_joins fewer is) =
    subst (λ x. Listed (es ++ x.entries) x.world) (sym is)
    (joined_listed es (reader_starts w).entries w (reader_starts w).world (new_reader w) i refl refl (λ h role. subst (HasHeard (es ++ (reader_starts w).entries)) (same_hearer (asks Hello first_hearer) h role) (nobody_heard (es ++ (reader_starts w).entries))) (tt, (refl, tt)))
caused_listed es w d after few mail returns i (app_edited b) = by_end es w d i _ b.is (has_done b.before b.after) b.conn (app_same b.before b.after) refl (did_quiet _ b.after.out)
caused_listed es w d after few mail returns i (app_took b) =
    let then_app : Exporter = app_takes b.before b.letter.said.message in
    by_both es w d i _ b.is (has_done b.before then_app) b.conn (app_same b.before then_app) refl (tt, did_quiet _ then_app.out)
caused_listed es w d after few mail returns i (reader_called b) = calls_listed es w d i b
caused_listed es w d after few mail returns i (swapped b) = by_same es w d i _ b.is refl tt
caused_listed es w d after few mail returns i (exited_ b) = by_end es w d i _ b.is stops b.conn (λ e. alike e (stops e) refl) refl (tt, tt)
caused_listed es w d after few mail returns i (showed_ b) = by_same es w d i _ b.is refl (tt, tt)
caused_listed es w d after few mail returns i (told_busy turns is) = by_same es w d i _ is refl (tt, tt)
caused_listed es w d after few mail returns i (told_quiet none is) = by_same es w d i _ is refl (tt, tt)
caused_listed es w d after few mail returns i (bus_took b) =
    let c0 : Carried = record { bus = w.bus; ends = w.ends } in
    by_over es w d i _ b.is (goes_same w.ends _ (took_goes c0 b.conn b.e.who b.said)) (tt, bus_quiet (carrying.takes c0 b.conn b.e.who b.said))
caused_listed es w d after few mail returns i (bus_ended b) =
    let c0 : Carried = record { bus = w.bus; ends = w.ends } in
    by_over es w d i _ b.is (goes_same w.ends _ (ended_goes c0 b.conn)) (bus_quiet (carrying.takes_end c0 b.conn))
caused_listed es w d after few mail returns i (registry_took b) = registry_listed es w d after mail i b
caused_listed es w d after few mail returns i (reader_took b) = takes_listed es w d few mail i b (returns b)

pub moved_listed : (es : List Entry) (w v : World) → Listed es w → (MovedUp w v ⊎ MovedDown w v) → Listed es v
moved_listed es w v i (inl m) =
    subst (λ l. Listed l v) (append-nil es) (quiet_listed es [] w v i
    (subst (λ (x : World). Over SameBoth w.ends x.ends) (sym m.after) (over_with SameBoth same_both (λ e. record e { up_moved = e.up_moved + m.count }) (λ e. alike e (record e { up_moved = e.up_moved + m.count }) refl) m.conn w.ends)) tt)
moved_listed es w v i (inr m) =
    subst (λ l. Listed l v) (append-nil es) (quiet_listed es [] w v i
    (subst (λ (x : World). Over SameBoth w.ends x.ends) (sym m.after) (over_with SameBoth same_both (λ e. record e { down_moved = e.down_moved + m.count }) (λ e. alike e (record e { down_moved = e.down_moved + m.count }) refl) m.conn w.ends)) tt)
