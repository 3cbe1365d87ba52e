-- Each call for items that a reader sends goes to an application that has its name then.
use Rattle.std.proofs.Common.{◌≡◌, ℕ, Bool, true, false, List, [], ◌∷◌, ◌++◌, map, Option, Some, sym, ap, ◌∙◌, subst}
use Rattle.std.specs.Prelude.{◌&&◌, bytes_eq}
use Rattle.std.specs.List.{AllByRecursion, list_any}
use Rattle.atspi_base.specs.valid_names.Names.{is_bus_name}
use Rattle.atspi_script_lines.specs.declared.deed.Deed.{Deed}
use Rattle.atspi_script_lines.specs.declared.line.Party.TheVariants.{Bus as The_bus, Registry, App, Reader}
use Rattle.atspi_message.specs.Envelope.{Envelope}
use Rattle.atspi_match.specs.declared.routing.closing.Closing.{Closing}
use Rattle.atspi_protocol.specs.registering.Steps.{registry_takes}
use Rattle.atspi_protocol.specs.exporting.Exporter.{Happening, steps, sends, hears, deaf}
use Rattle.atspi_protocol.specs.exporting.Taking.{app_takes}
use Rattle.atspi_protocol.specs.declared.following.question.Question.{Question}
use Rattle.atspi_protocol.specs.declared.following.question.Question.TheVariants.{Hello, GetItems}
use Rattle.atspi_protocol.specs.following.Calls.{asking, user_call}
use Rattle.atspi_trace.specs.Entry.{Entry, sent, dropped}
use Rattle.atspi_trace.specs.World.{World}
use Rattle.atspi_trace.specs.Ends.{whose, party_at, number_of}
use Rattle.atspi_trace.specs.Carrying as carrying
use Rattle.atspi_trace.specs.Hearing.{question_in, is_listening, is_registered, may_ask}
use Rattle.atspi_trace.specs.Causes.{Done, did, app_starts}
use Rattle.atspi_trace_laws.proofs.OfOrder.Parties.{no_none, same_some, false_true}
use Rattle.atspi_trace_laws.proofs.OfOrder.Plain.{user_plain}
use Rattle.atspi_trace_laws.proofs.OfOrder.BusWords.{bus_all, all_any}
use Rattle.atspi_trace_laws.proofs.OfOrder.Shape.{Shape}
use Rattle.atspi_trace_laws.proofs.OfOrder.Allowed.{Asks}
use Rattle.atspi_trace_laws.proofs.OfOrder.Effects.{received, Effect, resets, app_joins, reader_joins, app_edited, app_took, reader_called, swapped, exited_, showed_, told_busy, told_quiet, bus_took, bus_ended, registry_took, reader_took}
use Rattle.atspi_trace_laws.proofs.OfOrder.Along.{Keeps}
use Rattle.atspi_trace_laws.proofs.OfOrder.Growing.{Grows, Shaped, And, grown}
use Rattle.atspi_trace_laws.proofs.OfOrder.Each.{Each, each_more, each_of}
use Rattle.atspi_trace_laws.proofs.OfHeard.Quiet.{heard_all}
use Rattle.atspi_trace_laws.proofs.OfOwn.Writing.{Lives}
use Rattle.atspi_trace_laws.proofs.OfReaders.Fates.{hello_read}
use Rattle.atspi_trace_laws.proofs.OfNames.Places.{name_told}
use Rattle.atspi_trace_caches.proofs.OfServed.ListingTold.{Embedded}
use Rattle.atspi_trace_caches.proofs.OfSettled.Settling_ground.{Ground, ground_keep, Grounds, grounds, any_of, embedded_app}

-- THE LAW
abbrev pub AsksApps : List Entry → Entry → List Entry → Type 0
AsksApps before (sent (Reader r) e) behind = Lives before → (name : List ℕ) → question_in e ≡ Some (GetItems name) → (a : ℕ) × (name_told before (App a) ≡ Some name)
AsksApps before entry behind = Unit {0}

weaker : (ys before : List Entry) (entry : Entry) (behind : List Entry) → AsksApps before entry behind → AsksApps before entry (behind ++ ys)
weaker ys before (sent (Reader r) e) behind h = h
weaker ys before (sent The_bus e) behind h = tt
weaker ys before (sent Registry e) behind h = tt
weaker ys before (sent (App a) e) behind h = tt
weaker ys before entry behind h = tt

all_weaker : (ys early xs : List Entry) → Each AsksApps early xs → Each (λ before entry behind. AsksApps before entry (behind ++ ys)) early xs
all_weaker ys early [] e = tt
all_weaker ys early (x ∷ xs) e = (weaker ys early x xs e.0, all_weaker ys (early ++ x ∷ []) xs e.1)

law_more : (es ys : List Entry) → Each AsksApps [] es → Each AsksApps es ys → Each AsksApps [] (es ++ ys)
law_more es ys a b = each_more AsksApps [] es ys (all_weaker ys [] es a) b

-- AN ENTRY that asks for no items
abbrev NoItems : Entry → Type 0
NoItems (sent (Reader r) e) = (name : List ℕ) → question_in e ≡ Some (GetItems name) → ⊥
NoItems entry = Unit {0}

no_items : (before : List Entry) (entry : Entry) (behind : List Entry) → NoItems entry → AsksApps before entry behind
no_items before (sent (Reader r) e) behind h = λ live name is. absurd (h name is)
no_items before (sent The_bus e) behind h = tt
no_items before (sent Registry e) behind h = tt
no_items before (sent (App a) e) behind h = tt
no_items before entry behind h = tt

quietly : (es : List Entry) (d x : Done) → Each AsksApps [] es → d ≡ x → AllByRecursion NoItems x.entries → Each AsksApps [] (es ++ d.entries)
quietly es d x i is a = law_more es d.entries i (each_of NoItems AsksApps es d.entries no_items (subst (λ y. AllByRecursion NoItems y.entries) (sym is) a))

abbrev is_items : Option Question → Bool
is_items (Some (GetItems name)) = true
is_items o = false

hello_none : (name : List ℕ) → question_in (asking 1 Hello) ≡ Some (GetItems name) → ⊥
hello_none name is = false_true (ap is_items (sym hello_read ∙ is))

user_none : (serial : ℕ) (to : List ℕ) (node : ℕ) (deed : Deed) (name : List ℕ) → question_in (user_call serial to node deed) ≡ Some (GetItems name) → ⊥
user_none serial to node deed name is = no_none (GetItems name) (sym (user_plain serial to node deed) ∙ is)

did_none : (app : ℕ) (hs : List Happening) → AllByRecursion NoItems (map (did app) hs)
did_none app [] = tt
did_none app (steps step ∷ hs) = (tt, did_none app hs)
did_none app (sends e ∷ hs) = (tt, did_none app hs)
did_none app (hears listener pattern ∷ hs) = (tt, did_none app hs)
did_none app (deaf listener pattern ∷ hs) = (tt, did_none app hs)

registry_none : (es : List Envelope) → AllByRecursion NoItems (map (sent Registry) es)
registry_none [] = tt
registry_none (e ∷ es) = (tt, registry_none es)

abbrev pub AllAskApps : List Entry → World → Type 0
AllAskApps es w = Each AsksApps [] es

caused : (es : List Entry) (w : World) (d : Done) → AllAskApps es w → Effect w d → AllAskApps (es ++ d.entries) d.world
caused es w d i (resets quota few is) = quietly es d _ i is tt
caused es w d i (app_joins name short is) = quietly es d (app_starts w name) i is (tt, (tt, tt))
caused es w d i (reader_joins few is) = quietly es d _ i is (tt, (hello_none, tt))
caused es w d i (app_edited b) = quietly es d _ i b.is (did_none _ b.after.out)
caused es w d i (app_took b) = quietly es d _ i b.is (tt, did_none _ (app_takes b.before b.letter.said.message).out)
caused es w d i (reader_called b) =
    quietly es d _ i b.is
    (subst (λ p. AllByRecursion NoItems (sent p (user_call b.hearer.next b.name b.node b.deed) ∷ [])) (sym (ap whose b.is_here.there ∙ b.whose)) (user_none b.hearer.next b.name b.node b.deed, tt))
caused es w d i (swapped b) = quietly es d _ i b.is tt
caused es w d i (exited_ b) = quietly es d _ i b.is (tt, tt)
caused es w d i (showed_ b) = quietly es d _ i b.is (tt, tt)
caused es w d i (told_busy turns is) = quietly es d _ i is (tt, tt)
caused es w d i (told_quiet none is) = quietly es d _ i is (tt, tt)
caused es w d i (bus_took b) =
    let c = carrying.takes (record { bus = w.bus; ends = w.ends }) b.conn b.e.who b.said in
    quietly es d _ i b.is
    (tt, bus_all NoItems (λ e. tt) c.ends c.bus.own c.bus.closings (all_any (λ (x : Closing). (queued len : ℕ) → NoItems (dropped (party_at c.ends x.conn) queued len)) (λ x queued len. tt) c.bus.closings))
caused es w d i (bus_ended b) =
    let c = carrying.takes_end (record { bus = w.bus; ends = w.ends }) b.conn in
    quietly es d _ i b.is
    (bus_all NoItems (λ e. tt) c.ends c.bus.own c.bus.closings (all_any (λ (x : Closing). (queued len : ℕ) → NoItems (dropped (party_at c.ends x.conn) queued len)) (λ x queued len. tt) c.bus.closings))
caused es w d i (registry_took b) =
    quietly es d _ i b.is
    (tt, subst (λ p. AllByRecursion NoItems (map (sent p) (registry_takes b.before b.letter.said.message).sent)) (sym b.whose) (registry_none (registry_takes b.before b.letter.said.message).sent))
caused es w d i (reader_took b) =
    quietly es d _ i b.is (tt, heard_all NoItems (λ r app line. tt) (λ r app. tt) (number_of b.e.who) b.hearer (received w b.conn b.e b.letter).ends b.letter)

-- AN OWN CALL
and_right : (a b : Bool) → (a && b) ≡ true → b ≡ true
and_right true b h = h
and_right false b h = absurd (false_true h)

asks_app : (es : List Entry) (w : World) (conn r : ℕ) (m : Envelope) (question : Question) → Shape w → Grounds es w → Asks w conn r m question → Lives es → (name : List ℕ) → question_in m ≡ Some (GetItems name) → (a : ℕ) × (name_told es (App a) ≡ Some name)
asks_app es w conn r m question s g a live name is = embedded_app es w s g name (any_of es w s g (Embedded es) name a.hearer.named listed ((g.listed live).readers conn a.asker a.hearer a.is_here.there a.reader).named)
  where
    same : question ≡ GetItems name
    same = same_some question (GetItems name) (sym a.read ∙ is)

    allowed : (is_bus_name name && (is_listening a.hearer.asked && (is_registered a.hearer.asked && list_any (bytes_eq name) a.hearer.named))) ≡ true
    allowed = ap (may_ask a.hearer) (sym same) ∙ a.allowed

    listed : list_any (bytes_eq name) a.hearer.named ≡ true
    listed =
        and_right (is_registered a.hearer.asked) (list_any (bytes_eq name) a.hearer.named)
        (and_right (is_listening a.hearer.asked) (is_registered a.hearer.asked && list_any (bytes_eq name) a.hearer.named)
        (and_right (is_bus_name name) (is_listening a.hearer.asked && (is_registered a.hearer.asked && list_any (bytes_eq name) a.hearer.named)) allowed))

ask_grow : Grows Ground AllAskApps
ask_grow = record {
  begins = tt;
  caused = λ es w d s a i e after b. caused es w d i e;
  moved = λ es w v s a i m. i;
  asked = λ es w conn r m question s a i asks. law_more es (sent (Reader r) m ∷ []) i (λ live name is. asks_app es w conn r m question s (grounds es w a) asks live name is, tt);
}

pub ask_keep : Keeps (Shaped (And Ground AllAskApps))
ask_keep = grown Ground AllAskApps ground_keep ask_grow
