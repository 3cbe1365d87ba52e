-- Readers take nothing back, along a lawful trace.
use Rattle.std.proofs.Common.{◌≡◌, ℕ, List, [], ◌∷◌, ◌++◌, map, refl, sym, ap, ◌∙◌, subst}
use Rattle.std.specs.List.{AllByRecursion}
use Rattle.atspi_script_lines.specs.declared.deed.Deed.{Deed}
use Rattle.atspi_script_lines.specs.declared.deed.Deed.TheVariants.{SetCaret, InsertText, DeleteText, SetText, SelectChild, DeselectChild, SelectAll, ClearSelection, DoAction}
use Rattle.atspi_script_lines.specs.declared.line.Line.{Line}
use Rattle.atspi_script_lines.specs.declared.line.Party.TheVariants.{Bus as The_bus, Registry, App, Reader}
use Rattle.atspi_message.specs.Envelope.{Envelope}
use Rattle.atspi_protocol.specs.registering.Steps.{registry_takes}
use Rattle.atspi_protocol.specs.exporting.Exporter.{Happening, steps, sends, hears, deaf}
use Rattle.atspi_protocol.specs.exporting.Taking.{app_takes}
use Rattle.atspi_protocol.specs.declared.news.part.PartName.TheVariants.{Text, Caret, Columns}
use Rattle.atspi_protocol.specs.declared.following.question.Question.{Question}
use Rattle.atspi_protocol.specs.declared.following.question.Question.TheVariants.{Hello, AddMatch, RegisterEvent, GetChildren, GetItems, GetPart}
use Rattle.atspi_protocol.specs.following.Calls.{asking, user_call}
use Rattle.atspi_match.specs.declared.routing.closing.Closing.{Closing}
use Rattle.atspi_trace.specs.Entry.{Entry, sent, dropped}
use Rattle.atspi_trace.specs.World.{World}
use Rattle.atspi_trace.specs.Ends.{whose, party_at, number_of}
use Rattle.atspi_trace.specs.Carrying as carrying
use Rattle.atspi_trace.specs.Carrying.{bus_entries}
use Rattle.atspi_trace.specs.Causes.{Done, did, app_starts}
use Rattle.atspi_trace.specs.Due.{begins, Goes}
use Rattle.atspi_trace_laws.specs.laws.NineLaws.{Everywhere}
use Rattle.atspi_trace_laws.specs.order.Scripts.{CanAllStand}
use Rattle.atspi_trace_laws.specs.missed.Laws.{AsksOnly, TakesNothingBack}
use Rattle.atspi_trace_laws.proofs.OfOrder.Parties.{all_append, all_front}
use Rattle.atspi_trace_laws.proofs.OfOrder.BusWords.{bus_all}
use Rattle.atspi_trace_laws.proofs.OfOrder.Effects.{received, Effect, resets, app_joins, reader_joins, app_edited, app_took, reader_called, swapped, exited_, showed_, told_busy, told_quiet, bus_took, bus_ended, registry_took, reader_took}
use Rattle.atspi_trace_laws.proofs.OfOrder.Along.{kept}
use Rattle.atspi_trace_laws.proofs.OfOrder.Growing.{Grows, Shaped, Nothing, And, grown, shaped_keeps}
use Rattle.atspi_trace_laws.proofs.OfOrder.Each.{everywhere, each_of}
use Rattle.atspi_trace_laws.proofs.OfHeard.Quiet.{heard_all}

-- WHAT READERS SEND
user_asks : (serial : ℕ) (name : List ℕ) (node : ℕ) (deed : Deed) → AsksOnly (user_call serial name node deed)
user_asks serial name node (SetCaret at) = record { is_call = refl; no_rule_back = refl; no_pattern_back = refl }
user_asks serial name node (InsertText at text) = record { is_call = refl; no_rule_back = refl; no_pattern_back = refl }
user_asks serial name node (DeleteText from to) = record { is_call = refl; no_rule_back = refl; no_pattern_back = refl }
user_asks serial name node (SetText text) = record { is_call = refl; no_rule_back = refl; no_pattern_back = refl }
user_asks serial name node (SelectChild index) = record { is_call = refl; no_rule_back = refl; no_pattern_back = refl }
user_asks serial name node (DeselectChild index) = record { is_call = refl; no_rule_back = refl; no_pattern_back = refl }
user_asks serial name node SelectAll = record { is_call = refl; no_rule_back = refl; no_pattern_back = refl }
user_asks serial name node ClearSelection = record { is_call = refl; no_rule_back = refl; no_pattern_back = refl }
user_asks serial name node (DoAction index) = record { is_call = refl; no_rule_back = refl; no_pattern_back = refl }

own_asks : (serial : ℕ) (q : Question) → AsksOnly (asking serial q)
own_asks serial Hello = record { is_call = refl; no_rule_back = refl; no_pattern_back = refl }
own_asks serial (AddMatch text) = record { is_call = refl; no_rule_back = refl; no_pattern_back = refl }
own_asks serial (RegisterEvent pattern) = record { is_call = refl; no_rule_back = refl; no_pattern_back = refl }
own_asks serial GetChildren = record { is_call = refl; no_rule_back = refl; no_pattern_back = refl }
own_asks serial (GetItems name) = record { is_call = refl; no_rule_back = refl; no_pattern_back = refl }
own_asks serial (GetPart name path Text) = record { is_call = refl; no_rule_back = refl; no_pattern_back = refl }
own_asks serial (GetPart name path Caret) = record { is_call = refl; no_rule_back = refl; no_pattern_back = refl }
own_asks serial (GetPart name path Columns) = record { is_call = refl; no_rule_back = refl; no_pattern_back = refl }

-- AN ENTRY
abbrev Keeps_it : Entry → Type 0
Keeps_it (sent (Reader r) e) = AsksOnly e
Keeps_it entry = Unit {0}

kept_law : (before : List Entry) (entry : Entry) (behind : List Entry) → Keeps_it entry → TakesNothingBack before entry behind
kept_law before (sent (Reader r) e) behind h = h
kept_law before (sent The_bus e) behind h = tt
kept_law before (sent Registry e) behind h = tt
kept_law before (sent (App a) e) behind h = tt
kept_law before entry behind h = tt

did_keep : (app : ℕ) (hs : List Happening) → AllByRecursion Keeps_it (map (did app) hs)
did_keep app [] = tt
did_keep app (steps step ∷ hs) = (tt, did_keep app hs)
did_keep app (sends e ∷ hs) = (tt, did_keep app hs)
did_keep app (hears listener pattern ∷ hs) = (tt, did_keep app hs)
did_keep app (deaf listener pattern ∷ hs) = (tt, did_keep app hs)

registry_keeps : (es : List Envelope) → AllByRecursion Keeps_it (map (sent Registry) es)
registry_keeps [] = tt
registry_keeps (e ∷ es) = (tt, registry_keeps es)

all_any : {X : Type 0} (P : X → Type 0) → ((x : X) → P x) → (xs : List X) → AllByRecursion P xs
all_any P f [] = tt
all_any P f (x ∷ xs) = (f x, all_any P f xs)

abbrev Kept_all : List Entry → World → Type 0
Kept_all es w = AllByRecursion Keeps_it es

more : (es : List Entry) (d x : Done) → AllByRecursion Keeps_it es → d ≡ x → AllByRecursion Keeps_it x.entries → AllByRecursion Keeps_it (es ++ d.entries)
more es d x i is a = all_append Keeps_it es d.entries i (subst (λ y. AllByRecursion Keeps_it y.entries) (sym is) a)

caused : (es : List Entry) (w : World) (d : Done) → Kept_all es w → Effect w d → Kept_all (es ++ d.entries) d.world
caused es w d i (resets quota few is) = more es d _ i is tt
caused es w d i (app_joins name short is) = more es d (app_starts w name) i is (tt, (tt, tt))
caused es w d i (reader_joins few is) = more es d _ i is (tt, (own_asks 1 Hello, tt))
caused es w d i (app_edited b) = more es d _ i b.is (did_keep _ b.after.out)
caused es w d i (app_took b) = more es d _ i b.is (tt, did_keep _ (app_takes b.before b.letter.said.message).out)
caused es w d i (reader_called b) =
    more es d _ i b.is
    (subst (λ p. AllByRecursion Keeps_it (sent p (user_call b.hearer.next b.name b.node b.deed) ∷ [])) (sym (ap whose b.is_here.there ∙ b.whose)) (user_asks b.hearer.next b.name b.node b.deed, tt))
caused es w d i (swapped b) = more es d _ i b.is tt
caused es w d i (exited_ b) = more es d _ i b.is (tt, tt)
caused es w d i (showed_ b) = more es d _ i b.is (tt, tt)
caused es w d i (told_busy turns is) = more es d _ i is (tt, tt)
caused es w d i (told_quiet none is) = more es d _ i is (tt, tt)
caused es w d i (bus_took b) =
    let c = carrying.takes (record { bus = w.bus; ends = w.ends }) b.conn b.e.who b.said in
    more es d _ i b.is
    (tt, bus_all Keeps_it (λ e. tt) c.ends c.bus.own c.bus.closings (all_any (λ (x : Closing). (queued len : ℕ) → Keeps_it (dropped (party_at c.ends x.conn) queued len)) (λ x queued len. tt) c.bus.closings))
caused es w d i (bus_ended b) =
    let c = carrying.takes_end (record { bus = w.bus; ends = w.ends }) b.conn in
    more es d _ i b.is
    (bus_all Keeps_it (λ e. tt) c.ends c.bus.own c.bus.closings (all_any (λ (x : Closing). (queued len : ℕ) → Keeps_it (dropped (party_at c.ends x.conn) queued len)) (λ x queued len. tt) c.bus.closings))
caused es w d i (registry_took b) =
    more es d _ i b.is
    (tt, subst (λ p. AllByRecursion Keeps_it (map (sent p) (registry_takes b.before b.letter.said.message).sent)) (sym b.whose) (registry_keeps (registry_takes b.before b.letter.said.message).sent))
caused es w d i (reader_took b) =
    more es d _ i b.is (tt, heard_all Keeps_it (λ r app line. tt) (λ r app. tt) (number_of b.e.who) b.hearer (received w b.conn b.e b.letter).ends b.letter)

kept_grow : Grows Nothing Kept_all
kept_grow = record {
  begins = tt;
  caused = λ es w d s a i e after b. caused es w d i e;
  moved = λ es w v s a i m. i;
  asked = λ es w conn r m question s a i asks. all_append Keeps_it es (sent (Reader r) m ∷ []) i (subst AsksOnly (sym asks.spelled) (own_asks asks.hearer.next question), tt);
}

pub taken_back : (lines : List Line) (trace : List Entry) → CanAllStand lines → Goes (begins lines) trace → Everywhere TakesNothingBack trace
taken_back lines trace a g =
    let k = kept (Shaped (And Nothing Kept_all)) (grown Nothing Kept_all shaped_keeps kept_grow) lines trace a g in
    everywhere TakesNothingBack trace (each_of Keeps_it TakesNothingBack [] trace kept_law (all_front Keeps_it trace _ k.state.1.1))
