-- What readers send, along a lawful trace: calls that take nothing back, and where one is read as a question it is spelled as that question's call.
use Rattle.std.proofs.Common.{◌≡◌, ℕ, Bool, true, false, List, [], ◌∷◌, ◌++◌, map, None, Some, refl, sym, ap, ◌∙◌, subst}
use Rattle.std.specs.Prelude.{◌==◌, if◌then◌else◌}
use Rattle.std.specs.List.{AllByRecursion, cons_option}
use Rattle.std.proofs.lemmas.Bool.{eqb-true}
use Rattle.atspi_script_lines.specs.declared.deed.Deed.{Deed}
use Rattle.atspi_script_lines.specs.declared.deed.Deed.TheVariants.{SetCaret, InsertText, DeleteText, SetText, SelectChild, DeselectChild, SelectAll, ClearSelection, DoAction}
use Rattle.atspi_script_lines.specs.declared.line.Party.TheVariants.{Registry, Reader}
use Rattle.atspi_message.specs.Envelope.{Envelope}
use Rattle.atspi_match.specs.declared.routing.closing.Closing.{Closing}
use Rattle.atspi_protocol.specs.registering.Steps.{registry_takes}
use Rattle.atspi_protocol.specs.exporting.Exporter.{Happening, steps, sends, hears, deaf}
use Rattle.atspi_protocol.specs.exporting.Taking.{app_takes}
use Rattle.atspi_protocol.specs.declared.news.part.PartName.TheVariants.{Text, Caret, Columns}
use Rattle.atspi_protocol.specs.declared.following.question.Question.{Question}
use Rattle.atspi_protocol.specs.declared.following.question.Question.TheVariants.{Hello, AddMatch, RegisterEvent, GetChildren, GetItems, GetPart}
use Rattle.atspi_protocol.specs.following.Calls.{asking, user_call}
use Rattle.atspi_trace.specs.Entry.{Entry, sent, dropped}
use Rattle.atspi_trace.specs.World.{World}
use Rattle.atspi_trace.specs.Ends.{same_party, whose, party_at, number_of}
use Rattle.atspi_trace.specs.Carrying as carrying
use Rattle.atspi_trace.specs.Carrying.{bus_entries}
use Rattle.atspi_trace.specs.Hearing.{question_in}
use Rattle.atspi_trace.specs.Causes.{Done, did, app_starts}
use Rattle.atspi_trace_laws.specs.laws.Words.{messages, message, with_serial}
use Rattle.atspi_trace_laws.specs.missed.Laws.{AsksOnly}
use Rattle.atspi_trace_laws.proofs.OfOrder.Parties.{no_none, same_some, same-party, all_append}
use Rattle.atspi_trace_laws.proofs.OfOrder.Plain.{user_plain}
use Rattle.atspi_trace_laws.proofs.OfOrder.BusWords.{bus_all, all_any}
use Rattle.atspi_trace_laws.proofs.OfOrder.Effects.{received, Effect, resets, app_joins, reader_joins, app_edited, app_took, reader_called, swapped, exited_, showed_, told_busy, told_quiet, bus_took, bus_ended, registry_took, reader_took}
use Rattle.atspi_trace_laws.proofs.OfOrder.Along.{Keeps}
use Rattle.atspi_trace_laws.proofs.OfOrder.Growing.{Grows, Shaped, Nothing, And, grown, shaped_keeps}
use Rattle.atspi_trace_laws.proofs.OfHeard.Quiet.{heard_all}
use Rattle.atspi_trace_laws.proofs.OfReaders.Fates.{hello_read}

-- A MESSAGE of a reader's
pub record IsCall (e : Envelope) : Type 0 where
  pub only : AsksOnly e
  pub spelled : (question : Question) → question_in e ≡ Some question → e ≡ asking e.serial question

user_only : (serial : ℕ) (name : List ℕ) (node : ℕ) (deed : Deed) → AsksOnly (user_call serial name node deed)
user_only serial name node (SetCaret at) = record { is_call = refl; no_rule_back = refl; no_pattern_back = refl }
user_only serial name node (InsertText at text) = record { is_call = refl; no_rule_back = refl; no_pattern_back = refl }
user_only serial name node (DeleteText from to) = record { is_call = refl; no_rule_back = refl; no_pattern_back = refl }
user_only serial name node (SetText text) = record { is_call = refl; no_rule_back = refl; no_pattern_back = refl }
user_only serial name node (SelectChild index) = record { is_call = refl; no_rule_back = refl; no_pattern_back = refl }
user_only serial name node (DeselectChild index) = record { is_call = refl; no_rule_back = refl; no_pattern_back = refl }
user_only serial name node SelectAll = record { is_call = refl; no_rule_back = refl; no_pattern_back = refl }
user_only serial name node ClearSelection = record { is_call = refl; no_rule_back = refl; no_pattern_back = refl }
user_only serial name node (DoAction index) = record { is_call = refl; no_rule_back = refl; no_pattern_back = refl }

own_only : (serial : ℕ) (q : Question) → AsksOnly (asking serial q)
own_only serial Hello = record { is_call = refl; no_rule_back = refl; no_pattern_back = refl }
own_only serial (AddMatch text) = record { is_call = refl; no_rule_back = refl; no_pattern_back = refl }
own_only serial (RegisterEvent pattern) = record { is_call = refl; no_rule_back = refl; no_pattern_back = refl }
own_only serial GetChildren = record { is_call = refl; no_rule_back = refl; no_pattern_back = refl }
own_only serial (GetItems name) = record { is_call = refl; no_rule_back = refl; no_pattern_back = refl }
own_only serial (GetPart name path Text) = record { is_call = refl; no_rule_back = refl; no_pattern_back = refl }
own_only serial (GetPart name path Caret) = record { is_call = refl; no_rule_back = refl; no_pattern_back = refl }
own_only serial (GetPart name path Columns) = record { is_call = refl; no_rule_back = refl; no_pattern_back = refl }

user_is_call : (serial : ℕ) (name : List ℕ) (node : ℕ) (deed : Deed) → IsCall (user_call serial name node deed)
user_is_call serial name node deed = record {
  only = user_only serial name node deed;
  spelled = λ question h. absurd (no_none question (sym (user_plain serial name node deed) ∙ h));
}

own_is_call : (serial : ℕ) (q : Question) → question_in (asking serial q) ≡ Some q → IsCall (asking serial q)
own_is_call serial q read = record {
  only = own_only serial q;
  spelled = λ other h. ap (asking serial) (same_some q other (sym read ∙ h));
}

-- AN ENTRY
abbrev Keeps_it : Entry → Type 0
Keeps_it (sent (Reader r) e) = IsCall e
Keeps_it entry = Unit {0}

did_keep : (app : ℕ) (hs : List Happening) → AllByRecursion Keeps_it (map (did app) hs)
did_keep app [] = tt
did_keep app (steps step ∷ hs) = (tt, did_keep app hs)
did_keep app (sends e ∷ hs) = (tt, did_keep app hs)
did_keep app (hears listener pattern ∷ hs) = (tt, did_keep app hs)
did_keep app (deaf listener pattern ∷ hs) = (tt, did_keep app hs)

registry_keeps : (es : List Envelope) → AllByRecursion Keeps_it (map (sent Registry) es)
registry_keeps [] = tt
registry_keeps (e ∷ es) = (tt, registry_keeps es)

abbrev pub Spelled : List Entry → World → Type 0
Spelled es w = AllByRecursion Keeps_it es

more : (es : List Entry) (d x : Done) → AllByRecursion Keeps_it es → d ≡ x → AllByRecursion Keeps_it x.entries → AllByRecursion Keeps_it (es ++ d.entries)
more es d x i is a = all_append Keeps_it es d.entries i (subst (λ y. AllByRecursion Keeps_it y.entries) (sym is) a)

caused : (es : List Entry) (w : World) (d : Done) → Spelled es w → Effect w d → Spelled (es ++ d.entries) d.world
caused es w d i (resets quota few is) = more es d _ i is tt
caused es w d i (app_joins name short is) = more es d (app_starts w name) i is (tt, (tt, tt))
caused es w d i (reader_joins few is) = more es d _ i is (tt, (own_is_call 1 Hello hello_read, tt))
caused es w d i (app_edited b) = more es d _ i b.is (did_keep _ b.after.out)
caused es w d i (app_took b) = more es d _ i b.is (tt, did_keep _ (app_takes b.before b.letter.said.message).out)
caused es w d i (reader_called b) =
    more es d _ i b.is
    (subst (λ p. AllByRecursion Keeps_it (sent p (user_call b.hearer.next b.name b.node b.deed) ∷ [])) (sym (ap whose b.is_here.there ∙ b.whose)) (user_is_call b.hearer.next b.name b.node b.deed, tt))
caused es w d i (swapped b) = more es d _ i b.is tt
caused es w d i (exited_ b) = more es d _ i b.is (tt, tt)
caused es w d i (showed_ b) = more es d _ i b.is (tt, tt)
caused es w d i (told_busy turns is) = more es d _ i is (tt, tt)
caused es w d i (told_quiet none is) = more es d _ i is (tt, tt)
caused es w d i (bus_took b) =
    let c = carrying.takes (record { bus = w.bus; ends = w.ends }) b.conn b.e.who b.said in
    more es d _ i b.is
    (tt, bus_all Keeps_it (λ e. tt) c.ends c.bus.own c.bus.closings (all_any (λ (x : Closing). (queued len : ℕ) → Keeps_it (dropped (party_at c.ends x.conn) queued len)) (λ x queued len. tt) c.bus.closings))
caused es w d i (bus_ended b) =
    let c = carrying.takes_end (record { bus = w.bus; ends = w.ends }) b.conn in
    more es d _ i b.is
    (bus_all Keeps_it (λ e. tt) c.ends c.bus.own c.bus.closings (all_any (λ (x : Closing). (queued len : ℕ) → Keeps_it (dropped (party_at c.ends x.conn) queued len)) (λ x queued len. tt) c.bus.closings))
caused es w d i (registry_took b) =
    more es d _ i b.is
    (tt, subst (λ p. AllByRecursion Keeps_it (map (sent p) (registry_takes b.before b.letter.said.message).sent)) (sym b.whose) (registry_keeps (registry_takes b.before b.letter.said.message).sent))
caused es w d i (reader_took b) =
    more es d _ i b.is (tt, heard_all Keeps_it (λ r app line. tt) (λ r app. tt) (number_of b.e.who) b.hearer (received w b.conn b.e b.letter).ends b.letter)

spelled_grow : Grows Nothing Spelled
spelled_grow = record {
  begins = tt;
  caused = λ es w d s a i e after b. caused es w d i e;
  moved = λ es w v s a i m. i;
  asked = λ es w conn r m question s a i asks.
      all_append Keeps_it es (sent (Reader r) m ∷ []) i (subst IsCall (sym asks.spelled) (own_is_call asks.hearer.next question (ap question_in (sym asks.spelled) ∙ asks.read)), tt);
}

pub spelled_keep : Keeps (Shaped (And Nothing Spelled))
spelled_keep = grown Nothing Spelled shaped_keeps spelled_grow

-- SO IS EACH THAT IS FOUND, and it has the serial by which it is found
pub has_serial : (n : ℕ) (ms : List Envelope) (m : Envelope) → with_serial n ms ≡ Some m → m.serial ≡ n
has_serial n [] m h = absurd (no_none m h)
has_serial n (x ∷ xs) m h = by (x.serial == n) refl h (λ k. has_serial n xs m k)
  where
    by : (b : Bool) → (x.serial == n) ≡ b → (if b then Some x else with_serial n xs) ≡ Some m → (with_serial n xs ≡ Some m → m.serial ≡ n) → m.serial ≡ n
    by true g k ih = ap (λ (y : Envelope). y.serial) (sym (same_some x m k)) ∙ eqb-true x.serial n g
    by false g k ih = ih k

pub all_found : (P : Envelope → Type 0) (n : ℕ) (ms : List Envelope) (m : Envelope) → AllByRecursion P ms → with_serial n ms ≡ Some m → P m
all_found P n [] m a h = absurd (no_none m h)
all_found P n (x ∷ xs) m a h = by (x.serial == n) h (λ k. all_found P n xs m a.1 k)
  where
    by : (b : Bool) → (if b then Some x else with_serial n xs) ≡ Some m → (with_serial n xs ≡ Some m → P m) → P m
    by true k ih = subst P (same_some x m k) a.0
    by false k ih = ih k

calls_of : (es : List Entry) (r : ℕ) → AllByRecursion Keeps_it es → AllByRecursion IsCall (messages es (Reader r))
calls_of [] r a = tt
calls_of (sent who e ∷ es) r a = by (same_party who (Reader r)) refl (calls_of es r a.1)
  where
    by : (b : Bool) → same_party who (Reader r) ≡ b → AllByRecursion IsCall (messages es (Reader r)) → AllByRecursion IsCall (cons_option (if b then Some e else None) (messages es (Reader r)))
    by true g rest = (subst (λ p. Keeps_it (sent p e)) (same-party who (Reader r) g) a.0, rest)
    by false g rest = rest
calls_of (entry ∷ es) r a = calls_of es r a.1

pub call_of : (es : List Entry) (w : World) (r n : ℕ) (e : Envelope) → Spelled es w → message es (Reader r) n ≡ Some e → IsCall e
call_of es w r n e i h = all_found IsCall n (messages es (Reader r)) e (calls_of es r i) h
