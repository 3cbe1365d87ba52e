-- Who asks to be embedded: applications alone. So the names that readers were told are unique names of applications, and each own call of a reader goes to the bus, to the registry or to an application.
use Rattle.std.proofs.Common.{◌≡◌, ◌⊎◌, inl, inr, ℕ, Bool, true, false, List, [], ◌∷◌, ◌++◌, map, None, Some, refl, sym, ap, ◌∙◌, subst, arith}
use Rattle.std.specs.Prelude.{codes, if◌then◌else◌}
use Rattle.std.specs.List.{AllByRecursion, cons_option}
use Rattle.atspi_script_lines.specs.declared.deed.Deed.{Deed}
use Rattle.atspi_script_lines.specs.declared.deed.Deed.TheVariants.{SetCaret, InsertText, DeleteText, SetText, SelectChild, DeselectChild, SelectAll, ClearSelection, DoAction}
use Rattle.atspi_script_lines.specs.declared.line.Party.{Party}
use Rattle.atspi_script_lines.specs.declared.line.Party.TheVariants.{Bus as The_bus, Registry, App, Reader}
use Rattle.atspi_message.specs.Envelope.{Envelope}
use Rattle.atspi_match.specs.routing.Members.{is_text}
use Rattle.atspi_match.specs.declared.routing.closing.Closing.{Closing}
use Rattle.atspi_protocol.specs.ends.Messages.{Reply, returns, fails, reply_to}
use Rattle.atspi_protocol.specs.registering.Steps.{registry_takes}
use Rattle.atspi_protocol.specs.registering.Told.{id_call}
use Rattle.atspi_protocol.specs.exporting.Exporter.{Happening, steps, sends, hears, deaf}
use Rattle.atspi_protocol.specs.exporting.Taking.{app_takes}
use Rattle.atspi_protocol.specs.declared.news.part.PartName.TheVariants.{Text, Caret, Columns}
use Rattle.atspi_protocol.specs.declared.following.question.Question.{Question}
use Rattle.atspi_protocol.specs.declared.following.question.Question.TheVariants.{Hello, AddMatch, RegisterEvent, GetChildren, GetItems, GetPart}
use Rattle.atspi_protocol.specs.following.Calls.{asking, user_call}
use Rattle.atspi_trace.specs.Entry.{Entry, sent, dropped}
use Rattle.atspi_trace.specs.World.{World}
use Rattle.atspi_trace.specs.Ends.{same_party, whose, party_at, number_of}
use Rattle.atspi_trace.specs.Carrying as carrying
use Rattle.atspi_trace.specs.Carrying.{bus_entries}
use Rattle.atspi_trace.specs.Causes.{Done, did, app_starts}
use Rattle.atspi_trace_laws.specs.laws.Words.{messages, message}
use Rattle.atspi_trace_laws.proofs.OfOrder.Parties.{same-party, false_true, all_append}
use Rattle.atspi_trace_laws.proofs.OfOrder.BusWords.{bus_all, all_any}
use Rattle.atspi_trace_laws.proofs.OfOrder.Effects.{received, Effect, resets, app_joins, reader_joins, app_edited, app_took, reader_called, swapped, exited_, showed_, told_busy, told_quiet, bus_took, bus_ended, registry_took, reader_took}
use Rattle.atspi_trace_laws.proofs.OfOrder.Along.{Keeps}
use Rattle.atspi_trace_laws.proofs.OfOrder.Growing.{Grows, Shaped, Nothing, And, grown, shaped_keeps}
use Rattle.atspi_trace_laws.proofs.OfHeard.Quiet.{heard_all}
use Rattle.atspi_trace_caches.proofs.OfServed.Sending.{registry_sends}
use Rattle.atspi_trace_caches.proofs.OfServed.Spelling.{all_found}
use Rattle.atspi_trace_caches.proofs.OfServed.HearingTuned.{NotEmbed}

-- WHAT IS NO CALL OF EMBED
not_embed : (m : Envelope) → is_text m.member (codes "Embed") ≡ false → NotEmbed m
not_embed m f one is = false_true (sym f ∙ ap (λ o. is_text o (codes "Embed")) is)

user_not : (serial : ℕ) (name : List ℕ) (node : ℕ) (deed : Deed) → NotEmbed (user_call serial name node deed)
user_not serial name node (SetCaret at) = not_embed (user_call serial name node (SetCaret at)) refl
user_not serial name node (InsertText at text) = not_embed (user_call serial name node (InsertText at text)) refl
user_not serial name node (DeleteText from to) = not_embed (user_call serial name node (DeleteText from to)) refl
user_not serial name node (SetText text) = not_embed (user_call serial name node (SetText text)) refl
user_not serial name node (SelectChild index) = not_embed (user_call serial name node (SelectChild index)) refl
user_not serial name node (DeselectChild index) = not_embed (user_call serial name node (DeselectChild index)) refl
user_not serial name node SelectAll = not_embed (user_call serial name node SelectAll) refl
user_not serial name node ClearSelection = not_embed (user_call serial name node ClearSelection) refl
user_not serial name node (DoAction index) = not_embed (user_call serial name node (DoAction index)) refl

own_not : (serial : ℕ) (q : Question) → NotEmbed (asking serial q)
own_not serial Hello = not_embed (asking serial Hello) refl
own_not serial (AddMatch text) = not_embed (asking serial (AddMatch text)) refl
own_not serial (RegisterEvent pattern) = not_embed (asking serial (RegisterEvent pattern)) refl
own_not serial GetChildren = not_embed (asking serial GetChildren) refl
own_not serial (GetItems name) = not_embed (asking serial (GetItems name)) refl
own_not serial (GetPart name path Text) = not_embed (asking serial (GetPart name path Text)) refl
own_not serial (GetPart name path Caret) = not_embed (asking serial (GetPart name path Caret)) refl
own_not serial (GetPart name path Columns) = not_embed (asking serial (GetPart name path Columns)) refl

other_kind : (e : Envelope) (n : ℕ) → e.kind ≡ n → (n ≡ 1 → ⊥) → NotEmbed e
other_kind e n is apart one = λ member. apart (sym is ∙ one)

signal_not : (e : Envelope) → e.kind ≡ 4 → NotEmbed e
signal_not e four = other_kind e 4 four (λ h. omega (arith, h))

reply_not : (caller : List ℕ) (serial : ℕ) (r : Reply) → NotEmbed (reply_to caller serial r)
reply_not caller serial (returns values) = other_kind (reply_to caller serial (returns values)) 2 refl (λ h. omega (arith, h))
reply_not caller serial (fails word) = other_kind (reply_to caller serial (fails word)) 3 refl (λ h. omega (arith, h))

number_not : (n : ℕ) (e : Envelope) → NotEmbed e → NotEmbed (record e { serial = n })
number_not n e h = h

-- AN ENTRY
abbrev EmbedsNot : Entry → Type 0
EmbedsNot (sent (Reader r) e) = NotEmbed e
EmbedsNot (sent Registry e) = NotEmbed e
EmbedsNot entry = Unit {0}

did_not : (app : ℕ) (hs : List Happening) → AllByRecursion EmbedsNot (map (did app) hs)
did_not app [] = tt
did_not app (steps step ∷ hs) = (tt, did_not app hs)
did_not app (sends e ∷ hs) = (tt, did_not app hs)
did_not app (hears listener pattern ∷ hs) = (tt, did_not app hs)
did_not app (deaf listener pattern ∷ hs) = (tt, did_not app hs)

registry_not : (es : List Envelope) → AllByRecursion NotEmbed es → AllByRecursion EmbedsNot (map (sent Registry) es)
registry_not [] a = tt
registry_not (e ∷ es) a = (a.0, registry_not es a.1)

abbrev pub OnlyApps : List Entry → World → Type 0
OnlyApps es w = AllByRecursion EmbedsNot es

more : (es : List Entry) (d x : Done) → AllByRecursion EmbedsNot es → d ≡ x → AllByRecursion EmbedsNot x.entries → AllByRecursion EmbedsNot (es ++ d.entries)
more es d x i is a = all_append EmbedsNot es d.entries i (subst (λ y. AllByRecursion EmbedsNot y.entries) (sym is) a)

caused : (es : List Entry) (w : World) (d : Done) → OnlyApps es w → Effect w d → OnlyApps (es ++ d.entries) d.world
caused es w d i (resets quota few is) = more es d _ i is tt
caused es w d i (app_joins name short is) = more es d (app_starts w name) i is (tt, (tt, tt))
caused es w d i (reader_joins few is) = more es d _ i is (tt, (own_not 1 Hello, tt))
caused es w d i (app_edited b) = more es d _ i b.is (did_not _ b.after.out)
caused es w d i (app_took b) = more es d _ i b.is (tt, did_not _ (app_takes b.before b.letter.said.message).out)
caused es w d i (reader_called b) =
    more es d _ i b.is
    (subst (λ p. AllByRecursion EmbedsNot (sent p (user_call b.hearer.next b.name b.node b.deed) ∷ [])) (sym (ap whose b.is_here.there ∙ b.whose)) (user_not b.hearer.next b.name b.node b.deed, tt))
caused es w d i (swapped b) = more es d _ i b.is tt
caused es w d i (exited_ b) = more es d _ i b.is (tt, tt)
caused es w d i (showed_ b) = more es d _ i b.is (tt, tt)
caused es w d i (told_busy turns is) = more es d _ i is (tt, tt)
caused es w d i (told_quiet none is) = more es d _ i is (tt, tt)
caused es w d i (bus_took b) =
    let c = carrying.takes (record { bus = w.bus; ends = w.ends }) b.conn b.e.who b.said in
    more es d _ i b.is
    (tt, bus_all EmbedsNot (λ e. tt) c.ends c.bus.own c.bus.closings (all_any (λ (x : Closing). (queued len : ℕ) → EmbedsNot (dropped (party_at c.ends x.conn) queued len)) (λ x queued len. tt) c.bus.closings))
caused es w d i (bus_ended b) =
    let c = carrying.takes_end (record { bus = w.bus; ends = w.ends }) b.conn in
    more es d _ i b.is
    (bus_all EmbedsNot (λ e. tt) c.ends c.bus.own c.bus.closings (all_any (λ (x : Closing). (queued len : ℕ) → EmbedsNot (dropped (party_at c.ends x.conn) queued len)) (λ x queued len. tt) c.bus.closings))
caused es w d i (registry_took b) =
    more es d _ i b.is (
      tt,
      subst (λ p. AllByRecursion EmbedsNot (map (sent p) (registry_takes b.before b.letter.said.message).sent)) (sym b.whose)
          (registry_not (registry_takes b.before b.letter.said.message).sent
          (registry_sends NotEmbed number_not signal_not reply_not (λ child n. not_embed (id_call child n) refl) b.before b.letter.said.message)),
    )
caused es w d i (reader_took b) =
    more es d _ i b.is (tt, heard_all EmbedsNot (λ r app line. tt) (λ r app. tt) (number_of b.e.who) b.hearer (received w b.conn b.e b.letter).ends b.letter)

embedders_grow : Grows Nothing OnlyApps
embedders_grow = record {
  begins = tt;
  caused = λ es w d s a i e after b. caused es w d i e;
  moved = λ es w v s a i m. i;
  asked = λ es w conn r m question s a i asks. all_append EmbedsNot es (sent (Reader r) m ∷ []) i (subst NotEmbed (sym asks.spelled) (own_not asks.hearer.next question), tt);
}

pub embedders_keep : Keeps (Shaped (And Nothing OnlyApps))
embedders_keep = grown Nothing OnlyApps shaped_keeps embedders_grow

-- so whoever sent one is an application
calls_not : (es : List Entry) (p : Party) → (p ≡ Registry) ⊎ ((r : ℕ) × (p ≡ Reader r)) → AllByRecursion EmbedsNot es → AllByRecursion NotEmbed (messages es p)
calls_not [] p q a = tt
calls_not (sent who e ∷ es) p q a = by (same_party who p) refl (calls_not es p q a.1)
  where
    its : who ≡ p → (p ≡ Registry) ⊎ ((r : ℕ) × (p ≡ Reader r)) → NotEmbed e
    its is (inl h) = subst (λ x. EmbedsNot (sent x e)) (is ∙ h) a.0
    its is (inr h) = subst (λ x. EmbedsNot (sent x e)) (is ∙ h.1) a.0

    by : (b : Bool) → same_party who p ≡ b → AllByRecursion NotEmbed (messages es p) → AllByRecursion NotEmbed (cons_option (if b then Some e else None) (messages es p))
    by true g rest = (its (same-party who p g) q, rest)
    by false g rest = rest
calls_not (entry ∷ es) p q a = calls_not es p q a.1

pub an_embedder : (es : List Entry) (w : World) (p : Party) (n : ℕ) (m : Envelope) → OnlyApps es w → message es p n ≡ Some m → m.kind ≡ 1 → m.member ≡ Some (codes "Embed") → (p ≡ The_bus) ⊎ ((a : ℕ) × (p ≡ App a))
an_embedder es w The_bus n m i was one is = inl refl
an_embedder es w (App a) n m i was one is = inr (a, refl)
an_embedder es w Registry n m i was one is = absurd (all_found NotEmbed n (messages es Registry) m (calls_not es Registry (inl refl) i) was one is)
an_embedder es w (Reader r) n m i was one is = absurd (all_found NotEmbed n (messages es (Reader r)) m (calls_not es (Reader r) (inr (r, refl)) i) was one is)
