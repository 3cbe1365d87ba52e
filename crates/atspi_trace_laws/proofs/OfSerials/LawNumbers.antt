-- The numbers of messages along a lawful trace.
use Rattle.std.proofs.Common.{◌≡◌, ◌⊎◌, inl, inr, ℕ, zero, suc, ◌+◌, ◌≤◌, false, List, [], ◌∷◌, ◌++◌, length, Some, refl, sym, ap, ◌∙◌, subst, arith}
use Rattle.std.specs.Prelude.{nat_lt}
use Rattle.std.proofs.lemmas.Bool.{ltb-false}
use Rattle.std.proofs.lemmas.List.{append-nil}
use Rattle.atspi_script_lines.specs.declared.line.Line.{Line}
use Rattle.atspi_script_lines.specs.declared.line.Party.{Party}
use Rattle.atspi_script_lines.specs.declared.line.Party.TheVariants.{Bus as The_bus, Registry, App, Reader}
use Rattle.atspi_trace.specs.Entry.{Entry, sent}
use Rattle.atspi_trace.specs.World.{Role, the_registry, an_application, a_reader, World, End, first_registry, first_world}
use Rattle.atspi_trace.specs.Ends.{end_at, app_count, reader_count}
use Rattle.atspi_trace.specs.Causes.{Done, only, at_end}
use Rattle.atspi_trace.specs.Due.{asks_at, begins, Goes}
use Rattle.atspi_trace_laws.specs.laws.Words.{messages}
use Rattle.atspi_trace_laws.specs.laws.NineLaws.{Everywhere, sent_before}
use Rattle.atspi_trace_laws.specs.order.Scripts.{CanAllStand}
use Rattle.atspi_trace_laws.proofs.OfOrder.Parties.{no_none, same_some}
use Rattle.atspi_trace_laws.proofs.OfOrder.Shape.{Shape}
use Rattle.atspi_trace_laws.proofs.OfOrder.Effects.{Effect, resets, app_joins, reader_joins, app_edited, app_took, reader_called, swapped, exited_, showed_, told_busy, told_quiet, bus_took, bus_ended, registry_took, reader_took}
use Rattle.atspi_trace_laws.proofs.OfOrder.Along.{Keeps, kept}
use Rattle.atspi_trace_laws.proofs.OfOrder.Growing.{Grows, Shaped, And, grown}
use Rattle.atspi_trace_laws.proofs.OfOrder.Each.{Each, everywhere}
use Rattle.atspi_trace_laws.proofs.OfSteps.Steps.{Trees}
use Rattle.atspi_trace_laws.proofs.OfSteps.LawSteps.{Below, Stepped, steps_keep}
use Rattle.atspi_trace_laws.specs.serials.Laws.{HasNextNumber}
use Rattle.atspi_trace_laws.proofs.OfSerials.Speaking.{next_of}
use Rattle.atspi_trace_laws.proofs.OfSerials.Numbers.{AreNext, IsFresh, Unsent, Numbered, spoken, hushed}
use Rattle.atspi_trace_laws.proofs.OfSerials.Causing.{edit_speaks, take_speaks, registry_speaks, call_speaks}
use Rattle.atspi_trace_laws.proofs.OfSerials.Hushing.{same_hushed, bus_took_hushed, bus_ended_hushed, stopping_hushed, reader_hushed, app_speaks, reader_speaks, own_speaks, moved_hushed}

-- an end that is known has the next number
next_at : (es : List Entry) (w : World) (k : ℕ) (e : End) (who : Party) (role : Role) → AreNext es w → end_at w.ends k ≡ Some e → e.who ≡ who → e.role ≡ role
    → next_of role ≡ suc (sent_before who + length (messages es who))
next_at es w k e who role f h is r = sym (ap next_of r) ∙ f k e h ∙ ap (λ p. suc (sent_before p + length (messages es p))) is

first_at : (es : List Entry) (w : World) (who : Party) → Unsent es w → IsFresh w who → sent_before who ≡ 0 → 1 ≡ suc (sent_before who + length (messages es who))
first_at es w who f fresh none = let sent_none : length (messages es who) ≡ 0 = ap length (f who fresh) in omega (arith, sent_none, none)

least : (n : ℕ) → n ≤ n
least n = omega arith

-- only the registry is there, as at the beginning
anew : (es : List Entry) (w : World) (d : Done) (quota : ℕ) → Shape w → Numbered es w → nat_lt 1 (length w.ends) ≡ false → d ≡ only (first_world quota) [] → Numbered (es ++ d.entries) d.world
anew es w d quota s i few is =
    subst (λ x. Numbered (es ++ x.entries) x.world) (sym is) (subst (λ l. Numbered l (first_world quota)) (sym (append-nil es)) (by s.alone))
  where
    by : ((2 ≤ length w.ends) ⊎ (w ≡ first_world w.bus.quota)) → Numbered es (first_world quota)
    by (inl two) = let less : length w.ends ≤ 1 = ltb-false 1 (length w.ends) few in absurd (omega (arith, two, less))
    by (inr h) = let j : Numbered es (first_world w.bus.quota) = subst (Numbered es) h i in (j.0, j.1, j.2)

caused_numbered : (es : List Entry) (w : World) (d : Done) → Shape w → Trees es w → Numbered es w → Effect w d → Numbered (es ++ d.entries) d.world
caused_numbered es w d s t i (resets quota few is) = anew es w d quota s i few is
caused_numbered es w d s t i (app_joins name short is) =
    spoken es d.entries w d.world (App (app_count w.ends)) 1 i (app_speaks w d s name is) (first_at es w (App (app_count w.ends)) i.2 (least (app_count w.ends)) refl)
caused_numbered es w d s t i (reader_joins few is) =
    spoken es d.entries w d.world (Reader (reader_count w.ends)) 1 i (reader_speaks w d s is) (first_at es w (Reader (reader_count w.ends)) i.2 (least (reader_count w.ends)) refl)
caused_numbered es w d s t i (app_edited b) =
    spoken es d.entries w d.world (App b.app) b.before.next i (edit_speaks w d s b (t b.conn b.app b.e b.before b.is_here.there b.whose b.role).empty)
    (next_at es w b.conn b.e (App b.app) (an_application b.before) i.1 b.is_here.there b.whose b.role)
caused_numbered es w d s t i (app_took b) =
    spoken es d.entries w d.world (App b.app) b.before.next i (take_speaks w d s b (t b.conn b.app b.e b.before b.is_here.there b.whose b.role).empty)
    (next_at es w b.conn b.e (App b.app) (an_application b.before) i.1 b.is_here.there b.whose b.role)
caused_numbered es w d s t i (reader_called b) =
    spoken es d.entries w d.world b.e.who b.hearer.next i (call_speaks w d s b) (next_at es w b.conn b.e b.e.who (a_reader b.hearer) i.1 b.is_here.there refl b.role)
caused_numbered es w d s t i (swapped b) = hushed es d.entries w d.world s i (same_hushed w d _ b.is refl tt)
caused_numbered es w d s t i (exited_ b) = hushed es d.entries w d.world s i (stopping_hushed w d b)
caused_numbered es w d s t i (showed_ b) = hushed es d.entries w d.world s i (same_hushed w d _ b.is refl (tt, tt))
caused_numbered es w d s t i (told_busy turns is) = hushed es d.entries w d.world s i (same_hushed w d _ is refl (tt, tt))
caused_numbered es w d s t i (told_quiet none is) = hushed es d.entries w d.world s i (same_hushed w d _ is refl (tt, tt))
caused_numbered es w d s t i (bus_took b) = hushed es d.entries w d.world s i (bus_took_hushed w d b)
caused_numbered es w d s t i (bus_ended b) = hushed es d.entries w d.world s i (bus_ended_hushed w d b)
caused_numbered es w d s t i (registry_took b) =
    spoken es d.entries w d.world b.e.who b.before.next i (registry_speaks w d s b) (next_at es w b.conn b.e b.e.who (the_registry b.before) i.1 b.is_here.there refl b.role)
caused_numbered es w d s t i (reader_took b) = hushed es d.entries w d.world s i (reader_hushed w d b)

first_next : (k : ℕ) (e : End) → end_at (first_registry ∷ []) k ≡ Some e → next_of e.role ≡ suc (sent_before e.who + 0)
first_next zero e h = subst (λ (x : End). next_of x.role ≡ suc (sent_before x.who + 0)) (same_some first_registry e h) refl
first_next (suc k) e h = absurd (no_none e h)

numbers_grow : Grows (And Below Stepped) Numbered
numbers_grow = record {
  begins = (tt, λ k e h. first_next k e h, λ p f. refl);
  caused = λ es w d s a i e after b. caused_numbered es w d s a.1.1 i e;
  moved = λ es w v s a i m. subst (λ l. Numbered l v) (append-nil es) (hushed es [] w v s i (moved_hushed w v m));
  asked = λ es w conn r m question s a i asks.
      spoken es (sent (Reader r) m ∷ []) w (at_end w conn (asks_at m question)) (Reader r) asks.hearer.next i (own_speaks w conn r m question s asks)
      (next_at es w conn asks.asker (Reader r) (a_reader asks.hearer) i.1 asks.is_here.there asks.whose asks.reader);
}

pub numbers_keep : Keeps (Shaped (And (And Below Stepped) Numbered))
numbers_keep = grown (And Below Stepped) Numbered steps_keep numbers_grow

each_front : (xs ys : List Entry) (early : List Entry) → Each HasNextNumber early (xs ++ ys) → Each HasNextNumber early xs
each_front [] ys early e = tt
each_front (x ∷ xs) ys early e = (fewer x e.0, each_front xs ys (early ++ x ∷ []) e.1)
  where
    fewer : (entry : Entry) → HasNextNumber early entry (xs ++ ys) → HasNextNumber early entry xs
    fewer (sent The_bus m) law = tt
    fewer (sent Registry m) law = law
    fewer (sent (App a) m) law = law
    fewer (sent (Reader r) m) law = law
    fewer entry law = tt

pub numbers_rise : (lines : List Line) (trace : List Entry) → CanAllStand lines → Goes (begins lines) trace → Everywhere HasNextNumber trace
numbers_rise lines trace a g =
    let k = kept (Shaped (And (And Below Stepped) Numbered)) numbers_keep lines trace a g in
    everywhere HasNextNumber trace (each_front trace _ [] k.state.1.1.0)
