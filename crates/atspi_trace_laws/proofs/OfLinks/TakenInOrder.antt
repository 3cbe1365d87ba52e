-- The law of what the bus takes, along a lawful trace.
use Rattle.std.proofs.Common.{◌≡◌, ◌⊎◌, inl, inr, ℕ, zero, suc, ◌+◌, ◌≤◌, false, List, [], ◌∷◌, ◌++◌, length, Some, refl, sym, ap, ◌∙◌, subst, arith}
use Rattle.std.specs.Prelude.{nat_lt}
use Rattle.std.specs.List.{AllByRecursion}
use Rattle.std.proofs.lemmas.Bool.{ltb-false}
use Rattle.std.proofs.lemmas.List.{append-nil}
use Rattle.atspi_script_lines.specs.declared.line.Line.{Line}
use Rattle.atspi_script_lines.specs.declared.line.Party.TheVariants.{Bus as The_bus, Reader}
use Rattle.atspi_protocol.specs.registering.Steps.{registry_takes}
use Rattle.atspi_protocol.specs.exporting.Taking.{app_takes}
use Rattle.atspi_trace.specs.Entry.{Entry, sent, got}
use Rattle.atspi_trace.specs.World.{End, World, first_registry, first_world}
use Rattle.atspi_trace.specs.Ends.{number_of, end_at, app_count, reader_count}
use Rattle.atspi_trace.specs.Carrying as carrying
use Rattle.atspi_trace.specs.Hearing.{heard_entries}
use Rattle.atspi_trace.specs.Causes.{Done, only, at_end, app_starts, reader_starts}
use Rattle.atspi_trace.specs.Due.{asks_at, begins, Goes}
use Rattle.atspi_trace_laws.specs.laws.NineLaws.{Everywhere, sent_before}
use Rattle.atspi_trace_laws.specs.order.Scripts.{CanAllStand}
use Rattle.atspi_trace_laws.proofs.OfOrder.Parties.{no_none, same_some}
use Rattle.atspi_trace_laws.proofs.OfOrder.Frame.{Over, over_same}
use Rattle.atspi_trace_laws.proofs.OfOrder.Shape.{Shape}
use Rattle.atspi_trace_laws.proofs.OfOrder.Effects.{received, Effect, resets, app_joins, reader_joins, app_edited, app_took, reader_called, swapped, exited_, showed_, told_busy, told_quiet, bus_took, bus_ended, registry_took, reader_took}
use Rattle.atspi_trace_laws.proofs.OfOrder.Shaped.{new_app, new_reader, app_joined}
use Rattle.atspi_trace_laws.proofs.OfOrder.Along.{Keeps, kept}
use Rattle.atspi_trace_laws.proofs.OfOrder.Growing.{Grows, Shaped, And, grown}
use Rattle.atspi_trace_laws.proofs.OfOrder.Each.{Each, everywhere, all_map}
use Rattle.atspi_trace_laws.proofs.OfOrder.Acts.{Act, heard_act}
use Rattle.atspi_trace_laws.proofs.OfSteps.Steps.{Trees}
use Rattle.atspi_trace_laws.proofs.OfSteps.LawSteps.{Below, Stepped}
use Rattle.atspi_trace_laws.proofs.OfSerials.Numbers.{Numbered}
use Rattle.atspi_trace_laws.proofs.OfSerials.Causing.{edit_speaks, take_speaks, registry_speaks, call_speaks}
use Rattle.atspi_trace_laws.proofs.OfSerials.Hushing.{same_hushed, bus_ended_hushed, stopping_hushed, reader_hushed, app_speaks, reader_speaks, own_speaks, moved_hushed}
use Rattle.atspi_trace_laws.proofs.OfSerials.LawNumbers.{numbers_keep}
use Rattle.atspi_trace_laws.specs.links.Laws.{IsTakenInOrder}
use Rattle.atspi_trace_laws.proofs.OfLinks.Ups.{UpMore, up_more}
use Rattle.atspi_trace_laws.proofs.OfLinks.Lifting.{edit_lifts, take_lifts, registry_lifts, call_lifts, reader_lifts, stopping_lifts, ended_lifts, asked_lifts, moved_lifts}
use Rattle.atspi_trace_laws.proofs.OfLinks.LawLinks.{NotTaken, did_free, sent_free, got_free, word_free, bus_free, no_bus, IsLinked, Linked, lifted, joins_linked, taken_linked}

least : (n : ℕ) → n ≤ n
least n = omega arith

same_ends : (w : World) (d : Done) → d.world.ends ≡ w.ends → Over UpMore w.ends d.world.ends
same_ends w d h = subst (Over UpMore w.ends) (sym h) (over_same UpMore up_more w.ends)

-- only the registry is there, as at the beginning
anew : (es : List Entry) (w : World) (d : Done) (quota : ℕ) → Shape w → Linked es w → nat_lt 1 (length w.ends) ≡ false → d ≡ only (first_world quota) [] → Linked (es ++ d.entries) d.world
anew es w d quota s i few is =
    subst (λ x. Linked (es ++ x.entries) x.world) (sym is) (subst (λ l. Linked l (first_world quota)) (sym (append-nil es)) (by s.alone))
  where
    by : ((2 ≤ length w.ends) ⊎ (w ≡ first_world w.bus.quota)) → Linked es (first_world quota)
    by (inl two) = let less : length w.ends ≤ 1 = ltb-false 1 (length w.ends) few in absurd (omega (arith, two, less))
    by (inr h) = let j : Linked es (first_world w.bus.quota) = subst (Linked es) h i in (j.0, j.1, j.2)

-- where the cause is known as it was written
free_of : (d x : Done) → d ≡ x → AllByRecursion NotTaken x.entries → AllByRecursion NotTaken d.entries
free_of d x is a = subst (λ y. AllByRecursion NotTaken y.entries) (sym is) a

caused_linked : (es : List Entry) (w : World) (d : Done) → Shape w → Trees es w → Numbered es w → Linked es w → Effect w d → Linked (es ++ d.entries) d.world
caused_linked es w d s t m i (resets quota few is) = anew es w d quota s i few is
caused_linked es w d s t m i (app_joins name short is) =
    joins_linked es d.entries w d.world (new_app w name) i (ap (λ x. x.world.ends) is ∙ app_joined w name) (least (app_count w.ends)) refl (record { ups = (refl, tt); total = refl })
    (app_speaks w d s name is).grown (free_of d (app_starts w name) is (tt, (tt, tt)))
caused_linked es w d s t m i (reader_joins few is) =
    joins_linked es d.entries w d.world (new_reader w) i (ap (λ x. x.world.ends) is) (least (reader_count w.ends)) refl (record { ups = (refl, tt); total = refl })
    (reader_speaks w d s is).grown (free_of d (reader_starts w) is (tt, (tt, tt)))
caused_linked es w d s t m i (app_edited b) =
    let empty = (t b.conn b.app b.e b.before b.is_here.there b.whose b.role).empty in
    lifted es d.entries w d.world i (edit_lifts w d b empty) (edit_speaks w d s b empty).grown (free_of d _ b.is (did_free _ b.after.out))
caused_linked es w d s t m i (app_took b) =
    let empty = (t b.conn b.app b.e b.before b.is_here.there b.whose b.role).empty in
    lifted es d.entries w d.world i (take_lifts w d b empty) (take_speaks w d s b empty).grown
    (free_of d _ b.is (got_free b.e.who b.letter.from b.letter.said.message.serial (no_bus w b.conn b.e s b.is_here.there), did_free _ (app_takes b.before b.letter.said.message).out))
caused_linked es w d s t m i (reader_called b) = lifted es d.entries w d.world i (call_lifts w d b) (call_speaks w d s b).grown (free_of d _ b.is (tt, tt))
caused_linked es w d s t m i (swapped b) = lifted es d.entries w d.world i (same_ends w d (ap (λ x. x.world.ends) b.is)) (same_hushed w d _ b.is refl tt).grown (free_of d _ b.is tt)
caused_linked es w d s t m i (exited_ b) = lifted es d.entries w d.world i (stopping_lifts w d b) (stopping_hushed w d b).grown (free_of d _ b.is (tt, tt))
caused_linked es w d s t m i (showed_ b) = lifted es d.entries w d.world i (same_ends w d (ap (λ x. x.world.ends) b.is)) (same_hushed w d _ b.is refl (tt, tt)).grown (free_of d _ b.is (tt, tt))
caused_linked es w d s t m i (told_busy turns is) = lifted es d.entries w d.world i (same_ends w d (ap (λ x. x.world.ends) is)) (same_hushed w d _ is refl (tt, tt)).grown (free_of d _ is (tt, tt))
caused_linked es w d s t m i (told_quiet none is) = lifted es d.entries w d.world i (same_ends w d (ap (λ x. x.world.ends) is)) (same_hushed w d _ is refl (tt, tt)).grown (free_of d _ is (tt, tt))
caused_linked es w d s t m i (bus_took b) = taken_linked es w d s m i b
caused_linked es w d s t m i (bus_ended b) =
    let c = carrying.takes_end (record { bus = w.bus; ends = w.ends }) b.conn in
    lifted es d.entries w d.world i (ended_lifts w d b) (bus_ended_hushed w d b).grown (free_of d _ b.is (bus_free c.ends c.bus.own c.bus.closings))
caused_linked es w d s t m i (registry_took b) =
    lifted es d.entries w d.world i (registry_lifts w d b) (registry_speaks w d s b).grown
    (free_of d _ b.is (got_free b.e.who b.letter.from b.letter.said.message.serial (no_bus w b.conn b.e s b.is_here.there), sent_free b.e.who (registry_takes b.before b.letter.said.message).sent))
caused_linked es w d s t m i (reader_took b) =
    let v : World = received w b.conn b.e b.letter in
    lifted es d.entries w d.world i (reader_lifts w d b) (reader_hushed w d b).grown
    (free_of d _ b.is (
      got_free b.e.who b.letter.from b.letter.said.message.serial (no_bus w b.conn b.e s b.is_here.there),
      all_map (Act (λ p. ⊥)) NotTaken (heard_entries (number_of b.e.who) b.hearer v.ends b.letter) word_free (heard_act (λ p. ⊥) (number_of b.e.who) b.hearer v.ends b.letter b.letter.from refl),
    ))

first_linked : (k : ℕ) (e : End) → end_at (first_registry ∷ []) k ≡ Some e → IsLinked (suc (sent_before e.who + 0)) e
first_linked zero e h = subst (λ (x : End). IsLinked (suc (sent_before x.who + 0)) x) (same_some first_registry e h) (record { ups = tt; total = refl })
first_linked (suc k) e h = absurd (no_none e h)

abbrev pub Base : List Entry → World → Type 0
Base es w = And (And Below Stepped) Numbered es w

links_grow : Grows Base Linked
links_grow = record {
  begins = (tt, λ k e h going. first_linked k e h, λ p f. refl);
  caused = λ es w d s a i e after b. caused_linked es w d s a.0.1.1 a.1 i e;
  moved = λ es w v s a i m. subst (λ l. Linked l v) (append-nil es) (lifted es [] w v i (moved_lifts w v m) (moved_hushed w v m).grown tt);
  asked = λ es w conn r m question s a i asks.
      lifted es (sent (Reader r) m ∷ []) w (at_end w conn (asks_at m question)) i (asked_lifts w conn r m question asks) (own_speaks w conn r m question s asks).grown (tt, tt);
}

pub links_keep : Keeps (Shaped (And Base Linked))
links_keep = grown Base Linked numbers_keep links_grow

each_front : (xs ys : List Entry) (early : List Entry) → Each IsTakenInOrder early (xs ++ ys) → Each IsTakenInOrder early xs
each_front [] ys early e = tt
each_front (x ∷ xs) ys early e = (fewer x e.0, each_front xs ys (early ++ x ∷ []) e.1)
  where
    fewer : (entry : Entry) → IsTakenInOrder early entry (xs ++ ys) → IsTakenInOrder early entry xs
    fewer (got The_bus who serial) law = law
    fewer entry law = tt

pub bus_takes_in_order : (lines : List Line) (trace : List Entry) → CanAllStand lines → Goes (begins lines) trace → Everywhere IsTakenInOrder trace
bus_takes_in_order lines trace a g =
    let k = kept (Shaped (And Base Linked)) links_keep lines trace a g in
    everywhere IsTakenInOrder trace (each_front trace _ [] k.state.1.1.0)
