-- The registry lives wherever an entry stands.
use Rattle.std.proofs.Common.{◌≡◌, Bool, true, false, List, [], ◌∷◌, ◌++◌, refl, sym, ap, ◌∙◌, subst}
use Rattle.std.specs.Prelude.{not, ◌||◌}
use Rattle.std.specs.List.{AllByRecursion, list_any}
use Rattle.atspi_script_lines.specs.declared.line.Line.{Line}
use Rattle.atspi_script_lines.specs.declared.line.Party.{Party}
use Rattle.atspi_script_lines.specs.declared.line.Party.TheVariants.{Bus as The_bus, Registry, App, Reader}
use Rattle.atspi_trace.specs.Entry.{Entry, sent, exited, dropped}
use Rattle.atspi_trace.specs.World.{World}
use Rattle.atspi_trace.specs.Ends.{same_party, whose}
use Rattle.atspi_trace.specs.Causes.{Done}
use Rattle.atspi_trace.specs.Due.{begins, Goes}
use Rattle.atspi_trace_laws.specs.laws.Words.{stops_it}
use Rattle.atspi_trace_laws.specs.laws.NineLaws.{Everywhere}
use Rattle.atspi_trace_laws.specs.order.Scripts.{CanAllStand}
use Rattle.atspi_trace_laws.proofs.OfOrder.Parties.{false_true, all_append, all_front}
use Rattle.atspi_trace_laws.proofs.OfOrder.Each.{Each, everywhere, all_map}
use Rattle.atspi_trace_laws.proofs.OfOrder.Acts.{Act, OfBus, Written, acted, told, stopped_, acts}
use Rattle.atspi_trace_laws.proofs.OfOrder.Along.{Keeps, kept}
use Rattle.atspi_trace_laws.proofs.OfOrder.Growing.{Grows, Shaped, Nothing, And, grown}
use Rattle.atspi_trace_laws.proofs.OfOrder.Told.{Tells, told_keeps}
use Rattle.atspi_trace_laws.specs.lost.Laws.{IsAllOver, RegistryLives}
use Rattle.atspi_trace_laws.proofs.OfLost.Drops.{is_drop}
use Rattle.atspi_trace_laws.proofs.OfLost.Lost.{each_behind}

-- only a drop stops the registry
abbrev pub OnlyDrops : Entry → Type 0
OnlyDrops entry = stops_it Registry entry ≡ is_drop entry

act_only : (P : Party → Type 0) (entry : Entry) → Act P entry → OnlyDrops entry
act_only P (dropped who queued len) a = absurd a
act_only P (exited who) a = absurd a
act_only P entry a = refl

bus_only : (w : World) (entry : Entry) → OfBus w entry → OnlyDrops entry
bus_only w (dropped Registry queued len) g = refl
bus_only w (dropped The_bus queued len) g = refl
bus_only w (dropped (App a) queued len) g = refl
bus_only w (dropped (Reader r) queued len) g = refl
bus_only w (exited who) g = absurd g
bus_only w entry g = refl

pub written_only : (w : World) (d : Done) → Written w d → AllByRecursion OnlyDrops d.entries
written_only w d (acted a) = all_map (Act _) OnlyDrops d.entries (act_only _) a
written_only w d (told front back is a b) =
    subst (AllByRecursion OnlyDrops) (sym is) (all_append OnlyDrops front back (all_map (Act _) OnlyDrops front (act_only _) a) (all_map (OfBus d.world) OnlyDrops back (bus_only d.world) b))
written_only w d (stopped_ b) =
    subst (λ x. AllByRecursion OnlyDrops x.entries) (sym b.is) (ap (λ p. same_party p Registry) (ap whose b.is_here.there) ∙ b.no_registry, tt)

abbrev Only : List Entry → World → Type 0
Only es w = AllByRecursion OnlyDrops es

only_grows : Grows (And Nothing Tells) Only
only_grows = record {
  begins = tt;
  caused = λ es w d s a b e after ab. all_append OnlyDrops es d.entries b (written_only w d (acts w d s a.1 e));
  moved = λ es w v s a b m. b;
  asked = λ es w conn r m question s a b asks. all_append OnlyDrops es (sent (Reader r) m ∷ []) b (refl, tt);
}

only_keeps : Keeps (Shaped (And (And Nothing Tells) Only))
only_keeps = grown (And Nothing Tells) Only told_keeps only_grows

any_none : (early : List Entry) (x : Entry) → list_any (stops_it Registry) early ≡ false → stops_it Registry x ≡ false → list_any (stops_it Registry) (early ++ x ∷ []) ≡ false
any_none [] x h g = ap (λ b. b || false) g
any_none (y ∷ ys) x h g = by (stops_it Registry y) (λ k. any_none ys x k g) h
  where
    by : (b : Bool) → (list_any (stops_it Registry) ys ≡ false → list_any (stops_it Registry) (ys ++ x ∷ []) ≡ false) → (b || list_any (stops_it Registry) ys) ≡ false → (b || list_any (stops_it Registry) (ys ++ x ∷ [])) ≡ false
    by true f k = absurd (false_true (sym k))
    by false f k = f k

nothing_left : (early : List Entry) (x : Entry) (xs : List Entry) → is_drop x ≡ true → IsAllOver early x xs → xs ≡ []
nothing_left early (dropped Registry queued len) xs h o = o
nothing_left early x xs h o = absurd (false_true h)

each_lives : (xs early : List Entry) → list_any (stops_it Registry) early ≡ false → Each IsAllOver early xs → AllByRecursion OnlyDrops xs → Each RegistryLives early xs
each_lives [] early h o n = tt
each_lives (x ∷ xs) early h o n = (ap not h, by (stops_it Registry x) refl (λ g. each_lives xs (early ++ x ∷ []) (any_none early x h g) o.1 n.1))
  where
    by : (b : Bool) → stops_it Registry x ≡ b → (stops_it Registry x ≡ false → Each RegistryLives (early ++ x ∷ []) xs) → Each RegistryLives (early ++ x ∷ []) xs
    by false g f = f g
    by true g f = subst (Each RegistryLives (early ++ x ∷ [])) (sym (nothing_left early x xs (sym n.0 ∙ g) o.0)) tt

pub registry_lives : (lines : List Line) (trace : List Entry) → CanAllStand lines → Goes (begins lines) trace → Everywhere RegistryLives trace
registry_lives lines trace a g =
    let k = kept (Shaped (And (And Nothing Tells) Only)) only_keeps lines trace a g in
    everywhere RegistryLives trace (each_lives trace [] refl (each_behind lines trace a g) (all_front OnlyDrops trace _ k.state.1.1))
