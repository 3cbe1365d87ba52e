-- Whom the bus closed is gone, and what it told nobody asks for twice.
use Rattle.std.proofs.Common.{◌≡◌, ◌⊎◌, inl, inr, ℕ, zero, suc, false, List, [], ◌∷◌, None, Some, refl, sym, ap, subst}
use Rattle.std.specs.Prelude.{Option, ◌-◌, length}
use Rattle.std.specs.List.{AllByRecursion}
use Rattle.atspi_script_lines.specs.declared.line.Party.{Party}
use Rattle.atspi_script_lines.specs.declared.line.Party.TheVariants.{Bus as The_bus}
use Rattle.atspi_match.specs.declared.routing.closing.Why.{Why}
use Rattle.atspi_match.specs.declared.routing.closing.Closing.{Closing}
use Rattle.atspi_match.specs.routing.Steps.{bus_takes, bus_leaves}
use Rattle.atspi_match.specs.routing.Queues.{without_queue}
use Rattle.atspi_trace.specs.Rules.{rule_in}
use Rattle.atspi_trace.specs.World.{Said, End, World}
use Rattle.atspi_trace.specs.Ends.{is_here, whose, party_at, end_at, with_end, leaves, taken_up}
use Rattle.atspi_trace.specs.Carrying.{Carried, own_letter, letter_of, stepped, left, one_closed, settled, with_name, takes, takes_end}
use Rattle.atspi_trace_laws.proofs.OfOrder.Parties.{all_append}
use Rattle.atspi_trace_laws.proofs.OfOrder.Frame.{Over, with_cases, stepped_over, left_over}
use Rattle.atspi_trace_laws.proofs.OfOrder.Shape.{Lasts, lasting, put_lasts, leaves_lasts}
use Rattle.atspi_trace_laws.proofs.OfOrder.Gone.{IsGone}
use Rattle.atspi_trace_laws.proofs.OfOrder.Each.{all_map}

-- nothing is yet to be asked for
pub record IsTold (w : World) : Type 0 where
  pub own : w.bus.own ≡ []
  pub closings : w.bus.closings ≡ []

abbrev ClosedAt : List End → Closing → Type 0
ClosedAt ends c = (d : End) → end_at ends c.conn ≡ Some d → is_here d.standing ≡ false

abbrev AreClosed : List End → List Closing → Type 0
AreClosed ends cs = AllByRecursion (ClosedAt ends) cs

left_lasts : (c : Carried) (conn : ℕ) → Over Lasts c.ends (left c conn).ends
left_lasts c conn = left_over Lasts lasting (λ m e. put_lasts (own_letter m) e) leaves_lasts c conn

-- who leaves is gone
left_gone : (c : Carried) (conn : ℕ) (d : End) → end_at (left c conn).ends conn ≡ Some d → is_here d.standing ≡ false
left_gone c conn d h =
    let o = stepped_over Lasts lasting own_letter (λ m e. put_lasts (own_letter m) e)
    (record { bus = record c.bus { waiting = without_queue c.bus.waiting conn }; ends = with_end conn leaves c.ends }) (bus_leaves c.bus.state conn) in
    let x = o.back conn d h in
    x.2.gone (by x.0 (with_cases leaves c.ends conn conn x.0 x.1))
  where
    by : (e : End) → ((b : End) × (end_at c.ends conn ≡ Some b) × (((conn ≡ conn) × (e ≡ leaves b)) ⊎ ((conn ≡ conn → ⊥) × (e ≡ b)))) → is_here e.standing ≡ false
    by e g = at g.2
      where
        at : (((conn ≡ conn) × (e ≡ leaves g.0)) ⊎ ((conn ≡ conn → ⊥) × (e ≡ g.0))) → is_here e.standing ≡ false
        at (inl k) = ap (λ (y : End). is_here y.standing) k.1
        at (inr k) = absurd (k.0 refl)

still_closed : (a b : List End) (cs : List Closing) → Over Lasts a b → AreClosed a cs → AreClosed b cs
still_closed a b cs o f = all_map (ClosedAt a) (ClosedAt b) cs (λ c g d h. let x = o.back c.conn d h in x.2.gone (g x.0 x.1)) f

one_closes : (c : Carried) (due : List (ℕ × Why)) → AreClosed c.ends c.bus.closings → AreClosed (one_closed c due).ends (one_closed c due).bus.closings
one_closes c [] f = f
one_closes c (first ∷ rest) f =
    let told : Closing = record { conn = first.0; why = first.1; after = c.bus.state.next - 1 } in
    all_append (ClosedAt (left c first.0).ends) c.bus.closings (told ∷ []) (still_closed c.ends (left c first.0).ends c.bus.closings (left_lasts c first.0) f) (left_gone c first.0, tt)

settled_closes : (rounds : ℕ) (c : Carried) → AreClosed c.ends c.bus.closings → AreClosed (settled rounds c).ends (settled rounds c).bus.closings
settled_closes zero c f = f
settled_closes (suc rounds) c f = settled_closes rounds (one_closed c c.bus.waiting.due) (one_closes c c.bus.waiting.due f)

pub takes_closes : (c : Carried) (conn : ℕ) (who : Party) (said : Said) → c.bus.closings ≡ [] → AreClosed (takes c conn who said).ends (takes c conn who said).bus.closings
takes_closes c conn who said none =
    let first : Carried = with_name conn (stepped (letter_of who said) (record c { ends = with_end conn taken_up c.ends }) (bus_takes c.bus.state conn said.message (rule_in said.message))) in
    settled_closes (length c.bus.state.joined) first (subst (AreClosed first.ends) (sym none) tt)

pub ends_closes : (c : Carried) (conn : ℕ) → c.bus.closings ≡ [] → AreClosed (takes_end c conn).ends (takes_end c conn).bus.closings
ends_closes c conn none = settled_closes (length c.bus.state.joined) (left c conn) (subst (AreClosed (left c conn).ends) (sym none) tt)

-- so each party that is told to be dropped is gone; that of a connection that no end has is the bus
abbrev pub IsDropped : World → Party → Type 0
IsDropped w who = (who ≡ The_bus) ⊎ IsGone w who

pub closing_drops : (w : World) (c : Closing) → ClosedAt w.ends c → IsDropped w (party_at w.ends c.conn)
closing_drops w c f = by (end_at w.ends c.conn) refl
  where
    by : (o : Option End) → end_at w.ends c.conn ≡ o → IsDropped w (whose o)
    by None h = inl refl
    by (Some e) h = inr (record { conn = c.conn; e = e; there = h; whose = refl; gone = f e h })

pub closings_drop : (w : World) (cs : List Closing) → AreClosed w.ends cs → AllByRecursion (λ (c : Closing). IsDropped w (party_at w.ends c.conn)) cs
closings_drop w cs f = all_map (ClosedAt w.ends) _ cs (λ c g. closing_drops w c g) f
