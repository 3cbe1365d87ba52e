-- What the bus puts on down links bears numbers that it gave.
use Rattle.std.proofs.Common.{◌≡◌, inl, inr, ℕ, zero, suc, ◌+◌, ◌<◌, ◌≤◌, Bool, true, false, List, [], ◌∷◌, length, refl, sym, ◌∙◌, arith}
use Rattle.std.specs.Prelude.{◌==◌, not, filter, if◌then◌else◌}
use Rattle.std.specs.List.{AllByRecursion}
use Rattle.atspi_script_lines.specs.declared.line.Party.{Party}
use Rattle.atspi_script_lines.specs.declared.line.Party.TheVariants.{Bus as The_bus}
use Rattle.atspi_match.specs.RuleIndex.{without_rules}
use Rattle.atspi_names.specs.Owners.{own_name, after_gone}
use Rattle.atspi_match.specs.declared.routing.closing.Why.{Why}
use Rattle.atspi_match.specs.routing.BusState.{BusState, unique_of, calls_without}
use Rattle.atspi_match.specs.routing.Members.{is_text}
use Rattle.atspi_match.specs.routing.Queues.{without_queue}
use Rattle.atspi_match.specs.routing.Steps.{Move, says, delivers, closes, BusStep, farewell, bus_takes, bus_leaves}
use Rattle.atspi_trace.specs.Rules.{rule_in}
use Rattle.atspi_trace.specs.World.{Said, Letter, End}
use Rattle.atspi_trace.specs.Ends.{with_end, put_down, taken_up, leaves}
use Rattle.atspi_trace.specs.Carrying.{Carried, own_letter, letter_of, stepped, left, one_closed, settled, named, with_name, takes, takes_end}
use Rattle.atspi_trace_laws.proofs.OfOrder.Parties.{all_append}
use Rattle.atspi_trace_laws.proofs.OfOrder.Frame.{Over, IsOrder, over_same, over_both, over_with}
use Rattle.atspi_trace_laws.proofs.OfOrder.Each.{all_map}
use Rattle.atspi_trace_laws.proofs.OfTaken.Handing.{HandsOn, stepped_put}
use Rattle.atspi_trace_laws.proofs.OfOwn.Doing.{Doing, doing_of}
use Rattle.atspi_trace_laws.proofs.OfDelivered.Bounds.{NoneIsBus, gone_names, InRange, speaks_range, Comes, doing_range, doing_names, doing_more}

abbrev pub Bounded : ℕ → Letter → Type 0
Bounded high l = l.from ≡ The_bus → (8 ≤ l.said.message.serial) × (l.said.message.serial < high)

abbrev pub AllBounded : ℕ → End → Type 0
AllBounded high e = AllByRecursion (Bounded high) e.down

abbrev pub Bounds : ℕ → End → End → Type 0
Bounds high e d = AllBounded high e → AllBounded high d

pub bounding : (high : ℕ) → IsOrder (Bounds high)
bounding high = record { same = λ e a. a; both = λ e d c f g a. g (f a) }

put_ : (high : ℕ) (l : Letter) → Bounded high l → (e : End) → Bounds high e (put_down l e)
put_ high l b e a = all_append (Bounded high) e.down (l ∷ []) a (b, tt)

leave_ : (high : ℕ) (e : End) → Bounds high e (leaves e)
leave_ high e a = tt

-- a connection leaves
left_state : BusState → ℕ → BusState
left_state s conn = record s {
  joined = filter (λ c. not (c == conn)) s.joined;
  owners = after_gone s.owners conn;
  rules = without_rules conn s.rules;
  calls = calls_without conn s.calls;
}

own_puts : (low high : ℕ) → 8 ≤ low → (move : Move) → HandsOn (InRange low high) move → HandsOn (λ m. (e : End) → Bounds high e (put_down (own_letter m) e)) move
own_puts low high least (delivers conn m) r = λ e. put_ high (own_letter m) (λ is. (above r.0, r.1)) e
  where
    above : low ≤ m.serial → 8 ≤ m.serial
    above h = omega (arith, h, least)
own_puts low high least (says m) r = tt
own_puts low high least (closes conn) r = tt

leaves_range : (low high : ℕ) (s : BusState) (conn : ℕ) → low ≤ s.next → (bus_leaves s conn).state.next ≤ high → AllByRecursion (HandsOn (InRange low high)) (bus_leaves s conn).moves
unfolding left_state
leaves_range low high s conn a b = speaks_range low high (left_state s conn) (farewell s (after_gone s.owners conn) conn (unique_of s.owners conn)) a b

leaves_more : (s : BusState) (conn : ℕ) → s.next ≤ (bus_leaves s conn).state.next
leaves_more s conn = more s.next (length (farewell s (after_gone s.owners conn) conn (unique_of s.owners conn)))
  where
    more : (n k : ℕ) → n ≤ n + k
    more n k = omega arith

left_bounded : (high : ℕ) (c : Carried) (conn : ℕ) → 8 ≤ c.bus.state.next → (left c conn).bus.state.next ≤ high → Over (Bounds high) c.ends (left c conn).ends
left_bounded high c conn low top =
    over_both (Bounds high) (bounding high) c.ends (with_end conn leaves c.ends) _ (over_with (Bounds high) (bounding high) leaves (leave_ high) conn c.ends)
    (stepped_put (Bounds high) (bounding high) own_letter (record { bus = record c.bus { waiting = without_queue c.bus.waiting conn }; ends = with_end conn leaves c.ends }) (bus_leaves c.bus.state conn)
    (all_map (HandsOn (InRange c.bus.state.next high)) (HandsOn (λ m. (e : End) → Bounds high e (put_down (own_letter m) e))) (bus_leaves c.bus.state conn).moves
    (own_puts c.bus.state.next high low) (leaves_range c.bus.state.next high c.bus.state conn (same c.bus.state.next) top)))
  where
    same : (n : ℕ) → n ≤ n
    same n = omega arith

one_more : (c : Carried) (due : List (ℕ × Why)) → c.bus.state.next ≤ (one_closed c due).bus.state.next
one_more c [] = same c.bus.state.next
  where
    same : (n : ℕ) → n ≤ n
    same n = omega arith
one_more c (first ∷ rest) = leaves_more c.bus.state first.0

pub settled_more : (rounds : ℕ) (c : Carried) → c.bus.state.next ≤ (settled rounds c).bus.state.next
settled_more zero c = same c.bus.state.next
  where
    same : (n : ℕ) → n ≤ n
    same n = omega arith
settled_more (suc rounds) c =
    both c.bus.state.next (one_closed c c.bus.waiting.due).bus.state.next (settled rounds (one_closed c c.bus.waiting.due)).bus.state.next (one_more c c.bus.waiting.due) (settled_more rounds (one_closed c c.bus.waiting.due))
  where
    both : (a b c : ℕ) → a ≤ b → b ≤ c → a ≤ c
    both a b c p q = omega (arith, p, q)

least_of : (a b : ℕ) → 8 ≤ a → a ≤ b → 8 ≤ b
least_of a b p q = omega (arith, p, q)

up_to : (a b c : ℕ) → a ≤ b → b ≤ c → a ≤ c
up_to a b c p q = omega (arith, p, q)

one_bounded : (high : ℕ) (c : Carried) (due : List (ℕ × Why)) → 8 ≤ c.bus.state.next → (one_closed c due).bus.state.next ≤ high → Over (Bounds high) c.ends (one_closed c due).ends
one_bounded high c [] low top = over_same (Bounds high) (bounding high) c.ends
one_bounded high c (first ∷ rest) low top = left_bounded high c first.0 low top

pub settled_bounded : (rounds high : ℕ) (c : Carried) → 8 ≤ c.bus.state.next → (settled rounds c).bus.state.next ≤ high → Over (Bounds high) c.ends (settled rounds c).ends
settled_bounded zero high c low top = over_same (Bounds high) (bounding high) c.ends
settled_bounded (suc rounds) high c low top =
    let d : Carried = one_closed c c.bus.waiting.due in
    let last : ℕ = (settled rounds d).bus.state.next in
    over_both (Bounds high) (bounding high) c.ends d.ends (settled rounds d).ends
    (one_bounded high c c.bus.waiting.due low (up_to d.bus.state.next last high (settled_more rounds d) top))
    (settled_bounded rounds high d (least_of c.bus.state.next d.bus.state.next low (one_more c c.bus.waiting.due)) top)

-- the bus takes a message
taken_puts : (low high : ℕ) (who : Party) (m : Said) → 8 ≤ low → (who ≡ The_bus → ⊥) → (move : Move) → HandsOn (Comes low high) move → HandsOn (λ x. (e : End) → Bounds high e (put_down (letter_of who m x) e)) move
taken_puts low high who m least other (says x) r = tt
taken_puts low high who m least other (closes conn) r = tt
taken_puts low high who m least other (delivers conn x) r = λ e. by (is_text x.sender own_name) refl r e
  where
    foreign : (e : End) → Bounds high e (put_down (record { from = who; said = record m { message = x } }) e)
    foreign e = put_ high (record { from = who; said = record m { message = x } }) (λ is. absurd (other is)) e

    own : InRange low high x → (e : End) → Bounds high e (put_down (own_letter x) e)
    own g e = put_ high (own_letter x) (λ is. (above g.0, g.1)) e
      where
        above : low ≤ x.serial → 8 ≤ x.serial
        above h = omega (arith, h, least)

    by : (b : Bool) → is_text x.sender own_name ≡ b → Comes low high x → (e : End) → Bounds high e (put_down (if b then own_letter x else record { from = who; said = record m { message = x } }) e)
    by false g c e = foreign e
    by true g (inl c) e = own c e
    by true g (inr c) e = absurd (no (sym g ∙ c))
      where
        no : true ≡ false → ⊥
        no h = cc

pub takes_bounded : (high : ℕ) (c : Carried) (conn : ℕ) (who : Party) (m : Said) → 8 ≤ c.bus.state.next → NoneIsBus c.bus.state.owners → (who ≡ The_bus → ⊥) → (takes c conn who m).bus.state.next ≤ high
    → Over (Bounds high) c.ends (takes c conn who m).ends × (8 ≤ (takes c conn who m).bus.state.next)
takes_bounded high c conn who m low none other top =
    let s : BusState = c.bus.state in
    let step : BusStep = bus_takes s conn m.message (rule_in m.message) in
    let doing : Doing s conn step = doing_of s conn m.message (rule_in m.message) in
    let a : Carried = record c { ends = with_end conn taken_up c.ends } in
    let b : Carried = with_name conn (stepped (letter_of who m) a step) in
    let rounds : ℕ = length s.joined in
    let last : ℕ = (settled rounds b).bus.state.next in
    let mid : step.state.next ≤ high = up_to step.state.next last high (settled_more rounds b) top in
    let next : 8 ≤ step.state.next = least_of s.next step.state.next low (doing_more s conn step doing) in (
      over_both (Bounds high) (bounding high) c.ends a.ends (settled rounds b).ends (over_with (Bounds high) (bounding high) taken_up (λ e x. x) conn c.ends)
          (over_both (Bounds high) (bounding high) a.ends (stepped (letter_of who m) a step).ends (settled rounds b).ends
          (stepped_put (Bounds high) (bounding high) (letter_of who m) a step
          (all_map (HandsOn (Comes s.next high)) (HandsOn (λ x. (e : End) → Bounds high e (put_down (letter_of who m x) e))) step.moves (taken_puts s.next high who m low other)
          (doing_range s.next high s conn step none doing (same s.next) mid)))
          (over_both (Bounds high) (bounding high) (stepped (letter_of who m) a step).ends b.ends (settled rounds b).ends (over_with (Bounds high) (bounding high) (named (stepped (letter_of who m) a step).bus conn) (λ e x. x) conn (stepped (letter_of who m) a step).ends)
          (settled_bounded rounds high b next top))),
      least_of step.state.next last next (settled_more rounds b),
    )
  where
    same : (n : ℕ) → n ≤ n
    same n = omega arith

pub ends_bounded : (high : ℕ) (c : Carried) (conn : ℕ) → 8 ≤ c.bus.state.next → (takes_end c conn).bus.state.next ≤ high → Over (Bounds high) c.ends (takes_end c conn).ends × (8 ≤ (takes_end c conn).bus.state.next)
ends_bounded high c conn low top =
    let rounds : ℕ = length c.bus.state.joined in
    let last : ℕ = (takes_end c conn).bus.state.next in
    let next : 8 ≤ (left c conn).bus.state.next = least_of c.bus.state.next (left c conn).bus.state.next low (leaves_more c.bus.state conn) in (
      over_both (Bounds high) (bounding high) c.ends (left c conn).ends (takes_end c conn).ends
          (left_bounded high c conn low (up_to (left c conn).bus.state.next last high (settled_more rounds (left c conn)) top)) (settled_bounded rounds high (left c conn) next top),
      least_of (left c conn).bus.state.next last next (settled_more rounds (left c conn)),
    )

pub takes_more : (c : Carried) (conn : ℕ) (who : Party) (m : Said) → c.bus.state.next ≤ (takes c conn who m).bus.state.next
takes_more c conn who m =
    let step : BusStep = bus_takes c.bus.state conn m.message (rule_in m.message) in
    let b : Carried = with_name conn (stepped (letter_of who m) (record c { ends = with_end conn taken_up c.ends }) step) in
    up_to c.bus.state.next step.state.next (settled (length c.bus.state.joined) b).bus.state.next (doing_more c.bus.state conn step (doing_of c.bus.state conn m.message (rule_in m.message)))
    (settled_more (length c.bus.state.joined) b)

pub ends_more : (c : Carried) (conn : ℕ) → c.bus.state.next ≤ (takes_end c conn).bus.state.next
ends_more c conn =
    up_to c.bus.state.next (left c conn).bus.state.next (takes_end c conn).bus.state.next (leaves_more c.bus.state conn) (settled_more (length c.bus.state.joined) (left c conn))

-- NAMES
one_names : (c : Carried) (due : List (ℕ × Why)) → NoneIsBus c.bus.state.owners → NoneIsBus (one_closed c due).bus.state.owners
one_names c [] n = n
one_names c (first ∷ rest) n = gone_names c.bus.state.owners first.0 n

pub settled_names : (rounds : ℕ) (c : Carried) → NoneIsBus c.bus.state.owners → NoneIsBus (settled rounds c).bus.state.owners
settled_names zero c n = n
settled_names (suc rounds) c n = settled_names rounds (one_closed c c.bus.waiting.due) (one_names c c.bus.waiting.due n)

pub takes_names : (c : Carried) (conn : ℕ) (who : Party) (m : Said) → NoneIsBus c.bus.state.owners → NoneIsBus (takes c conn who m).bus.state.owners
takes_names c conn who m n =
    let step : BusStep = bus_takes c.bus.state conn m.message (rule_in m.message) in
    settled_names (length c.bus.state.joined) (with_name conn (stepped (letter_of who m) (record c { ends = with_end conn taken_up c.ends }) step))
    (doing_names c.bus.state conn step n (doing_of c.bus.state conn m.message (rule_in m.message)))

pub ends_names : (c : Carried) (conn : ℕ) → NoneIsBus c.bus.state.owners → NoneIsBus (takes_end c conn).bus.state.owners
ends_names c conn n = settled_names (length c.bus.state.joined) (left c conn) (gone_names c.bus.state.owners conn n)
