-- EACH CALL OF A READER'S HAS ONE REPLY AT MOST, while the bus is at work: its call on the way, its open call, its reply on the way and its reply taken are one together; and whoever is to answer has no more calls and
-- replies on its links than are open there.
use Rattle.std.proofs.Common.{◌≡◌, ◌⊎◌, inl, inr, ℕ, zero, suc, ◌+◌, ◌<◌, ◌≤◌, ◌^◌, Bool, true, false, List, [], ◌∷◌, length, Option, Some, refl, sym, ap, ◌∙◌, subst, arith}
use Rattle.std.specs.Prelude.{◌==◌, ◌&&◌}
use Rattle.std.proofs.lemmas.Bool.{eqb-true, eq-eqb}
use Rattle.atspi_script_lines.specs.declared.line.Party.{Party}
use Rattle.atspi_message.specs.Envelope.{Envelope}
use Rattle.atspi_match.specs.declared.routing.closing.Why.{Why}
use Rattle.atspi_match.specs.routing.BusState.{OpenCall}
use Rattle.atspi_match.specs.routing.Queues.{Bus, without_queue}
use Rattle.atspi_match.specs.routing.Steps.{BusStep, bus_takes, bus_leaves}
use Rattle.atspi_trace.specs.Rules.{rule_in}
use Rattle.atspi_trace.specs.World.{here, away, Standing, Said, Letter, End}
use Rattle.atspi_trace.specs.Ends.{is_here, end_at, with_end, rest_of, taken_up, leaves}
use Rattle.atspi_trace.specs.Carrying.{Carried, own_letter, letter_of, stepped, left, one_closed, settled, named, with_name, takes, takes_end}
use Rattle.atspi_trace_laws.proofs.OfOrder.Parties.{same_some, false_true}
use Rattle.atspi_trace_laws.proofs.OfOrder.Frame.{with_cases}
use Rattle.atspi_trace_caches.proofs.OfSettled.ReplyingOwners.{Owned, takes_owned, gone_owned, one_owned}
use Rattle.atspi_trace_caches.proofs.OfSettled.ReplyingCarried.{plainly_of}
use Rattle.atspi_trace_played.proofs.ReplyingTally.{one_if, tally, replies_to, calls_as, calls_from, replies_for, opens, opens_at, given, in_letter, in_said, Grew, stepped_grew}
use Rattle.atspi_trace_played.proofs.ReplyingSteps.{Knows, StepFine}
use Rattle.atspi_trace_played.proofs.ReplyingLeaves.{takes_fine, leaves_mine, leaves_theirs}

pub record Holds (ends : List End) (calls : List OpenCall) (k n : ℕ) (u : Option (List ℕ)) (taken limit : ℕ) (e : End) : Type 0 where
  pub mine : tally (in_letter (replies_to n)) e.down + (tally (opens k n) calls + (tally (in_said (calls_as n)) e.up + taken)) ≤ limit
  pub theirs : (x : ℕ) (d : End) → end_at ends x ≡ Some d → d.standing ≡ here → tally (in_letter (calls_from u n)) d.down + tally (in_said (replies_for u n)) d.up ≤ tally (opens_at k n x) calls

abbrev pub AllHold : List End → List OpenCall → ℕ → ℕ → Option (List ℕ) → ℕ → ℕ → Type 0
AllHold ends calls k n u taken limit = (e : End) → end_at ends k ≡ Some e → e.standing ≡ here → Holds ends calls k n u taken limit e

not_away : (st : Standing) → st ≡ away → st ≡ here → ⊥
not_away st h g = false_true (ap is_here (sym h ∙ g))

-- THE BUS TAKES A MESSAGE: it is gone from its sender's up link
module _ (ends : List End) (j : ℕ) (said : Said) (rest : List Said) (ej : End) (there_j : end_at ends j ≡ Some ej) (link : ej.up ≡ said ∷ rest) where
  abbrev pub base : List End
  base = with_end j taken_up ends

  pub record FromBase (a : ℕ) (x e : End) : Type 0 where
    pub standing : x.standing ≡ e.standing
    pub down : x.down ≡ e.down
    pub up : (p : Envelope → Bool) → tally (in_said p) x.up + one_if ((j == a) && p said.message) ≡ tally (in_said p) e.up

  from_base : (a : ℕ) (x : End) → end_at base a ≡ Some x → (e : End) × (end_at ends a ≡ Some e) × FromBase a x e
  from_base a x there = let y = with_cases taken_up ends j a x there in (y.0, y.1, by y.0 y.1 y.2)
    where
      by : (e : End) → end_at ends a ≡ Some e → (((a ≡ j) × (x ≡ taken_up e)) ⊎ ((a ≡ j → ⊥) × (x ≡ e))) → FromBase a x e
      by e at (inl h) = record {
        standing = ap (λ (z : End). z.standing) h.1;
        down = ap (λ (z : End). z.down) h.1;
        up = λ p.
            let up : e.up ≡ said ∷ rest = ap (λ (z : End). z.up) (same_some e ej (sym at ∙ ap (end_at ends) h.0 ∙ there_j)) ∙ link in
            let now : tally (in_said p) x.up ≡ tally (in_said p) rest = ap (λ (z : End). tally (in_said p) z.up) h.1 ∙ ap (λ l. tally (in_said p) (rest_of l)) up in
            let was : tally (in_said p) e.up ≡ one_if (p said.message) + tally (in_said p) rest = ap (tally (in_said p)) up in
            let its : one_if ((j == a) && p said.message) ≡ one_if (p said.message) = ap (λ b. one_if (b && p said.message)) (eq-eqb j a (sym h.0)) in
            sums (tally (in_said p) x.up) (tally (in_said p) rest) (tally (in_said p) e.up) (one_if (p said.message)) (one_if ((j == a) && p said.message)) now was its;
      }
        where
          sums : (x r e o i : ℕ) → x ≡ r → e ≡ o + r → i ≡ o → x + i ≡ e
          sums x r e o i h g f = omega (arith, h, g, f)
      by e at (inr h) = record {
        standing = ap (λ (z : End). z.standing) h.1;
        down = ap (λ (z : End). z.down) h.1;
        up = λ p.
            let now : tally (in_said p) x.up ≡ tally (in_said p) e.up = ap (λ (z : End). tally (in_said p) z.up) h.1 in
            sums (tally (in_said p) x.up) (tally (in_said p) e.up) (one_if ((j == a) && p said.message)) now (ap (λ b. one_if (b && p said.message)) (none (j == a) refl));
      }
        where
          sums : (x e i : ℕ) → x ≡ e → i ≡ 0 → x + i ≡ e
          sums x e i h g = omega (arith, h, g)

          none : (b : Bool) → (j == a) ≡ b → (j == a) ≡ false
          none true g = absurd (h.0 (sym (eqb-true j a g)))
          none false g = g

  -- and then the bus does its step
  module _ (bus : Bus) (who : Party) (k n : ℕ) (u : Option (List ℕ)) (taken limit : ℕ) (fine : StepFine bus.state j k n u said.message (bus_takes bus.state j said.message (rule_in said.message))) where
    abbrev pub step : BusStep
    step = bus_takes bus.state j said.message (rule_in said.message)

    abbrev pub stepped_ends : List End
    stepped_ends = (stepped (letter_of who said) (record { bus = bus; ends = base }) step).ends

    from_step : (a : ℕ) (z : End) → end_at stepped_ends a ≡ Some z → (x : End) × (e : End) × (end_at ends a ≡ Some e) × (Grew a step.moves x z) × FromBase a x e
    from_step a z there =
        let x = stepped_grew (letter_of who said) (plainly_of who said) (record { bus = bus; ends = base }) step a z there in
        let y = from_base a x.0 x.1 in
        (x.0, y.0, y.1, x.2, y.2)

    pub step_holds : AllHold ends bus.state.calls k n u taken limit → AllHold stepped_ends step.state.calls k n u taken limit
    step_holds i z there on = record { mine = its_mine; theirs = its_theirs }
      where
        a : (x : End) × (e : End) × (end_at ends k ≡ Some e) × (Grew k step.moves x z) × FromBase k x e
        a = from_step k z there

        old : Holds ends bus.state.calls k n u taken limit a.1
        old = i a.1 a.2 (sym a.4.standing ∙ sym a.3.standing ∙ on)

        its_mine : tally (in_letter (replies_to n)) z.down + (tally (opens k n) step.state.calls + (tally (in_said (calls_as n)) z.up + taken)) ≤ limit
        its_mine =
            sums (tally (in_letter (replies_to n)) z.down) (tally (in_letter (replies_to n)) a.0.down) (tally (in_letter (replies_to n)) a.1.down) (given (replies_to n) k step.moves) (tally (opens k n) step.state.calls)
            (tally (opens k n) bus.state.calls)
            (one_if ((j == k) && calls_as n said.message)) (tally (in_said (calls_as n)) z.up) (tally (in_said (calls_as n)) a.0.up) (tally (in_said (calls_as n)) a.1.up) taken limit (a.3.down (replies_to n))
            (ap (tally (in_letter (replies_to n))) a.4.down) fine.mine
            (ap (tally (in_said (calls_as n))) a.3.up) (a.4.up (calls_as n)) old.mine
          where
            sums : (zd xd ed g o2 o i zu xu eu t l : ℕ) → zd ≤ xd + g → xd ≡ ed → g + o2 ≤ o + i → zu ≡ xu → xu + i ≡ eu → ed + (o + (eu + t)) ≤ l → zd + (o2 + (zu + t)) ≤ l
            sums zd xd ed g o2 o i zu xu eu t l h1 h2 h3 h4 h5 h6 = omega (arith, h1, h2, h3, h4, h5, h6)

        its_theirs : (x : ℕ) (d : End) → end_at stepped_ends x ≡ Some d → d.standing ≡ here → tally (in_letter (calls_from u n)) d.down + tally (in_said (replies_for u n)) d.up ≤ tally (opens_at k n x) step.state.calls
        its_theirs x d there_d on_d =
            let b = from_step x d there_d in
            sums (tally (in_letter (calls_from u n)) d.down) (tally (in_letter (calls_from u n)) b.0.down) (tally (in_letter (calls_from u n)) b.1.down) (given (calls_from u n) x step.moves) (tally (opens_at k n x) step.state.calls)
            (tally (opens_at k n x) bus.state.calls)
            (one_if ((j == x) && replies_for u n said.message)) (tally (in_said (replies_for u n)) d.up) (tally (in_said (replies_for u n)) b.0.up) (tally (in_said (replies_for u n)) b.1.up) (b.3.down (calls_from u n))
            (ap (tally (in_letter (calls_from u n))) b.4.down) (fine.theirs x)
            (ap (tally (in_said (replies_for u n))) b.3.up) (b.4.up (replies_for u n)) (old.theirs x b.1 b.2 (sym b.4.standing ∙ sym b.3.standing ∙ on_d))
          where
            sums : (zd xd ed g o2 o i zu xu eu : ℕ) → zd ≤ xd + g → xd ≡ ed → g + o ≤ o2 + i → zu ≡ xu → xu + i ≡ eu → ed + eu ≤ o → zd + zu ≤ o2
            sums zd xd ed g o2 o i zu xu eu h1 h2 h3 h4 h5 h6 = omega (arith, h1, h2, h3, h4, h5, h6)

-- a unique name changes nothing there
named_holds : (b : Bus) (j : ℕ) (ends : List End) (calls : List OpenCall) (k n : ℕ) (u : Option (List ℕ)) (taken limit : ℕ) → AllHold ends calls k n u taken limit → AllHold (with_end j (named b j) ends) calls k n u taken limit
named_holds b j ends calls k n u taken limit i e there on = record {
  mine = ap_le x.0 x.2 (i x.0 x.1 (sym (same_standing x.0 e x.2) ∙ on)).mine;
  theirs = λ y d there_d on_d. let z = with_cases (named b j) ends j y d there_d in subst (λ (l : List Letter). tally (in_letter (calls_from u n)) l + tally (in_said (replies_for u n)) d.up ≤ tally (opens_at k n y) calls)
      (sym (same_down z.0 d z.2))
      (subst (λ (l : List Said). tally (in_letter (calls_from u n)) z.0.down + tally (in_said (replies_for u n)) l ≤ tally (opens_at k n y) calls) (sym (same_up z.0 d z.2))
      ((i x.0 x.1 (sym (same_standing x.0 e x.2) ∙ on)).theirs y z.0 z.1 (sym (same_standing z.0 d z.2) ∙ on_d)));
}
  where
    Changed : ℕ → End → End → Type 0
    Changed y x d = ((y ≡ j) × (d ≡ named b j x)) ⊎ ((y ≡ j → ⊥) × (d ≡ x))

    x : (x : End) × (end_at ends k ≡ Some x) × (((k ≡ j) × (e ≡ named b j x)) ⊎ ((k ≡ j → ⊥) × (e ≡ x)))
    x = with_cases (named b j) ends j k e there

    same_standing : {y : ℕ} (x d : End) → (((y ≡ j) × (d ≡ named b j x)) ⊎ ((y ≡ j → ⊥) × (d ≡ x))) → d.standing ≡ x.standing
    same_standing x d (inl h) = ap (λ (z : End). z.standing) h.1
    same_standing x d (inr h) = ap (λ (z : End). z.standing) h.1

    same_down : {y : ℕ} (x d : End) → (((y ≡ j) × (d ≡ named b j x)) ⊎ ((y ≡ j → ⊥) × (d ≡ x))) → d.down ≡ x.down
    same_down x d (inl h) = ap (λ (z : End). z.down) h.1
    same_down x d (inr h) = ap (λ (z : End). z.down) h.1

    same_up : {y : ℕ} (x d : End) → (((y ≡ j) × (d ≡ named b j x)) ⊎ ((y ≡ j → ⊥) × (d ≡ x))) → d.up ≡ x.up
    same_up x d (inl h) = ap (λ (z : End). z.up) h.1
    same_up x d (inr h) = ap (λ (z : End). z.up) h.1

    ap_le : (x : End) → (((k ≡ j) × (e ≡ named b j x)) ⊎ ((k ≡ j → ⊥) × (e ≡ x))) → tally (in_letter (replies_to n)) x.down + (tally (opens k n) calls + (tally (in_said (calls_as n)) x.up + taken)) ≤ limit
        → tally (in_letter (replies_to n)) e.down + (tally (opens k n) calls + (tally (in_said (calls_as n)) e.up + taken)) ≤ limit
    ap_le x h old =
        subst (λ (l : List Letter). tally (in_letter (replies_to n)) l + (tally (opens k n) calls + (tally (in_said (calls_as n)) e.up + taken)) ≤ limit) (sym (same_down x e h))
        (subst (λ (l : List Said). tally (in_letter (replies_to n)) x.down + (tally (opens k n) calls + (tally (in_said (calls_as n)) l + taken)) ≤ limit) (sym (same_up x e h)) old)

-- ANOTHER LEAVES
left_holds : (c : Carried) (conn k n : ℕ) (u : Option (List ℕ)) (taken limit : ℕ) → Owned c.bus.state.owners → AllHold c.ends c.bus.state.calls k n u taken limit → AllHold (left c conn).ends (left c conn).bus.state.calls k n u taken limit
left_holds c conn k n u taken limit owned i z there on = by (k == conn) refl
  where
    step : BusStep
    step = bus_leaves c.bus.state conn

    Back : ℕ → End → Type 0
    Back a z = (x : End) × (end_at (with_end conn leaves c.ends) a ≡ Some x) × Grew a (bus_leaves c.bus.state conn).moves x z

    back : (a : ℕ) (z : End) → end_at (left c conn).ends a ≡ Some z → (x : End) × (end_at (with_end conn leaves c.ends) a ≡ Some x) × Grew a (bus_leaves c.bus.state conn).moves x z
    back a z there = stepped_grew own_letter (λ m. refl) (record { bus = record c.bus { waiting = without_queue c.bus.waiting conn }; ends = with_end conn leaves c.ends }) (bus_leaves c.bus.state conn) a z there

    -- who is here is another
    other : (a : ℕ) (z x : End) → end_at (with_end conn leaves c.ends) a ≡ Some x → Grew a (bus_leaves c.bus.state conn).moves x z → z.standing ≡ here → (end_at c.ends a ≡ Some x) × (a ≡ conn → ⊥)
    other a z x at g stands = cases (with_cases leaves c.ends conn a x at)
      where
        cases : ((y : End) × (end_at c.ends a ≡ Some y) × (((a ≡ conn) × (x ≡ leaves y)) ⊎ ((a ≡ conn → ⊥) × (x ≡ y)))) → (end_at c.ends a ≡ Some x) × (a ≡ conn → ⊥)
        cases y = of_it y.2
          where
            of_it : (((a ≡ conn) × (x ≡ leaves y.0)) ⊎ ((a ≡ conn → ⊥) × (x ≡ y.0))) → (end_at c.ends a ≡ Some x) × (a ≡ conn → ⊥)
            of_it (inl h) = absurd (not_away z.standing (g.standing ∙ ap (λ (q : End). q.standing) h.1) stands)
            of_it (inr h) = (y.1 ∙ ap Some (sym h.1), h.0)

    by : (b : Bool) → (k == conn) ≡ b → Holds (left c conn).ends (left c conn).bus.state.calls k n u taken limit z
    by b h = record {
      mine = sums (tally (in_letter (replies_to n)) z.down) (tally (in_letter (replies_to n)) a.0.down) (given (replies_to n) k (bus_leaves c.bus.state conn).moves) (tally (opens k n) (bus_leaves c.bus.state conn).state.calls)
          (tally (opens k n) c.bus.state.calls) (tally (in_said (calls_as n)) z.up)
          (tally (in_said (calls_as n)) a.0.up) taken limit (a.2.down (replies_to n)) (leaves_mine c.bus.state conn k n u owned it.1) (ap (tally (in_said (calls_as n))) a.2.up) old.mine;
      theirs = λ x d there_d on_d.
          let y = back x d there_d in
          let at = other x d y.0 y.1 y.2 on_d in
          more (tally (in_letter (calls_from u n)) d.down) (tally (in_letter (calls_from u n)) y.0.down) (given (calls_from u n) x (bus_leaves c.bus.state conn).moves) (tally (opens_at k n x) (bus_leaves c.bus.state conn).state.calls)
          (tally (opens_at k n x) c.bus.state.calls)
          (tally (in_said (replies_for u n)) d.up) (tally (in_said (replies_for u n)) y.0.up) (y.2.down (calls_from u n)) (leaves_theirs c.bus.state conn k n u owned it.1 x at.1) (ap (tally (in_said (replies_for u n))) y.2.up)
          (old.theirs x y.0 at.0 (sym y.2.standing ∙ on_d));
    }
      where
        a : (x : End) × (end_at (with_end conn leaves c.ends) k ≡ Some x) × Grew k (bus_leaves c.bus.state conn).moves x z
        a = back k z there

        it : (end_at c.ends k ≡ Some a.0) × (k ≡ conn → ⊥)
        it = other k z a.0 a.1 a.2 on

        old : Holds c.ends c.bus.state.calls k n u taken limit a.0
        old = i a.0 it.0 (sym a.2.standing ∙ on)

        sums : (zd xd g o2 o zu xu t l : ℕ) → zd ≤ xd + g → g + o2 ≤ o → zu ≡ xu → xd + (o + (xu + t)) ≤ l → zd + (o2 + (zu + t)) ≤ l
        sums zd xd g o2 o zu xu t l h1 h2 h3 h4 = omega (arith, h1, h2, h3, h4)

        more : (zd xd g o2 o zu xu : ℕ) → zd ≤ xd + g → g + o ≤ o2 → zu ≡ xu → xd + xu ≤ o → zd + zu ≤ o2
        more zd xd g o2 o zu xu h1 h2 h3 h4 = omega (arith, h1, h2, h3, h4)

closed_holds : (c : Carried) (due : List (ℕ × Why)) (k n : ℕ) (u : Option (List ℕ)) (taken limit : ℕ) → Owned c.bus.state.owners → AllHold c.ends c.bus.state.calls k n u taken limit
    → AllHold (one_closed c due).ends (one_closed c due).bus.state.calls k n u taken limit
closed_holds c [] k n u taken limit owned i = i
closed_holds c (first ∷ rest) k n u taken limit owned i = left_holds c first.0 k n u taken limit owned i

settled_holds : (rounds : ℕ) (c : Carried) (k n : ℕ) (u : Option (List ℕ)) (taken limit : ℕ) → Owned c.bus.state.owners → AllHold c.ends c.bus.state.calls k n u taken limit
    → AllHold (settled rounds c).ends (settled rounds c).bus.state.calls k n u taken limit
settled_holds zero c k n u taken limit owned i = i
settled_holds (suc rounds) c k n u taken limit owned i =
    settled_holds rounds (one_closed c c.bus.waiting.due) k n u taken limit (one_owned c c.bus.waiting.due owned) (closed_holds c c.bus.waiting.due k n u taken limit owned i)

-- TOGETHER
pub took_holds : (c : Carried) (j : ℕ) (who : Party) (said : Said) (rest : List Said) (ej : End) → end_at c.ends j ≡ Some ej → ej.up ≡ said ∷ rest → (k n : ℕ) (u : Option (List ℕ)) (taken limit : ℕ) → c.bus.state.owners.given < 2 ^ 32
    → Knows c.bus.state j k n u said.message → AllHold c.ends c.bus.state.calls k n u taken limit → AllHold (takes c j who said).ends (takes c j who said).bus.state.calls k n u taken limit
took_holds c j who said rest ej there link k n u taken limit small knows i =
    let rule = rule_in said.message in
    let c1 : Carried = stepped (letter_of who said) (record c { ends = with_end j taken_up c.ends }) (bus_takes c.bus.state j said.message rule) in
    settled_holds (length c.bus.state.joined) (with_name j c1) k n u taken limit (takes_owned c.bus.state j said.message rule small knows.owned)
    (named_holds c1.bus j c1.ends c1.bus.state.calls k n u taken limit (step_holds c.ends j said rest ej there link c.bus who k n u taken limit (takes_fine c.bus.state j k n u said.message rule small knows) i))

pub ended_holds : (c : Carried) (conn k n : ℕ) (u : Option (List ℕ)) (taken limit : ℕ) → Owned c.bus.state.owners → AllHold c.ends c.bus.state.calls k n u taken limit
    → AllHold (takes_end c conn).ends (takes_end c conn).bus.state.calls k n u taken limit
ended_holds c conn k n u taken limit owned i = settled_holds (length c.bus.state.joined) (left c conn) k n u taken limit (gone_owned c.bus.state.owners conn owned) (left_holds c conn k n u taken limit owned i)
