-- Before an application has its name it is told nothing but that: where the bus takes a message, or an end.
use Rattle.std.proofs.Common.{◌≡◌, ◌⊎◌, inl, inr, ℕ, ◌<◌, ◌^◌, Bool, true, false, List, [], ◌∷◌, length, Option, None, Some, refl, sym, ap, ◌∙◌, subst, is_some}
use Rattle.std.specs.Prelude.{◌==◌}
use Rattle.std.specs.List.{fold}
use Rattle.std.proofs.lemmas.Bool.{eqb-true, eq-eqb}
use Rattle.atspi_script_lines.specs.declared.line.Party.{Party}
use Rattle.atspi_message.specs.Envelope.{Envelope}
use Rattle.atspi_protocol.specs.exporting.Exporter.{hello, awaits, Exporter}
use Rattle.atspi_match.specs.routing.BusState.{unique_of}
use Rattle.atspi_match.specs.routing.Routing.{expects_reply}
use Rattle.atspi_match.specs.routing.Steps.{says, delivers, BusStep, is_hello, greets, bus_takes}
use Rattle.atspi_match.specs.routing.Queues.{Waiting, is_due}
use Rattle.atspi_trace.specs.Rules.{rule_in}
use Rattle.atspi_trace.specs.World.{here, an_application, Said, Letter, End}
use Rattle.atspi_trace.specs.Ends.{end_at, with_end, taken_up}
use Rattle.atspi_trace.specs.Carrying.{Carried, Filled, letter_of, moved, stepped, left, named, with_name, takes, takes_end}
use Rattle.atspi_trace_laws.proofs.OfOrder.Parties.{same_some, false_true}
use Rattle.atspi_trace_laws.proofs.OfOrder.Frame.{Over, stepped_over, with_cases, at_changed}
use Rattle.atspi_trace_laws.proofs.OfQuiet.Hello.{takes_hello}
use Rattle.atspi_trace_laws.proofs.OfNames.Naming.{hello_here}
use Rattle.atspi_trace_laws.proofs.OfMissed.Arriving.{same_waiting}
use Rattle.atspi_trace_caches.proofs.OfSettled.Replying.{Keeps_links, keeping, put_keeps}
use Rattle.atspi_trace_caches.proofs.OfSettled.ReplyingOwners.{greets_owned}
use Rattle.atspi_trace_caches.proofs.OfSettled.ReplyingBus.{due_on}
use Rattle.atspi_trace_caches.proofs.OfSettled.ReplyingTakes.{takes_keeps}
use Rattle.atspi_trace_caches.proofs.OfSettled.ReplyingCarried.{plainly_of, Base, base_back}
use Rattle.atspi_trace_caches.proofs.OfSettled.ReplyingNamed.{HasName, Owns, takes_other, took_owns, left_owns}
use Rattle.atspi_trace_caches.proofs.OfSettled.ReplyingRules.{NamedStep, takes_step, stepped_same}
use Rattle.atspi_trace_caches.proofs.OfSettled.ReplyingWelcome.{Starts, Greets, Fronts, Welcomed, Welcoming, greets_still, has_or_none, never_both, left_welcoming, settled_welcoming, FirstMoves, first_moves, welcome, welcome_is, delivered_first}

module _ (c : Carried) (j : ℕ) (who : Party) (said : Said) (rest : List Said) (ej : End) (there_j : end_at c.ends j ≡ Some ej) (on_j : ej.standing ≡ here) (link : ej.up ≡ said ∷ rest)
    (o : Owns c) (small : c.bus.state.owners.given < 2 ^ 32) (greeting : unique_of c.bus.state.owners j ≡ None → is_hello said.message ≡ true) (w : Welcoming c) where
  abbrev base : Carried
  base = record c { ends = with_end j taken_up c.ends }

  abbrev step : BusStep
  step = bus_takes c.bus.state j said.message (rule_in said.message)

  abbrev letter : Envelope → Letter
  letter = letter_of who said

  abbrev c1 : Carried
  c1 = stepped letter base step

  -- who says Hello has its name behind it
  taker_named : HasName step.state.owners j
  taker_named = by (has_or_none (unique_of c.bus.state.owners j))
    where
      named_ : (o : Option (List ℕ)) → unique_of c.bus.state.owners j ≡ o → is_some o ≡ true → HasName step.state.owners j
      named_ None h s = absurd (false_true s)
      named_ (Some name) h s = ap is_some ((takes_keeps c.bus.state j j 0 said.message (rule_in said.message)).names j name h)

      by : (unique_of c.bus.state.owners j ≡ None) ⊎ HasName c.bus.state.owners j → HasName step.state.owners j
      by (inl none) = ap (λ (s : BusStep). is_some (unique_of s.state.owners j)) (takes_hello c.bus.state j said.message none (greeting none)) ∙ ap is_some (hello_here c.bus.state j said.message)
      by (inr some) = named_ (unique_of c.bus.state.owners j) refl some

  named_step : NamedStep step
  named_step = takes_step c.bus.state j said.message (rule_in said.message) (record { lists = o.lists; rules = w.rules })

  over : Over Keeps_links base.ends c1.ends
  over = stepped_over Keeps_links keeping letter (λ m e. put_keeps (letter m) e) base step

  -- another end than the taker's, as it was
  abbrev Was : ℕ → End → Type 0
  Was k z = (x : End) × (e : End) × (end_at base.ends k ≡ Some x) × Keeps_links x z × (end_at c.ends k ≡ Some e) × Base c j who said rest ej there_j link k e x

  was : (k : ℕ) (z : End) → end_at c1.ends k ≡ Some z → Was k z
  was k z there =
      let x = over.back k z there in
      let e = base_back c j who said rest ej there_j link k x.0 x.1 in
      (x.0, e.0, x.1, x.2, e.1, e.2)

  other_taker : (k : ℕ) → unique_of step.state.owners k ≡ None → k ≡ j → ⊥
  other_taker k none same = never_both (unique_of step.state.owners k) none (subst (HasName step.state.owners) (sym same) taker_named)

  -- the end that says Hello
  greeted_now : unique_of c.bus.state.owners j ≡ None → (s : Exporter) → ej.role ≡ an_application s → (z : End) → end_at c1.ends j ≡ Some z → z.standing ≡ here → Greets s z.down ⊎ (is_due j c1.bus.waiting.due ≡ true)
  greeted_now none s role z there on = by (subst Came (sym (takes_hello c.bus.state j said.message none (greeting none))) came there)
    where
      b : (s.phase ≡ awaits hello 1) × Fronts ej.up
      b = (w.apps j ej s there_j on_j role).before none

      front : (said.message.serial ≡ 1) × (expects_reply said.message ≡ true)
      front = subst Fronts link b.1

      first : FirstMoves c.bus.state j said.message
      first = first_moves c.bus.state j said.message front.1 (greets_owned c.bus.state j said.message small none o.owned)

      Came : BusStep → Type 0
      Came st = end_at (stepped (letter_of who said) (record c { ends = with_end j taken_up c.ends }) st).ends j ≡ Some z
          → Starts z.down ⊎ (is_due j (stepped (letter_of who said) (record c { ends = with_end j taken_up c.ends }) st).bus.waiting.due ≡ true)

      f : Filled
      f = record { waiting = c.bus.waiting; ends = with_end j taken_up c.ends }

      came : Came (greets c.bus.state j said.message)
      came at =
          told
          (delivered_first (letter_of who said) (plainly_of who said) c.bus.quota j (welcome c.bus.state j said.message) first.rest (record { waiting = c.bus.waiting; ends = with_end j taken_up c.ends }) (taken_up ej) z
          (at_changed taken_up c.ends j ej there_j) (w.silent j ej there_j on_j none) (welcome_is c.bus.state j said.message small front.0)
          (ap (λ ms. end_at (fold (moved (letter_of who said) c.bus.quota) (record { waiting = c.bus.waiting; ends = with_end j taken_up c.ends }) ms).ends j) (sym first.are) ∙ at) on)
        where
          told : Starts z.down ⊎ (is_due j (fold (moved (letter_of who said) c.bus.quota) (record { waiting = c.bus.waiting; ends = with_end j taken_up c.ends }) (says (welcome c.bus.state j said.message) ∷ (delivers j (welcome c.bus.state j said.message) ∷ first.rest))).waiting.due ≡ true)
              → Starts z.down ⊎ (is_due j (stepped (letter_of who said) (record c { ends = with_end j taken_up c.ends }) (greets c.bus.state j said.message)).bus.waiting.due ≡ true)
          told (inl h) = inl h
          told (inr d) =
              inr (ap (λ (q : Waiting). is_due j q.due)
              (sym (same_waiting (letter_of who said) c.bus.quota (record { waiting = c.bus.waiting; ends = with_end j taken_up c.ends }) (greets c.bus.state j said.message).moves)
              ∙ ap (λ ms. (fold (moved (letter_of who said) c.bus.quota) (record { waiting = c.bus.waiting; ends = with_end j taken_up c.ends }) ms).waiting) first.are)
              ∙ d)

      by : Starts z.down ⊎ (is_due j c1.bus.waiting.due ≡ true) → Greets s z.down ⊎ (is_due j c1.bus.waiting.due ≡ true)
      by (inl h) = inl (inr (b.0, h))
      by (inr h) = inr h

  stepped_welcoming : Welcoming c1
  stepped_welcoming = record {
    rules = named_step.rules;
    silent = λ k z there on none. by_silent k z there on none (was k z there);
    apps = λ k z s there on role. by_app k z s there on role (was k z there);
  }
    where
      by_silent : (k : ℕ) (z : End) → end_at c1.ends k ≡ Some z → z.standing ≡ here → unique_of step.state.owners k ≡ None → Was k z → z.down ≡ []
      by_silent k z there on none v =
          let old : unique_of c.bus.state.owners k ≡ None = sym (takes_other c.bus.state j k said.message (rule_in said.message) (other_taker k none)) ∙ none in
          let same : v.0 ≡ z = same_some v.0 z (sym v.2 ∙ sym (stepped_same letter k base step named_step none) ∙ there) in
          ap (λ (e : End). e.down) (sym same) ∙ v.5.down ∙ w.silent k v.1 v.4 (sym v.5.standing ∙ sym v.3.standing ∙ on) old

      by_app : (k : ℕ) (z : End) (s : Exporter) → end_at c1.ends k ≡ Some z → z.standing ≡ here → z.role ≡ an_application s → Was k z → Welcomed c1 k z s
      by_app k z s there on role v = record { before = before; behind = λ has. behind has (has_or_none (unique_of c.bus.state.owners k)) }
        where
          here_e : v.1.standing ≡ here
          here_e = sym v.5.standing ∙ sym v.3.standing ∙ on

          role_e : v.1.role ≡ an_application s
          role_e = sym v.5.role ∙ sym v.3.role ∙ role

          old : Welcomed c k v.1 s
          old = w.apps k v.1 s v.4 here_e role_e

          before : unique_of step.state.owners k ≡ None → (s.phase ≡ awaits hello 1) × Fronts z.up
          before none = by v.5.up
            where
              b : (s.phase ≡ awaits hello 1) × Fronts v.1.up
              b = old.before (sym (takes_other c.bus.state j k said.message (rule_in said.message) (other_taker k none)) ∙ none)

              by : (((k ≡ j) × (v.1.up ≡ said ∷ rest) × (v.0.up ≡ rest)) ⊎ (v.0.up ≡ v.1.up)) → (s.phase ≡ awaits hello 1) × Fronts z.up
              by (inl h) = absurd (other_taker k none h.0)
              by (inr h) = (b.0, subst Fronts (sym (v.3.up ∙ h)) b.1)

          behind : HasName step.state.owners k → (unique_of c.bus.state.owners k ≡ None) ⊎ HasName c.bus.state.owners k → Greets s z.down ⊎ (is_due k c1.bus.waiting.due ≡ true)
          behind has (inr some) = by (old.behind some)
            where
              by : Greets s v.1.down ⊎ (is_due k c.bus.waiting.due ≡ true) → Greets s z.down ⊎ (is_due k c1.bus.waiting.due ≡ true)
              by (inl g) = inl (greets_still s v.0 z v.3 (subst (Greets s) (sym v.5.down) g))
              by (inr d) = inr (due_on letter (plainly_of who said) base step k d)
          behind has (inl none) = by (k == j) refl
            where
              by : (b : Bool) → (k == j) ≡ b → Greets s z.down ⊎ (is_due k c1.bus.waiting.due ≡ true)
              by true g =
                  let at : k ≡ j = eqb-true k j g in
                  let same : v.1 ≡ ej = same_some v.1 ej (sym v.4 ∙ ap (end_at c.ends) at ∙ there_j) in
                  subst (λ x. Greets s z.down ⊎ (is_due x c1.bus.waiting.due ≡ true)) (sym at)
                  (greeted_now (ap (unique_of c.bus.state.owners) (sym at) ∙ none) s (ap (λ (e : End). e.role) (sym same) ∙ role_e) z (ap (end_at c1.ends) (sym at) ∙ there) on)
              by false g =
                  absurd (never_both (unique_of step.state.owners k) (takes_other c.bus.state j k said.message (rule_in said.message) (λ same. false_true (sym g ∙ eq-eqb k j same)) ∙ none) has)

  named_welcoming : Welcoming (with_name j c1)
  named_welcoming = record {
    rules = stepped_welcoming.rules;
    silent = λ k z there on none. let x = back k z there in by_down x.2 (stepped_welcoming.silent k x.0 x.1 (sym x.3 ∙ on) none);
    apps = λ k z s there on role.
        let x = back k z there in
        let y = stepped_welcoming.apps k x.0 s x.1 (sym x.3 ∙ on) (sym x.4 ∙ role) in
        record { before = λ none. let b = y.before none in (b.0, subst Fronts (sym x.5) b.1); behind = λ has. subst (λ l. Greets s l ⊎ (is_due k c1.bus.waiting.due ≡ true)) (sym x.2) (y.behind has) };
  }
    where
      by_down : {x y : List Letter} → y ≡ x → x ≡ [] → y ≡ []
      by_down h g = h ∙ g

      back : (k : ℕ) (z : End) → end_at (with_name j c1).ends k ≡ Some z → (x : End) × (end_at c1.ends k ≡ Some x) × (z.down ≡ x.down) × (z.standing ≡ x.standing) × (z.role ≡ x.role) × (z.up ≡ x.up)
      back k z there = by (with_cases (named c1.bus j) c1.ends j k z there)
        where
          by : ((x : End) × (end_at c1.ends k ≡ Some x) × (((k ≡ j) × (z ≡ named c1.bus j x)) ⊎ ((k ≡ j → ⊥) × (z ≡ x)))) → (x : End) × (end_at c1.ends k ≡ Some x) × (z.down ≡ x.down) × (z.standing ≡ x.standing) × (z.role ≡ x.role) × (z.up ≡ x.up)
          by x = at x.2
            where
              at : (((k ≡ j) × (z ≡ named c1.bus j x.0)) ⊎ ((k ≡ j → ⊥) × (z ≡ x.0))) → (y : End) × (end_at c1.ends k ≡ Some y) × (z.down ≡ y.down) × (z.standing ≡ y.standing) × (z.role ≡ y.role) × (z.up ≡ y.up)
              at (inl h) = (x.0, x.1, ap (λ (e : End). e.down) h.1, ap (λ (e : End). e.standing) h.1, ap (λ (e : End). e.role) h.1, ap (λ (e : End). e.up) h.1)
              at (inr h) = (x.0, x.1, ap (λ (e : End). e.down) h.1, ap (λ (e : End). e.standing) h.1, ap (λ (e : End). e.role) h.1, ap (λ (e : End). e.up) h.1)

  pub took_welcoming : Welcoming (takes c j who said)
  took_welcoming = settled_welcoming (length c.bus.state.joined) (with_name j c1) (took_owns c j who said ej there_j on_j small o) named_welcoming

pub ended_welcoming : (c : Carried) (conn : ℕ) → Owns c → Welcoming c → Welcoming (takes_end c conn)
ended_welcoming c conn o w = settled_welcoming (length c.bus.state.joined) (left c conn) (left_owns c conn o) (left_welcoming c conn o w)
