-- How calls for items are kept at what the bus does.
use Rattle.std.proofs.Common.{◌≡◌, ◌⊎◌, inl, inr, ℕ, ◌≤◌, Bool, true, false, List, [], ◌∷◌, ◌++◌, length, Some, refl, sym, ap, ◌∙◌, subst, arith}
use Rattle.std.specs.Prelude.{if◌then◌else◌}
use Rattle.std.specs.List.{AllByRecursion}
use Rattle.atspi_script_lines.specs.declared.line.Party.TheVariants.{Bus as The_bus, Registry}
use Rattle.atspi_message.specs.Envelope.{Envelope}
use Rattle.atspi_names.specs.Owners.{own_name}
use Rattle.atspi_match.specs.declared.routing.closing.Closing.{Closing}
use Rattle.atspi_match.specs.routing.Members.{is_text}
use Rattle.atspi_match.specs.routing.Steps.{Move, says, delivers, closes, BusStep, bus_takes}
use Rattle.atspi_trace.specs.Entry.{Entry, dropped}
use Rattle.atspi_trace.specs.Rules.{rule_in}
use Rattle.atspi_trace.specs.World.{here, Hearer, Letter, End, World}
use Rattle.atspi_trace.specs.Ends.{is_here, same_party, party_at, end_at, with_end, taken_up}
use Rattle.atspi_trace.specs.Carrying as carrying
use Rattle.atspi_trace.specs.Carrying.{Carried, own_letter, letter_of, stepped, settled, named, with_name, takes, takes_end, bus_entries}
use Rattle.atspi_trace.specs.Causes.{Done}
use Rattle.atspi_trace_laws.proofs.OfOrder.Parties.{same_some, false_true}
use Rattle.atspi_trace_laws.proofs.OfOrder.BusWords.{all_any, bus_all}
use Rattle.atspi_trace_laws.proofs.OfOrder.Frame.{Over}
use Rattle.atspi_trace_laws.proofs.OfOrder.Each.{all_map}
use Rattle.atspi_trace_laws.proofs.OfOrder.Effects.{BusTakes, BusEnds}
use Rattle.atspi_trace_laws.proofs.OfLinks.LawLinks.{first_unread, Linked}
use Rattle.atspi_trace_laws.proofs.OfLinks.Ups.{Ups}
use Rattle.atspi_trace_laws.proofs.OfOwn.Writing.{Lives}
use Rattle.atspi_trace_laws.proofs.OfHeld.LawHeld.{Readers}
use Rattle.atspi_trace_laws.proofs.OfTaken.Handing.{HandsOn, takes_on}
use Rattle.atspi_trace_laws.proofs.OfTaken.Handing as handing
use Rattle.atspi_trace_laws.proofs.OfTaken.LawTaken.{Known}
use Rattle.atspi_trace_laws.proofs.OfTurns.LawTurns.{AllTurn}
use Rattle.atspi_trace_laws.proofs.OfNames.LawNames.{Named}
use Rattle.atspi_trace_laws.proofs.OfSigned.LawMail.{Mail}
use Rattle.atspi_trace_laws.proofs.OfSigned.Handing.{Fine, Gives, Downs, downs_with, PutsAt, stepped_downs, left_downs, settled_downs}
use Rattle.atspi_trace_laws.proofs.OfMissed.Arriving.{On}
use Rattle.atspi_trace_caches.proofs.OfServed.Facts.{Carries, AllListed}
use Rattle.atspi_trace_caches.proofs.OfServed.AskingFrame.{IsReady, questions, IsReader, Asking}
use Rattle.atspi_trace_caches.proofs.OfServed.AskingKept.{Stays, IsCalm, all_items, ready_over}
use Rattle.atspi_trace_caches.proofs.OfServed.AskingBus.{Grown, took_grown, ended_grown, on_all, grown_asking, goes_to}

bus_calm : (c : Carried) → AllByRecursion IsCalm (bus_entries c.ends c.bus.own c.bus.closings)
bus_calm c = bus_all IsCalm (λ e. tt) c.ends c.bus.own c.bus.closings (all_any (λ (x : Closing). (queued len : ℕ) → IsCalm (dropped (party_at c.ends x.conn) queued len)) (λ x queued len. tt) c.bus.closings)

calm_as : (d x : Done) → d ≡ x → AllByRecursion IsCalm x.entries → AllByRecursion IsCalm d.entries
calm_as d x is c = subst (λ y. AllByRecursion IsCalm y.entries) (sym is) c

hands_gives : (H : ℕ → Envelope → Type 0) (moves : List Move) → AllByRecursion (HandsOn (λ m. (c : ℕ) → H c m)) moves → AllByRecursion (Gives H) moves
hands_gives H [] a = tt
hands_gives H (delivers c m ∷ moves) a = (a.0 c, hands_gives H moves a.1)
hands_gives H (says m ∷ moves) a = (tt, hands_gives H moves a.1)
hands_gives H (closes c ∷ moves) a = (tt, hands_gives H moves a.1)

registry_bus : (l : Letter) → l.from ≡ Registry → l.from ≡ The_bus → ⊥
registry_bus l h g = false_true (ap (λ p. same_party p The_bus) (sym h ∙ g))

-- WHAT IS KNOWN BEFORE AND AFTER
module _ (es : List Entry) (w : World) (d : Done) (i : Asking es w) (live : Lives (es ++ d.entries)) (readers : Readers es w) (known : Known es w) (carries : Carries es (es ++ d.entries) w d.world)
    (readers_now : Readers (es ++ d.entries) d.world) (turned : AllTurn (es ++ d.entries) d.world.ends) (names : Named (es ++ d.entries) d.world) (mail : Mail (es ++ d.entries) d.world) (listed : AllListed (es ++ d.entries) d.world) where
  -- where what came to a link was there, or is new
  module _ (o : Over Grown w.ends d.world.ends) (N : Letter → Type 0) (calm : AllByRecursion IsCalm d.entries)
      (came : (j : ℕ) (y : End) (there : end_at d.world.ends j ≡ Some y) → y.standing ≡ here → AllByRecursion (λ l. On l (o.back j y there).0.down ⊎ N l) y.down)
      (nexts : (l : Letter) → N l → l.from ≡ Registry → first_unread es Registry ≤ l.said.message.serial) where
    stays_ : Over Stays w.ends d.world.ends
    stays_ = record { size = o.size; back = λ k z h. let x = o.back k z h in (x.0, x.1, x.2.stays) }

    ready : (k r : ℕ) (z : End) (h : Hearer) → IsReader d.world k r z h → AllByRecursion (IsReady (es ++ d.entries) z h) (questions h)
    ready k r z h is = ready_over es d.entries w d.world i live readers carries (all_items d.entries calm) stays_ k r z h is

    came_asking : Asking (es ++ d.entries) d.world
    came_asking = grown_asking es d.entries w d.world o N turned came nexts (goes_to (es ++ d.entries) d.world live names mail listed readers_now ready) i live readers known carries calm

  -- THE BUS TAKES A MESSAGE
  module _ (l : Linked es w) (b : BusTakes w d) where
    abbrev c0 : Carried
    c0 = record { bus = w.bus; ends = w.ends }

    abbrev pub e0 : Envelope
    e0 = b.said.message

    abbrev step : BusStep
    step = bus_takes w.bus.state b.conn e0 (rule_in e0)

    abbrev base : Carried
    base = record c0 { ends = with_end b.conn taken_up w.ends }

    abbrev done_ : Carried
    done_ = with_name b.conn (stepped (letter_of b.e.who b.said) base step)

    pub over : Over Grown w.ends d.world.ends
    over = subst (λ x. Over Grown w.ends x.world.ends) (sym b.is) (took_grown c0 b.conn b.e.who b.said)

    there_now : (j : ℕ) (y : End) → end_at d.world.ends j ≡ Some y → end_at (takes c0 b.conn b.e.who b.said).ends j ≡ Some y
    there_now j y there = sym (ap (λ x. end_at x.world.ends j) b.is) ∙ there

    -- one of the bus's own, or the message
    abbrev pub IsNow : Letter → Type 0
    IsNow letter = (letter.from ≡ The_bus) ⊎ ((letter.from ≡ b.e.who) × (letter.said.message.serial ≡ e0.serial))

    abbrev At : ℕ → Letter → Type 0
    At j letter = (y : End) (there : end_at d.world.ends j ≡ Some y) → y.standing ≡ here → On letter (over.back j y there).0.down ⊎ IsNow letter

    own_at : (c : ℕ) (m : Envelope) → At c (own_letter m)
    own_at c m y there on = inr (inl refl)

    as_own : (c : ℕ) (m : Envelope) → handing.IsOwn m → At c (letter_of b.e.who b.said m)
    as_own c m own = subst (At c) (sym (ap (λ t. if t then own_letter m else record { from = b.e.who; said = record b.said { message = m } }) own)) (own_at c m)

    as_its : (name : List ℕ) (c : ℕ) → At c (letter_of b.e.who b.said (record e0 { sender = Some name }))
    as_its name c = by (is_text (Some name) own_name) refl
      where
        by : (t : Bool) → is_text (Some name) own_name ≡ t → At c (letter_of b.e.who b.said (record e0 { sender = Some name }))
        by true h = as_own c (record e0 { sender = Some name }) h
        by false h =
            subst (At c) (sym (ap (λ t. if t then own_letter (record e0 { sender = Some name }) else record { from = b.e.who; said = record b.said { message = record e0 { sender = Some name } } }) h))
            (λ y there on. inr (inr (refl, refl)))

    before_at : Downs At base.ends
    before_at =
        downs_with At taken_up b.conn w.ends (λ e a. a)
        (λ j e there. on_all (At j) e.down (λ letter q y at on. inl (subst (λ (x : End). On letter x.down) (same_some e (over.back j y at).0 (sym there ∙ (over.back j y at).1)) q)))

    whole : Downs At (takes c0 b.conn b.e.who b.said).ends
    whole =
        settled_downs At (λ c m f. own_at c m) (length w.bus.state.joined) done_
        (downs_with At (named (stepped (letter_of b.e.who b.said) base step).bus b.conn) b.conn (stepped (letter_of b.e.who b.said) base step).ends (λ e a. a)
        (stepped_downs At (letter_of b.e.who b.said) base step
        (hands_gives (PutsAt At (letter_of b.e.who b.said)) step.moves (takes_on (λ m. (c : ℕ) → At c (letter_of b.e.who b.said m)) w.bus.state b.conn e0 (rule_in e0) (λ m own c. as_own c m own) (λ name c. as_its name c))) before_at))

    pub came : (j : ℕ) (y : End) (there : end_at d.world.ends j ≡ Some y) → y.standing ≡ here → AllByRecursion (λ letter. On letter (over.back j y there).0.down ⊎ IsNow letter) y.down
    came j y there on = all_map (At j) (λ letter. On letter (over.back j y there).0.down ⊎ IsNow letter) y.down (λ letter a. a y there on) (whole j y (there_now j y there))

    serial_is : e0.serial ≡ first_unread es b.e.who
    serial_is = (subst (Ups (first_unread es b.e.who)) b.link (l.1 b.conn b.e b.is_here.there (ap is_here b.is_here.standing)).ups).0

    nexts : (letter : Letter) → IsNow letter → letter.from ≡ Registry → first_unread es Registry ≤ letter.said.message.serial
    nexts letter (inl bus) from = absurd (registry_bus letter from bus)
    nexts letter (inr n) from =
        let mine : first_unread es b.e.who ≡ first_unread es Registry = ap (first_unread es) (sym n.0 ∙ from) in
        let same : letter.said.message.serial ≡ e0.serial = n.1 in
        let next : e0.serial ≡ first_unread es b.e.who = serial_is in
        omega (arith, mine, same, next)

    pub bus_took_asking : Asking (es ++ d.entries) d.world
    bus_took_asking = came_asking over IsNow (calm_as d _ b.is (tt, bus_calm (carrying.takes c0 b.conn b.e.who b.said))) came nexts

  -- THE BUS TAKES AN END
  module _ (b : BusEnds w d) where
    abbrev c1 : Carried
    c1 = record { bus = w.bus; ends = w.ends }

    pub over_end : Over Grown w.ends d.world.ends
    over_end = subst (λ x. Over Grown w.ends x.world.ends) (sym b.is) (ended_grown c1 b.conn)

    abbrev pub IsOwn : Letter → Type 0
    IsOwn letter = letter.from ≡ The_bus

    abbrev Then : ℕ → Letter → Type 0
    Then j letter = (y : End) (there : end_at d.world.ends j ≡ Some y) → y.standing ≡ here → On letter (over_end.back j y there).0.down ⊎ IsOwn letter

    own_then : (c : ℕ) (m : Envelope) → Fine 0 m → Then c (own_letter m)
    own_then c m f y there on = inr refl

    first_then : Downs Then w.ends
    first_then j e there = on_all (Then j) e.down (λ letter q y at on. inl (subst (λ (x : End). On letter x.down) (same_some e (over_end.back j y at).0 (sym there ∙ (over_end.back j y at).1)) q))

    whole_end : Downs Then (takes_end c1 b.conn).ends
    whole_end = settled_downs Then own_then (length w.bus.state.joined) (carrying.left c1 b.conn) (left_downs Then own_then c1 b.conn first_then)

    pub came_end : (j : ℕ) (y : End) (there : end_at d.world.ends j ≡ Some y) → y.standing ≡ here → AllByRecursion (λ letter. On letter (over_end.back j y there).0.down ⊎ IsOwn letter) y.down
    came_end j y there on = all_map (Then j) (λ letter. On letter (over_end.back j y there).0.down ⊎ IsOwn letter) y.down (λ letter a. a y there on) (whole_end j y (sym (ap (λ x. end_at x.world.ends j) b.is) ∙ there))

    pub bus_ended_asking : Asking (es ++ d.entries) d.world
    bus_ended_asking = came_asking over_end IsOwn (calm_as d _ b.is (bus_calm (carrying.takes_end c1 b.conn))) came_end (λ letter bus from. absurd (registry_bus letter from bus))
