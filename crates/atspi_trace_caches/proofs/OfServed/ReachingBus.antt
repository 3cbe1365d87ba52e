-- How it is kept that registrations come first, where the bus takes a message or an end: a call for items that it puts down is of a reader that is here, whose pairs are entered, so whoever takes the
-- whole link in front of it has heard of them.
use Rattle.std.proofs.Common.{◌≡◌, ◌⊎◌, inl, inr, ℕ, ◌<◌, Bool, true, false, List, [], ◌∷◌, ◌++◌, Some, refl, sym, ap, ◌∙◌, subst, arith}
use Rattle.std.specs.List.{AllByRecursion}
use Rattle.atspi_script_lines.specs.declared.line.Party.{Party}
use Rattle.atspi_script_lines.specs.declared.line.Party.TheVariants.{Bus as The_bus, Registry, App, Reader}
use Rattle.atspi_protocol.specs.declared.following.question.Question.TheVariants.{GetItems}
use Rattle.atspi_protocol.specs.exporting.Exporter.{Exporter}
use Rattle.atspi_protocol.specs.exporting.Hearing.{is_heard}
use Rattle.atspi_trace.specs.Entry.{Entry}
use Rattle.atspi_trace.specs.World.{here, an_application, a_reader, Hearer, Letter, End, World}
use Rattle.atspi_trace.specs.Ends.{same_party, end_at}
use Rattle.atspi_trace.specs.Carrying as carrying
use Rattle.atspi_trace.specs.Causes.{Done}
use Rattle.atspi_trace_laws.specs.laws.Words.{message, own_call}
use Rattle.atspi_trace_laws.specs.missed.Laws.{heard_on}
use Rattle.atspi_trace_laws.proofs.OfOrder.Parties.{same_some, same-party, party-same, false_true}
use Rattle.atspi_trace_laws.proofs.OfOrder.Shape.{Shape, RoleFits}
use Rattle.atspi_trace_laws.proofs.OfOrder.Frame.{Over}
use Rattle.atspi_trace_laws.proofs.OfOrder.Each.{Each, all_map}
use Rattle.atspi_trace_laws.proofs.OfOrder.Effects.{reader_role, BusTakes, BusEnds}
use Rattle.atspi_trace_laws.proofs.OfOwn.Writing.{Lives, lived}
use Rattle.atspi_trace_laws.proofs.OfHeard.Telling as telling
use Rattle.atspi_trace_laws.proofs.OfTaken.Said.{IsSaid, Comes}
use Rattle.atspi_trace_laws.proofs.OfTurns.Turning.{Turns}
use Rattle.atspi_trace_laws.proofs.OfQuiet.Here.{forward}
use Rattle.atspi_trace_laws.proofs.OfNames.Places.{name_told}
use Rattle.atspi_trace_laws.proofs.OfSigned.Mail.{told_more}
use Rattle.atspi_trace_laws.proofs.OfMissed.Arriving.{On, Goes_on, took_goes, ended_goes}
use Rattle.atspi_trace_caches.proofs.OfServed.Facts.{Entered, Embeds, Carries, IsListed}
use Rattle.atspi_trace_caches.proofs.OfServed.AskingFrame.{patterns, IsItsCall, IsReadyFor, IsReader, Asking, AllAsking, call_before, on_back, ready_at}
use Rattle.atspi_trace_caches.proofs.OfServed.AskingBus.{Grown, on_all, turns_apart, in_list, goes_listed}
use Rattle.atspi_trace_caches.proofs.OfServed.AskingTaken as taken
use Rattle.atspi_trace_caches.proofs.OfServed.AskingCaused.{Underlies}
use Rattle.atspi_trace_caches.proofs.OfServed.HearingTuned.{Early, Late, AllTuned, NotSaid, none_embed, no_embeds}
use Rattle.atspi_trace_caches.proofs.OfServed.HearingWords.{SaysWell}
use Rattle.atspi_trace_caches.proofs.OfServed.Hearing.{bus_silent}
use Rattle.atspi_trace_caches.proofs.OfServed.Reaching.{Pairs, along, HasPairs, Reaches, reaches_more, reaches_append, reaches_uncalled, reaches_quiet, Heeds, heeds_of, has_pair, NoNewsOfBus, others_quiet, heeds_along}

-- WHAT IS KNOWN of a world, and of that after it
pub record Grounds (es : List Entry) (w : World) : Type 0 where
  pub base : Underlies es w
  pub asking_ : AllAsking es w
  pub tuned : AllTuned es w
  pub well : AllByRecursion SaysWell es
  pub signals : Each telling.Both [] es

-- of each application that is here
abbrev pub AllReached : List Entry → World → Type 0
AllReached es w = Lives es → (k a : ℕ) (e : End) (s : Exporter) → end_at w.ends k ≡ Some e → e.who ≡ App a → e.role ≡ an_application s → e.standing ≡ here → Reaches es a s.heard e.down

all_on : (P : Letter → Type 0) (ls : List Letter) → AllByRecursion P ls → (l : Letter) → On l ls → P l
all_on P [] a l o = absurd o
all_on P (x ∷ xs) a l (inl h) = subst P h a.0
all_on P (x ∷ xs) a l (inr o) = all_on P xs a.1 l o

bus_reader : (l : Letter) (r : ℕ) → l.from ≡ The_bus → l.from ≡ Reader r → ⊥
bus_reader l r bus from = false_true (ap (λ p. same_party p (Reader r)) (sym bus ∙ from) ∙ party-same (Reader r))

bus_registry : (l : Letter) → l.from ≡ The_bus → l.from ≡ Registry → ⊥
bus_registry l bus from = false_true (ap (λ p. same_party p Registry) (sym bus ∙ from))

-- WHERE LINKS GROW
module _ (es : List Entry) (w : World) (d : Done) (u : Grounds es w) (v : Grounds (es ++ d.entries) d.world) (live : Lives (es ++ d.entries)) (i : AllReached es w) (over : Over Grown w.ends d.world.ends) (goes : Over Goes_on w.ends d.world.ends)
    (N : Letter → Type 0) (came : (j : ℕ) (y : End) (there : end_at d.world.ends j ≡ Some y) → y.standing ≡ here → AllByRecursion (λ l. On l (over.back j y there).0.down ⊎ N l) y.down)
    (silent : (a : ℕ) → AllByRecursion (NotSaid (App a)) d.entries) where
  abbrev pub later : List Entry
  later = es ++ d.entries

  pub live_before : Lives es
  live_before = lived es d.entries live

  module _ (j a : ℕ) (z : End) (t : Exporter) (there : end_at d.world.ends j ≡ Some z) (who : z.who ≡ App a) (role : z.role ≡ an_application t) (on : z.standing ≡ here) where
    abbrev pub old : End
    old = (over.back j z there).0

    abbrev pub at_old : end_at w.ends j ≡ Some old
    at_old = (over.back j z there).1

    abbrev grown : Grown old z
    grown = (over.back j z there).2

    old_role : old.role ≡ an_application t
    old_role = let x = goes.back j z there in ap (λ (y : End). y.role) (same_some old x.0 (sym at_old ∙ x.1)) ∙ sym x.2.role ∙ role

    old_who : old.who ≡ App a
    old_who = sym grown.stays.whose ∙ who

    old_on : old.standing ≡ here
    old_on = grown.stays.on on

    abbrev pub more : List Letter
    more = (grown.down on).0

    after : z.down ≡ old.down ++ more
    after = (grown.down on).1

    pub on_it : (l : Letter) → On l more → On l z.down
    on_it l o = subst (On l) (sym after) (on_back l old.down more o)

    -- what is new is the bus's own, or what was put down now
    pub new : (l : Letter) → On l more → (l.from ≡ The_bus) ⊎ N l
    new l o = by (same_party l.from The_bus) refl
      where
        never : l.said.message.serial < l.said.message.serial → ⊥
        never h = omega (arith, h)

        at : (l.from ≡ The_bus → ⊥) → On l old.down ⊎ N l → (l.from ≡ The_bus) ⊎ N l
        at other (inl q) = absurd (never (turns_apart later z.who old.down more l l (subst (Turns later z.who) after (v.base.turned j z there)) q o other refl))
        at other (inr n) = inr n

        by : (b : Bool) → same_party l.from The_bus ≡ b → (l.from ≡ The_bus) ⊎ N l
        by true h = inl (same-party l.from The_bus h)
        by false h = at (λ bus. false_true (sym h ∙ ap (λ p. same_party p The_bus) bus)) (all_on (λ l. On l old.down ⊎ N l) z.down (came j z there on) l (on_it l o))

    -- what it has heard that takes the link as it was
    abbrev pub heard_then : Pairs
    heard_then = along t.heard old.down

    pub heeds : Embeds later a → Heeds es heard_then []
    heeds embeds_ = by (u.tuned live_before j a old t at_old old_who old_role old_on).stage
      where
        buses : AllByRecursion NoNewsOfBus old.down
        buses = on_all NoNewsOfBus old.down (λ l o from. ((u.tuned live_before j a old t at_old old_who old_role old_on).bus l o from).other)

        by : Early es w.bus.state.rules j a t old.down ⊎ Late es w.bus.state.rules j t old.down → Heeds es heard_then []
        by (inl x) = absurd (no_embeds es d.entries a (none_embed a d.entries (silent a)) x.no_embed embeds_)
        by (inr x) =
            heeds_along es u.base.numbered.0 a u.well u.signals t.heard old.down (subst (λ p. Turns es p old.down) old_who (u.base.turned j old at_old)) (u.base.known j old at_old).1 buses (heeds_of es t old.down x.hears)

    pub quiet_new : (l : Letter) → On l more → (l.from ≡ Registry → ⊥) → heard_on heard_then l.said.message ≡ heard_then
    quiet_new l o other =
        others_quiet later v.base.numbered.0 a v.well v.signals heard_then l (all_on (Comes later) z.down (v.base.known j z there).1 l (on_it l o))
        (λ from. ((v.tuned live j a z t there who role on).bus l (on_it l o) from).other) l.from refl other

    pub grown_reaches : Reaches later a heard_then more → Reaches later a t.heard z.down
    grown_reaches new_ =
        subst (Reaches later a t.heard) (sym after)
        (reaches_append later a t.heard old.down more (reaches_more es d.entries a t.heard old.down (u.base.known j old at_old).1 (i live_before j a old t at_old old_who old_role old_on)) new_)

-- THE BUS TAKES A MESSAGE
module _ (es : List Entry) (w : World) (d : Done) (s : Shape w) (u : Grounds es w) (v : Grounds (es ++ d.entries) d.world) (carries : Carries es (es ++ d.entries) w d.world) (live : Lives (es ++ d.entries)) (i : AllReached es w) (b : BusTakes w d) where
  abbrev n0 : ℕ
  n0 = b.said.message.serial

  now : Asking es w
  now = u.asking_ (lived es d.entries live)

  over : Over Grown w.ends d.world.ends
  over = taken.over es w d now live u.base.readers u.base.known carries v.base.readers v.base.turned v.base.names v.base.mail v.base.listed u.base.linked b

  abbrev IsNow : Letter → Type 0
  IsNow l = (l.from ≡ The_bus) ⊎ ((l.from ≡ b.e.who) × (l.said.message.serial ≡ n0))

  came : (j : ℕ) (y : End) (there : end_at d.world.ends j ≡ Some y) → y.standing ≡ here → AllByRecursion (λ l. On l (over.back j y there).0.down ⊎ IsNow l) y.down
  unfolding over
  came = taken.came es w d now live u.base.readers u.base.known carries v.base.readers v.base.turned v.base.names v.base.mail v.base.listed u.base.linked b

  goes : Over Goes_on w.ends d.world.ends
  goes = subst (λ x. Over Goes_on w.ends x.world.ends) (sym b.is) (took_goes (record { bus = w.bus; ends = w.ends }) b.conn b.e.who b.said)

  silent : (a : ℕ) → AllByRecursion (NotSaid (App a)) d.entries
  silent a = subst (λ x. AllByRecursion (NotSaid (App a)) x.entries) (sym b.is) (tt, bus_silent a (carrying.takes (record { bus = w.bus; ends = w.ends }) b.conn b.e.who b.said))

  module _ (j a : ℕ) (z : End) (t : Exporter) (there : end_at d.world.ends j ≡ Some z) (who : z.who ≡ App a) (role : z.role ≡ an_application t) (on : z.standing ≡ here) where
    abbrev new_letters : List Letter
    new_letters = more es w d u v live i over goes IsNow came silent j a z t there who role on

    abbrev has_heard : Pairs
    has_heard = heard_then es w d u v live i over goes IsNow came silent j a z t there who role on

    is_new : (l : Letter) → On l new_letters → IsNow l
    is_new l o = by (new es w d u v live i over goes IsNow came silent j a z t there who role on l o)
      where
        by : (l.from ≡ The_bus) ⊎ IsNow l → IsNow l
        by (inl bus) = inl bus
        by (inr n) = n

    -- a reader's call
    module _ (l : Letter) (o : On l new_letters) (r : ℕ) (c : IsItsCall (es ++ d.entries) r l) (mine : b.e.who ≡ Reader r) (serial : l.said.message.serial ≡ n0) where
      h : (g : Hearer) × (b.e.role ≡ a_reader g)
      h = reader_role b.e.role r (subst (λ p. RoleFits p b.e.role) mine (s.roles b.conn b.e b.is_here.there))

      reader : IsReader w b.conn r b.e h.0
      reader = record { there = b.is_here.there; whose = mine; role = h.1; standing = b.is_here.standing }

      was : message es (Reader r) n0 ≡ Some b.said.message
      was = subst (λ p. message es p n0 ≡ Some b.said.message) mine (subst (AllByRecursion (IsSaid es b.e.who)) b.link (u.base.known b.conn b.e b.is_here.there).0).0.was

      asked : own_call es r n0 ≡ Some (GetItems c.name)
      asked = sym (call_before es d.entries r n0 b.said.message was) ∙ ap (own_call (es ++ d.entries) r) (sym serial) ∙ c.call

      ready : IsReadyFor es b.e h.0 c.name
      ready = ready_at es w b.conn r b.e h.0 now u.base.readers reader n0 c.name asked

      then_end : (x : End) × (end_at d.world.ends b.conn ≡ Some x) × Goes_on b.e x
      then_end = forward Goes_on w.ends d.world.ends b.conn b.e goes b.is_here.there

      told : IsListed (es ++ d.entries) d.world.ends c.name
      told =
          in_list (IsListed (es ++ d.entries) d.world.ends) c.name h.0.named ready.listed
          (v.base.listed live b.conn then_end.0 h.0 then_end.1 (then_end.2.role ∙ h.1))

      embeds_ : Embeds (es ++ d.entries) a
      embeds_ =
          goes_listed (es ++ d.entries) d.world v.base.names v.base.mail j a z (record { there = there; whose = who; standing = on }) l
          (on_it es w d u v live i over goes IsNow came silent j a z t there who role on l o) r c told

      not_registry : b.e.who ≡ Registry → ⊥
      not_registry is = false_true (ap (λ p. same_party p Registry) (sym mine ∙ is))

      named_ : name_told es (Reader r) ≡ Some ready.own
      named_ = ap (name_told es) (sym mine) ∙ sym ((u.base.names.ends b.conn b.e b.is_here.there).known not_registry) ∙ ready.known

      its : Embeds (es ++ d.entries) a × HasPairs (es ++ d.entries) r has_heard
      its = (
        embeds_,
        record {
          name = ready.own;
          known = told_more es d.entries (Reader r) ready.own named_;
          heard = all_map (λ pattern. Entered es (ready.own, pattern)) (λ pattern. is_heard has_heard (ready.own, pattern) ≡ true) patterns
              (λ p e. has_pair es u.base.numbered.0 has_heard (heeds es w d u v live i over goes IsNow came silent j a z t there who role on embeds_) (ready.own, p) e) ready.entered;
        },
      )

    call : (l : Letter) → On l new_letters → (r : ℕ) → IsItsCall (es ++ d.entries) r l → Embeds (es ++ d.entries) a × HasPairs (es ++ d.entries) r has_heard
    call l o r c = by (is_new l o)
      where
        by : IsNow l → Embeds (es ++ d.entries) a × HasPairs (es ++ d.entries) r has_heard
        by (inl bus) = absurd (bus_reader l r bus c.from)
        by (inr n) = its l o r c (sym n.0 ∙ c.from) n.1

    of_reader : (r : ℕ) → b.e.who ≡ Reader r → Reaches (es ++ d.entries) a has_heard new_letters
    of_reader r mine =
        reaches_quiet (es ++ d.entries) a has_heard new_letters
        (on_all (λ l. heard_on has_heard l.said.message ≡ has_heard) new_letters (λ l o. quiet_new es w d u v live i over goes IsNow came silent j a z t there who role on l o (other l (is_new l o))))
        (on_all (λ l. (q : ℕ) → IsItsCall (es ++ d.entries) q l → Embeds (es ++ d.entries) a × HasPairs (es ++ d.entries) q has_heard) new_letters call)
      where
        other : (l : Letter) → IsNow l → l.from ≡ Registry → ⊥
        other l (inl bus) from = bus_registry l bus from
        other l (inr n) from = false_true (ap (λ p. same_party p Registry) (sym mine ∙ sym n.0 ∙ from))

    of_other : ((r : ℕ) → b.e.who ≡ Reader r → ⊥) → Reaches (es ++ d.entries) a has_heard new_letters
    of_other none = reaches_uncalled (es ++ d.entries) a has_heard new_letters (on_all (λ l. (r : ℕ) → IsItsCall (es ++ d.entries) r l → ⊥) new_letters (λ l o r c. by l r c (is_new l o)))
      where
        by : (l : Letter) (r : ℕ) → IsItsCall (es ++ d.entries) r l → IsNow l → ⊥
        by l r c (inl bus) = bus_reader l r bus c.from
        by l r c (inr n) = none r (sym n.0 ∙ c.from)

    new_reaches : (p : Party) → b.e.who ≡ p → Reaches (es ++ d.entries) a has_heard new_letters
    new_reaches (Reader r) is = of_reader r is
    new_reaches The_bus is = of_other (λ r h. false_true (ap (λ p. same_party p The_bus) (sym h ∙ is)))
    new_reaches Registry is = of_other (λ r h. false_true (ap (λ p. same_party p Registry) (sym h ∙ is)))
    new_reaches (App q) is = of_other (λ r h. false_true (ap (λ p. same_party p (App q)) (sym h ∙ is) ∙ party-same (App q)))

  pub bus_took_reaches : (j a : ℕ) (z : End) (t : Exporter) → end_at d.world.ends j ≡ Some z → z.who ≡ App a → z.role ≡ an_application t → z.standing ≡ here → Reaches (es ++ d.entries) a t.heard z.down
  bus_took_reaches j a z t there who role on = grown_reaches es w d u v live i over goes IsNow came silent j a z t there who role on (new_reaches j a z t there who role on b.e.who refl)

-- THE BUS TAKES AN END
module _ (es : List Entry) (w : World) (d : Done) (u : Grounds es w) (v : Grounds (es ++ d.entries) d.world) (carries : Carries es (es ++ d.entries) w d.world) (live : Lives (es ++ d.entries)) (i : AllReached es w) (b : BusEnds w d) where
  then_now : Asking es w
  then_now = u.asking_ (lived es d.entries live)

  over_end : Over Grown w.ends d.world.ends
  over_end = taken.over_end es w d then_now live u.base.readers u.base.known carries v.base.readers v.base.turned v.base.names v.base.mail v.base.listed b

  abbrev IsOwn : Letter → Type 0
  IsOwn l = l.from ≡ The_bus

  came_end : (j : ℕ) (y : End) (there : end_at d.world.ends j ≡ Some y) → y.standing ≡ here → AllByRecursion (λ l. On l (over_end.back j y there).0.down ⊎ IsOwn l) y.down
  unfolding over_end
  came_end = taken.came_end es w d then_now live u.base.readers u.base.known carries v.base.readers v.base.turned v.base.names v.base.mail v.base.listed b

  goes_end : Over Goes_on w.ends d.world.ends
  goes_end = subst (λ x. Over Goes_on w.ends x.world.ends) (sym b.is) (ended_goes (record { bus = w.bus; ends = w.ends }) b.conn)

  silent_end : (a : ℕ) → AllByRecursion (NotSaid (App a)) d.entries
  silent_end a = subst (λ x. AllByRecursion (NotSaid (App a)) x.entries) (sym b.is) (bus_silent a (carrying.takes_end (record { bus = w.bus; ends = w.ends }) b.conn))

  pub bus_ended_reaches : (j a : ℕ) (z : End) (t : Exporter) → end_at d.world.ends j ≡ Some z → z.who ≡ App a → z.role ≡ an_application t → z.standing ≡ here → Reaches (es ++ d.entries) a t.heard z.down
  bus_ended_reaches j a z t there who role on =
      grown_reaches es w d u v live i over_end goes_end IsOwn came_end silent_end j a z t there who role on
      (reaches_uncalled (es ++ d.entries) a (heard_then es w d u v live i over_end goes_end IsOwn came_end silent_end j a z t there who role on) (more es w d u v live i over_end goes_end IsOwn came_end silent_end j a z t there who role on)
      (on_all (λ l. (r : ℕ) → IsItsCall (es ++ d.entries) r l → ⊥) (more es w d u v live i over_end goes_end IsOwn came_end silent_end j a z t there who role on)
      (λ l o r c. bus_reader l r (by l (new es w d u v live i over_end goes_end IsOwn came_end silent_end j a z t there who role on l o)) c.from)))
    where
      by : (l : Letter) → (l.from ≡ The_bus) ⊎ IsOwn l → l.from ≡ The_bus
      by l (inl bus) = bus
      by l (inr bus) = bus
