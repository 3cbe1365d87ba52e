-- A call that waits stays in one of its places where the bus takes a message, or an end.
use Rattle.std.proofs.Common.{◌≡◌, ◌⊎◌, inl, inr, ℕ, ◌<◌, ◌^◌, Bool, true, false, List, [], ◌∷◌, length, Option, None, Some, refl, sym, ap, ◌∙◌, subst, is_some}
use Rattle.std.specs.Prelude.{◌==◌, if◌then◌else◌}
use Rattle.std.proofs.lemmas.Bool.{eqb-true, eq-eqb}
use Rattle.atspi_base.specs.valid_names.Names.{is_unique_name}
use Rattle.atspi_script_lines.specs.declared.line.Party.{Party}
use Rattle.atspi_match.specs.declared.condition.Condition.{Condition}
use Rattle.atspi_message.specs.Envelope.{Envelope}
use Rattle.atspi_names.specs.Owners.{own_name}
use Rattle.atspi_protocol.specs.ends.Places.{registry}
use Rattle.atspi_match.specs.routing.BusState.{unique_of}
use Rattle.atspi_match.specs.routing.Members.{is_text}
use Rattle.atspi_match.specs.routing.Routing.{owners_of, expects_reply}
use Rattle.atspi_match.specs.routing.Steps.{BusStep, is_hello, bus_takes}
use Rattle.atspi_match.specs.routing.Queues.{is_due}
use Rattle.atspi_trace.specs.Rules.{rule_in}
use Rattle.atspi_trace.specs.World.{here, Said, Letter, End}
use Rattle.atspi_trace.specs.Ends.{is_here, is_reader, end_at, with_end, rest_of, taken_up}
use Rattle.atspi_trace.specs.Carrying.{Carried, own_letter, letter_of, stepped, left, named, with_name, takes, takes_end}
use Rattle.atspi_trace_laws.proofs.OfOrder.Parties.{same_some, false_true}
use Rattle.atspi_trace_laws.proofs.OfOrder.Frame.{Over, over_with, stepped_over, with_cases, at_changed}
use Rattle.atspi_trace_laws.proofs.OfQuiet.Here.{forward}
use Rattle.atspi_trace_laws.proofs.OfSigned.Unique.{IsIn}
use Rattle.atspi_trace_laws.proofs.OfMissed.Arriving.{On}
use Rattle.atspi_trace_laws.proofs.OfMissed.Resting.{here_is}
use Rattle.atspi_trace_caches.proofs.OfSettled.Replying.{Has, IsCall, IsCalled, IsReplying, IsAnswer, IsReplied, IsOpen, Course, Stage, OpenAt, Placed, Midway, Keeps_links, keeping, put_keeps, name_keeps, down_still, up_still, known_still, midway_still}
use Rattle.atspi_trace_caches.proofs.OfSettled.ReplyingOwners.{Owned, takes_owned, gone_owned}
use Rattle.atspi_trace_caches.proofs.OfSettled.ReplyingBus.{GivesTo, on_has, due_on, steps_reply, steps_arrive, with_other, AllMidway, left_midway, settled_midway, AllIn, no_due_left}
use Rattle.atspi_trace_caches.proofs.OfSettled.ReplyingTakes.{Keeps_open, Opens, Answered, takes_keeps, takes_answers, takes_reply}

-- WHO OWNS A NAME has one of its own, and an end; a reader owns none but that
pub record IsCallee (c : Carried) (x : ℕ) (to : List ℕ) : Type 0 where
  pub known : is_some (unique_of c.bus.state.owners x) ≡ true
  pub d : End
  pub there : end_at c.ends x ≡ Some d
  pub mute : d.standing ≡ here → is_reader d.who ≡ true → (is_unique_name to ≡ true → d.unique ≡ Some to) × (to ≡ registry → ⊥)

abbrev pub CalleesAre : Carried → Type 0
CalleesAre c = (x : ℕ) (to : List ℕ) → IsIn x (owners_of c.bus.state to) → IsCallee c x to

-- a letter is what is handed on
pub plainly_of : (who : Party) (said : Said) (m : Envelope) → (letter_of who said m).said.message ≡ m
plainly_of who said m = by (is_text m.sender own_name)
  where
    by : (b : Bool) → (if b then own_letter m else record { from = who; said = record said { message = m } }).said.message ≡ m
    by true = refl
    by false = refl

-- THE BUS TAKES A MESSAGE: first it is gone from its sender's up link
module _ (c : Carried) (j : ℕ) (who : Party) (said : Said) (rest : List Said) (ej : End) (there_j : end_at c.ends j ≡ Some ej) (link : ej.up ≡ said ∷ rest) where
  pub record Base (a : ℕ) (e x : End) : Type 0 where
    pub whose : x.who ≡ e.who
    pub standing : x.standing ≡ e.standing
    pub role : x.role ≡ e.role
    pub down : x.down ≡ e.down
    pub unique : x.unique ≡ e.unique
    pub up : ((a ≡ j) × (e.up ≡ said ∷ rest) × (x.up ≡ rest)) ⊎ (x.up ≡ e.up)

  abbrev base_ends : List End
  base_ends = with_end j taken_up c.ends

  is_base : (a : ℕ) (e x : End) → end_at c.ends a ≡ Some e → (((a ≡ j) × (x ≡ taken_up e)) ⊎ ((a ≡ j → ⊥) × (x ≡ e))) → Base a e x
  is_base a e x there (inl h) =
      let same : e ≡ ej = same_some e ej (sym there ∙ ap (end_at c.ends) h.0 ∙ there_j) in
      let up : e.up ≡ said ∷ rest = ap (λ (y : End). y.up) same ∙ link in
      record {
        whose = ap (λ (y : End). y.who) h.1;
        standing = ap (λ (y : End). y.standing) h.1;
        role = ap (λ (y : End). y.role) h.1;
        down = ap (λ (y : End). y.down) h.1;
        unique = ap (λ (y : End). y.unique) h.1;
        up = inl (h.0, up, ap (λ (y : End). y.up) h.1 ∙ ap rest_of up);
      }
  is_base a e x there (inr h) = record {
    whose = ap (λ (y : End). y.who) h.1;
    standing = ap (λ (y : End). y.standing) h.1;
    role = ap (λ (y : End). y.role) h.1;
    down = ap (λ (y : End). y.down) h.1;
    unique = ap (λ (y : End). y.unique) h.1;
    up = inr (ap (λ (y : End). y.up) h.1);
  }

  base_at : (a : ℕ) (e : End) → end_at c.ends a ≡ Some e → (x : End) × (end_at base_ends a ≡ Some x) × Base a e x
  base_at a e there = by (a == j) refl
    where
      by : (b : Bool) → (a == j) ≡ b → (x : End) × (end_at base_ends a ≡ Some x) × Base a e x
      by true g =
          let at : a ≡ j = eqb-true a j g in
          (taken_up e, ap (end_at base_ends) at ∙ at_changed taken_up c.ends j e (ap (end_at c.ends) (sym at) ∙ there), is_base a e (taken_up e) there (inl (at, refl)))
      by false g =
          let differ : a ≡ j → ⊥ = λ same. false_true (sym g ∙ eq-eqb a j same) in
          (e, with_other taken_up j c.ends a e differ there, is_base a e e there (inr (differ, refl)))

  pub base_back : (a : ℕ) (x : End) → end_at base_ends a ≡ Some x → (e : End) × (end_at c.ends a ≡ Some e) × Base a e x
  base_back a x there = let y = with_cases taken_up c.ends j a x there in (y.0, y.1, is_base a y.0 x y.1 y.2)

  up_after : (P : Said → Type 0) (a : ℕ) (e x : End) → Base a e x → Has P e.up → ((a ≡ j) × P said) ⊎ Has P x.up
  up_after P a e x b h = by b.up
    where
      first : a ≡ j → x.up ≡ rest → P said ⊎ Has P rest → ((a ≡ j) × P said) ⊎ Has P x.up
      first at is (inl p) = inl (at, p)
      first at is (inr p) = inr (subst (Has P) (sym is) p)

      by : (((a ≡ j) × (e.up ≡ said ∷ rest) × (x.up ≡ rest)) ⊎ (x.up ≡ e.up)) → ((a ≡ j) × P said) ⊎ Has P x.up
      by (inl y) = first y.0 y.2 (subst (Has P) y.1 h)
      by (inr y) = inr (subst (Has P) (sym y) h)

  -- THEN IT IS ANSWERED, or handed on
  module _ (owned : Owned c.bus.state.owners) (small : c.bus.state.owners.given < 2 ^ 32) (greeting : unique_of c.bus.state.owners j ≡ None → is_hello said.message ≡ true) (callees : CalleesAre c) (k n : ℕ) (to : List ℕ) where
    abbrev rule : Option (List Condition)
    rule = rule_in said.message

    abbrev base : Carried
    base = record c { ends = base_ends }

    abbrev step : BusStep
    step = bus_takes c.bus.state j said.message rule

    abbrev letter : Envelope → Letter
    letter = letter_of who said

    abbrev c1 : Carried
    c1 = stepped letter base step

    over : Over Keeps_links base_ends c1.ends
    over = stepped_over Keeps_links keeping letter (λ m e. put_keeps (letter m) e) base step

    kept : Keeps_open c.bus.state j k n step
    kept = takes_keeps c.bus.state j k n said.message rule

    replied : (z : End) → end_at c1.ends k ≡ Some z → z.standing ≡ here → GivesTo (IsReplying n) k step.moves → Midway c1 k z n to
    replied z there on g = steps_reply letter (plainly_of who said) base step k n to g z there on

    -- it is open
    opened_course : (x : ℕ) (y z : End) (name : List ℕ) (m : Envelope) → Keeps_links y z → (is_reader y.who ≡ true → (is_unique_name to ≡ true → y.unique ≡ Some to) × (to ≡ registry → ⊥)) → (to ≡ own_name → ⊥) → IsCalled n name (letter m) → On (letter m) z.down → Course z n name to
    opened_course x y z name m g mute not_bus called o = by (is_reader y.who) refl
      where
        by : (b : Bool) → is_reader y.who ≡ b → Course z n name to
        by true h = inl (ap is_reader g.whose ∙ h, λ u. g.unique to ((mute h).0 u), (mute h).1, not_bus)
        by false h = inr (inl (ap is_reader g.whose ∙ h, on_has (IsCalled n name) (letter m) z.down called o))

    opened : (z : End) → k ≡ j → IsCall n to said → Opens c.bus.state j said.message.serial to said.message step → OpenAt c1 k n to
    opened z at call o =
        let x = callees o.callee to o.owner in
        let y = base_at o.callee x.d x.there in
        let v = forward Keeps_links base_ends c1.ends o.callee y.0 over y.1 in
        record {
          callee = o.callee;
          is_open = subst (λ a. Has (IsOpen a n o.callee) step.state.calls) (sym at) (subst (λ a. Has (IsOpen j a o.callee) step.state.calls) call.serial o.is_open);
          name = o.name;
          is_named = kept.names k o.name (ap (unique_of c.bus.state.owners) at ∙ o.named);
          known = known_still (unique_of c.bus.state.owners o.callee) (unique_of step.state.owners o.callee) (kept.names o.callee) x.known;
          d = v.0;
          there = v.1;
          stage = staged x.d y.0 v.0 y.2 v.2 x.mute v.1 (is_here v.0.standing) refl;
        }
      where
        m : Envelope
        m = record said.message { sender = Some o.name }

        called : IsCalled n o.name (letter m)
        called =
            subst (λ (e : Envelope). (e.serial ≡ n) × (expects_reply e ≡ true) × (e.sender ≡ Some o.name) → IsCalled n o.name (letter m)) (plainly_of who said m) (λ p. record { serial = p.0; expects = p.1; sender = p.2 })
            (call.serial, call.expects, refl)

        staged : (d y v : End) → Base o.callee d y → Keeps_links y v → (d.standing ≡ here → is_reader d.who ≡ true → (is_unique_name to ≡ true → d.unique ≡ Some to) × (to ≡ registry → ⊥)) → end_at c1.ends o.callee ≡ Some v → (b : Bool) → is_here v.standing ≡ b → Stage c1 o.callee v n o.name to
        staged d y v b g mute there false h = inl h
        staged d y v b g mute there true h = by (steps_arrive letter (plainly_of who said) base step o.callee m o.given v there on)
          where
            on : v.standing ≡ here
            on = here_is v.standing h

            by : On (letter m) v.down ⊎ (is_due o.callee c1.bus.waiting.due ≡ true) → Stage c1 o.callee v n o.name to
            by (inl l) =
                inr (inr (on, opened_course o.callee y v o.name m g (λ r. let q = mute (sym b.standing ∙ sym g.standing ∙ on) (ap is_reader (sym b.whose) ∙ r) in (λ u. b.unique ∙ q.0 u, q.1)) o.not_bus called l))
            by (inr due) = inr (inl due)

    -- the places behind it
    from_up : (z : End) → end_at c1.ends k ≡ Some z → z.standing ≡ here → (x : End) → Keeps_links x z → ((k ≡ j) × IsCall n to said) ⊎ Has (IsCall n to) x.up → Midway c1 k z n to
    from_up z there on x g (inr h) = inl (inl (up_still (IsCall n to) x z g h))
    from_up z there on x g (inl h) = by (takes_answers c.bus.state j to said.message rule small owned greeting h.1.expects h.1.goes)
      where
        by : Answered c.bus.state j said.message.serial to said.message step → Midway c1 k z n to
        by (inl gives) = replied z there on (subst (λ a. GivesTo (IsReplying n) a step.moves) (sym h.0) (subst (λ a. GivesTo (IsReplying a) j step.moves) h.1.serial gives))
        by (inr o) = inl (inr (inr (opened z h.0 h.1 o)))

    from_open : (z : End) → end_at c1.ends k ≡ Some z → z.standing ≡ here → OpenAt c k n to → Midway c1 k z n to
    from_open z there on o = by (kept.calls o.callee o.is_open)
      where
        y : (x : End) × (end_at base_ends o.callee ≡ Some x) × Base o.callee o.d x
        y = base_at o.callee o.d o.there

        v : (d : End) × (end_at c1.ends o.callee ≡ Some d) × Keeps_links y.0 d
        v = forward Keeps_links base_ends c1.ends o.callee y.0 over y.1

        stands_open : Has (IsOpen k n o.callee) step.state.calls → Stage c1 o.callee v.0 n o.name to → Midway c1 k z n to
        stands_open calls stage =
            inl (inr (inr (record {
              callee = o.callee;
              is_open = calls;
              name = o.name;
              is_named = kept.names k o.name o.is_named;
              known = known_still (unique_of c.bus.state.owners o.callee) (unique_of step.state.owners o.callee) (kept.names o.callee) o.known;
              d = v.0;
              there = v.1;
              stage = stage;
            })))

        course : Has (IsOpen k n o.callee) step.state.calls → o.d.standing ≡ here → Course o.d n o.name to → Midway c1 k z n to
        course calls here_ (inl mute) =
            stands_open calls (inr (inr (v.2.standing ∙ y.2.standing ∙ here_, inl (ap is_reader (v.2.whose ∙ y.2.whose) ∙ mute.0, λ u. v.2.unique to (y.2.unique ∙ mute.1 u), mute.2, mute.3))))
        course calls here_ (inr (inl h)) =
            stands_open calls (inr (inr (v.2.standing ∙ y.2.standing ∙ here_, inr (inl (ap is_reader (v.2.whose ∙ y.2.whose) ∙ h.0, down_still (IsCalled n o.name) y.0 v.0 v.2 (subst (Has (IsCalled n o.name)) (sym y.2.down) h.1))))))
        course calls here_ (inr (inr h)) = by_up (up_after (IsAnswer n o.name) o.callee o.d y.0 y.2 h)
          where
            by_up : ((o.callee ≡ j) × IsAnswer n o.name said) ⊎ Has (IsAnswer n o.name) y.0.up → Midway c1 k z n to
            by_up (inl a) = replied z there on (takes_reply c.bus.state j k n o.name said.message rule owned greeting o.is_named a.1.replies a.1.goes)
            by_up (inr a) = stands_open calls (inr (inr (v.2.standing ∙ y.2.standing ∙ here_, inr (inr (up_still (IsAnswer n o.name) y.0 v.0 v.2 a)))))

        stage : Has (IsOpen k n o.callee) step.state.calls → Stage c o.callee o.d n o.name to → Midway c1 k z n to
        stage calls (inl h) = stands_open calls (inl (ap is_here (v.2.standing ∙ y.2.standing) ∙ h))
        stage calls (inr (inl h)) = stands_open calls (inr (inl (due_on letter (plainly_of who said) base step o.callee h)))
        stage calls (inr (inr h)) = course calls h.0 h.1

        by : Has (IsOpen k n o.callee) step.state.calls ⊎ ((o.callee ≡ j) × GivesTo (IsReplying n) k step.moves) → Midway c1 k z n to
        by (inl calls) = stage calls o.stage
        by (inr a) = replied z there on a.1

    stepped_midway : AllIn c k n to → AllMidway c1 k n to
    stepped_midway a z there on = by (a y.0 y.1 (sym y.2.standing ∙ sym x.2.standing ∙ on))
      where
        x : (d : End) × (end_at base_ends k ≡ Some d) × Keeps_links d z
        x = over.back k z there

        y : (e : End) × (end_at c.ends k ≡ Some e) × Base k e x.0
        y = base_back k x.0 x.1

        by : Placed c k y.0 n to → Midway c1 k z n to
        by (inl h) = from_up z there on x.0 x.2 (up_after (IsCall n to) k y.0 x.0 y.2 h)
        by (inr (inl h)) = inl (inr (inl (down_still (IsReplied n) x.0 z x.2 (subst (Has (IsReplied n)) (sym y.2.down) h))))
        by (inr (inr o)) = from_open z there on o

    named_midway : AllMidway c1 k n to → AllMidway (with_name j c1) k n to
    named_midway a z there on =
        let o : Over Keeps_links c1.ends (with_name j c1).ends = over_with Keeps_links keeping (named c1.bus j) (name_keeps c1.bus j) j c1.ends in
        let x = o.back k z there in
        midway_still c1 (with_name j c1) k n to x.0 z (record { ends = o; calls = λ y h. h; names = λ y name h. h; due = λ y h. h }) x.2 (a x.0 x.1 (sym x.2.standing ∙ on))

    pub took_placed : (takes c j who said).bus.waiting.due ≡ [] → AllIn c k n to → AllIn (takes c j who said) k n to
    took_placed none a =
        no_due_left (takes c j who said) k n to none
        (settled_midway (length c.bus.state.joined) (with_name j c1) k n to (takes_owned c.bus.state j said.message rule small owned) (named_midway (stepped_midway a)))

-- THE BUS TAKES AN END
pub ended_placed : (c : Carried) (conn k n : ℕ) (to : List ℕ) → Owned c.bus.state.owners → (takes_end c conn).bus.waiting.due ≡ [] → AllIn c k n to → AllIn (takes_end c conn) k n to
ended_placed c conn k n to owned none a =
    no_due_left (takes_end c conn) k n to none
    (settled_midway (length c.bus.state.joined) (left c conn) k n to (gone_owned c.bus.state.owners conn owned) (left_midway c conn k n to owned (λ e there on. inl (a e there on))))
