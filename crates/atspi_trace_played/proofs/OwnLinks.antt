-- The bus's own messages come to each end in the order of their serials: those that it took, and behind them those on its down link.
use Rattle.std.proofs.Common.{◌≡◌, ◌⊎◌, inl, inr, ℕ, zero, suc, ◌+◌, ◌≤◌, Bool, true, false, List, [], ◌∷◌, ◌++◌, length, map, Option, None, Some, refl, sym, ap, ◌∙◌, subst, arith}
use Rattle.std.specs.Prelude.{◌==◌, not, filter, flat_map, if◌then◌else◌}
use Rattle.std.specs.List.{AllByRecursion, fold}
use Rattle.std.proofs.lemmas.List.{append-nil, append_assoc}
use Rattle.atspi_script_lines.specs.declared.line.Party.{Party}
use Rattle.atspi_script_lines.specs.declared.line.Party.TheVariants.{Bus as The_bus}
use Rattle.atspi_match.specs.RuleIndex.{without_rules}
use Rattle.atspi_message.specs.Envelope.{Envelope}
use Rattle.atspi_names.specs.Owners.{own_name, after_gone}
use Rattle.atspi_match.specs.declared.routing.closing.Why.{Why}
use Rattle.atspi_match.specs.routing.BusState.{BusState, unique_of, calls_without}
use Rattle.atspi_match.specs.routing.Members.{is_text}
use Rattle.atspi_match.specs.routing.OwnMessages.{numbered}
use Rattle.atspi_match.specs.routing.Routing.{receivers}
use Rattle.atspi_match.specs.routing.Steps.{Move, says, delivers, BusStep, handed, farewell, bus_takes}
use Rattle.atspi_match.specs.routing.Queues as queues
use Rattle.atspi_match.specs.routing.Queues.{without_queue}
use Rattle.atspi_trace.specs.Rules.{rule_in}
use Rattle.atspi_trace.specs.Entry.{Entry, got}
use Rattle.atspi_trace.specs.World.{Said, Letter, End}
use Rattle.atspi_trace.specs.Ends.{same_party, end_at, with_end, put_down, taken_up, leaves}
use Rattle.atspi_trace.specs.Carrying.{Carried, Filled, own_letter, letter_of, grew, moved, stepped, left, one_closed, settled, named, with_name, takes, takes_end}
use Rattle.atspi_trace_laws.proofs.OfOrder.Parties.{same-party}
use Rattle.atspi_trace_laws.proofs.OfOrder.Frame.{Over, IsOrder, over_with, with_cases}
use Rattle.atspi_trace_laws.proofs.OfTaken.Handing.{HandsOn, stepped_put}
use Rattle.atspi_trace_laws.proofs.OfOwn.Doing.{Doing, says_, hands_, closes_, doing_of}
use Rattle.atspi_trace_laws.proofs.OfDelivered.Bounds.{NoneIsBus}
use Rattle.atspi_trace_laws.proofs.OfTurns.Rising.{Rises, higher, rises_filter, rises_last, receivers_rise}
use Rattle.atspi_trace_laws.proofs.OfTurns.Doing.{takes_joined}
use Rattle.atspi_trace_played.proofs.Serials.{serial_if, serials, coming, coming_more, serials_more, one_serial, other_sender, rises_front}

fold_more : {A B : Type 0} (f : A → B → A) (a : A) (xs ys : List B) → fold f a (xs ++ ys) ≡ fold f (fold f a xs) ys
fold_more f a [] ys = refl
fold_more f a (x ∷ xs) ys = fold_more f (f a x) xs ys

-- below this number all of them rise
abbrev pub RisesTo : List Entry → ℕ → End → Type 0
RisesTo es n e = Rises 0 n (serials e.who The_bus es ++ serials e.who The_bus (coming e.who e.down))

abbrev pub AllRise : List Entry → ℕ → List End → Type 0
AllRise es n ends = (k : ℕ) (e : End) → end_at ends k ≡ Some e → RisesTo es n e

abbrev pub KeepsRise : List Entry → ℕ → End → End → Type 0
KeepsRise es n e d = RisesTo es n e → RisesTo es n d

pub keeping_rise : (es : List Entry) (n : ℕ) → IsOrder (KeepsRise es n)
keeping_rise es n = record { same = λ e r. r; both = λ e d c f g r. g (f r) }

pub rise_over : (es : List Entry) (n : ℕ) (a b : List End) → AllRise es n a → Over (KeepsRise es n) a b → AllRise es n b
rise_over es n a b r o k d h = let x = o.back k d h in x.2 (r k x.0 x.1)

-- one message more on a down link
put_is : (who : Party) (ls : List Letter) (l : Letter) → serials who The_bus (coming who (ls ++ l ∷ [])) ≡ serials who The_bus (coming who ls) ++ (serial_if who The_bus (got who l.from l.said.message.serial) ++ [])
put_is who ls l = ap (serials who The_bus) (coming_more who ls (l ∷ [])) ∙ serials_more who The_bus (coming who ls) (coming who (l ∷ []))

put_own : (es : List Entry) (n : ℕ) (l : Letter) (e : End) → l.from ≡ The_bus → l.said.message.serial ≡ n → RisesTo es n e → RisesTo es (suc n) (put_down l e)
put_own es n l e own is r =
    let before : List ℕ = serials e.who The_bus es in
    let there : List ℕ = serials e.who The_bus (coming e.who e.down) in
    let one : serial_if e.who The_bus (got e.who l.from l.said.message.serial) ≡ n ∷ [] =
    ap (λ p. serial_if e.who The_bus (got e.who p l.said.message.serial)) own ∙ one_serial e.who The_bus l.said.message.serial ∙ ap (λ s. s ∷ []) is in
    subst (λ xs. Rises 0 (suc n) (before ++ xs)) (sym (put_is e.who e.down l ∙ ap (λ x. there ++ (x ++ [])) one))
    (subst (Rises 0 (suc n)) (append_assoc before there (n ∷ [])) (rises_last 0 n (before ++ there) (omega arith) r))

pub put_other : (es : List Entry) (n : ℕ) (l : Letter) (e : End) → (l.from ≡ The_bus → ⊥) → RisesTo es n e → RisesTo es n (put_down l e)
put_other es n l e other r =
    let before : List ℕ = serials e.who The_bus es in
    let there : List ℕ = serials e.who The_bus (coming e.who e.down) in
    subst (λ xs. Rises 0 n (before ++ xs)) (sym (put_is e.who e.down l ∙ ap (λ x. there ++ (x ++ [])) (other_sender e.who The_bus e.who l.from l.said.message.serial other) ∙ append-nil there)) r

put_one : (es : List Entry) (n : ℕ) (l : Letter) (e : End) → (l.from ≡ The_bus → l.said.message.serial ≡ n) → RisesTo es n e → RisesTo es (suc n) (put_down l e)
put_one es n l e is r = by (same_party l.from The_bus) refl
  where
    by : (b : Bool) → same_party l.from The_bus ≡ b → RisesTo es (suc n) (put_down l e)
    by true h = let own : l.from ≡ The_bus = same-party l.from The_bus h in put_own es n l e own (is own) r
    by false h = higher 0 n (suc n) (serials e.who The_bus es ++ serials e.who The_bus (coming e.who (e.down ++ l ∷ []))) (omega arith) (put_other es n l e (λ own. absurd (differ h own)) r)
      where
        differ : same_party l.from The_bus ≡ false → l.from ≡ The_bus → ⊥
        differ g own = no (sym (ap (λ p. same_party p The_bus) own) ∙ g)
          where
            no : true ≡ false → ⊥
            no c = cc

-- the ends from this number on have not got the message with this serial
abbrev Waits : List Entry → ℕ → ℕ → List End → Type 0
Waits es n low ends = (k : ℕ) (e : End) → end_at ends k ≡ Some e → RisesTo es (suc n) e × (low ≤ k → RisesTo es n e)

module _ (es : List Entry) (letter : Envelope → Letter) (own : (m : Envelope) → (letter m).said.message.serial ≡ m.serial) (quota : ℕ) where
  one_put : (n low c : ℕ) (m : Envelope) (ends : List End) → m.serial ≡ n → low ≤ c → Waits es n low ends → Waits es n (suc c) (with_end c (put_down (letter m)) ends)
  one_put n low c m ends is first w k x h = by (with_cases (put_down (letter m)) ends c k x h)
    where
      by : ((e : End) × (end_at ends k ≡ Some e) × (((k ≡ c) × (x ≡ put_down (letter m) e)) ⊎ ((k ≡ c → ⊥) × (x ≡ e)))) → RisesTo es (suc n) x × (suc c ≤ k → RisesTo es n x)
      by g = at g.2
        where
          old : RisesTo es (suc n) g.0 × (low ≤ k → RisesTo es n g.0)
          old = w k g.0 g.1

          at : (((k ≡ c) × (x ≡ put_down (letter m) g.0)) ⊎ ((k ≡ c → ⊥) × (x ≡ g.0))) → RisesTo es (suc n) x × (suc c ≤ k → RisesTo es n x)
          at (inl d) =
              let here : k ≡ c = d.0 in (
                subst (RisesTo es (suc n)) (sym d.1) (put_one es n (letter m) g.0 (λ bus. own m ∙ is) (old.1 (omega (arith, first, here)))),
                (λ more. absurd (omega (arith, more, here))),
              )
          at (inr d) = (subst (RisesTo es (suc n)) (sym d.1) old.0, (λ more. subst (RisesTo es n) (sym d.1) (old.1 (omega (arith, first, more)))))

  not_put : (n low c : ℕ) (ends : List End) → low ≤ c → Waits es n low ends → Waits es n (suc c) ends
  not_put n low c ends first w k x h = let old = w k x h in (old.0, (λ more. old.1 (omega (arith, first, more))))

  handed_rise : (n : ℕ) (m : Envelope) (conns : List ℕ) (low high : ℕ) (f : Filled) → m.serial ≡ n → Rises low high conns → Waits es n low f.ends
      → AllRise es (suc n) (fold (moved letter quota) f (map (λ c. delivers c m) conns)).ends
  handed_rise n m [] low high f is r w k e h = (w k e h).0
  handed_rise n m (c ∷ cs) low high f is r w k e h =
      handed_rise n m cs (suc c) high (moved letter quota f (delivers c m)) is r.2 (by (grew c f.waiting (queues.moved quota f.waiting (delivers c m)))) k e h
    where
      by : (t : Bool) → Waits es n (suc c) (if t then with_end c (put_down (letter m)) f.ends else f.ends)
      by true = one_put n low c m f.ends is r.0 w
      by false = not_put n low c f.ends r.0 w

  -- own messages, one behind the other
  pub said_rise : (t : BusState) (h : ℕ) → Rises 0 h t.joined → (n : ℕ) (ms : List Envelope) (f : Filled) → AllRise es n f.ends
      → AllRise es (n + length ms) (fold (moved letter quota) f (flat_map (λ e. says e ∷ handed t e) (numbered n ms))).ends
  said_rise t h r n [] f a = subst (λ k. AllRise es k f.ends) (none n) a
    where
      none : (k : ℕ) → k ≡ k + 0
      none k = omega arith
  said_rise t h r n (m ∷ ms) f a =
      let one : Envelope = record m { serial = n } in
      let first : Filled = moved letter quota f (says one) in
      let then_ : Filled = fold (moved letter quota) first (handed t one) in
      let back : List Move = flat_map (λ e. says e ∷ handed t e) (numbered (n + 1) ms) in
      let to = receivers_rise t one h r (receivers t one) refl in
      let got_it : AllRise es (suc n) then_.ends =
      handed_rise n one (receivers t one) 0 to.0 first refl to.1 (λ k e g. (higher 0 n (suc n) (serials e.who The_bus es ++ serials e.who The_bus (coming e.who e.down)) (omega arith) (a k e g), (λ low. a k e g))) in
      subst (λ k. AllRise es k (fold (moved letter quota) first (handed t one ++ back)).ends) (count n (length ms))
      (subst (λ (x : Filled). AllRise es (n + 1 + length ms) x.ends) (sym (fold_more (moved letter quota) first (handed t one) back))
      (said_rise t h r (n + 1) ms then_ (subst (λ k. AllRise es k then_.ends) (next n) got_it)))
    where
      next : (k : ℕ) → suc k ≡ k + 1
      next k = omega arith

      count : (k j : ℕ) → k + 1 + j ≡ k + suc j
      count k j = omega arith

-- A CONNECTION LEAVES
abbrev left_state : BusState → ℕ → BusState
left_state s conn = record s {
  joined = filter (λ c. not (c == conn)) s.joined;
  owners = after_gone s.owners conn;
  rules = without_rules conn s.rules;
  calls = calls_without conn s.calls;
}

leave_rise : (es : List Entry) (n : ℕ) (e : End) → KeepsRise es n e (leaves e)
leave_rise es n e r =
    subst (Rises 0 n) (sym (append-nil (serials e.who The_bus es))) (rises_front 0 n (serials e.who The_bus es) (serials e.who The_bus (coming e.who e.down)) r)

left_rise : (es : List Entry) (c : Carried) (conn h : ℕ) → Rises 0 h c.bus.state.joined → AllRise es c.bus.state.next c.ends → AllRise es (left c conn).bus.state.next (left c conn).ends
left_rise es c conn h r a =
    let s : BusState = c.bus.state in
    said_rise es own_letter (λ m. refl) c.bus.quota (left_state s conn) h (rises_filter (λ k. not (k == conn)) 0 h s.joined r) s.next (farewell s (after_gone s.owners conn) conn (unique_of s.owners conn))
    (record { waiting = without_queue c.bus.waiting conn; ends = with_end conn leaves c.ends })
    (rise_over es s.next c.ends (with_end conn leaves c.ends) a (over_with (KeepsRise es s.next) (keeping_rise es s.next) leaves (leave_rise es s.next) conn c.ends))

one_rise : (es : List Entry) (c : Carried) (due : List (ℕ × Why)) (h : ℕ) → Rises 0 h c.bus.state.joined → AllRise es c.bus.state.next c.ends
    → Rises 0 h (one_closed c due).bus.state.joined × AllRise es (one_closed c due).bus.state.next (one_closed c due).ends
one_rise es c [] h r a = (r, a)
one_rise es c (first ∷ rest) h r a = (rises_filter (λ k. not (k == first.0)) 0 h c.bus.state.joined r, left_rise es c first.0 h r a)

settled_rise : (es : List Entry) (rounds : ℕ) (c : Carried) (h : ℕ) → Rises 0 h c.bus.state.joined → AllRise es c.bus.state.next c.ends → AllRise es (settled rounds c).bus.state.next (settled rounds c).ends
settled_rise es zero c h r a = a
settled_rise es (suc rounds) c h r a = let x = one_rise es c c.bus.waiting.due h r a in settled_rise es rounds (one_closed c c.bus.waiting.due) h x.0 x.1

-- THE BUS TAKES A MESSAGE
letter_serial : (who : Party) (said : Said) (m : Envelope) → (letter_of who said m).said.message.serial ≡ m.serial
letter_serial who said m = by (is_text m.sender own_name)
  where
    by : (b : Bool) → (if b then own_letter m else record { from = who; said = record said { message = m } }).said.message.serial ≡ m.serial
    by true = refl
    by false = refl

not_own : (s : BusState) (conn : ℕ) (sender : Option (List ℕ)) → NoneIsBus s.owners → sender ≡ unique_of s.owners conn → is_text sender own_name ≡ false
not_own s conn None none h = refl
not_own s conn (Some name) none h = none conn name (sym h)

handed_on : (P : Envelope → Type 0) (m : Envelope) (conns : List ℕ) → P m → AllByRecursion (HandsOn P) (map (λ c. delivers c m) conns)
handed_on P m [] p = tt
handed_on P m (c ∷ cs) p = (p, handed_on P m cs p)

step_rise : (es : List Entry) (c : Carried) (conn h : ℕ) (who : Party) (said : Said) (step : BusStep) → (who ≡ The_bus → ⊥) → NoneIsBus c.bus.state.owners → Rises 0 h c.bus.state.joined → step.state.joined ≡ c.bus.state.joined
    → AllRise es c.bus.state.next c.ends → Doing c.bus.state conn step → AllRise es step.state.next (stepped (letter_of who said) c step).ends
step_rise es c conn h who said step other none r joined a (says_ t ms next named_ new is) =
    let same : t.joined ≡ c.bus.state.joined = ap (λ (x : BusStep). x.state.joined) (sym is) ∙ joined in
    subst (λ (x : BusStep). AllRise es x.state.next (stepped (letter_of who said) c x).ends) (sym is)
    (said_rise es (letter_of who said) (letter_serial who said) c.bus.quota t h (subst (Rises 0 h) (sym same) r) t.next ms (record { waiting = c.bus.waiting; ends = c.ends })
    (subst (λ n. AllRise es n c.ends) (sym next) a))
step_rise es c conn h who said step other none r joined a (hands_ calls m sender is) =
    let n : ℕ = c.bus.state.next in
    let foreign : letter_of who said m ≡ record { from = who; said = record said { message = m } } =
    ap (λ b. if b then own_letter m else record { from = who; said = record said { message = m } }) (not_own c.bus.state conn m.sender none sender) in
    subst (λ (x : BusStep). AllRise es x.state.next (stepped (letter_of who said) c x).ends) (sym is)
    (rise_over es n c.ends _ a
    (stepped_put (KeepsRise es n) (keeping_rise es n) (letter_of who said) c (record { state = record c.bus.state { calls = calls }; moves = handed c.bus.state m })
    (handed_on (λ x. (e : End) → KeepsRise es n e (put_down (letter_of who said x) e)) m (receivers c.bus.state m)
    (λ e. subst (λ l. KeepsRise es n e (put_down l e)) (sym foreign) (put_other es n (record { from = who; said = record said { message = m } }) e other)))))
step_rise es c conn h who said step other none r joined a (closes_ nobody is) = subst (λ (x : BusStep). AllRise es x.state.next (stepped (letter_of who said) c x).ends) (sym is) a

pub takes_rise : (es : List Entry) (c : Carried) (conn h : ℕ) (who : Party) (said : Said) → (who ≡ The_bus → ⊥) → NoneIsBus c.bus.state.owners → Rises 0 h c.bus.state.joined → AllRise es c.bus.state.next c.ends
    → AllRise es (takes c conn who said).bus.state.next (takes c conn who said).ends
takes_rise es c conn h who said other none r a =
    let s : BusState = c.bus.state in
    let step : BusStep = bus_takes s conn said.message (rule_in said.message) in
    let base : Carried = record c { ends = with_end conn taken_up c.ends } in
    let joined : step.state.joined ≡ s.joined = takes_joined s conn said.message (rule_in said.message) in
    let b : Carried = stepped (letter_of who said) base step in
    let taken : AllRise es s.next base.ends = rise_over es s.next c.ends base.ends a (over_with (KeepsRise es s.next) (keeping_rise es s.next) taken_up (λ e x. x) conn c.ends) in
    let done : AllRise es step.state.next b.ends = step_rise es base conn h who said step other none r joined taken (doing_of s conn said.message (rule_in said.message)) in
    let named_ : AllRise es step.state.next (with_name conn b).ends =
    rise_over es step.state.next b.ends (with_name conn b).ends done (over_with (KeepsRise es step.state.next) (keeping_rise es step.state.next) (named b.bus conn) (λ e x. x) conn b.ends) in
    settled_rise es (length s.joined) (with_name conn b) h (subst (Rises 0 h) (sym joined) r) named_

pub ends_rise : (es : List Entry) (c : Carried) (conn h : ℕ) → Rises 0 h c.bus.state.joined → AllRise es c.bus.state.next c.ends → AllRise es (takes_end c conn).bus.state.next (takes_end c conn).ends
ends_rise es c conn h r a = settled_rise es (length c.bus.state.joined) (left c conn) h (rises_filter (λ k. not (k == conn)) 0 h c.bus.state.joined r) (left_rise es c conn h r a)
