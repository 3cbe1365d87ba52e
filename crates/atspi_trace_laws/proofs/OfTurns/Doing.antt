-- What the bus does with a message: it hands that message on, or it says messages of its own; who has joined stays.
use Rattle.std.proofs.Common.{◌≡◌, ◌⊎◌, inl, inr, ℕ, zero, suc, Bool, true, false, List, [], ◌∷◌, Option, None, Some, refl, sym, subst}
use Rattle.std.specs.Prelude.{◌==◌, not, filter, length, codes, if◌then◌else◌, Result, Ok, Err}
use Rattle.std.specs.List.{AllByRecursion}
use Rattle.atspi_message.specs.Envelope.{Envelope}
use Rattle.atspi_match.specs.declared.condition.Condition.{Condition}
use Rattle.atspi_script_lines.specs.declared.line.Party.{Party}
use Rattle.atspi_match.specs.declared.routing.closing.Why.{Why}
use Rattle.atspi_match.specs.declared.routing.member.BusMember.{BusMember}
use Rattle.atspi_match.specs.routing.BusState.{BusState, unique_of}
use Rattle.atspi_match.specs.routing.Members.{member_of}
use Rattle.atspi_match.specs.routing.Answers.{fails}
use Rattle.atspi_match.specs.routing.Routing.{receivers, is_for_bus}
use Rattle.atspi_match.specs.routing.Steps.{Move, closes, BusStep, handed, speaks, replies, called, undeliverable, is_unowned, passes_on, is_hello, greets, bus_takes}
use Rattle.atspi_trace.specs.Rules.{rule_in}
use Rattle.atspi_trace.specs.World.{Said}
use Rattle.atspi_trace.specs.Ends.{with_end, taken_up}
use Rattle.atspi_trace.specs.Carrying.{Carried, letter_of, stepped, left, one_closed, settled, with_name, takes, takes_end}
use Rattle.atspi_trace_laws.proofs.OfTaken.Handing.{IsOwn, HandsOn, greets_on, called_on, speaks_on, replies_own}

-- messages of its own, or the message with a sender's name to each of its receivers
abbrev pub Kind : BusState → Envelope → List Move → Type 0
Kind s e moves = AllByRecursion (HandsOn IsOwn) moves ⊎ ((name : List ℕ) × (moves ≡ handed s (record e { sender = Some name })))

passes_kind : (b : Bool) (s : BusState) (conn : ℕ) (e : Envelope) (name : List ℕ) (t : BusStep) → t.moves ≡ handed s (record e { sender = Some name })
    → Kind s e (if b then undeliverable s conn (record e { sender = Some name }) else t).moves
passes_kind true s conn e name t h =
    inl (speaks_on IsOwn s (replies s conn (record e { sender = Some name }) (fails (codes "ServiceUnknown"))) (λ m is. is) (replies_own s conn (record e { sender = Some name }) (fails (codes "ServiceUnknown"))))
passes_kind false s conn e name t h = inr (name, h)

-- where it is for the bus itself what is said is the bus's own: by the case in which nothing is handed on
named_kind : (a b : Bool) (s : BusState) (conn : ℕ) (e : Envelope) (name : List ℕ) (rule : Option (List Condition)) → AllByRecursion (HandsOn IsOwn) (called s conn (record e { sender = Some name }) rule).moves
    → Kind s e (if a then (if b then called s conn (record e { sender = Some name }) rule else speaks s []) else passes_on s conn (record e { sender = Some name })).moves
named_kind true true s conn e name rule c = inl c
named_kind true false s conn e name rule c = inl tt
named_kind false b s conn e name rule c = passes_kind (is_unowned e.destination (receivers s (record e { sender = Some name }))) s conn e name _ refl

pub takes_kind : (s : BusState) (conn : ℕ) (e : Envelope) (rule : Option (List Condition)) → Kind s e (bus_takes s conn e rule).moves
takes_kind s conn e rule = by (unique_of s.owners conn) refl
  where
    hello_kind : (b : Bool) → (b ≡ true → AllByRecursion (HandsOn IsOwn) (greets s conn e).moves) → Kind s e (if b then greets s conn e else record { state = s; moves = closes conn ∷ [] }).moves
    hello_kind true f = inl (f refl)
    hello_kind false f = inl (tt, tt)

    by : (o : Option (List ℕ)) → unique_of s.owners conn ≡ o → Kind s e (bus_takes s conn e rule).moves
    by (Some own) h = rw h (named_kind (is_for_bus (record e { sender = Some own })) (e.kind == 1) s conn e own rule (called_on IsOwn s conn (record e { sender = Some own }) rule (λ m is. is)))
    by None h = rw h (hello_kind (is_hello e) (λ g. greets_on IsOwn s conn e (λ m is. is)))

-- WHO HAS JOINED
called_joined : (s : BusState) (conn : ℕ) (e : Envelope) (rule : Option (List Condition)) → (called s conn e rule).state.joined ≡ s.joined
called_joined s conn e rule = by (member_of e) refl
  where
    by : (r : Result BusMember (List ℕ)) → member_of e ≡ r → (called s conn e rule).state.joined ≡ s.joined
    by (Ok member) h = rw h refl
    by (Err name) h = rw h refl

named_joined : (a b c : Bool) (s : BusState) (conn : ℕ) (e : Envelope) (rule : Option (List Condition)) (t : BusStep) → t.state.joined ≡ s.joined
    → (if a then (if b then called s conn e rule else speaks s []) else (if c then undeliverable s conn e else t)).state.joined ≡ s.joined
named_joined true true c s conn e rule t h = called_joined s conn e rule
named_joined true false c s conn e rule t h = refl
named_joined false b true s conn e rule t h = refl
named_joined false b false s conn e rule t h = h

pub takes_joined : (s : BusState) (conn : ℕ) (e : Envelope) (rule : Option (List Condition)) → (bus_takes s conn e rule).state.joined ≡ s.joined
takes_joined s conn e rule = by (unique_of s.owners conn) refl
  where
    hello_by : (b : Bool) → (if b then greets s conn e else record { state = s; moves = closes conn ∷ [] }).state.joined ≡ s.joined
    hello_by true = refl
    hello_by false = refl

    by : (o : Option (List ℕ)) → unique_of s.owners conn ≡ o → (bus_takes s conn e rule).state.joined ≡ s.joined
    by (Some own) h =
        let m : Envelope = record e { sender = Some own } in
        rw h (named_joined (is_for_bus m) (e.kind == 1) (is_unowned e.destination (receivers s m)) s conn m rule _ refl)
    by None h = rw h (hello_by (is_hello e))

-- what closings leave
module _ (P : List ℕ → Type 0) (fewer : (conn : ℕ) (xs : List ℕ) → P xs → P (filter (λ c. not (c == conn)) xs)) where
  left_joined : (c : Carried) (conn : ℕ) → P c.bus.state.joined → P (left c conn).bus.state.joined
  left_joined c conn p = fewer conn c.bus.state.joined p

  one_joined : (c : Carried) (due : List (ℕ × Why)) → P c.bus.state.joined → P (one_closed c due).bus.state.joined
  one_joined c [] p = p
  one_joined c (first ∷ rest) p = left_joined c first.0 p

  pub settled_joined : (n : ℕ) (c : Carried) → P c.bus.state.joined → P (settled n c).bus.state.joined
  settled_joined zero c p = p
  settled_joined (suc n) c p = settled_joined n (one_closed c c.bus.waiting.due) (one_joined c c.bus.waiting.due p)

  pub taking_joined : (c : Carried) (conn : ℕ) (who : Party) (said : Said) → P c.bus.state.joined → P (takes c conn who said).bus.state.joined
  taking_joined c conn who said p =
      settled_joined (length c.bus.state.joined)
      (with_name conn (stepped (letter_of who said) (record c { ends = with_end conn taken_up c.ends }) (bus_takes c.bus.state conn said.message (rule_in said.message))))
      (subst P (sym (takes_joined c.bus.state conn said.message (rule_in said.message))) p)

  pub ending_joined : (c : Carried) (conn : ℕ) → P c.bus.state.joined → P (takes_end c conn).bus.state.joined
  ending_joined c conn p = settled_joined (length c.bus.state.joined) (left c conn) (left_joined c conn p)
