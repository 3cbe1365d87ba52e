-- Messages of the bus's own that are said in place, and taken back.
use Rattle.std.proofs.Common.{◌≡◌, ℕ, ◌+◌, List, [], ◌∷◌, ◌++◌, refl, sym, ap, ◌∙◌, subst}
use Rattle.atspi_match.specs.declared.condition.Condition.{Condition}
use Rattle.atspi_message.specs.Envelope.{Envelope}
use Rattle.atspi_names.specs.Owners.{Owners}
use Rattle.atspi_bus_queues.specs.Each.{WentToEach, queued_each}
use Rattle.atspi_bus_queues.specs.Held.{Held}
use Rattle.atspi_match.specs.routing.BusState.{BusState}
use Rattle.atspi_match.specs.routing.Queues.{Bus, Waiting, stepped}
use Rattle.atspi_match.specs.routing.Routing.{receivers}
use Rattle.atspi_match.specs.routing.Steps.{speaks}
use Rattle.atspi_bus_steps.proofs.Said.{handed-is, one_said, more_said}
use Rattle.atspi_bus.specs.inner.Said.{IsHanded, IsSaid}

-- what was said, as the definition of a step has it, where owners and rules may be others by then, of whom the receivers are the same
pub said-step : (b after : Bus) (e : Envelope) (bytes conns : List ℕ) (owners : Owners) (rules : List (ℕ × List Condition)) → IsSaid b after e bytes conns
    → conns ≡ receivers (record b.state { owners = owners; rules = rules }) (record e { serial = b.state.next })
    → record after { state = record b.state { owners = owners; rules = rules; next = b.state.next + 1 } } ≡ stepped b (speaks (record b.state { owners = owners; rules = rules }) (e ∷ []))
said-step b after e bytes conns owners rules said routed =
    let s : BusState = record b.state { owners = owners; rules = rules } in
    let c : Bus = record b { state = s } in
    let d : Envelope = record e { serial = b.state.next } in
    let t : BusState = record s { next = b.state.next + 1 } in
    let done : Bus → Bus = λ x. record x { state = t; own = b.own ++ d ∷ [] } in
    let h : Held = record { quota = b.quota; waiting = queued_each b.quota b.waiting bytes conns } in
    ap (λ (x : Bus). record x { state = t }) said.is ∙ ap done said.handed.is
    ∙ ap done (handed-is c h d bytes conns refl said.handed.spelled routed) ∙ one_said c e

pub said-state : (b after : Bus) (e : Envelope) (bytes conns : List ℕ) → IsSaid b after e bytes conns → after.state ≡ record b.state { next = b.state.next + 1 }
said-state b after e bytes conns said = ap (λ (x : Bus). x.state) said.is

pub said-here : (b after : Bus) (e : Envelope) (bytes conns : List ℕ) → IsSaid b after e bytes conns → after ≡ stepped b (speaks b.state (e ∷ []))
said-here b after e bytes conns said =
    ap (λ (s : BusState). record after { state = s }) (said-state b after e bytes conns said)
    ∙ said-step b after e bytes conns b.state.owners b.state.rules said said.handed.routed

-- all of it
said-now : (b after : Bus) (e : Envelope) (bytes conns : List ℕ) → IsSaid b after e bytes conns
    → after ≡ record b {
      state = record b.state { next = b.state.next + 1 };
      waiting = queued_each b.quota b.waiting bytes conns;
      own = b.own ++ record e { serial = b.state.next } ∷ [];
    }
said-now b after e bytes conns said =
    said.is ∙ ap (λ (x : Bus). record x { state = record b.state { next = b.state.next + 1 }; own = b.own ++ record e { serial = b.state.next } ∷ [] }) said.handed.is

pub said-went : (b after : Bus) (e : Envelope) (bytes conns : List ℕ) → IsSaid b after e bytes conns → WentToEach after.quota b.waiting after.waiting bytes conns
said-went b after e bytes conns said =
    subst (λ (x : Bus). WentToEach x.quota b.waiting x.waiting bytes conns) (sym (said-now b after e bytes conns said)) (record { after_is = refl; had_room = said.handed.room })

pub said-of : (b between : Bus) (own : List Envelope) (e : Envelope) (bytes conns : List ℕ) → IsHanded b between (record e { serial = b.state.next }) bytes conns
    → own ≡ between.own ++ record e { serial = b.state.next } ∷ []
    → IsSaid b (record between { state = record between.state { next = between.state.next + 1 }; own = own }) e bytes conns
said-of b between own e bytes conns handed is =
    let d : Envelope = record e { serial = b.state.next } in
    record {
      between = between;
      handed = handed;
      is = ap (λ (l : List Envelope). record between { state = record between.state { next = between.state.next + 1 }; own = l }) (is ∙ ap (λ (x : Bus). x.own ++ d ∷ []) handed.is)
          ∙ ap (λ (s : BusState). record between { state = record s { next = s.next + 1 }; own = b.own ++ d ∷ [] }) (ap (λ (x : Bus). x.state) handed.is);
    }

-- what was said first is said also where more came behind it and was taken back
pub said-again : (b after next : Bus) (e : Envelope) (bytes conns : List ℕ) → next ≡ after → IsSaid b after e bytes conns → IsSaid b next e bytes conns
said-again b after next e bytes conns same said = subst (λ (x : Bus). IsSaid b x e bytes conns) (sym same) said

-- a message and those behind it
pub said-each : (b after next : Bus) (all left : List Envelope) (e : Envelope) (bytes conns : List ℕ) → all ≡ e ∷ left → IsSaid b after e bytes conns
    → next ≡ stepped after (speaks after.state left) → next ≡ stepped b (speaks b.state all)
said-each b after next all left e bytes conns is said new =
    new ∙ ap (λ (x : Bus). stepped x (speaks x.state left)) (said-here b after e bytes conns said) ∙ more_said b e left
    ∙ ap (λ (l : List Envelope). stepped b (speaks b.state l)) (sym is)

-- bytes that went to each of some connections, by other names
pub went-as : (quota : ℕ) (before after : Waiting) (bytes conns sent to : List ℕ) → sent ≡ bytes → to ≡ conns → WentToEach quota before after bytes conns → WentToEach quota before after sent to
went-as quota before after bytes conns sent to are go went =
    subst (λ (x : List ℕ). WentToEach quota before after x to) (sym are) (subst (λ (cs : List ℕ). WentToEach quota before after bytes cs) (sym go) went)
