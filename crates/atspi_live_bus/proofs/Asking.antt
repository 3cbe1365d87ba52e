-- What was asked of a bus, call behind call.
use Rattle.std.proofs.Common.{◌≡◌, ℕ, ◌==◌, true, List, [], ◌∷◌, ◌++◌, refl, sym, ap, subst, ◌∙◌, inl, inr, append_assoc, append-nil}
use Rattle.std.proofs.lemmas.Bool.Decides.{eqb_tells}
use Rattle.atspi_message.specs.Envelope.{Envelope}
use Rattle.atspi_match.specs.routing.Queues as queues
use Rattle.atspi_live_bus.specs.Asked.{Asked, taking, popping, Leads, Runs, message_in, handed_in, messages_of, handed_to}
use Rattle.atspi_live_bus.specs.inner.Turns.{IsOfOne}

pub messages_both : (c : ℕ) (asks bs : List Asked) → messages_of c (asks ++ bs) ≡ messages_of c asks ++ messages_of c bs
messages_both c [] bs = refl
messages_both c (a ∷ asks) bs =
    ap (λ (w : List Envelope). message_in c a ++ w) (messages_both c asks bs) ∙ sym (append_assoc (message_in c a) (messages_of c asks) (messages_of c bs))

pub handed_both : (c : ℕ) (asks bs : List Asked) → handed_to c (asks ++ bs) ≡ handed_to c asks ++ handed_to c bs
handed_both c [] bs = refl
handed_both c (a ∷ asks) bs = ap (λ (w : List ℕ). handed_in c a ++ w) (handed_both c asks bs) ∙ sym (append_assoc (handed_in c a) (handed_to c asks) (handed_to c bs))

-- what was asked for others changes nothing
pub messages_same : (c : ℕ) (asks bs : List Asked) → messages_of c bs ≡ [] → messages_of c (asks ++ bs) ≡ messages_of c asks
messages_same c asks bs e = messages_both c asks bs ∙ ap (λ (w : List Envelope). messages_of c asks ++ w) e ∙ append-nil (messages_of c asks)

pub handed_same : (c : ℕ) (asks bs : List Asked) → handed_to c bs ≡ [] → handed_to c (asks ++ bs) ≡ handed_to c asks
handed_same c asks bs e = handed_both c asks bs ∙ ap (λ (w : List ℕ). handed_to c asks ++ w) e ∙ append-nil (handed_to c asks)

pub runs_both : (a b c : queues.Bus) (asks bs : List Asked) → Runs a asks b → Runs b bs c → Runs a (asks ++ bs) c
runs_both a b c [] bs r s = subst (λ (w : queues.Bus). Runs w bs c) r s
runs_both a b c (x ∷ asks) bs r s = (r.0, r.1, runs_both r.0 b c asks bs r.2 s)

pub one_run : (a b : queues.Bus) (x : Asked) → Leads a x b → Runs a (x ∷ []) b
one_run a b x l = (b, l, refl)

same_conn : (c : ℕ) → (c == c) ≡ true
same_conn c = elim (eqb_tells c c) [ inl e ↦ e.0 | inr e ↦ absurd (e.1 refl) ]

-- a message that was taken
pub taken_one : (c : ℕ) (e : Envelope) → messages_of c (taking c e ∷ []) ≡ e ∷ []
taken_one c e = rw (same_conn c) refl

pub taking_of_one : (c : ℕ) (e : Envelope) → IsOfOne c (taking c e ∷ [])
taking_of_one c e d n = elim (eqb_tells c d) [ inl s ↦ absurd (n (sym s.1)) | inr s ↦ (rw s.0 refl, refl) ]

-- bytes that were handed out
pub handed_one : (c : ℕ) (bytes : List ℕ) → handed_to c (popping c bytes ∷ []) ≡ bytes
handed_one c bytes = rw (same_conn c) (append-nil bytes)

pub popping_of_one : (c : ℕ) (bytes : List ℕ) → IsOfOne c (popping c bytes ∷ [])
popping_of_one c bytes d n = elim (eqb_tells c d) [ inl s ↦ absurd (n (sym s.1)) | inr s ↦ (refl, rw s.0 refl) ]

-- for one connection, one behind the other
pub both_of_one : (c : ℕ) (asks bs : List Asked) → IsOfOne c asks → IsOfOne c bs → IsOfOne c (asks ++ bs)
both_of_one c asks bs p q d n =
    let a = p d n in
    let b = q d n in
    (messages_same d asks bs b.0 ∙ a.0, handed_same d asks bs b.1 ∙ a.1)
