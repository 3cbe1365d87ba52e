-- A message that is not answered is heeded, and a call that is answered is what the definitions call so.
use Rattle.std.proofs.Common.{◌≡◌, ℕ, Bool, true, false, List, Option, Some, None, refl, sym, ap, ◌∙◌, subst}
use Rattle.std.specs.Prelude.{◌==◌, ◌&&◌, not, is_some}
use Rattle.std.proofs.lemmas.Bool.{eqb-true, eqb-false}
use Rattle.atspi_message.specs.Envelope.{Envelope}
use Rattle.atspi_protocol.specs.exporting.Exporter.{StartCall, Exporter}
use Rattle.atspi_protocol.specs.exporting.Starting.{awaited, ends_start}
use Rattle.atspi_protocol.specs.exporting.Taking.{app_takes, takes_other, takes_call, takes_signal, called}
use Rattle.atspi_app_known.specs.declared.starting.waiting.StartStep.{StartStep}
use Rattle.atspi_app_known.specs.starting.KnownView.{call_of, call_or_none}
use Rattle.atspi_app_known.specs.heeding.Heeding.{is_own, is_call, is_answered, heeds, heeds_own, heeds_other}

-- a call without a sender is ignored
no_sender : (s : Exporter) (name : List ℕ) (e : Envelope) (o : Option (List ℕ)) → e.sender ≡ o → is_some o ≡ false → takes_call s name e ≡ s
no_sender s name e None is h = rw is refl
no_sender s name e (Some caller) is h = cc

no_signal : (s : Exporter) (e : Envelope) → (e.kind == 1) ≡ true → heeds_other s e ≡ s
no_signal s e h = by (s.name) (e.kind == 4) refl refl
  where
    four : (e.kind == 4) ≡ true → ⊥
    four f = let a = eqb-true e.kind 1 h in let b = eqb-true e.kind 4 f in let x : 1 ≡ 4 = sym a ∙ b in cc

    by : (o : Option (List ℕ)) (b : Bool) → s.name ≡ o → (e.kind == 4) ≡ b → heeds_other s e ≡ s
    by None b n f = rw n refl
    by (Some name) true n f = absurd (four f)
    by (Some name) false n f = rw n (rw f refl)

not_call : (name : List ℕ) (e : Envelope) → (is_some (Some name) && (e.kind == 1) && is_some e.sender) ≡ false → (e.kind == 1) ≡ true → is_some e.sender ≡ false
not_call name e h k = sym (ap (λ b. b && is_some e.sender) k) ∙ h

other : (s : Exporter) (e : Envelope) (o : Option (List ℕ)) → s.name ≡ o → is_call s e ≡ false → takes_other s s.name e ≡ heeds_other s e
other s e None n h = rw n refl
other s e (Some name) n h =
    ap (λ x. takes_other s x e) n
    ∙ by (e.kind == 1) refl
  where
    h' : (is_some (Some name) && (e.kind == 1) && is_some e.sender) ≡ false
    h' = sym (ap (λ (x : Option (List ℕ)). is_some x && (e.kind == 1) && is_some e.sender) n) ∙ h

    by : (b : Bool) → (e.kind == 1) ≡ b → takes_other s (Some name) e ≡ heeds_other s e
    by true k = rw k (no_sender s name e e.sender refl (not_call name e h' k)) ∙ sym (no_signal s e k)
    by false k = rw k (rw n refl)

pub heeded : (s : Exporter) (e : Envelope) → is_answered s e ≡ false → app_takes s e ≡ heeds s e
heeded s e h = by (awaited s.phase e) refl
  where
    by : (o : Option StartCall) → awaited s.phase e ≡ o → app_takes s e ≡ heeds s e
    by (Some call) a = rw a refl
    by None a = rw a (other s e s.name refl (sym (ap (λ (x : Option StartCall). not (is_own x) && is_call s e) a) ∙ h))

-- a call that is answered
pub record IsAnswered (s : Exporter) (e : Envelope) : Type 0 where
  pub name : List ℕ
  pub caller : List ℕ
  pub named : s.name ≡ Some name
  pub sent : e.sender ≡ Some caller
  pub taken : app_takes s e ≡ called s name caller e

pub answered : (s : Exporter) (e : Envelope) → is_answered s e ≡ true → IsAnswered s e
answered s e h = by_phase (awaited s.phase e) refl s.name refl (e.kind == 1) refl e.sender refl
  where
    sent_by : (name caller : List ℕ) → e.sender ≡ Some caller → takes_call s name e ≡ called s name caller e
    sent_by name caller c = rw c refl

    by_kind : (name : List ℕ) → (e.kind == 1) ≡ true → takes_other s (Some name) e ≡ takes_call s name e
    by_kind name k = rw k refl

    un_awaited : awaited s.phase e ≡ None → app_takes s e ≡ takes_other s s.name e
    un_awaited a = rw a refl

    call_by : (o : Option StartCall) → awaited s.phase e ≡ o → (not (is_own o) && is_call s e) ≡ true
    call_by o a = sym (ap (λ (x : Option StartCall). not (is_own x) && is_call s e) a) ∙ h

    by_phase : (o : Option StartCall) → awaited s.phase e ≡ o → (n : Option (List ℕ)) → s.name ≡ n → (b : Bool) → (e.kind == 1) ≡ b → (c : Option (List ℕ)) → e.sender ≡ c → IsAnswered s e
    by_phase (Some call) a n sn b k c sc = absurd (let x : false ≡ true = call_by (Some call) a in cc)
    by_phase None a None sn b k c sc =
        absurd (let x : false ≡ true = sym (ap (λ (n : Option (List ℕ)). is_some n && (e.kind == 1) && is_some e.sender) sn) ∙ call_by None a in cc)
    by_phase None a (Some name) sn false k c sc =
        absurd (let x : false ≡ true = sym (ap (λ (n : Option (List ℕ)). is_some n && (e.kind == 1) && is_some e.sender) sn ∙ ap (λ b. b && is_some e.sender) k) ∙ call_by None a in cc)
    by_phase None a (Some name) sn true k None sc =
        absurd (let x : false ≡ true = sym (ap (λ (n : Option (List ℕ)). is_some n && (e.kind == 1) && is_some e.sender) sn ∙ ap (λ b. b && is_some e.sender) k ∙ ap is_some sc) ∙ call_by None a in cc)
    by_phase None a (Some name) sn true k (Some caller) sc = record {
      name = name;
      caller = caller;
      named = sn;
      sent = sc;
      taken = un_awaited a ∙ ap (λ x. takes_other s x e) sn ∙ by_kind name k ∙ sent_by name caller sc;
    }

-- what is awaited, as it is kept
pub awaited_is_own : (s : Exporter) (e : Envelope) (o : Option StartStep) (step : StartStep) → call_or_none o ≡ awaited s.phase e → o ≡ Some step → false ≡ is_answered s e
awaited_is_own s e o step a is = sym (ap (λ (x : Option StartCall). not (is_own x) && is_call s e) (sym a ∙ ap call_or_none is))

pub not_awaited : (s : Exporter) (e : Envelope) (o : Option StartStep) (b : Bool) → call_or_none o ≡ awaited s.phase e → o ≡ None → b ≡ is_call s e → b ≡ is_answered s e
not_awaited s e o b a none h = h ∙ sym (ap (λ (x : Option StartCall). not (is_own x) && is_call s e) (sym a ∙ ap call_or_none none))

pub own_heeded : (s : Exporter) (e : Envelope) (o : Option StartStep) (step : StartStep) → call_or_none o ≡ awaited s.phase e → o ≡ Some step → heeds s e ≡ heeds_own s (call_of step) e
own_heeded s e o step a is = let h : awaited s.phase e ≡ Some (call_of step) = sym a ∙ ap call_or_none is in rw h refl

pub other_heeded : (s : Exporter) (e : Envelope) (o : Option StartStep) → call_or_none o ≡ awaited s.phase e → o ≡ None → heeds s e ≡ heeds_other s e
other_heeded s e o a none = let h : awaited s.phase e ≡ None = sym a ∙ ap call_or_none none in rw h refl

eq_test : (a b : ℕ) → a ≡ b → (a == b) ≡ true
eq_test a b e = by (a == b) refl
  where
    by : (r : Bool) → (a == b) ≡ r → r ≡ true
    by true h = refl
    by false h = absurd (eqb-false a b h e)

ne_test : (a b : ℕ) → (a ≡ b → ⊥) → (a == b) ≡ false
ne_test a b ne = by (a == b) refl
  where
    by : (r : Bool) → (a == b) ≡ r → r ≡ false
    by true h = absurd (ne (eqb-true a b h))
    by false h = refl

pub own_failed : (s : Exporter) (call : StartCall) (e : Envelope) → (e.kind ≡ 2 → ⊥) → heeds_own s call e ≡ ends_start s
own_failed s call e k = rw (ne_test e.kind 2 k) refl

signal_by : (s : Exporter) (e : Envelope) → (is_some s.name && (e.kind == 4)) ≡ true → heeds_other s e ≡ takes_signal s e
signal_by s e k = rw k refl

pub signal_heeded : (s : Exporter) (e : Envelope) → is_some s.name ≡ true → e.kind ≡ 4 → heeds_other s e ≡ takes_signal s e
signal_heeded s e n k = signal_by s e (ap (λ b. b && (e.kind == 4)) n ∙ eq_test e.kind 4 k)
