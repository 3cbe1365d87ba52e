-- WHAT AN APPLICATION DOES with a message that it takes, in the five forms that there are: it answers a call, it heeds a signal, it ignores it, its start goes on, or its start ends.
use Rattle.std.proofs.Common.{◌≡◌, ◌⊎◌, inl, inr, ℕ, Bool, true, false, List, [], ◌∷◌, Option, None, Some, refl, sym, ap, ◌∙◌, subst, arith, is_some}
use Rattle.std.specs.Prelude.{◌==◌, ◌&&◌, ◌||◌, if◌then◌else◌}
use Rattle.std.proofs.lemmas.Bool.{eqb-true, eq-eqb}
use Rattle.atspi_message.specs.Envelope.{Envelope}
use Rattle.atspi_protocol.specs.exporting.Exporter.{StartCall, hello, Phase, new, awaits, over, Exporter}
use Rattle.atspi_protocol.specs.exporting.Starting.{awaited, is_number, goes_on, ends_start}
use Rattle.atspi_protocol.specs.exporting.Taking.{app_takes, takes_other, takes_call, takes_signal, called}
use Rattle.atspi_trace_laws.proofs.OfOrder.Parties.{no_none, same_some, false_true}
use Rattle.atspi_trace_caches.proofs.OfSettled.ReplyingWelcome.{IsWelcome}

-- no call of its start is answered by a return
abbrev pub AwaitsNot : Exporter → Envelope → Type 0
AwaitsNot s m = (call : StartCall) (n : ℕ) → s.phase ≡ awaits call n → (m.kind == 2 && is_number m.reply n) ≡ false

pub data Took (s : Exporter) (m : Envelope) (t : Exporter) : Type 0 where
  answers_it : (name caller : List ℕ) → s.name ≡ Some name → m.kind ≡ 1 → m.sender ≡ Some caller → t ≡ called s name caller m → Took s m t
  heeds_it : (name : List ℕ) → s.name ≡ Some name → m.kind ≡ 4 → t ≡ takes_signal s m → Took s m t
  ignores_it : (m.kind ≡ 4 → ⊥) → (m.kind ≡ 1 → m.sender ≡ None) → AwaitsNot s m → t ≡ s → Took s m t
  starts_on : (call : StartCall) (n : ℕ) → s.phase ≡ awaits call n → m.kind ≡ 2 → m.reply ≡ Some n → t ≡ goes_on s call m.body → Took s m t
  ends_so : (call : StartCall) (n : ℕ) → s.phase ≡ awaits call n → m.kind ≡ 3 → m.reply ≡ Some n → t ≡ ends_start s → Took s m t

-- who takes something has its name, or takes the return to its Hello
abbrev pub IsReady : Exporter → Envelope → Type 0
IsReady s m = (is_some s.name ≡ true) ⊎ ((s.phase ≡ awaits hello 1) × IsWelcome m)

one_four : (n : ℕ) → n ≡ 1 → n ≡ 4 → ⊥
one_four n h g = absurd (omega (arith, h, g))

module _ (s : Exporter) (m : Envelope) (ready : IsReady s m) where
  -- where no call of its start is answered it has its name
  awaits_not : awaited s.phase m ≡ None → AwaitsNot s m
  awaits_not none call n at = by (m.kind == 2) (m.kind == 3) (is_number m.reply n) (sym (ap (λ p. awaited p m) at) ∙ none)
    where
      by : (x y z : Bool) → (if (x || y) && z then Some call else None) ≡ None → (x && z) ≡ false
      by true y true h = absurd (no_none call (sym h))
      by true y false h = refl
      by false y z h = refl

  welcome_waits : s.phase ≡ awaits hello 1 → IsWelcome m → awaited s.phase m ≡ None → ⊥
  welcome_waits at w none = by (m.kind == 2) (m.kind == 3) (is_number m.reply 1) (ap (λ n. n == 2) w.two) (ap (λ o. is_number o 1) w.reply) (sym (ap (λ p. awaited p m) at) ∙ none)
    where
      by : (x y z : Bool) → x ≡ true → z ≡ true → (if (x || y) && z then Some hello else None) ≡ None → ⊥
      by true y true h g k = no_none hello (sym k)
      by true y false h g k = false_true g
      by false y z h g k = false_true h

  its_name : awaited s.phase m ≡ None → (o : Option (List ℕ)) → s.name ≡ o → is_some o ≡ true
  its_name none o is = by ready
    where
      by : IsReady s m → is_some o ≡ true
      by (inl h) = ap is_some (sym is) ∙ h
      by (inr h) = absurd (welcome_waits h.0 h.1 none)

  call_took : awaited s.phase m ≡ None → (name : List ℕ) → s.name ≡ Some name → m.kind ≡ 1 → (o : Option (List ℕ)) → m.sender ≡ o → Took s m (takes_call s name m)
  call_took none name is one None h =
      let same : takes_call s name m ≡ s = rw h refl in
      ignores_it (one_four m.kind one) (λ k. h) (awaits_not none) same
  call_took none name is one (Some caller) h =
      let same : takes_call s name m ≡ called s name caller m = rw h refl in
      answers_it name caller is one h same

  named_took : awaited s.phase m ≡ None → (name : List ℕ) → s.name ≡ Some name → (x : Bool) → (m.kind == 1) ≡ x → (y : Bool) → (m.kind == 4) ≡ y → Took s m (if x then takes_call s name m else if y then takes_signal s m else s)
  named_took none name is true h y g = call_took none name is (eqb-true m.kind 1 h) m.sender refl
  named_took none name is false h true g = heeds_it name is (eqb-true m.kind 4 g) refl
  named_took none name is false h false g =
      ignores_it (λ k. false_true (sym g ∙ eq-eqb m.kind 4 k)) (λ k. absurd (false_true (sym h ∙ eq-eqb m.kind 1 k))) (awaits_not none) refl

  other_took : awaited s.phase m ≡ None → (o : Option (List ℕ)) → s.name ≡ o → Took s m (takes_other s o m)
  other_took none None is = absurd (false_true (its_name none None is))
  other_took none (Some name) is = named_took none name is (m.kind == 1) refl (m.kind == 4) refl

  -- the call that it answers
  record Waits (call : StartCall) : Type 0 where
    serial : ℕ
    phase : s.phase ≡ awaits call serial
    reply : m.reply ≡ Some serial
    kinds : (m.kind == 2 || m.kind == 3) ≡ true

  numbered_reply : (o : Option ℕ) (serial : ℕ) → is_number o serial ≡ true → o ≡ Some serial
  numbered_reply None serial h = absurd (false_true h)
  numbered_reply (Some n) serial h = ap Some (eqb-true n serial h)

  waiting : (p : Phase) (call : StartCall) → s.phase ≡ p → awaited p m ≡ Some call → Waits call
  waiting new call h g = absurd (no_none call g)
  waiting over call h g = absurd (no_none call g)
  waiting (awaits other serial) call h g = at (m.kind == 2 || m.kind == 3) refl (is_number m.reply serial) refl g
    where
      at : (a : Bool) → (m.kind == 2 || m.kind == 3) ≡ a → (b : Bool) → is_number m.reply serial ≡ b → (if a && b then Some other else None) ≡ Some call → Waits call
      at true x true y r = record { serial = serial; phase = h ∙ ap (λ c. awaits c serial) (same_some other call r); reply = numbered_reply m.reply serial y; kinds = x }
      at true x false y r = absurd (no_none call r)
      at false x b y r = absurd (no_none call r)

  three : (n : ℕ) → (n == 2 || n == 3) ≡ true → (n == 2) ≡ false → n ≡ 3
  three n h g = eqb-true n 3 (by (n == 2) (n == 3) g h)
    where
      by : (a b : Bool) → a ≡ false → (a || b) ≡ true → b ≡ true
      by true b q r = absurd (false_true (sym q))
      by false b q r = r

  started_took : (call : StartCall) → Waits call → (b : Bool) → (m.kind == 2) ≡ b → Took s m (if b then goes_on s call m.body else ends_start s)
  started_took call x true h = starts_on call x.serial x.phase (eqb-true m.kind 2 h) x.reply refl
  started_took call x false h = ends_so call x.serial x.phase (three m.kind x.kinds h) x.reply refl

  pub took : Took s m (app_takes s m)
  took = by (awaited s.phase m) refl
    where
      by : (o : Option StartCall) → awaited s.phase m ≡ o → Took s m (app_takes s m)
      by None h = let it : Took s m (takes_other s s.name m) = other_took h s.name refl in rw h it
      by (Some call) h = let it : Took s m (if m.kind == 2 then goes_on s call m.body else ends_start s) = started_took call (waiting s.phase call refl h) (m.kind == 2) refl in rw h it
