-- What an end did that is a list of it.
use Rattle.std.proofs.Common.{◌≡◌, ℕ, List, [], ◌∷◌, ◌++◌, map, refl, ap, arith}
use Rattle.atspi_message.specs.Envelope.{Envelope}
use Rattle.atspi_message.specs.Rules.{MeetsRules}
use Rattle.atspi_stream.specs.Stream.{IsParted}
use Rattle.atspi_live_conversation.specs.Speech.{envelopes}
use Rattle.atspi_live_conversation.specs.Talking.{Attends, HandsOut, Takes}
use Rattle.atspi_live_examples.specs.conversation.Logs.{Logs, call, fresh}

pub none_some : (e : Envelope) (es : List Envelope) → [] ≡ e ∷ es → ⊥
none_some e es h = cc

-- lists of messages differ where their numbers do
pub serials : List Envelope → List ℕ
serials es = map (λ (e : Envelope). e.serial) es

pub same_serials : (es fs : List Envelope) → es ≡ fs → map (λ (e : Envelope). e.serial) es ≡ map (λ (e : Envelope). e.serial) fs
same_serials es fs h = ap (λ (es : List Envelope). map (λ (e : Envelope). e.serial) es) h

pub takes_one : (took said : List Envelope) (e : Envelope) → Takes Logs (took, said) (took ++ e ∷ [], said) e
takes_one took said e took' said' s = (ap (λ (es : List Envelope). es ++ e ∷ []) s.0, s.1)

pub hands_one : (took said : List Envelope) (e : Envelope) → HandsOut Logs (took, said) (took, said ++ e ∷ []) e
hands_one took said e took' said' s = (s.0, ap (λ (es : List Envelope). es ++ e ∷ []) s.1)

-- a call with a number meets the rules, and one without does not
pub ruled : (n : ℕ) → (n ≡ 0 → ⊥) → MeetsRules (call n)
ruled n numbered = record {
  typed = λ e. omega (arith, e);
  required = record { call = λ _. (refl, refl); return_ = λ e. absurd (omega (arith, e)); error = λ e. absurd (omega (arith, e)); signal = λ e. absurd (omega (arith, e)) };
  numbered = numbered;
  replies = tt;
  body = tt;
}

pub not_ruled : MeetsRules (call 0) → ⊥
not_ruled m = m.numbered refl

-- it took no messages where it is as before
pub none_of : (messages : List (Envelope × List ℕ)) → [] ≡ [] ++ envelopes messages → messages ≡ []
none_of [] h = refl
none_of (m ∷ messages) h = absurd cc

pub nothing_attended : (held rest : List ℕ) (a : Attends Logs held rest fresh fresh) → a.messages ≡ []
nothing_attended held rest a = none_of a.messages (a.took [] [] (refl, refl)).0

pub held_still : (held rest : List ℕ) → Attends Logs held rest fresh fresh → held ≡ rest
held_still held rest a = by a.messages (nothing_attended held rest a) a.parted
  where
    by : (messages : List (Envelope × List ℕ)) → messages ≡ [] → IsParted held messages rest → held ≡ rest
    by [] e p = p.parted
    by (m ∷ messages) e p = absurd cc
