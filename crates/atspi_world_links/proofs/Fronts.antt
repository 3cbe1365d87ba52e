-- Where a message stands at the front of bytes.
use Rattle.std.proofs.Common.{◌≡◌, ℕ, ◌<◌, List, ◌++◌, length, take, subst, sym, ap, ◌∙◌, arith}
use Rattle.atspi_message.specs.Envelope.{Envelope}
use Rattle.atspi_message.specs.Bytes.{IsMessage}
use Rattle.atspi_message.specs.Front.{length_in, WrongFront, IsFirst, IsSoundFront}
use Rattle.atspi_message.proofs.ParsingLaws.{none_in_front}
use Rattle.atspi_stream.proofs.StreamLaws.{Begun, begun}

module _ (e : Envelope) (held own rest : List ℕ) (is : IsMessage e own) (front : held ≡ own ++ rest) where
  b : Begun held own rest
  b = begun e held own rest is front

  pub not_short : length held < 16 → ⊥
  not_short h = omega (arith, h, b.long)

  pub not_wrong : (first : List ℕ) (place reason : ℕ) → first ≡ take 16 held → IsFirst (WrongFront first) place reason → ⊥
  not_wrong first place reason same f = none_in_front first place reason (subst IsSoundFront (sym same) b.sound) f.there

  pub states : (first : List ℕ) → first ≡ take 16 held → length_in first ≡ length own
  states first same = ap length_in same ∙ b.whole

  pub not_less : (first : List ℕ) (len : ℕ) → first ≡ take 16 held → len ≡ length_in first → length held < len → ⊥
  not_less first len same is_ less = omega (arith, less, is_, states first same, b.enough, b.whole)

  pub own_bytes : (first : List ℕ) (len : ℕ) → first ≡ take 16 held → len ≡ length_in first → IsMessage e (take len held)
  own_bytes first len same is_ =
      let all : take len held ≡ own = ap (λ n. take n held) (is_ ∙ ap length_in same) ∙ b.bytes_are in
      subst (IsMessage e) (sym all) is
