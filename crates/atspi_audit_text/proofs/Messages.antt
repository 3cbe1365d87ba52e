-- The message that bytes are, and the line that tells them.
use Rattle.std.proofs.Common.{◌≡◌, ℕ, ◌<◌, Bool, true, false, not, eqb, List, [], ◌++◌, length, take, Result, Ok, is_ok, refl, sym, ap, subst, ◌∙◌, arith, true≢false}
use Rattle.std.proofs.lemmas.Bool.Decides.{Decides-eqb}
use Rattle.std.proofs.lemmas.Slice.Eq.{slice_eq-Decides}
use Rattle.std.specs.Cmp.Lexicographic.{pointwise}
use Rattle.std.proofs.lemmas.List.{append-nil}
use Rattle.std.specs.Prelude.{codes}
use Rattle.hex.specs.Hex.{IsBytes, decode_of, encode_lower}
use Rattle.hex.specs.declared.error.FromHexError.{FromHexError}
use Rattle.hex.proofs.HexLemmas.{decode_of-encode_lower, decode_of-ok}
use Rattle.atspi_message.specs.Envelope.{Envelope}
use Rattle.atspi_message.specs.Bytes.{FitsWire, IsMessage, rising_fields, written}
use Rattle.atspi_message.specs.Front.{input_in, length_in, WrongFront, IsFirst, IsSoundFront}
use Rattle.atspi_message.proofs.IsSpelled.{message_complete}
use Rattle.atspi_message.proofs.ParsingLaws.{none_in_front, read_once}
use Rattle.atspi_message.proofs.ReadingLaws.{read_laws}
use Rattle.atspi_message.proofs.Rising.{written_is}
use Rattle.atspi_stream.proofs.StreamLaws.{Begun, begun}
use Rattle.atspi_trace_texts.specs.InTrace.{IsWritable}
use Rattle.atspi_trace_texts.specs.TraceText.{wire_line}

-- bytes are one message
pub one_message : (e d : Envelope) (bytes : List ℕ) → IsBytes bytes → IsMessage e bytes → IsMessage d bytes → e ≡ d
one_message e d bytes are p q =
    let laws = read_laws (input_in bytes) are in
    let a = message_complete bytes e laws p in
    let b = message_complete bytes d laws q in
    read_once bytes e d a.found b.found e.body d.body a.read_ b.read_ a.describes b.describes

pub is_message : (e : Envelope) (bytes : List ℕ) → IsWritable e → bytes ≡ written e → IsMessage e bytes
is_message e bytes w same = subst (IsMessage e) (sym same) (written_is e w.meets w.named w.fits)

pub one_written : (e d : Envelope) → IsWritable e → IsWritable d → written e ≡ written d → e ≡ d
one_written e d p q same = one_message e d (written e) p.bytes (is_message e (written e) p refl) (is_message d (written e) q same)

-- what the first 16 bytes of a message state
module _ (e : Envelope) (bytes : List ℕ) (is : IsMessage e bytes) where
  b : Begun bytes bytes []
  b = begun e bytes bytes [] is (sym (append-nil bytes))

  pub not_short : length bytes < 16 → ⊥
  not_short h = omega (arith, h, b.long)

  pub not_wrong : (first : List ℕ) (place reason : ℕ) → first ≡ take 16 bytes → IsFirst (WrongFront first) place reason → ⊥
  not_wrong first place reason same f = none_in_front first place reason (subst IsSoundFront (sym same) b.sound) f.there

  pub states : (first : List ℕ) (len : ℕ) → first ≡ take 16 bytes → len ≡ length_in first → len ≡ length bytes
  states first len same l = l ∙ ap length_in same ∙ b.whole

-- digits
same_value : {A E : Type 0} (a b : A) → ◌≡◌ {A = Result A E} (Ok a) (Ok b) → a ≡ b
same_value a b e = cc

pub digits_once : (digits bytes found : List ℕ) → IsBytes bytes → digits ≡ encode_lower bytes → decode_of digits ≡ Ok found → bytes ≡ found
digits_once digits bytes found are e d = same_value {E = FromHexError} bytes found (sym (decode_of-encode_lower bytes are) ∙ ap decode_of (sym e) ∙ d)

pub not_refused : (digits bytes : List ℕ) → IsBytes bytes → digits ≡ encode_lower bytes → is_ok (decode_of digits) ≡ false → ⊥
not_refused digits bytes are e d = true≢false (sym (ap is_ok (decode_of-encode_lower bytes are)) ∙ sym (ap (λ x. is_ok (decode_of x)) e) ∙ d)

pub in_lower : (digits bytes found lower : List ℕ) → IsBytes bytes → digits ≡ encode_lower bytes → decode_of digits ≡ Ok found → lower ≡ encode_lower found → lower ≡ digits
in_lower digits bytes found lower are e d l = l ∙ ap encode_lower (sym (digits_once digits bytes found are e d)) ∙ sym e

pub are_bytes : (digits found : List ℕ) → decode_of digits ≡ Ok found → IsBytes found
are_bytes digits found d = (decode_of-ok digits found d).3

-- `!=` of two texts
pub same_if : (a b : List ℕ) (r : Bool) → r ≡ not (pointwise eqb a b) → r ≡ false → a ≡ b
same_if a b r e f = (slice_eq-Decides Decides-eqb a b (pointwise eqb a b) refl).0 (is_true (pointwise eqb a b) (sym e ∙ f))
  where
    is_true : (x : Bool) → not x ≡ false → x ≡ true
    is_true true h = refl
    is_true false h = sym h

pub not_same : (a b : List ℕ) (r : Bool) → r ≡ not (pointwise eqb a b) → r ≡ true → a ≡ b → ⊥
not_same a b r e f same = true≢false (sym f ∙ e ∙ ap not ((slice_eq-Decides Decides-eqb a b (pointwise eqb a b) refl).1 same))

pub same_digits : (line digits bytes : List ℕ) → line ≡ codes "= " ++ digits → line ≡ wire_line bytes → digits ≡ encode_lower bytes
same_digits line digits bytes e f = let h : codes "= " ++ digits ≡ codes "= " ++ encode_lower bytes = sym e ∙ f in cc

pub hex_line_once : (a b : List ℕ) → IsBytes a → IsBytes b → wire_line a ≡ wire_line b → a ≡ b
hex_line_once a b p q e =
    let h : encode_lower a ≡ encode_lower b = cc in
    same_value {E = FromHexError} a b (sym (decode_of-encode_lower a p) ∙ ap decode_of h ∙ decode_of-encode_lower b q)

-- a message with these bytes is the one that was read
pub is_same : (e d : Envelope) (bytes : List ℕ) → IsBytes bytes → IsWritable e → bytes ≡ written e → IsMessage d bytes → (d ≡ e) × FitsWire d (rising_fields d) × (bytes ≡ written d)
is_same e d bytes are w same m =
    let one : d ≡ e = one_message d e bytes are m (is_message e bytes w same) in
    (one, subst (λ (x : Envelope). FitsWire x (rising_fields x)) (sym one) w.fits, same ∙ ap written (sym one))

-- and it can be written
pub can_be_written : (d : Envelope) (bytes : List ℕ) → IsBytes bytes → IsMessage d bytes → FitsWire d (rising_fields d) → bytes ≡ written d → IsWritable d
can_be_written d bytes are m fits same = record { meets = m.meets; named = m.named; fits = fits; bytes = subst IsBytes same are }
