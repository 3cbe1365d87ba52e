-- The signature of a known field, beside that of any variant.
use Rattle.std.proofs.Common.{◌≡◌, ℕ, zero, suc, ◌+◌, ◌-◌, ◌<◌, ◌≤◌, Bool, true, false, cond, eqb, ltb, List, [], ◌∷◌, length, get_or, take, drop, Result, Ok, Err, refl, sym, ap, subst, ◌∙◌, arith, inl, inr, ◌⊎◌, lit≤}
use Rattle.std.specs.Prelude.{◌==◌, ◌&&◌, ◌≢◌}
use Rattle.std.proofs.lemmas.Bool.{eqb-true, eqb-false}
use Rattle.atspi_types.specs.Kinds.{Kind, Kinds, variant, no_kinds, kind, IsLawful}
use Rattle.atspi_types.specs.Signatures.{signature_bytes, IsSignature}
use Rattle.atspi_types.specs.Data.{Data, variant_data}
use Rattle.atspi_types.specs.declared.fault.Fault.{Fault}
use Rattle.atspi_marshal.specs.declared.input.Bound.{Bound}
use Rattle.atspi_marshal.specs.Input.{Input, Stands, byte_in, slice_in, aligned}
use Rattle.atspi_types.specs.SignatureReading.{signature_in}
use Rattle.atspi_marshal.specs.Spelling.{single}
use Rattle.atspi_marshal.specs.Faults.{IsInside, Wrong, short_in}
use Rattle.atspi_types.specs.SignatureFaults.{Before}
use Rattle.atspi_marshal.specs.Reading.{◌>>=◌, bad, read, level, single_at, short_at, variant_body_at, variant_with, inner_at, as_variant}
use Rattle.atspi_marshal.proofs.Places.{IsValid, bind_ok, ok_is, passed, passed_not, length-slice, Stands-byte, aligned-one}
use Rattle.atspi_message.specs.declared.code.Code.{Code}
use Rattle.atspi_message.specs.declared.code.Code.TheVariants.{Path, Interface, Member, Error, Reply, Destination, Sender, Signature, Descriptors}
use Rattle.atspi_message.specs.Codes.{number_of, kind_for, letter_of}
use Rattle.atspi_message.specs.Bytes.{Field}
use Rattle.atspi_message.specs.Faults.{IsTyped, WrongAlone, other_type as other_is}
use Rattle.atspi_message.specs.inner.Reading.{other_type, typed_body_at, typed_at}
use Rattle.atspi_message.proofs.Room.{ShortFits, short_cases, short_in_room, short_out_of_room}
use Rattle.atspi_message.proofs.Told.{ReadLaws, Alone, Told, told_is, failed, err_is}

pub inside_from : (i : Input) (b : Bound) (at : ℕ) → ShortFits i b at → IsInside i variant b at
inside_from i b at f = let is = aligned-one at in
    let P : ℕ → Type 0 = λ p. (p + 1 ≤ b.end) × (p + 2 + byte_in i p ≤ b.end) in subst P (sym is) (f.front, f.whole)

pub inside_to : (i : Input) (b : Bound) (at : ℕ) → IsInside i variant b at → ShortFits i b at
inside_to i b at f = let is = aligned-one at in
    let P : ℕ → Type 0 = λ p. (p + 1 ≤ b.end) × (p + 2 + byte_in i p ≤ b.end) in
    let g = subst P is f in record { front = g.0; whole = g.1 }

-- reading a variant at a place where its signature is inside
pub variant_here : (i : Input) (levels : ℕ) (b : Bound) (at : ℕ) → ShortFits i b at → read i (suc levels) variant b at ≡ variant_with false (read i levels) i b at (signature_in (short_in i at))
unfolding read level single_at short_at variant_body_at
variant_here i levels b at fits = short_in_room i b at (variant_body_at false (read i levels) i b) fits

pub variant_out : (i : Input) (levels : ℕ) (b : Bound) (at : ℕ) → at ≤ b.end → (ShortFits i b at → ⊥) → read i (suc levels) variant b at ≡ bad at b.reason
unfolding read level single_at short_at variant_body_at
variant_out i levels b at le no_room = short_out_of_room i b at (variant_body_at false (read i levels) i b) le no_room

letter : (c : Code) → signature_bytes (single (kind_for c)) ≡ letter_of c ∷ []
letter Path = refl
letter Interface = refl
letter Member = refl
letter Error = refl
letter Reply = refl
letter Destination = refl
letter Sender = refl
letter Signature = refl
letter Descriptors = refl

letter_lawful : (c : Code) → IsSignature (single (kind_for c))
letter_lawful Path = record { lawful = (tt, tt); fits = record { short = lit≤ tt; arrays = lit≤ tt; structs = lit≤ tt } }
letter_lawful Interface = record { lawful = (tt, tt); fits = record { short = lit≤ tt; arrays = lit≤ tt; structs = lit≤ tt } }
letter_lawful Member = record { lawful = (tt, tt); fits = record { short = lit≤ tt; arrays = lit≤ tt; structs = lit≤ tt } }
letter_lawful Error = record { lawful = (tt, tt); fits = record { short = lit≤ tt; arrays = lit≤ tt; structs = lit≤ tt } }
letter_lawful Reply = record { lawful = (tt, tt); fits = record { short = lit≤ tt; arrays = lit≤ tt; structs = lit≤ tt } }
letter_lawful Destination = record { lawful = (tt, tt); fits = record { short = lit≤ tt; arrays = lit≤ tt; structs = lit≤ tt } }
letter_lawful Sender = record { lawful = (tt, tt); fits = record { short = lit≤ tt; arrays = lit≤ tt; structs = lit≤ tt } }
letter_lawful Signature = record { lawful = (tt, tt); fits = record { short = lit≤ tt; arrays = lit≤ tt; structs = lit≤ tt } }
letter_lawful Descriptors = record { lawful = (tt, tt); fits = record { short = lit≤ tt; arrays = lit≤ tt; structs = lit≤ tt } }

-- a signature of one byte, and its types
one_byte : (i : Input) (b : Bound) (at : ℕ) → IsValid i b → ShortFits i b at → byte_in i at ≡ 1 → short_in i at ≡ byte_in i (at + 1) ∷ []
one_byte i b at valid fits one = ap (λ (n : ℕ). slice_in i (at + 1) n) one ∙ (Stands-byte i (at + 1) (omega (arith, fits.whole, valid.long))).1

pub IsTyped-types : (i : Input) (b : Bound) (at : ℕ) (c : Code) → ReadLaws i → IsValid i b → IsTyped i b c at → signature_in (short_in i at) ≡ Ok (kind_for c ∷ [])
IsTyped-types i b at c laws valid typed =
    let short = one_byte i b at valid (inside_to i b at typed.0) typed.1 ∙ ap (λ (n : ℕ). n ∷ []) typed.2 ∙ sym (letter c) in
    ap signature_in short ∙ laws.signature_again (kind_for c ∷ []) (letter_lawful c)

-- the other way: a signature that is that of the field has one byte
types-IsTyped : (i : Input) (b : Bound) (at : ℕ) (c : Code) → ReadLaws i → IsValid i b → ShortFits i b at → signature_in (short_in i at) ≡ Ok (kind_for c ∷ []) → (byte_in i at ≡ 1) × (byte_in i (at + 1) ≡ letter_of c)
types-IsTyped i b at c laws valid fits e =
    let short : short_in i at ≡ letter_of c ∷ [] = sym ((laws.signature_is (short_in i at) (kind_for c ∷ []) e).0) ∙ letter c in
    let one : byte_in i at ≡ 1 = sym (length-slice i (at + 1) (byte_in i at) (omega (arith, fits.whole, valid.long))) ∙ ap length short in
    let same : byte_in i (at + 1) ∷ [] ≡ letter_of c ∷ [] = sym (one_byte i b at valid fits one) ∙ short in
    (one, cc)

-- the variant of a field with its type
pub typed_value : (i : Input) (levels : ℕ) (b : Bound) (at : ℕ) (c : Code) → ReadLaws i → IsValid i b → IsTyped i b c at → byte_in i (at + 2) ≡ 0
    → read i (suc levels) variant b at ≡ (read i levels (kind_for c) b (at + 3) >>= as_variant (kind_for c))
unfolding inner_at
typed_value i levels b at c laws valid typed ended =
    let types = IsTyped-types i b at c laws valid typed in
    let one = typed.1 in
    let second : at + 1 + byte_in i at ≡ at + 2 = omega (arith, one) in
    let third : at + 2 + byte_in i at ≡ at + 3 = omega (arith, one) in
    variant_here i levels b at (inside_to i b at typed.0) ∙ rw (types, second, third, ended) refl

-- the tests of a field's type
both : (a b : Bool) → (a && b) ≡ true → (a ≡ true) × (b ≡ true)
both true b e = (refl, e)
both false b e = absurd cc

pub record Typed (i : Input) (b : Bound) (c : Code) (at next : ℕ) : Type 0 where
  pub typed : IsTyped i b c at
  pub ended : byte_in i (at + 2) ≡ 0
  pub is : next ≡ at + 3

other_fails : (p : ℕ) (r : Result (List Kind) Fault) (next : ℕ) → other_type p r ≡ Ok next → ⊥
other_fails p (Ok []) next e = cc
other_fails p (Ok (k ∷ [])) next e = cc
other_fails p (Ok (k ∷ j ∷ ks)) next e = cc
other_fails p (Err f) next e = cc

typed_body_ok : (i : Input) (c : Code) (p next : ℕ) → typed_body_at i c p ≡ Ok next → (byte_in i p ≡ 1) × (byte_in i (p + 1) ≡ letter_of c) × (byte_in i (p + 2) ≡ 0) × (next ≡ p + 3)
unfolding typed_body_at
typed_body_ok i c p next e = split (byte_in i p == 1 && byte_in i (p + 1) == letter_of c) refl e
  where
    split : (t : Bool) → (byte_in i p == 1 && byte_in i (p + 1) == letter_of c) ≡ t → cond t (cond (byte_in i (p + 2) == 0) (Ok (p + 3)) (bad (p + 2) 12)) (other_type p (signature_in (short_in i p))) ≡ Ok next
        → (byte_in i p ≡ 1) × (byte_in i (p + 1) ≡ letter_of c) × (byte_in i (p + 2) ≡ 0) × (next ≡ p + 3)
    split false is e = absurd (other_fails p (signature_in (short_in i p)) next e)
    split true is e =
        let t = both (byte_in i p == 1) (byte_in i (p + 1) == letter_of c) is in
        let g = passed_not (byte_in i (p + 2) == 0) (record { place = p + 2; reason = 12 }) (Ok (p + 3)) next e in
        (eqb-true _ 1 t.0, eqb-true _ (letter_of c) t.1, eqb-true _ 0 g.0, sym (ok_is (p + 3) next g.1))

pub typed_ok : (i : Input) (b : Bound) (c : Code) (at next : ℕ) → at ≤ b.end → typed_at i b c at ≡ Ok next → Typed i b c at next
unfolding typed_at
typed_ok i b c at next le e =
    elim (short_cases i b at) [
      | inl fits ↦
          let g = typed_body_ok i c at next (sym (short_in_room i b at (typed_body_at i c) fits) ∙ e) in
          record { typed = (inside_from i b at fits, g.0, g.1); ended = g.2; is = g.3 }
      | inr no_room ↦ absurd (let clash = sym (short_out_of_room i b at (typed_body_at i c) le no_room) ∙ e in cc)
    ]

-- where the type is another one, what follows stands behind its signature
behind_signature : (i : Input) (levels : ℕ) (b : Bound) (at : ℕ) (k : Kind) (g : Fault) → ReadLaws i → IsValid i b → IsLawful k → ShortFits i b at → variant_with false (read i levels) i b at (Ok (k ∷ [])) ≡ Err g → at < g.place
unfolding inner_at
behind_signature i levels b at k g laws valid lawful fits e = split (byte_in i (at + 1 + byte_in i at) == 0) (read i levels k b (at + 2 + byte_in i at)) refl e
  where
    split : (t : Bool) (r : Result (Data × ℕ) Fault) → read i levels k b (at + 2 + byte_in i at) ≡ r → cond t (r >>= as_variant k) (bad (at + 1 + byte_in i at) 12) ≡ Err g → at < g.place
    split false r is e = let same : record { place = at + 1 + byte_in i at; reason = 12 } ≡ g = err_is _ g e in omega (arith, ap (λ (f : Fault). f.place) same)
    split true (Ok x) is e = absurd cc
    split true (Err h) is e =
        let same : h ≡ g = err_is h g e in
        let wrong = laws.there levels k b (at + 2 + byte_in i at) h lawful valid fits.whole is in
        omega (arith, laws.behind levels k b (at + 2 + byte_in i at) h.place h.reason wrong, ap (λ (f : Fault). f.place) same)

signature_grows : (i : Input) (levels : ℕ) (b : Bound) (at : ℕ) (k : Kind) (x : Data × ℕ) → ReadLaws i → IsValid i b → IsLawful k → ShortFits i b at → variant_with false (read i levels) i b at (Ok (k ∷ [])) ≡ Ok x → at < x.1
unfolding inner_at
signature_grows i levels b at k x laws valid lawful fits e = split (byte_in i (at + 1 + byte_in i at) == 0) (read i levels k b (at + 2 + byte_in i at)) refl e
  where
    split : (t : Bool) (r : Result (Data × ℕ) Fault) → read i levels k b (at + 2 + byte_in i at) ≡ r → cond t (r >>= as_variant k) (bad (at + 1 + byte_in i at) 12) ≡ Ok x → at < x.1
    split false r is e = absurd cc
    split true (Ok y) is e = let same : y.1 ≡ x.1 = cc in omega (arith, (laws.sound levels k b (at + 2 + byte_in i at) y lawful valid is).1, same)
    split true (Err h) is e = absurd cc

abbrev one_type : Kind → Result (List Kind) Fault
one_type k = Ok (k ∷ [])

-- what is told of a field's type is told of the variant, or the type is another one

other_told : (i : Input) (levels : ℕ) (b : Bound) (fs : List Field) (p : ℕ) (c : Code) (f : Fault) (r : Result (List Kind) Fault) → ReadLaws i → IsValid i b → byte_in i p ≡ number_of c → ShortFits i b (p + 1)
    → (byte_in i (p + 1) ≡ 1 → byte_in i (p + 1 + 1) ≡ letter_of c → ⊥) → signature_in (short_in i (p + 1)) ≡ r → other_type (p + 1) r ≡ Err f → Told (WrongAlone i b fs p) (variant_with false (read i levels) i b (p + 1) r) f
other_told i levels b fs p c f (Ok []) laws valid coded fits other is e = inl (ap failed (err_is _ f e))
other_told i levels b fs p c f (Ok (k ∷ [])) laws valid coded fits other is e =
    let same : record { place = p + 1; reason = 29 } ≡ f = err_is _ f e in
    let spelled = laws.signature_is (short_in i (p + 1)) (k ∷ []) is in
    let lawful : IsLawful k = spelled.1.lawful.0 in
    let differs : k ≢ kind_for c = λ eq. (let t = types-IsTyped i b (p + 1) c laws valid fits (is ∙ ap (λ (j : Kind). Ok (j ∷ [])) eq) in other t.0 t.1) in
    let W : Fault → Type 0 = λ g. Told (WrongAlone i b fs p) (variant_with false (read i levels) i b (p + 1) (Ok (k ∷ []))) g in
    subst W same (inr (record {
      there = other_is c k coded (inside_from i b (p + 1) fits) (sym spelled.0) spelled.1 differs;
      before = λ g wrong. inl (behind_signature i levels b (p + 1) k g laws valid lawful fits wrong);
      inside = λ x e. signature_grows i levels b (p + 1) k x laws valid lawful fits e;
    }))
other_told i levels b fs p c f (Ok (k ∷ j ∷ ks)) laws valid coded fits other is e = inl (ap failed (err_is _ f e))
other_told i levels b fs p c f (Err g) laws valid coded fits other is e = inl (ap failed (err_is _ f e))

body_told : (i : Input) (levels : ℕ) (b : Bound) (fs : List Field) (p : ℕ) (c : Code) (f : Fault) → ReadLaws i → IsValid i b → byte_in i p ≡ number_of c → ShortFits i b (p + 1) → typed_body_at i c (p + 1) ≡ Err f
    → Told (WrongAlone i b fs p) (variant_with false (read i levels) i b (p + 1) (signature_in (short_in i (p + 1)))) f
unfolding typed_body_at inner_at
body_told i levels b fs p c f laws valid coded fits e = split (byte_in i (p + 1) == 1) (byte_in i (p + 1 + 1) == letter_of c) (byte_in i (p + 1 + 2) == 0) refl refl refl e
  where
    split : (t u v : Bool) → (byte_in i (p + 1) == 1) ≡ t → (byte_in i (p + 1 + 1) == letter_of c) ≡ u → (byte_in i (p + 1 + 2) == 0) ≡ v
        → cond (t && u) (cond v (Ok (p + 1 + 3)) (bad (p + 1 + 2) 12)) (other_type (p + 1) (signature_in (short_in i (p + 1)))) ≡ Err f
        → Told (WrongAlone i b fs p) (variant_with false (read i levels) i b (p + 1) (signature_in (short_in i (p + 1)))) f
    split true true true t_is u_is v_is e = absurd cc
    split true true false t_is u_is v_is e =
        let one = eqb-true _ 1 t_is in
        let types = IsTyped-types i b (p + 1) c laws valid (inside_from i b (p + 1) fits, one, eqb-true _ (letter_of c) u_is) in
        let second : p + 1 + 1 + byte_in i (p + 1) ≡ p + 1 + 2 = omega (arith, one) in
        inl (rw (types, second, v_is) (ap failed (err_is _ f e)))
    split true false v t_is u_is v_is e = other_told i levels b fs p c f (signature_in (short_in i (p + 1))) laws valid coded fits (λ one same. eqb-false _ (letter_of c) u_is same) refl e
    split false u v t_is u_is v_is e = other_told i levels b fs p c f (signature_in (short_in i (p + 1))) laws valid coded fits (λ one same. eqb-false _ 1 t_is one) refl e

pub typed_told : (i : Input) (levels : ℕ) (b : Bound) (fs : List Field) (p : ℕ) (c : Code) (f : Fault) → ReadLaws i → IsValid i b → byte_in i p ≡ number_of c → p + 1 ≤ b.end → typed_at i b c (p + 1) ≡ Err f → Told (WrongAlone i b fs p) (read i (suc levels) variant b (p + 1)) f
unfolding typed_at
typed_told i levels b fs p c f laws valid coded le e =
    elim (short_cases i b (p + 1)) [
      | inl fits ↦ told_is (WrongAlone i b fs p) _ _ f (variant_here i levels b (p + 1) fits) (body_told i levels b fs p c f laws valid coded fits (sym (short_in_room i b (p + 1) (typed_body_at i c) fits) ∙ e))
      | inr no_room ↦ inl (variant_out i levels b (p + 1) le no_room ∙ ap failed (err_is _ f (sym (short_out_of_room i b (p + 1) (typed_body_at i c) le no_room) ∙ e)))
    ]
