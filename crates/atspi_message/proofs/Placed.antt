-- How the parts of a message lie in its bytes.
use Rattle.std.proofs.Common.{◌≡◌, ℕ, zero, suc, ◌+◌, ◌-◌, ◌<◌, ◌≤◌, ◌^◌, List, [], ◌∷◌, ◌++◌, length, get_or, take, drop, append_assoc, zero-add, refl, sym, ap, subst, ◌∙◌, arith}
use Rattle.std.specs.Prelude.{◌==◌, if◌then◌else◌}
use Rattle.std.specs.Int.{w32}
use Rattle.std.proofs.lemmas.List.{length-append, get_or-take}
use Rattle.atspi_types.specs.Data.{array_data, items_of}
use Rattle.atspi_types.specs.declared.fault.Order.{Order}
use Rattle.atspi_types.specs.declared.fault.Order.TheVariants.{Little, Big}
use Rattle.atspi_marshal.specs.Input.{Input, Stands, number_bytes, byte_in, number_in, slice_in, aligned}
use Rattle.atspi_marshal.specs.Spelling.{spelling, spellings, padding}
use Rattle.atspi_marshal.proofs.Places.{wide32, Stands-append, Stands-front, Stands-back, length-zeros}
use Rattle.atspi_message.specs.Envelope.{Envelope}
use Rattle.atspi_message.specs.Bytes.{Field, field_kind, field_items, order_byte, body_place, body_bytes, header_bytes, spelled_with}

-- the bytes of the fields, and the place behind them
abbrev pub fields_bytes : Order → List Field → List ℕ
fields_bytes o fs = spellings o 16 (field_items fs)

abbrev pub fields_end : Order → List Field → ℕ
fields_end o fs = 16 + length (fields_bytes o fs)

abbrev pub four : Envelope → List ℕ
four e = order_byte e.order ∷ e.kind ∷ e.flags ∷ 1 ∷ []

abbrev tail : Envelope → List Field → List ℕ
tail e fs = padding 8 (fields_end e.order fs) ++ body_bytes e fs

-- the parts, one behind the other
abbrev pub flat : Envelope → List Field → List ℕ
flat e fs = four e ++ (number_bytes e.order w32 (length (body_bytes e fs)) ++ (number_bytes e.order w32 e.serial
    ++ (number_bytes e.order w32 (length (fields_bytes e.order fs)) ++ (fields_bytes e.order fs ++ tail e fs))))

header_is : (e : Envelope) (fs : List Field) → header_bytes e fs ≡ four e ++ (number_bytes e.order w32 (length (body_bytes e fs)) ++ (number_bytes e.order w32 e.serial ++ (number_bytes e.order w32 (length (fields_bytes e.order fs)) ++ fields_bytes e.order fs)))
unfolding header_bytes
header_is e fs = refl

header_length : (e : Envelope) (fs : List Field) → length (header_bytes e fs) ≡ fields_end e.order fs
header_length e fs =
    let a = number_bytes e.order w32 (length (body_bytes e fs)) in
    let b = number_bytes e.order w32 e.serial in
    let c = number_bytes e.order w32 (length (fields_bytes e.order fs)) in
    let d = fields_bytes e.order fs in
    ap length (header_is e fs) ∙ omega (
      arith,
      length-append a (b ++ (c ++ d)),
      length-append b (c ++ d),
      length-append c d,
      wide32.long e.order (length (body_bytes e fs)),
      wide32.long e.order e.serial,
      wide32.long e.order (length (fields_bytes e.order fs)),
    )

pub spelled_is : (e : Envelope) (fs : List Field) → spelled_with e fs ≡ flat e fs
unfolding spelled_with
spelled_is e fs =
    let a = number_bytes e.order w32 (length (body_bytes e fs)) in
    let b = number_bytes e.order w32 e.serial in
    let c = number_bytes e.order w32 (length (fields_bytes e.order fs)) in
    let d = fields_bytes e.order fs in
    let t = tail e fs in
    let place : header_bytes e fs ++ (padding 8 (length (header_bytes e fs)) ++ body_bytes e fs) ≡ header_bytes e fs ++ t = ap (λ (n : ℕ). header_bytes e fs ++ (padding 8 n ++ body_bytes e fs)) (header_length e fs) in
    place ∙ ap (λ (h : List ℕ). h ++ t) (header_is e fs) ∙ nest a b c d t
  where
    nest : (a b c d t : List ℕ) → (four e ++ (a ++ (b ++ (c ++ d)))) ++ t ≡ four e ++ (a ++ (b ++ (c ++ (d ++ t))))
    nest a b c d t = ap (λ (s : List ℕ). four e ++ s) (append_assoc a (b ++ (c ++ d)) t ∙ ap (λ (s : List ℕ). a ++ s) (append_assoc b (c ++ d) t ∙ ap (λ (s : List ℕ). b ++ s) (append_assoc c d t)))

-- where each part stands
pub record Layout (i : Input) (e : Envelope) (fs : List Field) : Type 0 where
  pub first : Stands i 0 (four e) 4
  pub body_length : Stands i 4 (number_bytes e.order w32 (length (body_bytes e fs))) 8
  pub serial : Stands i 8 (number_bytes e.order w32 e.serial) 12
  pub fields_length : Stands i 12 (number_bytes e.order w32 (length (fields_bytes e.order fs))) 16
  pub fields : Stands i 16 (fields_bytes e.order fs) (fields_end e.order fs)
  pub padded : Stands i (fields_end e.order fs) (padding 8 (fields_end e.order fs)) (aligned 8 (fields_end e.order fs))
  pub body : Stands i (aligned 8 (fields_end e.order fs)) (body_bytes e fs) (length i.bytes)

take_whole : (bytes : List ℕ) → take (length bytes) bytes ≡ bytes
take_whole [] = refl
take_whole (b ∷ bytes) = ap (λ (bs : List ℕ). b ∷ bs) (take_whole bytes)

pub layout_to : (i : Input) (e : Envelope) (fs : List Field) → i.bytes ≡ spelled_with e fs → Layout i e fs
layout_to i e fs is =
    let all : i.bytes ≡ flat e fs = is ∙ spelled_is e fs in
    let end = length i.bytes in
    let whole : Stands i 0 (flat e fs) end = (ap length all ∙ sym (zero-add (length (flat e fs))), ap (λ (bs : List ℕ). take (length bs) i.bytes) (sym all) ∙ take_whole i.bytes ∙ all) in
    let le : end ≤ length i.bytes = omega arith in
    let a = number_bytes e.order w32 (length (body_bytes e fs)) in
    let b = number_bytes e.order w32 e.serial in
    let c = number_bytes e.order w32 (length (fields_bytes e.order fs)) in
    let d = fields_bytes e.order fs in
    let p = padding 8 (fields_end e.order fs) in
    let t1 = Stands-back i 0 end (four e) (a ++ (b ++ (c ++ (d ++ tail e fs)))) le whole in
    let la = wide32.long e.order (length (body_bytes e fs)) in
    let lb = wide32.long e.order e.serial in
    let lc = wide32.long e.order (length d) in
    let s2 = Stands-front i 4 end a (b ++ (c ++ (d ++ tail e fs))) le t1 in
    let t2 = subst (λ (n : ℕ). Stands i n (b ++ (c ++ (d ++ tail e fs))) end) (let eq : 4 + length a ≡ 8 = omega (arith, la) in eq) (Stands-back i 4 end a (b ++ (c ++ (d ++ tail e fs))) le t1) in
    let s3 = Stands-front i 8 end b (c ++ (d ++ tail e fs)) le t2 in
    let t3 = subst (λ (n : ℕ). Stands i n (c ++ (d ++ tail e fs)) end) (let eq : 8 + length b ≡ 12 = omega (arith, lb) in eq) (Stands-back i 8 end b (c ++ (d ++ tail e fs)) le t2) in
    let s4 = Stands-front i 12 end c (d ++ tail e fs) le t3 in
    let t4 = subst (λ (n : ℕ). Stands i n (d ++ tail e fs) end) (let eq : 12 + length c ≡ 16 = omega (arith, lc) in eq) (Stands-back i 12 end c (d ++ tail e fs) le t3) in
    let t5 = Stands-back i 16 end d (tail e fs) le t4 in
    let place : fields_end e.order fs + length p ≡ aligned 8 (fields_end e.order fs) = omega (arith, length-zeros (aligned 8 (fields_end e.order fs) - fields_end e.order fs)) in
    let s6 = Stands-front i (fields_end e.order fs) end p (body_bytes e fs) le t5 in
    record {
      first = Stands-front i 0 end (four e) (a ++ (b ++ (c ++ (d ++ tail e fs)))) le whole;
      body_length = subst (λ (n : ℕ). Stands i 4 a n) (let eq : 4 + length a ≡ 8 = omega (arith, la) in eq) s2;
      serial = subst (λ (n : ℕ). Stands i 8 b n) (let eq : 8 + length b ≡ 12 = omega (arith, lb) in eq) s3;
      fields_length = subst (λ (n : ℕ). Stands i 12 c n) (let eq : 12 + length c ≡ 16 = omega (arith, lc) in eq) s4;
      fields = Stands-front i 16 end d (tail e fs) le t4;
      padded = subst (λ (n : ℕ). Stands i (fields_end e.order fs) p n) place s6;
      body = subst (λ (n : ℕ). Stands i n (body_bytes e fs) end) place (Stands-back i (fields_end e.order fs) end p (body_bytes e fs) le t5);
    }

pub layout_from : (i : Input) (e : Envelope) (fs : List Field) → Layout i e fs → i.bytes ≡ spelled_with e fs
layout_from i e fs l =
    let end = length i.bytes in
    let t5 = Stands-append i (fields_end e.order fs) _ end _ _ l.padded l.body in
    let t4 = Stands-append i 16 _ end _ _ l.fields t5 in
    let t3 = Stands-append i 12 16 end _ _ l.fields_length t4 in
    let t2 = Stands-append i 8 12 end _ _ l.serial t3 in
    let t1 = Stands-append i 4 8 end _ _ l.body_length t2 in
    let whole = Stands-append i 0 4 end (four e) _ l.first t1 in
    sym (take_whole i.bytes) ∙ ap (λ (n : ℕ). take n i.bytes) (whole.0 ∙ zero-add (length (flat e fs))) ∙ whole.1 ∙ sym (spelled_is e fs)

-- the first four bytes, one by one
pub byte_of : (i : Input) (e : Envelope) (fs : List Field) (k : ℕ) → Layout i e fs → k < 4 → byte_in i k ≡ get_or (four e) k 0
byte_of i e fs k l lt = sym (get_or-take 4 i.bytes k 0 lt) ∙ ap (λ (bs : List ℕ). get_or bs k 0) l.first.1

pub order_of : (e : Envelope) (b : ℕ) → b ≡ order_byte e.order → (if b == 66 then Big else Little) ≡ e.order
order_of e b is = rw is (by e.order)
  where
    by : (o : Order) → (if order_byte o == 66 then Big else Little) ≡ o
    by Little = refl
    by Big = refl
