-- Writing the fields of a header, each by itself.
use Rattle.std.proofs.Common.{◌≡◌, ℕ, ◌+◌, ◌-◌, ◌<◌, ◌^◌, List, [], ◌∷◌, ◌++◌, length, Result, Ok, Err, chars, true, refl, sym, ap, subst, ◌∙◌, append_assoc, arith}
use Rattle.std.specs.Int.{w8, w32}
use Rattle.std.specs.Str.{all_scalars}
use Rattle.std.proofs.lemmas.List.{append-nil, length-append}
use Rattle.std.proofs.lemmas.Str.{IsUtf8-from_ascii, chars-IsAscii, scalars-chars}
use Rattle.atspi_base.specs.Text.{HasNoZero}
use Rattle.atspi_base.specs.valid_names.Names.{IsPath}
use Rattle.atspi_types.specs.Kinds.{Kind, number, text, path, signature, byte, u32}
use Rattle.atspi_types.specs.Data.{Data, number_data, text_data, path_data}
use Rattle.atspi_types.specs.Signatures.{signature_bytes, IsSignature}
use Rattle.atspi_types.specs.declared.fault.Order.{Order}
use Rattle.atspi_marshal.specs.declared.writing.fault.WriteFault.{WriteFault}
use Rattle.atspi_marshal.specs.declared.writing.fault.WriteFault.TheVariants as faults
use Rattle.atspi_marshal.specs.Input.{number_bytes, aligned}
use Rattle.atspi_marshal.specs.Spelling.{padding, counted, single, spelling, spellings, Fits}
use Rattle.atspi_marshal.specs.Writing.{IsWritten, Writes}
use Rattle.atspi_marshal.proofs.WritingSteps.{length_padding, padding_one, number_byte, Writes-by, Writes-behind, Writes-refused, number_writes}
use Rattle.atspi_message.specs.declared.code.Code.{Code}
use Rattle.atspi_message.specs.declared.code.Code.TheVariants as codes
use Rattle.atspi_message.specs.Codes.{IsNameFor, number_of}
use Rattle.atspi_message.specs.Bytes.{Field, field_items}
use Rattle.atspi_message.specs.inner.Writing.{field_front, FieldsFitAt}
use Rattle.atspi_message.proofs.Names.{name_is_plain, name_spells}

abbrev pub field_of : ℕ → Kind → Data → Field
field_of code k d = record { code = code; kind = k; value = d }

-- a field begins with four bytes behind its padding
pub length_front : (at code letter : ℕ) → at + length (field_front at code letter) ≡ aligned 8 at + 4
length_front at code letter = omega (arith, length_padding 8 at, length-append (padding 8 at) (code ∷ 1 ∷ letter ∷ 0 ∷ []))

pub front_refused : (Q : Type 0) (t : List ℕ) (at code letter : ℕ) (old new last : List ℕ) (e : WriteFault) → Writes (Unit {0}) (field_front at code letter) at old new (Err e) → Writes Q (field_front at code letter ++ t) at old last (Err e)
front_refused Q t at code letter old new last e w =
    Writes-refused (Unit {0}) Q (field_front at code letter) (field_front at code letter ++ t) at at old new old last e (λ q. tt) (omega (arith, length-append (field_front at code letter) t)) w

-- a value behind the front of its field
pub value_behind : (P : ℕ → Type 0) (S : ℕ → List ℕ) (at code letter m : ℕ) (old mid new : List ℕ) (r : Result ℕ WriteFault) → IsWritten (Unit {0}) (field_front at code letter) at old mid m
    → Writes (P m) (S m) m mid new r → Writes (P (aligned 8 at + 4)) (field_front at code letter ++ S (aligned 8 at + 4)) at old new r
value_behind P S at code letter m old mid new r front w =
    let p = aligned 8 at + 4 in
    let there : m ≡ p = front.place ∙ length_front at code letter in
    let here = subst (λ (q : ℕ). Writes (P q) (S q) q mid new r) there w in
    Writes-behind (P p) (P p) (field_front at code letter) (S p) at p old mid new r front.appended (sym (length_front at code letter)) (λ x. x) (λ x. x) here

-- a field of a code is spelled as its front, with the letter of its type, and its value
shape : (pad b sig v w : List ℕ) (code letter : ℕ) → b ≡ code ∷ [] → sig ≡ letter ∷ [] → v ≡ w
    → (pad ++ (b ++ (((length sig ∷ (sig ++ 0 ∷ [])) ++ v) ++ []))) ++ [] ≡ (pad ++ (code ∷ 1 ∷ letter ∷ 0 ∷ [])) ++ w
shape pad b sig v w code letter e f g =
    rw (e, f, g) (append-nil (pad ++ (code ∷ 1 ∷ letter ∷ 0 ∷ (w ++ []))) ∙ (ap (λ (bs : List ℕ). pad ++ (code ∷ 1 ∷ letter ∷ 0 ∷ bs)) (append-nil w) ∙ sym (append_assoc pad (code ∷ 1 ∷ letter ∷ 0 ∷ []) w)))

number_spelled : (o : Order) (a code : ℕ) → code < 256 → spelling o a (number_data byte code) ≡ code ∷ []
number_spelled o a code lt = ap (λ (bs : List ℕ). bs ++ number_bytes o w8 code) (padding_one a) ∙ number_byte o code lt

field_place : (o : Order) (a code letter : ℕ) (k : Kind) → code < 256 → signature_bytes (single k) ≡ letter ∷ [] → a + length (spelling o a (number_data byte code)) + 2 + length (signature_bytes (single k)) ≡ a + 4
field_place o a code letter k lt sig = omega (arith, ap length (number_spelled o a code lt), ap length sig)

pub field_spelled : (o : Order) (at code letter : ℕ) (k : Kind) (d : Data) → code < 256 → signature_bytes (single k) ≡ letter ∷ [] → spellings o at (field_items (field_of code k d ∷ [])) ≡ field_front at code letter ++ spelling o (aligned 8 at + 4) d
field_spelled o at code letter k d lt sig =
    let a = aligned 8 at in
    let b = spelling o a (number_data byte code) in
    let q = a + length b + 2 + length (signature_bytes (single k)) in
    shape (padding 8 at) b (signature_bytes (single k)) (spelling o q d) (spelling o (a + 4) d) code letter (number_spelled o a code lt) sig (ap (λ (m : ℕ). spelling o m d) (field_place o a code letter k lt sig))

field_fits : (o : Order) (at code letter : ℕ) (k : Kind) (d : Data) → code < 256 → signature_bytes (single k) ≡ letter ∷ [] → IsSignature (single k) → Fits o 61 (aligned 8 at + 4) d k → FieldsFitAt o at (field_of code k d ∷ [])
field_fits o at code letter k d lt sig is fit =
    let there = subst (λ (q : ℕ). Fits o 61 q d k) (sym (field_place o (aligned 8 at) code letter k lt sig)) fit in
    (((refl, lt), ((is, there), tt)), tt)

value_fits : (o : Order) (at code letter : ℕ) (k : Kind) (d : Data) → code < 256 → signature_bytes (single k) ≡ letter ∷ [] → FieldsFitAt o at (field_of code k d ∷ []) → Fits o 61 (aligned 8 at + 4) d k
value_fits o at code letter k d lt sig f = subst (λ (q : ℕ). Fits o 61 q d k) (field_place o (aligned 8 at) code letter k lt sig) f.0.1.0.1

pub field_writes : (o : Order) (at code letter : ℕ) (k : Kind) (d : Data) (old new : List ℕ) (r : Result ℕ WriteFault) → code < 256 → signature_bytes (single k) ≡ letter ∷ [] → IsSignature (single k)
    → Writes (Fits o 61 (aligned 8 at + 4) d k) (field_front at code letter ++ spelling o (aligned 8 at + 4) d) at old new r
    → Writes (FieldsFitAt o at (field_of code k d ∷ [])) (spellings o at (field_items (field_of code k d ∷ []))) at old new r
field_writes o at code letter k d old new r lt sig is w =
    subst (λ (bs : List ℕ). Writes (FieldsFitAt o at (field_of code k d ∷ [])) bs at old new r) (sym (field_spelled o at code letter k d lt sig))
    (Writes-by (Fits o 61 (aligned 8 at + 4) d k) (FieldsFitAt o at (field_of code k d ∷ [])) (field_front at code letter ++ spelling o (aligned 8 at + 4) d) at old new r (field_fits o at code letter k d lt sig is) (value_fits o at code letter k d lt sig) w)

-- the four types of fields are signatures
text_type : IsSignature (single text)
text_type = record { lawful = (tt, tt); fits = record { short = omega arith; arrays = omega arith; structs = omega arith } }

path_type : IsSignature (single path)
path_type = record { lawful = (tt, tt); fits = record { short = omega arith; arrays = omega arith; structs = omega arith } }

number_type : IsSignature (single (number u32))
number_type = record { lawful = (tt, tt); fits = record { short = omega arith; arrays = omega arith; structs = omega arith } }

pub signature_type : IsSignature (single signature)
signature_type = record { lawful = (tt, tt); fits = record { short = omega arith; arrays = omega arith; structs = omega arith } }

-- what was written is short
counted_short_enough : (o : Order) (at p code letter next : ℕ) (bytes old new : List ℕ) → IsWritten (Unit {0}) (field_front at code letter ++ counted o p bytes) at old new next → length bytes < 2 ^ 32
counted_short_enough o at p code letter next bytes old new w =
    let number = number_bytes o w32 (length bytes) in
    omega (arith, w.place, w.within, length-append (field_front at code letter) (counted o p bytes), length-append (padding 4 p) (number ++ (bytes ++ 0 ∷ [])), length-append number (bytes ++ 0 ∷ []), length-append bytes (0 ∷ []))

-- bytes behind their count may be written as a value where the value keeps its rule and they are few enough
counted_writes : (o : Order) (at p code letter : ℕ) (bytes old new : List ℕ) (Q : Type 0) (r : Result ℕ WriteFault) → (length bytes < 2 ^ 32 → Q) → Writes (Unit {0}) (field_front at code letter ++ counted o p bytes) at old new r → Writes Q (field_front at code letter ++ counted o p bytes) at old new r
counted_writes o at p code letter bytes old new Q (Ok next) may w = record { may = may (counted_short_enough o at p code letter next bytes old new w); appended = w.appended; place = w.place; within = w.within }
counted_writes o at p code letter bytes old new Q (Err faults.Big) may w = λ q. w tt
counted_writes o at p code letter bytes old new Q (Err faults.NoMemory) may w = tt

name_fits : (c : Code) (o : Order) (p : ℕ) (bytes : List ℕ) → IsNameFor c bytes → length bytes < 2 ^ 32 → Fits o 61 p (text_data bytes) text
name_fits c o p bytes h few =
    let plain = name_is_plain c bytes h in
    let same = sym (name_spells c bytes h) in
    let scalars : all_scalars bytes ≡ true = ap all_scalars (sym (chars-IsAscii bytes plain.0)) ∙ scalars-chars bytes (IsUtf8-from_ascii bytes plain.0) in
    (scalars, subst (λ (bs : List ℕ). HasNoZero bs) same plain.1, subst (λ (bs : List ℕ). length bs < 2 ^ 32) same few)

pub name_writes : (c : Code) (o : Order) (at code : ℕ) (name bytes old new : List ℕ) (r : Result ℕ WriteFault) → code < 256 → bytes ≡ name → IsNameFor c name → Writes (Unit {0}) (field_front at code 115 ++ counted o (aligned 8 at + 4) bytes) at old new r
    → Writes (FieldsFitAt o at (field_of code text (text_data name) ∷ [])) (spellings o at (field_items (field_of code text (text_data name) ∷ []))) at old new r
name_writes c o at code name bytes old new r lt same h w =
    let p = aligned 8 at + 4 in
    let Q = Fits o 61 p (text_data name) text in
    let here = subst (λ (bs : List ℕ). Writes (Unit {0}) (field_front at code 115 ++ counted o p bs) at old new r) same w in
    let may = counted_writes o at p code 115 name old new Q r (name_fits c o p name h) here in
    field_writes o at code 115 text (text_data name) old new r lt refl text_type (subst (λ (bs : List ℕ). Writes Q (field_front at code 115 ++ counted o p bs) at old new r) (sym (name_spells c name h)) may)

pub path_writes : (o : Order) (at : ℕ) (name bytes old new : List ℕ) (r : Result ℕ WriteFault) → bytes ≡ name → IsPath name → Writes (Unit {0}) (field_front at 1 111 ++ counted o (aligned 8 at + 4) bytes) at old new r
    → Writes (FieldsFitAt o at (field_of 1 path (path_data name) ∷ [])) (spellings o at (field_items (field_of 1 path (path_data name) ∷ []))) at old new r
path_writes o at name bytes old new r same h w =
    let p = aligned 8 at + 4 in
    let Q = Fits o 61 p (path_data name) path in
    let here = subst (λ (bs : List ℕ). Writes (Unit {0}) (field_front at 1 111 ++ counted o p bs) at old new r) same w in
    field_writes o at 1 111 path (path_data name) old new r (omega arith) refl path_type (counted_writes o at p 1 111 name old new Q r (λ few. (h, few)) here)

pub reply_writes : (o : Order) (at m n : ℕ) (old mid new : List ℕ) (r : Result ℕ WriteFault) → IsWritten (Unit {0}) (field_front at 5 117) at old mid m → Writes (n < 2 ^ 32) (padding 4 m ++ number_bytes o w32 n) m mid new r
    → Writes (FieldsFitAt o at (field_of 5 (number u32) (number_data u32 n) ∷ [])) (spellings o at (field_items (field_of 5 (number u32) (number_data u32 n) ∷ []))) at old new r
reply_writes o at m n old mid new r front w =
    let d = number_data u32 n in
    field_writes o at 5 117 (number u32) d old new r (omega arith) refl number_type
    (value_behind (λ q. Fits o 61 q d (number u32)) (λ q. spelling o q d) at 5 117 m old mid new r front (number_writes o 61 m u32 n mid new r w))

pub reply_refused : (o : Order) (at n : ℕ) (old new last : List ℕ) (e : WriteFault) → Writes (Unit {0}) (field_front at 5 117) at old new (Err e)
    → Writes (FieldsFitAt o at (field_of 5 (number u32) (number_data u32 n) ∷ [])) (spellings o at (field_items (field_of 5 (number u32) (number_data u32 n) ∷ []))) at old last (Err e)
reply_refused o at n old new last e w =
    let d = number_data u32 n in
    field_writes o at 5 117 (number u32) d old last (Err e) (omega arith) refl number_type (front_refused (Fits o 61 (aligned 8 at + 4) d (number u32)) (spelling o (aligned 8 at + 4) d) at 5 117 old new last e w)

pub number_small : (c : Code) → number_of c < 256
number_small codes.Path = omega arith
number_small codes.Interface = omega arith
number_small codes.Member = omega arith
number_small codes.Error = omega arith
number_small codes.Reply = omega arith
number_small codes.Destination = omega arith
number_small codes.Sender = omega arith
number_small codes.Signature = omega arith
number_small codes.Descriptors = omega arith
