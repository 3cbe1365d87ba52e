-- The bytes of a context, and that a byte which is not refused goes on to a context that begins a signature.
use Rattle.std.proofs.Common.{◌≡◌, ℕ, ◌+◌, ◌<◌, ◌≤◌, List, [], ◌∷◌, ◌++◌, Bool, true, false, refl, sym, ap, ◌∙◌, arith, if◌then◌else◌, Some, None, Option, append_assoc, append-nil}
use Rattle.std.specs.Prelude.{nat_le, max}
use Rattle.std.proofs.lemmas.Bool.{leb-false}
use Rattle.atspi_types.specs.Kinds.{Kind, array, structure, variant, dictionary, kinds_of, IsBasic, is_basic, IsLawful, AreLawful}
use Rattle.atspi_types.specs.Signatures.{type_bytes, signature_bytes, array_depth, array_depths, struct_depth, struct_depths}
use Rattle.atspi_types.specs.SignatureFaults.{Token, code, array_code, struct_open, struct_close, entry_open, entry_close, descriptor, no_code, end, token_of, Context, at_top, in_array, in_struct, in_entry, front, arrays_open, structs_open, MayCome, IsEntry, BeginsSignature}
use Rattle.atspi_types.specs.SignatureReading.{refusal, type_refusal, with_type, with_token}
use Rattle.atspi_types.proofs.SignatureSteps.{basic_from, TokenFits, token_fits}

-- one type more in a list
pub bytes-push : (ks : List Kind) (k : Kind) → signature_bytes (kinds_of (ks ++ k ∷ [])) ≡ signature_bytes (kinds_of ks) ++ type_bytes k
bytes-push [] k = append-nil (type_bytes k)
bytes-push (other ∷ ks) k = ap (λ rest. type_bytes other ++ rest) (bytes-push ks k) ∙ sym (append_assoc (type_bytes other) (signature_bytes (kinds_of ks)) (type_bytes k))

lawful-push : (ks : List Kind) (k : Kind) → AreLawful (kinds_of ks) → IsLawful k → AreLawful (kinds_of (ks ++ k ∷ []))
lawful-push [] k all one = (one, tt)
lawful-push (other ∷ ks) k all one = (all.0, lawful-push ks k all.1 one)

pub arrays-push : (ks : List Kind) (k : Kind) → array_depths (kinds_of (ks ++ k ∷ [])) ≡ max (array_depths (kinds_of ks)) (array_depth k)
arrays-push [] k = omega arith
arrays-push (other ∷ ks) k = omega (arith, arrays-push ks k)

pub structs-push : (ks : List Kind) (k : Kind) → struct_depths (kinds_of (ks ++ k ∷ [])) ≡ max (struct_depths (kinds_of ks)) (struct_depth k)
structs-push [] k = omega arith
structs-push (other ∷ ks) k = omega (arith, structs-push ks k)

-- a whole type more
pub front-with_type : (c : Context) (k : Kind) → front (with_type c k) ≡ front c ++ type_bytes k
front-with_type (at_top ks) k = bytes-push ks k
front-with_type (in_array c) k = front-with_type c (array k) ∙ sym (append_assoc (front c) (97 ∷ []) (type_bytes k))
front-with_type (in_struct c ks) k = ap (λ rest. front c ++ (40 ∷ rest)) (bytes-push ks k) ∙ sym (append_assoc (front c) (40 ∷ signature_bytes (kinds_of ks)) (type_bytes k))
front-with_type (in_entry c ks) k = ap (λ rest. front c ++ (97 ∷ 123 ∷ rest)) (bytes-push ks k) ∙ sym (append_assoc (front c) (97 ∷ 123 ∷ signature_bytes (kinds_of ks)) (type_bytes k))

-- where a container may come any type that is not a key may
pub any_may_come : (c : Context) (k : Kind) → MayCome c variant → MayCome c k
any_may_come (at_top ks) k h = tt
any_may_come (in_array c) k h = tt
any_may_come (in_struct c ks) k h = tt
any_may_come (in_entry c []) k h = absurd h
any_may_come (in_entry c (key ∷ [])) k h = tt
any_may_come (in_entry c (key ∷ value ∷ ks)) k h = absurd h

-- a type that may come and fits
pub record Fits (c : Context) (k : Kind) : Type 0 where
  pub lawful : IsLawful k
  pub arrays : arrays_open c + array_depth k ≤ 32
  pub structs : structs_open c + struct_depth k ≤ 32

types-push : (c : Context) (ks : List Kind) (k : Kind) (arrays structs : ℕ) → AreLawful (kinds_of ks) → arrays + array_depths (kinds_of ks) ≤ 32 → structs + struct_depths (kinds_of ks) ≤ 32
    → IsLawful k → arrays + array_depth k ≤ 32 → structs + struct_depth k ≤ 32
    → AreLawful (kinds_of (ks ++ k ∷ [])) × (arrays + array_depths (kinds_of (ks ++ k ∷ [])) ≤ 32) × (structs + struct_depths (kinds_of (ks ++ k ∷ [])) ≤ 32)
types-push c ks k arrays structs all a s one b t = (lawful-push ks k all one, omega (arith, arrays-push ks k), omega (arith, structs-push ks k))

entry-push : (c : Context) (ks : List Kind) (k : Kind) → IsEntry ks → MayCome (in_entry c ks) k → IsEntry (ks ++ k ∷ [])
entry-push c [] k h may = may
entry-push c (key ∷ []) k h may = h
entry-push c (key ∷ value ∷ ks) k h may = absurd may

pub begins-with_type : (c : Context) (k : Kind) → BeginsSignature c → MayCome c k → Fits c k → BeginsSignature (with_type c k)
begins-with_type (at_top ks) k h may fits =
    let all = types-push (at_top ks) ks k 0 0 h.lawful h.arrays h.structs fits.lawful fits.arrays fits.structs in
    record { lawful = all.0; arrays = all.1; structs = all.2 }
begins-with_type (in_array c) k h may fits = begins-with_type c (array k) h.0 (any_may_come c (array k) h.1) (record { lawful = fits.lawful; arrays = omega (arith, fits.arrays); structs = fits.structs })
begins-with_type (in_struct c ks) k h may fits =
    let all = types-push c ks k (arrays_open c) (structs_open c + 1) h.2.lawful h.2.arrays h.2.structs fits.lawful fits.arrays fits.structs in
    (h.0, h.1, record { lawful = all.0; arrays = all.1; structs = all.2 })
begins-with_type (in_entry c ks) k h may fits =
    let all = types-push c ks k (arrays_open c + 1) (structs_open c) h.2.lawful h.2.arrays h.2.structs fits.lawful fits.arrays fits.structs in
    (h.0, h.1, record { lawful = all.0; arrays = all.1; structs = all.2 }, entry-push c ks k h.3 may)

-- the limits hold of what is open
pub open_limits : (c : Context) → BeginsSignature c → (arrays_open c ≤ 32) × (structs_open c ≤ 32)
open_limits (at_top ks) h = (omega arith, omega arith)
open_limits (in_array c) h = (omega (arith, h.2.arrays), omega (arith, h.2.structs))
open_limits (in_struct c ks) h = (omega (arith, h.2.arrays), omega (arith, h.2.structs))
open_limits (in_entry c ks) h = (omega (arith, h.2.arrays), omega (arith, h.2.structs))

-- a type that is not refused may come
type_may_come : (c : Context) (k : Kind) (deep : Option ℕ) → type_refusal c (is_basic k) deep ≡ None → MayCome c k
type_may_come (at_top ks) k deep e = tt
type_may_come (in_array c) k deep e = tt
type_may_come (in_struct c ks) k deep e = tt
type_may_come (in_entry c []) k deep e = by (is_basic k) refl e
  where
    by : (t : Bool) → is_basic k ≡ t → (if t then deep else Some 8) ≡ None → IsBasic k
    by true t e = basic_from k t
    by false t e = absurd cc
type_may_come (in_entry c (key ∷ [])) k deep e = tt
type_may_come (in_entry c (key ∷ value ∷ ks)) k deep e = absurd cc

not_deep : (c : Context) (deep : Option ℕ) → type_refusal c false deep ≡ None → deep ≡ None
not_deep (at_top ks) deep e = e
not_deep (in_array c) deep e = e
not_deep (in_struct c ks) deep e = e
not_deep (in_entry c []) deep e = absurd cc
not_deep (in_entry c (key ∷ [])) deep e = e
not_deep (in_entry c (key ∷ value ∷ ks)) deep e = absurd cc

below_limit : (n : ℕ) (t : Bool) → nat_le 32 n ≡ t → if◌then◌else◌ {A = Option ℕ} t (Some 9) None ≡ None → n < 32
below_limit n true t e = absurd cc
below_limit n false t e = leb-false 32 n t

-- the bytes of an entry, closed behind its value
entry_bytes : (before key value : List ℕ) (b : ℕ) → b ≡ 125 → before ++ (97 ∷ 123 ∷ (key ++ (value ++ 125 ∷ []))) ≡ (before ++ (97 ∷ 123 ∷ (key ++ (value ++ [])))) ++ b ∷ []
entry_bytes before key value b e =
    rw (e, append-nil value) (ap (λ rest. before ++ (97 ∷ 123 ∷ rest)) (sym (append_assoc key value (125 ∷ []))) ∙ sym (append_assoc before (97 ∷ 123 ∷ (key ++ value)) (125 ∷ [])))

-- a context behind a byte
pub record GoesOn (c : Context) (b : ℕ) (after : Context) : Type 0 where
  pub begins : BeginsSignature after
  pub bytes : front after ≡ front c ++ b ∷ []

goes_on-token : (c : Context) (b : ℕ) (t : Token) → TokenFits b t → BeginsSignature c → refusal c t ≡ None → GoesOn c b (with_token c t)
unfolding refusal with_token
goes_on-token c b (code k) fits h e = record {
  begins = begins-with_type c k h (type_may_come c k None e) (record { lawful = fits.1; arrays = omega (arith, fits.2, (open_limits c h).0); structs = omega (arith, fits.3, (open_limits c h).1) });
  bytes = front-with_type c k ∙ ap (λ rest. front c ++ rest) fits.0;
}
goes_on-token c b array_code fits h e =
    let limit = below_limit (arrays_open c) (nat_le 32 (arrays_open c)) refl (not_deep c _ e) in
    record {
      begins = (h, type_may_come c variant _ e, record { lawful = tt; arrays = omega (arith, limit); structs = omega (arith, (open_limits c h).1) });
      bytes = ap (λ n. front c ++ n ∷ []) (sym fits);
    }
goes_on-token c b struct_open fits h e =
    let limit = below_limit (structs_open c) (nat_le 32 (structs_open c)) refl (not_deep c _ e) in
    record {
      begins = (h, type_may_come c variant _ e, record { lawful = tt; arrays = omega (arith, (open_limits c h).0); structs = omega (arith, limit) });
      bytes = ap (λ n. front c ++ n ∷ []) (sym fits);
    }
goes_on-token (at_top ks) b struct_close fits h e = absurd cc
goes_on-token (in_array c) b struct_close fits h e = absurd cc
goes_on-token (in_struct c []) b struct_close fits h e = absurd cc
goes_on-token (in_struct c (k ∷ ks)) b struct_close fits h e = record {
  begins = begins-with_type c (structure (kinds_of (k ∷ ks))) h.0 (any_may_come c (structure (kinds_of (k ∷ ks))) h.1) (record { lawful = h.2.lawful; arrays = h.2.arrays; structs = omega (arith, h.2.structs) });
  bytes = front-with_type c (structure (kinds_of (k ∷ ks))) ∙ sym (append_assoc (front c) (40 ∷ signature_bytes (kinds_of (k ∷ ks))) (41 ∷ [])) ∙ ap (λ n. front (in_struct c (k ∷ ks)) ++ n ∷ []) (sym fits);
}
goes_on-token (in_entry c ks) b struct_close fits h e = absurd cc
goes_on-token (at_top ks) b entry_open fits h e = absurd cc
goes_on-token (in_array c) b entry_open fits h e = record {
  begins = (h.0, h.1, record { lawful = tt; arrays = h.2.arrays; structs = h.2.structs }, tt);
  bytes = sym (append_assoc (front c) (97 ∷ []) (123 ∷ [])) ∙ ap (λ n. front (in_array c) ++ n ∷ []) (sym fits);
}
goes_on-token (in_struct c ks) b entry_open fits h e = absurd cc
goes_on-token (in_entry c ks) b entry_open fits h e = absurd cc
goes_on-token (at_top ks) b entry_close fits h e = absurd cc
goes_on-token (in_array c) b entry_close fits h e = absurd cc
goes_on-token (in_struct c ks) b entry_close fits h e = absurd cc
goes_on-token (in_entry c []) b entry_close fits h e = absurd cc
goes_on-token (in_entry c (key ∷ [])) b entry_close fits h e = absurd cc
goes_on-token (in_entry c (key ∷ value ∷ [])) b entry_close fits h e = record {
  begins = begins-with_type c (dictionary key value) h.0 (any_may_come c (dictionary key value) h.1) (record { lawful = (h.3, h.2.lawful.1.0); arrays = omega (arith, h.2.arrays); structs = omega (arith, h.2.structs) });
  bytes = front-with_type c (dictionary key value) ∙ entry_bytes (front c) (type_bytes key) (type_bytes value) b fits;
}
goes_on-token (in_entry c (key ∷ value ∷ k ∷ ks)) b entry_close fits h e = absurd h.3
goes_on-token c b descriptor fits h e = absurd cc
goes_on-token c b no_code fits h e = absurd cc
goes_on-token c b end fits h e = absurd fits

pub goes_on : (c : Context) (b : ℕ) → BeginsSignature c → refusal c (token_of b) ≡ None → GoesOn c b (with_token c (token_of b))
goes_on c b h e = goes_on-token c b (token_of b) (token_fits b) h e
