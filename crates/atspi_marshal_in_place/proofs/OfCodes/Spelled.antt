-- One type, and several, as their codes spell them.
use Rattle.std.proofs.Common.{◌≡◌, ℕ, ◌≤◌, ◌<◌, true, List, [], ◌∷◌, ◌++◌, length, take, drop, Result, Ok, Err, refl, sym, ap, subst, ◌∙◌, length-append, arith}
use Rattle.std.specs.Prelude.{is_ok}
use Rattle.std.specs.List.{slice_index_or}
use Rattle.std.specs.Result.{result_unwrap_or}
use Rattle.std.proofs.lemmas.List.{append-nil, take_at, drop_at}
use Rattle.atspi_types.specs.Kinds.{Kind, Kinds, number, boolean, text, path, signature, array, structure, variant, dictionary, no_kinds, kind, kinds_of, IsBasic}
use Rattle.atspi_types.specs.Signatures.{type_bytes, signature_bytes, IsSignature}
use Rattle.atspi_types.specs.SignatureReading.{signature_in}
use Rattle.atspi_types.specs.declared.fault.Fault.{Fault}
use Rattle.atspi_types.proofs.DataLemmas.{types_in-kinds_of}
use Rattle.atspi_types.proofs.SignatureLaws.{signature_in-read, signature_in-again}
use Rattle.atspi_marshal_in_place.proofs.OfCodes.FirstType.{first_is}
use Rattle.atspi_marshal_in_place.specs.codes.Codes.{kinds_at, spells, kind_at, first_end}

-- codes that spell types are their spelling
pub record Spelled (codes : List ℕ) (ks : List Kind) : Type 0 where
  pub bytes : codes ≡ signature_bytes (kinds_of ks)
  pub within : IsSignature (kinds_of ks)

all_of : (codes : List ℕ) (r : Result (List Kind) Fault) → signature_in codes ≡ r → is_ok r ≡ true → Spelled codes (result_unwrap_or r [])
all_of codes (Ok ks) e h = let t = signature_in-read codes ks e in record { bytes = t.spelled; within = t.is }
all_of codes (Err f) e h = absurd cc

pub all_is : (codes : List ℕ) → spells codes ≡ true → Spelled codes (kinds_at codes)
all_is codes h = all_of codes (signature_in codes) refl h

abbrev named : List Kind → Result (List Kind) Fault
named ks = Ok ks

abbrev unwrapped : Result (List Kind) Fault → List Kind
unwrapped r = result_unwrap_or r []

-- and again
pub read_again : (codes : List ℕ) (ks : List Kind) → Spelled codes ks → signature_in codes ≡ Ok ks
read_again codes ks s = ap signature_in s.bytes ∙ (signature_in-again (kinds_of ks) s.within ∙ ap named (types_in-kinds_of ks))

pub all_again : (codes : List ℕ) (ks : List Kind) → Spelled codes ks → (spells codes ≡ true) × (kinds_at codes ≡ ks)
all_again codes ks s = (ap is_ok (read_again codes ks s), ap unwrapped (read_again codes ks s))

-- codes that spell one type
pub record SpelledOne (codes : List ℕ) (k : Kind) : Type 0 where
  pub bytes : codes ≡ type_bytes k
  pub within : IsSignature (kind k no_kinds)

one_of : (codes : List ℕ) (r : Result (List Kind) Fault) → signature_in codes ≡ r → length (unwrapped r) ≡ 1 → SpelledOne codes (kind_at codes) × (kinds_at codes ≡ kind_at codes ∷ [])
one_of codes (Ok []) e h = absurd (omega (arith, h))
one_of codes (Ok (k ∷ [])) e h =
    let t = signature_in-read codes (k ∷ []) e in
    let is : kinds_at codes ≡ k ∷ [] = ap unwrapped e in
    rw is (record { bytes = t.spelled ∙ append-nil (type_bytes k); within = t.is }, refl)
one_of codes (Ok (k ∷ j ∷ ks)) e h = absurd (omega (arith, h))
one_of codes (Err f) e h = absurd (omega (arith, h))

pub one_is : (codes : List ℕ) → length (kinds_at codes) ≡ 1 → SpelledOne codes (kind_at codes)
one_is codes h = (one_of codes (signature_in codes) refl h).0

pub one_alone : (codes : List ℕ) → length (kinds_at codes) ≡ 1 → kinds_at codes ≡ kind_at codes ∷ []
one_alone codes h = (one_of codes (signature_in codes) refl h).1

abbrev first_of : List Kind → Kind
first_of ks = slice_index_or ks 0 boolean

-- and again
pub record Again (codes : List ℕ) (k : Kind) : Type 0 where
  pub one : length (kinds_at codes) ≡ 1
  pub is : kind_at codes ≡ k

pub one_again : (codes : List ℕ) (k : Kind) → codes ≡ type_bytes k → IsSignature (kind k no_kinds) → Again codes k
one_again codes k e s =
    let read = all_again codes (k ∷ []) (record { bytes = e ∙ sym (append-nil (type_bytes k)); within = s }) in
    record { one = ap length read.1; is = ap first_of read.1 }

-- a type has a code or more
pub has_codes : (k : Kind) → 0 < length (type_bytes k)
has_codes (number n) = omega arith
has_codes boolean = omega arith
has_codes text = omega arith
has_codes path = omega arith
has_codes signature = omega arith
has_codes (array k) = omega arith
has_codes (structure ks) = omega arith
has_codes variant = omega arith
has_codes (dictionary k v) = omega arith

-- a fact of all types and their codes
pub of_types : (P : List ℕ → Kind → Type 0) → ((k : Kind) → IsSignature (kind k no_kinds) → P (type_bytes k) k) → (codes : List ℕ) → length (kinds_at codes) ≡ 1 → P codes (kind_at codes)
of_types P each codes one =
    let s = one_is codes one in
    subst (λ cs. P cs (kind_at codes)) (sym s.bytes) (each (kind_at codes) s.within)

-- types within a type are within the limits too
pub of_array : (k : Kind) → IsSignature (kind (array k) no_kinds) → IsSignature (kind k no_kinds)
of_array k s = record {
  lawful = s.lawful;
  fits = record { short = omega (arith, s.fits.short); arrays = omega (arith, s.fits.arrays); structs = s.fits.structs };
}

pub of_struct : (ks : Kinds) → IsSignature (kind (structure ks) no_kinds) → IsSignature ks
of_struct no_kinds s = absurd s.lawful.0
of_struct (kind k ks) s = record {
  lawful = s.lawful.0;
  fits = record {
    short = omega (arith, s.fits.short, length-append (signature_bytes (kind k ks)) (41 ∷ []), length-append (signature_bytes (kind k ks) ++ 41 ∷ []) []);
    arrays = omega (arith, s.fits.arrays);
    structs = omega (arith, s.fits.structs);
  };
}

pub of_first : (k : Kind) (ks : Kinds) → IsSignature (kind k ks) → IsSignature (kind k no_kinds) × IsSignature ks
of_first k ks s = (
  record {
    lawful = (s.lawful.0, tt);
    fits = record {
      short = omega (arith, s.fits.short, length-append (type_bytes k) (signature_bytes ks), length-append (type_bytes k) []);
      arrays = omega (arith, s.fits.arrays);
      structs = omega (arith, s.fits.structs);
    };
  },
  record {
    lawful = s.lawful.1;
    fits = record {
      short = omega (arith, s.fits.short, length-append (type_bytes k) (signature_bytes ks));
      arrays = omega (arith, s.fits.arrays);
      structs = omega (arith, s.fits.structs);
    };
  },
)

pub of_entry : (k v : Kind) → IsSignature (kind (dictionary k v) no_kinds) → IsBasic k × IsSignature (kind v no_kinds)
of_entry k v s = (
  s.lawful.0.0,
  record {
    lawful = (s.lawful.0.1, tt);
    fits = record {
      short = omega (arith, s.fits.short, length-append (type_bytes k) (type_bytes v ++ 125 ∷ []), length-append (type_bytes v) (125 ∷ []), length-append (type_bytes k ++ (type_bytes v ++ 125 ∷ [])) [], length-append (type_bytes v) []);
      arrays = omega (arith, s.fits.arrays);
      structs = omega (arith, s.fits.structs);
    };
  },
)

-- several types: the first, and those behind it
pub record Several (codes : List ℕ) (k : Kind) (ks : List Kind) : Type 0 where
  pub first : SpelledOne (take (first_end 0 codes) codes) k
  pub more : Spelled (drop (first_end 0 codes) codes) ks

several_at : (k : Kind) (ks : List Kind) → IsSignature (kind k (kinds_of ks)) → Several (type_bytes k ++ signature_bytes (kinds_of ks)) k ks
several_at k ks s =
    let parts = of_first k (kinds_of ks) s in
    let more = signature_bytes (kinds_of ks) in
    let end : length (type_bytes k) ≡ first_end 0 (type_bytes k ++ more) = sym (first_is k more) in
    record {
      first = record { bytes = take_at (type_bytes k) more (first_end 0 (type_bytes k ++ more)) end; within = parts.0 };
      more = record { bytes = drop_at (type_bytes k) more (first_end 0 (type_bytes k ++ more)) end; within = parts.1 };
    }

-- types that are some: what the codes of the first and those behind it spell
pub record Next (codes first more : List ℕ) : Type 0 where
  pub one : length (kinds_at first) ≡ 1
  pub all : spells more ≡ true
  pub kinds : kinds_at codes ≡ kind_at first ∷ kinds_at more
  pub end : first_end 0 codes ≤ length codes

next_by : (codes : List ℕ) (ks : List Kind) → kinds_at codes ≡ ks → Spelled codes ks → 0 < length codes → Next codes (take (first_end 0 codes) codes) (drop (first_end 0 codes) codes)
next_by codes [] e s lt = absurd (omega (arith, lt, ap length s.bytes))
next_by codes (k ∷ ks) e s lt =
    let t = subst (λ (cs : List ℕ). Several cs k ks) (sym s.bytes) (several_at k ks s.within) in
    let one = one_again (take (first_end 0 codes) codes) k t.first.bytes t.first.within in
    let more = all_again (drop (first_end 0 codes) codes) ks t.more in
    let end : first_end 0 codes ≡ length (type_bytes k) = ap (first_end 0) s.bytes ∙ first_is k (signature_bytes (kinds_of ks)) in
    record {
      one = one.one;
      all = more.0;
      kinds = e ∙ cons_both (sym one.is) (sym more.1);
      end = omega (arith, end, ap length s.bytes, length-append (type_bytes k) (signature_bytes (kinds_of ks)));
    }
  where
    cons_both : {j l : Kind} {js ls : List Kind} → j ≡ l → js ≡ ls → (j ∷ js) ≡ (l ∷ ls)
    cons_both p q = cc

pub next_is : (codes : List ℕ) → spells codes ≡ true → 0 < length codes → Next codes (take (first_end 0 codes) codes) (drop (first_end 0 codes) codes)
next_is codes h lt = next_by codes (kinds_at codes) refl (all_is codes h) lt

-- types are none exactly where their codes are
pub none_spelled : (codes : List ℕ) → spells codes ≡ true → length codes ≡ 0 → kinds_at codes ≡ []
none_spelled codes h e = by (kinds_at codes) (all_is codes h)
  where
    some_bytes : (k : Kind) (ks : List Kind) → Spelled codes (k ∷ ks) → 0 < length (type_bytes k) → ⊥
    some_bytes k ks s lt = omega (arith, e, lt, ap length s.bytes, length-append (type_bytes k) (signature_bytes (kinds_of ks)))

    by : (ks : List Kind) → Spelled codes ks → ks ≡ []
    by [] s = refl
    by (k ∷ ks) s = absurd (some_bytes k ks s (has_codes k))
