-- The tests of types and values say the same as the definitions.
use Rattle.std.proofs.Common.{◌≡◌, ℕ, Bool, true, false, refl, ap, subst, sym, arith}
use Rattle.std.specs.Prelude.{◌&&◌, ◌==◌}
use Rattle.std.proofs.lemmas.Bool.Decides.{nat_tests}
use Rattle.std.proofs.lemmas.Bool.{and_parts, and_from}
use Rattle.atspi_types.specs.Kinds.{Num, byte, i16, u16, i32, u32, i64, u64, double, Kind, Kinds, no_kinds, kind, number, boolean, text, path, signature, array, structure, variant, dictionary, is_basic, is_lawful, IsBasic, IsLawful}
use Rattle.atspi_types.specs.Signatures.{number_code}
use Rattle.atspi_types.specs.SignatureFaults.{Token, code, token_of}
use Rattle.atspi_types.specs.Data.{Data, number_data, boolean_data, text_data, path_data, signature_data, array_data, structure_data, dictionary_data, variant_data, Items, no_items, item, Entries, no_entries, entry, type_of, IsWellTyped, AreWellTyped, AllHaveType, AllHaveTypes}
use Rattle.atspi_types.specs.WellTyped.{same_kind, same_kinds, is_well_typed, are_well_typed, all_have_type, all_have_types}
use Rattle.atspi_types.proofs.SignatureSteps.{basic_from, basic_to}
use Rattle.atspi_types.proofs.SignatureLaws.{lawful_from, lawful_to}
use Rattle.atspi_types.proofs.Verdicts.{apart}

num_token : (n : Num) → token_of (number_code n) ≡ code (number n)
unfolding token_of
num_token byte = refl
num_token i16 = refl
num_token u16 = refl
num_token i32 = refl
num_token u32 = refl
num_token i64 = refl
num_token u64 = refl
num_token double = refl

num_from : (n m : Num) → number_code n ≡ number_code m → n ≡ m
num_from n m e =
    let p = num_token n in
    let q = num_token m in
    let t : token_of (number_code n) ≡ token_of (number_code m) = ap token_of e in
    let same : code (number n) ≡ code (number m) = cc in
    cc

eqb-true : (a b : ℕ) → (a == b) ≡ true → a ≡ b
eqb-true a b e = grind (arith, nat_tests)

eqb-same : (a : ℕ) → (a == a) ≡ true
eqb-same a = grind (arith, nat_tests)

ap2 : (f : Kind → Kind → Kind) {a b c d : Kind} → a ≡ b → c ≡ d → f a c ≡ f b d
ap2 f p q = cc

-- the same types
mutual
  pub same_from : (k l : Kind) → same_kind k l ≡ true → k ≡ l
  same_from (number n) (number m) e = ap number (num_from n m (eqb-true (number_code n) (number_code m) e))
  same_from (number _) boolean e = absurd (apart e)
  same_from (number _) text e = absurd (apart e)
  same_from (number _) path e = absurd (apart e)
  same_from (number _) signature e = absurd (apart e)
  same_from (number _) (array _) e = absurd (apart e)
  same_from (number _) (structure _) e = absurd (apart e)
  same_from (number _) variant e = absurd (apart e)
  same_from (number _) (dictionary _ _) e = absurd (apart e)
  same_from boolean (number _) e = absurd (apart e)
  same_from boolean boolean e = refl
  same_from boolean text e = absurd (apart e)
  same_from boolean path e = absurd (apart e)
  same_from boolean signature e = absurd (apart e)
  same_from boolean (array _) e = absurd (apart e)
  same_from boolean (structure _) e = absurd (apart e)
  same_from boolean variant e = absurd (apart e)
  same_from boolean (dictionary _ _) e = absurd (apart e)
  same_from text (number _) e = absurd (apart e)
  same_from text boolean e = absurd (apart e)
  same_from text text e = refl
  same_from text path e = absurd (apart e)
  same_from text signature e = absurd (apart e)
  same_from text (array _) e = absurd (apart e)
  same_from text (structure _) e = absurd (apart e)
  same_from text variant e = absurd (apart e)
  same_from text (dictionary _ _) e = absurd (apart e)
  same_from path (number _) e = absurd (apart e)
  same_from path boolean e = absurd (apart e)
  same_from path text e = absurd (apart e)
  same_from path path e = refl
  same_from path signature e = absurd (apart e)
  same_from path (array _) e = absurd (apart e)
  same_from path (structure _) e = absurd (apart e)
  same_from path variant e = absurd (apart e)
  same_from path (dictionary _ _) e = absurd (apart e)
  same_from signature (number _) e = absurd (apart e)
  same_from signature boolean e = absurd (apart e)
  same_from signature text e = absurd (apart e)
  same_from signature path e = absurd (apart e)
  same_from signature signature e = refl
  same_from signature (array _) e = absurd (apart e)
  same_from signature (structure _) e = absurd (apart e)
  same_from signature variant e = absurd (apart e)
  same_from signature (dictionary _ _) e = absurd (apart e)
  same_from (array _) (number _) e = absurd (apart e)
  same_from (array _) boolean e = absurd (apart e)
  same_from (array _) text e = absurd (apart e)
  same_from (array _) path e = absurd (apart e)
  same_from (array _) signature e = absurd (apart e)
  same_from (array k) (array l) e = ap array (same_from k l e)
  same_from (array _) (structure _) e = absurd (apart e)
  same_from (array _) variant e = absurd (apart e)
  same_from (array _) (dictionary _ _) e = absurd (apart e)
  same_from (structure _) (number _) e = absurd (apart e)
  same_from (structure _) boolean e = absurd (apart e)
  same_from (structure _) text e = absurd (apart e)
  same_from (structure _) path e = absurd (apart e)
  same_from (structure _) signature e = absurd (apart e)
  same_from (structure _) (array _) e = absurd (apart e)
  same_from (structure ks) (structure ls) e = ap structure (all_same_from ks ls e)
  same_from (structure _) variant e = absurd (apart e)
  same_from (structure _) (dictionary _ _) e = absurd (apart e)
  same_from variant (number _) e = absurd (apart e)
  same_from variant boolean e = absurd (apart e)
  same_from variant text e = absurd (apart e)
  same_from variant path e = absurd (apart e)
  same_from variant signature e = absurd (apart e)
  same_from variant (array _) e = absurd (apart e)
  same_from variant (structure _) e = absurd (apart e)
  same_from variant variant e = refl
  same_from variant (dictionary _ _) e = absurd (apart e)
  same_from (dictionary _ _) (number _) e = absurd (apart e)
  same_from (dictionary _ _) boolean e = absurd (apart e)
  same_from (dictionary _ _) text e = absurd (apart e)
  same_from (dictionary _ _) path e = absurd (apart e)
  same_from (dictionary _ _) signature e = absurd (apart e)
  same_from (dictionary _ _) (array _) e = absurd (apart e)
  same_from (dictionary _ _) (structure _) e = absurd (apart e)
  same_from (dictionary _ _) variant e = absurd (apart e)
  same_from (dictionary k v) (dictionary l w) e = let both = and_parts (same_kind k l) (same_kind v w) e in ap2 dictionary (same_from k l both.0) (same_from v w both.1)

  pub all_same_from : (ks ls : Kinds) → same_kinds ks ls ≡ true → ks ≡ ls
  all_same_from no_kinds no_kinds e = refl
  all_same_from no_kinds (kind _ _) e = absurd (apart e)
  all_same_from (kind _ _) no_kinds e = absurd (apart e)
  all_same_from (kind k ks) (kind l ls) e =
      let both = and_parts (same_kind k l) (same_kinds ks ls) e in
      let p : k ≡ l = same_from k l both.0 in
      let q : ks ≡ ls = all_same_from ks ls both.1 in
      cc

mutual
  same_self : (k : Kind) → same_kind k k ≡ true
  same_self (number n) = eqb-same (number_code n)
  same_self boolean = refl
  same_self text = refl
  same_self path = refl
  same_self signature = refl
  same_self (array k) = same_self k
  same_self (structure ks) = all_same_self ks
  same_self variant = refl
  same_self (dictionary k v) = and_from (same_kind k k) (same_kind v v) (same_self k) (same_self v)

  all_same_self : (ks : Kinds) → same_kinds ks ks ≡ true
  all_same_self no_kinds = refl
  all_same_self (kind k ks) = and_from (same_kind k k) (same_kinds ks ks) (same_self k) (all_same_self ks)

pub same_to : (k l : Kind) → k ≡ l → same_kind k l ≡ true
same_to k l e = let P : Kind → Type 0 = λ m. same_kind k m ≡ true in subst P e (same_self k)

-- well-typed values
mutual
  pub typed_from : (d : Data) → is_well_typed d ≡ true → IsWellTyped d
  typed_from (number_data n x) e = tt
  typed_from (boolean_data b) e = tt
  typed_from (text_data cs) e = tt
  typed_from (path_data bs) e = tt
  typed_from (signature_data ks) e = tt
  typed_from (array_data k ds) e = let both = and_parts (is_lawful k) (all_have_type k ds) e in (lawful_from k both.0, as_from k ds both.1)
  typed_from (structure_data no_items) e = absurd (apart e)
  typed_from (structure_data (item d ds)) e = let both = and_parts (is_well_typed d) (are_well_typed ds) e in (typed_from d both.0, all_typed_from ds both.1)
  typed_from (dictionary_data k v es) e =
      let key = and_parts (is_basic k) (is_lawful v && all_have_types k v es) e in
      let value = and_parts (is_lawful v) (all_have_types k v es) key.1 in
      (basic_from k key.0, lawful_from v value.0, entries_from k v es value.1)
  typed_from (variant_data k d) e =
      let lawful = and_parts (is_lawful k) (same_kind (type_of d) k && is_well_typed d) e in
      let same = and_parts (same_kind (type_of d) k) (is_well_typed d) lawful.1 in
      (lawful_from k lawful.0, same_from (type_of d) k same.0, typed_from d same.1)

  pub all_typed_from : (ds : Items) → are_well_typed ds ≡ true → AreWellTyped ds
  all_typed_from no_items e = tt
  all_typed_from (item d ds) e = let both = and_parts (is_well_typed d) (are_well_typed ds) e in (typed_from d both.0, all_typed_from ds both.1)

  as_from : (k : Kind) (ds : Items) → all_have_type k ds ≡ true → AllHaveType k ds
  as_from k no_items e = tt
  as_from k (item d ds) e =
      let same = and_parts (same_kind (type_of d) k) (is_well_typed d && all_have_type k ds) e in
      let rest = and_parts (is_well_typed d) (all_have_type k ds) same.1 in
      (same_from (type_of d) k same.0, typed_from d rest.0, as_from k ds rest.1)

  entries_from : (k v : Kind) (es : Entries) → all_have_types k v es ≡ true → AllHaveTypes k v es
  entries_from k v no_entries e = tt
  entries_from k v (entry c d es) e =
      let a = and_parts (same_kind (type_of c) k) (same_kind (type_of d) v && (is_well_typed c && (is_well_typed d && all_have_types k v es))) e in
      let b = and_parts (same_kind (type_of d) v) (is_well_typed c && (is_well_typed d && all_have_types k v es)) a.1 in
      let f = and_parts (is_well_typed c) (is_well_typed d && all_have_types k v es) b.1 in
      let g = and_parts (is_well_typed d) (all_have_types k v es) f.1 in
      (same_from (type_of c) k a.0, same_from (type_of d) v b.0, typed_from c f.0, typed_from d g.0, entries_from k v es g.1)

mutual
  pub typed_to : (d : Data) → IsWellTyped d → is_well_typed d ≡ true
  typed_to (number_data n x) h = refl
  typed_to (boolean_data b) h = refl
  typed_to (text_data cs) h = refl
  typed_to (path_data bs) h = refl
  typed_to (signature_data ks) h = refl
  typed_to (array_data k ds) h = and_from (is_lawful k) (all_have_type k ds) (lawful_to k h.0) (as_to k ds h.1)
  typed_to (structure_data no_items) h = absurd h
  typed_to (structure_data (item d ds)) h = and_from (is_well_typed d) (are_well_typed ds) (typed_to d h.0) (all_typed_to ds h.1)
  typed_to (dictionary_data k v es) h =
      and_from (is_basic k) (is_lawful v && all_have_types k v es) (basic_to k h.0) (and_from (is_lawful v) (all_have_types k v es) (lawful_to v h.1) (entries_to k v es h.2))
  typed_to (variant_data k d) h =
      and_from (is_lawful k) (same_kind (type_of d) k && is_well_typed d) (lawful_to k h.0) (and_from (same_kind (type_of d) k) (is_well_typed d) (same_to (type_of d) k h.1) (typed_to d h.2))

  pub all_typed_to : (ds : Items) → AreWellTyped ds → are_well_typed ds ≡ true
  all_typed_to no_items h = refl
  all_typed_to (item d ds) h = and_from (is_well_typed d) (are_well_typed ds) (typed_to d h.0) (all_typed_to ds h.1)

  as_to : (k : Kind) (ds : Items) → AllHaveType k ds → all_have_type k ds ≡ true
  as_to k no_items h = refl
  as_to k (item d ds) h =
      and_from (same_kind (type_of d) k) (is_well_typed d && all_have_type k ds) (same_to (type_of d) k h.0) (and_from (is_well_typed d) (all_have_type k ds) (typed_to d h.1) (as_to k ds h.2))

  entries_to : (k v : Kind) (es : Entries) → AllHaveTypes k v es → all_have_types k v es ≡ true
  entries_to k v no_entries h = refl
  entries_to k v (entry c d es) h =
      and_from (same_kind (type_of c) k) (same_kind (type_of d) v && (is_well_typed c && (is_well_typed d && all_have_types k v es))) (same_to (type_of c) k h.0)
      (and_from (same_kind (type_of d) v) (is_well_typed c && (is_well_typed d && all_have_types k v es)) (same_to (type_of d) v h.1)
      (and_from (is_well_typed c) (is_well_typed d && all_have_types k v es) (typed_to c h.2) (and_from (is_well_typed d) (all_have_types k v es) (typed_to d h.3) (entries_to k v es h.4))))
