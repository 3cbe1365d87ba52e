-- Walks over the bytes of a signature that nothing refuses: from a context's bytes to the context, and no other.
use Rattle.std.proofs.Common.{◌≡◌, ℕ, ◌+◌, ◌<◌, ◌≤◌, List, [], ◌∷◌, ◌++◌, false, refl, sym, ap, subst, ◌∙◌, arith, if◌then◌else◌, Some, None, Option, append_assoc, append-nil}
use Rattle.std.specs.Prelude.{nat_le}
use Rattle.std.proofs.lemmas.Bool.{lt-leb}
use Rattle.atspi_types.specs.Kinds.{byte, i16, u16, i32, u32, i64, u64, double, Num, Kind, Kinds, no_kinds, kind, number, boolean, text, path, signature, array, structure, variant, dictionary, kinds_of, types_in, IsBasic, is_basic, IsLawful, AreLawful}
use Rattle.atspi_types.specs.Signatures.{number_code, type_bytes, signature_bytes, array_depths, struct_depths}
use Rattle.atspi_types.specs.SignatureFaults.{code, array_code, struct_open, token_of, Context, at_top, in_array, in_struct, in_entry, front, arrays_open, structs_open, MayCome, BeginsSignature}
use Rattle.atspi_types.specs.SignatureReading.{refusal, type_refusal, with_type, with_token}
use Rattle.atspi_types.proofs.SignatureSteps.{basic_to}
use Rattle.atspi_types.proofs.SignatureFronts.{Fits, goes_on, begins-with_type, open_limits}
use Rattle.atspi_types.proofs.DataLemmas.{kinds_of-types_in}

-- no byte is refused, and the walk comes to a context
abbrev pub Walks : Context → List ℕ → Context → Type 0
Walks c [] to = c ≡ to
Walks c (b ∷ bytes) to = (refusal c (token_of b) ≡ None) × Walks (with_token c (token_of b)) bytes to

pub walks_same : (c : Context) (bytes : List ℕ) (x y : Context) → Walks c bytes x → Walks c bytes y → x ≡ y
walks_same c [] x y g h = sym g ∙ h
walks_same c (b ∷ bytes) x y g h = walks_same (with_token c (token_of b)) bytes x y g.1 h.1

-- what is walked over are the bytes of the context
pub walked : (c : Context) (bytes : List ℕ) (to : Context) → BeginsSignature c → Walks c bytes to → BeginsSignature to × (front to ≡ front c ++ bytes)
walked c [] to h w = (subst BeginsSignature w h, ap front (sym w) ∙ sym (append-nil (front c)))
walked c (b ∷ bytes) to h w =
    let one = goes_on c b h w.0 in
    let rest = walked (with_token c (token_of b)) bytes to one.begins w.1 in
    (rest.0, rest.1 ∙ ap (λ before. before ++ bytes) one.bytes ∙ append_assoc (front c) (b ∷ []) bytes)

-- a type that may come is not refused
not_refused : (c : Context) (k : Kind) → MayCome c k → type_refusal c (is_basic k) None ≡ None
not_refused (at_top ks) k h = refl
not_refused (in_array c) k h = refl
not_refused (in_struct c ks) k h = refl
not_refused (in_entry c []) k h = rw (basic_to k h) refl
not_refused (in_entry c (key ∷ [])) k h = refl
not_refused (in_entry c (key ∷ value ∷ ks)) k h = absurd h

container_not_refused : (c : Context) (n : ℕ) → MayCome c variant → n < 32 → type_refusal c false (if◌then◌else◌ {A = Option ℕ} (nat_le 32 n) (Some 9) None) ≡ None
container_not_refused (at_top ks) n h small = rw (lt-leb 32 n small) refl
container_not_refused (in_array c) n h small = rw (lt-leb 32 n small) refl
container_not_refused (in_struct c ks) n h small = rw (lt-leb 32 n small) refl
container_not_refused (in_entry c []) n h small = absurd h
container_not_refused (in_entry c (key ∷ [])) n h small = rw (lt-leb 32 n small) refl
container_not_refused (in_entry c (key ∷ value ∷ ks)) n h small = absurd h

array_not_refused : (c : Context) → MayCome c variant → arrays_open c < 32 → refusal c array_code ≡ None
unfolding refusal
array_not_refused c h small = container_not_refused c (arrays_open c) h small

struct_not_refused : (c : Context) → MayCome c variant → structs_open c < 32 → refusal c struct_open ≡ None
unfolding refusal
struct_not_refused c h small = container_not_refused c (structs_open c) h small

-- a container may come where a type that is no basic one may
may_contain : (c : Context) (k : Kind) → (IsBasic k → ⊥) → MayCome c k → MayCome c variant
may_contain (at_top ks) k never h = tt
may_contain (in_array c) k never h = tt
may_contain (in_struct c ks) k never h = tt
may_contain (in_entry c []) k never h = never h
may_contain (in_entry c (key ∷ [])) k never h = tt
may_contain (in_entry c (key ∷ value ∷ ks)) k never h = absurd h

-- a list of types, behind others of a struct or of a signature
abbrev pub with_types : Context → Kinds → Context
with_types c no_kinds = c
with_types c (kind k ks) = with_types (with_type c k) ks

abbrev pub IsList : Context → Type 0
IsList (at_top ks) = Unit {0}
IsList (in_array c) = ⊥
IsList (in_struct c ks) = Unit {0}
IsList (in_entry c ks) = ⊥

list_takes : (c : Context) (k : Kind) → IsList c → MayCome c k
list_takes (at_top ks) k h = tt
list_takes (in_array c) k h = absurd h
list_takes (in_struct c ks) k h = tt
list_takes (in_entry c ks) k h = absurd h

still_list : (c : Context) (k : Kind) → IsList c → IsList (with_type c k)
still_list (at_top ks) k h = tt
still_list (in_array c) k h = absurd h
still_list (in_struct c ks) k h = tt
still_list (in_entry c ks) k h = absurd h

list_open : (c : Context) (k : Kind) → IsList c → (arrays_open (with_type c k) ≡ arrays_open c) × (structs_open (with_type c k) ≡ structs_open c)
list_open (at_top ks) k h = (refl, refl)
list_open (in_array c) k h = absurd h
list_open (in_struct c ks) k h = (refl, refl)
list_open (in_entry c ks) k h = absurd h

pub with_types-in_struct : (c : Context) (done : List Kind) (ks : Kinds) → with_types (in_struct c done) ks ≡ in_struct c (done ++ types_in ks)
with_types-in_struct c done no_kinds = ap (in_struct c) (sym (append-nil done))
with_types-in_struct c done (kind k ks) = with_types-in_struct c (done ++ k ∷ []) ks ∙ ap (in_struct c) (append_assoc done (k ∷ []) (types_in ks))

pub with_types-at_top : (done : List Kind) (ks : Kinds) → with_types (at_top done) ks ≡ at_top (done ++ types_in ks)
with_types-at_top done no_kinds = ap at_top (sym (append-nil done))
with_types-at_top done (kind k ks) = with_types-at_top (done ++ k ∷ []) ks ∙ ap at_top (append_assoc done (k ∷ []) (types_in ks))

-- a type of one byte
one_byte : (c : Context) (k : Kind) (b : ℕ) (rest : List ℕ) (to : Context) → token_of b ≡ code k → MayCome c k → Walks (with_type c k) rest to → Walks c (b ∷ rest) to
unfolding refusal with_token
one_byte c k b rest to e h w = rw e (not_refused c k h, w)

number_byte : (c : Context) (n : Num) (rest : List ℕ) (to : Context) → MayCome c (number n) → Walks (with_type c (number n)) rest to → Walks c (number_code n ∷ rest) to
unfolding token_of
number_byte c byte rest to h w = one_byte c (number byte) 121 rest to refl h w
number_byte c i16 rest to h w = one_byte c (number i16) 110 rest to refl h w
number_byte c u16 rest to h w = one_byte c (number u16) 113 rest to refl h w
number_byte c i32 rest to h w = one_byte c (number i32) 105 rest to refl h w
number_byte c u32 rest to h w = one_byte c (number u32) 117 rest to refl h w
number_byte c i64 rest to h w = one_byte c (number i64) 120 rest to refl h w
number_byte c u64 rest to h w = one_byte c (number u64) 116 rest to refl h w
number_byte c double rest to h w = one_byte c (number double) 100 rest to refl h w

-- the bytes that open and close containers
pub open_array : (c : Context) (rest : List ℕ) (to : Context) → MayCome c variant → arrays_open c < 32 → Walks (in_array c) rest to → Walks c (97 ∷ rest) to
unfolding token_of with_token
open_array c rest to h small w = (array_not_refused c h small, w)

pub open_struct : (c : Context) (rest : List ℕ) (to : Context) → MayCome c variant → structs_open c < 32 → Walks (in_struct c []) rest to → Walks c (40 ∷ rest) to
unfolding token_of with_token
open_struct c rest to h small w = (struct_not_refused c h small, w)

pub open_entry : (c : Context) (rest : List ℕ) (to : Context) → Walks (in_entry c []) rest to → Walks (in_array c) (123 ∷ rest) to
unfolding token_of with_token refusal
open_entry c rest to w = (refl, w)

close_struct : (c : Context) (k : Kind) (ks : List Kind) (rest : List ℕ) (to : Context) → Walks (with_type c (structure (kinds_of (k ∷ ks)))) rest to → Walks (in_struct c (k ∷ ks)) (41 ∷ rest) to
unfolding token_of with_token refusal
close_struct c k ks rest to w = (refl, w)

close_entry : (c : Context) (key value : Kind) (rest : List ℕ) (to : Context) → Walks (with_type c (dictionary key value)) rest to → Walks (in_entry c (key ∷ value ∷ [])) (125 ∷ rest) to
unfolding token_of with_token refusal
close_entry c key value rest to w = (refl, w)

array_begins : (c : Context) → BeginsSignature c → MayCome c variant → arrays_open c < 32 → BeginsSignature (in_array c)
array_begins c h may small = (h, may, record { lawful = tt; arrays = omega (arith, small); structs = omega (arith, (open_limits c h).1) })

struct_begins : (c : Context) → BeginsSignature c → MayCome c variant → structs_open c < 32 → BeginsSignature (in_struct c [])
struct_begins c h may small = (h, may, record { lawful = tt; arrays = omega (arith, (open_limits c h).0); structs = omega (arith, small) })

entry_begins : (c : Context) → BeginsSignature c → MayCome c variant → arrays_open c < 32 → BeginsSignature (in_entry c [])
entry_begins c h may small = (h, may, record { lawful = tt; arrays = omega (arith, small); structs = omega (arith, (open_limits c h).1) }, tt)

basic_lawful : (k : Kind) → IsBasic k → IsLawful k
basic_lawful (number n) h = tt
basic_lawful boolean h = tt
basic_lawful text h = tt
basic_lawful path h = tt
basic_lawful signature h = tt
basic_lawful (array k) h = absurd h
basic_lawful (structure ks) h = absurd h
basic_lawful variant h = absurd h
basic_lawful (dictionary k v) h = absurd h

-- the bytes of a type that may come and fits
mutual
  unfolding token_of

  pub walks_type : (k : Kind) (c : Context) (rest : List ℕ) (to : Context) → BeginsSignature c → MayCome c k → Fits c k → Walks (with_type c k) rest to → Walks c (type_bytes k ++ rest) to
  walks_type (number n) c rest to h may fits w = number_byte c n rest to may w
  walks_type boolean c rest to h may fits w = one_byte c boolean 98 rest to refl may w
  walks_type text c rest to h may fits w = one_byte c text 115 rest to refl may w
  walks_type path c rest to h may fits w = one_byte c path 111 rest to refl may w
  walks_type signature c rest to h may fits w = one_byte c signature 103 rest to refl may w
  walks_type variant c rest to h may fits w = one_byte c variant 118 rest to refl may w
  walks_type (array k) c rest to h may fits w =
      let contains = may_contain c (array k) (λ never. never) may in
      let small : arrays_open c < 32 = omega (arith, fits.arrays) in
      open_array c (type_bytes k ++ rest) to contains small
      (walks_type k (in_array c) rest to (array_begins c h contains small) tt (record { lawful = fits.lawful; arrays = omega (arith, fits.arrays); structs = fits.structs }) w)
  walks_type (structure no_kinds) c rest to h may fits w = absurd fits.lawful
  walks_type (structure (kind k ks)) c rest to h may fits w =
      let contains = may_contain c (structure (kind k ks)) (λ never. never) may in
      let small : structs_open c < 32 = omega (arith, fits.structs) in
      let closed : Walks (in_struct c (types_in (kind k ks))) (41 ∷ rest) to = close_struct c k (types_in ks) rest to (rw (kinds_of-types_in ks) w) in
      let fields = walks_types (kind k ks) (in_struct c []) (41 ∷ rest) to tt (struct_begins c h contains small) fits.lawful fits.arrays (omega (arith, fits.structs)) (rw (with_types-in_struct c [] (kind k ks)) closed) in
      open_struct c ((signature_bytes (kind k ks) ++ 41 ∷ []) ++ rest) to contains small (rw (append_assoc (signature_bytes (kind k ks)) (41 ∷ []) rest) fields)
  walks_type (dictionary key value) c rest to h may fits w =
      let contains = may_contain c (dictionary key value) (λ never. never) may in
      let small : arrays_open c < 32 = omega (arith, fits.arrays) in
      let empty = entry_begins c h contains small in
      let key_fits : Fits (in_entry c []) key = record { lawful = basic_lawful key fits.lawful.0; arrays = omega (arith, fits.arrays); structs = omega (arith, fits.structs) } in
      let begun = begins-with_type (in_entry c []) key empty fits.lawful.0 key_fits in
      let value_fits : Fits (in_entry c (key ∷ [])) value = record { lawful = fits.lawful.1; arrays = omega (arith, fits.arrays); structs = omega (arith, fits.structs) } in
      let behind_value = walks_type value (in_entry c (key ∷ [])) (125 ∷ rest) to begun tt value_fits (close_entry c key value rest to w) in
      let behind_key = walks_type key (in_entry c []) (type_bytes value ++ (125 ∷ rest)) to empty fits.lawful.0 key_fits behind_value in
      open_array c (123 ∷ ((type_bytes key ++ (type_bytes value ++ 125 ∷ [])) ++ rest)) to contains small (open_entry c ((type_bytes key ++ (type_bytes value ++ 125 ∷ [])) ++ rest) to
      (rw (append_assoc (type_bytes key) (type_bytes value ++ 125 ∷ []) rest, append_assoc (type_bytes value) (125 ∷ []) rest) behind_key))

  pub walks_types : (ks : Kinds) (c : Context) (rest : List ℕ) (to : Context) → IsList c → BeginsSignature c → AreLawful ks → arrays_open c + array_depths ks ≤ 32 → structs_open c + struct_depths ks ≤ 32 → Walks (with_types c ks) rest to → Walks c (signature_bytes ks ++ rest) to
  walks_types no_kinds c rest to list h lawful arrays structs w = w
  walks_types (kind k ks) c rest to list h lawful arrays structs w =
      let fits : Fits c k = record { lawful = lawful.0; arrays = omega (arith, arrays); structs = omega (arith, structs) } in
      let may = list_takes c k list in
      let same = list_open c k list in
      let later = walks_types ks (with_type c k) rest to (still_list c k list) (begins-with_type c k h may fits) lawful.1 (omega (arith, arrays, same.0)) (omega (arith, structs, same.1)) w in
      rw (append_assoc (type_bytes k) (signature_bytes ks) rest) (walks_type k c (signature_bytes ks ++ rest) to h may fits later)
