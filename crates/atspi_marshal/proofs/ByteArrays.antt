-- An array of bytes is a slice.
use Rattle.std.proofs.Common.{◌≡◌, ℕ, zero, suc, ◌+◌, ◌-◌, ◌<◌, ◌≤◌, Bool, true, false, List, [], ◌∷◌, length, get_or, take, drop, map, Result, Ok, Err, refl, sym, ap, subst, ◌∙◌, arith, inl, inr, ◌⊎◌}
use Rattle.std.specs.Prelude.{IfOk, IfErr}
use Rattle.std.specs.Int.{w8, byte_len}
use Rattle.std.proofs.lemmas.Bool.{lt-ltb, le-ltb, cases_lt}
use Rattle.std.proofs.lemmas.List.{get_or-drop, length-drop}
use Rattle.atspi_types.specs.Kinds.{Num, byte, i16, u16, i32, u32, i64, u64, double, Kind, number, boolean, text, path, signature, array, structure, variant, dictionary}
use Rattle.atspi_types.specs.Data.{Data, number_data}
use Rattle.atspi_types.specs.DataView.{all_data}
use Rattle.atspi_types.specs.declared.value.Values.{Values}
use Rattle.atspi_types.specs.declared.fault.Order.{Order}
use Rattle.atspi_types.specs.declared.fault.Order.TheVariants.{Little, Big}
use Rattle.atspi_types.specs.declared.fault.Fault.{Fault}
use Rattle.atspi_types.specs.declared.fault.ReadFault.{ReadFault}
use Rattle.atspi_types.specs.declared.fault.ReadFault.TheVariants as faults
use Rattle.atspi_marshal.specs.declared.input.Bound.{Bound}
use Rattle.atspi_marshal.specs.Input.{Input, from_bytes, number_in, byte_in, slice_in, aligned}
use Rattle.atspi_marshal.specs.Reading.{◌>>=◌, Gives, put_first, elements_at, number_at, single_at, level, read, is_byte}
use Rattle.atspi_marshal.proofs.Complete.{room_one}
use Rattle.atspi_marshal.proofs.Places.{aligned-one}
use Rattle.atspi_marshal.proofs.Levels.{read_is}

abbrev values_ok : List Data → Result (List Data) Fault
values_ok ds = Ok ds

first_byte : (o : Order) (bytes : List ℕ) → from_bytes o w8 (take 1 bytes) ≡ get_or bytes 0 0
first_byte Little [] = refl
first_byte Little (b ∷ bytes) = refl
first_byte Big [] = refl
first_byte Big (b ∷ bytes) = refl

pub byte_number : (i : Input) (at : ℕ) → number_in i w8 at ≡ byte_in i at
byte_number i at = first_byte i.order (drop at i.bytes) ∙ (get_or-drop at i.bytes 0 0 ∙ ap (λ (m : ℕ). get_or i.bytes m 0) (omega arith))

one_byte : (i : Input) (b : Bound) (at : ℕ) → at + 1 ≤ b.end → number_at i byte b at ≡ Ok (number_data byte (byte_in i at), at + 1)
unfolding number_at
one_byte i b at le = rw (room_one i b at le, byte_number i at) refl

next_slice : (bytes : List ℕ) (at m : ℕ) → at < length bytes → take (suc m) (drop at bytes) ≡ get_or bytes at 0 ∷ take m (drop (at + 1) bytes)
next_slice [] at m lt = absurd (omega arith)
next_slice (b ∷ bytes) zero m lt = refl
next_slice (b ∷ bytes) (suc at) m lt =
    let e : suc at + 1 ≡ suc (at + 1) = omega arith in
    rw e (next_slice bytes at m (omega arith))

abbrev pub IsByteReader : Input → Bound → (ℕ → Result (Data × ℕ) Fault) → Type 0
IsByteReader i b one = (at : ℕ) → one at ≡ number_at i byte b at

pub bytes_elements : (i : Input) (b : Bound) (one : ℕ → Result (Data × ℕ) Fault) → IsByteReader i b one → (fuel at : ℕ) → at ≤ b.end → b.end ≤ length i.bytes → b.end ≤ at + fuel
    → elements_at one b.end fuel at ≡ Ok (map (number_data byte) (slice_in i at (b.end - at)))
bytes_elements i b one is zero at low long high =
    let none : b.end - at ≡ 0 = omega arith in
    rw none refl
bytes_elements i b one is (suc fuel) at low long high =
    elim (cases_lt at b.end) [
      | inl lt ↦
          let again = bytes_elements i b one is fuel (at + 1) (omega arith) long (omega arith) in
          let more : b.end - at ≡ suc (b.end - (at + 1)) = omega arith in
          rw (lt-ltb at b.end lt, is at, one_byte i b at (omega arith), again, more, next_slice i.bytes at (b.end - (at + 1)) (omega arith)) refl
      | inr ge ↦
          let none : b.end - at ≡ 0 = omega arith in
          rw (le-ltb at b.end ge, none) refl
    ]

is_number : (k : Kind) → is_byte k ≡ true → k ≡ number byte
is_number (number byte) e = refl
is_number (number i16) e = absurd cc
is_number (number u16) e = absurd cc
is_number (number i32) e = absurd cc
is_number (number u32) e = absurd cc
is_number (number i64) e = absurd cc
is_number (number u64) e = absurd cc
is_number (number double) e = absurd cc
is_number boolean e = absurd cc
is_number text e = absurd cc
is_number path e = absurd cc
is_number signature e = absurd cc
is_number (array k) e = absurd cc
is_number (structure ks) e = absurd cc
is_number variant e = absurd cc
is_number (dictionary k v) e = absurd cc

pub read_byte : (i : Input) (levels : ℕ) (b : Bound) (at : ℕ) → read i levels (number byte) b at ≡ number_at i byte b at
unfolding level single_at
read_byte i levels b at = read_is i levels (number byte) b at

pub bytes_given : (i : Input) (levels : ℕ) (k : Kind) (b : Bound) (fuel at : ℕ) (r : Result Values ReadFault) → is_byte k ≡ true → at ≤ b.end → b.end ≤ length i.bytes → b.end ≤ at + fuel
    → IfOk r (λ values. all_data values ≡ map (number_data byte) (slice_in i at (b.end - at))) → IfErr r (λ e. e ≡ faults.NoMemory) → Gives all_data r (elements_at (read i levels k b) b.end fuel at)
bytes_given i levels k b fuel at (Ok values) byte_is low long high ok err =
    let all : elements_at (read i levels (number byte) b) b.end fuel at ≡ Ok (map (number_data byte) (slice_in i at (b.end - at))) = bytes_elements i b (read i levels (number byte) b) (read_byte i levels b) fuel at low long high in
    subst (λ (j : Kind). elements_at (read i levels j b) b.end fuel at ≡ values_ok (all_data values)) (sym (is_number k byte_is)) (all ∙ ap (λ (ds : List Data). values_ok ds) (sym ok))
bytes_given i levels k b fuel at (Err faults.NoMemory) byte_is low long high ok err = tt
bytes_given i levels k b fuel at (Err (faults.Bad f)) byte_is low long high ok err = absurd cc
