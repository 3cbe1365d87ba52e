-- The values of a body, read as the fields of its types.
use Rattle.std.proofs.Common.{◌≡◌, ℕ, suc, ◌≤◌, ◌<◌, List, [], ◌∷◌, length, Result, Ok, Err, refl, sym, ap, ◌∙◌, arith}
use Rattle.std.proofs.lemmas.Bool.{lt-ltb, le-ltb}
use Rattle.atspi_types.specs.Kinds.{Kind, kinds_of}
use Rattle.atspi_types.specs.Data.{Data}
use Rattle.atspi_types.specs.declared.fault.Fault.{Fault}
use Rattle.atspi_types.specs.declared.fault.Order.{Order}
use Rattle.atspi_marshal.specs.Input.{whole, to_end}
use Rattle.atspi_marshal.specs.Reading.{◌>>=◌}
use Rattle.atspi_marshal_in_place.specs.declared.cursor.Fields.{Fields}
use Rattle.atspi_marshal_in_place.specs.Items.{fields_read}
use Rattle.atspi_marshal_in_place.specs.Passing.{read_all}
use Rattle.atspi_message.specs.Front.{order_in, input_in}
use Rattle.atspi_message.specs.inner.Reading.{nothing_left, values_at}
use Rattle.atspi_message.proofs.Loops.{values_some}

-- a body without types has no bytes; then it is read as the fields of no types
pub values_are : (bytes : List ℕ) (ks : List Kind) (p : ℕ) → (ks ≡ [] → length bytes ≤ p) → values_at bytes (kinds_of ks) p ≡ (read_all (input_in bytes) 64 ks (to_end bytes) p >>= nothing_left bytes)
values_are bytes [] p none = rw (le-ltb p (length bytes) (none refl)) refl
values_are bytes (k ∷ ks) p none = values_some bytes (k ∷ ks) p (some (length ks))
  where
    some : (n : ℕ) → 0 < suc n
    some n = omega arith

pub values_read : (bytes : List ℕ) (ks : List Kind) (p : ℕ) (o : Order) (r : Result (Fields × ℕ) Fault) → o ≡ order_in bytes → (ks ≡ [] → length bytes ≤ p)
    → fields_read r ≡ read_all (whole o bytes) 64 ks (to_end bytes) p → values_at bytes (kinds_of ks) p ≡ (fields_read r >>= nothing_left bytes)
values_read bytes ks p o r order_is none e =
    let same : fields_read r ≡ read_all (input_in bytes) 64 ks (to_end bytes) p = e ∙ ap (λ (q : Order). read_all (whole q bytes) 64 ks (to_end bytes) p) order_is in
    values_are bytes ks p none ∙ sym (ap (λ (x : Result (List Data × ℕ) Fault). x >>= nothing_left bytes) same)

-- bytes are left behind the last value, or none
pub left_over : (bytes : List ℕ) (ds : List Data) (next : ℕ) (f : Fault) (r : Result (List Data) Fault) → next < length bytes → f ≡ record { place = next; reason = 21 } → r ≡ nothing_left bytes (ds, next) → r ≡ Err f
left_over bytes ds next f r left is e = e ∙ rw (lt-ltb next (length bytes) left, is) refl

pub none_left : (bytes : List ℕ) (ds : List Data) (next : ℕ) (r : Result (List Data) Fault) → length bytes ≤ next → r ≡ nothing_left bytes (ds, next) → r ≡ Ok ds
none_left bytes ds next r none e = e ∙ rw (le-ltb next (length bytes) none) refl
