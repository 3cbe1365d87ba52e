-- Reading the fields one after the other, as the loop does, and the values of a body.
use Rattle.std.proofs.Common.{◌≡◌, ℕ, zero, suc, ◌+◌, ◌-◌, ◌<◌, ◌≤◌, List, [], ◌∷◌, length, Result, Ok, Err, refl, sym, ap, ◌∙◌, arith}
use Rattle.std.proofs.lemmas.Bool.{lt-ltb, le-ltb}
use Rattle.atspi_types.specs.Kinds.{Kind, kinds_of, types_in}
use Rattle.atspi_types.specs.declared.fault.Fault.{Fault}
use Rattle.atspi_types.specs.declared.fault.ReadFault.{ReadFault}
use Rattle.atspi_types.specs.declared.fault.ReadFault.TheVariants as faults
use Rattle.atspi_marshal.specs.declared.input.Bound.{Bound}
use Rattle.atspi_marshal.specs.Input.{Input}
use Rattle.atspi_marshal.specs.Reading.{◌>>=◌, Fails}
use Rattle.atspi_marshal.proofs.Places.{done}
use Rattle.atspi_message.specs.inner.Reading.{Found, field_at, all_fields_at, some_values_at, values_at}

pub goes_on : (i : Input) (b : Bound) (n k at : ℕ) (found after : Found) (next : ℕ) (total : Result Found Fault) → k < n → at < b.end → field_at i b found at ≡ Ok (after, next)
    → all_fields_at i b (n - k) found at ≡ total → all_fields_at i b (n - (k + 1)) after next ≡ total
goes_on i b n k at found after next total lt room h so_far =
    let more : n - k ≡ suc (n - (k + 1)) = omega arith in
    let step : all_fields_at i b (n - k) found at ≡ all_fields_at i b (n - (k + 1)) after next = rw (more, lt-ltb at b.end room, h) refl in
    sym step ∙ so_far

pub fails_at : (e : ReadFault) (i : Input) (b : Bound) (n k at : ℕ) (found : Found) (total : Result Found Fault) → k < n → at < b.end → Fails e (field_at i b found at) → all_fields_at i b (n - k) found at ≡ total → Fails e total
fails_at faults.NoMemory i b n k at found total lt room h so_far = tt
fails_at (faults.Bad f) i b n k at found total lt room h so_far =
    let more : n - k ≡ suc (n - (k + 1)) = omega arith in
    let step : all_fields_at i b (n - k) found at ≡ Err f = rw (more, lt-ltb at b.end room, h) refl in
    sym so_far ∙ step

pub full : (i : Input) (b : Bound) (n at : ℕ) (found : Found) (total : Result Found Fault) → b.end ≤ at → all_fields_at i b n found at ≡ total → total ≡ Ok found
full i b zero at found total le so_far = sym so_far
full i b (suc n) at found total le so_far =
    let step : all_fields_at i b (suc n) found at ≡ Ok found = rw (le-ltb at b.end le) refl in
    sym so_far ∙ step

pub counted : (i : Input) (b : Bound) (n k at : ℕ) (found : Found) (total : Result Found Fault) → n ≤ k → all_fields_at i b (n - k) found at ≡ total → total ≡ Ok found
counted i b n k at found total le so_far =
    let none : n - k ≡ 0 = omega arith in
    let step : all_fields_at i b (n - k) found at ≡ Ok found = rw none refl in
    sym so_far ∙ step

same_types : (ks : List Kind) → types_in (kinds_of ks) ≡ ks
same_types [] = refl
same_types (k ∷ ks) = ap (λ (js : List Kind). k ∷ js) (same_types ks)

-- the values of some types
pub values_some : (bytes : List ℕ) (ks : List Kind) (p : ℕ) → 0 < length ks → values_at bytes (kinds_of ks) p ≡ some_values_at bytes ks p
values_some bytes [] p some = absurd (omega (arith, some))
values_some bytes (k ∷ ks) p some = ap (λ (js : List Kind). some_values_at bytes (k ∷ js) p) (same_types ks)
