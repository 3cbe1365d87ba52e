-- Reading elements and fields one after the other, as loops do.
use Rattle.std.proofs.Common.{◌≡◌, ℕ, zero, suc, ◌-◌, ◌+◌, ◌≤◌, ◌<◌, List, [], ◌∷◌, ◌++◌, Result, Ok, Err, refl, sym, ap, ◌∙◌, append_assoc, arith}
use Rattle.std.proofs.lemmas.List.{append-nil}
use Rattle.std.proofs.lemmas.Bool.{lt-ltb, le-ltb}
use Rattle.atspi_types.specs.Kinds.{Kind}
use Rattle.atspi_types.specs.Data.{Data}
use Rattle.atspi_types.specs.declared.fault.Fault.{Fault}
use Rattle.atspi_types.specs.declared.fault.ReadFault.{ReadFault}
use Rattle.atspi_types.specs.declared.fault.ReadFault.TheVariants as faults
use Rattle.atspi_marshal.specs.Reading.{◌>>=◌, Fails, put_first, elements_at, fields_first, fields_at, struct_of, structs_in}

abbrev pub One : Type 0
One = ℕ → Result (Data × ℕ) Fault

-- what was read before, and what is still read
abbrev pub behind : List Data → Result (List Data) Fault → Result (List Data) Fault
behind front read = read >>= λ xs. Ok (front ++ xs)

regroup : (front : List Data) (d : Data) (read : Result (List Data) Fault) → behind front (read >>= put_first d) ≡ behind (front ++ d ∷ []) read
regroup front d (Ok x) = ap (λ (ds : List Data). Ok ds) (simp append_assoc)
regroup front d (Err f) = refl

pub goes_on : (one : One) (end n i at : ℕ) (front : List Data) (d : Data) (next : ℕ) (total : Result (List Data) Fault) → i < n → at < end → one at ≡ Ok (d, next)
    → behind front (elements_at one end (n - i) at) ≡ total → behind (front ++ d ∷ []) (elements_at one end (n - (i + 1)) next) ≡ total
goes_on one end n i at front d next total lt room h so_far =
    let k : n - i ≡ suc (n - (i + 1)) = omega arith in
    let step : behind front (elements_at one end (n - i) at) ≡ behind (front ++ d ∷ []) (elements_at one end (n - (i + 1)) next) = rw (k, lt-ltb at end room, h) (regroup front d (elements_at one end (n - (i + 1)) next)) in
    sym step ∙ so_far

pub fails_at : (e : ReadFault) (one : One) (end n i at : ℕ) (front : List Data) (total : Result (List Data) Fault) → i < n → at < end → Fails e (one at)
    → behind front (elements_at one end (n - i) at) ≡ total → Fails e total
fails_at faults.NoMemory one end n i at front total lt room h so_far = tt
fails_at (faults.Bad f) one end n i at front total lt room h so_far =
    let k : n - i ≡ suc (n - (i + 1)) = omega arith in
    let step : behind front (elements_at one end (n - i) at) ≡ Err f = rw (k, lt-ltb at end room, h) refl in
    sym so_far ∙ step

pub full : (one : One) (end n at : ℕ) (front : List Data) (total : Result (List Data) Fault) → end ≤ at → behind front (elements_at one end n at) ≡ total → total ≡ Ok front
full one end zero at front total le so_far = sym so_far ∙ ap (λ (ds : List Data). Ok ds) (append-nil front)
full one end (suc n) at front total le so_far =
    let step : behind front (elements_at one end (suc n) at) ≡ Ok front = rw (le-ltb at end le) (ap (λ (ds : List Data). Ok ds) (append-nil front)) in
    sym so_far ∙ step

pub counted : (one : One) (end n i at : ℕ) (front : List Data) (total : Result (List Data) Fault) → n ≤ i → behind front (elements_at one end (n - i) at) ≡ total → total ≡ Ok front
counted one end n i at front total le so_far =
    let k : n - i ≡ 0 = omega arith in
    let step : behind front (elements_at one end (n - i) at) ≡ Ok front = rw k (ap (λ (ds : List Data). Ok ds) (append-nil front)) in
    sym so_far ∙ step

abbrev pub OneOf : Type 0
OneOf = Kind → ℕ → Result (Data × ℕ) Fault

abbrev pub behind_fields : List Data → Result (List Data × ℕ) Fault → Result (List Data × ℕ) Fault
behind_fields front read = read >>= λ x. Ok (front ++ x.0, x.1)

regroup_fields : (front : List Data) (d : Data) (read : Result (List Data × ℕ) Fault) → behind_fields front (read >>= fields_first d) ≡ behind_fields (front ++ d ∷ []) read
regroup_fields front d (Ok x) = ap (λ (ds : List Data). Ok (ds, x.1)) (simp append_assoc)
regroup_fields front d (Err f) = refl

pub field_goes_on : (one : OneOf) (k : Kind) (ks : List Kind) (at : ℕ) (front : List Data) (d : Data) (next : ℕ) (total : Result (List Data × ℕ) Fault) → one k at ≡ Ok (d, next)
    → behind_fields front (fields_at one (k ∷ ks) at) ≡ total → behind_fields (front ++ d ∷ []) (fields_at one ks next) ≡ total
field_goes_on one k ks at front d next total h so_far =
    let step : behind_fields front (fields_at one (k ∷ ks) at) ≡ behind_fields (front ++ d ∷ []) (fields_at one ks next) = rw h (regroup_fields front d (fields_at one ks next)) in
    sym step ∙ so_far

pub field_fails : (e : ReadFault) (one : OneOf) (k : Kind) (ks : List Kind) (at : ℕ) (front : List Data) (total : Result (List Data × ℕ) Fault) → Fails e (one k at)
    → behind_fields front (fields_at one (k ∷ ks) at) ≡ total → Fails e total
field_fails faults.NoMemory one k ks at front total h so_far = tt
field_fails (faults.Bad f) one k ks at front total h so_far =
    let step : behind_fields front (fields_at one (k ∷ ks) at) ≡ Err f = rw h refl in
    sym so_far ∙ step

pub fields_end : (one : OneOf) (at : ℕ) (front : List Data) (total : Result (List Data × ℕ) Fault) → behind_fields front (fields_at one [] at) ≡ total → total ≡ Ok (front, at)
fields_end one at front total so_far = sym so_far ∙ ap (λ (ds : List Data). Ok (ds, at)) (append-nil front)

pub structs_in-append : (ps : List (Data × Data)) (c d : Data) → structs_in (ps ++ (c, d) ∷ []) ≡ structs_in ps ++ struct_of c d ∷ []
structs_in-append [] c d = refl
structs_in-append (p ∷ ps) c d = ap (λ (ds : List Data). struct_of p.0 p.1 ∷ ds) (structs_in-append ps c d)
