-- What the reading of values owes, and faults that stand beside those of values.
use Rattle.std.proofs.Common.{◌≡◌, ℕ, zero, suc, ◌+◌, ◌<◌, ◌≤◌, Bool, true, false, cond, List, [], ◌∷◌, length, Result, Ok, Err, refl, sym, ap, subst, ◌∙◌, arith, inl, inr, ◌⊎◌}
use Rattle.atspi_types.specs.Kinds.{Kind, kinds_of, IsLawful}
use Rattle.atspi_types.specs.Signatures.{signature_bytes, IsSignature}
use Rattle.atspi_types.specs.Data.{Data}
use Rattle.atspi_types.specs.declared.fault.Fault.{Fault}
use Rattle.atspi_marshal.specs.declared.input.Bound.{Bound}
use Rattle.atspi_marshal.specs.Input.{Input}
use Rattle.atspi_types.specs.SignatureReading.{signature_in}
use Rattle.atspi_marshal.specs.Faults.{IsItem, Wrong}
use Rattle.atspi_types.specs.SignatureFaults.{Before}
use Rattle.atspi_marshal.specs.Reading.{◌>>=◌, bad, read}
use Rattle.atspi_marshal.proofs.Places.{IsValid}

-- what is read is spelled so, and the other way; what is wrong is told, the least first
pub record ReadLaws (i : Input) : Type 0 where
  pub sound : (levels : ℕ) (k : Kind) (b : Bound) (at : ℕ) (x : Data × ℕ) → IsLawful k → IsValid i b → read i levels k b at ≡ Ok x → IsItem i levels k b at x.1 x.0 × (at < x.1)
  pub complete : (levels : ℕ) (k : Kind) (b : Bound) (at next : ℕ) (d : Data) → IsLawful k → IsValid i b → IsItem i levels k b at next d → read i levels k b at ≡ Ok (d, next)
  pub there : (levels : ℕ) (k : Kind) (b : Bound) (at : ℕ) (f : Fault) → IsLawful k → IsValid i b → at ≤ b.end → read i levels k b at ≡ Err f → Wrong i levels k b at f.place f.reason
  pub least : (levels : ℕ) (k : Kind) (b : Bound) (at q s : ℕ) → IsLawful k → IsValid i b → at ≤ b.end → Wrong i levels k b at q s → (f : Fault) × (read i levels k b at ≡ Err f) × Before f.place f.reason q s
  pub behind : (levels : ℕ) (k : Kind) (b : Bound) (at q s : ℕ) → Wrong i levels k b at q s → at ≤ q
  pub signature_is : (bytes : List ℕ) (ks : List Kind) → signature_in bytes ≡ Ok ks → (signature_bytes (kinds_of ks) ≡ bytes) × IsSignature (kinds_of ks)
  pub signature_again : (ks : List Kind) → IsSignature (kinds_of ks) → signature_in (signature_bytes (kinds_of ks)) ≡ Ok ks

-- a fault of its own: it is one of these, comes before what reading a value would tell, and stands inside the value
pub record Alone (own : ℕ → ℕ → Type 0) (r : Result (Data × ℕ) Fault) (f : Fault) : Type 0 where
  pub there : own f.place f.reason
  pub before : (g : Fault) → r ≡ Err g → Before f.place f.reason g.place g.reason
  pub inside : (x : Data × ℕ) → r ≡ Ok x → f.place < x.1

-- reading a value would tell the same, or it is a fault of its own
abbrev pub Told : (ℕ → ℕ → Type 0) → Result (Data × ℕ) Fault → Fault → Type 0
Told own r f = (r ≡ Err f) ⊎ Alone own r f

pub told_is : (own : ℕ → ℕ → Type 0) (r s : Result (Data × ℕ) Fault) (f : Fault) → r ≡ s → Told own s f → Told own r f
told_is own r s f e t = subst (λ (z : Result (Data × ℕ) Fault). Told own z f) (sym e) t

-- a step that only makes another value of what was read
pub told_behind : (own : ℕ → ℕ → Type 0) (r : Result (Data × ℕ) Fault) (make : Data → Data) (f : Fault) → Told own r f → Told own (r >>= λ x. Ok (make x.0, x.1)) f
told_behind own (Ok x) make f (inl e) = absurd cc
told_behind own (Err g) make f (inl e) = inl e
told_behind own (Ok x) make f (inr a) = inr (record { there = a.there; before = λ g e. absurd cc; inside = λ y e. let same : x.1 ≡ y.1 = cc in subst (λ (n : ℕ). f.place < n) same (a.inside x refl) })
told_behind own (Err h) make f (inr a) = inr (record { there = a.there; before = λ g e. a.before g (let is : h ≡ g = cc in ap (λ (z : Fault). Err z) is); inside = λ y e. absurd cc })

abbrev pub failed : {A : Type 0} → Fault → Result A Fault
failed f = Err f

pub err_is : {A : Type 0} (f g : Fault) → failed {A = A} f ≡ failed g → f ≡ g
err_is f g e = cc
