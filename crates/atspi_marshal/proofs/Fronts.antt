-- No spelling of a value is a proper front of another of its kind: both are what is read at their place.
use Rattle.std.proofs.Common.{◌≡◌, ℕ, ◌+◌, ◌-◌, ◌≤◌, List, [], ◌∷◌, ◌++◌, length, take, drop, Ok, refl, sym, ap, subst, ◌∙◌, arith}
use Rattle.std.proofs.lemmas.List.{take_at, drop_at, length-append, append-nil}
use Rattle.atspi_types.specs.Kinds.{Kind, IsLawful}
use Rattle.atspi_types.specs.Data.{Data}
use Rattle.atspi_types.specs.declared.fault.Order.{Order}
use Rattle.atspi_marshal.specs.declared.input.Bound.{Bound}
use Rattle.atspi_marshal.specs.Input.{Input, Stands, whole, to_end}
use Rattle.atspi_marshal.specs.Spelling.{zeros, spelling, Fits}
use Rattle.atspi_marshal.specs.Faults.{IsItem}
use Rattle.atspi_marshal.specs.Laws.{NoFrontOfAnother, IsReadAgain}
use Rattle.atspi_marshal.proofs.Places.{IsValid, length-zeros, ok_is}
use Rattle.atspi_marshal.proofs.Complete.{IsComplete-read}

pub read_again : IsReadAgain
read_again o k d front behind lawful fits =
    let at = length front in
    let s = spelling o at d in
    let there : take (length s) (drop at (front ++ (s ++ behind))) ≡ s = ap (λ (bs : List ℕ). take (length s) bs) (drop_at front (s ++ behind) at refl) ∙ take_at s behind (length s) refl in
    record { fits = fits; stands = (refl, there); within = omega (arith, length-append front (s ++ behind), length-append s behind) }

-- the same behind as many zero bytes as a place counts
placed : (o : Order) (at : ℕ) (k : Kind) (d : Data) (behind : List ℕ) → IsLawful k → Fits o 64 at d k
    → IsItem (whole o (zeros at ++ (spelling o at d ++ behind))) 64 k (to_end (zeros at ++ (spelling o at d ++ behind))) at (at + length (spelling o at d)) d
placed o at k d behind lawful fits =
    subst (λ (n : ℕ). IsItem (whole o (zeros at ++ (spelling o n d ++ behind))) 64 k (to_end (zeros at ++ (spelling o n d ++ behind))) n (n + length (spelling o n d)) d) (length-zeros at)
    (read_again o k d (zeros at) behind lawful (subst (λ (n : ℕ). Fits o 64 n d k) (sym (length-zeros at)) fits))

pub no_front : NoFrontOfAnother
no_front o at k d e more lawful fits_d fits_e same =
    let s = spelling o at d in
    let t = spelling o at e in
    let bytes = zeros at ++ (s ++ more) in
    let i = whole o bytes in
    let b = to_end bytes in
    let valid : IsValid i b = record { long = omega arith; late = (omega arith, omega arith) } in
    let first : IsItem i 64 k b at (at + length s) d = placed o at k d more lawful fits_d in
    let second : IsItem i 64 k b at (at + length t) e =
    subst (λ (bs : List ℕ). IsItem (whole o (zeros at ++ bs)) 64 k (to_end (zeros at ++ bs)) at (at + length t) e) (append-nil t ∙ same) (placed o at k e [] lawful fits_e) in
    let both : (d, at + length s) ≡ (e, at + length t) =
    ok_is (d, at + length s) (e, at + length t) (sym (IsComplete-read i 64 k b at (at + length s) d lawful valid first) ∙ IsComplete-read i 64 k b at (at + length t) e lawful valid second) in
    let value : d ≡ e = ap (λ (p : Data × ℕ). p.0) both in
    let end : at + length s ≡ at + length t = ap (λ (p : Data × ℕ). p.1) both in
    (value, nothing more (omega (arith, end, ap length same, length-append s more)))
  where
    nothing : (bs : List ℕ) → length bs ≡ 0 → bs ≡ []
    nothing [] h = refl
    nothing (b ∷ bs) h = absurd (omega (arith, h))
