-- What decoding answers.
use Rattle.std.proofs.Common.{◌≡◌, ℕ, ◌≤◌, List, length, Result, Ok, Err, refl, sym, ap, subst, ◌∙◌, arith}
use Rattle.std.specs.Prelude.{IfOk, IsErr, MatchResult}
use Rattle.atspi_types.specs.Kinds.{Kind, IsLawful}
use Rattle.atspi_types.specs.Data.{Data}
use Rattle.atspi_types.specs.DataView.{data_of}
use Rattle.atspi_types.specs.declared.value.Value.{Value}
use Rattle.atspi_types.specs.declared.fault.Order.{Order}
use Rattle.atspi_types.specs.declared.fault.Fault.{Fault}
use Rattle.atspi_types.specs.declared.fault.ReadFault.{ReadFault}
use Rattle.atspi_types.specs.declared.fault.ReadFault.TheVariants as faults
use Rattle.atspi_types.specs.SignatureFaults.{Before}
use Rattle.atspi_marshal.specs.declared.input.Bound.{Bound}
use Rattle.atspi_marshal.specs.Input.{Input, whole, to_end}
use Rattle.atspi_marshal.specs.Faults.{IsItem, Wrong, FaultAt, TellsFault}
use Rattle.atspi_marshal.specs.Reading.{Gives, read, decoded}
use Rattle.atspi_marshal.proofs.Places.{IsBytes, IsValid, ok_is}
use Rattle.atspi_marshal.proofs.Sound.{IsSound-read}
use Rattle.atspi_marshal.proofs.Complete.{IsComplete-read}
use Rattle.atspi_marshal.proofs.There.{IsThere-read}
use Rattle.atspi_marshal.proofs.Least.{IsLeast-read}

abbrev pub Answer : Type 0
Answer = Result (Value × ℕ) ReadFault

abbrev pub Decodes : Order → List ℕ → Kind → ℕ → Answer → Type 0
Decodes o bytes k at r = Gives (λ x. (data_of x.0, x.1)) r (decoded o bytes k at)

valid : (o : Order) (bytes : List ℕ) → IsValid (whole o bytes) (to_end bytes)
valid o bytes = record { long = omega arith; late = (omega arith, omega arith) }

pub found : (o : Order) (bytes : List ℕ) (k : Kind) (at : ℕ) (r : Answer) → IsLawful k → IsBytes bytes → Decodes o bytes k at r → IfOk r (λ x. IsItem (whole o bytes) 64 k (to_end bytes) at x.1 (data_of x.0))
found o bytes k at (Ok x) lawful h given = (IsSound-read (whole o bytes) 64 h k (to_end bytes) at (data_of x.0, x.1) lawful (valid o bytes) given).is
found o bytes k at (Err e) lawful h given = tt

abbrev pair_ok : Data → ℕ → Result (Data × ℕ) Fault
pair_ok d next = Ok (d, next)

same_pair : (d e : Data) (m n : ℕ) → pair_ok d m ≡ pair_ok e n → (d ≡ e) × (m ≡ n)
same_pair d e m n h =
    let pair : (d, m) ≡ (e, n) = ok_is (d, m) (e, n) h in
    (ap (λ (p : Data × ℕ). p.0) pair, ap (λ (p : Data × ℕ). p.1) pair)

pub only : (o : Order) (bytes : List ℕ) (k : Kind) (at : ℕ) (r : Answer) → IsLawful k → Decodes o bytes k at r → (d : Data) (next : ℕ) → IsItem (whole o bytes) 64 k (to_end bytes) at next d
    → MatchResult r (λ x. (data_of x.0 ≡ d) × (x.1 ≡ next)) (λ e. e ≡ faults.NoMemory)
only o bytes k at (Ok x) lawful given d next is = same_pair (data_of x.0) d x.1 next (sym given ∙ IsComplete-read (whole o bytes) 64 k (to_end bytes) at next d lawful (valid o bytes) is)
only o bytes k at (Err faults.NoMemory) lawful given d next is = refl
only o bytes k at (Err (faults.Bad f)) lawful given d next is = absurd (clash (sym (IsComplete-read (whole o bytes) 64 k (to_end bytes) at next d lawful (valid o bytes) is) ∙ given))
  where
    clash : pair_ok d next ≡ Err f → ⊥
    clash e = cc

abbrev failed : Fault → Result (Data × ℕ) Fault
failed f = Err f

told_is : (f g : Fault) → failed f ≡ failed g → f ≡ g
told_is f g e = cc

pub first : (o : Order) (bytes : List ℕ) (k : Kind) (at : ℕ) (r : Answer) → IsLawful k → IsBytes bytes → at ≤ length bytes → Decodes o bytes k at r → TellsFault r (λ place reason. FaultAt (whole o bytes) 64 k (to_end bytes) at place reason)
first o bytes k at (Ok x) lawful h low given = tt
first o bytes k at (Err faults.NoMemory) lawful h low given = tt
first o bytes k at (Err (faults.Bad f)) lawful h low given = record {
  there = IsThere-read (whole o bytes) 64 h k (to_end bytes) at f lawful (valid o bytes) low given;
  first = λ (q s : ℕ) (w : Wrong (whole o bytes) 64 k (to_end bytes) at q s). before q s w;
}
  where
    before : (q s : ℕ) → Wrong (whole o bytes) 64 k (to_end bytes) at q s → Before f.place f.reason q s
    before q s w =
        let t = IsLeast-read (whole o bytes) 64 k (to_end bytes) at q s lawful (valid o bytes) low w in
        let same : t.told ≡ f = told_is t.told f (sym t.is ∙ given) in
        subst (λ (g : Fault). Before g.place g.reason q s) same t.before

pub refused : (o : Order) (bytes : List ℕ) (k : Kind) (at : ℕ) (r : Answer) → IsLawful k → at ≤ length bytes → Decodes o bytes k at r → (q s : ℕ) → Wrong (whole o bytes) 64 k (to_end bytes) at q s → IsErr r
refused o bytes k at (Err e) lawful low given q s w = refl
refused o bytes k at (Ok x) lawful low given q s w =
    let t = IsLeast-read (whole o bytes) 64 k (to_end bytes) at q s lawful (valid o bytes) low w in
    absurd (clash t.told (sym given ∙ t.is))
  where
    clash : (f : Fault) → pair_ok (data_of x.0) x.1 ≡ Err f → ⊥
    clash f e = cc
