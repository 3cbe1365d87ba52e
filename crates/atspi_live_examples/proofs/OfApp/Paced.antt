-- Lines that are passed, each with the rounds that it takes.
use Rattle.std.proofs.Common.{◌≡◌, ℕ, List, [], ◌∷◌, ◌++◌, refl, sym, subst, inl, inr}
use Rattle.std.specs.Prelude.{codes}
use Rattle.atspi_live_app.specs.Asking.{IsAsk}
use Rattle.atspi_live_app.specs.Pace.{Proceeds, Takes, rounds_of}
use Rattle.atspi_live_app.specs.declared.asking.Ask.{Ask}
use Rattle.atspi_live_app.specs.declared.asking.Ask.TheVariants as asks
use Rattle.atspi_live_examples.proofs.OfApp.Asked.{empty}

-- an empty line takes one round
pub empty_takes : Takes ([], 1)
empty_takes = (asks.Nothing, empty, refl)

none_waits : (n : ℕ) → IsAsk (asks.Wait n) [] → ⊥
none_waits n h = none h.1
  where
    none : {b : ℕ} {bytes : List ℕ} → [] ≡ b ∷ bytes → ⊥
    none h = cc

pub empty_is : (rounds : ℕ) → Takes ([], rounds) → rounds ≡ 1
empty_is rounds t = by t.0 t.1 t.2
  where
    by : (what : Ask) → IsAsk what [] → rounds ≡ rounds_of what → rounds ≡ 1
    by asks.Nothing asked is = is
    by (asks.Start name) asked is = is
    by (asks.Edit edit) asked is = is
    by (asks.Wait n) asked is = absurd (none_waits n asked)

-- lists of lines
pub none_left : {line : List ℕ} {lines : List (List ℕ)} → line ∷ lines ≡ [] → ⊥
none_left h = cc

first_line : {line other : List ℕ} {lines others : List (List ℕ)} → line ∷ lines ≡ other ∷ others → other ≡ line
first_line h = cc

-- of these two lines the first is empty: it is passed, with its mark, in one round
pub passed : (marks : List ℕ) (count rounds place : ℕ) (marks' : List ℕ) → Proceeds (10 ∷ codes "x") 0 marks count rounds place marks' → (rounds ≡ 1) × (marks' ≡ marks ++ count ∷ [])
passed marks count rounds place marks' (inl p) = (empty_is rounds (subst (λ (l : List ℕ). Takes (l, rounds)) (first_line p.1) p.2), p.3)
passed marks count rounds place marks' (inr p) = absurd (none_left p.0)

-- behind this line there is none
pub none_passed : (marks : List ℕ) (count rounds place : ℕ) (marks' : List ℕ) → Proceeds (codes "x") 1 marks count rounds place marks' → (place ≡ 1) × (rounds ≡ 1) × (marks' ≡ marks)
none_passed marks count rounds place marks' (inl p) = absurd (none_left (sym p.1))
none_passed marks count rounds place marks' (inr p) = (p.1, p.2, p.3)

-- one mark more
pub some_none : {m : ℕ} {marks : List ℕ} → m ∷ marks ≡ [] → ⊥
some_none h = cc
