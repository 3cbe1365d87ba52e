-- Lines that are passed, each with the rounds that it takes.
use Rattle.std.proofs.Common.{◌≡◌, ℕ, List, [], ◌∷◌, ◌++◌, refl, subst, inl, inr, arith, IsUtf8}
use Rattle.std.specs.Prelude.{codes}
use Rattle.atspi_script_lines.specs.Line.{Spells}
use Rattle.atspi_script_lines.specs.declared.line.Line.TheVariants.{Blank}
use Rattle.atspi_live_app.specs.Asking.{IsAsk}
use Rattle.atspi_live_app.specs.Pace.{Proceeds, Takes, rounds_of}
use Rattle.atspi_live_app.specs.declared.asking.Ask.{Ask}
use Rattle.atspi_live_app.specs.declared.asking.Ask.TheVariants as asks

-- the first bytes of equal lists are equal
pub first_is : {x y : ℕ} {xs ys : List ℕ} → x ∷ xs ≡ y ∷ ys → x ≡ y
first_is h = cc

empty_utf8 : IsUtf8 []
empty_utf8 = ([], (refl, refl))

empty : Spells Blank []
empty = record { short = omega arith; utf8 = empty_utf8; form = tt }

-- an empty line takes one round
pub empty_takes : Takes ([], 1)
empty_takes = (asks.Nothing, empty, refl)

none_waits : (n : ℕ) → IsAsk (asks.Wait n) [] → ⊥
none_waits n h = none h.1
  where
    none : {b : ℕ} {bytes : List ℕ} → [] ≡ b ∷ bytes → ⊥
    none h = cc

empty_is : (rounds : ℕ) → Takes ([], rounds) → rounds ≡ 1
empty_is rounds t = by t.0 t.1 t.2
  where
    by : (what : Ask) → IsAsk what [] → rounds ≡ rounds_of what → rounds ≡ 1
    by asks.Nothing asked is = is
    by (asks.Start name) asked is = is
    by (asks.Edit edit) asked is = is
    by (asks.Wait n) asked is = absurd (none_waits n asked)

-- lists of lines
none_left : {line : List ℕ} {lines : List (List ℕ)} → line ∷ lines ≡ [] → ⊥
none_left h = cc

first_line : {line other : List ℕ} {lines others : List (List ℕ)} → line ∷ lines ≡ other ∷ others → other ≡ line
first_line h = cc

-- of these two lines the first is empty: it is passed, with its mark, in one round
pub passed : (marks : List ℕ) (count rounds place : ℕ) (marks' : List ℕ) → Proceeds (10 ∷ codes "x") 0 marks count rounds place marks' → (rounds ≡ 1) × (marks' ≡ marks ++ count ∷ [])
passed marks count rounds place marks' (inl p) = (empty_is rounds (subst (λ (l : List ℕ). Takes (l, rounds)) (first_line p.1) p.2), p.3)
passed marks count rounds place marks' (inr p) = absurd (none_left p.0)

-- one mark more
pub some_none : {m : ℕ} {marks : List ℕ} → m ∷ marks ≡ [] → ⊥
some_none h = cc
