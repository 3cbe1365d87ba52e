-- What stands of the cases of links.
use Rattle.std.proofs.Common.{◌≡◌, ℕ, ◌<◌, List, [], ◌∷◌, refl, sym, inl, inr, arith}
use Rattle.atspi_message.specs.Envelope.{Envelope}
use Rattle.atspi_live_host.specs.declared.call.Call.TheVariants.{Close}
use Rattle.atspi_live_bus.specs.Closes.{IsShut}
use Rattle.atspi_live_bus.specs.Course.{start}
use Rattle.atspi_live_bus.proofs.Worked.{not_none}
use Rattle.atspi_live_bus.specs.inner.Seats.{Rise}
use Rattle.atspi_live_bus.specs.Stops.{Ends}

pub five_three : ◌≡◌ {A = ℕ} 5 3 → ⊥
five_three e = omega (arith, e)

pub five_three_seats : ◌≡◌ {A = ℕ} 5 3 → ⊥
five_three_seats e = omega (arith, e)

pub no_number : (k : ℕ) (ks : List ℕ) → k ∷ ks ≡ [] → ⊥
no_number k ks e = cc

pub no_seat : (s : ℕ × ℕ) (ss : List (ℕ × ℕ)) → s ∷ ss ≡ [] → ⊥
no_seat s ss e = cc

pub some_message : (e : Envelope) (es : List Envelope) → e ∷ es ≡ [] → ⊥
some_message e es is = cc

abbrev pub head_or : List ℕ → ℕ
head_or [] = 0
head_or (k ∷ ks) = k

abbrev pub second_or : List ℕ → ℕ
second_or [] = 0
second_or (k ∷ ks) = head_or ks

-- connections that do not rise
pub not_above : ◌<◌ 1 1 → ⊥
not_above h = omega (arith, h)

pub below_one : ◌<◌ 1 0 → ⊥
below_one h = omega (arith, h)

pub below_two : ◌<◌ 2 1 → ⊥
below_two h = omega (arith, h)

pub falls : Rise ((3, 1) ∷ (5, 0) ∷ []) → ⊥
falls r = below_one r.0.0

pub nine_waits : (rest : List ℕ) → 7 ∷ 9 ∷ [] ≡ 7 ∷ 8 ∷ rest → ⊥
nine_waits rest e = absurd (omega (arith, is rest e))
  where
    is : (ys : List ℕ) → 7 ∷ 9 ∷ [] ≡ 7 ∷ 8 ∷ ys → ◌≡◌ {A = ℕ} 9 8
    is ys f = cc

-- how runs end
pub five_seven : ◌≡◌ {A = ℕ} 5 7 → ⊥
five_seven e = omega (arith, e)

pub eight_seven : ◌≡◌ {A = ℕ} 8 7 → ⊥
eight_seven e = omega (arith, e)

pub thirteen_seven : ◌≡◌ {A = ℕ} 13 7 → ⊥
thirteen_seven e = omega (arith, e)

pub is_no_status : Ends 6 3 3 → ⊥
is_no_status e = elim e.status_is [ inl f ↦ omega (arith, f) | inr g ↦ elim g [ inl f ↦ omega (arith, f) | inr h ↦ elim h [ inl f ↦ omega (arith, f) | inr f ↦ omega (arith, f) ] ] ]

pub not_counted_seven : Ends 7 3 3 → ⊥
not_counted_seven e = elim (e.by_host refl) [ inl f ↦ omega (arith, f) | inr f ↦ omega (arith, f) ]

pub counted_eight : Ends 8 3 4 → ⊥
counted_eight e = elim e.no_host [ inl f ↦ omega (arith, f) | inr f ↦ omega (arith, f) ]

pub none_dismissed : IsShut start.conn [] 1 (Close 3 ∷ []) → ⊥
none_dismissed (inl n) = not_none (Close 3) [] (sym n.1)
none_dismissed (inr s) = s.1
