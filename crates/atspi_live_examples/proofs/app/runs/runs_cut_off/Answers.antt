use Rattle.std.proofs.Common.{◌≡◌, ℕ, List, [], ◌∷◌, Some, refl, inl, inr, arith, lit<}
use Rattle.std.specs.Prelude.{codes}
use Rattle.atspi_base.specs.Outside.{Rose}
use Rattle.atspi_live_host.specs.declared.call.Call.{Call}
use Rattle.atspi_live_app.specs.Input.{BlamesEnd}
use Rattle.atspi_live_app.specs.Runs.{CutsOff}
use Rattle.atspi_live_app.specs.declared.input.End.{End}
use Rattle.atspi_live_app.specs.declared.input.End.TheVariants.{Failed, TooLong, Whole}
use Rattle.atspi_live_examples.proofs.app.runs.runs_cut_off.Goals as goal

pub returns-clause-too_long : goal.returns-clause-too_long
returns-clause-too_long c = refl

pub returns-clause-too_long_other : goal.returns-clause-too_long_other
returns-clause-too_long_other c h = omega (arith, h)

pub returns-clause-failed : goal.returns-clause-failed
returns-clause-failed c = refl

pub returns-clause-failed_other : goal.returns-clause-failed_other
returns-clause-failed_other c h = omega (arith, h)

pub returns-clause-whole : goal.returns-clause-whole
returns-clause-whole c status h = h

pub returns-clause-early : goal.returns-clause-early
returns-clause-early c = record { links = refl; host = refl; sink = refl; so = inr (Failed, codes "a", refl, inl (lit< tt), refl) }

pub returns-clause-wanting : goal.returns-clause-wanting
returns-clause-wanting c = record { links = refl; host = refl; sink = refl; so = inl (refl, refl) }

-- no ending of an input has status 5, 1 or 7
never_five : (end : End) → CutsOff end 5 → ⊥
never_five Whole h = h
never_five TooLong h = omega (arith, h)
never_five Failed h = omega (arith, h)

never_one : (end : End) → CutsOff end 1 → ⊥
never_one Whole h = h
never_one TooLong h = omega (arith, h)
never_one Failed h = omega (arith, h)

never_seven : (end : End) → CutsOff end 7 → ⊥
never_seven Whole h = h
never_seven TooLong h = omega (arith, h)
never_seven Failed h = omega (arith, h)

-- why a run ended early
same : Rose 3 3 → ⊥
same (inl h) = omega (arith, h)
same (inr h) = omega (arith, h)

three : (end : End) → CutsOff end 3 → BlamesEnd 3 3 end → ⊥
three Whole h blamed = h
three TooLong h blamed = omega (arith, h)
three Failed h blamed = same blamed

eight : (end : End) → CutsOff end 8 → BlamesEnd 3 4 end → ⊥
eight Whole h blamed = h
eight TooLong h blamed = omega (arith, blamed)
eight Failed h blamed = omega (arith, h)

pub returns-clause-wanting_rose : goal.returns-clause-wanting_rose
returns-clause-wanting_rose c e = elim e.so [ inl h ↦ omega (arith, h.1) | inr h ↦ never_five h.0 h.2 ]

pub returns-clause-not_blamed : goal.returns-clause-not_blamed
returns-clause-not_blamed c e = elim e.so [ inl h ↦ omega (arith, h.0) | inr h ↦ three h.0 h.2 h.3 ]

pub returns-clause-other_status : goal.returns-clause-other_status
returns-clause-other_status c e = elim e.so [ inl h ↦ omega (arith, h.0) | inr h ↦ eight h.0 h.2 h.3 ]

pub returns-clause-a_link : goal.returns-clause-a_link
returns-clause-a_link c e = by e.links
  where
    by : {k : ℕ} {ks : List ℕ} → k ∷ ks ≡ [] → ⊥
    by h = cc

pub returns-clause-a_call : goal.returns-clause-a_call
returns-clause-a_call c e = by e.host
  where
    by : {d : Call} {calls : List Call} → Some (d ∷ calls) ≡ Some [] → ⊥
    by h = cc

pub returns-clause-wrote : goal.returns-clause-wrote
returns-clause-wrote c e = by e.sink
  where
    by : {b : ℕ} {bytes : List ℕ} → Some (b ∷ bytes) ≡ Some [] → ⊥
    by h = cc

pub returns-clause-late : goal.returns-clause-late
returns-clause-late c = record { text = codes "x"; read = (refl, refl); source_same = refl; ends = (refl, refl) }

pub returns-clause-late_unread : goal.returns-clause-late_unread
returns-clause-late_unread c e = by e.read.1
  where
    by : {b : ℕ} {bytes : List ℕ} → b ∷ bytes ≡ [] → ⊥
    by h = cc

pub returns-clause-late_rose : goal.returns-clause-late_rose
returns-clause-late_rose c e = omega (arith, e.source_same)

pub returns-clause-late_other : goal.returns-clause-late_other
returns-clause-late_other c e = omega (arith, e.ends.0)

pub returns-clause-late_on_link : goal.returns-clause-late_on_link
returns-clause-late_on_link c calls e = record { text = codes "x"; read = (refl, refl); source_same = refl; ends = (e, refl) }

pub returns-clause-is_early : goal.returns-clause-is_early
returns-clause-is_early c = inl (record { links = refl; host = refl; sink = refl; so = inl (refl, refl) })

pub returns-clause-is_late : goal.returns-clause-is_late
returns-clause-is_late c = inr (record { text = []; read = (tt, tt); source_same = refl; ends = (refl, refl) })

pub returns-clause-is_cut_off : goal.returns-clause-is_cut_off
returns-clause-is_cut_off c = inl (record { links = refl; host = refl; sink = refl; so = inr (Failed, codes "a", refl, inl (lit< tt), refl) })

pub returns-clause-is_on_link : goal.returns-clause-is_on_link
returns-clause-is_on_link c calls e = inr (record { text = codes "x"; read = (refl, refl); source_same = refl; ends = (e, refl) })

pub returns-clause-is_early_wrote : goal.returns-clause-is_early_wrote
returns-clause-is_early_wrote c (inl e) = by e.sink
  where
    by : {b : ℕ} {bytes : List ℕ} → Some (b ∷ bytes) ≡ Some [] → ⊥
    by h = cc
returns-clause-is_early_wrote c (inr e) = omega (arith, e.ends.0)

pub returns-clause-is_late_rose : goal.returns-clause-is_late_rose
returns-clause-is_late_rose c (inl e) = elim e.so [ inl h ↦ omega (arith, h.0) | inr h ↦ never_seven h.0 h.2 ]
returns-clause-is_late_rose c (inr e) = omega (arith, e.source_same)

pub returns-clause-is_neither : goal.returns-clause-is_neither
returns-clause-is_neither c (inl e) = elim e.so [ inl h ↦ omega (arith, h.0) | inr h ↦ never_one h.0 h.2 ]
returns-clause-is_neither c (inr e) = omega (arith, e.ends.0)
