use Rattle.std.proofs.Common.{◌≡◌, ◌↔◌, IsTrue, ℕ, Bool, List, ap, ◌∙◌, sym, subst, arith, refl}
use Rattle.std.specs.Prelude.{◌==◌}
use Rattle.atspi_types.specs.Borrowed.{ref_data, run_data}
use Rattle.atspi_types.specs.Data.{Data, items_of, entries_of, type_of, IsWellTyped, AreWellTyped, AllHaveType, AllHaveTypes}
use Rattle.atspi_types.specs.DataView.{all_data, all_pairs}
use Rattle.atspi_types.specs.KindView.{kind_of}
use Rattle.atspi_types.proofs.DataSize.{data_size, data_size_at, pair_size_in}
use Rattle.atspi_types.proofs.TypedLemmas.{typed_more, typed_at, typed_as_more, typed_as_at, typed_struct, typed_if_plain, typed_as_none, typed_as_other, pairs_more, pairs_at}
use Rattle.atspi_types.proofs.Verdicts.{no_if, not_if}
use Rattle.atspi_types.proofs.+typed.Goals as goal
use Rattle.atspi_types.proofs.+typed.Goals.{value::Values::are_well_typed_as-then-len-eq0, value::Values::are_well_typed_as-else-len-eq0}
use Rattle.atspi_types.proofs.+typed.Goals.{value::Pairs::are_well_typed_as-then-not-is_well_typed_as-via-then-not-is_well_typed_as, value::Pairs::are_well_typed_as-then-not-is_well_typed_as-via-else-not-is_well_typed_as+then-not-is_well_typed_as-2}

pub borrowed::ValueRef::is_well_typed-returns-then-len-ne0 : goal.borrowed::ValueRef::is_well_typed-returns-then-len-ne0
borrowed::ValueRef::is_well_typed-returns-then-len-ne0 t c =
    rw c.in-Struct.is (typed_struct (all_data c.in-Struct.fields.now) c.are_well_typed.result (λ none. c.if-len-ne0.true (c.len.ensures ∙ none)) c.are_well_typed.ensures)

pub value::Values::are_well_typed-returns-then-is_some : goal.value::Values::are_well_typed-returns-then-is_some
value::Values::are_well_typed-returns-then-is_some t c =
    let plain : AreWellTyped (items_of (run_data c.run.result)) = typed_if_plain c.plain_type.result (run_data c.run.result) (sym c.if-is_some.ensures) c.plain_type.ensures in
    let P : List Data → Type 0 = λ ds. AreWellTyped (items_of ds) in
    (λ _. subst P c.run.ensures plain, λ _. refl)

pub value::Values::are_well_typed-is_well_typed-requires : goal.value::Values::are_well_typed-is_well_typed-requires
value::Values::are_well_typed-is_well_typed-requires t c =
    let below = data_size_at (all_data c.args.self.now) c.loop-i.i (ref_data c.at.result) c.at.ensures in
    (omega (arith, below, c.decreases), tt)

pub value::Values::are_well_typed-returns-then-not-is_well_typed : goal.value::Values::are_well_typed-returns-then-not-is_well_typed
value::Values::are_well_typed-returns-then-not-is_well_typed t c =
    no_if (AreWellTyped (items_of (all_data c.args.self.now)))
    (λ all. not_if (IsWellTyped (ref_data c.at.result)) c.if-not-is_well_typed.ensures (typed_at (all_data c.args.self.now) c.loop-i.i (ref_data c.at.result) c.at.ensures all))

pub value::Values::are_well_typed-loop-i-preserved : goal.value::Values::are_well_typed-loop-i-preserved
value::Values::are_well_typed-loop-i-preserved t c =
    typed_more (all_data c.args.self.now) c.loop-i.i (ref_data c.at.result) c.at.ensures c.loop-i.invariant (c.if-not-is_well_typed.ensures.0 refl)

pub value::Values::are_well_typed_as-returns-in-Some : goal.value::Values::are_well_typed_as-returns-in-Some
value::Values::are_well_typed_as-returns-in-Some t c =
    let P : List Data → Type 0 = λ ds. AllHaveType (kind_of c.in-Some.plain) (items_of ds) in
    let all : AllHaveType (kind_of c.in-Some.plain) (items_of (all_data c.args.self.now)) = subst P c.run.ensures c.in-Some.ensures in
    let R : Bool → Type 0 = λ b. IsTrue b ↔ (kind_of c.args.ty.now ≡ kind_of c.in-Some.plain) in
    elim c.if-len-eq0.branch [
      | value::Values::are_well_typed_as-then-len-eq0 w ↦
          typed_as_none (kind_of c.args.ty.now) (all_data c.args.self.now) c.if-len-eq0.result (sym c.len.ensures ∙ w.if-len-eq0.true) (w.result-is ∙ ap (λ (n : ℕ). n == 0) w.if-len-eq0.true)
      | value::Values::are_well_typed_as-else-len-eq0 w ↦
          typed_as_other (kind_of c.args.ty.now) (kind_of c.in-Some.plain) (all_data c.args.self.now) c.if-len-eq0.result all (omega (arith, w.if-len-eq0.false, c.len.ensures)) (subst R (sym w.result-is) w.is.ensures)
    ]

pub value::Values::are_well_typed_as-is_well_typed_as-requires : goal.value::Values::are_well_typed_as-is_well_typed_as-requires
value::Values::are_well_typed_as-is_well_typed_as-requires t c =
    let below = data_size_at (all_data c.args.self.now) c.loop-i.i (ref_data c.at.result) c.at.ensures in
    (omega (arith, below, c.decreases), tt)

pub value::Values::are_well_typed_as-returns-then-not-is_well_typed_as : goal.value::Values::are_well_typed_as-returns-then-not-is_well_typed_as
value::Values::are_well_typed_as-returns-then-not-is_well_typed_as t c =
    no_if (AllHaveType (kind_of c.args.ty.now) (items_of (all_data c.args.self.now)))
    (λ all. not_if ((type_of (ref_data c.at.result) ≡ kind_of c.args.ty.now) × IsWellTyped (ref_data c.at.result)) c.if-not-is_well_typed_as.ensures
    (typed_as_at (kind_of c.args.ty.now) (all_data c.args.self.now) c.loop-i.i (ref_data c.at.result) c.at.ensures all))

pub value::Values::are_well_typed_as-loop-i-preserved : goal.value::Values::are_well_typed_as-loop-i-preserved
value::Values::are_well_typed_as-loop-i-preserved t c =
    typed_as_more (kind_of c.args.ty.now) (all_data c.args.self.now) c.loop-i.i (ref_data c.at.result) c.at.ensures c.loop-i.invariant (c.if-not-is_well_typed_as.ensures.0 refl)

pub value::Pairs::are_well_typed_as-is_well_typed_as-requires : goal.value::Pairs::are_well_typed_as-is_well_typed_as-requires
value::Pairs::are_well_typed_as-is_well_typed_as-requires t c =
    let below = pair_size_in c.as_slice-pair-items.result.now (all_pairs c.args.self.now) c.loop-pair.pair-index c.pair-item.result c.as_slice-pair-items.ensures (omega arith) c.pair-item.is in
    (omega (arith, below, c.decreases, ap data_size c.borrowed.ensures), tt)

pub value::Pairs::are_well_typed_as-is_well_typed_as-requires-else-not-is_well_typed_as : goal.value::Pairs::are_well_typed_as-is_well_typed_as-requires-else-not-is_well_typed_as
value::Pairs::are_well_typed_as-is_well_typed_as-requires-else-not-is_well_typed_as t c =
    let below = pair_size_in c.as_slice-pair-items.result.now (all_pairs c.args.self.now) c.loop-pair.pair-index c.pair-item.result c.as_slice-pair-items.ensures (omega arith) c.pair-item.is in
    (omega (arith, below, c.decreases, ap data_size c.borrowed-else-not-is_well_typed_as.ensures), tt)

pub value::Pairs::are_well_typed_as-returns-then-not-is_well_typed_as : goal.value::Pairs::are_well_typed_as-returns-then-not-is_well_typed_as
value::Pairs::are_well_typed_as-returns-then-not-is_well_typed_as t c =
    let P : Data → Type 0 = λ d. (type_of d ≡ kind_of c.args.key.now) × IsWellTyped d in
    let Q : Data → Type 0 = λ d. (type_of d ≡ kind_of c.args.value.now) × IsWellTyped d in
    no_if (AllHaveTypes (kind_of c.args.key.now) (kind_of c.args.value.now) (entries_of (all_pairs c.args.self.now)))
    (λ all.
    let both = pairs_at (kind_of c.args.key.now) (kind_of c.args.value.now) c.as_slice-pair-items.result.now (all_pairs c.args.self.now) c.loop-pair.pair-index c.pair-item.result c.as_slice-pair-items.ensures (omega arith) c.pair-item.is all in
    elim c.then-not-is_well_typed_as.branch [
      | value::Pairs::are_well_typed_as-then-not-is_well_typed_as-via-then-not-is_well_typed_as w ↦
          not_if (P (ref_data c.borrowed.result)) w.if-not-is_well_typed_as.ensures (subst P (sym c.borrowed.ensures) both.0)
      | value::Pairs::are_well_typed_as-then-not-is_well_typed_as-via-else-not-is_well_typed_as+then-not-is_well_typed_as-2 w ↦
          not_if (Q (ref_data w.borrowed-else-not-is_well_typed_as.result)) w.if-not-is_well_typed_as-2.ensures (subst Q (sym w.borrowed-else-not-is_well_typed_as.ensures) both.1)
    ])

pub value::Pairs::are_well_typed_as-loop-pair-preserved : goal.value::Pairs::are_well_typed_as-loop-pair-preserved
value::Pairs::are_well_typed_as-loop-pair-preserved t c =
    let P : Data → Type 0 = λ d. (type_of d ≡ kind_of c.args.key.now) × IsWellTyped d in
    let Q : Data → Type 0 = λ d. (type_of d ≡ kind_of c.args.value.now) × IsWellTyped d in
    pairs_more (kind_of c.args.key.now) (kind_of c.args.value.now) c.as_slice-pair-items.result.now c.loop-pair.pair-index c.pair-item.result (omega arith) c.pair-item.is c.loop-pair.invariant
    (subst P c.borrowed.ensures (c.if-not-is_well_typed_as.ensures.0 refl)) (subst Q c.borrowed-else-not-is_well_typed_as.ensures (c.if-not-is_well_typed_as-2.ensures.0 refl))
