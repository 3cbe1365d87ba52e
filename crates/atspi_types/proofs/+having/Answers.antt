use Rattle.std.proofs.Common.{◌≡◌, ◌∙◌, arith, refl}
use Rattle.atspi_types.specs.Borrowed.{ref_data}
use Rattle.atspi_types.specs.Data.{items_of, type_of, types_of}
use Rattle.atspi_types.specs.DataView.{all_data}
use Rattle.atspi_types.specs.Kinds.{kinds_of}
use Rattle.atspi_types.specs.KindView.{kind_of, kinds_in}
use Rattle.atspi_types.proofs.TypeLemmas.{size_at}
use Rattle.atspi_types.proofs.TypedLemmas.{types_have_more, types_have_at, types_have_len, types_have_all}
use Rattle.atspi_types.proofs.Verdicts.{no_if, not_if}
use Rattle.atspi_types.proofs.+having.Goals as goal

pub value::Values::have_types-returns-then-len-types : goal.value::Values::have_types-returns-then-len-types
value::Values::have_types-returns-then-len-types t c =
    no_if (types_of (items_of (all_data c.args.self.now)) ≡ kinds_of (kinds_in c.args.due.now))
    (λ same. c.if-len-types.true (c.len.ensures ∙ types_have_len (all_data c.args.self.now) c.as_slice-types.result.now (kinds_in c.args.due.now) c.as_slice-types.ensures same))

pub value::Values::have_types-has_type-requires : goal.value::Values::have_types-has_type-requires
value::Values::have_types-has_type-requires t c =
    let below = size_at (all_data c.args.self.now) c.loop-i.i (ref_data c.at.result) c.at.ensures in
    (omega (arith, below, c.decreases), tt)

pub value::Values::have_types-returns-then-not-has_type : goal.value::Values::have_types-returns-then-not-has_type
value::Values::have_types-returns-then-not-has_type t c =
    no_if (types_of (items_of (all_data c.args.self.now)) ≡ kinds_of (kinds_in c.args.due.now))
    (λ same. not_if (type_of (ref_data c.at.result) ≡ kind_of c.index-types-i.result) c.if-not-has_type.ensures
    (types_have_at (all_data c.args.self.now) c.as_slice-types.result.now (kinds_in c.args.due.now) c.loop-i.i (ref_data c.at.result) c.index-types-i.result c.as_slice-types.ensures c.at.ensures (omega arith) c.index-types-i.is same))

pub value::Values::have_types-loop-i-preserved : goal.value::Values::have_types-loop-i-preserved
value::Values::have_types-loop-i-preserved t c =
    types_have_more (all_data c.args.self.now) c.as_slice-types.result.now c.loop-i.i (ref_data c.at.result) c.index-types-i.result c.at.ensures (omega arith) c.index-types-i.is (c.if-not-has_type.ensures.0 refl) c.loop-i.invariant

pub value::Values::have_types-returns : goal.value::Values::have_types-returns
value::Values::have_types-returns t c =
    let same = types_have_all (all_data c.args.self.now) c.as_slice-types.result.now (kinds_in c.args.due.now) c.loop-i.i c.as_slice-types.ensures (omega (arith, c.len.ensures)) (omega arith) c.loop-i.invariant in
    (λ _. same, λ _. refl)
