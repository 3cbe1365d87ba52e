use Rattle.std.proofs.Common.{◌∷◌, [], sym, ◌∙◌, ap, ◌<◌, ◌-◌, ◌+◌, arith, refl}
use Rattle.std.specs.Prelude.{◌==◌}
use Rattle.std.proofs.lemmas.Result.{err_from_is_err_and}
use Rattle.atspi_types.specs.Kinds.{structure, kinds_of, byte, i16, u16, i32, u32, i64, u64, double}
use Rattle.atspi_marshal_in_place.specs.codes.TyRefs.{ref_kind, refs_kinds}
use Rattle.atspi_marshal.specs.Faults.{entry_kind, inside}
use Rattle.atspi_marshal.specs.Reading.{input_of, read, elements_at, single_at, level}
use Rattle.atspi_marshal.proofs.Levels.{read_is, types_in-kinds_of, level_single}
use Rattle.atspi_marshal_in_place.specs.Passing.{after, up_to}
use Rattle.atspi_marshal_in_place.proofs.Passes.{number_fixed, passes_on, passes_fail, array_passes, dictionary_passes, structure_passes, pair_passes, not_structure, empty_deep}
use Rattle.atspi_marshal_in_place.proofs.Runs.{numbers_pass, fixed_read, code_size, text_read, path_read, structure_read}
use Rattle.atspi_marshal_in_place.proofs.passing.+pass.Goals as goal

pub single-returns-in-Byte-clause-place : goal.single-returns-in-Byte-clause-place
unfolding single_at
single-returns-in-Byte-clause-place t c = rw (c.in-Byte.is, number_fixed (input_of c.args.input.now) byte c.args.bound c.args.at refl) c.pass_fixed.ensures.place

pub single-returns-in-I16-clause-place : goal.single-returns-in-I16-clause-place
unfolding single_at
single-returns-in-I16-clause-place t c = rw (c.in-I16.is, number_fixed (input_of c.args.input.now) i16 c.args.bound c.args.at refl) c.pass_fixed-in-I16.ensures.place

pub single-returns-in-U16-clause-place : goal.single-returns-in-U16-clause-place
unfolding single_at
single-returns-in-U16-clause-place t c = rw (c.in-U16.is, number_fixed (input_of c.args.input.now) u16 c.args.bound c.args.at refl) c.pass_fixed-in-U16.ensures.place

pub single-returns-in-I32-clause-place : goal.single-returns-in-I32-clause-place
unfolding single_at
single-returns-in-I32-clause-place t c = rw (c.in-I32.is, number_fixed (input_of c.args.input.now) i32 c.args.bound c.args.at refl) c.pass_fixed-in-I32.ensures.place

pub single-returns-in-U32-clause-place : goal.single-returns-in-U32-clause-place
unfolding single_at
single-returns-in-U32-clause-place t c = rw (c.in-U32.is, number_fixed (input_of c.args.input.now) u32 c.args.bound c.args.at refl) c.pass_fixed-in-U32.ensures.place

pub single-returns-in-I64-clause-place : goal.single-returns-in-I64-clause-place
unfolding single_at
single-returns-in-I64-clause-place t c = rw (c.in-I64.is, number_fixed (input_of c.args.input.now) i64 c.args.bound c.args.at refl) c.pass_fixed-in-I64.ensures.place

pub single-returns-in-U64-clause-place : goal.single-returns-in-U64-clause-place
unfolding single_at
single-returns-in-U64-clause-place t c = rw (c.in-U64.is, number_fixed (input_of c.args.input.now) u64 c.args.bound c.args.at refl) c.pass_fixed-in-U64.ensures.place

pub single-returns-in-Double-clause-place : goal.single-returns-in-Double-clause-place
unfolding single_at
single-returns-in-Double-clause-place t c = rw (c.in-Double.is, number_fixed (input_of c.args.input.now) double c.args.bound c.args.at refl) c.pass_fixed-in-Double.ensures.place

pub single-returns-in-Bool-clause-place : goal.single-returns-in-Bool-clause-place
unfolding single_at
single-returns-in-Bool-clause-place t c = rw c.in-Bool.is c.pass_boolean.ensures.place

pub single-returns-in-Text-clause-place : goal.single-returns-in-Text-clause-place
unfolding single_at
single-returns-in-Text-clause-place t c = rw c.in-Text.is c.pass_text.ensures.place

pub single-returns-in-Path-clause-place : goal.single-returns-in-Path-clause-place
unfolding single_at
single-returns-in-Path-clause-place t c = rw c.in-Path.is c.pass_path.ensures.place

pub single-returns-in-Sig-clause-place : goal.single-returns-in-Sig-clause-place
unfolding single_at
single-returns-in-Sig-clause-place t c = rw c.in-Sig.is c.pass_signature.ensures.place

pub single-returns-in-Variant-clause-place : goal.single-returns-in-Variant-clause-place
unfolding single_at
single-returns-in-Variant-clause-place t c = rw c.in-Variant.is c.variant.ensures.place

pub single-returns-in-Array-clause-place : goal.single-returns-in-Array-clause-place
unfolding single_at
single-returns-in-Array-clause-place t c = rw c.in-Array.is c.array.ensures.place

pub single-returns-in-Dict-clause-place : goal.single-returns-in-Dict-clause-place
unfolding single_at
single-returns-in-Dict-clause-place t c = rw c.in-Dict.is c.dictionary.ensures.place

pub single-returns-in-Struct-clause-place : goal.single-returns-in-Struct-clause-place
unfolding single_at
single-returns-in-Struct-clause-place t c = rw (c.in-Struct.is, c.fault.ensures) refl

pub pass-returns-then-size-ne0-clause-place : goal.pass-returns-then-size-ne0-clause-place
pass-returns-then-size-ne0-clause-place t c =
    let k = ref_kind c.args.ty in
    let size = c.number_size-size.ensures.size ∙ code_size k c.code-code.result c.code-code.ensures.head in
    c.pass_number.ensures.place ∙ fixed_read (input_of c.args.input.now) c.args.levels k c.args.bound c.args.at c.number_size-size.result size c.if-size-ne0.true

pub pass-returns-in_ok-place-in-115-clause-place : goal.pass-returns-in_ok-place-in-115-clause-place
pass-returns-in_ok-place-in-115-clause-place t c =
    c.in_ok-place-in-115.ensures.place ∙ text_read (input_of c.args.input.now) c.args.levels (ref_kind c.args.ty) c.args.bound c.args.at c.code-code.result c.in-115.is c.code-code.ensures.leaf

pub pass-returns-in_err-place-in-115-clause-place : goal.pass-returns-in_err-place-in-115-clause-place
pass-returns-in_err-place-in-115-clause-place t c =
    let p = err_from_is_err_and c.from_residual.result c.from_residual.ensures.1 in
    rw (p.1, p.2) (c.in_err-place-in-115.ensures.place ∙ text_read (input_of c.args.input.now) c.args.levels (ref_kind c.args.ty) c.args.bound c.args.at c.code-code.result c.in-115.is c.code-code.ensures.leaf)

pub pass-returns-in_ok-place-in-111-clause-place : goal.pass-returns-in_ok-place-in-111-clause-place
pass-returns-in_ok-place-in-111-clause-place t c =
    c.in_ok-place-in-111.ensures.place ∙ path_read (input_of c.args.input.now) c.args.levels (ref_kind c.args.ty) c.args.bound c.args.at c.code-code.result c.in-111.is c.code-code.ensures.leaf

pub pass-returns-in_err-place-in-111-clause-place : goal.pass-returns-in_err-place-in-111-clause-place
pass-returns-in_err-place-in-111-clause-place t c =
    let p = err_from_is_err_and c.from_residual-in_err-place-in-111.result c.from_residual-in_err-place-in-111.ensures.1 in
    rw (p.1, p.2) (c.in_err-place-in-111.ensures.place ∙ path_read (input_of c.args.input.now) c.args.levels (ref_kind c.args.ty) c.args.bound c.args.at c.code-code.result c.in-111.is c.code-code.ensures.leaf)

pub other-returns-in-Some-clause-place : goal.other-returns-in-Some-clause-place
unfolding level
other-returns-in-Some-clause-place t c = rw (c.in-Some.ensures.fields, read_is, types_in-kinds_of) c.structure.ensures.place

pub other-returns-in-None-clause-place : goal.other-returns-in-None-clause-place
other-returns-in-None-clause-place t c =
    let i = input_of c.args.input.now in
    let b = c.args.bound in
    rw (read_is, level_single (c.args.levels == 0) (read i (c.args.levels - 1)) i (ref_kind c.args.ty) b c.args.at (not_structure (ref_kind c.args.ty) c.in-None.ensures.is.1), ← c.shape.ensures) c.single.ensures.place

pub entry-returns-clause-place : goal.entry-returns-clause-place
unfolding level
entry-returns-clause-place t c = rw read_is c.pair.ensures.place

pub elements-loop-preserved : goal.elements-loop-preserved
elements-loop-preserved t c =
    let one = read (input_of c.args.input.now) c.args.levels (ref_kind c.args.element) c.args.inside in
    let total = up_to c.args.inside.end (elements_at one c.args.inside.end c.args.len c.args.start) in
    let room : c.loop.at < c.args.inside.end = omega (arith, c.loop.invariant.0, c.if-at-inside.false) in (
      c.in_ok-at.ensures.within.1,
      passes_on one c.args.inside.end c.args.len c.loop.counter c.loop.at c.in_ok-at.at total c.loop-test.true room (sym c.in_ok-at.ensures.place) c.loop.invariant.1,
    )

pub structures-loop-preserved : goal.structures-loop-preserved
structures-loop-preserved t c =
    let i = input_of c.args.input.now in
    let ks = refs_kinds c.args.types in
    let one = read i c.args.levels (structure (kinds_of ks)) c.args.inside in
    let total = up_to c.args.inside.end (elements_at one c.args.inside.end c.args.len c.args.start) in
    let room : c.loop.at < c.args.inside.end = omega (arith, c.loop.invariant.0, c.if-at-inside.false) in (
      c.in_ok-at.ensures.within.1,
      passes_on one c.args.inside.end c.args.len c.loop.counter c.loop.at c.in_ok-at.at total c.loop-test.true room (ap after (structure_read i c.args.levels ks c.args.inside c.loop.at) ∙ sym c.in_ok-at.ensures.place) c.loop.invariant.1,
    )

pub structures-returns-in_err-at-clause-place : goal.structures-returns-in_err-at-clause-place
structures-returns-in_err-at-clause-place t c =
    let i = input_of c.args.input.now in
    let ks = refs_kinds c.args.types in
    let one = read i c.args.levels (structure (kinds_of ks)) c.args.inside in
    let total = up_to c.args.inside.end (elements_at one c.args.inside.end c.args.len c.args.start) in
    let room : c.loop.at < c.args.inside.end = omega (arith, c.loop.invariant.0, c.if-at-inside.false) in
    let refused = ap after (structure_read i c.args.levels ks c.args.inside c.loop.at) ∙ sym c.in_err-at.ensures.place in
    let p = err_from_is_err_and c.from_residual.result c.from_residual.ensures.1 in
    rw (p.1, p.2) (sym (passes_fail c.in_err-at.field-0.0 one c.args.inside.end c.args.len c.loop.counter c.loop.at total c.loop-test.true room refused c.loop.invariant.1))

pub entries-loop-preserved : goal.entries-loop-preserved
entries-loop-preserved t c =
    let one = read (input_of c.args.input.now) c.args.levels (entry_kind (ref_kind c.args.key) (ref_kind c.args.value)) c.args.inside in
    let total = up_to c.args.inside.end (elements_at one c.args.inside.end c.args.len c.args.start) in
    let room : c.loop.at < c.args.inside.end = omega (arith, c.loop.invariant.0, c.if-at-inside.false) in (
      c.in_ok-at.ensures.within.1,
      passes_on one c.args.inside.end c.args.len c.loop.counter c.loop.at c.in_ok-at.at total c.loop-test.true room (sym c.in_ok-at.ensures.place) c.loop.invariant.1,
    )

pub dictionary_body-returns-clause-place : goal.dictionary_body-returns-clause-place
dictionary_body-returns-clause-place t c =
    let i = input_of c.args.input.now in
    let key = ref_kind c.args.key in
    let value = ref_kind c.args.value in
    rw (dictionary_passes (read i c.args.levels) i key value c.args.place, array_passes (read i c.args.levels) i (entry_kind key value) c.args.place c.u32_at-len.result c.in_ok-start.start c.u32_at-len.ensures (sym c.in_ok-start.ensures.place)) c.entries.ensures.place

pub structure-returns-clause-place : goal.structure-returns-clause-place
structure-returns-clause-place t c =
    let i = input_of c.args.input.now in
    rw (structure_passes c.args.levels (read i (c.args.levels - 1)) i (refs_kinds c.args.types) c.args.bound c.args.at c.in_ok-place.place c.if-levels-eq0.false (sym c.in_ok-place.ensures.place)) c.fields.ensures.place

pub pair-returns-clause-place : goal.pair-returns-clause-place
pair-returns-clause-place t c =
    let i = input_of c.args.input.now in
    let key = ref_kind c.args.key in
    let value = ref_kind c.args.value in
    let below = read i (c.args.levels - 1) in
    rw (
      structure_passes c.args.levels below i (key ∷ value ∷ []) c.args.bound c.args.at c.in_ok-place.place c.if-levels-eq0.false (sym c.in_ok-place.ensures.place),
      pair_passes (λ k q. below k c.args.bound q) key value c.in_ok-place.place c.in_ok-between.between (sym c.in_ok-between.ensures.place),
    ) c.pass-2.ensures.place

pub structure-returns-in-None-clause-place : goal.structure-returns-in-None-clause-place
structure-returns-in-None-clause-place t c =
    let i = input_of c.args.input.now in
    rw (c.if-levels-eq0.true, c.in-None.ensures.0, c.fault.ensures, empty_deep (read i (0 - 1)) i c.args.bound c.args.at c.in_ok-place.place (sym c.in_ok-place.ensures.place)) refl

pub array_body-returns-then-size-ne0-clause-place : goal.array_body-returns-then-size-ne0-clause-place
array_body-returns-then-size-ne0-clause-place t c =
    let i = input_of c.args.input.now in
    let k = ref_kind c.args.element in
    let below = read i c.args.levels in
    let n = c.u32_at-len.result in
    let padded = rw c.alignment-align.ensures at (sym c.in_ok-start.ensures.place) in
    let here = rw c.alignment-align.ensures at c.numbers.ensures in
    let stands = rw c.alignment-align.ensures at c.in_ok-start.ensures.within.0 in
    rw (array_passes below i k c.args.place n c.in_ok-start.start c.u32_at-len.ensures padded) (
    here ∙ numbers_pass i c.args.levels k (inside k c.args.place n) n c.in_ok-start.start (c.args.place + 4) c.number_size-size.result (c.number_size-size.ensures.size ∙ code_size k c.code-code.result c.code-code.ensures.head) c.if-size-ne0.true stands (omega (arith, stands)) refl
    )
