use Rattle.std.proofs.Common.{◌≡◌, true, refl, ap, subst, ◌∙◌, arith}
use Rattle.atspi_types.specs.Kinds.{Kind, variant}
use Rattle.atspi_marshal_in_place.specs.codes.TyRefs.{ref_kind, refs_kinds}
use Rattle.atspi_marshal.specs.Input.{aligned}
use Rattle.atspi_marshal.specs.Faults.{short_in}
use Rattle.atspi_marshal.specs.Reading.{input_of, read}
use Rattle.atspi_marshal_in_place.specs.Passing.{after}
use Rattle.atspi_marshal_in_place.specs.Known.{is_read}
use Rattle.atspi_marshal_in_place.proofs.Knows.{entered, not_variant, jumps_number, jumps_text, jumps_path}
use Rattle.atspi_marshal_in_place.proofs.Opens.{typed_once, variant_kind, variant_passed, variant_passed_as}
use Rattle.atspi_marshal_in_place.proofs.Passes.{not_structure}
use Rattle.atspi_marshal_in_place.proofs.Runs.{code_size}
use Rattle.atspi_marshal_in_place.proofs.jumping.+jump.Goals as goal

pub jump_any-overflow_sub-levels : goal.jump_any-overflow_sub-levels
jump_any-overflow_sub-levels t c = (entered (input_of c.args.input.now) c.args.levels (ref_kind c.args.ty) (refs_kinds c.in-Some.types) c.args.bound c.args.at (aligned 8 c.args.at) c.in-Some.ensures.fields refl c.requires.known).some

pub jump_any-jump_fields-requires : goal.jump_any-jump_fields-requires
jump_any-jump_fields-requires t c =
    let e = entered (input_of c.args.input.now) c.args.levels (ref_kind c.args.ty) (refs_kinds c.in-Some.types) c.args.bound c.args.at c.align_up.result c.in-Some.ensures.fields c.align_up.ensures c.requires.known in
    (omega (arith, e.some), (e.within, (c.requires.end, e.known)))

pub jump_any-jump_other-requires : goal.jump_any-jump_other-requires
jump_any-jump_other-requires t c = record {
  end = c.requires.end;
  known = c.requires.known;
  other = not_structure (ref_kind c.args.ty) c.in-None.ensures.is.1;
  plain = not_variant (ref_kind c.args.ty) c.code-code.result c.code-code.ensures.head c.if-code-eq118.false;
}

pub jump_any-jump_variant-requires : goal.jump_any-jump_variant-requires
jump_any-jump_variant-requires t c =
    let kind : ref_kind c.args.ty ≡ variant = variant_kind (ref_kind c.args.ty) c.code-code.result c.if-code-eq118.true c.code-code.ensures.leaf in
    (omega arith, (c.requires.end, subst (λ (k : Kind). is_read (after (read (input_of c.args.input.now) c.args.levels k c.args.bound c.args.at)) ≡ true) kind c.requires.known))

pub jump_any-returns-then-code-eq118-clause-place : goal.jump_any-returns-then-code-eq118-clause-place
jump_any-returns-then-code-eq118-clause-place t c =
    let kind : ref_kind c.args.ty ≡ variant = variant_kind (ref_kind c.args.ty) c.code-code.result c.if-code-eq118.true c.code-code.ensures.leaf in
    ap (λ (k : Kind). after (read (input_of c.args.input.now) c.args.levels k c.args.bound c.args.at)) kind ∙ c.jump_variant.ensures.place

-- a variant that was passed ends where the value in it does
pub jump_variant-byte_at-len-requires : goal.jump_variant-byte_at-len-requires
jump_variant-byte_at-len-requires t c =
    let v = variant_passed (input_of c.args.input.now) c.args.levels c.args.bound c.args.at c.requires.known in
    omega (arith, v.opened.within, c.requires.end.0)

pub jump_variant-known_type-inner-requires : goal.jump_variant-known_type-inner-requires
jump_variant-known_type-inner-requires t c =
    let v = variant_passed (input_of c.args.input.now) c.args.levels c.args.bound c.args.at c.requires.known in
    record { end = (omega (arith, v.opened.within, c.requires.end.0), c.requires.end.1); known = typed_once (short_in (input_of c.args.input.now) c.args.at) v.inner v.spelled }

pub jump_variant-overflow_sub-levels : goal.jump_variant-overflow_sub-levels
jump_variant-overflow_sub-levels t c = (variant_passed (input_of c.args.input.now) c.args.levels c.args.bound c.args.at c.requires.known).opened.some

pub jump_variant-overflow_add-at : goal.jump_variant-overflow_add-at
jump_variant-overflow_add-at t c =
    let v = variant_passed (input_of c.args.input.now) c.args.levels c.args.bound c.args.at c.requires.known in
    omega (arith, v.opened.within, c.requires.end.0, c.requires.end.1)

pub jump_variant-overflow_add-at-2 : goal.jump_variant-overflow_add-at-2
jump_variant-overflow_add-at-2 t c =
    let v = variant_passed (input_of c.args.input.now) c.args.levels c.args.bound c.args.at c.requires.known in
    omega (arith, c.byte_at-len.ensures, v.opened.within, c.requires.end.0, c.requires.end.1)

pub jump_variant-jump-requires : goal.jump_variant-jump-requires
jump_variant-jump-requires t c =
    let o = variant_passed_as (input_of c.args.input.now) c.args.levels (ref_kind c.known_type-inner.result) c.args.bound c.args.at c.known_type-inner.ensures c.requires.known in
    (omega (arith, o.some), (omega (arith, c.byte_at-len.ensures, o.within), (c.requires.end, rw c.byte_at-len.ensures o.passed)))

pub jump_variant-returns-clause-place : goal.jump_variant-returns-clause-place
jump_variant-returns-clause-place t c =
    let o = variant_passed_as (input_of c.args.input.now) c.args.levels (ref_kind c.known_type-inner.result) c.args.bound c.args.at c.known_type-inner.ensures c.requires.known in
    o.place ∙ (rw c.byte_at-len.ensures at c.jump.ensures.place)

pub jump_any-returns-in-Some-clause-place : goal.jump_any-returns-in-Some-clause-place
jump_any-returns-in-Some-clause-place t c =
    let e = entered (input_of c.args.input.now) c.args.levels (ref_kind c.args.ty) (refs_kinds c.in-Some.types) c.args.bound c.args.at c.align_up.result c.in-Some.ensures.fields c.align_up.ensures c.requires.known in
    e.place ∙ c.jump_fields.ensures.place

pub jump-returns-then-size-ne0-clause-place : goal.jump-returns-then-size-ne0-clause-place
jump-returns-then-size-ne0-clause-place t c =
    let k = ref_kind c.args.ty in
    let size = c.number_size-size.ensures.size ∙ code_size k c.code-code.result c.code-code.ensures.head in
    let j = jumps_number (input_of c.args.input.now) c.args.levels k c.args.bound c.args.at c.number_size-size.result size c.if-size-ne0.true c.requires.known in
    rw c.jump_number.ensures j.place

pub jump-returns-then-size-ne0-clause-within : goal.jump-returns-then-size-ne0-clause-within
jump-returns-then-size-ne0-clause-within t c =
    let k = ref_kind c.args.ty in
    let size = c.number_size-size.ensures.size ∙ code_size k c.code-code.result c.code-code.ensures.head in
    let j = jumps_number (input_of c.args.input.now) c.args.levels k c.args.bound c.args.at c.number_size-size.result size c.if-size-ne0.true c.requires.known in
    rw c.jump_number.ensures (j.behind, j.within)

pub jump-jump_long-requires : goal.jump-jump_long-requires
jump-jump_long-requires t c =
    let j = jumps_text (input_of c.args.input.now) c.args.levels (ref_kind c.args.ty) c.args.bound c.args.at c.code-code.result c.if-code-eq115.true c.code-code.ensures.leaf c.requires.known in
    (omega (arith, j.within, c.requires.end.0), c.requires.end.1)

pub jump-returns-then-code-eq115-clause-place : goal.jump-returns-then-code-eq115-clause-place
jump-returns-then-code-eq115-clause-place t c =
    let j = jumps_text (input_of c.args.input.now) c.args.levels (ref_kind c.args.ty) c.args.bound c.args.at c.code-code.result c.if-code-eq115.true c.code-code.ensures.leaf c.requires.known in
    rw c.jump_long.ensures j.place

pub jump-returns-then-code-eq115-clause-within : goal.jump-returns-then-code-eq115-clause-within
jump-returns-then-code-eq115-clause-within t c =
    let j = jumps_text (input_of c.args.input.now) c.args.levels (ref_kind c.args.ty) c.args.bound c.args.at c.code-code.result c.if-code-eq115.true c.code-code.ensures.leaf c.requires.known in
    rw c.jump_long.ensures (j.behind, j.within)

pub jump-jump_long-requires-then-code-eq111 : goal.jump-jump_long-requires-then-code-eq111
jump-jump_long-requires-then-code-eq111 t c =
    let j = jumps_path (input_of c.args.input.now) c.args.levels (ref_kind c.args.ty) c.args.bound c.args.at c.code-code.result c.if-code-eq111.true c.code-code.ensures.leaf c.requires.known in
    (omega (arith, j.within, c.requires.end.0), c.requires.end.1)

pub jump-returns-then-code-eq111-clause-place : goal.jump-returns-then-code-eq111-clause-place
jump-returns-then-code-eq111-clause-place t c =
    let j = jumps_path (input_of c.args.input.now) c.args.levels (ref_kind c.args.ty) c.args.bound c.args.at c.code-code.result c.if-code-eq111.true c.code-code.ensures.leaf c.requires.known in
    rw c.jump_long-then-code-eq111.ensures j.place

pub jump-returns-then-code-eq111-clause-within : goal.jump-returns-then-code-eq111-clause-within
jump-returns-then-code-eq111-clause-within t c =
    let j = jumps_path (input_of c.args.input.now) c.args.levels (ref_kind c.args.ty) c.args.bound c.args.at c.code-code.result c.if-code-eq111.true c.code-code.ensures.leaf c.requires.known in
    rw c.jump_long-then-code-eq111.ensures (j.behind, j.within)
