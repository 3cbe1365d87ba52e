use Rattle.std.proofs.Common.{List, ℕ, map, refl, sym, ap, ◌∙◌, arith}
use Rattle.std.proofs.lemmas.Bool.{false≢true}
use Rattle.atspi_types.specs.Kinds.{byte, number}
use Rattle.atspi_types.specs.Data.{array_data, number_data, items_of}
use Rattle.atspi_marshal_in_place.specs.codes.TyRefs.{ref_kind}
use Rattle.atspi_marshal.specs.Reading.{input_of}
use Rattle.atspi_marshal_in_place.proofs.Opens.{bytes_opened}
use Rattle.atspi_marshal_in_place.proofs.cursor.Item.bytes.Goals as goal

pub u32_at-len-requires : goal.u32_at-len-requires
u32_at-len-requires c =
    let x = c.args.self in
    let o = bytes_opened (input_of x.input) x.levels (ref_kind x.ty) x.bound x.at c.align_up-place.result _ (c.is_bytes.ensures.0 c.if-is_bytes.true) c.align_up-place.ensures refl x.within.1 x.known in
    (omega (arith, o.0, x.within.1), x.within.2)

pub slice-requires : goal.slice-requires
slice-requires c =
    let x = c.args.self in
    let o = bytes_opened (input_of x.input) x.levels (ref_kind x.ty) x.bound x.at c.align_up-place.result c.u32_at-len.result (c.is_bytes.ensures.0 c.if-is_bytes.true) c.align_up-place.ensures c.u32_at-len.ensures x.within.1 x.known in
    (omega (arith, o.0, x.within.1), x.within.2)

pub returns-then-is_bytes-clause-is : goal.returns-then-is_bytes-clause-is
returns-then-is_bytes-clause-is c = (λ s. c.is_bytes.ensures.0 c.if-is_bytes.true, λ e. refl)

pub returns-then-is_bytes-clause-bytes : goal.returns-then-is_bytes-clause-bytes
returns-then-is_bytes-clause-bytes c =
    let x = c.args.self in
    let o = bytes_opened (input_of x.input) x.levels (ref_kind x.ty) x.bound x.at c.align_up-place.result c.u32_at-len.result (c.is_bytes.ensures.0 c.if-is_bytes.true) c.align_up-place.ensures c.u32_at-len.ensures x.within.1 x.known in
    o.1 ∙ ap (λ (bs : List ℕ). array_data (number byte) (items_of (map (number_data byte) bs))) (sym c.slice.ensures)

pub returns-clause-is : goal.returns-clause-is
returns-clause-is c = (λ s. absurd (false≢true s), λ e. absurd (false≢true (sym c.if-is_bytes.false ∙ c.is_bytes.ensures.1 e)))
