use Rattle.std.proofs.Common.{◌≡◌, refl, ap, ◌∙◌, arith}
use Rattle.std.proofs.lemmas.Bool.{false≢true}
use Rattle.atspi_types.specs.Kinds.{signature}
use Rattle.atspi_marshal_in_place.specs.codes.Codes.{head_code}
use Rattle.atspi_marshal_in_place.specs.codes.TyRefs.{ref_kind, refs_kinds}
use Rattle.atspi_marshal.specs.Reading.{input_of}
use Rattle.atspi_marshal_in_place.proofs.Opens.{signature_opened, signature_types, signature_spelled, leaf_kind}
use Rattle.atspi_marshal_in_place.proofs.cursor.Item.signature.Goals as goal

pub known_types-requires : goal.known_types-requires
known_types-requires c =
    let x = c.args.self in
    let kind : ref_kind x.ty ≡ signature = leaf_kind (ref_kind x.ty) c.code-code.result 103 (omega (arith, c.if-code-ne103.false)) (λ e. absurd (omega (arith, e))) (λ e. absurd (omega (arith, e))) c.code-code.ensures.leaf in
    let o = signature_opened (input_of x.input) x.levels (ref_kind x.ty) x.bound x.at kind x.known in
    record { end = (omega (arith, o.within, x.within.1), x.within.2); known = signature_spelled (input_of x.input) x.levels (ref_kind x.ty) x.bound x.at kind x.known }

pub returns-then-code-ne103-clause-is : goal.returns-then-code-ne103-clause-is
returns-then-code-ne103-clause-is c = (λ s. absurd (false≢true s), λ e. absurd (c.if-code-ne103.true (c.code-code.ensures.head ∙ ap head_code e)))

pub returns-clause-is : goal.returns-clause-is
returns-clause-is c =
    let x = c.args.self in
    let kind : ref_kind x.ty ≡ signature = leaf_kind (ref_kind x.ty) c.code-code.result 103 (omega (arith, c.if-code-ne103.false)) (λ e. absurd (omega (arith, e))) (λ e. absurd (omega (arith, e))) c.code-code.ensures.leaf in
    (λ s. kind, λ e. refl)

pub returns-clause-types : goal.returns-clause-types
returns-clause-types c =
    let x = c.args.self in
    let kind : ref_kind x.ty ≡ signature = leaf_kind (ref_kind x.ty) c.code-code.result 103 (omega (arith, c.if-code-ne103.false)) (λ e. absurd (omega (arith, e))) (λ e. absurd (omega (arith, e))) c.code-code.ensures.leaf in
    signature_types (input_of x.input) x.levels (ref_kind x.ty) x.bound x.at (refs_kinds c.known_types.result) kind x.known c.known_types.ensures
