use Rattle.std.proofs.Common.{◌≡◌, ℕ, ◌+◌, ◌≤◌, length, subst, ap, ◌∙◌, arith}
use Rattle.std.specs.Prelude.{IfErr}
use Rattle.atspi_types.specs.declared.fault.Fault.{Fault}
use Rattle.atspi_marshal.specs.Input.{byte_in}
use Rattle.atspi_marshal.specs.Reading.{input_of}
use Rattle.atspi_marshal.proofs.Places.{length-slice}
use Rattle.atspi_marshal_in_place.proofs.Texts.{one_place}
use Rattle.atspi_marshal_in_place.proofs.text.type_at.Goals as goal

pub returns-clause-place : goal.returns-clause-place
returns-clause-place c =
    let i = input_of c.args.input.now in
    let n = c.byte_at-len.result in
    let len : length c.slice.result.now ≡ byte_in i c.args.place = ap length c.slice.ensures ∙ length-slice i (c.args.place + 1) n (omega (arith, c.byte_at-len.ensures, c.requires)) ∙ c.byte_at-len.ensures in
    subst (λ (m : ℕ). IfErr c.parse.result (λ (w : Fault). w.place ≤ m)) len (one_place c.slice.result.now c.parse.result c.parse.ensures)
