use Rattle.std.proofs.Common.{◌≡◌, ℕ, ◌+◌, length, subst, ap, ◌∙◌, arith}
use Rattle.atspi_marshal.specs.Input.{byte_in}
use Rattle.atspi_marshal.specs.Reading.{input_of, FaultsBy}
use Rattle.atspi_marshal.proofs.Answers.{faults_by}
use Rattle.atspi_marshal.proofs.Places.{length-slice}
use Rattle.atspi_marshal.proofs.text.signature_at.Goals as goal

pub returns-clause-place : goal.returns-clause-place
returns-clause-place c =
    let i = input_of c.args.input.now in
    let n = c.byte_at-len.result in
    let len : length c.slice.result.now ≡ byte_in i c.args.place = ap length c.slice.ensures ∙ length-slice i (c.args.place + 1) n (omega (arith, c.byte_at-len.ensures)) ∙ c.byte_at-len.ensures in
    subst (λ (m : ℕ). FaultsBy c.parse.result m) len (faults_by c.slice.result.now c.parse.result c.parse.ensures.first)
