use Rattle.std.proofs.Common.{◌≡◌, ℕ, ap, ◌∙◌, arith}
use Rattle.atspi_marshal_in_place.specs.Paths.{precede}
use Rattle.atspi_marshal_in_place.proofs.text.precede_16.Goals as goal

pub returns : goal.returns
returns c =
    let all : c.loop-i.i ≡ 16 = omega (arith, c.loop-i-test.false, c.loop-i.auto.i-end) in
    c.loop-i.invariant ∙ ap (λ (n : ℕ). precede c.args.at n c.args.bytes.now) all
