use Rattle.std.proofs.Common.{◌<◌, ◌≢◌, length, map, arith, ◌∙◌, sym}
use Rattle.std.proofs.lemmas.Bool.{eqb-false}
use Rattle.std.proofs.lemmas.List.{length-map}
use Rattle.atspi_types.specs.KindView.{kind_of}
use Rattle.atspi_message.proofs.Loops.{values_some}
use Rattle.atspi_message.proofs.parsing.values.Goals as goal

pub returns : goal.returns
returns c =
    let none : length c.args.types.now ≢ 0 = λ z. eqb-false (length c.args.types.now) 0 (sym c.is_empty.ensures ∙ c.if-is_empty.false) z in
    let some : 0 < length (map kind_of c.args.types.now) = rw length-map (omega (arith, none)) in
    rw (values_some c.args.bytes.now (map kind_of c.args.types.now) c.args.place some) c.some_values.ensures
