use Rattle.std.proofs.Common.{ℤ, w32, ap, ◌∙◌, rules, SFits}
use Rattle.std.specs.Int.{cast_unsigned, cast_signed}
use Rattle.std.proofs.lemmas.Int.{of_z-to_z, to_z-of_z}
use Rattle.atspi_types.specs.Kinds.{i32}
use Rattle.atspi_types.specs.Data.{number_data}
use Rattle.atspi_types.proofs.DataLemmas.{data_of-I32}
use Rattle.atspi_app_answers.proofs.counts.counted.Goals as goal

pub returns : goal.returns
returns c =
    let fits : SFits w32 c.cast_signed.result = search rules in
    data_of-I32 (cast_signed w32 (cast_unsigned w32 c.cast_signed.result))
    ∙ ap (λ (z : ℤ). number_data i32 (cast_unsigned w32 z)) (to_z-of_z w32 c.cast_signed.result fits ∙ c.cast_signed.ensures)
    ∙ ap (number_data i32) (of_z-to_z w32 c.args.n c.ranges.n.fits)
