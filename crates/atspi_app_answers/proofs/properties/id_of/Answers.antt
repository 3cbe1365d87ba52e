use Rattle.std.proofs.Common.{ap, ◌∙◌, rules, w32, SFits}
use Rattle.std.proofs.lemmas.Int.{to_z-of_z}
use Rattle.atspi_types.specs.DataView.{data_of}
use Rattle.atspi_protocol.specs.members.Arguments.{int}
use Rattle.atspi_app_answers.proofs.Telling.{is_number}
use Rattle.atspi_app_answers.proofs.properties.id_of.Goals as goal

pub returns : goal.returns
returns c =
    let fits : SFits w32 c.args.id.now = search rules in
    is_number c.args.tree.now c.args.bus.now c.args.id.now c.args.counts c.args.node (data_of c.signed.result) (c.signed.ensures ∙ ap int (to_z-of_z w32 c.args.id.now fits))
