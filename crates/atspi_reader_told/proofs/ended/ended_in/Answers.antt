use Rattle.std.proofs.Common.{◌∙◌}
use Rattle.atspi_marshal_in_place.specs.Items.{fields_data}
use Rattle.atspi_reader_told.proofs.EndedLemmas.{ended_is}
use Rattle.atspi_reader_told.proofs.ended.ended_in.Goals as goal

pub returns : goal.returns
returns c = c.name_in.ensures ∙ ended_is (fields_data c.args.body)
