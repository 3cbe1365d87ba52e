use Rattle.std.proofs.Common.{arith}
use Rattle.atspi_types.specs.DataView.{all_data}
use Rattle.atspi_hit_answers.proofs.Taken.{screen_tells}
use Rattle.atspi_hit_answers.proofs.arguments.is_screen.Goals as goal

pub returns : goal.returns
returns c =
    screen_tells (all_data c.args.body.now) c.at.result c.is_of_screen.result (omega arith) c.at.ensures c.is_of_screen.ensures
