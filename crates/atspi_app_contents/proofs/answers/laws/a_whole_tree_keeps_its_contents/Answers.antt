use Rattle.atspi_app_contents.proofs.OfAnswers.Kept.{keeps}
use Rattle.atspi_app_contents.proofs.answers.laws.a_whole_tree_keeps_its_contents.Goals as goal

pub returns : goal.returns
returns c = keeps
