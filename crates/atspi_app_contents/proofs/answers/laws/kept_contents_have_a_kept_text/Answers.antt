use Rattle.atspi_app_contents.proofs.OfAnswers.Kept.{keeps_text}
use Rattle.atspi_app_contents.proofs.answers.laws.kept_contents_have_a_kept_text.Goals as goal

pub returns : goal.returns
returns c = keeps_text
