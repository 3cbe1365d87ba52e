use Rattle.atspi_app_answers.proofs.Listing.{one_put}
use Rattle.atspi_app_answers.proofs.lists.of_action.Goals as goal

pub returns : goal.returns
returns c = λ faces s is k. one_put _ _ _ c.new-all.ensures (c.in_ok-put.ensures faces s is k.0)
