use Rattle.atspi_app_answers.proofs.Listing.{one_put, more_put}
use Rattle.atspi_app_answers.proofs.lists.of_text.Goals as goal

pub returns : goal.returns
returns c = λ faces s is k. more_put _ _ _ _ (one_put _ _ _ c.new-all.ensures (c.in_ok-put.ensures faces s is k.0)) (c.in_ok-put-2.ensures faces s is k.1.0)
