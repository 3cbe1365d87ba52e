use Rattle.atspi_app_answers.proofs.Listing.{one_put, more_put}
use Rattle.atspi_app_answers.proofs.lists.of_accessible.Goals as goal

pub returns : goal.returns
returns c = λ faces s is k. more_put _ _ _ _ (more_put _ _ _ _ (more_put _ _ _ _ (more_put _ _ _ _ (more_put _ _ _ _ (one_put _ _ _ c.new-all.ensures (c.in_ok-put.ensures faces s is k.0)) (c.in_ok-put-2.ensures faces s is k.1.0)) (c.in_ok-put-3.ensures faces s is k.1.1.0)) (c.in_ok-put-4.ensures faces s is k.1.1.1.0)) (c.in_ok-put-5.ensures faces s is k.1.1.1.1.0)) (c.in_ok-put-6.ensures faces s is k.1.1.1.1.1.0)
