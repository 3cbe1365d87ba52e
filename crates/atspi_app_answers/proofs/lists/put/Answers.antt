use Rattle.atspi_app_answers.proofs.Listing.{entry_put}
use Rattle.atspi_app_answers.proofs.lists.put.Goals as goal

pub returns : goal.returns
returns c = λ faces s is k.
    entry_put _ _ _ _ _ _ c.in_ok-key.ensures (c.in_ok-value.ensures faces s is k) c.in_ok-push.ensures.ok
