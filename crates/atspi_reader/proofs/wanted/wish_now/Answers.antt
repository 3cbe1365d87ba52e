use Rattle.std.proofs.Common.{[]}
use Rattle.std.proofs.lemmas.Result.{IfOk-weaker}
use Rattle.atspi_reader.proofs.Replies.{settled_wish}
use Rattle.atspi_reader.proofs.wanted.wish_now.Goals as goal

pub returns : goal.returns
returns c = IfOk-weaker c.wish_with_parts.result _ _ (λ w same. settled_wish w c.new-none.result [] c.args.apps.now same c.new-none.ensures) c.wish_with_parts.ensures
