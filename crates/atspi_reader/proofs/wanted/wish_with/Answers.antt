use Rattle.std.proofs.Common.{List, refl, ap, ◌∙◌}
use Rattle.std.proofs.lemmas.Result.{IfOk-weaker}
use Rattle.atspi_protocol.specs.following.ReaderState.{Followed}
use Rattle.atspi_protocol.specs.following.Wishes.{wishes}
use Rattle.atspi_reader_known.specs.Wanted.{first}
use Rattle.atspi_reader.proofs.Replies.{put_one}
use Rattle.atspi_reader.proofs.wanted.wish_with.Goals as goal

pub returns : goal.returns
returns c =
    IfOk-weaker c.wish.result _ _ (λ w same. same ∙ ap (λ (l : List Followed). first (wishes l)) (put_one c.args.app c.args.app.now c.args.name.now c.args.apps.now refl)) c.wish.ensures
