use Rattle.std.proofs.Common.{List, ℕ, ap, ◌∙◌}
use Rattle.std.proofs.lemmas.Result.{IfOk-weaker}
use Rattle.atspi_protocol.specs.declared.news.part.PartName.{PartName}
use Rattle.atspi_protocol.specs.following.ReaderState.{Followed}
use Rattle.atspi_protocol.specs.following.Wishes.{wishes_of}
use Rattle.atspi_reader_known.specs.Wanted.{first, refusing}
use Rattle.atspi_reader_known.proofs.Plans.{refusing_none}
use Rattle.atspi_reader_known.proofs.app.App.wish_now.Goals as goal

pub returns : goal.returns
returns c =
    let now = c.args.self.now in
    IfOk-weaker c.wish-2.result _ _
    (λ w same. same ∙ ap (λ (r : List (List ℕ × PartName)). first (wishes_of (refusing r now))) c.new.ensures ∙ ap (λ (a : Followed). first (wishes_of a)) (refusing_none now))
    c.wish-2.ensures
