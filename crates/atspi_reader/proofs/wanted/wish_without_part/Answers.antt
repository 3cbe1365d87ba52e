use Rattle.std.proofs.Common.{◌≡◌, ℕ, List, subst, IfOk}
use Rattle.atspi_protocol.specs.declared.news.part.PartName.{PartName}
use Rattle.atspi_protocol.specs.following.Wishes.{wishes}
use Rattle.atspi_protocol.specs.following.Replied.{changed}
use Rattle.atspi_reader_known.specs.Wanted.{first, refusing}
use Rattle.atspi_reader.proofs.wanted.wish_without_part.Goals as goal

pub returns : goal.returns
returns c =
    subst (λ (ps : List (List ℕ × PartName)). IfOk c.wish_with_parts.result (λ wish. wish ≡ first (wishes (changed (refusing ps) c.args.name.now c.args.apps.now))))
    c.in_ok-parts.ensures c.wish_with_parts.ensures
