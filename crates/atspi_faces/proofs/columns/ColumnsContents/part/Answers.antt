use Rattle.std.proofs.Common.{◌≡◌, [], chars, ◌∙◌}
use Rattle.std.proofs.lemmas.Result.{IfOk-weaker}
use Rattle.std.proofs.lemmas.Str.{chars-nil}
use Rattle.atspi_faces.proofs.columns.ColumnsContents.part.Goals as goal

pub returns : goal.returns
returns c = IfOk-weaker c.of.result (λ text. text ≡ chars []) (λ text. text ≡ []) (λ text e. e ∙ chars-nil) c.of.ensures
