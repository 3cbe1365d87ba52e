use Rattle.std.proofs.Common.{sym, ap, ◌∙◌, [], ℕ, List, Option}
use Rattle.std.specs.Prelude.{unwrap_or}
use Rattle.std.proofs.lemmas.Str.{chars-nil}
use Rattle.std.proofs.lemmas.Result.{IfOk-weaker}
use Rattle.atspi_registry.proofs.questions.own_text.Goals as goal

pub returns-in-None : goal.returns-in-None
returns-in-None c = IfOk-weaker c.of.result _ _ (λ t h. h ∙ chars-nil ∙ sym (ap (λ (o : Option (List ℕ)). unwrap_or o []) c.in-None.is)) c.of.ensures
