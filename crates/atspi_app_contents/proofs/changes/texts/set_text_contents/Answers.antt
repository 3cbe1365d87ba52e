use Rattle.std.proofs.Common.{ap, ◌∙◌}
use Rattle.std.proofs.lemmas.Result.{IfOk-weaker}
use Rattle.atspi_marshal_in_place.specs.Items.{fields_data}
use Rattle.std.proofs.Common.{List, ℕ}
use Rattle.atspi_app_contents.specs.changes.inner.Steps.{exchanged}
use Rattle.atspi_app_contents.proofs.OfChanges.Changed.{exchanges_text}
use Rattle.atspi_app_contents.proofs.changes.texts.set_text_contents.Goals as goal

pub returns : goal.returns
returns c =
    IfOk-weaker c.exchange.result _ _ (λ steps h. exchanges_text c.args.tree.now c.args.known.now c.args.node (fields_data c.args.args) steps c.requires (h ∙ ap (λ (l : List ℕ). exchanged c.args.tree.now c.args.known.now c.args.node l) c.in_ok-text.ensures)) c.exchange.ensures
