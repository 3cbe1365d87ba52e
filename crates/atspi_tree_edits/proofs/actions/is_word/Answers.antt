use Rattle.std.proofs.Common.{ℕ, List, ap, ◌∙◌}
use Rattle.std.specs.Prelude.{bytes_eq}
use Rattle.atspi_tree_edits.proofs.Deeds.{same_word}
use Rattle.atspi_tree_edits.proofs.actions.is_word.Goals as goal

pub returns : goal.returns
returns c =
    c.eq.ensures ∙ ap (λ (l : List ℕ). bytes_eq l c.args.word.now) c.as_str.ensures.spelled ∙ same_word c.args.text.now c.args.word.now c.requires
