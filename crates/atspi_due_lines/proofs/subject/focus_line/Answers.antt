use Rattle.std.proofs.Common.{◌≡◌, ◌++◌, ap, ◌∙◌, arith}
use Rattle.std.specs.Prelude.{codes}
use Rattle.atspi_speech.proofs.LineLemmas.{front_of, front_named, front_unnamed, focus_told}
use Rattle.atspi_due_lines.proofs.subject.focus_line.Goals as goal
use Rattle.atspi_due_lines.proofs.subject.focus_line.Goals.{then-count-ne0+in_ok-push+in_ok-push_word, else-count-ne0}

pub returns : goal.returns
returns c =
    focus_told _ c.args.node.now.name.now c.if-count-ne0.line _ _ c.args.node.now.role c.args.node.now.states front c.in_ok-push_role.ensures
    c.in_ok-push_states.ensures c.into_text.ensures
  where
    front : c.if-count-ne0.line ≡ front_of c.args.node.now.name.now
    front =
        elim c.if-count-ne0.branch [
          | then-count-ne0+in_ok-push+in_ok-push_word w ↦
              front_named _ _ _ c.count.ensures (λ z. omega (arith, z)) (w.line-is ∙ w.in_ok-push_word.ensures ∙ ap (λ l. l ++ codes ", ") (w.in_ok-push.ensures ∙ ap (λ l. l ++ c.args.node.now.name.now) c.new-line.ensures))
          | else-count-ne0 w ↦ front_unnamed _ _ _ c.count.ensures (omega arith) (w.line-is ∙ c.new-line.ensures)
        ]
