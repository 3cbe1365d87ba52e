-- Where nobody listens no message announces a step.
use Rattle.std.proofs.Common.{◌≡◌, [], ◌∷◌, sym, ap, ◌∙◌, subst}
use Rattle.atspi_tree_model.specs.declared.step.Step.TheVariants.{Caret}
use Rattle.atspi_script_lines.specs.declared.line.Party.TheVariants.{App}
use Rattle.atspi_protocol.specs.declared.following.question.Question.TheVariants.{Hello}
use Rattle.atspi_protocol.specs.following.Calls.{asking}
use Rattle.atspi_trace.specs.Entry.{changed, sent}
use Rattle.atspi_trace_laws.specs.laws.Words.{heard_pairs, live_tree, name_in}
use Rattle.atspi_trace_laws.specs.laws.NineLaws.{IsAskedFor, Announces}
use Rattle.atspi_trace_laws.proofs.OfOrder.Parties.{false_true}
use Rattle.atspi_protocol.specs.announcing.Announced.{announced}
use Rattle.atspi_protocol.specs.exporting.Starting.{name_or_empty}
use Rattle.atspi_trace_laws.proofs.OfTaken.Said.{front_entries, front_is}

pub nobody_asked : Announces (changed 0 (Caret 1 2) ∷ (sent (App 0) (asking 5 Hello) ∷ [])) 0 5 (Caret 1 2) → ⊥
nobody_asked a =
    let none : [] ≡ a.early = ap front_entries a.stands ∙ front_is a.early (changed 0 (Caret 1 2)) in
    false_true (subst (λ e. IsAskedFor (heard_pairs e 0) (announced (name_or_empty (name_in e (App 0))) (live_tree e 0) (Caret 1 2))) (sym none) a.asked)
