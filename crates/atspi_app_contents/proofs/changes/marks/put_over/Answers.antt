use Rattle.std.proofs.Common.{Some, List, ℕ, [], ◌∷◌, cond, sym, ap, ◌∙◌}
use Rattle.std.proofs.lemmas.Option.{slice_get_within}
use Rattle.atspi_tree_model.specs.declared.step.Step.{Step}
use Rattle.atspi_tree_model.specs.declared.step.Step.TheVariants.{TextSelect}
use Rattle.atspi_app_contents.specs.changes.inner.Steps.{with_mark}
use Rattle.atspi_app_contents.proofs.changes.marks.put_over.Goals as goal

pub with-requires : goal.with-requires
with-requires c = slice_get_within c.args.marks.now c.args.index c.args.there c.requires

pub returns-then-same : goal.returns-then-same
returns-then-same c =
    ap (λ (l : List Step). Some l) c.new.ensures
    ∙ sym (ap (λ b. cond b (Some []) (Some (TextSelect c.args.node (with_mark c.args.index c.args.mark c.args.marks.now) ∷ []))) (sym c.same.ensures ∙ c.if-same.true))

pub returns : goal.returns
returns c =
    ap (λ (l : List Step). Some l) (c.in_ok-selecting.ensures ∙ ap (λ (m : List (ℕ × ℕ)). TextSelect c.args.node m ∷ []) c.in_ok-all.ensures)
    ∙ sym (ap (λ b. cond b (Some []) (Some (TextSelect c.args.node (with_mark c.args.index c.args.mark c.args.marks.now) ∷ []))) (sym c.same.ensures ∙ c.if-same.false))
