use Rattle.std.proofs.Common.{[], ◌∷◌, refl}
use Rattle.atspi_tree_model.specs.declared.step.Step.TheVariants.{Caret, Delete, Insert}
use Rattle.atspi_app_exported.specs.Boxed.{kinds_in, parts_in}
use Rattle.atspi_app_exported.specs.Parts.{whole_of}
use Rattle.atspi_app_exported.proofs.Exchanged.{added_same, apply_same, behind_exported, behind_whole, can_cut_behind, can_set, ok_same, three_same}
use Rattle.atspi_app_exported.proofs.exported.Exported.exchange_behind.Goals as goal

pub exchange_behind-requires-clause-caret : goal.exchange_behind-requires-clause-caret
exchange_behind-requires-clause-caret g c = can_set (parts_in (λ b. (goal.Face-dyn g (b.vtable, b.value)).nodes b.value) c.args.self.now) c.args.node c.args.caret c.args.at c.args.gone.now c.args.text.now (apply_same (parts_in (λ b. (goal.Face-dyn g (b.vtable, b.value)).nodes b.value) c.args.self.now) (Caret c.args.node c.args.caret ∷ Delete c.args.node c.args.at c.args.gone.now ∷ Insert c.args.node c.args.at c.args.text.now ∷ []) c.args.steps.now (three_same c.args.steps.now c.args.of c.args.caret c.args.node c.args.at c.args.into c.args.to c.args.gone.now c.args.text.now c.requires.are c.requires.done) c.requires.apply)

pub exchange_behind-requires-clause-gone : goal.exchange_behind-requires-clause-gone
exchange_behind-requires-clause-gone g c =
    can_cut_behind (kinds_in (λ b. (goal.Face-dyn g (b.vtable, b.value)).of_kind b.value) c.args.self.now.kit) (parts_in (λ b. (goal.Face-dyn g (b.vtable, b.value)).nodes b.value) c.args.self.now) c.args.node c.args.caret c.args.at c.args.gone.now c.args.text.now c.requires.exported (apply_same (parts_in (λ b. (goal.Face-dyn g (b.vtable, b.value)).nodes b.value) c.args.self.now) (Caret c.args.node c.args.caret ∷ Delete c.args.node c.args.at c.args.gone.now ∷ Insert c.args.node c.args.at c.args.text.now ∷ []) c.args.steps.now (three_same c.args.steps.now c.args.of c.args.caret c.args.node c.args.at c.args.into c.args.to c.args.gone.now c.args.text.now c.requires.are c.requires.done) c.requires.apply)

pub returns-clause-exported : goal.returns-clause-exported
returns-clause-exported g c =
    behind_exported (kinds_in (λ b. (goal.Face-dyn g (b.vtable, b.value)).of_kind b.value) c.args.self.now.kit) _ (parts_in (λ b. (goal.Face-dyn g (b.vtable, b.value)).nodes b.value) c.args.self.now) c.args.node c.args.caret c.args.at c.args.gone.now c.args.text.now _ c.exchange_behind.result
    c.exchange_behind.ensures.kind c.requires.exported (apply_same (parts_in (λ b. (goal.Face-dyn g (b.vtable, b.value)).nodes b.value) c.args.self.now) (Caret c.args.node c.args.caret ∷ Delete c.args.node c.args.at c.args.gone.now ∷ Insert c.args.node c.args.at c.args.text.now ∷ []) c.args.steps.now (three_same c.args.steps.now c.args.of c.args.caret c.args.node c.args.at c.args.into c.args.to c.args.gone.now c.args.text.now c.requires.are c.requires.done) c.requires.apply) c.exchange_behind.ensures.ok c.exchange_behind.ensures.err

pub returns-clause-ok : goal.returns-clause-ok
returns-clause-ok g c =
    ok_same c.exchange_behind.result _ (whole_of (parts_in (λ b. (goal.Face-dyn g (b.vtable, b.value)).nodes b.value) c.args.self.now)) (Caret c.args.node c.args.caret ∷ Delete c.args.node c.args.at c.args.gone.now ∷ Insert c.args.node c.args.at c.args.text.now ∷ []) c.args.steps.now (three_same c.args.steps.now c.args.of c.args.caret c.args.node c.args.at c.args.into c.args.to c.args.gone.now c.args.text.now c.requires.are c.requires.done)
    (behind_whole (kinds_in (λ b. (goal.Face-dyn g (b.vtable, b.value)).of_kind b.value) c.args.self.now.kit) (parts_in (λ b. (goal.Face-dyn g (b.vtable, b.value)).nodes b.value) c.args.self.now) c.args.node c.args.caret c.args.at c.args.gone.now c.args.text.now _ c.exchange_behind.result
    c.requires.exported (apply_same (parts_in (λ b. (goal.Face-dyn g (b.vtable, b.value)).nodes b.value) c.args.self.now) (Caret c.args.node c.args.caret ∷ Delete c.args.node c.args.at c.args.gone.now ∷ Insert c.args.node c.args.at c.args.text.now ∷ []) c.args.steps.now (three_same c.args.steps.now c.args.of c.args.caret c.args.node c.args.at c.args.into c.args.to c.args.gone.now c.args.text.now c.requires.are c.requires.done) c.requires.apply) c.exchange_behind.ensures.ok)

pub returns-clause-added : goal.returns-clause-added
returns-clause-added g c = added_same c.exchange_behind.result c.args.self.now.tree.added (Caret c.args.node c.args.caret ∷ Delete c.args.node c.args.at c.args.gone.now ∷ Insert c.args.node c.args.at c.args.text.now ∷ []) c.args.steps.now (three_same c.args.steps.now c.args.of c.args.caret c.args.node c.args.at c.args.into c.args.to c.args.gone.now c.args.text.now c.requires.are c.requires.done) refl
