use Rattle.std.proofs.Common.{[], ◌∷◌, refl}
use Rattle.atspi_tree_model.specs.declared.step.Step.TheVariants.{Delete, Insert}
use Rattle.atspi_app_exported.specs.Boxed.{kinds_in, parts_in}
use Rattle.atspi_app_exported.specs.Parts.{whole_of}
use Rattle.atspi_app_exported.proofs.Exchanged.{added_same, apply_same, can_cut, exchange_exported, exchange_whole, ok_same, two_same}
use Rattle.atspi_app_exported.proofs.exported.Exported.exchange.Goals as goal

pub exchange-requires : goal.exchange-requires
exchange-requires g c = can_cut (parts_in (λ b. (goal.Face-dyn g (b.vtable, b.value)).nodes b.value) c.args.self.now) c.args.node c.args.at c.args.gone.now c.args.text.now (apply_same (parts_in (λ b. (goal.Face-dyn g (b.vtable, b.value)).nodes b.value) c.args.self.now) (Delete c.args.node c.args.at c.args.gone.now ∷ Insert c.args.node c.args.at c.args.text.now ∷ []) c.args.steps.now (two_same c.args.steps.now c.args.node c.args.at c.args.into c.args.to c.args.gone.now c.args.text.now c.requires.are c.requires.done) c.requires.apply)

pub returns-clause-exported : goal.returns-clause-exported
returns-clause-exported g c =
    exchange_exported (kinds_in (λ b. (goal.Face-dyn g (b.vtable, b.value)).of_kind b.value) c.args.self.now.kit) _ (parts_in (λ b. (goal.Face-dyn g (b.vtable, b.value)).nodes b.value) c.args.self.now) c.args.node c.args.at c.args.gone.now c.args.text.now _ c.exchange.result
    c.exchange.ensures.kind c.requires.exported (apply_same (parts_in (λ b. (goal.Face-dyn g (b.vtable, b.value)).nodes b.value) c.args.self.now) (Delete c.args.node c.args.at c.args.gone.now ∷ Insert c.args.node c.args.at c.args.text.now ∷ []) c.args.steps.now (two_same c.args.steps.now c.args.node c.args.at c.args.into c.args.to c.args.gone.now c.args.text.now c.requires.are c.requires.done) c.requires.apply) c.exchange.ensures.ok c.exchange.ensures.err

pub returns-clause-ok : goal.returns-clause-ok
returns-clause-ok g c =
    ok_same c.exchange.result _ (whole_of (parts_in (λ b. (goal.Face-dyn g (b.vtable, b.value)).nodes b.value) c.args.self.now)) (Delete c.args.node c.args.at c.args.gone.now ∷ Insert c.args.node c.args.at c.args.text.now ∷ []) c.args.steps.now (two_same c.args.steps.now c.args.node c.args.at c.args.into c.args.to c.args.gone.now c.args.text.now c.requires.are c.requires.done)
    (exchange_whole (kinds_in (λ b. (goal.Face-dyn g (b.vtable, b.value)).of_kind b.value) c.args.self.now.kit) (parts_in (λ b. (goal.Face-dyn g (b.vtable, b.value)).nodes b.value) c.args.self.now) c.args.node c.args.at c.args.gone.now c.args.text.now _ c.exchange.result
    c.requires.exported (apply_same (parts_in (λ b. (goal.Face-dyn g (b.vtable, b.value)).nodes b.value) c.args.self.now) (Delete c.args.node c.args.at c.args.gone.now ∷ Insert c.args.node c.args.at c.args.text.now ∷ []) c.args.steps.now (two_same c.args.steps.now c.args.node c.args.at c.args.into c.args.to c.args.gone.now c.args.text.now c.requires.are c.requires.done) c.requires.apply) c.exchange.ensures.ok)

pub returns-clause-added : goal.returns-clause-added
returns-clause-added g c = added_same c.exchange.result c.args.self.now.tree.added (Delete c.args.node c.args.at c.args.gone.now ∷ Insert c.args.node c.args.at c.args.text.now ∷ []) c.args.steps.now (two_same c.args.steps.now c.args.node c.args.at c.args.into c.args.to c.args.gone.now c.args.text.now c.requires.are c.requires.done) refl
