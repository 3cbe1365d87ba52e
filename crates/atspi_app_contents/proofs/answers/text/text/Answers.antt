use Rattle.std.proofs.Common.{sym, subst}
use Rattle.std.proofs.lemmas.Result.{IfOk-weaker}
use Rattle.atspi_types.specs.DataView.{all_data}
use Rattle.atspi_marshal_in_place.specs.Items.{fields_data}
use Rattle.atspi_protocol.specs.declared.members.member.ObjectMember.{ObjectMember}
use Rattle.atspi_app_contents.specs.answers.inner.Told.{TellsText}
use Rattle.atspi_app_contents.proofs.answers.text.text.Goals as goal

pub returns-in-GetNSelections : goal.returns-in-GetNSelections
returns-in-GetNSelections g c = IfOk-weaker c.get_selection_count.result _ _ (λ v h. subst (λ (m : ObjectMember). TellsText (g.C.Face.nodes c.args.texts.now) c.args.node m (fields_data c.args.args) (all_data v)) (sym c.in-GetNSelections.is) (h (fields_data c.args.args))) c.get_selection_count.ensures

pub returns-in-GetText : goal.returns-in-GetText
returns-in-GetText g c = IfOk-weaker c.get_text.result _ _ (λ v h. subst (λ (m : ObjectMember). TellsText (g.C.Face.nodes c.args.texts.now) c.args.node m (fields_data c.args.args) (all_data v)) (sym c.in-GetText.is) h) c.get_text.ensures

pub returns-in-GetCharacterAtOffset : goal.returns-in-GetCharacterAtOffset
returns-in-GetCharacterAtOffset g c = IfOk-weaker c.get_character.result _ _ (λ v h. subst (λ (m : ObjectMember). TellsText (g.C.Face.nodes c.args.texts.now) c.args.node m (fields_data c.args.args) (all_data v)) (sym c.in-GetCharacterAtOffset.is) h) c.get_character.ensures

pub returns-in-GetStringAtOffset : goal.returns-in-GetStringAtOffset
returns-in-GetStringAtOffset g c = IfOk-weaker c.get_string.result _ _ (λ v h. subst (λ (m : ObjectMember). TellsText (g.C.Face.nodes c.args.texts.now) c.args.node m (fields_data c.args.args) (all_data v)) (sym c.in-GetStringAtOffset.is) h) c.get_string.ensures

pub returns-in-GetSelection : goal.returns-in-GetSelection
returns-in-GetSelection g c = IfOk-weaker c.get_selection.result _ _ (λ v h. subst (λ (m : ObjectMember). TellsText (g.C.Face.nodes c.args.texts.now) c.args.node m (fields_data c.args.args) (all_data v)) (sym c.in-GetSelection.is) h) c.get_selection.ensures
