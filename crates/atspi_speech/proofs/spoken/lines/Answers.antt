use Rattle.std.proofs.Common.{Some, None, ap, subst, ◌∙◌}
use Rattle.std.specs.Option.{option_copied}
use Rattle.atspi_speech.specs.Speech.{lines}
use Rattle.atspi_speech.specs.Looked.{AreLookedUp}
use Rattle.atspi_speech.proofs.LookedLemmas.{heard, heard_none, name_told, state_told, inserted_told, deleted_told, item_told}
use Rattle.atspi_speech.proofs.spoken.lines.Goals as goal

pub returns-in-Item-clause-ok : goal.returns-in-Item-clause-ok
returns-in-Item-clause-ok c v h =
    let k = subst (λ n. AreLookedUp v n (option_copied c.args.row) c.args.has_parent) c.in-Item.is h in
    heard _ _ _ _ _ _ (lines c.args.root.now c.args.bus.now v) c.in-Item.is
    (item_told c.args.root.now c.args.bus.now v c.in-Item.item (option_copied c.args.row) c.args.has_parent k.0 k.1) c.item_came.ensures.ok

pub returns-in-Some-clause-ok : goal.returns-in-Some-clause-ok
returns-in-Some-clause-ok c v h =
    let k = subst (λ n. AreLookedUp v n (option_copied c.args.row) c.args.has_parent) c.in-Name.is h in
    heard _ _ _ _ _ _ (lines c.args.root.now c.args.bus.now v) c.in-Name.is
    (name_told c.args.root.now c.args.bus.now v c.in-Name.field-0 c.in-Name.name (Some c.in-Some.row.now) (k ∙ ap option_copied c.in-Some.is))
    c.renamed.ensures.ok

pub returns-in-None-clause-ok : goal.returns-in-None-clause-ok
returns-in-None-clause-ok c v h =
    let k = subst (λ n. AreLookedUp v n (option_copied c.args.row) c.args.has_parent) c.in-Name.is h in
    heard_none _ _ _ (lines c.args.root.now c.args.bus.now v) c.in-Name.is
    (name_told c.args.root.now c.args.bus.now v c.in-Name.field-0 c.in-Name.name None (k ∙ ap option_copied c.in-None.is))

pub returns-in-Some-row-clause-ok : goal.returns-in-Some-row-clause-ok
returns-in-Some-row-clause-ok c v h =
    let k = subst (λ n. AreLookedUp v n (option_copied c.args.row) c.args.has_parent) c.in-State.is h in
    heard _ _ _ _ _ _ (lines c.args.root.now c.args.bus.now v) c.in-State.is
    (state_told c.args.root.now c.args.bus.now v c.in-State.field-0 c.in-State.state c.in-State.on (Some c.in-Some-row.row.now) (k ∙ ap option_copied c.in-Some-row.is))
    c.state_changed.ensures.ok

pub returns-in-None-row-clause-ok : goal.returns-in-None-row-clause-ok
returns-in-None-row-clause-ok c v h =
    let k = subst (λ n. AreLookedUp v n (option_copied c.args.row) c.args.has_parent) c.in-State.is h in
    heard_none _ _ _ (lines c.args.root.now c.args.bus.now v) c.in-State.is
    (state_told c.args.root.now c.args.bus.now v c.in-State.field-0 c.in-State.state c.in-State.on None (k ∙ ap option_copied c.in-None-row.is))

pub returns-in-Some-row-2-clause-ok : goal.returns-in-Some-row-2-clause-ok
returns-in-Some-row-2-clause-ok c v h =
    let k = subst (λ n. AreLookedUp v n (option_copied c.args.row) c.args.has_parent) c.in-Inserted.is h in
    heard _ _ _ _ _ _ (lines c.args.root.now c.args.bus.now v) c.in-Inserted.is
    (inserted_told c.args.root.now c.args.bus.now v c.in-Inserted.path c.in-Inserted.at c.in-Inserted.text (Some c.in-Some-row-2.row.now) (k ∙ ap option_copied c.in-Some-row-2.is))
    c.text_changed.ensures.ok

pub returns-in-None-row-2-clause-ok : goal.returns-in-None-row-2-clause-ok
returns-in-None-row-2-clause-ok c v h =
    let k = subst (λ n. AreLookedUp v n (option_copied c.args.row) c.args.has_parent) c.in-Inserted.is h in
    heard_none _ _ _ (lines c.args.root.now c.args.bus.now v) c.in-Inserted.is
    (inserted_told c.args.root.now c.args.bus.now v c.in-Inserted.path c.in-Inserted.at c.in-Inserted.text None (k ∙ ap option_copied c.in-None-row-2.is))

pub returns-in-Some-row-3-clause-ok : goal.returns-in-Some-row-3-clause-ok
returns-in-Some-row-3-clause-ok c v h =
    let k = subst (λ n. AreLookedUp v n (option_copied c.args.row) c.args.has_parent) c.in-Deleted.is h in
    heard _ _ _ _ _ _ (lines c.args.root.now c.args.bus.now v) c.in-Deleted.is
    (deleted_told c.args.root.now c.args.bus.now v c.in-Deleted.path c.in-Deleted.at c.in-Deleted.len c.in-Deleted.text (Some c.in-Some-row-3.row.now) (k ∙ ap option_copied c.in-Some-row-3.is))
    c.text_changed-in-Some-row-3.ensures.ok

pub returns-in-None-row-3-clause-ok : goal.returns-in-None-row-3-clause-ok
returns-in-None-row-3-clause-ok c v h =
    let k = subst (λ n. AreLookedUp v n (option_copied c.args.row) c.args.has_parent) c.in-Deleted.is h in
    heard_none _ _ _ (lines c.args.root.now c.args.bus.now v) c.in-Deleted.is
    (deleted_told c.args.root.now c.args.bus.now v c.in-Deleted.path c.in-Deleted.at c.in-Deleted.len c.in-Deleted.text None (k ∙ ap option_copied c.in-None-row-3.is))
