use Rattle.std.proofs.Common.{refl}
use Rattle.atspi_app_exported.proofs.Opened.{same_faces, text_back, columns_back}
use Rattle.atspi_whole_tree.proofs.opening.open.Goals as goal

pub returns-in_default-clause-err : goal.returns-in_default-clause-err
returns-in_default-clause-err g c =
    same_faces _ _ _ _ _ _ (text_back _ _ _ c.args.node c.args.seed.now.text c.requires.no_text c.in_ok-open_text.ensures.ok c.drop_node.ensures.gone) c.in_default.ensures.err refl

pub returns-in_default-open_actions-clause-err : goal.returns-in_default-open_actions-clause-err
returns-in_default-open_actions-clause-err g c =
    same_faces _ _ _ _ _ _
    (text_back _ _ _ c.args.node c.args.seed.now.text c.requires.no_text c.in_ok-open_text.ensures.ok c.drop_node-in_default-open_actions.ensures.gone)
    (columns_back _ _ _ c.args.node c.args.seed.now.columns c.requires.no_columns c.in-Ok.ensures.ok c.drop_node-in_default-open_actions-2.ensures.gone)
    c.in_default-open_actions.ensures.err
