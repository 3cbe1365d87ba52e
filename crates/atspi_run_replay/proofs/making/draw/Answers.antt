use Rattle.std.proofs.Common.{ap, refl, sym, subst, ◌∙◌}
use Rattle.atspi_tree.specs.TreeShape.{TreeShape}
use Rattle.atspi_run_make.specs.Drawing.{drawn_edit}
use Rattle.atspi_run_make.specs.Live.{CanFollow}
use Rattle.atspi_world.specs.Worlds.{staged}
use Rattle.atspi_trace.specs.Entry.{entries_of}
use Rattle.atspi_run_replay.specs.Made.{tree_told}
use Rattle.atspi_run_replay.proofs.Stopping.{none_drawn_of}
use Rattle.atspi_run_replay.proofs.TheFirst.{can_follow, lent, seen_now}
use Rattle.atspi_run_replay.proofs.making.draw.Goals as goal

pub follow-requires : goal.follow-requires
follow-requires g c =
    let p = c.requires.played in
    let t = lent g.A.Application.exporter c.args.world.now.cast.apps.items c.in-Some.app.now c.tree-tree.result.now p.0 _ p.1 refl c.in-Some.ensures c.tree-tree.ensures in
    subst (CanFollow c.args.nodes.now.nodes.items c.args.nodes.now.next) (sym t.0) (can_follow p.0 _ p.1 c.args.nodes.now.nodes.items c.args.nodes.now.next c.requires.seen)

pub returns-in-Ok-next_edit-clause-edit : goal.returns-in-Ok-next_edit-clause-edit
returns-in-Ok-next_edit-clause-edit g c =
    let p = c.requires.played in
    let t = lent g.A.Application.exporter c.args.world.now.cast.apps.items c.in-Some.app.now c.tree-tree.result.now p.0 _ p.1 refl c.in-Some.ensures c.tree-tree.ensures in
    c.in-Ok-next_edit.ensures.edit ∙ ap (λ (x : TreeShape). (drawn_edit x c.args.number c.args.draws.now.state).edit) t.0

pub returns-in-Ok-next_edit-clause-state : goal.returns-in-Ok-next_edit-clause-state
returns-in-Ok-next_edit-clause-state g c =
    let p = c.requires.played in
    let t = lent g.A.Application.exporter c.args.world.now.cast.apps.items c.in-Some.app.now c.tree-tree.result.now p.0 _ p.1 refl c.in-Some.ensures c.tree-tree.ensures in
    c.in-Ok-next_edit.ensures.state ∙ ap (λ (x : TreeShape). (drawn_edit x c.args.number c.args.draws.now.state).state) t.0

pub returns-in-Ok-next_edit-clause-seen : goal.returns-in-Ok-next_edit-clause-seen
returns-in-Ok-next_edit-clause-seen g c =
    let p = c.requires.played in
    let t = lent g.A.Application.exporter c.args.world.now.cast.apps.items c.in-Some.app.now c.tree-tree.result.now p.0 _ p.1 refl c.in-Some.ensures c.tree-tree.ensures in
    seen_now p.0 _ p.1 c.follow.new.self.nodes.items c.follow.new.self.next c.tree-tree.result.now t.1 t.0 c.in-Ok.ensures.live c.in-Ok.ensures.seen

pub returns-in_default-clause-stops : goal.returns-in_default-clause-stops
returns-in_default-clause-stops g c =
    let w = c.args.world.now in
    none_drawn_of g.A.Application.exporter w.cast.apps.items (tree_told (entries_of w.carrier.trace.items)) c.args.number c.args.draws.now.state
    (staged g.A.Application.exporter g.R.Follower.follower w)
    refl c.in_default.ensures
