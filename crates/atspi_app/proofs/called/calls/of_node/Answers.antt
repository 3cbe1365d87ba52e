use Rattle.std.proofs.Common.{ℤ, subst, w32, SFits, rules}
use Rattle.std.specs.Prelude.{IfOk}
use Rattle.std.proofs.lemmas.Int.{to_z-of_z}
use Rattle.std.proofs.lemmas.Result.{IfOk-weaker}
use Rattle.atspi_marshal_in_place.specs.Items.{fields_data}
use Rattle.atspi_app_exported.specs.Parts.{faces_of}
use Rattle.atspi_app_answers.specs.declared.place.AppPlace.TheVariants as places
use Rattle.atspi_app.specs.called.inner.Told.{PlaceComesTo}
use Rattle.atspi_app.proofs.OfCalled.Coming.{member_comes_at}
use Rattle.atspi_app.proofs.OfCalled.HasCounts.{has_counts}
use Rattle.atspi_app.proofs.called.calls.of_node.Goals as goal

pub of_shape-requires-clause-shape : goal.of_shape-requires-clause-shape
of_shape-requires-clause-shape g c = c.in-None.ensures.none c.args.node

pub returns-in-Some-clause-comes : goal.returns-in-Some-clause-comes
returns-in-Some-clause-comes g c =
    let fits : SFits w32 c.args.id = search rules in
    IfOk-weaker c.of_contents.result _ _
    (λ x h. member_comes_at c.args.tree.now (faces_of (g.C.Face.nodes c.args.texts.now) (g.G.Face.nodes c.args.columns.now) (g.D.Face.nodes c.args.actions.now)) c.args.bus.now _ c.args.id c.args.node (fields_data c.args.args) c.args.ask c.in-Some.member x (to_z-of_z w32 c.args.id fits) c.requires.there c.in-Some.ensures.is h)
    c.of_contents.ensures.comes

pub returns-in-None-clause-comes : goal.returns-in-None-clause-comes
returns-in-None-clause-comes g c =
    let fits : SFits w32 c.args.id = search rules in
    subst (λ (z : ℤ). IfOk c.of_shape.result (PlaceComesTo c.args.tree.now (faces_of (g.C.Face.nodes c.args.texts.now) (g.G.Face.nodes c.args.columns.now) (g.D.Face.nodes c.args.actions.now)) c.args.bus.now z (places.Node c.args.node) (fields_data c.args.args) c.args.ask))
    (to_z-of_z w32 c.args.id fits)
    (IfOk-weaker c.of_shape.result _ _
    (λ x h. h (faces_of (g.C.Face.nodes c.args.texts.now) (g.G.Face.nodes c.args.columns.now) (g.D.Face.nodes c.args.actions.now)) (has_counts c.args.tree.now (faces_of (g.C.Face.nodes c.args.texts.now) (g.G.Face.nodes c.args.columns.now) (g.D.Face.nodes c.args.actions.now)) c.args.node c.args.ask c.counts_at-counts.result c.counts_at-counts.ensures.faces c.counts_at-counts.ensures.counts))
    c.of_shape.ensures.comes)
