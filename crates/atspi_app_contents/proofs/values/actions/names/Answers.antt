use Rattle.std.proofs.Common.{arith}
use Rattle.atspi_app_contents.proofs.OfValues.Contents.{has_name, names_more}
use Rattle.atspi_app_contents.proofs.values.actions.names.Goals as goal

pub part-requires : goal.part-requires
part-requires g c =
    let l = c.loop-i-test.true in
    let e = c.count-i-end.ensures in
    has_name (g.D.Face.of_kind c.args.actions.now) c.requires (g.D.Face.nodes c.args.actions.now) c.kind.ensures.contents c.args.node c.loop-i.i c.loop-i.i (omega (arith, l, e))

pub loop-i-preserved : goal.loop-i-preserved
loop-i-preserved g c =
    let l = c.loop-i-test.true in
    let e = c.count-i-end.ensures in
    names_more (g.D.Face.of_kind c.args.actions.now) c.requires (g.D.Face.nodes c.args.actions.now) c.kind.ensures.contents c.args.node c.loop-i.names c.push.new.self c.loop-i.i c.in_ok-part.field-0 (omega (arith, l, e)) c.loop-i.invariant c.in_ok-part.ensures c.in_ok-push.ensures.ok
