use Rattle.std.proofs.Common.{ap, ◌∙◌, arith}
use Rattle.std.specs.Option.{option_map}
use Rattle.std.proofs.lemmas.Map.Keys.{le_from_not_gt}
use Rattle.atspi_faces.proofs.NodeLemmas.{get_nodes, not_above, some_at, none_by}
use Rattle.atspi_faces.proofs.kept.KeptFace.next_node.Goals as goal

pub returns-in-Some : goal.returns-in-Some
returns-in-Some g c =
    let a = c.range.ensures.in_range tt in
    let steps = c.in-Some.ensures.steps in
    let es = c.args.self.now.nodes.entries in
    let first = rw steps at a.1 in (
      le_from_not_gt c.args.from c.in-Some.node.now first.0.0,
      some_at (get_nodes g.C.Contents.as_data es c.in-Some.node.now ∙ ap (option_map g.C.Contents.as_data) first.1),
      λ k h l. get_nodes g.C.Contents.as_data es k ∙ ap (option_map g.C.Contents.as_data) (none_by _ (λ s.
          let le = le_from_not_gt c.in-Some.node.now k (rw steps at (a.2 k (not_above c.args.from k h, tt) s)) in
          omega arith)),
    )

pub returns-in-None : goal.returns-in-None
returns-in-None g c = λ k h.
    let a = c.range.ensures.in_range tt in
    get_nodes g.C.Contents.as_data c.args.self.now.nodes.entries k
    ∙ ap (option_map g.C.Contents.as_data) (a.5 c.in-None.ensures.steps.0 k (not_above c.args.from k h, tt))
