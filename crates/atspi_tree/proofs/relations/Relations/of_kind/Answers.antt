use Rattle.std.proofs.Common.{ap, ◌∙◌, arith}
use Rattle.atspi_tree_model.specs.Row.{targets_of}
use Rattle.atspi_tree.proofs.Together.{part_fits, part_is}
use Rattle.atspi_tree.proofs.relations.Relations.of_kind.Goals as goal

pub overflow_add-result : goal.overflow_add-result
overflow_add-result c =
    omega (
      arith,
      part_fits c.args.kind c.self.inside.pairs.items c.deref.result.now c.deref-2.result.now c.self.inside.targets.items c.first_of_kind-first.result c.count_of_kind-count.result c.self.invariant
          c.deref.ensures.value c.deref-2.ensures.value c.first_of_kind-first.ensures c.count_of_kind-count.ensures,
    )

pub offset_bounds-deref-first : goal.offset_bounds-deref-first
offset_bounds-deref-first c =
    omega (
      arith,
      part_fits c.args.kind c.self.inside.pairs.items c.deref.result.now c.deref-2.result.now c.self.inside.targets.items c.first_of_kind-first.result c.count_of_kind-count.result c.self.invariant
          c.deref.ensures.value c.deref-2.ensures.value c.first_of_kind-first.ensures c.count_of_kind-count.ensures,
    )

pub slice_bounds-result-end : goal.slice_bounds-result-end
slice_bounds-result-end c =
    omega (
      arith,
      part_fits c.args.kind c.self.inside.pairs.items c.deref.result.now c.deref-2.result.now c.self.inside.targets.items c.first_of_kind-first.result c.count_of_kind-count.result c.self.invariant
          c.deref.ensures.value c.deref-2.ensures.value c.first_of_kind-first.ensures c.count_of_kind-count.ensures,
    )

pub returns : goal.returns
returns c =
    part_is c.args.kind c.self.inside.pairs.items c.deref.result.now c.deref-2.result.now c.self.inside.targets.items c.deref-3.result.now c.first_of_kind-first.result c.count_of_kind-count.result c.self.invariant
    c.deref.ensures.value c.deref-2.ensures.value c.deref-3.ensures.value c.first_of_kind-first.ensures c.count_of_kind-count.ensures
    ∙ ap (targets_of c.args.kind) c.self.view_is
