use Rattle.std.proofs.Common.{◌++◌, sym, ap, ◌∙◌, append-nil}
use Rattle.std.specs.Map.{values_of}
use Rattle.std.specs.Cmp.{nat_cmp_total}
use Rattle.std.specs.FinMap.{nat_cmp-IsAntisymmetric}
use Rattle.atspi_names.proofs.Maps.{entries-map}
use Rattle.atspi_names.proofs.names.append_all.Goals as goal

pub returns : goal.returns
returns c =
    sym (append-nil c.loop-name.names) ∙ ap (λ rest. c.loop-name.names ++ rest) (sym c.in-None.ensures.steps.0) ∙ c.loop-name.invariant
    ∙ ap (λ all. c.args.names.now ++ all)
    (c.into_iter-name-iterator.ensures.into_iter_gives ∙ c.values-name-items.ensures.rest
    ∙ ap values_of (sym (entries-map nat_cmp_total nat_cmp-IsAntisymmetric c.args.unique.now.entries c.values-name-items.ensures.ordered)))
