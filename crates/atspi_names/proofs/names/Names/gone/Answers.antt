use Rattle.std.proofs.Common.{refl, ap, ◌∙◌}
use Rattle.std.specs.Cmp.{nat_cmp_total}
use Rattle.std.specs.FinMap.{nat_cmp-IsAntisymmetric}
use Rattle.atspi_names.specs.Owners.{after_gone}
use Rattle.atspi_names.proofs.Maps.{map-remove}
use Rattle.atspi_names.proofs.OwnersLemmas.{early-gone, same_owners}
use Rattle.atspi_names.proofs.names.Names.gone.Goals as goal

pub invariant_of-self : goal.invariant_of-self
invariant_of-self c = early-gone c.self.inside.given c.args.conn c.self.inside.book c.gone.new.self c.self.invariant c.gone.ensures

pub returns : goal.returns
returns c =
    same_owners refl (map-remove nat_cmp_total nat_cmp-IsAntisymmetric c.self.inside.unique c.remove.new.self c.args.conn c.remove.ensures.updates.0) c.gone.ensures
    ∙ ap (λ o. after_gone o c.args.conn) c.self.view_is
