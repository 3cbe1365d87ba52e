use Rattle.std.proofs.Common.{ap, sym, ◌∙◌}
use Rattle.std.specs.Cmp.{nat_cmp_total}
use Rattle.std.specs.FinMap as finmap
use Rattle.atspi_names.specs.Owners.{Owners}
use Rattle.atspi_names.proofs.Maps.{get-map}
use Rattle.atspi_names.proofs.names.Names.unique_name.Goals as goal

pub returns : goal.returns
returns c =
    c.get.ensures.value ∙ sym (get-map nat_cmp_total c.self.inside.unique c.args.conn) ∙ ap (λ (o : Owners). finmap.get o.unique c.args.conn) c.self.view_is
