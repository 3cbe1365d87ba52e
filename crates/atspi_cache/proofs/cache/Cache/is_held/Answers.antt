use Rattle.std.proofs.Common.{ap, sym, ◌∙◌}
use Rattle.std.specs.Prelude.{is_some}
use Rattle.std.specs.Option.{option_copied}
use Rattle.atspi_cache.proofs.ViewLemmas.{get_found, get_missed}
use Rattle.atspi_cache.proofs.cache.Cache.is_held.Goals as goal

pub returns-in-Some : goal.returns-in-Some
returns-in-Some c =
    let found = get_found c.self.inside.apps c.args.self.now c.args.app _ c.self.view_is (sym c.get.ensures.value ∙ ap option_copied c.in-Some.is) in
    sym (ap is_some found)

pub returns-in-None : goal.returns-in-None
returns-in-None c =
    let missed = get_missed c.self.inside.apps c.args.self.now c.args.app c.self.view_is (sym c.get.ensures.value ∙ ap option_copied c.in-None.is) in
    sym (ap is_some missed)
