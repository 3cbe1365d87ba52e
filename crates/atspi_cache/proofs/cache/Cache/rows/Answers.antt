use Rattle.std.proofs.Common.{ap, sym, ◌∙◌}
use Rattle.atspi_cache.specs.Cache.{View}
use Rattle.std.specs.Prelude.{Some}
use Rattle.atspi_cache_arena.specs.Sights.{sights}
use Rattle.std.specs.Option.{option_copied, option_map}
use Rattle.atspi_cache.proofs.ViewLemmas.{get_found, get_missed}
use Rattle.atspi_cache.proofs.cache.Cache.rows.Goals as goal

pub returns-in-Some : goal.returns-in-Some
returns-in-Some c =
    let found = get_found c.self.inside.apps c.args.self.now c.args.app c.in-Some.held.now c.self.view_is (sym c.get.ensures.value ∙ ap option_copied c.in-Some.is) in
    ap Some c.rows.ensures ∙ sym (ap (option_map (λ (v : View). sights v.rows)) found)

pub returns-in-None : goal.returns-in-None
returns-in-None c =
    let missed = get_missed c.self.inside.apps c.args.self.now c.args.app c.self.view_is (sym c.get.ensures.value ∙ ap option_copied c.in-None.is) in
    sym (ap (option_map (λ (v : View). sights v.rows)) missed)
