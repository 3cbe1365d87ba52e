use Rattle.std.proofs.Common.{ap, sym}
use Rattle.atspi_protocol.specs.following.ReaderState.{Followed}
use Rattle.atspi_reader_known.specs.Kept.{kept}
use Rattle.atspi_reader_known.proofs.Cached.{kept_named, loaded_app}
use Rattle.atspi_reader_known.proofs.Following.{once_loaded}
use Rattle.atspi_reader_known.proofs.app.App.loaded.Goals as goal

pub invariant_of-result : goal.invariant_of-result
invariant_of-result c =
    let i = c.self.inside in
    let once = once_loaded (kept c.in_ok-cache.cache) i.root i.name i.name c.args.items c.in_ok-cache.ensures in (
      kept_named (kept c.in_ok-cache.cache) i.name i.root c.in_ok-name.name c.in_ok-root.root _ c.in_ok-cache.ensures c.in_ok-name.ensures c.in_ok-root.ensures,
      once,
      λ e. c.relist-listed.ensures e once c.in_ok-name.name c.in_ok-root.root i.last,
    )

pub returns : goal.returns
returns c =
    let i = c.self.inside in
    let seen = sym c.self.view_is in
    loaded_app c.in_ok-name.name c.in_ok-root.root i.name i.root c.args.items i.last c.new-refused.result (kept c.in_ok-cache.cache) c.args.self.now c.in_ok-cache.ensures c.in_ok-name.ensures c.in_ok-root.ensures c.new-refused.ensures
    (ap (λ (a : Followed). a.name) seen) (ap (λ (a : Followed). a.root) seen) (ap (λ (a : Followed). a.last) seen)
