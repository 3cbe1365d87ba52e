use Rattle.std.proofs.Common.{◌≡◌, ℕ, List, Bool, true, cond, ap, sym, ◌∙◌}
use Rattle.std.specs.Prelude.{bytes_eq}
use Rattle.std.specs.HashSet.{contains_by}
use Rattle.atspi_cache.specs.loading.inner.Own.{has_object}
use Rattle.atspi_cache.specs.loading.Shared.{shared}
use Rattle.atspi_cache.proofs.OfLoading.OwnLemmas.{has-snoc}
use Rattle.atspi_cache.proofs.OfLoading.SharedLemmas.{shared-snoc}
use Rattle.atspi_cache.proofs.loading.own.take_in.Goals as goal

pub returns-in_ok-push-clause-seen : goal.returns-in_ok-push-clause-seen
returns-in_ok-push-clause-seen c = λ path.
    c.in_ok-insert.ensures.updates.0 (record { ref_ptr = (0, 0); now = path })
    ∙ ap (λ (k : List ℕ). cond (bytes_eq k path) true (contains_by (λ k. bytes_eq path k.now) c.args.seen.now)) c.as_str.ensures.bytes
    ∙ ap (cond (bytes_eq c.args.item.now.object.path path) true) (c.requires.told path)
    ∙ sym (ap (λ l. has_object path (shared l)) c.in_ok-push.ensures.items ∙ ap (has_object path) (shared-snoc c.args.own.now.items c.args.item) ∙ has-snoc path (shared c.args.own.now.items) c.args.item.now)
