use Rattle.std.proofs.Common.{ap, sym, subst, ◌∙◌}
use Rattle.std.proofs.lemmas.Bool.{and_parts}
use Rattle.atspi_cache.specs.Cache.{Views}
use Rattle.atspi_protocol.specs.following.Replied.{told_part}
use Rattle.atspi_reader_known.specs.Kept.{kept, IsKept}
use Rattle.atspi_reader_known.specs.Listed.{IsListing, IsOnce}
use Rattle.atspi_reader_known.proofs.Cached.{app_of, kept_folded, told_app, still_kept}
use Rattle.atspi_reader_known.proofs.Following.{once_told, told_listed}
use Rattle.atspi_reader_known.proofs.app.App.tell.Goals as goal

pub invariant_of-self-then-first : goal.invariant_of-self-then-first
invariant_of-self-then-first c =
    let i = c.self.inside in
    let news = c.args.news in
    let held = sym c.is_held.ensures ∙ c.if-not-is_held.false in
    let before = app_of i.name i.root (kept i.cache) i.reload i.last i.refused in
    let same =
    ap (λ o. app_of i.name i.root o i.reload i.last i.refused) (ap kept c.in_ok-fold.ensures.ok ∙ kept_folded news i.cache)
    ∙ told_app i.name i.root i.last i.refused news (kept i.cache) i.reload c.self.invariant.0 held in (
      subst (λ (w : Views). IsKept i.name i.root (kept w)) (sym c.in_ok-fold.ensures.ok)
          (subst (IsKept i.name i.root) (sym (kept_folded news i.cache)) (still_kept i.name i.root i.last i.refused news (kept i.cache) c.self.invariant.0)),
      subst (λ (w : Views). IsOnce (kept w)) (sym c.in_ok-fold.ensures.ok) (subst IsOnce (sym (kept_folded news i.cache)) (once_told news (kept i.cache) c.self.invariant.1)),
      λ e.
          let first = and_parts i.listed c.tells_first.result (sym c.both-first.ensures ∙ c.if-first.true) in
          subst (IsListing c.take_first.new.self) (sym same)
          (subst (λ ws. IsListing ws (told_part news before)) (sym c.take_first.ensures)
          (told_listed i.wants news before (sym c.tells_first.ensures ∙ first.1) (c.self.invariant.2 first.0))),
    )

pub invariant_of-self-2 : goal.invariant_of-self-2
invariant_of-self-2 c =
    let i = c.self.inside in
    let news = c.args.news in
    let once = subst (λ (w : Views). IsOnce (kept w)) (sym c.in_ok-fold.ensures.ok) (subst IsOnce (sym (kept_folded news i.cache)) (once_told news (kept i.cache) c.self.invariant.1)) in (
      subst (λ (w : Views). IsKept i.name i.root (kept w)) (sym c.in_ok-fold.ensures.ok)
          (subst (IsKept i.name i.root) (sym (kept_folded news i.cache)) (still_kept i.name i.root i.last i.refused news (kept i.cache) c.self.invariant.0)),
      once,
      λ e. c.relist-self-inside.ensures e once i.name i.root i.last,
    )

pub returns-then-first-clause-ok : goal.returns-then-first-clause-ok
returns-then-first-clause-ok c =
    let i = c.self.inside in
    let held = sym c.is_held.ensures ∙ c.if-not-is_held.false in
    ap (λ o. app_of i.name i.root o i.reload i.last i.refused) (ap kept c.in_ok-fold.ensures.ok ∙ kept_folded c.args.news i.cache)
    ∙ told_app i.name i.root i.last i.refused c.args.news (kept i.cache) i.reload c.self.invariant.0 held
    ∙ ap (told_part c.args.news) c.self.view_is

pub returns-clause-ok : goal.returns-clause-ok
returns-clause-ok c =
    let i = c.self.inside in
    let held = sym c.is_held.ensures ∙ c.if-not-is_held.false in
    ap (λ o. app_of i.name i.root o i.reload i.last i.refused) (ap kept c.in_ok-fold.ensures.ok ∙ kept_folded c.args.news i.cache)
    ∙ told_app i.name i.root i.last i.refused c.args.news (kept i.cache) i.reload c.self.invariant.0 held
    ∙ ap (told_part c.args.news) c.self.view_is
