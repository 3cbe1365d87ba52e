use Rattle.std.proofs.Common.{List, ℕ, ap, sym, subst, ◌≡◌, ◌∙◌}
use Rattle.std.specs.Prelude.{◌||◌}
use Rattle.std.specs.Option.{option_map}
use Rattle.std.proofs.lemmas.Bool.{and_parts}
use Rattle.std.proofs.lemmas.Result.{IfOk-weaker}
use Rattle.atspi_cache.specs.Cache.{Views, reloads, told}
use Rattle.atspi_protocol.specs.declared.news.part.PartName.{PartName}
use Rattle.atspi_protocol.specs.following.ReaderState.{Followed}
use Rattle.atspi_protocol.specs.following.Takes.{folded, still_refused}
use Rattle.atspi_reader_known.specs.Kept.{kept, IsKept}
use Rattle.atspi_reader_known.specs.Listed.{fresh_wants, IsListing, IsOnce}
use Rattle.atspi_reader_known.specs.Refusals.{without}
use Rattle.atspi_reader_known.proofs.Cached.{app_of, kept_folded, folded_app, still_kept, still_there}
use Rattle.atspi_reader_known.proofs.Following.{folded_listed, fresh_put, once_told}
use Rattle.atspi_reader_known.proofs.Found.{view_there}
use Rattle.atspi_reader_known.proofs.app.App.fold.Goals as goal

pub invariant_of-self-2 : goal.invariant_of-self-2
invariant_of-self-2 c =
    let i = c.self.inside in
    let news = c.args.news in
    let held = sym c.is_held.ensures ∙ c.if-not-is_held.false in
    let now = ap kept c.in_ok-marks.ensures.ok ∙ kept_folded news i.cache in
    let before = app_of i.name i.root (kept i.cache) i.reload i.last i.refused in
    let view = view_there (kept i.cache) held in
    let seen = ap (λ (a : Followed). a.refused) c.self.view_is in
    let still : without c.in_ok-gone.gone i.refused ≡ still_refused view.0 news i.refused =
    subst (λ (r : List (List ℕ × PartName)). without c.in_ok-gone.gone r ≡ still_refused view.0 news r) (sym seen)
    (c.in_ok-gone.ensures view.0 (sym (ap (λ (a : Followed). a.view) c.self.view_is) ∙ view.1)) in
    let same =
    ap (λ o. app_of i.name i.root o c.is_either-self-inside.result i.last c.forget.new.self) now
    ∙ ap (λ b. app_of i.name i.root (option_map (told news) (kept i.cache)) b i.last c.forget.new.self) (c.is_either-self-inside.ensures ∙ ap (λ b. i.reload || b) c.in_ok-marks.ensures.reload)
    ∙ ap (λ r. app_of i.name i.root (option_map (told news) (kept i.cache)) (i.reload || reloads news (kept i.cache)) i.last r)
    (c.forget.ensures ∙ still ∙ still_there i.name i.root i.last i.refused news (kept i.cache) view.0 view.1)
    ∙ folded_app i.name i.root i.last i.refused news (kept i.cache) i.reload c.self.invariant.0 held in (
      subst (λ (w : Views). IsKept i.name i.root (kept w)) (sym c.in_ok-marks.ensures.ok)
          (subst (IsKept i.name i.root) (sym (kept_folded news i.cache)) (still_kept i.name i.root i.last i.refused news (kept i.cache) c.self.invariant.0)),
      subst (λ (w : Views). IsOnce (kept w)) (sym c.in_ok-marks.ensures.ok) (subst IsOnce (sym (kept_folded news i.cache)) (once_told news (kept i.cache) c.self.invariant.1)),
      λ e.
          let both = and_parts c.both-stays.result c.put_fresh.result (sym c.both-self-inside.ensures ∙ e) in
          let stays = and_parts i.listed c.follows.result (sym c.both-stays.ensures ∙ both.0) in
          let put = fresh_put c.fresh_wants-fresh.result c.put_fresh.new.wants i.wants (fresh_wants before view.0 news)
          (IfOk-weaker c.fresh_wants-fresh.result _ _ (λ others is. is ∙ ap (λ (a : Followed). fresh_wants a view.0 news) (sym c.self.view_is)) (c.fresh_wants-fresh.ensures view.0 (sym (ap (λ (a : Followed). a.view) c.self.view_is) ∙ view.1)))
          (c.put_fresh.ensures both.1) in
          subst (IsListing c.put_fresh.new.wants) (sym same)
          (subst (λ (ws : List (List ℕ × PartName)). IsListing ws (folded news before)) (sym put)
          (folded_listed before view.0 news i.wants view.1 (c.self.invariant.2 stays.0) (sym (c.follows.ensures view.0 view.1) ∙ stays.1))),
    )

pub returns-clause-ok : goal.returns-clause-ok
returns-clause-ok c =
    let i = c.self.inside in
    let held = sym c.is_held.ensures ∙ c.if-not-is_held.false in
    let now = ap kept c.in_ok-marks.ensures.ok ∙ kept_folded c.args.news i.cache in
    let view = view_there (kept i.cache) held in
    let seen = ap (λ (a : Followed). a.refused) c.self.view_is in
    let still : without c.in_ok-gone.gone i.refused ≡ still_refused view.0 c.args.news i.refused =
    subst (λ (r : List (List ℕ × PartName)). without c.in_ok-gone.gone r ≡ still_refused view.0 c.args.news r) (sym seen)
    (c.in_ok-gone.ensures view.0 (sym (ap (λ (a : Followed). a.view) c.self.view_is) ∙ view.1)) in
    ap (λ o. app_of i.name i.root o c.is_either-self-inside.result i.last c.forget.new.self) now
    ∙ ap (λ b. app_of i.name i.root (option_map (told c.args.news) (kept i.cache)) b i.last c.forget.new.self) (c.is_either-self-inside.ensures ∙ ap (λ b. i.reload || b) c.in_ok-marks.ensures.reload)
    ∙ ap (λ r. app_of i.name i.root (option_map (told c.args.news) (kept i.cache)) (i.reload || reloads c.args.news (kept i.cache)) i.last r)
    (c.forget.ensures ∙ still ∙ still_there i.name i.root i.last i.refused c.args.news (kept i.cache) view.0 view.1)
    ∙ folded_app i.name i.root i.last i.refused c.args.news (kept i.cache) i.reload c.self.invariant.0 held
    ∙ ap (folded c.args.news) c.self.view_is
