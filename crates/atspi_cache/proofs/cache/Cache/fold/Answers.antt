use Rattle.std.proofs.Common.{ap, sym, ◌∙◌}
use Rattle.std.proofs.lemmas.Result.{on_ok_weaker, on_err_weaker, IfOk-weaker}
use Rattle.std.specs.Option.{option_copied_mut}
use Rattle.std.specs.FinMap.{insert}
use Rattle.atspi_cache.specs.Cache.{reloads, told}
use Rattle.atspi_cache.specs.Held.{as_views, view_of}
use Rattle.atspi_cache.proofs.ViewLemmas.{folded_is, get_found, get_missed, not_missed, put_same, put_views, some_at}
use Rattle.atspi_cache.proofs.cache.Cache.fold.Goals as goal

pub unreachable-requires : goal.unreachable-requires
unreachable-requires c =
    not_missed _ (get_missed c.self.inside.apps c.args.self.now c.args.app c.self.view_is (sym c.get_mut.ensures.value ∙ ap option_copied_mut c.in-None.is)) c.requires.held

pub returns-clause-reload : goal.returns-clause-reload
returns-clause-reload c =
    let found = get_found c.self.inside.apps c.args.self.now c.args.app c.in-Some.held.now c.self.view_is (sym c.get_mut.ensures.value ∙ ap option_copied_mut c.in-Some.is) in
    IfOk-weaker c.take.result _ _ (λ r e. e ∙ sym (ap (reloads c.args.news) found)) c.take.ensures.reload

pub returns-clause-ok : goal.returns-clause-ok
returns-clause-ok c =
    let here = sym c.get_mut.ensures.value ∙ ap option_copied_mut c.in-Some.is in
    let found = get_found c.self.inside.apps c.args.self.now c.args.app c.in-Some.held.now c.self.view_is here in
    let w = c.get_mut.follows.holds c.take.new.held in
    let put = put_views c.self.inside.apps (c.get_mut.follows.lender c.take.new.held) c.args.app c.take.new.held (w.3 (some_at here)).0 in
    on_ok_weaker c.take.result
    (λ same. put ∙ ap (insert (as_views c.self.inside.apps) c.args.app) same ∙ ap (λ v. insert v c.args.app (told c.args.news (view_of c.in-Some.held.now))) c.self.view_is
    ∙ sym (folded_is c.args.self.now c.args.app c.args.news (view_of c.in-Some.held.now) found))
    c.take.ensures.ok

pub returns-clause-err : goal.returns-clause-err
returns-clause-err c =
    let here = sym c.get_mut.ensures.value ∙ ap option_copied_mut c.in-Some.is in
    let found = get_found c.self.inside.apps c.args.self.now c.args.app c.in-Some.held.now c.self.view_is here in
    let w = c.get_mut.follows.holds c.take.new.held in
    let put = put_views c.self.inside.apps (c.get_mut.follows.lender c.take.new.held) c.args.app c.take.new.held (w.3 (some_at here)).0 in
    on_err_weaker c.take.result
    (λ same. put ∙ ap (insert (as_views c.self.inside.apps) c.args.app) same ∙ ap (λ v. insert v c.args.app (view_of c.in-Some.held.now)) c.self.view_is
    ∙ put_same c.args.self.now c.args.app (view_of c.in-Some.held.now) found)
    c.take.ensures.err
