use Rattle.std.proofs.Common.{◌∙◌, sym, ap}
use Rattle.std.specs.Prelude.{Some}
use Rattle.std.specs.Option.{option_copied_mut}
use Rattle.atspi_names.specs.Queue.{requested, request_change}
use Rattle.atspi_names.specs.Owners.{with_list}
use Rattle.atspi_names.specs.Tree.{as_lists}
use Rattle.std.specs.FinMap as finmap
use Rattle.atspi_names.proofs.ListsLemmas.{list_of-found, list_of-missed, with_list-put, with_list-new, requested-not_empty, lists-kept, some_is, on_ok, on_err}
use Rattle.atspi_names.proofs.lists.Lists.request.Goals as goal

pub returns-in-Some-clause-ok : goal.returns-in-Some-clause-ok
returns-in-Some-clause-ok c =
    let found = sym c.get_mut.ensures.value ∙ ap option_copied_mut c.in-Some.is in
    rw (list_of-found c.self.inside.map c.args.self.now c.args.name.now c.in-Some.queue.now c.self.view_is found) c.request.ensures.ok

pub returns-in-Some-clause-lists : goal.returns-in-Some-clause-lists
returns-in-Some-clause-lists c =
    let found = sym c.get_mut.ensures.value ∙ ap option_copied_mut c.in-Some.is in
    let w = c.get_mut.follows.holds c.request.new.self in
    on_ok c.request.result (λ e. with_list-put c.self.inside.map (c.get_mut.follows.lender c.request.new.self) c.args.self.now c.args.name.now c.request.new.self c.self.view_is
    (λ none. requested-not_empty c.in-Some.queue.now c.args.conn c.args.flags (sym e ∙ none)) (w.3 (some_is found)).0
    ∙ ap (with_list c.args.self.now c.args.name.now) (e ∙ ap (λ l. (requested l c.args.conn c.args.flags).0) (sym (list_of-found c.self.inside.map c.args.self.now c.args.name.now _ c.self.view_is found)))) c.request.ensures.list

pub returns-in-Some-clause-err : goal.returns-in-Some-clause-err
returns-in-Some-clause-err c =
    let found = sym c.get_mut.ensures.value ∙ ap option_copied_mut c.in-Some.is in
    let w = c.get_mut.follows.holds c.request.new.self in
    on_err c.request.result (λ e. lists-kept c.self.inside.map (c.get_mut.follows.lender c.request.new.self) c.args.self.now c.args.name.now c.request.new.self
    c.self.view_is (found ∙ ap Some (sym e)) (w.3 (some_is found)).0) c.request.ensures.err

pub returns-clause-ok : goal.returns-clause-ok
returns-clause-ok c =
    let missed = sym c.get_mut.ensures.value ∙ ap option_copied_mut c.in_default.is in
    c.in_ok-change.ensures.ok ∙ ap (λ l. request_change l c.args.conn c.args.flags)
    (c.new-queue.ensures ∙ sym (list_of-missed c.self.inside.map c.args.self.now c.args.name.now c.self.view_is missed))

pub returns-clause-lists : goal.returns-clause-lists
returns-clause-lists c =
    let missed = list_of-missed c.self.inside.map c.args.self.now c.args.name.now c.self.view_is (sym c.get_mut.ensures.value ∙ ap option_copied_mut c.in_default.is) in
    let kept = ap as_lists c.get_mut.follows.holds-at-none ∙ c.self.view_is in
    let asked = c.in_ok-change.ensures.list in
    c.in_ok-put.ensures.ok ∙ ap (λ l. finmap.insert l c.in_ok-copy.field-0 c.request-2.new.self) kept
    ∙ ap (λ n. finmap.insert c.args.self.now n c.request-2.new.self) c.in_ok-copy.ensures
    ∙ with_list-new c.args.self.now c.args.name.now c.request-2.new.self (λ none. requested-not_empty c.new-queue.result c.args.conn c.args.flags (sym asked ∙ none))
    ∙ ap (with_list c.args.self.now c.args.name.now) (asked ∙ ap (λ l. (requested l c.args.conn c.args.flags).0) (c.new-queue.ensures ∙ sym missed))
