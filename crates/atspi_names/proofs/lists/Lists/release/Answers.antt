use Rattle.std.proofs.Common.{◌∙◌, sym, ap, rules}
use Rattle.std.specs.Option.{option_copied_mut}
use Rattle.atspi_names.specs.Queue.{released, release_change}
use Rattle.atspi_names.specs.Owners.{with_list}
use Rattle.atspi_names.specs.Tree.{as_lists}
use Rattle.atspi_names.proofs.ListsLemmas.{list_of-found, list_of-missed, with_list-put, with_list-taken, with_list-missed, get-missed, not_empty, empty, some_is}
use Rattle.atspi_names.proofs.lists.Lists.release.Goals as goal

pub returns-in_default-clause-change : goal.returns-in_default-clause-change
returns-in_default-clause-change c =
    ap (λ l. release_change l c.args.conn)
    (sym (list_of-missed c.self.inside.map c.args.self.now c.args.name.now c.self.view_is (sym c.get_mut.ensures.value ∙ ap option_copied_mut c.in_default.is)))

pub returns-else-is_empty-clause-change : goal.returns-else-is_empty-clause-change
returns-else-is_empty-clause-change c =
    c.release-change.ensures.change ∙ ap (λ l. release_change l c.args.conn)
    (sym (list_of-found c.self.inside.map c.args.self.now c.args.name.now _ c.self.view_is (sym c.get_mut.ensures.value ∙ ap option_copied_mut c.in-Some.is)))

pub returns-then-is_empty-clause-change : goal.returns-then-is_empty-clause-change
returns-then-is_empty-clause-change c =
    c.release-change.ensures.change ∙ ap (λ l. release_change l c.args.conn)
    (sym (list_of-found c.self.inside.map c.args.self.now c.args.name.now _ c.self.view_is (sym c.get_mut.ensures.value ∙ ap option_copied_mut c.in-Some.is)))

pub returns-in_default-clause-lists : goal.returns-in_default-clause-lists
returns-in_default-clause-lists c =
    let missed = sym c.get_mut.ensures.value ∙ ap option_copied_mut c.in_default.is in
    let kept = ap as_lists c.get_mut.follows.holds-at-none ∙ c.self.view_is in
    kept ∙ with_list-missed c.args.self.now c.args.name.now (get-missed c.self.inside.map c.args.self.now c.args.name.now c.self.view_is missed)
    ∙ ap (λ l. with_list c.args.self.now c.args.name.now (released l c.args.conn).0) (sym (list_of-missed c.self.inside.map c.args.self.now c.args.name.now c.self.view_is missed))

pub returns-else-is_empty-clause-lists : goal.returns-else-is_empty-clause-lists
returns-else-is_empty-clause-lists c =
    let found = sym c.get_mut.ensures.value ∙ ap option_copied_mut c.in-Some.is in
    let w = c.get_mut.follows.holds c.release-change.new.self in
    with_list-put c.self.inside.map (c.get_mut.follows.lender c.release-change.new.self) c.args.self.now c.args.name.now c.release-change.new.self c.self.view_is
    (not_empty _ (search rules)) (w.3 (some_is found)).0
    ∙ ap (with_list c.args.self.now c.args.name.now) (c.release-change.ensures.list ∙ ap (λ l. (released l c.args.conn).0) (sym (list_of-found c.self.inside.map c.args.self.now c.args.name.now _ c.self.view_is found)))

pub returns-then-is_empty-clause-lists : goal.returns-then-is_empty-clause-lists
returns-then-is_empty-clause-lists c =
    let found = sym c.get_mut.ensures.value ∙ ap option_copied_mut c.in-Some.is in
    let w = c.get_mut.follows.holds c.release-change.new.self in
    with_list-taken c.self.inside.map (c.get_mut.follows.lender c.release-change.new.self) c.take_out.new.map c.args.self.now c.args.name.now c.release-change.new.self c.self.view_is
    (empty _ (search rules)) (w.3 (some_is found)).0 c.take_out.ensures
    ∙ ap (with_list c.args.self.now c.args.name.now) (c.release-change.ensures.list ∙ ap (λ l. (released l c.args.conn).0) (sym (list_of-found c.self.inside.map c.args.self.now c.args.name.now _ c.self.view_is found)))
