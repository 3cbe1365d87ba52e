use Rattle.std.proofs.Common.{◌≡◌, ◌+◌, [], drop, sym, subst, ◌∙◌, rules}
use Rattle.std.proofs.lemmas.List.{nil_from_length}
use Rattle.atspi_tree_model.specs.Forest.{Forest}
use Rattle.atspi_tree_model.specs.declared.view.Row.{Row}
use Rattle.atspi_tree_model.specs.News.{load}
use Rattle.atspi_cache.specs.loading.Shared.{shared}
use Rattle.atspi_cache.proofs.OfLoading.FillLemmas.{IsLeft, is_new, put_one}
use Rattle.atspi_cache.proofs.LoadLemmas.{first_left, next_left, no_rows}
use Rattle.atspi_cache.proofs.load.fill.Goals as goal

pub returns-in_default : goal.returns-in_default
returns-in_default c =
    let none : c.deref.result.now ≡ [] = search (rules, nil_from_length) in
    c.requires.empty ∙ no_rows c.args.root.now c.args.bus.now c.args.items.now c.in_ok-reached.reached.items c.in_ok-reached.ensures (sym c.deref.ensures.value ∙ none)

pub loop-item-init : goal.loop-item-init
loop-item-init c =
    first_left c.args.root.now c.args.bus.now c.args.items.now c.in_ok-reached.reached.items c.in-Some.others.now c.in-Some.first.now c.insert_root.new.self c.in_ok-row_of.field-0
    c.in_ok-reached.ensures (sym c.deref.ensures.value ∙ c.in-Some.ensures.cases.0) c.in_ok-row_of.ensures c.in_ok-insert_root.ensures.ok

pub put_last-requires : goal.put_last-requires
put_last-requires c =
    let whole = load c.args.root.now c.args.bus.now c.args.items.now in
    let left = next_left c.loop-item.rows whole c.in-Some.others.now c.loop-item.item-index c.item-item.result c.loop-item-test.true c.item-item.is c.loop-item.invariant in
    record { is_new = is_new c.loop-item.rows whole c.item-item.result.now (shared (drop (c.loop-item.item-index + 1) c.in-Some.others.now)) left }

pub loop-item-preserved : goal.loop-item-preserved
loop-item-preserved c =
    let whole = load c.args.root.now c.args.bus.now c.args.items.now in
    let left = next_left c.loop-item.rows whole c.in-Some.others.now c.loop-item.item-index c.item-item.result c.loop-item-test.true c.item-item.is c.loop-item.invariant in
    let next = put_one c.loop-item.rows whole c.item-item.result.now (shared (drop (c.loop-item.item-index + 1) c.in-Some.others.now)) left in
    subst (λ (v : Forest Row). IsLeft v (shared (drop (c.loop-item.item-index + 1) c.in-Some.others.now)) whole) (sym c.in_ok-put_last.ensures.ok) next
