use Rattle.std.proofs.Common.{◌≡◌, [], ◌∷◌, ◌++◌, rules, ap, subst, ◌∙◌, reverse}
use Rattle.std.specs.Prelude.{filter, bytes_eq}
use Rattle.std.proofs.lemmas.List.{nil_from_length, reverse-append, reverse-reverse}
use Rattle.atspi_tree_model.specs.News.{by_index, children_in, own_items}
use Rattle.atspi_cache.specs.loading.Shared.{reached_items, shared}
use Rattle.atspi_cache.proofs.OfLoading.SharedLemmas.{shared-reverse, shared-snoc}
use Rattle.atspi_cache.proofs.OfLoading.WalkLemmas.{Walked, ended, not_all}
use Rattle.atspi_cache.proofs.OfLoading.PreorderLemmas.{begin_walk, group_is, less_left, walk_on}
use Rattle.atspi_cache.proofs.loading.preorder.reached_items.Goals as goal

pub loop-item-init : goal.loop-item-init
loop-item-init c =
    begin_walk c.args.root.now c.args.bus.now c.args.items.now (shared c.new-reached.result.items) (reverse (shared c.reverse.new.self.items)) (ap shared c.new-reached.ensures.items)
    (ap (λ l. reverse (shared l)) c.reverse.ensures.items ∙ ap reverse (shared-reverse c.in_ok-waiting.waiting.items) ∙ reverse-reverse (shared c.in_ok-waiting.waiting.items)
    ∙ c.in_ok-waiting.ensures ∙ ap (filter (λ item. bytes_eq item.object.path c.args.root.now)) (ap shared c.deref.ensures.value ∙ c.in_ok-own.ensures))

pub loop-item-smaller : goal.loop-item-smaller
loop-item-smaller c =
    let kids = children_in c.args.root.now c.args.bus.now (own_items c.args.bus.now c.args.items.now) in
    let whole = reached_items c.args.root.now c.args.bus.now c.args.items.now in
    let before : reverse (shared c.loop-item.waiting.items) ≡ c.in-Some.item.now ∷ reverse (shared c.pop.new.self.items) =
    ap (λ l. reverse (shared l)) c.in-Some.ensures.items ∙ ap reverse (shared-snoc c.pop.new.self.items c.in-Some.item) ∙ reverse-append (shared c.pop.new.self.items) (c.in-Some.item.now ∷ []) in
    less_left (reached_items c.args.root.now c.args.bus.now c.args.items.now) (shared c.loop-item.reached.items) (shared c.reach.new.reached.items) c.in-Some.item.now
    (ap shared c.in_ok-reach.ensures.reached ∙ shared-snoc c.loop-item.reached.items c.in-Some.item)
    (not_all kids whole (shared c.loop-item.reached.items) (reverse (shared c.pop.new.self.items)) c.in-Some.item.now (subst (λ l. Walked kids whole (shared c.loop-item.reached.items) l) before c.loop-item.invariant))

pub loop-item-preserved : goal.loop-item-preserved
loop-item-preserved c =
    let own = own_items c.args.bus.now c.args.items.now in
    walk_on (children_in c.args.root.now c.args.bus.now own) (reached_items c.args.root.now c.args.bus.now c.args.items.now)
    (shared c.loop-item.reached.items) (shared c.reach.new.reached.items) (shared c.loop-item.waiting.items) (shared c.pop.new.self.items) (shared c.reach.new.waiting.items) c.in-Some.item.now
    c.loop-item.invariant
    (ap shared c.in-Some.ensures.items ∙ shared-snoc c.pop.new.self.items c.in-Some.item)
    (c.in_ok-reach.ensures.waiting ∙ ap (λ l. shared c.pop.new.self.items ++ l) (c.in_ok-groups.ensures c.in-Some.item.now.object.path ∙ group_is c.args.root.now c.args.bus.now own (reverse (by_index (shared c.in_ok-own.own.items))) (ap (λ l. reverse (by_index l)) c.in_ok-own.ensures) c.in-Some.item.now))
    (ap shared c.in_ok-reach.ensures.reached ∙ shared-snoc c.loop-item.reached.items c.in-Some.item)

pub returns : goal.returns
returns c =
    let none : c.loop-item.waiting.items ≡ [] = search (rules, nil_from_length) in
    let kids = children_in c.args.root.now c.args.bus.now (own_items c.args.bus.now c.args.items.now) in
    let whole = reached_items c.args.root.now c.args.bus.now c.args.items.now in
    let waits : reverse (shared c.loop-item.waiting.items) ≡ [] = ap (λ l. reverse (shared l)) none in
    ended kids whole (shared c.loop-item.reached.items) (subst (λ l. Walked kids whole (shared c.loop-item.reached.items) l) waits c.loop-item.invariant)
