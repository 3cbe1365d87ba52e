-- What an application answers to a call for all items is read back as the items of its tree.
use Rattle.std.proofs.Common.{◌≡◌, ℕ, suc, ◌+◌, ◌≤◌, true, List, [], ◌∷◌, map, Some, refl, ap, ◌∙◌, arith}
use Rattle.std.specs.Prelude.{negsuc, codes}
use Rattle.std.specs.List.{AllByRecursion}
use lib.Utf8.{encode}
use Rattle.atspi_types.specs.Data.{Data, items_of, values_in}
use Rattle.atspi_tree_model.specs.declared.limits.TheConstants.{NODE_LIMIT}
use Rattle.atspi_tree_model.specs.declared.news.Item.{Item}
use Rattle.atspi_tree_model.specs.declared.news.Reference.{Reference}
use Rattle.atspi_tree_model.specs.Forest.{Forest, nil, tree, count, width}
use Rattle.atspi_tree_model.specs.Row.{TreeRow}
use Rattle.atspi_tree_model.specs.RowRules.{rows}
use Rattle.atspi_tree_model.specs.Tree.{IsTree}
use Rattle.atspi_tree_model.specs.Announce.{own, item_of, items_below, items}
use Rattle.atspi_protocol.specs.ends.Places.{registry, root_path, cache_path}
use Rattle.atspi_protocol.specs.ends.Messages.{reply_to}
use Rattle.atspi_protocol.specs.members.Interfaces as interfaces
use Rattle.atspi_protocol.specs.news.Replies.{items_among, items_told}
use Rattle.atspi_protocol.specs.news.CacheSignals.{item_in}
use Rattle.atspi_protocol.specs.objects.Application.{Application}
use Rattle.atspi_protocol.specs.objects.Answers.{tells, items_data, answer}
use Rattle.atspi_protocol.specs.objects.Values.{item_data}
use Rattle.atspi_protocol.proofs.OfAnnouncing.Back.{signed_back, texts_back, states_back, item_back}
use Rattle.atspi_protocol.proofs.OfAnnouncing.Bounds.{everyone, width-count}
use Rattle.atspi_trace_laws.proofs.OfOrder.Parties.{all_append}

abbrev IsBack : Item → Type 0
IsBack item = item_in (item_data item) ≡ Some item

small : (n k : ℕ) → n ≤ k → k ≤ 2147483647 → n ≤ 2147483647
small n k a b = omega (arith, a, b)

below_back : (bus : List ℕ) (p i : ℕ) (f : Forest TreeRow) → i + count everyone f ≤ 2147483647 → AllByRecursion IsBack (items_below bus (own bus p) i f)
below_back bus p i nil few = tt
below_back bus p i (tree row children rest) few = (
  item_back bus p i (width children) row index wide,
  all_append IsBack (items_below bus (own bus row.shape.node) 0 children) (items_below bus (own bus p) (suc i) rest) (below_back bus row.shape.node 0 children inside) (below_back bus p (suc i) rest behind),
)
  where
    all : i + (1 + (count everyone children + count everyone rest)) ≤ 2147483647
    all = few

    index : i ≤ 2147483647
    index = omega (arith, all)

    wide : width children ≤ 2147483647
    wide = let least = width-count children in omega (arith, all, least)

    inside : 0 + count everyone children ≤ 2147483647
    inside = omega (arith, all)

    behind : suc i + count everyone rest ≤ 2147483647
    behind = omega (arith, all)

root_back : (bus : List ℕ) (r : Reference) (children : ℕ) (row : TreeRow) → children ≤ 2147483647 → IsBack (item_of bus r (negsuc 0) children row)
root_back bus r children row few =
    let item = item_of bus r (negsuc 0) children row in
    rw (signed_back children few, texts_back item.interfaces, states_back item.states) refl

each_back : (bus : List ℕ) (r : Reference) (f : Forest TreeRow) → count everyone f ≤ 2147483647 → AllByRecursion IsBack (items bus r f)
each_back bus r nil few = tt
each_back bus r (tree row children rest) few = (root_back bus r (width children) row wide, below_back bus row.shape.node 0 children inside)
  where
    all : 1 + (count everyone children + count everyone rest) ≤ 2147483647
    all = few

    wide : width children ≤ 2147483647
    wide = let least = width-count children in omega (arith, all, least)

    inside : 0 + count everyone children ≤ 2147483647
    inside = omega (arith, all)

among_one : (v : Data) (vs : List Data) (item : Item) → item_in v ≡ Some item → items_among (v ∷ vs) ≡ item ∷ items_among vs
among_one v vs item h = rw (items_among, h) refl

among_back : (xs : List Item) → AllByRecursion IsBack xs → items_among (map item_data xs) ≡ xs
among_back [] a = refl
among_back (x ∷ xs) a = among_one (item_data x) (map item_data xs) x a.0 ∙ ap (λ l. x ∷ l) (among_back xs a.1)

values_back : (ds : List Data) → values_in (items_of ds) ≡ ds
values_back [] = refl
values_back (d ∷ ds) = ap (λ l. d ∷ l) (values_back ds)

abbrev pub its_registry : Reference
its_registry = record { bus = registry; path = root_path }

-- the answer
pub answers_items : (a : Application) → answer a cache_path (Some interfaces.cache) (Some (codes "GetItems")) [] ≡ tells a (items_data a)
unfolding encode
answers_items a = refl

-- what it tells
pub told_items : (a : Application) (added : ℕ) (caller : List ℕ) (n serial : ℕ) → IsTree rows a.tree added → items_told (record (reply_to caller n (tells a (items_data a)).reply) { serial = serial }) ≡ Some (items a.name its_registry a.tree)
unfolding encode
told_items a added caller n serial t =
    ap (λ l. Some (items_among l)) (values_back (map item_data (items a.name its_registry a.tree))) ∙ ap Some (among_back (items a.name its_registry a.tree) (each_back a.name its_registry a.tree (few t.few)))
  where
    few : count (λ (row : TreeRow). true) a.tree ≤ NODE_LIMIT → count everyone a.tree ≤ 2147483647
    few h = omega (arith, h)
