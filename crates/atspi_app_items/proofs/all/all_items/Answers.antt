use Rattle.std.proofs.Common.{◌≡◌, List, ℕ, map, sym, ap, ◌∙◌}
use Rattle.atspi_types.specs.Kinds.{Kind}
use Rattle.atspi_types.specs.Data.{Data, array_data, items_of}
use Rattle.atspi_types.specs.DataView.{all_data}
use Rattle.atspi_types.proofs.DataLemmas.{data_of-Array}
use Rattle.atspi_tree_model.specs.Announce.{items}
use Rattle.atspi_protocol.specs.objects.Values.{item_data, item_kind}
use Rattle.atspi_app_items.specs.Seated.{of_registry}
use Rattle.atspi_app_items.proofs.Walked.{walked}
use Rattle.atspi_app_items.proofs.all.all_items.Goals as goal

pub returns : goal.returns
returns c = λ a e n.
    data_of-Array c.in_ok-ty.ty c.in_ok-all.all
    ∙ ap (λ (k : Kind). array_data k (items_of (all_data c.in_ok-all.all))) c.in_ok-ty.ensures
    ∙ ap (λ (ds : List Data). array_data item_kind (items_of ds)) (c.in_ok-all.ensures ∙ ap (map item_data) (walked c.args.bus.now c.args.tree.now a.tree c.is_lawful.ensures e))
    ∙ ap (λ (b : List ℕ). array_data item_kind (items_of (map item_data (items b of_registry a.tree)))) (sym n)
