use Rattle.std.proofs.Common.{List, ℕ, Bool, ◌++◌, not, sym, ap, ◌∙◌, append-nil}
use Rattle.std.specs.Prelude.{filter}
use Rattle.std.specs.Map.{keys_of}
use Rattle.std.specs.Cmp.Lexicographic.{nat_list_cmp_total}
use Rattle.atspi_base.specs.valid_names.Names.{is_unique_name}
use Rattle.atspi_names.specs.Owners.{well_known}
use Rattle.atspi_names.proofs.Maps.{entries-map}
use Rattle.atspi_names.proofs.ListsLemmas.{names_apart}
use Rattle.atspi_names.proofs.lists.Lists.append_well_known.Goals as goal

pub returns : goal.returns
returns c =
    let p : List ℕ → Bool = λ name. not (is_unique_name name) in
    sym (append-nil c.loop-name.names) ∙ ap (λ rest. c.loop-name.names ++ filter p rest) (sym c.in-None.ensures.steps.0) ∙ c.loop-name.invariant
    ∙ ap (λ all. c.args.names.now ++ filter p all)
    (c.into_iter-name-iterator.ensures.into_iter_gives ∙ c.keys-name-items.ensures.rest
    ∙ ap keys_of (sym (entries-map nat_list_cmp_total names_apart c.self.inside.map.entries c.keys-name-items.ensures.ordered)))
    ∙ ap (λ lists. c.args.names.now ++ well_known lists) c.self.view_is
