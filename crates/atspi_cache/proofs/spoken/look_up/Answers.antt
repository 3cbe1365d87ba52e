use Rattle.std.proofs.Common.{ap, sym, subst, ◌∙◌}
use Rattle.std.specs.Prelude.{is_some}
use Rattle.std.specs.Option.{option_copied}
use Rattle.atspi_speech.specs.Looked.{AreLookedUp}
use Rattle.atspi_tree_model.specs.News.{is_path}
use Rattle.atspi_cache.specs.Cache.{row_in}
use Rattle.atspi_cache.proofs.Effects.{copied_some, found_has}
use Rattle.atspi_cache.proofs.spoken.look_up.Goals as goal

pub returns-in-Item : goal.returns-in-Item
returns-in-Item c = λ v e. subst (λ n. AreLookedUp v.rows n (option_copied c.find.result) c.is_some.result) (sym c.in-Item.is) (
  sym (c.find.ensures ∙ ap (row_in c.in-Item.item.object.path) e),
  sym (c.is_some.ensures ∙ copied_some c.find-in-Item.result ∙ ap is_some (c.find-in-Item.ensures ∙ ap (row_in c.in-Item.item.parent.path) e) ∙ found_has (is_path c.in-Item.item.parent.path) v.rows),
)
