use Rattle.std.proofs.Common.{ap, sym, ◌∙◌}
use Rattle.std.specs.Prelude.{is_some}
use Rattle.atspi_tree_model.specs.Forest.{find, has}
use Rattle.atspi_tree_model.specs.News.{is_path}
use Rattle.atspi_speech.specs.Looked.{adds}
use Rattle.atspi_cache.proofs.Effects.{copied_some}
use Rattle.atspi_protocol.specs.following.ReaderState.{Followed}
use Rattle.atspi_reader_known.specs.Kept.{kept}
use Rattle.atspi_reader_known.proofs.Found.{adds_true}
use Rattle.atspi_reader_known.proofs.app.App.adds.Goals as goal

pub returns : goal.returns
returns c = λ view e.
    let i = c.self.inside in
    let item = c.args.item.now in
    let own = sym c.is_bus.ensures ∙ c.if-not-is_bus.false in
    let other = sym c.is_same_path.ensures ∙ c.if-is_same_path.false in
    let fresh = ap is_some (sym c.find.ensures) ∙ sym (copied_some c.find.result) ∙ sym c.is_some.ensures ∙ c.if-is_some.false in
    let up = sym c.is_bus-else-is_some.ensures ∙ c.if-not-is_bus-2.false in
    let there = ap is_some (sym c.find-2.ensures) ∙ sym (copied_some c.find-2.result) ∙ sym c.is_some-2.ensures in
    adds_true i.root i.name (kept i.cache) view item c.is_some-2.result own other fresh up there (ap (λ (a : Followed). a.view) c.self.view_is ∙ e)
    ∙ ap (λ (a : Followed). adds a.root a.name (find (is_path item.object.path) view) (has (is_path item.parent.path) view) item) c.self.view_is
