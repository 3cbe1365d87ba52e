use Rattle.std.proofs.Common.{drop, ap, sym, ◌∙◌}
use Rattle.std.proofs.lemmas.List.{drop-drop}
use Rattle.atspi_reader_known.proofs.wants.Wants.take_first.Goals as goal

pub returns-then-self-len : goal.returns-then-self-len
returns-then-self-len c = sym (drop-drop 1 c.self.inside.gone c.self.inside.items.items) ∙ ap (drop 1) c.self.view_is
