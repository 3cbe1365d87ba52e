-- What an application answers from, as its tree and three faces keep it.
use Rattle.std.specs.Prelude.{ℕ, ℤ, List}
use Rattle.atspi_tree.specs.TreeShape.{TreeShape}
use Rattle.atspi_protocol.specs.whole.Whole.{Faces, whole}
use Rattle.atspi_protocol.specs.objects.Application.{Application}

abbrev pub seen : TreeShape → Faces → List ℕ → ℤ → Application
seen t faces name id = record { tree = whole t.rows faces; added = t.added; name = name; id = id }
