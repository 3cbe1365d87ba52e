use Rattle.std.proofs.Common.{sym, ◌∙◌}
use Rattle.atspi_faces.proofs.SideLemmas.{bytes_of}
use Rattle.atspi_faces.proofs.side.Side.grow.Goals as goal

pub returns-clause-side : goal.returns-clause-side
returns-clause-side c = record {
  counted = c.requires.counted;
  sized = c.requires.sized ∙ sym (bytes_of c.args.text.now c.utf8.text);
  noted = c.note.ensures;
}
