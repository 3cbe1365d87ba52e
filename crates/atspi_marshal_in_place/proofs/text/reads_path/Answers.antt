use Rattle.std.proofs.Common.{sym, ◌∙◌}
use Rattle.atspi_marshal_in_place.proofs.Paths.{path_is}
use Rattle.atspi_marshal_in_place.proofs.text.reads_path.Goals as goal

pub returns-then-is_long_path : goal.returns-then-is_long_path
returns-then-is_long_path c = sym (path_is c.args.bytes.now c.if-bytes-ge17.true (sym c.is_long_path.ensures ∙ c.if-is_long_path.true))
