use Rattle.std.proofs.Common.{◌-◌, length, sym, ap, ◌∙◌, arith}
use Rattle.std.specs.List.{list_all}
use Rattle.std.proofs.lemmas.List.{take_rest}
use Rattle.atspi_script.specs.inner.Marks.{stands}
use Rattle.atspi_marshal_in_place.proofs.Alls.{part_fails, back_decides}
use Rattle.atspi_script.proofs.quotes.pair_is_plain.Goals as goal

pub returns-then-piece_is_plain : goal.returns-then-piece_is_plain
returns-then-piece_is_plain c =
    let bytes = c.args.bytes.now in
    let last = length bytes - c.args.size in
    let back = ap (list_all stands) (take_rest bytes last) in
    let front = sym c.piece_is_plain.ensures ∙ c.if-piece_is_plain.true in
    c.piece_is_plain-then-piece_is_plain.ensures ∙ (back ∙ sym (back_decides stands last c.args.size bytes (omega (arith, c.requires)) front))

pub returns-else-piece_is_plain : goal.returns-else-piece_is_plain
returns-else-piece_is_plain c =
    let not = c.if-piece_is_plain.false in
    not ∙ sym (part_fails stands 0 c.args.size c.args.bytes.now (sym c.piece_is_plain.ensures ∙ not))
