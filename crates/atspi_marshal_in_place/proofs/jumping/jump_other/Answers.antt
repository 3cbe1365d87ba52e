use Rattle.std.proofs.Common.{arith}
use Rattle.atspi_marshal_in_place.specs.codes.TyRefs.{ref_kind}
use Rattle.atspi_marshal.specs.Reading.{input_of}
use Rattle.atspi_marshal_in_place.proofs.Knows.{read_known, ends_behind}
use Rattle.atspi_marshal_in_place.proofs.jumping.jump_other.Goals as goal

pub jump_single-requires : goal.jump_single-requires
jump_single-requires c =
    let k = read_known (input_of c.args.input.now) c.args.levels (ref_kind c.args.ty) c.args.bound c.args.at c.requires.other c.requires.plain c.requires.known in
    rw c.shape.ensures (omega (arith, k.within, c.requires.end.0), c.requires.end.1)

pub returns-clause-place : goal.returns-clause-place
returns-clause-place c =
    let k = read_known (input_of c.args.input.now) c.args.levels (ref_kind c.args.ty) c.args.bound c.args.at c.requires.other c.requires.plain c.requires.known in
    rw (c.jump_single.ensures, c.shape.ensures) k.place

pub returns-clause-within : goal.returns-clause-within
returns-clause-within c =
    let k = read_known (input_of c.args.input.now) c.args.levels (ref_kind c.args.ty) c.args.bound c.args.at c.requires.other c.requires.plain c.requires.known in
    rw (c.jump_single.ensures, c.shape.ensures) (ends_behind (input_of c.args.input.now) (ref_kind c.args.ty) c.args.at, k.within)
