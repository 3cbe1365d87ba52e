use Rattle.std.proofs.Common.{ap, ◌∙◌, ◌∷◌, arith}
use Rattle.atspi_marshal_in_place.specs.codes.inner.Marks.{structs_in}
use Rattle.atspi_marshal_in_place.specs.declared.codes.marks.Mark.TheVariants as marks
use Rattle.atspi_marshal_in_place.proofs.OfCodes.MarkRoom.{room_left, pushed, struct_pushed}
use Rattle.atspi_marshal_in_place.proofs.codes.marks.Open.open_struct.Goals as goal

pub overflow_sub-self : goal.overflow_sub-self
overflow_sub-self c =
    let o = c.self.inside in
    room_left o.marks o.top o.arrays o.structs c.self.invariant (omega (arith, c.requires, c.self.invariant.structs_are, ap structs_in c.self.view_is, c.self.invariant.few_arrays))

pub invariant_of-self : goal.invariant_of-self
invariant_of-self c =
    let o = c.self.inside in
    struct_pushed o.marks o.top o.arrays o.structs c.self.invariant (omega (arith, c.requires, c.self.invariant.structs_are, ap structs_in c.self.view_is))

pub returns : goal.returns
returns c =
    let o = c.self.inside in
    let some = room_left o.marks o.top o.arrays o.structs c.self.invariant (omega (arith, c.requires, c.self.invariant.structs_are, ap structs_in c.self.view_is, c.self.invariant.few_arrays)) in
    pushed o.marks o.top marks.Struct some (omega (arith, c.self.invariant.whole, c.self.invariant.within)) ∙ ap (λ ms. marks.Struct ∷ ms) c.self.view_is
