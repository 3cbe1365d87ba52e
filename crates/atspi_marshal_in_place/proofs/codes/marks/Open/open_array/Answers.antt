use Rattle.std.proofs.Common.{ap, ◌∙◌, ◌∷◌, arith}
use Rattle.atspi_marshal_in_place.specs.codes.inner.Marks.{arrays_in}
use Rattle.atspi_marshal_in_place.specs.declared.codes.marks.Mark.TheVariants as marks
use Rattle.atspi_marshal_in_place.proofs.OfCodes.MarkRoom.{room_left, pushed, array_pushed}
use Rattle.atspi_marshal_in_place.proofs.codes.marks.Open.open_array.Goals as goal

pub overflow_sub-self : goal.overflow_sub-self
overflow_sub-self c =
    let o = c.self.inside in
    room_left o.marks o.top o.arrays o.structs c.self.invariant (omega (arith, c.requires, c.self.invariant.arrays_are, ap arrays_in c.self.view_is, c.self.invariant.few_structs))

pub invariant_of-self : goal.invariant_of-self
invariant_of-self c =
    let o = c.self.inside in
    array_pushed o.marks o.top o.arrays o.structs c.self.invariant (omega (arith, c.requires, c.self.invariant.arrays_are, ap arrays_in c.self.view_is))

pub returns : goal.returns
returns c =
    let o = c.self.inside in
    let some = room_left o.marks o.top o.arrays o.structs c.self.invariant (omega (arith, c.requires, c.self.invariant.arrays_are, ap arrays_in c.self.view_is, c.self.invariant.few_structs)) in
    pushed o.marks o.top marks.Array some (omega (arith, c.self.invariant.whole, c.self.invariant.within)) ∙ ap (λ ms. marks.Array ∷ ms) c.self.view_is
