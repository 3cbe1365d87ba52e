use Rattle.std.proofs.Common.{ap, sym, ◌∙◌, refl, Some}
use Rattle.atspi_marshal_in_place.specs.codes.inner.Marks.{innermost}
use Rattle.atspi_marshal_in_place.specs.declared.codes.marks.Mark.TheVariants as marks
use Rattle.atspi_marshal_in_place.proofs.OfCodes.MarkRoom.{still_counted, now_typed}
use Rattle.atspi_marshal_in_place.proofs.codes.marks.Open.count_type.Goals as goal

pub invariant_of-self : goal.invariant_of-self
invariant_of-self c =
    let o = c.self.inside in
    still_counted o.marks o.top o.arrays o.structs marks.Struct marks.Fields c.self.invariant (ap innermost c.self.view_is ∙ (sym c.innermost.ensures ∙ (c.in-Some-Struct.is ∙ ap Some c.in-Some-Struct.field-0-is))) (λ rest. (refl, refl))

pub invariant_of-self-in-Entry-1 : goal.invariant_of-self-in-Entry-1
invariant_of-self-in-Entry-1 c =
    let o = c.self.inside in
    still_counted o.marks o.top o.arrays o.structs marks.Entry marks.Key c.self.invariant (ap innermost c.self.view_is ∙ (sym c.innermost.ensures ∙ (c.in-Some-Entry.is ∙ ap Some c.in-Some-Entry.field-0-is))) (λ rest. (refl, refl))

pub invariant_of-self-in-Key-1 : goal.invariant_of-self-in-Key-1
invariant_of-self-in-Key-1 c =
    let o = c.self.inside in
    still_counted o.marks o.top o.arrays o.structs marks.Key marks.Both c.self.invariant (ap innermost c.self.view_is ∙ (sym c.innermost.ensures ∙ (c.in-Some-Key.is ∙ ap Some c.in-Some-Key.field-0-is))) (λ rest. (refl, refl))

pub returns-in-Some-Struct : goal.returns-in-Some-Struct
returns-in-Some-Struct c = now_typed c.self.inside.marks c.args.self.now c.self.inside.top marks.Struct marks.Fields c.self.view_is (sym c.innermost.ensures ∙ (c.in-Some-Struct.is ∙ ap Some c.in-Some-Struct.field-0-is)) (λ rest. refl)

pub returns-in-Some-Entry : goal.returns-in-Some-Entry
returns-in-Some-Entry c = now_typed c.self.inside.marks c.args.self.now c.self.inside.top marks.Entry marks.Key c.self.view_is (sym c.innermost.ensures ∙ (c.in-Some-Entry.is ∙ ap Some c.in-Some-Entry.field-0-is)) (λ rest. refl)

pub returns-in-Some-Key : goal.returns-in-Some-Key
returns-in-Some-Key c = now_typed c.self.inside.marks c.args.self.now c.self.inside.top marks.Key marks.Both c.self.view_is (sym c.innermost.ensures ∙ (c.in-Some-Key.is ∙ ap Some c.in-Some-Key.field-0-is)) (λ rest. refl)
