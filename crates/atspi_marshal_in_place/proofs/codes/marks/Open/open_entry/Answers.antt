use Rattle.std.proofs.Common.{ap, sym, ◌∙◌, ◌∷◌, drop, refl}
use Rattle.atspi_marshal_in_place.specs.codes.inner.Marks.{innermost, entry_opened}
use Rattle.atspi_marshal_in_place.specs.declared.codes.marks.Mark.TheVariants as marks
use Rattle.atspi_marshal_in_place.proofs.OfCodes.MarkRoom.{innermost_is, set_mark, still_counted}
use Rattle.atspi_marshal_in_place.proofs.codes.marks.Open.open_entry.Goals as goal

pub invariant_of-self : goal.invariant_of-self
invariant_of-self c =
    let o = c.self.inside in
    still_counted o.marks o.top o.arrays o.structs marks.Array marks.Entry c.self.invariant (ap innermost c.self.view_is ∙ c.requires) (λ rest. (refl, refl))

pub returns : goal.returns
returns c =
    let o = c.self.inside in
    set_mark o.marks o.top marks.Array marks.Entry (ap innermost c.self.view_is ∙ c.requires)
    ∙ (ap (λ ms. marks.Entry ∷ drop 1 ms) c.self.view_is ∙ sym (ap entry_opened (innermost_is c.args.self.now marks.Array c.requires)))
