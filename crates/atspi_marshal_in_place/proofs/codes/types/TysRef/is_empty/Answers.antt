use Rattle.std.proofs.Common.{sym, ◌∙◌}
use Rattle.atspi_marshal_in_place.proofs.OfCodes.Parts.{emptiness}
use Rattle.atspi_marshal_in_place.proofs.codes.types.TysRef.is_empty.Goals as goal

pub returns : goal.returns
returns c =
    let h = emptiness c.args.self.codes.now c.args.self.all in
    (λ e. h.0 (sym c.is_empty.ensures ∙ e), λ e. c.is_empty.ensures ∙ h.1 e)
