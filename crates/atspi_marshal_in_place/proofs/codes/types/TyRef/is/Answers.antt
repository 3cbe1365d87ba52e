use Rattle.std.proofs.lemmas.Bool.Decides.{Decides-eqb}
use Rattle.std.proofs.lemmas.Slice.Eq.{slice_eq-Decides}
use Rattle.atspi_marshal_in_place.proofs.OfCodes.Parts.{same_codes}
use Rattle.atspi_marshal_in_place.proofs.codes.types.TyRef.is.Goals as goal

pub returns : goal.returns
returns c =
    let kinds = same_codes c.args.self.codes.now c.args.other.codes.now c.args.self.one c.args.other.one in
    let equal = slice_eq-Decides Decides-eqb c.args.self.codes.now c.args.other.codes.now c.eq.result c.eq.ensures in
    (λ e. kinds.0 (equal.0 e), λ e. equal.1 (kinds.1 e))
