use Rattle.std.proofs.Common.{ap, ◌∙◌}
use Rattle.atspi_marshal_in_place.specs.codes.Codes.{kind_at, code_alignment}
use Rattle.atspi_marshal_in_place.proofs.OfCodes.Parts.{head_of, one_has_codes, alignment_by_code}
use Rattle.atspi_marshal_in_place.proofs.codes.types.TyRef.alignment.Goals as goal

pub bounds-self-0 : goal.bounds-self-0
bounds-self-0 c = one_has_codes c.args.self.codes.now c.args.self.one

pub returns : goal.returns
returns c = c.code_alignment.ensures ∙ (ap code_alignment (head_of c.args.self.codes.now c.args.self.one) ∙ alignment_by_code (kind_at c.args.self.codes.now))
