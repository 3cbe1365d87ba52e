use Rattle.atspi_marshal_in_place.specs.codes.Codes.{kind_at}
use Rattle.atspi_marshal_in_place.proofs.OfCodes.Parts.{head_of, one_has_codes, leaf_is}
use Rattle.atspi_marshal_in_place.proofs.codes.types.TyRef.code.Goals as goal

pub returns-clause-leaf : goal.returns-clause-leaf
returns-clause-leaf c = leaf_is (kind_at c.args.self.codes.now) _ (head_of c.args.self.codes.now c.args.self.one)

pub returns-clause-head : goal.returns-clause-head
returns-clause-head c = head_of c.args.self.codes.now c.args.self.one

pub bounds-self-0 : goal.bounds-self-0
bounds-self-0 c = one_has_codes c.args.self.codes.now c.args.self.one
