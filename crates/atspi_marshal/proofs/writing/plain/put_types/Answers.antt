use Rattle.std.proofs.lemmas.Grind.{common_steps}
use Rattle.std.proofs.Common.{arith}
use Rattle.atspi_marshal.proofs.writing.plain.put_types.Goals as goal

pub returns-in_err-push-clause-front : goal.returns-in_err-push-clause-front
returns-in_err-push-clause-front c = grind (arith, common_steps)

pub returns-in_err-write_types-clause-front : goal.returns-in_err-write_types-clause-front
returns-in_err-write_types-clause-front c = grind (arith, common_steps)

pub end_short-requires-clause-short : goal.end_short-requires-clause-short
end_short-requires-clause-short c = grind (arith, common_steps)

pub returns-clause-writes : goal.returns-clause-writes
returns-clause-writes c = grind (arith, common_steps)

pub returns-clause-front : goal.returns-clause-front
returns-clause-front c = grind (arith, common_steps)
