use Rattle.std.proofs.Common.{arith}
use Rattle.std.proofs.lemmas.Grind.{common_steps}
use Rattle.atspi_types.proofs.borrowed.Run.at.Goals as goal

pub bounds-items-i : goal.bounds-items-i
bounds-items-i c = grind (arith, common_steps)

pub bounds-items-i-in-Bools : goal.bounds-items-i-in-Bools
bounds-items-i-in-Bools c = grind (arith, common_steps)

pub bounds-items-i-in-I16s : goal.bounds-items-i-in-I16s
bounds-items-i-in-I16s c = grind (arith, common_steps)

pub bounds-items-i-in-U16s : goal.bounds-items-i-in-U16s
bounds-items-i-in-U16s c = grind (arith, common_steps)

pub bounds-items-i-in-I32s : goal.bounds-items-i-in-I32s
bounds-items-i-in-I32s c = grind (arith, common_steps)

pub bounds-items-i-in-U32s : goal.bounds-items-i-in-U32s
bounds-items-i-in-U32s c = grind (arith, common_steps)

pub bounds-items-i-in-I64s : goal.bounds-items-i-in-I64s
bounds-items-i-in-I64s c = grind (arith, common_steps)

pub bounds-items-i-in-U64s : goal.bounds-items-i-in-U64s
bounds-items-i-in-U64s c = grind (arith, common_steps)

pub bounds-items-i-in-Doubles : goal.bounds-items-i-in-Doubles
bounds-items-i-in-Doubles c = grind (arith, common_steps)

pub bounds-items-i-in-Values : goal.bounds-items-i-in-Values
bounds-items-i-in-Values c = grind (arith, common_steps)
