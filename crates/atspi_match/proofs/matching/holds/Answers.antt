use Rattle.std.proofs.Common.{arith}
use Rattle.std.proofs.lemmas.Grind.{common_steps}
use Rattle.atspi_match.proofs.matching.holds.Goals as goal

pub returns-in-Kind : goal.returns-in-Kind
returns-in-Kind c = grind (arith, common_steps)

pub returns-in-Sender : goal.returns-in-Sender
returns-in-Sender c = grind (arith, common_steps)

pub returns-in-Some : goal.returns-in-Some
returns-in-Some c = grind (arith, common_steps)

pub returns-in-None : goal.returns-in-None
returns-in-None c = grind (arith, common_steps)

pub returns-in-Destination : goal.returns-in-Destination
returns-in-Destination c = grind (arith, common_steps)

pub returns-in-None-text_argument : goal.returns-in-None-text_argument
returns-in-None-text_argument c = grind (arith, common_steps)

pub returns-in-Some-text_or_path_argument : goal.returns-in-Some-text_or_path_argument
returns-in-Some-text_or_path_argument c = grind (arith, common_steps)

pub returns-in-None-text_or_path_argument : goal.returns-in-None-text_or_path_argument
returns-in-None-text_or_path_argument c = grind (arith, common_steps)

pub returns-in-Some-text_argument-2 : goal.returns-in-Some-text_argument-2
returns-in-Some-text_argument-2 c = grind (arith, common_steps)

pub returns-in-None-text_argument-2 : goal.returns-in-None-text_argument-2
returns-in-None-text_argument-2 c = grind (arith, common_steps)

pub returns-in-Eavesdrop : goal.returns-in-Eavesdrop
returns-in-Eavesdrop c = grind (arith, common_steps)

pub returns-in-Interface : goal.returns-in-Interface
returns-in-Interface c = grind (arith, common_steps)

pub returns-in-Member : goal.returns-in-Member
returns-in-Member c = grind (arith, common_steps)

pub returns-in-Path : goal.returns-in-Path
returns-in-Path c = grind (arith, common_steps)
