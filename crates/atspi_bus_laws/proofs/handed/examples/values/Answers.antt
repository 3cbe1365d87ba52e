use Rattle.std.proofs.Common.{refl, arith}
use Rattle.atspi_bus_laws.proofs.handed.examples.values.Goals as goal

pub returns-clause-number : goal.returns-clause-number
returns-clause-number c = omega arith

pub returns-clause-wide : goal.returns-clause-wide
returns-clause-wide c = λ h. omega (arith, h)

pub returns-clause-boolean : goal.returns-clause-boolean
returns-clause-boolean c = tt

pub returns-clause-text : goal.returns-clause-text
returns-clause-text c = (refl, refl)

pub returns-clause-path : goal.returns-clause-path
returns-clause-path c = λ h. h

pub returns-clause-array : goal.returns-clause-array
returns-clause-array c = ((refl, refl), tt)

pub returns-clause-deep_array : goal.returns-clause-deep_array
returns-clause-deep_array c = λ h. h

pub returns-clause-structure : goal.returns-clause-structure
returns-clause-structure c = (tt, tt)

pub returns-clause-deep_structure : goal.returns-clause-deep_structure
returns-clause-deep_structure c = λ h. h

pub returns-clause-dictionary : goal.returns-clause-dictionary
returns-clause-dictionary c = ((refl, refl), tt, tt)

pub returns-clause-deep_dictionary : goal.returns-clause-deep_dictionary
returns-clause-deep_dictionary c = λ h. h

pub returns-clause-deep_variant : goal.returns-clause-deep_variant
returns-clause-deep_variant c = λ h. h
