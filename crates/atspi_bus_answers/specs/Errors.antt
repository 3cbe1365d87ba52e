-- The errors that a bus answers (D-Bus Specification, "Message Bus Messages").
use Rattle.std.specs.Prelude.{ℕ, List, codes}
use Rattle.atspi_bus_answers.specs.declared.error.BusError.{BusError}
use Rattle.atspi_bus_answers.specs.declared.error.BusError.TheVariants.{Failed, InvalidArgs, LimitsExceeded}
use Rattle.atspi_bus_answers.specs.declared.error.BusError.TheVariants.{MatchRuleInvalid, MatchRuleNotFound}
use Rattle.atspi_bus_answers.specs.declared.error.BusError.TheVariants.{NameHasNoOwner, NoReply, ServiceUnknown}
use Rattle.atspi_bus_answers.specs.declared.error.BusError.TheVariants.{UnknownInterface, UnknownMethod}

-- the last element of an error's name
abbrev pub error_text : BusError → List ℕ
error_text Failed = codes "Failed"
error_text InvalidArgs = codes "InvalidArgs"
error_text LimitsExceeded = codes "LimitsExceeded"
error_text MatchRuleInvalid = codes "MatchRuleInvalid"
error_text MatchRuleNotFound = codes "MatchRuleNotFound"
error_text NameHasNoOwner = codes "NameHasNoOwner"
error_text NoReply = codes "NoReply"
error_text ServiceUnknown = codes "ServiceUnknown"
error_text UnknownInterface = codes "UnknownInterface"
error_text UnknownMethod = codes "UnknownMethod"
