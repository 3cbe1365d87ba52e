-- The answers of reading a rule.
use Rattle.std.specs.Prelude.{◌≡◌, ℕ, List, Result, Ok, Err}
use Rattle.atspi_match.specs.RuleFaults.{FirstRuleFault}
use Rattle.atspi_match.specs.declared.condition.Condition.{Condition}
use Rattle.atspi_match.specs.declared.fault.RuleRead.{RuleRead}
use Rattle.atspi_match.specs.declared.fault.RuleRead.TheVariants.{Bad, NoMemory}

-- a fault that is told is the first of all that is wrong
abbrev pub TellsFirst : Result (List Condition) RuleRead → List ℕ → Type 0
TellsFirst (Ok rule) bytes = Unit {0}
TellsFirst (Err (Bad fault)) bytes = FirstRuleFault bytes fault.place fault.reason
TellsFirst (Err NoMemory) bytes = Unit {0}

-- the answer is this rule, or want of memory
abbrev pub IsThisRule : Result (List Condition) RuleRead → List Condition → Type 0
IsThisRule (Ok read) rule = read ≡ rule
IsThisRule (Err (Bad fault)) rule = ⊥
IsThisRule (Err NoMemory) rule = Unit {0}

-- the answer is this fault, or want of memory
abbrev pub IsThisFault : Result (List Condition) RuleRead → ℕ → ℕ → Type 0
IsThisFault (Ok rule) place reason = ⊥
IsThisFault (Err (Bad fault)) place reason = (fault.place ≡ place) × (fault.reason ≡ reason)
IsThisFault (Err NoMemory) place reason = Unit {0}
