-- What holds of links, rules and lines at work.
use Rattle.std.specs.Prelude.{◌≡◌, ℕ, List}
use Rattle.std.specs.List.{AllByRecursion}
use Rattle.atspi_script_lines.specs.declared.line.Party.{Party}
use Rattle.atspi_match.specs.Grammar.{IsRuleText}
use Rattle.atspi_match.specs.Printed.{printed}
use Rattle.atspi_match.specs.routing.Queues as queues
use Rattle.atspi_trace.specs.Rules.{rules_asked, rule_in}
use Rattle.atspi_trace.specs.Entry.{Entry}
use Rattle.atspi_trace.specs.World.{Said, World}
use Rattle.atspi_trace.specs.Carrying.{Carried, takes, takes_end}
use Rattle.atspi_trace.specs.Work.{Work}
use Rattle.atspi_trace.specs.Works.{Works}

-- The bus of a trace is the bus of its own definitions: with a message of an end, and where an end leaves
pub record LinksFollowQueues : Type 0 where
  pub taken : (c : Carried) (conn : ℕ) (who : Party) (said : Said)
      → (takes c conn who said).bus ≡ queues.takes c.bus conn said.message (rule_in said.message)
  pub ended : (c : Carried) (conn : ℕ) → (takes_end c conn).bus ≡ queues.leaves c.bus conn

-- each rule that an end asks for is what its text spells
abbrev pub RulesAreRead : Type 0
RulesAreRead = AllByRecursion (λ rule. IsRuleText (printed rule) rule) rules_asked

-- what is left of a line at work is done in one way: the same entries, and the same world at rest
abbrev pub WorksOneWay : Type 0
WorksOneWay = (w u v : World) (work : Work) (es fs : List Entry) → Works w work es u → Works w work fs v
    → (es ≡ fs) × (u ≡ v)
