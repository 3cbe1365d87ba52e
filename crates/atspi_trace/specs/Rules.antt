-- The match rules that the ends of a world ask the bus for. The grammar of rules is a relation; of these four texts it
-- is a table.
use Rattle.std.specs.Prelude.{ℕ, List, [], ◌∷◌, Option, None, Some, codes, bytes_eq, encode_utf8_all, if◌then◌else◌}
use Rattle.atspi_match.specs.declared.condition.Condition.{Condition}
use Rattle.atspi_match.specs.declared.condition.Condition.TheVariants.{Kind, Sender, Interface, Member}
use Rattle.atspi_match.specs.declared.condition.MessageType.TheVariants.{Signal}
use Rattle.atspi_match.specs.Printed.{printed}
use Rattle.atspi_message.specs.Envelope.{Envelope}
use Rattle.atspi_protocol.specs.ends.Places.{bus, registry}
use Rattle.atspi_protocol.specs.members.Interfaces.{cache}
use Rattle.atspi_protocol.specs.news.NewsOf.{event_interface}
use Rattle.atspi_match.specs.routing.Answers.{first_text}

-- the registry's signals, that an application asks for
abbrev pub registry_rule : List Condition
registry_rule = Kind Signal ∷ Sender registry ∷ Interface registry ∷ []

-- the news of owners, the signals of caches and those of objects, that a reader asks for; the registry asks for the
-- first
abbrev pub owner_rule : List Condition
owner_rule = Kind Signal ∷ Interface bus ∷ Member (codes "NameOwnerChanged") ∷ []

abbrev pub cache_rule : List Condition
cache_rule = Kind Signal ∷ Interface cache ∷ []

abbrev pub event_rule : List Condition
event_rule = Kind Signal ∷ Interface event_interface ∷ []

abbrev pub rules_asked : List (List Condition)
rules_asked = registry_rule ∷ owner_rule ∷ cache_rule ∷ event_rule ∷ []

-- the rule that is written so
abbrev pub rule_written : List ℕ → List (List Condition) → Option (List Condition)
rule_written text [] = None
rule_written text (rule ∷ rules) = if bytes_eq (printed rule) text then Some rule else rule_written text rules

-- the rule that the first argument of a message spells, where it is one of these
abbrev pub rule_in : Envelope → Option (List Condition)
rule_in e = rule_written (encode_utf8_all (first_text e.body)) rules_asked
