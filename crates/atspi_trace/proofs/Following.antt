-- The bus beside the ends is the bus alone.
use Rattle.std.proofs.Common.{◌≡◌, refl, ℕ, zero, suc, List, [], ◌∷◌, length, ap, ◌∙◌}
use Rattle.atspi_match.specs.declared.routing.closing.Why.{Why}
use Rattle.atspi_match.specs.routing.Queues as queues
use Rattle.atspi_script_lines.specs.declared.line.Party.{Party}
use Rattle.atspi_match.specs.routing.Steps.{bus_takes}
use Rattle.atspi_trace.specs.Rules.{rule_in}
use Rattle.atspi_trace.specs.World.{Said}
use Rattle.atspi_trace.specs.Ends.{with_end, taken_up}
use Rattle.atspi_trace.specs.Carrying.{Carried, letter_of, stepped, with_name, left, one_closed, settled}
use Rattle.atspi_trace.specs.Laws.{LinksFollowQueues}

one_bus : (c : Carried) (due : List (ℕ × Why)) → (one_closed c due).bus ≡ queues.one_closed c.bus due
one_bus c [] = refl
one_bus c (first ∷ rest) = refl

settled_bus : (n : ℕ) (c : Carried) → (settled n c).bus ≡ queues.settled n c.bus
settled_bus zero c = refl
settled_bus (suc n) c = settled_bus n (one_closed c c.bus.waiting.due) ∙ ap (queues.settled n) (one_bus c c.bus.waiting.due)

-- what the bus does first with a message
abbrev taken_first : Carried → ℕ → Party → Said → Carried
taken_first c conn who said =
    stepped (letter_of who said) (record c { ends = with_end conn taken_up c.ends }) (bus_takes c.bus.state conn said.message (rule_in said.message))

pub links_follow : LinksFollowQueues
links_follow = record {
  taken = λ c conn who said. settled_bus (length c.bus.state.joined) (with_name conn (taken_first c conn who said));
  ended = λ c conn. settled_bus (length c.bus.state.joined) (left c conn);
}
