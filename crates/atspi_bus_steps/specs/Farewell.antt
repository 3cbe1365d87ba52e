-- What is told where a connection leaves.
use Rattle.std.specs.Prelude.{◌==◌, not, ℕ, List, [], ◌∷◌, ◌++◌, map, filter, flat_map, codes}
use Rattle.atspi_message.specs.Envelope.{Envelope}
use Rattle.atspi_names.specs.Owners.{Owners, list_of, after_gone}
use Rattle.atspi_names.specs.Queue.{owner_in}
use Rattle.atspi_match.specs.routing.BusState.{OpenCall, unique_of, name_or_empty, waiting_for, calls_without}
use Rattle.atspi_match.specs.RuleIndex.{without_rules}
use Rattle.atspi_match.specs.routing.Queues.{Bus, without_queue}
use Rattle.atspi_match.specs.routing.OwnMessages.{error_to, name_acquired, owner_changed}

-- those whose calls wait for its answer are told that there is none
abbrev pub no_replies : Owners → List OpenCall → ℕ → List Envelope
no_replies owners calls conn =
    map (λ (c : OpenCall). error_to (unique_of owners c.caller) c.serial (codes "NoReply")) (waiting_for conn calls)

-- a name that one with this unique name had is told its next owner
abbrev pub name_passes_on : Owners → List ℕ → List ℕ → List Envelope
name_passes_on after unique name =
    name_acquired after name (owner_in (list_of after.lists name))
    ++ owner_changed name unique (name_or_empty after (owner_in (list_of after.lists name))) ∷ []

abbrev pub names_pass_on : Owners → List ℕ → List (List ℕ) → List Envelope
names_pass_on after unique names = flat_map (name_passes_on after unique) names

-- a bus without a connection, before anybody is told
abbrev pub forgotten : Bus → ℕ → Bus
forgotten b conn = record b {
  state = record b.state {
    joined = filter (λ c. not (c == conn)) b.state.joined;
    owners = after_gone b.state.owners conn;
    rules = without_rules conn b.state.rules;
    calls = calls_without conn b.state.calls;
  };
  waiting = without_queue b.waiting conn;
}
