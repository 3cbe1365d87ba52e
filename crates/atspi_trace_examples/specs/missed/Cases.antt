-- Words for worked cases: the pairs of one listener, as they are told and listed.
use Rattle.std.specs.Prelude.{ℕ, List, [], ◌∷◌, map, codes}
use Rattle.atspi_script_lines.specs.declared.line.Party.TheVariants.{Registry}
use Rattle.atspi_message.specs.Envelope.{Envelope}
use Rattle.atspi_protocol.specs.ends.Messages.{return_to}
use Rattle.atspi_protocol.specs.registering.Told.{registered}
use Rattle.atspi_protocol.specs.registering.Answers.{pairs_data}
use Rattle.atspi_trace.specs.Entry.{Entry, sent}

abbrev pub listening_by : List (List ℕ) → List (List ℕ × List ℕ)
listening_by patterns = map (λ pattern. (codes ":1.9", pattern)) patterns

-- the registry tells of new pairs, and returns a list of pairs
abbrev pub telling : List (List ℕ × List ℕ) → List Entry
telling pairs = map (λ pair. sent Registry (registered pair)) pairs

abbrev pub listing : List (List ℕ × List ℕ) → Envelope
listing pairs = return_to (codes ":1.2") 3 (pairs_data pairs ∷ [])
