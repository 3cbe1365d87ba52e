use Rattle.std.proofs.Common.{◌≡◌, List, ℕ, [], ◌++◌, ap, subst, ◌∙◌}
use Rattle.std.specs.Prelude.{codes}
use Rattle.atspi_message.specs.Envelope.{Envelope}
use Rattle.atspi_stream.specs.Stream.{AwaitsMore, bytes_of}
use Rattle.atspi_live_conversation.specs.Speech.{envelopes}
use Rattle.atspi_live_reader.specs.Shows.{shown_in}
use Rattle.atspi_live_reader.specs.Spoken.{following, spoken_in}
use Rattle.atspi_live_examples.proofs.OfReader.Started.{all_shown, behind_granted, lines_told, none_awaited, not_half, rest_of_granted, rest_of_zeros}
use Rattle.atspi_live_examples.proofs.reader.takings.all_spoken.Goals as goal

pub returns-clause-whole : goal.returns-clause-whole
returns-clause-whole c messages rest are awaits out =
    record { messages = messages; rest = rest; parted = record { are = are; parted = behind_granted (bytes_of messages ++ rest) }; awaits = awaits; all = lines_told out }

pub returns-clause-shown : goal.returns-clause-shown
returns-clause-shown c messages rest are awaits out apps = record {
  messages = messages;
  rest = rest;
  parted = record { are = are; parted = behind_granted (bytes_of messages ++ rest) };
  awaits = awaits;
  all = all_shown (following (envelopes messages)) out apps;
}

pub returns-clause-at_fault : goal.returns-clause-at_fault
returns-clause-at_fault c s = none_awaited (subst (λ (w : List ℕ). AwaitsMore w) (rest_of_zeros s.messages s.rest s.parted).1 s.awaits)

pub returns-clause-shown_at_fault : goal.returns-clause-shown_at_fault
returns-clause-shown_at_fault c s = none_awaited (subst (λ (w : List ℕ). AwaitsMore w) (rest_of_zeros s.messages s.rest s.parted).1 s.awaits)

pub returns-clause-half : goal.returns-clause-half
returns-clause-half c t s = not_half (following (envelopes s.messages)).out s.all

pub returns-clause-half_shown : goal.returns-clause-half_shown
returns-clause-half_shown c s =
    by (s.all ∙ ap (λ (ms : List (Envelope × List ℕ)). spoken_in (following (envelopes ms)).out ++ shown_in (following (envelopes ms))) (rest_of_granted s.messages s.rest s.parted).0)
  where
    by : codes "s" ≡ [] → ⊥
    by h = cc
