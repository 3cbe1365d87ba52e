use Rattle.std.proofs.Common.{List, ℕ, [], ◌++◌, length, refl, ap, subst, ◌∙◌, arith}
use Rattle.atspi_message.specs.Envelope.{Envelope}
use Rattle.atspi_stream.specs.Stream.{HasFault, bytes_of}
use Rattle.atspi_live_conversation.specs.Speech.{envelopes}
use Rattle.atspi_live_reader.specs.Spoken.{following}
use Rattle.atspi_live_examples.specs.reader.Started.{zeros}
use Rattle.atspi_live_examples.proofs.OfReader.Started.{behind_granted, lines_told, no_fault, not_half, only_fault, rest_of_granted, rest_of_zeros, zeros_fault}
use Rattle.atspi_live_examples.proofs.reader.takings.spoken_to_faults.Goals as goal

pub returns-clause-first : goal.returns-clause-first
returns-clause-first c = record { messages = []; rest = zeros; parted = record { are = tt; parted = behind_granted zeros }; fault = zeros_fault; before = refl; all = refl }

pub returns-clause-behind : goal.returns-clause-behind
returns-clause-behind c messages bytes place reason are fault out =
    record { messages = messages; rest = bytes; parted = record { are = are; parted = behind_granted (bytes_of messages ++ bytes) }; fault = fault; before = refl; all = lines_told out }

pub returns-clause-elsewhere : goal.returns-clause-elsewhere
returns-clause-elsewhere c s = omega (arith, (s.before ∙ ap (λ (ms : List (Envelope × List ℕ)). length (bytes_of ms)) (rest_of_zeros s.messages s.rest s.parted).0))

pub returns-clause-other_place : goal.returns-clause-other_place
returns-clause-other_place c s = omega (arith, (only_fault 1 22 (subst (λ (w : List ℕ). HasFault w 1 22) (rest_of_zeros s.messages s.rest s.parted).1 s.fault)).0)

pub returns-clause-other_reason : goal.returns-clause-other_reason
returns-clause-other_reason c s = omega (arith, (only_fault 0 23 (subst (λ (w : List ℕ). HasFault w 0 23) (rest_of_zeros s.messages s.rest s.parted).1 s.fault)).1)

pub returns-clause-nothing_there : goal.returns-clause-nothing_there
returns-clause-nothing_there c s = no_fault 0 22 (subst (λ (w : List ℕ). HasFault w 0 22) (rest_of_granted s.messages s.rest s.parted).1 s.fault)

pub returns-clause-half : goal.returns-clause-half
returns-clause-half c start place reason t s = not_half (following (envelopes s.messages)).out s.all
