use Rattle.std.proofs.Common.{◌<◌, ◌++◌, sym, subst}
use Rattle.atspi_protocol.specs.following.ReaderState.{ReaderState, begins}
use Rattle.atspi_protocol.specs.following.Takes.{starts}
use Rattle.atspi_stream.specs.Stream.{bytes_of}
use Rattle.atspi_live_conversation.specs.Speech.{envelopes}
use Rattle.atspi_live_reader.specs.Spoken.{following}
use Rattle.atspi_live_examples.proofs.OfReader.Started.{behind_granted, followed_by, lines_told, none_in_front, not_empty, not_half, rest_of_granted, rest_of_zeros}
use Rattle.atspi_live_examples.proofs.reader.takings.spoken_to_spent.Goals as goal

pub returns-clause-behind : goal.returns-clause-behind
returns-clause-behind c messages e m rest are is spent out = record {
  messages = messages;
  message = e;
  bytes = m;
  rest = rest;
  parted = record { are = are; parted = behind_granted (bytes_of messages ++ (m ++ rest)) };
  is = is;
  spent = spent;
  all = lines_told out;
}

pub returns-clause-nothing_there : goal.returns-clause-nothing_there
returns-clause-nothing_there c s = not_empty s.message s.bytes s.rest s.is (rest_of_granted s.messages (s.bytes ++ s.rest) s.parted).1

pub returns-clause-not_there : goal.returns-clause-not_there
returns-clause-not_there c s = none_in_front s.message s.bytes s.rest s.is (rest_of_zeros s.messages (s.bytes ++ s.rest) s.parted).1

pub returns-clause-half : goal.returns-clause-half
returns-clause-half c t s = not_half (following (envelopes s.messages)).out s.all

pub returns-clause-spends : goal.returns-clause-spends
returns-clause-spends c t w s = subst (λ (r : ReaderState). 4294967296 < r.next) (sym (followed_by (envelopes s.messages) s.message (starts begins))) s.spent
