use Rattle.std.proofs.Common.{◌≡◌, [], ◌∷◌, ◌++◌, drop, refl, sym}
use Rattle.std.specs.Prelude.{codes}
use Rattle.atspi_stream.specs.Stream.{bytes_of}
use Rattle.atspi_live_examples.specs.reader.Held.{name, said}
use Rattle.atspi_live_examples.specs.reader.Started.{granted}
use Rattle.atspi_live_examples.proofs.OfReader.Started.{bare_granted, behind_granted, fronts, none_first, none_spoken, not_other}
use Rattle.atspi_protocol.specs.following.ReaderState.{speaks, tells_end}
use Rattle.atspi_live_examples.proofs.reader.takings.fronts_spoken.Goals as goal

pub returns-clause-nothing : goal.returns-clause-nothing
returns-clause-nothing c = record { messages = []; rest = []; parted = record { are = tt; parted = none_first }; done = []; more = _; all = refl; left = []; front = refl }

pub returns-clause-half : goal.returns-clause-half
unfolding lib.Utf8.encode
returns-clause-half c messages rest are out = fronts (granted ++ (bytes_of messages ++ rest)) messages rest (codes "say :1") (drop 6 said) (behind_granted (bytes_of messages ++ rest)) are out refl

-- the first of the things done, and those behind it
pub returns-clause-one : goal.returns-clause-one
unfolding lib.Utf8.encode
returns-clause-one c messages rest are out = record {
  messages = messages;
  rest = rest;
  parted = record { are = are; parted = behind_granted (bytes_of messages ++ rest) };
  done = speaks name (codes "OK") ∷ [];
  more = tells_end name ∷ speaks name (codes "Save") ∷ [];
  all = sym out;
  left = [];
  front = refl;
}

pub returns-clause-all : goal.returns-clause-all
unfolding lib.Utf8.encode
returns-clause-all c messages rest are out = fronts (granted ++ (bytes_of messages ++ rest)) messages rest said [] (behind_granted (bytes_of messages ++ rest)) are out refl

pub returns-clause-too_soon : goal.returns-clause-too_soon
returns-clause-too_soon c s = by (none_spoken granted (codes "s") bare_granted s)
  where
    by : codes "s" ≡ [] → ⊥
    by h = cc

pub returns-clause-other : goal.returns-clause-other
returns-clause-other c t s = not_other s.left s.done s.front
