use Rattle.std.proofs.Common.{◌≡◌, List, ℕ, [], ◌++◌, drop, refl, sym, ap, ◌∙◌, append-nil}
use Rattle.std.specs.Prelude.{codes}
use Rattle.atspi_auth.specs.Talk.{behind, client_start}
use Rattle.atspi_stream.specs.Stream.{bytes_of}
use Rattle.atspi_live_examples.specs.reader.Held.{said}
use Rattle.atspi_live_examples.specs.reader.Started.{granted}
use Rattle.atspi_live_examples.proofs.OfReader.Started.{behind_granted, fronts, none_first, none_spoken}
use Rattle.atspi_live_examples.proofs.reader.takings.spoken_on_links.Goals as goal

pub returns-clause-took : goal.returns-clause-took
unfolding lib.Utf8.encode
returns-clause-took c messages n are out =
    fronts ((granted ++ bytes_of messages) ++ []) messages [] (codes "say :1") (drop 6 said)
    (ap (λ (t : List ℕ). behind client_start t) (append-nil (granted ++ bytes_of messages)) ∙ behind_granted (bytes_of messages) ∙ sym (append-nil (bytes_of messages))) are out refl

pub returns-clause-other_link : goal.returns-clause-other_link
returns-clause-other_link c t n s = by (none_spoken [] (codes "s") none_first s)
  where
    by : codes "s" ≡ [] → ⊥
    by h = cc

pub returns-clause-of_link : goal.returns-clause-of_link
returns-clause-of_link c = refl
