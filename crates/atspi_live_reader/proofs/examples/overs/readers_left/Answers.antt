use Rattle.std.proofs.Common.{◌≡◌, List, ℕ, [], ◌++◌, Some, refl, subst, arith, lit<}
use Rattle.std.specs.Prelude.{codes}
use Rattle.atspi_live_conversation.specs.Left.{LeftOff}
use Rattle.atspi_live_conversation.specs.Speech.{envelopes}
use Rattle.atspi_live_conversation.specs.declared.ending.Ending.TheVariants as endings
use Rattle.atspi_live_conversation.proofs.LineLemmas.{none_behind}
use Rattle.atspi_live_reader.specs.Following.{IsSpentIn, Stands}
use Rattle.atspi_live_reader.specs.declared.live_reader.LiveReader.{LiveReader}
use Rattle.atspi_live_reader.proofs.Started.{first_is}
use Rattle.atspi_stream.specs.Stream.{few}
use Rattle.atspi_live_reader.proofs.examples.overs.readers_left.Goals as goal

-- a reader to which nothing came
left : (written : List ℕ) (l : LiveReader) → Stands written l [] [] → LeftOff (Stands written) IsSpentIn endings.PeerEnded [] l
left written l stands = record { messages = []; rest = []; parted = record { are = tt; parted = none_behind }; said = []; stands = stands; stops = few (lit< tt) }

pub returns-clause-turn : goal.returns-clause-turn
returns-clause-turn c l written stands = (refl, ([], refl, left written l stands))

pub returns-clause-turn_wrote : goal.returns-clause-turn_wrote
returns-clause-turn_wrote c l written h = by h.0
  where
    by : Some (codes "ab") ≡ Some (codes "a") → ⊥
    by h = cc

pub returns-clause-turn_wanting : goal.returns-clause-turn_wanting
returns-clause-turn_wanting c l written = (refl, ([], tt, tt))

pub returns-clause-turn_sink : goal.returns-clause-turn_sink
returns-clause-turn_sink c l written = tt

pub returns-clause-turn_none : goal.returns-clause-turn_none
returns-clause-turn_none c l written none h = none (envelopes h.1.2.messages) h.1.2.said h.1.2.stands

pub returns-clause-run : goal.returns-clause-run
returns-clause-run c l stands = (codes "b", refl, ([], refl, left (codes "b") l stands))

pub returns-clause-run_cut : goal.returns-clause-run_cut
returns-clause-run_cut c l h = by (first_is h.1)
  where
    by : ◌≡◌ {A = ℕ} 98 97 → ⊥
    by h = omega (arith, h)

pub returns-clause-run_sink : goal.returns-clause-run_sink
returns-clause-run_sink c l = tt

written_is : {line : List ℕ} → codes "ab" ≡ codes "a" ++ line → line ≡ codes "b"
written_is h = cc

pub returns-clause-run_none : goal.returns-clause-run_none
returns-clause-run_none c l none h =
    none (envelopes h.2.2.messages) h.2.2.said (subst (λ (w : List ℕ). Stands w l (envelopes h.2.2.messages) h.2.2.said) (written_is {line = h.0} h.1) h.2.2.stands)
