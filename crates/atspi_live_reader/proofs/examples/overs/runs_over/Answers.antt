use Rattle.std.proofs.Common.{◌≡◌, List, ℕ, [], ◌∷◌, ◌++◌, refl, arith}
use Rattle.std.specs.Prelude.{codes}
use Rattle.atspi_live_host.specs.declared.call.Did.{Did}
use Rattle.atspi_live_host.specs.declared.call.Did.TheVariants.{End, NotYet}
use Rattle.atspi_live_conversation.proofs.LineLemmas.{none_behind}
use Rattle.atspi_live_reader.specs.Spoken.{IsSpoken}
use Rattle.atspi_live_reader.specs.Cases.{hail}
use Rattle.atspi_live_reader.specs.inner.Cases.{hello}
use Rattle.atspi_live_reader.proofs.FirstRounds.{in_order}
use Rattle.atspi_live_reader.proofs.Started.{first_is, none_spoken, not_said_first, said_first}
use Rattle.atspi_protocol.specs.following.ReaderState.{sends}
use Rattle.atspi_live_reader.proofs.examples.overs.runs_over.Goals as goal

nothing : IsSpoken [] []
nothing = record { messages = []; rest = []; parted = record { are = tt; parted = none_behind }; done = []; more = sends hello ∷ []; all = refl; left = []; front = refl }

pub returns-clause-peer : goal.returns-clause-peer
returns-clause-peer c = record { line = []; wrote = refl; speaks = said_first [] hail refl; speaks_up = nothing; so = (in_order, ([], refl, tt)) }

pub returns-clause-sink : goal.returns-clause-sink
returns-clause-sink c = record { line = []; wrote = refl; speaks = said_first hail [] refl; speaks_up = nothing; so = tt }

pub returns-clause-written : goal.returns-clause-written
returns-clause-written c = record { line = codes "c"; wrote = refl; speaks = tt; speaks_up = tt; so = tt }

pub returns-clause-not_peer : goal.returns-clause-not_peer
returns-clause-not_peer c h = by h.so.1.0 h.so.1.1
  where
    by : (before : List Did) → NotYet ∷ [] ≡ before ++ End ∷ [] → ⊥
    by [] h = cc
    by (d ∷ []) h = cc
    by (d ∷ e ∷ before) h = cc

pub returns-clause-cut : goal.returns-clause-cut
returns-clause-cut c h = by (first_is h.wrote)
  where
    by : ◌≡◌ {A = ℕ} 98 97 → ⊥
    by h = omega (arith, h)

pub returns-clause-other_said : goal.returns-clause-other_said
returns-clause-other_said c h = not_said_first h.speaks

pub returns-clause-other_spoken : goal.returns-clause-other_spoken
returns-clause-other_spoken c h = by h.line h.wrote (none_spoken h.line h.speaks_up)
  where
    by : (line : List ℕ) → codes "s" ≡ line → line ≡ [] → ⊥
    by line h none = cc

pub returns-clause-other_before : goal.returns-clause-other_before
returns-clause-other_before c h = by h.line (none_spoken (codes "s" ++ h.line) h.speaks_up)
  where
    by : (line : List ℕ) → codes "s" ++ line ≡ [] → ⊥
    by line h = cc
