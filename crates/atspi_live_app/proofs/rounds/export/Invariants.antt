use Rattle.std.proofs.Common.{◌≡◌, ℕ, ◌-◌, ◌*◌, ◌≤◌, List, length}
use Rattle.atspi_live_conversation.specs.Talking.{Going, MaySpeak, heard_in}
use Rattle.atspi_live_conversation.specs.Rounds.{Makes}
use Rattle.atspi_live_app.specs.Lines.{lines_of}
use Rattle.atspi_live_app.specs.inner.Live.{aside_of}
use Rattle.atspi_live_app.proofs.Pacing.{Paced}
use Rattle.atspi_live_app.proofs.Rounding.{TurnRounds}
use Rattle.atspi_live_app.proofs.Turning.{StandsOf}
use Rattle.atspi_live_app.proofs.rounds.export.Given as goal

abbrev pub invariant-rounds : goal.invariant-rounds
invariant-rounds g l =
    record {
      goes : (place : ℕ) × (marks : List ℕ)
          × Going (StandsOf g.A.Application.is_app g.A.Application.exporter g.A.Application.is_kit (aside_of place marks l.fn.end.input.text.items)) l.link (g.H.Host.calls l.host) l.done l.conversation l.end
          × Paced l.fn.end.input.text.items place l.done l.takes l.link (g.H.Host.calls l.host) marks;
      made : Makes (g.H.Host.calls l.fn.host) (g.H.Host.calls l.host) (TurnRounds (lines_of l.fn.end.input.text.items) l.link l.done);
      may : MaySpeak (StandsOf g.A.Application.is_app g.A.Application.exporter g.A.Application.is_kit) l.end;
      few : heard_in l.conversation ≤ 4096 * l.done;
      within : l.done ≤ l.rounds;
      piece : length l.piece ≡ 4096;
      links : g.H.Host.links l.host ≡ g.H.Host.links l.fn.host;
      steady : g.H.Host.link_faults l.host ≡ g.H.Host.link_faults l.fn.host;
      other : g.H.Host.faults l.host ≡ g.H.Host.faults l.fn.host;
    }

abbrev pub decreases-rounds : goal.decreases-rounds
decreases-rounds g l = l.rounds - l.done
