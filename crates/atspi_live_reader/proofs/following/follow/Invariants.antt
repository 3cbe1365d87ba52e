use Rattle.std.proofs.Common.{◌≡◌, ℕ, ◌-◌, ◌*◌, ◌≤◌, List, length}
use Rattle.std.specs.Io.KnownBytes.{Appends}
use Rattle.atspi_live_conversation.specs.Rounds.{AreRounds, Makes}
use Rattle.atspi_live_conversation.specs.Talking.{Going, MaySpeak, heard_in}
use Rattle.atspi_live_reader.specs.Following.{IsQuiet, Stands}
use Rattle.atspi_live_reader.specs.Spoken.{IsAfter, IsEmpty}
use Rattle.atspi_live_reader.proofs.following.follow.Given as goal

abbrev pub invariant-rounds : goal.invariant-rounds
invariant-rounds g l =
    record {
      goes : (written : List ℕ) × Appends (g.K.Sink.written l.fn.sink) (g.K.Sink.written l.sink) written × Going (Stands written) l.link (g.H.Host.calls l.host) l.done l.conversation l.end;
      made : Makes (g.H.Host.calls l.fn.host) (g.H.Host.calls l.host) (AreRounds (λ _. IsAfter) IsEmpty l.link 4096 l.done);
      may : MaySpeak Stands l.end;
      quiet : IsQuiet l.end;
      few : heard_in l.conversation ≤ 4096 * l.done;
      within : l.done ≤ l.rounds;
      piece : length l.piece ≡ 4096;
      links : g.H.Host.links l.host ≡ g.H.Host.links l.fn.host;
      steady : g.H.Host.link_faults l.host ≡ g.H.Host.link_faults l.fn.host;
      other : g.H.Host.faults l.host ≡ g.H.Host.faults l.fn.host;
      sink : g.K.Sink.faults l.sink ≡ g.K.Sink.faults l.fn.sink;
    }

abbrev pub decreases-rounds : goal.decreases-rounds
decreases-rounds g l = l.rounds - l.done
