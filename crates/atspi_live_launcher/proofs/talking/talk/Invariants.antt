use Rattle.std.proofs.Common.{◌≡◌, ◌-◌, ◌*◌, ◌≤◌, length}
use Rattle.atspi_live_conversation.specs.Rounds.{AreRounds, Makes}
use Rattle.atspi_live_conversation.specs.Talking.{Going, MaySpeak}
use Rattle.atspi_live_launcher.specs.inner.Talks.{HasNothing, StandsOf, address_of}
use Rattle.atspi_live_launcher.proofs.talking.talk.Given as goal

abbrev pub invariant-rounds : goal.invariant-rounds
invariant-rounds g l =
    record {
      going : Going (StandsOf (address_of l.fn.end)) l.link (g.H.Host.calls l.host) l.done l.conversation l.end;
      made : Makes (g.H.Host.calls l.fn.host) (g.H.Host.calls l.host) (AreRounds (λ _. StandsOf (address_of l.fn.end)) HasNothing l.link 4096 l.done);
      may : MaySpeak StandsOf l.end;
      few : l.conversation.heard ≤ 4096 * l.done;
      within : l.done ≤ l.rounds;
      piece : length l.piece ≡ 4096;
      links : g.H.Host.links l.host ≡ g.H.Host.links l.fn.host;
      steady : g.H.Host.link_faults l.host ≡ g.H.Host.link_faults l.fn.host;
      other : g.H.Host.faults l.host ≡ g.H.Host.faults l.fn.host;
    }

abbrev pub decreases-rounds : goal.decreases-rounds
decreases-rounds g l = l.rounds - l.done
