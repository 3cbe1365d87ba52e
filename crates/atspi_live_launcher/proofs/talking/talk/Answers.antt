use Rattle.std.proofs.Common.{◌≡◌, ℕ, List, refl, sym, subst, ◌∙◌, rules, arith}
use Rattle.atspi_live_host.specs.Calls.{IsOpen}
use Rattle.atspi_live_conversation.specs.Talking.{Blames}
use Rattle.atspi_live_launcher.specs.inner.Talks.{HasNothing, IsSpentOf, StandsOf, address_of}
use Rattle.atspi_live_conversation.specs.Rounds.{AreRounds, IsRound, Breaks, Makes}
use Rattle.atspi_live_conversation.proofs.RoundLemmas.{makes_none, rounds_more, run_broken, run_done}
use Rattle.atspi_live_conversation.proofs.StepLemmas.{all_done, at_first, may_begin}
use Rattle.atspi_live_launcher.proofs.talking.talk.Goals as goal

pub rounds-init : goal.rounds-init
rounds-init g c = record {
  going = at_first (StandsOf (address_of c.args.end.now)) c.args.link (g.H.Host.calls c.args.host.now) c.new-conversation.result c.args.end.now c.requires.fresh
      c.new-conversation.ensures.client c.new-conversation.ensures.feeder c.new-conversation.ensures.unsent c.new-conversation.ensures.heard c.requires.begins;
  made = makes_none (g.H.Host.calls c.args.host.now) (AreRounds (λ _. StandsOf (address_of c.args.end.now)) HasNothing c.args.link 4096 0) refl;
  may = may_begin StandsOf (address_of c.args.end.now) c.args.end.now c.requires.begins;
  few = omega (arith, c.new-conversation.ensures.heard);
  within = omega arith;
  piece = search rules;
  links = refl;
  steady = refl;
  other = refl;
}

pub round-requires-clause-open : goal.round-requires-clause-open
round-requires-clause-open g c = subst (λ (w : List ℕ). IsOpen c.args.link w) (sym c.rounds.invariant.links) c.requires.open

pub rounds-preserved : goal.rounds-preserved
rounds-preserved g c = record {
  going = c.in-Ok.ensures.ok (address_of c.args.end.now) c.rounds.done c.rounds.invariant.going;
  made = rounds_more (λ _. StandsOf (address_of c.args.end.now)) HasNothing c.args.link 4096 c.rounds.done (g.H.Host.calls c.args.host.now) (g.H.Host.calls c.rounds.host) (g.H.Host.calls c.round.new.host)
      c.rounds.invariant.going.t c.rounds.invariant.going.g c.rounds.invariant.going.dids c.requires.fresh c.rounds.invariant.going.tells c.rounds.invariant.made
      (subst (λ (n : ℕ). Makes (g.H.Host.calls c.rounds.host) (g.H.Host.calls c.round.new.host) (IsRound (StandsOf (address_of c.args.end.now)) HasNothing c.args.link n c.rounds.invariant.going.t c.rounds.invariant.going.g)) c.rounds.invariant.piece
      (c.in-Ok.ensures.made (address_of c.args.end.now) c.rounds.done c.rounds.invariant.going));
  may = c.in-Ok.ensures.may;
  few = omega (arith, c.in-Ok.ensures.few, c.rounds.invariant.few, c.rounds.invariant.piece);
  within = omega arith;
  piece = first_of (omega arith, search rules);
  links = c.in-Ok.ensures.links ∙ c.rounds.invariant.links;
  steady = c.in-Ok.ensures.cause ∙ c.rounds.invariant.steady;
  other = c.in-Ok.ensures.other ∙ c.rounds.invariant.other;
}

pub returns-in-Err-clause-speech : goal.returns-in-Err-clause-speech
returns-in-Err-clause-speech g c = (c.in-Err.ensures.err (address_of c.args.end.now) c.rounds.done c.args.rounds c.rounds.invariant.going).0

pub returns-in-Err-clause-ends : goal.returns-in-Err-clause-ends
returns-in-Err-clause-ends g c = (c.in-Err.ensures.err (address_of c.args.end.now) c.rounds.done c.args.rounds c.rounds.invariant.going).1

pub returns-in-Err-clause-cause : goal.returns-in-Err-clause-cause
returns-in-Err-clause-cause g c = subst (λ (n : ℕ). Blames c.in-Err.ending n (g.H.Host.link_faults c.round.new.host)) c.rounds.invariant.steady c.in-Err.ensures.cause

pub returns-clause-speech : goal.returns-clause-speech
returns-clause-speech g c =
    let done : c.rounds.done ≡ c.args.rounds = omega arith in
    (all_done (StandsOf (address_of c.args.end.now)) IsSpentOf c.args.link c.rounds.done c.args.rounds (g.H.Host.calls c.rounds.host) c.rounds.conversation c.rounds.end done c.rounds.invariant.going).0

pub returns-clause-ends : goal.returns-clause-ends
returns-clause-ends g c =
    let done : c.rounds.done ≡ c.args.rounds = omega arith in
    (all_done (StandsOf (address_of c.args.end.now)) IsSpentOf c.args.link c.rounds.done c.args.rounds (g.H.Host.calls c.rounds.host) c.rounds.conversation c.rounds.end done c.rounds.invariant.going).1

pub returns-in-Err-clause-rounds : goal.returns-in-Err-clause-rounds
returns-in-Err-clause-rounds g c =
    run_broken (λ _. StandsOf (address_of c.args.end.now)) HasNothing c.args.link 4096 c.rounds.done c.args.rounds c.in-Err.ending (g.H.Host.calls c.args.host.now) (g.H.Host.calls c.rounds.host) (g.H.Host.calls c.round.new.host)
    c.rounds.invariant.going.t c.rounds.invariant.going.g c.rounds.invariant.going.dids (omega arith) c.requires.fresh c.rounds.invariant.going.tells c.rounds.invariant.made
    (subst (λ (n : ℕ). Makes (g.H.Host.calls c.rounds.host) (g.H.Host.calls c.round.new.host) (Breaks (StandsOf (address_of c.args.end.now)) HasNothing c.args.link n c.in-Err.ending c.rounds.invariant.going.t c.rounds.invariant.going.g))
    c.rounds.invariant.piece (c.in-Err.ensures.made (address_of c.args.end.now) c.rounds.done c.rounds.invariant.going))

pub returns-clause-rounds : goal.returns-clause-rounds
returns-clause-rounds g c =
    run_done (λ _. StandsOf (address_of c.args.end.now)) HasNothing c.args.link 4096 c.rounds.done c.args.rounds (g.H.Host.calls c.args.host.now) (g.H.Host.calls c.rounds.host) (omega arith) c.rounds.invariant.made
