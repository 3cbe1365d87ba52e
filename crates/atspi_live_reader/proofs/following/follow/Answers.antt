use Rattle.std.proofs.Common.{◌≡◌, ℕ, List, [], ◌++◌, refl, sym, subst, ◌∙◌, rules, arith}
use Rattle.std.proofs.KnownBytes.{Appends-nil}
use Rattle.atspi_base.specs.Outside.{appends_both}
use Rattle.atspi_live_host.specs.Calls.{IsOpen}
use Rattle.atspi_live_conversation.specs.Rounds.{AreRounds, IsRound, Makes}
use Rattle.atspi_live_conversation.proofs.RoundLemmas.{makes_none, rounds_more, run_done}
use Rattle.atspi_live_conversation.proofs.StepLemmas.{at_first, may_begin}
use Rattle.atspi_live_reader.specs.Following.{BlamesSink, BreaksOver, OverBlames, Stands}
use Rattle.atspi_live_reader.proofs.Turning.{all_turned, left_at_last, left_behind, over_later, over_made}
use Rattle.atspi_live_reader.specs.Spoken.{IsAfter, IsEmpty}
use Rattle.atspi_live_reader.proofs.following.follow.Goals as goal

pub rounds-init : goal.rounds-init
rounds-init g c = record {
  goes = (
    [],
    Appends-nil (g.K.Sink.written c.args.sink.now),
    at_first (Stands []) c.args.link (g.H.Host.calls c.args.host.now) c.new-conversation.result c.args.end.now c.requires.fresh
        c.new-conversation.ensures.client c.new-conversation.ensures.feeder c.new-conversation.ensures.unsent c.new-conversation.ensures.heard c.requires.begins,
  );
  made = makes_none (g.H.Host.calls c.args.host.now) (AreRounds (λ _. IsAfter) IsEmpty c.args.link 4096 0) refl;
  may = may_begin Stands [] c.args.end.now c.requires.begins;
  quiet = c.requires.quiet;
  few = omega (arith, c.new-conversation.ensures.heard);
  within = omega arith;
  piece = search rules;
  links = refl;
  steady = refl;
  other = refl;
  sink = refl;
}

pub turn-requires-clause-open : goal.turn-requires-clause-open
turn-requires-clause-open g c = subst (λ (w : List ℕ). IsOpen c.args.link w) (sym c.rounds.invariant.links) c.requires.open

pub rounds-preserved : goal.rounds-preserved
rounds-preserved g c =
    let o = c.rounds.invariant.goes in
    let n = c.in-Ok.ensures.ok in
    record {
      goes = (
        o.0 ++ n.line,
        appends_both (g.K.Sink.written c.args.sink.now) (g.K.Sink.written c.rounds.sink) (g.K.Sink.written c.turn.new.sink) o.0 n.line o.1 n.wrote,
        n.goes o.0 c.rounds.done o.2,
      );
      made = rounds_more (λ _. IsAfter) IsEmpty c.args.link 4096 c.rounds.done (g.H.Host.calls c.args.host.now) (g.H.Host.calls c.rounds.host) (g.H.Host.calls c.turn.new.host) o.2.t o.2.g o.2.dids c.requires.fresh o.2.tells c.rounds.invariant.made
          (subst (λ (x : ℕ). Makes (g.H.Host.calls c.rounds.host) (g.H.Host.calls c.turn.new.host) (IsRound IsAfter IsEmpty c.args.link x o.2.t o.2.g)) c.rounds.invariant.piece (c.in-Ok.ensures.made o.0 c.rounds.done o.2));
      may = c.in-Ok.ensures.may;
      quiet = c.in-Ok.ensures.quiet;
      few = omega (arith, c.in-Ok.ensures.few, c.rounds.invariant.few, c.rounds.invariant.piece);
      within = omega arith;
      piece = first_of (omega arith, search rules);
      links = c.in-Ok.ensures.links ∙ c.rounds.invariant.links;
      steady = c.in-Ok.ensures.cause ∙ c.rounds.invariant.steady;
      other = c.in-Ok.ensures.other ∙ c.rounds.invariant.other;
      sink = c.in-Ok.ensures.sink ∙ c.rounds.invariant.sink;
    }

pub returns-in-Err-clause-over : goal.returns-in-Err-clause-over
returns-in-Err-clause-over g c =
    let o = c.rounds.invariant.goes in
    over_later c.args.link c.args.rounds c.in-Err.over (g.H.Host.calls c.turn.new.host) o.0 (g.K.Sink.written c.args.sink.now) (g.K.Sink.written c.rounds.sink) (g.K.Sink.written c.turn.new.sink) appends_both o.1
    (c.in-Err.ensures.err o.0 c.rounds.done c.args.rounds o.2)

pub returns-in-Err-clause-cause : goal.returns-in-Err-clause-cause
returns-in-Err-clause-cause g c = subst (λ (n : ℕ). OverBlames c.in-Err.over n (g.H.Host.link_faults c.turn.new.host)) c.rounds.invariant.steady c.in-Err.ensures.cause

pub returns-in-Err-clause-sink : goal.returns-in-Err-clause-sink
returns-in-Err-clause-sink g c = subst (λ (n : ℕ). BlamesSink c.in-Err.over n (g.K.Sink.faults c.turn.new.sink)) c.rounds.invariant.sink c.in-Err.ensures.sink

pub returns-clause-over : goal.returns-clause-over
returns-clause-over g c =
    let o = c.rounds.invariant.goes in
    let done : c.rounds.done ≡ c.args.rounds = omega arith in
    all_turned c.args.link c.rounds.done c.args.rounds (g.H.Host.calls c.rounds.host) c.rounds.conversation c.rounds.end o.0 (g.K.Sink.written c.args.sink.now) (g.K.Sink.written c.rounds.sink) done c.rounds.invariant.quiet o.1 o.2

pub returns-in-Err-clause-rounds : goal.returns-in-Err-clause-rounds
returns-in-Err-clause-rounds g c =
    let o = c.rounds.invariant.goes in
    over_made c.args.link c.rounds.done c.args.rounds c.in-Err.over (g.H.Host.calls c.args.host.now) (g.H.Host.calls c.rounds.host) (g.H.Host.calls c.turn.new.host) o.2.t o.2.g o.2.dids (omega arith) (omega arith) c.requires.fresh o.2.tells c.rounds.invariant.made
    (subst (λ (x : ℕ). Makes (g.H.Host.calls c.rounds.host) (g.H.Host.calls c.turn.new.host) (BreaksOver c.args.link x c.in-Err.over o.2.t o.2.g)) c.rounds.invariant.piece (c.in-Err.ensures.made o.0 c.rounds.done o.2))

pub returns-in-Err-clause-left : goal.returns-in-Err-clause-left
returns-in-Err-clause-left g c =
    let o = c.rounds.invariant.goes in
    left_behind c.args.link c.in-Err.over o.0 (g.H.Host.calls c.turn.new.host) (g.K.Sink.written c.args.sink.now) (g.K.Sink.written c.rounds.sink) (g.K.Sink.written c.turn.new.sink) c.turn.new.end o.1
    (c.in-Err.ensures.left o.0 c.rounds.done o.2)

pub returns-clause-rounds : goal.returns-clause-rounds
returns-clause-rounds g c = run_done (λ _. IsAfter) IsEmpty c.args.link 4096 c.rounds.done c.args.rounds (g.H.Host.calls c.args.host.now) (g.H.Host.calls c.rounds.host) (omega arith) c.rounds.invariant.made

pub returns-clause-left : goal.returns-clause-left
returns-clause-left g c =
    let o = c.rounds.invariant.goes in
    left_at_last c.args.link c.rounds.done (g.H.Host.calls c.rounds.host) c.rounds.conversation c.rounds.end o.0 (g.K.Sink.written c.args.sink.now) (g.K.Sink.written c.rounds.sink) o.1 o.2
