use Rattle.std.proofs.Common.{◌≡◌, ℕ, ◌+◌, ◌-◌, List, [], length, refl, sym, subst, ◌∙◌, rules, arith}
use Rattle.atspi_live_host.specs.Calls.{IsOpen}
use Rattle.atspi_live_conversation.proofs.StepLemmas.{at_first, may_begin}
use Rattle.atspi_live_app.specs.Lines.{lines_of}
use Rattle.atspi_live_app.specs.Live.{IsMarked}
use Rattle.atspi_live_app.specs.inner.Live.{aside_of}
use Rattle.atspi_live_app.specs.declared.over.Over.TheVariants.{Ended}
use Rattle.atspi_live_conversation.specs.declared.ending.Ending.TheVariants.{RoundsDone}
use Rattle.atspi_live_conversation.specs.Rounds.{IsRound, Makes}
use Rattle.atspi_live_conversation.proofs.RoundLemmas.{makes_none}
use Rattle.atspi_live_app.specs.Overs.{OverBlames}
use Rattle.atspi_live_app.specs.Pace.{BreaksOver}
use Rattle.atspi_live_app.specs.Standing.{IsAfter, IsEmpty}
use Rattle.atspi_live_app.proofs.Ordering.{over_in}
use Rattle.atspi_live_app.proofs.Pacing.{Paced, paced_first, paced_last, paced_more}
use Rattle.atspi_live_app.proofs.Pieces.{has_round}
use Rattle.atspi_live_app.proofs.Rounding.{TurnRounds, done_turned, over_turned, rounds_first, rounds_turned}
use Rattle.atspi_live_app.proofs.Turning.{StandsOf, all_turned, see_of, seen_of}
use Rattle.atspi_live_app.proofs.rounds.export.Goals as goal

pub rounds-init : goal.rounds-init
rounds-init g c = record {
  goes = (
    0,
    [],
    at_first (StandsOf g.A.Application.is_app g.A.Application.exporter g.A.Application.is_kit (aside_of 0 [] c.args.end.now.input.text.items)) c.args.link (g.H.Host.calls c.args.host.now) c.new-conversation.result c.args.end.now c.requires.fresh
        c.new-conversation.ensures.client c.new-conversation.ensures.feeder c.new-conversation.ensures.unsent c.new-conversation.ensures.heard c.requires.begins,
    paced_first c.args.end.now.input.text.items c.args.link (g.H.Host.calls c.args.host.now) c.requires.fresh,
  );
  made = makes_none (g.H.Host.calls c.args.host.now) (TurnRounds (lines_of c.args.end.now.input.text.items) c.args.link 0) (rounds_first (lines_of c.args.end.now.input.text.items) c.args.link);
  may = may_begin (StandsOf g.A.Application.is_app g.A.Application.exporter g.A.Application.is_kit) (aside_of 0 [] c.args.end.now.input.text.items) c.args.end.now c.requires.begins;
  few = omega (arith, c.new-conversation.ensures.heard);
  within = omega arith;
  piece = search rules;
  links = refl;
  steady = refl;
  other = refl;
}

pub turn-requires-clause-open : goal.turn-requires-clause-open
turn-requires-clause-open g c = subst (λ (w : List ℕ). IsOpen c.args.link w) (sym c.rounds.invariant.links) c.requires.open

pub rounds-preserved : goal.rounds-preserved
rounds-preserved g c =
    let text = c.args.end.now.input.text.items in
    let o = c.rounds.invariant.goes in
    let t = c.in-Ok.ensures.ok text o.1 o.0 c.rounds.done o.2 in
    let one = has_round (IsMarked t.3) (lines_of text) c.args.link (length c.rounds.piece) o.2.t o.2.g (g.H.Host.calls c.rounds.host) (g.H.Host.calls c.turn.new.host) t.8 in
    let paced : Paced text t.1 (c.rounds.done + 1) (t.0 - 1) c.args.link (g.H.Host.calls c.turn.new.host) t.3 =
    paced_more text o.0 c.rounds.done c.rounds.takes t.0 t.1 c.args.link t.2 (g.H.Host.calls c.rounds.host) (g.H.Host.calls c.turn.new.host) o.1 t.3 o.3 one t.5 t.4 in
    record {
      goes = (t.1, t.3, t.7, subst (λ (x : ℕ). Paced text t.1 (c.rounds.done + 1) x c.args.link (g.H.Host.calls c.turn.new.host) t.3) (sym t.6) paced);
      made = rounds_turned text t.1 c.rounds.done (t.0 - 1) c.args.link (g.H.Host.calls c.args.host.now) (g.H.Host.calls c.rounds.host) (g.H.Host.calls c.turn.new.host) o.2.t o.2.g t.3 o.2.dids c.requires.fresh o.2.tells paced c.rounds.invariant.made
          (subst (λ (x : ℕ). Makes (g.H.Host.calls c.rounds.host) (g.H.Host.calls c.turn.new.host) (IsRound (IsAfter (IsMarked t.3) (lines_of text)) IsEmpty c.args.link x o.2.t o.2.g)) c.rounds.invariant.piece t.8);
      may = c.in-Ok.ensures.may;
      few = omega (arith, c.in-Ok.ensures.few, c.rounds.invariant.few, c.rounds.invariant.piece);
      within = omega arith;
      piece = first_of (omega arith, search rules);
      links = c.in-Ok.ensures.links ∙ c.rounds.invariant.links;
      steady = c.in-Ok.ensures.cause ∙ c.rounds.invariant.steady;
      other = c.in-Ok.ensures.other ∙ c.rounds.invariant.other;
    }

pub returns-in-Err-clause-over : goal.returns-in-Err-clause-over
returns-in-Err-clause-over g c =
    let o = c.rounds.invariant.goes in
    let t = c.in-Err.ensures.err c.args.end.now.input.text.items o.1 o.0 c.rounds.done c.args.rounds o.2 in
    let p = paced_last (IsMarked t.0) c.args.end.now.input.text.items o.0 c.rounds.done c.rounds.takes c.args.link (length c.rounds.piece) c.in-Err.over (g.H.Host.calls c.rounds.host) (g.H.Host.calls c.turn.new.host) o.2.t o.2.g o.1 t.0 o.3 t.2 t.3 in
    over_in c.args.end.now.input.text.items p.0 p.2 p.1 c.args.link c.args.rounds c.in-Err.over (g.H.Host.calls c.turn.new.host) t.0 p.3 t.1

pub returns-in-Err-clause-paced : goal.returns-in-Err-clause-paced
returns-in-Err-clause-paced g c =
    let o = c.rounds.invariant.goes in
    let t = c.in-Err.ensures.err c.args.end.now.input.text.items o.1 o.0 c.rounds.done c.args.rounds o.2 in
    over_turned c.args.end.now.input.text.items o.0 c.rounds.done c.rounds.takes c.args.link c.args.rounds c.in-Err.over (g.H.Host.calls c.args.host.now) (g.H.Host.calls c.rounds.host) (g.H.Host.calls c.turn.new.host) o.2.t o.2.g o.1 t.0 o.2.dids (omega arith)
    c.requires.fresh o.2.tells o.3 t.2 c.rounds.invariant.made
    (subst (λ (x : ℕ). Makes (g.H.Host.calls c.rounds.host) (g.H.Host.calls c.turn.new.host) (BreaksOver (IsMarked t.0) (lines_of c.args.end.now.input.text.items) c.args.link x c.in-Err.over o.2.t o.2.g)) c.rounds.invariant.piece t.3)

pub returns-in-Err-clause-cause : goal.returns-in-Err-clause-cause
returns-in-Err-clause-cause g c = subst (λ (n : ℕ). OverBlames c.in-Err.over n (g.H.Host.link_faults c.turn.new.host)) c.rounds.invariant.steady c.in-Err.ensures.cause

pub returns-clause-over : goal.returns-clause-over
returns-clause-over g c =
    let done : c.rounds.done ≡ c.args.rounds = omega arith in
    let o = c.rounds.invariant.goes in
    let text = c.args.end.now.input.text.items in
    over_in text o.0 c.rounds.done c.rounds.takes c.args.link c.args.rounds (Ended RoundsDone) (g.H.Host.calls c.rounds.host) o.1 o.3
    (all_turned (StandsOf g.A.Application.is_app g.A.Application.exporter g.A.Application.is_kit (aside_of o.0 o.1 text)) (IsMarked o.1) (lines_of text) (see_of g.A.Application.exporter) c.args.link c.rounds.done c.args.rounds
    (g.H.Host.calls c.rounds.host) c.rounds.conversation c.rounds.end (seen_of g.A.Application.is_app g.A.Application.exporter g.A.Application.is_kit o.0 o.1 text) done o.2)

pub returns-clause-paced : goal.returns-clause-paced
returns-clause-paced g c =
    let done : c.rounds.done ≡ c.args.rounds = omega arith in
    let o = c.rounds.invariant.goes in
    done_turned c.args.end.now.input.text.items o.0 c.rounds.done c.rounds.takes c.args.link c.args.rounds (g.H.Host.calls c.args.host.now) (g.H.Host.calls c.rounds.host) o.1 done o.3 c.rounds.invariant.made
