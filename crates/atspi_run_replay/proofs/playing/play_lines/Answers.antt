use Rattle.std.proofs.Common.{◌≡◌, ℕ, List, [], refl, Result, Err, rules, arith, subst}
use Rattle.atspi_world.specs.Worlds.{Staged}
use Rattle.atspi_run_replay.specs.Lines.{lines_read}
use Rattle.atspi_run_replay.specs.Told.{Told}
use Rattle.atspi_run_replay.specs.declared.naming.Stop.{Stop}
use Rattle.atspi_run_replay.proofs.Course.{SoFar, one_more, so_far_end, so_far_start, stopped_part}
use Rattle.atspi_run_replay.proofs.DoneLemmas.{appends_nothing}
use Rattle.atspi_run_replay.proofs.PlayLemmas.{then_halted, then_refused}
use Rattle.atspi_run_replay.proofs.playing.play_lines.Goals as goal

pub loop-line-init : goal.loop-line-init
loop-line-init g c = record {
  told = ([], so_far_start (lines_read c.args.ended c.args.text.now) _ c.requires.begins c.requires.silent, appends_nothing (g.K.Sink.written c.args.sink.now));
  stage = c.requires.stage;
  steady = refl;
  few = omega arith;
}

abbrev failed : Stop → Result (Unit {0}) Stop
failed stop = Err stop

next : (lines line_and_rest : List (List ℕ)) (now : List (List ℕ)) (told : List Told) (number : ℕ) (s : Staged) → now ≡ line_and_rest → SoFar lines now told number s → SoFar lines line_and_rest told number s
next lines line_and_rest now told number s e p = subst (λ ls. SoFar lines ls told number s) e p

pub returns-in-Err-clause-refused : goal.returns-in-Err-clause-refused
returns-in-Err-clause-refused g c =
    let t = c.loop-line.invariant.told in
    let w = next _ _ _ t.0 c.loop-line.number _ c.in-Some.ensures.lines t.1 in
    then_refused (failed c.in-Err.stop) c.args.options _ _ t.0 c.in-Some.line.now c.loop-line.number _ _ _ _ w t.2 c.in-Err.ensures.refused

pub returns-in-Err-clause-halted : goal.returns-in-Err-clause-halted
returns-in-Err-clause-halted g c =
    let t = c.loop-line.invariant.told in
    let w = next _ _ _ t.0 c.loop-line.number _ c.in-Some.ensures.lines t.1 in
    then_halted (failed c.in-Err.stop) c.args.options _ _ t.0 c.in-Some.line.now c.loop-line.number _ _ _ _ _ w t.2 c.in-Err.ensures.halted

pub returns-in-Err-clause-err : goal.returns-in-Err-clause-err
returns-in-Err-clause-err g c =
    let t = c.loop-line.invariant.told in
    let w = next _ _ _ t.0 c.loop-line.number _ c.in-Some.ensures.lines t.1 in
    stopped_part _ _ _ _ w t.2 c.in-Err.ensures.err

pub loop-line-preserved : goal.loop-line-preserved
loop-line-preserved g c =
    let t = c.loop-line.invariant.told in
    let w = next _ _ _ t.0 c.loop-line.number _ c.in-Some.ensures.lines t.1 in
    record {
      told = one_more c.args.options _ _ _ _ w t.2 c.in_default-play_line.ensures.ok;
      stage = c.in_default-play_line.ensures.stage;
      steady = search rules;
      few = omega (arith, c.in-Some.ensures.shorter, c.loop-line.invariant.few);
    }

pub returns-clause-ok : goal.returns-clause-ok
returns-clause-ok g c =
    let t = c.loop-line.invariant.told in
    (t.0, so_far_end (next _ _ _ t.0 c.loop-line.number _ c.in_default.ensures t.1), t.2)
