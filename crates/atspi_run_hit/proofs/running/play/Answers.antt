use Rattle.std.proofs.Common.{◌≡◌, ℕ, List, [], refl, Result, Err, rules, arith, subst, Option, None, sym}
use Rattle.atspi_run_input.specs.Lines.{lines_read}
use Rattle.atspi_run_hit.specs.Scene.{Scene}
use Rattle.atspi_run_hit.specs.inner.Seen.{HasCalled}
use Rattle.atspi_run_hit.specs.declared.naming.Stop.{Stop}
use Rattle.atspi_run_hit.proofs.Course.{SoFar, appends_nothing, called_by, called_few, one_more, so_far_end, so_far_start, stopped_part, then_refused}
use Rattle.atspi_run_hit.proofs.running.play.Goals as goal

none_yet : (lines : List (List ℕ)) (s : Option Scene) → s ≡ None → SoFar lines lines [] 0 s
none_yet lines s e = subst (λ x. SoFar lines lines [] 0 x) (sym e) (so_far_start lines)

none_called : (s : Option Scene) → s ≡ None → HasCalled s 0
none_called s e = subst (λ x. HasCalled x 0) (sym e) tt

pub loop-line-init : goal.loop-line-init
loop-line-init g c = record {
  told = ([], none_yet (lines_read c.args.ended c.args.text.now) _ c.new-session.ensures.none, appends_nothing (g.K.Sink.written c.args.sink.now));
  session = c.new-session.ensures.session;
  called = none_called _ c.new-session.ensures.none;
  steady = refl;
  few = omega arith;
}

abbrev failed : Stop → Result (Unit {0}) Stop
failed stop = Err stop

next : (lines line_and_rest now : List (List ℕ)) (text : List ℕ) (number : ℕ) (s : Option Scene) → now ≡ line_and_rest → SoFar lines now text number s → SoFar lines line_and_rest text number s
next lines line_and_rest now text number s e p = subst (λ ls. SoFar lines ls text number s) e p

pub play_line-requires-clause-few : goal.play_line-requires-clause-few
play_line-requires-clause-few g c = called_few _ _ _ (omega (arith, c.loop-line.invariant.few, c.requires.short)) c.loop-line.invariant.called

pub returns-in-Err-clause-refused : goal.returns-in-Err-clause-refused
returns-in-Err-clause-refused g c =
    let t = c.loop-line.invariant.told in
    let w = next _ _ _ t.0 c.loop-line.number _ c.in-Some.ensures.lines t.1 in
    then_refused (failed c.in-Err.stop) _ _ t.0 c.in-Some.line.now c.loop-line.number _ _ _ _ w t.2 c.in-Err.ensures.refused

pub returns-in-Err-clause-err : goal.returns-in-Err-clause-err
returns-in-Err-clause-err g c =
    let t = c.loop-line.invariant.told in
    let w = next _ _ _ t.0 c.loop-line.number _ c.in-Some.ensures.lines t.1 in
    stopped_part _ _ _ w t.2 c.in-Err.ensures.err

pub loop-line-preserved : goal.loop-line-preserved
loop-line-preserved g c =
    let t = c.loop-line.invariant.told in
    let w = next _ _ _ t.0 c.loop-line.number _ c.in-Some.ensures.lines t.1 in
    record {
      told = one_more _ _ _ _ w t.2 c.in_default-play_line.ensures.ok;
      session = c.in_default-play_line.ensures.session;
      called = called_by _ _ _ _ _ _ c.loop-line.invariant.called c.in_default-play_line.ensures.ok;
      steady = search rules;
      few = omega (arith, c.in-Some.ensures.shorter, c.loop-line.invariant.few);
    }

pub returns-clause-ok : goal.returns-clause-ok
returns-clause-ok g c =
    let t = c.loop-line.invariant.told in
    (t.0, so_far_end (next _ _ _ t.0 c.loop-line.number _ c.in_default.ensures t.1), t.2)
