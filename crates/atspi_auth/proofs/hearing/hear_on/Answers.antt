use Rattle.std.proofs.lemmas.List.{drop-drop}
use Rattle.atspi_auth.proofs.HearingLemmas.{no_end-nil, steps, stops, tail, within}
use Rattle.atspi_auth.proofs.hearing.hear_on.Goals as goal

pub line_end-requires : goal.line_end-requires
line_end-requires c = no_end-nil

pub returns-in_default-clause-heard : goal.returns-in_default-clause-heard
returns-in_default-clause-heard c =
    stops _ c.lines.said.items c.push_back.new.self.items c.lines.reply c.in-Say.line c.in-Say.waiting c.unless_too_long-stage.result
    _ _ c.lines.invariant.1 c.in-Say.is c.in_ok-push_back-in-Say.ensures.items
    (tail c.lines.at c.args.bytes.now) c.in_default.ensures.none c.unless_too_long-stage.ensures

pub lines-preserved : goal.lines-preserved
lines-preserved c = (
  within c.lines.at c.in-Some.n c.args.bytes.now c.lines.invariant.0 c.in-Some.ensures.within,
  steps _ c.lines.said.items c.push_back.new.self.items c.lines.reply c.in_ok-reply-in-Say.reply c.in-Say.line c.in-Say.waiting
      _ _ _ c.in-Some.n c.lines.invariant.1 c.in-Say.is c.in_ok-push_back-in-Say.ensures.items
      (tail c.lines.at c.args.bytes.now) c.in-Some.ensures.room c.in-Some.ensures.line c.in_ok-reply-in-Say.ensures
      (drop-drop c.in-Some.n c.lines.at c.args.bytes.now),
)
