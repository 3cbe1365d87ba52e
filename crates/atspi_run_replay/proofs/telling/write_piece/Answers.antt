use Rattle.std.proofs.Common.{[], refl, append-nil, ◌∙◌, ap, ◌++◌}
use Rattle.atspi_run_replay.proofs.DoneLemmas.{appends_nothing}
use Rattle.atspi_run_replay.proofs.telling.write_piece.Goals as goal

pub returns-then-not-is_piece-clause-ok : goal.returns-then-not-is_piece-clause-ok
returns-then-not-is_piece-clause-ok g c = ([], appends_nothing (g.K.Sink.written c.args.sink.now), refl)

pub returns-clause-ok : goal.returns-clause-ok
returns-clause-ok g c = (c.args.text.now, c.in_default.ensures.ok, ap (λ t. c.args.text.now ++ t) c.truncate.ensures ∙ append-nil c.args.text.now)
