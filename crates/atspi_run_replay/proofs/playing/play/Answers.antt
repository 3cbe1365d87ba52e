use Rattle.atspi_run_replay.specs.Lines.{lines_read}
use Rattle.atspi_run_replay.proofs.PlayLemmas.{played_nothing}
use Rattle.atspi_run_replay.proofs.playing.play.Goals as goal

pub returns-in-Err-clause-err : goal.returns-in-Err-clause-err
returns-in-Err-clause-err g c = played_nothing c.args.options (lines_read c.args.ended c.args.text.now) (g.K.Sink.written c.args.sink.now)
