use Rattle.std.proofs.Common.{◌∙◌}
use Rattle.atspi_live_reader.proofs.Running.{all_words, none_of_words, part_words}
use Rattle.atspi_live_reader.proofs.run.tell_last.Goals as goal

pub returns-in_default-clause-err : goal.returns-in_default-clause-err
returns-in_default-clause-err g c words k = none_of_words (g.K.Sink.written c.args.sink.now) words

pub returns-in-Ok-write_all-clause-ok : goal.returns-in-Ok-write_all-clause-ok
returns-in-Ok-write_all-clause-ok g c =
    all_words c.args.end.now c.args.ending c.as_slice.result.now (g.K.Sink.written c.args.sink.now) (g.K.Sink.written c.write_all.new.sink) c.in-Ok.ensures.fed (c.as_slice.ensures ∙ c.in-Ok.ensures.lines) c.in-Ok-write_all.ensures.ok

pub returns-in-Err-clause-err : goal.returns-in-Err-clause-err
returns-in-Err-clause-err g c =
    part_words c.args.end.now c.args.ending c.as_slice.result.now (g.K.Sink.written c.args.sink.now) (g.K.Sink.written c.write_all.new.sink) c.in-Ok.ensures.fed (c.as_slice.ensures ∙ c.in-Ok.ensures.lines) c.in-Err.ensures.err
