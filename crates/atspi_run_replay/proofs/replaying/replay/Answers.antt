use Rattle.atspi_run_replay.specs.Play.{Played, PlayedHalted, PlayedPart, PlayedRefused}
use Rattle.atspi_run_replay.proofs.PlayLemmas.{played_nothing}
use Rattle.atspi_run_replay.proofs.RunLemmas.{caused_end, caused_memory, caused_stop, replayed_end, replayed_nothing, replayed_stop}
use Rattle.atspi_run_replay.proofs.replaying.replay.Goals as goal

pub returns-in_default-clause-replayed : goal.returns-in_default-clause-replayed
returns-in_default-clause-replayed g c =
    let w = g.K.Sink.written c.args.sink.now in
    replayed_nothing (λ lines. Played c.args.options lines w w) (λ lines. PlayedRefused c.args.options lines w w) (λ lines. PlayedPart c.args.options lines w w) (λ why lines. PlayedHalted c.args.options why lines w w)
    (g.S.Source.left c.args.source.now) (g.S.Source.left c.read_all.new.source) (λ lines. played_nothing c.args.options lines w)

pub returns-in_default-clause-causes : goal.returns-in_default-clause-causes
returns-in_default-clause-causes g c = caused_memory _ _ _ c.read_all.ensures.faults

pub returns-in-Ok-play-clause-replayed : goal.returns-in-Ok-play-clause-replayed
returns-in-Ok-play-clause-replayed g c =
    let w = g.K.Sink.written c.args.sink.now in
    let w' = g.K.Sink.written c.play.new.sink in
    rw c.end_status.ensures
    (replayed_end (λ lines. Played c.args.options lines w w') (λ lines. PlayedRefused c.args.options lines w w') (λ lines. PlayedPart c.args.options lines w w') (λ why lines. PlayedHalted c.args.options why lines w w')
    c.in-Ok.end (g.S.Source.left c.args.source.now) (g.S.Source.left c.read_all.new.source) c.read_all.new.text.items c.in-Ok.ensures.read c.in-Ok.ensures.limit
    (rw (c.is_whole.ensures, c.deref.ensures.value) at c.in-Ok-play.ensures.ok))

pub returns-in-Ok-play-clause-causes : goal.returns-in-Ok-play-clause-causes
returns-in-Ok-play-clause-causes g c = rw c.end_status.ensures (caused_end c.in-Ok.end _ _ _ _ c.read_all.ensures.faults c.in-Ok.ensures.cause c.in-Ok-play.ensures.cause)

pub returns-clause-replayed : goal.returns-clause-replayed
returns-clause-replayed g c =
    let w = g.K.Sink.written c.args.sink.now in
    let w' = g.K.Sink.written c.play.new.sink in
    rw c.stop_status.ensures
    (replayed_stop (λ lines. Played c.args.options lines w w') (λ lines. PlayedRefused c.args.options lines w w') (λ lines. PlayedPart c.args.options lines w w') (λ why lines. PlayedHalted c.args.options why lines w w')
    (Unit {0}) c.in-Ok.end c.in-Err.stop (g.S.Source.left c.args.source.now) (g.S.Source.left c.read_all.new.source) c.read_all.new.text.items c.in-Ok.ensures.read c.in-Ok.ensures.limit
    (rw (c.is_whole.ensures, c.deref.ensures.value) at c.in-Err.ensures.halted) (rw (c.is_whole.ensures, c.deref.ensures.value) at c.in-Err.ensures.refused)
    (rw (c.is_whole.ensures, c.deref.ensures.value) at c.in-Err.ensures.err))

pub returns-clause-causes : goal.returns-clause-causes
returns-clause-causes g c = rw c.stop_status.ensures (caused_stop c.in-Err.stop _ _ _ _ c.read_all.ensures.faults c.in-Err.ensures.cause)
