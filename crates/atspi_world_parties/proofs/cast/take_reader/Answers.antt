use Rattle.std.proofs.Common.{get_or, arith}
use Rattle.atspi_message_in_place.specs.View.{envelope_at}
use Rattle.atspi_protocol.specs.following.ReaderState.{ReaderState}
use Rattle.atspi_protocol.specs.following.Takes.{reader_takes}
use Rattle.atspi_world_parties.proofs.Elements.{took_at, took_none, took_there}
use Rattle.atspi_world_parties.proofs.cast.take_reader.Goals as goal

pub returns-then-place-readers-clause-took : goal.returns-then-place-readers-clause-took
returns-then-place-readers-clause-took g c = took_none g.R.Follower.follower (λ s. reader_takes s (envelope_at c.args.message.now)) c.args.readers.now c.args.number (omega arith)

pub returns-clause-took : goal.returns-clause-took
returns-clause-took g c =
    took_at g.R.Follower.follower c.take.result (λ s. reader_takes s (envelope_at c.args.message.now)) c.args.readers.now c.args.number _ c.take.new.self (cc (c.index-readers-place.is)) c.take.ensures.ok

pub returns-clause-spent : goal.returns-clause-spent
returns-clause-spent g c = λ is.
    let follower = g.R.Follower.follower in
    let takes : ReaderState → ReaderState = λ s. reader_takes s (envelope_at c.args.message.now) in
    let after = takes (follower (get_or c.args.readers.now c.args.number c.index-readers-place.result)) in
    (after, took_there follower takes c.args.readers.now c.args.number c.index-readers-place.result (omega arith), c.take.ensures.spent is)
