use Rattle.atspi_world_parties.proofs.Elements.{calls_at}
use Rattle.atspi_world_parties.proofs.Reasons.{call_held, call_not_held, err_at}
use Rattle.atspi_world_parties.proofs.ElementsSpent.{call_spends}
use Rattle.atspi_world_parties.proofs.doing.call_at.Goals as goal

pub returns-in-Some-clause-called : goal.returns-in-Some-clause-called
returns-in-Some-clause-called g c =
    calls_at g.R.Follower.follower c.call.result c.args.readers.now _ c.call.new.self c.args.number c.args.node c.in-Some.name c.args.callee.now.name c.args.deed.now (cc (c.index-readers-place.is)) c.in-Some.is c.call.ensures.ok

pub returns-in-Some-clause-accepts : goal.returns-in-Some-clause-accepts
returns-in-Some-clause-accepts g c =
    call_held g.R.Follower.follower c.call.result c.args.readers.now _ c.args.number c.in-Some.name c.args.callee.now.name (cc (c.index-readers-place.is)) c.in-Some.is c.call.ensures.not_held

pub returns-in-Some-clause-not_held : goal.returns-in-Some-clause-not_held
returns-in-Some-clause-not_held g c =
    call_not_held g.R.Follower.follower c.call.result c.args.readers.now _ c.args.number c.in-Some.name c.args.callee.now.name (cc (c.index-readers-place.is)) c.in-Some.is c.call.ensures.not_held

pub returns-in-Some-clause-err : goal.returns-in-Some-clause-err
returns-in-Some-clause-err g c = err_at g.R.Follower.follower c.call.result c.args.readers.now c.args.number _ c.call.new.self (cc (c.index-readers-place.is)) c.call.ensures.err

pub returns-in-Some-clause-spent : goal.returns-in-Some-clause-spent
returns-in-Some-clause-spent g c = λ is.
    call_spends g.R.Follower.follower c.call.result c.args.readers.now _ c.args.number c.args.node c.in-Some.name c.args.callee.now.name c.args.deed.now (cc (c.index-readers-place.is)) c.in-Some.is
    c.call.ensures.not_held is (c.call.ensures.spent is)
