use Rattle.std.proofs.Common.{refl, sym, arith}
use Rattle.atspi_world_parties.proofs.Queued.{written_back}
use Rattle.atspi_world.proofs.Tellings.{got_so, takes_as, tells_as_posts}
use Rattle.atspi_world.proofs.stage.Stage.get.Goals as goal

pub returns-clause-got : goal.returns-clause-got
returns-clause-got g c =
    got_so c.args.conn _ _ c.in_ok-took.took c.index.result.now c.index_mut.result.now c.take_front.new.at_end _ c.take_front.new.trace.items (takes_as _ _ _ _ _ _ _ _ _ _ c.deref.ensures.value c.in_ok-took.ensures.takes)
    c.in_ok-took.ensures.nothing (tells_as_posts _ _ _ _ _ _ _ _ _ _ c.deref_mut.ensures.value (sym (written_back _ c.tell.new.posts _ (omega arith))) c.in_ok-tell.ensures.tells) c.index.ensures c.index_mut.ensures.value
    refl refl refl refl
