use Rattle.std.proofs.Common.{◌≡◌, [], ◌∷◌, ◌++◌, Err, Some, refl, sym, ap, ◌∙◌, subst}
use Rattle.atspi_message.specs.Bytes.{written}
use Rattle.atspi_stream.specs.Stream.{AwaitsMore}
use Rattle.atspi_world_parties.specs.Spending.{HasSpentAll}
use Rattle.atspi_world_parties.specs.Taken.{got_by, ends_after, ends_of}
use Rattle.atspi_world_parties.proofs.Faults.{err_is}
use Rattle.atspi_world_parties.proofs.Wholes.{no_message}
use Rattle.atspi_world_parties.proofs.taking.hand_front.Goals as goal

pub returns-in-None-clause-hands : goal.returns-in-None-clause-hands
returns-in-None-clause-hands g c = λ m rest is front. absurd (c.in-None.ensures.given m (written m) rest is (c.as_slice.ensures ∙ front))

pub returns-in-None-clause-nothing : goal.returns-in-None-clause-nothing
returns-in-None-clause-nothing g c = λ more. (refl, (refl, refl))

pub returns-in-Ok-clause-hands : goal.returns-in-Ok-clause-hands
returns-in-Ok-clause-hands g c = λ m rest is front.
    let given = c.in-Some.ensures.given m (written m) rest is (c.as_slice.ensures ∙ front) in
    record {
      long = ap Some given.1;
      told = subst (λ e. c.hand.new.trace.items ≡ c.args.trace.now.items ++ got_by c.args.taker c.args.posts.now e ∷ []) given.0 c.in-Ok.ensures.told;
      taken = subst (λ e. ends_of g.A.Application.exporter g.R.Follower.follower c.hand.new.cast.registry c.hand.new.cast.apps.items c.hand.new.cast.readers.items
          ≡ ends_after c.args.taker e (ends_of g.A.Application.exporter g.R.Follower.follower c.args.cast.now.registry c.args.cast.now.apps.items c.args.cast.now.readers.items)) given.0 c.in-Ok.ensures.took;
    }

pub returns-in-Ok-clause-nothing : goal.returns-in-Ok-clause-nothing
returns-in-Ok-clause-nothing g c = λ more. absurd (no_message _ c.as_slice.result.now _ c.in-Some.ensures.message (subst AwaitsMore (sym c.as_slice.ensures) more))

pub returns-in-Err-clause-spent : goal.returns-in-Err-clause-spent
returns-in-Err-clause-spent g c = λ is.
    let spent = c.in-Err.ensures.spent (ap Err (err_is c.in-Err.fault _ is)) in
    record {
      whole = λ m rest spelled front.
          let given = c.in-Some.ensures.given m (written m) rest spelled (c.as_slice.ensures ∙ front) in
          record {
            told = subst (λ e. c.hand.new.trace.items ≡ c.args.trace.now.items ++ got_by c.args.taker c.args.posts.now e ∷ []) given.0 spent.0;
            spent = subst (λ e. HasSpentAll c.args.taker (ends_after c.args.taker e (ends_of g.A.Application.exporter g.R.Follower.follower c.args.cast.now.registry c.args.cast.now.apps.items c.args.cast.now.readers.items))) given.0 spent.1;
          };
      part = λ more. no_message _ c.as_slice.result.now _ c.in-Some.ensures.message (subst AwaitsMore (sym c.as_slice.ensures) more);
    }
