use Rattle.std.proofs.Common.{ap}
use Rattle.atspi_trace.specs.World.{here, stopped, away}
use Rattle.atspi_trace.specs.Work.{if_here, no_more}
use Rattle.atspi_world_parties.specs.Refusals.{standing_of}
use Rattle.atspi_world_parties.proofs.Seats.{not-started, stands-so}
use Rattle.atspi_world_parties.proofs.refusing.unless_here.Goals as goal

pub returns-in-Here : goal.returns-in-Here
returns-in-Here c = λ ends seats. stands-so c.args.who ends c.args.posts.now c.in-Some.post.now here seats c.in-Some.ensures (ap standing_of c.in-Here.is)

pub returns-in-Stopped : goal.returns-in-Stopped
returns-in-Stopped c = λ ends seats. stands-so c.args.who ends c.args.posts.now c.in-Some.post.now stopped seats c.in-Some.ensures (ap standing_of c.in-Stopped.is)

pub returns-in-Away : goal.returns-in-Away
returns-in-Away c = λ ends seats. stands-so c.args.who ends c.args.posts.now c.in-Some.post.now away seats c.in-Some.ensures (ap standing_of c.in-Away.is)

pub returns-in-None : goal.returns-in-None
returns-in-None c = λ ends seats. not-started c.args.who ends c.args.posts.now (λ e. if_here e no_more) seats c.in-None.ensures
