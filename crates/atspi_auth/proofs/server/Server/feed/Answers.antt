use Rattle.std.proofs.Common.{subst}
use Rattle.atspi_auth.specs.Talk.{Continues, Standing, server_start}
use Rattle.atspi_auth.proofs.WholeLemmas.{continues, told_new}
use Rattle.atspi_auth.proofs.server.Server.feed.Goals as goal

pub returns-clause-whole : goal.returns-clause-whole
returns-clause-whole c n =
    let P : Standing → Type 0 = λ s. Continues server_start s c.feed.new.self c.args.piece.now in
    subst P c.self.view_is
    (continues server_start c.self.inside.talk c.feed.new.self c.args.piece.now (told_new c.feed.result c.self.inside.talk c.feed.new.self _ c.args.piece.now c.feed.ensures n))
