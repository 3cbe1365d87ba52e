use Rattle.std.proofs.Common.{◌∙◌, ap, subst}
use Rattle.atspi_auth.specs.Talk.{Continues, Standing, after_hail, client_start}
use Rattle.atspi_auth.proofs.WholeLemmas.{after_hail-after, continues, told_new}
use Rattle.atspi_auth.proofs.client.Client.feed.Goals as goal

pub returns-clause-whole : goal.returns-clause-whole
returns-clause-whole c n =
    let new : Standing = after_hail c.self.inside.hailed c.feed.new.self in
    let P : Standing → Type 0 = λ s. Continues client_start s new c.args.piece.now in
    subst P c.self.view_is
    (continues client_start (after_hail c.self.inside.hailed c.self.inside.talk) new c.args.piece.now
    (ap (after_hail c.self.inside.hailed) (told_new c.feed.result c.self.inside.talk c.feed.new.self _ c.args.piece.now c.feed.ensures n)
    ∙ after_hail-after c.self.inside.hailed c.self.inside.talk c.args.piece.now))
