use Rattle.std.proofs.Common.{rules, ◌==◌, not, ◌∙◌, ap}
use Rattle.std.proofs.lemmas.Fn.{filter_same}
use Rattle.atspi_live_sockets.specs.Numbers.{numbers}
use Rattle.atspi_live_sockets.proofs.LinkLemmas.{without_filter}
use Rattle.atspi_live_sockets.proofs.sockets.Sockets.close.Goals as goal

pub returns-clause-links : goal.returns-clause-links
returns-clause-links c =
    ap numbers (filter_same _ (λ o. not (o.number == c.args.link)) _ (λ x b f k. search rules) c.args.self.now.links.items c.retain.new.self.items c.retain.ensures.filtered)
    ∙ without_filter c.args.self.now.links.items c.args.link
