use Rattle.std.proofs.Common.{rules, ◌==◌, not, ◌∙◌}
use Rattle.std.proofs.lemmas.Fn.{filter_same}
use Rattle.atspi_live_host.proofs.MemoryLemmas.{without_filter}
use Rattle.atspi_live_host.proofs.memory.MemHostHost.close.Goals as goal

pub returns-clause-links : goal.returns-clause-links
returns-clause-links c =
    filter_same _ (λ l. not (l == c.args.link)) _ (λ x b f k. search rules) c.args.self.now.links.items c.retain.new.self.items c.retain.ensures.filtered
    ∙ without_filter c.args.self.now.links.items c.args.link
