use Rattle.std.proofs.Common.{◌∙◌}
use Rattle.atspi_app_items.proofs.Few.{registry_chars}
use Rattle.atspi_app_items.proofs.nodes.registry_root.Goals as goal

pub returns : goal.returns
returns c = λ i. record { bus = (c.in_ok-of.ensures ∙ registry_chars) i; path = c.in_ok-path.ensures i }
