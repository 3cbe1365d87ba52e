use Rattle.std.proofs.Common.{false, ap, ◌∙◌}
use Rattle.atspi_auth.specs.Talk.{Standing, after_hail}
use Rattle.atspi_auth.proofs.HearingLemmas.{no_end-nil}
use Rattle.atspi_auth.proofs.LawLemmas.{client_stands}
use Rattle.atspi_auth.proofs.client.Client.new.Goals as goal

pub new-requires : goal.new-requires
new-requires c = no_end-nil

pub returns-clause-whole : goal.returns-clause-whole
returns-clause-whole c = ap (λ (s : Standing). after_hail false s) c.new.ensures ∙ client_stands
