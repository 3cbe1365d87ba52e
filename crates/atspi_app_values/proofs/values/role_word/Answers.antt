use Rattle.std.proofs.Common.{◌≡◌, ◌<◌, ◌^◌, ℕ, List, true, length, subst, sym}
use Rattle.atspi_protocol_messages.specs.Plain.{are_plain}
use Rattle.atspi_app_values.proofs.RoleNames.{role_is_word}
use Rattle.atspi_app_values.proofs.values.role_word.Goals as goal

pub returns-clause-plain : goal.returns-clause-plain
returns-clause-plain c = subst (λ (w : List ℕ). are_plain w ≡ true) (sym c.role_name.ensures) (role_is_word c.args.role).0

pub returns-clause-short : goal.returns-clause-short
returns-clause-short c = subst (λ (w : List ℕ). length w < 2 ^ 32) (sym c.role_name.ensures) (role_is_word c.args.role).1
