use Rattle.std.proofs.Common.{[], ◌∷◌, rules}
use Rattle.atspi_script_lines.proofs.LeadLemmas.{not_end, rest_of}
use Rattle.atspi_script_lines.specs.Words.{number, role_name}
use Rattle.atspi_script_lines.proofs.FormLemmas.{no_role}
use Rattle.atspi_script_lines.proofs.edits.read_role.Goals as goal

pub returns-in_default : goal.returns-in_default
returns-in_default c = no_role c.args.bytes.now (λ n t s. c.in_default.ensures n s.0 s.1)

pub returns-in_default-next_role : goal.returns-in_default-next_role
returns-in_default-next_role c = no_role c.args.bytes.now (λ n t s.
    let r = rest_of (number c.in-Some.node) (number n) c.in-Some.behind.now c.args.bytes.now (role_name t ∷ []) tt c.in-Some.ensures s in
    c.in_default-next_role.ensures t r.0 r.1)

pub returns-then-not-is_empty : goal.returns-then-not-is_empty
returns-then-not-is_empty c = no_role c.args.bytes.now (λ n t s.
    let r = rest_of (number c.in-Some.node) (number n) c.in-Some.behind.now c.args.bytes.now (role_name t ∷ []) tt c.in-Some.ensures s in
    not_end (role_name c.in-Some-next_role.role) (role_name t) c.in-Some-next_role.rest.now c.in-Some.behind.now tt c.in-Some-next_role.ensures (search rules) r)
