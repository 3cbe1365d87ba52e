use Rattle.std.proofs.Common.{◌∷◌}
use Rattle.atspi_script_lines.proofs.LeadLemmas.{rest_of}
use Rattle.atspi_script_lines.specs.Words.{role_name, quote}
use Rattle.atspi_script_lines.specs.Forms.{clauses}
use Rattle.atspi_script_lines.proofs.ClauseLemmas.{contents_of, seed_contents}
use Rattle.atspi_script_lines.proofs.inserts.read_seed.Goals as goal

pub returns-in_default : goal.returns-in_default
returns-in_default c = λ t s. c.in_default.ensures t.role s.spelled.0 s.spelled.1

pub returns-in_default-2 : goal.returns-in_default-2
returns-in_default-2 c = λ t s.
    let r = rest_of (role_name c.in-Some.role) (role_name t.role) c.in-Some.behind.now c.args.bytes.now (quote t.name ∷ clauses t) tt c.in-Some.ensures s.spelled in
    (rw c.in_default-2.is at c.in_ok-name.ensures) t.name r.0 r.1

pub returns-in-None : goal.returns-in-None
returns-in-None c = λ t s.
    let r = rest_of (role_name c.in-Some.role) (role_name t.role) c.in-Some.behind.now c.args.bytes.now (quote t.name ∷ clauses t) tt c.in-Some.ensures s.spelled in
    let u = rest_of (quote c.in-Some-2.name) (quote t.name) c.in-Some-2.rest.now c.in-Some.behind.now (clauses t) tt (rw c.in-Some-2.is at c.in_ok-name.ensures) r in
    (rw c.in-None.is at c.in_ok-contents.ensures) (contents_of t) (seed_contents 0 c.in-Some-2.rest.now t s.few u)
