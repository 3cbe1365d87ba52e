use Rattle.std.proofs.Common.{[], ◌∷◌, refl}
use Rattle.atspi_script_lines.proofs.LeadLemmas.{behind_all}
use Rattle.atspi_script_lines.specs.Words.{number, role_name, quote}
use Rattle.atspi_script_lines.specs.Forms.{clauses}
use Rattle.atspi_script_lines.proofs.FormLemmas.{no_insert}
use Rattle.atspi_script_lines.proofs.inserts.read_insert.Goals as goal

pub returns-in_default : goal.returns-in_default
returns-in_default c = no_insert c.args.bytes.now (λ p i seed k s. c.in_default.ensures p i s.2.0 (s.0, s.1, (s.2.0, s.2.1, refl)))

pub returns-in-None : goal.returns-in-None
returns-in-None c = no_insert c.args.bytes.now (λ p i seed k s.
    (rw c.in-None.is at c.in_ok-seed.ensures) seed (record {
      few = k.0;
      with_text = k.1;
      spelled = behind_all (number c.in-Some.parent ∷ number c.in-Some.index ∷ []) (number p ∷ number i ∷ []) c.in-Some.rest.now c.args.bytes.now (role_name seed.role ∷ quote seed.name ∷ clauses seed) (tt, (tt, tt)) c.in-Some.ensures s;
    }))
