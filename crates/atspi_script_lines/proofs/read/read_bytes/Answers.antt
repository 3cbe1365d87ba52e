use Rattle.std.proofs.Common.{[], ◌∷◌}
use Rattle.atspi_script_lines.proofs.LeadLemmas.{rest_of}
use Rattle.atspi_script_lines.specs.Words.{literal, number, party_name}
use Rattle.atspi_script_lines.specs.Forms.{way_word}
use Rattle.atspi_script_lines.proofs.FormLemmas.{no_bytes_line}
use Rattle.atspi_script_lines.proofs.LeadLemmas.{way_free}
use Rattle.atspi_script_lines.proofs.read.read_bytes.Goals as goal

pub returns-in_default : goal.returns-in_default
returns-in_default c = no_bytes_line c.args.bytes.now (λ who up n s. c.in_default.ensures who s.0 s.1)

pub returns-in_default-next_way : goal.returns-in_default-next_way
returns-in_default-next_way c = no_bytes_line c.args.bytes.now (λ who up n s.
    let r = rest_of (party_name c.in-Some.party) (party_name who) c.in-Some.behind.now c.args.bytes.now (literal (way_word up) ∷ number n ∷ []) tt c.in-Some.ensures s in
    c.in_default-next_way.ensures up r.0 r.1)

pub returns-in-None : goal.returns-in-None
returns-in-None c = no_bytes_line c.args.bytes.now (λ who up n s.
    let r = rest_of (party_name c.in-Some.party) (party_name who) c.in-Some.behind.now c.args.bytes.now (literal (way_word up) ∷ number n ∷ []) tt c.in-Some.ensures s in
    c.in-None.ensures n (rest_of (literal (way_word c.in-Some-next_way.up)) (literal (way_word up)) c.in-Some-next_way.rest.now c.in-Some.behind.now (number n ∷ []) (way_free c.in-Some-next_way.up, way_free up) c.in-Some-next_way.ensures r))
