use Rattle.std.proofs.Common.{◌∷◌, rules, refl, ap}
use Rattle.atspi_script_lines.specs.Words.{Leads, literal}
use Rattle.atspi_script_lines.specs.Line.{IsBlank}
use Rattle.atspi_script_lines.proofs.FormLemmas.{line_read}
use Rattle.atspi_script_lines.proofs.read.read_form.Goals as goal

pub returns : goal.returns
returns c =
    let bytes = c.args.bytes.now in
    let word = c.split_word.result.0.now in
    let rest = c.split_word.result.1.now in
    let lead : Leads (literal word) rest (32 ∷ bytes) = record {
      spelling = word;
      spelled = refl;
      front = ap (λ l. 32 ∷ l) c.split_word.ensures.all;
      behind = c.split_word.ensures.behind;
    } in
    let blank : IsBlank bytes → ⊥ = λ b. let yes = c.if-is_blank.ensures.1 b in search (rules, yes) in
    line_read word rest bytes c.read_line_of.result blank c.split_word.ensures.free lead c.read_line_of.ensures
