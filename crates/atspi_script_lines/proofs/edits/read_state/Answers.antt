use Rattle.std.proofs.Common.{[], ◌∷◌, refl}
use Rattle.atspi_script_lines.proofs.LeadLemmas.{rest_of}
use Rattle.atspi_script_lines.specs.Words.{literal, number, state_name}
use Rattle.atspi_script_lines.specs.Forms.{switch_word}
use Rattle.atspi_script_lines.proofs.FormLemmas.{no_state}
use Rattle.atspi_script_lines.proofs.NumberLemmas.{state_below}
use Rattle.atspi_script_lines.proofs.edits.read_state.Goals as goal

pub returns-in_default : goal.returns-in_default
returns-in_default c = no_state c.args.bytes.now (λ n t on s. c.in_default.ensures n s.0 s.1)

pub returns-in_default-next_state : goal.returns-in_default-next_state
returns-in_default-next_state c = no_state c.args.bytes.now (λ n t on s.
    let r = rest_of (number c.in-Some.node) (number n) c.in-Some.behind.now c.args.bytes.now (state_name t ∷ literal (switch_word on) ∷ []) tt c.in-Some.ensures s in
    c.in_default-next_state.ensures t r.0 r.1)

pub returns-in-Some-read_switch : goal.returns-in-Some-read_switch
returns-in-Some-read_switch c = record {
  asked = state_below c.in-Some-next_state.state c.in-Some-next_state.ensures.spelling c.in-Some-next_state.ensures.spelled;
  first = refl;
  others = (c.in-Some.behind.now, c.in-Some.ensures, (c.in-Some-next_state.rest.now, c.in-Some-next_state.ensures, c.in-Some-read_switch.ensures));
}

pub returns-in-None : goal.returns-in-None
returns-in-None c = no_state c.args.bytes.now (λ n t on s.
    let r = rest_of (number c.in-Some.node) (number n) c.in-Some.behind.now c.args.bytes.now (state_name t ∷ literal (switch_word on) ∷ []) tt c.in-Some.ensures s in
    c.in-None.ensures on (rest_of (state_name c.in-Some-next_state.state) (state_name t) c.in-Some-next_state.rest.now c.in-Some.behind.now (literal (switch_word on) ∷ []) tt c.in-Some-next_state.ensures r))
