-- The last message that was sent before a place of a trace.
use Rattle.std.proofs.Common.{◌≡◌, ℕ, zero, suc, ◌-◌, ◌<◌, ◌≤◌, List, [], ◌∷◌, length, get_or, None, Some, sym, ap, ◌∙◌, arith}
use Rattle.std.specs.Prelude.{slice_get}
use Rattle.atspi_tree_model.specs.Forest.{first_of}
use Rattle.atspi_script_lines.specs.declared.line.Party.{Party}
use Rattle.atspi_message.specs.declared.message.Message.{Message}
use Rattle.atspi_trace_events.specs.declared.event.Event.{Event}
use Rattle.atspi_world_parties.specs.Wires.{sent_here, sent_if, sent_before}

get_there : (xs : List Event) (i : ℕ) (x : Event) → i < length xs → x ≡ get_or xs i x → slice_get xs i ≡ Some x
get_there [] i x l h = absurd (omega (arith, l))
get_there (y ∷ ys) zero x l h = ap Some (sym h)
get_there (y ∷ ys) (suc i) x l h = get_there ys i x (omega (arith, l)) h

back : (who : Party) (serial : ℕ) (trace : List Event) (place : ℕ) (x : Event) → 0 < place → place ≤ length trace → x ≡ get_or trace (place - 1) x
    → sent_before who serial trace place ≡ first_of (sent_here who serial x) (sent_before who serial trace (place - 1))
back who serial trace zero x p w is = absurd (omega (arith, p))
back who serial trace (suc n) x p w is =
    let m : suc n - 1 ≡ n = omega arith in
    let there : slice_get trace n ≡ Some x = get_there trace n x (omega (arith, w)) (is ∙ ap (λ k. get_or trace k x) m) in
    ap (λ o. first_of (sent_if who serial o) (sent_before who serial trace n)) there ∙ ap (λ k. first_of (sent_here who serial x) (sent_before who serial trace k)) (sym m)

-- it is here
pub found_here : (who : Party) (serial : ℕ) (trace : List Event) (place : ℕ) (x : Event) (m : Message) → 0 < place → place ≤ length trace → x ≡ get_or trace (place - 1) x → Some m ≡ sent_here who serial x
    → Some m ≡ sent_before who serial trace place
found_here who serial trace place x m p w is h = sym (back who serial trace place x p w is ∙ ap (λ o. first_of o (sent_before who serial trace (place - 1))) (sym h))

-- it is further back
pub found_back : (who : Party) (serial : ℕ) (trace : List Event) (place : ℕ) (x : Event) → 0 < place → place ≤ length trace → x ≡ get_or trace (place - 1) x → None ≡ sent_here who serial x
    → sent_before who serial trace place ≡ sent_before who serial trace (place - 1)
found_back who serial trace place x p w is h = back who serial trace place x p w is ∙ ap (λ o. first_of o (sent_before who serial trace (place - 1))) (sym h)
