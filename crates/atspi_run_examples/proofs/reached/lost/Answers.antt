use Rattle.std.proofs.Common.{◌≡◌, true, false, ◌++◌, refl, sym, ap, ◌∙◌}
use Rattle.atspi_script_lines.specs.declared.line.Party.TheVariants.{Registry}
use Rattle.atspi_trace.specs.Causes.{exits}
use Rattle.atspi_trace.specs.Due.{is_lost}
use Rattle.atspi_trace.specs.Entry.{exited}
use Rattle.atspi_trace.specs.play.Playing.{Happened}
use Rattle.atspi_run_examples.specs.Small.{registry_stopped, two_ends}
use Rattle.atspi_run_examples.proofs.CauseByCause.{first, next_is, some}
use Rattle.atspi_run_examples.proofs.reached.lost.Goals as goal

pub returns-clause-behind : goal.returns-clause-behind
returns-clause-behind c = λ b. (record { at = first (exits 0) b; lost = refl; wrote = refl }, refl)

pub returns-clause-no_other : goal.returns-clause-no_other
returns-clause-no_other c = λ b entries w r. r.1 ∙ ap (λ (h : Happened). h.now.world) (next_is (exits 0) b r.0.at).1

pub returns-clause-not_before : goal.returns-clause-not_before
returns-clause-not_before c = λ b entries r.
    let same : two_ends b ≡ registry_stopped b = r.1 ∙ ap (λ (h : Happened). h.now.world) (next_is (exits 0) b r.0.at).1 in
    let clash : false ≡ true = ap is_lost same in
    absurd cc

pub returns-clause-told : goal.returns-clause-told
returns-clause-told c = λ b w r. some r.0.at.entries (exited Registry) (r.0.wrote ∙ ap (λ (h : Happened). r.0.at.entries ++ h.entries) (next_is (exits 0) b r.0.at).1)

pub returns-clause-reader : goal.returns-clause-reader
returns-clause-reader c = λ b entries w r.
    let clash : true ≡ false = sym r.0.lost ∙ ap (λ (h : Happened). is_lost h.now.world) (next_is (exits 1) b r.0.at).1 in
    absurd cc
