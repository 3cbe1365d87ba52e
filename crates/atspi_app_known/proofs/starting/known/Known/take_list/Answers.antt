use Rattle.std.proofs.Common.{List, Some, sym, ap, ◌∙◌}
use Rattle.std.proofs.lemmas.Result.{on_ok_weaker}
use Rattle.atspi_protocol.specs.exporting.Starting.{listened}
use Rattle.atspi_protocol.specs.exporting.Taking.{is_spent}
use Rattle.atspi_app_known.specs.declared.hearing.pair_ref.PairRef.{PairRef}
use Rattle.atspi_app_known.specs.hearing.Lent.{lent_pairs, all_lent}
use Rattle.atspi_app_known.specs.starting.KnownView.{known_in}
use Rattle.atspi_app_known.proofs.starting.known.Known.take_list.Goals as goal

pub returns-in-Some-clause-ok : goal.returns-in-Some-clause-ok
returns-in-Some-clause-ok c = on_ok_weaker c.take_pairs.result (λ e s.
    e s ∙ ap (λ (l : List PairRef). listened (known_in c.args.self.now s) (Some (lent_pairs l))) c.deref.ensures.value
    ∙ ap (listened (known_in c.args.self.now s)) (sym (ap all_lent c.in-Some.is) ∙ c.in_ok-pairs.ensures)) c.take_pairs.ensures.ok

pub returns-in-Some-clause-spent : goal.returns-in-Some-clause-spent
returns-in-Some-clause-spent c = λ h s.
    sym (ap (λ (l : List PairRef). is_spent (listened (known_in c.args.self.now s) (Some (lent_pairs l)))) c.deref.ensures.value
    ∙ ap (λ o. is_spent (listened (known_in c.args.self.now s) o)) (sym (ap all_lent c.in-Some.is) ∙ c.in_ok-pairs.ensures)) ∙ c.take_pairs.ensures.spent h s

pub returns-in-None-clause-ok : goal.returns-in-None-clause-ok
returns-in-None-clause-ok c = λ s. c.end_start.ensures s ∙ ap (listened (known_in c.args.self.now s)) (sym (ap all_lent c.in-None.is) ∙ c.in_ok-pairs.ensures)
