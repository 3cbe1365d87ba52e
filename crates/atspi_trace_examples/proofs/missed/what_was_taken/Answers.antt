use Rattle.std.proofs.Common.{[], ◌∷◌, refl, sym, ap, subst}
use Rattle.std.specs.Prelude.{codes, drop}
use Rattle.std.specs.List.{AllByRecursion}
use Rattle.atspi_tree_model.specs.declared.step.Step.TheVariants.{SetName}
use Rattle.atspi_tree_model.specs.Path.{path_of}
use Rattle.atspi_script_lines.specs.declared.line.Party.TheVariants.{App, Reader}
use Rattle.atspi_protocol.specs.following.Cases.{returned, item, items}
use Rattle.atspi_trace.specs.Entry.{changed, got}
use Rattle.atspi_trace_laws.specs.laws.Words.{Kept}
use Rattle.atspi_trace_examples.specs.caches.Cases.{its_name, renamed, described}
use Rattle.atspi_trace_laws.specs.missed.Laws.{IsNoSignal, NoSignalBetween}
use Rattle.atspi_trace_laws.proofs.OfOrder.Parties.{no_none, same_some}
use Rattle.atspi_trace_examples.proofs.missed.what_was_taken.Goals as goal

-- what is held behind the return
abbrev it_holds : Kept
it_holds = record { last = 5; told = [] }

taken_next : NoSignalBetween renamed 0 5 6
taken_next = record {
  first = record (returned 4 its_name (items (item (path_of 0) (codes "/x") (codes "Demo") ∷ []))) { serial = 5 };
  has_serial = refl;
  between = got (Reader 0) (App 0) 5 ∷ changed 0 (SetName 0 (codes "Desk")) ∷ [];
  stands = refl;
  no_signal = (tt, (tt, tt));
}

pub returns-clause-next : goal.returns-clause-next
returns-clause-next c no_load k is = subst (λ (j : Kept). NoSignalBetween renamed 0 j.last 6) (same_some it_holds k is) taken_next

missed_one : NoSignalBetween described 0 5 7 → ⊥
missed_one n = (subst (AllByRecursion (IsNoSignal 0)) (ap (drop 3) (sym n.stands)) n.no_signal).1.1.0 refl refl

pub returns-clause-one_between : goal.returns-clause-one_between
returns-clause-one_between c h = missed_one (h (λ l. l) it_holds refl)

pub returns-clause-a_load : goal.returns-clause-a_load
returns-clause-a_load c no_load k is = absurd (no_load tt)

pub returns-clause-not_held : goal.returns-clause-not_held
returns-clause-not_held c no_load k is = absurd (no_none k is)

pub returns-clause-other_entry : goal.returns-clause-other_entry
returns-clause-other_entry c = tt
