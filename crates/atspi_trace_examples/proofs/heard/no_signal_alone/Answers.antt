use lib.Utf8.{encode}
use Rattle.std.proofs.Common.{[], ◌∷◌, refl}
use Rattle.atspi_tree_model.specs.declared.step.Step.TheVariants.{Caret}
use Rattle.atspi_trace.specs.Entry.{heard, changed}
use Rattle.atspi_trace_laws.proofs.OfOrder.Each.{no_entries}
use Rattle.atspi_trace_examples.proofs.heard.no_signal_alone.Goals as goal

pub returns-clause-behind : goal.returns-clause-behind
unfolding encode
returns-clause-behind c k = record { name = []; early = heard 0 [] [] ∷ []; step = Caret 1 2; front = []; back = []; stands = refl; listed = refl }

pub returns-clause-alone : goal.returns-clause-alone
returns-clause-alone c h = let i = h refl in no_entries i.early (changed 0 i.step) i.front i.stands

pub returns-clause-other_entry : goal.returns-clause-other_entry
returns-clause-other_entry c = tt
