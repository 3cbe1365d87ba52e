use Rattle.std.proofs.Common.{◌≡◌, List, [], ◌∷◌, ◌++◌, None, refl, sym}
use lib.Utf8.{encode}
use Rattle.atspi_tree_model.specs.Path.{path_of}
use Rattle.atspi_script_lines.specs.declared.line.Party.TheVariants.{App, Reader}
use Rattle.atspi_trace.specs.Entry.{Entry, got, gone}
use Rattle.atspi_trace_laws.specs.laws.Words.{held}
use Rattle.atspi_trace_examples.specs.caches.Cases.{loaded}
use Rattle.atspi_trace_laws.proofs.OfOrder.Parties.{no_none}
use Rattle.atspi_trace_laws.proofs.OfOrder.Each.{no_entries}
use Rattle.atspi_trace_examples.proofs.exits.what_may_be_held.Goals as goal

at_first : (front rest : List Entry) → [] ≡ front ++ rest → held (loaded ++ gone 0 0 ∷ front) 0 0 ≡ None
unfolding encode path_of
at_first [] rest is = refl
at_first (x ∷ front) rest is = absurd (no_entries [] x (front ++ rest) is)

pub returns-clause-at_once : goal.returns-clause-at_once
returns-clause-at_once c = at_first

pub returns-clause-another_entry : goal.returns-clause-another_entry
returns-clause-another_entry c = tt

pub returns-clause-held_again : goal.returns-clause-held_again
unfolding encode path_of
returns-clause-held_again c h = no_none (record { last = 5; told = [] }) (sym (h (got (Reader 0) (App 0) 5 ∷ []) [] refl))
