-- What came of the script: the numbers are those of its lawful trace.
use Rattle.std.proofs.Common.{◌≡◌, ℕ, List, ◌++◌, ap, ◌∙◌, refl, subst}
use Rattle.std.specs.Prelude.{count_by, slice_get, ◌∷◌, []}
use Rattle.std.specs.List.{AllByRecursion}
use Rattle.atspi_script_lines.specs.declared.line.Line.TheVariants.{Drain}
use Rattle.atspi_script_lines.specs.declared.line.Party.TheVariants.{App}
use Rattle.atspi_trace.specs.Entry.{Entry, entry_of, entries_of}
use Rattle.atspi_trace.specs.Due.{Lawful}
use Rattle.atspi_trace_laws.specs.laws.NineLaws.{rows_due}
use Rattle.atspi_trace_laws.specs.laws.Words.{held}
use Rattle.atspi_trace_played.specs.Turns.{IsUnspent}
use Rattle.atspi_world_parties.specs.Places.{post_of}
use Rattle.atspi_world_parties.specs.Shown.{row_total, shown_by}
use Rattle.atspi_world_parties.specs.Wires.{name_if}
use Rattle.atspi_world.specs.Worlds.{Staged}
use Rattle.atspi_run_replay.specs.Done.{HasRegistry}
use Rattle.atspi_run_replay.specs.Made.{AreOfScript, is_spoken, is_step}
use Rattle.atspi_run_replay.specs.inner.Made.{HasMade}
use Rattle.atspi_run_replay.proofs.Counts.{counts_both}
use Rattle.atspi_run_replay.proofs.Refusing.{lawful, there}
use Rattle.atspi_run_replay.proofs.TheFirst.{rows_are}

pub came : (seed count : ℕ) (s : Staged) → HasMade seed count s → (steps nodes says : ℕ) → steps ≡ count_by (λ event. is_step (entry_of event)) s.trace
    → nodes ≡ row_total (shown_by (slice_get s.readers 0) (name_if (post_of (App 0) s.posts))) → says ≡ count_by (λ event. is_spoken (entry_of event)) s.trace → AllByRecursion IsUnspent (entries_of s.trace)
    → AreOfScript count seed steps nodes says
came seed count s h steps nodes says steps_are nodes_are says_are fits = record {
  lines = h.lines;
  early = h.early;
  more = h.more;
  state = h.state;
  drawn = h.drawn;
  lawful = subst (Lawful (h.lines ++ Drain ∷ [])) h.so (lawful (h.lines ++ Drain ∷ []) (entries_of s.trace) h.played.now h.played.can h.played.played);
  there = subst (HasRegistry (h.lines ++ Drain ∷ [])) h.so (there (h.lines ++ Drain ∷ []) (entries_of s.trace) h.played.now h.played.can h.played.played);
  unspent = subst (AllByRecursion IsUnspent) h.so fits;
  steps_are = steps_are ∙ counts_both is_step s.trace ∙ ap (count_by is_step) h.so;
  nodes_are = nodes_are ∙ rows_are (h.lines ++ Drain ∷ []) s h.played (slice_get s.readers 0) refl ∙ ap (λ (es : List Entry). row_total (rows_due es 0 (held es 0 0))) h.so;
  says_are = says_are ∙ counts_both is_spoken s.trace ∙ ap (count_by is_spoken) h.so;
}
