-- What is kept along a lawful trace is kept along a run: it holds of its entries and its world.
use Rattle.std.proofs.Common.{◌≡◌, ℕ, List, [], ◌∷◌, ◌++◌, map, None, Some, refl, sym, ap, ◌∙◌, subst}
use Rattle.std.specs.Prelude.{Option}
use Rattle.std.proofs.lemmas.List.{append-nil}
use Rattle.atspi_script_lines.specs.declared.line.Party.TheVariants.{Reader}
use Rattle.atspi_trace.specs.Entry.{Entry, sent}
use Rattle.atspi_trace.specs.World.{World}
use Rattle.atspi_trace.specs.Causes.{does, at_end}
use Rattle.atspi_trace.specs.Work.{Work, work_of}
use Rattle.atspi_trace.specs.Due.{freed, asks_at}
use Rattle.atspi_headline.specs.Words.{Act, begins_line, writes, entries_in}
use Rattle.atspi_trace_laws.proofs.OfOrder.Along.{Keeps}
use Rattle.atspi_trace_laws.proofs.OfOrder.Growing.{Shaped, Nothing, shaped_keeps}
use Rattle.atspi_trace_laws.proofs.OfOrder.Shape.{Shape}
use Rattle.atspi_headline_laws.proofs.Ran.{Ran, nothing_yet, did, began, caused, rested, asked, moves_for, line_moves}
use Rattle.atspi_headline_laws.proofs.Making.{entries_more, entries_written, entries_of_both, no_entries, moves_are, line_moves_are}

module _ (Inv : List Entry → World → Option ℕ → Type 0) (k : Keeps Inv) where
  more : (run acts : List Act) (ys : List Entry) (w : World) (free : Option ℕ) → entries_in acts ≡ ys → Inv (entries_in run ++ ys) w free → Inv (entries_in (run ++ acts)) w free
  more run acts ys w free h i = subst (λ l. Inv l w free) (ap (λ l. entries_in run ++ l) (sym h) ∙ sym (entries_more run acts)) i

  pub kept_along : (run : List Act) (w : World) (free : Option ℕ) (work : Option Work) → Ran run w free work → Inv (entries_in run) w free
  kept_along _ _ _ _ nothing_yet = k.begins
  kept_along _ _ _ _ (did run w line c r ok can is a) =
      more run (begins_line line ∷ map writes (does w c).entries) (does w c).entries (does w c).world (freed c) (entries_written (does w c).entries)
      (k.caused (entries_in run) w c (kept_along run w None None r) a)
  kept_along _ _ _ _ (began run w line r ok can b) =
      more run (begins_line line ∷ line_moves w (work_of w line)) [] w None (no_entries (line_moves w (work_of w line)) (line_moves_are w (work_of w line)))
      (subst (λ l. Inv l w None) (sym (append-nil (entries_in run))) (kept_along run w None None r))
  kept_along _ _ _ _ (caused run w free work left c r is b a) =
      more run (moves_for w work c ++ map writes (does w c).entries) (does w c).entries (does w c).world (freed c)
      (entries_of_both (moves_for w work c) (does w c).entries (moves_are w work c))
      (k.caused (entries_in run) w c (k.passed (entries_in run) w free (kept_along run w free (Some work) r)) a)
  kept_along _ _ _ _ (rested run w v free work r is m well) = k.moved (entries_in run) w v (k.passed (entries_in run) w free (kept_along run w free (Some work) r)) m
  kept_along _ _ _ _ (asked run w conn q m question work r a) =
      more run (writes (sent (Reader q) m) ∷ []) (sent (Reader q) m ∷ []) (at_end w conn (asks_at m question)) None refl
      (k.asked (entries_in run) w conn q m question (kept_along run w (Some conn) work r) a)

pub shape_along : (run : List Act) (w : World) (free : Option ℕ) (work : Option Work) → Ran run w free work → Shape w
shape_along run w free work r = (kept_along (Shaped Nothing) shaped_keeps run w free work r).0
