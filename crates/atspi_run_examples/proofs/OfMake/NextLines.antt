-- Which line of `make`'s script can stand behind which.
use Rattle.std.proofs.Common.{◌≡◌, ◌⊎◌, ◌<◌, ℕ, suc, inl, inr, arith, List, [], ◌∷◌, ◌++◌, refl, sym, ap, ◌∙◌}
use Rattle.std.specs.Prelude.{◌%◌, codes}
use Rattle.atspi_tree_model.specs.declared.edit.Edit.{Edit}
use Rattle.atspi_script_lines.specs.declared.line.Line.{Line}
use Rattle.atspi_script_lines.specs.declared.line.Line.TheVariants.{Blank, App, Reader, Drain, Turns, Edit as Edit_line}
use Rattle.atspi_trace.specs.Entry.{Entry}
use Rattle.atspi_run_replay.specs.Made.{AreDrawn, StandsBehind, in_opening, last_drain, next_edit, next_turns, none_drawn, one_drawn, opening}

abbrev head : List Line → Line
head [] = Blank
head (line ∷ lines) = line

abbrev tail : List Line → List Line
tail [] = []
tail (line ∷ lines) = lines

not_empty : (lines : List Line) (line : Line) (rest : List Line) → lines ++ line ∷ rest ≡ [] → ⊥
not_empty [] line rest e = cc
not_empty (other ∷ lines) line rest e = cc

-- the line that stands in the opening behind these
pub data IsThere (lines : List Line) (line : Line) : Type 0 where
  the_app : lines ≡ [] → line ≡ App (codes "Made") → IsThere lines line
  the_reader : lines ≡ App (codes "Made") ∷ [] → line ≡ Reader → IsThere lines line
  the_drain : lines ≡ App (codes "Made") ∷ Reader ∷ [] → line ≡ Drain → IsThere lines line

there : (lines rest : List Line) (line : Line) → opening ≡ lines ++ line ∷ rest → IsThere lines line
there [] rest line e = the_app refl (sym (ap head e))
there (a ∷ []) rest line e = the_reader (ap (λ x. x ∷ []) (sym (ap head e))) (sym (ap (λ l. head (tail l)) e))
there (a ∷ b ∷ []) rest line e =
    let first : App (codes "Made") ≡ a = ap head e in
    let second : Reader ≡ b = ap (λ l. head (tail l)) e in
    the_drain (ap (λ x. x ∷ b ∷ []) (sym first) ∙ ap (λ x. App (codes "Made") ∷ x ∷ []) (sym second)) (sym (ap (λ l. head (tail (tail l))) e))
there (a ∷ b ∷ c ∷ more) rest line e = absurd (not_empty more line rest (sym (ap (λ l. tail (tail (tail l))) e)))

some_drawn : (seed k : ℕ) (lines : List Line) (trace : List Entry) (x : ℕ) → AreDrawn seed k lines trace x → lines ≡ [] → ⊥
some_drawn seed _ _ _ _ (none_drawn trace law) e = cc
some_drawn seed _ _ _ _ (one_drawn k x lines trace more drawn law) e = not_empty lines _ _ e

-- behind nothing stands the application
pub app_first : (seed count : ℕ) (lines : List Line) (line : Line) (trace : List Entry) → StandsBehind seed count lines line trace → lines ≡ [] → line ≡ App (codes "Made")
app_first seed count _ _ _ (in_opening lines rest line trace is law) e = by (there lines rest line is) e
  where
    by : IsThere lines line → lines ≡ [] → line ≡ App (codes "Made")
    by (the_app none line_is) e = line_is
    by (the_reader one line_is) e = absurd cc
    by (the_drain two line_is) e = absurd cc
app_first seed count _ _ _ (next_edit k x lines trace drawn within) e = absurd (some_drawn seed k lines trace x drawn e)
app_first seed count _ _ _ (next_turns k x lines trace more drawn within sixteenth law) e = absurd (not_empty lines _ _ e)
app_first seed count _ _ _ (last_drain x lines trace drawn) e = absurd (some_drawn seed count lines trace x drawn e)

-- where no edit is asked for there is none
pub no_edit : (seed : ℕ) (lines : List Line) (line : Line) (trace : List Entry) → StandsBehind seed 0 lines line trace → (app : ℕ) (edit : Edit) → line ≡ Edit_line app edit → ⊥
no_edit seed _ _ _ (in_opening lines rest line trace is law) app edit e = by (there lines rest line is)
  where
    by : IsThere lines line → ⊥
    by (the_app none line_is) = cc
    by (the_reader one line_is) = cc
    by (the_drain two line_is) = cc
no_edit seed _ _ _ (next_edit k x lines trace drawn within) app edit e = omega (arith, within)
no_edit seed _ _ _ (next_turns k x lines trace more drawn within sixteenth law) app edit e = cc
no_edit seed _ _ _ (last_drain x lines trace drawn) app edit e = cc

-- turns are 64, and stand behind a sixteenth edit alone
pub turns_are : (seed count : ℕ) (lines : List Line) (line : Line) (trace : List Entry) → StandsBehind seed count lines line trace → (n : ℕ) → line ≡ Turns n → (n ≡ 64) × ((k : ℕ) × (k < count) × (suc k % 16 ≡ 0))
turns_are seed count _ _ _ (in_opening lines rest line trace is law) n e = absurd (by (there lines rest line is))
  where
    by : IsThere lines line → ⊥
    by (the_app none line_is) = cc
    by (the_reader one line_is) = cc
    by (the_drain two line_is) = cc
turns_are seed count _ _ _ (next_edit k x lines trace drawn within) n e = absurd cc
turns_are seed count _ _ _ (next_turns k x lines trace more drawn within sixteenth law) n e = (so n e, (k, within, sixteenth))
  where
    so : (n : ℕ) → Turns 64 ≡ Turns n → n ≡ 64
    so n e = cc
turns_are seed count _ _ _ (last_drain x lines trace drawn) n e = absurd cc

-- a drain is the opening's, or stands behind all edits
pub drain_is : (seed count : ℕ) (lines : List Line) (line : Line) (trace : List Entry) → StandsBehind seed count lines line trace → line ≡ Drain
    → (lines ≡ App (codes "Made") ∷ Reader ∷ []) ⊎ ((x : ℕ) × AreDrawn seed count lines trace x)
drain_is seed count _ _ _ (in_opening lines rest line trace is law) e = by (there lines rest line is)
  where
    by : IsThere lines line → (lines ≡ App (codes "Made") ∷ Reader ∷ []) ⊎ ((x : ℕ) × AreDrawn seed count lines trace x)
    by (the_app none line_is) = absurd cc
    by (the_reader one line_is) = absurd cc
    by (the_drain two line_is) = inl two
drain_is seed count _ _ _ (next_edit k x lines trace drawn within) e = absurd cc
drain_is seed count _ _ _ (next_turns k x lines trace more drawn within sixteenth law) e = absurd cc
drain_is seed count _ _ _ (last_drain x lines trace drawn) e = inr (x, drawn)
