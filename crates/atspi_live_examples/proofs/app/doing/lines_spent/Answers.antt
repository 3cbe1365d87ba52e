use Rattle.std.proofs.Common.{◌≡◌, ◌≤◌, ℕ, List, [], ◌∷◌, ◌++◌, length, None, Some, refl, sym, ap, subst, ◌∙◌, arith}
use Rattle.std.specs.Prelude.{codes}
use Rattle.atspi_protocol.specs.exporting.Exporter.{begins}
use Rattle.atspi_protocol.specs.exporting.Starting.{starts}
use Rattle.atspi_protocol.specs.exporting.Taking.{app_takes}
use Rattle.atspi_live_app.specs.Standing.{Event, Makes, does, lines_in, takes}
use Rattle.atspi_live_examples.specs.app.Lines.{named}
use Rattle.atspi_live_examples.proofs.OfApp.Asked.{started}
use Rattle.atspi_live_examples.proofs.app.doing.lines_spent.Goals as goal

pub returns-clause-spent : goal.returns-clause-spent
returns-clause-spent c line left edit e asks within spent = record {
  history = does named ∷ takes e ∷ [];
  line = line;
  left = left;
  order = (refl, refl);
  all = refl;
  taken = refl;
  whole = app_takes (starts (begins (codes "T"))) e;
  makes = (Some (starts (begins (codes "T"))), started, (Some (app_takes (starts (begins (codes "T"))) e), refl, refl));
  numbered = within;
  edit = edit;
  asks = asks;
  spent = spent;
}

pub returns-clause-no_line : goal.returns-clause-no_line
returns-clause-no_line c marks took s = by (lines_in s.history) s.all
  where
    by : (done : List (List ℕ)) → done ++ s.line ∷ s.left ≡ [] → ⊥
    by [] all = cc
    by (line ∷ done) all = cc

pub returns-clause-no_order : goal.returns-clause-no_order
returns-clause-no_order c lines took s = s.order

pub returns-clause-not_left : goal.returns-clause-not_left
returns-clause-not_left c lines took s = by s.order
  where
    by : s.line ∷ s.left ≡ [] → ⊥
    by h = cc

pub returns-clause-other_took : goal.returns-clause-other_took
returns-clause-other_took c e lines s = by (sym s.order ∙ s.taken)
  where
    by : [] ≡ e ∷ [] → ⊥
    by h = cc

pub returns-clause-not_started : goal.returns-clause-not_started
returns-clause-not_started c lines took s = by (subst (λ (h : List Event). Makes None h (Some s.whole)) s.order s.makes)
  where
    by : Some s.whole ≡ None → ⊥
    by h = cc

pub returns-clause-no_edit : goal.returns-clause-no_edit
returns-clause-no_edit c line left lines took long s = by s.line (first s.order) s.asks.1.short
  where
    first : {x y : List ℕ} {xs ys : List (List ℕ)} → x ∷ xs ≡ y ∷ ys → x ≡ y
    first h = cc

    by : (other : List ℕ) → other ≡ line → length (codes "edit a0 " ++ other) ≤ 65536 → ⊥
    by other is short = omega (arith, ap (λ (l : List ℕ). length l) is, short, long)

pub returns-clause-within : goal.returns-clause-within
returns-clause-within c marks lines took s = s.numbered

pub returns-clause-passes : goal.returns-clause-passes
returns-clause-passes c marks lines took s = s.spent
