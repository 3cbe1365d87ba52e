use Rattle.std.proofs.Common.{◌≡◌, ℕ, List, [], ◌∷◌, ◌++◌, None, Some, refl, sym, ap, ◌∙◌, inl, inr, arith}
use Rattle.std.specs.Prelude.{codes}
use Rattle.std.specs.Fmt.{digits}
use Rattle.atspi_protocol.specs.exporting.Exporter.{begins}
use Rattle.atspi_protocol.specs.exporting.Starting.{starts}
use Rattle.atspi_live_app.specs.Asking.{IsAsk}
use Rattle.atspi_live_app.specs.Standing.{Event, RefusedBy, does, lines_in, taken_in, takes}
use Rattle.atspi_tree_model.specs.declared.edit.EditFault.TheVariants.{NoNode, TextFull}
use Rattle.atspi_live_app.specs.declared.asking.Ask.{Ask}
use Rattle.atspi_live_app.specs.declared.asking.Ask.TheVariants as asks
use Rattle.atspi_live_examples.specs.app.Lines.{named}
use Rattle.atspi_live_examples.proofs.OfApp.Asked.{empty, start, started}
use Rattle.atspi_live_examples.proofs.app.doing.lines_refused.Goals as goal

waits : IsAsk (asks.Wait 2) (codes "wait 2")
unfolding digits
waits = (omega arith, refl)

pub returns-clause-long : goal.returns-clause-long
returns-clause-long c s line long = long

pub returns-clause-short : goal.returns-clause-short
returns-clause-short c s h = h (omega arith)

pub returns-clause-utf8 : goal.returns-clause-utf8
returns-clause-utf8 c s h = h.1 empty.utf8

pub returns-clause-none : goal.returns-clause-none
returns-clause-none c s line none = inl none

pub returns-clause-wait_first : goal.returns-clause-wait_first
returns-clause-wait_first c = inr (asks.Wait 2, waits, tt)

pub returns-clause-start_again : goal.returns-clause-start_again
returns-clause-start_again c s = inr (asks.Start (codes "T"), start, tt)

pub returns-clause-edit : goal.returns-clause-edit
returns-clause-edit c s line edit why asked is = (asks.Edit edit, asked, is)

pub returns-clause-edit_first : goal.returns-clause-edit_first
returns-clause-edit_first c h = by h.0 h.2
  where
    by : (what : Ask) → RefusedBy None what NoNode → ⊥
    by asks.Nothing r = r
    by (asks.Start name) r = let other : NoNode ≡ TextFull = r.1 in cc
    by (asks.Edit edit) r = r
    by (asks.Wait n) r = r

pub returns-clause-first : goal.returns-clause-first
returns-clause-first c left = record {
  history = [];
  left = codes "wait 2" ∷ left;
  order = refl;
  all = refl;
  taken = refl;
  whole = None;
  makes = refl;
  numbered = tt;
  next = inr (asks.Wait 2, waits, tt);
  counted = refl;
}

pub returns-clause-second : goal.returns-clause-second
returns-clause-second c left e = record {
  history = takes e ∷ does [] ∷ [];
  left = codes "wait 2" ∷ left;
  order = refl;
  all = refl;
  taken = refl;
  whole = None;
  makes = (None, refl, (None, (asks.Nothing, empty, refl), refl));
  numbered = tt;
  next = inr (asks.Wait 2, waits, tt);
  counted = refl;
}

pub returns-clause-again : goal.returns-clause-again
returns-clause-again c left e = record {
  history = takes e ∷ does named ∷ [];
  left = named ∷ left;
  order = refl;
  all = refl;
  taken = refl;
  whole = Some (starts (begins (codes "T")));
  makes = (None, refl, (Some (starts (begins (codes "T"))), started, refl));
  numbered = refl;
  next = inr (asks.Start (codes "T"), start, tt);
  counted = refl;
}

pub returns-clause-zeroth : goal.returns-clause-zeroth
returns-clause-zeroth c marks lines took why r = omega (arith, r.counted)

pub returns-clause-no_order : goal.returns-clause-no_order
returns-clause-no_order c lines took why r = r.order

pub returns-clause-no_line : goal.returns-clause-no_line
returns-clause-no_line c took number r = by (lines_in r.history) r.left r.order r.all
  where
    by : (done left : List (List ℕ)) → left ≡ named ∷ [] → done ++ left ≡ [] → ⊥
    by [] left is all = cc
    by (line ∷ done) left is all = cc

pub returns-clause-other_took : goal.returns-clause-other_took
returns-clause-other_took c e lines why r = by (sym (ap (λ (h : List Event). taken_in h) r.order) ∙ r.taken)
  where
    by : [] ≡ e ∷ [] → ⊥
    by h = cc
