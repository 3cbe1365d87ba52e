use Rattle.std.proofs.Common.{◌≡◌, ℕ, List, [], ◌∷◌, ◌++◌, length, Option, None, Some, refl, arith}
use Rattle.atspi_protocol.specs.exporting.Exporter.{Exporter}
use Rattle.atspi_live_app.specs.Input.{left_in}
use Rattle.atspi_live_app.specs.Standing.{HandedOut, lines_in, takes}
use Rattle.atspi_live_examples.proofs.app.unstarted.standing_told.Goals as goal

pub returns-clause-told : goal.returns-clause-told
returns-clause-told c = refl

pub returns-clause-stands : goal.returns-clause-stands
returns-clause-stands c = (
  refl,
  record {
    kept = refl;
    same = refl;
    short = omega arith;
    history = [];
    all = refl;
    marked = refl;
    taken = refl;
    whole = None;
    makes = refl;
    handed = refl;
    numbered = tt;
    counted = refl;
  },
)

pub returns-clause-took : goal.returns-clause-took
returns-clause-took c e = (
  refl,
  record {
    kept = refl;
    same = refl;
    short = omega arith;
    history = takes e ∷ [];
    all = refl;
    marked = refl;
    taken = refl;
    whole = None;
    makes = (None, refl, refl);
    handed = refl;
    numbered = tt;
    counted = refl;
  },
)

pub returns-clause-longest : goal.returns-clause-longest
returns-clause-longest c text long = record {
  kept = refl;
  same = refl;
  short = omega (arith, long);
  history = [];
  all = refl;
  marked = refl;
  taken = refl;
  whole = None;
  makes = refl;
  handed = refl;
  numbered = tt;
  counted = refl;
}

pub returns-clause-too_long : goal.returns-clause-too_long
returns-clause-too_long c text long h = omega (arith, long, h.short)

pub returns-clause-nothing_told : goal.returns-clause-nothing_told
returns-clause-nothing_told c h = h

pub returns-clause-place_told : goal.returns-clause-place_told
returns-clause-place_told c h = h

pub returns-clause-other_place : goal.returns-clause-other_place
returns-clause-other_place c h = omega (arith, h.0)

pub returns-clause-other_kit : goal.returns-clause-other_kit
returns-clause-other_kit c h = omega (arith, h.1.kept)

pub returns-clause-other_text : goal.returns-clause-other_text
returns-clause-other_text c h = by h.1.same
  where
    by : {b : ℕ} {bytes : List ℕ} → [] ≡ b ∷ bytes → ⊥
    by h = cc

pub returns-clause-other_said : goal.returns-clause-other_said
returns-clause-other_said c e h = by h.1.whole h.1.handed
  where
    some_none : e ∷ [] ≡ [] → ⊥
    some_none h = cc

    by : (whole : Option Exporter) → HandedOut (e ∷ []) None whole → ⊥
    by None h = some_none h
    by (Some s) h = h

-- no lines were done where none are
none_done : (done left : List (List ℕ)) → done ++ left ≡ [] → length done ≡ 0
none_done [] left all = refl
none_done (line ∷ done) left all = absurd cc

pub returns-clause-other_number : goal.returns-clause-other_number
returns-clause-other_number c h = omega (arith, h.1.counted, none_done (lines_in h.1.history) (left_in [] 0) h.1.all)
