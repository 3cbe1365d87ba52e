use Rattle.std.proofs.Common.{◌≡◌, ℕ, List, [], ◌∷◌, Some, refl, arith}
use Rattle.std.specs.Prelude.{codes}
use Rattle.atspi_live_host.specs.declared.call.Call.{Call}
use Rattle.atspi_live_host.specs.declared.call.Call.TheVariants.{Connect, Read}
use Rattle.atspi_live_host.specs.declared.call.Did.{Did}
use Rattle.atspi_live_host.specs.declared.call.Did.TheVariants.{Done, Failed}
use Rattle.atspi_live_examples.proofs.OfApp.Asked.{first_is}
use Rattle.atspi_live_examples.proofs.app.runs.runs_on_links.Goals as goal

pub returns-clause-ended : goal.returns-clause-ended
returns-clause-ended c lines over calls is run reports = record { over = over; is = is; run = (calls, run, refl); reports = reports }

pub returns-clause-over_said : goal.returns-clause-over_said
returns-clause-over_said c lines over calls is = is.speaks

pub returns-clause-over_so : goal.returns-clause-over_so
returns-clause-over_so c lines over calls is = is.so

pub returns-clause-not_connected : goal.returns-clause-not_connected
returns-clause-not_connected c e = by e.run.0 e.run.2
  where
    by : (calls : List Call) → Read 0 [] Failed ∷ [] ≡ Connect (codes "/p") (Done 0) ∷ calls → ⊥
    by calls h = cc

pub returns-clause-other_path : goal.returns-clause-other_path
returns-clause-other_path c e = by (first_is (tail_is (path_is e.run.2)))
  where
    path_is : {p q : List ℕ} {d e : Did} {xs ys : List Call} → Connect p d ∷ xs ≡ Connect q e ∷ ys → p ≡ q
    path_is h = cc

    tail_is : {x y : ℕ} {xs ys : List ℕ} → x ∷ xs ≡ y ∷ ys → xs ≡ ys
    tail_is h = cc

    by : ◌≡◌ {A = ℕ} 112 113 → ⊥
    by h = omega (arith, h)

pub returns-clause-other_link : goal.returns-clause-other_link
returns-clause-other_link c e = by e.run.0 e.run.2
  where
    by : (calls : List Call) → Connect (codes "/p") (Done 0) ∷ [] ≡ Connect (codes "/p") (Done 1) ∷ calls → ⊥
    by calls h = cc

pub returns-clause-one_link : goal.returns-clause-one_link
returns-clause-one_link c lines calls e = (e, refl)

pub returns-clause-two_links : goal.returns-clause-two_links
returns-clause-two_links c h = by h.1
  where
    by : {k : ℕ} {ks : List ℕ} → k ∷ ks ≡ [] → ⊥
    by h = cc

pub returns-clause-no_link : goal.returns-clause-no_link
returns-clause-no_link c = (refl, refl)

pub returns-clause-no_link_other : goal.returns-clause-no_link_other
returns-clause-no_link_other c h = omega (arith, h.0)

pub returns-clause-no_link_wrote : goal.returns-clause-no_link_wrote
returns-clause-no_link_wrote c h = by h.1
  where
    by : {b : ℕ} {bytes : List ℕ} → Some (b ∷ bytes) ≡ Some [] → ⊥
    by h = cc
