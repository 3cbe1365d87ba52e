use Rattle.std.proofs.Common.{[], ◌∷◌, refl, subst, inl, inr}
use Rattle.std.specs.Prelude.{ℕ, List, true}
use Rattle.atspi_live_host.specs.Calls.{IsOpen}
use Rattle.atspi_live_host.specs.declared.call.Did.TheVariants.{Failed}
use Rattle.atspi_live_host.specs.declared.call.Call.TheVariants.{Close, Write}
use Rattle.atspi_live_bus.specs.Rounds.{MayGive}
use Rattle.atspi_live_bus_examples.proofs.Facts.{gift_is_due, three_not_open}
use Rattle.atspi_live_bus_examples.proofs.Seated.{is_first, of_both, on_both, on_second, seated_first, without_first}
use Rattle.atspi_live_bus_examples.proofs.turning.writes_in_turns.Goals as goal

pub returns-clause-all_given : goal.returns-clause-all_given
returns-clause-all_given c l m x y past s connected hands all = (
  refl,
  λ i f.
      on_both (λ (ks : List ℕ). MayGive true x past ks 3 i [] y) l m s
      (subst (λ (j : ℕ). MayGive true x past (3 ∷ 5 ∷ []) 3 j [] y) (is_first x.conn i connected f) (inr (inl (inl refl, hands, all, refl)))),
)

pub returns-clause-failed : goal.returns-clause-failed
returns-clause-failed c l m x y past s connected gift = (
  without_first l m (Write 3 (7 ∷ []) Failed ∷ Close 3 ∷ []) s refl,
  λ i f.
      on_both (λ (ks : List ℕ). MayGive true x past ks 3 i (Write 3 (7 ∷ []) Failed ∷ Close 3 ∷ []) y) l m s
      (subst (λ (j : ℕ). MayGive true x past (3 ∷ 5 ∷ []) 3 j (Write 3 (7 ∷ []) Failed ∷ Close 3 ∷ []) y) (is_first x.conn i connected f) (inr (inr (inl refl, gift)))),
)

pub returns-clause-not_written : goal.returns-clause-not_written
returns-clause-not_written c l m x y past s connected none w = gift_is_due x y past none (of_both (λ (ks : List ℕ). MayGive true x past ks 3 0 [] y) l m s (w.1 0 (seated_first x.conn connected)))

pub returns-clause-closed : goal.returns-clause-closed
returns-clause-closed c m x past s connected = (refl, λ i f. inl ((λ o. three_not_open (on_second (λ (ks : List ℕ). IsOpen 3 ks) m s o)), refl, refl))
