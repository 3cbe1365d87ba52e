use Rattle.std.proofs.Common.{◌≡◌, ℕ, List, Option, Some, sym, subst, ◌∙◌, rules, ◌<◌, length, tests, bytes_eq, map}
use Rattle.std.specs.Prelude.{slice_get, IfSome}
use Rattle.std.specs.Borrow.{Bor}
use Rattle.std.proofs.lemmas.Iterator.{YieldsList-from_slice}
use Rattle.std.proofs.lemmas.Iterator.Search.{position_from_yields_List}
use Rattle.atspi_tables.proofs.First.{position-map, named_at, named_below}
use Rattle.atspi_tables.proofs.places.place_of.Goals as goal

pub returns-clause-first : goal.returns-clause-first
returns-clause-first c =
    position_from_yields_List (λ (n : Bor (List ℕ)). bytes_eq n.now c.args.name.now) _ _ c.position.result c.position.ensures.ran (YieldsList-from_slice _ c.iter.ensures.rest) (λ x b q k. search (rules, tests))
    ∙ sym (position-map (λ n. bytes_eq n c.args.name.now) (λ n. n.now) c.args.names.now)

pub returns-clause-found : goal.returns-clause-found
unfolding returns-clause-first
returns-clause-found c = subst (λ (r : Option ℕ). IfSome r (λ i. slice_get (map (λ (n : Bor (List ℕ)). n.now) c.args.names.now) i ≡ Some c.args.name.now)) (sym (returns-clause-first c)) (named_at c.args.name.now _)

pub returns-clause-below : goal.returns-clause-below
unfolding returns-clause-first
returns-clause-below c = subst (λ (r : Option ℕ). IfSome r (λ i. i < length c.args.names.now)) (sym (returns-clause-first c)) (named_below (λ (n : Bor (List ℕ)). n.now) c.args.name.now c.args.names.now)
