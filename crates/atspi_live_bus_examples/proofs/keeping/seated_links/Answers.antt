use Rattle.std.proofs.Common.{◌≡◌, [], ◌∷◌, sym, ap, subst, ◌∙◌}
use Rattle.std.specs.Prelude.{ℕ, List, Some}
use Rattle.atspi_live_host.specs.Calls.{given, taken}
use Rattle.atspi_live_host.specs.declared.call.Did.TheVariants.{Done}
use Rattle.atspi_live_host.specs.declared.call.Call.TheVariants.{Read, Write}
use Rattle.atspi_live_bus.specs.Asked.{messages_of, taking}
use Rattle.atspi_live_bus.specs.Cases.{two_conns}
use Rattle.atspi_live_bus.specs.inner.Seats.{seats}
use Rattle.atspi_live_bus.specs.Turns.{Converses}
use Rattle.atspi_live_bus_examples.proofs.Facts.{none_some, zero_is}
use Rattle.atspi_live_bus_examples.proofs.Kept.{first_conn, first_number, first_wrong, none_given, none_told, zero_one}
use Rattle.atspi_live_bus_examples.proofs.keeping.seated_links.Goals as goal

number_of : (l : _) (c : ℕ) → seats (l ∷ []) ≡ (3, c) ∷ [] → l.number ≡ 3
number_of l c s = ap (λ (ss : List (ℕ × ℕ)). first_number ss) s

conn_of : (l : _) (c : ℕ) → seats (l ∷ []) ≡ (3, c) ∷ [] → l.conn ≡ c
conn_of l c s = ap (λ (ss : List (ℕ × ℕ)). first_conn ss) s

pub returns-clause-seated : goal.returns-clause-seated
returns-clause-seated c l s talks = (ap (λ (k : ℕ). two_conns k) (number_of l 0 s) ∙ ap (λ (d : ℕ). Some d) (sym (conn_of l 0 s)), talks)

pub returns-clause-no_conn : goal.returns-clause-no_conn
returns-clause-no_conn c l i = none_some l.conn i.0

pub returns-clause-other_conn : goal.returns-clause-other_conn
returns-clause-other_conn c l s i = zero_one (zero_is 1 (sym (ap (λ (k : ℕ). two_conns k) (number_of l 1 s)) ∙ i.0 ∙ ap (λ (d : ℕ). Some d) (conn_of l 1 s)))

pub returns-clause-told : goal.returns-clause-told
returns-clause-told c l e s i = none_told e [] [] l (subst (λ (d : ℕ). Converses (messages_of d (taking 0 e ∷ [])) [] l [] []) (conn_of l 0 s) i.1)

pub returns-clause-at_fault : goal.returns-clause-at_fault
returns-clause-at_fault c l s i = first_wrong [] [] [] l (subst (λ (k : ℕ). Converses [] [] l (taken k (Read 3 (97 ∷ []) (Done 1) ∷ [])) []) (number_of l 0 s) i.1)

pub returns-clause-given : goal.returns-clause-given
returns-clause-given c l s i = none_given [] [] l (subst (λ (k : ℕ). Converses [] [] l [] (given k (Write 3 (7 ∷ []) (Done 1) ∷ []))) (number_of l 0 s) i.1)
