-- What stands of the worked cases of messages whose steps close links.
use Rattle.std.proofs.Common.{◌≡◌, ℕ, true, false, List, [], ◌∷◌, ◌++◌, Option, None, refl, sym, ap, subst, ◌∙◌, inl, inr}
use Rattle.atspi_match.specs.declared.condition.Condition.{Condition}
use Rattle.atspi_match.specs.declared.routing.closing.Closing.{Closing}
use Rattle.atspi_match.specs.declared.routing.closing.Why.TheVariants.{NotHello, Quota}
use Rattle.atspi_match.specs.routing.Queues.{takes}
use Rattle.atspi_match.specs.routing.Queues as queues
use Rattle.atspi_match.proofs.OfRouting.Known.{known}
use Rattle.atspi_live_host.specs.declared.call.Call.{Call}
use Rattle.atspi_live_host.specs.declared.call.Call.TheVariants.{Close}
use Rattle.atspi_live_bus.specs.Asked.{taking}
use Rattle.atspi_live_bus.specs.Cases.{one_due, signal_of, two_links}
use Rattle.atspi_live_bus.specs.Closes.{AreShut, AreTaken, IsShut}
use Rattle.atspi_live_bus.specs.Course.{Course, Steps, told_all}
use Rattle.atspi_live_bus.proofs.Worked.{both_shut, not_none}

true_false : true ≡ false → ⊥
true_false e = cc

abbrev no_hello_of : Closing
no_hello_of = record { conn = 0; why = NotHello; after = 0 }

abbrev quota_of : Closing
quota_of = record { conn = 1; why = Quota 5 6; after = 0 }

abbrev behind_signal : Course → List ℕ → Course
behind_signal x path = record { asked = x.asked ++ taking 0 (signal_of path) ∷ []; bus = told_all (takes x.bus 0 (signal_of path) None); conn = x.conn }

own_closings : (path : List ℕ) (rule : Option (List Condition)) → (takes two_links.bus 0 (signal_of path) rule).closings ≡ no_hello_of ∷ []
own_closings path rule = simp known refl

due_closings : (path : List ℕ) (rule : Option (List Condition)) → (takes one_due.bus 0 (signal_of path) rule).closings ≡ quota_of ∷ no_hello_of ∷ []
due_closings path rule = simp known refl

signal_steps : (x : Course) (path : List ℕ) (closings : List Closing) → closings ≡ (takes x.bus 0 (signal_of path) None).closings → Steps x (taking 0 (signal_of path)) closings (behind_signal x path)
signal_steps x path closings is = (takes x.bus 0 (signal_of path) None, [], (None, λ name n for_bus. absurd (true_false (sym for_bus)), refl), tt, is, refl, refl, refl)

pub own : (path : List ℕ) → (y : Course) × AreTaken 3 0 two_links (3 ∷ 5 ∷ []) (signal_of path ∷ []) (Close 3 ∷ []) y
own path = (
  behind_signal two_links path,
  (
    inl refl,
    behind_signal two_links path,
    no_hello_of ∷ [],
    Close 3 ∷ [],
    [],
    signal_steps two_links path (no_hello_of ∷ []) (sym (own_closings path None)),
    (Close 3 ∷ [], [], inr (3, inl refl, refl, refl), refl, refl),
    (refl, refl),
    refl,
  ),
)

pub another : (path : List ℕ) → (y : Course) × AreTaken 3 0 one_due (3 ∷ 5 ∷ []) (signal_of path ∷ []) (Close 5 ∷ Close 3 ∷ []) y
another path = (
  behind_signal one_due path,
  (
    inl refl,
    behind_signal one_due path,
    quota_of ∷ no_hello_of ∷ [],
    Close 5 ∷ Close 3 ∷ [],
    [],
    signal_steps one_due path (quota_of ∷ no_hello_of ∷ []) (sym (due_closings path None)),
    both_shut quota_of no_hello_of refl refl,
    (refl, refl),
    refl,
  ),
)

shut_own : (calls : List Call) → AreShut two_links.conn (3 ∷ 5 ∷ []) (no_hello_of ∷ []) calls → calls ≡ [] → ⊥
shut_own calls s none = by s.2
  where
    by : IsShut two_links.conn (3 ∷ 5 ∷ []) 0 s.0 → ⊥
    by (inl n) = n.0 3 (inl refl) refl
    by (inr y) = not_none (Close y.0) s.1 (sym none ∙ s.4 ∙ ap (λ (w : List Call). w ++ s.1) y.3)

none_first : (a b : List Call) → [] ≡ a ++ b → a ≡ []
none_first [] b e = refl
none_first (c ∷ a) b e = cc

pub not_closed : (path : List ℕ) (y : Course) → AreTaken 3 0 two_links (3 ∷ 5 ∷ []) (signal_of path ∷ []) [] y → ⊥
not_closed path y t =
    let leads = t.5.2 in
    let closings : t.2 ≡ no_hello_of ∷ [] = t.5.4 ∙ ap (λ (b : queues.Bus). b.closings) leads.2 ∙ own_closings path leads.0 in
    shut_own t.3 (subst (λ (cs : List Closing). AreShut two_links.conn (3 ∷ 5 ∷ []) cs t.3) closings t.6) (none_first t.3 t.4 t.8)
