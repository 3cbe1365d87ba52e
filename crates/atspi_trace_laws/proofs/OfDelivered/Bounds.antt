-- The bus's own messages on their way have serials that it has given.
use Rattle.std.proofs.Common.{◌≡◌, ◌⊎◌, inl, inr, ℕ, ◌+◌, ◌<◌, ◌≤◌, Bool, true, false, List, [], ◌∷◌, length, map, Option, None, Some, refl, sym, ◌∙◌, subst, arith, cond}
use Rattle.std.specs.Prelude.{flat_map}
use Rattle.std.specs.List.{AllByRecursion}
use Rattle.std.specs.FinMap as finmap
use Rattle.std.specs.FinMap.{get-remove}
use Rattle.std.specs.Ordering.{nat_cmp, eq_by_cmp}
use Rattle.std.proofs.lemmas.Cmp.{nat_cmp_total}
use Rattle.atspi_message.specs.Envelope.{Envelope}
use Rattle.atspi_names.specs.Owners.{Owners, own_name, after_gone}
use Rattle.atspi_match.specs.routing.BusState.{BusState, unique_of}
use Rattle.atspi_match.specs.routing.Members.{is_text}
use Rattle.atspi_match.specs.routing.OwnMessages.{numbered}
use Rattle.atspi_match.specs.routing.Routing.{receivers}
use Rattle.atspi_match.specs.routing.Steps.{Move, says, delivers, closes, BusStep, handed, speaks}
use Rattle.atspi_trace_laws.proofs.OfOrder.Parties.{no_none, all_append}
use Rattle.atspi_trace_laws.proofs.OfOrder.Each.{all_map}
use Rattle.atspi_trace_laws.proofs.OfTaken.Handing.{HandsOn}
use Rattle.atspi_trace_laws.proofs.OfOwn.Doing.{NewNames, Doing, says_, hands_, closes_}

-- no unique name is the bus's own
abbrev pub NoneIsBus : Owners → Type 0
NoneIsBus owners = (conn : ℕ) (name : List ℕ) → unique_of owners conn ≡ Some name → is_text (Some name) own_name ≡ false

pub new_names : (before after : Owners) → NewNames before after → NoneIsBus before → NoneIsBus after
new_names before after new none conn name h = by (new conn name h)
  where
    by : ((unique_of before conn ≡ Some name) ⊎ (is_text (Some name) own_name ≡ false)) → is_text (Some name) own_name ≡ false
    by (inl g) = none conn name g
    by (inr g) = g

pub gone_names : (owners : Owners) (conn : ℕ) → NoneIsBus owners → NoneIsBus (after_gone owners conn)
gone_names owners conn none k name h = by (eq_by_cmp nat_cmp k conn) (sym (get-remove nat_cmp_total owners.unique conn k) ∙ h)
  where
    by : (b : Bool) → cond b None (finmap.get owners.unique k) ≡ Some name → is_text (Some name) own_name ≡ false
    by true g = absurd (no_none name g)
    by false g = none k name g

-- a number that was given, from this one on
abbrev pub InRange : ℕ → ℕ → Envelope → Type 0
InRange low high m = (low ≤ m.serial) × (m.serial < high)

numbered_range : (low n high : ℕ) (es : List Envelope) → low ≤ n → n + length es ≤ high → AllByRecursion (InRange low high) (numbered n es)
numbered_range low n high [] a b = tt
numbered_range low n high (e ∷ es) a b = ((a, first a b), numbered_range low (n + 1) high es (omega (arith, a)) (omega (arith, b)))
  where
    first : low ≤ n → n + length (e ∷ es) ≤ high → n < high
    first a b = omega (arith, b)

each_handed : (P : Envelope → Type 0) (e : Envelope) (conns : List ℕ) → P e → AllByRecursion (HandsOn P) (map (λ c. delivers c e) conns)
each_handed P e [] p = tt
each_handed P e (c ∷ cs) p = (p, each_handed P e cs p)

each_said : (P : Envelope → Type 0) (s : BusState) (es : List Envelope) → AllByRecursion P es → AllByRecursion (HandsOn P) (flat_map (λ e. says e ∷ handed s e) es)
each_said P s [] a = tt
each_said P s (e ∷ es) a = (tt, all_append (HandsOn P) (handed s e) (flat_map (λ m. says m ∷ handed s m) es) (each_handed P e (receivers s e) a.0) (each_said P s es a.1))

pub speaks_range : (low high : ℕ) (s : BusState) (es : List Envelope) → low ≤ s.next → (speaks s es).state.next ≤ high → AllByRecursion (HandsOn (InRange low high)) (speaks s es).moves
speaks_range low high s es a b = each_said (InRange low high) s (numbered s.next es) (numbered_range low s.next high es a b)

-- what the bus hands on when it takes a message: a message of its own with a number that it gave, or one that does not bear its name
abbrev pub Comes : ℕ → ℕ → Envelope → Type 0
Comes low high m = InRange low high m ⊎ (is_text m.sender own_name ≡ false)

left_range : (low high : ℕ) (move : Move) → HandsOn (InRange low high) move → HandsOn (Comes low high) move
left_range low high (delivers conn m) h = inl h
left_range low high (says m) h = tt
left_range low high (closes conn) h = tt

not_own : (owners : Owners) (conn : ℕ) (sender : Option (List ℕ)) → NoneIsBus owners → sender ≡ unique_of owners conn → is_text sender own_name ≡ false
not_own owners conn None none h = refl
not_own owners conn (Some name) none h = none conn name (sym h)

pub doing_range : (low high : ℕ) (s : BusState) (conn : ℕ) (step : BusStep) → NoneIsBus s.owners → Doing s conn step → low ≤ s.next → step.state.next ≤ high → AllByRecursion (HandsOn (Comes low high)) step.moves
doing_range low high s conn step none (says_ t es next named new is) a b =
    let start : low ≤ t.next = subst (λ n. low ≤ n) (sym next) a in
    let end : (speaks t es).state.next ≤ high = subst (λ x. x.state.next ≤ high) is b in
    subst (λ x. AllByRecursion (HandsOn (Comes low high)) x.moves) (sym is)
    (all_map (HandsOn (InRange low high)) (HandsOn (Comes low high)) (speaks t es).moves (left_range low high) (speaks_range low high t es start end))
doing_range low high s conn step none (hands_ calls e sender is) a b =
    subst (λ x. AllByRecursion (HandsOn (Comes low high)) x.moves) (sym is) (each_handed (Comes low high) e (receivers s e) (inr (not_own s.owners conn e.sender none sender)))
doing_range low high s conn step none (closes_ nobody is) a b = subst (λ x. AllByRecursion (HandsOn (Comes low high)) x.moves) (sym is) (tt, tt)

pub doing_names : (s : BusState) (conn : ℕ) (step : BusStep) → NoneIsBus s.owners → Doing s conn step → NoneIsBus step.state.owners
doing_names s conn step none (says_ t es next named new is) = subst (λ x. NoneIsBus x.state.owners) (sym is) (new_names s.owners t.owners new none)
doing_names s conn step none (hands_ calls e sender is) = subst (λ x. NoneIsBus x.state.owners) (sym is) none
doing_names s conn step none (closes_ nobody is) = subst (λ x. NoneIsBus x.state.owners) (sym is) none

pub doing_more : (s : BusState) (conn : ℕ) (step : BusStep) → Doing s conn step → s.next ≤ step.state.next
doing_more s conn step (says_ t es next named new is) = subst (λ x. s.next ≤ x.state.next) (sym is) (more t.next (length es) next)
  where
    more : (n k : ℕ) → n ≡ s.next → s.next ≤ n + k
    more n k h = omega (arith, h)
doing_more s conn step (hands_ calls e sender is) = subst (λ x. s.next ≤ x.state.next) (sym is) (same s.next)
  where
    same : (n : ℕ) → n ≤ n
    same n = omega arith
doing_more s conn step (closes_ nobody is) = subst (λ x. s.next ≤ x.state.next) (sym is) (same s.next)
  where
    same : (n : ℕ) → n ≤ n
    same n = omega arith
