-- Ends before and after: each end afterwards was there before, and is related to what it was. What the bus does changes ends only by what
-- it hands to them, by the name that it gives one, and by leaving.
use Rattle.std.proofs.Common.{◌≡◌, ◌⊎◌, inl, inr, ℕ, zero, suc, ◌<◌, Bool, true, false, List, [], ◌∷◌, ◌++◌, length, Some, refl, sym, ap, ◌∙◌, subst, arith}
use Rattle.std.specs.Prelude.{if◌then◌else◌}
use Rattle.std.specs.List.{fold}
use Rattle.atspi_script_lines.specs.declared.line.Party.{Party}
use Rattle.atspi_message.specs.Envelope.{Envelope}
use Rattle.atspi_match.specs.declared.routing.closing.Why.{Why}
use Rattle.atspi_match.specs.routing.Steps.{Move, says, delivers, closes, BusStep, bus_takes, bus_leaves}
use Rattle.atspi_match.specs.routing.Queues as queues
use Rattle.atspi_match.specs.routing.Queues.{Waiting, Bus, without_queue}
use Rattle.atspi_trace.specs.Rules.{rule_in}
use Rattle.atspi_trace.specs.World.{Said, Letter, End}
use Rattle.atspi_trace.specs.Ends.{end_at, with_end, put_down, taken_up, leaves}
use Rattle.atspi_trace.specs.Carrying.{Carried, Filled, own_letter, letter_of, grew, with_letter, moved, stepped, left, one_closed, settled, named, with_name, takes, takes_end}
use Rattle.atspi_trace_laws.proofs.OfOrder.Parties.{no_none, same_some}

pub record Over (R : End → End → Type 0) (before after : List End) : Type 0 where
  pub size : length after ≡ length before
  pub back : (k : ℕ) (d : End) → end_at after k ≡ Some d → (e : End) × (end_at before k ≡ Some e) × R e d

-- a relation of an end with what it is after something
pub record IsOrder (R : End → End → Type 0) : Type 0 where
  pub same : (e : End) → R e e
  pub both : (e d c : End) → R e d → R d c → R e c

-- which end another is behind a change of one
pub with_cases : (f : End → End) (ends : List End) (conn k : ℕ) (d : End) → end_at (with_end conn f ends) k ≡ Some d
    → (e : End) × (end_at ends k ≡ Some e) × (((k ≡ conn) × (d ≡ f e)) ⊎ ((k ≡ conn → ⊥) × (d ≡ e)))
with_cases f [] zero k d h = absurd (no_none d h)
with_cases f [] (suc conn) k d h = absurd (no_none d h)
with_cases f (x ∷ xs) zero zero d h = (x, refl, inl (refl, sym (same_some (f x) d h)))
with_cases f (x ∷ xs) zero (suc k) d h =
    let no : suc k ≡ zero → ⊥ = λ e. omega (arith, e) in
    (d, h, inr (no, refl))
with_cases f (x ∷ xs) (suc conn) zero d h =
    let no : zero ≡ suc conn → ⊥ = λ e. omega (arith, e) in
    (x, refl, inr (no, sym (same_some x d h)))
with_cases f (x ∷ xs) (suc conn) (suc k) d h = by (with_cases f xs conn k d h)
  where
    by : ((e : End) × (end_at xs k ≡ Some e) × (((k ≡ conn) × (d ≡ f e)) ⊎ ((k ≡ conn → ⊥) × (d ≡ e))))
        → (e : End) × (end_at xs k ≡ Some e) × (((suc k ≡ suc conn) × (d ≡ f e)) ⊎ ((suc k ≡ suc conn → ⊥) × (d ≡ e)))
    by g = (g.0, g.1, split g.2)
      where
        split : (((k ≡ conn) × (d ≡ f g.0)) ⊎ ((k ≡ conn → ⊥) × (d ≡ g.0))) → (((suc k ≡ suc conn) × (d ≡ f g.0)) ⊎ ((suc k ≡ suc conn → ⊥) × (d ≡ g.0)))
        split (inl h) = inl (ap suc h.0, h.1)
        split (inr h) = let no : suc k ≡ suc conn → ⊥ = λ e. h.0 (omega (arith, e)) in inr (no, h.1)

pub with_length : (f : End → End) (ends : List End) (conn : ℕ) → length (with_end conn f ends) ≡ length ends
with_length f [] zero = refl
with_length f [] (suc conn) = refl
with_length f (x ∷ xs) zero = refl
with_length f (x ∷ xs) (suc conn) = ap suc (with_length f xs conn)

-- the end that changed
pub at_changed : (f : End → End) (ends : List End) (conn : ℕ) (e : End) → end_at ends conn ≡ Some e → end_at (with_end conn f ends) conn ≡ Some (f e)
at_changed f [] zero e h = absurd (no_none e h)
at_changed f [] (suc conn) e h = absurd (no_none e h)
at_changed f (x ∷ xs) zero e h = ap (λ y. Some (f y)) (same_some x e h)
at_changed f (x ∷ xs) (suc conn) e h = at_changed f xs conn e h

-- an end that is joined last
pub joined_cases : (ends : List End) (n : End) (k : ℕ) (d : End) → end_at (ends ++ n ∷ []) k ≡ Some d → (end_at ends k ≡ Some d) ⊎ ((k ≡ length ends) × (d ≡ n))
joined_cases [] n zero d h = inr (refl, sym (same_some n d h))
joined_cases [] n (suc k) d h = absurd (no_none d h)
joined_cases (x ∷ xs) n zero d h = inl h
joined_cases (x ∷ xs) n (suc k) d h = by (joined_cases xs n k d h)
  where
    by : ((end_at xs k ≡ Some d) ⊎ ((k ≡ length xs) × (d ≡ n))) → (end_at xs k ≡ Some d) ⊎ ((suc k ≡ suc (length xs)) × (d ≡ n))
    by (inl g) = inl g
    by (inr g) = inr (ap suc g.0, g.1)

pub at_below : (ends : List End) (k : ℕ) (e : End) → end_at ends k ≡ Some e → k < length ends
at_below [] k e h = absurd (no_none e h)
at_below (x ∷ xs) zero e h = omega arith
at_below (x ∷ xs) (suc k) e h = let less : k < length xs = at_below xs k e h in omega arith

module _ (R : End → End → Type 0) (o : IsOrder R) where
  pub over_same : (ends : List End) → Over R ends ends
  over_same ends = record { size = refl; back = λ k d h. (d, h, o.same d) }

  pub over_both : (a b c : List End) → Over R a b → Over R b c → Over R a c
  over_both a b c f g = record {
    size = g.size ∙ f.size;
    back = λ k d h. let y = g.back k d h in let x = f.back k y.0 y.1 in (x.0, x.1, o.both x.0 y.0 d x.2 y.2);
  }

  pub over_with : (f : End → End) → ((e : End) → R e (f e)) → (conn : ℕ) (ends : List End) → Over R ends (with_end conn f ends)
  over_with f r conn ends = record { size = with_length f ends conn; back = λ k d h. by k d (with_cases f ends conn k d h) }
    where
      by : (k : ℕ) (d : End) → ((e : End) × (end_at ends k ≡ Some e) × (((k ≡ conn) × (d ≡ f e)) ⊎ ((k ≡ conn → ⊥) × (d ≡ e)))) → (e : End) × (end_at ends k ≡ Some e) × R e d
      by k d g = (g.0, g.1, at g.2)
        where
          at : (((k ≡ conn) × (d ≡ f g.0)) ⊎ ((k ≡ conn → ⊥) × (d ≡ g.0))) → R g.0 d
          at (inl h) = subst (R g.0) (sym h.1) (r g.0)
          at (inr h) = subst (R g.0) (sym h.1) (o.same g.0)

  -- the same of an end that is known
  pub over_at : (f : End → End) (conn : ℕ) (ends : List End) (x : End) → end_at ends conn ≡ Some x → R x (f x) → Over R ends (with_end conn f ends)
  over_at f conn ends x t r = record { size = with_length f ends conn; back = λ k d h. by k d (with_cases f ends conn k d h) }
    where
      by : (k : ℕ) (d : End) → ((e : End) × (end_at ends k ≡ Some e) × (((k ≡ conn) × (d ≡ f e)) ⊎ ((k ≡ conn → ⊥) × (d ≡ e)))) → (e : End) × (end_at ends k ≡ Some e) × R e d
      by k d g = (g.0, g.1, at g.2)
        where
          at : (((k ≡ conn) × (d ≡ f g.0)) ⊎ ((k ≡ conn → ⊥) × (d ≡ g.0))) → R g.0 d
          at (inl h) =
              let same : x ≡ g.0 = same_some x g.0 (sym t ∙ ap (end_at ends) (sym h.0) ∙ g.1) in
              subst (R g.0) (sym h.1) (subst (λ y. R y (f y)) same r)
          at (inr h) = subst (R g.0) (sym h.1) (o.same g.0)

  -- what the bus hands out
  abbrev Hands : (Envelope → Letter) → Type 0
  Hands letter = (m : Envelope) (e : End) → R e (put_down (letter m) e)

  letter_over : (letter : Envelope → Letter) → Hands letter → (b a : Waiting) (move : Move) (ends : List End) → Over R ends (with_letter letter b a move ends)
  letter_over letter l b a (delivers conn m) ends = by (grew conn b a)
    where
      by : (t : Bool) → Over R ends (if t then with_end conn (put_down (letter m)) ends else ends)
      by true = over_with (put_down (letter m)) (l m) conn ends
      by false = over_same ends
  letter_over letter l b a (says m) ends = over_same ends
  letter_over letter l b a (closes conn) ends = over_same ends

  pub folded_over : (letter : Envelope → Letter) → Hands letter → (quota : ℕ) (f : Filled) (moves : List Move) → Over R f.ends (fold (moved letter quota) f moves).ends
  folded_over letter l quota f [] = over_same f.ends
  folded_over letter l quota f (move ∷ moves) =
      over_both f.ends (moved letter quota f move).ends _
      (letter_over letter l f.waiting (queues.moved quota f.waiting move) move f.ends)
      (folded_over letter l quota (moved letter quota f move) moves)

  pub stepped_over : (letter : Envelope → Letter) → Hands letter → (c : Carried) (step : BusStep) → Over R c.ends (stepped letter c step).ends
  stepped_over letter l c step = folded_over letter l c.bus.quota (record { waiting = c.bus.waiting; ends = c.ends }) step.moves

  module _ (own : Hands own_letter) (leaving : (e : End) → R e (leaves e)) where
    pub left_over : (c : Carried) (conn : ℕ) → Over R c.ends (left c conn).ends
    left_over c conn =
        over_both c.ends (with_end conn leaves c.ends) _ (over_with leaves leaving conn c.ends)
        (stepped_over own_letter own (record { bus = record c.bus { waiting = without_queue c.bus.waiting conn }; ends = with_end conn leaves c.ends }) (bus_leaves c.bus.state conn))

    one_over : (c : Carried) (due : List (ℕ × Why)) → Over R c.ends (one_closed c due).ends
    one_over c [] = over_same c.ends
    one_over c (first ∷ rest) = left_over c first.0

    pub settled_over : (rounds : ℕ) (c : Carried) → Over R c.ends (settled rounds c).ends
    settled_over zero c = over_same c.ends
    settled_over (suc rounds) c =
        over_both c.ends (one_closed c c.bus.waiting.due).ends _ (one_over c c.bus.waiting.due) (settled_over rounds (one_closed c c.bus.waiting.due))

    -- behind what it takes
    pub takes_over : (naming : (b : Bus) (conn : ℕ) (e : End) → R e (named b conn e)) → (taking : (e : End) → R e (taken_up e)) → (c : Carried) (conn : ℕ) (who : Party) (said : Said)
        → Hands (letter_of who said) → Over R c.ends (takes c conn who said).ends
    takes_over naming taking c conn who said l =
        let a : Carried = record c { ends = with_end conn taken_up c.ends } in
        let b : Carried = stepped (letter_of who said) a (bus_takes c.bus.state conn said.message (rule_in said.message)) in
        over_both c.ends a.ends _ (over_with taken_up taking conn c.ends)
        (over_both a.ends b.ends _ (stepped_over (letter_of who said) l a (bus_takes c.bus.state conn said.message (rule_in said.message)))
        (over_both b.ends (with_name conn b).ends _ (over_with (named b.bus conn) (naming b.bus conn) conn b.ends)
        (settled_over (length c.bus.state.joined) (with_name conn b))))

    pub ends_over : (c : Carried) (conn : ℕ) → Over R c.ends (takes_end c conn).ends
    ends_over c conn = over_both c.ends (left c conn).ends _ (left_over c conn) (settled_over (length c.bus.state.joined) (left c conn))
