-- Who plays the ends, where one end changes and where one joins.
use Rattle.std.proofs.Common.{◌≡◌, ℕ, zero, suc, ◌<◌, Bool, true, false, cond, eq-eqb, List, [], ◌∷◌, ◌++◌, length, map, set, Option, None, Some, refl, sym, ap, ◌∙◌, subst, arith}
use Rattle.std.specs.Prelude.{◌==◌, slice_get}
use Rattle.std.specs.Option.{option_map}
use Rattle.std.proofs.lemmas.Bool.{eqb-true}
use Rattle.std.proofs.lemmas.Option.{same_Some}
use Rattle.atspi_tree_model.specs.Forest.{first_of}
use Rattle.atspi_script_lines.specs.declared.line.Party.{Party}
use Rattle.atspi_trace.specs.World.{Role, End}
use Rattle.atspi_trace.specs.Ends.{same_party, conn_of, end_at, end_of, with_end}
use Rattle.atspi_world.specs.Cast.{IsPlayed, ArePlayed}
use Rattle.atspi_world.proofs.Conns.{conn_who}
use Rattle.atspi_world.proofs.Changed.{own_end, other_end, part_of, same_role, more_end}

module _ {X : Type 0} where
  pub get_set : (xs : List X) (i : ℕ) (y : X) → i < length xs → slice_get (set xs i y) i ≡ Some y
  get_set [] i y h = absurd (omega (arith, h))
  get_set (x ∷ xs) zero y h = refl
  get_set (x ∷ xs) (suc i) y h = get_set xs i y (omega (arith, h))

  pub get_other : (xs : List X) (i j : ℕ) (y : X) → (i ≡ j → ⊥) → slice_get (set xs i y) j ≡ slice_get xs j
  get_other [] zero j y h = refl
  get_other [] (suc i) j y h = refl
  get_other (x ∷ xs) zero zero y h = absurd (h refl)
  get_other (x ∷ xs) zero (suc j) y h = refl
  get_other (x ∷ xs) (suc i) zero y h = refl
  get_other (x ∷ xs) (suc i) (suc j) y h = get_other xs i j y (λ e. h (ap suc e))

  pub get_more : (xs ys : List X) (i : ℕ) (y : X) → slice_get xs i ≡ Some y → slice_get (xs ++ ys) i ≡ Some y
  get_more [] ys zero y h = absurd cc
  get_more [] ys (suc i) y h = absurd cc
  get_more (x ∷ xs) ys zero y h = h
  get_more (x ∷ xs) ys (suc i) y h = get_more xs ys i y h

  pub get_last : (xs : List X) (y : X) → slice_get (xs ++ y ∷ []) (length xs) ≡ Some y
  get_last [] y = refl
  get_last (x ∷ xs) y = get_last xs y

  pub set_last : (xs : List X) (y z : X) → set (xs ++ y ∷ []) (length xs) z ≡ xs ++ z ∷ []
  set_last [] y z = refl
  set_last (x ∷ xs) y z = ap (λ l. x ∷ l) (set_last xs y z)

module _ {X : Type 0} (kind : ℕ → Party) (Plays : X → Role → Type 0) where
  -- whoever plays an end of this role
  as_role : (xs : List X) (number : ℕ) (o : Option End) (e : End) → ((x : End) → o ≡ Some x → IsPlayed Plays xs number x.role) → Some e.role ≡ option_map (λ (x : End). x.role) o
      → IsPlayed Plays xs number e.role
  as_role xs number None e h r = absurd cc
  as_role xs number (Some x) e h r = subst (IsPlayed Plays xs number) (sym (same_Some e.role x.role r)) (h x refl)

  -- all are and play the same
  pub plays_same : (xs : List X) (ends ends' : List End) → map part_of ends' ≡ map part_of ends → ArePlayed kind Plays xs ends → ArePlayed kind Plays xs ends'
  plays_same xs ends ends' same are = λ number e h.
      as_role xs number (end_of ends (kind number)) e (are number) (sym (ap (option_map (λ (x : End). x.role)) h) ∙ same_role (kind number) ends ends' same)

  -- the end of another kind changes
  pub plays_beside : (xs : List X) (ends : List End) (f : End → End) (conn : ℕ) → ((e : End) → (f e).who ≡ e.who)
      → ((number : ℕ) (e : End) → end_at ends conn ≡ Some e → same_party e.who (kind number) ≡ false) → ArePlayed kind Plays xs ends → ArePlayed kind Plays xs (with_end conn f ends)
  plays_beside xs ends f conn who differs are = λ number e h. are number e (sym (other_end f who (kind number) ends conn (differs number)) ∙ h)

  -- one end changes, and the one that plays it
  pub plays_one : (xs : List X) (x : X) (ends : List End) (f : End → End) (conn number : ℕ) (e : End) → ((a b : ℕ) → same_party (kind a) (kind b) ≡ (a == b)) → ((y : End) → (f y).who ≡ y.who)
      → conn_of ends (kind number) ≡ Some conn → end_at ends conn ≡ Some e → number < length xs → Plays x (f e).role → ArePlayed kind Plays xs ends
      → ArePlayed kind Plays (set xs number x) (with_end conn f ends)
  plays_one xs x ends f conn number e apart who is at few plays are = λ other y h. by other y h (number == other) refl
    where
      by : (other : ℕ) (y : End) → end_of (with_end conn f ends) (kind other) ≡ Some y → (b : Bool) → (number == other) ≡ b → IsPlayed Plays (set xs number x) other y.role
      by other y h true t =
          let same : number ≡ other = eqb-true number other t in
          let own : end_of (with_end conn f ends) (kind other) ≡ Some (f e) = ap (λ k. end_of (with_end conn f ends) (kind k)) (sym same) ∙ own_end f who (kind number) ends conn e is at in
          record {
            player = x;
            there = ap (slice_get (set xs number x)) (sym same) ∙ get_set xs number x few;
            plays = subst (λ (z : End). Plays x z.role) (same_Some (f e) y (sym own ∙ h)) plays;
          }
      by other y h false t =
          let differs : (z : End) → end_at ends conn ≡ Some z → same_party z.who (kind other) ≡ false = λ z q. (ap (λ p. same_party p (kind other)) (conn_who ends (kind number) conn z is q) ∙ apart number other ∙ t) in
          let old = are other y (sym (other_end f who (kind other) ends conn differs) ∙ h) in
          let differ : number ≡ other → ⊥ = λ q. (let clash : true ≡ false = sym (eq-eqb number other q) ∙ t in cc) in
          record { player = old.player; there = get_other xs number other x differ ∙ old.there; plays = old.plays }

  -- an end of another kind joins
  pub plays_more_beside : (xs : List X) (ends : List End) (n : End) → ((number : ℕ) → same_party n.who (kind number) ≡ false) → ArePlayed kind Plays xs ends → ArePlayed kind Plays xs (ends ++ n ∷ [])
  plays_more_beside xs ends n differs are = λ number e h.
      by number e (end_of ends (kind number)) (are number e)
      (sym (more_end (kind number) ends n ∙ ap (λ b. first_of (end_of ends (kind number)) (cond b (Some n) None)) (differs number)) ∙ h)
    where
      by : (number : ℕ) (e : End) (o : Option End) → (o ≡ Some e → IsPlayed Plays xs number e.role) → first_of o None ≡ Some e → IsPlayed Plays xs number e.role
      by number e None go h = absurd cc
      by number e (Some x) go h = go h

  -- an end joins, and the one that plays it
  pub plays_more : (xs : List X) (x : X) (ends : List End) (n : End) → ((a b : ℕ) → same_party (kind a) (kind b) ≡ (a == b)) → n.who ≡ kind (length xs) → Plays x n.role
      → ArePlayed kind Plays xs ends → ArePlayed kind Plays (xs ++ x ∷ []) (ends ++ n ∷ [])
  plays_more xs x ends n apart who plays are = λ number e h.
      by number e (end_of ends (kind number)) refl (length xs == number) refl
      (sym (more_end (kind number) ends n ∙ ap (λ b. first_of (end_of ends (kind number)) (cond b (Some n) None)) (ap (λ p. same_party p (kind number)) who ∙ apart (length xs) number)) ∙ h)
    where
      by : (number : ℕ) (e : End) (o : Option End) → end_of ends (kind number) ≡ o → (b : Bool) → (length xs == number) ≡ b → first_of o (cond (length xs == number) (Some n) None) ≡ Some e
          → IsPlayed Plays (xs ++ x ∷ []) number e.role
      by number e (Some y) is b t h =
          let old = are number e (is ∙ h) in
          record { player = old.player; there = get_more xs (x ∷ []) number old.player old.there; plays = old.plays }
      by number e None is true t h =
          let same : length xs ≡ number = eqb-true (length xs) number t in
          let own : n ≡ e = same_Some n e (sym (ap (λ b. cond b (Some n) None) t) ∙ h) in
          record {
            player = x;
            there = ap (slice_get (xs ++ x ∷ [])) (sym same) ∙ get_last xs x;
            plays = subst (λ (z : End). Plays x z.role) own plays;
          }
      by number e None is false t h = let none : None ≡ Some e = sym (ap (λ b. cond b (Some n) None) t) ∙ h in absurd cc
