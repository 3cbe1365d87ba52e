-- No party has two ends, and the bus none: that stays, where ends change and where one joins, and so the connection of an end's party is its own.
use Rattle.std.proofs.Common.{◌≡◌, ℕ, zero, suc, ◌+◌, ◌<◌, Bool, true, false, cond, eq-eqb, List, [], ◌∷◌, ◌++◌, length, map, None, Some, refl, sym, ap, ◌∙◌, subst, arith}
use Rattle.std.specs.Prelude.{not}
use Rattle.std.specs.List.{AllByRecursion}
use Rattle.std.proofs.lemmas.Bool.{lt-ltb}
use Rattle.std.proofs.lemmas.Option.{same_Some, slice_get_within}
use Rattle.atspi_script_lines.specs.declared.line.Party.{Party}
use Rattle.atspi_script_lines.specs.declared.line.Party.TheVariants.{Bus, Registry, App, Reader}
use Rattle.atspi_trace.specs.World.{Role, End}
use Rattle.atspi_trace.specs.Ends.{same_party, conn_of, end_at, end_if, with_end}
use Rattle.atspi_world.specs.Cast.{ArePlayed}
use Rattle.atspi_world.specs.Worlds.{AreApart, who_of}
use Rattle.atspi_world.proofs.Changed.{part_of}
use Rattle.atspi_world.proofs.Conns.{place_in}

-- a party is its own
pub own_party : (p : Party) → same_party p p ≡ true
own_party Bus = refl
own_party Registry = refl
own_party (App a) = eq-eqb a a refl
own_party (Reader a) = eq-eqb a a refl

-- WHO IS THERE stays
whos_of : (ends : List End) → map who_of ends ≡ map (λ (x : Party × Role). x.0) (map part_of ends)
whos_of [] = refl
whos_of (e ∷ es) = ap (λ l. e.who ∷ l) (whos_of es)

pub apart_parts : (ends ends' : List End) → map part_of ends' ≡ map part_of ends → AreApart (Bus ∷ map who_of ends) → AreApart (Bus ∷ map who_of ends')
apart_parts ends ends' same h = subst (λ l. AreApart (Bus ∷ l)) (whos_of ends ∙ ap (map (λ (x : Party × Role). x.0)) (sym same) ∙ sym (whos_of ends')) h

whos_kept : (f : End → End) → ((e : End) → (f e).who ≡ e.who) → (ends : List End) (conn : ℕ) → map who_of (with_end conn f ends) ≡ map who_of ends
whos_kept f same [] zero = refl
whos_kept f same [] (suc conn) = refl
whos_kept f same (e ∷ es) zero = ap (λ p. p ∷ map who_of es) (same e)
whos_kept f same (e ∷ es) (suc conn) = ap (λ l. e.who ∷ l) (whos_kept f same es conn)

pub apart_with : (f : End → End) → ((e : End) → (f e).who ≡ e.who) → (ends ends' : List End) (conn : ℕ) → ends' ≡ with_end conn f ends → AreApart (Bus ∷ map who_of ends) → AreApart (Bus ∷ map who_of ends')
apart_with f same ends ends' conn is h = subst (λ l. AreApart (Bus ∷ l)) (sym (ap (map who_of) is ∙ whos_kept f same ends conn)) h

-- THE CONNECTION of an end's party is its own
differ_at : (p : Party) (ends : List End) (conn : ℕ) (e : End) → AllByRecursion (λ q. same_party p q ≡ false) (map who_of ends) → end_at ends conn ≡ Some e → same_party p e.who ≡ false
differ_at p [] zero e a at = absurd cc
differ_at p [] (suc conn) e a at = absurd cc
differ_at p (x ∷ xs) zero e a at = subst (λ (y : End). same_party p y.who ≡ false) (same_Some x e at) a.0
differ_at p (x ∷ xs) (suc conn) e a at = differ_at p xs conn e a.1 at

place_there : (ends : List End) (conn : ℕ) (e : End) → AreApart (map who_of ends) → end_at ends conn ≡ Some e → place_in e.who ends ≡ conn
place_there [] zero e a at = absurd cc
place_there [] (suc conn) e a at = absurd cc
place_there (x ∷ xs) zero e a at =
    let is : same_party x.who e.who ≡ true = subst (λ (y : End). same_party x.who y.who ≡ true) (same_Some x e at) (own_party x.who) in
    ap (λ b. cond (not b) (1 + place_in e.who xs) 0) is
place_there (x ∷ xs) (suc conn) e a at =
    ap (λ b. cond (not b) (1 + place_in e.who xs) 0) (differ_at x.who xs conn e a.0 at) ∙ ap (λ n. 1 + n) (place_there xs conn e a.1 at) ∙ one_more conn
  where
    one_more : (n : ℕ) → 1 + n ≡ suc n
    one_more n = omega arith

own_conn : (ends : List End) (conn : ℕ) (e : End) → AreApart (map who_of ends) → end_at ends conn ≡ Some e → conn_of ends e.who ≡ Some conn
own_conn ends conn e a at =
    let place = place_there ends conn e a at in
    let few : place_in e.who ends < length ends = subst (λ n. n < length ends) (sym place) (slice_get_within ends conn e at) in
    ap (λ b. cond b (Some (place_in e.who ends)) None) (lt-ltb (place_in e.who ends) (length ends) few) ∙ ap Some place

pub conn_here : (ends : List End) (conn : ℕ) (e : End) (who : Party) → AreApart (Bus ∷ map who_of ends) → end_at ends conn ≡ Some e → e.who ≡ who → conn_of ends who ≡ Some conn
conn_here ends conn e who a at is = ap (conn_of ends) (sym is) ∙ own_conn ends conn e a.1 at

-- no end is the bus's
pub not_bus : (ends : List End) (conn : ℕ) (e : End) → AreApart (Bus ∷ map who_of ends) → end_at ends conn ≡ Some e → e.who ≡ Bus → ⊥
not_bus ends conn e a at is = let clash : true ≡ false = sym (ap (same_party Bus) is) ∙ differ_at Bus ends conn e a.0 at in cc

-- ONE MORE END
more_differ : (p : Party) (ps : List Party) (q : Party) → AllByRecursion (λ x. same_party p x ≡ false) ps → same_party p q ≡ false → AllByRecursion (λ x. same_party p x ≡ false) (ps ++ q ∷ [])
more_differ p [] q a h = (h, tt)
more_differ p (x ∷ xs) q a h = (a.0, more_differ p xs q a.1 h)

apart_behind : (ps : List Party) (q : Party) → AreApart ps → AllByRecursion (λ p. same_party p q ≡ false) ps → AreApart (ps ++ q ∷ [])
apart_behind [] q a h = (tt, tt)
apart_behind (p ∷ ps) q a h = (more_differ p ps q a.0 h.0, apart_behind ps q a.1 h.1)

whos_more : (ends : List End) (n : End) → map who_of (ends ++ n ∷ []) ≡ map who_of ends ++ n.who ∷ []
whos_more [] n = refl
whos_more (e ∷ es) n = ap (λ l. e.who ∷ l) (whos_more es n)

all_whos : (P : Party → Type 0) (ends : List End) → ((conn : ℕ) (e : End) → end_at ends conn ≡ Some e → P e.who) → AllByRecursion P (map who_of ends)
all_whos P [] h = tt
all_whos P (e ∷ es) h = (h 0 e refl, all_whos P es (λ conn x at. h (suc conn) x at))

-- a number behind all that are played is nobody's
module _ {X : Type 0} (kind : ℕ → Party) (Plays : X → Role → Type 0) (xs : List X) (ends : List End) (apart : AreApart (Bus ∷ map who_of ends)) (are : ArePlayed kind Plays xs ends) where
  pub apart_more : (n : End) (ends' : List End) → n.who ≡ kind (length xs) → ((p : Party) → same_party p (kind (length xs)) ≡ true → p ≡ kind (length xs)) → same_party Bus (kind (length xs)) ≡ false → ends' ≡ ends ++ n ∷ []
      → AreApart (Bus ∷ map who_of ends')
  apart_more n ends' who same other is =
      subst (λ l. AreApart (Bus ∷ l)) (sym (ap (map who_of) is ∙ whos_more ends n))
      (apart_behind (Bus ∷ map who_of ends) n.who apart (ap (same_party Bus) who ∙ other, all_whos (λ p. same_party p n.who ≡ false) ends differs))
    where
      nobody : (conn : ℕ) (e : End) → end_at ends conn ≡ Some e → e.who ≡ kind (length xs) → ⊥
      nobody conn e at h =
          let play = are (length xs) e (ap (end_if ends) (conn_here ends conn e (kind (length xs)) apart at h) ∙ at) in
          let few = slice_get_within xs (length xs) play.player play.there in
          omega (arith, few)

      by : (conn : ℕ) (e : End) → end_at ends conn ≡ Some e → (b : Bool) → same_party e.who (kind (length xs)) ≡ b → b ≡ false
      by conn e at false h = refl
      by conn e at true h = absurd (nobody conn e at (same e.who h))

      differs : (conn : ℕ) (e : End) → end_at ends conn ≡ Some e → same_party e.who n.who ≡ false
      differs conn e at = ap (same_party e.who) who ∙ by conn e at (same_party e.who (kind (length xs))) refl
