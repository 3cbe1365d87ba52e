-- One end changes, and neither its names nor its standing: the names of ends still differ.
use Rattle.std.proofs.Common.{◌≡◌, ◌≢◌, ◌⊎◌, inl, inr, ℕ, zero, suc, List, [], ◌∷◌, Option, None, Some, refl, sym, ap, ◌∙◌, subst, arith}
use Rattle.std.specs.List.{AllByRecursion}
use Rattle.std.proofs.lemmas.Option.{same_Some}
use Rattle.atspi_names.specs.Owners.{Owners}
use Rattle.atspi_trace.specs.World.{Letter, End}
use Rattle.atspi_trace.specs.Ends.{end_at, with_end, put_down, taken_up, stops}
use Rattle.atspi_bus_laws.specs.handed.Naming.{IsSigned, HasLeft, IsNamed, AreNamed}
use Rattle.atspi_bus_laws.proofs.OfHanded.Lists.{all_append, all_weaker}
use Rattle.atspi_bus_laws.proofs.OfHanded.Uniques.{none_some}

-- which end stands at a connection, where one changes
pub at_changed : (f : End → End) (ends : List End) (k conn : ℕ) (e : End) → end_at (with_end k f ends) conn ≡ Some e
    → ((conn ≡ k) × ((x : End) × ((end_at ends conn ≡ Some x) × (e ≡ f x)))) ⊎ ((conn ≢ k) × (end_at ends conn ≡ Some e))
at_changed f [] zero zero e h = absurd cc
at_changed f [] zero (suc conn) e h = absurd cc
at_changed f [] (suc k) zero e h = absurd cc
at_changed f [] (suc k) (suc conn) e h = absurd cc
at_changed f (x ∷ xs) zero zero e h = inl (refl, (x, (refl, sym (same_Some (f x) e h))))
at_changed f (x ∷ xs) zero (suc conn) e h = inr ((λ q. omega (arith, q)), h)
at_changed f (x ∷ xs) (suc k) zero e h = inr ((λ q. omega (arith, q)), h)
at_changed f (x ∷ xs) (suc k) (suc conn) e h = by (at_changed f xs k conn e h)
  where
    by : ((conn ≡ k) × ((y : End) × ((end_at xs conn ≡ Some y) × (e ≡ f y)))) ⊎ ((conn ≢ k) × (end_at xs conn ≡ Some e))
        → ((suc conn ≡ suc k) × ((y : End) × ((end_at xs conn ≡ Some y) × (e ≡ f y)))) ⊎ ((suc conn ≢ suc k) × (end_at xs conn ≡ Some e))
    by (inl a) = inl (ap suc a.0, a.1)
    by (inr b) = inr ((λ q. b.0 (omega (arith, q))), b.1)

pub at_with : (f : End → End) (ends : List End) (k conn : ℕ) (x : End) → end_at ends conn ≡ Some x → (y : End) × ((end_at (with_end k f ends) conn ≡ Some y) × ((y ≡ x) ⊎ (y ≡ f x)))
at_with f [] zero zero x h = absurd cc
at_with f [] zero (suc conn) x h = absurd cc
at_with f [] (suc k) zero x h = absurd cc
at_with f [] (suc k) (suc conn) x h = absurd cc
at_with f (z ∷ zs) zero zero x h = (f z, (refl, inr (ap f (same_Some z x h))))
at_with f (z ∷ zs) zero (suc conn) x h = (x, (h, inl refl))
at_with f (z ∷ zs) (suc k) zero x h = (z, (refl, inl (same_Some z x h)))
at_with f (z ∷ zs) (suc k) (suc conn) x h = at_with f zs k conn x h

-- a change makes no end
pub none_with : (f : End → End) (ends : List End) (k conn : ℕ) → end_at (with_end k f ends) conn ≡ None → end_at ends conn ≡ None
none_with f ends k conn none = by (end_at ends conn) refl
  where
    by : (o : Option End) → end_at ends conn ≡ o → o ≡ None
    by None at = refl
    by (Some x) at = let y = at_with f ends k conn x at in absurd (none_some y.0 (sym none ∙ y.1.0))

-- an end keeps who it is and the name that it has
abbrev pub Stays : End → End → Type 0
Stays x y = (y.who ≡ x.who) × ((name : List ℕ) → x.unique ≡ Some name → y.unique ≡ Some name)

pub letter_stays : (xs ys : List End) (l : Letter) → ((k : ℕ) (x : End) → end_at xs k ≡ Some x → (y : End) × ((end_at ys k ≡ Some y) × Stays x y)) → IsSigned xs l → IsSigned ys l
letter_stays xs ys l f (inl own) = inl own
letter_stays xs ys l f (inr i) =
    let now = f i.conn i.sender i.there in
    inr (record { conn = i.conn; sender = now.0; there = now.1.0; from = i.from ∙ sym now.1.1.0; name = i.name; unique = now.1.1.1 i.name i.unique; bears = i.bears })

either_stays : (x y z : End) → Stays x z → ((y ≡ x) ⊎ (y ≡ z)) → Stays x y
either_stays x y z g (inl same) = (ap (λ (v : End). v.who) same, λ name h. ap (λ (v : End). v.unique) same ∙ h)
either_stays x y z g (inr same) = (ap (λ (v : End). v.who) same ∙ g.0, λ name h. ap (λ (v : End). v.unique) same ∙ g.1 name h)

pub stays_at : (f : End → End) → ((x : End) → Stays x (f x)) → (ends : List End) (k conn : ℕ) (x : End) → end_at ends conn ≡ Some x → (y : End) × ((end_at (with_end k f ends) conn ≡ Some y) × Stays x y)
stays_at f g ends k conn x at = let t = at_with f ends k conn x at in (t.0, (t.1.0, either_stays x t.0 (f x) (g x) t.1.1))

pub with_stays : (f : End → End) → ((x : End) → Stays x (f x)) → (ends : List End) (k : ℕ) (l : Letter) → IsSigned ends l → IsSigned (with_end k f ends) l
with_stays f g ends k l h = letter_stays ends (with_end k f ends) l (λ conn x at. stays_at f g ends k conn x at) h

-- one that keeps whether it left, too
abbrev pub KeepsNames : (End → End) → Type 0
KeepsNames f = (x : End) → ((f x).who ≡ x.who) × ((f x).unique ≡ x.unique)

abbrev pub LeftAlike : End → End → Type 0
LeftAlike x y = (HasLeft y.standing → HasLeft x.standing) × (HasLeft x.standing → HasLeft y.standing)

names_stay : (f : End → End) → KeepsNames f → (x : End) → Stays x (f x)
names_stay f q x = ((q x).0, λ name h. (q x).1 ∙ h)

kept_named : (owners : Owners) (conn : ℕ) (x e : End) → e.unique ≡ x.unique → LeftAlike x e → IsNamed owners conn x → IsNamed owners conn e
kept_named owners conn x e unique alike h = record {
  given = λ name is. h.given name (sym unique ∙ is);
  known = λ stays. unique ∙ h.known (λ left. stays (alike.1 left));
  gone = λ left. h.gone (alike.0 left);
}

-- one end changes, and neither its names nor whether it left
pub kept_change : (f : End → End) → KeepsNames f → (owners : Owners) (ends : List End) (k : ℕ) → ((x : End) → end_at ends k ≡ Some x → LeftAlike x (f x))
    → ((x : End) → AllByRecursion (IsSigned ends) x.down → AllByRecursion (IsSigned ends) (f x).down) → AreNamed owners ends → AreNamed owners (with_end k f ends)
kept_change f q owners ends k alike down h = record {
  each = λ conn e at. each conn e (at_changed f ends k conn e at);
  others = λ conn none. h.others conn (none_with f ends k conn none);
  differ = λ i j d e name a b c u. differ i j d e name (at_changed f ends k i d a) (at_changed f ends k j e b) c u;
  signed = λ conn e at. all_weaker (IsSigned ends) (IsSigned (with_end k f ends)) (λ l s. with_stays f (names_stay f q) ends k l s) e.down (signed conn e (at_changed f ends k conn e at));
}
  where
    each : (conn : ℕ) (e : End) → ((conn ≡ k) × ((x : End) × ((end_at ends conn ≡ Some x) × (e ≡ f x)))) ⊎ ((conn ≢ k) × (end_at ends conn ≡ Some e)) → IsNamed owners conn e
    each conn e (inl a) =
        let x = a.1.0 in
        kept_named owners conn x e (ap (λ (z : End). z.unique) a.1.1.1 ∙ (q x).1) (subst (LeftAlike x) (sym a.1.1.1) (alike x (ap (end_at ends) (sym a.0) ∙ a.1.1.0))) (h.each conn x a.1.1.0)
    each conn e (inr b) = h.each conn e b.1

    back : (conn : ℕ) (e : End) (name : List ℕ) → ((conn ≡ k) × ((x : End) × ((end_at ends conn ≡ Some x) × (e ≡ f x)))) ⊎ ((conn ≢ k) × (end_at ends conn ≡ Some e)) → e.unique ≡ Some name
        → (x : End) × ((end_at ends conn ≡ Some x) × (x.unique ≡ Some name))
    back conn e name (inl a) u = (a.1.0, (a.1.1.0, sym ((q a.1.0).1) ∙ sym (ap (λ (z : End). z.unique) a.1.1.1) ∙ u))
    back conn e name (inr b) u = (e, (b.1, u))

    differ : (i j : ℕ) (d e : End) (name : List ℕ) → ((i ≡ k) × ((x : End) × ((end_at ends i ≡ Some x) × (d ≡ f x)))) ⊎ ((i ≢ k) × (end_at ends i ≡ Some d))
        → ((j ≡ k) × ((x : End) × ((end_at ends j ≡ Some x) × (e ≡ f x)))) ⊎ ((j ≢ k) × (end_at ends j ≡ Some e)) → d.unique ≡ Some name → e.unique ≡ Some name → i ≡ j
    differ i j d e name a b c u =
        let x = back i d name a c in
        let y = back j e name b u in
        h.differ i j x.0 y.0 name x.1.0 y.1.0 x.1.1 y.1.1

    signed : (conn : ℕ) (e : End) → ((conn ≡ k) × ((x : End) × ((end_at ends conn ≡ Some x) × (e ≡ f x)))) ⊎ ((conn ≢ k) × (end_at ends conn ≡ Some e)) → AllByRecursion (IsSigned ends) e.down
    signed conn e (inl a) = subst (λ (z : End). AllByRecursion (IsSigned ends) z.down) (sym a.1.1.1) (down a.1.0 (h.signed conn a.1.0 a.1.1.0))
    signed conn e (inr b) = h.signed conn e b.1

-- its standing stays
abbrev pub IsQuiet : (End → End) → Type 0
IsQuiet f = (x : End) → ((f x).who ≡ x.who) × ((f x).unique ≡ x.unique) × ((f x).standing ≡ x.standing)

pub quiet_stays : (f : End → End) → IsQuiet f → (x : End) → Stays x (f x)
quiet_stays f q x = ((q x).0, λ name h. (q x).1 ∙ h)

pub quiet_change : (f : End → End) → IsQuiet f → (owners : Owners) (ends : List End) (k : ℕ) → ((x : End) → AllByRecursion (IsSigned ends) x.down → AllByRecursion (IsSigned ends) (f x).down) → AreNamed owners ends
    → AreNamed owners (with_end k f ends)
quiet_change f q owners ends k down h =
    kept_change f (λ x. ((q x).0, (q x).1)) owners ends k (λ x at. (λ left. subst HasLeft (q x).2 left, λ left. subst HasLeft (sym (q x).2) left)) down h

-- one that has not left stops
pub stopped_named : (owners : Owners) (ends : List End) (k : ℕ) (x : End) → end_at ends k ≡ Some x → (HasLeft x.standing → ⊥) → AreNamed owners ends → AreNamed owners (with_end k stops ends)
stopped_named owners ends k x at stays h =
    kept_change stops (λ y. (refl, refl)) owners ends k (λ y there. (λ left. absurd left, λ left. absurd (stays (subst (λ (z : End). HasLeft z.standing) (same_Some y x (sym there ∙ at)) left)))) (λ y a. a) h

pub put_quiet : (l : Letter) → IsQuiet (put_down l)
put_quiet l x = (refl, refl, refl)

pub up_quiet : IsQuiet taken_up
up_quiet x = (refl, refl, refl)

pub put_signed : (ends : List End) (l : Letter) → IsSigned ends l → (x : End) → AllByRecursion (IsSigned ends) x.down → AllByRecursion (IsSigned ends) (put_down l x).down
put_signed ends l s x a = all_append (IsSigned ends) x.down (l ∷ []) a (s, tt)
