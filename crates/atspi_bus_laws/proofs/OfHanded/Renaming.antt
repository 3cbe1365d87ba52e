-- One end leaves, or gets its name: the names of ends still differ.
use Rattle.std.proofs.Common.{◌≡◌, ◌≢◌, ◌⊎◌, inl, inr, ℕ, ◌<◌, ◌≤◌, ◌^◌, List, Some, refl, sym, ap, ◌∙◌, subst}
use Rattle.std.specs.List.{AllByRecursion}
use Rattle.std.proofs.lemmas.Option.{same_Some}
use Rattle.atspi_tree_model.specs.Forest.{first_of}
use Rattle.atspi_names.specs.Owners.{Owners, after_gone}
use Rattle.atspi_match.specs.routing.BusState.{unique_of}
use Rattle.atspi_trace.specs.World.{End}
use Rattle.atspi_trace.specs.Ends.{end_at, with_end, leaves}
use Rattle.atspi_trace.specs.Carrying.{left}
use Rattle.atspi_bus_laws.specs.handed.Naming.{IsSigned, HasLeft, IsNamed, AreNamed}
use Rattle.atspi_bus_laws.proofs.OfHanded.Lists.{all_weaker}
use Rattle.atspi_bus_laws.proofs.OfHanded.Uniques.{Goes, gone_here, gone_none, gone_other, none_some, Given, more_given, here_now, there_now, apart}
use Rattle.atspi_bus_laws.proofs.OfHanded.Changing.{at_changed, at_with, none_with, Stays, with_stays}

-- ONE LEAVES
pub left_change : (owners : Owners) (ends : List End) (k : ℕ) → AreNamed owners ends → AreNamed (after_gone owners k) (with_end k leaves ends)
left_change owners ends k h = record {
  each = λ conn e at. each conn e (at_changed leaves ends k conn e at);
  others = λ conn none. gone_none owners k conn (h.others conn (none_with leaves ends k conn none));
  differ = λ i j d e name a b c u. differ i j d e name (at_changed leaves ends k i d a) (at_changed leaves ends k j e b) c u;
  signed = λ conn e at. all_weaker (IsSigned ends) (IsSigned (with_end k leaves ends)) (λ l s. with_stays leaves (λ x. (refl, λ name g. g)) ends k l s) e.down (signed conn e (at_changed leaves ends k conn e at));
}
  where
    each : (conn : ℕ) (e : End) → ((conn ≡ k) × ((x : End) × ((end_at ends conn ≡ Some x) × (e ≡ leaves x)))) ⊎ ((conn ≢ k) × (end_at ends conn ≡ Some e)) → IsNamed (after_gone owners k) conn e
    each conn e (inl a) =
        let x = a.1.0 in
        let was = h.each conn x a.1.1.0 in
        record {
          given = λ name is. was.given name (sym (ap (λ (z : End). z.unique) a.1.1.1) ∙ is);
          known = λ stays. absurd (stays (subst (λ (z : End). HasLeft z.standing) (sym a.1.1.1) tt));
          gone = λ left. ap (unique_of (after_gone owners k)) a.0 ∙ gone_here owners k;
        }
    each conn e (inr b) =
        let was = h.each conn e b.1 in
        record {
          given = was.given;
          known = λ stays. was.known stays ∙ sym (gone_other owners k conn b.0);
          gone = λ left. gone_other owners k conn b.0 ∙ was.gone left;
        }

    back : (conn : ℕ) (e : End) (name : List ℕ) → ((conn ≡ k) × ((x : End) × ((end_at ends conn ≡ Some x) × (e ≡ leaves x)))) ⊎ ((conn ≢ k) × (end_at ends conn ≡ Some e)) → e.unique ≡ Some name
        → (x : End) × ((end_at ends conn ≡ Some x) × (x.unique ≡ Some name))
    back conn e name (inl a) u = (a.1.0, (a.1.1.0, sym (ap (λ (z : End). z.unique) a.1.1.1) ∙ u))
    back conn e name (inr b) u = (e, (b.1, u))

    differ : (i j : ℕ) (d e : End) (name : List ℕ) → ((i ≡ k) × ((x : End) × ((end_at ends i ≡ Some x) × (d ≡ leaves x)))) ⊎ ((i ≢ k) × (end_at ends i ≡ Some d))
        → ((j ≡ k) × ((x : End) × ((end_at ends j ≡ Some x) × (e ≡ leaves x)))) ⊎ ((j ≢ k) × (end_at ends j ≡ Some e)) → d.unique ≡ Some name → e.unique ≡ Some name → i ≡ j
    differ i j d e name a b c u =
        let x = back i d name a c in
        let y = back j e name b u in
        h.differ i j x.0 y.0 name x.1.0 y.1.0 x.1.1 y.1.1

    signed : (conn : ℕ) (e : End) → ((conn ≡ k) × ((x : End) × ((end_at ends conn ≡ Some x) × (e ≡ leaves x)))) ⊎ ((conn ≢ k) × (end_at ends conn ≡ Some e)) → AllByRecursion (IsSigned ends) e.down
    signed conn e (inl a) = subst (λ (z : End). AllByRecursion (IsSigned ends) z.down) (sym a.1.1.1) tt
    signed conn e (inr b) = h.signed conn e b.1

-- the end gets its name, where the bus gave it one
named_stays : (after : Owners) (x y : End) (conn : ℕ) → y.who ≡ x.who → y.unique ≡ first_of x.unique (unique_of after conn) → Stays x y
named_stays after x y conn who unique = (who, λ name h. unique ∙ ap (λ o. first_of o (unique_of after conn)) h)

pub name_change : (o p : Owners) (conn : ℕ) (x : End) (f : End → End) → ((y : End) → ((f y).who ≡ y.who) × ((f y).unique ≡ first_of y.unique (unique_of p conn)) × ((f y).standing ≡ y.standing) × ((f y).down ≡ y.down)) → (ends : List End)
    → Goes conn o p → o.given < 2 ^ 32 → end_at ends conn ≡ Some x → (HasLeft x.standing → ⊥) → AreNamed o ends → AreNamed p (with_end conn f ends)
name_change o p conn x f is_f ends goes small at stays h = record {
  each = λ k e there. each k e (at_changed f ends conn k e there);
  others = λ k none. let nobody = none_with f ends conn k none in there_now o p conn k goes (λ here_. none_some x (sym nobody ∙ ap (end_at ends) here_ ∙ at)) ∙ h.others k nobody;
  differ = λ i j d e name a b c u. differ i j d e name (at_changed f ends conn i d a) (at_changed f ends conn j e b) c u;
  signed = λ k e there. all_weaker (IsSigned ends) (IsSigned (with_end conn f ends)) (λ l s. with_stays f (λ y. named_stays p y (f y) conn (is_f y).0 (is_f y).1) ends conn l s) e.down (signed k e (at_changed f ends conn k e there));
}
  where
    known : x.unique ≡ unique_of o conn
    known = (h.each conn x at).known stays

    now : (first_of x.unique (unique_of p conn) ≡ unique_of p conn) × ((o.given ≤ p.given) × (Given o.given x.unique → Given p.given (unique_of p conn)))
    now = here_now o p conn x goes ((h.each conn x at).known stays)

    same_end : (k : ℕ) (y : End) → k ≡ conn → end_at ends k ≡ Some y → y ≡ x
    same_end k y here_ there = same_Some y x (sym there ∙ ap (end_at ends) here_ ∙ at)

    each : (k : ℕ) (e : End) → ((k ≡ conn) × ((y : End) × ((end_at ends k ≡ Some y) × (e ≡ f y)))) ⊎ ((k ≢ conn) × (end_at ends k ≡ Some e)) → IsNamed p k e
    each k e (inl a) =
        let y = a.1.0 in
        let it : y ≡ x = same_end k y a.0 a.1.1.0 in
        let unique : e.unique ≡ unique_of p conn = ap (λ (z : End). z.unique) a.1.1.1 ∙ (is_f y).1 ∙ ap (λ (z : End). first_of z.unique (unique_of p conn)) it ∙ now.0 in
        let standing : e.standing ≡ x.standing = ap (λ (z : End). z.standing) a.1.1.1 ∙ (is_f y).2 ∙ ap (λ (z : End). z.standing) it in
        record {
          given = λ name is. now.1.1 ((h.each conn x at).given) name (sym unique ∙ is);
          known = λ s. unique ∙ ap (unique_of p) (sym a.0);
          gone = λ left. absurd (stays (subst HasLeft standing left));
        }
    each k e (inr b) =
        let was = h.each k e b.1 in
        record {
          given = more_given o.given p.given e.unique now.1.0 was.given;
          known = λ s. was.known s ∙ sym (there_now o p conn k goes b.0);
          gone = λ left. there_now o p conn k goes b.0 ∙ was.gone left;
        }

    unique_here : (k : ℕ) (e : End) → (k ≡ conn) × ((y : End) × ((end_at ends k ≡ Some y) × (e ≡ f y))) → e.unique ≡ unique_of p conn
    unique_here k e a =
        ap (λ (z : End). z.unique) a.1.1.1 ∙ (is_f a.1.0).1 ∙ ap (λ (z : End). first_of z.unique (unique_of p conn)) (same_end k a.1.0 a.0 a.1.1.0) ∙ now.0

    differ : (i j : ℕ) (d e : End) (name : List ℕ) → ((i ≡ conn) × ((y : End) × ((end_at ends i ≡ Some y) × (d ≡ f y)))) ⊎ ((i ≢ conn) × (end_at ends i ≡ Some d))
        → ((j ≡ conn) × ((y : End) × ((end_at ends j ≡ Some y) × (e ≡ f y)))) ⊎ ((j ≢ conn) × (end_at ends j ≡ Some e)) → d.unique ≡ Some name → e.unique ≡ Some name → i ≡ j
    differ i j d e name (inl a) (inl b) c u = a.0 ∙ sym b.0
    differ i j d e name (inr a) (inr b) c u = h.differ i j d e name a.1 b.1 c u
    differ i j d e name (inl a) (inr b) c u =
        a.0 ∙ h.differ conn j x e name at b.1 (apart o p conn x name goes known small (sym (unique_here i d a) ∙ c) e.unique ((h.each j e b.1).given) u) u
    differ i j d e name (inr a) (inl b) c u =
        h.differ i conn d x name a.1 at c (apart o p conn x name goes known small (sym (unique_here j e b) ∙ u) d.unique ((h.each i d a.1).given) c) ∙ sym b.0

    signed : (k : ℕ) (e : End) → ((k ≡ conn) × ((y : End) × ((end_at ends k ≡ Some y) × (e ≡ f y)))) ⊎ ((k ≢ conn) × (end_at ends k ≡ Some e)) → AllByRecursion (IsSigned ends) e.down
    signed k e (inl a) = subst (AllByRecursion (IsSigned ends)) (sym (ap (λ (z : End). z.down) a.1.1.1 ∙ (is_f a.1.0).3)) (h.signed k a.1.0 a.1.1.0)
    signed k e (inr b) = h.signed k e b.1

-- the same end behind a change that keeps where it stands
pub quiet_at : (f : End → End) → ((x : End) → (f x).standing ≡ x.standing) → (ends : List End) (k conn : ℕ) (x : End) → end_at ends conn ≡ Some x → (HasLeft x.standing → ⊥)
    → (y : End) × ((end_at (with_end k f ends) conn ≡ Some y) × (HasLeft y.standing → ⊥))
quiet_at f g ends k conn x at stays = let t = at_with f ends k conn x at in (t.0, (t.1.0, λ left. stays (by t.0 t.1.1 left)))
  where
    by : (y : End) → ((y ≡ x) ⊎ (y ≡ f x)) → HasLeft y.standing → HasLeft x.standing
    by y (inl same) left = subst (λ (z : End). HasLeft z.standing) same left
    by y (inr same) left = subst HasLeft (g x) (subst (λ (z : End). HasLeft z.standing) same left)
