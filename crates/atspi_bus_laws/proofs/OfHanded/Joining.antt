-- A bus to which nobody has joined, and an end that joins: it has no name yet, and the names of ends still differ.
use Rattle.std.proofs.Common.{◌≡◌, ◌⊎◌, inl, inr, ℕ, zero, suc, ◌≤◌, List, [], ◌∷◌, ◌++◌, None, Some, refl, sym, ap, ◌∙◌, subst, arith}
use Rattle.std.specs.Prelude.{unwrap_or}
use Rattle.std.specs.List.{AllByRecursion}
use Rattle.std.specs.FinMap.{get-empty}
use Rattle.std.specs.Ordering.{nat_cmp}
use Rattle.std.specs.Cmp.Lexicographic.{slice_cmp}
use Rattle.std.proofs.lemmas.Option.{same_Some}
use Rattle.atspi_script_lines.specs.declared.line.Party.{Party}
use Rattle.atspi_names.specs.Owners.{Owners, nobody}
use Rattle.atspi_bus_laws.proofs.OfOwners.Steps.{orderly-nobody}
use Rattle.atspi_match.specs.routing.Queues.{empty_bus}
use Rattle.atspi_trace.specs.World.{Role, Said, Letter, End, newcomer}
use Rattle.atspi_trace.specs.Ends.{end_at, put_up}
use Rattle.atspi_bus_laws.specs.handed.Handing.{HandsLetters}
use Rattle.atspi_bus_laws.specs.handed.Naming.{IsSigned, IsNamed, AreNamed}
use Rattle.atspi_bus_laws.proofs.OfHanded.Changing.{letter_stays}
use Rattle.atspi_bus_laws.proofs.OfHanded.Lists.{all_weaker}
use Rattle.atspi_bus_laws.proofs.OfHanded.Uniques.{none_some}

-- nobody has joined
pub empty_hands : (quota : ℕ) → quota ≤ 67108864 → HandsLetters (record { bus = empty_bus quota; ends = [] })
empty_hands quota few = record {
  quota = few;
  known = record {
    orderly = orderly-nobody;
    named = λ name other. ap (λ o. unwrap_or o []) (get-empty (slice_cmp nat_cmp) name);
    no_empty = λ name h. none_some [] (sym (get-empty (slice_cmp nat_cmp) name) ∙ h);
    serials = tt;
    first = omega arith;
    given = omega arith;
  };
  letters = tt;
}

pub empty_named : AreNamed nobody []
empty_named = record {
  each = λ conn e at. none conn e at;
  others = λ conn h. get-empty nat_cmp conn;
  differ = λ j k d e name a b c u. none j d a;
  signed = λ conn e at. none conn e at;
}
  where
    none : {A : Type 0} (conn : ℕ) (e : End) → end_at [] conn ≡ Some e → A
    none zero e h = absurd (none_some e h)
    none (suc conn) e h = absurd (none_some e h)

-- which end stands at a connection, where one joined
at_joined : (ends : List End) (n : End) (conn : ℕ) (e : End) → end_at (ends ++ n ∷ []) conn ≡ Some e → (end_at ends conn ≡ Some e) ⊎ ((end_at ends conn ≡ None) × (e ≡ n))
at_joined [] n zero e h = inr (refl, sym (same_Some n e h))
at_joined [] n (suc zero) e h = absurd (none_some e h)
at_joined [] n (suc (suc conn)) e h = absurd (none_some e h)
at_joined (x ∷ xs) n zero e h = inl h
at_joined (x ∷ xs) n (suc conn) e h = at_joined xs n conn e h

still_at : (ends more : List End) (conn : ℕ) (e : End) → end_at ends conn ≡ Some e → end_at (ends ++ more) conn ≡ Some e
still_at [] more zero e h = absurd (none_some e h)
still_at [] more (suc conn) e h = absurd (none_some e h)
still_at (x ∷ xs) more zero e h = h
still_at (x ∷ xs) more (suc conn) e h = still_at xs more conn e h

none_before : (ends more : List End) (conn : ℕ) → end_at (ends ++ more) conn ≡ None → end_at ends conn ≡ None
none_before [] more zero h = refl
none_before [] more (suc conn) h = refl
none_before (x ∷ xs) more zero h = absurd (none_some x (sym h))
none_before (x ∷ xs) more (suc conn) h = none_before xs more conn h

-- ONE JOINS
pub joined_named : (owners : Owners) (ends : List End) (who : Party) (role : Role) (saids : List Said) → AreNamed owners ends → AreNamed owners (ends ++ put_up saids (newcomer who role) ∷ [])
joined_named owners ends who role saids h = record {
  each = λ conn e at. each conn e (at_joined ends n conn e at);
  others = λ conn none. h.others conn (none_before ends (n ∷ []) conn none);
  differ = λ i j d e name a b c u. differ i j d e name (at_joined ends n i d a) (at_joined ends n j e b) c u;
  signed = λ conn e at. all_weaker (IsSigned ends) (IsSigned (ends ++ n ∷ [])) (λ l s. more l s) e.down (signed conn e (at_joined ends n conn e at));
}
  where
    n : End
    n = put_up saids (newcomer who role)

    unnamed : (e : End) (name : List ℕ) → e ≡ n → e.unique ≡ Some name → ⊥
    unnamed e name is u = none_some name (sym (ap (λ (z : End). z.unique) is) ∙ u)

    each : (conn : ℕ) (e : End) → (end_at ends conn ≡ Some e) ⊎ ((end_at ends conn ≡ None) × (e ≡ n)) → IsNamed owners conn e
    each conn e (inl there) = h.each conn e there
    each conn e (inr new) = record {
      given = λ name u. absurd (unnamed e name new.1 u);
      known = λ stays. ap (λ (z : End). z.unique) new.1 ∙ sym (h.others conn new.0);
      gone = λ left. h.others conn new.0;
    }

    differ : (i j : ℕ) (d e : End) (name : List ℕ) → (end_at ends i ≡ Some d) ⊎ ((end_at ends i ≡ None) × (d ≡ n)) → (end_at ends j ≡ Some e) ⊎ ((end_at ends j ≡ None) × (e ≡ n)) → d.unique ≡ Some name
        → e.unique ≡ Some name → i ≡ j
    differ i j d e name (inl a) (inl b) c u = h.differ i j d e name a b c u
    differ i j d e name (inr a) b c u = absurd (unnamed d name a.1 c)
    differ i j d e name (inl a) (inr b) c u = absurd (unnamed e name b.1 u)

    more : (l : Letter) → IsSigned ends l → IsSigned (ends ++ n ∷ []) l
    more l s = letter_stays ends (ends ++ n ∷ []) l (λ k x at. (x, (still_at ends (n ∷ []) k x at, (refl, λ name u. u)))) s

    signed : (conn : ℕ) (e : End) → (end_at ends conn ≡ Some e) ⊎ ((end_at ends conn ≡ None) × (e ≡ n)) → AllByRecursion (IsSigned ends) e.down
    signed conn e (inl there) = h.signed conn e there
    signed conn e (inr new) = subst (λ (z : End). AllByRecursion (IsSigned ends) z.down) (sym new.1) tt
