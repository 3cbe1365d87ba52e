-- The application with a name, after each change of the list.
use Rattle.std.proofs.Common.{◌≡◌, ℕ, Bool, true, false, cond, not, List, [], ◌∷◌, ◌++◌, filter, Option, Some, None, refl, sym, ap, subst, ◌∙◌, inl, inr}
use Rattle.std.specs.Prelude.{◌&&◌, ◌⊎◌, bytes_eq, if◌then◌else◌}
use Rattle.std.specs.List.{fold, list_any}
use Rattle.std.specs.Option.{option_map}
use Rattle.std.proofs.lemmas.Slice.Eq.{bytes_eq-Decides}
use Rattle.atspi_tree_model.specs.declared.news.Reference.{Reference}
use Rattle.atspi_protocol.specs.following.ReaderState.{Followed, is_named}
use Rattle.atspi_protocol.specs.following.Replied.{changed}
use Rattle.atspi_protocol.specs.following.Known.{is_connection, unasked, made_known}
use Rattle.atspi_protocol.specs.following.Takes.{found_in}

-- the others of a name that is another's
other_name : (n name : List ℕ) (app : Followed) → bytes_eq n name ≡ false → is_named n app ≡ true → is_named name app ≡ false
other_name n name app other e = ap (λ (m : List ℕ). bytes_eq m name) ((bytes_eq-Decides app.name n).0 e) ∙ other

module _ (change : Followed → Followed) (keeps : (app : Followed) → (change app).name ≡ app.name) where
  pub changed_it : (name : List ℕ) (apps : List Followed) → found_in name (changed change name apps) ≡ option_map change (found_in name apps)
  changed_it name [] = refl
  changed_it name (app ∷ apps) = by (is_named name app) refl (changed_it name apps)
    where
      by : (b : Bool) → is_named name app ≡ b → found_in name (changed change name apps) ≡ option_map change (found_in name apps)
          → found_in name ((if b then change app else app) ∷ changed change name apps) ≡ option_map change (if b then Some app else found_in name apps)
      by true e h = ap (λ (n : List ℕ). if bytes_eq n name then Some (change app) else found_in name (changed change name apps)) (keeps app)
          ∙ ap (λ (b : Bool). if b then Some (change app) else found_in name (changed change name apps)) e
      by false e h = ap (λ (b : Bool). if b then Some app else found_in name (changed change name apps)) e ∙ h

  changed_other : (n name : List ℕ) (apps : List Followed) → bytes_eq n name ≡ false → found_in name (changed change n apps) ≡ found_in name apps
  changed_other n name [] other = refl
  changed_other n name (app ∷ apps) other = by (is_named n app) refl (changed_other n name apps other)
    where
      by : (b : Bool) → is_named n app ≡ b → found_in name (changed change n apps) ≡ found_in name apps
          → found_in name ((if b then change app else app) ∷ changed change n apps) ≡ (if is_named name app then Some app else found_in name apps)
      by true e rest =
          let none : is_named name app ≡ false = other_name n name app other e in
          ap (λ (m : List ℕ). if bytes_eq m name then Some (change app) else found_in name (changed change n apps)) (keeps app)
          ∙ ap (λ (b : Bool). if b then Some (change app) else found_in name (changed change n apps)) none ∙ rest
          ∙ sym (ap (λ (b : Bool). if b then Some app else found_in name apps) none)
      by false e rest = ap (λ (o : Option Followed). if is_named name app then Some app else o) rest

  -- of the applications with a name one that keeps it was made
  pub found_changed : (P : Option Followed → Type 0) (n name : List ℕ) (apps : List Followed) → (n ≡ name → P (option_map change (found_in name apps))) → P (found_in name apps)
      → P (found_in name (changed change n apps))
  found_changed P n name apps itself another = by (bytes_eq n name) refl
    where
      by : (b : Bool) → bytes_eq n name ≡ b → P (found_in name (changed change n apps))
      by true e =
          let same : n ≡ name = (bytes_eq-Decides n name).0 e in
          subst (λ (m : List ℕ). P (found_in name (changed change m apps))) (sym same) (subst P (sym (changed_it name apps)) (itself same))
      by false e = subst P (sym (changed_other n name apps e)) another

-- those of a name are left out
pub without_it : (name : List ℕ) (apps : List Followed) → found_in name (filter (λ app. not (is_named name app)) apps) ≡ None
without_it name [] = refl
without_it name (app ∷ apps) = by (is_named name app) refl (without_it name apps)
  where
    rest : List Followed
    rest = filter (λ a. not (is_named name a)) apps

    by : (b : Bool) → is_named name app ≡ b → found_in name rest ≡ None → found_in name (cond (not b) (app ∷ rest) rest) ≡ None
    by true e h = h
    by false e h = ap (λ (t : Bool). if t then Some app else found_in name rest) e ∙ h

without_other : (n name : List ℕ) (apps : List Followed) → bytes_eq n name ≡ false → found_in name (filter (λ app. not (is_named n app)) apps) ≡ found_in name apps
without_other n name [] other = refl
without_other n name (app ∷ apps) other = by (is_named n app) refl (without_other n name apps other)
  where
    rest : List Followed
    rest = filter (λ a. not (is_named n a)) apps

    by : (b : Bool) → is_named n app ≡ b → found_in name rest ≡ found_in name apps → found_in name (cond (not b) (app ∷ rest) rest) ≡ (if is_named name app then Some app else found_in name apps)
    by true e same = same ∙ sym (ap (λ (b : Bool). if b then Some app else found_in name apps) (other_name n name app other e))
    by false e same = ap (λ (o : Option Followed). if is_named name app then Some app else o) same

pub found_without : (P : Option Followed → Type 0) (n name : List ℕ) (apps : List Followed) → (n ≡ name → P None) → P (found_in name apps)
    → P (found_in name (filter (λ app. not (is_named n app)) apps))
found_without P n name apps itself another = by (bytes_eq n name) refl
  where
    by : (b : Bool) → bytes_eq n name ≡ b → P (found_in name (filter (λ app. not (is_named n app)) apps))
    by true e =
        let same : n ≡ name = (bytes_eq-Decides n name).0 e in
        subst (λ (m : List ℕ). P (found_in name (filter (λ app. not (is_named m app)) apps))) (sym same) (subst P (sym (without_it name apps)) (itself same))
    by false e = subst P (sym (without_other n name apps e)) another

-- one is put behind
pub found_before : (name : List ℕ) (apps : List Followed) (app last : Followed) → found_in name apps ≡ Some app → found_in name (apps ++ last ∷ []) ≡ Some app
found_before name [] app last e = absurd cc
found_before name (a ∷ apps) app last e = by (is_named name a) e (found_before name apps app last)
  where
    by : (b : Bool) → (if b then Some a else found_in name apps) ≡ Some app → (found_in name apps ≡ Some app → found_in name (apps ++ last ∷ []) ≡ Some app)
        → (if b then Some a else found_in name (apps ++ last ∷ [])) ≡ Some app
    by true e h = e
    by false e h = h e

pub found_last : (name : List ℕ) (apps : List Followed) (last : Followed) → found_in name apps ≡ None → found_in name (apps ++ last ∷ []) ≡ (if is_named name last then Some last else None)
found_last name [] last e = refl
found_last name (a ∷ apps) last e = by (is_named name a) e (found_last name apps last)
  where
    by : (b : Bool) → (if b then Some a else found_in name apps) ≡ None
        → (found_in name apps ≡ None → found_in name (apps ++ last ∷ []) ≡ (if is_named name last then Some last else None))
        → (if b then Some a else found_in name (apps ++ last ∷ [])) ≡ (if is_named name last then Some last else None)
    by true e h = absurd cc
    by false e h = h e

-- What is found is as it was; or nothing was, and now it is an application that became known.
abbrev pub IsAsBefore : Option Followed → Option Followed → Type 0
IsAsBefore old now = (now ≡ old) ⊎ ((old ≡ None) × (root : Reference) × (now ≡ Some (unasked root)))

pub found_made : (name : List ℕ) (apps : List Followed) (root : Reference) → IsAsBefore (found_in name apps) (found_in name (made_known apps root))
found_made name apps root = by (is_connection root.bus && not (list_any (is_named root.bus) apps)) (found_in name apps) refl
  where
    at_end : (b : Bool) → found_in name apps ≡ None → found_in name (apps ++ unasked root ∷ []) ≡ (if b then Some (unasked root) else None)
        → IsAsBefore (found_in name apps) (found_in name (apps ++ unasked root ∷ []))
    at_end true old now = inr (old, root, now)
    at_end false old now = inl (now ∙ sym old)

    by : (b : Bool) (o : Option Followed) → found_in name apps ≡ o → IsAsBefore (found_in name apps) (found_in name (if b then apps ++ unasked root ∷ [] else apps))
    by false o e = inl refl
    by true (Some app) e = inl (found_before name apps app (unasked root) e ∙ sym e)
    by true None e = at_end (is_named name (unasked root)) e (found_last name apps (unasked root) e)

as_before_then : (a b c : Option Followed) → IsAsBefore a b → IsAsBefore b c → IsAsBefore a c
as_before_then a b c (inl p) (inl q) = inl (q ∙ p)
as_before_then a b c (inl p) (inr q) = inr (sym p ∙ q.0, q.1, q.2)
as_before_then a b c (inr p) (inl q) = inr (p.0, p.1, q ∙ p.2)
as_before_then a b c (inr p) (inr q) = inr (p.0, q.1, q.2)

pub found_all_made : (name : List ℕ) (apps : List Followed) (roots : List Reference) → IsAsBefore (found_in name apps) (found_in name (fold made_known apps roots))
found_all_made name apps [] = inl refl
found_all_made name apps (root ∷ roots) =
    as_before_then (found_in name apps) (found_in name (made_known apps root)) (found_in name (fold made_known (made_known apps root) roots))
    (found_made name apps root) (found_all_made name (made_known apps root) roots)
