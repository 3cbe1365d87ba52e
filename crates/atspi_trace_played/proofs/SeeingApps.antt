-- A reader's applications, looked up by name, after each change of them.
use Rattle.std.proofs.Common.{◌≡◌, ◌⊎◌, inl, inr, ℕ, Bool, true, false, List, [], ◌∷◌, ◌++◌, Option, None, Some, refl, sym, ap, ◌∙◌, subst}
use Rattle.std.specs.Prelude.{◌&&◌, ◌||◌, not, bytes_eq, filter, option_map, if◌then◌else◌}
use Rattle.std.specs.List.{AllByRecursion, list_any, fold}
use Rattle.std.proofs.lemmas.Slice.Eq.{bytes_eq-Decides}
use Rattle.atspi_tree_model.specs.declared.news.Reference.{Reference}
use Rattle.atspi_protocol.specs.following.ReaderState.{Followed, is_named}
use Rattle.atspi_protocol.specs.following.Known.{is_connection, unasked, made_known}
use Rattle.atspi_protocol.specs.following.Replied.{changed}
use Rattle.atspi_protocol.specs.following.Takes.{found_in}
use Rattle.atspi_trace_laws.proofs.OfOrder.Parties.{no_none, same_some, false_true, all_append}
use Rattle.atspi_trace_played.proofs.Facts.{AreDistinct}

-- names
pub named_same : (a : List ℕ) → bytes_eq a a ≡ true
named_same a = (bytes_eq-Decides a a).1 refl

pub named_apart : (a b : List ℕ) → (a ≡ b → ⊥) → bytes_eq a b ≡ false
named_apart a b differ = by (bytes_eq a b) refl
  where
    by : (t : Bool) → bytes_eq a b ≡ t → t ≡ false
    by true h = absurd (differ ((bytes_eq-Decides a b).0 h))
    by false h = refl

-- what keeps names
abbrev pub KeepsNames : (Followed → Followed) → Type 0
KeepsNames change = (g : Followed) → (change g).name ≡ g.name

-- one that changes
pub found_it : (change : Followed → Followed) (x : List ℕ) (apps : List Followed) → KeepsNames change → found_in x (changed change x apps) ≡ option_map change (found_in x apps)
found_it change x [] keeps = refl
found_it change x (g ∷ gs) keeps = by (bytes_eq g.name x) refl (found_it change x gs keeps)
  where
    by : (t : Bool) → bytes_eq g.name x ≡ t → found_in x (changed change x gs) ≡ option_map change (found_in x gs)
        → found_in x ((if t then change g else g) ∷ changed change x gs) ≡ option_map change (if t then Some g else found_in x gs)
    by true h ih = ap (λ n. if bytes_eq n x then Some (change g) else found_in x (changed change x gs)) (keeps g) ∙ ap (λ t. if t then Some (change g) else found_in x (changed change x gs)) h
    by false h ih = ap (λ t. if t then Some g else found_in x (changed change x gs)) h ∙ ih

pub found_other : (change : Followed → Followed) (n x : List ℕ) (apps : List Followed) → KeepsNames change → (n ≡ x → ⊥) → found_in x (changed change n apps) ≡ found_in x apps
found_other change n x [] keeps differ = refl
found_other change n x (g ∷ gs) keeps differ = by (bytes_eq g.name n) refl (found_other change n x gs keeps differ)
  where
    by : (t : Bool) → bytes_eq g.name n ≡ t → found_in x (changed change n gs) ≡ found_in x gs
        → found_in x ((if t then change g else g) ∷ changed change n gs) ≡ (if bytes_eq g.name x then Some g else found_in x gs)
    by true h ih =
        let no : bytes_eq g.name x ≡ false = named_apart g.name x (λ same. differ (sym ((bytes_eq-Decides g.name n).0 h) ∙ same)) in
        ap (λ z. if bytes_eq z x then Some (change g) else found_in x (changed change n gs)) (keeps g)
        ∙ ap (λ t. if t then Some (change g) else found_in x (changed change n gs)) no ∙ ih ∙ sym (ap (λ t. if t then Some g else found_in x gs) no)
    by false h ih = ap (λ l. if bytes_eq g.name x then Some g else l) ih

-- one that is forgotten
pub found_without : (x : List ℕ) (apps : List Followed) → found_in x (filter (λ app. not (is_named x app)) apps) ≡ None
found_without x [] = refl
found_without x (g ∷ gs) = by (bytes_eq g.name x) refl (found_without x gs)
  where
    by : (t : Bool) → bytes_eq g.name x ≡ t → found_in x (filter (λ app. not (is_named x app)) gs) ≡ None
        → found_in x (if not t then g ∷ filter (λ app. not (is_named x app)) gs else filter (λ app. not (is_named x app)) gs) ≡ None
    by true h ih = ih
    by false h ih = ap (λ t. if t then Some g else found_in x (filter (λ app. not (is_named x app)) gs)) h ∙ ih

pub found_kept : (n x : List ℕ) (apps : List Followed) → (n ≡ x → ⊥) → found_in x (filter (λ app. not (is_named n app)) apps) ≡ found_in x apps
found_kept n x [] differ = refl
found_kept n x (g ∷ gs) differ = by (bytes_eq g.name n) refl (found_kept n x gs differ)
  where
    by : (t : Bool) → bytes_eq g.name n ≡ t → found_in x (filter (λ app. not (is_named n app)) gs) ≡ found_in x gs
        → found_in x (if not t then g ∷ filter (λ app. not (is_named n app)) gs else filter (λ app. not (is_named n app)) gs) ≡ (if bytes_eq g.name x then Some g else found_in x gs)
    by true h ih =
        let no : bytes_eq g.name x ≡ false = named_apart g.name x (λ same. differ (sym ((bytes_eq-Decides g.name n).0 h) ∙ same)) in
        ih ∙ sym (ap (λ t. if t then Some g else found_in x gs) no)
    by false h ih = ap (λ l. if bytes_eq g.name x then Some g else l) ih

-- ONES THAT BECOME KNOWN: what is found stays so, or nothing was and now one of which nothing was asked
pub data FoundAfter (x : List ℕ) (before after : List Followed) : Type 0 where
  same : found_in x after ≡ found_in x before → FoundAfter x before after
  new : found_in x before ≡ None → (root : Reference) → found_in x after ≡ Some (unasked root) → FoundAfter x before after

found_last : (x : List ℕ) (apps : List Followed) (g : Followed) → FoundAfter x apps (apps ++ g ∷ []) ⊎ ((found_in x apps ≡ None) × (found_in x (apps ++ g ∷ []) ≡ Some g))
found_last x [] g = by (bytes_eq g.name x) refl
  where
    by : (t : Bool) → bytes_eq g.name x ≡ t → FoundAfter x [] (g ∷ []) ⊎ ((found_in x [] ≡ None) × ((if bytes_eq g.name x then Some g else None) ≡ Some g))
    by true h = inr (refl, ap (λ t. if t then Some g else None) h)
    by false h = inl (same (ap (λ t. if t then Some g else None) h))
found_last x (f ∷ fs) g = by (bytes_eq f.name x) refl (found_last x fs g)
  where
    by : (t : Bool) → bytes_eq f.name x ≡ t → FoundAfter x fs (fs ++ g ∷ []) ⊎ ((found_in x fs ≡ None) × (found_in x (fs ++ g ∷ []) ≡ Some g))
        → FoundAfter x (f ∷ fs) (f ∷ (fs ++ g ∷ [])) ⊎ (((if bytes_eq f.name x then Some f else found_in x fs) ≡ None) × ((if bytes_eq f.name x then Some f else found_in x (fs ++ g ∷ [])) ≡ Some g))
    by true h ih = inl (same (ap (λ t. if t then Some f else found_in x (fs ++ g ∷ [])) h ∙ sym (ap (λ t. if t then Some f else found_in x fs) h)))
    by false h (inl (same e)) = inl (same (ap (λ l. if bytes_eq f.name x then Some f else l) e))
    by false h (inl (new n root e)) = inl (new (ap (λ t. if t then Some f else found_in x fs) h ∙ n) root (ap (λ t. if t then Some f else found_in x (fs ++ g ∷ [])) h ∙ e))
    by false h (inr p) = inr (ap (λ t. if t then Some f else found_in x fs) h ∙ p.0, ap (λ t. if t then Some f else found_in x (fs ++ g ∷ [])) h ∙ p.1)

pub found_made : (x : List ℕ) (apps : List Followed) (root : Reference) → FoundAfter x apps (made_known apps root)
found_made x apps root = by (is_connection root.bus && not (list_any (is_named root.bus) apps)) (found_last x apps (unasked root))
  where
    by : (t : Bool) → FoundAfter x apps (apps ++ unasked root ∷ []) ⊎ ((found_in x apps ≡ None) × (found_in x (apps ++ unasked root ∷ []) ≡ Some (unasked root)))
        → FoundAfter x apps (if t then apps ++ unasked root ∷ [] else apps)
    by true (inl f) = f
    by true (inr p) = new p.0 root p.1
    by false f = same refl

after_both : (x : List ℕ) (a b c : List Followed) → FoundAfter x a b → FoundAfter x b c → FoundAfter x a c
after_both x a b c (same e) (same f) = same (f ∙ e)
after_both x a b c (same e) (new n root f) = new (sym e ∙ n) root f
after_both x a b c (new n root e) (same f) = new n root (f ∙ e)
after_both x a b c (new n root e) (new m other f) = new n other f

pub found_fold : (x : List ℕ) (apps : List Followed) (roots : List Reference) → FoundAfter x apps (fold made_known apps roots)
found_fold x apps [] = same refl
found_fold x apps (root ∷ roots) = after_both x apps (made_known apps root) (fold made_known (made_known apps root) roots) (found_made x apps root) (found_fold x (made_known apps root) roots)

-- OF EACH
pub found_is : (P : Followed → Type 0) (x : List ℕ) (apps : List Followed) (g : Followed) → found_in x apps ≡ Some g → AllByRecursion P apps → P g × (g.name ≡ x)
found_is P x [] g h a = absurd (no_none g h)
found_is P x (f ∷ fs) g h a = by (bytes_eq f.name x) refl h (λ k. found_is P x fs g k a.1)
  where
    by : (t : Bool) → bytes_eq f.name x ≡ t → (if t then Some f else found_in x fs) ≡ Some g → (found_in x fs ≡ Some g → P g × (g.name ≡ x)) → P g × (g.name ≡ x)
    by true e k ih = let is : f ≡ g = same_some f g k in (subst P is a.0, ap (λ (z : Followed). z.name) (sym is) ∙ (bytes_eq-Decides f.name x).0 e)
    by false e k ih = ih k

pub each_changed : (P : Followed → Type 0) (change : Followed → Followed) (n : List ℕ) (apps : List Followed) → ((g : Followed) → P g → P (change g)) → AllByRecursion P apps → AllByRecursion P (changed change n apps)
each_changed P change n [] f a = tt
each_changed P change n (g ∷ gs) f a = (by (bytes_eq g.name n), each_changed P change n gs f a.1)
  where
    by : (t : Bool) → P (if t then change g else g)
    by true = f g a.0
    by false = a.0

pub each_kept : (P : Followed → Type 0) (p : Followed → Bool) (apps : List Followed) → AllByRecursion P apps → AllByRecursion P (filter p apps)
each_kept P p [] a = tt
each_kept P p (g ∷ gs) a = by (p g) (each_kept P p gs a.1)
  where
    by : (t : Bool) → AllByRecursion P (filter p gs) → AllByRecursion P (if t then g ∷ filter p gs else filter p gs)
    by true r = (a.0, r)
    by false r = r

pub each_made : (P : Followed → Type 0) (apps : List Followed) (root : Reference) → P (unasked root) → AllByRecursion P apps → AllByRecursion P (made_known apps root)
each_made P apps root p a = by (is_connection root.bus && not (list_any (is_named root.bus) apps))
  where
    by : (t : Bool) → AllByRecursion P (if t then apps ++ unasked root ∷ [] else apps)
    by true = all_append P apps (unasked root ∷ []) a (p, tt)
    by false = a

pub each_fold : (P : Followed → Type 0) (apps : List Followed) (roots : List Reference) → AllByRecursion (λ root. P (unasked root)) roots → AllByRecursion P apps → AllByRecursion P (fold made_known apps roots)
each_fold P apps [] p a = a
each_fold P apps (root ∷ roots) p a = each_fold P (made_known apps root) roots p.1 (each_made P apps root p.0 a)

pub each_weaker : (P Q : Followed → Type 0) (apps : List Followed) → ((g : Followed) → P g → Q g) → AllByRecursion P apps → AllByRecursion Q apps
each_weaker P Q [] f a = tt
each_weaker P Q (g ∷ gs) f a = (f g a.0, each_weaker P Q gs f a.1)

-- WHERE NAMES DIFFER, those with a name are the one that is found
abbrev pub found_list : Option Followed → List Followed
found_list None = []
found_list (Some g) = g ∷ []

none_named : (x : List ℕ) (apps : List Followed) → AllByRecursion (λ (g : Followed). bytes_eq g.name x ≡ false) apps → filter (is_named x) apps ≡ []
none_named x [] a = refl
none_named x (g ∷ gs) a = ap (λ t. if t then g ∷ filter (is_named x) gs else filter (is_named x) gs) a.0 ∙ none_named x gs a.1

pub not_named : (x : List ℕ) (apps : List Followed) → AllByRecursion (λ (g : Followed). g.name ≡ x → ⊥) apps → filter (is_named x) apps ≡ []
not_named x apps a = none_named x apps (each_weaker (λ (g : Followed). g.name ≡ x → ⊥) (λ (g : Followed). bytes_eq g.name x ≡ false) apps (λ g differ. named_apart g.name x differ) a)

pub those_named : (x : List ℕ) (apps : List Followed) → AreDistinct apps → filter (is_named x) apps ≡ found_list (found_in x apps)
those_named x [] d = refl
those_named x (g ∷ gs) d = by (bytes_eq g.name x) refl (those_named x gs d.1)
  where
    by : (t : Bool) → bytes_eq g.name x ≡ t → filter (is_named x) gs ≡ found_list (found_in x gs) → (if t then g ∷ filter (is_named x) gs else filter (is_named x) gs) ≡ found_list (if t then Some g else found_in x gs)
    by true h ih = ap (λ l. g ∷ l) (none_named x gs (subst (λ n. AllByRecursion (λ (f : Followed). bytes_eq f.name n ≡ false) gs) ((bytes_eq-Decides g.name x).0 h) d.0))
    by false h ih = ih

each_apart : (change : Followed → Followed) (n m : List ℕ) (gs : List Followed) → KeepsNames change → AllByRecursion (λ (f : Followed). bytes_eq f.name m ≡ false) gs
    → AllByRecursion (λ (f : Followed). bytes_eq f.name m ≡ false) (changed change n gs)
each_apart change n m gs keeps a = each_changed (λ (f : Followed). bytes_eq f.name m ≡ false) change n gs (λ g h. ap (λ z. bytes_eq z m) (keeps g) ∙ h) a

pub distinct_changed : (change : Followed → Followed) (n : List ℕ) (apps : List Followed) → KeepsNames change → AreDistinct apps → AreDistinct (changed change n apps)
distinct_changed change n [] keeps d = tt
distinct_changed change n (g ∷ gs) keeps d = (by (bytes_eq g.name n), distinct_changed change n gs keeps d.1)
  where
    by : (t : Bool) → AllByRecursion (λ (f : Followed). bytes_eq f.name (if t then change g else g).name ≡ false) (changed change n gs)
    by true = subst (λ m. AllByRecursion (λ (f : Followed). bytes_eq f.name m ≡ false) (changed change n gs)) (sym (keeps g)) (each_apart change n g.name gs keeps d.0)
    by false = each_apart change n g.name gs keeps d.0

distinct_kept : (p : Followed → Bool) (apps : List Followed) → AreDistinct apps → AreDistinct (filter p apps)
distinct_kept p [] d = tt
distinct_kept p (g ∷ gs) d = by (p g) (distinct_kept p gs d.1)
  where
    by : (t : Bool) → AreDistinct (filter p gs) → AreDistinct (if t then g ∷ filter p gs else filter p gs)
    by true ih = (each_kept (λ (f : Followed). bytes_eq f.name g.name ≡ false) p gs d.0, ih)
    by false ih = ih

pub distinct_without : (x : List ℕ) (apps : List Followed) → AreDistinct apps → AreDistinct (filter (λ app. not (is_named x app)) apps)
distinct_without x apps d = distinct_kept (λ app. not (is_named x app)) apps d

distinct_last : (apps : List Followed) (g : Followed) → AreDistinct apps → list_any (is_named g.name) apps ≡ false → AreDistinct (apps ++ g ∷ [])
distinct_last [] g d none = (tt, tt)
distinct_last (f ∷ fs) g d none = by (bytes_eq f.name g.name) refl none (λ n. distinct_last fs g d.1 n)
  where
    turned : bytes_eq f.name g.name ≡ false → bytes_eq g.name f.name ≡ false
    turned h = named_apart g.name f.name (λ same. false_true (sym h ∙ (bytes_eq-Decides f.name g.name).1 (sym same)))

    by : (t : Bool) → bytes_eq f.name g.name ≡ t → (t || list_any (is_named g.name) fs) ≡ false → (list_any (is_named g.name) fs ≡ false → AreDistinct (fs ++ g ∷ [])) → AreDistinct (f ∷ (fs ++ g ∷ []))
    by true h n ih = absurd (false_true (sym n))
    by false h n ih = (all_append (λ (z : Followed). bytes_eq z.name f.name ≡ false) fs (g ∷ []) d.0 (turned h, tt), ih n)

pub distinct_made : (apps : List Followed) (root : Reference) → AreDistinct apps → AreDistinct (made_known apps root)
distinct_made apps root d = by (is_connection root.bus) (list_any (is_named root.bus) apps) refl
  where
    by : (b c : Bool) → list_any (is_named root.bus) apps ≡ c → AreDistinct (if b && not c then apps ++ unasked root ∷ [] else apps)
    by true true h = d
    by true false h = distinct_last apps (unasked root) d h
    by false c h = d

pub distinct_fold : (apps : List Followed) (roots : List Reference) → AreDistinct apps → AreDistinct (fold made_known apps roots)
distinct_fold apps [] d = d
distinct_fold apps (root ∷ roots) d = distinct_fold (made_known apps root) roots (distinct_made apps root d)
