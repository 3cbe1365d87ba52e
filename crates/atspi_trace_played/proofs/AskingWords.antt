-- Words on lists of applications and of calls: what changes of applications keep, and what is found among them.
use Rattle.std.proofs.Common.{◌≡◌, ℕ, Bool, true, false, List, [], ◌∷◌, ◌++◌, map, Some, refl, sym, ap, ◌∙◌, subst}
use Rattle.std.specs.Prelude.{bytes_eq, filter, flat_map, not, ◌&&◌, ◌||◌, if◌then◌else◌}
use Rattle.std.specs.List.{AllByRecursion, fold, list_all, list_any}
use Rattle.std.proofs.lemmas.Bool.{and_parts}
use Rattle.std.proofs.lemmas.Slice.Eq.{bytes_eq-Decides}
use Rattle.atspi_tree_model.specs.declared.news.Reference.{Reference}
use Rattle.atspi_protocol.specs.following.ReaderState.{Followed, is_named}
use Rattle.atspi_protocol.specs.following.Known.{is_connection, unasked, made_known}
use Rattle.atspi_protocol.specs.following.Replied.{changed}
use Rattle.atspi_protocol.specs.following.Takes.{found_in}
use Rattle.atspi_trace_laws.proofs.OfOrder.Parties.{false_true, all_append}
use Rattle.atspi_trace_played.proofs.Facts.{AreDistinct}

-- ALL of a list
pub all_weaker : {X : Type 0} (P Q : X → Type 0) → ((x : X) → P x → Q x) → (xs : List X) → AllByRecursion P xs → AllByRecursion Q xs
all_weaker P Q f [] a = tt
all_weaker P Q f (x ∷ xs) a = (f x a.0, all_weaker P Q f xs a.1)

pub all_both : {X : Type 0} (P Q : X → Type 0) (xs : List X) → AllByRecursion P xs → AllByRecursion Q xs → AllByRecursion (λ x. P x × Q x) xs
all_both P Q [] a b = tt
all_both P Q (x ∷ xs) a b = ((a.0, b.0), all_both P Q xs a.1 b.1)

pub all_filter : {X : Type 0} (P : X → Type 0) (p : X → Bool) (xs : List X) → AllByRecursion P xs → AllByRecursion P (filter p xs)
all_filter P p [] a = tt
all_filter P p (x ∷ xs) a = by (p x) (all_filter P p xs a.1)
  where
    by : (b : Bool) → AllByRecursion P (filter p xs) → AllByRecursion P (if b then x ∷ filter p xs else filter p xs)
    by true rest = (a.0, rest)
    by false rest = rest

pub all_flat : {X Y : Type 0} (P : X → Type 0) (Q : Y → Type 0) (g : X → List Y) → ((x : X) → P x → AllByRecursion Q (g x)) → (xs : List X) → AllByRecursion P xs → AllByRecursion Q (flat_map g xs)
all_flat P Q g f [] a = tt
all_flat P Q g f (x ∷ xs) a = all_append Q (g x) (flat_map g xs) (f x a.0) (all_flat P Q g f xs a.1)

pub all_map : {X Y : Type 0} (P : X → Type 0) (Q : Y → Type 0) (g : X → Y) → ((x : X) → P x → Q (g x)) → (xs : List X) → AllByRecursion P xs → AllByRecursion Q (map g xs)
all_map P Q g f [] a = tt
all_map P Q g f (x ∷ xs) a = (f x a.0, all_map P Q g f xs a.1)

pub all_of_test : {X : Type 0} (p : X → Bool) (xs : List X) → AllByRecursion (λ x. p x ≡ true) xs → list_all p xs ≡ true
all_of_test p [] a = refl
all_of_test p (x ∷ xs) a = ap (λ b. b && list_all p xs) a.0 ∙ all_of_test p xs a.1

pub test_of_all : {X : Type 0} (p : X → Bool) (xs : List X) → list_all p xs ≡ true → AllByRecursion (λ x. p x ≡ true) xs
test_of_all p [] h = tt
test_of_all p (x ∷ xs) h = let both = and_parts (p x) (list_all p xs) h in (both.0, test_of_all p xs both.1)

pub or_true : (b : Bool) → (b || true) ≡ true
or_true true = refl
or_true false = refl

pub any_front : {X : Type 0} (p : X → Bool) (xs ys : List X) → list_any p xs ≡ true → list_any p (xs ++ ys) ≡ true
any_front p [] ys h = absurd (false_true h)
any_front p (x ∷ xs) ys h = by (p x) h (λ g. any_front p xs ys g)
  where
    by : (b : Bool) → (b || list_any p xs) ≡ true → (list_any p xs ≡ true → list_any p (xs ++ ys) ≡ true) → (b || list_any p (xs ++ ys)) ≡ true
    by true g ih = refl
    by false g ih = ih g

pub any_back : {X : Type 0} (p : X → Bool) (xs ys : List X) → list_any p ys ≡ true → list_any p (xs ++ ys) ≡ true
any_back p [] ys h = h
any_back p (x ∷ xs) ys h = ap (λ b. p x || b) (any_back p xs ys h) ∙ or_true (p x)

-- NAMES
pub bytes_same : (xs : List ℕ) → bytes_eq xs xs ≡ true
bytes_same xs = (bytes_eq-Decides xs xs).1 refl

pub bytes_apart : (xs ys : List ℕ) → bytes_eq xs ys ≡ false → bytes_eq ys xs ≡ false
bytes_apart xs ys h = by (bytes_eq ys xs) refl
  where
    by : (b : Bool) → bytes_eq ys xs ≡ b → b ≡ false
    by true g = absurd (false_true (sym h ∙ ap (bytes_eq xs) ((bytes_eq-Decides ys xs).0 g) ∙ bytes_same xs))
    by false g = refl

-- AN APPLICATION CHANGES, and keeps its name
abbrev pub KeepsName : (Followed → Followed) → Type 0
KeepsName change = (f : Followed) → (change f).name ≡ f.name

pub if_keeps : (change : Followed → Followed) (name : List ℕ) → KeepsName change → KeepsName (λ f. if is_named name f then change f else f)
if_keeps change name k f = by (is_named name f)
  where
    by : (b : Bool) → (if b then change f else f).name ≡ f.name
    by true = k f
    by false = refl

pub changed_all : (P : Followed → Type 0) → ((f g : Followed) → g.name ≡ f.name → P f → P g) → (change : Followed → Followed) (name : List ℕ) → KeepsName change → (apps : List Followed) → AllByRecursion P apps
    → AllByRecursion P (changed change name apps)
changed_all P same change name k apps a =
    all_map P P (λ f. if is_named name f then change f else f) (λ f p. same f (if is_named name f then change f else f) (if_keeps change name k f) p) apps a

abbrev Apart : List ℕ → Followed → Type 0
Apart name g = bytes_eq g.name name ≡ false

pub changed_distinct : (change : Followed → Followed) (name : List ℕ) → KeepsName change → (apps : List Followed) → AreDistinct apps → AreDistinct (changed change name apps)
changed_distinct change name k [] d = tt
changed_distinct change name k (f ∷ fs) d = (
  subst (λ n. AllByRecursion (Apart n) (changed change name fs)) (sym (if_keeps change name k f)) (changed_all (Apart f.name) (λ g c e p. ap (λ n. bytes_eq n f.name) e ∙ p) change name k fs d.0),
  changed_distinct change name k fs d.1,
)

pub filter_distinct : (p : Followed → Bool) (apps : List Followed) → AreDistinct apps → AreDistinct (filter p apps)
filter_distinct p [] d = tt
filter_distinct p (f ∷ fs) d = by (p f) (filter_distinct p fs d.1)
  where
    by : (b : Bool) → AreDistinct (filter p fs) → AreDistinct (if b then f ∷ filter p fs else filter p fs)
    by true rest = (all_filter (Apart f.name) p fs d.0, rest)
    by false rest = rest

-- ONE BECOMES KNOWN
abbrev IsNew : List Followed → Reference → Bool
IsNew apps root = is_connection root.bus && not (list_any (is_named root.bus) apps)

not_true : (b : Bool) → not b ≡ true → b ≡ false
not_true true h = absurd (false_true h)
not_true false h = refl

none_named : (name : List ℕ) (apps : List Followed) → list_any (is_named name) apps ≡ false → AllByRecursion (Apart name) apps
none_named name [] h = tt
none_named name (f ∷ fs) h = by (is_named name f) refl h (λ k. none_named name fs k)
  where
    by : (b : Bool) → is_named name f ≡ b → (b || list_any (is_named name) fs) ≡ false → (list_any (is_named name) fs ≡ false → AllByRecursion (Apart name) fs) → AllByRecursion (Apart name) (f ∷ fs)
    by true g k rest = absurd (false_true (sym k))
    by false g k rest = (g, rest k)

pub made_all : (P : Followed → Type 0) (apps : List Followed) (root : Reference) → (is_connection root.bus ≡ true → P (unasked root)) → AllByRecursion P apps → AllByRecursion P (made_known apps root)
made_all P apps root new a = by (IsNew apps root) refl
  where
    by : (b : Bool) → IsNew apps root ≡ b → AllByRecursion P (if b then apps ++ unasked root ∷ [] else apps)
    by true g = all_append P apps (unasked root ∷ []) a (new (and_parts (is_connection root.bus) (not (list_any (is_named root.bus) apps)) g).0, tt)
    by false g = a

distinct_more : (apps : List Followed) (f : Followed) → AllByRecursion (Apart f.name) apps → AreDistinct apps → AreDistinct (apps ++ f ∷ [])
distinct_more [] f a d = (tt, tt)
distinct_more (g ∷ gs) f a d = (all_append (Apart g.name) gs (f ∷ []) d.0 (bytes_apart g.name f.name a.0, tt), distinct_more gs f a.1 d.1)

pub made_distinct : (apps : List Followed) (root : Reference) → AreDistinct apps → AreDistinct (made_known apps root)
made_distinct apps root d = by (IsNew apps root) refl
  where
    by : (b : Bool) → IsNew apps root ≡ b → AreDistinct (if b then apps ++ unasked root ∷ [] else apps)
    by true g =
        let new = not_true (list_any (is_named root.bus) apps) (and_parts (is_connection root.bus) (not (list_any (is_named root.bus) apps)) g).1 in
        distinct_more apps (unasked root) (none_named root.bus apps new) d
    by false g = d

-- and several
pub fold_all : (P : Followed → Type 0) (apps : List Followed) (roots : List Reference) → AllByRecursion (λ (root : Reference). is_connection root.bus ≡ true → P (unasked root)) roots → AllByRecursion P apps
    → AllByRecursion P (fold made_known apps roots)
fold_all P apps [] new a = a
fold_all P apps (root ∷ roots) new a = fold_all P (made_known apps root) roots new.1 (made_all P apps root new.0 a)

pub fold_distinct : (apps : List Followed) (roots : List Reference) → AreDistinct apps → AreDistinct (fold made_known apps roots)
fold_distinct apps [] d = d
fold_distinct apps (root ∷ roots) d = fold_distinct (made_known apps root) roots (made_distinct apps root d)

-- EACH IS FOUND by its name
abbrev pub IsFound : List Followed → Followed → Type 0
IsFound apps f = found_in f.name apps ≡ Some f

pub all_found : (apps : List Followed) → AreDistinct apps → AllByRecursion (IsFound apps) apps
all_found [] d = tt
all_found (f ∷ fs) d = (
  ap (λ b. if b then Some f else found_in f.name fs) (bytes_same f.name),
  all_weaker (λ g. Apart f.name g × IsFound fs g) (IsFound (f ∷ fs)) (λ g h. ap (λ b. if b then Some f else found_in g.name fs) (bytes_apart g.name f.name h.0) ∙ h.1) fs (all_both (Apart f.name) (IsFound fs) fs d.0 (all_found fs d.1)),
)
