-- Where each name stands in a list of applications, as the list changes.
use Rattle.std.proofs.Common.{◌≡◌, ℕ, zero, suc, ◌+◌, ◌<◌, Bool, true, false, cond, List, [], ◌∷◌, ◌++◌, filter, not, length, get_or, set, Option, Some, None, refl, sym, ap, ◌∙◌, arith}
use Rattle.std.specs.Prelude.{◌||◌, bytes_eq, nat_lt, is_some}
use Rattle.std.specs.List.{list_any, position, position_or_len}
use Rattle.std.specs.Option.{option_map}
use Rattle.std.proofs.lemmas.Bool.Decides.{nat_tests}
use Rattle.std.proofs.lemmas.Slice.Eq.{bytes_eq-Decides}
use Rattle.atspi_protocol.specs.following.ReaderState.{Followed, is_named}
use Rattle.atspi_reader_known.specs.Unique.{AreUnique}
use Rattle.atspi_reader_known.specs.Places.{AreFound, moved_up, place_in}
use Rattle.atspi_reader_known.specs.declared.places.Places.{Places}
use Rattle.atspi_reader_known.proofs.Uniqueness.{first_at, or_left, or_none, or_right, other_way, put_unique, set_unique, unique_filter, unique_push}

-- the first place that passes, by recursion
abbrev first_place : {X : Type 0} → (X → Bool) → List X → Option ℕ
first_place p [] = None
first_place p (x ∷ xs) = cond (p x) (Some 0) (option_map (λ n. suc n) (first_place p xs))

front_one : (len : ℕ) → cond {A = Option ℕ} (nat_lt 0 (suc len)) (Some 0) None ≡ Some 0
front_one len = grind (arith, nat_tests)

one_more : (place len : ℕ) → cond (nat_lt (1 + place) (suc len)) (Some (1 + place)) None ≡ option_map (λ n. suc n) (cond (nat_lt place len) (Some place) None)
one_more place len = grind (arith, nat_tests)

position_first : {X : Type 0} (p : X → Bool) (xs : List X) → position p xs ≡ first_place p xs
position_first p [] = refl
position_first p (x ∷ xs) = by (p x) refl (position_first p xs)
  where
    by : (b : Bool) → p x ≡ b → position p xs ≡ first_place p xs → position p (x ∷ xs) ≡ first_place p (x ∷ xs)
    by true e h = rw e (front_one (length xs))
    by false e h = rw e (one_more (position_or_len p xs) (length xs) ∙ ap (option_map (λ n. suc n)) h)

first_none : {X : Type 0} (p : X → Bool) (xs : List X) → list_any p xs ≡ false → first_place p xs ≡ None
first_none p [] e = refl
first_none p (x ∷ xs) e = rw (or_left (p x) (list_any p xs) e, first_none p xs (or_right (p x) (list_any p xs) e)) refl

is_there : (b t : Bool) (o : Option ℕ) → is_some o ≡ t → is_some (cond b (Some 0) (option_map (λ n. suc n) o)) ≡ (b || t)
is_there true t o e = refl
is_there false t None e = e
is_there false t (Some n) e = e

first_some : {X : Type 0} (p : X → Bool) (xs : List X) → is_some (first_place p xs) ≡ list_any p xs
first_some p [] = refl
first_some p (x ∷ xs) = is_there (p x) (list_any p xs) (first_place p xs) (first_some p xs)

-- one more at the end
push_case : (b c : Bool) (n : ℕ) (o p : Option ℕ) → p ≡ cond b (Some n) o → (b ≡ true → c ≡ false)
    → cond c (Some 0) (option_map (λ m. suc m) p) ≡ cond b (Some (suc n)) (cond c (Some 0) (option_map (λ m. suc m) o))
push_case true c n o p e f = rw (e, f refl) refl
push_case false c n o p e f = rw e refl

first_push : (q : List ℕ) (app : Followed) (apps : List Followed) → list_any (is_named app.name) apps ≡ false
    → first_place (is_named q) (apps ++ app ∷ []) ≡ cond (bytes_eq app.name q) (Some (length apps)) (first_place (is_named q) apps)
first_push q app [] e = refl
first_push q app (a ∷ apps) e =
    let other : bytes_eq a.name app.name ≡ false = or_left (bytes_eq a.name app.name) (list_any (is_named app.name) apps) e in
    push_case (bytes_eq app.name q) (bytes_eq a.name q) (length apps) (first_place (is_named q) apps) (first_place (is_named q) (apps ++ app ∷ []))
    (first_push q app apps (or_right (bytes_eq a.name app.name) (list_any (is_named app.name) apps) e))
    (λ t. ap (bytes_eq a.name) (sym ((bytes_eq-Decides app.name q).0 t)) ∙ other)

-- one less at the end
pop_case : (b : Bool) (n : ℕ) (o p : Option ℕ) → p ≡ cond b (Some n) o → (b ≡ true → o ≡ None) → o ≡ cond b None p
pop_case true n o p e f = f refl
pop_case false n o p e f = sym e

first_pop : (q : List ℕ) (app : Followed) (apps : List Followed) → list_any (is_named app.name) apps ≡ false
    → first_place (is_named q) apps ≡ cond (bytes_eq app.name q) None (first_place (is_named q) (apps ++ app ∷ []))
first_pop q app apps e =
    pop_case (bytes_eq app.name q) (length apps) (first_place (is_named q) apps) (first_place (is_named q) (apps ++ app ∷ [])) (first_push q app apps e)
    (λ t. first_none (is_named q) apps (ap (λ (m : List ℕ). list_any (is_named m) apps) (sym ((bytes_eq-Decides app.name q).0 t)) ∙ e))

-- another one in a place
first_set : {X : Type 0} (p : X → Bool) (xs : List X) (i : ℕ) (d b : X) → i < length xs → p b ≡ p (get_or xs i d) → first_place p (set xs i b) ≡ first_place p xs
first_set p [] i d b l e = refl
first_set p (x ∷ xs) zero d b l e = ap (λ (t : Bool). cond t (Some 0) (option_map (λ n. suc n) (first_place p xs))) e
first_set p (x ∷ xs) (suc i) d b l e = ap (λ (o : Option ℕ). cond (p x) (Some 0) (option_map (λ n. suc n) o)) (first_set p xs i d b (omega (arith, l)) e)

-- one that is gone
filter_none : {X : Type 0} (p : X → Bool) (xs : List X) → list_any p xs ≡ false → filter (λ x. not (p x)) xs ≡ xs
filter_none p [] e = refl
filter_none p (x ∷ xs) e = rw (or_left (p x) (list_any p xs) e) (ap (λ (l : List _). x ∷ l) (filter_none p xs (or_right (p x) (list_any p xs) e)))

up_front : (k : ℕ) → k ≡ moved_up 0 (suc k)
up_front k = grind (arith, nat_tests)

up_later : (j k : ℕ) → suc (moved_up j k) ≡ moved_up (suc j) (suc k)
up_later j k = grind (arith, nat_tests)

up_before : (j : ℕ) → 0 ≡ moved_up (suc j) 0
up_before j = grind (arith, nat_tests)

all_front : (o : Option ℕ) → o ≡ option_map (moved_up 0) (option_map (λ n. suc n) o)
all_front None = refl
all_front (Some k) = ap Some (up_front k)

all_later : (j : ℕ) (o : Option ℕ) → option_map (λ n. suc n) (option_map (moved_up j) o) ≡ option_map (moved_up (suc j)) (option_map (λ n. suc n) o)
all_later j None = refl
all_later j (Some k) = ap Some (up_later j k)

gone_first : (b c : Bool) (o : Option ℕ) → (b ≡ true → o ≡ None) → (b ≡ false → c ≡ false)
    → o ≡ cond b None (option_map (moved_up 0) (cond c (Some 0) (option_map (λ n. suc n) o)))
gone_first true c o f g = f refl
gone_first false c o f g = rw (g refl) (all_front o)

gone_later : (b c : Bool) (j : ℕ) (o p : Option ℕ) → p ≡ cond b None (option_map (moved_up j) o) → (b ≡ true → c ≡ false)
    → cond c (Some 0) (option_map (λ n. suc n) p) ≡ cond b None (option_map (moved_up (suc j)) (cond c (Some 0) (option_map (λ n. suc n) o)))
gone_later true c j o p e f = rw (e, f refl) refl
gone_later false true j o p e f = ap Some (up_before j)
gone_later false false j o p e f = rw e (all_later j o)

mapped : (o : Option ℕ) (i : ℕ) → option_map (λ n. suc n) o ≡ Some i → (j : ℕ) × (o ≡ Some j) × (suc j ≡ i)
mapped None i e = absurd cc
mapped (Some j) i e = (j, refl, cc)

first_forget : (n q : List ℕ) (apps : List Followed) (i : ℕ) → AreUnique apps → first_place (is_named n) apps ≡ Some i
    → first_place (is_named q) (filter (λ app. not (is_named n app)) apps) ≡ cond (bytes_eq n q) None (option_map (moved_up i) (first_place (is_named q) apps))
first_forget n q [] i u e = absurd cc
first_forget n q (a ∷ apps) i u e = by (is_named n a) refl (λ j h. first_forget n q apps j u.1 h)
  where
    by : (b : Bool) → is_named n a ≡ b
        → ((j : ℕ) → first_place (is_named n) apps ≡ Some j → first_place (is_named q) (filter (λ app. not (is_named n app)) apps) ≡ cond (bytes_eq n q) None (option_map (moved_up j) (first_place (is_named q) apps)))
        → first_place (is_named q) (filter (λ app. not (is_named n app)) (a ∷ apps)) ≡ cond (bytes_eq n q) None (option_map (moved_up i) (first_place (is_named q) (a ∷ apps)))
    by true f h =
        let same : a.name ≡ n = (bytes_eq-Decides a.name n).0 f in
        let none : list_any (is_named n) apps ≡ false = ap (λ (m : List ℕ). list_any (is_named m) apps) (sym same) ∙ u.0 in
        let at : Some 0 ≡ Some i = ap (λ (b : Bool). cond b (Some 0) (option_map (λ (n : ℕ). suc n) (first_place (is_named n) apps))) (sym f) ∙ e in
        let zero_is : 0 ≡ i = cc in
        rw f (ap (first_place (is_named q)) (filter_none (is_named n) apps none)
        ∙ gone_first (bytes_eq n q) (bytes_eq a.name q) (first_place (is_named q) apps)
        (λ t. first_none (is_named q) apps (ap (λ (m : List ℕ). list_any (is_named m) apps) (sym ((bytes_eq-Decides n q).0 t)) ∙ none))
        (λ t. ap (λ (m : List ℕ). bytes_eq m q) same ∙ t)
        ∙ ap (λ (k : ℕ). cond (bytes_eq n q) None (option_map (moved_up k) (first_place (is_named q) (a ∷ apps)))) zero_is)
    by false f h =
        let later : option_map (λ (n : ℕ). suc n) (first_place (is_named n) apps) ≡ Some i = ap (λ (b : Bool). cond b (Some 0) (option_map (λ (n : ℕ). suc n) (first_place (is_named n) apps))) (sym f) ∙ e in
        let m = mapped (first_place (is_named n) apps) i later in
        rw f (gone_later (bytes_eq n q) (bytes_eq a.name q) m.0 (first_place (is_named q) apps) (first_place (is_named q) (filter (λ app. not (is_named n app)) apps))
        (h m.0 m.1)
        (λ t. ap (bytes_eq a.name) (sym ((bytes_eq-Decides n q).0 t)) ∙ f)
        ∙ ap (λ (k : ℕ). cond (bytes_eq n q) None (option_map (moved_up k) (first_place (is_named q) (a ∷ apps)))) m.2)

-- an index has the place of each name
abbrev HasPlaces : (List ℕ → Option ℕ) → List Followed → Type 0
HasPlaces f apps = (name : List ℕ) → f name ≡ position (is_named name) apps

has_push : (f g : List ℕ → Option ℕ) (app : Followed) (apps : List Followed) → list_any (is_named app.name) apps ≡ false → HasPlaces f apps
    → ((q : List ℕ) → g q ≡ cond (bytes_eq app.name q) (Some (length apps)) (f q)) → HasPlaces g (apps ++ app ∷ [])
has_push f g app apps e h k = λ q.
    k q ∙ ap (cond (bytes_eq app.name q) (Some (length apps))) (h q ∙ position_first (is_named q) apps)
    ∙ sym (position_first (is_named q) (apps ++ app ∷ []) ∙ first_push q app apps e)

has_pop : (f g : List ℕ → Option ℕ) (app : Followed) (apps : List Followed) → list_any (is_named app.name) apps ≡ false → HasPlaces f (apps ++ app ∷ [])
    → ((q : List ℕ) → g q ≡ cond (bytes_eq app.name q) None (f q)) → HasPlaces g apps
has_pop f g app apps e h k = λ q.
    k q ∙ ap (cond (bytes_eq app.name q) None) (h q ∙ position_first (is_named q) (apps ++ app ∷ []))
    ∙ sym (position_first (is_named q) apps ∙ first_pop q app apps e)

has_set : (f : List ℕ → Option ℕ) (apps : List Followed) (i : ℕ) (d b : Followed) → i < length apps → b.name ≡ (get_or apps i d).name → HasPlaces f apps
    → HasPlaces f (set apps i b)
has_set f apps i d b l e h = λ q.
    h q ∙ position_first (is_named q) apps
    ∙ sym (position_first (is_named q) (set apps i b) ∙ first_set (is_named q) apps i d b l (ap (λ (m : List ℕ). bytes_eq m q) e))

none_or_mapped : (b : Bool) (h : ℕ → ℕ) (o : Option ℕ) → option_map h (cond b None o) ≡ cond b None (option_map h o)
none_or_mapped true h o = refl
none_or_mapped false h o = refl

has_forget : (f g k : List ℕ → Option ℕ) (n : List ℕ) (i : ℕ) (apps : List Followed) → AreUnique apps → position (is_named n) apps ≡ Some i → HasPlaces f apps
    → ((q : List ℕ) → g q ≡ cond (bytes_eq n q) None (f q)) → ((q : List ℕ) → k q ≡ option_map (moved_up i) (g q))
    → HasPlaces k (filter (λ app. not (is_named n app)) apps)
has_forget f g k n i apps u at h e m = λ q.
    m q ∙ ap (option_map (moved_up i)) (e q) ∙ none_or_mapped (bytes_eq n q) (moved_up i) (f q)
    ∙ ap (λ (o : Option ℕ). cond (bytes_eq n q) None (option_map (moved_up i) o)) (h q ∙ position_first (is_named q) apps)
    ∙ sym (position_first (is_named q) (filter (λ app. not (is_named n app)) apps) ∙ first_forget n q apps i u (sym (position_first (is_named n) apps) ∙ at))

-- one less at the end
none_front : {X : Type 0} (p : X → Bool) (x : X) (xs : List X) → list_any p (xs ++ x ∷ []) ≡ false → list_any p xs ≡ false
none_front p x [] e = refl
none_front p x (y ∷ xs) e = or_none (p y) (list_any p xs) (or_left (p y) (list_any p (xs ++ x ∷ [])) e) (none_front p x xs (or_right (p y) (list_any p (xs ++ x ∷ [])) e))

none_last : {X : Type 0} (p : X → Bool) (x : X) (xs : List X) → list_any p (xs ++ x ∷ []) ≡ false → p x ≡ false
none_last p x [] e = or_left (p x) false e
none_last p x (y ∷ xs) e = none_last p x xs (or_right (p y) (list_any p (xs ++ x ∷ [])) e)

unique_front : (app : Followed) (apps : List Followed) → AreUnique (apps ++ app ∷ []) → AreUnique apps
unique_front app [] u = tt
unique_front app (a ∷ apps) u = (none_front (is_named a.name) app apps u.0, unique_front app apps u.1)

last_new : (app : Followed) (apps : List Followed) → AreUnique (apps ++ app ∷ []) → list_any (is_named app.name) apps ≡ false
last_new app [] u = refl
last_new app (a ∷ apps) u =
    or_none (bytes_eq a.name app.name) (list_any (is_named app.name) apps)
    (other_way app.name a.name (none_last (is_named a.name) app apps u.0)) (last_new app apps u.1)

-- what each change of the list keeps
pub found_push : (index more : Places) (app : Followed) (apps : List Followed) → AreFound index apps → list_any (is_named app.name) apps ≡ false
    → ((q : List ℕ) → place_in more q ≡ cond (bytes_eq app.name q) (Some (length apps)) (place_in index q)) → AreFound more (apps ++ app ∷ [])
found_push index more app apps u e k = (unique_push app apps u.0 e, has_push (place_in index) (place_in more) app apps e u.1 k)

pub found_pop : (index less : Places) (app : Followed) (apps : List Followed) → AreFound index (apps ++ app ∷ [])
    → ((q : List ℕ) → place_in less q ≡ cond (bytes_eq app.name q) None (place_in index q)) → AreFound less apps
found_pop index less app apps u k = (unique_front app apps u.0, has_pop (place_in index) (place_in less) app apps (last_new app apps u.0) u.1 k)

pub found_forget : (index less moved : Places) (n : List ℕ) (i : ℕ) (apps : List Followed) → position (is_named n) apps ≡ Some i → AreFound index apps
    → ((q : List ℕ) → place_in less q ≡ cond (bytes_eq n q) None (place_in index q)) → ((q : List ℕ) → place_in moved q ≡ option_map (moved_up i) (place_in less q))
    → AreFound moved (filter (λ app. not (is_named n app)) apps)
found_forget index less moved n i apps at u e m =
    (unique_filter (λ (app : Followed). not (is_named n app)) apps u.0, has_forget (place_in index) (place_in less) (place_in moved) n i apps u.0 at u.1 e m)

pub found_set : (index : Places) (name : List ℕ) (apps now : List Followed) (i : ℕ) (d b : Followed)
    → apps ≡ now → position (is_named name) now ≡ Some i → d ≡ get_or apps i d → b.name ≡ d.name → AreFound index apps → AreFound index (set apps i b)
found_set index name apps now i d b same pos v n u =
    let at = first_at name apps now i d same pos in
    (set_unique name apps now i d b same pos v n u.0, has_set (place_in index) apps i d b at.0 (n ∙ ap (λ (x : Followed). x.name) v) u.1)

pub found_put : (index : Places) (apps now : List Followed) (i : ℕ) (d b : Followed)
    → apps ≡ now → position (is_named b.name) now ≡ Some i → d ≡ get_or apps i d → AreFound index apps → AreFound index (set apps i b)
found_put index apps now i d b same pos v u =
    let at = first_at b.name apps now i d same pos in
    (put_unique apps now i d b same pos v u.0, has_set (place_in index) apps i d b at.0 (sym ((bytes_eq-Decides (get_or apps i d).name b.name).0 at.1)) u.1)

-- whether one has a name
pub some_named : (name : List ℕ) (apps : List Followed) → is_some (position (is_named name) apps) ≡ list_any (is_named name) apps
some_named name apps = ap is_some (position_first (is_named name) apps) ∙ first_some (is_named name) apps

-- where nobody has it, nobody is forgotten
pub nobody_forgotten : (name : List ℕ) (apps : List Followed) → list_any (is_named name) apps ≡ false → apps ≡ filter (λ app. not (is_named name app)) apps
nobody_forgotten name apps e = sym (filter_none (is_named name) apps e)
