-- A law at each entry of a list, by recursion, and what it says of each split of the list.
use Rattle.std.proofs.Common.{◌≡◌, List, [], ◌∷◌, ◌++◌, length, sym, ap, subst, arith}
use Rattle.std.specs.List.{AllByRecursion}
use Rattle.std.proofs.lemmas.List.{append-nil, append_assoc}
use Rattle.atspi_trace.specs.Entry.{Entry}
use Rattle.atspi_trace_laws.specs.laws.NineLaws.{Everywhere}

abbrev pub Each : (List Entry → Entry → List Entry → Type 0) → List Entry → List Entry → Type 0
Each Law before [] = Unit {0}
Each Law before (entry ∷ behind) = Law before entry behind × Each Law (before ++ entry ∷ []) behind

abbrev first_or : Entry → List Entry → Entry
first_or x [] = x
first_or x (y ∷ ys) = y

abbrev rest_of : List Entry → List Entry
rest_of [] = []
rest_of (y ∷ ys) = ys

pub no_entries : (before : List Entry) (entry : Entry) (behind : List Entry) → [] ≡ before ++ entry ∷ behind → ⊥
no_entries [] entry behind h = absurd (omega (arith, ap length h))
no_entries (b ∷ bs) entry behind h = absurd (omega (arith, ap length h))

pub each_split : (Law : List Entry → Entry → List Entry → Type 0) (early trace : List Entry) → Each Law early trace
    → (before : List Entry) (entry : Entry) (behind : List Entry) → trace ≡ before ++ entry ∷ behind → Law (early ++ before) entry behind
each_split Law early [] e before entry behind h = absurd (no_entries before entry behind h)
each_split Law early (x ∷ xs) e [] entry behind h =
    let first : x ≡ entry = ap (first_or x) h in
    let rest : xs ≡ behind = ap rest_of h in
    subst (λ b. Law b entry behind) (sym (append-nil early)) (subst (λ y. Law early y behind) first (subst (λ l. Law early x l) rest e.0))
each_split Law early (x ∷ xs) e (b ∷ bs) entry behind h =
    let first : x ≡ b = ap (first_or x) h in
    let rest : xs ≡ bs ++ entry ∷ behind = ap rest_of h in
    subst (λ l. Law l entry behind) (append_assoc early (b ∷ []) bs)
    (subst (λ y. Law ((early ++ y ∷ []) ++ bs) entry behind) first (each_split Law (early ++ x ∷ []) xs e.1 bs entry behind rest))

pub everywhere : (Law : List Entry → Entry → List Entry → Type 0) (trace : List Entry) → Each Law [] trace → Everywhere Law trace
everywhere Law trace e before entry behind h = each_split Law [] trace e before entry behind h

-- more entries
pub each_more : (Law : List Entry → Entry → List Entry → Type 0) (early xs ys : List Entry) → Each (λ before entry behind. Law before entry (behind ++ ys)) early xs → Each Law (early ++ xs) ys
    → Each Law early (xs ++ ys)
each_more Law early [] ys a b = subst (λ l. Each Law l ys) (append-nil early) b
each_more Law early (x ∷ xs) ys a b =
    (a.0, each_more Law (early ++ x ∷ []) xs ys a.1 (subst (λ l. Each Law l ys) (sym (append_assoc early (x ∷ []) xs)) b))

-- the same of other laws, where the entries are known to be of some kind
pub each_map : (P : Entry → Type 0) (Law Other : List Entry → Entry → List Entry → Type 0) (early xs : List Entry)
    → ((before : List Entry) (entry : Entry) (behind : List Entry) → P entry → Law before entry behind → Other before entry behind) → AllByRecursion P xs → Each Law early xs → Each Other early xs
each_map P Law Other early [] f p e = tt
each_map P Law Other early (x ∷ xs) f p e = (f early x xs p.0 e.0, each_map P Law Other (early ++ x ∷ []) xs f p.1 e.1)

pub each_of : (P : Entry → Type 0) (Law : List Entry → Entry → List Entry → Type 0) (early xs : List Entry)
    → ((before : List Entry) (entry : Entry) (behind : List Entry) → P entry → Law before entry behind) → AllByRecursion P xs → Each Law early xs
each_of P Law early [] f p = tt
each_of P Law early (x ∷ xs) f p = (f early x xs p.0, each_of P Law (early ++ x ∷ []) xs f p.1)

pub all_map : {X : Type 0} (P Q : X → Type 0) (xs : List X) → ((x : X) → P x → Q x) → AllByRecursion P xs → AllByRecursion Q xs
all_map P Q [] f a = tt
all_map P Q (x ∷ xs) f a = (f x a.0, all_map P Q xs f a.1)
