-- Each pair once: what is heard stays, and one more is put at the end unless it is there.
use Rattle.std.proofs.Common.{◌≡◌, ℕ, Bool, true, false, cond, List, [], ◌∷◌, ◌++◌, refl, sym, ap, ◌∙◌, true≢false}
use Rattle.std.specs.Prelude.{filter, not, bytes_eq, ◌&&◌, ◌||◌, if◌then◌else◌}
use Rattle.std.specs.List.{list_any}
use Rattle.std.proofs.lemmas.Bool.{and_parts, and_from}
use Rattle.std.proofs.lemmas.List.{append-nil}
use Rattle.std.proofs.lemmas.Slice.Eq.{bytes_eq-Decides}
use Rattle.atspi_protocol.specs.exporting.Hearing.{is_pair, is_heard, firsts}

abbrev Pair : Type 0
Pair = List ℕ × List ℕ

pair_same : (p q : Pair) → is_pair p q ≡ true → p ≡ q
pair_same p q e =
    let both = and_parts (bytes_eq p.0 q.0) (bytes_eq p.1 q.1) e in
    let a = (bytes_eq-Decides p.0 q.0).0 both.0 in
    let b = (bytes_eq-Decides p.1 q.1).0 both.1 in
    λ i. (a i, b i)

pair_self : (p : Pair) → is_pair p p ≡ true
pair_self p = and_from (bytes_eq p.0 p.0) (bytes_eq p.1 p.1) ((bytes_eq-Decides p.0 p.0).1 refl) ((bytes_eq-Decides p.1 p.1).1 refl)

pair_swapped : (p q : Pair) → is_pair p q ≡ true → is_pair q p ≡ true
pair_swapped p q e = ap (λ x. is_pair q x) (pair_same p q e) ∙ pair_self q

pair_unswapped : (p q : Pair) → is_pair p q ≡ false → is_pair q p ≡ false
pair_unswapped p q e = by (is_pair q p) refl
  where
    by : (b : Bool) → is_pair q p ≡ b → is_pair q p ≡ false
    by true f = absurd (true≢false (sym (pair_swapped q p f) ∙ e))
    by false f = f

-- the others than q
abbrev without : Pair → List Pair → List Pair
without q fs = filter (λ x. not (is_pair q x)) fs

heard_without : (p q : Pair) (fs : List Pair) → is_pair p q ≡ false → is_heard (without q fs) p ≡ is_heard fs p
heard_without p q [] e = refl
heard_without p q (x ∷ fs) e = by (is_pair q x) refl (heard_without p q fs e)
  where
    by : (b : Bool) → is_pair q x ≡ b → is_heard (without q fs) p ≡ is_heard fs p
        → is_heard (cond (not (is_pair q x)) (x ∷ without q fs) (without q fs)) p ≡ (is_pair p x || is_heard fs p)
    by true f rest =
        ap (λ b. is_heard (cond (not b) (x ∷ without q fs) (without q fs)) p) f ∙ rest
        ∙ ap (λ b. b || is_heard fs p) (sym e ∙ ap (is_pair p) (pair_same q x f))
    by false f rest =
        ap (λ b. is_heard (cond (not b) (x ∷ without q fs) (without q fs)) p) f ∙ ap (λ b. is_pair p x || b) rest

pub heard_firsts : (ps : List Pair) (p : Pair) → is_heard (firsts ps) p ≡ is_heard ps p
heard_firsts [] p = refl
heard_firsts (q ∷ ps) p = by (is_pair p q) refl (heard_firsts ps p)
  where
    by : (b : Bool) → is_pair p q ≡ b → is_heard (firsts ps) p ≡ is_heard ps p → (is_pair p q || is_heard (without q (firsts ps)) p) ≡ (is_pair p q || is_heard ps p)
    by true e rest = ap (λ b. b || is_heard (without q (firsts ps)) p) e ∙ sym (ap (λ b. b || is_heard ps p) e)
    by false e rest = ap (λ b. is_pair p q || b) (heard_without p q (firsts ps) e ∙ rest)

-- the same test keeps the same
pub filter_by_firsts : (ps xs : List Pair) → filter (is_heard (firsts ps)) xs ≡ filter (is_heard ps) xs
filter_by_firsts ps [] = refl
filter_by_firsts ps (x ∷ xs) =
    ap (λ b. cond b (x ∷ filter (is_heard (firsts ps)) xs) (filter (is_heard (firsts ps)) xs)) (heard_firsts ps x)
    ∙ ap (λ l. cond (is_heard ps x) (x ∷ l) l) (filter_by_firsts ps xs)

pub filter_not_firsts : (ps xs : List Pair) → filter (λ p. not (is_heard (firsts ps) p)) xs ≡ filter (λ p. not (is_heard ps p)) xs
filter_not_firsts ps [] = refl
filter_not_firsts ps (x ∷ xs) =
    ap (λ b. cond (not b) (x ∷ filter (λ p. not (is_heard (firsts ps) p)) xs) (filter (λ p. not (is_heard (firsts ps) p)) xs)) (heard_firsts ps x)
    ∙ ap (λ l. cond (not (is_heard ps x)) (x ∷ l) l) (filter_not_firsts ps xs)

without-append : (q : Pair) (xs : List Pair) (p : Pair) (b : Bool) → is_pair q p ≡ b
    → without q (xs ++ p ∷ []) ≡ cond b (without q xs) (without q xs ++ p ∷ [])
without-append q [] p true e = ap (λ b. cond (not b) (p ∷ []) []) e
without-append q [] p false e = ap (λ b. cond (not b) (p ∷ []) []) e
without-append q (x ∷ xs) p b e = by (is_pair q x) b (without-append q xs p b e)
  where
    by : (c b : Bool) → without q (xs ++ p ∷ []) ≡ cond b (without q xs) (without q xs ++ p ∷ [])
        → cond (not c) (x ∷ without q (xs ++ p ∷ [])) (without q (xs ++ p ∷ []))
        ≡ cond b (cond (not c) (x ∷ without q xs) (without q xs)) (cond (not c) (x ∷ without q xs) (without q xs) ++ p ∷ [])
    by true true h = h
    by true false h = h
    by false true h = ap (λ l. x ∷ l) h
    by false false h = ap (λ l. x ∷ l) h

last_of : (ps : List Pair) (p : Pair) → firsts (ps ++ p ∷ []) ≡ cond (is_heard ps p) (firsts ps) (firsts ps ++ p ∷ [])
last_of [] p = refl
last_of (q ∷ ps) p =
    ap (λ l. q ∷ without q l) (last_of ps p) ∙ by (is_heard ps p) (is_pair p q) refl
  where
    by : (b c : Bool) → is_pair p q ≡ c
        → q ∷ without q (cond b (firsts ps) (firsts ps ++ p ∷ [])) ≡ cond (c || b) (q ∷ without q (firsts ps)) ((q ∷ without q (firsts ps)) ++ p ∷ [])
    by true true e = refl
    by true false e = refl
    by false true e = ap (λ l. q ∷ l) (without-append q (firsts ps) p true (pair_swapped p q e))
    by false false e = ap (λ l. q ∷ l) (without-append q (firsts ps) p false (pair_unswapped p q e))

-- a pair behind others comes last, unless it is there
pub firsts_more : (ps : List Pair) (p : Pair) → (if is_heard (firsts ps) p then firsts ps else firsts ps ++ p ∷ []) ≡ firsts (ps ++ p ∷ [])
firsts_more ps p = ap (λ b. cond b (firsts ps) (firsts ps ++ p ∷ [])) (heard_firsts ps p) ∙ sym (last_of ps p)
