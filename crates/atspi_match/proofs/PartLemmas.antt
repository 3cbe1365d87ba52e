-- The parts of a value's spelling: they go together, and are known by the bytes.
use Rattle.std.proofs.Common.{◌≡◌, ◌≢◌, ℕ, ◌+◌, ◌<◌, ◌≤◌, get_or, List, [], ◌∷◌, ◌++◌, length, map, take, drop, Bool, true, false, refl, sym, ap, subst, ◌∙◌, arith, append_assoc, append-nil, ◌⊎◌, inl, inr, ◌==◌, not}
use Rattle.std.specs.Prelude.{◌&&◌}
use Rattle.std.proofs.lemmas.Grind.{flat_map-append}
use Rattle.std.proofs.lemmas.Bool.{eqb-true, eqb-false, eq-eqb, and_parts, not-true, both_ways}
use Rattle.atspi_match.specs.Grammar.{is_plain, is_quotable, Are, Begins, EndsItem, Part, quoted, escaped, plain, part_text, part_value, spelling, value_of, IsPart, AreParts}
use Rattle.std.specs.List.{prefix_len}
use Rattle.std.proofs.lemmas.List.{take-append-drop}
use Rattle.std.proofs.lemmas.List.Sums.{prefix_len-le-length}
use Rattle.atspi_match.proofs.RunLemmas.{run_unique, begins-append, one_suc, passes}

pub spelling-append : (ps qs : List Part) → spelling (ps ++ qs) ≡ spelling ps ++ spelling qs
spelling-append ps qs = flat_map-append part_text ps qs

pub value_of-append : (ps qs : List Part) → value_of (ps ++ qs) ≡ value_of ps ++ value_of qs
value_of-append ps qs = flat_map-append part_value ps qs

-- parts, and further parts behind them
pub parts-append : (ps qs : List Part) (behind : List ℕ) → AreParts ps (spelling qs ++ behind) → AreParts qs behind → AreParts (ps ++ qs) behind
parts-append [] qs behind h k = k
parts-append (p ∷ ps) qs behind h k =
    let same : spelling ps ++ (spelling qs ++ behind) ≡ spelling (ps ++ qs) ++ behind = sym (append_assoc (spelling ps) (spelling qs) behind) ∙ ap (λ l. l ++ behind) (sym (spelling-append ps qs)) in
    (subst (λ l. IsPart p l) same h.0, parts-append ps qs behind h.1 k)

-- before other bytes, which begin with an apostrophe only where those did
part-behind : (p : Part) (t u : List ℕ) → (Begins (λ c. c == 39) u → Begins (λ c. c == 39) t) → IsPart p t → IsPart p u
part-behind (quoted bytes) t u k h = h
part-behind escaped t u k h = tt
part-behind (plain b) t u k h = (h.0, h.1, λ e c. h.2 e (k c))

pub parts-behind : (ps : List Part) (t u : List ℕ) → (Begins (λ c. c == 39) u → Begins (λ c. c == 39) t) → AreParts ps t → AreParts ps u
parts-behind [] t u k h = tt
parts-behind (p ∷ ps) t u k h = (part-behind p (spelling ps ++ t) (spelling ps ++ u) (begins-append (λ c. c == 39) (spelling ps) t u k) h.0, parts-behind ps t u k h.1)

-- bytes that stand for themselves
pub spelling-plain : (bytes : List ℕ) → spelling (map plain bytes) ≡ bytes
spelling-plain [] = refl
spelling-plain (b ∷ bytes) = ap (λ l. b ∷ l) (spelling-plain bytes)

pub value_of-plain : (bytes : List ℕ) → value_of (map plain bytes) ≡ bytes
value_of-plain [] = refl
value_of-plain (b ∷ bytes) = ap (λ l. b ∷ l) (value_of-plain bytes)

not_eq : (b c : ℕ) → not (b == c) ≡ true → b ≢ c
not_eq b c e h = both_ways (b == c) (not-true (b == c) e) (eq-eqb b c h)

pub are-plain : (bytes behind : List ℕ) → Are is_plain bytes → AreParts (map plain bytes) behind
are-plain [] behind h = tt
are-plain (b ∷ bytes) behind h =
    let first = and_parts (not (b == 39)) (not (b == 44) && not (b == 92)) h.0 in
    let second = and_parts (not (b == 44)) (not (b == 92)) first.1 in
    ((not_eq b 39 first.0, not_eq b 44 second.0, λ e _. not_eq b 92 second.1 e), are-plain bytes behind h.1)

-- where a spelling may stop: where the item ends, or at an apostrophe that no other follows
abbrev pub StopsSpelling : List ℕ → Type 0
StopsSpelling t = EndsItem t ⊎ ((rest : List ℕ) × (t ≡ 39 ∷ rest) × Are is_quotable rest)

closed : (xs ys : List ℕ) → Are is_quotable (xs ++ (39 ∷ ys)) → ⊥
closed [] ys h = let e : false ≡ true = h.0 in cc
closed (x ∷ xs) ys h = closed xs ys h.1

ends_at : (b : ℕ) (t rest : List ℕ) → EndsItem t → t ≡ b ∷ rest → b ≡ 44
ends_at b t rest h e = subst (λ l. EndsItem l) e h

-- no part begins there
no_part : (p : Part) (behind t : List ℕ) → IsPart p behind → StopsSpelling t → t ≡ part_text p ++ behind → ⊥
no_part (quoted bytes) behind t h (inl ends) e = eqb-false 39 44 refl (ends_at 39 t _ ends e)
no_part (quoted bytes) behind t h (inr (rest, is, each)) e =
    let rest_is : rest ≡ (bytes ++ 39 ∷ []) ++ behind = cc (sym is ∙ e) in
    closed bytes behind (subst (λ l. Are is_quotable l) (rest_is ∙ append_assoc bytes (39 ∷ []) behind) each)
no_part escaped behind t h (inl ends) e = eqb-false 92 44 refl (ends_at 92 t _ ends e)
no_part escaped behind t h (inr (rest, is, each)) e = eqb-false 39 92 refl (cc (sym is ∙ e))
no_part (plain b) behind t h (inl ends) e = h.1 (ends_at b t _ ends e)
no_part (plain b) behind t h (inr (rest, is, each)) e = h.0 (cc (sym is ∙ e))

closes : (ys : List ℕ) → Begins is_quotable (39 ∷ ys) → ⊥
closes ys h = let e : false ≡ true = h in cc

-- a part is known by its bytes
part_unique : (p q : Part) (t u : List ℕ) → IsPart p t → IsPart q u → part_text p ++ t ≡ part_text q ++ u → (p ≡ q) × (t ≡ u)
part_unique (quoted a) (quoted b) t u h k e =
    let rest : (a ++ 39 ∷ []) ++ t ≡ (b ++ 39 ∷ []) ++ u = cc in
    let r = run_unique is_quotable a b (39 ∷ t) (39 ∷ u) h k (closes t) (closes u) (sym (append_assoc a (39 ∷ []) t) ∙ rest ∙ append_assoc b (39 ∷ []) u) in
    (ap quoted r.0, cc (r.1))
part_unique (quoted a) escaped t u h k e = absurd (eqb-false 39 92 refl cc)
part_unique (quoted a) (plain b) t u h k e = let n : 39 ≡ b = cc in absurd (k.0 (sym n))
part_unique escaped (quoted b) t u h k e = absurd (eqb-false 92 39 refl cc)
part_unique escaped escaped t u h k e = (refl, cc)
part_unique escaped (plain b) t u h k e =
    let n : 92 ≡ b = cc in
    let rest : 39 ∷ t ≡ u = cc in
    absurd (k.2 (sym n) (subst (λ l. Begins (λ c. c == 39) l) rest refl))
part_unique (plain a) (quoted b) t u h k e = let n : a ≡ 39 = cc in absurd (h.0 n)
part_unique (plain a) escaped t u h k e =
    let n : a ≡ 92 = cc in
    let rest : t ≡ 39 ∷ u = cc in
    absurd (h.2 n (subst (λ l. Begins (λ c. c == 39) l) (sym rest) refl))
part_unique (plain a) (plain b) t u h k e = let n : a ≡ b = cc in (ap plain n, cc)

-- parts are known by the bytes
pub parts_unique : (ps qs : List Part) (t u : List ℕ) → StopsSpelling t → StopsSpelling u → AreParts ps t → AreParts qs u → spelling ps ++ t ≡ spelling qs ++ u → (ps ≡ qs) × (t ≡ u)
parts_unique [] [] t u s r h k e = (refl, e)
parts_unique [] (q ∷ qs) t u s r h k e = absurd (no_part q (spelling qs ++ u) t k.0 s (e ∙ append_assoc (part_text q) (spelling qs) u))
parts_unique (p ∷ ps) [] t u s r h k e = absurd (no_part p (spelling ps ++ t) u h.0 r (sym e ∙ append_assoc (part_text p) (spelling ps) t))
parts_unique (p ∷ ps) (q ∷ qs) t u s r h k e =
    let first = part_unique p q (spelling ps ++ t) (spelling qs ++ u) h.0 k.0 (sym (append_assoc (part_text p) (spelling ps) t) ∙ e ∙ append_assoc (part_text q) (spelling qs) u) in
    let rest = parts_unique ps qs t u s r h.1 k.1 first.1 in
    let heads : p ≡ q = first.0 in
    let tails : ps ≡ qs = rest.0 in
    (cc, rest.1)

-- bytes that stand for themselves, the first of which is a backslash only where no apostrophe follows
pub plain_run : (bytes : List ℕ) (n : ℕ) → 0 < length bytes → get_or bytes 0 0 ≢ 44 → get_or bytes 0 0 ≢ 39
    → (get_or bytes 0 0 ≡ 92 → Begins (λ c. c == 39) (drop 1 bytes) → ⊥) → n ≡ prefix_len is_plain (drop 1 bytes)
    → (1 ≤ 1 + n) × (1 + n ≤ length bytes) × AreParts (map plain (take (1 + n) bytes)) (drop (1 + n) bytes)
plain_run [] n some comma quote escape e = absurd (omega arith)
plain_run (b ∷ bytes) n some comma quote escape e =
    let le : n ≤ length bytes = omega (arith, e, prefix_len-le-length is_plain bytes) in
    let whole : spelling (map plain (take n bytes)) ++ drop n bytes ≡ bytes = ap (λ l. l ++ drop n bytes) (spelling-plain (take n bytes)) ∙ take-append-drop n bytes in
    let each : Are is_plain (take n bytes) = subst (λ m. Are is_plain (take m bytes)) (sym e) (passes is_plain bytes) in
    let first : IsPart (plain b) (spelling (map plain (take n bytes)) ++ drop n bytes) = (quote, comma, λ is k. escape is (subst (λ l. Begins (λ c. c == 39) l) whole k)) in
    rw (one_suc n) (omega arith, omega arith, (first, are-plain (take n bytes) (drop n bytes) each))

-- no apostrophe comes second
pub no_quote : (bytes : List ℕ) → get_or bytes 1 0 ≢ 39 → Begins (λ c. c == 39) (drop 1 bytes) → ⊥
no_quote [] n h = h
no_quote (b ∷ []) n h = h
no_quote (b ∷ c ∷ bytes) n h = n (eqb-true c 39 h)

pub no_second : (bytes : List ℕ) → length bytes ≤ 1 → Begins (λ c. c == 39) (drop 1 bytes) → ⊥
no_second [] n h = h
no_second (b ∷ []) n h = h
no_second (b ∷ c ∷ bytes) n h = omega arith
