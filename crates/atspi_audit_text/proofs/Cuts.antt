-- Texts cut at their first line feed.
use Rattle.std.proofs.Common.{◌≡◌, ◌≢◌, ℕ, zero, suc, ◌+◌, ◌-◌, ◌<◌, List, [], ◌∷◌, ◌++◌, length, get_or, take, drop, take_all, length-drop, refl, sym, ap, subst, ◌∙◌, arith, append_assoc}
use Rattle.std.specs.List.{flat_map}
use Rattle.atspi_trace_texts.specs.EventText.{ended}
use Rattle.atspi_trace_texts.proofs.Lacks.{Lacks}
use Rattle.atspi_audit_text.specs.inner.Lines.{HasNoFeed}

pub no_feed : (bytes : List ℕ) → Lacks 10 bytes → HasNoFeed bytes
no_feed [] h = tt
no_feed (b ∷ bytes) h = (h.0, no_feed bytes h.1)

-- no byte below i is a line feed
abbrev pub NoneBefore : List ℕ → ℕ → Type 0
NoneBefore bytes i = (k : ℕ) → k < i → get_or bytes k 0 ≢ 10

pub no_feed_before : (bytes : List ℕ) (i : ℕ) → NoneBefore bytes i → HasNoFeed (take i bytes)
no_feed_before bytes zero none = tt
no_feed_before [] (suc i) none = tt
no_feed_before (b ∷ bytes) (suc i) none = (none 0 (omega arith), no_feed_before bytes i (λ k l. none (suc k) (omega arith)))

cut_behind : (bytes : List ℕ) (i : ℕ) → i < length bytes → get_or bytes i 0 ≡ 10 → bytes ≡ take i bytes ++ 10 ∷ drop (suc i) bytes
cut_behind [] i l e = absurd (omega arith)
cut_behind (b ∷ bytes) zero l e = ap (λ c. c ∷ bytes) e
cut_behind (b ∷ bytes) (suc i) l e = ap (λ c. b ∷ c) (cut_behind bytes i (omega arith) e)

pub cut_at : (bytes : List ℕ) (i : ℕ) → i < length bytes → get_or bytes i 0 ≡ 10 → bytes ≡ take i bytes ++ 10 ∷ take (length bytes - (i + 1)) (drop (i + 1) bytes)
cut_at bytes i l e =
    subst (λ k. bytes ≡ take i bytes ++ 10 ∷ drop k bytes) same (cut_behind bytes i l e)
    ∙ ap (λ d. take i bytes ++ 10 ∷ d) (sym (take_all (length bytes - (i + 1)) (drop (i + 1) bytes) (omega (arith, length-drop (i + 1) bytes))))
  where
    same : suc i ≡ i + 1
    same = omega arith

abbrev pub NoneIn : List ℕ → Type 0
NoneIn bytes = NoneBefore bytes (length bytes)

pub no_line : (line rest : List ℕ) → NoneIn (line ++ 10 ∷ rest) → ⊥
no_line [] rest none = none 0 (omega arith) refl
no_line (b ∷ line) rest none = no_line line rest (λ k l. none (suc k) (omega arith))

pub cut_once : (u v x y : List ℕ) → HasNoFeed u → HasNoFeed v → u ++ 10 ∷ x ≡ v ++ 10 ∷ y → (u ≡ v) × (x ≡ y)
cut_once [] [] x y p q e = let h : x ≡ y = cc in (refl, h)
cut_once [] (b ∷ v) x y p q e = let h : 10 ≡ b = cc in absurd (q.0 (sym h))
cut_once (a ∷ u) [] x y p q e = let h : a ≡ 10 = cc in absurd (p.0 h)
cut_once (a ∷ u) (b ∷ v) x y p q e =
    let h : a ≡ b = cc in
    let t : u ++ 10 ∷ x ≡ v ++ 10 ∷ y = cc in
    let r = cut_once u v x y p.1 q.1 t in
    (ap (λ l. a ∷ l) r.0 ∙ ap (λ c. c ∷ v) h, r.1)

-- a line that is ended, and what follows
pub ended_is : (line rest : List ℕ) → ended line ++ rest ≡ line ++ 10 ∷ rest
ended_is line rest = append_assoc line (10 ∷ []) rest

-- as many lines in front of both
abbrev pub AllLack : List (List ℕ) → Type 0
AllLack [] = Unit {0}
AllLack (l ∷ ls) = HasNoFeed l × AllLack ls

pub lines_once : (ls ms : List (List ℕ)) (x y : List ℕ) → length ls ≡ length ms → AllLack ls → AllLack ms → flat_map ended ls ++ x ≡ flat_map ended ms ++ y → (ls ≡ ms) × (x ≡ y)
lines_once [] [] x y n p q e = (refl, e)
lines_once [] (m ∷ ms) x y n p q e = absurd (omega (arith, n))
lines_once (l ∷ ls) [] x y n p q e = absurd (omega (arith, n))
lines_once (l ∷ ls) (m ∷ ms) x y n p q e =
    let left : (ended l ++ flat_map ended ls) ++ x ≡ l ++ 10 ∷ (flat_map ended ls ++ x) = append_assoc (ended l) (flat_map ended ls) x ∙ ended_is l (flat_map ended ls ++ x) in
    let right : (ended m ++ flat_map ended ms) ++ y ≡ m ++ 10 ∷ (flat_map ended ms ++ y) = append_assoc (ended m) (flat_map ended ms) y ∙ ended_is m (flat_map ended ms ++ y) in
    let r = cut_once l m (flat_map ended ls ++ x) (flat_map ended ms ++ y) p.0 q.0 (sym left ∙ e ∙ right) in
    let more = lines_once ls ms x y (omega (arith, n)) p.1 q.1 r.1 in
    (ap (λ z. z ∷ ls) r.0 ∙ ap (λ z. m ∷ z) more.0, more.1)
