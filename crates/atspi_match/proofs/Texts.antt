-- Texts that begin or end with another.
use Rattle.std.proofs.Common.{◌≡◌, ◌≢◌, ℕ, ◌-◌, ◌<◌, ◌≤◌, Bool, eqb, List, [], ◌∷◌, ◌++◌, length, get_or, take, drop, sym, ap, ◌∙◌, inl, inr, ⊎_elim, arith, append_assoc, append-nil}
use Rattle.std.specs.Bool.{Decides}
use Rattle.std.specs.Cmp.Lexicographic.{pointwise}
use Rattle.std.proofs.lemmas.Bool.Decides.{Decides-eqb}
use Rattle.std.proofs.lemmas.Slice.Eq.{starts_is, ends_is}
use Rattle.std.proofs.lemmas.List.{append_cancel_left}
use Rattle.atspi_match.specs.Matching.{BeginsWith, EndsInSlash, IsWithin}

-- what `starts_with` tells
pub begins-Decides : (text front : List ℕ) (r : Bool) → r ≡ pointwise eqb front (take (length front) text) → Decides r (BeginsWith text front)
begins-Decides text front r e =
    let h = starts_is Decides-eqb text front r e in (λ t. (drop (length front) text, h.0 t), λ b. h.1 b.0 b.1)

-- what `ends_with` tells
pub ends-Decides : (text : List ℕ) (r : Bool) → r ≡ pointwise eqb (47 ∷ []) (drop (length text - length {A = ℕ} (47 ∷ [])) text)
    → Decides r (EndsInSlash text)
ends-Decides text r e =
    let h = ends_is Decides-eqb text (47 ∷ []) r e in (λ t. (take (length text - length {A = ℕ} (47 ∷ [])) text, h.0 t), λ b. h.1 b.0 b.1)

-- a text that does not begin with the namespace is not in it
pub within_none : (separator : ℕ) (namespace text : List ℕ) → ((rest : List ℕ) → text ≢ namespace ++ rest) → IsWithin separator namespace text → ⊥
within_none separator namespace text none within =
    ⊎_elim (λ e. none [] (e ∙ sym (append-nil namespace))) (λ b. none (separator ∷ b.0) (b.1 ∙ append_assoc namespace (separator ∷ []) b.0)) within

-- the namespace itself is in it
pub within_itself : (separator : ℕ) (namespace text rest : List ℕ) → text ≡ namespace ++ rest → length rest < 1 → IsWithin separator namespace text
within_itself separator namespace text [] e short = inl (e ∙ append-nil namespace)
within_itself separator namespace text (x ∷ xs) e short = absurd (omega arith)

-- what else begins with the namespace is in it where the separator follows
pub within_head : (separator : ℕ) (namespace text rest : List ℕ) → text ≡ namespace ++ rest → 1 ≤ length rest
    → Decides (eqb (get_or rest 0 0) separator) (IsWithin separator namespace text)
within_head separator namespace text [] e long = absurd (omega arith)
within_head separator namespace text (x ∷ xs) e long =
    let d = Decides-eqb x separator in (
      λ t. inr (xs, e ∙ ap (λ y. namespace ++ (y ∷ xs)) (d.0 t) ∙ sym (append_assoc namespace (separator ∷ []) xs)),
      ⊎_elim (λ same. absurd (no_more (append_cancel_left namespace (x ∷ xs) [] (sym e ∙ same ∙ sym (append-nil namespace)))))
          (λ b. d.1 (head_same (append_cancel_left namespace (x ∷ xs) (separator ∷ b.0) (sym e ∙ b.1 ∙ append_assoc namespace (separator ∷ []) b.0)))),
    )
  where
    no_more : {x : ℕ} {xs : List ℕ} → x ∷ xs ≡ [] → ⊥
    no_more e = cc

    head_same : {x y : ℕ} {xs ys : List ℕ} → x ∷ xs ≡ y ∷ ys → x ≡ y
    head_same e = cc
