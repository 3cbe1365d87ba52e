-- Which node a path is of.
use Rattle.std.proofs.Common.{◌≡◌, ◌≢◌, ℕ, zero, suc, ◌+◌, ◌<◌, ◌^◌, Bool, true, false, cond, List, ◌∷◌, [], ◌++◌, length, take, drop, refl, sym, ap, ◌∙◌, arith}
use Rattle.std.specs.Prelude.{codes, nat_lt, Option, MatchOption}
use Rattle.std.specs.Borrow.{Bor}
use Rattle.std.specs.Fmt.{decimal}
use Rattle.std.proofs.lemmas.Bool.{false≢true}
use Rattle.std.proofs.lemmas.Bool.Decides.{Decides-ltb}
use Rattle.std.proofs.lemmas.List.{append_cancel_left, length-append, take-append-drop}
use Rattle.std.proofs.Math.Seq.{take-append_seam}
use Rattle.atspi_tree_model.specs.Path.{base_path, path_of}
use Rattle.atspi_script_lines.proofs.NumberLemmas.{number_once}

root_path : path_of 0 ≡ base_path ++ codes "root"
unfolding path_of
root_path = refl

number_path : (n : ℕ) → suc n < 2 ^ 32 → path_of (suc n) ≡ base_path ++ decimal (suc n)
unfolding path_of
number_path n small = by (nat_lt (suc n) (2 ^ 32)) ((Decides-ltb (suc n) (2 ^ 32)).1 small)
  where
    by : (t : Bool) → t ≡ true → cond t (base_path ++ decimal (suc n)) ((n + 256) ∷ []) ≡ base_path ++ decimal (suc n)
    by true e = refl
    by false e = absurd (false≢true e)

-- the base in front of a path, as the code looks for it
base_long : length base_path ≡ 27
base_long = refl

pub short_path : (path : List ℕ) → length path < 27 → (word : List ℕ) → path ≡ base_path ++ word → ⊥
short_path path short word e = let h : length path ≡ length base_path + length word = ap length e ∙ length-append base_path word in omega (arith, short, h, base_long)

pub base_found : (path : List ℕ) → take 27 path ≡ base_path → path ≡ base_path ++ drop 27 path
base_found path e = sym (take-append-drop 27 path) ∙ ap (λ l. l ++ drop 27 path) e

pub other_base : (path : List ℕ) → (take 27 path ≡ base_path → ⊥) → (word : List ℕ) → path ≡ base_path ++ word → ⊥
other_base path other word e = other (ap (take 27) e ∙ take-append_seam base_path word)

-- a path with another front, or with another word behind it, is that of no node
pub no_base : (path : List ℕ) → ((word : List ℕ) → path ≡ base_path ++ word → ⊥) → (n : ℕ) → n < 2 ^ 32 → path_of n ≢ path
no_base path none zero small e = none (codes "root") (sym e ∙ root_path)
no_base path none (suc n) small e = none (decimal (suc n)) (sym e ∙ number_path n small)

pub no_word : (path word : List ℕ) → path ≡ base_path ++ word → (word ≡ codes "root" → ⊥) → ((n : ℕ) → n < 2 ^ 32 → word ≡ decimal n → ⊥) → (n : ℕ) → n < 2 ^ 32 → path_of n ≢ path
no_word path word is other none zero small e = other (append_cancel_left base_path word (codes "root") (sym is ∙ sym e ∙ root_path))
no_word path word is other none (suc n) small e = none (suc n) small (append_cancel_left base_path word (decimal (suc n)) (sym is ∙ sym e ∙ number_path n small))

-- the number 0 is no node's
pub no_zero : (path word : List ℕ) (k : ℕ) → path ≡ base_path ++ word → (word ≡ codes "root" → ⊥) → (k < 2 ^ 32) × (word ≡ decimal k) → k ≡ 0 → (n : ℕ) → n < 2 ^ 32 → path_of n ≢ path
no_zero path word k is other spelled zero_ zero small e = other (append_cancel_left base_path word (codes "root") (sym is ∙ sym e ∙ root_path))
no_zero path word k is other spelled zero_ (suc n) small e =
    let same : suc n ≡ k = number_once (suc n) k small spelled.0 (sym (append_cancel_left base_path word (decimal (suc n)) (sym is ∙ sym e ∙ number_path n small)) ∙ spelled.1) in
    absurd (omega (arith, same, zero_))

pub root_found : (path word : List ℕ) → path ≡ base_path ++ word → word ≡ codes "root" → path_of 0 ≡ path
root_found path word is e = root_path ∙ sym (is ∙ ap (λ w. base_path ++ w) e)

pub number_found : (path word : List ℕ) (n : ℕ) → path ≡ base_path ++ word → (n < 2 ^ 32) × (word ≡ decimal n) → (n ≡ 0 → ⊥) → path_of n ≡ path
number_found path word zero is spelled some = absurd (some refl)
number_found path word (suc n) is spelled some = number_path n spelled.0 ∙ sym (is ∙ ap (λ w. base_path ++ w) spelled.1)

-- what the parts of the code answer
abbrev pub Behind : List ℕ → Option (Bor (List ℕ)) → Type 0
Behind path r = MatchOption r ((word : List ℕ) → path ≡ base_path ++ word → ⊥) (λ word. path ≡ base_path ++ word.now)

abbrev pub Spelled : List ℕ → Option ℕ → Type 0
Spelled word r = MatchOption r ((n : ℕ) → n < 2 ^ 32 → word ≡ decimal n → ⊥) (λ n. (n < 2 ^ 32) × (word ≡ decimal n))

abbrev pub IsOfNone : List ℕ → Type 0
IsOfNone path = (n : ℕ) → n < 2 ^ 32 → path_of n ≢ path
