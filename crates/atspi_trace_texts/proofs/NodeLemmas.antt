-- How a node is told by its path, and that this tells the path.
use Rattle.std.proofs.Common.{◌≡◌, ℕ, zero, suc, ◌+◌, ◌<◌, ◌^◌, Bool, true, false, cond, List, [], ◌∷◌, ◌++◌, length, take, drop, get_or, refl, sym, ap, subst, ◌∙◌, arith, inl, inr, ◌⊎◌}
use Rattle.std.specs.Prelude.{codes, bytes_eq, nat_lt, IsTrue, ◌↔◌}
use Rattle.std.specs.Fmt.{decimal}
use Rattle.std.specs.Char.{is_ascii_digit}
use Rattle.std.specs.Str.Parse.{digits_value}
use Rattle.std.proofs.lemmas.Bool.{false≢true, ltb-true}
use Rattle.std.proofs.lemmas.Bool.Decides.{Decides-ltb}
use Rattle.std.proofs.lemmas.Slice.Eq.{bytes_eq-Decides}
use Rattle.std.proofs.lemmas.List.{append_cancel_left, length-append, take-append-drop}
use Rattle.std.proofs.Math.Seq.{take-append_seam}
use Rattle.std.proofs.lemmas.Fmt.{decimal_is_IsNumeral}
use Rattle.atspi_tree_model.specs.Path.{base_path, path_of}
use Rattle.atspi_tree_model.proofs.Path.{not_root}
use Rattle.atspi_base.specs.valid_names.Names.{IsPath}
use Rattle.atspi_script_lines.proofs.NumberLemmas.{digits_begin, number_once}
use Rattle.atspi_trace_texts.specs.Rows.{IsNodeWord, last_number, node_text}
use Rattle.atspi_trace_texts.specs.Laws.{NodesAreTold}

drop_front : (a b : List ℕ) → drop (length a) (a ++ b) ≡ b
drop_front [] b = refl
drop_front (x ∷ a) b = drop_front a b

root_path : path_of 0 ≡ base_path ++ codes "root"
unfolding path_of
root_path = refl

number_path : (n : ℕ) → suc n < 2 ^ 32 → path_of (suc n) ≡ base_path ++ decimal (suc n)
unfolding path_of
number_path n small = by (nat_lt (suc n) (2 ^ 32)) ((Decides-ltb (suc n) (2 ^ 32)).1 small)
  where
    by : (t : Bool) → t ≡ true → cond t (base_path ++ decimal (suc n)) ((n + 256) ∷ []) ≡ base_path ++ decimal (suc n)
    by true e = refl
    by false e = absurd (false≢true e)

-- a number of 2 ^ 32 or more has no path
far_path : (n : ℕ) → (suc n < 2 ^ 32 → ⊥) → path_of (suc n) ≡ (n + 256) ∷ []
unfolding path_of
far_path n far = by (nat_lt (suc n) (2 ^ 32)) refl
  where
    by : (t : Bool) → nat_lt (suc n) (2 ^ 32) ≡ t → cond t (base_path ++ decimal (suc n)) ((n + 256) ∷ []) ≡ (n + 256) ∷ []
    by true e = absurd (far (ltb-true (suc n) (2 ^ 32) e))
    by false e = refl

last_of : (n : ℕ) → n < 2 ^ 32 → last_number (base_path ++ decimal n) ≡ n
unfolding last_number
last_of n small = ap (digits_value 10) (drop_front base_path (decimal n)) ∙ (decimal_is_IsNumeral n (omega arith)).1

not_same : (a b : List ℕ) → (a ≡ b → ⊥) → bytes_eq a b ≡ false
not_same a b other = by (bytes_eq a b) refl
  where
    by : (t : Bool) → bytes_eq a b ≡ t → t ≡ false
    by true e = absurd (other ((bytes_eq-Decides a b).0 e))
    by false e = refl

-- what is told of a path, by the two tests
abbrev choice : Bool → Bool → List ℕ → List ℕ → List ℕ
choice root own number path = cond root (codes "root") (cond own number path)

-- the root
pub root_told : node_text (base_path ++ codes "root") ≡ codes "root"
unfolding node_text
root_told =
    let path = base_path ++ codes "root" in
    ap (λ t. choice t (bytes_eq path (path_of (last_number path))) (decimal (last_number path)) path) ((bytes_eq-Decides path (path_of 0)).1 (sym root_path))

-- another node
pub number_told : (n : ℕ) → suc n < 2 ^ 32 → node_text (base_path ++ decimal (suc n)) ≡ decimal (suc n)
unfolding node_text
number_told n small =
    let path = base_path ++ decimal (suc n) in
    let last : last_number path ≡ suc n = last_of (suc n) small in
    let other : bytes_eq path (path_of 0) ≡ false = not_same path (path_of 0) (λ e. not_root (suc n) small (append_cancel_left base_path (codes "root") (decimal (suc n)) (sym (e ∙ root_path)))) in
    let own : bytes_eq path (path_of (last_number path)) ≡ true = (bytes_eq-Decides path (path_of (last_number path))).1 (sym (ap path_of last ∙ number_path n small)) in
    ap (λ t. choice t (bytes_eq path (path_of (last_number path))) (decimal (last_number path)) path) other
    ∙ ap (λ t. choice false t (decimal (last_number path)) path) own
    ∙ ap decimal last

pub nodes_told : NodesAreTold
nodes_told zero small = ap node_text root_path ∙ root_told
nodes_told (suc n) small = ap node_text (number_path n small) ∙ number_told n small

-- the path of a node, by its number
abbrev pub IsOwn : List ℕ → ℕ → Type 0
IsOwn path n = (n < 2 ^ 32) × (path ≡ path_of n)

-- a list of one is longer than the base only where nothing is left
short_number : (x : ℕ) → last_number (x ∷ []) ≡ 0
unfolding last_number
short_number x = refl

-- a path whose number has a path that is it is the path of a node
own_number : (path : List ℕ) → path ≡ path_of (last_number path) → last_number path < 2 ^ 32
own_number path e = by (last_number path) refl
  where
    by : (k : ℕ) → last_number path ≡ k → k < 2 ^ 32
    by zero f = omega arith
    by (suc k) f = small (nat_lt (suc k) (2 ^ 32)) refl
      where
        small : (t : Bool) → nat_lt (suc k) (2 ^ 32) ≡ t → suc k < 2 ^ 32
        small true g = ltb-true (suc k) (2 ^ 32) g
        small false g =
            let far : suc k < 2 ^ 32 → ⊥ = λ l. false≢true (sym g ∙ (Decides-ltb (suc k) (2 ^ 32)).1 l) in
            let is : path ≡ (k + 256) ∷ [] = e ∙ ap path_of f ∙ far_path k far in
            let none : suc k ≡ 0 = sym f ∙ ap last_number is ∙ short_number (k + 256) in
            absurd (omega (arith, none))

-- any other path
pub other_told : (path : List ℕ) → ((n : ℕ) → IsOwn path n → ⊥) → node_text path ≡ path
unfolding node_text
other_told path other =
    let no_root : bytes_eq path (path_of 0) ≡ false = not_same path (path_of 0) (λ e. other 0 (omega arith, e)) in
    let no_number : bytes_eq path (path_of (last_number path)) ≡ false = not_same path (path_of (last_number path)) (λ e. other (last_number path) (own_number path e, e)) in
    ap (λ t. choice t (bytes_eq path (path_of (last_number path))) (decimal (last_number path)) path) no_root
    ∙ ap (λ t. choice false t (decimal (last_number path)) path) no_number

-- a path as it is told: itself, or without the base a word that begins with no `/` and no `-`
pub record IsCut (path : List ℕ) : Type 0 where
  pub whole : path ≡ base_path ++ node_text path
  pub word : IsNodeWord (node_text path)

pub told_by : (path : List ℕ) → (node_text path ≡ path) ⊎ IsCut path
unfolding node_text
told_by path = by (bytes_eq path (path_of 0)) (bytes_eq path (path_of (last_number path))) refl refl
  where
    told : Bool → Bool → List ℕ
    told a b = choice a b (decimal (last_number path)) path

    cut : (n : ℕ) → suc n < 2 ^ 32 → path ≡ base_path ++ decimal (suc n) → IsCut path
    cut n small e =
        let t : node_text path ≡ decimal (suc n) = ap node_text e ∙ number_told n small in
        record { whole = e ∙ ap (λ w. base_path ++ w) (sym t); word = inr (suc n, small, omega arith, t) }

    root : path ≡ path_of 0 → IsCut path
    root e =
        let t : node_text path ≡ codes "root" = ap node_text (e ∙ root_path) ∙ root_told in
        record { whole = e ∙ root_path ∙ ap (λ w. base_path ++ w) (sym t); word = inl t }

    number : (k : ℕ) → k < 2 ^ 32 → path ≡ path_of k → IsCut path
    number zero small e = root e
    number (suc k) small e = cut k small (e ∙ number_path k small)

    by : (a b : Bool) → bytes_eq path (path_of 0) ≡ a → bytes_eq path (path_of (last_number path)) ≡ b → (node_text path ≡ path) ⊎ IsCut path
    by true b e f = inr (root ((bytes_eq-Decides path (path_of 0)).0 e))
    by false true e f = let is = (bytes_eq-Decides path (path_of (last_number path))).0 f in inr (number (last_number path) (own_number path is) is)
    by false false e f =
        inl
        (ap (λ t. choice t (bytes_eq path (path_of (last_number path))) (decimal (last_number path)) path) e
        ∙ ap (λ t. choice false t (decimal (last_number path)) path) f)

-- how a path begins: with `/`, and what is told of it with that, with an `r` or with a digit
path_begins : (path : List ℕ) → IsPath path → get_or path 0 0 ≡ 47
path_begins [] h = absurd h
path_begins (b ∷ path) h = h.0

pub word_begins : (word : List ℕ) → IsNodeWord word → (get_or word 0 0 ≡ 47 → ⊥) × (get_or word 0 0 ≡ 45 → ⊥)
word_begins word (inl e) = (λ h. omega (arith, h, ap (λ (l : List ℕ). get_or l 0 0) e), λ h. omega (arith, h, ap (λ (l : List ℕ). get_or l 0 0) e))
word_begins word (inr s) =
    let digit : is_ascii_digit (get_or word 0 0) ≡ true = subst (λ w. is_ascii_digit (get_or w 0 0) ≡ true) (sym s.3) (digits_begin s.0 s.1) in (
      λ h. false≢true (subst (λ b. is_ascii_digit b ≡ true) h digit),
      λ h. false≢true (subst (λ b. is_ascii_digit b ≡ true) h digit),
    )

-- what is told of a path tells the path
pub node_once : (a b : List ℕ) → IsPath a → IsPath b → node_text a ≡ node_text b → a ≡ b
node_once a b p q e = by (told_by a) (told_by b)
  where
    by : (node_text a ≡ a) ⊎ IsCut a → (node_text b ≡ b) ⊎ IsCut b → a ≡ b
    by (inl s) (inl t) = sym s ∙ e ∙ t
    by (inl s) (inr t) = absurd ((word_begins (node_text b) t.word).0 (ap (λ (l : List ℕ). get_or l 0 0) (sym e ∙ s) ∙ path_begins a p))
    by (inr s) (inl t) = absurd ((word_begins (node_text a) s.word).0 (ap (λ (l : List ℕ). get_or l 0 0) (e ∙ t) ∙ path_begins b q))
    by (inr s) (inr t) = s.whole ∙ ap (λ w. base_path ++ w) e ∙ sym t.whole

-- it never begins with `-`
pub node_no_dash : (path : List ℕ) → IsPath path → get_or (node_text path) 0 0 ≡ 45 → ⊥
node_no_dash path p e = by (told_by path)
  where
    by : (node_text path ≡ path) ⊎ IsCut path → ⊥
    by (inl s) = let h : 47 ≡ 45 = sym (path_begins path p) ∙ ap (λ (l : List ℕ). get_or l 0 0) (sym s) ∙ e in absurd (omega (arith, h))
    by (inr s) = (word_begins (node_text path) s.word).1 e

-- the word behind the base, as the code finds it
pub word_told : (path word : List ℕ) → path ≡ base_path ++ word → IsNodeWord word → node_text path ≡ word
word_told path word e (inl root) = ap node_text (e ∙ ap (λ w. base_path ++ w) root) ∙ root_told ∙ sym root
word_told path word e (inr s) = by s.0 s.1 s.2 s.3
  where
    by : (n : ℕ) → n < 2 ^ 32 → 0 < n → word ≡ decimal n → node_text path ≡ word
    by zero small some f = absurd (omega (arith, some))
    by (suc n) small some f = ap node_text (e ∙ ap (λ w. base_path ++ w) f) ∙ number_told n small ∙ sym f

-- and where it finds none
pub no_base : (path : List ℕ) → ((word : List ℕ) → path ≡ base_path ++ word → ⊥) → node_text path ≡ path
no_base path none = other_told path own
  where
    own : (n : ℕ) → IsOwn path n → ⊥
    own zero h = none (codes "root") (h.1 ∙ root_path)
    own (suc n) h = none (decimal (suc n)) (h.1 ∙ number_path n h.0)

pub no_word : (path word : List ℕ) → path ≡ base_path ++ word → (IsNodeWord word → ⊥) → node_text path ≡ path
no_word path word e none = other_told path own
  where
    own : (n : ℕ) → IsOwn path n → ⊥
    own zero h = none (inl (append_cancel_left base_path word (codes "root") (sym e ∙ h.1 ∙ root_path)))
    own (suc n) h = none (inr (suc n, h.0, omega arith, append_cancel_left base_path word (decimal (suc n)) (sym e ∙ h.1 ∙ number_path n h.0)))

-- whether a word is that of a node, as the code asks
pub is_root : (word : List ℕ) → word ≡ codes "root" → IsTrue true ↔ IsNodeWord word
is_root word e = (λ yes. inl e, λ is. refl)

pub is_none : (word : List ℕ) → (word ≡ codes "root" → ⊥) → ((n : ℕ) → n < 2 ^ 32 → word ≡ decimal n → ⊥) → IsTrue false ↔ IsNodeWord word
is_none word other none = (λ no. absurd (false≢true no), λ is. elim is [ inl e ↦ absurd (other e) | inr s ↦ absurd (none s.0 s.1 s.3) ])

above_zero : (n : ℕ) → nat_lt 0 n ≡ true → 0 < n
above_zero n e = ltb-true 0 n e

pub is_number : (word : List ℕ) (n : ℕ) → (word ≡ codes "root" → ⊥) → (n < 2 ^ 32) × (word ≡ decimal n) → IsTrue (nat_lt 0 n) ↔ IsNodeWord word
is_number word n other h = (λ yes. inr (n, h.0, above_zero n yes, h.1), back)
  where
    back : IsNodeWord word → nat_lt 0 n ≡ true
    back (inl e) = absurd (other e)
    back (inr s) =
        let same : s.0 ≡ n = number_once s.0 n s.1 h.0 (sym s.3 ∙ h.1) in
        (Decides-ltb 0 n).1 (omega (arith, same, s.2))

-- the base in front of a path, as the code looks for it
base_long : length base_path ≡ 27
base_long = refl

pub short_path : (path : List ℕ) → length path < 27 → (word : List ℕ) → path ≡ base_path ++ word → ⊥
short_path path short word e = let h : length path ≡ length base_path + length word = ap length e ∙ length-append base_path word in omega (arith, short, h, base_long)

pub base_found : (path : List ℕ) → take 27 path ≡ base_path → path ≡ base_path ++ drop 27 path
base_found path e = sym (take-append-drop 27 path) ∙ ap (λ l. l ++ drop 27 path) e

pub other_base : (path : List ℕ) → (take 27 path ≡ base_path → ⊥) → (word : List ℕ) → path ≡ base_path ++ word → ⊥
other_base path other word e = other (ap (take 27) e ∙ take-append_seam base_path word)
