-- The line of a row is one row's, and has no line feed.
use Rattle.std.proofs.Common.{◌≡◌, ℕ, zero, suc, ◌+◌, ◌/◌, ◌%◌, ◌<◌, ◌^◌, Bool, true, false, cond, ◌==◌, ◌&&◌, List, [], ◌∷◌, ◌++◌, map, get_or, Option, None, Some, IfSome, refl, sym, ap, subst, ◌∙◌, arith, inl, inr, ◌⊎◌}
use Rattle.std.proofs.lemmas.Bool.{false≢true, eqb-true}
use Rattle.std.proofs.lemmas.Bool.Decides.{nat_tests}
use Rattle.std.specs.Prelude.{codes, ℤ}
use Rattle.std.specs.Char.{is_ascii_digit}
use Rattle.std.specs.Fmt.{decimal, signed_decimal}
use Rattle.std.specs.List.{AllByRecursion}
use Rattle.std.proofs.lemmas.Fmt.{signed_decimal_injective}
use Rattle.atspi_base.specs.Digits.{hex_digits}
use Rattle.atspi_base.specs.Quoted.{hex_digit, quoted}
use Rattle.atspi_base.specs.valid_names.Names.{IsPath}
use Rattle.atspi_tree_model.specs.declared.view.Part.{Part}
use Rattle.atspi_tree_model.specs.declared.view.Part.TheVariants.{Absent, Unknown, Known}
use Rattle.atspi_tree_model.specs.declared.view.NumPart.{NumPart}
use Rattle.atspi_tree_model.specs.declared.view.NumPart.TheVariants.{Absent as NoNumber, Unknown as UnknownNumber, Known as KnownNumber}
use Rattle.atspi_tree_model.specs.declared.view.Row.{Row}
use Rattle.atspi_script_lines.specs.Words.{Word, literal, role_name, quote, Leads, SpellsWords}
use Rattle.atspi_script_lines.specs.inner.Reading.{HasNoSpace}
use Rattle.atspi_script_lines.proofs.SpaceLemmas.{and_left, and_right, tested_no_space}
use Rattle.atspi_script_lines.proofs.NumberLemmas.{digits_begin, number_once}
use Rattle.atspi_script_lines.proofs.LeadLemmas.{lead_once, words_once}
use Rattle.atspi_trace_events.specs.declared.shown.ShownRow.{ShownRow}
use Rattle.atspi_trace_texts.specs.Rows.{IsNodeWord, kinds_text, letter_if_odd, node_text, number_text, parent_text, part_word, row_form, row_line}
use Rattle.atspi_trace_texts.specs.InTrace.{IsNumberPart, IsShownRow}
use Rattle.atspi_trace_texts.specs.Written.{words_behind}
use Rattle.atspi_trace_texts.proofs.Lacks.{Lacks, decimal_lacks, hex_lacks, lacks_append, no_space, signed_lacks}
use Rattle.atspi_trace_texts.proofs.NameLacks.{IsStrange, path_lacks, strange_space}
use Rattle.atspi_trace_texts.proofs.Led.{heads_once, words_spelled}
use Rattle.atspi_trace_texts.proofs.NodeLemmas.{IsCut, node_no_dash, node_once, told_by}

-- a node and a parent
root_lacks : (x : ℕ) → x < 45 → Lacks x (codes "root")
root_lacks x small = (λ e. omega (arith, e), (λ e. omega (arith, e), (λ e. omega (arith, e), (λ e. omega (arith, e), tt))))

word_lacks : (x : ℕ) (word : List ℕ) → x < 45 → IsNodeWord word → Lacks x word
word_lacks x word small (inl e) = subst (Lacks x) (sym e) (root_lacks x small)
word_lacks x word small (inr s) = subst (Lacks x) (sym s.3) (decimal_lacks x s.0 small)

pub node_lacks : (x : ℕ) (path : List ℕ) → x < 45 → IsStrange x → IsPath path → Lacks x (node_text path)
node_lacks x path small s p = by (told_by path)
  where
    by : (node_text path ≡ path) ⊎ IsCut path → Lacks x (node_text path)
    by (inl e) = subst (Lacks x) (sym e) (path_lacks x path s p)
    by (inr c) = word_lacks x (node_text path) small c.word

dash_lacks : (x : ℕ) → x < 45 → Lacks x (codes "-")
dash_lacks x small = (λ e. omega (arith, e), tt)

mark_lacks : (x : ℕ) → x < 45 → Lacks x (codes "?")
mark_lacks x small = (λ e. omega (arith, e), tt)

pub parent_lacks : (x : ℕ) (parent : Option (List ℕ)) → x < 45 → IsStrange x → IfSome parent IsPath → Lacks x (parent_text parent)
parent_lacks x None small s p = dash_lacks x small
parent_lacks x (Some path) small s p = node_lacks x path small s p

parent_once : (a b : Option (List ℕ)) → IfSome a IsPath → IfSome b IsPath → parent_text a ≡ parent_text b → a ≡ b
parent_once None None p q e = refl
parent_once None (Some b) p q e = absurd (node_no_dash b q (ap (λ (l : List ℕ). get_or l 0 0) (sym e)))
parent_once (Some a) None p q e = absurd (node_no_dash a p (ap (λ (l : List ℕ). get_or l 0 0) e))
parent_once (Some a) (Some b) p q e = let h : a ≡ b = node_once a b p q e in ap (λ (x : List ℕ). Some x) h

-- states
digit_once : (m n : ℕ) → m < 16 → n < 16 → hex_digit m ≡ hex_digit n → m ≡ n
digit_once m n p q e = grind (arith, nat_tests)

last_once : (a b : List ℕ) (x y : ℕ) → a ++ x ∷ [] ≡ b ++ y ∷ [] → (a ≡ b) × (x ≡ y)
last_once [] [] x y e = let h : x ≡ y = cc in (refl, h)
last_once [] (b ∷ vs) x y e = let h : [] ≡ vs ++ y ∷ [] = cc in absurd (none vs h)
  where
    none : (l : List ℕ) → [] ≡ l ++ y ∷ [] → ⊥
    none [] h = cc
    none (c ∷ l) h = cc
last_once (a ∷ us) [] x y e = let h : us ++ x ∷ [] ≡ [] = cc in absurd (none us h)
  where
    none : (l : List ℕ) → l ++ x ∷ [] ≡ [] → ⊥
    none [] h = cc
    none (c ∷ l) h = cc
last_once (a ∷ us) (b ∷ vs) x y e =
    let h : a ≡ b = cc in
    let t : us ++ x ∷ [] ≡ vs ++ y ∷ [] = cc in
    let r = last_once us vs x y t in
    (ap (λ l. a ∷ l) r.0 ∙ ap (λ c. c ∷ vs) h, r.1)

hex_once : (k m n : ℕ) → m < 16 ^ k → n < 16 ^ k → hex_digits k m ≡ hex_digits k n → m ≡ n
unfolding hex_digits
hex_once zero m n p q e = omega (arith, p, q)
hex_once (suc k) m n p q e =
    let r = last_once (hex_digits k (m / 16)) (hex_digits k (n / 16)) (hex_digit (m % 16)) (hex_digit (n % 16)) e in
    let low = digit_once (m % 16) (n % 16) (omega arith) (omega arith) r.1 in
    let high = hex_once k (m / 16) (n / 16) (omega (arith, p)) (omega (arith, q)) r.0 in
    omega (arith, low, high)

-- interfaces
abbrev letter_value : ℕ → ℕ
letter_value c = cond (c == 84) 1 (cond (c == 69) 2 (cond (c == 76) 4 (cond (c == 66) 8 (cond (c == 65) 16 0))))

abbrev letters_value : List ℕ → ℕ
letters_value [] = 0
letters_value (c ∷ cs) = letter_value c + letters_value cs

abbrev reads_back : ℕ → Bool
reads_back n = letters_value (kinds_text n) == n

abbrev all_read : ℕ → Bool
all_read zero = true
all_read (suc n) = reads_back n && all_read n

read_below : (k n : ℕ) → all_read k ≡ true → n < k → reads_back n ≡ true
read_below zero n h l = absurd (omega arith)
read_below (suc k) n h l = by (n == k) refl (λ less. read_below k n (and_right (reads_back k) (all_read k) h) less)
  where
    by : (t : Bool) → (n == k) ≡ t → (n < k → reads_back n ≡ true) → reads_back n ≡ true
    by true e more = subst (λ m. reads_back m ≡ true) (sym (eqb-true n k e)) (and_left (reads_back k) (all_read k) h)
    by false e more = more (grind (arith, nat_tests))

kinds_once : (m n : ℕ) → m < 32 → n < 32 → kinds_text m ≡ kinds_text n → m ≡ n
kinds_once m n p q e =
    sym (eqb-true (letters_value (kinds_text m)) m (read_below 32 m refl p))
    ∙ ap letters_value e
    ∙ eqb-true (letters_value (kinds_text n)) n (read_below 32 n refl q)

letter_lacks : (x letter n : ℕ) → (letter ≡ x → ⊥) → Lacks x (letter_if_odd letter n)
letter_lacks x letter n other = by (n % 2 == 1)
  where
    by : (t : Bool) → Lacks x (cond t (letter ∷ []) [])
    by true = (other, tt)
    by false = tt

pub kinds_lack : (x n : ℕ) → x < 45 → Lacks x (kinds_text n)
kinds_lack x n small = by (n % 32 == 0)
  where
    letters : List ℕ
    letters =
        letter_if_odd 84 n ++ (letter_if_odd 69 (n / 2) ++ (letter_if_odd 76 (n / 4) ++ (letter_if_odd 66 (n / 8) ++ letter_if_odd 65 (n / 16))))

    by : (t : Bool) → Lacks x (cond t (codes "-") letters)
    by true = dash_lacks x small
    by false =
        lacks_append x _ _ (letter_lacks x 84 n (λ e. omega (arith, e))) (lacks_append x _ _ (letter_lacks x 69 (n / 2) (λ e. omega (arith, e)))
        (lacks_append x _ _ (letter_lacks x 76 (n / 4) (λ e. omega (arith, e))) (lacks_append x _ _ (letter_lacks x 66 (n / 8) (λ e. omega (arith, e)))
        (letter_lacks x 65 (n / 16) (λ e. omega (arith, e))))))

-- numbers that may not be known
pub part_number_lacks : (x : ℕ) (p : NumPart) → x < 45 → Lacks x (number_text p)
part_number_lacks x NoNumber small = dash_lacks x small
part_number_lacks x UnknownNumber small = mark_lacks x small
part_number_lacks x (KnownNumber n) small = decimal_lacks x n small

no_digit : (n b : ℕ) → n < 2 ^ 32 → is_ascii_digit b ≡ false → decimal n ≡ b ∷ [] → ⊥
no_digit n b small other e =
    false≢true (sym other ∙ subst (λ w. is_ascii_digit (get_or w 0 0) ≡ true) e (digits_begin n small))

number_part_once : (a b : NumPart) → IsNumberPart a → IsNumberPart b → number_text a ≡ number_text b → a ≡ b
number_part_once NoNumber NoNumber p q e = refl
number_part_once UnknownNumber UnknownNumber p q e = refl
number_part_once (KnownNumber m) (KnownNumber n) p q e = ap KnownNumber (number_once m n p q e)
number_part_once NoNumber UnknownNumber p q e = absurd (omega (arith, ap (λ (l : List ℕ). get_or l 0 0) e))
number_part_once UnknownNumber NoNumber p q e = absurd (omega (arith, ap (λ (l : List ℕ). get_or l 0 0) e))
number_part_once NoNumber (KnownNumber n) p q e = absurd (no_digit n 45 q refl (sym e))
number_part_once UnknownNumber (KnownNumber n) p q e = absurd (no_digit n 63 q refl (sym e))
number_part_once (KnownNumber n) NoNumber p q e = absurd (no_digit n 45 p refl e)
number_part_once (KnownNumber n) UnknownNumber p q e = absurd (no_digit n 63 p refl e)

-- texts that may not be known
abbrev second_byte : List ℕ → ℕ
second_byte bytes = get_or bytes 1 0

literal_second : (b : ℕ) (rest bytes : List ℕ) → Leads (literal (b ∷ [])) rest bytes → second_byte bytes ≡ b
literal_second b rest bytes p =
    let f : bytes ≡ 32 ∷ ((b ∷ []) ++ rest) = p.front ∙ ap (λ s. 32 ∷ (s ++ rest)) p.spelled in
    ap second_byte f

quote_second : (x rest bytes : List ℕ) → Leads (quote x) rest bytes → second_byte bytes ≡ 34
quote_second x rest bytes p =
    let f : bytes ≡ 32 ∷ (quoted x ++ rest) = p.front ∙ ap (λ s. 32 ∷ (s ++ rest)) p.spelled.1 in
    ap second_byte f

free_dash : HasNoSpace (codes "-")
free_dash = tested_no_space (codes "-") refl

free_mark : HasNoSpace (codes "?")
free_mark = tested_no_space (codes "?") refl

part_once : (a b : Part) (r s bytes : List ℕ) → Leads (part_word a) r bytes → Leads (part_word b) s bytes → (a ≡ b) × (r ≡ s)
part_once Absent Absent r s bytes p q = (refl, (lead_once (literal (codes "-")) (literal (codes "-")) r s bytes (free_dash, free_dash) p q).1)
part_once Unknown Unknown r s bytes p q = (refl, (lead_once (literal (codes "?")) (literal (codes "?")) r s bytes (free_mark, free_mark) p q).1)
part_once (Known x) (Known y) r s bytes p q =
    let one = lead_once (quote x) (quote y) r s bytes tt p q in
    let h : quote x ≡ quote y = one.0 in
    let e : x ≡ y = cc in
    (ap Known e, one.1)
part_once Absent Unknown r s bytes p q = absurd (omega (arith, literal_second 45 r bytes p, literal_second 63 s bytes q))
part_once Unknown Absent r s bytes p q = absurd (omega (arith, literal_second 63 r bytes p, literal_second 45 s bytes q))
part_once Absent (Known y) r s bytes p q = absurd (omega (arith, literal_second 45 r bytes p, quote_second y s bytes q))
part_once (Known x) Absent r s bytes p q = absurd (omega (arith, quote_second x r bytes p, literal_second 45 s bytes q))
part_once Unknown (Known y) r s bytes p q = absurd (omega (arith, literal_second 63 r bytes p, quote_second y s bytes q))
part_once (Known x) Unknown r s bytes p q = absurd (omega (arith, quote_second x r bytes p, literal_second 63 s bytes q))

-- a row's words, up to its text
abbrev row_front : ShownRow → List Word
row_front shown =
    literal (codes "|") ∷ literal (node_text shown.row.path) ∷ literal (parent_text shown.parent)
    ∷ literal (signed_decimal shown.index) ∷ role_name shown.row.role ∷ literal (hex_digits 16 shown.row.states)
    ∷ quote shown.row.name ∷ quote shown.row.description ∷ literal (kinds_text shown.row.faces) ∷ []

abbrev row_back : ShownRow → List Word
row_back shown = part_word shown.row.text ∷ literal (number_text shown.row.caret) ∷ literal (number_text shown.row.columns) ∷ []

free_bar : HasNoSpace (codes "|")
free_bar = tested_no_space (codes "|") refl

free_node : (path : List ℕ) → IsPath path → HasNoSpace (node_text path)
free_node path p = no_space (node_text path) (node_lacks 32 path (omega arith) strange_space p)

free_parent : (parent : Option (List ℕ)) → IfSome parent IsPath → HasNoSpace (parent_text parent)
free_parent parent p = no_space (parent_text parent) (parent_lacks 32 parent (omega arith) strange_space p)

free_index : (z : ℤ) → HasNoSpace (signed_decimal z)
free_index z = no_space (signed_decimal z) (signed_lacks 32 z (omega arith))

free_states : (n : ℕ) → HasNoSpace (hex_digits 16 n)
free_states n = no_space (hex_digits 16 n) (hex_lacks 32 16 n (omega arith))

free_kinds : (n : ℕ) → HasNoSpace (kinds_text n)
free_kinds n = no_space (kinds_text n) (kinds_lack 32 n (omega arith))

free_part : (p : NumPart) → HasNoSpace (number_text p)
free_part p = no_space (number_text p) (part_number_lacks 32 p (omega arith))

same_row : (a b : Row) → a.path ≡ b.path → a.name ≡ b.name → a.description ≡ b.description → a.role ≡ b.role → a.states ≡ b.states → a.faces ≡ b.faces → a.text ≡ b.text → a.caret ≡ b.caret → a.columns ≡ b.columns → a ≡ b
same_row a b e0 e1 e2 e3 e4 e5 e6 e7 e8 =
    ap (λ x. record a { path = x }) e0
    ∙ ap (λ x. record a { path = b.path; name = x }) e1
    ∙ ap (λ x. record a { path = b.path; name = b.name; description = x }) e2
    ∙ ap (λ x. record a { path = b.path; name = b.name; description = b.description; role = x }) e3
    ∙ ap (λ x. record a { path = b.path; name = b.name; description = b.description; role = b.role; states = x }) e4
    ∙ ap (λ x. record a { path = b.path; name = b.name; description = b.description; role = b.role; states = b.states; faces = x }) e5
    ∙ ap (λ x. record a { path = b.path; name = b.name; description = b.description; role = b.role; states = b.states; faces = b.faces; text = x }) e6
    ∙ ap (λ x. record a { path = b.path; name = b.name; description = b.description; role = b.role; states = b.states; faces = b.faces; text = b.text; caret = x }) e7
    ∙ ap (λ x. record a { path = b.path; name = b.name; description = b.description; role = b.role; states = b.states; faces = b.faces; text = b.text; caret = b.caret; columns = x }) e8

same_shown : (a b : ShownRow) → a.parent ≡ b.parent → a.index ≡ b.index → a.row ≡ b.row → a ≡ b
same_shown a b e0 e1 e2 =
    ap (λ x. record a { parent = x }) e0 ∙ ap (λ x. record a { parent = b.parent; index = x }) e1 ∙ ap (λ x. record a { parent = b.parent; index = b.index; row = x }) e2

row_words_once : (a b : ShownRow) (bytes : List ℕ) → IsShownRow a → IsShownRow b → SpellsWords (row_form a) bytes → SpellsWords (row_form b) bytes → a ≡ b
row_words_once a b bytes p q s t =
    let h = heads_once (row_front a) (row_front b) (row_back a) (row_back b) bytes (
      (free_bar, free_bar),
      (
        (free_node a.row.path p.path, free_node b.row.path q.path),
        (
          (free_parent a.parent p.parent, free_parent b.parent q.parent),
          ((free_index a.index, free_index b.index), (tt, ((free_states a.row.states, free_states b.row.states), (tt, (tt, ((free_kinds a.row.faces, free_kinds b.row.faces), tt)))))),
        ),
      ),
    )
    s t in
    let all : row_front a ≡ row_front b = h.same in
    let l = h.left in
    let r = h.right in
    let part = part_once a.row.text b.row.text l.0 r.0 h.rest l.1 r.1 in
    let back : (literal (number_text a.row.caret) ∷ literal (number_text a.row.columns) ∷ []) ≡ (literal (number_text b.row.caret) ∷ literal (number_text b.row.columns) ∷ []) =
    words_once (literal (number_text a.row.caret) ∷ literal (number_text a.row.columns) ∷ []) (literal (number_text b.row.caret) ∷ literal (number_text b.row.columns) ∷ []) l.0
    ((free_part a.row.caret, free_part b.row.caret), ((free_part a.row.columns, free_part b.row.columns), tt)) l.2
    (subst (SpellsWords (literal (number_text b.row.caret) ∷ literal (number_text b.row.columns) ∷ [])) (sym part.1) r.2) in
    let node : node_text a.row.path ≡ node_text b.row.path = cc in
    let parent : parent_text a.parent ≡ parent_text b.parent = cc in
    let index : signed_decimal a.index ≡ signed_decimal b.index = cc in
    let role : a.row.role ≡ b.row.role = cc in
    let states : hex_digits 16 a.row.states ≡ hex_digits 16 b.row.states = cc in
    let name : a.row.name ≡ b.row.name = cc in
    let description : a.row.description ≡ b.row.description = cc in
    let kinds : kinds_text a.row.faces ≡ kinds_text b.row.faces = cc in
    let caret : number_text a.row.caret ≡ number_text b.row.caret = cc in
    let columns : number_text a.row.columns ≡ number_text b.row.columns = cc in
    same_shown a b (parent_once a.parent b.parent p.parent q.parent parent)
    (signed_decimal_injective a.index b.index (omega (arith, p.index)) (omega (arith, q.index)) index)
    (same_row a.row b.row (node_once a.row.path b.row.path p.path q.path node) name description role
    (hex_once 16 a.row.states b.row.states (omega (arith, p.states)) (omega (arith, q.states)) states)
    (kinds_once a.row.faces b.row.faces p.faces q.faces kinds) part.0
    (number_part_once a.row.caret b.row.caret p.caret q.caret caret) (number_part_once a.row.columns b.row.columns p.columns q.columns columns))

-- two rows of one line are one row
row_once : (a b : ShownRow) → IsShownRow a → IsShownRow b → row_line a ≡ row_line b → a ≡ b
row_once a b p q e =
    row_words_once a b (words_behind (row_form a)) p q (words_spelled (row_form a) p.words)
    (subst (SpellsWords (row_form b)) (ap (λ l. 32 ∷ l) (sym e)) (words_spelled (row_form b) q.words))

pub rows_once : (xs ys : List ShownRow) → AllByRecursion IsShownRow xs → AllByRecursion IsShownRow ys → map row_line xs ≡ map row_line ys → xs ≡ ys
rows_once [] [] p q e = refl
rows_once [] (y ∷ ys) p q e = absurd cc
rows_once (x ∷ xs) [] p q e = absurd cc
rows_once (x ∷ xs) (y ∷ ys) p q e =
    let first : row_line x ≡ row_line y = cc in
    let others : map row_line xs ≡ map row_line ys = cc in
    ap (λ r. r ∷ xs) (row_once x y p.0 q.0 first) ∙ ap (λ l. y ∷ l) (rows_once xs ys p.1 q.1 others)
