-- Plain characters: which rules of words read over them.
use Rattle.std.proofs.Common.{◌≡◌, ℕ, Bool, true, false, cond, not, ◌&&◌, ◌||◌, List, [], ◌∷◌, ◌++◌, unwrap_or, refl, sym, ap, ap₂, ◌∙◌}
use Rattle.ucd_breaks.specs.WordBreak.{word_break}
use Rattle.ucd_breaks.specs.declared.WordBreak.{WordBreak}
use Rattle.ucd_breaks.specs.declared.WordBreak.TheVariants.{Cr, Lf, Newline, Other, WSegSpace, Extend}
use Rattle.ucd_emoji.specs.Binary.{is_extended_pictographic}
use Rattle.unicode_segmentation.specs.Word.{break_by_pair, is_ignored, is_regional, significant, starts_with_half_flag, joins, value_at, joins_flag, is_word_break}
use Rattle.unicode_segmentation.proofs.BoolLemmas.{and-false, or-false}
use Rattle.unicode_segmentation.proofs.WordLemmas.{significant-kept}
use Rattle.atspi_units.specs.inner.Seams.{is_plain, word_ends}

-- ---- what a plain class is to the rules

plain_left : (far v right beyond : WordBreak) → is_plain v ≡ true → joins far v right beyond ≡ false
plain_left far Cr right beyond h = simp (and-false, or-false)
plain_left far Lf right beyond h = simp (and-false, or-false)
plain_left far Newline right beyond h = simp (and-false, or-false)
plain_left far Other right beyond h = simp (and-false, or-false)
plain_left far WSegSpace right beyond h = simp (and-false, or-false)
plain_left far _ right beyond h = absurd cc

plain_right : (far left v beyond : WordBreak) → is_plain v ≡ true → joins far left v beyond ≡ false
plain_right far left Cr beyond h = simp (and-false, or-false)
plain_right far left Lf beyond h = simp (and-false, or-false)
plain_right far left Newline beyond h = simp (and-false, or-false)
plain_right far left Other beyond h = simp (and-false, or-false)
plain_right far left WSegSpace beyond h = simp (and-false, or-false)
plain_right far left _ beyond h = absurd cc

plain_far : (v left right beyond : WordBreak) → is_plain v ≡ true → joins v left right beyond ≡ joins Other left right beyond
plain_far Cr left right beyond h = refl
plain_far Lf left right beyond h = refl
plain_far Newline left right beyond h = refl
plain_far Other left right beyond h = refl
plain_far WSegSpace left right beyond h = refl
plain_far _ left right beyond h = absurd cc

plain_kept : (v : WordBreak) → is_plain v ≡ true → is_ignored v ≡ false
plain_kept Cr h = refl
plain_kept Lf h = refl
plain_kept Newline h = refl
plain_kept Other h = refl
plain_kept WSegSpace h = refl
plain_kept _ h = absurd cc

plain_not_regional : (v : WordBreak) → is_plain v ≡ true → is_regional v ≡ false
plain_not_regional Cr h = refl
plain_not_regional Lf h = refl
plain_not_regional Newline h = refl
plain_not_regional Other h = refl
plain_not_regional WSegSpace h = refl
plain_not_regional _ h = absurd cc

-- whether the next is a pictograph is asked behind a joiner alone
plain_pair : (v w : WordBreak) (b : Bool) → is_plain v ≡ true → break_by_pair v w b ≡ break_by_pair v w false
plain_pair Cr Lf b h = refl
plain_pair Cr _ b h = refl
plain_pair Lf Extend b h = refl
plain_pair Lf _ b h = refl
plain_pair Newline Extend b h = refl
plain_pair Newline _ b h = refl
plain_pair Other Extend b h = refl
plain_pair Other _ b h = refl
plain_pair WSegSpace Extend b h = refl
plain_pair WSegSpace _ b h = refl
plain_pair _ w b h = absurd cc

-- ---- the values that the rules read, nearest first, with a plain one among them

values-append : (xs ys : List ℕ) → significant (xs ++ ys) ≡ significant xs ++ significant ys
unfolding significant
values-append [] ys = refl
values-append (c ∷ cs) ys =
    ap (λ l. cond (is_ignored (word_break c)) l (word_break c ∷ l)) (values-append cs ys)
    ∙ step (is_ignored (word_break c)) (word_break c) (significant cs) (significant ys)
  where
    step : (b : Bool) (v : WordBreak) (s t : List WordBreak) → cond b (s ++ t) (v ∷ (s ++ t)) ≡ cond b s (v ∷ s) ++ t
    step true v s t = refl
    step false v s t = refl

values-plain : (x : ℕ) (b : List ℕ) → is_plain (word_break x) ≡ true → significant (x ∷ b) ≡ word_break x ∷ significant b
values-plain x b h = significant-kept x b (plain_kept (word_break x) h)

-- what stands behind a plain value is not read
joins_over : (s t : List WordBreak) (v right beyond : WordBreak) → is_plain v ≡ true
    → joins (value_at (s ++ v ∷ t) 1) (value_at (s ++ v ∷ t) 0) right beyond ≡ joins (value_at s 1) (value_at s 0) right beyond
joins_over [] t v right beyond h = plain_left (value_at (v ∷ t) 1) v right beyond h ∙ sym (plain_left Other Other right beyond refl)
joins_over (a ∷ []) t v right beyond h = plain_far v a right beyond h
joins_over (a ∷ (b ∷ s)) t v right beyond h = refl

flag_over : (s t : List WordBreak) (v : WordBreak) → is_plain v ≡ true → starts_with_half_flag (s ++ v ∷ t) ≡ starts_with_half_flag s
unfolding starts_with_half_flag
flag_over [] t v h = ap (λ b. b && not (starts_with_half_flag t)) (plain_not_regional v h)
flag_over (a ∷ s) t v h = ap (λ b. is_regional a && not b) (flag_over s t v h)

first_over : (s t u : List WordBreak) (v : WordBreak) → value_at ((s ++ v ∷ u) ++ t) 0 ≡ value_at (s ++ v ∷ u) 0
first_over [] t u v = refl
first_over (a ∷ s) t u v = refl

-- ---- whether there is a word boundary, with a plain character among those before it or behind it

-- what stands before a plain character is not read
pub word_break-left : (c x : ℕ) (p b rest : List ℕ) → is_plain (word_break x) ≡ true
    → is_word_break (c ∷ (p ++ x ∷ b)) rest ≡ is_word_break (c ∷ p) rest
unfolding is_word_break
word_break-left c x p b [] h = refl
word_break-left c x p b (n ∷ a) h =
    let s = significant (c ∷ p) in
    let t = significant b in
    let v = word_break x in
    let beyond = value_at (significant a) 0 in
    let values : significant (c ∷ (p ++ x ∷ b)) ≡ s ++ v ∷ t = values-append (c ∷ p) (x ∷ b) ∙ ap (λ l. s ++ l) (values-plain x b h) in
    ap (λ d. unwrap_or (break_by_pair (word_break c) (word_break n) (is_extended_pictographic n)) (not d))
    (ap (λ l. joins (value_at l 1) (value_at l 0) (word_break n) beyond || (starts_with_half_flag l && is_regional (word_break n))) values
    ∙ ap₂ (λ j f. j || (f && is_regional (word_break n))) (joins_over s t v (word_break n) beyond h) (flag_over s t v h))

-- nor what stands behind it
pub word_break-right : (c x : ℕ) (b rest a : List ℕ) → is_plain (word_break x) ≡ true
    → is_word_break (c ∷ b) ((rest ++ x ∷ []) ++ a) ≡ is_word_break (c ∷ b) (rest ++ x ∷ [])
unfolding is_word_break
word_break-right c x b [] a h =
    let s = significant (c ∷ b) in
    ap (λ j. unwrap_or (break_by_pair (word_break c) (word_break x) (is_extended_pictographic x)) (not (j || joins_flag (c ∷ b) x)))
    (plain_right (value_at s 1) (value_at s 0) (word_break x) (value_at (significant a) 0) h
    ∙ sym (plain_right (value_at s 1) (value_at s 0) (word_break x) (value_at (significant []) 0) h))
word_break-right c x b (n ∷ rest) a h =
    let s = significant (c ∷ b) in
    let v = word_break x in
    let last : significant (rest ++ x ∷ []) ≡ significant rest ++ v ∷ significant [] =
    values-append rest (x ∷ []) ∙ ap (λ l. significant rest ++ l) (values-plain x [] h) in
    let beyond : value_at (significant ((rest ++ x ∷ []) ++ a)) 0 ≡ value_at (significant (rest ++ x ∷ [])) 0 =
    ap (λ l. value_at l 0) (values-append (rest ++ x ∷ []) a ∙ ap (λ l. l ++ significant a) last)
    ∙ first_over (significant rest) (significant a) (significant []) v ∙ ap (λ l. value_at l 0) (sym last) in
    ap (λ w. unwrap_or (break_by_pair (word_break c) (word_break n) (is_extended_pictographic n))
    (not (joins (value_at s 1) (value_at s 0) (word_break n) w || joins_flag (c ∷ b) n))) beyond

both : (a b : Bool) → a && b ≡ true → (a ≡ true) × (b ≡ true)
both true b e = (refl, e)
both false b e = absurd cc

pub plain_from_ends : (v w : WordBreak) → word_ends v w ≡ true → is_plain v ≡ true
plain_from_ends v w h = (both (is_plain v) _ h).0

-- there is one where a word surely ends
pub word_break-sure : (x y : ℕ) (b a : List ℕ) → word_ends (word_break x) (word_break y) ≡ true → is_word_break (x ∷ b) (y ∷ a) ≡ true
unfolding is_word_break starts_with_half_flag
word_break-sure x y b a h =
    let plain = plain_from_ends (word_break x) (word_break y) h in
    let pair = (both (is_plain (word_break x)) _ h).1 in
    let v = word_break x in
    let t = significant b in
    let beyond = value_at (significant a) 0 in
    ap (λ o. unwrap_or o (not (joins (value_at (significant (x ∷ b)) 1) (value_at (significant (x ∷ b)) 0) (word_break y) beyond || joins_flag (x ∷ b) y)))
    (plain_pair v (word_break y) (is_extended_pictographic y) plain)
    ∙ ap (λ l. unwrap_or (break_by_pair v (word_break y) false) (not (joins (value_at l 1) (value_at l 0) (word_break y) beyond || (starts_with_half_flag l && is_regional (word_break y)))))
    (values-plain x b plain)
    ∙ ap₂ (λ j f. unwrap_or (break_by_pair v (word_break y) false) (not (j || (f && is_regional (word_break y)))))
    (plain_left (value_at (v ∷ t) 1) v (word_break y) beyond plain) (ap (λ r. r && not (starts_with_half_flag t)) (plain_not_regional v plain))
    ∙ pair
