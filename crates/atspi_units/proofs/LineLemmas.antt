-- A walk over the lines of a text.
use Rattle.std.proofs.Common.{◌≡◌, ◌≢◌, ℕ, ◌+◌, ◌<◌, ◌≤◌, ◌⊎◌, inl, inr, true, List, [], ◌∷◌, ◌++◌, length, refl, sym, ap, subst, ◌∙◌, arith, append_assoc, length-append, encode_utf8, encode_utf8_all}
use Rattle.std.proofs.lemmas.Bool.{ne_eqb}
use Rattle.std.proofs.lemmas.List.{nil_from_length}
use Rattle.std.proofs.lemmas.Str.{cons_from_encodes, length-le-encodes}
use Rattle.unicode_segmentation.specs.Segments.{cut}
use Rattle.atspi_units.specs.Units.{ends_line, units, IsUnitAt}
use Rattle.atspi_units.specs.declared.grain.Grain.TheVariants.{Line}
use Rattle.atspi_units.proofs.CutLemmas.{onto, onto-push, cut-single, unit_between}

-- no character is a line feed
abbrev pub HasNoFeed : List ℕ → Type 0
HasNoFeed [] = Unit {0}
HasNoFeed (c ∷ cs) = (c ≢ 10) × HasNoFeed cs

-- the same of all but the last
abbrev IsLine : List ℕ → Type 0
IsLine [] = Unit {0}
IsLine (c ∷ []) = Unit {0}
IsLine (c ∷ (d ∷ cs)) = (c ≢ 10) × IsLine (d ∷ cs)

push_other : (cs : List ℕ) (c : ℕ) → HasNoFeed cs → c ≢ 10 → HasNoFeed (cs ++ c ∷ [])
push_other [] c h ne = (ne, tt)
push_other (x ∷ cs) c h ne = (h.0, push_other cs c h.1 ne)

line_pushed : (cs : List ℕ) (c : ℕ) → HasNoFeed cs → IsLine (cs ++ c ∷ [])
line_pushed [] c h = tt
line_pushed (x ∷ []) c h = (h.0, tt)
line_pushed (x ∷ (y ∷ cs)) c h = (h.0, line_pushed (y ∷ cs) c h.1)

line_open : (cs : List ℕ) → HasNoFeed cs → IsLine cs
line_open [] h = tt
line_open (x ∷ []) h = tt
line_open (x ∷ (y ∷ cs)) h = (h.0, line_open (y ∷ cs) h.1)

-- a line is one piece
cut-line : (before ps after : List ℕ) → IsLine ps → 0 < length ps → cut ends_line before ps after ≡ ps ∷ []
unfolding cut
cut-line before [] after h some = absurd (omega arith)
cut-line before (c ∷ []) after h some = cut-single ends_line before c after
cut-line before (c ∷ (d ∷ ps)) after h some = rw (ne_eqb c 10 h.0, cut-line (c ∷ before) (d ∷ ps) after h.1 (omega arith)) refl

ends_behind : (before after : List ℕ) → ends_line (10 ∷ before) after ≡ true
ends_behind before [] = refl
ends_behind before (next ∷ after) = refl

ends_at_end : (before : List ℕ) → ends_line before [] ≡ true
ends_at_end [] = refl
ends_at_end (last ∷ before) = refl

-- the walk stands in a line: what it has passed are whole lines and the front of one
pub record IsInLine (text rest : List ℕ) (start end : ℕ) : Type 0 where
  pub lines : List ℕ
  pub front : List ℕ
  pub left : List ℕ
  pub whole : text ≡ lines ++ (front ++ left)
  pub begins : (lines ≡ []) ⊎ ((ls : List ℕ) × (lines ≡ ls ++ 10 ∷ []))
  pub inside : HasNoFeed front
  pub starts : start ≡ length lines
  pub ends : end ≡ length lines + length front
  pub spelled : encode_utf8_all left ≡ rest

pub in_line-start : (text rest : List ℕ) → encode_utf8_all text ≡ rest → IsInLine text rest 0 0
in_line-start text rest e = record { lines = []; front = []; left = text; whole = refl; begins = inl refl; inside = tt; starts = refl; ends = refl; spelled = e }

-- where lines end, a line begins
begins_line : (lines more : List ℕ) → (lines ≡ []) ⊎ ((ls : List ℕ) × (lines ≡ ls ++ 10 ∷ [])) → 0 < length lines → ends_line (onto lines []) more ≡ true
begins_line lines more (inl e) some = absurd (omega (arith, ap length e))
begins_line lines more (inr l) some = ap (λ b. ends_line b more) (ap (λ x. onto x []) l.1 ∙ onto-push l.0 [] 10) ∙ ends_behind (onto l.0 []) more

-- one more character, which is no line feed
pub in_line-more : (text rest more : List ℕ) (start end c : ℕ) → IsInLine text rest start end → rest ≡ encode_utf8 c ++ more → c ≢ 10
    → IsInLine text more start (end + 1)
in_line-more text rest more start end c w e ne =
    let next = cons_from_encodes w.left more c (w.spelled ∙ e) in
    record {
      lines = w.lines;
      front = w.front ++ c ∷ [];
      left = next.0;
      whole = w.whole ∙ ap (λ l. w.lines ++ l) (ap (λ l. w.front ++ l) next.1 ∙ sym (append_assoc w.front (c ∷ []) next.0));
      begins = w.begins;
      inside = push_other w.front c w.inside ne;
      starts = w.starts;
      ends = omega (arith, w.ends, length-append w.front (c ∷ []));
      spelled = next.2;
    }

-- one more character, with which a line ends
pub in_line-feed : (text rest more : List ℕ) (start end c : ℕ) → IsInLine text rest start end → rest ≡ encode_utf8 c ++ more → c ≡ 10
    → IsInLine text more (end + 1) (end + 1)
in_line-feed text rest more start end c w e feed =
    let next = cons_from_encodes w.left more c (w.spelled ∙ e) in
    let line : w.left ≡ 10 ∷ next.0 = next.1 ∙ ap (λ x. x ∷ next.0) feed in
    let count = length-append w.lines (w.front ++ 10 ∷ []) in
    let one = length-append w.front (10 ∷ []) in
    record {
      lines = w.lines ++ (w.front ++ 10 ∷ []);
      front = [];
      left = next.0;
      whole =
          w.whole ∙ ap (λ l. w.lines ++ (w.front ++ l)) line
          ∙ ap (λ l. w.lines ++ l) (sym (append_assoc w.front (10 ∷ []) next.0))
          ∙ sym (append_assoc w.lines (w.front ++ 10 ∷ []) next.0);
      begins = inr (w.lines ++ w.front, sym (append_assoc w.lines w.front (10 ∷ [])));
      inside = tt;
      starts = omega (arith, w.ends, count, one);
      ends = omega (arith, w.ends, count, one);
      spelled = next.2;
    }

-- the line that this character ends
pub line_is : (text rest more : List ℕ) (start end c at : ℕ) → IsInLine text rest start end → rest ≡ encode_utf8 c ++ more → c ≡ 10 → start ≤ at
    → at < end + 1 → IsUnitAt (units Line text) at start (end + 1)
line_is text rest more start end c at w e feed from upto =
    let next = cons_from_encodes w.left more c (w.spelled ∙ e) in
    let ps = w.front ++ 10 ∷ [] in
    let one = length-append w.front (10 ∷ []) in
    let whole : text ≡ w.lines ++ (ps ++ next.0) =
    w.whole ∙ ap (λ l. w.lines ++ (w.front ++ l)) (next.1 ∙ ap (λ x. x ∷ next.0) feed)
    ∙ ap (λ l. w.lines ++ l) (sym (append_assoc w.front (10 ∷ []) next.0)) in
    let is = unit_between ends_line w.lines ps next.0 at (begins_line w.lines (ps ++ next.0) w.begins)
    (ap (λ b. ends_line b next.0) (onto-push w.front (onto w.lines []) 10) ∙ ends_behind (onto w.front (onto w.lines [])) next.0)
    (cut-line (onto w.lines []) ps next.0 (line_pushed w.front 10 w.inside) (omega (arith, one)))
    (omega (arith, w.starts, from)) (omega (arith, w.starts, w.ends, upto, one)) in
    let s : length w.lines ≡ start = sym w.starts in
    let t : length w.lines + length ps ≡ end + 1 = omega (arith, w.ends, one) in
    subst (λ x. IsUnitAt (units Line text) at x (end + 1)) s
    (subst (λ x. IsUnitAt (units Line text) at (length w.lines) x) t
    (subst (λ x. IsUnitAt (cut ends_line [] x []) at (length w.lines) (length w.lines + length ps)) (sym whole) is))

none_left : (cs rest : List ℕ) → encode_utf8_all cs ≡ rest → length rest ≡ 0 → cs ≡ []
none_left cs rest e z = nil_from_length cs (omega (arith, length-le-encodes cs, ap length e, z))

-- the last line, which no line feed ends
pub last_line_is : (text rest : List ℕ) (start end at : ℕ) → IsInLine text rest start end → length rest ≡ 0 → start ≤ at → at < end
    → IsUnitAt (units Line text) at start end
last_line_is text rest start end at w none from upto =
    let left = none_left w.left rest w.spelled none in
    let whole : text ≡ w.lines ++ (w.front ++ []) = w.whole ∙ ap (λ l. w.lines ++ (w.front ++ l)) left in
    let is = unit_between ends_line w.lines w.front [] at (begins_line w.lines (w.front ++ []) w.begins)
    (ends_at_end (onto w.front (onto w.lines [])))
    (cut-line (onto w.lines []) w.front [] (line_open w.front w.inside) (omega (arith, w.starts, w.ends, from, upto)))
    (omega (arith, w.starts, from)) (omega (arith, w.starts, w.ends, upto)) in
    subst (λ x. IsUnitAt (units Line text) at x end) (sym w.starts)
    (subst (λ x. IsUnitAt (units Line text) at (length w.lines) x) (sym w.ends)
    (subst (λ x. IsUnitAt (cut ends_line [] x []) at (length w.lines) (length w.lines + length w.front)) (sym whole) is))

pub counted : (text rest : List ℕ) (start end : ℕ) → IsInLine text rest start end → (start ≤ end) × (end ≤ length text)
counted text rest start end w =
    let l = ap length w.whole in
    let m = length-append w.lines (w.front ++ w.left) in
    let n = length-append w.front w.left in
    (omega (arith, w.starts, w.ends), omega (arith, w.ends, l, m, n))

pub counted_all : (text rest : List ℕ) (start end : ℕ) → IsInLine text rest start end → length rest ≡ 0 → end ≡ length text
counted_all text rest start end w none =
    let l = ap length w.whole in
    let m = length-append w.lines (w.front ++ w.left) in
    let n = length-append w.front w.left in
    omega (arith, w.ends, l, m, n, ap length (none_left w.left rest w.spelled none))

-- a first line of one character and its line feed
pub first_line_is : (c : ℕ) (more : List ℕ) → c ≢ 10 → IsUnitAt (units Line (c ∷ (10 ∷ more))) 0 0 2
first_line_is c more ne =
    unit_between ends_line [] (c ∷ (10 ∷ [])) more 0 (λ some. absurd (omega arith)) (ends_behind (c ∷ []) more)
    (cut-line [] (c ∷ (10 ∷ [])) more (ne, tt) (omega arith)) (omega arith) (omega arith)
