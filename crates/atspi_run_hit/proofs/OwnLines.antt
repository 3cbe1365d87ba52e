-- Lines of its own: a word in front says one thing, a form has one first word, and what a first word does not begin.
use Rattle.std.proofs.Common.{◌≡◌, ℕ, ◌+◌, ◌*◌, ◌≤◌, ℤ, FitsSigned, List, [], ◌∷◌, ◌++◌, length, Option, None, Some, refl, sym, ap, subst, ◌∙◌, arith, unsigned_abs}
use Rattle.std.specs.Prelude.{codes, Result, Ok, Err, IsUtf8}
use Rattle.std.specs.Fmt.{signed_decimal}
use Rattle.std.specs.Int.{w32}
use Rattle.atspi_script_lines.specs.declared.limits.TheConstants.{LINE_LIMIT}
use Rattle.atspi_script_lines.specs.declared.line.Line.{Line}
use Rattle.atspi_script_lines.specs.declared.line.Line.TheVariants as script
use Rattle.atspi_script_lines.specs.declared.line.LineFault.{LineFault}
use Rattle.atspi_script_lines.specs.declared.line.LineFault.TheVariants as faults
use Rattle.atspi_script_lines.specs.Line.{ReadsLine, Spells}
use Rattle.atspi_script_lines.specs.Words.{IsBehind, Leads, SpellsWords, Word, literal, number}
use Rattle.atspi_script_lines.specs.inner.Reading.{Finds, HasNoSpace}
use Rattle.atspi_script_lines.proofs.FormLemmas.{HasFirst, cut_form, whole_form}
use Rattle.atspi_script_lines.proofs.LeadLemmas.{rest_of, word_is, words_once}
use Rattle.atspi_script_lines.proofs.OnceLemmas.{one_reading}
use Rattle.atspi_script_lines.proofs.SpaceLemmas.{tested_no_space}
use Rattle.atspi_tree_model.specs.declared.edit.Edit.{Edit as AnyEdit}
use Rattle.atspi_run_input.specs.Edits.{EditIn, IsEditLine}
use Rattle.atspi_hit.specs.declared.rect.Rect.{Rect}
use Rattle.atspi_hit.specs.declared.cells.Way.{Way}
use Rattle.atspi_hit.specs.declared.cells.Way.TheVariants.{Up, Down, Left, Right}
use Rattle.atspi_hit_answers.specs.declared.ask.Ask.TheVariants.{Contains, AccessibleAtPoint, Extents}
use Rattle.atspi_run_hit.specs.declared.line.HitLine.{HitLine}
use Rattle.atspi_run_hit.specs.declared.line.HitLine.TheVariants.{Nothing, App, Edit, Place, Call, Cell, Follow}
use Rattle.atspi_run_hit.specs.declared.line.TheConstants.{CORNER_LIMIT, SIZE_LIMIT}
use Rattle.atspi_run_hit.specs.Words.{AreOwn, IsPoint, IsRect, SpellsLine, rect_words, signed, way_word}
use Rattle.atspi_run_hit.specs.inner.Reads.{CanBeSaid, IsOther, IsOwnOf, OtherIn, ReadsHit, own_words, plain_in}
use Rattle.atspi_run_hit.proofs.Signed.{no_space, signed_once, small_fits}

abbrev code_of : List ℕ → ℕ
code_of [] = 0
code_of (b ∷ bytes) = b + 2 * code_of bytes

-- a signed number in front
pub signed_led : (word rest bytes : List ℕ) (z : ℤ) → word ≡ signed_decimal z → Leads (literal word) rest bytes → Leads (signed z) rest bytes
signed_led word rest bytes z e p = subst (λ w. Leads (literal w) rest bytes) e p

pub signed_is : (word rest more bytes : List ℕ) (z : ℤ) → HasNoSpace word → FitsSigned w32 z → Leads (literal word) rest bytes → Leads (signed z) more bytes → word ≡ signed_decimal z
signed_is word rest more bytes z v f p q = word_is word rest more bytes (signed z) v (no_space z f) p q

-- what follows a signed number, a way
pub rest_of_signed : (y z : ℤ) (rest bytes : List ℕ) (words : List Word) → FitsSigned w32 y → FitsSigned w32 z → Leads (signed y) rest bytes → SpellsWords (signed z ∷ words) bytes → SpellsWords words rest
rest_of_signed y z rest bytes words f g p s = rest_of (signed y) (signed z) rest bytes words (no_space y f, no_space z g) p s

pub way_free : (way : Way) → HasNoSpace (way_word way)
way_free Up = tested_no_space (codes "up") refl
way_free Down = tested_no_space (codes "down") refl
way_free Left = tested_no_space (codes "left") refl
way_free Right = tested_no_space (codes "right") refl

pub no_way : (word rest bytes : List ℕ) → HasNoSpace word → Leads (literal word) rest bytes → (word ≡ codes "up" → ⊥) → (word ≡ codes "down" → ⊥) → (word ≡ codes "left" → ⊥) → (word ≡ codes "right" → ⊥)
    → (way : Way) (more : List ℕ) → Leads (literal (way_word way)) more bytes → ⊥
no_way word rest bytes free p a b c d Up more q = a (word_is word rest more bytes (literal (codes "up")) free (way_free Up) p q)
no_way word rest bytes free p a b c d Down more q = b (word_is word rest more bytes (literal (codes "down")) free (way_free Down) p q)
no_way word rest bytes free p a b c d Left more q = c (word_is word rest more bytes (literal (codes "left")) free (way_free Left) p q)
no_way word rest bytes free p a b c d Right more q = d (word_is word rest more bytes (literal (codes "right")) free (way_free Right) p q)

-- a rectangle within its limits has coordinates of 32 bits
pub rect_point : (r : Rect) → IsRect r → IsPoint r.x r.y
rect_point r h = (small_fits r.x h.column, small_fits r.y h.row)

-- one rectangle is spelled: where it keeps within the limits, so does what was read
pub rect_allowed : (q r : Rect) (bytes : List ℕ) → IsPoint q.x q.y → IsRect r → SpellsWords (rect_words q) bytes → SpellsWords (rect_words r) bytes → IsRect q
rect_allowed q r bytes f h s t =
    let g = rect_point r h in
    let e : rect_words q ≡ rect_words r = words_once (rect_words q) (rect_words r) bytes ((no_space q.x f.0, no_space r.x g.0), ((no_space q.y f.1, no_space r.y g.1), (tt, (tt, tt)))) s t in
    let ex : signed_decimal q.x ≡ signed_decimal r.x = cc in
    let ey : signed_decimal q.y ≡ signed_decimal r.y = cc in
    let ew : q.w ≡ r.w = cc in
    let eh : q.h ≡ r.h = cc in
    record {
      column = subst (λ z. unsigned_abs z ≤ CORNER_LIMIT) (sym (signed_once q.x r.x f.0 g.0 ex)) h.column;
      row = subst (λ z. unsigned_abs z ≤ CORNER_LIMIT) (sym (signed_once q.y r.y f.1 g.1 ey)) h.row;
      width = subst (λ n. n ≤ SIZE_LIMIT) (sym ew) h.width;
      height = subst (λ n. n ≤ SIZE_LIMIT) (sym eh) h.height;
    }

-- a form begins with a word that has no space
own_first : (l : HitLine) → CanBeSaid l → HasFirst (own_words l)
own_first Nothing k = absurd k
own_first (App name) k = absurd k
own_first (Edit edit) k = absurd k
own_first (Place n r) k = record { splits = refl; free = tested_no_space (codes "place") refl }
own_first (Call n Extents) k = record { splits = refl; free = tested_no_space (codes "extents") refl }
own_first (Call n (Contains x y)) k = record { splits = refl; free = tested_no_space (codes "inside") refl }
own_first (Call n (AccessibleAtPoint x y)) k = record { splits = refl; free = tested_no_space (codes "point") refl }
own_first (Cell n i way) k = record { splits = refl; free = tested_no_space (codes "cell") refl }
own_first (Follow n k) h = record { splits = refl; free = tested_no_space (codes "follow") refl }

-- such a line, by its words
are_own : (l : HitLine) (bytes : List ℕ) → CanBeSaid l → SpellsWords (own_words l) (32 ∷ bytes) → AreOwn l bytes
are_own Nothing bytes k s = absurd k
are_own (App name) bytes k s = absurd k
are_own (Edit edit) bytes k s = absurd k
are_own (Place n r) bytes k s = (k, s)
are_own (Call n ask) bytes k s = (k, s)
are_own (Cell n i way) bytes k s = s
are_own (Follow n kind) bytes k s = s

own_are : (l : HitLine) (bytes : List ℕ) → AreOwn l bytes → CanBeSaid l × SpellsWords (own_words l) (32 ∷ bytes)
own_are Nothing bytes s = absurd s
own_are (App name) bytes s = absurd s
own_are (Edit edit) bytes s = absurd s
own_are (Place n r) bytes s = s
own_are (Call n ask) bytes s = s
own_are (Cell n i way) bytes s = (tt, s)
own_are (Follow n kind) bytes s = (tt, s)

-- a line, and its words behind the first
pub own_read : (word rest bytes : List ℕ) (r : Option HitLine) → bytes ≡ word ++ rest → HasNoSpace word → IsBehind rest → Finds (IsOwnOf word rest) r → Finds (λ l. AreOwn l bytes) r
own_read word rest bytes r e free behind h = by r h
  where
    lead : Leads (literal word) rest (32 ∷ bytes)
    lead = record { spelling = word; spelled = refl; front = ap (λ l. 32 ∷ l) e; behind = behind }

    by : (r : Option HitLine) → Finds (IsOwnOf word rest) r → Finds (λ l. AreOwn l bytes) r
    by None h = λ l s.
        let own = own_are l bytes s in
        let c = cut_form (own_words l) word rest (32 ∷ bytes) (own_first l own.0) free lead own.1 in
        h l (record { can = own.0; first = c.first; others = c.others })
    by (Some l) h = are_own l bytes h.can (whole_form (own_words l) word rest (32 ∷ bytes) (own_first l h.can) lead h.first h.others)

-- by the first word: what is read of the others says all
pub no_place : (bytes : List ℕ) → ((p : ℕ × Rect) → IsRect p.1 × SpellsWords (number p.0 ∷ rect_words p.1) bytes → ⊥) → (l : HitLine) → IsOwnOf (codes "place") bytes l → ⊥
no_place bytes none (Place n r) h = none (n, r) (h.can, h.others)
no_place bytes none Nothing h = h.can
no_place bytes none (App name) h = h.can
no_place bytes none (Edit edit) h = h.can
no_place bytes none (Call n Extents) h = absurd (omega (arith, ap code_of h.first))
no_place bytes none (Call n (Contains x y)) h = absurd (omega (arith, ap code_of h.first))
no_place bytes none (Call n (AccessibleAtPoint x y)) h = absurd (omega (arith, ap code_of h.first))
no_place bytes none (Cell n i way) h = absurd (omega (arith, ap code_of h.first))
no_place bytes none (Follow n k) h = absurd (omega (arith, ap code_of h.first))

pub no_extents : (bytes : List ℕ) → ((n : ℕ) → SpellsWords (number n ∷ []) bytes → ⊥) → (l : HitLine) → IsOwnOf (codes "extents") bytes l → ⊥
no_extents bytes none Nothing h = h.can
no_extents bytes none (App name) h = h.can
no_extents bytes none (Edit edit) h = h.can
no_extents bytes none (Place n r) h = absurd (omega (arith, ap code_of h.first))
no_extents bytes none (Call n Extents) h = none n h.others
no_extents bytes none (Call n (Contains x y)) h = absurd (omega (arith, ap code_of h.first))
no_extents bytes none (Call n (AccessibleAtPoint x y)) h = absurd (omega (arith, ap code_of h.first))
no_extents bytes none (Cell n i way) h = absurd (omega (arith, ap code_of h.first))
no_extents bytes none (Follow n k) h = absurd (omega (arith, ap code_of h.first))

pub no_inside : (bytes : List ℕ) → ((p : ℕ × ℤ × ℤ) → IsPoint p.1 p.2 × SpellsWords (number p.0 ∷ signed p.1 ∷ signed p.2 ∷ []) bytes → ⊥) → (l : HitLine) → IsOwnOf (codes "inside") bytes l → ⊥
no_inside bytes none Nothing h = h.can
no_inside bytes none (App name) h = h.can
no_inside bytes none (Edit edit) h = h.can
no_inside bytes none (Place n r) h = absurd (omega (arith, ap code_of h.first))
no_inside bytes none (Call n Extents) h = absurd (omega (arith, ap code_of h.first))
no_inside bytes none (Call n (Contains x y)) h = none (n, x, y) (h.can, h.others)
no_inside bytes none (Call n (AccessibleAtPoint x y)) h = absurd (omega (arith, ap code_of h.first))
no_inside bytes none (Cell n i way) h = absurd (omega (arith, ap code_of h.first))
no_inside bytes none (Follow n k) h = absurd (omega (arith, ap code_of h.first))

pub no_point : (bytes : List ℕ) → ((p : ℕ × ℤ × ℤ) → IsPoint p.1 p.2 × SpellsWords (number p.0 ∷ signed p.1 ∷ signed p.2 ∷ []) bytes → ⊥) → (l : HitLine) → IsOwnOf (codes "point") bytes l → ⊥
no_point bytes none Nothing h = h.can
no_point bytes none (App name) h = h.can
no_point bytes none (Edit edit) h = h.can
no_point bytes none (Place n r) h = absurd (omega (arith, ap code_of h.first))
no_point bytes none (Call n Extents) h = absurd (omega (arith, ap code_of h.first))
no_point bytes none (Call n (Contains x y)) h = absurd (omega (arith, ap code_of h.first))
no_point bytes none (Call n (AccessibleAtPoint x y)) h = none (n, x, y) (h.can, h.others)
no_point bytes none (Cell n i way) h = absurd (omega (arith, ap code_of h.first))
no_point bytes none (Follow n k) h = absurd (omega (arith, ap code_of h.first))

pub no_cell : (bytes : List ℕ) → ((p : ℕ × ℕ × Way) → SpellsWords (number p.0 ∷ number p.1 ∷ literal (way_word p.2) ∷ []) bytes → ⊥) → (l : HitLine) → IsOwnOf (codes "cell") bytes l → ⊥
no_cell bytes none Nothing h = h.can
no_cell bytes none (App name) h = h.can
no_cell bytes none (Edit edit) h = h.can
no_cell bytes none (Place n r) h = absurd (omega (arith, ap code_of h.first))
no_cell bytes none (Call n Extents) h = absurd (omega (arith, ap code_of h.first))
no_cell bytes none (Call n (Contains x y)) h = absurd (omega (arith, ap code_of h.first))
no_cell bytes none (Call n (AccessibleAtPoint x y)) h = absurd (omega (arith, ap code_of h.first))
no_cell bytes none (Cell n i way) h = none (n, i, way) h.others
no_cell bytes none (Follow n k) h = absurd (omega (arith, ap code_of h.first))

pub no_follow : (bytes : List ℕ) → ((p : ℕ × ℕ) → SpellsWords (number p.0 ∷ number p.1 ∷ []) bytes → ⊥) → (l : HitLine) → IsOwnOf (codes "follow") bytes l → ⊥
no_follow bytes none Nothing h = h.can
no_follow bytes none (App name) h = h.can
no_follow bytes none (Edit edit) h = h.can
no_follow bytes none (Place n r) h = absurd (omega (arith, ap code_of h.first))
no_follow bytes none (Call n Extents) h = absurd (omega (arith, ap code_of h.first))
no_follow bytes none (Call n (Contains x y)) h = absurd (omega (arith, ap code_of h.first))
no_follow bytes none (Call n (AccessibleAtPoint x y)) h = absurd (omega (arith, ap code_of h.first))
no_follow bytes none (Cell n i way) h = absurd (omega (arith, ap code_of h.first))
no_follow bytes none (Follow n k) h = none (n, k) h.others

-- by what a first word is
pub found_as : (word w bytes : List ℕ) (r : Option HitLine) → word ≡ w → Finds (IsOwnOf w bytes) r → Finds (IsOwnOf word bytes) r
found_as word w bytes r e h = subst (λ u. Finds (IsOwnOf u bytes) r) (sym e) h

pub none_begins : (word bytes : List ℕ) → (word ≡ codes "place" → ⊥) → (word ≡ codes "extents" → ⊥) → (word ≡ codes "inside" → ⊥) → (word ≡ codes "point" → ⊥) → (word ≡ codes "cell" → ⊥) → (word ≡ codes "follow" → ⊥) → (l : HitLine) → IsOwnOf word bytes l → ⊥
none_begins word bytes f0 f1 f2 f3 f4 f5 Nothing h = h.can
none_begins word bytes f0 f1 f2 f3 f4 f5 (App name) h = h.can
none_begins word bytes f0 f1 f2 f3 f4 f5 (Edit edit) h = h.can
none_begins word bytes f0 f1 f2 f3 f4 f5 (Place n r) h = f0 (sym h.first)
none_begins word bytes f0 f1 f2 f3 f4 f5 (Call n Extents) h = f1 (sym h.first)
none_begins word bytes f0 f1 f2 f3 f4 f5 (Call n (Contains x y)) h = f2 (sym h.first)
none_begins word bytes f0 f1 f2 f3 f4 f5 (Call n (AccessibleAtPoint x y)) h = f3 (sym h.first)
none_begins word bytes f0 f1 f2 f3 f4 f5 (Cell n i way) h = f4 (sym h.first)
none_begins word bytes f0 f1 f2 f3 f4 f5 (Follow n k) h = f5 (sym h.first)

-- THE LINES OF AN INPUT
some_is : {A : Type 0} (a b : A) → Some a ≡ Some b → a ≡ b
some_is a b e = cc

none_some : {A : Type 0} (a : A) → None ≡ Some a → ⊥
none_some a e = cc

pub other_own : (l : HitLine) (bytes : List ℕ) → AreOwn l bytes → IsOther l bytes
other_own Nothing bytes s = s
other_own (App name) bytes s = s
other_own (Edit edit) bytes s = absurd s
other_own (Place n r) bytes s = s
other_own (Call n ask) bytes s = s
other_own (Cell n i way) bytes s = s
other_own (Follow n k) bytes s = s

-- neither a line of its own nor an edit
pub no_other : (bytes : List ℕ) → ((l : HitLine) → AreOwn l bytes → ⊥) → ((e : AnyEdit) → IsEditLine e bytes → ⊥) → (l : HitLine) → IsOther l bytes → ⊥
no_other bytes own edit Nothing s = s
no_other bytes own edit (App name) s = s
no_other bytes own edit (Edit e) s = edit e s
no_other bytes own edit (Place n r) s = own (Place n r) s
no_other bytes own edit (Call n ask) s = own (Call n ask) s
no_other bytes own edit (Cell n i way) s = own (Cell n i way) s
no_other bytes own edit (Follow n k) s = own (Follow n k) s

pub edit_fault : (fault : LineFault) (bytes : List ℕ) → ((l : HitLine) → AreOwn l bytes → ⊥) → EditIn (Err fault) bytes → OtherIn (Err fault) bytes
edit_fault faults.Long bytes own h = h
edit_fault faults.NotUtf8 bytes own h = h
edit_fault faults.Form bytes own h = no_other bytes own h
edit_fault faults.NoMemory bytes own h = tt

-- a line that is empty, or a start
pub plain_found : (l : Line) (what : HitLine) (bytes : List ℕ) → plain_in l ≡ Some what → Spells l bytes → SpellsLine what bytes
plain_found script.Blank what bytes e s = subst (λ (x : HitLine). SpellsLine x bytes) (some_is Nothing what e) s
plain_found (script.App name) what bytes e s = subst (λ (x : HitLine). SpellsLine x bytes) (some_is (App name) what e) s
plain_found (script.Edit app edit) what bytes e s = absurd (none_some what e)
plain_found (script.Quota quota) what bytes e s = absurd (none_some what e)
plain_found script.Reader what bytes e s = absurd (none_some what e)
plain_found (script.Call reader app node deed) what bytes e s = absurd (none_some what e)
plain_found (script.Swap app) what bytes e s = absurd (none_some what e)
plain_found (script.Exit app) what bytes e s = absurd (none_some what e)
plain_found (script.Leave reader) what bytes e s = absurd (none_some what e)
plain_found (script.Bytes party up count) what bytes e s = absurd (none_some what e)
plain_found (script.Turns count) what bytes e s = absurd (none_some what e)
plain_found script.Drain what bytes e s = absurd (none_some what e)
plain_found (script.Show reader app) what bytes e s = absurd (none_some what e)

-- what is read where no such line stands
abbrev NoPlain : List ℕ → Type 0
NoPlain bytes = (l : Line) (what : HitLine) → plain_in l ≡ Some what → Spells l bytes → ⊥

is_line : (l : HitLine) (bytes : List ℕ) → length bytes ≤ LINE_LIMIT → IsUtf8 bytes → IsOther l bytes → SpellsLine l bytes
is_line Nothing bytes short utf8 s = absurd s
is_line (App name) bytes short utf8 s = absurd s
is_line (Edit edit) bytes short utf8 s = s
is_line (Place n r) bytes short utf8 s = (short, utf8, s)
is_line (Call n ask) bytes short utf8 s = (short, utf8, s)
is_line (Cell n i way) bytes short utf8 s = (short, utf8, s)
is_line (Follow n k) bytes short utf8 s = (short, utf8, s)

other_is : (r : Result HitLine LineFault) (bytes : List ℕ) → length bytes ≤ LINE_LIMIT → IsUtf8 bytes → NoPlain bytes → OtherIn r bytes → ReadsHit r bytes
other_is (Ok l) bytes short utf8 none h = is_line l bytes short utf8 h
other_is (Err faults.Long) bytes short utf8 none h = absurd h
other_is (Err faults.NotUtf8) bytes short utf8 none h = absurd h
other_is (Err faults.NoMemory) bytes short utf8 none h = tt
other_is (Err faults.Form) bytes short utf8 none h = (short, utf8, by)
  where
    by : (l : HitLine) → SpellsLine l bytes → ⊥
    by Nothing s = none script.Blank Nothing refl s
    by (App name) s = none (script.App name) (App name) refl s
    by (Edit edit) s = h (Edit edit) s
    by (Place n r) s = h (Place n r) s.2
    by (Call n ask) s = h (Call n ask) s.2
    by (Cell n i way) s = h (Cell n i way) s.2
    by (Follow n k) s = h (Follow n k) s.2

pub other_if : (l : Line) (o : Option HitLine) (r : Result HitLine LineFault) (bytes : List ℕ) → o ≡ plain_in l → o ≡ None → Spells l bytes → OtherIn r bytes → ReadsHit r bytes
other_if l o r bytes is none s h =
    other_is r bytes s.short s.utf8 (λ k what p t. none_some what (sym (sym is ∙ none) ∙ ap plain_in (one_reading bytes l k s t) ∙ p)) h

pub no_line_if : (fault : LineFault) (r : Result HitLine LineFault) (bytes : List ℕ) → fault ≡ faults.Form → ReadsLine (Err fault) bytes → OtherIn r bytes → ReadsHit r bytes
no_line_if fault r bytes e n h =
    let form : ReadsLine (Err faults.Form) bytes = subst (λ (x : LineFault). ReadsLine (Err x) bytes) e n in
    other_is r bytes form.0 form.1 (λ k what p t. form.2 k t.form) h
