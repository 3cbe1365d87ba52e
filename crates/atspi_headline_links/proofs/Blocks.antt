-- BLOCKS of a run: what stands behind an act that is no entry, up to the next such act. Of moves, what is taken behind them is what they complete.
use Rattle.std.proofs.Common.{◌≡◌, ℕ, ◌≤◌, arith, Bool, true, false, List, [], ◌∷◌, ◌++◌, length, map, take, refl, sym, ap, ap₂, ◌∙◌, subst, cond}
use Rattle.std.specs.Prelude.{◌||◌, filter}
use Rattle.std.specs.List.{AllByRecursion, list_any}
use Rattle.std.proofs.lemmas.List.{append-nil, append_assoc, take_all, take_at}
use Rattle.atspi_script_lines.specs.declared.line.Line.{Line}
use Rattle.atspi_script_lines.specs.declared.line.Party.{Party}
use Rattle.atspi_trace.specs.Entry.{Entry}
use Rattle.atspi_headline.specs.Words.{Act, begins_line, moves_bytes, takes_end, writes, is_entry, is_a, getting, Along, next_of, IsFrontIf}
use Rattle.atspi_headline.specs.Headline.{gots_due, is_drop_of, GotsBehind}
use Rattle.atspi_trace_laws.proofs.OfOrder.Parties.{false_true}
use Rattle.atspi_headline_laws.proofs.Dues.{along_more, along_map, next_more}

-- the law of what is taken, of one act
abbrev pub Behind : List Act → Act → List Act → Type 0
Behind before act behind = GotsBehind false before act behind

-- THE ENTRIES of a block
pub next_all : (es : List Entry) → next_of (λ entry. true) (map writes es) ≡ es
next_all [] = refl
next_all (e ∷ es) = ap (λ l. e ∷ l) (next_all es)

nothing_next : (act : Act) (ys : List Act) → is_entry act ≡ false → next_of (λ entry. true) (act ∷ ys) ≡ []
nothing_next (begins_line line) ys h = refl
nothing_next (moves_bytes who up count) ys h = refl
nothing_next (takes_end who) ys h = refl
nothing_next (writes entry) ys h = absurd (false_true (sym h))

longer : (act : Act) (ys before : List Act) (a : Act) (behind : List Act) → is_entry act ≡ false → Behind before a behind → Behind before a (behind ++ act ∷ ys)
longer act ys before (writes entry) behind none h = tt
longer act ys before (begins_line line) behind none h =
    subst (λ l. filter (is_a getting) l ≡ gots_due before (begins_line line)) (sym (next_more (λ entry. true) behind (act ∷ ys) (nothing_next act ys none))) h
longer act ys before (takes_end who) behind none h =
    subst (λ l. filter (is_a getting) l ≡ gots_due before (takes_end who)) (sym (next_more (λ entry. true) behind (act ∷ ys) (nothing_next act ys none))) h
longer act ys before (moves_bytes who true count) behind none h =
    subst (λ l. IsFrontIf (list_any (is_drop_of who) l || false) (filter (is_a getting) l) (gots_due before (moves_bytes who true count)))
    (sym (next_more (λ entry. true) behind (act ∷ ys) (nothing_next act ys none))) h
longer act ys before (moves_bytes who false count) behind none h =
    subst (λ l. IsFrontIf (list_any (is_drop_of who) l || false) (filter (is_a getting) l) (gots_due before (moves_bytes who false count)))
    (sym (next_more (λ entry. true) behind (act ∷ ys) (nothing_next act ys none))) h

-- a block more
entries_along : (before : List Act) (es : List Entry) → Along Behind before (map writes es)
entries_along before [] = tt
entries_along before (e ∷ es) = (tt, entries_along (before ++ writes e ∷ []) es)

pub block_more : (run : List Act) (act : Act) (es : List Entry) → is_entry act ≡ false → Along Behind [] run → Behind run act (map writes es) → Along Behind [] (run ++ act ∷ map writes es)
block_more run act es none old new =
    along_more Behind [] run (act ∷ map writes es)
    (along_map Behind (λ before a behind. Behind before a (behind ++ act ∷ map writes es)) [] run (λ before a behind h. longer act (map writes es) before a behind none h) old)
    (new, entries_along (run ++ act ∷ []) es)

-- WHAT IS TAKEN in a block
abbrev pub NoGot : Entry → Type 0
NoGot entry = is_a getting entry ≡ false

pub none_got : (es : List Entry) → AllByRecursion NoGot es → filter (is_a getting) es ≡ []
none_got [] a = refl
none_got (e ∷ es) a = ap (λ b. cond b (e ∷ filter (is_a getting) es) (filter (is_a getting) es)) a.0 ∙ none_got es a.1

pub got_both : (xs ys : List Entry) → filter (is_a getting) (xs ++ ys) ≡ filter (is_a getting) xs ++ filter (is_a getting) ys
got_both [] ys = refl
got_both (x ∷ xs) ys = by (is_a getting x) (got_both xs ys)
  where
    by : (b : Bool) → filter (is_a getting) (xs ++ ys) ≡ filter (is_a getting) xs ++ filter (is_a getting) ys
        → cond b (x ∷ filter (is_a getting) (xs ++ ys)) (filter (is_a getting) (xs ++ ys)) ≡ cond b (x ∷ filter (is_a getting) xs) (filter (is_a getting) xs) ++ filter (is_a getting) ys
    by true h = ap (λ l. x ∷ l) h
    by false h = h

-- a front, or all
pub all_front : (b : Bool) (found due : List Entry) → found ≡ due → IsFrontIf b found due
all_front false found due h = h
all_front true found due h = h ∙ sym (take_all (length found) due (short (ap length h)))
  where
    short : length found ≡ length due → length due ≤ length found
    short g = omega (arith, g)

pub some_front : (found rest due : List Entry) → due ≡ found ++ rest → IsFrontIf true found due
some_front found rest due h = sym (ap (take (length found)) h ∙ take_at found rest (length found) refl)

same_front : (b c : Bool) (found more due : List Entry) → more ≡ found → (b ≡ true → c ≡ true) → IsFrontIf b found due → IsFrontIf c more due
same_front false c found more due same f h = all_front c more due (same ∙ h)
same_front true c found more due same f h = subst (λ x. IsFrontIf x more due) (sym (f refl)) (same ∙ h ∙ ap (λ l. take (length l) due) (sym same))

-- WHAT STANDS behind a move, said of its entries
abbrev MoveStands : List Act → Party → Bool → ℕ → List Entry → Type 0
MoveStands front who up count es = IsFrontIf (list_any (is_drop_of who) es || false) (filter (is_a getting) es) (gots_due front (moves_bytes who up count))

up_stands : (front : List Act) (who : Party) (count : ℕ) (es : List Entry) → MoveStands front who true count es → Behind front (moves_bytes who true count) (map writes es)
up_stands front who count es h = subst (λ l. MoveStands front who true count l) (sym (next_all es)) h

of_up_stands : (front : List Act) (who : Party) (count : ℕ) (es : List Entry) → Behind front (moves_bytes who true count) (map writes es) → MoveStands front who true count es
of_up_stands front who count es h = subst (λ l. MoveStands front who true count l) (next_all es) h

down_stands : (front : List Act) (who : Party) (count : ℕ) (es : List Entry) → (MoveStands front who false count es) → Behind front (moves_bytes who false count) (map writes es)
down_stands front who count es h =
    subst (λ l. MoveStands front who false count l) (sym (next_all es)) h

of_down_stands : (front : List Act) (who : Party) (count : ℕ) (es : List Entry) → Behind front (moves_bytes who false count) (map writes es) → (MoveStands front who false count es)
of_down_stands front who count es h =
    subst (λ l. MoveStands front who false count l) (next_all es) h

-- other acts: nobody takes anything
pub line_stands : (front : List Act) (line : Line) (es : List Entry) → AllByRecursion NoGot es → Behind front (begins_line line) (map writes es)
line_stands front line es a = subst (λ l. filter (is_a getting) l ≡ []) (sym (next_all es)) (none_got es a)

pub end_stands : (front : List Act) (who : Party) (es : List Entry) → AllByRecursion NoGot es → Behind front (takes_end who) (map writes es)
end_stands front who es a = subst (λ l. filter (is_a getting) l ≡ []) (sym (next_all es)) (none_got es a)

-- entries more, of which none is taken
any_more : (p : Entry → Bool) (xs ys : List Entry) → list_any p xs ≡ true → list_any p (xs ++ ys) ≡ true
any_more p [] ys h = absurd (false_true h)
any_more p (x ∷ xs) ys h = by (p x) (λ g. any_more p xs ys g) h
  where
    by : (b : Bool) → (list_any p xs ≡ true → list_any p (xs ++ ys) ≡ true) → (b || list_any p xs) ≡ true → (b || list_any p (xs ++ ys)) ≡ true
    by true f g = refl
    by false f g = f g

or_false : (a : Bool) → (a || false) ≡ a
or_false true = refl
or_false false = refl

more_stands : (front : List Act) (who : Party) (up : Bool) (count : ℕ) (es ys : List Entry) → AllByRecursion NoGot ys → MoveStands front who up count es → MoveStands front who up count (es ++ ys)
more_stands front who up count es ys a h =
    same_front (list_any (is_drop_of who) es || false) (list_any (is_drop_of who) (es ++ ys) || false) (filter (is_a getting) es) (filter (is_a getting) (es ++ ys)) (gots_due front (moves_bytes who up count))
    (got_both es ys ∙ ap (λ l. filter (is_a getting) es ++ l) (none_got ys a) ∙ append-nil (filter (is_a getting) es))
    (λ g. or_false (list_any (is_drop_of who) (es ++ ys)) ∙ any_more (is_drop_of who) es ys (sym (or_false (list_any (is_drop_of who) es)) ∙ g)) h

pub stands_more : (front : List Act) (act : Act) (es ys : List Entry) → AllByRecursion NoGot ys → Behind front act (map writes es) → Behind front act (map writes (es ++ ys))
stands_more front (writes entry) es ys a h = tt
stands_more front (begins_line line) es ys a h =
    subst (λ l. filter (is_a getting) l ≡ []) (sym (next_all (es ++ ys)))
    (got_both es ys ∙ ap₂ (λ x y. x ++ y) (subst (λ l. filter (is_a getting) l ≡ []) (next_all es) h) (none_got ys a))
stands_more front (takes_end who) es ys a h =
    subst (λ l. filter (is_a getting) l ≡ []) (sym (next_all (es ++ ys)))
    (got_both es ys ∙ ap₂ (λ x y. x ++ y) (subst (λ l. filter (is_a getting) l ≡ []) (next_all es) h) (none_got ys a))
stands_more front (moves_bytes who true count) es ys a h = up_stands front who count (es ++ ys) (more_stands front who true count es ys a (of_up_stands front who count es h))
stands_more front (moves_bytes who false count) es ys a h =
    down_stands front who count (es ++ ys)
    (more_stands front who false count es ys a (of_down_stands front who count es h))

-- A LINE `bytes` IN THE MIDST: so much was taken, so much is to come
pub record UpMid (front : List Act) (act : Act) (es : List Entry) (who : Party) (ahead : List Entry) : Type 0 where
  pub count : ℕ
  pub is : act ≡ moves_bytes who true count
  pub owed : gots_due front act ≡ filter (is_a getting) es ++ ahead

pub record DownMid (front : List Act) (act : Act) (es : List Entry) (who : Party) (ahead : List Entry) : Type 0 where
  pub count : ℕ
  pub is : act ≡ moves_bytes who false count
  pub owed : (gots_due front act ≡ filter (is_a getting) es ++ ahead)

all_taken : (front : List Act) (who : Party) (up : Bool) (count : ℕ) (es ahead : List Entry) → ahead ≡ [] → gots_due front (moves_bytes who up count) ≡ filter (is_a getting) es ++ ahead → MoveStands front who up count es
all_taken front who up count es ahead none h =
    all_front (list_any (is_drop_of who) es || false) (filter (is_a getting) es) (gots_due front (moves_bytes who up count))
    (sym (h ∙ ap (λ l. filter (is_a getting) es ++ l) none ∙ append-nil (filter (is_a getting) es)))

pub up_through : (front : List Act) (act : Act) (es : List Entry) (who : Party) (ahead : List Entry) → ahead ≡ [] → UpMid front act es who ahead → Behind front act (map writes es)
up_through front act es who ahead none m =
    subst (λ a. Behind front a (map writes es)) (sym m.is)
    (up_stands front who m.count es (all_taken front who true m.count es ahead none (subst (λ a. gots_due front a ≡ filter (is_a getting) es ++ ahead) m.is m.owed)))

-- it was dropped
pub up_dropped : (front : List Act) (act : Act) (es : List Entry) (who : Party) (ahead : List Entry) → list_any (is_drop_of who) es ≡ true → UpMid front act es who ahead → Behind front act (map writes es)
up_dropped front act es who ahead out m =
    subst (λ a. Behind front a (map writes es)) (sym m.is)
    (up_stands front who m.count es
    (subst (λ b. IsFrontIf b (filter (is_a getting) es) (gots_due front (moves_bytes who true m.count))) (sym (or_false (list_any (is_drop_of who) es) ∙ out))
    (some_front (filter (is_a getting) es) ahead (gots_due front (moves_bytes who true m.count)) (subst (λ a. gots_due front a ≡ filter (is_a getting) es ++ ahead) m.is m.owed))))

pub down_through : (front : List Act) (act : Act) (es : List Entry) (who : Party) (ahead : List Entry) → ahead ≡ [] → DownMid front act es who ahead → Behind front act (map writes es)
down_through front act es who ahead none m =
    subst (λ a. Behind front a (map writes es)) (sym m.is)
    (down_stands front who m.count es
    (all_taken front who false m.count es ahead none (subst (λ a. gots_due front a ≡ filter (is_a getting) es ++ ahead) m.is m.owed)))

-- entries more, with the next that is taken
pub up_on : (front : List Act) (act : Act) (es ys : List Entry) (who : Party) (ahead rest : List Entry) → ahead ≡ filter (is_a getting) ys ++ rest → UpMid front act es who ahead → UpMid front act (es ++ ys) who rest
up_on front act es ys who ahead rest h m = record {
  count = m.count;
  is = m.is;
  owed = m.owed ∙ ap (λ l. filter (is_a getting) es ++ l) h ∙ sym (append_assoc (filter (is_a getting) es) (filter (is_a getting) ys) rest) ∙ ap (λ l. l ++ rest) (sym (got_both es ys));
}

pub down_on : (front : List Act) (act : Act) (es ys : List Entry) (who : Party) (ahead rest : List Entry) → ahead ≡ filter (is_a getting) ys ++ rest → DownMid front act es who ahead
    → DownMid front act (es ++ ys) who rest
down_on front act es ys who ahead rest h m = record {
  count = m.count;
  is = m.is;
  owed = m.owed ∙ ap (λ l. filter (is_a getting) es ++ l) h ∙ sym (append_assoc (filter (is_a getting) es) (filter (is_a getting) ys) rest) ∙ ap (λ l. l ++ rest) (sym (got_both es ys));
}

-- a turn: what it moves is taken at once
pub up_turn : (front : List Act) (who : Party) (count : ℕ) (es : List Entry) → gots_due front (moves_bytes who true count) ≡ filter (is_a getting) es → Behind front (moves_bytes who true count) (map writes es)
up_turn front who count es h =
    up_stands front who count es (all_front (list_any (is_drop_of who) es || false) (filter (is_a getting) es) (gots_due front (moves_bytes who true count)) (sym h))

pub down_turn : (front : List Act) (who : Party) (count : ℕ) (es : List Entry) → (gots_due front (moves_bytes who false count) ≡ filter (is_a getting) es)
    → Behind front (moves_bytes who false count) (map writes es)
down_turn front who count es h =
    down_stands front who count es
    (all_front (list_any (is_drop_of who) es || false) (filter (is_a getting) es) (gots_due front (moves_bytes who false count)) (sym h))
