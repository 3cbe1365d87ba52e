-- A list of what is wanted: it is that of the rows, without what was refused since, and no part stands in it twice.
use Rattle.std.proofs.Common.{◌≡◌, ℕ, ◌+◌, ◌≤◌, Bool, true, false, cond, not, List, [], ◌∷◌, ◌++◌, filter, map, Option, refl, sym, ap, subst, ◌∙◌, arith}
use Rattle.std.specs.Prelude.{◌&&◌, ◌||◌, bytes_eq}
use Rattle.std.specs.Option.{option_map}
use Rattle.std.specs.List.{list_any}
use Rattle.std.proofs.lemmas.Slice.Eq.{bytes_eq-Decides}
use Rattle.std.proofs.lemmas.List.{append-nil}
use Rattle.std.proofs.lemmas.List.Elements.{filter-append}
use Rattle.std.proofs.lemmas.List.Folds.{list_any-append}
use Rattle.atspi_tree_model.specs.declared.view.Row.{Row}
use Rattle.atspi_tree_model.specs.Forest.{Forest, nil, tree, count, labels, first_of}
use Rattle.atspi_tree_model.specs.News.{is_path}
use Rattle.atspi_tree_model.specs.Laws.{EachPathOnce}
use Rattle.atspi_tree_model.proofs.Once.{many}
use Rattle.atspi_protocol.specs.declared.news.part.PartName.{PartName}
use Rattle.atspi_protocol.specs.declared.news.part.PartName.TheVariants.{Text, Caret, Columns}
use Rattle.atspi_protocol.specs.following.Wishes.{is_refused, same_part, unknown_if, unknown_parts, text_is_unknown, number_is_unknown}
use Rattle.atspi_reader_known.specs.Wanted.{first, first_part, first_wanted, unrefused}
use Rattle.atspi_reader_known.specs.Listed.{all_wants, left, row_wants, is_same, AreOnce}
use Rattle.atspi_reader_known.proofs.Firsts.{first-append, first-map}
use Rattle.atspi_reader_known.proofs.Parts.{first_unrefused}
use Rattle.atspi_reader_known.proofs.Told.{and_false, or_false, same_way}

abbrev pub with_path : List ℕ → PartName → List ℕ × PartName
with_path path part = (path, part)

-- the first of the list is what a walk finds
pub first_row : (refused : List (List ℕ × PartName)) (row : Row) → first (row_wants refused row) ≡ option_map (with_path row.path) (first_part refused row)
first_row refused row = first-map (with_path row.path) (unrefused refused row) ∙ ap (option_map (with_path row.path)) (first_unrefused refused row)

first_all : (refused : List (List ℕ × PartName)) (rows : List Row) → first (all_wants refused rows) ≡ first_wanted refused rows
first_all refused [] = refl
first_all refused (row ∷ rows) =
    first-append (row_wants refused row) (all_wants refused rows)
    ∙ ap (λ (o : Option (List ℕ × PartName)). first_of o (first (all_wants refused rows))) (first_row refused row)
    ∙ ap (first_of (option_map (with_path row.path) (first_part refused row))) (first_all refused rows)

-- where more is refused, that is left out
module _ (refused more : List (List ℕ × PartName)) where
  left_part : (path : List ℕ) (p : PartName) (kept before : List PartName) → map (with_path path) kept ≡ left more (map (with_path path) before) → (x a : Bool)
      → x ≡ (a || is_refused more path p) → map (with_path path) (cond (not x) (p ∷ kept) kept) ≡ left more (map (with_path path) (cond (not a) (p ∷ before) before))
  left_part path p kept before rest x true e = ap (λ (t : Bool). map (with_path path) (cond (not t) (p ∷ kept) kept)) e ∙ rest
  left_part path p kept before rest x false e = here (is_refused more path p) e
    where
      here : (b : Bool) → x ≡ b → map (with_path path) (cond (not x) (p ∷ kept) kept)
          ≡ cond (not b) ((path, p) ∷ left more (map (with_path path) before)) (left more (map (with_path path) before))
      here true f = ap (λ (t : Bool). map (with_path path) (cond (not t) (p ∷ kept) kept)) f ∙ rest
      here false f = ap (λ (t : Bool). map (with_path path) (cond (not t) (p ∷ kept) kept)) f ∙ ap (λ (l : List (List ℕ × PartName)). (path, p) ∷ l) rest

  left_parts : (path : List ℕ) (parts : List PartName)
      → map (with_path path) (filter (λ (part : PartName). not (is_refused (refused ++ more) path part)) parts)
      ≡ left more (map (with_path path) (filter (λ (part : PartName). not (is_refused refused path part)) parts))
  left_parts path [] = refl
  left_parts path (p ∷ ps) = left_part path p _ _ (left_parts path ps) (is_refused (refused ++ more) path p) (is_refused refused path p) (list_any-append _ refused more)

  pub left_row : (row : Row) → row_wants (refused ++ more) row ≡ left more (row_wants refused row)
  left_row row = left_parts row.path (unknown_parts row)

  left_all : (rows : List Row) → all_wants (refused ++ more) rows ≡ left more (all_wants refused rows)
  left_all [] = refl
  left_all (row ∷ rows) =
      ap (λ (l : List (List ℕ × PartName)). l ++ all_wants (refused ++ more) rows) (left_row row)
      ∙ ap (λ (l : List (List ℕ × PartName)). left more (row_wants refused row) ++ l) (left_all rows)
      ∙ sym (filter-append _ (row_wants refused row) (all_wants refused rows))

  pub wanted_left : (rows : List Row) → first_wanted (refused ++ more) rows ≡ first (left more (all_wants refused rows))
  wanted_left rows = sym (first_all (refused ++ more) rows) ∙ ap first (left_all rows)

-- whether a part is the same, from either side
same_part-sym : (p q : PartName) → same_part p q ≡ same_part q p
same_part-sym Text Text = refl
same_part-sym Text Caret = refl
same_part-sym Text Columns = refl
same_part-sym Caret Text = refl
same_part-sym Caret Caret = refl
same_part-sym Caret Columns = refl
same_part-sym Columns Text = refl
same_part-sym Columns Caret = refl
same_part-sym Columns Columns = refl

pub part_itself : (p : PartName) → same_part p p ≡ true
part_itself Text = refl
part_itself Caret = refl
part_itself Columns = refl

pub part_same : (p q : PartName) → same_part p q ≡ true → p ≡ q
part_same Text Text e = refl
part_same Text Caret e = absurd cc
part_same Text Columns e = absurd cc
part_same Caret Text e = absurd cc
part_same Caret Caret e = refl
part_same Caret Columns e = absurd cc
part_same Columns Text e = absurd cc
part_same Columns Caret e = absurd cc
part_same Columns Columns e = refl

pub is_same-sym : (x y : List ℕ × PartName) → is_same x y ≡ is_same y x
is_same-sym x y = ap (λ (b : Bool). b && same_part x.1 y.1) (same_way y.0 x.0) ∙ ap (λ (b : Bool). bytes_eq y.0 x.0 && b) (same_part-sym x.1 y.1)

-- no part stands in the list of rows twice, where no path does
abbrev PartsOnce : List PartName → Type 0
PartsOnce [] = Unit {0}
PartsOnce (p ∷ ps) = (list_any (same_part p) ps ≡ false) × PartsOnce ps

none_filtered : {A : Type 0} (q p : A → Bool) (xs : List A) → list_any q xs ≡ false → list_any q (filter p xs) ≡ false
none_filtered q p [] e = refl
none_filtered q p (x ∷ xs) e = by (q x) (p x) refl e (λ k. none_filtered q p xs k)
  where
    by : (b t : Bool) → q x ≡ b → (b || list_any q xs) ≡ false → (list_any q xs ≡ false → list_any q (filter p xs) ≡ false)
        → list_any q (cond t (x ∷ filter p xs) (filter p xs)) ≡ false
    by true t f e rest = absurd cc
    by false true f e rest = ap (λ (b : Bool). b || list_any q (filter p xs)) f ∙ rest e
    by false false f e rest = rest e

parts_filtered : (p : PartName → Bool) (parts : List PartName) → PartsOnce parts → PartsOnce (filter p parts)
parts_filtered p [] o = tt
parts_filtered p (x ∷ xs) o = by (p x) (parts_filtered p xs o.1)
  where
    by : (t : Bool) → PartsOnce (filter p xs) → PartsOnce (cond t (x ∷ filter p xs) (filter p xs))
    by true rest = (none_filtered (same_part x) p xs o.0, rest)
    by false rest = rest

parts_by : (a b c : Bool) → PartsOnce (unknown_if a Text ++ (unknown_if b Caret ++ unknown_if c Columns))
parts_by true true true = (refl, (refl, (refl, tt)))
parts_by true true false = (refl, (refl, tt))
parts_by true false true = (refl, (refl, tt))
parts_by true false false = (refl, tt)
parts_by false true true = (refl, (refl, tt))
parts_by false true false = (refl, tt)
parts_by false false true = (refl, tt)
parts_by false false false = tt

row_parts_once : (refused : List (List ℕ × PartName)) (row : Row) → PartsOnce (unrefused refused row)
row_parts_once refused row =
    parts_filtered (λ (part : PartName). not (is_refused refused row.path part)) (unknown_parts row)
    (parts_by (text_is_unknown row.text) (number_is_unknown row.caret) (number_is_unknown row.columns))

or_both : (a b : Bool) → a ≡ false → b ≡ false → (a || b) ≡ false
or_both true b e f = absurd cc
or_both false b e f = f

or_front : (a b : Bool) → (a || b) ≡ false → a ≡ false
or_front true b e = absurd cc
or_front false b e = refl

or_back : (a b : Bool) → (a || b) ≡ false → b ≡ false
or_back true b e = absurd cc
or_back false b e = e

other_parts : (path : List ℕ) (part : PartName) (parts : List PartName) → list_any (same_part part) parts ≡ false → list_any (is_same (path, part)) (map (with_path path) parts) ≡ false
other_parts path part [] e = refl
other_parts path part (p ∷ ps) e =
    or_both (bytes_eq path path && same_part part p) _
    (ap (λ (b : Bool). bytes_eq path path && b) (or_front (same_part part p) (list_any (same_part part) ps) e) ∙ and_false (bytes_eq path path))
    (other_parts path part ps (or_back (same_part part p) (list_any (same_part part) ps) e))

once_before : (path : List ℕ) (parts : List PartName) (others : List (List ℕ × PartName)) → PartsOnce parts
    → ((part : PartName) → list_any (is_same (path, part)) others ≡ false) → AreOnce others → AreOnce (map (with_path path) parts ++ others)
once_before path [] others o none once = once
once_before path (p ∷ ps) others o none once = (
  list_any-append (is_same (path, p)) (map (with_path path) ps) others
      ∙ or_both (list_any (is_same (path, p)) (map (with_path path) ps)) (list_any (is_same (path, p)) others) (other_parts path p ps o.0) (none p),
  once_before path ps others o.1 none once,
)

pub once_row : (refused : List (List ℕ × PartName)) (row : Row) → AreOnce (row_wants refused row)
once_row refused row =
    subst AreOnce (append-nil (row_wants refused row)) (once_before row.path (unrefused refused row) [] (row_parts_once refused row) (λ part. refl) tt)

-- rows of which no two have one path
abbrev RowsOnce : List Row → Type 0
RowsOnce [] = Unit {0}
RowsOnce (row ∷ rows) = (list_any (is_path row.path) rows ≡ false) × RowsOnce rows

other_row : (path : List ℕ) (part : PartName) (q : List ℕ) (parts : List PartName) → bytes_eq path q ≡ false → list_any (is_same (path, part)) (map (with_path q) parts) ≡ false
other_row path part q [] e = refl
other_row path part q (p ∷ ps) e =
    or_both (bytes_eq path q && same_part part p) _ (ap (λ (b : Bool). b && same_part part p) e) (other_row path part q ps e)

other_rows : (refused : List (List ℕ × PartName)) (path : List ℕ) (part : PartName) (rows : List Row) → list_any (is_path path) rows ≡ false
    → list_any (is_same (path, part)) (all_wants refused rows) ≡ false
other_rows refused path part [] e = refl
other_rows refused path part (row ∷ rows) e =
    list_any-append (is_same (path, part)) (row_wants refused row) (all_wants refused rows)
    ∙ or_both (list_any (is_same (path, part)) (row_wants refused row)) (list_any (is_same (path, part)) (all_wants refused rows))
    (other_row path part row.path (unrefused refused row) (same_way row.path path ∙ or_front (is_path path row) (list_any (is_path path) rows) e))
    (other_rows refused path part rows (or_back (is_path path row) (list_any (is_path path) rows) e))

once_rows : (refused : List (List ℕ × PartName)) (rows : List Row) → RowsOnce rows → AreOnce (all_wants refused rows)
once_rows refused [] o = tt
once_rows refused (row ∷ rows) o =
    once_before row.path (unrefused refused row) (all_wants refused rows) (row_parts_once refused row)
    (λ part. other_rows refused row.path part rows o.0) (once_rows refused rows o.1)

-- the rows of a view
many-append : (q : Row → Bool) (xs ys : List Row) → many q (xs ++ ys) ≡ many q xs + many q ys
many-append q [] ys = omega arith
many-append q (x ∷ xs) ys = omega (arith, many-append q xs ys)

many-labels : (q : Row → Bool) (f : Forest Row) → many q (labels f) ≡ count q f
many-labels q nil = refl
many-labels q (tree a c r) = omega (arith, many-append q (labels c) (labels r), many-labels q c, many-labels q r)

none_of_many : (q : Row → Bool) (rows : List Row) → many q rows ≡ 0 → list_any q rows ≡ false
none_of_many q [] e = refl
none_of_many q (x ∷ xs) e = by (q x) e (λ k. none_of_many q xs k)
  where
    by : (b : Bool) → cond b 1 0 + many q xs ≡ 0 → (many q xs ≡ 0 → list_any q xs ≡ false) → (b || list_any q xs) ≡ false
    by true e rest = absurd (omega (arith, e))
    by false e rest = rest (omega (arith, e))

rows_once : (rows : List Row) → ((path : List ℕ) → many (is_path path) rows ≤ 1) → RowsOnce rows
rows_once [] l = tt
rows_once (row ∷ rows) l = (
  none_of_many (is_path row.path) rows (here (is_path row.path row) ((bytes_eq-Decides row.path row.path).1 refl) (l row.path)),
  rows_once rows (λ path. let k : cond (is_path path row) 1 0 + many (is_path path) rows ≤ 1 = l path in omega (arith, k)),
)
  where
    here : (b : Bool) → b ≡ true → cond b 1 0 + many (is_path row.path) rows ≤ 1 → many (is_path row.path) rows ≡ 0
    here true e k = omega (arith, k)
    here false e k = absurd cc

pub once_view : (refused : List (List ℕ × PartName)) (v : Forest Row) → EachPathOnce v → AreOnce (all_wants refused (labels v))
once_view refused v once =
    once_rows refused (labels v) (rows_once (labels v) (λ path. subst (λ (n : ℕ). n ≤ 1) (sym (many-labels (is_path path) v)) (once path)))

-- the first part is refused or told
module _ (want : List ℕ × PartName) (wants more both : List (List ℕ × PartName))
    (is : (path : List ℕ) (part : PartName) → is_refused both path part ≡ (is_refused more path part || is_same want (path, part))) where
  left_others : (others : List (List ℕ × PartName)) → list_any (is_same want) others ≡ false → left both others ≡ left more others
  left_others [] e = refl
  left_others (x ∷ xs) e =
      ap (λ (t : Bool). cond (not t) (x ∷ left both xs) (left both xs))
      (is x.0 x.1 ∙ ap (λ (t : Bool). is_refused more x.0 x.1 || t) (or_front (is_same want x) (list_any (is_same want) xs) e) ∙ or_false (is_refused more x.0 x.1))
      ∙ ap (λ (l : List (List ℕ × PartName)). cond (not (is_refused more x.0 x.1)) (x ∷ l) l) (left_others xs (or_back (is_same want x) (list_any (is_same want) xs) e))

  or_itself : (a b : Bool) → b ≡ true → (a || b) ≡ true
  or_itself true b e = refl
  or_itself false b e = e

  itself : is_same want want ≡ true
  itself = ap (λ (b : Bool). b && same_part want.1 want.1) ((bytes_eq-Decides want.0 want.0).1 refl) ∙ part_itself want.1

  pub left_gone : AreOnce (want ∷ wants) → left both (want ∷ wants) ≡ left more wants
  left_gone once =
      ap (λ (t : Bool). cond (not t) (want ∷ left both wants) (left both wants)) (is want.0 want.1 ∙ or_itself (is_refused more want.0 want.1) (is_same want want) itself)
      ∙ left_others wants once.0

-- more is refused behind, or in front
pub refused_behind : (more : List (List ℕ × PartName)) (want : List ℕ × PartName) (path : List ℕ) (part : PartName)
    → is_refused (more ++ want ∷ []) path part ≡ (is_refused more path part || is_same want (path, part))
refused_behind more want path part =
    list_any-append _ more (want ∷ []) ∙ ap (λ (b : Bool). is_refused more path part || b) (or_false (is_same want (path, part)))

or_swap : (a b : Bool) → (a || b) ≡ (b || a)
or_swap true true = refl
or_swap true false = refl
or_swap false true = refl
or_swap false false = refl

pub refused_before : (more : List (List ℕ × PartName)) (want : List ℕ × PartName) (path : List ℕ) (part : PartName)
    → is_refused (want ∷ more) path part ≡ (is_refused more path part || is_same want (path, part))
refused_before more want path part = or_swap (is_same want (path, part)) (is_refused more path part)

-- the part that a list begins with
pub same_want : (want told : List ℕ × PartName) → is_same want told ≡ true → want ≡ told
same_want want told e = by (bytes_eq want.0 told.0) refl e
  where
    by : (b : Bool) → bytes_eq want.0 told.0 ≡ b → (b && same_part want.1 told.1) ≡ true → want ≡ told
    by true f e =
        ap (λ (path : List ℕ). (path, want.1)) ((bytes_eq-Decides want.0 told.0).0 f) ∙ ap (λ (part : PartName). (told.0, part)) (part_same want.1 told.1 e)
    by false f e = absurd cc
