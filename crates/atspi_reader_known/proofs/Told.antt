-- A part that is told is wanted no more, as one that is refused is.
use Rattle.std.proofs.Common.{◌≡◌, ℕ, Bool, true, false, cond, not, List, [], ◌∷◌, ◌++◌, map, Option, Some, None, refl, sym, ap, ◌∙◌}
use Rattle.std.specs.Prelude.{◌&&◌, ◌||◌, bytes_eq, if◌then◌else◌}
use Rattle.std.specs.Option.{option_map}
use Rattle.std.proofs.lemmas.Slice.Eq.{bytes_eq-Decides}
use Rattle.std.proofs.lemmas.List.Folds.{list_any-append}
use Rattle.atspi_tree_model.specs.declared.view.Row.{Row}
use Rattle.atspi_tree_model.specs.declared.view.Part.{Part}
use Rattle.atspi_tree_model.specs.declared.view.Part.TheVariants.{Absent, Unknown, Known}
use Rattle.atspi_tree_model.specs.declared.view.NumPart.{NumPart}
use Rattle.atspi_tree_model.specs.declared.view.NumPart.TheVariants.{Absent as NoNumber, Unknown as UnknownNumber, Known as KnownNumber}
use Rattle.atspi_tree_model.specs.declared.news.News.{News}
use Rattle.atspi_tree_model.specs.Forest.{Forest, first_of, labels, change}
use Rattle.atspi_tree_model.specs.News.{is_path, effect, told_text, told_number}
use Rattle.atspi_protocol.specs.declared.news.part.PartName.{PartName}
use Rattle.atspi_protocol.specs.declared.news.part.PartName.TheVariants.{Text as TextPart, Caret as CaretPart, Columns as ColumnsPart}
use Rattle.atspi_protocol.specs.declared.following.question.Question.{Question}
use Rattle.atspi_protocol.specs.following.ReaderState.{Followed, is_named}
use Rattle.atspi_protocol.specs.following.Replied.{changed, refused_part, told_part}
use Rattle.atspi_protocol.specs.following.Wishes.{is_refused, same_part, text_is_unknown, number_is_unknown, wishes, wishes_of}
use Rattle.atspi_reader_known.specs.Wanted.{first, first_part, first_wanted, part_if, part_question}
use Rattle.atspi_reader_known.proofs.Firsts.{first-append}
use Rattle.atspi_reader_known.proofs.Rows.{first_held, labels-relabel}
use Rattle.atspi_reader_known.proofs.Tells.{IsPart}

pub or_false : (b : Bool) → (b || false) ≡ b
or_false true = refl
or_false false = refl

or_true : (b : Bool) → (b || true) ≡ true
or_true true = refl
or_true false = refl

pub and_false : (b : Bool) → (b && false) ≡ false
and_false true = refl
and_false false = refl

pub same_way : (a b : List ℕ) → bytes_eq b a ≡ bytes_eq a b
same_way a b = by (bytes_eq a b) refl (bytes_eq b a) refl
  where
    by : (s : Bool) → bytes_eq a b ≡ s → (t : Bool) → bytes_eq b a ≡ t → t ≡ s
    by true e true f = refl
    by false e false f = refl
    by true e false f = let z : bytes_eq b a ≡ true = (bytes_eq-Decides b a).1 (sym ((bytes_eq-Decides a b).0 e)) in cc
    by false e true f = let z : bytes_eq a b ≡ true = (bytes_eq-Decides a b).1 (sym ((bytes_eq-Decides b a).0 f)) in cc

known_now : (x : List ℕ) (t : Part) → text_is_unknown (told_text x t) ≡ false
known_now x Absent = refl
known_now x Unknown = refl
known_now x (Known y) = refl

number_now : (n : ℕ) (t : NumPart) → number_is_unknown (told_number n t) ≡ false
number_now n NoNumber = refl
number_now n UnknownNumber = refl
number_now n (KnownNumber x) = refl

-- the first of three parts, by whether each is unknown and whether it was refused
abbrev first_by : Bool → Bool → Bool → Bool → Bool → Bool → Option PartName
first_by t c k rt rc rk = part_if (t && not rt) TextPart (part_if (c && not rc) CaretPart (part_if (k && not rk) ColumnsPart None))

module _ (refused : List (List ℕ × PartName)) (path : List ℕ) where
  more_refused : (part : PartName) (p : List ℕ) (q : PartName) (b : Bool) → bytes_eq path p ≡ b
      → is_refused (refused ++ (path, part) ∷ []) p q ≡ (is_refused refused p q || (b && same_part part q))
  more_refused part p q b e =
      list_any-append _ refused ((path, part) ∷ [])
      ∙ ap (λ (t : Bool). is_refused refused p q || t) (or_false (bytes_eq path p && same_part part q) ∙ ap (λ (t : Bool). t && same_part part q) e)

  other_row : (part : PartName) (row : Row) → bytes_eq path row.path ≡ false → first_part refused row ≡ first_part (refused ++ (path, part) ∷ []) row
  other_row part row e =
      let same = λ (q : PartName). more_refused part row.path q false e ∙ or_false (is_refused refused row.path q) in
      sym (rw (same TextPart, same CaretPart, same ColumnsPart) refl)

  text_row : (x : List ℕ) (row : Row) → bytes_eq path row.path ≡ true
      → first_part refused (record row { text = told_text x row.text }) ≡ first_part (refused ++ (path, TextPart) ∷ []) row
  text_row x row e =
      let t = more_refused TextPart row.path TextPart true e ∙ or_true (is_refused refused row.path TextPart) in
      let c = more_refused TextPart row.path CaretPart true e ∙ or_false (is_refused refused row.path CaretPart) in
      let k = more_refused TextPart row.path ColumnsPart true e ∙ or_false (is_refused refused row.path ColumnsPart) in
      rw (known_now x row.text, t, c, k, and_false (text_is_unknown row.text)) refl

  caret_row : (n : ℕ) (row : Row) → bytes_eq path row.path ≡ true
      → first_part refused (record row { caret = told_number n row.caret }) ≡ first_part (refused ++ (path, CaretPart) ∷ []) row
  caret_row n row e =
      let t = more_refused CaretPart row.path TextPart true e ∙ or_false (is_refused refused row.path TextPart) in
      let c = more_refused CaretPart row.path CaretPart true e ∙ or_true (is_refused refused row.path CaretPart) in
      let k = more_refused CaretPart row.path ColumnsPart true e ∙ or_false (is_refused refused row.path ColumnsPart) in
      rw (number_now n row.caret, t, c, k, and_false (number_is_unknown row.caret)) refl

  columns_row : (n : ℕ) (row : Row) → bytes_eq path row.path ≡ true
      → first_part refused (record row { columns = told_number n row.columns }) ≡ first_part (refused ++ (path, ColumnsPart) ∷ []) row
  columns_row n row e =
      let t = more_refused ColumnsPart row.path TextPart true e ∙ or_false (is_refused refused row.path TextPart) in
      let c = more_refused ColumnsPart row.path CaretPart true e ∙ or_false (is_refused refused row.path CaretPart) in
      let k = more_refused ColumnsPart row.path ColumnsPart true e ∙ or_true (is_refused refused row.path ColumnsPart) in
      rw (number_now n row.columns, t, c, k, and_false (number_is_unknown row.columns)) refl

  module _ (part : PartName) (h : Row → Row) (stays : (row : Row) → (h row).path ≡ row.path)
      (is : (row : Row) → bytes_eq path row.path ≡ true → first_part refused (h row) ≡ first_part (refused ++ (path, part) ∷ []) row) where
    abbrev told_row : Row → Row
    told_row row = cond (is_path path row) (h row) row

    abbrev as_pair : Row → Option PartName → Option (List ℕ × PartName)
    as_pair row o = option_map (λ (p : PartName). (row.path, p)) o

    row_wanted : (row : Row) → as_pair (told_row row) (first_part refused (told_row row)) ≡ as_pair row (first_part (refused ++ (path, part) ∷ []) row)
    row_wanted row = by (is_path path row) refl
      where
        by : (b : Bool) → bytes_eq row.path path ≡ b
            → as_pair (cond b (h row) row) (first_part refused (cond b (h row) row)) ≡ as_pair row (first_part (refused ++ (path, part) ∷ []) row)
        by true e =
            ap (λ (p : List ℕ). option_map (λ (q : PartName). (p, q)) (first_part refused (h row))) (stays row)
            ∙ ap (as_pair row) (is row (same_way row.path path ∙ e))
        by false e = ap (as_pair row) (other_row part row (same_way row.path path ∙ e))

    rows_wanted : (rows : List Row) → first_wanted refused (map told_row rows) ≡ first_wanted (refused ++ (path, part) ∷ []) rows
    rows_wanted [] = refl
    rows_wanted (row ∷ rows) =
        ap (λ (o : Option (List ℕ × PartName)). first_of o (first_wanted refused (map told_row rows))) (row_wanted row)
        ∙ ap (first_of (as_pair row (first_part (refused ++ (path, part) ∷ []) row))) (rows_wanted rows)

    view_wanted : (v : Forest Row) → first_wanted refused (labels (change (is_path path) h v)) ≡ first_wanted (refused ++ (path, part) ∷ []) (labels v)
    view_wanted v = ap (first_wanted refused) (labels-relabel told_row v) ∙ rows_wanted (labels v)

  -- the view after the part was told
  told_wanted : (root bus : List ℕ) (part : PartName) (v : Forest Row) (news : News) → IsPart part path news
      → first_wanted refused (labels (effect root bus v news)) ≡ first_wanted (refused ++ (path, part) ∷ []) (labels v)
  told_wanted root bus TextPart v news is =
      ap (λ (n : News). first_wanted refused (labels (effect root bus v n))) is.1
      ∙ view_wanted TextPart (λ row. record row { text = told_text is.0 row.text }) (λ row. refl) (text_row is.0) v
  told_wanted root bus CaretPart v news is =
      ap (λ (n : News). first_wanted refused (labels (effect root bus v n))) is.1
      ∙ view_wanted CaretPart (λ row. record row { caret = told_number is.0 row.caret }) (λ row. refl) (caret_row is.0) v
  told_wanted root bus ColumnsPart v news is =
      ap (λ (n : News). first_wanted refused (labels (effect root bus v n))) is.1
      ∙ view_wanted ColumnsPart (λ row. record row { columns = told_number is.0 row.columns }) (λ row. refl) (columns_row is.0) v

pub part_settled : (path : List ℕ) (part : PartName) (news : News) → IsPart part path news → (app : Followed)
    → first (wishes_of (told_part news app)) ≡ first (wishes_of (refused_part path part app))
part_settled path part news is app = by app.view refl
  where
    loading : (v : Forest Row) (r : Bool) → app.view ≡ Some v → app.reload ≡ r → first (wishes_of (told_part news app)) ≡ first (wishes_of (refused_part path part app))
    loading v true e f = rw (e, f) refl
    loading v false e f =
        let told = record app { view = Some (effect app.root app.name v news) } in
        let same : told_part news app ≡ told = rw e refl in
        ap (λ (a : Followed). first (wishes_of a)) same
        ∙ first_held told (effect app.root app.name v news) refl f
        ∙ ap (option_map (part_question app.name)) (told_wanted app.refused path app.root app.name part v news is)
        ∙ sym (first_held (refused_part path part app) v e f)

    by : (o : Option (Forest Row)) → app.view ≡ o → first (wishes_of (told_part news app)) ≡ first (wishes_of (refused_part path part app))
    by None e = rw e refl
    by (Some v) e = loading v app.reload e refl

-- two changes after which the same is wanted of each application
pub first_changed : (f g : Followed → Followed) (name : List ℕ) → ((app : Followed) → first (wishes_of (f app)) ≡ first (wishes_of (g app))) → (apps : List Followed)
    → first (wishes (changed f name apps)) ≡ first (wishes (changed g name apps))
first_changed f g name same [] = refl
first_changed f g name same (app ∷ apps) =
    first-append (wishes_of (if is_named name app then f app else app)) (wishes (changed f name apps))
    ∙ ap (λ (o : Option Question). first_of o (first (wishes (changed f name apps)))) (by (is_named name app))
    ∙ ap (first_of (first (wishes_of (if is_named name app then g app else app)))) (first_changed f g name same apps)
    ∙ sym (first-append (wishes_of (if is_named name app then g app else app)) (wishes (changed g name apps)))
  where
    by : (b : Bool) → first (wishes_of (if b then f app else app)) ≡ first (wishes_of (if b then g app else app))
    by true = same app
    by false = refl
