-- News that change no unknown part: the same is wanted of the rows after them.
use Rattle.std.proofs.Common.{◌≡◌, ℕ, Bool, true, false, cond, not, List, [], ◌∷◌, map, Option, refl, ap, ◌∙◌}
use Rattle.std.specs.Prelude.{◌&&◌, ℤ, pos, negsuc}
use Rattle.std.specs.Option.{option_map}
use Rattle.atspi_tree_model.specs.declared.view.Row.{Row}
use Rattle.atspi_tree_model.specs.declared.view.Part.{Part}
use Rattle.atspi_tree_model.specs.declared.view.Part.TheVariants.{Absent, Unknown, Known}
use Rattle.atspi_tree_model.specs.declared.view.NumPart.{NumPart}
use Rattle.atspi_tree_model.specs.declared.view.NumPart.TheVariants.{Absent as NoNumber, Unknown as UnknownNumber, Known as KnownNumber}
use Rattle.atspi_tree_model.specs.declared.news.News.{News}
use Rattle.atspi_tree_model.specs.declared.news.News.TheVariants.{Removed, ChildAdded, ChildRemoved, Name, Description, Role, State, Inserted, Deleted, Caret, TextIs, CaretIs, ColumnsIs, Nothing, Item as NewItem}
use Rattle.atspi_tree_model.specs.Forest.{Forest, labels, change, first_of}
use Rattle.atspi_tree_model.specs.States.{with_state}
use Rattle.atspi_tree_model.specs.Row.{insert_there, delete_there}
use Rattle.atspi_tree_model.specs.News.{is_path, effect, known_text_with, known_number_to, with_count}
use Rattle.atspi_protocol.specs.declared.news.part.PartName.{PartName}
use Rattle.atspi_protocol.specs.declared.news.part.PartName.TheVariants.{Text as TextPart, Caret as CaretPart}
use Rattle.atspi_protocol.specs.following.Wishes.{is_refused, text_is_unknown, number_is_unknown}
use Rattle.atspi_reader_known.specs.Wanted.{first_part, first_wanted, part_if}
use Rattle.atspi_reader_known.proofs.Listed.{with_path}
use Rattle.atspi_reader_known.proofs.Rows.{labels-relabel}

-- the news of which this is so
abbrev pub IsQuiet : News → Type 0
IsQuiet (NewItem item) = ⊥
IsQuiet (Removed path) = ⊥
IsQuiet (ChildRemoved parent index child) = ⊥
IsQuiet (TextIs path text) = ⊥
IsQuiet (CaretIs path at) = ⊥
IsQuiet (ColumnsIs path count) = ⊥
IsQuiet news = Unit {0}

module _ (refused : List (List ℕ × PartName)) (q : Row → Bool) (h : Row → Row) (path : (row : Row) → (h row).path ≡ row.path)
    (part : (row : Row) → first_part refused (h row) ≡ first_part refused row) where
  abbrev changed_row : Row → Row
  changed_row row = cond (q row) (h row) row

  same_row : (row : Row) → option_map (with_path (changed_row row).path) (first_part refused (changed_row row)) ≡ option_map (with_path row.path) (first_part refused row)
  same_row row = by (q row)
    where
      by : (b : Bool) → option_map (with_path (cond b (h row) row).path) (first_part refused (cond b (h row) row)) ≡ option_map (with_path row.path) (first_part refused row)
      by true = ap (λ (p : List ℕ). option_map (with_path p) (first_part refused (h row))) (path row) ∙ ap (option_map (with_path row.path)) (part row)
      by false = refl

  same_rows : (rows : List Row) → first_wanted refused (map changed_row rows) ≡ first_wanted refused rows
  same_rows [] = refl
  same_rows (row ∷ rows) =
      ap (λ (o : Option (List ℕ × PartName)). first_of o (first_wanted refused (map changed_row rows))) (same_row row)
      ∙ ap (first_of (option_map (with_path row.path) (first_part refused row))) (same_rows rows)

  same_change : (v : Forest Row) → first_wanted refused (labels (change q h v)) ≡ first_wanted refused (labels v)
  same_change v = ap (first_wanted refused) (labels-relabel changed_row v) ∙ same_rows (labels v)

still_unknown : (f : List ℕ → List ℕ) (t : Part) → text_is_unknown (known_text_with f t) ≡ text_is_unknown t
still_unknown f Absent = refl
still_unknown f Unknown = refl
still_unknown f (Known x) = refl

number_unknown : (at : ℤ) (t : NumPart) → number_is_unknown (with_count at known_number_to t) ≡ number_is_unknown t
number_unknown (pos n) NoNumber = refl
number_unknown (pos n) UnknownNumber = refl
number_unknown (pos n) (KnownNumber x) = refl
number_unknown (negsuc n) t = refl

module _ (refused : List (List ℕ × PartName)) where
  text_part : (f : List ℕ → List ℕ) (row : Row) → first_part refused (record row { text = known_text_with f row.text }) ≡ first_part refused row
  text_part f row = ap (λ (b : Bool). part_if (b && not (is_refused refused row.path TextPart)) TextPart (first_part refused (record row { text = Absent }))) (still_unknown f row.text)

  caret_part : (at : ℤ) (row : Row) → first_part refused (record row { caret = with_count at known_number_to row.caret }) ≡ first_part refused row
  caret_part at row =
      ap (λ (b : Bool). part_if (text_is_unknown row.text && not (is_refused refused row.path TextPart)) TextPart
      (part_if (b && not (is_refused refused row.path CaretPart)) CaretPart (first_part refused (record row { text = Absent; caret = NoNumber }))))
      (number_unknown at row.caret)

  pub quiet_wanted : (root bus : List ℕ) (v : Forest Row) (news : News) → IsQuiet news → first_wanted refused (labels (effect root bus v news)) ≡ first_wanted refused (labels v)
  quiet_wanted root bus v (NewItem item) q = absurd q
  quiet_wanted root bus v (Removed path) q = absurd q
  quiet_wanted root bus v (ChildRemoved parent index child) q = absurd q
  quiet_wanted root bus v (TextIs path text) q = absurd q
  quiet_wanted root bus v (CaretIs path at) q = absurd q
  quiet_wanted root bus v (ColumnsIs path count) q = absurd q
  quiet_wanted root bus v (ChildAdded child) q = refl
  quiet_wanted root bus v (Name p x) q = same_change refused (is_path p) (λ row. record row { name = x }) (λ row. refl) (λ row. refl) v
  quiet_wanted root bus v (Description p x) q = same_change refused (is_path p) (λ row. record row { description = x }) (λ row. refl) (λ row. refl) v
  quiet_wanted root bus v (Role p x) q = same_change refused (is_path p) (λ row. record row { role = x }) (λ row. refl) (λ row. refl) v
  quiet_wanted root bus v (State p s on) q = same_change refused (is_path p) (λ row. record row { states = with_state s on row.states }) (λ row. refl) (λ row. refl) v
  quiet_wanted root bus v (Inserted p at x) q =
      same_change refused (is_path p) (λ row. record row { text = known_text_with (insert_there at x) row.text }) (λ row. refl) (text_part (insert_there at x)) v
  quiet_wanted root bus v (Deleted p at n x) q =
      same_change refused (is_path p) (λ row. record row { text = known_text_with (delete_there at n) row.text }) (λ row. refl) (text_part (delete_there at n)) v
  quiet_wanted root bus v (Caret p at) q = same_change refused (is_path p) (λ row. record row { caret = with_count at known_number_to row.caret }) (λ row. refl) (caret_part at) v
  quiet_wanted root bus v Nothing q = refl
