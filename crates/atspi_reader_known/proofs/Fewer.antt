-- A row whose unknown parts are among those of another has no first part where the other has none; so a view without an unknown part stays
-- one at news that add no row.
use Rattle.std.proofs.Common.{◌≡◌, ℕ, Bool, true, false, cond, not, List, Option, None, refl, ap, ◌∙◌}
use Rattle.std.specs.Prelude.{ℤ, pos, negsuc, ◌&&◌, bytes_eq}
use Rattle.atspi_tree_model.specs.declared.view.Row.{Row}
use Rattle.atspi_tree_model.specs.declared.view.Part.{Part}
use Rattle.atspi_tree_model.specs.declared.view.Part.TheVariants.{Absent, Unknown, Known}
use Rattle.atspi_tree_model.specs.declared.view.NumPart.{NumPart}
use Rattle.atspi_tree_model.specs.declared.view.NumPart.TheVariants.{Absent as NoNumber, Unknown as UnknownNumber, Known as KnownNumber}
use Rattle.atspi_tree_model.specs.declared.news.Item.{Item}
use Rattle.atspi_tree_model.specs.declared.news.News.{News}
use Rattle.atspi_tree_model.specs.declared.news.News.TheVariants.{Removed, ChildAdded, ChildRemoved, Name, Description, Role, State, Inserted, Deleted, Caret, TextIs, CaretIs, ColumnsIs, Nothing, Item as NewItem}
use Rattle.atspi_tree_model.specs.Forest.{Forest, has, pick, take_out, change, EachLabel}
use Rattle.atspi_tree_model.specs.States.{with_state}
use Rattle.atspi_tree_model.specs.Row.{insert_there, delete_there}
use Rattle.atspi_tree_model.specs.News.{is_path, is_seat_at, seat_in, spot, effect, renewed, moved, known_text_with, known_number_to, told_text, told_number, with_count}
use Rattle.atspi_tree_model.proofs.Labels.{each_put_in, each_take_out, each_pick, each_relabel}
use Rattle.atspi_tree_model.proofs.Found.{EachLabel-weaker}
use Rattle.atspi_protocol.specs.declared.news.part.PartName.{PartName}
use Rattle.atspi_protocol.specs.declared.news.part.PartName.TheVariants.{Text as TextPart, Caret as CaretPart, Columns as ColumnsPart}
use Rattle.atspi_protocol.specs.following.Wishes.{is_refused, text_is_unknown, number_is_unknown}
use Rattle.atspi_reader_known.specs.Wanted.{first_part, part_if}

pub record Fewer (new old : Row) : Type 0 where
  pub path : new.path ≡ old.path
  pub text : text_is_unknown new.text ≡ true → text_is_unknown old.text ≡ true
  pub caret : number_is_unknown new.caret ≡ true → number_is_unknown old.caret ≡ true
  pub columns : number_is_unknown new.columns ≡ true → number_is_unknown old.columns ≡ true

no_part : (b : Bool) (x : PartName) (o : Option PartName) → part_if b x o ≡ None → (b ≡ false) × (o ≡ None)
no_part true x o e = absurd cc
no_part false x o e = (refl, e)

fewer_and : (new old more : Bool) → (new ≡ true → old ≡ true) → (old && more) ≡ false → (new && more) ≡ false
fewer_and false old more h e = refl
fewer_and true true more h e = e
fewer_and true false more h e = let z = h refl in absurd cc

module _ (refused : List (List ℕ × PartName)) where
  -- no part of the row is wanted
  abbrev pub IsSettled : Row → Type 0
  IsSettled row = first_part refused row ≡ None

  pub fewer_none : (new old : Row) → Fewer new old → IsSettled old → IsSettled new
  fewer_none new old few e =
      let t = no_part (text_is_unknown old.text && not (is_refused refused old.path TextPart)) TextPart _ e in
      let c = no_part (number_is_unknown old.caret && not (is_refused refused old.path CaretPart)) CaretPart _ t.1 in
      let k = no_part (number_is_unknown old.columns && not (is_refused refused old.path ColumnsPart)) ColumnsPart _ c.1 in
      let text : (text_is_unknown new.text && not (is_refused refused new.path TextPart)) ≡ false =
      ap (λ (p : List ℕ). text_is_unknown new.text && not (is_refused refused p TextPart)) few.path ∙ fewer_and (text_is_unknown new.text) (text_is_unknown old.text) _ few.text t.0 in
      let caret : (number_is_unknown new.caret && not (is_refused refused new.path CaretPart)) ≡ false =
      ap (λ (p : List ℕ). number_is_unknown new.caret && not (is_refused refused p CaretPart)) few.path ∙ fewer_and (number_is_unknown new.caret) (number_is_unknown old.caret) _ few.caret c.0 in
      let columns : (number_is_unknown new.columns && not (is_refused refused new.path ColumnsPart)) ≡ false =
      ap (λ (p : List ℕ). number_is_unknown new.columns && not (is_refused refused p ColumnsPart)) few.path ∙ fewer_and (number_is_unknown new.columns) (number_is_unknown old.columns) _ few.columns k.0 in
      rw (text, caret, columns) refl

  settled_if : (p : Row → Bool) (h : Row → Row) → ((a : Row) → Fewer (h a) a) → (a : Row) → IsSettled a → IsSettled (cond (p a) (h a) a)
  settled_if p h few a e = at (p a)
    where
      at : (b : Bool) → IsSettled (cond b (h a) a)
      at true = fewer_none (h a) a (few a) e
      at false = e

  pub change_settled : (p : Row → Bool) (h : Row → Row) → ((a : Row) → Fewer (h a) a) → (v : Forest Row) → EachLabel IsSettled v → EachLabel IsSettled (change p h v)
  change_settled p h few v e =
      each_relabel IsSettled (λ a. cond (p a) (h a) a) v (EachLabel-weaker IsSettled (λ a. IsSettled (cond (p a) (h a) a)) (settled_if p h few) v e)

  cond_settled : (b : Bool) (f g : Forest Row) → EachLabel IsSettled f → EachLabel IsSettled g → EachLabel IsSettled (cond b f g)
  cond_settled true f g h k = h
  cond_settled false f g h k = k

  renewed_fewer : (item : Item) (a : Row) → Fewer (renewed item a) a
  renewed_fewer item a = record { path = refl; text = λ e. e; caret = λ e. e; columns = λ e. e }

  pub renewed_settled : (p : Row → Bool) (item : Item) (v : Forest Row) → EachLabel IsSettled v → EachLabel IsSettled (change p (renewed item) v)
  renewed_settled p item v h = change_settled p (renewed item) (renewed_fewer item) v h

  -- a known node that moves
  pub moved_settled : (is up : Row → Bool) (item : Item) (v : Forest Row) → EachLabel IsSettled v → EachLabel IsSettled (moved is up item v)
  moved_settled is up item v h =
      cond_settled (has up (take_out is v)) _ v
      (renewed_settled is item _ (each_put_in IsSettled up (spot item.index) (pick is v) (take_out is v) (each_pick IsSettled is v h) (each_take_out IsSettled is v h)))
      h

known_text : (f : List ℕ → List ℕ) (t : Part) → text_is_unknown (known_text_with f t) ≡ true → text_is_unknown t ≡ true
known_text f Absent e = e
known_text f Unknown e = e
known_text f (Known x) e = e

told_a_text : (x : List ℕ) (t : Part) → text_is_unknown (told_text x t) ≡ true → text_is_unknown t ≡ true
told_a_text x Absent e = e
told_a_text x Unknown e = refl
told_a_text x (Known y) e = e

known_number : (n : ℕ) (t : NumPart) → number_is_unknown (known_number_to n t) ≡ true → number_is_unknown t ≡ true
known_number n NoNumber e = e
known_number n UnknownNumber e = e
known_number n (KnownNumber x) e = e

told_a_number : (n : ℕ) (t : NumPart) → number_is_unknown (told_number n t) ≡ true → number_is_unknown t ≡ true
told_a_number n NoNumber e = e
told_a_number n UnknownNumber e = refl
told_a_number n (KnownNumber x) e = e

counted : (at : ℤ) (f : ℕ → NumPart → NumPart) (t : NumPart) → ((n : ℕ) (t : NumPart) → number_is_unknown (f n t) ≡ true → number_is_unknown t ≡ true)
    → number_is_unknown (with_count at f t) ≡ true → number_is_unknown t ≡ true
counted (pos n) f t h e = h n t e
counted (negsuc n) f t h e = e

-- news that add no row
abbrev pub AddsNone : News → Type 0
AddsNone (NewItem item) = ⊥
AddsNone news = Unit {0}

module _ (refused : List (List ℕ × PartName)) (root bus : List ℕ) (v : Forest Row) (h : EachLabel (IsSettled refused) v) where
  pub effect_settled : (news : News) → AddsNone news → EachLabel (IsSettled refused) (effect root bus v news)
  effect_settled (NewItem item) none = absurd none
  effect_settled (Removed path) none = cond_settled refused (bytes_eq path root) v _ h (each_take_out (IsSettled refused) (is_path path) v h)
  effect_settled (ChildAdded child) none = h
  effect_settled (ChildRemoved p i child) none = cond_settled refused (is_seat_at p i (seat_in child v)) _ v (each_take_out (IsSettled refused) (is_path child) v h) h
  effect_settled (Name p x) none = change_settled refused (is_path p) (λ row. record row { name = x }) (λ a. record { path = refl; text = λ e. e; caret = λ e. e; columns = λ e. e }) v h
  effect_settled (Description p x) none = change_settled refused (is_path p) (λ row. record row { description = x }) (λ a. record { path = refl; text = λ e. e; caret = λ e. e; columns = λ e. e }) v h
  effect_settled (Role p x) none = change_settled refused (is_path p) (λ row. record row { role = x }) (λ a. record { path = refl; text = λ e. e; caret = λ e. e; columns = λ e. e }) v h
  effect_settled (State p s on) none = change_settled refused (is_path p) (λ row. record row { states = with_state s on row.states }) (λ a. record { path = refl; text = λ e. e; caret = λ e. e; columns = λ e. e }) v h
  effect_settled (Inserted p at x) none =
      change_settled refused (is_path p) (λ row. record row { text = known_text_with (insert_there at x) row.text }) (λ a. record { path = refl; text = known_text (insert_there at x) a.text; caret = λ e. e; columns = λ e. e }) v h
  effect_settled (Deleted p at n x) none =
      change_settled refused (is_path p) (λ row. record row { text = known_text_with (delete_there at n) row.text }) (λ a. record { path = refl; text = known_text (delete_there at n) a.text; caret = λ e. e; columns = λ e. e }) v h
  effect_settled (Caret p at) none =
      change_settled refused (is_path p) (λ row. record row { caret = with_count at known_number_to row.caret }) (λ a. record { path = refl; text = λ e. e; caret = counted at known_number_to a.caret known_number; columns = λ e. e }) v h
  effect_settled (TextIs p x) none =
      change_settled refused (is_path p) (λ row. record row { text = told_text x row.text }) (λ a. record { path = refl; text = told_a_text x a.text; caret = λ e. e; columns = λ e. e }) v h
  effect_settled (CaretIs p at) none =
      change_settled refused (is_path p) (λ row. record row { caret = with_count at told_number row.caret }) (λ a. record { path = refl; text = λ e. e; caret = counted at told_number a.caret told_a_number; columns = λ e. e }) v h
  effect_settled (ColumnsIs p n) none =
      change_settled refused (is_path p) (λ row. record row { columns = with_count n told_number row.columns }) (λ a. record { path = refl; text = λ e. e; caret = λ e. e; columns = counted n told_number a.columns told_a_number }) v h
  effect_settled Nothing none = h
