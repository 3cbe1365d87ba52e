-- The ten fields of an item, one after the other.
use Rattle.std.proofs.Common.{◌≡◌, ℕ, ℤ, List, [], ◌∷◌, map, Option, Some, None, chars, sym, ap, ◌∙◌}
use Rattle.std.specs.Borrow.{Bor}
use Rattle.std.specs.Prelude.{option_and_then}
use Rattle.std.specs.Option.{option_map}
use Rattle.atspi_types.specs.Data.{Data}
use Rattle.atspi_marshal_in_place.specs.Items.{elements_data}
use Rattle.atspi_marshal_in_place.specs.declared.cursor.Elements.{Elements}
use Rattle.atspi_tree_model.specs.declared.news.Reference.{Reference}
use Rattle.atspi_tree_model.specs.declared.news.Item.{Item}
use Rattle.atspi_protocol.specs.news.Arguments.{then_reference, then_signed, then_unsigned, then_text, then_numbers, then_end, text_in, number_in}
use Rattle.atspi_protocol.specs.news.CacheSignals.{item_of, states_in}
use Rattle.atspi_reader_news.specs.declared.borrowed.ReferenceRef.{ReferenceRef}
use Rattle.atspi_reader_news.specs.declared.borrowed.ItemFront.{ItemFront}
use Rattle.atspi_reader_news.specs.declared.borrowed.ItemRef.{ItemRef}
use Rattle.atspi_reader_news.specs.Seen.{reference_seen, TextComes, UnsignedComes, TextsCome, NumbersCome, ReferenceComes}
use Rattle.atspi_reader_news.specs.inner.Items.{item_seen, behind_front, with_front, FrontComes}
use Rattle.atspi_reader_news.proofs.Came.{read_text, read_unsigned, read_texts, read_numbers, read_reference}

abbrev pub behind_4 : Reference → Reference → Reference → ℤ → List Data → Option Item
behind_4 o a p i = then_signed (λ c. behind_front o a p i c)

abbrev pub behind_3 : Reference → Reference → Reference → List Data → Option Item
behind_3 o a p = then_signed (λ i. behind_4 o a p i)

pub through_3 : (f0 f1 f2 f3 : List Data) (o a p : ReferenceRef) → ReferenceComes (Some o) f0 f1 → ReferenceComes (Some a) f1 f2 → ReferenceComes (Some p) f2 f3
    → item_of f0 ≡ behind_3 (reference_seen o) (reference_seen a) (reference_seen p) f3
through_3 f0 f1 f2 f3 o a p one two three =
    read_reference (λ r. then_reference (λ s. then_reference (λ t. behind_3 r s t))) (Some o) f0 f1 one
    ∙ read_reference (λ s. then_reference (λ t. behind_3 (reference_seen o) s t)) (Some a) f1 f2 two
    ∙ read_reference (λ t. behind_3 (reference_seen o) (reference_seen a) t) (Some p) f2 f3 three

-- what is made of the fields behind the front and those that were read
abbrev made : ItemFront → List (List ℕ) → List ℕ → ℕ → List ℕ → List ℕ → Item
made f xs n r d states = record {
  object = reference_seen f.object;
  application = reference_seen f.application;
  parent = reference_seen f.parent;
  index = f.index;
  children = f.children;
  interfaces = xs;
  name = n;
  role = r;
  description = d;
  states = states_in states;
}

abbrev pub behind_9 : ItemFront → List (List ℕ) → List ℕ → ℕ → List ℕ → List Data → Option Item
behind_9 f xs n r d = then_numbers (λ states. then_end (made f xs n r d states))

abbrev pub behind_8 : ItemFront → List (List ℕ) → List ℕ → ℕ → List Data → Option Item
behind_8 f xs n r = then_text (λ d. behind_9 f xs n r d)

abbrev pub behind_7 : ItemFront → List (List ℕ) → List ℕ → List Data → Option Item
behind_7 f xs n = then_unsigned (λ r. behind_8 f xs n r)

abbrev pub behind_6 : ItemFront → List (List ℕ) → List Data → Option Item
behind_6 f xs = then_text (λ n. behind_7 f xs n)

pub no_texts_behind : (x : Option Item) (f : ItemFront) (f5 f6 : List Data) → x ≡ with_front f f5 → TextsCome None f5 f6 → x ≡ None
no_texts_behind x f f5 f6 before comes = before ∙ read_texts (λ xs. behind_6 f xs) None f5 f6 comes

pub through_6 : (x : Option Item) (f : ItemFront) (f5 f6 : List Data) (xs : Elements) → x ≡ with_front f f5 → TextsCome (Some xs) f5 f6 → x ≡ behind_6 f (map text_in (elements_data xs)) f6
through_6 x f f5 f6 xs before comes = before ∙ read_texts (λ ys. behind_6 f ys) (Some xs) f5 f6 comes

pub through_7 : (x : Option Item) (f : ItemFront) (f6 f7 : List Data) (xs : List (List ℕ)) (n : Bor (List ℕ)) → x ≡ behind_6 f xs f6 → TextComes (Some n) f6 f7 → x ≡ behind_7 f xs (chars n.now) f7
through_7 x f f6 f7 xs n before comes = before ∙ read_text (λ m. behind_7 f xs m) (Some n) f6 f7 comes

pub through_8 : (x : Option Item) (f : ItemFront) (f7 f8 : List Data) (xs : List (List ℕ)) (n : List ℕ) (r : ℕ) → x ≡ behind_7 f xs n f7 → UnsignedComes (Some r) f7 f8 → x ≡ behind_8 f xs n r f8
through_8 x f f7 f8 xs n r before comes = before ∙ read_unsigned (λ s. behind_8 f xs n s) (Some r) f7 f8 comes

pub through_9 : (x : Option Item) (f : ItemFront) (f8 f9 : List Data) (xs : List (List ℕ)) (n : List ℕ) (r : ℕ) (d : Bor (List ℕ)) → x ≡ behind_8 f xs n r f8 → TextComes (Some d) f8 f9 → x ≡ behind_9 f xs n r (chars d.now) f9
through_9 x f f8 f9 xs n r d before comes = before ∙ read_text (λ e. behind_9 f xs n r e) (Some d) f8 f9 comes

pub no_numbers_10 : (x : Option Item) (f : ItemFront) (f9 f10 : List Data) (xs : List (List ℕ)) (n : List ℕ) (r : ℕ) (d : List ℕ) → x ≡ behind_9 f xs n r d f9 → NumbersCome None f9 f10 → x ≡ None
no_numbers_10 x f f9 f10 xs n r d before comes = before ∙ read_numbers (λ s. then_end (made f xs n r d s)) None f9 f10 comes

through_10 : (x : Option Item) (f : ItemFront) (f9 f10 : List Data) (xs : List (List ℕ)) (n : List ℕ) (r : ℕ) (d : List ℕ) (s : Elements) → x ≡ behind_9 f xs n r d f9 → NumbersCome (Some s) f9 f10
    → x ≡ then_end (made f xs n r d (map number_in (elements_data s))) f10
through_10 x f f9 f10 xs n r d s before comes = before ∙ read_numbers (λ t. then_end (made f xs n r d t)) (Some s) f9 f10 comes

-- nothing stands behind the tenth field, or something does
pub ends_10 : (x : Option Item) (f : ItemFront) (f9 f10 : List Data) (xs : Elements) (n : List ℕ) (r : ℕ) (d : List ℕ) (s : Elements) → x ≡ behind_9 f (map text_in (elements_data xs)) n r d f9 → NumbersCome (Some s) f9 f10 → f10 ≡ []
    → x ≡ Some (made f (map text_in (elements_data xs)) n r d (map number_in (elements_data s)))
ends_10 x f f9 f10 xs n r d s before comes nothing =
    through_10 x f f9 f10 (map text_in (elements_data xs)) n r d s before comes ∙ ap (then_end (made f (map text_in (elements_data xs)) n r d (map number_in (elements_data s)))) nothing

pub more_10 : (x : Option Item) (f : ItemFront) (f9 f10 : List Data) (xs : List (List ℕ)) (n : List ℕ) (r : ℕ) (d : List ℕ) (s : Elements) (v : Data) (vs : List Data) → x ≡ behind_9 f xs n r d f9 → NumbersCome (Some s) f9 f10 → f10 ≡ v ∷ vs → x ≡ None
more_10 x f f9 f10 xs n r d s v vs before comes more =
    through_10 x f f9 f10 xs n r d s before comes ∙ ap (then_end (made f xs n r d (map number_in (elements_data s)))) more

-- where one did not come, no item is made
pub gone : (r : Option ItemRef) (x : Option Item) → r ≡ None → x ≡ None → option_map item_seen r ≡ x
gone r x nothing none = ap (option_map item_seen) nothing ∙ sym none

pub front_gone : (r : Option ItemFront) (f0 f5 : List Data) → r ≡ None → item_of f0 ≡ None → FrontComes r f0 f5
front_gone r f0 f5 nothing none = none ∙ sym (ap (option_and_then (λ (f : ItemFront). with_front f f5)) nothing)

-- numbers as they lie in memory
pub same_front : (o a p : Reference) (i c i' c' : ℤ) (f : List Data) → i' ≡ i → c' ≡ c → behind_front o a p i c f ≡ behind_front o a p i' c' f
same_front o a p i c i' c' f same also = ap (λ (z : ℤ). behind_front o a p z c f) (sym same) ∙ ap (λ (z : ℤ). behind_front o a p i' z f) (sym also)
