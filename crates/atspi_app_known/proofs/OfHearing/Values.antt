-- Values that are no pair: there is none, the first is no text, or the second is none; a struct of other fields, or of more.
use Rattle.std.proofs.Common.{◌≡◌, ℕ, Bool, true, false, List, [], ◌∷◌, ◌++◌, Option, Some, None, refl, sym, ap, ◌∙◌, append_assoc}
use Rattle.std.specs.Prelude.{IsTrue}
use Rattle.std.proofs.lemmas.List.{append-nil}
use Rattle.atspi_types.specs.Kinds.{text}
use Rattle.atspi_types.specs.Data.{Data, text_data, structure_data, array_data, Items, item, no_items, items_of, type_of}
use Rattle.atspi_marshal_in_place.specs.codes.Codes.{is_structure, is_array}
use Rattle.atspi_protocol.specs.exporting.Hearing.{pair_in, pair_of, pairs_in, and_pair, all_pairs}

-- what a signal begins with
pub none_first : (all : List Data) → all ≡ [] → pair_in all ≡ None
none_first all e = ap pair_in e

no_name : (d : Data) (rest : List Data) → (type_of d ≡ text → ⊥) → pair_in (d ∷ rest) ≡ None
no_name (text_data cs) rest other = absurd (other refl)
no_name _ rest other = refl

no_pattern : (cs : List ℕ) (d : Data) (rest : List Data) → (type_of d ≡ text → ⊥) → pair_in (text_data cs ∷ d ∷ rest) ≡ None
no_pattern cs (text_data ds) rest other = absurd (other refl)
no_pattern cs _ rest other = refl

pub wrong_name : (all rest : List Data) (d : Data) → all ≡ d ∷ rest → (type_of d ≡ text → ⊥) → pair_in all ≡ None
wrong_name all rest d e other = ap pair_in e ∙ no_name d rest other

pub none_second : (all rest : List Data) (d : Data) (cs : List ℕ) → all ≡ d ∷ rest → d ≡ text_data cs → rest ≡ [] → pair_in all ≡ None
none_second all rest d cs e is none = ap pair_in (e ∙ ap (λ (x : Data). x ∷ rest) is ∙ ap (λ (l : List Data). text_data cs ∷ l) none)

pub wrong_pattern : (all rest more : List Data) (d x : Data) (cs : List ℕ) → all ≡ d ∷ rest → d ≡ text_data cs → rest ≡ x ∷ more → (type_of x ≡ text → ⊥) → pair_in all ≡ None
wrong_pattern all rest more d x cs e is next other =
    ap pair_in (e ∙ ap (λ (y : Data). y ∷ rest) is ∙ ap (λ (l : List Data). text_data cs ∷ l) next) ∙ no_pattern cs x more other

-- fields of a struct
pub no_structure : (d : Data) → (IsTrue (is_structure (type_of d)) → ⊥) → pair_of d ≡ None
no_structure (structure_data fs) other = absurd (other refl)
no_structure _ other = refl

none_in : pair_of (structure_data (items_of [])) ≡ None
none_in = refl

no_name_in : (d : Data) (rest : List Data) → (type_of d ≡ text → ⊥) → pair_of (structure_data (items_of (d ∷ rest))) ≡ None
no_name_in (text_data cs) rest other = absurd (other refl)
no_name_in _ rest other = refl

no_pattern_in : (cs : List ℕ) (d : Data) (rest : List Data) → (type_of d ≡ text → ⊥) → pair_of (structure_data (items_of (text_data cs ∷ d ∷ rest))) ≡ None
no_pattern_in cs (text_data ds) rest other = absurd (other refl)
no_pattern_in cs _ rest other = refl

module _ (d : Data) (all : List Data) (is : d ≡ structure_data (items_of all)) where
  abbrev of : List Data → Option (List ℕ × List ℕ)
  of ds = pair_of (structure_data (items_of ds))

  pub field_none : all ≡ [] → pair_of d ≡ None
  field_none e = ap pair_of is ∙ ap of e

  pub field_wrong : (rest : List Data) (x : Data) → all ≡ x ∷ rest → (type_of x ≡ text → ⊥) → pair_of d ≡ None
  field_wrong rest x e other = ap pair_of is ∙ ap of e ∙ no_name_in x rest other

  pub second_none : (rest : List Data) (x : Data) (cs : List ℕ) → all ≡ x ∷ rest → x ≡ text_data cs → rest ≡ [] → pair_of d ≡ None
  second_none rest x cs e named none = ap pair_of is ∙ ap of (e ∙ ap (λ (y : Data). y ∷ rest) named ∙ ap (λ (l : List Data). text_data cs ∷ l) none)

  pub second_wrong : (rest more : List Data) (x y : Data) (cs : List ℕ) → all ≡ x ∷ rest → x ≡ text_data cs → rest ≡ y ∷ more → (type_of y ≡ text → ⊥) → pair_of d ≡ None
  second_wrong rest more x y cs e named next other =
      ap pair_of is ∙ ap of (e ∙ ap (λ (z : Data). z ∷ rest) named ∙ ap (λ (l : List Data). text_data cs ∷ l) next) ∙ no_pattern_in cs y more other

  pub third : (rest more last : List Data) (x y z : Data) (cs ps : List ℕ) → all ≡ x ∷ rest → x ≡ text_data cs → rest ≡ y ∷ more → y ≡ text_data ps → more ≡ z ∷ last → pair_of d ≡ None
  third rest more last x y z cs ps e named next pattern some =
      ap pair_of is
      ∙ ap of (e ∙ ap (λ (w : Data). w ∷ rest) named ∙ ap (λ (l : List Data). text_data cs ∷ l) (next ∙ ap (λ (w : Data). w ∷ more) pattern ∙ ap (λ (l : List Data). text_data ps ∷ l) some))

-- no list of pairs: another value than an array
no_array : (d : Data) (rest : List Data) → (IsTrue (is_array (type_of d)) → ⊥) → pairs_in (d ∷ rest) ≡ None
no_array (array_data k ds) rest other = absurd (other refl)
no_array _ rest other = refl

pub wrong_list : (all rest : List Data) (d : Data) → all ≡ d ∷ rest → (IsTrue (is_array (type_of d)) → ⊥) → pairs_in all ≡ None
wrong_list all rest d e other = ap pairs_in e ∙ no_array d rest other

-- pairs that were read, and those that are still to come
abbrev Pairs : Type 0
Pairs = List (List ℕ × List ℕ)

abbrev pub behind : Pairs → Option Pairs → Option Pairs
behind front None = None
behind front (Some ps) = Some (front ++ ps)

more : (front : Pairs) (p : List ℕ × List ℕ) (o : Option Pairs) → behind front (and_pair (Some p) o) ≡ behind (front ++ p ∷ []) o
more front p None = refl
more front p (Some ps) = ap (λ (l : Pairs). Some l) (sym (append_assoc front (p ∷ []) ps))

stops : (front : Pairs) (o : Option Pairs) → behind front (and_pair None o) ≡ None
stops front None = refl
stops front (Some ps) = refl

module _ (whole : Option Pairs) (front : Pairs) (old : List Data) (so_far : whole ≡ behind front (all_pairs (items_of old))) where
  pub next_pair : (new : List Data) (d : Data) (p : List ℕ × List ℕ) → old ≡ d ∷ new → Some p ≡ pair_of d → whole ≡ behind (front ++ p ∷ []) (all_pairs (items_of new))
  next_pair new d p e is =
      so_far ∙ ap (λ (l : List Data). behind front (all_pairs (items_of l))) e ∙ ap (λ o. behind front (and_pair o (all_pairs (items_of new)))) (sym is)
      ∙ more front p (all_pairs (items_of new))

  pub no_pair : (new : List Data) (d : Data) → old ≡ d ∷ new → None ≡ pair_of d → None ≡ whole
  no_pair new d e is =
      sym (so_far ∙ ap (λ (l : List Data). behind front (all_pairs (items_of l))) e ∙ ap (λ o. behind front (and_pair o (all_pairs (items_of new)))) (sym is)
      ∙ stops front (all_pairs (items_of new)))

  pub all_read : old ≡ [] → Some front ≡ whole
  all_read e = sym (so_far ∙ ap (λ (l : List Data). behind front (all_pairs (items_of l))) e ∙ ap (λ (l : Pairs). Some l) (append-nil front))
