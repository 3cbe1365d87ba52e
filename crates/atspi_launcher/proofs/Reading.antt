-- Arguments that are read one behind the other.
use Rattle.std.proofs.Common.{◌≡◌, ℕ, Bool, false, List, [], ◌∷◌, Option, Some, None, refl, sym, ap, ◌∙◌}
use Rattle.std.specs.Prelude.{Result, Err, encode_utf8_all, chars, IsUtf8, is_some}
use Rattle.std.proofs.lemmas.Str.{encodes-chars}
use Rattle.atspi_marshal_in_place.specs.declared.cursor.Item.{Item}
use Rattle.atspi_marshal_in_place.specs.Items.{Comes}
use Rattle.atspi_types.specs.Kinds.{Kind, boolean, text, variant}
use Rattle.atspi_types.specs.Data.{Data, boolean_data, text_data, variant_data, type_of}
use Rattle.atspi_protocol.specs.declared.ends.error.CallError.{CallError}
use Rattle.atspi_protocol.specs.declared.ends.error.CallError.TheVariants.{InvalidArgs}
use Rattle.atspi_launcher.specs.declared.ask.Ask.{Ask}
use Rattle.atspi_launcher.specs.Asked as asked
use Rattle.atspi_launcher.specs.inner.Reads.{begins_with_text, begins_with_switch}

-- a first value that is no text
no_text_first : (d : Data) (ds : List Data) → (type_of d ≡ text → ⊥) → begins_with_text (d ∷ ds) ≡ false
no_text_first (text_data cs) ds other = absurd (other refl)
no_text_first _ ds other = refl

pub no_text : (all new : List Data) (d : Data) → all ≡ d ∷ new → (type_of d ≡ text → ⊥) → begins_with_text all ≡ false
no_text all new d e other = ap begins_with_text e ∙ no_text_first d new other

-- a first value that is no variant, or one of another type
no_variant_first : (d : Data) (ds : List Data) → (type_of d ≡ variant → ⊥) → begins_with_switch (d ∷ ds) ≡ false
no_variant_first (variant_data k d) ds other = absurd (other refl)
no_variant_first _ ds other = refl

no_switch_first : (k : Kind) (d : Data) (ds : List Data) → (k ≡ boolean → ⊥) → begins_with_switch (variant_data k d ∷ ds) ≡ false
no_switch_first boolean d ds other = absurd (other refl)
no_switch_first _ d ds other = refl

pub no_variant : (all new : List Data) (d : Data) → all ≡ d ∷ new → (type_of d ≡ variant → ⊥) → begins_with_switch all ≡ false
no_variant all new d e other = ap begins_with_switch e ∙ no_variant_first d new other

pub no_switch : (all new : List Data) (d : Data) (k : Kind) (inner : Data) → all ≡ d ∷ new → d ≡ variant_data k inner → (k ≡ boolean → ⊥) → begins_with_switch all ≡ false
no_switch all new d k inner e is other = ap begins_with_switch (e ∙ ap (λ (x : Data). x ∷ new) is) ∙ no_switch_first k inner new other

pub a_switch : (all new : List Data) (d : Data) (k : Kind) (inner : Data) (on : Bool) → all ≡ d ∷ new → d ≡ variant_data k inner → k ≡ boolean → inner ≡ boolean_data on → all ≡ variant_data boolean (boolean_data on) ∷ new
a_switch all new d k inner on e is kind value =
    e ∙ ap (λ (x : Data). x ∷ new) (is ∙ ap (λ (m : Kind). variant_data m inner) kind ∙ ap (λ (x : Data). variant_data boolean x) value)

abbrev wrong : Result Ask CallError
wrong = Err InvalidArgs

-- Get
gets_1 : (ds : List Data) → begins_with_text ds ≡ false → asked.gets ds ≡ wrong
gets_1 [] h = refl
gets_1 (text_data a ∷ ds) h = absurd cc
gets_1 (_ ∷ ds) h = refl

gets_2 : (a : List ℕ) (ds : List Data) → begins_with_text ds ≡ false → asked.gets (text_data a ∷ ds) ≡ wrong
gets_2 a [] h = refl
gets_2 a (text_data b ∷ ds) h = absurd cc
gets_2 a (_ ∷ ds) h = refl

pub gets_none : (ds : List Data) → begins_with_text ds ≡ false → wrong ≡ asked.gets ds
gets_none ds h = sym (gets_1 ds h)

module _ (ds first : List Data) (a : List ℕ) (x : ds ≡ text_data a ∷ first) where
  pub gets_one : begins_with_text first ≡ false → wrong ≡ asked.gets ds
  gets_one h = sym (ap asked.gets x ∙ gets_2 a first h)

  module _ (second : List Data) (b : List ℕ) (y : first ≡ text_data b ∷ second) where
    two : ds ≡ text_data a ∷ text_data b ∷ second
    two = x ∙ ap (λ (more : List Data). text_data a ∷ more) y

    pub gets_more : (d : Data) (rest : List Data) → second ≡ d ∷ rest → wrong ≡ asked.gets ds
    gets_more d rest z = sym (ap asked.gets (two ∙ ap (λ (more : List Data). text_data a ∷ text_data b ∷ more) z))

    pub gets_two : second ≡ [] → asked.read_of (asked.property (encode_utf8_all a) (encode_utf8_all b)) ≡ asked.gets ds
    gets_two z = sym (ap asked.gets (two ∙ ap (λ (more : List Data). text_data a ∷ text_data b ∷ more) z))

-- GetAll
all_1 : (ds : List Data) → begins_with_text ds ≡ false → asked.gets_all ds ≡ wrong
all_1 [] h = refl
all_1 (text_data a ∷ ds) h = absurd cc
all_1 (_ ∷ ds) h = refl

pub all_none : (ds : List Data) → begins_with_text ds ≡ false → wrong ≡ asked.gets_all ds
all_none ds h = sym (all_1 ds h)

module _ (ds first : List Data) (a : List ℕ) (x : ds ≡ text_data a ∷ first) where
  pub all_more : (d : Data) (rest : List Data) → first ≡ d ∷ rest → wrong ≡ asked.gets_all ds
  all_more d rest z = sym (ap asked.gets_all (x ∙ ap (λ (more : List Data). text_data a ∷ more) z))

  pub all_one : first ≡ [] → asked.all_of (encode_utf8_all a) ≡ asked.gets_all ds
  all_one z = sym (ap asked.gets_all (x ∙ ap (λ (more : List Data). text_data a ∷ more) z))

-- Set
sets_1 : (ds : List Data) → begins_with_text ds ≡ false → asked.sets ds ≡ wrong
sets_1 [] h = refl
sets_1 (text_data a ∷ ds) h = absurd cc
sets_1 (_ ∷ ds) h = refl

sets_2 : (a : List ℕ) (ds : List Data) → begins_with_text ds ≡ false → asked.sets (text_data a ∷ ds) ≡ wrong
sets_2 a [] h = refl
sets_2 a (text_data b ∷ ds) h = absurd cc
sets_2 a (_ ∷ ds) h = refl

sets_3 : (a b : List ℕ) (ds : List Data) → begins_with_switch ds ≡ false → asked.sets (text_data a ∷ text_data b ∷ ds) ≡ wrong
sets_3 a b [] h = refl
sets_3 a b (variant_data boolean (boolean_data on) ∷ ds) h = absurd cc
sets_3 a b (_ ∷ ds) h = refl

pub sets_none : (ds : List Data) → begins_with_text ds ≡ false → wrong ≡ asked.sets ds
sets_none ds h = sym (sets_1 ds h)

module _ (ds first : List Data) (a : List ℕ) (x : ds ≡ text_data a ∷ first) where
  pub sets_one : begins_with_text first ≡ false → wrong ≡ asked.sets ds
  sets_one h = sym (ap asked.sets x ∙ sets_2 a first h)

  module _ (second : List Data) (b : List ℕ) (y : first ≡ text_data b ∷ second) where
    both : ds ≡ text_data a ∷ text_data b ∷ second
    both = x ∙ ap (λ (more : List Data). text_data a ∷ more) y

    pub sets_two : begins_with_switch second ≡ false → wrong ≡ asked.sets ds
    sets_two h = sym (ap asked.sets both ∙ sets_3 a b second h)

    module _ (third : List Data) (on : Bool) (z : second ≡ variant_data boolean (boolean_data on) ∷ third) where
      three : ds ≡ text_data a ∷ text_data b ∷ variant_data boolean (boolean_data on) ∷ third
      three = both ∙ ap (λ (more : List Data). text_data a ∷ text_data b ∷ more) z

      pub sets_more : (d : Data) (rest : List Data) → third ≡ d ∷ rest → wrong ≡ asked.sets ds
      sets_more d rest w =
          sym (ap asked.sets (three ∙ ap (λ (more : List Data). text_data a ∷ text_data b ∷ variant_data boolean (boolean_data on) ∷ more) w))

      pub sets_three : third ≡ [] → asked.set_of on (asked.property (encode_utf8_all a) (encode_utf8_all b)) ≡ asked.sets ds
      sets_three w =
          sym (ap asked.sets (three ∙ ap (λ (more : List Data). text_data a ∷ text_data b ∷ variant_data boolean (boolean_data on) ∷ more) w))

-- a member that takes nothing
pub more_arguments : (ask : Ask) (ds rest : List Data) (d : Data) → ds ≡ d ∷ rest → wrong ≡ asked.without_arguments ask ds
more_arguments ask ds rest d e = sym (ap (asked.without_arguments ask) e)

-- nothing came
pub nothing_left : (r : Option Item) (old new : List Data) → Comes r old new → is_some r ≡ false → old ≡ []
nothing_left None old new comes h = comes.0
nothing_left (Some x) old new comes h = absurd cc

-- texts that are lent, as bytes
pub property_as : (a b : List ℕ) → IsUtf8 a → IsUtf8 b → asked.property a b ≡ asked.property (encode_utf8_all (chars a)) (encode_utf8_all (chars b))
property_as a b u v =
    ap (λ (w : List ℕ). asked.property w b) (sym (encodes-chars a u)) ∙ ap (asked.property (encode_utf8_all (chars a))) (sym (encodes-chars b v))

pub all_as : (a : List ℕ) → IsUtf8 a → asked.all_of a ≡ asked.all_of (encode_utf8_all (chars a))
all_as a u = ap asked.all_of (sym (encodes-chars a u))
