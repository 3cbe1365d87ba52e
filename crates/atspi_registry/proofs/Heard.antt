-- What the registry reads of messages that are no calls.
use Rattle.std.proofs.Common.{◌≡◌, ℕ, Bool, true, false, List, [], ◌∷◌, Option, Some, None, refl, sym, ap, ◌∙◌, subst}
use Rattle.std.specs.Prelude.{chars, IsUtf8, encode_utf8_all}
use Rattle.std.specs.Borrow.{Bor}
use Rattle.std.proofs.lemmas.Str.{encodes-chars, chars-nil}
use Rattle.atspi_types.specs.Kinds.{text}
use Rattle.atspi_types.specs.Data.{Data, text_data, type_of}
use Rattle.atspi_message.specs.Envelope.{Envelope}
use Rattle.atspi_protocol.specs.registering.Steps.{name_told, name_gone}
use Rattle.atspi_registry.specs.inner.Heard.{lent_text, is_return, is_owner_news, begins_with_text, TextComes}

-- a first value that is no text
no_text_first : (d : Data) (ds : List Data) → (type_of d ≡ text → ⊥) → begins_with_text (d ∷ ds) ≡ false
no_text_first (text_data cs) ds other = absurd (other refl)
no_text_first _ ds other = refl

pub no_text : (all new : List Data) (d : Data) → all ≡ d ∷ new → (type_of d ≡ text → ⊥) → begins_with_text all ≡ false
no_text all new d e other = ap begins_with_text e ∙ no_text_first d new other

-- the same message with other values
abbrev with_body : Envelope → List Data → Envelope
with_body e ds = record e { body = ds }

not_told : (hello : Option ℕ) (e : Envelope) (ds : List Data) → is_return hello e ≡ true → begins_with_text ds ≡ false → name_told hello (with_body e ds) ≡ None
not_told hello e [] is h = rw is refl
not_told hello e (text_data cs ∷ ds) is h = absurd cc
not_told hello e (_ ∷ ds) is h = rw is refl

is_told : (hello : Option ℕ) (e : Envelope) (cs : List ℕ) (ds : List Data) → is_return hello e ≡ true → name_told hello (with_body e (text_data cs ∷ ds)) ≡ Some cs
is_told hello e cs ds is = rw is refl

pub told : (hello : Option ℕ) (e : Envelope) (r : Option (Bor (List ℕ))) (new : List Data) → is_return hello e ≡ true → TextComes r e.body new → lent_text r ≡ name_told hello e
told hello e (Some s) new is comes = sym (ap (λ ds. name_told hello (with_body e ds)) comes ∙ is_told hello e (chars s.now) new is)
told hello e None new is comes = sym (not_told hello e e.body is comes)

pub told_by_another : (hello : Option ℕ) (e : Envelope) → is_return hello e ≡ false → None ≡ name_told hello e
told_by_another hello e is = rw is refl

-- the news of a name's owners, by what stands first, second and third
module _ (e : Envelope) (is : is_owner_news e ≡ true) where
  gone_1 : (ds : List Data) → begins_with_text ds ≡ false → name_gone (with_body e ds) ≡ None
  gone_1 [] h = rw is refl
  gone_1 (text_data cs ∷ ds) h = absurd cc
  gone_1 (_ ∷ ds) h = rw is refl

  gone_2 : (a : List ℕ) (ds : List Data) → begins_with_text ds ≡ false → name_gone (with_body e (text_data a ∷ ds)) ≡ None
  gone_2 a [] h = rw is refl
  gone_2 a (text_data cs ∷ ds) h = absurd cc
  gone_2 a (_ ∷ ds) h = rw is refl

  gone_3 : (a b : List ℕ) (ds : List Data) → begins_with_text ds ≡ false → name_gone (with_body e (text_data a ∷ text_data b ∷ ds)) ≡ None
  gone_3 a b [] h = rw is refl
  gone_3 a b (text_data cs ∷ ds) h = absurd cc
  gone_3 a b (_ ∷ ds) h = rw is refl

  gone_4 : (a b cs : List ℕ) (ds : List Data) → (cs ≡ [] → ⊥) → name_gone (with_body e (text_data a ∷ text_data b ∷ text_data cs ∷ ds)) ≡ None
  gone_4 a b [] ds h = absurd (h refl)
  gone_4 a b (c ∷ cs) ds h = rw is refl

  gone_5 : (a b : List ℕ) (d : Data) (ds : List Data) → name_gone (with_body e (text_data a ∷ text_data b ∷ text_data [] ∷ d ∷ ds)) ≡ None
  gone_5 a b d ds = rw is refl

  gone_6 : (a b : List ℕ) → name_gone (with_body e (text_data a ∷ text_data b ∷ text_data [] ∷ [])) ≡ Some a
  gone_6 a b = rw is refl

  pub no_name : begins_with_text e.body ≡ false → None ≡ name_gone e
  no_name h = sym (gone_1 e.body h)

  module _ (a : List ℕ) (first : List Data) (x : e.body ≡ text_data a ∷ first) where
    pub no_owner : begins_with_text first ≡ false → None ≡ name_gone e
    no_owner h = sym (ap (λ ds. name_gone (with_body e ds)) x ∙ gone_2 a first h)

    module _ (b : List ℕ) (second : List Data) (y : first ≡ text_data b ∷ second) where
      two : e.body ≡ text_data a ∷ text_data b ∷ second
      two = x ∙ ap (λ (ds : List Data). text_data a ∷ ds) y

      pub no_new_owner : begins_with_text second ≡ false → None ≡ name_gone e
      no_new_owner h = sym (ap (λ ds. name_gone (with_body e ds)) two ∙ gone_3 a b second h)

      module _ (cs : List ℕ) (third : List Data) (z : second ≡ text_data cs ∷ third) where
        three : e.body ≡ text_data a ∷ text_data b ∷ text_data cs ∷ third
        three = two ∙ ap (λ (ds : List Data). text_data a ∷ text_data b ∷ ds) z

        pub owned : (cs ≡ [] → ⊥) → None ≡ name_gone e
        owned h = sym (ap (λ ds. name_gone (with_body e ds)) three ∙ gone_4 a b cs third h)

        pub more_values : (d : Data) (ds : List Data) → cs ≡ [] → third ≡ d ∷ ds → None ≡ name_gone e
        more_values d ds h w =
            sym (ap (λ ds. name_gone (with_body e ds)) (three ∙ ap (λ (c : List ℕ). text_data a ∷ text_data b ∷ text_data c ∷ third) h ∙ ap (λ (ds : List Data). text_data a ∷ text_data b ∷ text_data [] ∷ ds) w) ∙ gone_5 a b d ds)

        pub gone : cs ≡ [] → third ≡ [] → Some a ≡ name_gone e
        gone h w =
            sym (ap (λ ds. name_gone (with_body e ds)) (three ∙ ap (λ (c : List ℕ). text_data a ∷ text_data b ∷ text_data c ∷ third) h ∙ ap (λ (ds : List Data). text_data a ∷ text_data b ∷ text_data [] ∷ ds) w) ∙ gone_6 a b)

pub no_news : (e : Envelope) → is_owner_news e ≡ false → None ≡ name_gone e
no_news e is = rw is refl

-- a text has a character where it has a byte
pub no_characters : (bs : List ℕ) → bs ≡ [] → chars bs ≡ []
no_characters bs e = ap chars e ∙ chars-nil

pub some_characters : (bs : List ℕ) → IsUtf8 bs → (bs ≡ [] → ⊥) → chars bs ≡ [] → ⊥
some_characters bs u h e = h (sym (encodes-chars bs u) ∙ ap encode_utf8_all e)
