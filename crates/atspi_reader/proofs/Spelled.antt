-- Names by their bytes and by their characters.
use Rattle.std.proofs.Common.{◌≡◌, ℕ, Bool, true, false, cond, not, List, [], ◌∷◌, filter, Option, Some, None, refl, sym, ap, ◌∙◌, chars, IsUtf8}
use Rattle.std.specs.Prelude.{◌&&◌, bytes_eq, if◌then◌else◌}
use Rattle.std.specs.List.{list_all}
use Rattle.std.proofs.lemmas.Bool.{and_parts}
use Rattle.std.proofs.lemmas.List.{append-nil}
use Rattle.std.proofs.lemmas.Slice.Eq.{bytes_eq-Decides}
use Rattle.atspi_base.specs.valid_names.Names.{is_bus_name, is_unique_name}
use Rattle.atspi_protocol.specs.following.ReaderState.{Followed, tells_end, is_named}
use Rattle.atspi_protocol.specs.following.Known.{unasked, end_of_connection, closing_of, closings}
use Rattle.atspi_protocol.specs.following.Takes.{found_in}
use Rattle.atspi_reader.specs.Steps.{Fine}
use Rattle.atspi_reader.specs.inner.Turns.{app_in}
use Rattle.atspi_reader.proofs.Changed.{only_found, only_none, nobody_found}
use Rattle.atspi_reader_told.proofs.Texts.{name_chars, same_name}

-- a bus name is equal to a text's characters where it is equal to its bytes
chars_eq : (n t : List ℕ) → is_bus_name n ≡ true → IsUtf8 t → bytes_eq n (chars t) ≡ bytes_eq n t
chars_eq n t name utf8 = by (bytes_eq n (chars t)) refl (bytes_eq n t) refl
  where
    by : (a : Bool) → bytes_eq n (chars t) ≡ a → (b : Bool) → bytes_eq n t ≡ b → a ≡ b
    by true p true q = refl
    by false p false q = refl
    by true p false q =
        let same : n ≡ chars t = (bytes_eq-Decides n (chars t)).0 p in
        let bus : is_bus_name t ≡ true = sym (same_name t utf8) ∙ ap is_bus_name (sym same) ∙ name in
        let both : bytes_eq n t ≡ true = (bytes_eq-Decides n t).1 (same ∙ name_chars t bus) in
        cc
    by false p true q =
        let same : n ≡ t = (bytes_eq-Decides n t).0 q in
        let both : bytes_eq n (chars t) ≡ true = (bytes_eq-Decides n (chars t)).1 (same ∙ sym (name_chars t (ap is_bus_name (sym same) ∙ name))) in
        cc

module _ (t : List ℕ) (utf8 : IsUtf8 t) where
  pub left_by_chars : (apps : List Followed) → list_all (λ (app : Followed). is_bus_name app.name) apps ≡ true
      → filter (λ app. not (is_named (chars t) app)) apps ≡ filter (λ app. not (is_named t app)) apps
  left_by_chars [] e = refl
  left_by_chars (a ∷ apps) e =
      let both = and_parts (is_bus_name a.name) (list_all (λ (app : Followed). is_bus_name app.name) apps) e in
      ap (λ (b : Bool). cond (not b) (a ∷ filter (λ app. not (is_named (chars t) app)) apps) (filter (λ app. not (is_named (chars t) app)) apps)) (chars_eq a.name t both.0 utf8)
      ∙ ap (λ (l : List Followed). cond (not (is_named t a)) (a ∷ l) l) (left_by_chars apps both.1)

  pub named_by_chars : (apps : List Followed) → list_all (λ (app : Followed). is_bus_name app.name) apps ≡ true
      → filter (is_named (chars t)) apps ≡ filter (is_named t) apps
  named_by_chars [] e = refl
  named_by_chars (a ∷ apps) e =
      let both = and_parts (is_bus_name a.name) (list_all (λ (app : Followed). is_bus_name app.name) apps) e in
      ap (λ (b : Bool). cond b (a ∷ filter (is_named (chars t)) apps) (filter (is_named (chars t)) apps)) (chars_eq a.name t both.0 utf8)
      ∙ ap (λ (l : List Followed). cond (is_named t a) (a ∷ l) l) (named_by_chars apps both.1)

  -- whether an end is told
  pub ended_name : is_bus_name t ≡ true → (if is_unique_name t then tells_end t ∷ [] else []) ≡ end_of_connection (chars t)
  ended_name e =
      sym (ap (λ (n : List ℕ). if is_bus_name n && is_unique_name n then tells_end n ∷ [] else []) (name_chars t e)
      ∙ ap (λ (b : Bool). if b && is_unique_name t then tells_end t ∷ [] else []) e)

  pub ended_text : is_bus_name t ≡ false → end_of_connection (chars t) ≡ []
  ended_text e = ap (λ (b : Bool). if b && is_unique_name (chars t) then tells_end (chars t) ∷ [] else []) (same_name t utf8 ∙ e)

  pub closings_found : (apps : List Followed) → Fine apps → (a : Followed) → found_in t apps ≡ Some a → closings (filter (is_named (chars t)) apps) ≡ closing_of a
  closings_found apps fine a e = ap closings (named_by_chars apps fine.named ∙ only_found t apps a fine.unique e) ∙ append-nil (closing_of a)

  pub closings_none : (apps : List Followed) → Fine apps → found_in t apps ≡ None → closings (filter (is_named (chars t)) apps) ≡ []
  closings_none apps fine e = ap closings (named_by_chars apps fine.named ∙ only_none t apps (nobody_found t apps e))

-- the application that a reference names, by the bytes of its text
module _ (bytes cs path : List ℕ) (utf8 : IsUtf8 bytes) (is : chars bytes ≡ cs) where
  pub app_named : (name : List ℕ) (app : Option Followed) → is_bus_name bytes ≡ true → name ≡ bytes
      → app ≡ (if is_unique_name name then Some (unasked (record { bus = name; path = path })) else None) → app ≡ app_in (record { bus = cs; path = path })
  app_named name app rule n a =
      let bus : is_bus_name cs ≡ true = ap is_bus_name (sym is) ∙ same_name bytes utf8 ∙ rule in
      let same : name ≡ cs = n ∙ sym (name_chars bytes rule) ∙ is in
      a ∙ ap (λ (x : List ℕ). if is_unique_name x then Some (unasked (record { bus = x; path = path })) else None) same
      ∙ sym (ap (λ (b : Bool). if b && is_unique_name cs then Some (unasked (record { bus = cs; path = path })) else None) bus)

  pub no_app : is_bus_name bytes ≡ false → None ≡ app_in (record { bus = cs; path = path })
  no_app rule =
      sym (ap (λ (b : Bool). if b && is_unique_name cs then Some (unasked (record { bus = cs; path = path })) else None) (ap is_bus_name (sym is) ∙ same_name bytes utf8 ∙ rule))
