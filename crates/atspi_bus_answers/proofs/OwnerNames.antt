-- Who owns the name that a text is.
use Rattle.std.proofs.Common.{◌≡◌, ℕ, Bool, true, false, cond, not, ◌&&◌, List, [], ◌∷◌, Option, None, Some, is_some, map, refl, sym, ap, ◌∙◌, subst, chars, IsUtf8}
use Rattle.std.specs.Prelude.{bytes_eq, encode_utf8_all}
use Rattle.std.specs.Option.{option_map}
use Rattle.std.proofs.lemmas.Slice.Eq.{bytes_eq-Decides}
use Rattle.std.proofs.lemmas.Str.{encodes-chars}
use Rattle.atspi_types.specs.Data.{Data, text_data}
use Rattle.atspi_types.specs.DataView.{data_of}
use Rattle.atspi_types.specs.declared.value.Value.{Value}
use Rattle.atspi_base.specs.valid_names.Names.{IsBusName, is_bus_name, is_unique_name}
use Rattle.atspi_base.proofs.OfValidNames.NameLemmas.{is_bus_name-from_IsBusName}
use Rattle.atspi_names.specs.Owners.{Owners, list_of, own_name}
use Rattle.atspi_names.specs.Queue.{owner_in}
use Rattle.atspi_match.specs.routing.BusState.{name_or_empty}
use Rattle.atspi_match.specs.routing.Answers.{may_be_asked_for, owner_name, has_owner, queued_names}
use Rattle.atspi_bus_answers.specs.Answered.{AreNamed}
use Rattle.atspi_bus_answers.proofs.NameTexts.{name-chars, same_name}
use Rattle.atspi_bus_answers.proofs.Literals.{own-chars, own-encodes}

and_false : (b : Bool) → (b && false) ≡ false
and_false true = refl
and_false false = refl

is_refl : (bs : List ℕ) → bytes_eq bs bs ≡ true
is_refl bs = (bytes_eq-Decides bs bs).1 refl

-- the bus's own name
own_text : (text : List ℕ) → bytes_eq text own_name ≡ true → chars text ≡ own_name
own_text text e = ap chars ((bytes_eq-Decides text own_name).0 e) ∙ own-chars

pub is-own : (text : List ℕ) → bytes_eq text own_name ≡ true → bytes_eq (chars text) own_name ≡ true
is-own text e = (bytes_eq-Decides (chars text) own_name).1 (own_text text e)

pub is-not_own : (text : List ℕ) → chars text ≡ text → bytes_eq text own_name ≡ false → bytes_eq (chars text) own_name ≡ false
is-not_own text same e = ap (λ t. bytes_eq t own_name) same ∙ e

pub owner-own : (owners : Owners) (text : List ℕ) → bytes_eq text own_name ≡ true → owner_name owners (chars text) ≡ Some own_name
owner-own owners text e = let own = is-own text e in rw own refl

-- a text that is no bus name
no_name : (text : List ℕ) → IsUtf8 text → is_bus_name text ≡ false → is_bus_name (chars text) ≡ false
no_name text utf8 e = same_name text utf8 ∙ e

own_is_name : (text : List ℕ) → IsUtf8 text → bytes_eq text own_name ≡ false → bytes_eq (chars text) own_name ≡ false
own_is_name text utf8 e = by (bytes_eq (chars text) own_name) refl
  where
    by : (b : Bool) → bytes_eq (chars text) own_name ≡ b → b ≡ false
    by true is =
        let same : text ≡ own_name = sym (encodes-chars text utf8) ∙ ap encode_utf8_all ((bytes_eq-Decides (chars text) own_name).0 is) ∙ own-encodes in
        sym ((bytes_eq-Decides text own_name).1 same) ∙ e
    by false is = refl

pub owner-no_name : (owners : Owners) (text : List ℕ) → AreNamed owners.lists → IsUtf8 text → is_bus_name text ≡ false → bytes_eq text own_name ≡ false → owner_name owners (chars text) ≡ None
owner-no_name owners text named utf8 e own =
    let not_own = own_is_name text utf8 own in
    let nobody = named (chars text) (no_name text utf8 e) in
    rw (not_own, nobody) refl

-- a bus name
pub owner-nobody : (owners : Owners) (text : List ℕ) → IsBusName text → bytes_eq text own_name ≡ false → owner_in (list_of owners.lists text) ≡ None → owner_name owners (chars text) ≡ None
owner-nobody owners text name own nobody = ap (owner_name owners) (name-chars text name) ∙ rw (own, nobody) refl

pub owner-somebody : (owners : Owners) (text : List ℕ) (conn : ℕ) → IsBusName text → bytes_eq text own_name ≡ false → owner_in (list_of owners.lists text) ≡ Some conn
    → owner_name owners (chars text) ≡ Some (name_or_empty owners (Some conn))
owner-somebody owners text conn name own somebody = ap (owner_name owners) (name-chars text name) ∙ rw (own, somebody) refl

-- names that connections may ask for
pub asked-no_name : (text : List ℕ) → IsUtf8 text → is_bus_name text ≡ false → may_be_asked_for (chars text) ≡ false
asked-no_name text utf8 e = ap (λ b. b && (not (is_unique_name (chars text)) && not (bytes_eq (chars text) own_name))) (no_name text utf8 e)

pub asked-unique : (text : List ℕ) → IsBusName text → is_unique_name text ≡ true → may_be_asked_for (chars text) ≡ false
asked-unique text name e =
    ap may_be_asked_for (name-chars text name) ∙ ap (λ b. is_bus_name text && (not b && not (bytes_eq text own_name))) e ∙ and_false (is_bus_name text)

pub asked-own : (text : List ℕ) → bytes_eq text own_name ≡ true → may_be_asked_for (chars text) ≡ false
asked-own text e =
    ap (λ b. is_bus_name (chars text) && (not (is_unique_name (chars text)) && not b)) (is-own text e)
    ∙ ap (λ b. is_bus_name (chars text) && b) (and_false (not (is_unique_name (chars text)))) ∙ and_false (is_bus_name (chars text))

pub asked-yes : (text : List ℕ) → IsBusName text → is_unique_name text ≡ false → bytes_eq text own_name ≡ false → may_be_asked_for (chars text) ≡ true
asked-yes text name unique own =
    ap may_be_asked_for (name-chars text name)
    ∙ ap (λ b. b && (not (is_unique_name text) && not (bytes_eq text own_name))) (is_bus_name-from_IsBusName text name)
    ∙ ap (λ b. not b && not (bytes_eq text own_name)) unique ∙ ap not own

-- whether a text came out where a name did
pub has-owner : (o : Option Value) (name : Option (List ℕ)) → option_map data_of o ≡ option_map text_data name → is_some o ≡ has_owner name
has-owner None None e = refl
has-owner None (Some n) e = absurd cc
has-owner (Some v) None e = absurd cc
has-owner (Some v) (Some n) e = refl

-- those who own a name or wait for it
pub queued-own : (owners : Owners) (text : List ℕ) → bytes_eq text own_name ≡ true → queued_names owners (chars text) ≡ own_name ∷ []
queued-own owners text e = let own = is-own text e in rw own refl

pub queued-no_name : (owners : Owners) (text : List ℕ) → AreNamed owners.lists → IsUtf8 text → is_bus_name text ≡ false → bytes_eq text own_name ≡ false → queued_names owners (chars text) ≡ []
queued-no_name owners text named utf8 e own =
    let not_own = own_is_name text utf8 own in
    let nobody = named (chars text) (no_name text utf8 e) in
    rw (not_own, nobody) refl

pub queued-named : (owners : Owners) (text : List ℕ) → IsBusName text → bytes_eq text own_name ≡ false
    → queued_names owners (chars text) ≡ map (λ (e : ℕ × ℕ). name_or_empty owners (Some e.0)) (list_of owners.lists text)
queued-named owners text name own = ap (queued_names owners) (name-chars text name) ∙ rw own refl
