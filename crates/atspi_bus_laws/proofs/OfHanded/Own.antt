-- The bus's own messages can be written, and all but lists of names are short.
use Rattle.std.proofs.Common.{◌≡◌, ◌⊎◌, inl, inr, ℕ, ◌+◌, ◌<◌, ◌≤◌, ◌^◌, Bool, true, false, List, [], ◌∷◌, ◌++◌, length, Option, None, Some, refl, length-append, arith}
use Rattle.std.specs.Prelude.{IfSome, map, codes, if◌then◌else◌}
use Rattle.std.specs.List.{AllByRecursion}
use Rattle.std.specs.Int.{w32}
use Rattle.atspi_types.specs.Kinds.{text, u32}
use Rattle.atspi_types.specs.Signatures.{IsSignature}
use Rattle.atspi_types.specs.Data.{Data, number_data, boolean_data, text_data, items_of, types_of, AreWellTyped, AllHaveType}
use Rattle.atspi_base.specs.valid_names.Names.{IsMember, IsBusName}
use Rattle.atspi_types.specs.declared.fault.Order.{Order}
use Rattle.atspi_marshal.specs.Input.{number_bytes}
use Rattle.atspi_marshal.specs.Spelling.{padding, spelling, spellings}
use Rattle.atspi_marshal.proofs.Places.{wide32}
use Rattle.atspi_marshal.proofs.WritingSteps.{length_padding}
use Rattle.atspi_message.specs.Envelope.{Envelope}
use Rattle.atspi_message.specs.Rules.{HasNames}
use Rattle.atspi_message.specs.Bytes.{body_place, body_bytes, rising_fields}
use Rattle.atspi_message.proofs.Lengths.{text_there, written_most}
use Rattle.atspi_names.specs.Owners.{Owners, own_name}
use Rattle.atspi_bus_laws.specs.owners.Orderly.{IsOrderly}
use Rattle.atspi_match.specs.routing.BusState.{unique_of, name_or_empty}
use Rattle.atspi_match.specs.routing.OwnMessages.{signal, return_to, error_to, name_lost, name_acquired, owner_changed, same_owner, told_of_change}
use Rattle.atspi_match.specs.routing.Answers.{texts}
use Rattle.atspi_message.specs.Sits.{AllSit}
use Rattle.atspi_message.specs.Spellable.{IsSpellable}
use Rattle.atspi_bus_laws.specs.handed.Known.{IsSerial}
use Rattle.atspi_bus_laws.specs.handed.Sizes.{IsShortOrList}
use Rattle.atspi_bus_laws.proofs.OfHanded.Lists.{all_append}
use Rattle.atspi_bus_laws.proofs.OfHanded.Names.{IsPlain, path_is, interface_is, bus_is, lost_is, acquired_is, changed_is, IsError, error_named, unique_is, plain_owner}

-- few bytes are written of values, wherever they stand
abbrev pub AreFew : List Data → Type 0
AreFew ds = (o : Order) (at : ℕ) → length (spellings o at (items_of ds)) ≤ 1024

none_few : AreFew []
none_few o at = omega arith

text_most : (o : Order) (at : ℕ) (cs : List ℕ) → IsPlain cs → length (spelling o at (text_data cs)) ≤ 263
text_most o at cs h = omega (arith, text_there o at cs, h.1)

text_few : (cs : List ℕ) → IsPlain cs → AreFew (text_data cs ∷ [])
text_few cs h o at = omega (arith, length-append (spelling o at (text_data cs)) [], text_most o at cs h)

three_few : (a b c : List ℕ) → IsPlain a → IsPlain b → IsPlain c → AreFew (text_data a ∷ (text_data b ∷ (text_data c ∷ [])))
three_few a b c h i j o at =
    let first = spelling o at (text_data a) in
    let m = at + length first in
    let second = spelling o m (text_data b) in
    let n = m + length second in
    let third = spelling o n (text_data c) in
    omega (arith, length-append first (second ++ (third ++ [])), length-append second (third ++ []), length-append third [], text_most o at a h, text_most o m b i, text_most o n c j)

number_few : (n : ℕ) → AreFew (number_data u32 n ∷ [])
number_few n o at =
    omega (arith, length-append (spelling o at (number_data u32 n)) [], length-append (padding 4 at) (number_bytes o w32 n), length_padding 4 at, wide32.long o n)

boolean_few : (b : Bool) → AreFew (boolean_data b ∷ [])
boolean_few b o at =
    omega (arith, length-append (spelling o at (boolean_data b)) [], length-append (padding 4 at) (number_bytes o w32 (if b then 1 else 0)), length_padding 4 at, wide32.long o (if b then 1 else 0))

few_body : (e : Envelope) → AreFew e.body → length (body_bytes e (rising_fields e)) ≤ 1024
unfolding body_bytes
few_body e h = h e.order (body_place e.order (rising_fields e))

-- it is from the bus, with any serial it can be written, and it is short or lists texts
pub record MaySpell (e : Envelope) : Type 0 where
  pub sender : e.sender ≡ Some own_name
  pub spells : (n : ℕ) → IsSerial n → IsSpellable (record e { serial = n })
  pub sized : (n : ℕ) → IsShortOrList (record e { serial = n })

-- a body that can be written, of few bytes or one list
pub record IsBody (ds : List Data) : Type 0 where
  pub typed : AreWellTyped (items_of ds)
  pub types : IsSignature (types_of (items_of ds))
  pub sit : AllSit (items_of ds) 64
  pub sized : AreFew ds ⊎ ((names : List (List ℕ)) × (ds ≡ texts names ∷ []))

pub no_body : IsBody []
no_body = record { typed = tt; types = record { lawful = tt; fits = record { short = omega arith; arrays = omega arith; structs = omega arith } }; sit = tt; sized = inl none_few }

pub text_body : (cs : List ℕ) → IsPlain cs → IsBody (text_data cs ∷ [])
text_body cs h = record { typed = (tt, tt); types = record { lawful = (tt, tt); fits = record { short = omega arith; arrays = omega arith; structs = omega arith } }; sit = (h.0, tt); sized = inl (text_few cs h) }

three_body : (a b c : List ℕ) → IsPlain a → IsPlain b → IsPlain c → IsBody (text_data a ∷ (text_data b ∷ (text_data c ∷ [])))
three_body a b c h i j = record {
  typed = (tt, (tt, (tt, tt)));
  types = record { lawful = (tt, (tt, (tt, tt))); fits = record { short = omega arith; arrays = omega arith; structs = omega arith } };
  sit = (h.0, (i.0, (j.0, tt)));
  sized = inl (three_few a b c h i j);
}

pub number_body : (n : ℕ) → n < 2 ^ 32 → IsBody (number_data u32 n ∷ [])
number_body n h = record { typed = (tt, tt); types = record { lawful = (tt, tt); fits = record { short = omega arith; arrays = omega arith; structs = omega arith } }; sit = (h, tt); sized = inl (number_few n) }

pub boolean_body : (b : Bool) → IsBody (boolean_data b ∷ [])
boolean_body b = record { typed = (tt, tt); types = record { lawful = (tt, tt); fits = record { short = omega arith; arrays = omega arith; structs = omega arith } }; sit = (tt, tt); sized = inl (boolean_few b) }

are_texts : (names : List (List ℕ)) → AllHaveType text (items_of (map text_data names))
are_texts [] = tt
are_texts (name ∷ names) = (refl, tt, are_texts names)

texts_sit : (names : List (List ℕ)) → AllByRecursion IsPlain names → AllSit (items_of (map text_data names)) 63
texts_sit [] h = tt
texts_sit (name ∷ names) h = (h.0.0, texts_sit names h.1)

pub texts_body : (names : List (List ℕ)) → AllByRecursion IsPlain names → IsBody (texts names ∷ [])
texts_body names h = record {
  typed = ((tt, are_texts names), tt);
  types = record { lawful = (tt, tt); fits = record { short = omega arith; arrays = omega arith; structs = omega arith } };
  sit = (texts_sit names h, tt);
  sized = inr (names, refl);
}

-- signals, returns and errors
signal_names : (member : List ℕ) (to : Option (List ℕ)) (body : List Data) (n : ℕ) → IsMember member → IfSome to IsBusName → HasNames (record (signal member to body) { serial = n })
signal_names member to body n is name = record { path = path_is; interface = interface_is; member = is; error = tt; destination = name; sender = bus_is }

spell_signal : (member : List ℕ) (to : Option (List ℕ)) (body : List Data) → IsMember member → IfSome to IsBusName → IsBody body → AreFew body → MaySpell (signal member to body)
spell_signal member to body is name b few = record {
  sender = refl;
  spells = λ n serial. record {
    meets = record {
      typed = omega arith;
      required = record {
        call = λ e. absurd (omega arith);
        return_ = λ e. absurd (omega arith);
        error = λ e. absurd (omega arith);
        signal = λ e. (refl, refl, refl);
      };
      numbered = serial.0;
      replies = tt;
      body = b.typed;
    };
    named = signal_names member to body n is name;
    kind = omega arith;
    flags = omega arith;
    serial = serial.1;
    reply = tt;
    types = b.types;
    body = b.sit;
  };
  sized = λ n. let e : Envelope = record (signal member to body) { serial = n } in inl (written_most e (signal_names member to body n is name) (omega arith) b.types.fits.short (few_body e few));
}

return_names : (caller : Option (List ℕ)) (serial : ℕ) (values : List Data) (n : ℕ) → IfSome caller IsBusName → HasNames (record (return_to caller serial values) { serial = n })
return_names caller serial values n name = record { path = tt; interface = tt; member = tt; error = tt; destination = name; sender = bus_is }

return_sized : (caller : Option (List ℕ)) (serial : ℕ) (values : List Data) (n : ℕ) → IfSome caller IsBusName → IsSignature (types_of (items_of values)) → AreFew values ⊎ ((names : List (List ℕ)) × (values ≡ texts names ∷ []))
    → IsShortOrList (record (return_to caller serial values) { serial = n })
return_sized caller serial values n name types (inl few) =
    let e : Envelope = record (return_to caller serial values) { serial = n } in
    inl (written_most e (return_names caller serial values n name) tt types.fits.short (few_body e few))
return_sized caller serial values n name types (inr list) = inr list

pub spell_return : (caller : Option (List ℕ)) (serial : ℕ) (values : List Data) → IfSome caller IsBusName → IsSerial serial → IsBody values → MaySpell (return_to caller serial values)
spell_return caller serial values name s b = record {
  sender = refl;
  spells = λ n own. record {
    meets = record {
      typed = omega arith;
      required = record {
        call = λ e. absurd (omega arith);
        return_ = λ e. refl;
        error = λ e. absurd (omega arith);
        signal = λ e. absurd (omega arith);
      };
      numbered = own.0;
      replies = s.0;
      body = b.typed;
    };
    named = return_names caller serial values n name;
    kind = omega arith;
    flags = omega arith;
    serial = own.1;
    reply = s.1;
    types = b.types;
    body = b.sit;
  };
  sized = λ n. return_sized caller serial values n name b.types b.sized;
}

error_names : (caller : Option (List ℕ)) (serial : ℕ) (name : List ℕ) (n : ℕ) → IfSome caller IsBusName → IsError name → HasNames (record (error_to caller serial name) { serial = n })
error_names caller serial name n to error = record { path = tt; interface = tt; member = tt; error = error_named name error; destination = to; sender = bus_is }

pub spell_error : (caller : Option (List ℕ)) (serial : ℕ) (name : List ℕ) → IfSome caller IsBusName → IsSerial serial → IsError name → MaySpell (error_to caller serial name)
spell_error caller serial name to s error =
    let b = text_body name error.plain in
    record {
      sender = refl;
      spells = λ n own. record {
        meets = record {
          typed = omega arith;
          required = record {
            call = λ e. absurd (omega arith);
            return_ = λ e. absurd (omega arith);
            error = λ e. (refl, refl);
            signal = λ e. absurd (omega arith);
          };
          numbered = own.0;
          replies = s.0;
          body = b.typed;
        };
        named = error_names caller serial name n to error;
        kind = omega arith;
        flags = omega arith;
        serial = own.1;
        reply = s.1;
        types = b.types;
        body = b.sit;
      };
      sized = λ n. let e : Envelope = record (error_to caller serial name) { serial = n } in inl (written_most e (error_names caller serial name n to error) tt b.types.fits.short (few_body e (text_few name error.plain)));
    }

-- the news of owners
pub spell_changed : (name before after : List ℕ) → IsPlain name → IsPlain before → IsPlain after → MaySpell (owner_changed name before after)
spell_changed name before after h i j =
    spell_signal (codes "NameOwnerChanged") None (text_data name ∷ (text_data before ∷ (text_data after ∷ []))) changed_is tt (three_body name before after h i j) (three_few name before after h i j)

spell_lost : (o : Owners) → IsOrderly o → (name : List ℕ) → IsPlain name → (c : Option ℕ) → AllByRecursion MaySpell (name_lost o name c)
spell_lost o orderly name h None = tt
spell_lost o orderly name h (Some conn) = (spell_signal (codes "NameLost") (unique_of o conn) (text_data name ∷ []) lost_is (unique_is o orderly conn) (text_body name h) (text_few name h), tt)

pub spell_acquired : (o : Owners) → IsOrderly o → (name : List ℕ) → IsPlain name → (c : Option ℕ) → AllByRecursion MaySpell (name_acquired o name c)
spell_acquired o orderly name h None = tt
spell_acquired o orderly name h (Some conn) = (spell_signal (codes "NameAcquired") (unique_of o conn) (text_data name ∷ []) acquired_is (unique_is o orderly conn) (text_body name h) (text_few name h), tt)

pub spell_change : (o : Owners) → IsOrderly o → (name : List ℕ) → IsPlain name → (before after : Option ℕ) → AllByRecursion MaySpell (told_of_change o name before after)
spell_change o orderly name h before after = by (same_owner before after)
  where
    by : (b : Bool) → AllByRecursion MaySpell (if b then [] else name_lost o name before ++ (name_acquired o name after ++ owner_changed name (name_or_empty o before) (name_or_empty o after) ∷ []))
    by true = tt
    by false =
        all_append MaySpell (name_lost o name before) (name_acquired o name after ++ owner_changed name (name_or_empty o before) (name_or_empty o after) ∷ []) (spell_lost o orderly name h before)
        (all_append MaySpell (name_acquired o name after) (owner_changed name (name_or_empty o before) (name_or_empty o after) ∷ []) (spell_acquired o orderly name h after)
        (spell_changed name (name_or_empty o before) (name_or_empty o after) h (plain_owner o orderly before) (plain_owner o orderly after), tt))
