-- Which faults an item has, rule by rule, and which of them is told. The rules are those of the D-Bus Specification,
-- "Marshaling (Wire Format)"; the numbers of the reasons, and what is looked at where two rules meet, are the
-- profile's.
use Rattle.std.specs.Prelude.{◌≡◌, ◌≢◌, ℕ, zero, suc, ◌+◌, ◌-◌, ◌<◌, ◌≤◌, List, [], ◌∷◌, length, Result, Ok, Err}
use Rattle.std.specs.Int.{w32}
use Rattle.std.specs.Int.{byte_len}
use Rattle.std.specs.Str.Lossy.{utf8_valid_len}
use Rattle.atspi_base.specs.valid_names.Names.{IsPath}
use Rattle.atspi_types.specs.Kinds.{Num, width, Kind, number, boolean, text, path, signature, array, structure, variant}
use Rattle.atspi_types.specs.Kinds.{dictionary, Kinds, no_kinds, kind, types_in, alignment}
use Rattle.atspi_types.specs.Data.{Data, Items}
use Rattle.atspi_types.specs.Signatures.{signature_bytes, IsSignature}
use Rattle.atspi_types.specs.SignatureFaults.{WrongSignature, Before}
use Rattle.atspi_types.specs.declared.fault.ReadFault.{ReadFault}
use Rattle.atspi_types.specs.declared.fault.ReadFault.TheVariants as faults
use Rattle.atspi_marshal.specs.declared.input.Bound.{Bound}
use Rattle.atspi_marshal.specs.Input.{Input, Stands, number_in, byte_in, slice_in, aligned}
use Rattle.atspi_marshal.specs.Spelling.{spelling, spellings, single, Fits, AllFit}

-- an entry of a dictionary is marshaled as a struct of its key and its value
abbrev pub entry_kind : Kind → Kind → Kind
entry_kind k v = structure (kind k (kind v no_kinds))

-- an item of the kind is spelled from `at` to `next`, inside the bound
pub record IsItem (i : Input) (levels : ℕ) (k : Kind) (b : Bound) (at next : ℕ) (d : Data) : Type 0 where
  pub fits : Fits i.order levels at d k
  pub stands : Stands i at (spelling i.order at d) next
  pub within : next ≤ b.end

-- items of the kind are spelled one behind the other from `at` to `next`, inside the bound
pub record AreItems (i : Input) (levels : ℕ) (k : Kind) (b : Bound) (at next : ℕ) (ds : Items) : Type 0 where
  pub fit : AllFit i.order levels at ds k
  pub stand : Stands i at (spellings i.order at ds) next
  pub within : next ≤ b.end

-- where an item stands, behind its padding
abbrev pub place_of : Kind → ℕ → ℕ
place_of k at = aligned (alignment k) at

-- the bytes that an item begins with: of a number or a boolean all, else its length; of a struct none
abbrev pub front_len : Kind → ℕ
front_len (number n) = byte_len (width n)
front_len boolean = 4
front_len text = 4
front_len path = 4
front_len signature = 1
front_len (array k) = 4
front_len (structure ks) = 0
front_len variant = 1
front_len (dictionary k v) = 4

-- where the elements of an array at p end that has n bytes of them, and that what passes this end has reason 18
abbrev pub inside : Kind → ℕ → ℕ → Bound
inside k p n = record { end = aligned (alignment k) (p + 4) + n; reason = 18 }

-- where an item at p ends by its own length. Of a variant this is the end of its signature.
abbrev pub end_of : Input → Kind → ℕ → ℕ
end_of i (number n) p = p + byte_len (width n)
end_of i boolean p = p + 4
end_of i text p = p + 5 + number_in i w32 p
end_of i path p = p + 5 + number_in i w32 p
end_of i signature p = p + 2 + byte_in i p
end_of i (array k) p = (inside k p (number_in i w32 p)).end
end_of i (structure ks) p = p
end_of i variant p = p + 2 + byte_in i p
end_of i (dictionary k v) p = (inside (entry_kind k v) p (number_in i w32 p)).end

-- an item's padding and the bytes that it begins with are inside the bound
abbrev pub HasFront : Input → Kind → Bound → ℕ → Type 0
HasFront i k b at = place_of k at + front_len k ≤ b.end

-- so is the end that it claims
abbrev pub IsInside : Input → Kind → Bound → ℕ → Type 0
IsInside i k b at = HasFront i k b at × (end_of i k (place_of k at) ≤ b.end)

abbrev pub IsContainer : Kind → Type 0
IsContainer (number n) = ⊥
IsContainer boolean = ⊥
IsContainer text = ⊥
IsContainer path = ⊥
IsContainer signature = ⊥
IsContainer (array k) = Unit {0}
IsContainer (structure ks) = Unit {0}
IsContainer variant = Unit {0}
IsContainer (dictionary k v) = Unit {0}

-- what follows a length of 32 bits at p, and one of 8
abbrev pub long_in : Input → ℕ → List ℕ
long_in i p = slice_in i (p + 4) (number_in i w32 p)

abbrev pub short_in : Input → ℕ → List ℕ
short_in i p = slice_in i (p + 1) (byte_in i p)

-- an array is at most 64 MiB long, and inside the bound; where it ends
abbrev pub ArrayFits : Input → Kind → Bound → ℕ → Type 0
ArrayFits i k b at = IsInside i (array k) b at × (number_in i w32 (place_of (array k) at) ≤ 67108864)

abbrev pub inside_of : Input → Kind → ℕ → Bound
inside_of i k at = inside k (place_of (array k) at) (number_in i w32 (place_of (array k) at))

mutual
  -- Wrong i levels k b at place reason: in an item of kind k at `at`, with so many levels of containers to come at
  -- most, something is wrong at the place, for the reason. An inner item is looked at where those before it are
  -- spelled, and where the item round it is inside the bound.
  pub data Wrong (i : Input) : ℕ → Kind → Bound → ℕ → ℕ → ℕ → Type 0 where
    -- 10: a padding byte that stands inside the end is not 0 ("Marshaling": padding is zero)
    -- 18, 19: the padding passes the end, told at its first byte
    padding_not_zero : (levels : ℕ) (k : Kind) (b : Bound) (at q : ℕ) → at ≤ q → q < place_of k at → q < b.end
        → byte_in i q ≢ 0 → Wrong i levels k b at q 10
    padding_passes : (levels : ℕ) (k : Kind) (b : Bound) (at : ℕ) → b.end < place_of k at
        → Wrong i levels k b at at b.reason
    -- 18, 19: an item passes the end, by what it begins with or by its own length
    -- 20: a container is too deep ("Valid Signatures": 64 containers in one another in all)
    front_passes : (levels : ℕ) (k : Kind) (b : Bound) (at : ℕ) → place_of k at ≤ b.end
        → b.end < place_of k at + front_len k → Wrong i levels k b at (place_of k at) b.reason
    end_passes : (levels : ℕ) (k : Kind) (b : Bound) (at : ℕ) → HasFront i k b at → b.end < end_of i k (place_of k at)
        → Wrong i levels k b at (place_of k at) b.reason
    too_deep : (k : Kind) (b : Bound) (at : ℕ) → IsContainer k → place_of k at ≤ b.end
        → Wrong i 0 k b at (place_of k at) 20
    -- 11: a boolean is neither 0 nor 1 ("Summary of D-Bus marshaling": BOOLEAN)
    not_boolean : (levels : ℕ) (b : Bound) (at : ℕ) → HasFront i boolean b at
        → 1 < number_in i w32 (place_of boolean at) → Wrong i levels boolean b at (place_of boolean at) 11
    -- 13, 14: a zero byte in a text; bytes that are not UTF-8 (STRING). 15: a path outside its rule ("Valid Object
    -- Paths"), as a whole. 12: the byte behind a text or path is not 0
    zero_in_text : (levels : ℕ) (b : Bound) (at q : ℕ) → IsInside i text b at → place_of text at + 4 ≤ q
        → q < place_of text at + 4 + number_in i w32 (place_of text at) → byte_in i q ≡ 0
        → Wrong i levels text b at q 13
    not_utf8 : (levels : ℕ) (b : Bound) (at : ℕ) → IsInside i text b at
        → utf8_valid_len (long_in i (place_of text at)) < number_in i w32 (place_of text at)
        → Wrong i levels text b at (place_of text at + 4 + utf8_valid_len (long_in i (place_of text at))) 14
    not_path : (levels : ℕ) (b : Bound) (at : ℕ) → IsInside i path b at → (IsPath (long_in i (place_of path at)) → ⊥)
        → Wrong i levels path b at (place_of path at) 15
    text_not_ended : (levels : ℕ) (b : Bound) (at : ℕ) → IsInside i text b at
        → byte_in i (place_of text at + 4 + number_in i w32 (place_of text at)) ≢ 0
        → Wrong i levels text b at (place_of text at + 4 + number_in i w32 (place_of text at)) 12
    path_not_ended : (levels : ℕ) (b : Bound) (at : ℕ) → IsInside i path b at
        → byte_in i (place_of path at + 4 + number_in i w32 (place_of path at)) ≢ 0
        → Wrong i levels path b at (place_of path at + 4 + number_in i w32 (place_of path at)) 12
    -- 2 to 9: what is wrong with the bytes of a signature ("Type System"). 12: the byte behind it is not 0 (SIGNATURE).
    -- 16: that of a variant is not one type (VARIANT)
    bad_signature : (levels : ℕ) (b : Bound) (at place reason : ℕ) → IsInside i signature b at
        → WrongSignature (short_in i at) place reason → Wrong i levels signature b at (at + 1 + place) reason
    signature_not_ended : (levels : ℕ) (b : Bound) (at : ℕ) → IsInside i signature b at
        → byte_in i (at + 1 + byte_in i at) ≢ 0 → Wrong i levels signature b at (at + 1 + byte_in i at) 12
    bad_variant : (levels : ℕ) (b : Bound) (at place reason : ℕ) → IsInside i variant b at
        → WrongSignature (short_in i at) place reason → Wrong i levels variant b at (at + 1 + place) reason
    variant_not_ended : (levels : ℕ) (b : Bound) (at : ℕ) → IsInside i variant b at
        → byte_in i (at + 1 + byte_in i at) ≢ 0 → Wrong i levels variant b at (at + 1 + byte_in i at) 12
    not_one_type : (levels : ℕ) (b : Bound) (at : ℕ) (ks : Kinds) → IsInside i variant b at
        → short_in i at ≡ signature_bytes ks → IsSignature ks → length (types_in ks) ≢ 1
        → Wrong i levels variant b at at 16
    in_variant : (levels : ℕ) (k : Kind) (b : Bound) (at place reason : ℕ) → IsInside i variant b at
        → short_in i at ≡ signature_bytes (single k) → IsSignature (single k) → byte_in i (at + 1 + byte_in i at) ≡ 0
        → Wrong i (levels - 1) k b (at + 2 + byte_in i at) place reason → Wrong i levels variant b at place reason
    -- 17: an array above 64 MiB (ARRAY). 10: the padding up to its first element. What is wrong with the first element
    -- that is not spelled. A dictionary is an array of entries (DICT_ENTRY)
    array_too_long : (levels : ℕ) (k : Kind) (b : Bound) (at : ℕ) → HasFront i (array k) b at
        → 67108864 < number_in i w32 (place_of (array k) at) → Wrong i levels (array k) b at (place_of (array k) at) 17
    array_padding : (levels : ℕ) (k : Kind) (b : Bound) (at q : ℕ) → ArrayFits i k b at → place_of (array k) at + 4 ≤ q
        → q < aligned (alignment k) (place_of (array k) at + 4) → byte_in i q ≢ 0 → Wrong i levels (array k) b at q 10
    in_element : (levels : ℕ) (k : Kind) (b : Bound) (at next place reason : ℕ) (ds : Items) → ArrayFits i k b at
        → AreItems i (levels - 1) k (inside_of i k at) (aligned (alignment k) (place_of (array k) at + 4)) next ds
        → next < (inside_of i k at).end
        → Wrong i (levels - 1) k (inside_of i k at) next place reason → Wrong i levels (array k) b at place reason
    in_dictionary : (levels : ℕ) (k v : Kind) (b : Bound) (at place reason : ℕ)
        → Wrong i levels (array (entry_kind k v)) b at place reason → Wrong i levels (dictionary k v) b at place reason
    -- what is wrong with the first field that is not spelled (STRUCT)
    in_field : (levels : ℕ) (ks : Kinds) (b : Bound) (at place reason : ℕ) → place_of (structure ks) at ≤ b.end
        → WrongField i (levels - 1) ks b (place_of (structure ks) at) place reason
        → Wrong i levels (structure ks) b at place reason

  -- the same of fields
  pub data WrongField (i : Input) : ℕ → Kinds → Bound → ℕ → ℕ → ℕ → Type 0 where
    this_field : (levels : ℕ) (k : Kind) (ks : Kinds) (b : Bound) (at place reason : ℕ)
        → Wrong i levels k b at place reason → WrongField i levels (kind k ks) b at place reason
    later_field : (levels : ℕ) (k : Kind) (ks : Kinds) (b : Bound) (at next place reason : ℕ) (d : Data)
        → IsItem i levels k b at next d → WrongField i levels ks b next place reason
        → WrongField i levels (kind k ks) b at place reason

-- the fault that is told: it is there, and no other comes before it
pub record FaultAt (i : Input) (levels : ℕ) (k : Kind) (b : Bound) (at place reason : ℕ) : Type 0 where
  pub there : Wrong i levels k b at place reason
  pub first : (q s : ℕ) → Wrong i levels k b at q s → Before place reason q s

-- a fault that is told is such a one
abbrev pub TellsFault : {X : Type 0} → Result X ReadFault → (ℕ → ℕ → Type 0) → Type 0
TellsFault (Ok x) P = Unit {0}
TellsFault (Err faults.NoMemory) P = Unit {0}
TellsFault (Err (faults.Bad f)) P = P f.place f.reason
