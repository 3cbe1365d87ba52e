-- How long a message is that is written, by where its fields end.
use Rattle.std.proofs.Common.{◌≡◌, ℕ, ◌+◌, ◌-◌, ◌%◌, ◌<◌, ◌≤◌, List, [], ◌∷◌, ◌++◌, length, Option, Some, None, refl, ap, ◌∙◌, encode_utf8_all, length-append, arith}
use Rattle.std.specs.Prelude.{IfSome}
use Rattle.std.specs.Int.{w32}
use Rattle.atspi_base.specs.valid_names.Names.{IsInterface, IsMember, IsBusName}
use Rattle.atspi_types.specs.Kinds.{Kind, number, text, path, signature, u32}
use Rattle.atspi_types.specs.Data.{Data, number_data, text_data, path_data, signature_data, array_data, items_of, types_of}
use Rattle.atspi_types.specs.Signatures.{signature_bytes}
use Rattle.atspi_types.specs.declared.fault.Order.{Order}
use Rattle.atspi_marshal.specs.Input.{number_bytes, aligned}
use Rattle.atspi_marshal.specs.Spelling.{padding, counted, single, start_of, array_spelling, spelling, spellings}
use Rattle.atspi_marshal.proofs.Places.{wide32}
use Rattle.atspi_marshal.proofs.WritingSteps.{length_padding}
use Rattle.atspi_message.specs.declared.code.Code.{Code}
use Rattle.atspi_message.specs.declared.code.Code.TheVariants as codes
use Rattle.atspi_message.specs.Codes.{IsNameFor}
use Rattle.atspi_message.specs.Envelope.{Envelope}
use Rattle.atspi_message.specs.Rules.{HasNames}
use Rattle.atspi_message.specs.Bytes.{Field, field_items, field_if, signature_if, rising_fields, body_place, body_bytes, written}
use Rattle.atspi_message.specs.inner.Writing.{field_front}
use Rattle.atspi_message.specs.Length.{told}
use Rattle.atspi_message.specs.inner.Ends.{name_end, number_end, types_end}
use Rattle.atspi_message.proofs.Names.{name_spells}
use Rattle.atspi_message.proofs.FieldWriting.{length_front, field_spelled}
use Rattle.atspi_message.proofs.FieldsWriting.{spellings-append}
use Rattle.atspi_message.proofs.MessageWriting.{length_header, length_written}
use Rattle.atspi_message.proofs.Short.{if_map}

-- places as they are told
pub told_behind : (at place count : ℕ) → at ≡ told place → told (at + count) ≡ told (place + count)
told_behind at place count is = omega (arith, is)

pub told_aligned : (at place : ℕ) → at ≡ told place → told (at + (8 - at % 8) % 8) ≡ told (aligned 8 place)
told_aligned at place is = omega (arith, is)

-- four bytes behind a multiple of 8 stands a multiple of 4
pub four_behind : (at : ℕ) → aligned 4 (aligned 8 at + 4) ≡ aligned 8 at + 4
four_behind at = omega arith

-- bytes behind their count
pub counted_end : (o : Order) (at : ℕ) (bytes : List ℕ) → at + length (counted o at bytes) ≡ aligned 4 at + 5 + length bytes
counted_end o at bytes =
    let number = number_bytes o w32 (length bytes) in
    omega (arith, length_padding 4 at, length-append (padding 4 at) (number ++ (bytes ++ 0 ∷ [])), length-append number (bytes ++ 0 ∷ []), wide32.long o (length bytes), length-append bytes (0 ∷ []))

-- where fields end
abbrev fields_to : Order → ℕ → List Field → ℕ
fields_to o at fs = at + length (spellings o at (field_items fs))

none_to : (o : Order) (at : ℕ) → fields_to o at [] ≡ at
none_to o at = omega arith

then_to : (o : Order) (at m : ℕ) (fs gs : List Field) → fields_to o at fs ≡ m → fields_to o at (fs ++ gs) ≡ fields_to o m gs
then_to o at m fs gs is =
    let end = fields_to o at fs in
    let both : fields_to o at (fs ++ gs) ≡ fields_to o end gs =
    omega (arith, ap length (spellings-append o at fs gs), length-append (spellings o at (field_items fs)) (spellings o end (field_items gs))) in
    both ∙ ap (λ (n : ℕ). fields_to o n gs) is

-- of each kind of field
value_to : (o : Order) (at code letter n : ℕ) (k : Kind) (d : Data) → code < 256 → signature_bytes (single k) ≡ letter ∷ []
    → aligned 8 at + 4 + length (spelling o (aligned 8 at + 4) d) ≡ n → fields_to o at (record { code = code; kind = k; value = d } ∷ []) ≡ n
value_to o at code letter n k d lt sig is =
    omega (arith, ap length (field_spelled o at code letter k d lt sig), length-append (field_front at code letter) (spelling o (aligned 8 at + 4) d), length_front at code letter, is)

text_to : (c : Code) (o : Order) (at code : ℕ) (name : Option (List ℕ)) → code < 256 → IfSome name (IsNameFor c) → fields_to o at (field_if code text text_data name) ≡ name_end at name
text_to c o at code None lt h = none_to o at
text_to c o at code (Some name) lt h =
    value_to o at code 115 (aligned 8 at + 9 + length name) text (text_data name) lt refl
    (omega (arith, counted_end o (aligned 8 at + 4) (encode_utf8_all name), four_behind at, ap length (name_spells c name h)))

path_to : (o : Order) (at : ℕ) (name : Option (List ℕ)) → fields_to o at (field_if 1 path path_data name) ≡ name_end at name
path_to o at None = none_to o at
path_to o at (Some name) =
    value_to o at 1 111 (aligned 8 at + 9 + length name) path (path_data name) (omega arith) refl (omega (arith, counted_end o (aligned 8 at + 4) name, four_behind at))

number_to : (o : Order) (at : ℕ) (n : Option ℕ) → fields_to o at (field_if 5 (number u32) (number_data u32) n) ≡ number_end at n
number_to o at None = none_to o at
number_to o at (Some n) =
    let p = aligned 8 at + 4 in
    value_to o at 5 117 (aligned 8 at + 8) (number u32) (number_data u32 n) (omega arith) refl
    (omega (arith, length-append (padding 4 p) (number_bytes o w32 n), length_padding 4 p, wide32.long o n, four_behind at))

types_to : (o : Order) (at : ℕ) (ds : List Data) → fields_to o at (signature_if ds) ≡ types_end at ds
types_to o at [] = none_to o at
types_to o at (d ∷ ds) =
    let ks = types_of (items_of (d ∷ ds)) in
    value_to o at 8 103 (aligned 8 at + 6 + length (signature_bytes ks)) signature (signature_data ks) (omega arith) refl (omega (arith, length-append (signature_bytes ks) (0 ∷ [])))

-- where the header of a message ends
abbrev pub header_end : Envelope → ℕ
header_end e =
    types_end (name_end (name_end (number_end (name_end (name_end (name_end (name_end 16 e.path) e.interface) e.member) e.error) e.reply) e.destination) e.sender) e.body

fields_end_there : (e : Envelope) → HasNames e → fields_to e.order 16 (rising_fields e) ≡ header_end e
unfolding rising_fields
fields_end_there e h =
    let o = e.order in
    let a = name_end 16 e.path in
    let b = name_end a e.interface in
    let c = name_end b e.member in
    let d = name_end c e.error in
    let r = number_end d e.reply in
    let s = name_end r e.destination in
    let t = name_end s e.sender in
    then_to o 16 a (field_if 1 path path_data e.path) _ (path_to o 16 e.path)
    ∙ then_to o a b (field_if 2 text text_data e.interface) _ (text_to codes.Interface o a 2 e.interface (omega arith) h.interface)
    ∙ then_to o b c (field_if 3 text text_data e.member) _ (text_to codes.Member o b 3 e.member (omega arith) h.member)
    ∙ then_to o c d (field_if 4 text text_data e.error) _ (text_to codes.Error o c 4 e.error (omega arith) h.error)
    ∙ then_to o d r (field_if 5 (number u32) (number_data u32) e.reply) _ (number_to o d e.reply)
    ∙ then_to o r s (field_if 6 text text_data e.destination) _ (text_to codes.Destination o r 6 e.destination (omega arith) h.destination)
    ∙ then_to o s t (field_if 7 text text_data e.sender) (signature_if e.body) (text_to codes.Sender o s 7 e.sender (omega arith) h.sender)
    ∙ types_to o t e.body

-- the whole message
pub written_length : (e : Envelope) → HasNames e → length (written e) ≡ aligned 8 (header_end e) + length (body_bytes e (rising_fields e))
written_length e h = length_written e ∙ ap (λ (n : ℕ). aligned 8 n + length (body_bytes e (rising_fields e))) (length_header e ∙ fields_end_there e h)

-- the place of a body
pub body_even : (e : Envelope) → body_place e.order (rising_fields e) % 8 ≡ 0
unfolding body_place
body_even e = omega arith

-- an array of texts behind a multiple of 8
array_there : (o : Order) (p : ℕ) (ds : List Data) → p % 8 ≡ 0 → length (spellings o p (items_of (array_data text (items_of ds) ∷ []))) ≡ 4 + length (spellings o (p + 4) (items_of ds))
array_there o p ds even =
    let start : start_of 4 p ≡ p + 4 = omega (arith, even) in
    let elements = spellings o (start_of 4 p) (items_of ds) in
    let number = number_bytes o w32 (length elements) in
    let gap = padding 4 (aligned 4 p + 4) in
    omega (
      arith,
      even,
      length-append (array_spelling o p 4 elements) [],
      length-append (padding 4 p) (number ++ (gap ++ elements)),
      length-append number (gap ++ elements),
      length-append gap elements,
      length_padding 4 p,
      length_padding 4 (aligned 4 p + 4),
      wide32.long o (length elements),
      ap (λ (n : ℕ). length (spellings o n (items_of ds))) start,
    )

pub list_written : (e : Envelope) (ds : List Data) → HasNames e → e.body ≡ array_data text (items_of ds) ∷ [] → length (written e) ≡ aligned 8 (header_end e) + 4 + length (spellings e.order (aligned 8 (header_end e) + 4) (items_of ds))
unfolding body_bytes body_place
list_written e ds h is =
    let o = e.order in
    let p = aligned 8 (header_end e) in
    let there : body_place o (rising_fields e) ≡ p = ap (aligned 8) (fields_end_there e h) in
    let even : p % 8 ≡ 0 = omega arith in
    let body : length (body_bytes e (rising_fields e)) ≡ 4 + length (spellings o (p + 4) (items_of ds)) =
    ap (λ (n : ℕ). length (spellings o n (items_of e.body))) there ∙ ap (λ (xs : List Data). length (spellings o p (items_of xs))) is ∙ array_there o p ds even in
    written_length e h ∙ omega (arith, body)

-- the header of a message with one array of texts
pub list_types : (e : Envelope) (ds : List Data) (at : ℕ) → e.body ≡ array_data text (items_of ds) ∷ [] → types_end at e.body ≡ aligned 8 at + 8
list_types e ds at is = ap (types_end at) is ∙ omega arith

-- a text, and one more
pub text_there : (o : Order) (at : ℕ) (cs : List ℕ) → at + length (spelling o at (text_data cs)) ≡ aligned 4 at + 5 + length (encode_utf8_all cs)
text_there o at cs = counted_end o at (encode_utf8_all cs)

pub values_there : (o : Order) (at : ℕ) (ds : List Data) (d : Data) → at + length (spellings o at (items_of (ds ++ d ∷ []))) ≡ (at + length (spellings o at (items_of ds))) + length (spelling o (at + length (spellings o at (items_of ds))) d)
values_there o at [] d = let same : at + 0 ≡ at = omega arith in rw same (omega (arith, length-append (spelling o at d) []))
values_there o at (x ∷ ds) d =
    let one = spelling o at x in
    let next = at + length one in
    let rest = spellings o next (items_of ds) in
    let place : next + length rest ≡ at + length (one ++ rest) = omega (arith, length-append one rest) in
    let last : length (spelling o (next + length rest) d) ≡ length (spelling o (at + length (one ++ rest)) d) = ap (λ (n : ℕ). length (spelling o n d)) place in
    omega (arith, length-append one (spellings o next (items_of (ds ++ d ∷ []))), values_there o next ds d, length-append one rest, last)

-- a message is short whose names and types keep their limits, where its path and its body are short
name_most : (at : ℕ) (name : Option (List ℕ)) → IfSome name (λ bytes. length bytes ≤ 255) → name_end at name ≤ at + 271
name_most at None h = omega arith
name_most at (Some name) h = omega (arith, h)

number_most : (at : ℕ) (n : Option ℕ) → number_end at n ≤ at + 15
number_most at None = omega arith
number_most at (Some n) = omega arith

types_most : (at : ℕ) (ds : List Data) → length (signature_bytes (types_of (items_of ds))) ≤ 255 → types_end at ds ≤ at + 268
types_most at [] h = omega arith
types_most at (d ∷ ds) h = omega (arith, h)

pub written_most : (e : Envelope) → HasNames e → IfSome e.path (λ bytes. length bytes ≤ 255) → length (signature_bytes (types_of (items_of e.body))) ≤ 255
    → length (body_bytes e (rising_fields e)) ≤ 1024 → length (written e) ≤ 4096
written_most e h place types few =
    let a = name_end 16 e.path in
    let b = name_end a e.interface in
    let c = name_end b e.member in
    let d = name_end c e.error in
    let r = number_end d e.reply in
    let s = name_end r e.destination in
    let t = name_end s e.sender in
    omega (
      arith,
      written_length e h,
      few,
      name_most 16 e.path place,
      name_most a e.interface (if_map IsInterface _ e.interface (λ bytes i. i.short) h.interface),
      name_most b e.member (if_map IsMember _ e.member (λ bytes i. i.short) h.member),
      name_most c e.error (if_map IsInterface _ e.error (λ bytes i. i.short) h.error),
      number_most d e.reply,
      name_most r e.destination (if_map IsBusName _ e.destination (λ bytes i. i.short) h.destination),
      name_most s e.sender (if_map IsBusName _ e.sender (λ bytes i. i.short) h.sender),
      types_most t e.body types,
    )
