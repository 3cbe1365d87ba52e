-- The text of a message has no line feed.
use Rattle.std.proofs.Common.{◌≡◌, ℕ, Bool, true, false, ◌==◌, List, [], ◌∷◌, ◌++◌, Option, Some, None, IfSome, refl, arith}
use Rattle.std.specs.Prelude.{codes, if◌then◌else◌}
use Rattle.std.specs.Fmt.{decimal}
use Rattle.std.specs.Int.{w16, w32, w64, cast_signed}
use Rattle.std.specs.List.{flat_map, AllByRecursion}
use Rattle.atspi_base.specs.Digits.{hex_digits}
use Rattle.atspi_types.specs.Kinds.{Num, byte, i16, u16, i32, u32, i64, u64, double, Kind, Kinds, number, boolean, text, path, signature, array, structure, variant, dictionary, no_kinds, kind}
use Rattle.atspi_types.specs.Signatures.{number_code, type_bytes, signature_bytes}
use Rattle.atspi_types.specs.Data.{Data, number_data, boolean_data, text_data, path_data, signature_data, array_data, structure_data, dictionary_data, variant_data, Items, no_items, item, items_of, types_of, Entries, no_entries, entry}
use Rattle.atspi_types.specs.declared.fault.Order.{Order}
use Rattle.atspi_types.specs.declared.fault.Order.TheVariants.{Little, Big}
use Rattle.atspi_message.specs.Envelope.{Envelope}
use Rattle.atspi_message.specs.Rules.{HasNames}
use Rattle.atspi_script.specs.Spaced.{behind_space, in_brackets, spaced}
use Rattle.atspi_script.specs.ValueText.{boolean_text, entry_texts, number_text, value_text, value_texts}
use Rattle.atspi_script.specs.MessageText.{body_words, field_words, fields_words, header_words, message_text, order_letter, reply_text, type_word}
use Rattle.atspi_trace_texts.proofs.Lacks.{Lacks, decimal_lacks, hex_lacks, lacks_append, quotes_lack, signed_lacks, tested_no_feed}
use Rattle.atspi_trace_texts.proofs.NameLacks.{bus_name_lacks, interface_lacks, member_lacks, path_lacks, strange_feed}
use Rattle.std.specs.Prelude.{encode_utf8_all}

code_lacks : (n : Num) → Lacks 10 (number_code n ∷ [])
code_lacks byte = tested_no_feed (121 ∷ []) refl
code_lacks i16 = tested_no_feed (110 ∷ []) refl
code_lacks u16 = tested_no_feed (113 ∷ []) refl
code_lacks i32 = tested_no_feed (105 ∷ []) refl
code_lacks u32 = tested_no_feed (117 ∷ []) refl
code_lacks i64 = tested_no_feed (120 ∷ []) refl
code_lacks u64 = tested_no_feed (116 ∷ []) refl
code_lacks double = tested_no_feed (100 ∷ []) refl

mutual
  pub type_lacks : (k : Kind) → Lacks 10 (type_bytes k)
  type_lacks (number n) = code_lacks n
  type_lacks boolean = tested_no_feed (98 ∷ []) refl
  type_lacks text = tested_no_feed (115 ∷ []) refl
  type_lacks path = tested_no_feed (111 ∷ []) refl
  type_lacks signature = tested_no_feed (103 ∷ []) refl
  type_lacks (array k) = (λ e. omega (arith, e), type_lacks k)
  type_lacks (structure ks) = (λ e. omega (arith, e), lacks_append 10 (signature_bytes ks) (41 ∷ []) (signature_lacks ks) (λ e. omega (arith, e), tt))
  type_lacks variant = tested_no_feed (118 ∷ []) refl
  type_lacks (dictionary k v) = (
    λ e. omega (arith, e),
    (
      λ e. omega (arith, e),
      lacks_append 10 (type_bytes k) (type_bytes v ++ 125 ∷ []) (type_lacks k)
          (lacks_append 10 (type_bytes v) (125 ∷ []) (type_lacks v) (λ e. omega (arith, e), tt)),
    ),
  )

  pub signature_lacks : (ks : Kinds) → Lacks 10 (signature_bytes ks)
  signature_lacks no_kinds = tt
  signature_lacks (kind k ks) = lacks_append 10 (type_bytes k) (signature_bytes ks) (type_lacks k) (signature_lacks ks)

number_lacks : (m : Num) (n : ℕ) → Lacks 10 (number_text m n)
number_lacks byte n = decimal_lacks 10 n (omega arith)
number_lacks i16 n = signed_lacks 10 (cast_signed w16 n) (omega arith)
number_lacks u16 n = decimal_lacks 10 n (omega arith)
number_lacks i32 n = signed_lacks 10 (cast_signed w32 n) (omega arith)
number_lacks u32 n = decimal_lacks 10 n (omega arith)
number_lacks i64 n = signed_lacks 10 (cast_signed w64 n) (omega arith)
number_lacks u64 n = decimal_lacks 10 n (omega arith)
number_lacks double n = lacks_append 10 (codes "0x") (hex_digits 16 n) (tested_no_feed (codes "0x") refl) (hex_lacks 10 16 n (omega arith))

boolean_lacks : (b : Bool) → Lacks 10 (boolean_text b)
boolean_lacks true = tested_no_feed (codes "true") refl
boolean_lacks false = tested_no_feed (codes "false") refl

-- words with one space between any two
behind_lack : (words : List (List ℕ)) → AllByRecursion (Lacks 10) words → Lacks 10 (flat_map behind_space words)
behind_lack [] h = tt
behind_lack (word ∷ words) h = (λ e. omega (arith, e), lacks_append 10 word (flat_map behind_space words) h.0 (behind_lack words h.1))

spaced_lack : (words : List (List ℕ)) → AllByRecursion (Lacks 10) words → Lacks 10 (spaced words)
spaced_lack [] h = tt
spaced_lack (word ∷ words) h = lacks_append 10 word (flat_map behind_space words) h.0 (behind_lack words h.1)

brackets_lack : (opening closing : ℕ) (words : List (List ℕ)) → (opening ≡ 10 → ⊥) → (closing ≡ 10 → ⊥) → AllByRecursion (Lacks 10) words → Lacks 10 (in_brackets opening words closing)
brackets_lack opening closing words p q h = (p, lacks_append 10 (spaced words) (closing ∷ []) (spaced_lack words h) (q, tt))

mutual
  value_lacks : (d : Data) → Lacks 10 (value_text d)
  value_lacks (number_data m n) = number_lacks m n
  value_lacks (boolean_data b) = boolean_lacks b
  value_lacks (text_data characters) = quotes_lack (encode_utf8_all characters)
  value_lacks (path_data bytes) = quotes_lack bytes
  value_lacks (signature_data ks) = quotes_lack (signature_bytes ks)
  value_lacks (array_data k ds) = brackets_lack 91 93 (value_texts ds) (λ e. omega (arith, e)) (λ e. omega (arith, e)) (values_lack ds)
  value_lacks (structure_data ds) = brackets_lack 40 41 (value_texts ds) (λ e. omega (arith, e)) (λ e. omega (arith, e)) (values_lack ds)
  value_lacks (dictionary_data k v es) = brackets_lack 91 93 (entry_texts es) (λ e. omega (arith, e)) (λ e. omega (arith, e)) (entries_lack es)
  value_lacks (variant_data k d) =
      brackets_lack 60 62 (type_bytes k ∷ value_text d ∷ []) (λ e. omega (arith, e)) (λ e. omega (arith, e)) (type_lacks k, (value_lacks d, tt))

  values_lack : (ds : Items) → AllByRecursion (Lacks 10) (value_texts ds)
  values_lack no_items = tt
  values_lack (item d ds) = (value_lacks d, values_lack ds)

  entries_lack : (es : Entries) → AllByRecursion (Lacks 10) (entry_texts es)
  entries_lack no_entries = tt
  entries_lack (entry key value es) =
      (brackets_lack 123 125 (value_text key ∷ value_text value ∷ []) (λ e. omega (arith, e)) (λ e. omega (arith, e)) (value_lacks key, (value_lacks value, tt)), entries_lack es)

-- the words of a message
type_word_lacks : (n : ℕ) → Lacks 10 (type_word n)
type_word_lacks n = by (n == 1) (n == 2) (n == 3) (n == 4)
  where
    by : (a b c d : Bool) → Lacks 10 (if a then codes "call" else (if b then codes "return" else (if c then codes "error" else (if d then codes "signal" else codes "type-" ++ decimal n))))
    by true b c d = tested_no_feed (codes "call") refl
    by false true c d = tested_no_feed (codes "return") refl
    by false false true d = tested_no_feed (codes "error") refl
    by false false false true = tested_no_feed (codes "signal") refl
    by false false false false = lacks_append 10 (codes "type-") (decimal n) (tested_no_feed (codes "type-") refl) (decimal_lacks 10 n (omega arith))

letter_lacks : (o : Order) → Lacks 10 (order_letter o ∷ [])
letter_lacks Little = tested_no_feed (108 ∷ []) refl
letter_lacks Big = tested_no_feed (66 ∷ []) refl

field_lacks : (name : List ℕ) (value : Option (List ℕ)) → Lacks 10 name → IfSome value (Lacks 10) → AllByRecursion (Lacks 10) (field_words name value)
field_lacks name None p h = tt
field_lacks name (Some value) p h = (lacks_append 10 name (61 ∷ value) p (λ e. omega (arith, e), h), tt)

both_lack : (a b : List (List ℕ)) → AllByRecursion (Lacks 10) a → AllByRecursion (Lacks 10) b → AllByRecursion (Lacks 10) (a ++ b)
both_lack [] b p q = q
both_lack (x ∷ a) b p q = (p.0, both_lack a b p.1 q)

reply_lacks : (reply : Option ℕ) → IfSome (reply_text reply) (Lacks 10)
reply_lacks None = tt
reply_lacks (Some n) = decimal_lacks 10 n (omega arith)

held : (P : List ℕ → Type 0) (value : Option (List ℕ)) → ((bytes : List ℕ) → P bytes → Lacks 10 bytes) → IfSome value P → IfSome value (Lacks 10)
held P None h p = tt
held P (Some bytes) h p = h bytes p

fields_lack : (e : Envelope) → HasNames e → AllByRecursion (Lacks 10) (fields_words e)
fields_lack e n =
    let f1 = field_lacks (codes "path") e.path (tested_no_feed (codes "path") refl) (held _ e.path (λ b h. path_lacks 10 b strange_feed h) n.path) in
    let f2 = field_lacks (codes "interface") e.interface (tested_no_feed (codes "interface") refl) (held _ e.interface (λ b h. interface_lacks 10 b strange_feed h) n.interface) in
    let f3 = field_lacks (codes "member") e.member (tested_no_feed (codes "member") refl) (held _ e.member (λ b h. member_lacks 10 b strange_feed h) n.member) in
    let f4 = field_lacks (codes "error") e.error (tested_no_feed (codes "error") refl) (held _ e.error (λ b h. interface_lacks 10 b strange_feed h) n.error) in
    let f5 = field_lacks (codes "reply") (reply_text e.reply) (tested_no_feed (codes "reply") refl) (reply_lacks e.reply) in
    let f6 = field_lacks (codes "destination") e.destination (tested_no_feed (codes "destination") refl) (held _ e.destination (λ b h. bus_name_lacks 10 b strange_feed h) n.destination) in
    let f7 = field_lacks (codes "sender") e.sender (tested_no_feed (codes "sender") refl) (held _ e.sender (λ b h. bus_name_lacks 10 b strange_feed h) n.sender) in
    both_lack _ _ (both_lack _ _ (both_lack _ _ (both_lack _ _ (both_lack _ _ (both_lack _ _ f1 f2) f3) f4) f5) f6) f7

body_lacks : (ds : Items) → AllByRecursion (Lacks 10) (body_words ds)
body_lacks no_items = tt
body_lacks (item d ds) = (
  lacks_append 10 (codes "signature=") (signature_bytes (types_of (item d ds))) (tested_no_feed (codes "signature=") refl) (signature_lacks (types_of (item d ds))),
  (brackets_lack 91 93 (value_texts (item d ds)) (λ e. omega (arith, e)) (λ e. omega (arith, e)) (values_lack (item d ds)), tt),
)

pub message_lacks : (e : Envelope) → HasNames e → Lacks 10 (message_text e)
message_lacks e n =
    spaced_lack (header_words e ++ body_words (items_of e.body)) (
      type_word_lacks e.kind,
      (
        letter_lacks e.order,
        (
          decimal_lacks 10 e.flags (omega arith),
          (
            decimal_lacks 10 e.serial (omega arith),
            both_lack (fields_words e) (body_words (items_of e.body)) (fields_lack e n) (body_lacks (items_of e.body)),
          ),
        ),
      ),
    )
