-- The text of a message: one line for a person or a program to read (this profile).
use Rattle.std.specs.Prelude.{ℕ, ◌==◌, List, [], ◌∷◌, ◌++◌, Option, Some, None, codes, if◌then◌else◌}
use Rattle.std.specs.Fmt.{decimal}
use Rattle.atspi_types.specs.Signatures.{signature_bytes}
use Rattle.atspi_types.specs.Data.{Items, no_items, item, items_of, types_of}
use Rattle.atspi_types.specs.declared.fault.Order.{Order}
use Rattle.atspi_types.specs.declared.fault.Order.TheVariants.{Little, Big}
use Rattle.atspi_message.specs.Envelope.{Envelope}
use Rattle.atspi_script.specs.Spaced.{spaced, in_brackets}
use Rattle.atspi_script.specs.ValueText.{value_texts}

-- the word of a message's type: of 1 to 4 its name, of any other `type-` and the number
abbrev pub type_word : ℕ → List ℕ
type_word kind =
    if kind == 1 then codes "call"
    else if kind == 2 then codes "return"
    else if kind == 3 then codes "error"
    else if kind == 4 then codes "signal"
    else codes "type-" ++ decimal kind

-- the letter of a byte order, as a message's first byte has it: `l` or `B`
abbrev pub order_letter : Order → ℕ
order_letter Little = 108
order_letter Big = 66

-- a field that is there as its name, `=` and its value as it is; of one that is not no word
abbrev pub field_words : List ℕ → Option (List ℕ) → List (List ℕ)
field_words name None = []
field_words name (Some value) = (name ++ 61 ∷ value) ∷ []

-- a label and the value behind it, or nothing
abbrev pub labelled : List ℕ → Option (List ℕ) → List ℕ
labelled label None = []
labelled label (Some value) = label ++ value

-- the serial that a message replies to
abbrev pub reply_text : Option ℕ → Option (List ℕ)
reply_text None = None
reply_text (Some serial) = Some (decimal serial)

-- where the body is not empty its signature, and its values in brackets
abbrev pub body_words : Items → List (List ℕ)
body_words no_items = []
body_words (item d ds) =
    (codes "signature=" ++ signature_bytes (types_of (item d ds))) ∷ in_brackets 91 (value_texts (item d ds)) 93 ∷ []

-- the fields of the header that are there, in the order of their codes
abbrev pub fields_words : Envelope → List (List ℕ)
fields_words e =
    field_words (codes "path") e.path
    ++ field_words (codes "interface") e.interface
    ++ field_words (codes "member") e.member
    ++ field_words (codes "error") e.error
    ++ field_words (codes "reply") (reply_text e.reply)
    ++ field_words (codes "destination") e.destination
    ++ field_words (codes "sender") e.sender

-- type, byte order, flags and serial, and the fields
abbrev pub header_words : Envelope → List (List ℕ)
header_words e = type_word e.kind ∷ (order_letter e.order ∷ []) ∷ decimal e.flags ∷ decimal e.serial ∷ fields_words e

-- the text of a message: the words of its header and of its body, with one space between any two
abbrev pub message_text : Envelope → List ℕ
message_text e = spaced (header_words e ++ body_words (items_of e.body))
