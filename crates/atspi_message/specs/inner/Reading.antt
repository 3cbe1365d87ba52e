-- Reading a message from left to right, with the first fault that is met: a plain program on lists.
use Rattle.std.specs.Prelude.{◌≡◌, ℕ, zero, suc, ◌+◌, List, [], ◌∷◌, length, Option, Some, None, Result, Ok, Err, Bool}
use Rattle.std.specs.Prelude.{true, false, nat_lt, ◌&&◌, ◌==◌, if◌then◌else◌}
use Rattle.std.specs.Int.{w32}
use Rattle.atspi_base.specs.valid_names.Names.{is_path, is_interface, is_member, is_bus_name}
use Rattle.atspi_types.specs.Kinds.{Kind, Kinds, variant, no_kinds, kind, types_in, u32}
use Rattle.atspi_types.specs.Data.{Data, number_data, text_data, path_data, signature_data}
use Rattle.atspi_types.specs.declared.fault.Fault.{Fault}
use Rattle.atspi_types.specs.SignatureReading.{signature_in}
use Rattle.atspi_marshal.specs.declared.input.Bound.{Bound}
use Rattle.atspi_marshal.specs.Input.{Input, to_end, number_in, byte_in}
use Rattle.atspi_marshal.specs.Faults.{long_in, short_in}
use Rattle.atspi_marshal.specs.Reading.{◌>>=◌, bad, padding_at, room_at, ended, short_place, long_at, short_at}
use Rattle.atspi_marshal.specs.Reading.{signature_body_at, fields_at, read}
use Rattle.atspi_message.specs.declared.code.Code.{Code}
use Rattle.atspi_message.specs.declared.code.Code.TheVariants.{Path, Interface, Member, Error, Reply, Destination}
use Rattle.atspi_message.specs.declared.code.Code.TheVariants.{Sender, Signature, Descriptors}
use Rattle.atspi_message.specs.Envelope.{Envelope}
use Rattle.atspi_message.specs.Codes.{code_of, letter_of}
use Rattle.atspi_message.specs.Front.{order_in, input_in, type_in, serial_in, fields_end_in, body_place_in}
use Rattle.atspi_message.specs.Faults.{fields_bound}

-- the known fields that were met, each with its value
pub record Found : Type 0 where
  pub path : Option Data
  pub interface : Option Data
  pub member : Option Data
  pub error : Option Data
  pub reply : Option Data
  pub destination : Option Data
  pub sender : Option Data
  pub signature : Option Data
  pub descriptors : Option Data

abbrev pub none_found : Found
none_found =
    record {
      path = None;
      interface = None;
      member = None;
      error = None;
      reply = None;
      destination = None;
      sender = None;
      signature = None;
      descriptors = None;
    }

abbrev pub slot : Code → Found → Option Data
slot Path f = f.path
slot Interface f = f.interface
slot Member f = f.member
slot Error f = f.error
slot Reply f = f.reply
slot Destination f = f.destination
slot Sender f = f.sender
slot Signature f = f.signature
slot Descriptors f = f.descriptors

abbrev pub put : Code → Data → Found → Found
put Path d f = record f { path = Some d }
put Interface d f = record f { interface = Some d }
put Member d f = record f { member = Some d }
put Error d f = record f { error = Some d }
put Reply d f = record f { reply = Some d }
put Destination d f = record f { destination = Some d }
put Sender d f = record f { sender = Some d }
put Signature d f = record f { signature = Some d }
put Descriptors d f = record f { descriptors = Some d }

-- what there is, as a value
abbrev pub some_of : {A : Type 0} → (A → Data) → Option A → Option Data
some_of view (Some x) = Some (view x)
some_of view None = None

abbrev pub is_there : Option Data → Bool
is_there (Some d) = true
is_there None = false

-- a path or a name: its rule, what it is, and the reason outside its rule
abbrev pub is_name : Code → List ℕ → Bool
is_name Path bytes = is_path bytes
is_name Interface bytes = is_interface bytes
is_name Member bytes = is_member bytes
is_name Error bytes = is_interface bytes
is_name Reply bytes = false
is_name Destination bytes = is_bus_name bytes
is_name Sender bytes = is_bus_name bytes
is_name Signature bytes = false
is_name Descriptors bytes = false

abbrev pub name_data : Code → List ℕ → Data
name_data Path bytes = path_data bytes
name_data _ bytes = text_data bytes

abbrev pub name_reason : Code → ℕ
name_reason Path = 15
name_reason _ = 31

unfoldable pub name_body_at : Code → Input → ℕ → Result (Data × ℕ) Fault
name_body_at c i p = if is_name c (long_in i p) then ended i (p + 4 + number_in i w32 p) (name_data c (long_in i p))
    else bad p (name_reason c)

unfoldable pub name_at : Code → Input → Bound → ℕ → Result (Data × ℕ) Fault
name_at c i b at = long_at (name_body_at c i) i b at

unfoldable pub reply_at : Input → Bound → ℕ → Result (Data × ℕ) Fault
reply_at i b at = room_at i 4 4 b at >>= λ p. if number_in i w32 p == 0 then bad p 32
    else Ok (number_data u32 (number_in i w32 p), p + 4)

unfoldable pub descriptors_at : Input → Bound → ℕ → Result (Data × ℕ) Fault
descriptors_at i b at = room_at i 4 4 b at >>= λ p. if number_in i w32 p == 0
    then Ok (number_data u32 (number_in i w32 p), p + 4) else bad p 33

-- the value of a known field
abbrev pub value_at : Input → Bound → Code → ℕ → Result (Data × ℕ) Fault
value_at i b Path at = name_at Path i b at
value_at i b Interface at = name_at Interface i b at
value_at i b Member at = name_at Member i b at
value_at i b Error at = name_at Error i b at
value_at i b Reply at = reply_at i b at
value_at i b Destination at = name_at Destination i b at
value_at i b Sender at = name_at Sender i b at
value_at i b Signature at = short_at (signature_body_at i) i b at
value_at i b Descriptors at = descriptors_at i b at

-- the signature of a known field: its one byte and its end, or what is wrong with another one
abbrev pub other_type : ℕ → Result (List Kind) Fault → Result ℕ Fault
other_type p (Ok []) = bad p 16
other_type p (Ok (k ∷ [])) = bad p 29
other_type p (Ok (k ∷ j ∷ ks)) = bad p 16
other_type p (Err f) = bad (p + 1 + f.place) f.reason

unfoldable pub typed_body_at : Input → Code → ℕ → Result ℕ Fault
typed_body_at i c p =
    if byte_in i p == 1 && byte_in i (p + 1) == letter_of c
    then (if byte_in i (p + 2) == 0 then Ok (p + 3) else bad (p + 2) 12)
    else other_type p (signature_in (short_in i p))

unfoldable pub typed_at : Input → Bound → Code → ℕ → Result ℕ Fault
typed_at i b c at = short_place i b at >>= typed_body_at i c

-- a field behind those that were found
abbrev pub with_value : Code → Found → Data × ℕ → Result (Found × ℕ) Fault
with_value c found x = Ok (put c x.0 found, x.1)

abbrev pub set_at : Input → Bound → Code → ℕ → Found → Result (Found × ℕ) Fault
set_at i b c at found = value_at i b c at >>= with_value c found

abbrev pub dropped : Found → Data × ℕ → Result (Found × ℕ) Fault
dropped found x = Ok (found, x.1)

unfoldable pub known_at : Input → Bound → Found → ℕ → Code → Result (Found × ℕ) Fault
known_at i b found p c =
    if is_there (slot c found) then bad p 30
    else (typed_at i b c (p + 1) >>= λ at. value_at i b c at >>= with_value c found)

abbrev pub coded_at : Input → Bound → Found → ℕ → Option Code → Result (Found × ℕ) Fault
coded_at i b found p (Some c) = known_at i b found p c
coded_at i b found p None = read i 62 variant b (p + 1) >>= dropped found

unfoldable pub field_at : Input → Bound → Found → ℕ → Result (Found × ℕ) Fault
field_at i b found at = room_at i 8 1 b at >>= λ p. if byte_in i p == 0 then bad p 28
    else coded_at i b found p (code_of (byte_in i p))

-- the fields up to their end; each takes a byte at least, so `fuel` is as many as there can be
abbrev pub all_fields_at : Input → Bound → ℕ → Found → ℕ → Result Found Fault
all_fields_at i b zero found at = Ok found
all_fields_at i b (suc fuel) found at = if nat_lt at b.end
    then (field_at i b found at >>= λ x. all_fields_at i b fuel x.0 x.1) else Ok found

-- the values of the body, and nothing behind them
abbrev pub nothing_left : List ℕ → List Data × ℕ → Result (List Data) Fault
nothing_left bytes x = if nat_lt x.1 (length bytes) then bad x.1 21 else Ok x.0

abbrev pub some_values_at : List ℕ → List Kind → ℕ → Result (List Data) Fault
some_values_at bytes ks p = fields_at (λ j at. read (input_in bytes) 64 j (to_end bytes) at) ks p >>= nothing_left bytes

abbrev pub values_at : List ℕ → Kinds → ℕ → Result (List Data) Fault
values_at bytes no_kinds p = if nat_lt p (length bytes) then bad p 35 else Ok []
values_at bytes (kind k ks) p = some_values_at bytes (types_in (kind k ks)) p

abbrev pub signature_found : Option Data → Kinds
signature_found (Some (signature_data ks)) = ks
signature_found _ = no_kinds

unfoldable pub rest_at : List ℕ → Found → Result (List Data) Fault
rest_at bytes found =
    padding_at (input_in bytes) 8 (to_end bytes) (fields_end_in bytes) >>= values_at bytes
    (signature_found found.signature)

-- whether the fields that the type of message requires are there
abbrev pub has_required : ℕ → Found → Bool
has_required type found =
    if type == 1 then is_there found.path && is_there found.member
    else if type == 2 then is_there found.reply
    else if type == 3 then is_there found.error && is_there found.reply
    else if type == 4 then is_there found.path && (is_there found.interface && is_there found.member)
    else true

-- a required field is missing at p; a lesser reason at the same place comes before that
abbrev pub missing_at : ℕ → Result (List Data) Fault → Result (List Data) Fault
missing_at p (Ok ds) = bad p 34
missing_at p (Err f) = if f.place == p && nat_lt f.reason 34 then Err f else bad p 34

abbrev pub with_found : Found → List Data → Result (Found × List Data) Fault
with_found found ds = Ok (found, ds)

unfoldable pub ended_at : List ℕ → Found → Result (Found × List Data) Fault
ended_at bytes found =
    (if has_required (type_in bytes) found then rest_at bytes found
    else missing_at (fields_end_in bytes) (rest_at bytes found)) >>= with_found found

-- the whole message
unfoldable pub message_at : List ℕ → Result (Found × List Data) Fault
message_at bytes =
    all_fields_at (input_in bytes) (fields_bound bytes) (fields_end_in bytes) none_found 16 >>= ended_at bytes

-- The message whose fields and values were read: the rest stands in its first bytes.
pub record Describes (e : Envelope) (bytes : List ℕ) (found : Found) (values : List Data) : Type 0 where
  pub order : e.order ≡ order_in bytes
  pub kind : e.kind ≡ type_in bytes
  pub flags : e.flags ≡ byte_in (input_in bytes) 2
  pub serial : e.serial ≡ serial_in bytes
  pub path : found.path ≡ some_of path_data e.path
  pub interface : found.interface ≡ some_of text_data e.interface
  pub member : found.member ≡ some_of text_data e.member
  pub error : found.error ≡ some_of text_data e.error
  pub reply : found.reply ≡ some_of (number_data u32) e.reply
  pub destination : found.destination ≡ some_of text_data e.destination
  pub sender : found.sender ≡ some_of text_data e.sender
  pub body : values ≡ e.body
