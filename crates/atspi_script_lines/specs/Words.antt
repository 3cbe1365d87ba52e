-- The words of a line: what each may stand for, and how it is spelled.
use Rattle.std.specs.Prelude.{◌≡◌, ◌⊎◌, ◌≤◌, ◌<◌, ◌^◌, ℕ, true, List, [], ◌∷◌, ◌++◌, length, Some, codes, slice_get}
use Rattle.std.specs.Prelude.{encode_utf8_all}
use Rattle.std.specs.Fmt.{decimal}
use Rattle.std.specs.Str.{all_scalars}
use Rattle.atspi_base.specs.Text.{HasNoZero}
use Rattle.atspi_base.specs.Quoted.{quoted}
use Rattle.atspi_tables.specs.Roles.{role_words}
use Rattle.atspi_tables.specs.States.{state_names}
use Rattle.atspi_script_lines.specs.declared.limits.TheConstants.{APP_COUNT, READER_COUNT, PLACE_LIMIT, QUOTA_LEAST}
use Rattle.atspi_script_lines.specs.declared.limits.TheConstants.{QUOTA_MOST}
use Rattle.atspi_script_lines.specs.declared.line.Party.{Party}
use Rattle.atspi_script_lines.specs.declared.line.Party.TheVariants.{Bus, Registry, App, Reader}

-- what a word of a line stands for
pub data Word : Type 0 where
  -- itself
  literal : List ℕ → Word
  -- a number of 32 bits; one of a call, of 31; a quota
  number : ℕ → Word
  place : ℕ → Word
  quota : ℕ → Word
  -- an application, a reader, an end with a link
  app_name : ℕ → Word
  reader_name : ℕ → Word
  party_name : Party → Word
  -- a role, a state
  role_name : ℕ → Word
  state_name : ℕ → Word
  -- a text
  quote : List ℕ → Word

-- characters that a text can hold: none is U+0000, and a u32 counts their bytes
pub record IsText (text : List ℕ) : Type 0 where
  pub scalars : all_scalars text ≡ true
  pub no_zero : HasNoZero (encode_utf8_all text)
  pub counted : length (encode_utf8_all text) < 2 ^ 32

-- an end with a link; the bus has none of its own
abbrev pub SpellsParty : Party → List ℕ → Type 0
SpellsParty Bus bytes = ⊥
SpellsParty Registry bytes = bytes ≡ codes "reg"
SpellsParty (App a) bytes = (a < APP_COUNT) × (bytes ≡ 97 ∷ decimal a)
SpellsParty (Reader r) bytes = (r < READER_COUNT) × (bytes ≡ 114 ∷ decimal r)

-- a role by its word, or as a number
abbrev pub SpellsRole : ℕ → List ℕ → Type 0
SpellsRole role bytes = (slice_get role_words role ≡ Some bytes) ⊎ ((role < 2 ^ 32) × (bytes ≡ decimal role))

-- how each word is spelled
abbrev pub SpellsWord : Word → List ℕ → Type 0
SpellsWord (literal word) bytes = bytes ≡ word
SpellsWord (number n) bytes = (n < 2 ^ 32) × (bytes ≡ decimal n)
SpellsWord (place n) bytes = (n ≤ PLACE_LIMIT) × (bytes ≡ decimal n)
SpellsWord (quota n) bytes = (QUOTA_LEAST ≤ n) × (n ≤ QUOTA_MOST) × (bytes ≡ decimal n)
SpellsWord (app_name a) bytes = (a < APP_COUNT) × (bytes ≡ 97 ∷ decimal a)
SpellsWord (reader_name r) bytes = (r < READER_COUNT) × (bytes ≡ 114 ∷ decimal r)
SpellsWord (party_name who) bytes = SpellsParty who bytes
SpellsWord (role_name role) bytes = SpellsRole role bytes
SpellsWord (state_name state) bytes = slice_get state_names state ≡ Some bytes
SpellsWord (quote text) bytes = IsText text × (bytes ≡ quoted text)

-- nothing, or a space and what follows it
abbrev pub IsBehind : List ℕ → Type 0
IsBehind [] = Unit {0}
IsBehind (b ∷ bytes) = b ≡ 32

-- the bytes are a space, this word, and the rest
pub record Leads (word : Word) (rest bytes : List ℕ) : Type 0 where
  pub spelling : List ℕ
  pub spelled : SpellsWord word spelling
  pub front : bytes ≡ 32 ∷ (spelling ++ rest)
  pub behind : IsBehind rest

-- the bytes are these words, each behind a space
abbrev pub SpellsWords : List Word → List ℕ → Type 0
SpellsWords [] bytes = bytes ≡ []
SpellsWords (word ∷ words) bytes = (rest : List ℕ) × Leads word rest bytes × SpellsWords words rest
