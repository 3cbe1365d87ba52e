-- How the words of a line are written in a trace.
use Rattle.std.specs.Prelude.{ℕ, List, [], ◌∷◌, ◌++◌, codes, slice_get, unwrap_or}
use Rattle.std.specs.Fmt.{decimal}
use Rattle.std.specs.List.{flat_map}
use Rattle.atspi_base.specs.Quoted.{quoted}
use Rattle.atspi_tables.specs.Roles.{role_words}
use Rattle.atspi_tables.specs.States.{state_names}
use Rattle.atspi_script_lines.specs.declared.line.Party.{Party}
use Rattle.atspi_script_lines.specs.declared.line.Party.TheVariants.{Bus, Registry, App, Reader}
use Rattle.atspi_script_lines.specs.Words.{Word, literal, number, place, quota, app_name, reader_name, party_name}
use Rattle.atspi_script_lines.specs.Words.{role_name, state_name, quote}

-- a party: `bus`, `reg`, and `a` or `r` with its number
abbrev pub party_text : Party → List ℕ
party_text Bus = codes "bus"
party_text Registry = codes "reg"
party_text (App a) = 97 ∷ decimal a
party_text (Reader r) = 114 ∷ decimal r

-- a role by its word, one that has none by its number
abbrev pub role_text : ℕ → List ℕ
role_text role = unwrap_or (slice_get role_words role) (decimal role)

-- a state by its name, one that has none by its number
abbrev pub state_text : ℕ → List ℕ
state_text state = unwrap_or (slice_get state_names state) (decimal state)

-- each word of a line
abbrev pub word_text : Word → List ℕ
word_text (literal word) = word
word_text (number n) = decimal n
word_text (place n) = decimal n
word_text (quota n) = decimal n
word_text (app_name a) = 97 ∷ decimal a
word_text (reader_name r) = 114 ∷ decimal r
word_text (party_name who) = party_text who
word_text (role_name role) = role_text role
word_text (state_name state) = state_text state
word_text (quote text) = quoted text

-- a word behind a space
abbrev pub word_behind : Word → List ℕ
word_behind word = 32 ∷ word_text word

-- words, each behind a space
abbrev pub words_behind : List Word → List ℕ
words_behind words = flat_map word_behind words

-- words with one space between any two
abbrev pub words_text : List Word → List ℕ
words_text [] = []
words_text (word ∷ words) = word_text word ++ words_behind words
