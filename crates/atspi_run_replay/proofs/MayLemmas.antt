-- A line that bytes spell may be done.
use Rattle.std.proofs.Common.{◌≡◌, ◌≤◌, ◌/◌, ◌%◌, ℕ, Bool, true, false, List, [], ◌∷◌, length, ap, arith, encode_utf8_all, flat_map, length-append, if◌then◌else◌}
use Rattle.std.proofs.lemmas.Str.{length-le-encodes}
use Rattle.atspi_base.specs.Quoted.{escaped, hex_digit, is_control, is_marked, quoted}
use Rattle.atspi_script_lines.specs.declared.deed.Deed.{Deed}
use Rattle.atspi_script_lines.specs.declared.deed.Deed.TheVariants.{SetCaret, InsertText, DeleteText, SetText, SelectChild, DeselectChild, SelectAll, ClearSelection, DoAction}
use Rattle.atspi_script_lines.specs.declared.line.Line.{Line}
use Rattle.atspi_script_lines.specs.declared.line.Line.TheVariants.{Blank, Quota, App, Reader as ReaderLine, Edit, Call, Swap, Exit, Leave, Bytes, Turns, Drain, Show}
use Rattle.atspi_script_lines.specs.declared.line.Party.{Party}
use Rattle.atspi_script_lines.specs.declared.line.Party.TheVariants.{Bus, Registry, App as AppParty, Reader}
use Rattle.atspi_script_lines.specs.Words.{Word, quote, Leads, SpellsParty, SpellsWords}
use Rattle.atspi_script_lines.specs.Forms.{deed_form}
use Rattle.atspi_script_lines.specs.Line.{Spells}
use Rattle.atspi_world.specs.MayAct.{MayAct}

-- between quotes a text is no shorter
some_escaped : (marked control : Bool) (b high low : ℕ) → 1 ≤ length (if marked then 92 ∷ b ∷ [] else (if control then 92 ∷ 120 ∷ high ∷ low ∷ [] else b ∷ []))
some_escaped true control b high low = omega arith
some_escaped false true b high low = omega arith
some_escaped false false b high low = omega arith

all_escaped : (bytes : List ℕ) → length bytes ≤ length (flat_map escaped bytes)
all_escaped [] = omega arith
all_escaped (b ∷ bytes) =
    let one : 1 ≤ length (escaped b) = some_escaped (is_marked b) (is_control b) b (hex_digit (b / 16)) (hex_digit (b % 16)) in
    omega (arith, one, all_escaped bytes, length-append (escaped b) (flat_map escaped bytes))

quoted_longer : (text : List ℕ) → length text ≤ length (quoted text)
quoted_longer text =
    let bytes = encode_utf8_all text in
    omega (arith, length-le-encodes text, all_escaped bytes, length-append (flat_map escaped bytes) (34 ∷ []))

-- a word and what follows it are no longer than the bytes
rest_shorter : (word : Word) (rest bytes : List ℕ) → Leads word rest bytes → length rest ≤ length bytes
rest_shorter word rest bytes l = omega (arith, ap length l.front, length-append l.spelling rest)

text_shorter : (text rest bytes : List ℕ) → Leads (quote text) rest bytes → length text ≤ length bytes
text_shorter text rest bytes l = omega (arith, quoted_longer text, ap length l.spelled.1, ap length l.front, length-append l.spelling rest)

call_may : (reader app node : ℕ) (deed : Deed) (bytes : List ℕ) → length bytes ≤ 1048576 → SpellsWords (deed_form deed) bytes → MayAct (Call reader app node deed)
call_may reader app node (SetCaret at) bytes short s = s.2.1.spelled.0
call_may reader app node (InsertText at text) bytes short s = (
  s.2.1.spelled.0,
  omega (arith, short, rest_shorter _ _ _ s.1, rest_shorter _ _ _ s.2.1, text_shorter text _ _ s.2.2.1),
)
call_may reader app node (DeleteText from to) bytes short s = (s.2.1.spelled.0, s.2.2.1.spelled.0)
call_may reader app node (SetText text) bytes short s = omega (arith, short, rest_shorter _ _ _ s.1, text_shorter text _ _ s.2.1)
call_may reader app node (SelectChild index) bytes short s = s.2.1.spelled.0
call_may reader app node (DeselectChild index) bytes short s = s.2.1.spelled.0
call_may reader app node SelectAll bytes short s = tt
call_may reader app node ClearSelection bytes short s = tt
call_may reader app node (DoAction index) bytes short s = s.2.1.spelled.0

not_bus : (who : Party) (bytes : List ℕ) → SpellsParty who bytes → who ≡ Bus → ⊥
not_bus Bus bytes s e = s
not_bus Registry bytes s e = absurd cc
not_bus (AppParty app) bytes s e = absurd cc
not_bus (Reader reader) bytes s e = absurd cc

-- of a text within the limit of a line, a call may be made
pub line_may : (line : Line) (bytes : List ℕ) → Spells line bytes → MayAct line
line_may Blank bytes s = tt
line_may (Quota quota) bytes s = (s.form.2.1.spelled.0, s.form.2.1.spelled.1)
line_may (App name) bytes s = tt
line_may ReaderLine bytes s = tt
line_may (Edit app edit) bytes s = s.form.0
line_may (Call reader app node deed) bytes s =
    let f = s.form in
    call_may reader app node deed f.2.2.2.0 (omega (arith, s.short, rest_shorter _ _ _ f.1, rest_shorter _ _ _ f.2.1, rest_shorter _ _ _ f.2.2.1, rest_shorter _ _ _ f.2.2.2.1)) f.2.2.2.2
line_may (Swap app) bytes s = tt
line_may (Exit app) bytes s = tt
line_may (Leave reader) bytes s = tt
line_may (Bytes who up count) bytes s = not_bus who _ s.form.2.1.spelled
line_may (Turns count) bytes s = tt
line_may Drain bytes s = tt
line_may (Show reader app) bytes s = tt
