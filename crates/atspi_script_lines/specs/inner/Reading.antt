-- What the parts of reading a line answer.
use Rattle.std.specs.Prelude.{◌≡◌, ◌≢◌, ℕ, ◌<◌, ◌≤◌, Bool, true, false, List, [], ◌∷◌, ◌++◌, length, drop, slice_index}
use Rattle.std.specs.Prelude.{Option, None, Some, Result, Ok, Err, MatchOption, encode_utf8_all, is_some}
use Rattle.atspi_base.specs.Quoted.{escaped}
use Rattle.atspi_base.specs.declared.outside.NoMemory.{NoMemory}
use Rattle.atspi_tree_model.specs.declared.step.Seed.{Seed}
use Rattle.atspi_tree_model.specs.declared.edit.Edit.{Edit}
use Rattle.atspi_tree_model.specs.declared.edit.Edit.TheVariants.{Insert, Name, Describe, Put, Keys}
use Rattle.atspi_tree_model.specs.Edits.{IsEdit}
use Rattle.atspi_base.specs.declared.text.Text.{Text}
use Rattle.atspi_tree_model.specs.declared.limits.TheConstants.{ACTION_LIMIT}
use Rattle.atspi_script_lines.specs.declared.deed.Deed.{Deed}
use Rattle.atspi_script_lines.specs.declared.inserts.Contents.{Contents}
use Rattle.atspi_script_lines.specs.declared.line.Line.{Line}
use Rattle.atspi_script_lines.specs.declared.line.Line.TheVariants.{Blank, App, Call, Edit as EditLine}
use Rattle.atspi_script_lines.specs.Words.{Word, literal, role_name, quote, IsText, Leads, SpellsWords}
use Rattle.atspi_script_lines.specs.Forms.{clauses, edit_form, deed_form, line_form, text_clause, columns_clause}
use Rattle.atspi_script_lines.specs.Forms.{select_clause, action_clauses}

-- what was looked for is found, or it is not there
abbrev pub Finds : {T : Type 0} → (T → Type 0) → Option T → Type 0
Finds {T} Is found = MatchOption found ((t : T) → Is t → ⊥) Is

-- the same where memory may be wanted
abbrev pub Reads : {T : Type 0} → (T → Type 0) → Result (Option T) NoMemory → Type 0
Reads Is (Ok found) = Finds Is found
Reads Is (Err e) = Unit {0}

-- no byte is a space
abbrev pub HasNoSpace : List ℕ → Type 0
HasNoSpace [] = Unit {0}
HasNoSpace (b ∷ bytes) = (b ≢ 32) × HasNoSpace bytes

-- a word that may be a number: it has no sign, and no zero before other digits
pub record IsTidy (word : List ℕ) : Type 0 where
  pub some : 0 < length word
  pub unsigned : slice_index word 0 ≢ 43
  pub no_zeros : slice_index word 0 ≡ 48 → length word ≡ 1

-- the bytes begin with a byte as it stands between quotes, which takes so many
pub record StartsEscaped (bytes : List ℕ) (byte len : ℕ) : Type 0 where
  pub front : bytes ≡ escaped byte ++ drop len bytes
  pub some : 0 < len
  pub within : len ≤ length bytes

-- the text of these bytes
abbrev pub IsTextOf : List ℕ → List ℕ → Type 0
IsTextOf raw text = IsText text × (encode_utf8_all text ≡ raw)

-- the bytes are these words, each behind a space, and the rest
abbrev pub LeadAll : List Word → List ℕ → List ℕ → Type 0
LeadAll [] rest bytes = bytes ≡ rest
LeadAll (word ∷ words) rest bytes = (mid : List ℕ) × Leads word mid bytes × LeadAll words rest mid

-- these bytes are a clause that says this, in the form that it has for each, and the rest, whatever clauses follow
pub record IsClause {V A : Type 0} (clause : V → List Word) (after : A → List Word) (said : V) (rest bytes : List ℕ)
    : Type 0 where
  pub sound : (words : List Word) → SpellsWords words rest → SpellsWords (clause said ++ words) bytes
  pub complete : (other : V) (a : A) → SpellsWords (clause other ++ after a) bytes
      → (other ≡ said) × SpellsWords (after a) rest

-- the clauses behind `columns K`, behind the text, and all
abbrev pub select_clauses : Bool × List (List ℕ) → List Word
select_clauses said = select_clause said.0 ++ action_clauses said.1

abbrev pub column_clauses : Option ℕ × Bool × List (List ℕ) → List Word
column_clauses said = columns_clause said.0 ++ (select_clause said.1 ++ action_clauses said.2)

-- the clause of a text and whether it can be edited
abbrev pub text_clause_of : Option (Text × Bool) → List Word
text_clause_of None = []
text_clause_of (Some said) = text_clause (Some said.0) said.1

-- the clauses of these contents, of no more actions than a node has
pub record IsContents (bytes : List ℕ) (contents : Contents) : Type 0 where
  pub few : length contents.actions ≤ ACTION_LIMIT
  pub spelled
      : SpellsWords
      (text_clause_of contents.text ++ column_clauses (contents.columns, contents.select, contents.actions)) bytes

-- a seed's text with whether it can be edited
abbrev pub text_said : Option (List ℕ) → Bool → Option (Text × Bool)
text_said None editable = None
text_said (Some text) editable = Some (text, editable)

-- a seed with this role, name and contents
pub record IsSeedWith (role : ℕ) (name : List ℕ) (contents : Contents) (seed : Seed) : Type 0 where
  pub has_role : seed.role ≡ role
  pub has_name : seed.name ≡ name
  pub has_text : text_said seed.text seed.editable ≡ contents.text
  pub with_text : seed.editable ≡ true → is_some seed.text ≡ true
  pub has_columns : seed.columns ≡ contents.columns
  pub has_select : seed.select ≡ contents.select
  pub has_actions : seed.actions ≡ contents.actions

-- a seed that an insertion can have, with these words
pub record IsSeedOf (bytes : List ℕ) (seed : Seed) : Type 0 where
  pub few : length seed.actions ≤ ACTION_LIMIT
  pub with_text : seed.editable ≡ true → is_some seed.text ≡ true
  pub spelled : SpellsWords (role_name seed.role ∷ quote seed.name ∷ clauses seed) bytes

-- the word that a form begins with, and the others
abbrev pub first_word : List Word → List ℕ
first_word (literal word ∷ words) = word
first_word _ = []

abbrev pub other_words : List Word → List Word
other_words [] = []
other_words (word ∷ words) = words

-- an edit that can be asked for, with this first word and the others spelled by the bytes
pub record IsEditOf (word bytes : List ℕ) (edit : Edit) : Type 0 where
  pub asked : IsEdit edit
  pub first : first_word (edit_form edit) ≡ word
  pub others : SpellsWords (other_words (edit_form edit)) bytes

-- a deed with this first word and the others spelled by the bytes
pub record IsDeedOf (word bytes : List ℕ) (deed : Deed) : Type 0 where
  pub first : first_word (deed_form deed) ≡ word
  pub others : SpellsWords (other_words (deed_form deed)) bytes

-- a line that has words, and whose edit can be asked for
abbrev pub IsAsked : Line → Type 0
IsAsked Blank = ⊥
IsAsked (EditLine app edit) = IsEdit edit
IsAsked _ = Unit {0}

-- a line with this first word and the others spelled by the bytes
pub record IsLineOf (word bytes : List ℕ) (line : Line) : Type 0 where
  pub asked : IsAsked line
  pub first : first_word (line_form line) ≡ word
  pub others : SpellsWords (other_words (line_form line)) bytes

-- an edit of a form that has no text
abbrev pub has_no_text : Edit → Bool
has_no_text (Insert p i seed) = false
has_no_text (Name n text) = false
has_no_text (Describe n text) = false
has_no_text (Put n at text) = false
has_no_text (Keys n text) = false
has_no_text _ = true

-- a line of a form that has no text
abbrev pub is_plain : Line → Bool
is_plain (App name) = false
is_plain (EditLine app edit) = false
is_plain (Call reader app node deed) = false
is_plain _ = true
