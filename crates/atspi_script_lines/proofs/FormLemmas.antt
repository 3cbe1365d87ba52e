-- The forms of edits, deeds and lines: which one a first word belongs to.
use Rattle.std.proofs.Common.{◌≡◌, ℕ, ◌+◌, ◌*◌, Bool, true, not, ◌||◌, List, [], ◌∷◌, Option, None, Some, Result, Ok, Err, refl, sym, ap, subst, ◌∙◌, arith}
use Rattle.std.specs.Prelude.{codes, bytes_eq}
use Rattle.std.proofs.lemmas.Bool.{false≢true}
use Rattle.atspi_base.specs.declared.outside.NoMemory.{NoMemory}
use Rattle.atspi_tree_model.specs.declared.step.Seed.{Seed}
use Rattle.atspi_tree_model.specs.declared.edit.Edit.{Edit}
use Rattle.atspi_tree_model.specs.declared.edit.Edit.TheVariants.{Insert, Remove, Move, Name, Describe, Role, State, Focus, Put, Keys, Cut, Caret, Mark, Unmark, Select, Deselect, Press, Relate, Unrelate}
use Rattle.atspi_tree_model.specs.Edits.{IsEdit}
use Rattle.atspi_script_lines.specs.declared.deed.Deed.{Deed}
use Rattle.atspi_script_lines.specs.declared.deed.Deed.TheVariants.{SetCaret, InsertText, DeleteText, SetText, SelectChild, DeselectChild, SelectAll, ClearSelection, DoAction}
use Rattle.atspi_script_lines.specs.declared.line.Party.{Party}
use Rattle.atspi_script_lines.specs.declared.line.Line.{Line}
use Rattle.atspi_script_lines.specs.declared.line.Line.TheVariants.{Blank, Quota, App, Reader, Edit as EditLine, Call, Swap, Exit, Leave, Bytes, Turns, Drain, Show}
use Rattle.atspi_script_lines.specs.Words.{Word, literal, number, place, quota, app_name, reader_name, party_name, role_name, state_name, quote, Leads, SpellsWords}
use Rattle.atspi_script_lines.specs.Forms.{clauses, deed_form, edit_form, line_form, switch_word, way_word}
use Rattle.atspi_script_lines.specs.Line.{IsBlank, SpelledAs}
use Rattle.atspi_script_lines.specs.inner.Reading.{Finds, HasNoSpace, IsAsked, IsDeedOf, IsEditOf, IsLineOf, Reads, first_word, has_no_text, is_plain, other_words}
use Rattle.atspi_script_lines.proofs.SpaceLemmas.{tested_no_space}
use Rattle.atspi_script_lines.proofs.LeadLemmas.{lead_once, rest_of}

-- a number for each first word
abbrev code_of : List ℕ → ℕ
code_of [] = 0
code_of (b ∷ bytes) = b + 2 * code_of bytes

-- a form begins with a word that has no space
pub record HasFirst (words : List Word) : Type 0 where
  pub splits : words ≡ literal (first_word words) ∷ other_words words
  pub free : HasNoSpace (first_word words)

-- a form behind the word that was read
pub record CutForm (words : List Word) (word rest : List ℕ) : Type 0 where
  pub first : first_word words ≡ word
  pub others : SpellsWords (other_words words) rest

pub cut_form : (words : List Word) (word rest bytes : List ℕ) → HasFirst words → HasNoSpace word → Leads (literal word) rest bytes → SpellsWords words bytes → CutForm words word rest
cut_form words word rest bytes f free p s =
    let t : SpellsWords (literal (first_word words) ∷ other_words words) bytes = subst (λ ws. SpellsWords ws bytes) f.splits s in
    let same : literal word ≡ literal (first_word words) = (lead_once (literal word) (literal (first_word words)) rest t.0 bytes (free, f.free) p t.1).0 in
    let e : first_word words ≡ word = cc in
    record { first = e; others = rest_of (literal word) (literal (first_word words)) rest bytes (other_words words) (free, f.free) p t }

pub whole_form : (words : List Word) (word rest bytes : List ℕ) → HasFirst words → Leads (literal word) rest bytes → first_word words ≡ word → SpellsWords (other_words words) rest → SpellsWords words bytes
whole_form words word rest bytes f p e s =
    let t : SpellsWords (literal (first_word words) ∷ other_words words) bytes = (rest, subst (λ w. Leads (literal w) rest bytes) (sym e) p, s) in
    subst (λ ws. SpellsWords ws bytes) (sym f.splits) t

pub no_first : (words : List Word) (bytes : List ℕ) → HasFirst words → ((rest : List ℕ) → bytes ≡ 32 ∷ rest → ⊥) → SpellsWords words bytes → ⊥
no_first words bytes f none s =
    let t : SpellsWords (literal (first_word words) ∷ other_words words) bytes = subst (λ ws. SpellsWords ws bytes) f.splits s in
    none _ t.1.front

pub edit_first : (e : Edit) → HasFirst (edit_form e)
edit_first (Insert p i seed) = record { splits = refl; free = tested_no_space (codes "insert") refl }
edit_first (Remove n) = record { splits = refl; free = tested_no_space (codes "remove") refl }
edit_first (Move n p i) = record { splits = refl; free = tested_no_space (codes "move") refl }
edit_first (Name n x) = record { splits = refl; free = tested_no_space (codes "name") refl }
edit_first (Describe n x) = record { splits = refl; free = tested_no_space (codes "describe") refl }
edit_first (Role n r) = record { splits = refl; free = tested_no_space (codes "role") refl }
edit_first (State n t on) = record { splits = refl; free = tested_no_space (codes "state") refl }
edit_first (Focus n) = record { splits = refl; free = tested_no_space (codes "focus") refl }
edit_first (Put n at x) = record { splits = refl; free = tested_no_space (codes "put") refl }
edit_first (Keys n x) = record { splits = refl; free = tested_no_space (codes "type") refl }
edit_first (Cut n from to) = record { splits = refl; free = tested_no_space (codes "cut") refl }
edit_first (Caret n at) = record { splits = refl; free = tested_no_space (codes "caret") refl }
edit_first (Mark n from to) = record { splits = refl; free = tested_no_space (codes "mark") refl }
edit_first (Unmark n) = record { splits = refl; free = tested_no_space (codes "unmark") refl }
edit_first (Select n i) = record { splits = refl; free = tested_no_space (codes "select") refl }
edit_first (Deselect n i) = record { splits = refl; free = tested_no_space (codes "deselect") refl }
edit_first (Press n i) = record { splits = refl; free = tested_no_space (codes "press") refl }
edit_first (Relate n k m) = record { splits = refl; free = tested_no_space (codes "relate") refl }
edit_first (Unrelate n k m) = record { splits = refl; free = tested_no_space (codes "unrelate") refl }

pub deed_first : (d : Deed) → HasFirst (deed_form d)
deed_first (SetCaret at) = record { splits = refl; free = tested_no_space (codes "set-caret") refl }
deed_first (SelectChild i) = record { splits = refl; free = tested_no_space (codes "select-child") refl }
deed_first (DeselectChild i) = record { splits = refl; free = tested_no_space (codes "deselect-child") refl }
deed_first (DoAction i) = record { splits = refl; free = tested_no_space (codes "do-action") refl }
deed_first (DeleteText from to) = record { splits = refl; free = tested_no_space (codes "delete-text") refl }
deed_first (InsertText at x) = record { splits = refl; free = tested_no_space (codes "insert-text") refl }
deed_first (SetText x) = record { splits = refl; free = tested_no_space (codes "set-text") refl }
deed_first SelectAll = record { splits = refl; free = tested_no_space (codes "select-all") refl }
deed_first ClearSelection = record { splits = refl; free = tested_no_space (codes "clear-selection") refl }

pub line_first : (l : Line) → IsAsked l → HasFirst (line_form l)
line_first Blank k = absurd k
line_first (Quota n) k = record { splits = refl; free = tested_no_space (codes "quota") refl }
line_first (App x) k = record { splits = refl; free = tested_no_space (codes "app") refl }
line_first Reader k = record { splits = refl; free = tested_no_space (codes "reader") refl }
line_first (EditLine a e) k = record { splits = refl; free = tested_no_space (codes "edit") refl }
line_first (Call r a n d) k = record { splits = refl; free = tested_no_space (codes "call") refl }
line_first (Swap a) k = record { splits = refl; free = tested_no_space (codes "swap") refl }
line_first (Exit a) k = record { splits = refl; free = tested_no_space (codes "exit") refl }
line_first (Leave r) k = record { splits = refl; free = tested_no_space (codes "leave") refl }
line_first (Bytes who up n) k = record { splits = refl; free = tested_no_space (codes "bytes") refl }
line_first (Turns n) k = record { splits = refl; free = tested_no_space (codes "turns") refl }
line_first Drain k = record { splits = refl; free = tested_no_space (codes "drain") refl }
line_first (Show r a) k = record { splits = refl; free = tested_no_space (codes "show") refl }

-- an edit of a form whose words are not read
pub no_remove : (bytes : List ℕ) → ((t : ℕ) → SpellsWords (number t ∷ []) bytes → ⊥) → (e : Edit) → IsEditOf (codes "remove") bytes e → ⊥
no_remove bytes none (Remove n) h = none n h.others
no_remove bytes none e h = absurd (omega (arith, ap code_of h.first))

pub no_move : (bytes : List ℕ) → ((t : ℕ × ℕ × ℕ) → SpellsWords (number t.0 ∷ number t.1 ∷ number t.2 ∷ []) bytes → ⊥) → (e : Edit) → IsEditOf (codes "move") bytes e → ⊥
no_move bytes none (Move n p i) h = none (n, p, i) h.others
no_move bytes none e h = absurd (omega (arith, ap code_of h.first))

pub no_name : (bytes : List ℕ) → ((t : ℕ × List ℕ) → SpellsWords (number t.0 ∷ quote t.1 ∷ []) bytes → ⊥) → (e : Edit) → IsEditOf (codes "name") bytes e → ⊥
no_name bytes none (Name n x) h = none (n, x) h.others
no_name bytes none e h = absurd (omega (arith, ap code_of h.first))

pub no_describe : (bytes : List ℕ) → ((t : ℕ × List ℕ) → SpellsWords (number t.0 ∷ quote t.1 ∷ []) bytes → ⊥) → (e : Edit) → IsEditOf (codes "describe") bytes e → ⊥
no_describe bytes none (Describe n x) h = none (n, x) h.others
no_describe bytes none e h = absurd (omega (arith, ap code_of h.first))

pub no_focus : (bytes : List ℕ) → ((t : ℕ) → SpellsWords (number t ∷ []) bytes → ⊥) → (e : Edit) → IsEditOf (codes "focus") bytes e → ⊥
no_focus bytes none (Focus n) h = none n h.others
no_focus bytes none e h = absurd (omega (arith, ap code_of h.first))

pub no_put : (bytes : List ℕ) → ((t : ℕ × ℕ × List ℕ) → SpellsWords (number t.0 ∷ number t.1 ∷ quote t.2 ∷ []) bytes → ⊥) → (e : Edit) → IsEditOf (codes "put") bytes e → ⊥
no_put bytes none (Put n at x) h = none (n, at, x) h.others
no_put bytes none e h = absurd (omega (arith, ap code_of h.first))

pub no_type : (bytes : List ℕ) → ((t : ℕ × List ℕ) → SpellsWords (number t.0 ∷ quote t.1 ∷ []) bytes → ⊥) → (e : Edit) → IsEditOf (codes "type") bytes e → ⊥
no_type bytes none (Keys n x) h = none (n, x) h.others
no_type bytes none e h = absurd (omega (arith, ap code_of h.first))

pub no_cut : (bytes : List ℕ) → ((t : ℕ × ℕ × ℕ) → SpellsWords (number t.0 ∷ number t.1 ∷ number t.2 ∷ []) bytes → ⊥) → (e : Edit) → IsEditOf (codes "cut") bytes e → ⊥
no_cut bytes none (Cut n from to) h = none (n, from, to) h.others
no_cut bytes none e h = absurd (omega (arith, ap code_of h.first))

pub no_caret : (bytes : List ℕ) → ((t : ℕ × ℕ) → SpellsWords (number t.0 ∷ number t.1 ∷ []) bytes → ⊥) → (e : Edit) → IsEditOf (codes "caret") bytes e → ⊥
no_caret bytes none (Caret n at) h = none (n, at) h.others
no_caret bytes none e h = absurd (omega (arith, ap code_of h.first))

pub no_mark : (bytes : List ℕ) → ((t : ℕ × ℕ × ℕ) → SpellsWords (number t.0 ∷ number t.1 ∷ number t.2 ∷ []) bytes → ⊥) → (e : Edit) → IsEditOf (codes "mark") bytes e → ⊥
no_mark bytes none (Mark n from to) h = none (n, from, to) h.others
no_mark bytes none e h = absurd (omega (arith, ap code_of h.first))

pub no_unmark : (bytes : List ℕ) → ((t : ℕ) → SpellsWords (number t ∷ []) bytes → ⊥) → (e : Edit) → IsEditOf (codes "unmark") bytes e → ⊥
no_unmark bytes none (Unmark n) h = none n h.others
no_unmark bytes none e h = absurd (omega (arith, ap code_of h.first))

pub no_select : (bytes : List ℕ) → ((t : ℕ × ℕ) → SpellsWords (number t.0 ∷ number t.1 ∷ []) bytes → ⊥) → (e : Edit) → IsEditOf (codes "select") bytes e → ⊥
no_select bytes none (Select n i) h = none (n, i) h.others
no_select bytes none e h = absurd (omega (arith, ap code_of h.first))

pub no_deselect : (bytes : List ℕ) → ((t : ℕ × ℕ) → SpellsWords (number t.0 ∷ number t.1 ∷ []) bytes → ⊥) → (e : Edit) → IsEditOf (codes "deselect") bytes e → ⊥
no_deselect bytes none (Deselect n i) h = none (n, i) h.others
no_deselect bytes none e h = absurd (omega (arith, ap code_of h.first))

pub no_press : (bytes : List ℕ) → ((t : ℕ × ℕ) → SpellsWords (number t.0 ∷ number t.1 ∷ []) bytes → ⊥) → (e : Edit) → IsEditOf (codes "press") bytes e → ⊥
no_press bytes none (Press n i) h = none (n, i) h.others
no_press bytes none e h = absurd (omega (arith, ap code_of h.first))

pub no_relate : (bytes : List ℕ) → ((t : ℕ × ℕ × ℕ) → SpellsWords (number t.0 ∷ number t.1 ∷ number t.2 ∷ []) bytes → ⊥) → (e : Edit) → IsEditOf (codes "relate") bytes e → ⊥
no_relate bytes none (Relate n k m) h = none (n, k, m) h.others
no_relate bytes none e h = absurd (omega (arith, ap code_of h.first))

pub no_unrelate : (bytes : List ℕ) → ((t : ℕ × ℕ × ℕ) → SpellsWords (number t.0 ∷ number t.1 ∷ number t.2 ∷ []) bytes → ⊥) → (e : Edit) → IsEditOf (codes "unrelate") bytes e → ⊥
no_unrelate bytes none (Unrelate n k m) h = none (n, k, m) h.others
no_unrelate bytes none e h = absurd (omega (arith, ap code_of h.first))

-- what an edit of a form is
pub no_role : (bytes : List ℕ) → ((n role : ℕ) → SpellsWords (number n ∷ role_name role ∷ []) bytes → ⊥) → (e : Edit) → IsEditOf (codes "role") bytes e → ⊥
no_role bytes none (Role n role) h = none n role h.others
no_role bytes none e h = absurd (omega (arith, ap code_of h.first))

pub no_state : (bytes : List ℕ) → ((n state : ℕ) (on : Bool) → SpellsWords (number n ∷ state_name state ∷ literal (switch_word on) ∷ []) bytes → ⊥) → (e : Edit) → IsEditOf (codes "state") bytes e → ⊥
no_state bytes none (State n state on) h = none n state on h.others
no_state bytes none e h = absurd (omega (arith, ap code_of h.first))

-- a deed of a form whose words are not read
pub no_set_caret : (bytes : List ℕ) → ((t : ℕ) → SpellsWords (place t ∷ []) bytes → ⊥) → (d : Deed) → IsDeedOf (codes "set-caret") bytes d → ⊥
no_set_caret bytes none (SetCaret at) h = none at h.others
no_set_caret bytes none d h = absurd (omega (arith, ap code_of h.first))

pub no_select_child : (bytes : List ℕ) → ((t : ℕ) → SpellsWords (place t ∷ []) bytes → ⊥) → (d : Deed) → IsDeedOf (codes "select-child") bytes d → ⊥
no_select_child bytes none (SelectChild i) h = none i h.others
no_select_child bytes none d h = absurd (omega (arith, ap code_of h.first))

pub no_deselect_child : (bytes : List ℕ) → ((t : ℕ) → SpellsWords (place t ∷ []) bytes → ⊥) → (d : Deed) → IsDeedOf (codes "deselect-child") bytes d → ⊥
no_deselect_child bytes none (DeselectChild i) h = none i h.others
no_deselect_child bytes none d h = absurd (omega (arith, ap code_of h.first))

pub no_do_action : (bytes : List ℕ) → ((t : ℕ) → SpellsWords (place t ∷ []) bytes → ⊥) → (d : Deed) → IsDeedOf (codes "do-action") bytes d → ⊥
no_do_action bytes none (DoAction i) h = none i h.others
no_do_action bytes none d h = absurd (omega (arith, ap code_of h.first))

pub no_delete_text : (bytes : List ℕ) → ((t : ℕ × ℕ) → SpellsWords (place t.0 ∷ place t.1 ∷ []) bytes → ⊥) → (d : Deed) → IsDeedOf (codes "delete-text") bytes d → ⊥
no_delete_text bytes none (DeleteText from to) h = none (from, to) h.others
no_delete_text bytes none d h = absurd (omega (arith, ap code_of h.first))

pub no_insert_text : (bytes : List ℕ) → ((t : ℕ × List ℕ) → SpellsWords (place t.0 ∷ quote t.1 ∷ []) bytes → ⊥) → (d : Deed) → IsDeedOf (codes "insert-text") bytes d → ⊥
no_insert_text bytes none (InsertText at x) h = none (at, x) h.others
no_insert_text bytes none d h = absurd (omega (arith, ap code_of h.first))

pub no_set_text : (bytes : List ℕ) → ((t : List ℕ) → SpellsWords (quote t ∷ []) bytes → ⊥) → (d : Deed) → IsDeedOf (codes "set-text") bytes d → ⊥
no_set_text bytes none (SetText x) h = none x h.others
no_set_text bytes none d h = absurd (omega (arith, ap code_of h.first))

pub no_select_all : (bytes : List ℕ) → (bytes ≡ [] → ⊥) → (d : Deed) → IsDeedOf (codes "select-all") bytes d → ⊥
no_select_all bytes none SelectAll h = none h.others
no_select_all bytes none d h = absurd (omega (arith, ap code_of h.first))

pub no_clear_selection : (bytes : List ℕ) → (bytes ≡ [] → ⊥) → (d : Deed) → IsDeedOf (codes "clear-selection") bytes d → ⊥
no_clear_selection bytes none ClearSelection h = none h.others
no_clear_selection bytes none d h = absurd (omega (arith, ap code_of h.first))

-- a line of a form whose words are not read
pub no_app_line : (bytes : List ℕ) → ((x : List ℕ) → SpellsWords (quote x ∷ []) bytes → ⊥) → (l : Line) → IsLineOf (codes "app") bytes l → ⊥
no_app_line bytes none (App x) h = none x h.others
no_app_line bytes none Blank h = absurd h.asked
no_app_line bytes none l h = absurd (omega (arith, ap code_of h.first))

pub no_turns_line : (bytes : List ℕ) → ((n : ℕ) → SpellsWords (number n ∷ []) bytes → ⊥) → (l : Line) → IsLineOf (codes "turns") bytes l → ⊥
no_turns_line bytes none (Turns n) h = none n h.others
no_turns_line bytes none Blank h = absurd h.asked
no_turns_line bytes none l h = absurd (omega (arith, ap code_of h.first))

pub no_quota_line : (bytes : List ℕ) → ((n : ℕ) → SpellsWords (quota n ∷ []) bytes → ⊥) → (l : Line) → IsLineOf (codes "quota") bytes l → ⊥
no_quota_line bytes none (Quota n) h = none n h.others
no_quota_line bytes none Blank h = absurd h.asked
no_quota_line bytes none l h = absurd (omega (arith, ap code_of h.first))

pub no_swap_line : (bytes : List ℕ) → ((a : ℕ) → SpellsWords (app_name a ∷ []) bytes → ⊥) → (l : Line) → IsLineOf (codes "swap") bytes l → ⊥
no_swap_line bytes none (Swap a) h = none a h.others
no_swap_line bytes none Blank h = absurd h.asked
no_swap_line bytes none l h = absurd (omega (arith, ap code_of h.first))

pub no_exit_line : (bytes : List ℕ) → ((a : ℕ) → SpellsWords (app_name a ∷ []) bytes → ⊥) → (l : Line) → IsLineOf (codes "exit") bytes l → ⊥
no_exit_line bytes none (Exit a) h = none a h.others
no_exit_line bytes none Blank h = absurd h.asked
no_exit_line bytes none l h = absurd (omega (arith, ap code_of h.first))

pub no_leave_line : (bytes : List ℕ) → ((r : ℕ) → SpellsWords (reader_name r ∷ []) bytes → ⊥) → (l : Line) → IsLineOf (codes "leave") bytes l → ⊥
no_leave_line bytes none (Leave r) h = none r h.others
no_leave_line bytes none Blank h = absurd h.asked
no_leave_line bytes none l h = absurd (omega (arith, ap code_of h.first))

pub no_show_line : (bytes : List ℕ) → ((r a : ℕ) → SpellsWords (reader_name r ∷ app_name a ∷ []) bytes → ⊥) → (l : Line) → IsLineOf (codes "show") bytes l → ⊥
no_show_line bytes none (Show r a) h = none r a h.others
no_show_line bytes none Blank h = absurd h.asked
no_show_line bytes none l h = absurd (omega (arith, ap code_of h.first))

pub no_bytes_line : (bytes : List ℕ) → ((who : Party) (up : Bool) (n : ℕ) → SpellsWords (party_name who ∷ literal (way_word up) ∷ number n ∷ []) bytes → ⊥) → (l : Line) → IsLineOf (codes "bytes") bytes l → ⊥
no_bytes_line bytes none (Bytes who up n) h = none who up n h.others
no_bytes_line bytes none Blank h = absurd h.asked
no_bytes_line bytes none l h = absurd (omega (arith, ap code_of h.first))

pub no_edit_line : (bytes : List ℕ) → ((a : ℕ) (e : Edit) → IsEdit e → SpellsWords (app_name a ∷ edit_form e) bytes → ⊥) → (l : Line) → IsLineOf (codes "edit") bytes l → ⊥
no_edit_line bytes none (EditLine a e) h = none a e h.asked h.others
no_edit_line bytes none Blank h = absurd h.asked
no_edit_line bytes none l h = absurd (omega (arith, ap code_of h.first))

pub no_call_line : (bytes : List ℕ) → ((r a n : ℕ) (d : Deed) → SpellsWords (reader_name r ∷ app_name a ∷ place n ∷ deed_form d) bytes → ⊥) → (l : Line) → IsLineOf (codes "call") bytes l → ⊥
no_call_line bytes none (Call r a n d) h = none r a n d h.others
no_call_line bytes none Blank h = absurd h.asked
no_call_line bytes none l h = absurd (omega (arith, ap code_of h.first))

pub no_reader_line : (bytes : List ℕ) → (bytes ≡ [] → ⊥) → (l : Line) → IsLineOf (codes "reader") bytes l → ⊥
no_reader_line bytes none Reader h = none h.others
no_reader_line bytes none Blank h = absurd h.asked
no_reader_line bytes none l h = absurd (omega (arith, ap code_of h.first))

pub no_drain_line : (bytes : List ℕ) → (bytes ≡ [] → ⊥) → (l : Line) → IsLineOf (codes "drain") bytes l → ⊥
no_drain_line bytes none Drain h = none h.others
no_drain_line bytes none Blank h = absurd h.asked
no_drain_line bytes none l h = absurd (omega (arith, ap code_of h.first))

-- which first words are those of an edit without a text
abbrev pub is_plain_word : List ℕ → Bool
is_plain_word w = not (bytes_eq w (codes "insert") || (bytes_eq w (codes "name") || (bytes_eq w (codes "describe") || (bytes_eq w (codes "put") || bytes_eq w (codes "type")))))

plain_word : (e : Edit) → has_no_text e ≡ is_plain_word (first_word (edit_form e))
plain_word (Insert p i seed) = refl
plain_word (Remove n) = refl
plain_word (Move n p i) = refl
plain_word (Name n x) = refl
plain_word (Describe n x) = refl
plain_word (Role n r) = refl
plain_word (State n t on) = refl
plain_word (Focus n) = refl
plain_word (Put n at x) = refl
plain_word (Keys n x) = refl
plain_word (Cut n from to) = refl
plain_word (Caret n at) = refl
plain_word (Mark n from to) = refl
plain_word (Unmark n) = refl
plain_word (Select n i) = refl
plain_word (Deselect n i) = refl
plain_word (Press n i) = refl
plain_word (Relate n k m) = refl
plain_word (Unrelate n k m) = refl

-- an edit by its word, that was looked for by another name of it
pub plain_read : (word w bytes : List ℕ) (r : Option Edit) → word ≡ w → is_plain_word w ≡ true → Finds (IsEditOf w bytes) r → Finds (λ e. (has_no_text e ≡ true) × IsEditOf word bytes e) r
plain_read word w bytes None e t h = λ x s. h x (subst (λ u. IsEditOf u bytes x) e s.1)
plain_read word w bytes (Some x) e t h = (plain_word x ∙ ap is_plain_word h.first ∙ t, subst (λ u. IsEditOf u bytes x) (sym e) h)

pub edit_renamed : (word w bytes : List ℕ) (r : Result (Option Edit) NoMemory) → word ≡ w → Reads (IsEditOf w bytes) r → Reads (IsEditOf word bytes) r
edit_renamed word w bytes r e h = subst (λ u. Reads (IsEditOf u bytes) r) (sym e) h

pub deed_renamed : (word w bytes : List ℕ) (r : Result (Option Deed) NoMemory) → word ≡ w → Reads (IsDeedOf w bytes) r → Reads (IsDeedOf word bytes) r
deed_renamed word w bytes r e h = subst (λ u. Reads (IsDeedOf u bytes) r) (sym e) h

pub deed_found : (word w bytes : List ℕ) (r : Option Deed) → word ≡ w → Finds (IsDeedOf w bytes) r → Finds (IsDeedOf word bytes) r
deed_found word w bytes r e h = subst (λ u. Finds (IsDeedOf u bytes) r) (sym e) h

pub line_renamed : (word w bytes : List ℕ) (r : Result (Option Line) NoMemory) → word ≡ w → Reads (IsLineOf w bytes) r → Reads (IsLineOf word bytes) r
line_renamed word w bytes r e h = subst (λ u. Reads (IsLineOf u bytes) r) (sym e) h

-- a word that no edit without a text begins with
pub no_plain_edit : (word bytes : List ℕ) → (word ≡ codes "remove" → ⊥) → (word ≡ codes "focus" → ⊥) → (word ≡ codes "unmark" → ⊥) → (word ≡ codes "caret" → ⊥) → (word ≡ codes "select" → ⊥) → (word ≡ codes "deselect" → ⊥) → (word ≡ codes "press" → ⊥) → (word ≡ codes "move" → ⊥) → (word ≡ codes "cut" → ⊥) → (word ≡ codes "mark" → ⊥) → (word ≡ codes "relate" → ⊥) → (word ≡ codes "unrelate" → ⊥) → (word ≡ codes "role" → ⊥) → (word ≡ codes "state" → ⊥) → (e : Edit) → (has_no_text e ≡ true) × IsEditOf word bytes e → ⊥
no_plain_edit word bytes f0 f1 f2 f3 f4 f5 f6 f7 f8 f9 f10 f11 f12 f13 (Insert p i seed) h = absurd (false≢true h.0)
no_plain_edit word bytes f0 f1 f2 f3 f4 f5 f6 f7 f8 f9 f10 f11 f12 f13 (Remove n) h = f0 (sym h.1.first)
no_plain_edit word bytes f0 f1 f2 f3 f4 f5 f6 f7 f8 f9 f10 f11 f12 f13 (Move n p i) h = f7 (sym h.1.first)
no_plain_edit word bytes f0 f1 f2 f3 f4 f5 f6 f7 f8 f9 f10 f11 f12 f13 (Name n x) h = absurd (false≢true h.0)
no_plain_edit word bytes f0 f1 f2 f3 f4 f5 f6 f7 f8 f9 f10 f11 f12 f13 (Describe n x) h = absurd (false≢true h.0)
no_plain_edit word bytes f0 f1 f2 f3 f4 f5 f6 f7 f8 f9 f10 f11 f12 f13 (Role n r) h = f12 (sym h.1.first)
no_plain_edit word bytes f0 f1 f2 f3 f4 f5 f6 f7 f8 f9 f10 f11 f12 f13 (State n t on) h = f13 (sym h.1.first)
no_plain_edit word bytes f0 f1 f2 f3 f4 f5 f6 f7 f8 f9 f10 f11 f12 f13 (Focus n) h = f1 (sym h.1.first)
no_plain_edit word bytes f0 f1 f2 f3 f4 f5 f6 f7 f8 f9 f10 f11 f12 f13 (Put n at x) h = absurd (false≢true h.0)
no_plain_edit word bytes f0 f1 f2 f3 f4 f5 f6 f7 f8 f9 f10 f11 f12 f13 (Keys n x) h = absurd (false≢true h.0)
no_plain_edit word bytes f0 f1 f2 f3 f4 f5 f6 f7 f8 f9 f10 f11 f12 f13 (Cut n from to) h = f8 (sym h.1.first)
no_plain_edit word bytes f0 f1 f2 f3 f4 f5 f6 f7 f8 f9 f10 f11 f12 f13 (Caret n at) h = f3 (sym h.1.first)
no_plain_edit word bytes f0 f1 f2 f3 f4 f5 f6 f7 f8 f9 f10 f11 f12 f13 (Mark n from to) h = f9 (sym h.1.first)
no_plain_edit word bytes f0 f1 f2 f3 f4 f5 f6 f7 f8 f9 f10 f11 f12 f13 (Unmark n) h = f2 (sym h.1.first)
no_plain_edit word bytes f0 f1 f2 f3 f4 f5 f6 f7 f8 f9 f10 f11 f12 f13 (Select n i) h = f4 (sym h.1.first)
no_plain_edit word bytes f0 f1 f2 f3 f4 f5 f6 f7 f8 f9 f10 f11 f12 f13 (Deselect n i) h = f5 (sym h.1.first)
no_plain_edit word bytes f0 f1 f2 f3 f4 f5 f6 f7 f8 f9 f10 f11 f12 f13 (Press n i) h = f6 (sym h.1.first)
no_plain_edit word bytes f0 f1 f2 f3 f4 f5 f6 f7 f8 f9 f10 f11 f12 f13 (Relate n k m) h = f10 (sym h.1.first)
no_plain_edit word bytes f0 f1 f2 f3 f4 f5 f6 f7 f8 f9 f10 f11 f12 f13 (Unrelate n k m) h = f11 (sym h.1.first)

-- an edit with or without a text
pub edit_found : (word bytes : List ℕ) (r : Option Edit) → (word ≡ codes "insert" → ⊥) → (word ≡ codes "name" → ⊥) → (word ≡ codes "describe" → ⊥) → (word ≡ codes "put" → ⊥) → (word ≡ codes "type" → ⊥) → Finds (λ e. (has_no_text e ≡ true) × IsEditOf word bytes e) r → Finds (IsEditOf word bytes) r
edit_found word bytes (Some e) f0 f1 f2 f3 f4 h = h.1
edit_found word bytes None f0 f1 f2 f3 f4 h = none
  where
    none : (e : Edit) → IsEditOf word bytes e → ⊥
    none (Insert p i seed) s = f0 (sym s.first)
    none (Name n x) s = f1 (sym s.first)
    none (Describe n x) s = f2 (sym s.first)
    none (Put n at x) s = f3 (sym s.first)
    none (Keys n x) s = f4 (sym s.first)
    none e s = h e (refl, s)

-- an edit, and its words behind the first
pub edit_read : (word rest bytes : List ℕ) (r : Result (Option Edit) NoMemory) → HasNoSpace word → Leads (literal word) rest bytes → Reads (IsEditOf word rest) r
    → Reads (λ e. IsEdit e × SpellsWords (edit_form e) bytes) r
edit_read word rest bytes (Err x) free p h = tt
edit_read word rest bytes (Ok None) free p h = λ e s.
    let c = cut_form (edit_form e) word rest bytes (edit_first e) free p s.1 in
    h e (record { asked = s.0; first = c.first; others = c.others })
edit_read word rest bytes (Ok (Some e)) free p h = (h.asked, whole_form (edit_form e) word rest bytes (edit_first e) p h.first h.others)

pub no_edit : (bytes : List ℕ) → ((rest : List ℕ) → bytes ≡ 32 ∷ rest → ⊥) → (e : Edit) → IsEdit e × SpellsWords (edit_form e) bytes → ⊥
no_edit bytes none e s = no_first (edit_form e) bytes (edit_first e) none s.1

-- a deed, and its words behind the first
pub deed_read : (word rest bytes : List ℕ) (r : Result (Option Deed) NoMemory) → HasNoSpace word → Leads (literal word) rest bytes → Reads (IsDeedOf word rest) r
    → Reads (λ d. SpellsWords (deed_form d) bytes) r
deed_read word rest bytes (Err x) free p h = tt
deed_read word rest bytes (Ok None) free p h = λ d s.
    let c = cut_form (deed_form d) word rest bytes (deed_first d) free p s in
    h d (record { first = c.first; others = c.others })
deed_read word rest bytes (Ok (Some d)) free p h = whole_form (deed_form d) word rest bytes (deed_first d) p h.first h.others

pub no_deed : (bytes : List ℕ) → ((rest : List ℕ) → bytes ≡ 32 ∷ rest → ⊥) → (d : Deed) → SpellsWords (deed_form d) bytes → ⊥
no_deed bytes none d s = no_first (deed_form d) bytes (deed_first d) none s

-- a word that no deed begins with
pub no_deed_word : (word bytes : List ℕ) → (word ≡ codes "set-caret" → ⊥) → (word ≡ codes "select-child" → ⊥) → (word ≡ codes "deselect-child" → ⊥) → (word ≡ codes "do-action" → ⊥) → (word ≡ codes "delete-text" → ⊥) → (word ≡ codes "insert-text" → ⊥) → (word ≡ codes "set-text" → ⊥) → (word ≡ codes "select-all" → ⊥) → (word ≡ codes "clear-selection" → ⊥) → (d : Deed) → IsDeedOf word bytes d → ⊥
no_deed_word word bytes f0 f1 f2 f3 f4 f5 f6 f7 f8 (SetCaret at) h = f0 (sym h.first)
no_deed_word word bytes f0 f1 f2 f3 f4 f5 f6 f7 f8 (SelectChild i) h = f1 (sym h.first)
no_deed_word word bytes f0 f1 f2 f3 f4 f5 f6 f7 f8 (DeselectChild i) h = f2 (sym h.first)
no_deed_word word bytes f0 f1 f2 f3 f4 f5 f6 f7 f8 (DoAction i) h = f3 (sym h.first)
no_deed_word word bytes f0 f1 f2 f3 f4 f5 f6 f7 f8 (DeleteText from to) h = f4 (sym h.first)
no_deed_word word bytes f0 f1 f2 f3 f4 f5 f6 f7 f8 (InsertText at x) h = f5 (sym h.first)
no_deed_word word bytes f0 f1 f2 f3 f4 f5 f6 f7 f8 (SetText x) h = f6 (sym h.first)
no_deed_word word bytes f0 f1 f2 f3 f4 f5 f6 f7 f8 SelectAll h = f7 (sym h.first)
no_deed_word word bytes f0 f1 f2 f3 f4 f5 f6 f7 f8 ClearSelection h = f8 (sym h.first)

-- which first words are those of a line without a text
abbrev pub is_plain_first : List ℕ → Bool
is_plain_first w = not (bytes_eq w (codes "edit") || (bytes_eq w (codes "call") || bytes_eq w (codes "app")))

plain_first : (l : Line) → IsAsked l → is_plain l ≡ is_plain_first (first_word (line_form l))
plain_first Blank k = absurd k
plain_first (Quota n) k = refl
plain_first (App x) k = refl
plain_first Reader k = refl
plain_first (EditLine a e) k = refl
plain_first (Call r a n d) k = refl
plain_first (Swap a) k = refl
plain_first (Exit a) k = refl
plain_first (Leave r) k = refl
plain_first (Bytes who up n) k = refl
plain_first (Turns n) k = refl
plain_first Drain k = refl
plain_first (Show r a) k = refl

pub plain_line_read : (word w bytes : List ℕ) (r : Option Line) → word ≡ w → is_plain_first w ≡ true → Finds (IsLineOf w bytes) r → Finds (λ l. (is_plain l ≡ true) × IsLineOf word bytes l) r
plain_line_read word w bytes None e t h = λ x s. h x (subst (λ u. IsLineOf u bytes x) e s.1)
plain_line_read word w bytes (Some x) e t h = (plain_first x h.asked ∙ ap is_plain_first h.first ∙ t, subst (λ u. IsLineOf u bytes x) (sym e) h)

-- a word that no line without a text begins with
pub no_plain_line : (word bytes : List ℕ) → (word ≡ codes "turns" → ⊥) → (word ≡ codes "bytes" → ⊥) → (word ≡ codes "drain" → ⊥) → (word ≡ codes "show" → ⊥) → (word ≡ codes "reader" → ⊥) → (word ≡ codes "quota" → ⊥) → (word ≡ codes "swap" → ⊥) → (word ≡ codes "exit" → ⊥) → (word ≡ codes "leave" → ⊥) → (l : Line) → (is_plain l ≡ true) × IsLineOf word bytes l → ⊥
no_plain_line word bytes f0 f1 f2 f3 f4 f5 f6 f7 f8 Blank h = h.1.asked
no_plain_line word bytes f0 f1 f2 f3 f4 f5 f6 f7 f8 (Quota n) h = f5 (sym h.1.first)
no_plain_line word bytes f0 f1 f2 f3 f4 f5 f6 f7 f8 (App x) h = absurd (false≢true h.0)
no_plain_line word bytes f0 f1 f2 f3 f4 f5 f6 f7 f8 Reader h = f4 (sym h.1.first)
no_plain_line word bytes f0 f1 f2 f3 f4 f5 f6 f7 f8 (EditLine a e) h = absurd (false≢true h.0)
no_plain_line word bytes f0 f1 f2 f3 f4 f5 f6 f7 f8 (Call r a n d) h = absurd (false≢true h.0)
no_plain_line word bytes f0 f1 f2 f3 f4 f5 f6 f7 f8 (Swap a) h = f6 (sym h.1.first)
no_plain_line word bytes f0 f1 f2 f3 f4 f5 f6 f7 f8 (Exit a) h = f7 (sym h.1.first)
no_plain_line word bytes f0 f1 f2 f3 f4 f5 f6 f7 f8 (Leave r) h = f8 (sym h.1.first)
no_plain_line word bytes f0 f1 f2 f3 f4 f5 f6 f7 f8 (Bytes who up n) h = f1 (sym h.1.first)
no_plain_line word bytes f0 f1 f2 f3 f4 f5 f6 f7 f8 (Turns n) h = f0 (sym h.1.first)
no_plain_line word bytes f0 f1 f2 f3 f4 f5 f6 f7 f8 Drain h = f2 (sym h.1.first)
no_plain_line word bytes f0 f1 f2 f3 f4 f5 f6 f7 f8 (Show r a) h = f3 (sym h.1.first)

-- a line with or without a text
pub line_found : (word bytes : List ℕ) (r : Option Line) → (word ≡ codes "edit" → ⊥) → (word ≡ codes "call" → ⊥) → (word ≡ codes "app" → ⊥)
    → Finds (λ l. (is_plain l ≡ true) × IsLineOf word bytes l) r → Finds (IsLineOf word bytes) r
line_found word bytes (Some l) f0 f1 f2 h = h.1
line_found word bytes None f0 f1 f2 h = none
  where
    none : (l : Line) → IsLineOf word bytes l → ⊥
    none (EditLine a e) s = f0 (sym s.first)
    none (Call r a n d) s = f1 (sym s.first)
    none (App x) s = f2 (sym s.first)
    none l s = h l (refl, s)

-- a spelled line that is not blank has words
pub is_asked : (l : Line) (bytes : List ℕ) → (IsBlank bytes → ⊥) → SpelledAs l bytes → IsAsked l × SpellsWords (line_form l) (32 ∷ bytes)
is_asked Blank bytes blank s = absurd (blank s)
is_asked (EditLine a e) bytes blank s = s
is_asked (Quota n) bytes blank s = (tt, s)
is_asked (App x) bytes blank s = (tt, s)
is_asked Reader bytes blank s = (tt, s)
is_asked (Call r a n d) bytes blank s = (tt, s)
is_asked (Swap a) bytes blank s = (tt, s)
is_asked (Exit a) bytes blank s = (tt, s)
is_asked (Leave r) bytes blank s = (tt, s)
is_asked (Bytes who up n) bytes blank s = (tt, s)
is_asked (Turns n) bytes blank s = (tt, s)
is_asked Drain bytes blank s = (tt, s)
is_asked (Show r a) bytes blank s = (tt, s)

pub is_spelled : (l : Line) (bytes : List ℕ) → IsAsked l → SpellsWords (line_form l) (32 ∷ bytes) → SpelledAs l bytes
is_spelled Blank bytes k s = absurd k
is_spelled (EditLine a e) bytes k s = (k, s)
is_spelled (Quota n) bytes k s = s
is_spelled (App x) bytes k s = s
is_spelled Reader bytes k s = s
is_spelled (Call r a n d) bytes k s = s
is_spelled (Swap a) bytes k s = s
is_spelled (Exit a) bytes k s = s
is_spelled (Leave r) bytes k s = s
is_spelled (Bytes who up n) bytes k s = s
is_spelled (Turns n) bytes k s = s
is_spelled Drain bytes k s = s
is_spelled (Show r a) bytes k s = s

-- a line, and its words behind the first
pub line_read : (word rest bytes : List ℕ) (r : Result (Option Line) NoMemory) → (IsBlank bytes → ⊥) → HasNoSpace word → Leads (literal word) rest (32 ∷ bytes) → Reads (IsLineOf word rest) r
    → Reads (λ l. SpelledAs l bytes) r
line_read word rest bytes (Err x) blank free p h = tt
line_read word rest bytes (Ok None) blank free p h = λ l s.
    let asked = is_asked l bytes blank s in
    let c = cut_form (line_form l) word rest (32 ∷ bytes) (line_first l asked.0) free p asked.1 in
    h l (record { asked = asked.0; first = c.first; others = c.others })
line_read word rest bytes (Ok (Some l)) blank free p h =
    is_spelled l bytes h.asked (whole_form (line_form l) word rest (32 ∷ bytes) (line_first l h.asked) p h.first h.others)

-- an insertion whose words are not read
pub no_insert : (bytes : List ℕ) → ((p i : ℕ) (seed : Seed) → IsEdit (Insert p i seed) → SpellsWords (number p ∷ number i ∷ role_name seed.role ∷ quote seed.name ∷ clauses seed) bytes → ⊥)
    → (e : Edit) → IsEditOf (codes "insert") bytes e → ⊥
no_insert bytes none (Insert p i seed) h = none p i seed h.asked h.others
no_insert bytes none e h = absurd (omega (arith, ap code_of h.first))
