-- Bytes spell at most one line.
use Rattle.std.proofs.Common.{◌≡◌, ℕ, ◌+◌, ◌*◌, Bool, true, false, List, [], ◌∷◌, ◌++◌, refl, sym, ap, subst, ◌∙◌, arith, inl, inr, ◌⊎◌}
use Rattle.std.specs.Prelude.{codes, is_some}
use Rattle.atspi_tree_model.specs.declared.step.Seed.{Seed}
use Rattle.atspi_tree_model.specs.declared.edit.Edit.{Edit}
use Rattle.atspi_tree_model.specs.declared.edit.Edit.TheVariants.{Insert, Remove, Move, Name, Describe, Role, State, Focus, Put, Keys, Cut, Caret, Mark, Unmark, Select, Deselect, Press, Relate, Unrelate}
use Rattle.atspi_tree_model.specs.Edits.{IsEdit}
use Rattle.atspi_script_lines.specs.declared.deed.Deed.{Deed}
use Rattle.atspi_script_lines.specs.declared.deed.Deed.TheVariants.{SetCaret, InsertText, DeleteText, SetText, SelectChild, DeselectChild, SelectAll, ClearSelection, DoAction}
use Rattle.atspi_script_lines.specs.declared.line.Line.{Line}
use Rattle.atspi_script_lines.specs.declared.line.Line.TheVariants.{Blank, Quota, App, Reader, Edit as EditLine, Call, Swap, Exit, Leave, Bytes, Turns, Drain, Show}
use Rattle.atspi_script_lines.specs.Words.{Word, literal, number, place, quota, app_name, reader_name, party_name, role_name, state_name, quote, Leads, SpellsWords}
use Rattle.atspi_script_lines.specs.Forms.{clauses, deed_form, edit_form, line_form, switch_word, way_word}
use Rattle.atspi_script_lines.specs.Line.{IsBlank, SpelledAs}
use Rattle.atspi_script_lines.specs.Laws.{LinesHaveOneReading}
use Rattle.atspi_script_lines.specs.inner.Reading.{IsAsked, first_word, other_words, HasNoSpace}
use Rattle.atspi_script_lines.proofs.LeadLemmas.{lead_once, rest_of, way_free, words_once}
use Rattle.atspi_script_lines.proofs.SpaceLemmas.{tested_no_space}
use Rattle.atspi_script_lines.proofs.FormLemmas.{HasFirst, cut_form, deed_first, edit_first, line_first}
use Rattle.atspi_script_lines.proofs.ClauseLemmas.{clause_known}

abbrev code_of : List ℕ → ℕ
code_of [] = 0
code_of (b ∷ bytes) = b + 2 * code_of bytes

pub switch_free : (on : Bool) → HasNoSpace (switch_word on)
switch_free true = tested_no_space (codes "on") refl
switch_free false = tested_no_space (codes "off") refl

pub same_switch : (a b : Bool) → switch_word a ≡ switch_word b → a ≡ b
same_switch true true e = refl
same_switch false false e = refl
same_switch true false e = absurd (omega (arith, ap code_of e))
same_switch false true e = absurd (omega (arith, ap code_of e))

same_way : (a b : Bool) → way_word a ≡ way_word b → a ≡ b
same_way true true e = refl
same_way false false e = refl
same_way true false e = absurd (omega (arith, ap code_of e))
same_way false true e = absurd (omega (arith, ap code_of e))

-- two forms spelled by the same bytes begin with the same word, and the others are spelled by the same bytes
pub record SameFirst (xs ys : List Word) : Type 0 where
  pub first : first_word xs ≡ first_word ys
  pub rest : List ℕ
  pub left : SpellsWords (other_words xs) rest
  pub right : SpellsWords (other_words ys) rest

pub same_first : (xs ys : List Word) (bytes : List ℕ) → HasFirst xs → HasFirst ys → SpellsWords xs bytes → SpellsWords ys bytes → SameFirst xs ys
same_first xs ys bytes f g s t =
    let u : SpellsWords (literal (first_word xs) ∷ other_words xs) bytes = subst (λ ws. SpellsWords ws bytes) f.splits s in
    let c = cut_form ys (first_word xs) u.0 bytes g f.free u.1 t in
    record { first = sym c.first; rest = u.0; left = u.2; right = c.others }

-- a seed is one seed's
one_seed : (a b : Seed) (bytes : List ℕ) → (a.editable ≡ true → is_some a.text ≡ true) → (b.editable ≡ true → is_some b.text ≡ true)
    → a.role ≡ b.role → a.name ≡ b.name → SpellsWords (clauses a) bytes → SpellsWords (clauses b) bytes → a ≡ b
one_seed a b bytes p q r n s t = clause_known a b bytes p q r n s t

edit_once : (a b : Edit) (bytes : List ℕ) → IsEdit a → IsEdit b → (first_word (edit_form a) ≡ first_word (edit_form b)) → SpellsWords (other_words (edit_form a)) bytes → SpellsWords (other_words (edit_form b)) bytes → a ≡ b
edit_once (Insert p i seed) (Insert q j other) bytes k l e s t =
    let a : number p ≡ number q = (lead_once (number p) (number q) s.0 t.0 bytes tt s.1 t.1).0 in
    let t1 = rest_of (number p) (number q) s.0 bytes (number j ∷ role_name other.role ∷ quote other.name ∷ clauses other) tt s.1 t in
    let s1 = s.2 in
    let b : number i ≡ number j = (lead_once (number i) (number j) s1.0 t1.0 s.0 tt s1.1 t1.1).0 in
    let t2 = rest_of (number i) (number j) s1.0 s.0 (role_name other.role ∷ quote other.name ∷ clauses other) tt s1.1 t1 in
    let s2 = s1.2 in
    let c : role_name seed.role ≡ role_name other.role = (lead_once (role_name seed.role) (role_name other.role) s2.0 t2.0 s1.0 tt s2.1 t2.1).0 in
    let t3 = rest_of (role_name seed.role) (role_name other.role) s2.0 s1.0 (quote other.name ∷ clauses other) tt s2.1 t2 in
    let s3 = s2.2 in
    let d : quote seed.name ≡ quote other.name = (lead_once (quote seed.name) (quote other.name) s3.0 t3.0 s2.0 tt s3.1 t3.1).0 in
    let t4 = rest_of (quote seed.name) (quote other.name) s3.0 s2.0 (clauses other) tt s3.1 t3 in
    let r : seed.role ≡ other.role = cc in
    let n : seed.name ≡ other.name = cc in
    let same : seed ≡ other = one_seed seed other s3.0 k.1 l.1 r n s3.2 t4 in
    let x : p ≡ q = cc in
    let y : i ≡ j = cc in
    cc
edit_once (Remove n) (Remove n') bytes k l e s t =
    let h : (number n ∷ []) ≡ (number n' ∷ []) = words_once (number n ∷ []) (number n' ∷ []) bytes (tt, tt) s t in
    let e0 : n ≡ n' = cc in
    cc
edit_once (Move n p i) (Move n' p' i') bytes k l e s t =
    let h : (number n ∷ number p ∷ number i ∷ []) ≡ (number n' ∷ number p' ∷ number i' ∷ []) = words_once (number n ∷ number p ∷ number i ∷ []) (number n' ∷ number p' ∷ number i' ∷ []) bytes (tt, (tt, (tt, tt))) s t in
    let e0 : n ≡ n' = cc in
    let e1 : p ≡ p' = cc in
    let e2 : i ≡ i' = cc in
    cc
edit_once (Name n x) (Name n' x') bytes k l e s t =
    let h : (number n ∷ quote x ∷ []) ≡ (number n' ∷ quote x' ∷ []) = words_once (number n ∷ quote x ∷ []) (number n' ∷ quote x' ∷ []) bytes (tt, (tt, tt)) s t in
    let e0 : n ≡ n' = cc in
    let e1 : x ≡ x' = cc in
    cc
edit_once (Describe n x) (Describe n' x') bytes k l e s t =
    let h : (number n ∷ quote x ∷ []) ≡ (number n' ∷ quote x' ∷ []) = words_once (number n ∷ quote x ∷ []) (number n' ∷ quote x' ∷ []) bytes (tt, (tt, tt)) s t in
    let e0 : n ≡ n' = cc in
    let e1 : x ≡ x' = cc in
    cc
edit_once (Role n r) (Role n' r') bytes k l e s t =
    let h : (number n ∷ role_name r ∷ []) ≡ (number n' ∷ role_name r' ∷ []) = words_once (number n ∷ role_name r ∷ []) (number n' ∷ role_name r' ∷ []) bytes (tt, (tt, tt)) s t in
    let e0 : n ≡ n' = cc in
    let e1 : r ≡ r' = cc in
    cc
edit_once (Focus n) (Focus n') bytes k l e s t =
    let h : (number n ∷ []) ≡ (number n' ∷ []) = words_once (number n ∷ []) (number n' ∷ []) bytes (tt, tt) s t in
    let e0 : n ≡ n' = cc in
    cc
edit_once (Put n at x) (Put n' at' x') bytes k l e s t =
    let h : (number n ∷ number at ∷ quote x ∷ []) ≡ (number n' ∷ number at' ∷ quote x' ∷ []) = words_once (number n ∷ number at ∷ quote x ∷ []) (number n' ∷ number at' ∷ quote x' ∷ []) bytes (tt, (tt, (tt, tt))) s t in
    let e0 : n ≡ n' = cc in
    let e1 : at ≡ at' = cc in
    let e2 : x ≡ x' = cc in
    cc
edit_once (Keys n x) (Keys n' x') bytes k l e s t =
    let h : (number n ∷ quote x ∷ []) ≡ (number n' ∷ quote x' ∷ []) = words_once (number n ∷ quote x ∷ []) (number n' ∷ quote x' ∷ []) bytes (tt, (tt, tt)) s t in
    let e0 : n ≡ n' = cc in
    let e1 : x ≡ x' = cc in
    cc
edit_once (Cut n from to) (Cut n' from' to') bytes k l e s t =
    let h : (number n ∷ number from ∷ number to ∷ []) ≡ (number n' ∷ number from' ∷ number to' ∷ []) = words_once (number n ∷ number from ∷ number to ∷ []) (number n' ∷ number from' ∷ number to' ∷ []) bytes (tt, (tt, (tt, tt))) s t in
    let e0 : n ≡ n' = cc in
    let e1 : from ≡ from' = cc in
    let e2 : to ≡ to' = cc in
    cc
edit_once (Caret n at) (Caret n' at') bytes k l e s t =
    let h : (number n ∷ number at ∷ []) ≡ (number n' ∷ number at' ∷ []) = words_once (number n ∷ number at ∷ []) (number n' ∷ number at' ∷ []) bytes (tt, (tt, tt)) s t in
    let e0 : n ≡ n' = cc in
    let e1 : at ≡ at' = cc in
    cc
edit_once (Mark n from to) (Mark n' from' to') bytes k l e s t =
    let h : (number n ∷ number from ∷ number to ∷ []) ≡ (number n' ∷ number from' ∷ number to' ∷ []) = words_once (number n ∷ number from ∷ number to ∷ []) (number n' ∷ number from' ∷ number to' ∷ []) bytes (tt, (tt, (tt, tt))) s t in
    let e0 : n ≡ n' = cc in
    let e1 : from ≡ from' = cc in
    let e2 : to ≡ to' = cc in
    cc
edit_once (Unmark n) (Unmark n') bytes k l e s t =
    let h : (number n ∷ []) ≡ (number n' ∷ []) = words_once (number n ∷ []) (number n' ∷ []) bytes (tt, tt) s t in
    let e0 : n ≡ n' = cc in
    cc
edit_once (Select n i) (Select n' i') bytes k l e s t =
    let h : (number n ∷ number i ∷ []) ≡ (number n' ∷ number i' ∷ []) = words_once (number n ∷ number i ∷ []) (number n' ∷ number i' ∷ []) bytes (tt, (tt, tt)) s t in
    let e0 : n ≡ n' = cc in
    let e1 : i ≡ i' = cc in
    cc
edit_once (Deselect n i) (Deselect n' i') bytes k l e s t =
    let h : (number n ∷ number i ∷ []) ≡ (number n' ∷ number i' ∷ []) = words_once (number n ∷ number i ∷ []) (number n' ∷ number i' ∷ []) bytes (tt, (tt, tt)) s t in
    let e0 : n ≡ n' = cc in
    let e1 : i ≡ i' = cc in
    cc
edit_once (Press n i) (Press n' i') bytes k l e s t =
    let h : (number n ∷ number i ∷ []) ≡ (number n' ∷ number i' ∷ []) = words_once (number n ∷ number i ∷ []) (number n' ∷ number i' ∷ []) bytes (tt, (tt, tt)) s t in
    let e0 : n ≡ n' = cc in
    let e1 : i ≡ i' = cc in
    cc
edit_once (Relate n j m) (Relate n' j' m') bytes k l e s t =
    let h : (number n ∷ number j ∷ number m ∷ []) ≡ (number n' ∷ number j' ∷ number m' ∷ []) = words_once (number n ∷ number j ∷ number m ∷ []) (number n' ∷ number j' ∷ number m' ∷ []) bytes (tt, (tt, (tt, tt))) s t in
    let e0 : n ≡ n' = cc in
    let e1 : j ≡ j' = cc in
    let e2 : m ≡ m' = cc in
    cc
edit_once (Unrelate n j m) (Unrelate n' j' m') bytes k l e s t =
    let h : (number n ∷ number j ∷ number m ∷ []) ≡ (number n' ∷ number j' ∷ number m' ∷ []) = words_once (number n ∷ number j ∷ number m ∷ []) (number n' ∷ number j' ∷ number m' ∷ []) bytes (tt, (tt, (tt, tt))) s t in
    let e0 : n ≡ n' = cc in
    let e1 : j ≡ j' = cc in
    let e2 : m ≡ m' = cc in
    cc
edit_once (State n v on) (State n' v' on') bytes k l e s t =
    let h : (number n ∷ state_name v ∷ literal (switch_word on) ∷ []) ≡ (number n' ∷ state_name v' ∷ literal (switch_word on') ∷ []) =
    words_once (number n ∷ state_name v ∷ literal (switch_word on) ∷ []) (number n' ∷ state_name v' ∷ literal (switch_word on') ∷ []) bytes (tt, (tt, ((switch_free on, switch_free on'), tt))) s t in
    let a : n ≡ n' = cc in
    let b : v ≡ v' = cc in
    let c : switch_word on ≡ switch_word on' = cc in
    let d : on ≡ on' = same_switch on on' c in
    cc
edit_once a b bytes k l e s t = absurd (omega (arith, ap code_of e))

deed_once : (a b : Deed) (bytes : List ℕ) → (first_word (deed_form a) ≡ first_word (deed_form b)) → SpellsWords (other_words (deed_form a)) bytes → SpellsWords (other_words (deed_form b)) bytes → a ≡ b
deed_once (SetCaret at) (SetCaret at') bytes e s t =
    let h : (place at ∷ []) ≡ (place at' ∷ []) = words_once (place at ∷ []) (place at' ∷ []) bytes (tt, tt) s t in
    let e0 : at ≡ at' = cc in
    cc
deed_once (SelectChild i) (SelectChild i') bytes e s t =
    let h : (place i ∷ []) ≡ (place i' ∷ []) = words_once (place i ∷ []) (place i' ∷ []) bytes (tt, tt) s t in
    let e0 : i ≡ i' = cc in
    cc
deed_once (DeselectChild i) (DeselectChild i') bytes e s t =
    let h : (place i ∷ []) ≡ (place i' ∷ []) = words_once (place i ∷ []) (place i' ∷ []) bytes (tt, tt) s t in
    let e0 : i ≡ i' = cc in
    cc
deed_once (DoAction i) (DoAction i') bytes e s t =
    let h : (place i ∷ []) ≡ (place i' ∷ []) = words_once (place i ∷ []) (place i' ∷ []) bytes (tt, tt) s t in
    let e0 : i ≡ i' = cc in
    cc
deed_once (DeleteText from to) (DeleteText from' to') bytes e s t =
    let h : (place from ∷ place to ∷ []) ≡ (place from' ∷ place to' ∷ []) = words_once (place from ∷ place to ∷ []) (place from' ∷ place to' ∷ []) bytes (tt, (tt, tt)) s t in
    let e0 : from ≡ from' = cc in
    let e1 : to ≡ to' = cc in
    cc
deed_once (InsertText at x) (InsertText at' x') bytes e s t =
    let h : (place at ∷ quote x ∷ []) ≡ (place at' ∷ quote x' ∷ []) = words_once (place at ∷ quote x ∷ []) (place at' ∷ quote x' ∷ []) bytes (tt, (tt, tt)) s t in
    let e0 : at ≡ at' = cc in
    let e1 : x ≡ x' = cc in
    cc
deed_once (SetText x) (SetText x') bytes e s t =
    let h : (quote x ∷ []) ≡ (quote x' ∷ []) = words_once (quote x ∷ []) (quote x' ∷ []) bytes (tt, tt) s t in
    let e0 : x ≡ x' = cc in
    cc
deed_once SelectAll SelectAll bytes e s t = refl
deed_once ClearSelection ClearSelection bytes e s t = refl
deed_once a b bytes e s t = absurd (omega (arith, ap code_of e))

-- edits spelled whole
whole_edit_once : (a b : Edit) (bytes : List ℕ) → IsEdit a → IsEdit b → SpellsWords (edit_form a) bytes → SpellsWords (edit_form b) bytes → a ≡ b
whole_edit_once a b bytes k l s t =
    let f = same_first (edit_form a) (edit_form b) bytes (edit_first a) (edit_first b) s t in
    edit_once a b f.rest k l f.first f.left f.right

whole_deed_once : (a b : Deed) (bytes : List ℕ) → SpellsWords (deed_form a) bytes → SpellsWords (deed_form b) bytes → a ≡ b
whole_deed_once a b bytes s t =
    let f = same_first (deed_form a) (deed_form b) bytes (deed_first a) (deed_first b) s t in
    deed_once a b f.rest f.first f.left f.right

line_once : (a b : Line) (bytes : List ℕ) → IsAsked a → IsAsked b → (first_word (line_form a) ≡ first_word (line_form b)) → SpellsWords (other_words (line_form a)) bytes → SpellsWords (other_words (line_form b)) bytes → a ≡ b
line_once Blank b bytes k l e s t = absurd k
line_once a Blank bytes k l e s t = absurd l
line_once (Quota n) (Quota n') bytes k l e s t =
    let h : (quota n ∷ []) ≡ (quota n' ∷ []) = words_once (quota n ∷ []) (quota n' ∷ []) bytes (tt, tt) s t in
    let e0 : n ≡ n' = cc in
    cc
line_once (App x) (App x') bytes k l e s t =
    let h : (quote x ∷ []) ≡ (quote x' ∷ []) = words_once (quote x ∷ []) (quote x' ∷ []) bytes (tt, tt) s t in
    let e0 : x ≡ x' = cc in
    cc
line_once Reader Reader bytes k l e s t = refl
line_once (Swap a) (Swap a') bytes k l e s t =
    let h : (app_name a ∷ []) ≡ (app_name a' ∷ []) = words_once (app_name a ∷ []) (app_name a' ∷ []) bytes (tt, tt) s t in
    let e0 : a ≡ a' = cc in
    cc
line_once (Exit a) (Exit a') bytes k l e s t =
    let h : (app_name a ∷ []) ≡ (app_name a' ∷ []) = words_once (app_name a ∷ []) (app_name a' ∷ []) bytes (tt, tt) s t in
    let e0 : a ≡ a' = cc in
    cc
line_once (Leave r) (Leave r') bytes k l e s t =
    let h : (reader_name r ∷ []) ≡ (reader_name r' ∷ []) = words_once (reader_name r ∷ []) (reader_name r' ∷ []) bytes (tt, tt) s t in
    let e0 : r ≡ r' = cc in
    cc
line_once (Turns n) (Turns n') bytes k l e s t =
    let h : (number n ∷ []) ≡ (number n' ∷ []) = words_once (number n ∷ []) (number n' ∷ []) bytes (tt, tt) s t in
    let e0 : n ≡ n' = cc in
    cc
line_once Drain Drain bytes k l e s t = refl
line_once (Show r a) (Show r' a') bytes k l e s t =
    let h : (reader_name r ∷ app_name a ∷ []) ≡ (reader_name r' ∷ app_name a' ∷ []) = words_once (reader_name r ∷ app_name a ∷ []) (reader_name r' ∷ app_name a' ∷ []) bytes (tt, (tt, tt)) s t in
    let e0 : r ≡ r' = cc in
    let e1 : a ≡ a' = cc in
    cc
line_once (Bytes who up n) (Bytes who' up' n') bytes k l e s t =
    let h : (party_name who ∷ literal (way_word up) ∷ number n ∷ []) ≡ (party_name who' ∷ literal (way_word up') ∷ number n' ∷ []) =
    words_once (party_name who ∷ literal (way_word up) ∷ number n ∷ []) (party_name who' ∷ literal (way_word up') ∷ number n' ∷ []) bytes (tt, ((way_free up, way_free up'), (tt, tt))) s t in
    let a : who ≡ who' = cc in
    let b : n ≡ n' = cc in
    let c : way_word up ≡ way_word up' = cc in
    let d : up ≡ up' = same_way up up' c in
    cc
line_once (EditLine a x) (EditLine b y) bytes k l e s t =
    let h : app_name a ≡ app_name b = (lead_once (app_name a) (app_name b) s.0 t.0 bytes tt s.1 t.1).0 in
    let r = rest_of (app_name a) (app_name b) s.0 bytes (edit_form y) tt s.1 t in
    let of : a ≡ b = cc in
    let is : x ≡ y = whole_edit_once x y s.0 k l s.2 r in
    cc
line_once (Call r a n d) (Call r' a' n' d') bytes k l e s t =
    let h : reader_name r ≡ reader_name r' = (lead_once (reader_name r) (reader_name r') s.0 t.0 bytes tt s.1 t.1).0 in
    let t1 = rest_of (reader_name r) (reader_name r') s.0 bytes (app_name a' ∷ place n' ∷ deed_form d') tt s.1 t in
    let s1 = s.2 in
    let i : app_name a ≡ app_name a' = (lead_once (app_name a) (app_name a') s1.0 t1.0 s.0 tt s1.1 t1.1).0 in
    let t2 = rest_of (app_name a) (app_name a') s1.0 s.0 (place n' ∷ deed_form d') tt s1.1 t1 in
    let s2 = s1.2 in
    let j : place n ≡ place n' = (lead_once (place n) (place n') s2.0 t2.0 s1.0 tt s2.1 t2.1).0 in
    let t3 = rest_of (place n) (place n') s2.0 s1.0 (deed_form d') tt s2.1 t2 in
    let is : d ≡ d' = whole_deed_once d d' s2.0 s2.2 t3 in
    let x : r ≡ r' = cc in
    let y : a ≡ a' = cc in
    let z : n ≡ n' = cc in
    cc
line_once a b bytes k l e s t = absurd (omega (arith, ap code_of e))

-- a line that has words does not begin with nothing or `#`
abbrev first_byte : List ℕ → ℕ
first_byte [] = 35
first_byte (b ∷ bytes) = b

blank_byte : (bytes : List ℕ) → IsBlank bytes → first_byte bytes ≡ 35
blank_byte [] b = refl
blank_byte (x ∷ xs) b = b

begins : (w rest bytes : List ℕ) → Leads (literal w) rest (32 ∷ bytes) → bytes ≡ w ++ rest
begins w rest bytes p = let e : bytes ≡ p.spelling ++ rest = cc (p.front) in e ∙ ap (λ l. l ++ rest) p.spelled

blank_apart : (l : Line) (bytes : List ℕ) → IsAsked l → IsBlank bytes → SpellsWords (line_form l) (32 ∷ bytes) → ⊥
blank_apart Blank bytes k b s = k
blank_apart (Quota n) bytes k b s = let e = ap first_byte (begins (codes "quota") s.0 bytes s.1) in let f = blank_byte bytes b in omega (arith, e, f)
blank_apart (App x) bytes k b s = let e = ap first_byte (begins (codes "app") s.0 bytes s.1) in let f = blank_byte bytes b in omega (arith, e, f)
blank_apart Reader bytes k b s = let e = ap first_byte (begins (codes "reader") s.0 bytes s.1) in let f = blank_byte bytes b in omega (arith, e, f)
blank_apart (EditLine a e) bytes k b s = let e = ap first_byte (begins (codes "edit") s.0 bytes s.1) in let f = blank_byte bytes b in omega (arith, e, f)
blank_apart (Call r a n d) bytes k b s = let e = ap first_byte (begins (codes "call") s.0 bytes s.1) in let f = blank_byte bytes b in omega (arith, e, f)
blank_apart (Swap a) bytes k b s = let e = ap first_byte (begins (codes "swap") s.0 bytes s.1) in let f = blank_byte bytes b in omega (arith, e, f)
blank_apart (Exit a) bytes k b s = let e = ap first_byte (begins (codes "exit") s.0 bytes s.1) in let f = blank_byte bytes b in omega (arith, e, f)
blank_apart (Leave r) bytes k b s = let e = ap first_byte (begins (codes "leave") s.0 bytes s.1) in let f = blank_byte bytes b in omega (arith, e, f)
blank_apart (Bytes who up n) bytes k b s = let e = ap first_byte (begins (codes "bytes") s.0 bytes s.1) in let f = blank_byte bytes b in omega (arith, e, f)
blank_apart (Turns n) bytes k b s = let e = ap first_byte (begins (codes "turns") s.0 bytes s.1) in let f = blank_byte bytes b in omega (arith, e, f)
blank_apart Drain bytes k b s = let e = ap first_byte (begins (codes "drain") s.0 bytes s.1) in let f = blank_byte bytes b in omega (arith, e, f)
blank_apart (Show r a) bytes k b s = let e = ap first_byte (begins (codes "show") s.0 bytes s.1) in let f = blank_byte bytes b in omega (arith, e, f)

-- a spelled line is blank, or has words
words_of : (l : Line) (bytes : List ℕ) → SpelledAs l bytes → (l ≡ Blank) ⊎ (IsAsked l × SpellsWords (line_form l) (32 ∷ bytes))
words_of Blank bytes s = inl refl
words_of (EditLine a e) bytes s = inr s
words_of (Quota n) bytes s = inr (tt, s)
words_of (App x) bytes s = inr (tt, s)
words_of Reader bytes s = inr (tt, s)
words_of (Call r a n d) bytes s = inr (tt, s)
words_of (Swap a) bytes s = inr (tt, s)
words_of (Exit a) bytes s = inr (tt, s)
words_of (Leave r) bytes s = inr (tt, s)
words_of (Bytes who up n) bytes s = inr (tt, s)
words_of (Turns n) bytes s = inr (tt, s)
words_of Drain bytes s = inr (tt, s)
words_of (Show r a) bytes s = inr (tt, s)

of_words : (a b : Line) (bytes : List ℕ) → IsAsked a × SpellsWords (line_form a) (32 ∷ bytes) → IsAsked b × SpellsWords (line_form b) (32 ∷ bytes) → a ≡ b
of_words a b bytes s t =
    let f = same_first (line_form a) (line_form b) (32 ∷ bytes) (line_first a s.0) (line_first b t.0) s.1 t.1 in
    line_once a b f.rest s.0 t.0 f.first f.left f.right

blank_or_words : (a b : Line) (bytes : List ℕ) → SpelledAs a bytes → SpelledAs b bytes → (a ≡ Blank) ⊎ (IsAsked a × SpellsWords (line_form a) (32 ∷ bytes))
    → (b ≡ Blank) ⊎ (IsAsked b × SpellsWords (line_form b) (32 ∷ bytes)) → a ≡ b
blank_or_words a b bytes s t (inl x) (inl y) = x ∙ sym y
blank_or_words a b bytes s t (inl x) (inr y) = absurd (blank_apart b bytes y.0 (subst (λ l. SpelledAs l bytes) x s) y.1)
blank_or_words a b bytes s t (inr x) (inl y) = absurd (blank_apart a bytes x.0 (subst (λ l. SpelledAs l bytes) y t) x.1)
blank_or_words a b bytes s t (inr x) (inr y) = of_words a b bytes x y

pub one_reading : LinesHaveOneReading
one_reading bytes a b s t = blank_or_words a b bytes s.form t.form (words_of a bytes s.form) (words_of b bytes t.form)
