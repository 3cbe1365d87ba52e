-- Which member a call asks for.
use Rattle.std.proofs.Common.{◌≡◌, ◌<◌, ℕ, Bool, true, false, cond, arith, ◌&&◌, List, [], ◌∷◌, Option, None, Some, refl, sym, ap, ◌∙◌, subst}
use Rattle.std.specs.Prelude.{filter, codes, bytes_eq, Result, Ok, Err}
use Rattle.std.specs.Option.{option_map}
use Rattle.std.specs.List.{list_any, AllByRecursion}
use Rattle.std.proofs.lemmas.Slice.Eq.{bytes_eq-Decides}
use Rattle.atspi_types.specs.Kinds.{Num, byte, i16, u16, i32, u32, i64, u64, double, Kind, Kinds, number, boolean, text, path, signature, array, structure, variant, dictionary, no_kinds, kind, kinds_of}
use Rattle.atspi_types.specs.Signatures.{signature_bytes}
use Rattle.std.specs.Prelude.{IsTrue}
use Rattle.atspi_types.specs.Data.{items_of, types_of}
use Rattle.atspi_marshal.specs.Reading.{input_of}
use Rattle.atspi_marshal_in_place.specs.Known.{is_read}
use Rattle.atspi_marshal_in_place.specs.Passing.{read_all}
use Rattle.atspi_marshal_in_place.specs.Items.{fields_data, fields_kinds}
use Rattle.atspi_marshal_in_place.specs.declared.cursor.Fields.{Fields}
use Rattle.atspi_message_in_place.proofs.ReadTypes.{fields_types}
use Rattle.atspi_message.specs.Envelope.{Envelope}
use Rattle.atspi_match.specs.declared.routing.member.BusMember.{BusMember}
use Rattle.atspi_match.specs.routing.Members.{MemberLine, member_lines, is_of, is_text, signature_of, first_line, with_arguments, member_of}
use Rattle.atspi_bus_answers.specs.Lines.{is_named, member_in, takes_of}

abbrev asks : Option (List ℕ) → Option (List ℕ) → MemberLine → Bool
asks interface member l = is_of interface l && is_text member l.name

same_test : (interface member : Option (List ℕ)) (l : MemberLine) → is_named interface member l.interface l.name ≡ asks interface member l
same_test None member l = refl
same_test (Some i) member l = refl

-- the member found is that of the first line
found : (interface member : Option (List ℕ)) (ls : List MemberLine) → member_in interface member ls ≡ option_map (λ (l : MemberLine). l.member) (first_line (filter (asks interface member) ls))
found interface member [] = refl
found interface member (l ∷ ls) =
    ap (λ b. cond b (Some l.member) (member_in interface member ls)) (same_test interface member l)
    ∙ by (asks interface member l) (found interface member ls)
  where
    by : (b : Bool) → member_in interface member ls ≡ option_map (λ (l : MemberLine). l.member) (first_line (filter (asks interface member) ls))
        → cond b (Some l.member) (member_in interface member ls) ≡ option_map (λ (l : MemberLine). l.member) (first_line (cond b (l ∷ filter (asks interface member) ls) (filter (asks interface member) ls)))
    by true rest = refl
    by false rest = rest

-- each line names the arguments of its member
abbrev Takes : MemberLine → Type 0
Takes l = l.takes ≡ takes_of l.member

lines_take : AllByRecursion Takes member_lines
lines_take = (refl, (refl, (refl, (refl, (refl, (refl, (refl, (refl, (refl, (refl, (refl, tt)))))))))))

first_takes : (p : MemberLine → Bool) (ls : List MemberLine) → AllByRecursion Takes ls → (l : MemberLine) → first_line (filter p ls) ≡ Some l → Takes l
first_takes p [] h l e = absurd cc
first_takes p (x ∷ ls) h l e = by (p x) e (first_takes p ls h.1 l)
  where
    inside : (a b : MemberLine) → Some a ≡ Some b → a ≡ b
    inside a b e = cc

    by : (b : Bool) → first_line (cond b (x ∷ filter p ls) (filter p ls)) ≡ Some l → (first_line (filter p ls) ≡ Some l → Takes l) → Takes l
    by true e rest = subst Takes (inside x l e) h.0
    by false e rest = rest e

abbrev asked_ok : BusMember → Result BusMember (List ℕ)
asked_ok member = Ok member

abbrev asked_err : List ℕ → Result BusMember (List ℕ)
asked_err name = Err name

one_ok : (a b : BusMember) → asked_ok a ≡ asked_ok b → a ≡ b
one_ok a b e = cc

not_both : (a : List ℕ) (b : BusMember) → asked_err a ≡ asked_ok b → ⊥
not_both a b e = cc

module _ (e : Envelope) where
  known : list_any (is_of e.interface) member_lines ≡ true → member_of e ≡ with_arguments e (first_line (filter (asks e.interface e.member) member_lines))
  known is = ap (λ b. cond b (with_arguments e (first_line (filter (asks e.interface e.member) member_lines))) (Err (codes "UnknownInterface"))) is

  pub not_known : list_any (is_of e.interface) member_lines ≡ false → member_of e ≡ Err (codes "UnknownInterface")
  not_known is = ap (λ b. cond b (with_arguments e (first_line (filter (asks e.interface e.member) member_lines))) (Err (codes "UnknownInterface"))) is

  pub no_member : list_any (is_of e.interface) member_lines ≡ true → member_in e.interface e.member member_lines ≡ None → member_of e ≡ Err (codes "UnknownMethod")
  no_member is none = known is ∙ by (first_line (filter (asks e.interface e.member) member_lines)) (sym (found e.interface e.member member_lines) ∙ none)
    where
      by : (o : Option MemberLine) → option_map (λ (l : MemberLine). l.member) o ≡ None → with_arguments e o ≡ Err (codes "UnknownMethod")
      by None h = refl
      by (Some l) h = absurd cc

  pub has_member : (member : BusMember) → list_any (is_of e.interface) member_lines ≡ true → member_in e.interface e.member member_lines ≡ Some member
      → member_of e ≡ cond (bytes_eq (signature_of e) (takes_of member)) (Ok member) (Err (codes "InvalidArgs"))
  has_member member is some = known is ∙ by (first_line (filter (asks e.interface e.member) member_lines)) refl (sym (found e.interface e.member member_lines) ∙ some)
    where
      inside : (a b : BusMember) → Some a ≡ Some b → a ≡ b
      inside a b e = cc

      by : (o : Option MemberLine) → first_line (filter (asks e.interface e.member) member_lines) ≡ o → option_map (λ (l : MemberLine). l.member) o ≡ Some member
          → with_arguments e o ≡ cond (bytes_eq (signature_of e) (takes_of member)) (Ok member) (Err (codes "InvalidArgs"))
      by None at h = absurd cc
      by (Some l) at h =
          ap (λ t. cond (bytes_eq (signature_of e) t) (Ok l.member) (Err (codes "InvalidArgs"))) (first_takes (asks e.interface e.member) member_lines lines_take l at)
          ∙ ap (λ m. cond (bytes_eq (signature_of e) (takes_of m)) (Ok m) (Err (codes "InvalidArgs"))) (inside l.member member h)

  -- a member that is asked for has its arguments
  pub asked_takes : (member : BusMember) → member_of e ≡ Ok member → signature_of e ≡ takes_of member
  asked_takes member asked = by (list_any (is_of e.interface) member_lines) refl
    where
      at : (b : Bool) (m : BusMember) → bytes_eq (signature_of e) (takes_of m) ≡ b → cond b (asked_ok m) (asked_err (codes "InvalidArgs")) ≡ asked_ok member → signature_of e ≡ takes_of member
      at true m test is = (bytes_eq-Decides (signature_of e) (takes_of m)).0 test ∙ ap takes_of (one_ok m member is)
      at false m test is = absurd (not_both (codes "InvalidArgs") member is)

      in_line : (o : Option BusMember) → member_in e.interface e.member member_lines ≡ o → list_any (is_of e.interface) member_lines ≡ true → signature_of e ≡ takes_of member
      in_line None found_none is = absurd (not_both (codes "UnknownMethod") member (sym (no_member is found_none) ∙ asked))
      in_line (Some m) found_it is = at (bytes_eq (signature_of e) (takes_of m)) m refl (sym (has_member m is found_it) ∙ asked)

      by : (b : Bool) → list_any (is_of e.interface) member_lines ≡ b → signature_of e ≡ takes_of member
      by true is = in_line (member_in e.interface e.member member_lines) refl is
      by false is = absurd (not_both (codes "UnknownInterface") member (sym (not_known is) ∙ asked))

-- the types that the codes su spell
abbrev first_code : List ℕ → ℕ
first_code [] = 0
first_code (b ∷ bs) = b

abbrev later_codes : List ℕ → List ℕ
later_codes [] = []
later_codes (b ∷ bs) = bs

abbrev code : Kind → ℕ
code (number byte) = 121
code (number i16) = 110
code (number u16) = 113
code (number i32) = 105
code (number u32) = 117
code (number i64) = 120
code (number u64) = 116
code (number double) = 100
code boolean = 98
code text = 115
code path = 111
code signature = 103
code (array k) = 97
code (structure fs) = 40
code variant = 118
code (dictionary k v) = 97

head : (k : Kind) (ks : List Kind) → first_code (signature_bytes (kinds_of (k ∷ ks))) ≡ code k
head (number byte) ks = refl
head (number i16) ks = refl
head (number u16) ks = refl
head (number i32) ks = refl
head (number u32) ks = refl
head (number i64) ks = refl
head (number u64) ks = refl
head (number double) ks = refl
head boolean ks = refl
head text ks = refl
head path ks = refl
head signature ks = refl
head (array k) ks = refl
head (structure fs) ks = refl
head variant ks = refl
head (dictionary k v) ks = refl

some_code : (k : Kind) → 0 < code k
some_code (number byte) = omega arith
some_code (number i16) = omega arith
some_code (number u16) = omega arith
some_code (number i32) = omega arith
some_code (number u32) = omega arith
some_code (number i64) = omega arith
some_code (number u64) = omega arith
some_code (number double) = omega arith
some_code boolean = omega arith
some_code text = omega arith
some_code path = omega arith
some_code signature = omega arith
some_code (array k) = omega arith
some_code (structure fs) = omega arith
some_code variant = omega arith
some_code (dictionary k v) = omega arith

is_word : (k : Kind) → code k ≡ 117 → k ≡ number u32
is_word (number byte) e = absurd (omega arith)
is_word (number i16) e = absurd (omega arith)
is_word (number u16) e = absurd (omega arith)
is_word (number i32) e = absurd (omega arith)
is_word (number u32) e = refl
is_word (number i64) e = absurd (omega arith)
is_word (number u64) e = absurd (omega arith)
is_word (number double) e = absurd (omega arith)
is_word boolean e = absurd (omega arith)
is_word text e = absurd (omega arith)
is_word path e = absurd (omega arith)
is_word signature e = absurd (omega arith)
is_word (array k) e = absurd (omega arith)
is_word (structure fs) e = absurd (omega arith)
is_word variant e = absurd (omega arith)
is_word (dictionary k v) e = absurd (omega arith)

is_a_text : (k : Kind) → code k ≡ 115 → k ≡ text
is_a_text (number byte) e = absurd (omega arith)
is_a_text (number i16) e = absurd (omega arith)
is_a_text (number u16) e = absurd (omega arith)
is_a_text (number i32) e = absurd (omega arith)
is_a_text (number u32) e = absurd (omega arith)
is_a_text (number i64) e = absurd (omega arith)
is_a_text (number u64) e = absurd (omega arith)
is_a_text (number double) e = absurd (omega arith)
is_a_text boolean e = absurd (omega arith)
is_a_text text e = refl
is_a_text path e = absurd (omega arith)
is_a_text signature e = absurd (omega arith)
is_a_text (array k) e = absurd (omega arith)
is_a_text (structure fs) e = absurd (omega arith)
is_a_text variant e = absurd (omega arith)
is_a_text (dictionary k v) e = absurd (omega arith)

no_code : (n : ℕ) → 0 ≡ n → 0 < n → ⊥
no_code n e lt = omega arith

none_left : (ks : List Kind) → signature_bytes (kinds_of ks) ≡ [] → ks ≡ []
none_left [] e = refl
none_left (k ∷ ks) e = let none : code k ≡ 0 = sym (head k ks) ∙ ap first_code e in absurd (omega (arith, some_code k))

word : (ks : List Kind) → signature_bytes (kinds_of ks) ≡ 117 ∷ [] → ks ≡ number u32 ∷ []
word [] e = absurd (no_code 117 (ap first_code e) (omega arith))
word (k ∷ ks) e =
    let is : k ≡ number u32 = is_word k (sym (head k ks) ∙ ap first_code e) in
    let rest : signature_bytes (kinds_of ks) ≡ [] = ap later_codes (subst (λ (j : Kind). signature_bytes (kinds_of (j ∷ ks)) ≡ 117 ∷ []) is e) in
    ap (λ (j : Kind). j ∷ ks) is ∙ ap (λ (js : List Kind). number u32 ∷ js) (none_left ks rest)

pub text_and_word : (ks : List Kind) → signature_bytes (kinds_of ks) ≡ codes "su" → ks ≡ text ∷ (number u32 ∷ [])
text_and_word [] e = absurd (no_code 115 (ap first_code e) (omega arith))
text_and_word (k ∷ ks) e =
    let is : k ≡ text = is_a_text k (sym (head k ks) ∙ ap first_code e) in
    let rest : signature_bytes (kinds_of ks) ≡ 117 ∷ [] = ap later_codes (subst (λ (j : Kind). signature_bytes (kinds_of (j ∷ ks)) ≡ codes "su") is e) in
    ap (λ (j : Kind). j ∷ ks) is ∙ ap (λ (js : List Kind). text ∷ js) (word ks rest)

-- the codes of the types of a body
pub body_codes : (b : Fields) → IsTrue (is_read (read_all (input_of b.input) b.levels (fields_kinds b) b.bound b.at)) → signature_bytes (types_of (items_of (fields_data b))) ≡ signature_bytes (kinds_of (fields_kinds b))
body_codes b known = ap signature_bytes (fields_types (input_of b.input) b.levels (fields_kinds b) b.bound b.at known)
