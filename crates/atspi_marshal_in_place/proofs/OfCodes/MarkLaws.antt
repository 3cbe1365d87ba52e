-- The marks step as contexts do.
use Rattle.std.proofs.Common.{◌≡◌, ℕ, ◌+◌, Bool, true, false, List, [], ◌∷◌, Option, None, refl, ap, ◌∙◌, if◌then◌else◌}
use Rattle.atspi_types.specs.Kinds.{Kind, array, structure, dictionary, kinds_of, is_basic}
use Rattle.atspi_types.specs.SignatureFaults.{Token, code, array_code, struct_open, struct_close, entry_open, entry_close, descriptor, no_code, end, token_of, Context, at_top, in_array, in_struct, in_entry, arrays_open, structs_open}
use Rattle.atspi_types.specs.SignatureReading.{refusal, type_refusal, depth_refusal, with_type, with_token}
use Rattle.atspi_types.proofs.SignatureSteps.{TokenFits, token_fits}
use Rattle.atspi_marshal_in_place.specs.declared.codes.code.Code.TheVariants as codes
use Rattle.atspi_marshal_in_place.specs.declared.codes.marks.Mark.{Mark}
use Rattle.atspi_marshal_in_place.specs.codes.inner.Marks.{code_of, marks_of, innermost, arrays_in, structs_in, end_marked, type_marked, refusal_marked, typed, marks_after}

-- as many stand open as are marked
pub arrays-marked : (c : Context) → arrays_open c ≡ arrays_in (marks_of c)
arrays-marked (at_top ks) = refl
arrays-marked (in_array c) = ap (λ n. n + 1) (arrays-marked c)
arrays-marked (in_struct c []) = arrays-marked c
arrays-marked (in_struct c (k ∷ ks)) = arrays-marked c
arrays-marked (in_entry c []) = ap (λ n. n + 1) (arrays-marked c)
arrays-marked (in_entry c (key ∷ [])) = ap (λ n. n + 1) (arrays-marked c)
arrays-marked (in_entry c (key ∷ value ∷ ks)) = ap (λ n. n + 1) (arrays-marked c)

pub structs-marked : (c : Context) → structs_open c ≡ structs_in (marks_of c)
structs-marked (at_top ks) = refl
structs-marked (in_array c) = structs-marked c
structs-marked (in_struct c []) = ap (λ n. n + 1) (structs-marked c)
structs-marked (in_struct c (k ∷ ks)) = ap (λ n. n + 1) (structs-marked c)
structs-marked (in_entry c []) = structs-marked c
structs-marked (in_entry c (key ∷ [])) = structs-marked c
structs-marked (in_entry c (key ∷ value ∷ ks)) = structs-marked c

type-marked : (c : Context) (basic : Bool) (deep : Option ℕ) → type_refusal c basic deep ≡ type_marked (innermost (marks_of c)) basic deep
type-marked (at_top ks) basic deep = refl
type-marked (in_array c) basic deep = refl
type-marked (in_struct c []) basic deep = refl
type-marked (in_struct c (k ∷ ks)) basic deep = refl
type-marked (in_entry c []) basic deep = refl
type-marked (in_entry c (key ∷ [])) basic deep = refl
type-marked (in_entry c (key ∷ value ∷ ks)) basic deep = refl

-- a token that a byte can be
abbrev pub IsOfByte : Token → Type 0
IsOfByte (code k) = Unit {0}
IsOfByte array_code = Unit {0}
IsOfByte struct_open = Unit {0}
IsOfByte struct_close = Unit {0}
IsOfByte entry_open = Unit {0}
IsOfByte entry_close = Unit {0}
IsOfByte descriptor = Unit {0}
IsOfByte no_code = Unit {0}
IsOfByte end = ⊥

of_fitting : (b : ℕ) (t : Token) → TokenFits b t → IsOfByte t
of_fitting b (code k) h = tt
of_fitting b array_code h = tt
of_fitting b struct_open h = tt
of_fitting b struct_close h = tt
of_fitting b entry_open h = tt
of_fitting b entry_close h = tt
of_fitting b descriptor h = tt
of_fitting b no_code h = tt
of_fitting b end h = h

pub of_byte : (b : ℕ) → IsOfByte (token_of b)
of_byte b = of_fitting b (token_of b) (token_fits b)

-- a code is refused behind the marks of a context as in the context
code-marked : (ms : List Mark) (basic : Bool) → type_marked (innermost ms) basic None ≡ refusal_marked ms (if basic then codes.Basic else codes.Variant)
code-marked ms true = refl
code-marked ms false = refl

pub refusal-marked : (c : Context) (t : Token) → IsOfByte t → refusal c t ≡ refusal_marked (marks_of c) (code_of t)
unfolding refusal
refusal-marked c (code k) h = type-marked c (is_basic k) None ∙ code-marked (marks_of c) (is_basic k)
refusal-marked c array_code h = type-marked c false (depth_refusal (arrays_open c)) ∙ ap (λ n. type_marked (innermost (marks_of c)) false (depth_refusal n)) (arrays-marked c)
refusal-marked c struct_open h = type-marked c false (depth_refusal (structs_open c)) ∙ ap (λ n. type_marked (innermost (marks_of c)) false (depth_refusal n)) (structs-marked c)
refusal-marked (at_top ks) struct_close h = refl
refusal-marked (in_array c) struct_close h = refl
refusal-marked (in_struct c []) struct_close h = refl
refusal-marked (in_struct c (k ∷ ks)) struct_close h = refl
refusal-marked (in_entry c []) struct_close h = refl
refusal-marked (in_entry c (key ∷ [])) struct_close h = refl
refusal-marked (in_entry c (key ∷ value ∷ ks)) struct_close h = refl
refusal-marked (at_top ks) entry_open h = refl
refusal-marked (in_array c) entry_open h = refl
refusal-marked (in_struct c []) entry_open h = refl
refusal-marked (in_struct c (k ∷ ks)) entry_open h = refl
refusal-marked (in_entry c []) entry_open h = refl
refusal-marked (in_entry c (key ∷ [])) entry_open h = refl
refusal-marked (in_entry c (key ∷ value ∷ ks)) entry_open h = refl
refusal-marked (at_top ks) entry_close h = refl
refusal-marked (in_array c) entry_close h = refl
refusal-marked (in_struct c []) entry_close h = refl
refusal-marked (in_struct c (k ∷ ks)) entry_close h = refl
refusal-marked (in_entry c []) entry_close h = refl
refusal-marked (in_entry c (key ∷ [])) entry_close h = refl
refusal-marked (in_entry c (key ∷ value ∷ ks)) entry_close h = refl
refusal-marked c descriptor h = refl
refusal-marked c no_code h = refl
refusal-marked c end h = absurd h

pub end-marked : (c : Context) → refusal c end ≡ end_marked (innermost (marks_of c))
unfolding refusal
end-marked (at_top ks) = refl
end-marked (in_array c) = refl
end-marked (in_struct c []) = refl
end-marked (in_struct c (k ∷ ks)) = refl
end-marked (in_entry c []) = refl
end-marked (in_entry c (key ∷ [])) = refl
end-marked (in_entry c (key ∷ value ∷ ks)) = refl

-- a whole type counts in the marks
pub typed-marks : (c : Context) (k : Kind) → marks_of (with_type c k) ≡ typed (marks_of c)
typed-marks (at_top ks) k = refl
typed-marks (in_array c) k = typed-marks c (array k)
typed-marks (in_struct c []) k = refl
typed-marks (in_struct c (j ∷ ks)) k = refl
typed-marks (in_entry c []) k = refl
typed-marks (in_entry c (key ∷ [])) k = refl
typed-marks (in_entry c (key ∷ value ∷ ks)) k = refl

-- the marks behind a code that is not refused are those of the context behind it
pub marks-after : (c : Context) (t : Token) → refusal c t ≡ None → marks_of (with_token c t) ≡ marks_after (marks_of c) (code_of t)
unfolding refusal with_token
marks-after c (code k) h = typed-marks c k ∙ by (is_basic k)
  where
    by : (basic : Bool) → typed (marks_of c) ≡ marks_after (marks_of c) (if basic then codes.Basic else codes.Variant)
    by true = refl
    by false = refl
marks-after c array_code h = refl
marks-after c struct_open h = refl
marks-after (at_top ks) struct_close h = absurd cc
marks-after (in_array c) struct_close h = absurd cc
marks-after (in_struct c []) struct_close h = absurd cc
marks-after (in_struct c (k ∷ ks)) struct_close h = typed-marks c (structure (kinds_of (k ∷ ks)))
marks-after (in_entry c ks) struct_close h = absurd cc
marks-after (at_top ks) entry_open h = absurd cc
marks-after (in_array c) entry_open h = refl
marks-after (in_struct c ks) entry_open h = absurd cc
marks-after (in_entry c ks) entry_open h = absurd cc
marks-after (at_top ks) entry_close h = absurd cc
marks-after (in_array c) entry_close h = absurd cc
marks-after (in_struct c ks) entry_close h = absurd cc
marks-after (in_entry c []) entry_close h = absurd cc
marks-after (in_entry c (key ∷ [])) entry_close h = absurd cc
marks-after (in_entry c (key ∷ value ∷ ks)) entry_close h = typed-marks c (dictionary key value)
marks-after c descriptor h = absurd cc
marks-after c no_code h = absurd cc
marks-after c end h = by c h
  where
    by : (c : Context) → refusal c end ≡ None → marks_of c ≡ marks_after (marks_of c) codes.NoCode
    by c h = refl
