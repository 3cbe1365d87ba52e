-- What was found stands for the fields that were met.
use Rattle.std.proofs.Common.{◌≡◌, ℕ, zero, suc, ◌+◌, ◌<◌, ◌≤◌, Bool, true, false, cond, eqb, List, [], ◌∷◌, ◌++◌, length, Option, Some, None, refl, sym, ap, subst, ◌∙◌, arith, inl, inr, ◌⊎◌}
use Rattle.std.specs.Prelude.{◌==◌}
use Rattle.std.proofs.lemmas.Bool.{eqb-true, eqb-false, eq-eqb}
use Rattle.atspi_types.specs.Data.{Data}
use Rattle.atspi_message.specs.declared.code.Code.{Code}
use Rattle.atspi_message.specs.declared.code.Code.TheVariants.{Path, Interface, Member, Error, Reply, Destination, Sender, Signature, Descriptors}
use Rattle.atspi_message.specs.Codes.{number_of, code_of}
use Rattle.atspi_message.specs.Bytes.{Field, with_code}
use Rattle.atspi_message.specs.Faults.{Lacks}
use Rattle.atspi_message.specs.inner.Reading.{Found, none_found, slot, put, is_there}

pub slot_put : (c k : Code) (d : Data) (f : Found) → slot k (put c d f) ≡ cond (number_of c == number_of k) (Some d) (slot k f)
slot_put Path Path d f = refl
slot_put Path Interface d f = refl
slot_put Path Member d f = refl
slot_put Path Error d f = refl
slot_put Path Reply d f = refl
slot_put Path Destination d f = refl
slot_put Path Sender d f = refl
slot_put Path Signature d f = refl
slot_put Path Descriptors d f = refl
slot_put Interface Path d f = refl
slot_put Interface Interface d f = refl
slot_put Interface Member d f = refl
slot_put Interface Error d f = refl
slot_put Interface Reply d f = refl
slot_put Interface Destination d f = refl
slot_put Interface Sender d f = refl
slot_put Interface Signature d f = refl
slot_put Interface Descriptors d f = refl
slot_put Member Path d f = refl
slot_put Member Interface d f = refl
slot_put Member Member d f = refl
slot_put Member Error d f = refl
slot_put Member Reply d f = refl
slot_put Member Destination d f = refl
slot_put Member Sender d f = refl
slot_put Member Signature d f = refl
slot_put Member Descriptors d f = refl
slot_put Error Path d f = refl
slot_put Error Interface d f = refl
slot_put Error Member d f = refl
slot_put Error Error d f = refl
slot_put Error Reply d f = refl
slot_put Error Destination d f = refl
slot_put Error Sender d f = refl
slot_put Error Signature d f = refl
slot_put Error Descriptors d f = refl
slot_put Reply Path d f = refl
slot_put Reply Interface d f = refl
slot_put Reply Member d f = refl
slot_put Reply Error d f = refl
slot_put Reply Reply d f = refl
slot_put Reply Destination d f = refl
slot_put Reply Sender d f = refl
slot_put Reply Signature d f = refl
slot_put Reply Descriptors d f = refl
slot_put Destination Path d f = refl
slot_put Destination Interface d f = refl
slot_put Destination Member d f = refl
slot_put Destination Error d f = refl
slot_put Destination Reply d f = refl
slot_put Destination Destination d f = refl
slot_put Destination Sender d f = refl
slot_put Destination Signature d f = refl
slot_put Destination Descriptors d f = refl
slot_put Sender Path d f = refl
slot_put Sender Interface d f = refl
slot_put Sender Member d f = refl
slot_put Sender Error d f = refl
slot_put Sender Reply d f = refl
slot_put Sender Destination d f = refl
slot_put Sender Sender d f = refl
slot_put Sender Signature d f = refl
slot_put Sender Descriptors d f = refl
slot_put Signature Path d f = refl
slot_put Signature Interface d f = refl
slot_put Signature Member d f = refl
slot_put Signature Error d f = refl
slot_put Signature Reply d f = refl
slot_put Signature Destination d f = refl
slot_put Signature Sender d f = refl
slot_put Signature Signature d f = refl
slot_put Signature Descriptors d f = refl
slot_put Descriptors Path d f = refl
slot_put Descriptors Interface d f = refl
slot_put Descriptors Member d f = refl
slot_put Descriptors Error d f = refl
slot_put Descriptors Reply d f = refl
slot_put Descriptors Destination d f = refl
slot_put Descriptors Sender d f = refl
slot_put Descriptors Signature d f = refl
slot_put Descriptors Descriptors d f = refl

pub code_of-number : (c : Code) → code_of (number_of c) ≡ Some c
code_of-number Path = refl
code_of-number Interface = refl
code_of-number Member = refl
code_of-number Error = refl
code_of-number Reply = refl
code_of-number Destination = refl
code_of-number Sender = refl
code_of-number Signature = refl
code_of-number Descriptors = refl

pub number_not_zero : (c : Code) → number_of c ≡ 0 → ⊥
number_not_zero Path e = cc
number_not_zero Interface e = cc
number_not_zero Member e = cc
number_not_zero Error e = cc
number_not_zero Reply e = cc
number_not_zero Destination e = cc
number_not_zero Sender e = cc
number_not_zero Signature e = cc
number_not_zero Descriptors e = cc

-- one test of the table of codes
table_step : (n k : ℕ) (a c : Code) (t : Bool) (rest : Option Code) → (n == k) ≡ t → k ≡ number_of a → cond t (Some a) rest ≡ Some c → (rest ≡ Some c → n ≡ number_of c) → n ≡ number_of c
table_step n k a c true rest is same e more = let who : a ≡ c = cc in eqb-true n k is ∙ same ∙ ap number_of who
table_step n k a c false rest is same e more = more e

pub number-code_of : (n : ℕ) (c : Code) → code_of n ≡ Some c → n ≡ number_of c
number-code_of n c e =
    table_step n 1 Path c (n == 1) _ refl refl e (λ e1.
    table_step n 2 Interface c (n == 2) _ refl refl e1 (λ e2.
    table_step n 3 Member c (n == 3) _ refl refl e2 (λ e3.
    table_step n 4 Error c (n == 4) _ refl refl e3 (λ e4.
    table_step n 5 Reply c (n == 5) _ refl refl e4 (λ e5.
    table_step n 6 Destination c (n == 6) _ refl refl e5 (λ e6.
    table_step n 7 Sender c (n == 7) _ refl refl e6 (λ e7.
    table_step n 8 Signature c (n == 8) _ refl refl e7 (λ e8.
    table_step n 9 Descriptors c (n == 9) _ refl refl e8 (λ e9.
    absurd cc)))))))))

pub no_code_of : (n : ℕ) (c : Code) → code_of n ≡ None → (n == number_of c) ≡ false
no_code_of n c e = split (n == number_of c) refl
  where
    split : (t : Bool) → (n == number_of c) ≡ t → t ≡ false
    split true is = absurd (let other : code_of n ≡ Some c = ap code_of (eqb-true n (number_of c) is) ∙ code_of-number c in let clash = sym e ∙ other in cc)
    split false is = refl

-- a value, or none, as a list
abbrev pub slot_list : Option Data → List Data
slot_list (Some d) = d ∷ []
slot_list None = []

-- each known field that was found is the one with its code among those that were met
abbrev pub Tracks : Found → List Field → Type 0
Tracks found fs = (c : Code) → slot_list (slot c found) ≡ with_code (number_of c) fs

pub tracks_none : Tracks none_found []
tracks_none Path = refl
tracks_none Interface = refl
tracks_none Member = refl
tracks_none Error = refl
tracks_none Reply = refl
tracks_none Destination = refl
tracks_none Sender = refl
tracks_none Signature = refl
tracks_none Descriptors = refl

pub not_there : (o : Option Data) → is_there o ≡ false → o ≡ None
not_there (Some d) e = absurd cc
not_there None e = refl

pub there_not : (found : Found) (fs : List Field) (c : Code) → Tracks found fs → is_there (slot c found) ≡ true → Lacks (number_of c) fs → ⊥
there_not found fs c tracks is lacks = by (slot c found) is (tracks c ∙ lacks)
  where
    by : (o : Option Data) → is_there o ≡ true → slot_list o ≡ [] → ⊥
    by (Some d) is e = cc
    by None is e = cc

pub lacks_there : (found : Found) (fs : List Field) (c : Code) → Tracks found fs → is_there (slot c found) ≡ false → Lacks (number_of c) fs
lacks_there found fs c tracks is = sym (tracks c) ∙ ap slot_list (not_there (slot c found) is)

-- the found fields and one more
abbrev pub put_some : Option Code → Data → Found → Found
put_some (Some c) d found = put c d found
put_some None d found = found

abbrev pub found_with : Field → Found → Found
found_with f found = put_some (code_of f.code) f.value found

pub with_code-append : (n : ℕ) (fs gs : List Field) → with_code n (fs ++ gs) ≡ with_code n fs ++ with_code n gs
with_code-append n [] gs = refl
with_code-append n (f ∷ fs) gs = by (f.code == n) (with_code-append n fs gs)
  where
    by : (t : Bool) → with_code n (fs ++ gs) ≡ with_code n fs ++ with_code n gs → cond t (f.value ∷ with_code n (fs ++ gs)) (with_code n (fs ++ gs)) ≡ cond t (f.value ∷ with_code n fs) (with_code n fs) ++ with_code n gs
    by true e = ap (λ (ds : List Data). f.value ∷ ds) e
    by false e = e

pub with_code_one : (n : ℕ) (f : Field) → with_code n (f ∷ []) ≡ cond (f.code == n) (f.value ∷ []) []
with_code_one n f = refl

pub append_none : (ds : List Data) → ds ++ [] ≡ ds
append_none [] = refl
append_none (d ∷ ds) = ap (λ (es : List Data). d ∷ es) (append_none ds)

pub tracks_more : (found : Found) (fs : List Field) (f : Field) → Tracks found fs → ((c : Code) → f.code ≡ number_of c → is_there (slot c found) ≡ false) → Tracks (found_with f found) (fs ++ f ∷ [])
tracks_more found fs f tracks fresh k = by (code_of f.code) refl ∙ sym (with_code-append (number_of k) fs (f ∷ []))
  where
    known : (c : Code) (t : Bool) → f.code ≡ number_of c → (f.code == number_of k) ≡ t → slot_list (cond t (Some f.value) (slot k found)) ≡ with_code (number_of k) fs ++ cond t (f.value ∷ []) []
    known c false is same = tracks k ∙ sym (append_none (with_code (number_of k) fs))
    known c true is same = rw (sym (tracks k) ∙ ap slot_list (not_there (slot k found) (fresh k (eqb-true _ _ same)))) refl

    by : (o : Option Code) → code_of f.code ≡ o → slot_list (slot k (put_some o f.value found)) ≡ with_code (number_of k) fs ++ with_code (number_of k) (f ∷ [])
    by (Some c) is =
        let coded = number-code_of f.code c is in
        let which : (number_of c == number_of k) ≡ (f.code == number_of k) = ap (λ (n : ℕ). n == number_of k) (sym coded) in
        ap slot_list (slot_put c k f.value found ∙ ap (λ (t : Bool). cond t (Some f.value) (slot k found)) which) ∙ known c (f.code == number_of k) coded refl
    by None is = tracks k ∙ sym (ap (λ (t : Bool). with_code (number_of k) fs ++ cond t (f.value ∷ []) []) (no_code_of f.code k is) ∙ append_none (with_code (number_of k) fs))
