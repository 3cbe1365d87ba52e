-- Writing fields one behind the other.
use Rattle.std.proofs.Common.{◌≡◌, ℕ, ◌+◌, ◌≤◌, List, [], ◌∷◌, ◌++◌, length, Result, Ok, Err, refl, sym, ap, subst, ◌∙◌, append_assoc, arith}
use Rattle.std.specs.Prelude.{OnOk}
use Rattle.std.proofs.lemmas.List.{append-nil, length-append}
use Rattle.atspi_types.specs.declared.fault.Order.{Order}
use Rattle.atspi_marshal.specs.declared.writing.fault.WriteFault.{WriteFault}
use Rattle.atspi_marshal.specs.declared.writing.fault.WriteFault.TheVariants as faults
use Rattle.atspi_marshal.specs.Spelling.{spelling, spellings}
use Rattle.atspi_marshal.specs.Writing.{Writes}
use Rattle.atspi_marshal.proofs.WritingSteps.{Writes-behind, Writes-refused}
use Rattle.atspi_marshal.proofs.WritingLists.{front_self, front_behind}
use Rattle.atspi_message.specs.Bytes.{Field, field_data, field_items}
use Rattle.atspi_message.specs.inner.Writing.{FieldsFitAt, PutsFields}

abbrev fields_end : Order → ℕ → List Field → ℕ
fields_end o at fs = at + length (spellings o at (field_items fs))

abbrev spelled_at : Order → List Field → ℕ → List ℕ
spelled_at o gs m = spellings o m (field_items gs)

pub spellings-append : (o : Order) (at : ℕ) (fs gs : List Field) → spellings o at (field_items (fs ++ gs)) ≡ spellings o at (field_items fs) ++ spellings o (fields_end o at fs) (field_items gs)
spellings-append o at [] gs = let same : at ≡ at + 0 = omega arith in ap (spelled_at o gs) same
spellings-append o at (f ∷ fs) gs =
    let one = spelling o at (field_data f) in
    let next = at + length one in
    let rest = spellings o next (field_items fs) in
    let place : next + length rest ≡ at + length (one ++ rest) = omega (arith, length-append one rest) in
    ap (λ (bs : List ℕ). one ++ bs) (spellings-append o next fs gs ∙ ap (λ (m : ℕ). rest ++ spelled_at o gs m) place) ∙ sym (append_assoc one rest (spelled_at o gs (at + length (one ++ rest))))

fits_both : (o : Order) (at : ℕ) (fs gs : List Field) → FieldsFitAt o at fs → FieldsFitAt o (fields_end o at fs) gs → FieldsFitAt o at (fs ++ gs)
fits_both o at [] gs f g = let same : at + 0 ≡ at = omega arith in subst (λ (m : ℕ). FieldsFitAt o m gs) same g
fits_both o at (x ∷ fs) gs f g =
    let one = spelling o at (field_data x) in
    let next = at + length one in
    let rest = spellings o next (field_items fs) in
    let place : at + length (one ++ rest) ≡ next + length rest = omega (arith, length-append one rest) in
    (f.0, fits_both o next fs gs f.1 (subst (λ (m : ℕ). FieldsFitAt o m gs) place g))

fits_first : (o : Order) (at : ℕ) (fs gs : List Field) → FieldsFitAt o at (fs ++ gs) → FieldsFitAt o at fs
fits_first o at [] gs f = tt
fits_first o at (x ∷ fs) gs f = (f.0, fits_first o (at + length (spelling o at (field_data x))) fs gs f.1)

fits_last : (o : Order) (at : ℕ) (fs gs : List Field) → FieldsFitAt o at (fs ++ gs) → FieldsFitAt o (fields_end o at fs) gs
fits_last o at [] gs f = let same : at ≡ at + 0 = omega arith in subst (λ (m : ℕ). FieldsFitAt o m gs) same f
fits_last o at (x ∷ fs) gs f =
    let one = spelling o at (field_data x) in
    let next = at + length one in
    let rest = spellings o next (field_items fs) in
    let place : next + length rest ≡ at + length (one ++ rest) = omega (arith, length-append one rest) in
    subst (λ (m : ℕ). FieldsFitAt o m gs) place (fits_last o next fs gs f.1)

-- no field
pub puts_none : (o : Order) (at : ℕ) (old : List ℕ) → at ≤ 134217728 → PutsFields o at [] old old (Ok at)
puts_none o at old le = record { writes = record { may = tt; appended = sym (append-nil old); place = omega arith; within = le }; front = front_self old }

-- fields, and others behind them
pub puts_then : (o : Order) (at m : ℕ) (fs gs : List Field) (old mid new : List ℕ) (r : Result ℕ WriteFault) → PutsFields o at fs old mid (Ok m) → PutsFields o m gs mid new r → PutsFields o at (fs ++ gs) old new r
puts_then o at m fs gs old mid new r p q =
    let end = fields_end o at fs in
    let there : m ≡ end = p.writes.place in
    let here = subst (λ (n : ℕ). Writes (FieldsFitAt o n gs) (spelled_at o gs n) n mid new r) there q.writes in
    let both = Writes-behind (FieldsFitAt o end gs) (FieldsFitAt o at (fs ++ gs)) (spellings o at (field_items fs)) (spelled_at o gs end) at end old mid new r p.writes.appended refl (λ g. fits_both o at fs gs p.writes.may g) (λ f. fits_last o at fs gs f) here in
    record {
      writes = subst (λ (bs : List ℕ). Writes (FieldsFitAt o at (fs ++ gs)) bs at old new r) (sym (spellings-append o at fs gs)) both;
      front = front_behind old mid new p.front q.front;
    }

pub puts_refused : (o : Order) (at : ℕ) (fs gs : List Field) (old new : List ℕ) (e : WriteFault) → PutsFields o at fs old new (Err e) → PutsFields o at (fs ++ gs) old new (Err e)
puts_refused o at fs gs old new e p =
    let one = spellings o at (field_items fs) in
    let le : at + length one ≤ at + length (spellings o at (field_items (fs ++ gs))) = omega (arith, ap length (spellings-append o at fs gs), length-append one (spelled_at o gs (fields_end o at fs))) in
    record { writes = Writes-refused (FieldsFitAt o at fs) (FieldsFitAt o at (fs ++ gs)) one (spellings o at (field_items (fs ++ gs))) at at old new old new e (fits_first o at fs gs) le p.writes; front = p.front }

-- what holds where a call succeeds
pub on_ok : {T : Type 0} (P Q : Type 0) (r : Result T WriteFault) → (P → Q) → OnOk r P → OnOk r Q
on_ok P Q (Ok x) f h = f h
on_ok P Q (Err e) f h = tt
