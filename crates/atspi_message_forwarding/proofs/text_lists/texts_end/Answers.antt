use Rattle.std.proofs.Common.{◌≡◌, ℕ, zero, suc, ◌+◌, List, [], ◌∷◌, ◌++◌, length, map, take, slice_get, Some, refl, ap, sym, ◌∙◌, arith}
use Rattle.std.specs.Borrow.{Bor}
use Rattle.atspi_base.specs.declared.text.Text.{Text}
use Rattle.atspi_types.specs.Borrowed.{ref_data}
use Rattle.atspi_types.specs.declared.borrowed.ValueRef.{ValueRef}
use Rattle.atspi_types.specs.declared.borrowed.ValueRef.TheVariants as refs
use Rattle.std.proofs.Math.Seq.{take-length}
use Rattle.std.proofs.lemmas.List.{take_more}
use Rattle.std.proofs.lemmas.Option.{slice_get_within, get_or_from_slice_get}
use Rattle.atspi_types.specs.Data.{Data, text_data, items_of}
use Rattle.atspi_types.specs.DataView.{all_data}
use Rattle.atspi_marshal.specs.Spelling.{spellings}
use Rattle.atspi_message.specs.Length.{told}
use Rattle.atspi_message.proofs.Lengths.{values_there}
use Rattle.atspi_message_forwarding.proofs.text_lists.texts_end.Goals as goal

pub loop-i-init : goal.loop-i-init
loop-i-init c = λ o place is. is ∙ ap told (omega arith)

pub loop-i-preserved : goal.loop-i-preserved
loop-i-preserved c = λ o place is.
    let xs = all_data c.args.texts.now in
    let i = c.loop-i.i in
    let d : Data = text_data c.in-Text.text.now in
    let there = c.in-Text.ensures in
    let more : take (i + 1) xs ≡ take i xs ++ d ∷ [] =
    take_more xs i d (slice_get_within xs i d there) ∙ ap (λ (x : Data). take i xs ++ x ∷ []) (get_or_from_slice_get xs i d d there) in
    c.text_end-end.ensures o _ (c.loop-i.invariant o place is)
    ∙ ap told (sym (values_there o place (take i xs) d) ∙ ap (λ (ds : List Data). place + length (spellings o place (items_of ds))) (sym more))

pub returns-clause-end : goal.returns-clause-end
returns-clause-end c = λ o place is.
    let xs = all_data c.args.texts.now in
    let end : c.loop-i.i ≡ length xs = omega arith in
    let all : take c.loop-i.i xs ≡ xs = ap (λ (n : ℕ). take n xs) end ∙ take-length xs in
    c.loop-i.invariant o place is ∙ ap (λ (ds : List Data). told (place + length (spellings o place (items_of ds)))) all

-- what is no text is none
not_text : (v : ValueRef) (t : List ℕ) → ((x : Bor Text) → v ≡ refs.Text x → ⊥) → ref_data v ≡ text_data t → ⊥
not_text (refs.Text x) t other e = other x refl
not_text _ t other e = cc

text_at : (names : List (List ℕ)) (i : ℕ) (d : Data) → slice_get (map text_data names) i ≡ Some d → (t : List ℕ) × (d ≡ text_data t)
text_at [] i d e = absurd cc
text_at (n ∷ names) zero d e = let s : d ≡ text_data n = cc in (n, s)
text_at (n ∷ names) (suc i) d e = text_at names i d e

pub returns-in_default-clause-known : goal.returns-in_default-clause-known
returns-in_default-clause-known c = λ names e.
    let v = c.at.result in
    let there = text_at names c.loop-i.i (ref_data v) (sym (ap (λ (xs : List Data). slice_get xs c.loop-i.i) e) ∙ c.at.ensures) in
    absurd (not_text v there.0 c.in_default.not-Text there.1)
