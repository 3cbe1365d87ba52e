use Rattle.std.proofs.Common.{◌≡◌, List, [], ◌∷◌, length, Some, slice_get, ap, ◌∙◌, arith}
use Rattle.atspi_types.specs.Kinds.{Kind}
use Rattle.atspi_types.specs.KindView.{kind_of}
use Rattle.atspi_types.specs.Data.{Data, array_data, items_of}
use Rattle.atspi_types.specs.DataView.{all_data}
use Rattle.atspi_types.specs.Borrowed.{ref_data}
use Rattle.atspi_types.specs.declared.borrowed.ValueRef.{ValueRef}
use Rattle.atspi_types.proofs.KindLemmas.{kind_of-Text}
use Rattle.atspi_message_forwarding.proofs.text_lists.only_texts.Goals as goal

one : (xs : List Data) (d : Data) → length xs ≡ 1 → slice_get xs 0 ≡ Some d → xs ≡ d ∷ []
one [] d l p = absurd (omega arith)
one (x ∷ []) d l p = let e : x ≡ d = cc in cc
one (x ∷ y ∷ more) d l p = absurd (omega arith)

pub returns-in-Array-Text-default-clause-elements : goal.returns-in-Array-Text-default-clause-elements
returns-in-Array-Text-default-clause-elements c =
    let arm = c.in-Array-Text-default in
    let items = items_of (all_data arm.texts.now) in
    let there = c.at.ensures ∙ ap (λ (v : ValueRef). Some (ref_data v)) arm.is ∙ ap (λ (k : Kind). Some (array_data k items)) (ap kind_of arm.field-0-is ∙ kind_of-Text) in
    one (all_data c.args.body.now) _ (omega arith) there
