-- An action by its name.
use Rattle.std.proofs.Common.{◌≡◌, ℕ, Bool, true, false, Ok, List, refl, sym, ap, ◌∙◌, encode_utf8_all}
use Rattle.std.specs.Prelude.{bytes_eq}
use Rattle.std.proofs.lemmas.Slice.Eq.{bytes_eq-Decides}
use Rattle.std.proofs.lemmas.Str.{encodes_same}
use Rattle.atspi_tree_model.specs.Edits.{acting, made_steps, pressing, steps_unless}
use Rattle.atspi_tree_model.specs.declared.contents.FaceData.{FaceData}
use Rattle.atspi_tree_model.specs.declared.edit.Edit.TheVariants.{Press}
use Rattle.atspi_tree.specs.TreeShape.{TreeShape}
use Rattle.atspi_tree_edits.specs.Answers.{edit_steps}
use Rattle.atspi_tree_edits.specs.inner.Deeds.{IsDeed}

-- the bytes of a text are those of a word where its characters are
pub same_word : (cs word : List ℕ) → encode_utf8_all word ≡ word → bytes_eq (encode_utf8_all cs) word ≡ bytes_eq cs word
same_word cs word e = at (bytes_eq (encode_utf8_all cs) word) refl (bytes_eq cs word) refl
  where
    at : (b : Bool) → bytes_eq (encode_utf8_all cs) word ≡ b → (d : Bool) → bytes_eq cs word ≡ d → b ≡ d
    at true h true k = refl
    at false h false k = refl
    at true h false k =
        let same : cs ≡ word = encodes_same cs word ((bytes_eq-Decides (encode_utf8_all cs) word).0 h ∙ sym e) in
        sym ((bytes_eq-Decides cs word).1 same) ∙ k
    at false h true k =
        let same : cs ≡ word = (bytes_eq-Decides cs word).0 k in
        sym h ∙ (bytes_eq-Decides (encode_utf8_all cs) word).1 (ap encode_utf8_all same ∙ e)

-- an action that may be done: the steps of that edit
pub presses : (t : TreeShape) (known : FaceData) (n i : ℕ) (name : List ℕ) → IsDeed t known n i name → edit_steps t known (Press n i) ≡ Ok (acting t.rows t.added n name)
presses t known n i name h =
    ap (λ fault. steps_unless fault (made_steps t.rows t.added known (Press n i))) h.allowed
    ∙ ap (λ (names : List (List ℕ)). Ok (pressing t.rows t.added n names)) h.stands
