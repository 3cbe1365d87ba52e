-- A new node that goes again leaves a face as it was.
use Rattle.std.proofs.Common.{◌≡◌, ℕ, Option, None, List, sym, ap, ◌∙◌, subst, inl, inr}
use Rattle.std.specs.FinMap.{get, remove}
use Rattle.atspi_faces.specs.face.Nodes.{Nodes}
use Rattle.atspi_protocol.specs.whole.Whole.{with_text, with_columns, with_actions}
use Rattle.atspi_protocol.proofs.OfWhole.Faces.{text_elsewhere, columns_elsewhere, actions_elsewhere}
use Rattle.atspi_app_exported.specs.Parts.{faces_of}
use Rattle.atspi_app_exported.proofs.Copied.{same_or_not, same_nodes, taken_there, taken_elsewhere}

-- nodes that differ at one node alone are the same without it, if it was not there
pub undone : (old new : Nodes) (n : ℕ) → get old n ≡ None → ((q : ℕ) → (q ≡ n → ⊥) → get new q ≡ get old q) → remove new n ≡ old
undone old new n none else = same_nodes (remove new n) old (λ q. elim (same_or_not q n) [
  | inl same ↦ subst (λ m. get (remove new n) m ≡ get old m) (sym same) (taken_there new n ∙ sym none)
  | inr other ↦ taken_elsewhere new n q other ∙ else q other
])

pub text_undone : (nodes : Nodes) (n : ℕ) (text : Option (List ℕ)) → get nodes n ≡ None → remove (with_text n text nodes) n ≡ nodes
text_undone nodes n text none = undone nodes (with_text n text nodes) n none (λ q ne. text_elsewhere n text nodes q ne)

pub columns_undone : (nodes : Nodes) (n : ℕ) (columns : Option ℕ) → get nodes n ≡ None → remove (with_columns n columns nodes) n ≡ nodes
columns_undone nodes n columns none = undone nodes (with_columns n columns nodes) n none (λ q ne. columns_elsewhere n columns nodes q ne)

pub actions_undone : (nodes : Nodes) (n : ℕ) (names : List (List ℕ)) → get nodes n ≡ None → remove (with_actions n names nodes) n ≡ nodes
actions_undone nodes n names none = undone nodes (with_actions n names nodes) n none (λ q ne. actions_elsewhere n names nodes q ne)

pub text_back : (old mid new : Nodes) (n : ℕ) (text : Option (List ℕ)) → get old n ≡ None → mid ≡ with_text n text old → new ≡ remove mid n → new ≡ old
text_back old mid new n text none m r = r ∙ ap (λ x. remove x n) m ∙ text_undone old n text none

pub columns_back : (old mid new : Nodes) (n : ℕ) (columns : Option ℕ) → get old n ≡ None → mid ≡ with_columns n columns old → new ≡ remove mid n → new ≡ old
columns_back old mid new n columns none m r = r ∙ ap (λ x. remove x n) m ∙ columns_undone old n columns none

pub actions_back : (old mid new : Nodes) (n : ℕ) (names : List (List ℕ)) → get old n ≡ None → mid ≡ with_actions n names old → new ≡ remove mid n → new ≡ old
actions_back old mid new n names none m r = r ∙ ap (λ x. remove x n) m ∙ actions_undone old n names none

pub same_faces : (a a' b b' c c' : Nodes) → a ≡ a' → b ≡ b' → c ≡ c' → faces_of a b c ≡ faces_of a' b' c'
same_faces a a' b b' c c' p q r = λ i. faces_of (p i) (q i) (r i)
