-- What is read of one node, put together, is what the face keeps of it.
use Rattle.std.proofs.Common.{◌≡◌, ℕ, ◌+◌, ◌-◌, ◌<◌, ◌≤◌, Option, Some, None, List, [], ◌∷◌, ◌++◌, refl, sym, ap, ◌∙◌, arith, get_or}
use Rattle.std.specs.Prelude.{length, take, IsSome, MatchOption}
use Rattle.std.specs.Option.{option_map_or}
use Rattle.std.specs.FinMap.{get}
use Rattle.std.proofs.lemmas.Bool.{false≢true}
use Rattle.std.proofs.lemmas.List.{take_all, take_more}
use Rattle.atspi_tree_model.specs.declared.contents.FaceKind.{FaceKind}
use Rattle.atspi_tree_model.specs.declared.contents.FaceKind.TheVariants.{Chars as chars_kind, Grid as grid_kind, Deeds as deeds_kind}
use Rattle.atspi_tree_model.specs.declared.contents.FaceData.{FaceData}
use Rattle.atspi_tree_model.specs.declared.contents.FaceData.TheVariants.{Chars, Grid, Deeds}
use Rattle.atspi_faces.specs.face.Contents.{kind_of, caret_of, count_of, marks_of, part_of, IsPart}
use Rattle.atspi_faces.specs.face.Nodes.{Nodes, AreContents, HasText, HasPart, count_at, caret_at, marks_at, part_at}
use Rattle.atspi_protocol.specs.whole.Whole.{as_actions}
use Rattle.atspi_app_exported.specs.Asking.{HasNames}

-- all of a text is a part of it
part_by : (o : Option FaceData) (count : ℕ) → MatchOption o ⊥ (λ what. kind_of what ≡ chars_kind) → count ≡ option_map_or count_of o 0
    → MatchOption o ⊥ (λ what. IsPart what 0 count)
part_by None count h e = h
part_by (Some (Chars text caret marks)) count h e = (omega arith, omega arith)
part_by (Some (Grid columns)) count h e = absurd cc
part_by (Some (Deeds names)) count h e = absurd cc

pub whole_part : (nodes : Nodes) (node count : ℕ) → HasText nodes node → count ≡ count_at nodes node → HasPart nodes node 0 count
whole_part nodes node count h e = part_by (get nodes node) count h e

text_by : (o : Option FaceData) (count caret : ℕ) (text : List ℕ) (marks : List (ℕ × ℕ)) → MatchOption o ⊥ (λ what. kind_of what ≡ chars_kind)
    → count ≡ option_map_or count_of o 0 → caret ≡ option_map_or caret_of o 0
    → text ≡ option_map_or (λ what. part_of what 0 count) o [] → marks ≡ option_map_or marks_of o [] → o ≡ Some (Chars text caret marks)
text_by None count caret text marks h e c t m = absurd h
text_by (Some (Chars all at ranges)) count caret text marks h e c t m =
    let long : length all ≤ count - 0 = omega arith in
    let same : text ≡ all = t ∙ take_all (count - 0) all long in cc
text_by (Some (Grid columns)) count caret text marks h e c t m = absurd cc
text_by (Some (Deeds names)) count caret text marks h e c t m = absurd cc

-- a text with its caret and its selections is what is kept
pub text_whole : (nodes : Nodes) (node count caret : ℕ) (text : List ℕ) (marks : List (ℕ × ℕ)) → HasText nodes node → count ≡ count_at nodes node
    → caret ≡ caret_at nodes node → text ≡ part_at nodes node 0 count → marks ≡ marks_at nodes node → get nodes node ≡ Some (Chars text caret marks)
text_whole nodes node count caret text marks h e c t m = text_by (get nodes node) count caret text marks h e c t m

-- the names of actions, one after another
count_by_kind : (o : Option FaceData) → MatchOption o ⊥ (λ what. kind_of what ≡ deeds_kind) → option_map_or count_of o 0 ≡ length (as_actions o)
count_by_kind None h = absurd h
count_by_kind (Some (Chars text caret marks)) h = absurd cc
count_by_kind (Some (Grid columns)) h = absurd cc
count_by_kind (Some (Deeds names)) h = refl

pub count_names : (nodes : Nodes) (node : ℕ) → HasNames nodes node → count_at nodes node ≡ length (as_actions (get nodes node))
count_names nodes node h = count_by_kind (get nodes node) h

name_part_by : (o : Option FaceData) (i to : ℕ) → MatchOption o ⊥ (λ what. kind_of what ≡ deeds_kind) → i < option_map_or count_of o 0
    → MatchOption o ⊥ (λ what. IsPart what i to)
name_part_by None i to h l = h
name_part_by (Some (Chars text caret marks)) i to h l = absurd cc
name_part_by (Some (Grid columns)) i to h l = absurd cc
name_part_by (Some (Deeds names)) i to h l = l

pub name_part : (nodes : Nodes) (node i to count : ℕ) → HasNames nodes node → count ≡ count_at nodes node → i < count → HasPart nodes node i to
name_part nodes node i to count h e l = name_part_by (get nodes node) i to h (omega arith)

name_by : (o : Option FaceData) (i to : ℕ) → MatchOption o ⊥ (λ what. kind_of what ≡ deeds_kind)
    → option_map_or (λ what. part_of what i to) o [] ≡ get_or (as_actions o) i []
name_by None i to h = absurd h
name_by (Some (Chars text caret marks)) i to h = absurd cc
name_by (Some (Grid columns)) i to h = absurd cc
name_by (Some (Deeds names)) i to h = refl

pub names_more : (nodes : Nodes) (node i to count : ℕ) (old new : List (List ℕ)) (name : List ℕ) → HasNames nodes node → count ≡ count_at nodes node → i < count
    → old ≡ take i (as_actions (get nodes node)) → name ≡ part_at nodes node i to → new ≡ old ++ name ∷ []
    → new ≡ take (i + 1) (as_actions (get nodes node))
names_more nodes node i to count old new name h e l o n w =
    let c = count_names nodes node h in
    let p = name_by (get nodes node) i to h in
    let in_range : i < length (as_actions (get nodes node)) = omega arith in
    w ∙ ap (λ xs. xs ++ name ∷ []) o ∙ ap (λ x. take i (as_actions (get nodes node)) ++ x ∷ []) (n ∙ p) ∙ sym (take_more (as_actions (get nodes node)) i [] in_range)

deeds_by : (o : Option FaceData) → MatchOption o ⊥ (λ what. kind_of what ≡ deeds_kind) → o ≡ Some (Deeds (as_actions o))
deeds_by None h = absurd h
deeds_by (Some (Chars text caret marks)) h = absurd cc
deeds_by (Some (Grid columns)) h = absurd cc
deeds_by (Some (Deeds names)) h = refl

pub names_whole : (nodes : Nodes) (node count i : ℕ) (names : List (List ℕ)) → HasNames nodes node → count ≡ count_at nodes node → count ≤ i
    → names ≡ take i (as_actions (get nodes node)) → get nodes node ≡ Some (Deeds names)
names_whole nodes node count i names h e l n =
    let c = count_names nodes node h in
    let all : names ≡ as_actions (get nodes node) = n ∙ take_all i (as_actions (get nodes node)) (omega arith) in
    deeds_by (get nodes node) h ∙ ap (λ x. Some (Deeds x)) (sym all)

-- contents of a kind, where the node is here
some_kind : (kind wanted : FaceKind) (nodes : Nodes) (node : ℕ) (o : Option FaceData) → get nodes node ≡ o → AreContents kind nodes → kind ≡ wanted
    → IsSome o → MatchOption o ⊥ (λ what. kind_of what ≡ wanted)
some_kind kind wanted nodes node None e all k s = absurd (false≢true s)
some_kind kind wanted nodes node (Some what) e all k s = (all node what e).of_kind ∙ k

pub kind_here : (kind wanted : FaceKind) (nodes : Nodes) (node : ℕ) → AreContents kind nodes → kind ≡ wanted → IsSome (get nodes node)
    → MatchOption (get nodes node) ⊥ (λ what. kind_of what ≡ wanted)
kind_here kind wanted nodes node all k s = some_kind kind wanted nodes node (get nodes node) refl all k s

grid_by : (o : Option FaceData) → MatchOption o ⊥ (λ what. kind_of what ≡ grid_kind) → o ≡ Some (Grid (option_map_or count_of o 0))
grid_by None h = absurd h
grid_by (Some (Chars text caret marks)) h = absurd cc
grid_by (Some (Grid columns)) h = refl
grid_by (Some (Deeds names)) h = absurd cc

pub columns_here : (kind : FaceKind) (nodes : Nodes) (node count : ℕ) → AreContents kind nodes → kind ≡ grid_kind → IsSome (get nodes node)
    → count ≡ count_at nodes node → get nodes node ≡ Some (Grid count)
columns_here kind nodes node count all k s e =
    grid_by (get nodes node) (kind_here kind grid_kind nodes node all k s) ∙ ap (λ n. Some (Grid n)) (sym e)
