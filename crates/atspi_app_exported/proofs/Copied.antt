-- Nodes that are copied, or closed, one by one from the least on.
use Rattle.std.proofs.Common.{◌≡◌, ℕ, ◌+◌, ◌<◌, ◌≤◌, Bool, true, false, Option, None, Some, refl, sym, ap, ◌∙◌, subst, arith, ◌⊎◌, inl, inr, ltb, eqb}
use Rattle.std.specs.Prelude.{IsSome, IfSome}
use Rattle.std.specs.Ordering.{nat_cmp}
use Rattle.std.specs.Cmp.{nat_cmp_total}
use Rattle.std.specs.FinMap.{get, insert, remove, empty, get-empty, get-remove, same_map, nat_cmp-IsAntisymmetric}
use Rattle.std.proofs.lemmas.Bool.{false≢true, ltb-true, ltb-false, eqb-true, eqb-false}
use Rattle.atspi_tree_model.specs.declared.contents.FaceKind.{FaceKind}
use Rattle.atspi_tree_model.specs.declared.contents.FaceData.{FaceData}
use Rattle.atspi_faces.specs.face.Contents.{kind_of, caret_of, count_of, IsContents}
use Rattle.atspi_faces.specs.face.Nodes.{Nodes, AreContents, IsNext}
use Rattle.atspi_protocol.proofs.OfWhole.Faces.{put_there, put_elsewhere, same_key, other_key}
use Rattle.atspi_app_exported.specs.Parts.{AreSmall, IsEmpty}

same_by : (a b : ℕ) (r : Bool) → eqb a b ≡ r → (a ≡ b) ⊎ (a ≡ b → ⊥)
same_by a b true e = inl (eqb-true a b e)
same_by a b false e = inr (eqb-false a b e)

pub same_or_not : (a b : ℕ) → (a ≡ b) ⊎ (a ≡ b → ⊥)
same_or_not a b = same_by a b (eqb a b) refl

lt_by : (a b : ℕ) (r : Bool) → ltb a b ≡ r → (a < b) ⊎ (b ≤ a)
lt_by a b true e = inl (ltb-true a b e)
lt_by a b false e = inr (ltb-false a b e)

lt_tells : (a b : ℕ) → (a < b) ⊎ (b ≤ a)
lt_tells a b = lt_by a b (ltb a b) refl

pub same_nodes : (m n : Nodes) → ((q : ℕ) → get m q ≡ get n q) → m ≡ n
same_nodes m n h = same_map nat_cmp_total nat_cmp-IsAntisymmetric m n h

pub taken_there : (nodes : Nodes) (n : ℕ) → get (remove nodes n) n ≡ None
taken_there nodes n = get-remove nat_cmp_total nodes n n ∙ rw (same_key n) refl

pub taken_elsewhere : (nodes : Nodes) (n q : ℕ) → (q ≡ n → ⊥) → get (remove nodes n) q ≡ get nodes q
taken_elsewhere nodes n q ne = get-remove nat_cmp_total nodes n q ∙ rw (other_key q n ne) refl

-- what stands below at is copied, and nothing else
pub record IsCopied (at : ℕ) (from to : Nodes) : Type 0 where
  pub below : (k : ℕ) → k < at → get to k ≡ get from k
  pub others : (k : ℕ) → at ≤ k → get to k ≡ None

pub copied_start : (from to : Nodes) → IsEmpty to → IsCopied 0 from to
copied_start from to e = record {
  below = λ k h. absurd (omega arith);
  others = λ k h. ap (λ m. get m k) e ∙ get-empty nat_cmp k;
}

pub copied_end : (at : ℕ) (from to : Nodes) → ((k : ℕ) → at ≤ k → get from k ≡ None) → IsCopied at from to → to ≡ from
copied_end at from to none c = same_nodes to from (λ q. elim (lt_tells q at) [
  | inl lt ↦ c.below q lt
  | inr ge ↦ c.others q ge ∙ sym (none q ge)
])

copied_put : (at node : ℕ) (from to : Nodes) (d : FaceData) → IsNext from at (Some node) → get from node ≡ Some d → IsCopied at from to → IsCopied (node + 1) from (insert to node d)
copied_put at node from to d next here c = record {
  below = λ k h. elim (same_or_not k node) [
    | inl same ↦ subst (λ m. get (insert to node d) m ≡ get from m) (sym same) (put_there to node d ∙ sym here)
    | inr other ↦ put_elsewhere to node d k other ∙ elim (lt_tells k at) [
      | inl lt ↦ c.below k lt
      | inr ge ↦ c.others k ge ∙ sym (next.2 k ge (omega (arith, h, other)))
    ]
  ];
  others = λ k h. put_elsewhere to node d k (λ e. absurd (omega arith)) ∙ c.others k (omega (arith, next.0));
}

copied_by : (at node : ℕ) (from to new : Nodes) (o : Option FaceData) → get from node ≡ o → IsSome o → IsNext from at (Some node) → IsCopied at from to
    → IfSome o (λ what. new ≡ insert to node what) → IsCopied (node + 1) from new
copied_by at node from to new None e s next c i = absurd (false≢true s)
copied_by at node from to new (Some d) e s next c i = subst (IsCopied (node + 1) from) (sym i) (copied_put at node from to d next e c)

pub copied_next : (at node : ℕ) (from to new : Nodes) → IsNext from at (Some node) → IsCopied at from to
    → IfSome (get from node) (λ what. new ≡ insert to node what) → IsCopied (node + 1) from new
copied_next at node from to new next c i = copied_by at node from to new (get from node) refl next.1 next c i

-- what is copied so far has small numbers, if the rest has
pub copied_small : (at : ℕ) (from to : Nodes) → at ≤ 4294967296 → IsCopied at from to → AreSmall to
copied_small at from to l c = λ n h. c.others n (omega arith)

pub small_same : (from to : Nodes) → to ≡ from → AreSmall from → AreSmall to
small_same from to e h = λ n l. ap (λ m. get m n) e ∙ h n l

pub small_empty : (nodes : Nodes) → IsEmpty nodes → AreSmall nodes
small_empty nodes e = λ n l. ap (λ m. get m n) e ∙ get-empty nat_cmp n

-- a node that may be put where it is not
lawful_by : (kind : FaceKind) (nodes : Nodes) (node : ℕ) (what : FaceData) → AreContents kind nodes → get nodes node ≡ Some what → IsContents kind what
lawful_by kind nodes node what all e = all node what e

pub right_kind : (kind : FaceKind) (nodes : Nodes) (node : ℕ) (what : FaceData) → AreContents kind nodes → get nodes node ≡ Some what → kind_of what ≡ kind
right_kind kind nodes node what all e = (lawful_by kind nodes node what all e).of_kind

pub right_caret : (kind : FaceKind) (nodes : Nodes) (node : ℕ) (what : FaceData) → AreContents kind nodes → get nodes node ≡ Some what → caret_of what ≤ count_of what
right_caret kind nodes node what all e = (lawful_by kind nodes node what all e).caret_inside

pub put_if_some : (nodes old new : Nodes) (node : ℕ) (what : FaceData) → get nodes node ≡ Some what → new ≡ insert old node what
    → IfSome (get nodes node) (λ d. new ≡ insert old node d)
put_if_some nodes old new node what e i = subst (λ o. IfSome o (λ d. new ≡ insert old node d)) (sym e) i

-- nothing stands below at
abbrev pub IsClear : ℕ → Nodes → Type 0
IsClear at nodes = (k : ℕ) → k < at → get nodes k ≡ None

pub clear_next : (at node : ℕ) (nodes : Nodes) → IsNext nodes at (Some node) → IsClear at nodes → IsClear (node + 1) (remove nodes node)
clear_next at node nodes next c k h = elim (same_or_not k node) [
  | inl same ↦ subst (λ m. get (remove nodes node) m ≡ None) (sym same) (taken_there nodes node)
  | inr other ↦ taken_elsewhere nodes node k other ∙ elim (lt_tells k at) [
    | inl lt ↦ c k lt
    | inr ge ↦ next.2 k ge (omega (arith, h, other))
  ]
]

pub clear_end : (at : ℕ) (nodes : Nodes) → ((k : ℕ) → at ≤ k → get nodes k ≡ None) → IsClear at nodes → IsEmpty nodes
clear_end at nodes none c = same_nodes nodes empty (λ q. elim (lt_tells q at) [
  | inl lt ↦ c q lt ∙ sym (get-empty nat_cmp q)
  | inr ge ↦ none q ge ∙ sym (get-empty nat_cmp q)
])

taken_none : (nodes : Nodes) (node k : ℕ) → get nodes k ≡ None → get (remove nodes node) k ≡ None
taken_none nodes node k h = elim (same_or_not k node) [
  | inl same ↦ subst (λ m. get (remove nodes node) m ≡ None) (sym same) (taken_there nodes node)
  | inr other ↦ taken_elsewhere nodes node k other ∙ h
]

pub small_less : (nodes : Nodes) (node : ℕ) → AreSmall nodes → AreSmall (remove nodes node)
small_less nodes node h = λ n l. taken_none nodes node n (h n l)
