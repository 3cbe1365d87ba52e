-- What is exported after a text went into the place of another, and after the steps of a call.
use Rattle.std.proofs.Common.{◌≡◌, ℕ, ◌+◌, List, [], ◌∷◌, length, refl, sym, ap, ◌∙◌, subst, ◌⊎◌, inl, inr}
use Rattle.std.specs.Prelude.{Result, Ok, Err, OnOk, OnErr}
use Rattle.atspi_tree_model.specs.declared.step.Step.{Step}
use Rattle.atspi_tree_model.specs.declared.step.Step.TheVariants.{Insert, Delete, Caret}
use Rattle.atspi_tree_model.specs.Forest.{Forest}
use Rattle.atspi_tree_model.specs.Row.{TreeRow}
use Rattle.atspi_tree_model.specs.RowRules.{rows}
use Rattle.atspi_tree_model.specs.Tree.{after, added_after, Applies, AllApply, after_all}
use Rattle.atspi_faces.specs.declared.face.change.Change.TheVariants as changes
use Rattle.atspi_faces.specs.face.Nodes.{Nodes, CanChange, changed_at}
use Rattle.atspi_protocol.specs.whole.Whole.{Faces}
use Rattle.atspi_tree_model.specs.declared.contents.FaceKind.{FaceKind}
use Rattle.atspi_app_exported.specs.Parts.{Parts, Kinds, IsExported, parts, faces_of, kinds_of, whole_of}
use Rattle.atspi_app_exported.specs.Doing.{CanBeDone, after_parts, after_all_parts, added_all}
use Rattle.atspi_app_exported.proofs.Changing.{can_do, text_parts}
use Rattle.atspi_app_exported.proofs.Following.{whole_after, exported_after}

-- steps that apply, done one after another
pub record IsAfter (kinds : Kinds) (p q : Parts) (steps : List Step) : Type 0 where
  pub exported : IsExported kinds q
  pub whole : whole_of q ≡ after_all rows (whole_of p) steps
  pub added : q.tree.added ≡ added_all p.tree.added steps

pub all_after : (kinds : Kinds) (p : Parts) (steps : List Step) → IsExported kinds p → AllApply rows (whole_of p) p.tree.added steps
    → IsAfter kinds p (after_all_parts p steps) steps
all_after kinds p [] e a = record { exported = e; whole = refl; added = refl }
all_after kinds p (step ∷ more) e a =
    let w = whole_after kinds p step e a.0 in
    let rest = all_after kinds (after_parts p step) more (exported_after kinds p step e a.0) (subst (λ f. AllApply rows f (added_after p.tree.added step) more) (sym w) a.1) in
    record {
      exported = rest.exported;
      whole = rest.whole ∙ ap (λ f. after_all rows f more) w;
      added = rest.added;
    }

-- what a text's face needs
pub can_cut : (p : Parts) (n at : ℕ) (gone text : List ℕ) → AllApply rows (whole_of p) p.tree.added (Delete n at gone ∷ Insert n at text ∷ [])
    → CanChange p.faces.chars n (changes.Delete at (length gone))
can_cut p n at gone text a = can_do p.tree.rows p.faces p.tree.added (Delete n at gone) tt a.0

pub can_set : (p : Parts) (n to at : ℕ) (gone text : List ℕ) → AllApply rows (whole_of p) p.tree.added (Caret n to ∷ Delete n at gone ∷ Insert n at text ∷ [])
    → CanChange p.faces.chars n (changes.Caret to)
can_set p n to at gone text a = can_do p.tree.rows p.faces p.tree.added (Caret n to) tt a.0

pub can_cut_behind : (kinds : Kinds) (p : Parts) (n to at : ℕ) (gone text : List ℕ) → IsExported kinds p
    → AllApply rows (whole_of p) p.tree.added (Caret n to ∷ Delete n at gone ∷ Insert n at text ∷ [])
    → CanChange (changed_at p.faces.chars n (changes.Caret to)) n (changes.Delete at (length gone))
can_cut_behind kinds p n to at gone text e a =
    let q = after_parts p (Caret n to) in
    let w = whole_after kinds p (Caret n to) e a.0 in
    can_do q.tree.rows q.faces q.tree.added (Delete n at gone) tt (subst (λ f. Applies rows f p.tree.added (Delete n at gone)) (sym w) a.1.0)

-- the parts after the face was changed
abbrev with_chars : Parts → Nodes → Parts
with_chars p chars = parts p.tree (faces_of chars p.faces.grid p.faces.deeds)

abbrev cut : Nodes → ℕ → ℕ → ℕ → Nodes
cut chars n at len = changed_at chars n (changes.Delete at len)

two_parts : (p : Parts) (n at : ℕ) (gone text : List ℕ)
    → after_all_parts p (Delete n at gone ∷ Insert n at text ∷ []) ≡ with_chars p (changed_at (cut p.faces.chars n at (length gone)) n (changes.Insert at text))
two_parts p n at gone text =
    ap (λ (q : Parts). after_parts q (Insert n at text)) (text_parts p (Delete n at gone) tt)
    ∙ text_parts (with_chars p (cut p.faces.chars n at (length gone))) (Insert n at text) tt

exchanged_parts : {T E : Type 0} (p : Parts) (n at : ℕ) (gone text : List ℕ) (new : Nodes) (r : Result T E)
    → OnOk r (new ≡ changed_at (changed_at p.faces.chars n (changes.Delete at (length gone))) n (changes.Insert at text))
    → OnOk r (with_chars p new ≡ after_all_parts p (Delete n at gone ∷ Insert n at text ∷ []))
exchanged_parts p n at gone text new (Ok x) e = ap (with_chars p) e ∙ sym (two_parts p n at gone text)
exchanged_parts p n at gone text new (Err x) e = tt

three_parts : (p : Parts) (n to at : ℕ) (gone text : List ℕ)
    → after_all_parts p (Caret n to ∷ Delete n at gone ∷ Insert n at text ∷ [])
    ≡ with_chars p (changed_at (cut (changed_at p.faces.chars n (changes.Caret to)) n at (length gone)) n (changes.Insert at text))
three_parts p n to at gone text =
    ap (λ (q : Parts). after_all_parts q (Delete n at gone ∷ Insert n at text ∷ [])) (text_parts p (Caret n to) tt)
    ∙ two_parts (with_chars p (changed_at p.faces.chars n (changes.Caret to))) n at gone text

exchanged_behind_parts : {T E : Type 0} (p : Parts) (n to at : ℕ) (gone text : List ℕ) (new : Nodes) (r : Result T E)
    → OnOk r (new ≡ changed_at (changed_at (changed_at p.faces.chars n (changes.Caret to)) n (changes.Delete at (length gone))) n (changes.Insert at text))
    → OnOk r (with_chars p new ≡ after_all_parts p (Caret n to ∷ Delete n at gone ∷ Insert n at text ∷ []))
exchanged_behind_parts p n to at gone text new (Ok x) e = ap (with_chars p) e ∙ sym (three_parts p n to at gone text)
exchanged_behind_parts p n to at gone text new (Err x) e = tt

-- what it leaves
kept_parts : {T E : Type 0} (p : Parts) (new : Nodes) (r : Result T E) → OnErr r (new ≡ p.faces.chars) → OnErr r (with_chars p new ≡ p)
kept_parts p new (Ok x) e = tt
kept_parts p new (Err x) e = ap (with_chars p) e

left : {T E : Type 0} (kinds : Kinds) (kind : FaceKind) (p q : Parts) (steps : List Step) (r : Result T E) → kind ≡ kinds.chars → IsExported kinds p
    → AllApply rows (whole_of p) p.tree.added steps → OnOk r (q ≡ after_all_parts p steps) → OnErr r (q ≡ p) → IsExported (kinds_of kind kinds.grid kinds.deeds) q
left kinds kind p q steps (Ok x) k e a ok err =
    subst (λ (m : FaceKind). IsExported (kinds_of m kinds.grid kinds.deeds) q) (sym k) (subst (IsExported kinds) (sym ok) (all_after kinds p steps e a).exported)
left kinds kind p q steps (Err x) k e a ok err =
    subst (λ (m : FaceKind). IsExported (kinds_of m kinds.grid kinds.deeds) q) (sym k) (subst (IsExported kinds) (sym err) e)

whole_left : {T E : Type 0} (kinds : Kinds) (p q : Parts) (steps : List Step) (r : Result T E) → IsExported kinds p
    → AllApply rows (whole_of p) p.tree.added steps → OnOk r (q ≡ after_all_parts p steps) → OnOk r (whole_of q ≡ after_all rows (whole_of p) steps)
whole_left kinds p q steps (Ok x) e a ok = ap whole_of ok ∙ (all_after kinds p steps e a).whole
whole_left kinds p q steps (Err x) e a ok = tt

pub exchange_exported : {T E : Type 0} (kinds : Kinds) (kind : FaceKind) (p : Parts) (n at : ℕ) (gone text : List ℕ) (new : Nodes) (r : Result T E) → kind ≡ kinds.chars
    → IsExported kinds p → AllApply rows (whole_of p) p.tree.added (Delete n at gone ∷ Insert n at text ∷ [])
    → OnOk r (new ≡ changed_at (changed_at p.faces.chars n (changes.Delete at (length gone))) n (changes.Insert at text)) → OnErr r (new ≡ p.faces.chars)
    → IsExported (kinds_of kind kinds.grid kinds.deeds) (with_chars p new)
exchange_exported kinds kind p n at gone text new r k e a ok err =
    left kinds kind p (with_chars p new) (Delete n at gone ∷ Insert n at text ∷ []) r k e a (exchanged_parts p n at gone text new r ok) (kept_parts p new r err)

pub exchange_whole : {T E : Type 0} (kinds : Kinds) (p : Parts) (n at : ℕ) (gone text : List ℕ) (new : Nodes) (r : Result T E)
    → IsExported kinds p → AllApply rows (whole_of p) p.tree.added (Delete n at gone ∷ Insert n at text ∷ [])
    → OnOk r (new ≡ changed_at (changed_at p.faces.chars n (changes.Delete at (length gone))) n (changes.Insert at text))
    → OnOk r (whole_of (with_chars p new) ≡ after_all rows (whole_of p) (Delete n at gone ∷ Insert n at text ∷ []))
exchange_whole kinds p n at gone text new r e a ok =
    whole_left kinds p (with_chars p new) (Delete n at gone ∷ Insert n at text ∷ []) r e a (exchanged_parts p n at gone text new r ok)

pub behind_exported : {T E : Type 0} (kinds : Kinds) (kind : FaceKind) (p : Parts) (n to at : ℕ) (gone text : List ℕ) (new : Nodes) (r : Result T E) → kind ≡ kinds.chars
    → IsExported kinds p → AllApply rows (whole_of p) p.tree.added (Caret n to ∷ Delete n at gone ∷ Insert n at text ∷ [])
    → OnOk r (new ≡ changed_at (changed_at (changed_at p.faces.chars n (changes.Caret to)) n (changes.Delete at (length gone))) n (changes.Insert at text)) → OnErr r (new ≡ p.faces.chars)
    → IsExported (kinds_of kind kinds.grid kinds.deeds) (with_chars p new)
behind_exported kinds kind p n to at gone text new r k e a ok err =
    left kinds kind p (with_chars p new) (Caret n to ∷ Delete n at gone ∷ Insert n at text ∷ []) r k e a (exchanged_behind_parts p n to at gone text new r ok) (kept_parts p new r err)

pub behind_whole : {T E : Type 0} (kinds : Kinds) (p : Parts) (n to at : ℕ) (gone text : List ℕ) (new : Nodes) (r : Result T E)
    → IsExported kinds p → AllApply rows (whole_of p) p.tree.added (Caret n to ∷ Delete n at gone ∷ Insert n at text ∷ [])
    → OnOk r (new ≡ changed_at (changed_at (changed_at p.faces.chars n (changes.Caret to)) n (changes.Delete at (length gone))) n (changes.Insert at text))
    → OnOk r (whole_of (with_chars p new) ≡ after_all rows (whole_of p) (Caret n to ∷ Delete n at gone ∷ Insert n at text ∷ []))
behind_whole kinds p n to at gone text new r e a ok =
    whole_left kinds p (with_chars p new) (Caret n to ∷ Delete n at gone ∷ Insert n at text ∷ []) r e a (exchanged_behind_parts p n to at gone text new r ok)

-- where the last step wants memory, the steps are those of an exchange
two_exchange : (n at m to : ℕ) (gone text : List ℕ) → CanBeDone (Delete n at gone ∷ Insert m to text ∷ []) → (m ≡ n) × (to ≡ at)
two_exchange n at m to gone text h = elim h [ inl one ↦ absurd (one.0 tt) | inr two ↦ two ]

pub two_same : (steps : List Step) (n at m to : ℕ) (gone text : List ℕ) → steps ≡ Delete n at gone ∷ Insert m to text ∷ [] → CanBeDone steps
    → Delete n at gone ∷ Insert n at text ∷ [] ≡ steps
two_same steps n at m to gone text is h =
    let e = two_exchange n at m to gone text (subst CanBeDone is h) in
    sym (is ∙ (λ i. Delete n at gone ∷ Insert (e.0 i) (e.1 i) text ∷ []))

three_exchange : (k c n at m to : ℕ) (gone text : List ℕ) → CanBeDone (Caret k c ∷ Delete n at gone ∷ Insert m to text ∷ []) → (k ≡ n) × (m ≡ n) × (to ≡ at)
three_exchange k c n at m to gone text h = elim h [ inl one ↦ absurd (one.1.0 tt) | inr three ↦ three ]

pub three_same : (steps : List Step) (k c n at m to : ℕ) (gone text : List ℕ) → steps ≡ Caret k c ∷ Delete n at gone ∷ Insert m to text ∷ [] → CanBeDone steps
    → Caret n c ∷ Delete n at gone ∷ Insert n at text ∷ [] ≡ steps
three_same steps k c n at m to gone text is h =
    let e = three_exchange k c n at m to gone text (subst CanBeDone is h) in
    sym (is ∙ (λ i. Caret (e.0 i) c ∷ Delete n at gone ∷ Insert (e.1 i) (e.2 i) text ∷ []))

pub apply_same : (p : Parts) (same steps : List Step) → same ≡ steps → AllApply rows (whole_of p) p.tree.added steps → AllApply rows (whole_of p) p.tree.added same
apply_same p same steps e h = subst (AllApply rows (whole_of p) p.tree.added) (sym e) h

pub ok_same : {T E : Type 0} (r : Result T E) (new old : Forest TreeRow) (same steps : List Step) → same ≡ steps → OnOk r (new ≡ after_all rows old same)
    → OnOk r (new ≡ after_all rows old steps)
ok_same (Ok x) new old same steps e h = h ∙ ap (after_all rows old) e
ok_same (Err x) new old same steps e h = tt

pub added_same : {T E : Type 0} (r : Result T E) (added : ℕ) (same steps : List Step) → same ≡ steps → added ≡ added_all added same
    → OnOk r (added ≡ added_all added steps)
added_same (Ok x) added same steps e h = h ∙ ap (added_all added) e
added_same (Err x) added same steps e h = tt
