-- A text that goes into the place of another.
use Rattle.std.proofs.Common.{◌≡◌, ℕ, ◌+◌, ◌≤◌, ◌<◌, List, [], ◌++◌, length, take, drop, Option, Some, None, refl, sym, ap, ◌∙◌, subst, arith, inl, inr, length-append, length-drop}
use Rattle.std.specs.Prelude.{MatchOption}
use Rattle.std.specs.Option.{option_map_or}
use Rattle.std.specs.FinMap.{get, insert}
use Rattle.std.proofs.lemmas.List.{length-take-le, take-take, take-append-le, drop-append-le, drop_all}
use Rattle.atspi_tree_model.specs.declared.contents.FaceKind.{FaceKind}
use Rattle.atspi_tree_model.specs.declared.contents.FaceKind.TheVariants.{Chars as chars_kind}
use Rattle.atspi_tree_model.specs.declared.contents.FaceData.{FaceData}
use Rattle.atspi_tree_model.specs.declared.contents.FaceData.TheVariants.{Chars, Grid, Deeds}
use Rattle.atspi_faces.specs.declared.face.change.Change.{Change}
use Rattle.atspi_faces.specs.declared.face.change.Change.TheVariants as changes
use Rattle.atspi_faces.specs.face.Contents.{kind_of, caret_of, IsChange, IsContents, changed}
use Rattle.atspi_faces.specs.face.Nodes.{Nodes, AreContents, CanChange, HasText, caret_at, changed_at}
use Rattle.atspi_protocol.proofs.OfWhole.Faces.{put_there, put_elsewhere}
use Rattle.atspi_app_exported.proofs.Copied.{same_nodes, same_or_not}

-- the characters after both, in either order
module _ (at len : ℕ) (text old : List ℕ) (inside : at + len ≤ length old) where
  abbrev front : List ℕ
  front = take (at + len) old

  front_length : length front ≡ at + len
  front_length = length-take-le (at + len) old inside

  before : take at (front ++ (text ++ drop (at + len) old)) ≡ take at old
  before =
      let l = front_length in
      take-append-le at front (text ++ drop (at + len) old) (omega (arith, l)) ∙ take-take at (at + len) old (omega arith)

  behind : drop (at + len) (front ++ (text ++ drop (at + len) old)) ≡ text ++ drop (at + len) old
  behind =
      let l = front_length in
      drop-append-le (at + len) front (text ++ drop (at + len) old) (omega (arith, l))
      ∙ ap (λ xs. xs ++ (text ++ drop (at + len) old)) (drop_all (at + len) front (omega (arith, l)))

  start_length : length (take at old) ≡ at
  start_length = length-take-le at old (omega arith)

  cut_before : take at (take at old ++ drop (at + len) old) ≡ take at old
  cut_before =
      let l = start_length in
      take-append-le at (take at old) (drop (at + len) old) (omega (arith, l)) ∙ take-take at at old (omega arith)

  cut_behind : drop at (take at old ++ drop (at + len) old) ≡ drop (at + len) old
  cut_behind =
      let l = start_length in
      drop-append-le at (take at old) (drop (at + len) old) (omega (arith, l)) ∙ ap (λ xs. xs ++ drop (at + len) old) (drop_all at (take at old) (omega (arith, l)))

  either_order : (caret : ℕ) (marks : List (ℕ × ℕ))
      → changed (changed (Chars old caret marks) (changes.Insert (at + len) text)) (changes.Delete at len)
      ≡ changed (changed (Chars old caret marks) (changes.Delete at len)) (changes.Insert at text)
  either_order caret marks =
      let left : take at (front ++ (text ++ drop (at + len) old)) ++ drop (at + len) (front ++ (text ++ drop (at + len) old)) ≡ take at old ++ (text ++ drop (at + len) old) =
      ap (λ xs. xs ++ drop (at + len) (front ++ (text ++ drop (at + len) old))) before ∙ ap (λ xs. take at old ++ xs) behind in
      let right : take at (take at old ++ drop (at + len) old) ++ (text ++ drop at (take at old ++ drop (at + len) old)) ≡ take at old ++ (text ++ drop (at + len) old) =
      ap (λ xs. xs ++ (text ++ drop at (take at old ++ drop (at + len) old))) cut_before ∙ ap (λ xs. take at old ++ (text ++ xs)) cut_behind in
      ap (λ xs. Chars xs caret []) (left ∙ sym right)

-- two changes of a node
changed_here : (nodes : Nodes) (n : ℕ) (what : FaceData) (c : Change) → get nodes n ≡ Some what → changed_at nodes n c ≡ insert nodes n (changed what c)
changed_here nodes n what c e = ap (λ (o : Option FaceData). option_map_or (λ w. insert nodes n (changed w c)) o nodes) e

put_twice : (nodes : Nodes) (n : ℕ) (a b : FaceData) → insert (insert nodes n a) n b ≡ insert nodes n b
put_twice nodes n a b = same_nodes (insert (insert nodes n a) n b) (insert nodes n b) (λ q. elim (same_or_not q n) [
  | inl same ↦ subst (λ m. get (insert (insert nodes n a) n b) m ≡ get (insert nodes n b) m) (sym same) (put_there (insert nodes n a) n b ∙ sym (put_there nodes n b))
  | inr other ↦ put_elsewhere (insert nodes n a) n b q other ∙ put_elsewhere nodes n a q other ∙ sym (put_elsewhere nodes n b q other)
])

put_back : (nodes : Nodes) (n : ℕ) (a : FaceData) → get nodes n ≡ Some a → insert nodes n a ≡ nodes
put_back nodes n a e = same_nodes (insert nodes n a) nodes (λ q. elim (same_or_not q n) [
  | inl same ↦ subst (λ m. get (insert nodes n a) m ≡ get nodes m) (sym same) (put_there nodes n a ∙ sym e)
  | inr other ↦ put_elsewhere nodes n a q other
])

changed_twice : (nodes : Nodes) (n : ℕ) (what : FaceData) (c d : Change) → get nodes n ≡ Some what
    → changed_at (changed_at nodes n c) n d ≡ insert nodes n (changed (changed what c) d)
changed_twice nodes n what c d e =
    ap (λ (m : Nodes). changed_at m n d) (changed_here nodes n what c e)
    ∙ changed_here (insert nodes n (changed what c)) n (changed what c) d (put_there nodes n (changed what c))
    ∙ put_twice nodes n (changed what c) (changed (changed what c) d)

after_change : (nodes : Nodes) (n : ℕ) (what : FaceData) (c : Change) → get nodes n ≡ Some what → get (changed_at nodes n c) n ≡ Some (changed what c)
after_change nodes n what c e = ap (λ (m : Nodes). get m n) (changed_here nodes n what c e) ∙ put_there nodes n (changed what c)

abbrev Allows : Change → Option FaceData → Type 0
Allows c o = MatchOption o ⊥ (λ what. IsChange what c)

can_after : (nodes : Nodes) (n : ℕ) (what : FaceData) (c d : Change) → get nodes n ≡ Some what → IsChange (changed what c) d → CanChange (changed_at nodes n c) n d
can_after nodes n what c d e h = subst (Allows d) (sym (after_change nodes n what c e)) h

-- the end of what is taken out
end_fits_by : (kind : FaceKind) (nodes : Nodes) (n at len : ℕ) (o : Option FaceData) → get nodes n ≡ o → AreContents kind nodes → Allows (changes.Delete at len) o → at + len < 4294967296
end_fits_by kind nodes n at len None e are h = absurd h
end_fits_by kind nodes n at len (Some (Chars text caret marks)) e are h = let l = (are n (Chars text caret marks) e).counted in let i = h.0 in omega (arith, l, i)
end_fits_by kind nodes n at len (Some (Grid columns)) e are h = absurd h
end_fits_by kind nodes n at len (Some (Deeds names)) e are h = absurd h

pub end_fits : (kind : FaceKind) (nodes : Nodes) (n at len : ℕ) → AreContents kind nodes → CanChange nodes n (changes.Delete at len) → at + len < 4294967296
end_fits kind nodes n at len are h = end_fits_by kind nodes n at len (get nodes n) refl are h

-- the other text can be put in behind it
behind_by : (at len : ℕ) (text : List ℕ) (o : Option FaceData) → Allows (changes.Delete at len) o → Allows (changes.Insert (at + len) text) o
behind_by at len text None h = h
behind_by at len text (Some (Chars old caret marks)) h = h.0
behind_by at len text (Some (Grid columns)) h = h
behind_by at len text (Some (Deeds names)) h = h

pub can_put_behind : (nodes : Nodes) (n at len : ℕ) (text : List ℕ) → CanChange nodes n (changes.Delete at len) → CanChange nodes n (changes.Insert (at + len) text)
can_put_behind nodes n at len text h = behind_by at len text (get nodes n) h

longer : (at len : ℕ) (text old : List ℕ) → at + len ≤ length old → length old ≤ length (take (at + len) old ++ (text ++ drop (at + len) old))
longer at len text old h =
    let a = length-append (take (at + len) old) (text ++ drop (at + len) old) in
    let b = length-append text (drop (at + len) old) in
    let c = length-drop (at + len) old in
    let d = length-take-le (at + len) old h in
    omega (arith, a, b, c, d)

cut_by : (nodes : Nodes) (n at len : ℕ) (text : List ℕ) (o : Option FaceData) → get nodes n ≡ o → Allows (changes.Delete at len) o
    → CanChange (changed_at nodes n (changes.Insert (at + len) text)) n (changes.Delete at len)
cut_by nodes n at len text None e h = absurd h
cut_by nodes n at len text (Some (Chars old caret marks)) e h =
    let l = longer at len text old h.0 in
    let i = h.0 in
    let k = h.1 in
    can_after nodes n (Chars old caret marks) (changes.Insert (at + len) text) (changes.Delete at len) e (omega (arith, l, i), omega (arith, l, k))
cut_by nodes n at len text (Some (Grid columns)) e h = absurd h
cut_by nodes n at len text (Some (Deeds names)) e h = absurd h

pub can_cut_before : (nodes : Nodes) (n at len : ℕ) (text : List ℕ) → CanChange nodes n (changes.Delete at len)
    → CanChange (changed_at nodes n (changes.Insert (at + len) text)) n (changes.Delete at len)
can_cut_before nodes n at len text h = cut_by nodes n at len text (get nodes n) refl h

exchanged_by : (nodes : Nodes) (n at len : ℕ) (text : List ℕ) (o : Option FaceData) → get nodes n ≡ o → Allows (changes.Delete at len) o
    → changed_at (changed_at nodes n (changes.Insert (at + len) text)) n (changes.Delete at len) ≡ changed_at (changed_at nodes n (changes.Delete at len)) n (changes.Insert at text)
exchanged_by nodes n at len text None e h = absurd h
exchanged_by nodes n at len text (Some (Chars old caret marks)) e h =
    changed_twice nodes n (Chars old caret marks) (changes.Insert (at + len) text) (changes.Delete at len) e
    ∙ ap (insert nodes n) (either_order at len text old h.0 caret marks)
    ∙ sym (changed_twice nodes n (Chars old caret marks) (changes.Delete at len) (changes.Insert at text) e)
exchanged_by nodes n at len text (Some (Grid columns)) e h = absurd h
exchanged_by nodes n at len text (Some (Deeds names)) e h = absurd h

-- which of the two is done first makes no difference
pub exchanged : (nodes : Nodes) (n at len : ℕ) (text : List ℕ) → CanChange nodes n (changes.Delete at len)
    → changed_at (changed_at nodes n (changes.Insert (at + len) text)) n (changes.Delete at len) ≡ changed_at (changed_at nodes n (changes.Delete at len)) n (changes.Insert at text)
exchanged nodes n at len text h = exchanged_by nodes n at len text (get nodes n) refl h

-- a caret that can be set is that of a text
has_text_by : (to : ℕ) (o : Option FaceData) → Allows (changes.Caret to) o → MatchOption o ⊥ (λ what. kind_of what ≡ chars_kind)
has_text_by to None h = h
has_text_by to (Some (Chars text caret marks)) h = refl
has_text_by to (Some (Grid columns)) h = absurd h
has_text_by to (Some (Deeds names)) h = absurd h

pub caret_has_text : (nodes : Nodes) (n to : ℕ) → CanChange nodes n (changes.Caret to) → HasText nodes n
caret_has_text nodes n to h = has_text_by to (get nodes n) h

-- and can go back
back_by : (kind : FaceKind) (nodes : Nodes) (n to : ℕ) (o : Option FaceData) → get nodes n ≡ o → AreContents kind nodes → Allows (changes.Caret to) o
    → CanChange (changed_at nodes n (changes.Caret to)) n (changes.Caret (option_map_or caret_of o 0))
back_by kind nodes n to None e are h = absurd h
back_by kind nodes n to (Some (Chars text caret marks)) e are h =
    can_after nodes n (Chars text caret marks) (changes.Caret to) (changes.Caret caret) e (are n (Chars text caret marks) e).caret_inside
back_by kind nodes n to (Some (Grid columns)) e are h = absurd h
back_by kind nodes n to (Some (Deeds names)) e are h = absurd h

pub can_go_back : (kind : FaceKind) (nodes : Nodes) (n to : ℕ) → AreContents kind nodes → CanChange nodes n (changes.Caret to)
    → CanChange (changed_at nodes n (changes.Caret to)) n (changes.Caret (caret_at nodes n))
can_go_back kind nodes n to are h = back_by kind nodes n to (get nodes n) refl are h

gone_back_by : (nodes : Nodes) (n to : ℕ) (o : Option FaceData) → get nodes n ≡ o → Allows (changes.Caret to) o
    → changed_at (changed_at nodes n (changes.Caret to)) n (changes.Caret (option_map_or caret_of o 0)) ≡ nodes
gone_back_by nodes n to None e h = absurd h
gone_back_by nodes n to (Some (Chars text caret marks)) e h =
    changed_twice nodes n (Chars text caret marks) (changes.Caret to) (changes.Caret caret) e ∙ put_back nodes n (Chars text caret marks) e
gone_back_by nodes n to (Some (Grid columns)) e h = absurd h
gone_back_by nodes n to (Some (Deeds names)) e h = absurd h

pub gone_back : (nodes : Nodes) (n to : ℕ) → CanChange nodes n (changes.Caret to)
    → changed_at (changed_at nodes n (changes.Caret to)) n (changes.Caret (caret_at nodes n)) ≡ nodes
gone_back nodes n to h = gone_back_by nodes n to (get nodes n) refl h

-- the same where the sum and the length are told apart, and the nodes after the first change
pub cut_after : (nodes new : Nodes) (n at k len : ℕ) (text : List ℕ) → k ≡ len → CanChange nodes n (changes.Delete at len)
    → new ≡ changed_at nodes n (changes.Insert (at + k) text) → CanChange new n (changes.Delete at len)
cut_after nodes new n at k len text e h is =
    subst (λ (m : Nodes). CanChange m n (changes.Delete at len)) (sym (is ∙ ap (λ (l : ℕ). changed_at nodes n (changes.Insert (at + l) text)) e)) (can_cut_before nodes n at len text h)

pub exchanged_after : (nodes mid new : Nodes) (n at k len : ℕ) (text : List ℕ) → k ≡ len → CanChange nodes n (changes.Delete at len)
    → mid ≡ changed_at nodes n (changes.Insert (at + k) text) → new ≡ changed_at mid n (changes.Delete at len)
    → new ≡ changed_at (changed_at nodes n (changes.Delete at len)) n (changes.Insert at text)
exchanged_after nodes mid new n at k len text e h is then_ =
    then_ ∙ ap (λ (m : Nodes). changed_at m n (changes.Delete at len)) (is ∙ ap (λ (l : ℕ). changed_at nodes n (changes.Insert (at + l) text)) e)
    ∙ exchanged nodes n at len text h

-- the caret after a refusal
pub back_after : (kind : FaceKind) (nodes mid new : Nodes) (n to from : ℕ) → AreContents kind nodes → CanChange nodes n (changes.Caret to) → mid ≡ changed_at nodes n (changes.Caret to)
    → new ≡ mid → from ≡ caret_at nodes n → CanChange new n (changes.Caret from)
back_after kind nodes mid new n to from are h is same e =
    subst (λ (m : Nodes). CanChange m n (changes.Caret from)) (sym (same ∙ is))
    (subst (λ (c : ℕ). CanChange (changed_at nodes n (changes.Caret to)) n (changes.Caret c)) (sym e) (can_go_back kind nodes n to are h))

pub undone_after : (nodes mid new last : Nodes) (n to from : ℕ) → CanChange nodes n (changes.Caret to) → mid ≡ changed_at nodes n (changes.Caret to) → new ≡ mid
    → from ≡ caret_at nodes n → last ≡ changed_at new n (changes.Caret from) → last ≡ nodes
undone_after nodes mid new last n to from h is same e then_ =
    then_ ∙ ap (λ (m : Nodes). changed_at m n (changes.Caret from)) (same ∙ is)
    ∙ ap (λ (c : ℕ). changed_at (changed_at nodes n (changes.Caret to)) n (changes.Caret c)) e ∙ gone_back nodes n to h
