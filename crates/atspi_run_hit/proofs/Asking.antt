-- What is asked of an application that has started: which line is refused, and what one makes and tells.
use Rattle.std.proofs.Common.{◌≡◌, ◌+◌, ℕ, suc, Bool, true, false, not, cond, List, [], ◌∷◌, ◌++◌, Option, None, Some, Result, Ok, Err, refl, sym, ap, subst, ◌∙◌, arith}
use Rattle.std.specs.Prelude.{◌==◌, ◌&&◌, IfOk}
use Rattle.std.specs.FinMap.{insert}
use Rattle.atspi_message.specs.Envelope.{Envelope}
use Rattle.atspi_tree_model.specs.declared.edit.Edit.{Edit as AnyEdit}
use Rattle.atspi_tree_model.specs.declared.edit.Edit.TheVariants as edits
use Rattle.atspi_tree_model.specs.declared.edit.EditFault.{EditFault}
use Rattle.atspi_tree_model.specs.declared.edit.EditFault.TheVariants.{NoNode, IsRoot}
use Rattle.atspi_tree_model.specs.declared.step.Step.{Step}
use Rattle.atspi_tree_model.specs.Edits.{first_fault, made_steps, node_targets, steps_unless}
use Rattle.atspi_tree_model.specs.declared.contents.FaceData.TheVariants.{Deeds}
use Rattle.atspi_tree_model.specs.Forest.{has}
use Rattle.atspi_tree_model.specs.Tree.{is_shape, shape_of}
use Rattle.atspi_tree.specs.TreeShape.{TreeShape, children_of, row_of}
use Rattle.atspi_hit.specs.declared.rect.Rect.{Rect}
use Rattle.atspi_hit.specs.declared.cells.Way.{Way}
use Rattle.atspi_hit.specs.Places.{Places, rect_at, without_subtree}
use Rattle.atspi_hit_answers.specs.declared.ask.Ask.{Ask}
use Rattle.atspi_hit_answers.specs.Component.{node_reply, reply_with}
use Rattle.atspi_run_hit.specs.declared.line.HitLine.{HitLine}
use Rattle.atspi_run_hit.specs.declared.line.HitLine.TheVariants.{Edit, Place, Call, Cell, Follow}
use Rattle.atspi_run_hit.specs.declared.naming.Refused.TheVariants.{Asked}
use Rattle.atspi_run_hit.specs.declared.naming.Undone.{Undone}
use Rattle.atspi_run_hit.specs.Wholes.{WholeTree, columns_of, edited, shape, stepped}
use Rattle.atspi_run_hit.specs.Scene.{Scene, after, asked_if, cell_fault, fault_in, follow_fault, places_after, refusal, tree_or}
use Rattle.atspi_run_hit.specs.Told.{IsBeside, Tells, application, call_reply, caller, cell_line, child_at, follow_line, message_line}
use Rattle.atspi_run_hit.specs.inner.Seen.{Answers, forgotten}

-- the answer to a line that is done
abbrev pub Done : Option Scene → HitLine → Option Scene → List ℕ → Type 0
Done old line new told = (refusal old line ≡ None) × (new ≡ after old line) × Tells old line told

-- AN EDIT: a removal that is not refused is of a node that may go
removes : (t t' : WholeTree) (steps : List Step) (there root : Bool) → stepped t (steps_unless (first_fault ((not there, NoNode) ∷ (root, IsRoot) ∷ [])) steps) ≡ Ok t' → not root && there ≡ true
removes t t' steps true false h = refl
removes t t' steps true true h = absurd cc
removes t t' steps false root h = absurd cc

pub forgets : (t : WholeTree) (e : AnyEdit) (t' : WholeTree) (places : Places) → edited t e ≡ Ok t' → forgotten (shape t) e places ≡ places_after t e places
forgets t (edits.Remove n) t' places h =
    ap (λ b. cond b (without_subtree (shape t) n places) places)
    (removes t t' (made_steps (shape_of t.nodes) t.added (Deeds []) (edits.Remove n)) (has (is_shape n) (shape_of t.nodes)) (n == 0) h)
forgets t (edits.Insert p i seed) t' places h = refl
forgets t (edits.Move n p i) t' places h = refl
forgets t (edits.Name n x) t' places h = refl
forgets t (edits.Describe n x) t' places h = refl
forgets t (edits.Role n r) t' places h = refl
forgets t (edits.State n s on) t' places h = refl
forgets t (edits.Focus n) t' places h = refl
forgets t (edits.Put n at x) t' places h = refl
forgets t (edits.Keys n x) t' places h = refl
forgets t (edits.Cut n from to) t' places h = refl
forgets t (edits.Caret n at) t' places h = refl
forgets t (edits.Mark n from to) t' places h = refl
forgets t (edits.Unmark n) t' places h = refl
forgets t (edits.Select n i) t' places h = refl
forgets t (edits.Deselect n i) t' places h = refl
forgets t (edits.Press n i) t' places h = refl
forgets t (edits.Relate n k m) t' places h = refl
forgets t (edits.Unrelate n k m) t' places h = refl

abbrev scene_with : Scene → WholeTree → Places → Scene
scene_with s t places = record { tree = t; places = places; calls = s.calls }

pub edit_done : (s : Scene) (e : AnyEdit) (t : WholeTree) (places : Places) (shown : TreeShape) → edited s.tree e ≡ Ok t → shown ≡ shape s.tree → places ≡ forgotten shown e s.places
    → Done (Some s) (Edit e) (Some (record { tree = t; places = places; calls = s.calls })) []
edit_done s e t places shown h x p =
    let placed : places ≡ places_after s.tree e s.places = p ∙ ap (λ u. forgotten u e s.places) x ∙ forgets s.tree e t s.places h in
    let grown : t ≡ tree_or s.tree (edited s.tree e) = sym (ap (tree_or s.tree) h) in (
      ap (λ r. asked_if (fault_in r)) h,
      ap (λ u. Some (scene_with s u places)) grown ∙ ap (λ q. Some (scene_with s (tree_or s.tree (edited s.tree e)) q)) placed,
      refl,
    )

pub edit_refused : (s : Scene) (e : AnyEdit) (why : EditFault) → edited s.tree e ≡ Err why → refusal (Some s) (Edit e) ≡ Some (Asked why)
edit_refused s e why h = ap (λ r. asked_if (fault_in r)) h

-- A PLACE
pub place_refused : (s : Scene) (n : ℕ) (r : Rect) (shown : TreeShape) → shown ≡ shape s.tree → has (is_shape n) shown.rows ≡ false → refusal (Some s) (Place n r) ≡ Some (Asked NoNode)
place_refused s n r shown x h = ap (λ b. asked_if (first_fault ((not b, NoNode) ∷ []))) (subst (λ (u : TreeShape). has (is_shape n) u.rows ≡ false) x h)

pub place_done : (s : Scene) (n : ℕ) (r : Rect) (shown : TreeShape) (places : Places) → shown ≡ shape s.tree → has (is_shape n) shown.rows ≡ true → places ≡ insert s.places n r
    → Done (Some s) (Place n r) (Some (record { tree = s.tree; places = places; calls = s.calls })) []
place_done s n r shown places x h p = (
  ap (λ b. asked_if (first_fault ((not b, NoNode) ∷ []))) (subst (λ (u : TreeShape). has (is_shape n) u.rows ≡ true) x h),
  ap (λ q. Some (scene_with s s.tree q)) p,
  refl,
)

-- A CALL
pub reply_is : (s : Scene) (n : ℕ) (ask : Ask) (serial : ℕ) (shown : TreeShape) (name who : List ℕ) (e : Envelope) → serial ≡ s.calls + 1 → shown ≡ shape s.tree → name ≡ application → who ≡ caller
    → e ≡ reply_with serial who serial (node_reply shown (rect_at s.places) name n ask) → e ≡ call_reply s n ask
reply_is s n ask serial shown name who e k x a w h =
    let one : serial ≡ suc s.calls = omega (arith, k) in
    h
    ∙ ap (λ m. reply_with m who m (node_reply shown (rect_at s.places) name n ask)) one
    ∙ ap (λ u. reply_with (suc s.calls) who (suc s.calls) (node_reply u (rect_at s.places) name n ask)) x
    ∙ ap (λ u. reply_with (suc s.calls) who (suc s.calls) (node_reply (shape s.tree) (rect_at s.places) u n ask)) a
    ∙ ap (λ u. reply_with (suc s.calls) u (suc s.calls) (node_reply (shape s.tree) (rect_at s.places) application n ask)) w

behind_nothing : (old new text : List ℕ) → old ≡ [] → new ≡ old ++ text → new ≡ text
behind_nothing old new text e h = h ∙ ap (λ l. l ++ text) e

pub call_done : (s : Scene) (n : ℕ) (ask : Ask) (serial : ℕ) (e : Envelope) (old out : List ℕ) → serial ≡ s.calls + 1 → old ≡ [] → out ≡ old ++ message_line e → e ≡ call_reply s n ask
    → Done (Some s) (Call n ask) (Some (record { tree = s.tree; places = s.places; calls = serial })) out
call_done s n ask serial e old out k none h is =
    let one : serial ≡ suc s.calls = omega (arith, k) in
    (refl, ap (λ m. Some (counted s m)) one, behind_nothing old out (message_line e) none h ∙ ap message_line is)
  where
    counted : Scene → ℕ → Scene
    counted s m = record { tree = s.tree; places = s.places; calls = m }

-- A CELL
cell_fault_is : (s : Scene) (n i columns : ℕ) (shown : TreeShape) (found : Option EditFault) → shown ≡ shape s.tree → columns ≡ columns_of s.tree n → found ≡ cell_fault shown columns n i
    → cell_fault (shape s.tree) (columns_of s.tree n) n i ≡ found
cell_fault_is s n i columns shown found x k h = sym (h ∙ ap (λ u. cell_fault u columns n i) x ∙ ap (λ m. cell_fault (shape s.tree) m n i) k)

pub cell_refused : (s : Scene) (n i : ℕ) (way : Way) (columns : ℕ) (shown : TreeShape) (found : Option EditFault) (why : EditFault) → shown ≡ shape s.tree → columns ≡ columns_of s.tree n
    → found ≡ cell_fault shown columns n i → found ≡ Some why → refusal (Some s) (Cell n i way) ≡ Some (Asked why)
cell_refused s n i way columns shown found why x k h is = ap asked_if (cell_fault_is s n i columns shown found x k h ∙ is)

pub cell_done : (s : Scene) (n i : ℕ) (way : Way) (columns : ℕ) (shown : TreeShape) (found : Option EditFault) (node : Option ℕ) (old out : List ℕ) → shown ≡ shape s.tree → columns ≡ columns_of s.tree n
    → found ≡ cell_fault shown columns n i → found ≡ None → (place : Option ℕ) × IsBeside shown columns n i way place × (node ≡ child_at (children_of n shown) place)
    → old ≡ [] → out ≡ old ++ cell_line node → Done (Some s) (Cell n i way) (Some s) out
cell_done s n i way columns shown found node old out x k h none b e o =
    let text : out ≡ cell_line (child_at (children_of n shown) b.0) = behind_nothing old out (cell_line node) e o ∙ ap cell_line b.2 in (
      ap asked_if (cell_fault_is s n i columns shown found x k h ∙ none),
      refl,
      (
        b.0,
        subst (λ m. IsBeside (shape s.tree) m n i way b.0) k (subst (λ u. IsBeside u columns n i way b.0) x b.1),
        text ∙ ap (λ u. cell_line (child_at (children_of n u) b.0)) x,
      ),
    )

-- A RELATION
pub follow_refused : (s : Scene) (n k : ℕ) (shown : TreeShape) (found : Option EditFault) (why : EditFault) → shown ≡ shape s.tree → found ≡ follow_fault shown n k → found ≡ Some why
    → refusal (Some s) (Follow n k) ≡ Some (Asked why)
follow_refused s n k shown found why x h is = ap asked_if (sym (h ∙ ap (λ u. follow_fault u n k) x) ∙ is)

pub follow_done : (s : Scene) (n k : ℕ) (shown : TreeShape) (found : Option EditFault) (targets old out : List ℕ) → shown ≡ shape s.tree → found ≡ follow_fault shown n k → found ≡ None
    → targets ≡ node_targets k (row_of n shown) → old ≡ [] → out ≡ old ++ follow_line targets → Done (Some s) (Follow n k) (Some s) out
follow_done s n k shown found targets old out x h none t e o = (
  ap asked_if (sym (h ∙ ap (λ u. follow_fault u n k) x) ∙ none),
  refl,
  behind_nothing old out (follow_line targets) e o ∙ ap follow_line (t ∙ ap (λ u. node_targets k (row_of n u)) x),
)

-- what a line tells that tells nothing
pub told_nothing : {A : Type 0} (r : Result A Undone) (old : Option Scene) (line : HitLine) (new : Option Scene) (out : List ℕ) → out ≡ [] → Answers r old line new [] → Answers r old line new out
told_nothing r old line new out e h = subst (λ t. Answers r old line new t) (sym e) h

-- a fact of a value that is there gives another
pub if_ok : {T E : Type 0} (P Q : T → Type 0) (r : Result T E) → ((x : T) → P x → Q x) → IfOk r P → IfOk r Q
if_ok P Q (Ok x) w h = w x h
if_ok P Q (Err e) w h = tt
