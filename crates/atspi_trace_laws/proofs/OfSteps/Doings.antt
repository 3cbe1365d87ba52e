-- What an application does at a message or an edit: its steps apply one after another, and its tree is then the one after them.
use Rattle.std.proofs.Common.{◌≡◌, ℕ, List, [], ◌∷◌, ◌++◌, map, refl, sym, ap, ◌∙◌, subst}
use Rattle.std.specs.Prelude.{◌+◌, Result, Ok, Err}
use Rattle.std.proofs.lemmas.List.{append-nil, append_assoc}
use Rattle.atspi_tree_model.specs.declared.edit.Edit.{Edit}
use Rattle.atspi_tree_model.specs.declared.edit.EditFault.{EditFault}
use Rattle.atspi_tree_model.specs.declared.step.Step.{Step}
use Rattle.atspi_tree_model.specs.Forest.{Forest}
use Rattle.atspi_tree_model.specs.Row.{TreeRow}
use Rattle.atspi_tree_model.specs.RowRules.{rows}
use Rattle.atspi_tree_model.specs.Tree.{after, added_after, Applies, AllApply, after_all}
use Rattle.atspi_tree_model.specs.Edits.{steps_of_tree, IsEdit}
use Rattle.atspi_tree_model.proofs.EditsApply.{steps_apply}
use Rattle.atspi_message.specs.Envelope.{Envelope}
use Rattle.atspi_protocol.specs.announcing.Signals.{Signal}
use Rattle.atspi_protocol.specs.announcing.Announced.{announced}
use Rattle.atspi_protocol.specs.exporting.Exporter.{Happening, steps, sends, hears, deaf, Exporter, numbered, queues}
use Rattle.atspi_protocol.specs.exporting.Telling.{asked_for, steps_told}
use Rattle.atspi_protocol.specs.exporting.Starting.{name_or_empty}
use Rattle.atspi_protocol.specs.exporting.Taking.{added_by, app_edits, stepped}
use Rattle.atspi_protocol.specs.exporting.Laws.{HasTree}

-- the steps apply, and what the tree is after them
abbrev pub AllDone : Forest TreeRow → ℕ → List Happening → Type 0
AllDone f n [] = Unit {0}
AllDone f n (steps step ∷ hs) = Applies rows f n step × AllDone (after rows f step) (added_after n step) hs
AllDone f n (sends e ∷ hs) = AllDone f n hs
AllDone f n (hears bus pattern ∷ hs) = AllDone f n hs
AllDone f n (deaf bus pattern ∷ hs) = AllDone f n hs

abbrev pub tree_by : Forest TreeRow → List Happening → Forest TreeRow
tree_by f [] = f
tree_by f (steps step ∷ hs) = tree_by (after rows f step) hs
tree_by f (sends e ∷ hs) = tree_by f hs
tree_by f (hears bus pattern ∷ hs) = tree_by f hs
tree_by f (deaf bus pattern ∷ hs) = tree_by f hs

abbrev pub count_by : ℕ → List Happening → ℕ
count_by n [] = n
count_by n (steps step ∷ hs) = count_by (added_after n step) hs
count_by n (sends e ∷ hs) = count_by n hs
count_by n (hears bus pattern ∷ hs) = count_by n hs
count_by n (deaf bus pattern ∷ hs) = count_by n hs

-- no step among them
abbrev pub IsStill : List Happening → Type 0
IsStill [] = Unit {0}
IsStill (steps step ∷ hs) = ⊥
IsStill (h ∷ hs) = IsStill hs

-- lists one behind the other
pub done_append : (f : Forest TreeRow) (n : ℕ) (hs ks : List Happening) → AllDone f n hs → AllDone (tree_by f hs) (count_by n hs) ks → AllDone f n (hs ++ ks)
done_append f n [] ks a b = b
done_append f n (steps step ∷ hs) ks a b = (a.0, done_append (after rows f step) (added_after n step) hs ks a.1 b)
done_append f n (sends e ∷ hs) ks a b = done_append f n hs ks a b
done_append f n (hears bus pattern ∷ hs) ks a b = done_append f n hs ks a b
done_append f n (deaf bus pattern ∷ hs) ks a b = done_append f n hs ks a b

pub tree_append : (f : Forest TreeRow) (hs ks : List Happening) → tree_by f (hs ++ ks) ≡ tree_by (tree_by f hs) ks
tree_append f [] ks = refl
tree_append f (steps step ∷ hs) ks = tree_append (after rows f step) hs ks
tree_append f (sends e ∷ hs) ks = tree_append f hs ks
tree_append f (hears bus pattern ∷ hs) ks = tree_append f hs ks
tree_append f (deaf bus pattern ∷ hs) ks = tree_append f hs ks

pub count_append : (n : ℕ) (hs ks : List Happening) → count_by n (hs ++ ks) ≡ count_by (count_by n hs) ks
count_append n [] ks = refl
count_append n (steps step ∷ hs) ks = count_append (added_after n step) hs ks
count_append n (sends e ∷ hs) ks = count_append n hs ks
count_append n (hears bus pattern ∷ hs) ks = count_append n hs ks
count_append n (deaf bus pattern ∷ hs) ks = count_append n hs ks

-- numbers change nothing
pub done_numbered : (f : Forest TreeRow) (n m : ℕ) (hs : List Happening) → AllDone f n hs → AllDone f n (numbered m hs)
done_numbered f n m [] a = tt
done_numbered f n m (steps step ∷ hs) a = (a.0, done_numbered (after rows f step) (added_after n step) m hs a.1)
done_numbered f n m (sends e ∷ hs) a = done_numbered f n (m + 1) hs a
done_numbered f n m (hears bus pattern ∷ hs) a = done_numbered f n m hs a
done_numbered f n m (deaf bus pattern ∷ hs) a = done_numbered f n m hs a

pub tree_numbered : (f : Forest TreeRow) (m : ℕ) (hs : List Happening) → tree_by f (numbered m hs) ≡ tree_by f hs
tree_numbered f m [] = refl
tree_numbered f m (steps step ∷ hs) = tree_numbered (after rows f step) m hs
tree_numbered f m (sends e ∷ hs) = tree_numbered f (m + 1) hs
tree_numbered f m (hears bus pattern ∷ hs) = tree_numbered f m hs
tree_numbered f m (deaf bus pattern ∷ hs) = tree_numbered f m hs

pub count_numbered : (n m : ℕ) (hs : List Happening) → count_by n (numbered m hs) ≡ count_by n hs
count_numbered n m [] = refl
count_numbered n m (steps step ∷ hs) = count_numbered (added_after n step) m hs
count_numbered n m (sends e ∷ hs) = count_numbered n (m + 1) hs
count_numbered n m (hears bus pattern ∷ hs) = count_numbered n m hs
count_numbered n m (deaf bus pattern ∷ hs) = count_numbered n m hs

-- lists without a step
pub still_done : (f : Forest TreeRow) (n : ℕ) (hs : List Happening) → IsStill hs → AllDone f n hs
still_done f n [] s = tt
still_done f n (steps step ∷ hs) s = absurd s
still_done f n (sends e ∷ hs) s = still_done f n hs s
still_done f n (hears bus pattern ∷ hs) s = still_done f n hs s
still_done f n (deaf bus pattern ∷ hs) s = still_done f n hs s

pub still_tree : (f : Forest TreeRow) (hs : List Happening) → IsStill hs → tree_by f hs ≡ f
still_tree f [] s = refl
still_tree f (steps step ∷ hs) s = absurd s
still_tree f (sends e ∷ hs) s = still_tree f hs s
still_tree f (hears bus pattern ∷ hs) s = still_tree f hs s
still_tree f (deaf bus pattern ∷ hs) s = still_tree f hs s

pub still_count : (n : ℕ) (hs : List Happening) → IsStill hs → count_by n hs ≡ n
still_count n [] s = refl
still_count n (steps step ∷ hs) s = absurd s
still_count n (sends e ∷ hs) s = still_count n hs s
still_count n (hears bus pattern ∷ hs) s = still_count n hs s
still_count n (deaf bus pattern ∷ hs) s = still_count n hs s

pub still_append : (hs ks : List Happening) → IsStill hs → IsStill ks → IsStill (hs ++ ks)
still_append [] ks a b = b
still_append (steps step ∷ hs) ks a b = absurd a
still_append (sends e ∷ hs) ks a b = still_append hs ks a b
still_append (hears bus pattern ∷ hs) ks a b = still_append hs ks a b
still_append (deaf bus pattern ∷ hs) ks a b = still_append hs ks a b

pub still_sends : {A : Type 0} (message : A → Envelope) (xs : List A) → IsStill (map (λ x. sends (message x)) xs)
still_sends message [] = tt
still_sends message (x ∷ xs) = still_sends message xs

pub still_deaf : (ps : List (List ℕ × List ℕ)) → IsStill (map (λ (p : List ℕ × List ℕ). deaf p.0 p.1) ps)
still_deaf [] = tt
still_deaf (p ∷ ps) = still_deaf ps

pub still_hears : (ps : List (List ℕ × List ℕ)) → IsStill (map (λ (p : List ℕ × List ℕ). hears p.0 p.1) ps)
still_hears [] = tt
still_hears (p ∷ ps) = still_hears ps

-- the steps that are told
pub told_done : (heard : List (List ℕ × List ℕ)) (bus : List ℕ) (f : Forest TreeRow) (n : ℕ) (ss : List Step) → AllApply rows f n ss → AllDone f n (steps_told heard bus f ss)
told_done heard bus f n [] a = tt
told_done heard bus f n (step ∷ ss) a =
    let signals : List Happening = map (λ (s : Signal). sends s.message) (asked_for heard (announced bus f step)) in
    let still = still_sends (λ (s : Signal). s.message) (asked_for heard (announced bus f step)) in
    let g : Forest TreeRow = after rows f step in
    let m : ℕ = added_after n step in (
      a.0,
      done_append g m signals (steps_told heard bus g ss) (still_done g m signals still)
          (subst (λ t. AllDone t (count_by m signals) (steps_told heard bus g ss)) (sym (still_tree g signals still))
          (subst (λ c. AllDone g c (steps_told heard bus g ss)) (sym (still_count m signals still)) (told_done heard bus g m ss a.1))),
    )

pub told_tree : (heard : List (List ℕ × List ℕ)) (bus : List ℕ) (f : Forest TreeRow) (ss : List Step) → tree_by f (steps_told heard bus f ss) ≡ after_all rows f ss
told_tree heard bus f [] = refl
told_tree heard bus f (step ∷ ss) =
    let signals : List Happening = map (λ (s : Signal). sends s.message) (asked_for heard (announced bus f step)) in
    tree_append (after rows f step) signals (steps_told heard bus (after rows f step) ss)
    ∙ ap (λ t. tree_by t (steps_told heard bus (after rows f step) ss)) (still_tree (after rows f step) signals (still_sends (λ (s : Signal). s.message) (asked_for heard (announced bus f step))))
    ∙ told_tree heard bus (after rows f step) ss

pub told_count : (heard : List (List ℕ × List ℕ)) (bus : List ℕ) (f : Forest TreeRow) (n : ℕ) (ss : List Step) → count_by n (steps_told heard bus f ss) ≡ added_by n ss
told_count heard bus f n [] = refl
told_count heard bus f n (step ∷ ss) =
    let signals : List Happening = map (λ (s : Signal). sends s.message) (asked_for heard (announced bus f step)) in
    count_append (added_after n step) signals (steps_told heard bus (after rows f step) ss)
    ∙ ap (λ t. count_by t (steps_told heard bus (after rows f step) ss)) (still_count (added_after n step) signals (still_sends (λ (s : Signal). s.message) (asked_for heard (announced bus f step))))
    ∙ told_count heard bus (after rows f step) (added_after n step) ss

-- what an application did between two states
pub record Did (s t : Exporter) : Type 0 where
  pub doings : List Happening
  pub out : t.out ≡ s.out ++ doings
  pub apply : AllDone s.tree s.added doings
  pub tree : t.tree ≡ tree_by s.tree doings
  pub added : t.added ≡ count_by s.added doings

pub nothing_done : (s t : Exporter) → t.out ≡ s.out → t.tree ≡ s.tree → t.added ≡ s.added → Did s t
nothing_done s t out tree added = record { doings = []; out = out ∙ sym (append-nil s.out); apply = tt; tree = tree; added = added }

pub still_did : (s t : Exporter) (hs : List Happening) → t.out ≡ s.out ++ numbered s.next hs → t.tree ≡ s.tree → t.added ≡ s.added → IsStill hs → Did s t
still_did s t hs out tree added still = record {
  doings = numbered s.next hs;
  out = out;
  apply = done_numbered s.tree s.added s.next hs (still_done s.tree s.added hs still);
  tree = tree ∙ sym (tree_numbered s.tree s.next hs ∙ still_tree s.tree hs still);
  added = added ∙ sym (count_numbered s.added s.next hs ∙ still_count s.added hs still);
}

pub both_did : (s t u : Exporter) → Did s t → Did t u → Did s u
both_did s t u a b = record {
  doings = a.doings ++ b.doings;
  out = b.out ∙ ap (λ l. l ++ b.doings) a.out ∙ append_assoc s.out a.doings b.doings;
  apply = done_append s.tree s.added a.doings b.doings a.apply (subst (λ f. AllDone f (count_by s.added a.doings) b.doings) a.tree (subst (λ n. AllDone t.tree n b.doings) a.added b.apply));
  tree = b.tree ∙ ap (λ f. tree_by f b.doings) a.tree ∙ sym (tree_append s.tree a.doings b.doings);
  added = b.added ∙ ap (λ n. count_by n b.doings) a.added ∙ sym (count_append s.added a.doings b.doings);
}

abbrev step_result : Exporter → Result (List Step) EditFault → Result Exporter EditFault
step_result s (Ok ss) = Ok (queues (stepped s ss) (steps_told s.heard (name_or_empty s.name) s.tree ss))
step_result s (Err fault) = Err fault

abbrev from_ok : Exporter → Result Exporter EditFault → Exporter
from_ok s (Ok u) = u
from_ok s (Err fault) = s

-- at an edit
pub edit_did : (s t : Exporter) (edit : Edit) → HasTree s → IsEdit edit → app_edits s edit ≡ Ok t → Did s t
edit_did s t edit has asked h = by (steps_of_tree s.tree s.added edit) refl h
  where
    made : (ss : List Step) → steps_of_tree s.tree s.added edit ≡ Ok ss → Did s (queues (stepped s ss) (steps_told s.heard (name_or_empty s.name) s.tree ss))
    made ss e =
        let hs : List Happening = steps_told s.heard (name_or_empty s.name) s.tree ss in
        record {
          doings = numbered s.next hs;
          out = refl;
          apply = done_numbered s.tree s.added s.next hs (told_done s.heard (name_or_empty s.name) s.tree s.added ss (steps_apply s.tree s.added edit ss has asked e));
          tree = sym (tree_numbered s.tree s.next hs ∙ told_tree s.heard (name_or_empty s.name) s.tree ss);
          added = sym (count_numbered s.added s.next hs ∙ told_count s.heard (name_or_empty s.name) s.tree s.added ss);
        }

    by : (r : Result (List Step) EditFault) → steps_of_tree s.tree s.added edit ≡ r → app_edits s edit ≡ Ok t → Did s t
    by (Ok ss) e g =
        let same : app_edits s edit ≡ step_result s (Ok ss) = rw e refl in
        subst (Did s) (ap (from_ok s) (sym same ∙ g)) (made ss e)
    by (Err fault) e g =
        let same : app_edits s edit ≡ Err fault = rw e refl in
        absurd (no (sym same ∙ g))
      where
        no : Err fault ≡ Ok t → ⊥
        no z = cc
