-- What an application sends at an edit are signals.
use Rattle.std.proofs.Common.{◌≡◌, ℕ, ◌+◌, Bool, true, false, List, [], ◌∷◌, ◌++◌, map, Option, None, Some, refl, sym, ap, ◌∙◌, subst}
use Rattle.std.specs.Prelude.{Result, Ok, Err, if◌then◌else◌}
use Rattle.std.specs.List.{AllByRecursion}
use Rattle.atspi_tree_model.specs.declared.edit.Edit.{Edit}
use Rattle.atspi_tree_model.specs.declared.edit.EditFault.{EditFault}
use Rattle.atspi_tree_model.specs.declared.step.Step.{Step}
use Rattle.atspi_tree_model.specs.declared.step.Step.TheVariants.{Add, Remove, Move, SetName, SetDescription, SetRole, SetState, Insert, Delete, Caret, TextSelect, Relate}
use Rattle.atspi_tree_model.specs.Forest.{Forest, labels, width, pick, find, children_at}
use Rattle.atspi_tree_model.specs.Row.{TreeRow}
use Rattle.atspi_tree_model.specs.RowRules.{rows}
use Rattle.atspi_tree_model.specs.Tree.{is_node, after, seat_of}
use Rattle.atspi_tree_model.specs.Edits.{steps_of_tree}
use Rattle.atspi_protocol.specs.announcing.Signals.{Signal, removed}
use Rattle.atspi_protocol.specs.announcing.Announced.{told_node, left, announced}
use Rattle.atspi_protocol.specs.exporting.Exporter.{Happening, steps, sends, hears, deaf, Exporter, numbered, queues}
use Rattle.atspi_protocol.specs.exporting.Hearing.{is_covered}
use Rattle.atspi_protocol.specs.exporting.Starting.{name_or_empty}
use Rattle.atspi_protocol.specs.exporting.Taking.{app_edits, stepped}
use Rattle.atspi_protocol.specs.exporting.Telling.{asked_for, step_told, steps_told}

abbrev IsSignal : Signal → Type 0
IsSignal s = s.message.kind ≡ 4

pub all-append : {X : Type 0} (P : X → Type 0) (xs ys : List X) → AllByRecursion P xs → AllByRecursion P ys → AllByRecursion P (xs ++ ys)
all-append P [] ys a b = b
all-append P (x ∷ xs) ys a b = (a.0, all-append P xs ys a.1 b)

node_signals : (bus : List ℕ) (p i n : ℕ) (row : Option TreeRow) → AllByRecursion IsSignal (told_node bus p i n row)
node_signals bus p i n None = tt
node_signals bus p i n (Some row) = (refl, tt)

left_signals : (bus : List ℕ) (n : ℕ) (seat : Option (Option ℕ × ℕ)) → AllByRecursion IsSignal (left bus n seat)
left_signals bus n None = tt
left_signals bus n (Some (None, index)) = tt
left_signals bus n (Some (Some parent, index)) = (refl, tt)

removed_signals : (bus : List ℕ) (xs : List TreeRow) → AllByRecursion IsSignal (map (λ (row : TreeRow). removed bus row.shape.node) xs)
removed_signals bus [] = tt
removed_signals bus (x ∷ xs) = (refl, removed_signals bus xs)

announced_signals : (bus : List ℕ) (f : Forest TreeRow) (step : Step) → AllByRecursion IsSignal (announced bus f step)
announced_signals bus f (Add n p i seed) = (refl, (refl, tt))
announced_signals bus f (Remove n) =
    all-append IsSignal (left bus n (seat_of rows n f)) (map (λ (row : TreeRow). removed bus row.shape.node) (labels (pick (is_node n) f))) (left_signals bus n (seat_of rows n f))
    (removed_signals bus (labels (pick (is_node n) f)))
announced_signals bus f (Move n p i) =
    let g = after rows f (Move n p i) in
    all-append IsSignal (told_node bus p i (width (children_at (is_node n) g)) (find (is_node n) g) ++ left bus n (seat_of rows n f)) _
    (all-append IsSignal (told_node bus p i (width (children_at (is_node n) g)) (find (is_node n) g)) (left bus n (seat_of rows n f))
    (node_signals bus p i (width (children_at (is_node n) g)) (find (is_node n) g)) (left_signals bus n (seat_of rows n f)))
    (refl, (refl, tt))
announced_signals bus f (SetName n x) = (refl, tt)
announced_signals bus f (SetDescription n x) = (refl, tt)
announced_signals bus f (SetRole n role) = (refl, tt)
announced_signals bus f (SetState n state on) = (refl, tt)
announced_signals bus f (Insert n at x) = (refl, tt)
announced_signals bus f (Delete n at x) = (refl, tt)
announced_signals bus f (Caret n at) = (refl, tt)
announced_signals bus f (TextSelect n marks) = tt
announced_signals bus f (Relate n kind targets) = tt

asked_signals : (heard : List (List ℕ × List ℕ)) (ss : List Signal) → AllByRecursion IsSignal ss → AllByRecursion IsSignal (asked_for heard ss)
asked_signals heard [] a = tt
asked_signals heard (s ∷ ss) a = by (is_covered heard s.event s.minor) (asked_signals heard ss a.1)
  where
    by : (b : Bool) → AllByRecursion IsSignal (asked_for heard ss) → AllByRecursion IsSignal (if b then s ∷ asked_for heard ss else asked_for heard ss)
    by true rest = (a.0, rest)
    by false rest = rest

-- what is sent is a signal
abbrev pub SendsSignal : Happening → Type 0
SendsSignal (sends e) = e.kind ≡ 4
SendsSignal (steps step) = Unit {0}
SendsSignal (hears listener pattern) = Unit {0}
SendsSignal (deaf listener pattern) = Unit {0}

sent_signals : (ss : List Signal) → AllByRecursion IsSignal ss → AllByRecursion SendsSignal (map (λ (s : Signal). sends s.message) ss)
sent_signals [] a = tt
sent_signals (s ∷ ss) a = (a.0, sent_signals ss a.1)

pub steps_signals : (heard : List (List ℕ × List ℕ)) (bus : List ℕ) (f : Forest TreeRow) (ss : List Step) → AllByRecursion SendsSignal (steps_told heard bus f ss)
steps_signals heard bus f [] = tt
steps_signals heard bus f (step ∷ more) =
    all-append SendsSignal (step_told heard bus f step) (steps_told heard bus (after rows f step) more)
    (tt, sent_signals (asked_for heard (announced bus f step)) (asked_signals heard (announced bus f step) (announced_signals bus f step)))
    (steps_signals heard bus (after rows f step) more)

numbered_signals : (n : ℕ) (hs : List Happening) → AllByRecursion SendsSignal hs → AllByRecursion SendsSignal (numbered n hs)
numbered_signals n [] a = tt
numbered_signals n (sends e ∷ hs) a = (a.0, numbered_signals (n + 1) hs a.1)
numbered_signals n (steps step ∷ hs) a = (tt, numbered_signals n hs a.1)
numbered_signals n (hears listener pattern ∷ hs) a = (tt, numbered_signals n hs a.1)
numbered_signals n (deaf listener pattern ∷ hs) a = (tt, numbered_signals n hs a.1)

abbrev edited_by : Exporter → Result (List Step) EditFault → Result Exporter EditFault
edited_by s (Ok ss) = Ok (queues (stepped s ss) (steps_told s.heard (name_or_empty s.name) s.tree ss))
edited_by s (Err fault) = Err fault

same_ok : (x y : Exporter) → ◌≡◌ {A = Result Exporter EditFault} (Ok x) (Ok y) → x ≡ y
same_ok x y h = cc

pub edited_signals : (s t : Exporter) (edit : Edit) → s.out ≡ [] → app_edits s edit ≡ Ok t → AllByRecursion SendsSignal t.out
edited_signals s t edit none is = by (steps_of_tree s.tree s.added edit) is
  where
    by : (r : Result (List Step) EditFault) → edited_by s r ≡ Ok t → AllByRecursion SendsSignal t.out
    by (Ok ss) h =
        let out : s.out ++ numbered s.next (steps_told s.heard (name_or_empty s.name) s.tree ss) ≡ t.out = ap (λ (x : Exporter). x.out) (same_ok _ t h) in
        subst (AllByRecursion SendsSignal) (ap (λ l. l ++ numbered s.next (steps_told s.heard (name_or_empty s.name) s.tree ss)) (sym none) ∙ out)
        (numbered_signals s.next (steps_told s.heard (name_or_empty s.name) s.tree ss) (steps_signals s.heard (name_or_empty s.name) s.tree ss))
    by (Err fault) h = absurd cc
