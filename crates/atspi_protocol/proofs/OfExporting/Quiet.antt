-- What an application says without being asked is no reply.
use Rattle.std.proofs.Common.{◌≡◌, ℕ, ◌+◌, Bool, false, Option, Some, None, refl}
use Rattle.std.specs.Prelude.{◌==◌, ◌||◌, List, [], ◌∷◌, ◌++◌, map}
use Rattle.atspi_tree_model.specs.declared.step.Step.{Step}
use Rattle.atspi_tree_model.specs.declared.step.Step.TheVariants.{Add, Remove, Move, SetName, SetDescription, SetRole, SetState, Insert, Delete, Caret, TextSelect, Relate}
use Rattle.atspi_tree_model.specs.Forest.{Forest, labels, width, pick, find, children_at}
use Rattle.atspi_tree_model.specs.Row.{TreeRow, Each}
use Rattle.atspi_tree_model.specs.RowRules.{rows}
use Rattle.atspi_tree_model.specs.Tree.{is_node, after, seat_of}
use Rattle.atspi_tree_model.proofs.Lookup.{each_append, each_filter}
use Rattle.atspi_message.specs.Envelope.{Envelope}
use Rattle.atspi_protocol.specs.announcing.Signals.{Signal, removed}
use Rattle.atspi_protocol.specs.announcing.Announced.{told_node, left, announced}
use Rattle.atspi_protocol.specs.exporting.Exporter.{Happening, steps, sends, hears, deaf, numbered}
use Rattle.atspi_protocol.specs.exporting.Hearing.{is_covered}
use Rattle.atspi_protocol.specs.exporting.Telling.{asked_for, step_told, steps_told}
use Rattle.atspi_protocol.specs.exporting.Laws.{replies_among}

abbrev pub is_reply : Envelope → Bool
is_reply e = e.kind == 2 || e.kind == 3

abbrev pub IsQuiet : Happening → Type 0
IsQuiet (sends e) = is_reply e ≡ false
IsQuiet (steps step) = Unit {0}
IsQuiet (hears bus pattern) = Unit {0}
IsQuiet (deaf bus pattern) = Unit {0}

abbrev IsSignal : Signal → Type 0
IsSignal s = is_reply s.message ≡ false

node_quiet : (bus : List ℕ) (p i children : ℕ) (row : Option TreeRow) → Each IsSignal (told_node bus p i children row)
node_quiet bus p i children None = tt
node_quiet bus p i children (Some row) = (refl, tt)

left_quiet : (bus : List ℕ) (n : ℕ) (seat : Option (Option ℕ × ℕ)) → Each IsSignal (left bus n seat)
left_quiet bus n None = tt
left_quiet bus n (Some (None, i)) = tt
left_quiet bus n (Some (Some p, i)) = (refl, tt)

removed_quiet : (bus : List ℕ) (ns : List TreeRow) → Each IsSignal (map (λ (row : TreeRow). removed bus row.shape.node) ns)
removed_quiet bus [] = tt
removed_quiet bus (n ∷ ns) = (refl, removed_quiet bus ns)

announced_quiet : (bus : List ℕ) (f : Forest TreeRow) (step : Step) → Each IsSignal (announced bus f step)
announced_quiet bus f (Add n p i seed) = (refl, (refl, tt))
announced_quiet bus f (Remove n) = each_append IsSignal (left bus n (seat_of rows n f)) _ (left_quiet bus n (seat_of rows n f)) (removed_quiet bus (labels (pick (is_node n) f)))
announced_quiet bus f (Move n p i) =
    let g = after rows f (Move n p i) in
    let node = told_node bus p i (width (children_at (is_node n) g)) (find (is_node n) g) in
    let gone = left bus n (seat_of rows n f) in
    each_append IsSignal (node ++ gone) _
    (each_append IsSignal node gone (node_quiet bus p i (width (children_at (is_node n) g)) (find (is_node n) g)) (left_quiet bus n (seat_of rows n f)))
    (refl, (refl, tt))
announced_quiet bus f (SetName n x) = (refl, tt)
announced_quiet bus f (SetDescription n x) = (refl, tt)
announced_quiet bus f (SetRole n x) = (refl, tt)
announced_quiet bus f (SetState n s on) = (refl, tt)
announced_quiet bus f (Insert n at x) = (refl, tt)
announced_quiet bus f (Delete n at x) = (refl, tt)
announced_quiet bus f (Caret n at) = (refl, tt)
announced_quiet bus f (TextSelect n marks) = tt
announced_quiet bus f (Relate n kind targets) = tt

sent_quiet : (ss : List Signal) → Each IsSignal ss → Each IsQuiet (map (λ (s : Signal). sends s.message) ss)
sent_quiet [] h = tt
sent_quiet (s ∷ ss) h = (h.0, sent_quiet ss h.1)

pub told_quiet : (heard : List (List ℕ × List ℕ)) (bus : List ℕ) (f : Forest TreeRow) (ss : List Step) → Each IsQuiet (steps_told heard bus f ss)
told_quiet heard bus f [] = tt
told_quiet heard bus f (step ∷ more) =
    each_append IsQuiet (step_told heard bus f step) _
    (tt, sent_quiet (asked_for heard (announced bus f step)) (each_filter IsSignal (λ (s : Signal). is_covered heard s.event s.minor) (announced bus f step) (announced_quiet bus f step)))
    (told_quiet heard bus (after rows f step) more)

pub no_replies : (n : ℕ) (hs : List Happening) → Each IsQuiet hs → replies_among (numbered n hs) ≡ []
no_replies n [] h = refl
no_replies n (sends e ∷ hs) h = rw h.0 (no_replies (n + 1) hs h.1)
no_replies n (steps step ∷ hs) h = no_replies n hs h.1
no_replies n (hears bus pattern ∷ hs) h = no_replies n hs h.1
no_replies n (deaf bus pattern ∷ hs) h = no_replies n hs h.1
