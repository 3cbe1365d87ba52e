-- The signals of steps meet the rules of messages.
use Rattle.std.proofs.Common.{ℕ, List, [], ◌∷◌, ◌++◌, Option, Some, None, map}
use Rattle.atspi_tree_model.specs.declared.step.Step.{Step}
use Rattle.atspi_tree_model.specs.declared.step.Step.TheVariants.{Add, Remove, Move, SetName, SetDescription, SetRole, SetState, Insert, Delete, Caret, TextSelect, Relate}
use Rattle.atspi_tree_model.specs.Forest.{Forest, labels, width, pick, find, children_at}
use Rattle.atspi_tree_model.specs.Row.{Each, TreeRow}
use Rattle.atspi_tree_model.specs.RowRules.{rows}
use Rattle.atspi_tree_model.specs.Tree.{is_node, after, seat_of}
use Rattle.atspi_tree_model.proofs.Lookup.{each_append}
use Rattle.atspi_protocol.specs.announcing.Signals.{Signal, removed}
use Rattle.atspi_protocol.specs.announcing.Announced.{announced, left, told_node}
use Rattle.atspi_protocol.specs.exporting.Laws.{IsTypedSignal}
use Rattle.atspi_protocol.proofs.OfExporting.Typed.{words_are_typed}
use Rattle.atspi_live_app.proofs.May.{MaySend, signal_may}

-- with values that are well typed it meets the rules
abbrev IsShaped : Signal → Type 0
IsShaped s = IsTypedSignal s → MaySend s.message

node_shaped : (bus : List ℕ) (p i children : ℕ) (row : Option TreeRow) → Each IsShaped (told_node bus p i children row)
node_shaped bus p i children None = tt
node_shaped bus p i children (Some row) = (signal_may _ _ _ _, tt)

left_shaped : (bus : List ℕ) (n : ℕ) (seat : Option (Option ℕ × ℕ)) → Each IsShaped (left bus n seat)
left_shaped bus n None = tt
left_shaped bus n (Some (None, i)) = tt
left_shaped bus n (Some (Some p, i)) = (signal_may _ _ _ _, tt)

removed_shaped : (bus : List ℕ) (ns : List TreeRow) → Each IsShaped (map (λ (row : TreeRow). removed bus row.shape.node) ns)
removed_shaped bus [] = tt
removed_shaped bus (n ∷ ns) = (signal_may _ _ _ _, removed_shaped bus ns)

shaped : (bus : List ℕ) (f : Forest TreeRow) (step : Step) → Each IsShaped (announced bus f step)
shaped bus f (Add n p i seed) = (signal_may _ _ _ _, (signal_may _ _ _ _, tt))
shaped bus f (Remove n) = each_append IsShaped (left bus n (seat_of rows n f)) _ (left_shaped bus n (seat_of rows n f)) (removed_shaped bus (labels (pick (is_node n) f)))
shaped bus f (Move n p i) =
    let g = after rows f (Move n p i) in
    let told = told_node bus p i (width (children_at (is_node n) g)) (find (is_node n) g) in
    let gone = left bus n (seat_of rows n f) in
    each_append IsShaped (told ++ gone) _
    (each_append IsShaped told gone (node_shaped bus p i (width (children_at (is_node n) g)) (find (is_node n) g)) (left_shaped bus n (seat_of rows n f)))
    (signal_may _ _ _ _, (signal_may _ _ _ _, tt))
shaped bus f (SetName n x) = (signal_may _ _ _ _, tt)
shaped bus f (SetDescription n x) = (signal_may _ _ _ _, tt)
shaped bus f (SetRole n x) = (signal_may _ _ _ _, tt)
shaped bus f (SetState n s on) = (signal_may _ _ _ _, tt)
shaped bus f (Insert n at x) = (signal_may _ _ _ _, tt)
shaped bus f (Delete n at x) = (signal_may _ _ _ _, tt)
shaped bus f (Caret n at) = (signal_may _ _ _ _, tt)
shaped bus f (TextSelect n marks) = tt
shaped bus f (Relate n kind targets) = tt

-- a signal may be sent
abbrev pub MayTell : Signal → Type 0
MayTell s = MaySend s.message

typed_may : (ss : List Signal) → Each IsShaped ss → Each IsTypedSignal ss → Each MayTell ss
typed_may [] h k = tt
typed_may (s ∷ ss) h k = (h.0 k.0, typed_may ss h.1 k.1)

pub signals_may : (bus : List ℕ) (f : Forest TreeRow) (step : Step) → Each MayTell (announced bus f step)
signals_may bus f step = typed_may (announced bus f step) (shaped bus f step) (words_are_typed.signals bus f step)
