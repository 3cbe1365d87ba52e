-- What lines write.
use Rattle.std.specs.Prelude.{◌≡◌, ℕ, suc, List, [], ◌∷◌, ◌++◌, length, Option, None, Some, codes, slice_get}
use Rattle.std.specs.Prelude.{MatchOption}
use Rattle.std.specs.Fmt.{decimal}
use Rattle.std.specs.List.{flat_map}
use Rattle.atspi_message.specs.Envelope.{Envelope}
use Rattle.atspi_script.specs.MessageText.{message_text}
use Rattle.atspi_tree_model.specs.Edits.{node_targets}
use Rattle.atspi_tree.specs.TreeShape.{TreeShape, children_of, row_of}
use Rattle.atspi_hit.specs.Places.{rect_at}
use Rattle.atspi_hit.specs.Cells.{IsNeighbour}
use Rattle.atspi_hit.specs.declared.cells.Way.{Way}
use Rattle.atspi_hit_answers.specs.Component.{node_reply, reply_with}
use Rattle.atspi_hit_answers.specs.declared.ask.Ask.{Ask}
use Rattle.atspi_run_hit.specs.declared.line.HitLine.{HitLine}
use Rattle.atspi_run_hit.specs.declared.line.HitLine.TheVariants.{Call, Cell, Follow}
use Rattle.atspi_run_hit.specs.Wholes.{columns_of, shape}
use Rattle.atspi_run_hit.specs.Scene.{Scene}

-- the application is `:1.1`, and `:1.0` calls it
abbrev pub application : List ℕ
application = codes ":1.1"

abbrev pub caller : List ℕ
caller = codes ":1.0"

-- the reply to the next call: both have the number of the call
abbrev pub call_reply : Scene → ℕ → Ask → Envelope
call_reply s n ask =
    reply_with (suc s.calls) caller (suc s.calls) (node_reply (shape s.tree) (rect_at s.places) application n ask)

-- its text, a line
abbrev pub message_line : Envelope → List ℕ
message_line e = message_text e ++ 10 ∷ []

-- a node as a word, or `none`
abbrev pub node_word : Option ℕ → List ℕ
node_word None = codes "none"
node_word (Some n) = decimal n

abbrev pub cell_line : Option ℕ → List ℕ
cell_line node = codes "cell " ++ (node_word node ++ 10 ∷ [])

-- the node at a place among a node's children, where there is a place
abbrev pub child_at : List ℕ → Option ℕ → Option ℕ
child_at children None = None
child_at children (Some i) = slice_get children i

-- the place beside a place of a node's table with so many columns, and no such place
abbrev pub IsBeside : TreeShape → ℕ → ℕ → ℕ → Way → Option ℕ → Type 0
IsBeside t columns n i way beside = MatchOption beside
    ((to : ℕ) → IsNeighbour (length (children_of n t)) columns way i to → ⊥)
    (λ to. IsNeighbour (length (children_of n t)) columns way i to)

-- the line of the cell beside a cell, or of none
abbrev pub IsCellLine : TreeShape → ℕ → ℕ → ℕ → Way → List ℕ → Type 0
IsCellLine t columns n i way text = (beside : Option ℕ) × IsBeside t columns n i way beside
    × (text ≡ cell_line (child_at (children_of n t) beside))

-- the targets of a relation, each behind a space, or the word none
abbrev pub target_words : List ℕ → List ℕ
target_words [] = codes " none"
target_words (t ∷ ts) = flat_map (λ n. 32 ∷ decimal n) (t ∷ ts)

abbrev pub follow_line : List ℕ → List ℕ
follow_line targets = codes "follow" ++ (target_words targets ++ 10 ∷ [])

-- WHAT A LINE WRITES, over what the lines before it have made
abbrev pub TellsOf : Scene → HitLine → List ℕ → Type 0
TellsOf s (Call n ask) text = text ≡ message_line (call_reply s n ask)
TellsOf s (Cell n i way) text = IsCellLine (shape s.tree) (columns_of s.tree n) n i way text
TellsOf s (Follow n k) text = text ≡ follow_line (node_targets k (row_of n (shape s.tree)))
TellsOf s line text = text ≡ []

abbrev pub Tells : Option Scene → HitLine → List ℕ → Type 0
Tells None line text = text ≡ []
Tells (Some s) line text = TellsOf s line text
