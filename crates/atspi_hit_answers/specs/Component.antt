-- The interface Component of an application's nodes (AT-SPI2's interface file Component): what a call of it asks, and
-- what is answered. Coordinates are those of the screen, which is coordinate type 0; no other type is served.
use Rattle.std.specs.Prelude.{◌≡◌, ◌≢◌, ◌⊎◌, ℕ, ℤ, pos, min, true, List, [], ◌∷◌, Option, None, Some, Result, Ok, Err}
use Rattle.std.specs.Prelude.{codes, bytes_eq, if◌then◌else◌, unwrap_or}
use Rattle.atspi_types.specs.Kinds.{u32}
use Rattle.atspi_types.specs.Data.{Data, number_data, boolean_data, structure_data, items_of}
use Rattle.atspi_message.specs.Envelope.{Envelope}
use Rattle.atspi_tree_model.specs.Forest.{has}
use Rattle.atspi_tree_model.specs.Tree.{is_shape}
use Rattle.atspi_tree_model.specs.Path.{path_of}
use Rattle.atspi_tree.specs.TreeShape.{TreeShape}
use Rattle.atspi_protocol.specs.ends.Places.{reference, null_path}
use Rattle.atspi_protocol.specs.ends.Messages.{Reply, returns, fails, reply_to, error_word}
use Rattle.atspi_protocol.specs.members.Arguments.{int}
use Rattle.atspi_protocol.specs.declared.ends.error.CallError.{CallError}
use Rattle.atspi_protocol.specs.declared.ends.error.CallError.TheVariants.{UnknownObject, UnknownMethod, InvalidArgs}
use Rattle.atspi_hit.specs.declared.rect.Rect.{Rect}
use Rattle.atspi_hit.specs.Places.{covers}
use Rattle.atspi_hit.specs.Pointing.{at_point}
use Rattle.atspi_hit_answers.specs.declared.ask.Ask.{Ask}
use Rattle.atspi_hit_answers.specs.declared.ask.Ask.TheVariants.{Contains, AccessibleAtPoint, Extents}
use Rattle.atspi_hit_answers.specs.declared.ask.Member.{Member}
use Rattle.atspi_hit_answers.specs.declared.ask.Member.TheVariants as members

-- the member of a name
abbrev pub member_named : List ℕ → Option Member
member_named name =
    if bytes_eq name (codes "Contains") then Some members.Contains
    else if bytes_eq name (codes "GetAccessibleAtPoint") then Some members.GetAccessibleAtPoint
    else if bytes_eq name (codes "GetExtents") then Some members.GetExtents
    else None

-- the coordinate type of the screen, and a point of the screen, as arguments
abbrev pub screen : Data
screen = number_data u32 0

abbrev pub point : ℤ → ℤ → List Data
point x y = int x ∷ int y ∷ screen ∷ []

-- the arguments of this are those of what is asked, or they are those of nothing
abbrev pub AsksBy : Member → List Data → Result Ask CallError → Type 0
AsksBy members.Contains body (Ok (Contains x y)) = body ≡ point x y
AsksBy members.Contains body (Err InvalidArgs) = (x y : ℤ) → body ≡ point x y → ⊥
AsksBy members.GetAccessibleAtPoint body (Ok (AccessibleAtPoint x y)) = body ≡ point x y
AsksBy members.GetAccessibleAtPoint body (Err InvalidArgs) = (x y : ℤ) → body ≡ point x y → ⊥
AsksBy members.GetExtents body (Ok Extents) = body ≡ screen ∷ []
AsksBy members.GetExtents body (Err InvalidArgs) = body ≢ screen ∷ []
AsksBy member body asked = ⊥

-- the same, where a name is that of a member
abbrev pub AsksIf : Option Member → List Data → Result Ask CallError → Type 0
AsksIf None body asked = asked ≡ Err UnknownMethod
AsksIf (Some member) body asked = AsksBy member body asked

-- what a call asks by the name of its member and its arguments
abbrev pub Asks : List ℕ → List Data → Result Ask CallError → Type 0
Asks name body asked = AsksIf (member_named name) body asked

-- a rectangle as it is told; a size above the largest number is told as that
abbrev pub extents : Rect → Data
extents r = structure_data (items_of (
    int r.x ∷ int r.y ∷ int (pos (min r.w 2147483647)) ∷ int (pos (min r.h 2147483647)) ∷ []
    ))

-- a node of the application with this name, or nobody
abbrev pub node_or_null : List ℕ → Option ℕ → Data
node_or_null name None = reference name null_path
node_or_null name (Some n) = reference name (path_of n)

-- what is answered for a node, where nodes have these rectangles
abbrev pub answered : TreeShape → (ℕ → Rect) → List ℕ → ℕ → Ask → Data
answered t rects name n (Contains x y) = boolean_data (covers (rects n) x y)
answered t rects name n (AccessibleAtPoint x y) = node_or_null name (at_point t rects n x y)
answered t rects name n Extents = extents (rects n)

-- the reply for a number, which may be no node's
abbrev pub node_reply : TreeShape → (ℕ → Rect) → List ℕ → ℕ → Ask → Reply
node_reply t rects name n ask =
    if has (is_shape n) t.rows then returns (answered t rects name n ask ∷ []) else fails (error_word UnknownObject)

-- the message with this serial that brings a reply to a caller's call
abbrev pub reply_with : ℕ → List ℕ → ℕ → Reply → Envelope
reply_with serial caller call reply = record (reply_to caller call reply) { serial = serial }

-- what is asked of a node is answered, or it gets its error
abbrev pub asked_reply : TreeShape → (ℕ → Rect) → List ℕ → ℕ → Result Ask CallError → Reply
asked_reply t rects name n (Ok ask) = returns (answered t rects name n ask ∷ [])
asked_reply t rects name n (Err error) = fails (error_word error)

-- this is a node of the tree, by its path
abbrev pub IsNode : TreeShape → List ℕ → ℕ → Type 0
IsNode t path n = (has (is_shape n) t.rows ≡ true) × (path_of n ≡ path)

-- the reply to a call: its path is judged first, then its member, then its arguments
abbrev pub Replies : TreeShape → (ℕ → Rect) → List ℕ → Envelope → Reply → Type 0
Replies t rects name call reply =
    ((n : ℕ) × (asked : Result Ask CallError) × IsNode t (unwrap_or call.path []) n
    × Asks (unwrap_or call.member []) call.body asked × (reply ≡ asked_reply t rects name n asked))
    ⊎ (((n : ℕ) → IsNode t (unwrap_or call.path []) n → ⊥) × (reply ≡ fails (error_word UnknownObject)))

-- the message that answers a call of a caller
abbrev pub IsAnswer : TreeShape → (ℕ → Rect) → List ℕ → ℕ → Envelope → Envelope → Type 0
IsAnswer t rects name serial call answer = (reply : Reply) × Replies t rects name call reply
    × (answer ≡ reply_with serial (unwrap_or call.sender []) call.serial reply)
