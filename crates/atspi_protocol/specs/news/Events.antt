-- The news in an application's events (AT-SPI2, interface Event.Object), a line for each.
use Rattle.std.specs.Prelude.{ℕ, ◌+◌, ◌==◌, not, ℤ, pos, negsuc, Bool, true, List, [], ◌∷◌, length, take, Option, Some}
use Rattle.std.specs.Prelude.{None, codes, bytes_eq, if◌then◌else◌}
use Rattle.atspi_types.specs.Kinds.{i32, u32}
use Rattle.atspi_types.specs.Data.{Data, number_data, text_data}
use Rattle.atspi_tables.specs.States.{state_names}
use Rattle.atspi_tree_model.specs.declared.news.Reference.{Reference}
use Rattle.atspi_tree_model.specs.declared.news.News.{News}
use Rattle.atspi_tree_model.specs.declared.news.News.TheVariants.{ChildAdded, ChildRemoved, Name, Description, Role}
use Rattle.atspi_tree_model.specs.declared.news.News.TheVariants.{State, Inserted, Deleted, Caret, Nothing}
use Rattle.atspi_protocol.specs.news.Arguments.{Event, reference_in, signed}

-- whether a text begins with a word
abbrev pub is_front : List ℕ → List ℕ → Bool
is_front word text = bytes_eq (take (length word) text) word

-- the news that stands with a name in a table; none of them is nothing
abbrev pub named_in : List (List ℕ × News) → List ℕ → News
named_in [] name = Nothing
named_in (line ∷ lines) name = if bytes_eq line.0 name then line.1 else named_in lines name

-- the child that an event names, which is the application's own
abbrev pub own_child : List ℕ → Option Reference → (List ℕ → News) → News
own_child bus None news = Nothing
own_child bus (Some child) news = if bytes_eq child.bus bus then news child.path else Nothing

-- a child was put below a node, or taken from the place that it stood at
abbrev pub children_changed : List ℕ → List ℕ → Event → News
children_changed bus path e =
    named_in
    ((codes "add", own_child bus (reference_in e.value) ChildAdded)
    ∷ ((codes "remove", own_child bus (reference_in e.value) (ChildRemoved path e.detail1))
    ∷ [])) e.minor

-- a text, or nothing
abbrev pub with_text : Data → (List ℕ → News) → News
with_text (text_data text) news = news text
with_text value news = Nothing

-- a role: a number, which may be signed but not negative
abbrev pub role_at_least_0 : ℤ → List ℕ → News
role_at_least_0 (pos role) path = Role path role
role_at_least_0 (negsuc role) path = Nothing

abbrev pub role_news : Data → List ℕ → News
role_news (number_data u32 role) path = Role path role
role_news (number_data i32 role) path = role_at_least_0 (signed role) path
role_news value path = Nothing

-- a name, a description or a role is another; that the parent is another is told by the events of the children
abbrev pub property_change : List ℕ → Event → News
property_change path e =
    named_in
    ((codes "accessible-name", with_text e.value (Name path))
    ∷ ((codes "accessible-description", with_text e.value (Description path))
    ∷ ((codes "accessible-role", role_news e.value path)
    ∷ []))) e.minor

-- the states from a bit on, each with the news that it is on or off
abbrev pub state_lines : ℕ → List (List ℕ) → List ℕ → Bool → List (List ℕ × News)
state_lines bit [] path on = []
state_lines bit (name ∷ names) path on = (name, State path bit on) ∷ state_lines (1 + bit) names path on

-- a state is off where the first number is 0, and else on
abbrev pub is_on : ℤ → Bool
is_on (pos detail) = not (detail == 0)
is_on (negsuc detail) = true

-- the state with this name; `default` is another name of `is-default`
abbrev pub state_changed : List ℕ → Event → News
state_changed path e =
    named_in ((codes "default", State path 39 (is_on e.detail1)) ∷ state_lines 0 state_names path (is_on e.detail1))
    e.minor

-- text was put in or taken out, where the minor event begins so
abbrev pub text_changed : List ℕ → Event → News
text_changed path e =
    if is_front (codes "insert") e.minor then with_text e.value (Inserted path e.detail1)
    else if is_front (codes "delete") e.minor then with_text e.value (Deleted path e.detail1 e.detail2)
    else Nothing

-- what an event of a node says, by the event's name
abbrev pub event_news : List ℕ → List ℕ → List ℕ → Event → News
event_news bus path member e =
    named_in
    ((codes "ChildrenChanged", children_changed bus path e)
    ∷ ((codes "PropertyChange", property_change path e)
    ∷ ((codes "StateChanged", state_changed path e)
    ∷ ((codes "TextChanged", text_changed path e)
    ∷ ((codes "TextCaretMoved", Caret path e.detail1)
    ∷ []))))) member
