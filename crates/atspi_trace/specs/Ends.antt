-- Ends by their numbers and names.
use Rattle.std.specs.Prelude.{ℕ, zero, suc, ◌==◌, Bool, true, false, List, [], ◌∷◌, ◌++◌, length, filter, position}
use Rattle.std.specs.Prelude.{Option, None, Some, slice_get, bytes_eq, if◌then◌else◌}
use Rattle.atspi_tree_model.specs.Forest.{nil, first_of}
use Rattle.atspi_script_lines.specs.declared.line.Party.{Party}
use Rattle.atspi_script_lines.specs.declared.line.Party.TheVariants.{Bus as The_bus, Registry, App, Reader}
use Rattle.atspi_message.specs.Envelope.{Envelope}
use Rattle.atspi_trace.specs.World.{Standing, here, stopped, away, Said, Letter, End}

abbrev pub is_here : Standing → Bool
is_here here = true
is_here standing = false

abbrev pub same_party : Party → Party → Bool
same_party The_bus The_bus = true
same_party Registry Registry = true
same_party (App a) (App b) = a == b
same_party (Reader r) (Reader s) = r == s
same_party who other = false

-- the number of an application or a reader
abbrev pub number_of : Party → ℕ
number_of (App a) = a
number_of (Reader r) = r
number_of who = 0

-- the connection of a party, and its end
abbrev pub conn_of : List End → Party → Option ℕ
conn_of ends who = position (λ (e : End). same_party e.who who) ends

abbrev pub end_at : List End → ℕ → Option End
end_at ends conn = slice_get ends conn

abbrev pub end_if : List End → Option ℕ → Option End
end_if ends None = None
end_if ends (Some conn) = end_at ends conn

abbrev pub end_of : List End → Party → Option End
end_of ends who = end_if ends (conn_of ends who)

-- the party of a connection
abbrev pub whose : Option End → Party
whose None = The_bus
whose (Some e) = e.who

abbrev pub party_at : List End → ℕ → Party
party_at ends conn = whose (end_at ends conn)

-- one end changes
abbrev pub with_end : ℕ → (End → End) → List End → List End
with_end conn change [] = []
with_end zero change (e ∷ es) = change e ∷ es
with_end (suc conn) change (e ∷ es) = e ∷ with_end conn change es

-- how many applications there are, and how many readers
abbrev pub is_app : Party → Bool
is_app (App a) = true
is_app who = false

abbrev pub is_reader : Party → Bool
is_reader (Reader r) = true
is_reader who = false

abbrev pub app_count : List End → ℕ
app_count ends = length (filter (λ (e : End). is_app e.who) ends)

abbrev pub reader_count : List End → ℕ
reader_count ends = length (filter (λ (e : End). is_reader e.who) ends)

-- the application that has or had this unique name
abbrev pub number_if : List ℕ → Party → Option (List ℕ) → Option ℕ
number_if name (App a) (Some unique) = if bytes_eq unique name then Some a else None
number_if name who unique = None

abbrev pub app_named : List ℕ → List End → Option ℕ
app_named name [] = None
app_named name (e ∷ es) = first_of (number_if name e.who e.unique) (app_named name es)

-- a message that tells of no tree
abbrev pub plain : Envelope → Said
plain e = record { message = e; tree = nil; announces = None }

-- more on a link
abbrev pub put_up : List Said → End → End
put_up saids e = record e { up = e.up ++ saids }

abbrev pub put_down : Letter → End → End
put_down letter e = record e { down = e.down ++ letter ∷ [] }

-- the first message of a link is gone
abbrev pub rest_of : {A : Type 0} → List A → List A
rest_of [] = []
rest_of (x ∷ xs) = xs

abbrev pub taken_up : End → End
taken_up e = record e { up = rest_of e.up; up_moved = 0 }

abbrev pub taken_down : End → End
taken_down e = record e { down = rest_of e.down; down_moved = 0 }

-- an end stops: what waits on its up link is lost. It leaves: so is what waits for it
abbrev pub stops : End → End
stops e = record e { standing = stopped; up = []; up_moved = 0 }

abbrev pub leaves : End → End
leaves e = record e { standing = away; up = []; up_moved = 0; down = []; down_moved = 0 }
