-- What a node's parts are called when they are spoken.
use Rattle.std.specs.Prelude.{ℕ, ◌==◌, nat_lt, Bool, true, false, cond, List, [], ◌∷◌, ◌++◌, slice_get, unwrap_or}
use Rattle.std.specs.Prelude.{codes}
use Rattle.atspi_tables.specs.Roles.{role_names}
use Rattle.atspi_tree_model.specs.States.{has_state, checked, expanded, pressed, selected}

-- expandable, and below it checkable, each by its bit
abbrev pub expandable : ℕ
expandable = 9

abbrev pub checkable : ℕ
checkable = 41

-- the roles alert, notification and password text
abbrev pub alert : ℕ
alert = 2

abbrev pub notification : ℕ
notification = 101

abbrev pub password_text : ℕ
password_text = 40

-- a line or a piece of one, if it is due
abbrev pub line_if : Bool → List ℕ → List (List ℕ)
line_if true line = line ∷ []
line_if false line = []

-- whether a text has no character
abbrev pub is_empty : List ℕ → Bool
is_empty [] = true
is_empty (c ∷ cs) = false

-- the spoken name of a role
abbrev pub spoken_role : ℕ → List ℕ
spoken_role role = unwrap_or (slice_get role_names role) (codes "unknown")

-- checked, or not checked where it could be
abbrev pub checked_pieces : ℕ → List (List ℕ)
checked_pieces states =
    cond (has_state checked states) (codes "checked" ∷ []) (line_if (has_state checkable states) (codes "not checked"))

-- expanded, or collapsed where it could be expanded
abbrev pub expanded_pieces : ℕ → List (List ℕ)
expanded_pieces states =
    cond (has_state expanded states) (codes "expanded" ∷ []) (line_if (has_state expandable states) (codes "collapsed"))

-- all that is said of the states of a node that gets the focus
abbrev pub state_pieces : ℕ → List (List ℕ)
state_pieces states =
    checked_pieces states ++ expanded_pieces states
    ++ line_if (has_state selected states) (codes "selected") ++ line_if (has_state pressed states) (codes "pressed")

-- what is said where a state is set, and where it is cleared
abbrev pub words_of_state : ℕ → Bool → List (List ℕ)
words_of_state state on =
    cond (state == checked) (cond on (codes "checked") (codes "not checked") ∷ [])
    (cond (state == expanded) (cond on (codes "expanded") (codes "collapsed") ∷ [])
    (cond (state == selected) (cond on (codes "selected") (codes "not selected") ∷ [])
    (cond (state == pressed) (cond on (codes "pressed") (codes "not pressed") ∷ []) [])))

-- each piece behind a comma and a blank
abbrev pub behind_commas : List (List ℕ) → List ℕ
behind_commas [] = []
behind_commas (x ∷ xs) = codes ", " ++ (x ++ behind_commas xs)

-- pieces joined by a comma and a blank
abbrev pub joined : List (List ℕ) → List ℕ
joined [] = []
joined (x ∷ xs) = x ++ behind_commas xs

-- bytes of ASCII, none of them 0: each is a character
abbrev pub is_plain : List ℕ → Bool
is_plain [] = true
is_plain (b ∷ bs) = cond (nat_lt 0 b) (cond (nat_lt b 128) (is_plain bs) false) false
