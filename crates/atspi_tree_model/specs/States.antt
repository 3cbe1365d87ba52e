-- States: a set of them is a number, in which each has a bit.
use Rattle.std.specs.Prelude.{ℕ, ◌^◌, ◌-◌, ◌==◌, Bool, true, false, cond, nat_lt, bit_or, bit_and}
use Rattle.std.specs.Int.{bit_at}

-- whether a set has a state
abbrev pub has_state : ℕ → ℕ → Bool
has_state state states = bit_at states state == 1

-- the set with a state, or without it; a bit of 64 or more is none
abbrev pub with_state : ℕ → Bool → ℕ → ℕ
with_state state true states = cond (nat_lt state 64) (bit_or states (2 ^ state)) states
with_state state false states = cond (nat_lt state 64) (bit_and states (2 ^ 64 - 1 - 2 ^ state)) states

-- checked, and below the other states that edits set or look at, each by its bit
abbrev pub checked : ℕ
checked = 4

-- expanded
abbrev pub expanded : ℕ
expanded = 10

-- focused
abbrev pub focused : ℕ
focused = 12

-- multiselectable
abbrev pub multiselectable : ℕ
multiselectable = 18

-- pressed
abbrev pub pressed : ℕ
pressed = 20

-- selected
abbrev pub selected : ℕ
selected = 23

-- the states of a new node: enabled (8), sensitive (24), showing (25) and visible (30)
abbrev pub first_states : ℕ
first_states = 1124073728
