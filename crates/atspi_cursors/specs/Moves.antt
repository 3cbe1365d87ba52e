-- A cursor stands in a text with so many characters before it. What a change of the text does to it.
use Rattle.std.specs.Prelude.{ℕ, ◌+◌, ◌-◌, nat_lt, nat_le, if◌then◌else◌, List, ◌++◌, take, drop}

-- so many characters were put in at a place: a cursor behind that place goes with what follows it
abbrev pub after_insertion : ℕ → ℕ → ℕ → ℕ
after_insertion cursor at count = if nat_lt at cursor then cursor + count else cursor

-- so many characters from a place on were taken out: a cursor behind them goes with what follows it, and one among them
-- comes to that place
abbrev pub after_deletion : ℕ → ℕ → ℕ → ℕ
after_deletion cursor at count =
    if nat_le cursor at then cursor else (if nat_le cursor (at + count) then at else cursor - count)

-- the texts after these changes
abbrev pub with_insertion : List ℕ → ℕ → List ℕ → List ℕ
with_insertion text at more = take at text ++ (more ++ drop at text)

abbrev pub with_deletion : List ℕ → ℕ → ℕ → List ℕ
with_deletion text at count = take at text ++ drop (at + count) text
