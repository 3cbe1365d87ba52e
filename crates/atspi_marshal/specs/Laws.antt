-- Two laws of spellings.
use Rattle.std.specs.Prelude.{◌≡◌, ℕ, ◌+◌, List, [], ◌++◌, length}
use Rattle.atspi_types.specs.Kinds.{Kind, IsLawful}
use Rattle.atspi_types.specs.Data.{Data}
use Rattle.atspi_types.specs.declared.fault.Order.{Order}
use Rattle.atspi_marshal.specs.Input.{whole, to_end}
use Rattle.atspi_marshal.specs.Spelling.{spelling, Fits}
use Rattle.atspi_marshal.specs.Faults.{IsItem}

-- no spelling of a value is a proper front of a spelling of another value of its type
abbrev pub NoFrontOfAnother : Type 0
NoFrontOfAnother = (o : Order) (at : ℕ) (k : Kind) (d e : Data) (more : List ℕ) → IsLawful k → Fits o 64 at d k
    → Fits o 64 at e k
    → spelling o at e ≡ spelling o at d ++ more → (d ≡ e) × (more ≡ [])

-- behind any bytes and before any others, the spelling of a value is that of an item, and of no other
abbrev pub IsReadAgain : Type 0
IsReadAgain = (o : Order) (k : Kind) (d : Data) (front behind : List ℕ) → IsLawful k → Fits o 64 (length front) d k
    → IsItem (whole o (front ++ (spelling o (length front) d ++ behind))) 64 k
    (to_end (front ++ (spelling o (length front) d ++ behind))) (length front)
    (length front + length (spelling o (length front) d)) d
