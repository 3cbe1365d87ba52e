-- Lines that are broken off: the registry is dropped while one is done, or a serial is spent.
use Rattle.std.specs.Prelude.{◌≡◌, ◌⊎◌, ℕ, zero, suc, ◌<◌, true, false, List, [], ◌∷◌, ◌++◌, Some, slice_get}
use Rattle.atspi_protocol.specs.following.ReaderState.{ReaderState}
use Rattle.atspi_trace.specs.Entry.{Entry}
use Rattle.atspi_trace.specs.World.{the_registry, an_application, a_reader, Role, End, World}
use Rattle.atspi_trace.specs.Ends.{end_at}
use Rattle.atspi_trace.specs.Causes.{Cause}
use Rattle.atspi_trace.specs.Work.{Work, cause, next_of, next_turn}
use Rattle.atspi_trace.specs.Due.{is_lost}
use Rattle.atspi_trace.specs.play.Playing.{Playing, Happened}
use Rattle.atspi_trace.specs.play.Plays.{plays}

-- SOME CAUSES OF WHAT IS LEFT OF A LINE WERE DONE, one after another, each with its entries: this is the world then,
-- and this is left
pub data PlaysOn : Playing → Work → List Entry → Playing → Work → Type 0 where
  so_far : (p : Playing) (left : Work) → PlaysOn p left [] p left
  caused : (p q : Playing) (v : World) (left rest last : Work) (c : Cause) (entries : List Entry)
      → next_of p.world left ≡ cause c v rest
      → PlaysOn (plays (record p { world = v }) c).now rest entries q last
      → PlaysOn p left ((plays (record p { world = v }) c).entries ++ entries) q last

-- A serial has 32 bits: where a party's next one is above 4,294,967,296, one that it used is above 4,294,967,295
abbrev pub IsPast : ℕ → Type 0
IsPast next = 4294967296 < next

-- the next serial of an end that answers; a reader's stands in what its own definitions say of it
abbrev pub HasSpent : Role → Type 0
HasSpent (the_registry s) = IsPast s.next
HasSpent (an_application s) = IsPast s.next
HasSpent (a_reader h) = ⊥

-- the bus spent its serials, or the registry or an application did, or a reader
abbrev pub IsSpentEnd : World → Type 0
IsSpentEnd w = (conn : ℕ) × (e : End) × (end_at w.ends conn ≡ Some e) × HasSpent e.role

abbrev pub IsSpentReader : List ReaderState → Type 0
IsSpentReader readers = (r : ℕ) × (s : ReaderState) × (slice_get readers r ≡ Some s) × IsPast s.next

abbrev pub IsSpent : Playing → Type 0
IsSpent p = IsPast p.world.bus.state.next ⊎ (IsSpentEnd p.world ⊎ IsSpentReader p.readers)

-- the next cause of what is left of a line, behind some that were done; the registry is there so far
pub record IsAtWork (p : Playing) (left : Work) : Type 0 where
  pub entries : List Entry
  pub now : Playing
  pub last : Work
  pub done : PlaysOn p left entries now last
  pub lives : is_lost now.world ≡ false
  pub moved : World
  pub rest : Work
  pub next : Cause
  pub is_next : next_of now.world last ≡ cause next moved rest

-- what that cause does
abbrev pub does_next : {p : Playing} {left : Work} → IsAtWork p left → Happened
does_next a = plays (record (a.now) { world = a.moved }) a.next

-- THE REGISTRY IS LOST: the next cause drops it, and all that this cause writes was written
pub record IsLostAt (p : Playing) (left : Work) (entries : List Entry) : Type 0 where
  pub at : IsAtWork p left
  pub lost : is_lost (does_next at).now.world ≡ true
  pub wrote : entries ≡ at.entries ++ (does_next at).entries

-- SERIALS ARE SPENT: a message that the next cause makes some party send has a serial above the last, and of what it
-- writes a front was written
pub record IsSpentAt (p : Playing) (left : Work) (entries : List Entry) : Type 0 where
  pub at : IsAtWork p left
  pub spent : IsSpent (does_next at).now
  pub part : List Entry
  pub missing : List Entry
  pub front : (does_next at).entries ≡ part ++ missing
  pub wrote : entries ≡ at.entries ++ part

-- so many turns, one behind the other: each moves the first thing that waits, and a reader that takes it does what its
-- own definitions say
abbrev pub PlayedTurns : ℕ → Playing → List Entry → Playing → Type 0
PlayedTurns zero p es q = (es ≡ []) × (q ≡ p)
PlayedTurns (suc n) p es q = (c : Cause) × (rest : List Entry) × (next_turn p.world ≡ Some c)
    × (es ≡ (plays p c).entries ++ rest) × PlayedTurns n (plays p c).now rest q
