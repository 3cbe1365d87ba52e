-- What writing a value answers: that its spelling was appended, or that it has none within the limits.
use Rattle.std.specs.Prelude.{◌≡◌, ℕ, suc, ◌+◌, ◌<◌, ◌≤◌, List, ◌++◌, length, Result, Ok, Err}
use Rattle.atspi_types.specs.Data.{Data, type_of}
use Rattle.atspi_types.specs.declared.fault.Order.{Order}
use Rattle.atspi_marshal.specs.declared.writing.fault.WriteFault.{WriteFault}
use Rattle.atspi_marshal.specs.declared.writing.fault.WriteFault.TheVariants as faults
use Rattle.atspi_marshal.specs.Input.{aligned}
use Rattle.atspi_marshal.specs.Spelling.{padding, spelling, Fits}

-- a value has a spelling at a place, with at most 64 levels of containers, and it ends within the 128 MiB of a message
pub record FitsMessage (o : Order) (at : ℕ) (d : Data) : Type 0 where
  pub fits : Fits o 64 at d (type_of d)
  pub ends : at + length (spelling o at d) ≤ 134217728

-- what may be written was: its bytes stand behind those before, and end within a message
pub record IsWritten (P : Type 0) (bytes : List ℕ) (at : ℕ) (old new : List ℕ) (next : ℕ) : Type 0 where
  pub may : P
  pub appended : new ≡ old ++ bytes
  pub place : next ≡ at + length bytes
  pub within : next ≤ 134217728

-- an answer of writing bytes at a place, where P says that they may be written: they were, or they may not or pass the
-- end
abbrev pub Writes : Type 0 → List ℕ → ℕ → List ℕ → List ℕ → Result ℕ WriteFault → Type 0
Writes P bytes at old new (Ok next) = IsWritten P bytes at old new next
Writes P bytes at old new (Err faults.Big) = P → 134217728 < at + length bytes
Writes P bytes at old new (Err faults.NoMemory) = Unit {0}

-- padding was written, and so many bytes behind it are within a message
pub record IsPadded (n at len : ℕ) (old new : List ℕ) (next : ℕ) : Type 0 where
  pub appended : new ≡ old ++ padding n at
  pub place : next ≡ aligned n at
  pub within : next + len ≤ 134217728

abbrev pub Pads : ℕ → ℕ → ℕ → List ℕ → List ℕ → Result ℕ WriteFault → Type 0
Pads n at len old new (Ok next) = IsPadded n at len old new next
Pads n at len old new (Err faults.Big) = 134217728 < aligned n at + len
Pads n at len old new (Err faults.NoMemory) = Unit {0}

-- one level less, or there is none
abbrev pub TakesLevel : ℕ → Result ℕ WriteFault → Type 0
TakesLevel levels (Ok inner) = levels ≡ suc inner
TakesLevel levels (Err faults.Big) = levels ≡ 0
TakesLevel levels (Err faults.NoMemory) = Unit {0}
