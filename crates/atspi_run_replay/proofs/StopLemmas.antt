-- What is said of a run that stops, by why it stops.
use Rattle.std.proofs.Common.{Result, Ok, Err}
use Rattle.atspi_run_replay.specs.declared.naming.Halt.{Halt}
use Rattle.atspi_run_replay.specs.declared.naming.Refused as refused
use Rattle.atspi_run_replay.specs.declared.naming.Stop.{Stop}
use Rattle.atspi_run_replay.specs.declared.naming.Stop.TheVariants.{Refused, Halted, Write, NoMemory}
use Rattle.atspi_run_replay.specs.inner.Play.{IfHalted, IfRefused}

-- what does not come may have any fact
pub halted_never : {T : Type 0} (r : Result T Stop) (P : Halt → Type 0) → IfHalted r (λ why. ⊥) → IfHalted r P
halted_never (Ok x) P h = tt
halted_never (Err (Refused why)) P h = tt
halted_never (Err Write) P h = tt
halted_never (Err (Halted halt)) P h = absurd h
halted_never (Err NoMemory) P h = tt

pub refused_never : {T : Type 0} (r : Result T Stop) (P : refused.Refused → Type 0) → IfRefused r (λ why. ⊥) → IfRefused r P
refused_never (Ok x) P h = tt
refused_never (Err (Refused why)) P h = absurd h
refused_never (Err Write) P h = tt
refused_never (Err (Halted halt)) P h = tt
refused_never (Err NoMemory) P h = tt

-- a fact of a stop gives another
pub halted_weaker : {T : Type 0} (r : Result T Stop) (P Q : Halt → Type 0) → ((why : Halt) → P why → Q why) → IfHalted r P → IfHalted r Q
halted_weaker (Ok x) P Q f h = tt
halted_weaker (Err (Refused why)) P Q f h = tt
halted_weaker (Err Write) P Q f h = tt
halted_weaker (Err (Halted halt)) P Q f h = f halt h
halted_weaker (Err NoMemory) P Q f h = tt

pub refused_weaker : {T : Type 0} (r : Result T Stop) (P Q : refused.Refused → Type 0) → ((why : refused.Refused) → P why → Q why) → IfRefused r P → IfRefused r Q
refused_weaker (Ok x) P Q f h = tt
refused_weaker (Err (Refused why)) P Q f h = f why h
refused_weaker (Err Write) P Q f h = tt
refused_weaker (Err (Halted halt)) P Q f h = tt
refused_weaker (Err NoMemory) P Q f h = tt
