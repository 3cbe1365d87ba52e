-- What a host did, as the list of its calls.
use Rattle.std.specs.Prelude.{◌≡◌, ◌≢◌, ℕ, ◌<◌, ◌≤◌, ◌⊎◌, ◌==◌, List, ◌∷◌, ◌++◌, take, Option, []}
use Rattle.std.specs.Prelude.{None, Some, ⊤, if◌then◌else◌}
use Rattle.atspi_base.specs.Outside.{Rose}
use Rattle.atspi_live_host.specs.declared.call.Did.{Did}
use Rattle.atspi_live_host.specs.declared.call.Did.TheVariants.{Done, NotYet, End, Failed}
use Rattle.atspi_live_host.specs.declared.call.Call.{Call}
use Rattle.atspi_live_host.specs.declared.call.Call.TheVariants.{Listen, Accept, Connect, Read, Write, Close}

-- the bytes that an answer speaks of: the first ones
abbrev pub front : Did → List ℕ → List ℕ
front (Done n) bytes = take n bytes
front NotYet bytes = []
front End bytes = []
front Failed bytes = []

-- what a call took from a link, and what it gave on it
abbrev pub takes : ℕ → Call → List ℕ
takes k (Listen path did) = []
takes k (Accept did) = []
takes k (Connect path did) = []
takes k (Read link bytes did) = if link == k then bytes else []
takes k (Write link bytes did) = []
takes k (Close link) = []

abbrev pub gives : ℕ → Call → List ℕ
gives k (Listen path did) = []
gives k (Accept did) = []
gives k (Connect path did) = []
gives k (Read link bytes did) = []
gives k (Write link bytes did) = if link == k then front did bytes else []
gives k (Close link) = []

-- what was taken from a link by all the calls, and what was given on it
abbrev pub taken : ℕ → List Call → List ℕ
taken k [] = []
taken k (c ∷ cs) = takes k c ++ taken k cs

abbrev pub given : ℕ → List Call → List ℕ
given k [] = []
given k (c ∷ cs) = gives k c ++ given k cs

-- the one list begins with the other
abbrev pub IsFront : List ℕ → List ℕ → Type 0
IsFront xs ys = (rest : List ℕ) × (xs ++ rest ≡ ys)

-- what the host tells afterwards is what it told before, and the call; or it tells no more
abbrev pub Adds : Option (List Call) → Option (List Call) → Call → Type 0
Adds old None call = ⊤
Adds None (Some cs) call = ⊥
Adds (Some cs) (Some ds) call = ds ≡ cs ++ call ∷ []

-- the count goes up where the call fails, and else stays
abbrev pub Counts : ℕ → ℕ → Did → Type 0
Counts before after (Done n) = after ≡ before
Counts before after NotYet = after ≡ before
Counts before after End = after ≡ before
Counts before after Failed = (before ≤ after) × Rose before after

-- no link of these has the number
abbrev pub IsNew : ℕ → List ℕ → Type 0
IsNew k [] = ⊤
IsNew k (x ∷ xs) = (x ≢ k) × IsNew k xs

-- a link that is given comes behind the others, and had no number of theirs
abbrev pub Opens : List ℕ → List ℕ → Did → Type 0
Opens old new (Done link) = (new ≡ old ++ link ∷ []) × IsNew link old
Opens old new NotYet = new ≡ old
Opens old new End = ⊥
Opens old new Failed = new ≡ old

-- nothing was taken or given yet on the link of an answer
abbrev pub IsUnused : Option (List Call) → Did → Type 0
IsUnused None did = ⊤
IsUnused (Some cs) (Done link) = (taken link cs ≡ []) × (given link cs ≡ [])
IsUnused (Some cs) NotYet = ⊤
IsUnused (Some cs) End = ⊤
IsUnused (Some cs) Failed = ⊤

-- from 1 to so many bytes
abbrev pub Moves : ℕ → Did → Type 0
Moves most (Done n) = (0 < n) × (n ≤ most)
Moves most NotYet = ⊤
Moves most End = ⊤
Moves most Failed = ⊤

abbrev pub IsOpen : ℕ → List ℕ → Type 0
IsOpen k [] = ⊥
IsOpen k (x ∷ xs) = (x ≡ k) ⊎ IsOpen k xs

-- the links but for one
abbrev pub without : ℕ → List ℕ → List ℕ
without k [] = []
without k (x ∷ xs) = if x == k then without k xs else x ∷ without k xs
