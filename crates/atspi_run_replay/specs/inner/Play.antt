-- Words behind `Play` that only private contracts and proofs use.
use Rattle.std.specs.Prelude.{◌≡◌, ◌⊎◌, ℕ, ◌≤◌, List, [], drop, length, Option, Result, Ok, Err, MatchResult}
use Rattle.std.specs.Io.KnownBytes.{Appends}
use Rattle.std.specs.List.{AllByRecursion}
use Rattle.atspi_base.specs.Outside.{Rose, AppendsPart}
use Rattle.atspi_trace_texts.specs.declared.options.TraceOptions.{TraceOptions}
use Rattle.atspi_script_lines.specs.declared.line.Line.{Line}
use Rattle.atspi_script_lines.specs.Line.{Spells}
use Rattle.atspi_trace_played.specs.Turns.{IsUnspent}
use Rattle.atspi_trace.specs.Entry.{entries_of}
use Rattle.atspi_world.specs.Worlds.{Staged}
use Rattle.atspi_world.specs.Lines.{LineDone}
use Rattle.atspi_world.specs.Refusals.{RefusedFor}
use Rattle.atspi_world.specs.Halts.{LineLost, LineSpent}
use Rattle.atspi_run_replay.specs.declared.naming.Halt.{Halt}
use Rattle.atspi_run_replay.specs.declared.naming.Halt.TheVariants.{RegistryLost, Spent}
use Rattle.atspi_run_replay.specs.declared.naming.Refused as refused
use Rattle.atspi_run_replay.specs.declared.naming.Refused.TheVariants.{World}
use Rattle.atspi_run_replay.specs.declared.naming.Stop.{Stop}
use Rattle.atspi_run_replay.specs.declared.naming.Stop.TheVariants.{Refused, Halted, Write, NoMemory}
use Rattle.atspi_run_replay.specs.Names.{RefusedAs, refused_text}
use Rattle.atspi_run_replay.specs.Told.{Told, told_text}
use Rattle.atspi_run_replay.specs.inner.Told.{told_from}

-- the count rose where the sink failed, and else is the same
abbrev pub BlamesStop : ℕ → ℕ → Stop → Type 0
BlamesStop before after Write = (before ≤ after) × Rose before after
BlamesStop before after _ = after ≡ before

abbrev pub BlamesWrite : {T : Type 0} → Result T Stop → ℕ → ℕ → Type 0
BlamesWrite r before after = MatchResult r (λ _. after ≡ before) (BlamesStop before after)

-- a fact for a refusal
abbrev pub IfRefused : {T : Type 0} → Result T Stop → (refused.Refused → Type 0) → Type 0
IfRefused (Err (Refused why)) P = P why
IfRefused _ P = Unit {0}

-- a fact for a run that the world ends: the registry was dropped, or no number is left
abbrev pub IfHalted : {T : Type 0} → Result T Stop → (Halt → Type 0) → Type 0
IfHalted (Err (Halted why)) P = P why
IfHalted _ P = Unit {0}

-- bytes are refused in a stage: they spell no line, or the world refuses the one that they spell
abbrev pub RefusedIn : Staged → List ℕ → refused.Refused → Type 0
RefusedIn s bytes (World why) = (line : Line) × Spells line bytes × RefusedFor line why s
RefusedIn s bytes why = RefusedAs bytes why

-- the world came to its end at the line that bytes spell, with what this world's trace has then
abbrev pub Halts : Halt → Line → Staged → Staged → Type 0
Halts RegistryLost line old new = LineLost line old new
Halts Spent line old new = LineSpent line old new

-- and its serials have 32 bits, by their type
abbrev pub HaltedIn : Staged → Staged → List ℕ → Halt → Type 0
HaltedIn old new bytes why = (line : Line) × Spells line bytes × Halts why line old new
    × AllByRecursion IsUnspent (entries_of new.trace)

-- why a line stops a run: its bytes are refused, or the world comes to its end at it; the sink has no part in it
abbrev pub StopsAs : Stop → List ℕ → Staged → Staged → Type 0
StopsAs (Refused why) bytes old new = RefusedIn old bytes why
StopsAs (Halted why) bytes old new = HaltedIn old new bytes why
StopsAs NoMemory bytes old new = Unit {0}
StopsAs Write bytes old new = ⊥

-- the bytes spell a line, and it was done; the serials of what it added have 32 bits, by their type
abbrev pub DidLine : List ℕ → Staged → Staged → Type 0
DidLine bytes old new = (line : Line) × Spells line bytes × LineDone line old new
    × AllByRecursion IsUnspent (entries_of (drop (length old.trace) new.trace))

-- what doing a line answers: it was done, or stops the run
abbrev pub DoesLine : {T : Type 0} → Result T Stop → List ℕ → Staged → Staged → Type 0
DoesLine (Ok _) bytes old new = DidLine bytes old new
DoesLine (Err stop) bytes old new = StopsAs stop bytes old new

-- what a line added to the trace of a stage
abbrev pub added : Staged → Staged → List Told
added old new = told_from new.posts new.trace (length old.trace)

-- a line was done, and what it added was written
abbrev pub Did : TraceOptions → List ℕ → Staged → Staged → Option (List ℕ) → Option (List ℕ) → Type 0
Did options bytes old new w w' = DidLine bytes old new × Appends w w' (told_text options (added old new))

-- the world came to its end at a line, and what that added up to there was written
abbrev pub Ended : TraceOptions → List ℕ → Halt → Staged → Staged → Option (List ℕ) → Option (List ℕ) → Type 0
Ended options bytes why old new w w' = HaltedIn old new bytes why × Appends w w' (told_text options (added old new))

-- what a line can write: nothing; what it added; what it added before the world came to its end; its refusal
abbrev pub IsLineText : TraceOptions → List ℕ → ℕ → Staged → Staged → List ℕ → Type 0
IsLineText options bytes number old new text =
    (text ≡ [])
    ⊎ ((DidLine bytes old new × (text ≡ told_text options (added old new)))
    ⊎ (((why : Halt) × HaltedIn old new bytes why × (text ≡ told_text options (added old new)))
    ⊎ ((why : refused.Refused) × RefusedIn old bytes why × (text ≡ refused_text number why))))

-- a part of it was written
abbrev pub StoppedAt : TraceOptions → List ℕ → ℕ → Staged → Staged → Option (List ℕ) → Option (List ℕ) → Type 0
StoppedAt options bytes number old new w w' = (text : List ℕ) × IsLineText options bytes number old new text
    × AppendsPart w w' text
