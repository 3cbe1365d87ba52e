-- What is asked for in a world, and what the top call says of it.
use Rattle.std.proofs.Common.{◌≡◌, ℕ, List, Option, inl, inr}
use Rattle.atspi_trace_texts.specs.declared.options.TraceOptions.{TraceOptions}
use Rattle.atspi_run_replay.specs.declared.naming.Stop.TheVariants.{NoMemory}
use Rattle.atspi_run_replay.specs.Made.{Made}
use Rattle.atspi_run_replay.specs.Play.{Played, PlayedHalted, PlayedPart, PlayedRefused}
use Rattle.atspi_run_replay.specs.Run.{Replayed}
use Rattle.atspi_run_replay.proofs.MadeLemmas.{made_stop}
use Rattle.atspi_run_replay.proofs.PlayLemmas.{played_nothing}
use Rattle.atspi_run_replay.proofs.RunLemmas.{replayed_nothing}
use Rattle.atspi_run.specs.declared.words.Task.{Task}
use Rattle.atspi_run.specs.declared.words.Task.TheVariants.{Replay, Make}
use Rattle.atspi_run.specs.inner.Tasks.{DoesTask, MayDo}
use Rattle.atspi_run.specs.Words.{Asks, IsCheck, IsCommand, IsHit, IsMake, IsReplay, IsTask}
use Rattle.atspi_run.proofs.CommandLemmas.{few_asked, made_as_asked, make_is_not_2, replay_is_not_2, replayed_as_asked}
use Rattle.atspi_run.proofs.WordLemmas.{make_is_not_told, not_make_and_check, not_make_and_hit, not_replay_and_check, not_replay_and_hit, not_replay_and_make, replay_is_not_told}

pub may_do : (words : List (List ℕ)) (task : Task) → IsTask words task → MayDo task
may_do words (Replay options) is = tt
may_do words (Make script) is = few_asked words script.count script.seed is

-- want of memory before a world stands
pub gave_up : (task : Task) (left w : Option (List ℕ)) → DoesTask task 5 left left w w
gave_up (Replay options) left w =
    replayed_nothing (λ lines. Played options lines w w) (λ lines. PlayedRefused options lines w w) (λ lines. PlayedPart options lines w w) (λ why lines. PlayedHalted options why lines w w) left left
    (λ lines. played_nothing options lines w)
gave_up (Make script) left w = made_stop script.count script.seed NoMemory w tt

pub task_replayed : (words : List (List ℕ)) (task : Task) (status : ℕ) (left left' w w' : Option (List ℕ)) → IsTask words task → DoesTask task status left left' w w' → (asked : TraceOptions) → IsReplay words asked
    → Replayed asked 16777216 status left left' w w'
task_replayed words (Replay options) status left left' w w' is did asked also = replayed_as_asked words options asked 16777216 status left left' w w' is did also
task_replayed words (Make script) status left left' w w' is did asked also = absurd (not_replay_and_make words asked script.count script.seed also is)

pub task_made : (words : List (List ℕ)) (task : Task) (status : ℕ) (left left' w w' : Option (List ℕ)) → IsTask words task → DoesTask task status left left' w w' → (count seed : ℕ) → IsMake words count seed
    → Made count seed status w w'
task_made words (Replay options) status left left' w w' is did count seed also = absurd (not_replay_and_make words options count seed is also)
task_made words (Make script) status left left' w w' is did count seed also = made_as_asked words script.count script.seed count seed status w w' is did also

pub task_is_not_check : (words : List (List ℕ)) (task : Task) → IsTask words task → IsCheck words → ⊥
task_is_not_check words (Replay options) is also = not_replay_and_check words options is also
task_is_not_check words (Make script) is also = not_make_and_check words script.count script.seed is also

pub task_is_not_hit : (words : List (List ℕ)) (task : Task) → IsTask words task → IsHit words → ⊥
task_is_not_hit words (Replay options) is also = not_replay_and_hit words options is also
task_is_not_hit words (Make script) is also = not_make_and_hit words script.count script.seed is also

pub task_is_not_told : (words : List (List ℕ)) (task : Task) (text : List ℕ) → IsTask words task → Asks words text → ⊥
task_is_not_told words (Replay options) text is asks = replay_is_not_told words text options is asks
task_is_not_told words (Make script) text is asks = make_is_not_told words text script.count script.seed is asks

pub task_is_command : (words : List (List ℕ)) (task : Task) → IsTask words task → IsCommand words
task_is_command words (Replay options) is = inl (options, is)
task_is_command words (Make script) is = inr (inl (script.count, script.seed, is))

pub task_is_not_2 : (task : Task) (status : ℕ) (left left' w w' : Option (List ℕ)) → DoesTask task status left left' w w' → status ≡ 2 → ⊥
task_is_not_2 (Replay options) status left left' w w' did two = replay_is_not_2 options 16777216 status left left' w w' did two
task_is_not_2 (Make script) status left left' w w' did two = make_is_not_2 script.count script.seed status w w' did two

-- other words ask for neither
pub not_replay : (words : List (List ℕ)) → ((task : Task) → IsTask words task → ⊥) → (options : TraceOptions) → IsReplay words options → ⊥
not_replay words none options is = none (Replay options) is

pub not_make : (words : List (List ℕ)) → ((task : Task) → IsTask words task → ⊥) → (count seed : ℕ) → IsMake words count seed → ⊥
not_make words none count seed is = none (Make record { count = count; seed = seed }) is
