-- Which lines a world refuses, and what comes of them.
use Rattle.std.specs.Prelude.{◌≡◌, ℕ, List, Option, None, Some, Result, Ok, Err, slice_get}
use Rattle.atspi_script_lines.specs.declared.line.Line.{Line}
use Rattle.atspi_protocol.specs.following.ReaderState.{ReaderState}
use Rattle.atspi_world_links.specs.declared.post.Post.{Post}
use Rattle.atspi_trace.specs.Work as work
use Rattle.atspi_trace.specs.play.Playing.{Playing}
use Rattle.atspi_trace.specs.play.Played as playing
use Rattle.atspi_world_parties.specs.Asked.{CallIsRefused}
use Rattle.atspi_world_parties.specs.Refusals.{refusal_of, first_refusal}
use Rattle.atspi_world.specs.Worlds.{Staged, IsPlaying}
use Rattle.atspi_world_parties.specs.declared.refusing.Refusal.{Refusal}
use Rattle.atspi_world.specs.declared.fault.ActFault.{ActFault}
use Rattle.atspi_world.specs.declared.fault.ActFault.TheVariants.{Refused}

-- a line of the code's world was refused just for what a world of the definitions refuses it for
abbrev pub RefusedFor : Line → Refusal → Staged → Type 0
RefusedFor line why s = (p : Playing) → IsPlaying p s → playing.refused p line ≡ Some (refusal_of why)

-- the same of one that is refused by no more than the edit or the call that it asks for
abbrev pub RefusedElse : Line → Refusal → Staged → Type 0
RefusedElse line why s = (p : Playing) → IsPlaying p s → first_refusal p.world line ≡ None
    → playing.refused p line ≡ Some (refusal_of why)

-- the application is the one at a connection
abbrev pub CallAtIsRefused : Option work.Refusal → List ReaderState → ℕ → List Post → ℕ → Type 0
CallAtIsRefused why readers r posts callee = (p : Post) → slice_get posts callee ≡ Some p
    → CallIsRefused why readers r p.name

-- such a line is not done: it is refused for this, or memory or serials are wanting
abbrev pub Refuses : {A : Type 0} → Result A ActFault → work.Refusal → Type 0
Refuses (Ok done) due = ⊥
Refuses (Err (Refused why)) due = refusal_of why ≡ due
Refuses (Err fault) due = Unit {0}
