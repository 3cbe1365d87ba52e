-- What is known where a cause is done, and of a world after bytes that complete no message.
use Rattle.std.proofs.Common.{◌≡◌, ◌⊎◌, ℕ, true, false, List, ◌∷◌, length, None, Some}
use Rattle.std.specs.Prelude.{nat_lt, nat_le}
use Rattle.atspi_tree_model.specs.Edits.{is_long_name, IsEdit}
use Rattle.atspi_script_lines.specs.declared.limits.TheConstants.{APP_COUNT, READER_COUNT}
use Rattle.atspi_script_lines.specs.declared.line.Party.TheVariants.{Registry, App, Reader}
use Rattle.atspi_message.specs.Envelope.{Envelope}
use Rattle.atspi_protocol.specs.declared.following.question.Question.{Question}
use Rattle.atspi_protocol.specs.following.Calls.{asking}
use Rattle.std.specs.List.{list_all}
use Rattle.atspi_trace.specs.World.{here, stopped, Said, Letter, Hearer, a_reader, End, World}
use Rattle.atspi_trace.specs.Ends.{same_party, end_at, app_count, reader_count}
use Rattle.atspi_trace.specs.Hearing.{is_answered, may_ask, question_in}
use Rattle.atspi_trace.specs.Causes.{Cause, renews, starts_app, starts_reader, edits, calls, swaps_face, exits, shows, tells_busy, tells_quiet, routes, unjoins, gets}
use Rattle.atspi_trace.specs.Work.{Work, resting, doing, moving_up, moving_down, turning, draining, edit_refusal, next_turn, Next, cause, rests, moved_up, moved_down}

-- an end that is here
pub record IsHere (ends : List End) (conn : ℕ) (e : End) : Type 0 where
  pub there : end_at ends conn ≡ Some e
  pub standing : e.standing ≡ here

abbrev pub Allowed : World → Cause → Type 0
Allowed w (renews quota) = nat_lt 1 (length w.ends) ≡ false
Allowed w (starts_app name) = (is_long_name name ≡ false) × (nat_le APP_COUNT (app_count w.ends) ≡ false)
Allowed w starts_reader = nat_le READER_COUNT (reader_count w.ends) ≡ false
Allowed w (edits conn edit) = (e : End) × (a : ℕ) × IsHere w.ends conn e × (e.who ≡ App a) × (edit_refusal edit e.role ≡ None) × IsEdit edit
Allowed w (calls conn name node deed) = (e : End) × (r : ℕ) × IsHere w.ends conn e × (e.who ≡ Reader r)
Allowed w swaps_face = (e : End) × (a : ℕ) × (conn : ℕ) × (end_at w.ends conn ≡ Some e) × (e.who ≡ App a)
Allowed w (exits conn) = (e : End) × IsHere w.ends conn e × (same_party e.who Registry ≡ false)
Allowed w (shows conn app) = (e : End) × (r : ℕ) × (end_at w.ends conn ≡ Some e) × (e.who ≡ Reader r)
Allowed w (tells_busy turns) = Unit {0}
Allowed w tells_quiet = next_turn w ≡ None
Allowed w (routes conn) = (e : End) × (said : Said) × (rest : List Said) × IsHere w.ends conn e × (e.up ≡ said ∷ rest)
Allowed w (unjoins conn) = (e : End) × (end_at w.ends conn ≡ Some e) × (e.standing ≡ stopped)
Allowed w (gets conn) = (e : End) × (letter : Letter) × (rest : List Letter) × IsHere w.ends conn e × (e.down ≡ letter ∷ rest)

-- some bytes of the first message of a link were moved
pub record MovedUp (w v : World) : Type 0 where
  pub conn : ℕ
  pub count : ℕ
  pub e : End
  pub said : Said
  pub rest : List Said
  pub is_here : IsHere w.ends conn e
  pub link : e.up ≡ said ∷ rest
  pub after : v ≡ moved_up w conn count

pub record MovedDown (w v : World) : Type 0 where
  pub conn : ℕ
  pub count : ℕ
  pub e : End
  pub letter : Letter
  pub rest : List Letter
  pub is_here : IsHere w.ends conn e
  pub link : e.down ≡ letter ∷ rest
  pub after : v ≡ moved_down w conn count

abbrev pub Moves : World → World → Type 0
Moves w v = (v ≡ w) ⊎ (MovedUp w v ⊎ MovedDown w v)

-- a reader's own call
pub record Asks (w : World) (conn r : ℕ) (m : Envelope) (question : Question) : Type 0 where
  pub asker : End
  pub hearer : Hearer
  pub is_here : IsHere w.ends conn asker
  pub whose : asker.who ≡ Reader r
  pub reader : asker.role ≡ a_reader hearer
  pub answered : list_all is_answered hearer.asked ≡ true
  pub allowed : may_ask hearer question ≡ true
  pub spelled : m ≡ asking hearer.next question
  pub read : question_in m ≡ Some question

-- a work that is no single cause, and any work
abbrev pub IsBare : Work → Type 0
IsBare (doing c) = ⊥
IsBare work = Unit {0}

abbrev pub IsWork : World → Work → Type 0
IsWork w (doing c) = Allowed w c
IsWork w work = Unit {0}

pub bare-work : (w : World) (work : Work) → IsBare work → IsWork w work
bare-work w resting b = tt
bare-work w (doing c) b = absurd b
bare-work w (moving_up conn count) b = tt
bare-work w (moving_down conn count) b = tt
bare-work w (turning count left) b = tt
bare-work w draining b = tt

abbrev pub NextFine : World → Next → Type 0
NextFine w (cause c v rest) = (v ≡ w) × Allowed w c × IsBare rest
NextFine w (rests v) = Moves w v
