use Rattle.std.proofs.Common.{◌≡◌, ◌≤◌, ◌⊎◌, ℕ, List, [], ◌∷◌, map, refl, sym, ap, ◌∙◌, inl, inr, arith, lit<}
use Rattle.atspi_auth.specs.Talk.{behind, client_start}
use Rattle.atspi_message.specs.Envelope.{Envelope}
use Rattle.atspi_stream.specs.Stream.{few}
use Rattle.atspi_live_conversation.proofs.LineLemmas.{none_behind}
use Rattle.atspi_live_conversation.proofs.SentLemmas.{none_parted}
use Rattle.atspi_live_conversation.specs.Speech.{envelopes}
use Rattle.atspi_live_app.specs.Pace.{total}
use Rattle.atspi_live_app.specs.Turns.{AreWhole, IsInTurn}
use Rattle.atspi_live_examples.proofs.OfApp.Granted.{whole}
use Rattle.atspi_live_examples.proofs.OfApp.Waiting.{first_due, none_due}
use Rattle.atspi_live_examples.proofs.app.unstarted.turns_told.Goals as goal

none_whole : AreWhole [] []
none_whole = record { messages = []; rest = []; parted = record { are = tt; parted = none_behind }; awaits = few (lit< tt); are = refl }

pub returns-clause-none_whole : goal.returns-clause-none_whole
returns-clause-none_whole c = none_whole

pub returns-clause-lines_alone : goal.returns-clause-lines_alone
returns-clause-lines_alone c = whole

pub returns-clause-not_one_whole : goal.returns-clause-not_one_whole
returns-clause-not_one_whole c e w = by (sym (ap (λ (ms : List (Envelope × List ℕ)). envelopes ms) (none_parted (behind client_start []) w.rest w.messages none_behind w.parted)) ∙ w.are)
  where
    by : [] ≡ e ∷ [] → ⊥
    by h = cc

pub returns-clause-first : goal.returns-clause-first
returns-clause-first c = record { done = []; lines = refl; timed = tt; begun = lit< tt; whole = none_whole }

pub returns-clause-no_read : goal.returns-clause-no_read
returns-clause-no_read c b = omega (arith, b.begun)

pub returns-clause-not_due : goal.returns-clause-not_due
returns-clause-not_due c line = first_due (line ∷ [])

-- lines that are none take no round
none_take : (done : List (List ℕ × ℕ)) → map (λ (t : List ℕ × ℕ). t.0) done ≡ [] → total done ≡ 0
none_take [] none = refl
none_take (t ∷ done) none = absurd cc

is_due : (line : List ℕ) → IsInTurn ([] ∷ []) [] (line ∷ []) → ⊥
is_due line t = by t.due
  where
    by : (line ∷ [] ≡ []) ⊎ (1 ≤ total t.done) → ⊥
    by (inl h) = cc
    by (inr h) = omega (arith, h, none_take t.done t.lines)

pub returns-clause-due : goal.returns-clause-due
returns-clause-due c line t = is_due line t

pub returns-clause-none_left : goal.returns-clause-none_left
returns-clause-none_left c = none_due ([] ∷ [])

pub returns-clause-untold : goal.returns-clause-untold
returns-clause-untold c line = tt

pub returns-clause-told : goal.returns-clause-told
returns-clause-told c line = first_due (line ∷ [])

pub returns-clause-told_due : goal.returns-clause-told_due
returns-clause-told_due c line t = is_due line t
