-- THE STEPS among what an application did.
use Rattle.std.proofs.Common.{◌≡◌, ℕ, ◌+◌, List, [], ◌∷◌, ◌++◌, map, refl, ap, ◌∙◌}
use Rattle.atspi_tree_model.specs.declared.step.Step.{Step}
use Rattle.atspi_tree_model.specs.Forest.{Forest}
use Rattle.atspi_tree_model.specs.Row.{TreeRow}
use Rattle.atspi_tree_model.specs.RowRules.{rows}
use Rattle.atspi_tree_model.specs.Tree.{after as after_step}
use Rattle.atspi_message.specs.Envelope.{Envelope}
use Rattle.atspi_protocol.specs.announcing.Signals.{Signal}
use Rattle.atspi_protocol.specs.announcing.Announced.{announced}
use Rattle.atspi_protocol.specs.exporting.Exporter.{Happening, steps, sends, hears, deaf, numbered}
use Rattle.atspi_protocol.specs.exporting.Telling.{asked_for, steps_told}
use Rattle.atspi_trace_laws.proofs.OfHeard.Heeding.{IsOfListeners}

abbrev pub steps_in : List Happening → List Step
steps_in [] = []
steps_in (steps step ∷ hs) = step ∷ steps_in hs
steps_in (sends e ∷ hs) = steps_in hs
steps_in (hears listener pattern ∷ hs) = steps_in hs
steps_in (deaf listener pattern ∷ hs) = steps_in hs

pub steps_numbered : (n : ℕ) (hs : List Happening) → steps_in (numbered n hs) ≡ steps_in hs
steps_numbered n [] = refl
steps_numbered n (steps step ∷ hs) = ap (λ l. step ∷ l) (steps_numbered n hs)
steps_numbered n (sends e ∷ hs) = steps_numbered (n + 1) hs
steps_numbered n (hears listener pattern ∷ hs) = steps_numbered n hs
steps_numbered n (deaf listener pattern ∷ hs) = steps_numbered n hs

steps_behind_signals : (signals : List Signal) (hs : List Happening) → steps_in (map (λ (s : Signal). sends s.message) signals ++ hs) ≡ steps_in hs
steps_behind_signals [] hs = refl
steps_behind_signals (s ∷ signals) hs = steps_behind_signals signals hs

pub steps_of_told : (pairs : List (List ℕ × List ℕ)) (name : List ℕ) (f : Forest TreeRow) (ss : List Step) → steps_in (steps_told pairs name f ss) ≡ ss
steps_of_told pairs name f [] = refl
steps_of_told pairs name f (step ∷ ss) =
    ap (λ l. step ∷ l) (steps_behind_signals (asked_for pairs (announced name f step)) (steps_told pairs name (after_step rows f step) ss) ∙ steps_of_told pairs name (after_step rows f step) ss)

pub steps_both : (hs ks : List Happening) → steps_in (hs ++ ks) ≡ steps_in hs ++ steps_in ks
steps_both [] ks = refl
steps_both (steps step ∷ hs) ks = ap (λ l. step ∷ l) (steps_both hs ks)
steps_both (sends e ∷ hs) ks = steps_both hs ks
steps_both (hears listener pattern ∷ hs) ks = steps_both hs ks
steps_both (deaf listener pattern ∷ hs) ks = steps_both hs ks

pub no_steps_sent : (es : List Envelope) → steps_in (map sends es) ≡ []
no_steps_sent [] = refl
no_steps_sent (e ∷ es) = no_steps_sent es

pub no_steps_heard : (hs : List Happening) → IsOfListeners hs → steps_in hs ≡ []
no_steps_heard [] l = refl
no_steps_heard (hears listener pattern ∷ hs) l = no_steps_heard hs l
no_steps_heard (deaf listener pattern ∷ hs) l = no_steps_heard hs l
no_steps_heard (steps step ∷ hs) l = absurd l
no_steps_heard (sends e ∷ hs) l = absurd l

pub no_steps : steps_in [] ≡ []
no_steps = refl

pub one_sent : (e : Envelope) → steps_in (sends e ∷ []) ≡ []
one_sent e = refl

pub queued_steps : (out hs : List Happening) (n : ℕ) → out ≡ [] → steps_in (out ++ numbered n hs) ≡ steps_in hs
queued_steps out hs n empty = ap (λ l. steps_in (l ++ numbered n hs)) empty ∙ steps_numbered n hs
