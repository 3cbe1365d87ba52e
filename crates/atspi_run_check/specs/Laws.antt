-- What is due of an input: one text, of one of three kinds.
use Rattle.std.specs.Prelude.{◌≡◌, ◌⊎◌, ℕ, List}
use Rattle.atspi_stream.specs.Laws.{AreBytes}
use Rattle.atspi_run_check.specs.Check.{CheckedAll, CheckedFault, CheckedLimit}

-- an input is whole messages, has a fault, or passes the limit: one of these and no other, and the text that is due is
-- one
pub record HasOneEnd (limit : ℕ) (input : List ℕ) : Type 0 where
  pub some : (text : List ℕ)
      × (CheckedAll limit input text ⊎ (CheckedFault limit input text ⊎ CheckedLimit limit input text))
  pub whole_without_fault : (s t : List ℕ) → CheckedAll limit input s → CheckedFault limit input t → ⊥
  pub whole_within_limit : (s t : List ℕ) → CheckedAll limit input s → CheckedLimit limit input t → ⊥
  pub fault_within_limit : (s t : List ℕ) → CheckedFault limit input s → CheckedLimit limit input t → ⊥
  pub one_whole : (s t : List ℕ) → CheckedAll limit input s → CheckedAll limit input t → s ≡ t
  pub one_fault : (s t : List ℕ) → CheckedFault limit input s → CheckedFault limit input t → s ≡ t
  pub one_limit : (s t : List ℕ) → CheckedLimit limit input s → CheckedLimit limit input t → s ≡ t

abbrev pub InputsHaveOneEnd : Type 0
InputsHaveOneEnd = (limit : ℕ) (input : List ℕ) → AreBytes input → HasOneEnd limit input
