-- What is asked that changes nothing, and what is returned.
use Rattle.std.specs.Prelude.{ℕ, List, [], ◌∷◌, codes, length}
use Rattle.atspi_types.specs.Kinds.{i32, u32, number, text, variant}
use Rattle.atspi_types.specs.Data.{Data, number_data, text_data, variant_data, dictionary_data, entry, no_entries}
use Rattle.atspi_protocol.specs.ends.Places.{references}
use Rattle.atspi_protocol.specs.registering.Told.{count}
use Rattle.atspi_protocol.specs.registering.Answers.{pairs_data, child_at}
use Rattle.atspi_registry.specs.declared.calls.ask.Ask.{Ask}
use Rattle.atspi_registry.specs.declared.calls.ask.Ask.TheVariants.{Register, Deregister, Registered, Embed, Unembed}
use Rattle.atspi_registry.specs.declared.calls.ask.Ask.TheVariants.{Children, ChildAt, Role, RoleName, Name, ChildCount}
use Rattle.atspi_registry.specs.declared.calls.ask.Ask.TheVariants.{AllProperties, NoProperties, Ping}

-- it asks for no change
abbrev pub IsQuestion : Ask → Type 0
IsQuestion (Register pattern) = ⊥
IsQuestion (Deregister pattern) = ⊥
IsQuestion (Embed name path) = ⊥
IsQuestion (Unembed name path) = ⊥
IsQuestion _ = Unit {0}

-- the values that are returned, by the pairs, the children and the registry's name
abbrev pub question_data : Ask → List (List ℕ × List ℕ) → List (List ℕ × List ℕ) → List ℕ → List Data
question_data Registered pairs children own = pairs_data pairs ∷ []
question_data Children pairs children own = references children ∷ []
question_data (ChildAt index) pairs children own = child_at children own index ∷ []
question_data Role pairs children own = number_data u32 14 ∷ []
question_data RoleName pairs children own = text_data (codes "desktop frame") ∷ []
question_data Name pairs children own = variant_data text (text_data (codes "main")) ∷ []
question_data ChildCount pairs children own = variant_data (number i32) (count (length children)) ∷ []
question_data AllProperties pairs children own =
    dictionary_data text variant
    (entry (text_data (codes "Name")) (variant_data text (text_data (codes "main")))
    (entry (text_data (codes "ChildCount")) (variant_data (number i32) (count (length children))) no_entries))
    ∷ []
question_data NoProperties pairs children own = dictionary_data text variant no_entries ∷ []
question_data _ pairs children own = []
