-- Items of match rules, for the worked cases.
use Rattle.std.specs.Prelude.{ℕ, true, List, [], ◌∷◌, codes}
use Rattle.atspi_match.specs.declared.condition.Condition.{Condition}
use Rattle.atspi_match.specs.declared.condition.Condition.TheVariants.{Kind, Sender, Interface, Member, Path}
use Rattle.atspi_match.specs.declared.condition.Condition.TheVariants.{PathNamespace, Destination, Arg, ArgPath}
use Rattle.atspi_match.specs.declared.condition.Condition.TheVariants.{Arg0Namespace, Eavesdrop}
use Rattle.atspi_match.specs.declared.condition.MessageType.TheVariants.{Signal}
use Rattle.atspi_match.specs.Grammar.{Item, Part, quoted, escaped, plain}

--  type='signal'
abbrev pub type_signal : Item
type_signal = record { blanks = codes " "; key = codes "type"; parts = quoted (codes "signal") ∷ [] }

-- arg0=it\'s
abbrev pub arg_it_s : Item
arg_it_s = record { blanks = []; key = codes "arg0"; parts = plain 105 ∷ plain 116 ∷ escaped ∷ plain 115 ∷ [] }

abbrev argument : List ℕ → List Part → Item
argument key parts = record { blanks = []; key = key; parts = parts }

-- the specification's example: an apostrophe, a backslash, a comma and two backslashes, in apostrophes
abbrev pub four_quoted : List Item
four_quoted =
    argument (codes "arg0") (quoted [] ∷ escaped ∷ quoted [] ∷ []) ∷ argument (codes "arg1") (quoted (92 ∷ []) ∷ [])
    ∷ argument (codes "arg2") (quoted (44 ∷ []) ∷ []) ∷ argument (codes "arg3") (quoted (92 ∷ 92 ∷ []) ∷ []) ∷ []

-- the same, the comma alone in apostrophes
abbrev pub four_plain : List Item
four_plain =
    argument (codes "arg0") (escaped ∷ []) ∷ argument (codes "arg1") (plain 92 ∷ [])
    ∷ argument (codes "arg2") (quoted (44 ∷ []) ∷ []) ∷ argument (codes "arg3") (plain 92 ∷ plain 92 ∷ []) ∷ []

-- a condition of each key, of arguments the first and the last
abbrev pub one_of_each : List Condition
one_of_each =
    Kind Signal ∷ Sender (codes ":1.0") ∷ Interface (codes "a.b") ∷ Member (codes "M") ∷ Path (codes "/")
    ∷ PathNamespace (codes "/p") ∷ Destination (codes "c.d") ∷ Arg 0 (codes "x") ∷ Arg 63 (codes "y")
    ∷ ArgPath 0 (codes "/q/") ∷ ArgPath 63 (codes "z") ∷ Arg0Namespace (codes "e") ∷ Eavesdrop true ∷ []
