-- Steps as they are done: which part they are about, which want memory, and which lists are done as one.
use Rattle.std.specs.Prelude.{◌≡◌, ◌⊎◌, ℕ, List, [], ◌∷◌, length}
use Rattle.atspi_tree_model.specs.declared.step.Seed.{Seed}
use Rattle.atspi_tree_model.specs.declared.step.Step.{Step}
use Rattle.atspi_tree_model.specs.declared.step.Step.TheVariants.{Add, Remove, Move, SetName, SetDescription, SetRole}
use Rattle.atspi_tree_model.specs.declared.step.Step.TheVariants.{SetState, Insert, Delete, Caret, TextSelect, Relate}
use Rattle.atspi_tree_model.specs.Row.{Each}
use Rattle.atspi_tree_model.specs.Tree.{added_after}
use Rattle.atspi_tree.specs.TreeShape.{after_step}
use Rattle.atspi_faces.specs.declared.face.change.Change.TheVariants as changes
use Rattle.atspi_faces.specs.face.Nodes.{Nodes, CanChange, changed_at}
use Rattle.atspi_protocol.specs.whole.Whole.{faces_after}
use Rattle.atspi_app_exported.specs.Parts.{Parts}

-- the parts after a step
abbrev pub after_parts : Parts → Step → Parts
after_parts p step = record { tree = after_step p.tree step; faces = faces_after p.tree.rows step p.faces }

-- the same after some steps
abbrev pub after_all_parts : Parts → List Step → Parts
after_all_parts p [] = p
after_all_parts p (step ∷ more) = after_all_parts (after_parts p step) more

-- how many nodes were ever added, after some steps
abbrev pub added_all : ℕ → List Step → ℕ
added_all added [] = added
added_all added (step ∷ more) = added_all (added_after added step) more

-- an addition of this node, which begins with this
abbrev pub IsAdd : Step → ℕ → Seed → Type 0
IsAdd (Add n p i seed) node first = (n ≡ node) × (seed ≡ first)
IsAdd step node first = ⊥

-- a step that is about a text
abbrev pub IsOfText : Step → Type 0
IsOfText (Insert n at text) = Unit {0}
IsOfText (Delete n at text) = Unit {0}
IsOfText (Caret n at) = Unit {0}
IsOfText (TextSelect n marks) = Unit {0}
IsOfText step = ⊥

-- the change of a text that such a step is: it can be done, and the texts after it
abbrev pub CanDo : Nodes → Step → Type 0
CanDo nodes (Insert n at text) = CanChange nodes n (changes.Insert at text)
CanDo nodes (Delete n at text) = CanChange nodes n (changes.Delete at (length text))
CanDo nodes (Caret n at) = CanChange nodes n (changes.Caret at)
CanDo nodes (TextSelect n marks) = CanChange nodes n (changes.Marks marks)
CanDo nodes step = ⊥

abbrev pub text_after : Nodes → Step → Nodes
text_after nodes (Insert n at text) = changed_at nodes n (changes.Insert at text)
text_after nodes (Delete n at text) = changed_at nodes n (changes.Delete at (length text))
text_after nodes (Caret n at) = changed_at nodes n (changes.Caret at)
text_after nodes (TextSelect n marks) = changed_at nodes n (changes.Marks marks)
text_after nodes step = nodes

-- a step that is about the shape alone
abbrev pub IsOfShape : Step → Type 0
IsOfShape (Move n p i) = Unit {0}
IsOfShape (SetName n text) = Unit {0}
IsOfShape (SetDescription n text) = Unit {0}
IsOfShape (SetRole n role) = Unit {0}
IsOfShape (SetState n state on) = Unit {0}
IsOfShape (Relate n kind targets) = Unit {0}
IsOfShape step = ⊥

-- a step that may want memory
abbrev pub TakesMemory : Step → Type 0
TakesMemory (Remove n) = ⊥
TakesMemory (SetState n state on) = ⊥
TakesMemory (Delete n at text) = ⊥
TakesMemory (Caret n at) = ⊥
TakesMemory step = Unit {0}

-- Steps that are done as one: none behind the first wants memory.
abbrev pub AreOne : List Step → Type 0
AreOne [] = Unit {0}
AreOne (step ∷ more) = Each (λ s. TakesMemory s → ⊥) more

-- A text goes into the place of another: one is taken out and the other put in where it stood, behind a caret or not.
abbrev pub AreExchange : List Step → Type 0
AreExchange (Delete n at gone ∷ Insert m to text ∷ []) = (m ≡ n) × (to ≡ at)
AreExchange (Caret k c ∷ Delete n at gone ∷ Insert m to text ∷ []) = (k ≡ n) × (m ≡ n) × (to ≡ at)
AreExchange steps = ⊥

-- Steps that one call does as a whole.
abbrev pub CanBeDone : List Step → Type 0
CanBeDone steps = AreOne steps ⊎ AreExchange steps
