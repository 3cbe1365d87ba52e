-- What one level of a type is.
use Rattle.std.specs.Prelude.{◌≡◌, [], ◌∷◌}
use Rattle.atspi_types.specs.Kinds.{Kind, array, structure, dictionary, kinds_of}
use Rattle.atspi_types.specs.KindView.{kind_of, kinds_in}
use Rattle.atspi_types.specs.Signatures.{type_bytes}
use Rattle.atspi_types.specs.declared.ty.shape.Shape.{Shape}
use Rattle.atspi_types.specs.declared.ty.shape.Shape.TheVariants.{Code, Array, Struct, Dict}

-- a type of one byte is spelled by its code alone, and the others are containers of these types
abbrev pub IsShapeOf : Shape → Kind → Type 0
IsShapeOf (Code c) k = type_bytes k ≡ c ∷ []
IsShapeOf (Array t) k = k ≡ array (kind_of t.now)
IsShapeOf (Struct ts) k = k ≡ structure (kinds_of (kinds_in ts.now))
IsShapeOf (Dict t u) k = k ≡ dictionary (kind_of t.now) (kind_of u.now)
