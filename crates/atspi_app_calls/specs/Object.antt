-- What an application's objects offer.
use Rattle.std.specs.Prelude.{ℕ, List, [], ◌∷◌}
use Rattle.atspi_tree_model.specs.Announce.{interfaces_of}
use Rattle.atspi_protocol.specs.members.Interfaces.{cache}
use Rattle.atspi_protocol.specs.members.Objects.{Object, object_with}
use Rattle.atspi_app_calls.specs.declared.object.AppObject.{AppObject}
use Rattle.atspi_app_calls.specs.declared.object.AppObject.TheVariants.{Node, Cache}

-- the names of its own interfaces
abbrev pub own_names : AppObject → List (List ℕ)
own_names (Node is_root kinds) = interfaces_of is_root kinds
own_names Cache = cache ∷ []

abbrev pub object_of : AppObject → Object
object_of o = object_with (own_names o)
