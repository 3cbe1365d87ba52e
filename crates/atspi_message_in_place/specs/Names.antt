-- The rules of the names that a message has, as tests.
use Rattle.std.specs.Prelude.{ℕ, List, Option, Some, None, Bool, true, ◌&&◌}
use Rattle.std.specs.Borrow.{Bor}
use Rattle.atspi_base.specs.valid_names.Names.{is_path, is_interface, is_member, is_bus_name}

-- a name that is there is of the rule
abbrev pub fits : (List ℕ → Bool) → Option (Bor (List ℕ)) → Bool
fits rule (Some name) = rule name.now
fits rule None = true

-- the path, the interface, the member, the name of the error, the destination and the sender
abbrev pub are_named : Option (Bor (List ℕ)) → Option (Bor (List ℕ)) → Option (Bor (List ℕ)) → Option (Bor (List ℕ))
    → Option (Bor (List ℕ)) → Option (Bor (List ℕ)) → Bool
are_named path interface member error destination sender =
    fits is_path path
    && (fits is_interface interface
    && (fits is_member member
    && (fits is_interface error && (fits is_bus_name destination && fits is_bus_name sender))))
