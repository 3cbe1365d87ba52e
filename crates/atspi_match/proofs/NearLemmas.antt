-- A rule that asks for another interface than the message's does not match it.
use Rattle.std.proofs.Common.{◌≡◌, ℕ, Bool, true, false, not, List, [], ◌∷◌, refl, sym, ap, ◌∙◌}
use Rattle.std.specs.Prelude.{◌||◌, bytes_eq, Option}
use Rattle.std.specs.List.{list_any}
use Rattle.std.proofs.lemmas.List.Elements.{All-head, All-tail}
use Rattle.std.proofs.lemmas.Slice.Eq.{bytes_eq-Decides}
use Rattle.atspi_message.specs.Envelope.{Envelope}
use Rattle.atspi_names.specs.Owners.{Owners}
use Rattle.atspi_match.specs.declared.condition.Condition.{Condition}
use Rattle.atspi_match.specs.declared.condition.Condition.TheVariants.{Kind, Sender, Interface, Member, Path, PathNamespace, Destination, Arg, ArgPath, Arg0Namespace, Eavesdrop}
use Rattle.atspi_match.specs.Matching.{Holds, Matches}
use Rattle.atspi_match.specs.RuleIndex.{is_text, asks_another, is_near}

not_so : false ≡ true → ⊥
not_so e = cc

-- such a condition does not hold
another : (e : Envelope) (owners : Owners) (c : Condition) → asks_another e c ≡ true → Holds e owners c → ⊥
another e owners (Kind t) is h = not_so is
another e owners (Sender name) is h = not_so is
another e owners (Interface name) is h =
    let same : is_text e.interface name ≡ true = ap (λ o. is_text o name) h ∙ (bytes_eq-Decides name name).1 refl in
    not_so (sym (ap not same) ∙ is)
another e owners (Member name) is h = not_so is
another e owners (Path path) is h = not_so is
another e owners (PathNamespace path) is h = not_so is
another e owners (Destination name) is h = not_so is
another e owners (Arg n text) is h = not_so is
another e owners (ArgPath n text) is h = not_so is
another e owners (Arg0Namespace text) is h = not_so is
another e owners (Eavesdrop b) is h = not_so is

pub far : (e : Envelope) (owners : Owners) (rule : List Condition) → is_near e rule ≡ false → Matches rule e owners → ⊥
far e owners [] is m = not_so (sym is)
far e owners (c ∷ rule) is m = by (far e owners rule) (asks_another e c) refl
  where
    by : (is_near e rule ≡ false → Matches rule e owners → ⊥) → (b : Bool) → asks_another e c ≡ b → ⊥
    by rest true asks = another e owners c asks (All-head (Holds e owners) c rule m)
    by rest false none =
        rest (sym (ap (λ b. not (b || list_any (asks_another e) rule)) none) ∙ is) (All-tail (Holds e owners) c rule m)
