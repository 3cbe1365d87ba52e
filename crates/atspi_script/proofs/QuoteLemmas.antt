-- Bytes that stand between quotes as they are.
use Rattle.std.proofs.Common.{◌≡◌, ℕ, Bool, true, false, not, IsTrue, ◌&&◌, ◌||◌, List, [], ◌∷◌, ◌++◌, if◌then◌else◌, refl, ap, ◌∙◌}
use Rattle.std.specs.List.{flat_map, list_all}
use Rattle.atspi_base.specs.Quoted.{escaped, is_marked, is_control}
use Rattle.atspi_script.specs.inner.Marks.{stands}

unmarked : (m t : Bool) (b : ℕ) (marked control : List ℕ) → not (m || t) ≡ true → (if m then marked else (if t then control else b ∷ [])) ≡ b ∷ []
unmarked true t b marked control e = absurd cc
unmarked false true b marked control e = absurd cc
unmarked false false b marked control e = refl

both : (a b : Bool) → (a && b) ≡ true → (a ≡ true) × (b ≡ true)
both true b e = (refl, e)
both false b e = absurd cc

-- where each byte stands as it is, all do
pub all_stand : (bytes : List ℕ) → IsTrue (list_all stands bytes) → flat_map escaped bytes ≡ bytes
all_stand [] h = refl
all_stand (b ∷ bytes) h =
    let each = both (stands b) (list_all stands bytes) h in
    ap (λ w. w ++ flat_map escaped bytes) (unmarked (is_marked b) (is_control b) b _ _ each.0)
    ∙ ap (λ w. b ∷ w) (all_stand bytes each.1)
