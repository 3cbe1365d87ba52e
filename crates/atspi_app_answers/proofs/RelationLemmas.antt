-- The relations of a node.
use Rattle.std.proofs.Common.{◌≡◌, arith, ℕ, suc, ℤ, Bool, true, false, cond, List, [], ◌∷◌, Some, map, length, refl, sym, ap, ◌∙◌}
use Rattle.std.specs.Prelude.{filter, not, ◌==◌, ◌||◌}
use Rattle.std.specs.List.{list_any}
use Rattle.std.proofs.lemmas.Bool.Decides.{nat_tests}
use Rattle.atspi_types.specs.Data.{Data, array_data, items_of}
use Rattle.atspi_tree_model.specs.declared.limits.TheConstants.{RELATION_KINDS}
use Rattle.atspi_tree_model.specs.Row.{ShapeRow, targets_of}
use Rattle.atspi_tree_model.specs.Edits.{numbers_to}
use Rattle.atspi_protocol.specs.declared.members.member.ObjectMember.TheVariants.{GetRelationSet}
use Rattle.atspi_tree.specs.TreeShape.{TreeShape, row_of}
use Rattle.atspi_protocol.specs.whole.Whole.{Faces, filled}
use Rattle.atspi_protocol.specs.objects.Answers.{tells}
use Rattle.atspi_protocol.specs.objects.Children.{relations_data}
use Rattle.atspi_app_values.specs.Relations.{relation, relation_kind, has_some, relations_told}
use Rattle.atspi_app_answers.specs.Seen.{seen}
use Rattle.atspi_app_answers.specs.Told.{Tells}

some_is : (n : ℕ) → true ≡ not (suc n == 0)
some_is n = grind (arith, nat_tests)

some_target : (kind : ℕ) (rs : List (ℕ × ℕ)) → list_any (λ (r : ℕ × ℕ). r.0 == kind) rs ≡ not (length (targets_of kind rs) == 0)
some_target kind [] = refl
some_target kind (r ∷ rs) = by (r.0 == kind) (some_target kind rs)
  where
    by : (b : Bool) → list_any (λ (r : ℕ × ℕ). r.0 == kind) rs ≡ not (length (targets_of kind rs) == 0)
        → (b || list_any (λ (r : ℕ × ℕ). r.0 == kind) rs) ≡ not (length (map (λ (r : ℕ × ℕ). r.1) (cond b (r ∷ filter (λ (r : ℕ × ℕ). r.0 == kind) rs) (filter (λ (r : ℕ × ℕ). r.0 == kind) rs))) == 0)
    by true rest = some_is (length (map (λ (r : ℕ × ℕ). r.1) (filter (λ (r : ℕ × ℕ). r.0 == kind) rs)))
    by false rest = rest

filter_same : (p q : ℕ → Bool) → ((n : ℕ) → p n ≡ q n) → (ns : List ℕ) → filter p ns ≡ filter q ns
filter_same p q e [] = refl
filter_same p q e (n ∷ ns) = rw (e n, filter_same p q e ns) refl

pub relations_seen : (t : TreeShape) (faces : Faces) (name : List ℕ) (id : ℤ) (s : ShapeRow)
    → relations_data (seen t faces name id) (filled faces s) ≡ relations_told name (Some s)
relations_seen t faces name id s =
    ap (λ (kinds : List ℕ). array_data relation_kind (items_of (map (λ kind. relation name kind (targets_of kind s.relations)) kinds)))
    (filter_same (λ kind. list_any (λ (r : ℕ × ℕ). r.0 == kind) s.relations) (λ kind. has_some kind (Some s)) (λ kind. some_target kind s.relations) (numbers_to RELATION_KINDS))

pub tells_relations : (t : TreeShape) (name : List ℕ) (n : ℕ) (body : List Data) (v : Data) → v ≡ relations_told name (row_of n t) → Tells t name n GetRelationSet body v
tells_relations t name n body v h faces id s is = ap (tells (seen t faces name id)) (relations_seen t faces name id s ∙ ap (relations_told name) (sym is) ∙ sym h)
