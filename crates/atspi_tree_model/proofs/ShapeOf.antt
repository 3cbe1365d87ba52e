-- The shape of a tree follows its steps.
use Rattle.std.proofs.Common.{◌≡◌, ℕ, Bool, true, Option, Some, None, List, [], ◌∷◌, refl, sym, ap, ◌∙◌, arith}
use Rattle.std.specs.Prelude.{filter, not}
use Rattle.atspi_tree_model.specs.declared.step.Step.{Step}
use Rattle.atspi_tree_model.specs.declared.step.Step.TheVariants.{Add, Remove, Move, SetName, SetDescription, SetRole, SetState, Insert, Delete, Caret, TextSelect, Relate}
use Rattle.atspi_tree_model.specs.Forest.{Forest, nil, tree, count, has, width, take_out, pick, relabel, children_at}
use Rattle.atspi_tree_model.specs.Row.{ShapeRow, TreeRow}
use Rattle.atspi_tree_model.specs.RowRules.{shapes, rows, forgetting_shape}
use Rattle.atspi_tree_model.specs.Tree.{is_shape, is_node, shape_of, in_subtree, node_of, after, seat_of, IsRooted, HasTargets, IsTree, step_targets, Changes, Applies}
use Rattle.atspi_tree_model.proofs.Relabel.{Same, relabel-put_in, relabel-take_out, relabel-pick, has-relabel, count-relabel, relabel-change, relabel-relabel, relabel-same, renamed, place-relabel}
use Rattle.atspi_tree_model.proofs.Labels.{each_relabel, each_weaker}
use Rattle.atspi_tree_model.proofs.Found.{EachLabel-weaker}
use Rattle.atspi_tree_model.proofs.Lookup.{find-relabel, width-relabel, children-relabel}

abbrev pub shape : TreeRow → ShapeRow
shape row = row.shape

pub same_shape : (n : ℕ) → Same shape (is_shape n) (is_node n)
same_shape n row = refl

pub shape-has : (n : ℕ) (f : Forest TreeRow) → has (is_shape n) (shape_of f) ≡ has (is_node n) f
shape-has n f = has-relabel shape (is_shape n) (is_node n) (same_shape n) f

pub shape-count : (n : ℕ) (f : Forest TreeRow) → count (is_shape n) (shape_of f) ≡ count (is_node n) f
shape-count n f = count-relabel shape (is_shape n) (is_node n) (same_shape n) f

pub shape-all : (f : Forest TreeRow) → count (λ row. true) (shape_of f) ≡ count (λ row. true) f
shape-all f = count-relabel shape (λ row. true) (λ row. true) (λ row. refl) f

pub shape-take_out : (n : ℕ) (f : Forest TreeRow)
    → take_out (is_shape n) (shape_of f) ≡ shape_of (take_out (is_node n) f)
shape-take_out n f = relabel-take_out shape (is_shape n) (is_node n) (same_shape n) f

pub shape-pick : (n : ℕ) (f : Forest TreeRow) → pick (is_shape n) (shape_of f) ≡ shape_of (pick (is_node n) f)
shape-pick n f = relabel-pick shape (is_shape n) (is_node n) (same_shape n) f

pub shape-children : (n : ℕ) (f : Forest TreeRow)
    → children_at (is_shape n) (shape_of f) ≡ shape_of (children_at (is_node n) f)
shape-children n f = children-relabel shape (is_shape n) (is_node n) (same_shape n) f

pub shape-width : (f : Forest TreeRow) → width (shape_of f) ≡ width f
shape-width f = width-relabel shape f

same_seat : (o : Option (Option ℕ × ℕ)) → renamed (λ x. x) o ≡ o
same_seat None = refl
same_seat (Some s) = refl

pub shape-seat : (n : ℕ) (f : Forest TreeRow) → seat_of shapes n (shape_of f) ≡ seat_of rows n f
shape-seat n f = place-relabel shape (is_shape n) (is_node n) (same_shape n) (λ x. x) _ _ (λ row. refl) None 0 f ∙ same_seat (seat_of rows n f)

filter-same : (p q : ℕ × ℕ → Bool) → ((r : ℕ × ℕ) → p r ≡ q r) → (rs : List (ℕ × ℕ)) → filter p rs ≡ filter q rs
filter-same p q e [] = refl
filter-same p q e (r ∷ rs) = rw (e r, filter-same p q e rs) refl

pub shape-subtree : (n m : ℕ) (f : Forest TreeRow) → in_subtree shapes n (shape_of f) m ≡ in_subtree rows n f m
shape-subtree n m f = rw (shape-pick n f) (shape-has m (pick (is_node n) f))

-- the shape of the tree after a step is the shape after the step
pub shape_after : (f : Forest TreeRow) (step : Step) → shape_of (after rows f step) ≡ after shapes (shape_of f) step
shape_after f (Add n p i seed) = sym (relabel-put_in shape (is_shape p) (is_node p) (same_shape p) (Some i) (tree (rows.first n seed) nil nil) f)
shape_after f (Remove n) =
    relabel-relabel (rows.forgetting (in_subtree rows n f)) shape (take_out (is_node n) f)
    ∙ (relabel-same (λ row. shape (rows.forgetting (in_subtree rows n f) row)) (λ row. forgetting_shape (in_subtree shapes n (shape_of f)) (shape row))
    (λ row. ap (λ rs. record row.shape { relations = rs })
    (filter-same (λ r. not (in_subtree rows n f r.1)) (λ r. not (in_subtree shapes n (shape_of f) r.1)) (λ r. ap not (sym (shape-subtree n r.1 f))) row.shape.relations))
    (take_out (is_node n) f)
    ∙ (sym (relabel-relabel shape (forgetting_shape (in_subtree shapes n (shape_of f))) (take_out (is_node n) f))
    ∙ ap (relabel (forgetting_shape (in_subtree shapes n (shape_of f)))) (sym (shape-take_out n f))))
shape_after f (Move n p i) =
    sym (rw (shape-pick n f, shape-take_out n f) (relabel-put_in shape (is_shape p) (is_node p) (same_shape p) (Some i) (pick (is_node n) f) (take_out (is_node n) f)))
shape_after f (SetName n x) = sym (relabel-change shape (is_shape n) (is_node n) (same_shape n) (shapes.changed (SetName n x)) (rows.changed (SetName n x)) (λ row. refl) f)
shape_after f (SetDescription n x) = sym (relabel-change shape (is_shape n) (is_node n) (same_shape n) (shapes.changed (SetDescription n x)) (rows.changed (SetDescription n x)) (λ row. refl) f)
shape_after f (SetRole n x) = sym (relabel-change shape (is_shape n) (is_node n) (same_shape n) (shapes.changed (SetRole n x)) (rows.changed (SetRole n x)) (λ row. refl) f)
shape_after f (SetState n s on) = sym (relabel-change shape (is_shape n) (is_node n) (same_shape n) (shapes.changed (SetState n s on)) (rows.changed (SetState n s on)) (λ row. refl) f)
shape_after f (Insert n at x) = sym (relabel-change shape (is_shape n) (is_node n) (same_shape n) (shapes.changed (Insert n at x)) (rows.changed (Insert n at x)) (λ row. refl) f)
shape_after f (Delete n at x) = sym (relabel-change shape (is_shape n) (is_node n) (same_shape n) (shapes.changed (Delete n at x)) (rows.changed (Delete n at x)) (λ row. refl) f)
shape_after f (Caret n at) = sym (relabel-change shape (is_shape n) (is_node n) (same_shape n) (shapes.changed (Caret n at)) (rows.changed (Caret n at)) (λ row. refl) f)
shape_after f (TextSelect n marks) = sym (relabel-change shape (is_shape n) (is_node n) (same_shape n) (shapes.changed (TextSelect n marks)) (rows.changed (TextSelect n marks)) (λ row. refl) f)
shape_after f (Relate n kind ts) = sym (relabel-change shape (is_shape n) (is_node n) (same_shape n) (shapes.changed (Relate n kind ts)) (rows.changed (Relate n kind ts)) (λ row. refl) f)

pub targets_of_shape : (f : Forest TreeRow) (xs : List ℕ) → HasTargets rows f xs → HasTargets shapes (shape_of f) xs
targets_of_shape f xs h = each_weaker (λ t. has (is_node t) f ≡ true) (λ t. has (is_shape t) (shape_of f) ≡ true) (λ t e. shape-has t f ∙ e) xs h

-- the shape of a tree is a tree of shapes
pub shape_is_tree : (f : Forest TreeRow) (k : ℕ) → IsTree rows f k → IsTree shapes (shape_of f) k
shape_is_tree f k t = record {
  rooted = top f t.rooted;
  once = λ n. let e = shape-count n f in let l = t.once n in omega arith;
  numbered = λ n l. shape-count n f ∙ t.numbered n l;
  few = let e = shape-all f in let l = t.few in omega arith;
  few_ever = t.few_ever;
  lawful = each_relabel shapes.IsLawful shape f (EachLabel-weaker _ _ (λ row l. l.0) f t.lawful);
  targets = each_relabel (λ row. HasTargets shapes (shape_of f) (shapes.targets row)) shape f (EachLabel-weaker _ _ (λ row h. targets_of_shape f (rows.targets row) h) f t.targets);
}
  where
    top : (g : Forest TreeRow) → IsRooted rows g → IsRooted shapes (shape_of g)
    top g (row, c, z, e) = (row.shape, shape_of c, z, ap shape_of e)

-- and what applies to the tree applies to its shape
shape_changes : (f : Forest TreeRow) (step : Step) → Changes rows f step → Changes shapes (shape_of f) step
shape_changes f step m = record {
  row = m.row.shape;
  there = find-relabel shape (is_shape (node_of step)) (is_node (node_of step)) (same_shape (node_of step)) f ∙ (rw m.there refl);
  allowed = m.allowed.0;
  lawful = m.lawful.0;
  targets = targets_of_shape f (step_targets step) m.targets;
}

pub shape_applies : (f : Forest TreeRow) (k : ℕ) (step : Step) → Applies rows f k step
    → Applies shapes (shape_of f) k step
shape_applies f k (Add n p i seed) m = record {
  next = m.next;
  parent = shape-has p f ∙ m.parent;
  index = rw (shape-children p f, shape-width (children_at (is_node p) f)) m.index;
  room = let e = shape-all f in let l = m.room in omega arith;
  room_ever = m.room_ever;
  lawful = m.lawful.0;
}
shape_applies f k (Remove n) m = record { not_root = m.not_root; there = shape-has n f ∙ m.there }
shape_applies f k (Move n p i) m = record {
  not_root = m.not_root;
  there = shape-has n f ∙ m.there;
  no_cycle = rw (shape-take_out n f) (shape-has p (take_out (is_node n) f) ∙ m.no_cycle);
  index = rw (shape-children p f, shape-take_out n (children_at (is_node p) f), shape-width (take_out (is_node n) (children_at (is_node p) f))) m.index;
  elsewhere = λ e. m.elsewhere (sym (shape-seat n f) ∙ e);
}
shape_applies f k (SetName n x) m = shape_changes f (SetName n x) m
shape_applies f k (SetDescription n x) m = shape_changes f (SetDescription n x) m
shape_applies f k (SetRole n x) m = shape_changes f (SetRole n x) m
shape_applies f k (SetState n s on) m = shape_changes f (SetState n s on) m
shape_applies f k (Insert n at x) m = shape_changes f (Insert n at x) m
shape_applies f k (Delete n at x) m = shape_changes f (Delete n at x) m
shape_applies f k (Caret n at) m = shape_changes f (Caret n at) m
shape_applies f k (TextSelect n marks) m = shape_changes f (TextSelect n marks) m
shape_applies f k (Relate n kind ts) m = shape_changes f (Relate n kind ts) m
