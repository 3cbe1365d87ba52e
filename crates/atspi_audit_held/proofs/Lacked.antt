-- What steps make of the nodes that have a part which was not told.
use Rattle.std.proofs.Common.{◌≡◌, ℕ, zero, suc, ◌+◌, ◌*◌, ◌≤◌, Bool, true, false, cond, ◌&&◌, Option, Some, None, refl, sym, ap, ◌∙◌, arith, true≢false}
use Rattle.std.specs.Option.{option_map}
use Rattle.atspi_tree_model.specs.declared.contents.Kinds.{Kinds}
use Rattle.atspi_tree_model.specs.declared.step.Seed.{Seed}
use Rattle.atspi_tree_model.specs.declared.step.Step.{Step}
use Rattle.atspi_tree_model.specs.declared.step.Step.TheVariants.{Add, Remove, Move, SetName, SetDescription, SetRole, SetState, Insert, Delete, Caret, TextSelect, Relate}
use Rattle.atspi_tree_model.specs.Forest.{Forest, nil, tree, count, has, find, take_out, pick, put_in, change}
use Rattle.atspi_tree_model.specs.Row.{ShapeRow}
use Rattle.atspi_tree_model.specs.RowRules.{shapes, first_shape}
use Rattle.atspi_tree_model.specs.Tree.{IsTree, Adds, Moves, Applies, is_shape, after, in_subtree}
use Rattle.atspi_tree_model.specs.View.{Told}
use Rattle.atspi_tree_model.proofs.Counts.{count-put_in, count-parts}
use Rattle.atspi_tree_model.proofs.Found.{count-has, has-count, not_there, find-passes}
use Rattle.atspi_tree_model.proofs.Lookup.{test_found}
use Rattle.atspi_tree_model.proofs.Once.{count-le}
use Rattle.atspi_tree_model.proofs.Relabel.{has-relabel}
use Rattle.atspi_audit_held.specs.inner.Lacking.{lacks, lacking_row, lacks_at, IsOther}

-- where as many pass, some pass or none does
pub same_has : {A : Type 0} (p : A → Bool) (f g : Forest A) → count p f ≡ count p g → has p f ≡ has p g
same_has {A = A} p f g e = at (has p f) (has p g) refl refl
  where
    at : (a b : Bool) → has p f ≡ a → has p g ≡ b → has p f ≡ has p g
    at true true h k = h ∙ sym k
    at true false h k = let l = count-has p f h in absurd (true≢false (sym (has-count p g (omega arith)) ∙ k))
    at false true h k = let l = count-has p g k in absurd (true≢false (sym (has-count p f (omega arith)) ∙ h))
    at false false h k = h ∙ sym k

none_counted : {A : Type 0} (p : A → Bool) (f : Forest A) → has p f ≡ false → count p f ≡ 0
none_counted p f h = at (count p f) refl
  where
    at : (n : ℕ) → count p f ≡ n → count p f ≡ 0
    at zero e = e
    at (suc n) e = absurd (true≢false (sym (has-count p f (omega arith)) ∙ h))

both_first : (a b : Bool) → a && b ≡ true → a ≡ true
both_first true b e = refl
both_first false b e = e

fewer : (told : ℕ → Told) (m : ℕ) (f : Forest ShapeRow) → count (lacking_row told m) f ≤ count (is_shape m) f
fewer told m f = count-le (lacking_row told m) (is_shape m) (λ row e. both_first (is_shape m row) (lacks (told m) row.kinds) e) f

-- of a node that is there
pub at_row : (told : ℕ → Told) (f : Forest ShapeRow) (k n : ℕ) (kinds : Kinds) → IsTree shapes f k
    → option_map (λ (row : ShapeRow). row.kinds) (find (is_shape n) f) ≡ Some kinds → lacks_at told f n ≡ lacks (told n) kinds
at_row told f k n kinds t e = at (find (is_shape n) f) refl e
  where
    at : (o : Option ShapeRow) → find (is_shape n) f ≡ o → option_map (λ (row : ShapeRow). row.kinds) o ≡ Some kinds → lacks_at told f n ≡ lacks (told n) kinds
    at None h e = absurd cc
    at (Some row) h e =
        let same : row.kinds ≡ kinds = cc in
        let there = has-count (is_shape n) f (find-passes (is_shape n) f row h).1 in
        test_found (is_shape n) (λ (row : ShapeRow). lacks (told n) row.kinds) f row (t.once n) there h ∙ ap (lacks (told n)) same

-- and of one that is not
pub at_none : (told : ℕ → Told) (f : Forest ShapeRow) (n : ℕ) → has (is_shape n) f ≡ false → lacks_at told f n ≡ false
at_none told f n h =
    not_there (lacking_row told n) f (let a = none_counted (is_shape n) f h in let b = fewer told n f in omega arith)

-- a node that lacks a part is there
pub lacking_there : (told : ℕ → Told) (f : Forest ShapeRow) (n : ℕ) → lacks_at told f n ≡ true → has (is_shape n) f ≡ true
lacking_there told f n h =
    let a = count-has (lacking_row told n) f h in let b = fewer told n f in has-count (is_shape n) f (omega arith)

-- other parts were told of other nodes alone
pub told_alike : (told other : ℕ → Told) (f : Forest ShapeRow) (n : ℕ) → told n ≡ other n → lacks_at told f n ≡ lacks_at other f n
told_alike told other f n e = ap (λ (x : Told). has (λ (row : ShapeRow). is_shape n row && lacks x row.kinds) f) e

module _ (told : ℕ → Told) (f : Forest ShapeRow) (k : ℕ) (t : IsTree shapes f k) where
  -- a step that keeps all nodes and their interfaces
  kept_by : (m : ℕ) (p : ShapeRow → Bool) (j : ShapeRow → ShapeRow) → ((row : ShapeRow) → lacking_row told m (j row) ≡ lacking_row told m row)
      → has (lacking_row told m) (change p j f) ≡ lacks_at told f m
  kept_by m p j same = has-relabel (λ a. cond (p a) (j a) a) (lacking_row told m) (lacking_row told m) (λ a. at a (p a)) f
    where
      at : (a : ShapeRow) (b : Bool) → lacking_row told m (cond b (j a) a) ≡ lacking_row told m a
      at a true = same a
      at a false = refl

  moved : (m n p i : ℕ) → Moves shapes f n p i → lacks_at told (after shapes f (Move n p i)) m ≡ lacks_at told f m
  moved m n p i a =
      let q = lacking_row told m in
      let there = count-has (is_shape p) (take_out (is_shape n) f) a.no_cycle in
      let few = t.once p in
      let parts = count-parts (is_shape p) (is_shape n) f in
      let one : count (is_shape p) (take_out (is_shape n) f) ≡ 1 = omega arith in
      let put = count-put_in q (is_shape p) (Some i) (pick (is_shape n) f) (take_out (is_shape n) f) in
      let put_one = put ∙ ap (λ c. count q (take_out (is_shape n) f) + c * count q (pick (is_shape n) f)) one in
      let all = count-parts q (is_shape n) f in
      same_has q (put_in (is_shape p) (Some i) (pick (is_shape n) f) (take_out (is_shape n) f)) f (omega arith)

  pub others : (m : ℕ) (step : Step) → IsOther step → Applies shapes f k step → lacks_at told (after shapes f step) m ≡ lacks_at told f m
  others m (Add n p i seed) o a = absurd o
  others m (Remove n) o a = absurd o
  others m (Move n p i) o a = moved m n p i a
  others m (SetName n x) o a = kept_by m (is_shape n) (shapes.changed (SetName n x)) (λ row. refl)
  others m (SetDescription n x) o a = kept_by m (is_shape n) (shapes.changed (SetDescription n x)) (λ row. refl)
  others m (SetRole n r) o a = kept_by m (is_shape n) (shapes.changed (SetRole n r)) (λ row. refl)
  others m (SetState n s on) o a = kept_by m (is_shape n) (shapes.changed (SetState n s on)) (λ row. refl)
  others m (Insert n at x) o a = kept_by m (is_shape n) (shapes.changed (Insert n at x)) (λ row. refl)
  others m (Delete n at x) o a = kept_by m (is_shape n) (shapes.changed (Delete n at x)) (λ row. refl)
  others m (Caret n at) o a = kept_by m (is_shape n) (shapes.changed (Caret n at)) (λ row. refl)
  others m (TextSelect n marks) o a = kept_by m (is_shape n) (shapes.changed (TextSelect n marks)) (λ row. refl)
  others m (Relate n kind ts) o a = kept_by m (is_shape n) (shapes.changed (Relate n kind ts)) (λ row. refl)

  -- a new node
  new_counted : (m n p i : ℕ) (seed : Seed) → Adds shapes f k n p i seed
      → count (lacking_row told m) (after shapes f (Add n p i seed)) ≡ count (lacking_row told m) f + cond (lacking_row told m (first_shape n seed)) 1 0
  new_counted m n p i seed a =
      let q = lacking_row told m in
      let new = tree (first_shape n seed) nil nil in
      let there = count-has (is_shape p) f a.parent in
      let few = t.once p in
      let one : count (is_shape p) f ≡ 1 = omega arith in
      let put = count-put_in q (is_shape p) (Some i) new f in
      put ∙ ap (λ c. count q f + c * count q new) one ∙ omega arith

  pub added : (m n p i : ℕ) (seed : Seed) → Adds shapes f k n p i seed
      → lacks_at told (after shapes f (Add n p i seed)) m ≡ cond (lacking_row told m (first_shape n seed)) true (lacks_at told f m)
  added m n p i seed a = at (lacking_row told m (first_shape n seed)) (new_counted m n p i seed a)
    where
      at : (b : Bool) → count (lacking_row told m) (after shapes f (Add n p i seed)) ≡ count (lacking_row told m) f + cond b 1 0
          → lacks_at told (after shapes f (Add n p i seed)) m ≡ cond b true (lacks_at told f m)
      at true e = has-count (lacking_row told m) (after shapes f (Add n p i seed)) (omega arith)
      at false e = same_has (lacking_row told m) (after shapes f (Add n p i seed)) f (omega arith)

  -- nodes that go
  pub removed : (m n : ℕ) → lacks_at told (after shapes f (Remove n)) m ≡ cond (has (is_shape m) (pick (is_shape n) f)) false (lacks_at told f m)
  removed m n =
      has-relabel (shapes.forgetting (in_subtree shapes n f)) (lacking_row told m) (lacking_row told m) (λ row. refl) (take_out (is_shape n) f)
      ∙ at (has (is_shape m) (pick (is_shape n) f)) refl
    where
      at : (b : Bool) → has (is_shape m) (pick (is_shape n) f) ≡ b → has (lacking_row told m) (take_out (is_shape n) f) ≡ cond b false (lacks_at told f m)
      at true e =
          let some = count-has (is_shape m) (pick (is_shape n) f) e in
          let parts = count-parts (is_shape m) (is_shape n) f in
          let few = t.once m in
          let less = fewer told m (take_out (is_shape n) f) in
          not_there (lacking_row told m) (take_out (is_shape n) f) (omega arith)
      at false e =
          let none = none_counted (is_shape m) (pick (is_shape n) f) e in
          let less = fewer told m (pick (is_shape n) f) in
          let parts = count-parts (lacking_row told m) (is_shape n) f in
          same_has (lacking_row told m) (take_out (is_shape n) f) f (omega arith)
