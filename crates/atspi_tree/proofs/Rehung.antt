-- The writes of a move, and the tree that the table holds after them.
use Rattle.std.proofs.Common.{◌≡◌, ℕ, ◌≤◌, ◌==◌, Bool, true, false, cond, Option, Some, None, List, [], ◌∷◌, length, refl, sym, ap, ◌∙◌, subst, arith}
use Rattle.std.specs.Prelude.{insert}
use Rattle.std.specs.Option.{option_map}
use Rattle.std.proofs.lemmas.Bool.{eqb-true, eq-eqb, ne_eqb}
use Rattle.atspi_tree_model.specs.declared.step.Step.TheVariants.{Move}
use Rattle.atspi_tree_model.specs.Edits.{is_among}
use Rattle.atspi_tree_model.specs.Forest.{count, has, take_out, pick, children_at}
use Rattle.atspi_tree_model.specs.Row.{ShapeRow, Holds}
use Rattle.atspi_tree_model.specs.RowRules.{shapes}
use Rattle.atspi_tree_model.specs.Tree.{is_shape, after, Moves}
use Rattle.atspi_tree_model.proofs.Counts.{count-parts}
use Rattle.atspi_tree_model.proofs.Found.{count-has, has-count}
use Rattle.atspi_tree_model.proofs.Kept.{count-move}
use Rattle.atspi_tree_model.proofs.RowRules.{shapes_sound}
use Rattle.atspi_tree_model.proofs.Seats.{pick-one, count-take_out}
use Rattle.atspi_tree.specs.declared.cell.Cell.{Cell}
use Rattle.atspi_tree.specs.TreeShape.{TreeShape, numbers, children_of, parent_of}
use Rattle.atspi_tree.specs.Table.{Kept, look_in, IsHeld, ChangesAt, Relists, Rehangs, all_but, with_child, without_child, moved_child, with_parent}
use Rattle.atspi_tree.proofs.Held.{found}
use Rattle.atspi_tree.proofs.Moved.{Attaches, numbers-take_out, not_top, holds-children, has_parent, not_own, parent_there, among_children, holds-out, holds-pick, holds-tree, holds-put}
use Rattle.atspi_tree.proofs.Trees.{Holding, width-numbers}

eq_false : (m n : ℕ) → (m ≡ n → ⊥) → (m == n) ≡ false
eq_false m n ne = ne_eqb m n ne

flip : (m n : ℕ) → (m == n) ≡ false → (n == m) ≡ false
flip m n e = ne_eqb n m (λ s. let y = eq-eqb m n (sym s) in cc)

-- a number in one list alone: put in another, then taken out of the first
pub relisted : (es es1 es2 : List (ℕ × Cell)) (from to i n : ℕ) → (from == to) ≡ false
    → Holds (λ (k : Kept). all_but n k.children ≡ k.children) (look_in es to)
    → ((k : Kept) → look_in es to ≡ Some k → ChangesAt es es1 to (with_child i n k))
    → ((k : Kept) → look_in es1 from ≡ Some k → ChangesAt es1 es2 from (without_child n k))
    → Holds (λ (k : Kept). is_among n k.children ≡ true) (look_in es from)
    → Relists es es2 from to i n
relisted es es1 es2 from to i n ne only w1 w2 there =
    at (look_in es to) refl only (look_in es from) refl there
  where
    at : (o : Option Kept) → look_in es to ≡ o → Holds (λ (k : Kept). all_but n k.children ≡ k.children) o
        → (o' : Option Kept) → look_in es from ≡ o' → Holds (λ (k : Kept). is_among n k.children ≡ true) o' → Relists es es2 from to i n
    at None e h o' e' h' = absurd h
    at (Some kt) e h None e' h' = absurd h'
    at (Some kt) e h (Some kf) e' h' =
        let first = w1 kt e in
        let second = w2 kf (first.others from ne ∙ e') in
        record {
          left = λ k _ z. second.here ∙ ap (λ (o : Option Kept). option_map (without_child n) o) (sym e' ∙ z);
          joined = λ k z. second.others to (flip from to ne) ∙ (first.here ∙ (at_to kt h ∙ ap (λ (o : Option Kept). option_map (moved_child i n) o) (sym e ∙ z)));
          others = λ m a b. second.others m a ∙ first.others m b;
        }
      where
        at_to : (k : Kept) → all_but n k.children ≡ k.children → Some (with_child i n k) ≡ Some (moved_child i n k)
        at_to k e = ap (λ (l : List ℕ). Some (record k { children = insert l i n })) (sym e)

pub relisted_here : (es es1 : List (ℕ × Cell)) (from to i n : ℕ) → from ≡ to
    → Holds (λ (k : Kept). is_among n k.children ≡ true) (look_in es from)
    → ((k : Kept) → look_in es to ≡ Some k → ChangesAt es es1 to (moved_child i n k))
    → Relists es es1 from to i n
relisted_here es es1 from to i n same there w = at (look_in es to) refl (subst (λ m. Holds (λ (k : Kept). is_among n k.children ≡ true) (look_in es m)) same there)
  where
    at : (o : Option Kept) → look_in es to ≡ o → Holds (λ (k : Kept). is_among n k.children ≡ true) o → Relists es es1 from to i n
    at None e h = absurd h
    at (Some kt) e h = record {
      left = λ k ne z. let y = eq-eqb from to same in cc;
      joined = λ k z. (w k z).here;
      others = λ m a b. (w kt e).others m b;
    }

pub rehung : (es es1 es2 : List (ℕ × Cell)) (from to i n : ℕ) → (to == n) ≡ false → (from == n) ≡ false → Holds (λ (k : Kept). Unit {0}) (look_in es n)
    → Relists es es1 from to i n
    → ((k : Kept) → look_in es1 n ≡ Some k → ChangesAt es1 es2 n (with_parent to k))
    → Rehangs es es2 from to i n
rehung es es1 es2 from to i n nt nf there r w = at (look_in es n) refl there
  where
    at : (o : Option Kept) → look_in es n ≡ o → Holds (λ (k : Kept). Unit {0}) o → Rehangs es es2 from to i n
    at None e h = absurd h
    at (Some kn) e h =
        let same = r.others n (flip from n nf) (flip to n nt) in
        let last = w kn (same ∙ e) in
        record {
          moved = λ k z. last.here ∙ ap (λ (o : Option Kept). option_map (with_parent to) o) (sym e ∙ z);
          left = λ k ne z. last.others from nf ∙ r.left k ne z;
          joined = λ k z. last.others to nt ∙ r.joined k z;
          others = λ m a b d. last.others m a ∙ r.others m b d;
        }

-- what a move finds in a table
pub record Movable (es : List (ℕ × Cell)) (t : TreeShape) (from to i n : ℕ) : Type 0 where
  pub from_there : Holds (λ (k : Kept). is_among n k.children ≡ true) (look_in es from)
  pub in_range : Holds (λ (k : Kept). i ≤ length (all_but n k.children)) (look_in es to)
  pub only_there : (from == to) ≡ false → Holds (λ (k : Kept). all_but n k.children ≡ k.children) (look_in es to)
  pub apart : (to == n) ≡ false
  pub not_own : (from == n) ≡ false
  pub there : Holds (λ (k : Kept). Unit {0}) (look_in es n)

-- the node that moves, by its row in the table
module _ (es : List (ℕ × Cell)) (k n p i q : ℕ) (t : TreeShape) (h : Holding es k t) (m : Moves shapes t.rows n p i)
    (kn : Kept) (at_n : look_in es n ≡ Some kn) (up_n : kn.parent ≡ Some q) where
  n_there : 1 ≤ count (is_shape n) t.rows
  n_there = count-has (is_shape n) t.rows m.there

  no_up : None ≡ Some q → ⊥
  no_up e = cc

  q_there : 1 ≤ count (is_shape q) t.rows
  q_there = parent_there (look_in es) n q kn at_n up_n None t.rows h.held.nodes n_there no_up

  q_n : (q == n) ≡ false
  q_n = eq_false q n (not_own (look_in es) n q kn at_n up_n None t.rows h.held.nodes n_there no_up)

  p_out : 1 ≤ count (is_shape p) (take_out (is_shape n) t.rows)
  p_out = count-has (is_shape p) (take_out (is_shape n) t.rows) m.no_cycle

  p_there : 1 ≤ count (is_shape p) t.rows
  p_there = let a = count-parts (is_shape p) (is_shape n) t.rows in let b = p_out in omega arith

  p_n : (p == n) ≡ false
  p_n = eq_false p n (λ e. let z : count (is_shape p) (take_out (is_shape n) t.rows) ≡ 0 = subst (λ m. count (is_shape m) (take_out (is_shape n) t.rows) ≡ 0) (sym e) (count-take_out (is_shape n) t.rows) in let b = p_out in omega arith)

  -- the virtual table in which n is in no list
  out : ℕ → Option Kept
  out j = cond (j == q) (option_map (without_child n) (look_in es j)) (look_in es j)

  out_q : (k : Kept) → look_in es q ≡ Some k → out q ≡ Some (without_child n k)
  unfolding out
  out_q k e = rw (eq-eqb q q refl) (ap (λ (o : Option Kept). option_map (without_child n) o) e)

  out_others : (j : ℕ) → (j == q) ≡ false → out j ≡ look_in es j
  unfolding out
  out_others j e = rw e refl

  -- what is in the table of q and p
  row_at : (j : ℕ) → 1 ≤ count (is_shape j) t.rows → (x : Kept) × (look_in es j ≡ Some x) × (x.children ≡ children_of j t)
  row_at j l =
      let y = found (look_in es) j None 0 t.rows h.held.nodes (has-count (is_shape j) t.rows l) in
      (record { row = y.row; children = children_of j t; parent = y.parent }, y.is_kept, refl)

  p_only : (q == p) ≡ false → all_but n (children_of p t) ≡ children_of p t
  p_only ne =
      sym (numbers-take_out n (children_at (is_shape p) t.rows))
      ∙ not_top (look_in es) n q kn at_n up_n (Some p) (children_at (is_shape p) t.rows) (holds-children (look_in es) p None t.rows h.held.nodes)
      (λ e. let same : p ≡ q = cc in let y = eq-eqb q p (sym same) in cc)

  pub movable : Movable es t q p i n
  movable =
      let at_q = row_at q q_there in
      let at_p = row_at p p_there in
      record {
        from_there = subst (Holds (λ (k : Kept). is_among n k.children ≡ true)) (sym at_q.1)
            (subst (λ l. is_among n l ≡ true) (sym at_q.2) (among_children (look_in es) n q kn at_n up_n None t.rows h.held.nodes n_there (h.lawful.once q) no_up));
        in_range = subst (Holds (λ (k : Kept). i ≤ length (all_but n k.children))) (sym at_p.1)
            (subst (λ l. i ≤ length (all_but n l)) (sym at_p.2)
            (let a = m.index in let b = width-numbers (take_out (is_shape n) (children_at (is_shape p) t.rows)) in
            let c = ap (λ (l : List ℕ). length l) (numbers-take_out n (children_at (is_shape p) t.rows)) in omega arith));
        only_there = λ ne. subst (Holds (λ (k : Kept). all_but n k.children ≡ k.children)) (sym at_p.1)
            (subst (λ l. all_but n l ≡ l) (sym at_p.2) (p_only ne));
        apart = p_n;
        not_own = q_n;
        there = subst (Holds (λ (k : Kept). Unit {0})) (sym at_n) tt;
      }

  pub table_move : (es2 : List (ℕ × Cell)) → Rehangs es es2 q p i n → length es2 ≡ length es → IsHeld es2 (after shapes t.rows (Move n p i))
  table_move es2 r size = record {
    nodes = holds-put out (look_in es2) p i n attached (pick (is_shape n) t.rows) one
        (holds-tree out (look_in es2) p i n attached (Some q) (pick (is_shape n) t.rows) one
        (let a = count-parts (is_shape n) (is_shape n) t.rows in let b = h.lawful.once n in omega arith)
        (let a = count-parts (is_shape p) (is_shape n) t.rows in let b = h.lawful.once p in let c = p_out in omega arith)
        (holds-pick (look_in es) n q kn at_n up_n out out_q out_others (λ e. let y = eq-eqb q n e in let z = q_n in cc) None t.rows (h.lawful.once n) h.held.nodes))
        None (take_out (is_shape n) t.rows) (count-take_out (is_shape n) t.rows)
        (holds-out (look_in es) n q kn at_n up_n out out_q out_others None t.rows h.held.nodes);
    only = λ j z.
        let zero : count (is_shape j) t.rows ≡ 0 = sym (count-move shapes shapes_sound t.rows n p i h.lawful.once m.no_cycle (is_shape j)) ∙ z in
        r.others j (not_at j n zero n_there) (not_at j q zero q_there) (not_at j p zero p_there) ∙ h.held.only j zero;
    size = count-move shapes shapes_sound t.rows n p i h.lawful.once m.no_cycle (λ row. true) ∙ (h.held.size ∙ sym size);
  }
    where
      not_at : (j x : ℕ) → count (is_shape j) t.rows ≡ 0 → 1 ≤ count (is_shape x) t.rows → (j == x) ≡ false
      not_at j x z l = eq_false j x (λ e. let y : count (is_shape x) t.rows ≡ 0 = subst (λ m. count (is_shape m) t.rows ≡ 0) e z in omega arith)

      one_at : (a : ShapeRow) (b : Bool) → (a.node == n) ≡ b → b ≡ true → a.node ≡ n
      one_at a true e b = eqb-true a.node n e
      one_at a false e b = cc

      one : numbers (pick (is_shape n) t.rows) ≡ n ∷ []
      one =
          let o = pick-one (is_shape n) t.rows (let a = h.lawful.once n in let b = n_there in omega arith) in
          ap numbers o.3 ∙ ap (λ j. j ∷ []) (one_at o.0 (o.0.node == n) refl o.2)

      joined_at : (b : Bool) → (q == p) ≡ b → (k : Kept) → out p ≡ Some k → look_in es2 p ≡ Some (with_child i n k)
      joined_at true e k z =
          let same : q ≡ p = eqb-true q p e in
          let at_q = row_at q q_there in
          let w : out p ≡ Some (without_child n at_q.0) = subst (λ j. out j ≡ Some (without_child n at_q.0)) same (out_q at_q.0 at_q.1) in
          let j = r.joined at_q.0 (subst (λ j. look_in es j ≡ Some at_q.0) same at_q.1) in
          j ∙ ap (λ (o : Option Kept). option_map (with_child i n) o) (sym w ∙ z)
      joined_at false e k z =
          let same = out_others p (flip q p e) in
          let l : look_in es p ≡ Some k = sym same ∙ z in
          let at_p = row_at p p_there in
          r.joined k l ∙ ap (λ (l : List ℕ). Some (record k { children = insert l i n }))
          (let c : k.children ≡ children_of p t = ap (λ (x : Kept). x.children) (some_same k at_p.0 (sym l ∙ at_p.1)) ∙ at_p.2 in
          subst (λ x. all_but n x ≡ x) (sym c) (p_only e))
        where
          some_same : (a b : Kept) → Some a ≡ Some b → a ≡ b
          some_same a b e = cc

      other_at : (j : ℕ) (b d : Bool) → (j == q) ≡ b → (q == p) ≡ d → (j == p) ≡ false → (j == n) ≡ false → look_in es2 j ≡ out j
      other_at j true true e f jp jn = let a = eqb-true j q e in let b = eqb-true q p f in let y = eq-eqb j p (a ∙ b) in cc
      other_at j true false e f jp jn =
          let same : j ≡ q = eqb-true j q e in
          let at_q = row_at q q_there in
          subst (λ x. look_in es2 x ≡ out x) (sym same) (r.left at_q.0 f at_q.1 ∙ sym (out_q at_q.0 at_q.1))
      other_at j false d e f jp jn = r.others j jn e jp ∙ sym (out_others j e)

      attached : Attaches out (look_in es2) p i n
      attached = record {
        moved = λ k z. r.moved k (sym (out_others n (flip q n q_n)) ∙ z);
        parent = joined_at (q == p) refl;
        others = λ j jp jn. other_at j (j == q) (q == p) refl refl jp jn;
      }

-- the row of a node whose parent was read
pub record RowOf (es : List (ℕ × Cell)) (n : ℕ) (up : Option ℕ) : Type 0 where
  pub kept : Kept
  pub there : look_in es n ≡ Some kept
  pub parent : kept.parent ≡ up

pub row_of_parent : (es : List (ℕ × Cell)) (k n : ℕ) (t : TreeShape) (up : Option ℕ) → Holding es k t → has (is_shape n) t.rows ≡ true → parent_of n t ≡ Some up → RowOf es n up
row_of_parent es k n t up h e p =
    let y = found (look_in es) n None 0 t.rows h.held.nodes e in
    record {
      kept = record { row = y.row; children = children_of n t; parent = y.parent };
      there = y.is_kept;
      parent = same y.parent up (sym (ap (option_map (λ (s : Option ℕ × ℕ). s.0)) y.is_seat) ∙ p);
    }
  where
    same : (a b : Option ℕ) → Some a ≡ Some b → a ≡ b
    same a b e = cc

-- a node that moves has a parent
pub not_root : (es : List (ℕ × Cell)) (k n : ℕ) (t : TreeShape) → Holding es k t → has (is_shape n) t.rows ≡ true → parent_of n t ≡ Some None → (n ≡ 0 → ⊥) → ⊥
not_root es k n t h e p ne =
    let r = row_of_parent es k n t None h e p in
    ne (has_parent (look_in es) n r.kept r.there r.parent t.rows h.lawful.rooted h.held.nodes (count-has (is_shape n) t.rows e))
