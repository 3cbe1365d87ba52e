-- A walk over a forest in preorder: what is done, and the trees that wait.
use Rattle.std.proofs.Common.{◌≡◌, ℕ, zero, suc, ◌+◌, ◌≤◌, true, List, [], ◌∷◌, ◌++◌, length, refl, sym, ap, ◌∙◌, subst, arith, append_assoc}
use Rattle.std.proofs.lemmas.List.{append-nil, length-append}
use Rattle.atspi_tree_model.specs.Forest.{Forest, nil, tree, labels, join, tops, count, EachNode}
use Rattle.atspi_tree_model.specs.Laws.{IsComplete}

module _ {A : Type 0} where
  labels-join : (f g : Forest A) → labels (join f g) ≡ labels f ++ labels g
  labels-join nil g = refl
  labels-join (tree a c r) g =
      ap (λ l. a ∷ (labels c ++ l)) (labels-join r g)
      ∙ ap (λ l. a ∷ l) (sym (append_assoc (labels c) (labels r) (labels g)))

  tops-join : (f g : Forest A) → tops (join f g) ≡ tops f ++ tops g
  tops-join nil g = refl
  tops-join (tree a c r) g = ap (λ l. a ∷ l) (tops-join r g)

  each_node-join : (P : A → Forest A → Type 0) (f g : Forest A) → EachNode P f → EachNode P g → EachNode P (join f g)
  each_node-join P nil g h k = k
  each_node-join P (tree a c r) g h k = (h.0, h.1, each_node-join P r g h.2 k)

  pub length-labels : (f : Forest A) → length (labels f) ≡ count (λ a. true) f
  length-labels nil = refl
  length-labels (tree a c r) = omega (arith, length-append (labels c) (labels r), length-labels c, length-labels r)

  -- the labels that are done, and the roots of the trees that wait, of a forest with these labels
  pub record Walked (kids : A → List A) (whole done waiting : List A) : Type 0 where
    pub rest : Forest A
    pub complete : IsComplete kids rest
    pub tops_wait : tops rest ≡ waiting
    pub spelled : whole ≡ done ++ labels rest

  pub begun : (kids : A → List A) (f : Forest A) → IsComplete kids f → Walked kids (labels f) [] (tops f)
  begun kids f c = record { rest = f; complete = c; tops_wait = refl; spelled = refl }

  stepped : (kids : A → List A) (whole done waiting : List A) (x : A) (f : Forest A) → IsComplete kids f
      → tops f ≡ x ∷ waiting → whole ≡ done ++ labels f → Walked kids whole (done ++ x ∷ []) (kids x ++ waiting)
  stepped kids whole done waiting x nil c t s = absurd cc
  stepped kids whole done waiting x (tree a b r) c t s =
      let same : a ≡ x = cc in
      let others : tops r ≡ waiting = cc in
      record {
        rest = join b r;
        complete = each_node-join (λ x below. tops below ≡ kids x) b r c.1 c.2;
        tops_wait = tops-join b r ∙ ap (λ l. l ++ tops r) (c.0 ∙ ap kids same) ∙ ap (λ l. kids x ++ l) others;
        spelled =
            s ∙ ap (λ l. done ++ (a ∷ l)) (sym (labels-join b r)) ∙ ap (λ y. done ++ (y ∷ labels (join b r))) same
            ∙ sym (append_assoc done (x ∷ []) (labels (join b r)));
      }

  -- the first that waits is done, and its children wait before the others
  pub step : (kids : A → List A) (whole done waiting : List A) (x : A) → Walked kids whole done (x ∷ waiting)
      → Walked kids whole (done ++ x ∷ []) (kids x ++ waiting)
  step kids whole done waiting x w = stepped kids whole done waiting x w.rest w.complete w.tops_wait w.spelled

  ended_at : (f : Forest A) → tops f ≡ [] → labels f ≡ []
  ended_at nil e = refl
  ended_at (tree a c r) e = absurd cc

  -- where nothing waits, all is done
  pub ended : (kids : A → List A) (whole done : List A) → Walked kids whole done [] → done ≡ whole
  ended kids whole done w =
      sym (w.spelled ∙ ap (λ l. done ++ l) (ended_at w.rest w.tops_wait) ∙ append-nil done)

  some_left : (f : Forest A) (x : A) (waiting : List A) → tops f ≡ x ∷ waiting → 1 ≤ length (labels f)
  some_left nil x waiting e = absurd cc
  some_left (tree a c r) x waiting e = omega arith

  -- where something waits, less than all is done
  pub not_all : (kids : A → List A) (whole done waiting : List A) (x : A) → Walked kids whole done (x ∷ waiting)
      → length done + 1 ≤ length whole
  not_all kids whole done waiting x w =
      let l : length whole ≡ length (done ++ labels w.rest) = ap length w.spelled in
      omega (arith, l, length-append done (labels w.rest), some_left w.rest x waiting w.tops_wait)
