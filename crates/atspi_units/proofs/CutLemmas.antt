-- How a text is cut: what the pieces are joined, that none is empty, and which one holds a character.
use Rattle.std.proofs.Common.{◌≡◌, ℕ, ◌+◌, ◌<◌, ◌≤◌, Bool, true, false, cond, List, [], ◌∷◌, ◌++◌, length, refl, sym, ap, ap₂, ◌∙◌, arith, append_assoc, append-nil, length-append}
use Rattle.std.proofs.lemmas.List.Elements.{All-nil, All-cons, All-rest}
use Rattle.std.proofs.lemmas.List.Folds.{concat-append}
use Rattle.std.specs.List.{All, concat}
use Rattle.unicode_segmentation.specs.Segments.{Rule, prepend, cut}
use Rattle.atspi_units.specs.Units.{ends_unit, units, IsUnitAt}
use Rattle.atspi_units.specs.declared.grain.Grain.{Grain}

-- a part before the pieces, as a piece of its own or as the front of the first
abbrev attach : Bool → List ℕ → List (List ℕ) → List (List ℕ)
attach ends part pieces = cond ends (part ∷ pieces) (prepend part pieces)

attach-nil : (ends : Bool) (part : List ℕ) → attach ends part [] ≡ part ∷ []
attach-nil true part = refl
attach-nil false part = refl

attach-append : (ends : Bool) (part p : List ℕ) (ps qs : List (List ℕ)) → attach ends part ((p ∷ ps) ++ qs) ≡ attach ends part (p ∷ ps) ++ qs
attach-append true part p ps qs = refl
attach-append false part p ps qs = refl

attach_some : (ends : Bool) (part : List ℕ) (ps : List (List ℕ)) → (q : List ℕ) × (qs : List (List ℕ)) × (attach ends part ps ≡ q ∷ qs)
attach_some true part ps = (part, ps, refl)
attach_some false part [] = (part, [], refl)
attach_some false part (p ∷ ps) = (part ++ p, ps, refl)

concat-attach : (ends : Bool) (part : List ℕ) (ps : List (List ℕ)) → concat (attach ends part ps) ≡ part ++ concat ps
concat-attach true part ps = refl
concat-attach false part [] = refl
concat-attach false part (p ∷ ps) = append_assoc part p (concat ps)

-- joined, the pieces are what was cut
pub concat-cut : (rule : Rule) (before cs after : List ℕ) → concat (cut rule before cs after) ≡ cs
unfolding cut
concat-cut rule before [] after = refl
concat-cut rule before (c ∷ cs) after =
    concat-attach (rule (c ∷ before) (cs ++ after)) (c ∷ []) (cut rule (c ∷ before) cs after)
    ∙ ap (λ l. c ∷ l) (concat-cut rule (c ∷ before) cs after)

abbrev IsSome : List ℕ → Type 0
IsSome piece = 0 < length piece

some_attach : (ends : Bool) (c : ℕ) (ps : List (List ℕ)) → All IsSome ps → All IsSome (attach ends (c ∷ []) ps)
some_attach true c ps h = All-cons IsSome (c ∷ []) ps (omega arith) h
some_attach false c [] h = All-cons IsSome (c ∷ []) [] (omega arith) h
some_attach false c (p ∷ ps) h = All-cons IsSome (c ∷ p) ps (omega arith) (All-rest IsSome p ps (p ∷ ps) refl h)

-- no piece is empty
pub some_cut : (rule : Rule) (before cs after : List ℕ) → All IsSome (cut rule before cs after)
unfolding cut
some_cut rule before [] after = All-nil IsSome
some_cut rule before (c ∷ cs) after = some_attach (rule (c ∷ before) (cs ++ after)) c (cut rule (c ∷ before) cs after) (some_cut rule (c ∷ before) cs after)

-- the characters of cs in reverse, and then `before`
abbrev pub onto : List ℕ → List ℕ → List ℕ
onto [] before = before
onto (c ∷ cs) before = onto cs (c ∷ before)

pub onto-push : (cs before : List ℕ) (c : ℕ) → onto (cs ++ c ∷ []) before ≡ c ∷ onto cs before
onto-push [] before c = refl
onto-push (x ∷ cs) before c = onto-push cs (x ∷ before) c

cut_some : (rule : Rule) (before : List ℕ) (c : ℕ) (cs after : List ℕ) → (q : List ℕ) × (qs : List (List ℕ)) × (cut rule before (c ∷ cs) after ≡ q ∷ qs)
unfolding cut
cut_some rule before c cs after = attach_some (rule (c ∷ before) (cs ++ after)) (c ∷ []) (cut rule (c ∷ before) cs after)

-- where a piece ends between two parts, the pieces are those of the one and those of the other
pub cut-seam : (rule : Rule) (before xs ys after : List ℕ) → (0 < length xs → rule (onto xs before) (ys ++ after) ≡ true)
    → cut rule before (xs ++ ys) after ≡ cut rule before xs (ys ++ after) ++ cut rule (onto xs before) ys after
unfolding cut
cut-seam rule before [] ys after h = refl
cut-seam rule before (c ∷ []) ys after h =
    let rest = cut rule (c ∷ before) ys after in
    let ends = h (omega arith) in
    ap (λ b. attach b (c ∷ []) rest) ends ∙ sym (ap (λ ps. ps ++ rest) (attach-nil (rule (c ∷ before) (ys ++ after)) (c ∷ [])))
cut-seam rule before (c ∷ (d ∷ xs)) ys after h =
    let rest = cut rule (onto xs (d ∷ (c ∷ before))) ys after in
    let inner = cut-seam rule (c ∷ before) (d ∷ xs) ys after (λ _. h (omega arith)) in
    let front = cut_some rule (c ∷ before) d xs (ys ++ after) in
    let ends = rule (c ∷ before) (d ∷ (xs ++ (ys ++ after))) in
    ap₂ (λ t ps. attach (rule (c ∷ before) (d ∷ t)) (c ∷ []) ps) (append_assoc xs ys after) inner
    ∙ ap (λ ps. attach ends (c ∷ []) (ps ++ rest)) front.2
    ∙ attach-append ends (c ∷ []) front.0 front.1 rest
    ∙ ap (λ ps. attach ends (c ∷ []) ps ++ rest) (sym front.2)

-- the piece between two places where one ends, and none between
pub unit_between : (rule : Rule) (xs ps ys : List ℕ) (at : ℕ) → (0 < length xs → rule (onto xs []) (ps ++ ys) ≡ true)
    → rule (onto ps (onto xs [])) ys ≡ true → cut rule (onto xs []) ps ys ≡ ps ∷ [] → length xs ≤ at
    → at < length xs + length ps → IsUnitAt (cut rule [] (xs ++ (ps ++ ys)) []) at (length xs) (length xs + length ps)
unit_between rule xs ps ys at first last one from upto =
    let front = cut rule [] xs (ps ++ ys) in
    let back = cut rule (onto ps (onto xs [])) ys [] in
    let outer : cut rule [] (xs ++ (ps ++ ys)) [] ≡ cut rule [] xs ((ps ++ ys) ++ []) ++ cut rule (onto xs []) (ps ++ ys) [] =
    cut-seam rule [] xs (ps ++ ys) [] (λ some. ap (rule (onto xs [])) (append-nil (ps ++ ys)) ∙ first some) in
    let inner : cut rule (onto xs []) (ps ++ ys) [] ≡ cut rule (onto xs []) ps (ys ++ []) ++ back =
    cut-seam rule (onto xs []) ps ys [] (λ some. ap (rule (onto ps (onto xs []))) (append-nil ys) ∙ last) in
    record {
      before = front;
      piece = ps;
      behind = back;
      cut =
          outer ∙ ap₂ ◌++◌ (ap (cut rule [] xs) (append-nil (ps ++ ys)))
          (inner ∙ ap (λ l. l ++ back) (ap (cut rule (onto xs []) ps) (append-nil ys) ∙ one));
      starts = ap length (sym (concat-cut rule [] xs (ps ++ ys)));
      ends = refl;
      from = from;
      upto = upto;
    }

-- a character by itself, where pieces end everywhere
pub cut-single : (rule : Rule) (before : List ℕ) (c : ℕ) (after : List ℕ) → cut rule before (c ∷ []) after ≡ (c ∷ []) ∷ []
unfolding cut
cut-single rule before c after = attach-nil (rule (c ∷ before) after) (c ∷ [])

-- two pieces that hold one character are one
same_piece : (n at : ℕ) (fs gs : List (List ℕ)) (p q : List ℕ) (hs ks : List (List ℕ)) → fs ++ p ∷ hs ≡ gs ++ q ∷ ks
    → n + length (concat fs) ≤ at → at < n + length (concat fs) + length p
    → n + length (concat gs) ≤ at → at < n + length (concat gs) + length q
    → (length (concat fs) ≡ length (concat gs)) × (length p ≡ length q)
same_piece n at [] [] p q hs ks e a b c d = let same : p ≡ q = cc in (refl, ap length same)
same_piece n at [] (g ∷ gs) p q hs ks e a b c d =
    let same : p ≡ g = cc in absurd (omega (arith, ap length same, length-append g (concat gs)))
same_piece n at (f ∷ fs) [] p q hs ks e a b c d =
    let same : f ≡ q = cc in absurd (omega (arith, ap length same, length-append f (concat fs)))
same_piece n at (f ∷ fs) (g ∷ gs) p q hs ks e a b c d =
    let same : f ≡ g = cc in
    let rest : fs ++ p ∷ hs ≡ gs ++ q ∷ ks = cc in
    let l = ap length same in
    let lf = length-append f (concat fs) in
    let lg = length-append g (concat gs) in
    let inner = same_piece (n + length f) at fs gs p q hs ks rest (omega arith) (omega arith) (omega arith) (omega arith) in
    (omega (arith, inner.0), inner.1)

pub one_unit : (pieces : List (List ℕ)) (at start end other far : ℕ) → IsUnitAt pieces at start end → IsUnitAt pieces at other far
    → (start ≡ other) × (end ≡ far)
one_unit pieces at start end other far u v =
    let same = same_piece 0 at u.before v.before u.piece v.piece u.behind v.behind (sym u.cut ∙ v.cut)
    (omega (arith, u.from, u.starts)) (omega (arith, u.upto, u.starts, u.ends))
    (omega (arith, v.from, v.starts)) (omega (arith, v.upto, v.starts, v.ends)) in
    (omega (arith, u.starts, v.starts, same.0), omega (arith, u.starts, v.starts, u.ends, v.ends, same.0, same.1))

-- a piece ends within what the pieces are joined
pub unit_within : (pieces : List (List ℕ)) (at start end : ℕ) → IsUnitAt pieces at start end → end ≤ length (concat pieces)
unit_within pieces at start end u =
    omega (arith, u.starts, u.ends, ap length (ap concat u.cut ∙ concat-append u.before (u.piece ∷ u.behind)), length-append (concat u.before) (u.piece ++ concat u.behind), length-append u.piece (concat u.behind))

-- a unit ends within its text
pub unit_ends : (unit : Grain) (text : List ℕ) (at start end : ℕ) → IsUnitAt (units unit text) at start end → end ≤ length text
unit_ends unit text at start end u =
    omega (arith, unit_within (units unit text) at start end u, ap length (concat-cut (ends_unit unit) [] text []))
