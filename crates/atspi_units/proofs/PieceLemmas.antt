-- The piece that holds a character, as a value.
use Rattle.std.proofs.Common.{◌≡◌, ℕ, ◌+◌, ◌-◌, ◌<◌, ◌≤◌, cond, List, [], ◌∷◌, ◌++◌, length, take, drop, Some, None, refl, sym, ap, ap₂, ◌∙◌, arith, length-append}
use Rattle.std.proofs.lemmas.Bool.{lt-ltb, le-ltb}
use Rattle.std.proofs.lemmas.List.{take_at, drop_at}
use Rattle.std.proofs.lemmas.List.Folds.{concat-append}
use Rattle.std.specs.List.{concat}
use Rattle.atspi_units.specs.Pieces.{Piece, piece_from, piece_at}
use Rattle.atspi_units.specs.Units.{IsUnitAt}

abbrev piece : List ℕ → ℕ → ℕ → Piece
piece cs s e = record { characters = cs; start = s; end = e }

same_piece : (p : List ℕ) (a b c d : ℕ) → a ≡ b → c ≡ d
    → Some (piece p a c) ≡ Some (piece p b d)
same_piece p a b c d e f = ap₂ (λ x y. Some (piece p x y)) e f

among : (n : ℕ) (fs : List (List ℕ)) (p : List ℕ) (hs : List (List ℕ)) (at : ℕ) → n + length (concat fs) ≤ at
    → at < n + length (concat fs) + length p
    → piece_from n (fs ++ p ∷ hs) at
    ≡ Some (piece p (n + length (concat fs)) (n + length (concat fs) + length p))
among n [] p hs at low high =
    ap (λ b. cond b (Some (piece p n (n + length p))) (piece_from (n + length p) hs at))
    (lt-ltb at (n + length p) (omega (arith, high)))
    ∙ same_piece p n (n + 0) (n + length p) (n + 0 + length p) (omega arith) (omega arith)
among n (f ∷ fs) p hs at low high =
    let l = length-append f (concat fs) in
    ap (λ b. cond b (Some (piece f n (n + length f))) (piece_from (n + length f) (fs ++ p ∷ hs) at))
    (le-ltb at (n + length f) (omega (arith, low, l)))
    ∙ among (n + length f) fs p hs at (omega (arith, low, l)) (omega (arith, high, l))
    ∙ same_piece p (n + length f + length (concat fs)) (n + length (f ++ concat fs)) (n + length f + length (concat fs) + length p) (n + length (f ++ concat fs) + length p)
    (omega (arith, l)) (omega (arith, l))

behind_all : (n : ℕ) (ps : List (List ℕ)) (at : ℕ) → n + length (concat ps) ≤ at → piece_from n ps at ≡ None
behind_all n [] at le = refl
behind_all n (p ∷ ps) at le =
    let l = length-append p (concat ps) in
    ap (λ b. cond b (Some (piece p n (n + length p))) (piece_from (n + length p) ps at))
    (le-ltb at (n + length p) (omega (arith, le, l)))
    ∙ behind_all (n + length p) ps at (omega (arith, le, l))

pub piece_none : (pieces : List (List ℕ)) (at : ℕ) → length (concat pieces) ≤ at → piece_at pieces at ≡ None
piece_none pieces at le = behind_all 0 pieces at (omega (arith, le))

pub piece_held : (pieces : List (List ℕ)) (at start end : ℕ) → IsUnitAt pieces at start end → piece_at pieces at
    ≡ Some (piece (take (end - start) (drop start (concat pieces))) start end)
piece_held pieces at start end u =
    let joined : concat pieces ≡ concat u.before ++ (u.piece ++ concat u.behind) = ap concat u.cut ∙ concat-append u.before (u.piece ∷ u.behind) in
    let dropped : drop start (concat pieces) ≡ u.piece ++ concat u.behind = ap (drop start) joined ∙ drop_at (concat u.before) (u.piece ++ concat u.behind) start (sym u.starts) in
    let taken : take (end - start) (drop start (concat pieces)) ≡ u.piece =
    ap (take (end - start)) dropped ∙ take_at u.piece (concat u.behind) (end - start) (omega (arith, u.ends)) in
    ap (λ ps. piece_at ps at) u.cut
    ∙ among 0 u.before u.piece u.behind at (omega (arith, u.from, u.starts)) (omega (arith, u.upto, u.starts, u.ends))
    ∙ same_piece u.piece (0 + length (concat u.before)) start (0 + length (concat u.before) + length u.piece) end (omega (arith, u.starts)) (omega (arith, u.starts, u.ends))
    ∙ ap (λ p. Some (piece p start end)) (sym taken)
