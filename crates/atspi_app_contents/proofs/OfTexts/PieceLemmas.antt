-- A piece that a window of a text tells is one of the text.
use Rattle.std.proofs.Common.{◌≡◌, ℕ, ℤ, ◌+◌, ◌-◌, ◌<◌, ◌≤◌, ◌==◌, Bool, true, false, cond, List, [], ◌++◌, Option, None, Some, length, take, drop, refl, sym, ap, ap₂, subst, ◌∙◌, arith}
use Rattle.std.specs.Prelude.{pos, negsuc, nat_lt}
use Rattle.std.proofs.lemmas.Bool.{ltb-false, eqb-true}
use Rattle.std.proofs.lemmas.List.{take-append-drop, drop-drop, drop_all, length-take-le}
use Rattle.atspi_units.specs.Units.{ends_unit, units, IsUnitAt}
use Rattle.atspi_units.specs.Windows.{IsUnitWithin}
use Rattle.atspi_units.specs.declared.grain.Grain.{Grain}
use Rattle.atspi_units.specs.declared.window.Reaches.{Reaches}
use Rattle.atspi_units.proofs.CutLemmas.{concat-cut}
use Rattle.atspi_units.proofs.PieceLemmas.{piece_held, piece_none}
use Rattle.atspi_tree_model.specs.declared.contents.FaceKind.{FaceKind}
use Rattle.atspi_tree_model.specs.declared.contents.FaceKind.TheVariants.{Chars as chars_kind}
use Rattle.atspi_faces.specs.face.Nodes.{Nodes, AreContents, part_at}
use Rattle.atspi_protocol.specs.objects.Texts.{piece_there, piece_data}
use Rattle.atspi_app_contents.specs.texts.Texts.{text_at}
use Rattle.atspi_app_contents.specs.texts.inner.Places.{place_in}
use Rattle.atspi_app_contents.proofs.OfTexts.TextLemmas.{part_is}

-- the window between two places, with what stands before it and behind it
parts : (cs window : List ℕ) (from to : ℕ) → window ≡ take (to - from) (drop from cs) → from ≤ to → take from cs ++ (window ++ drop to cs) ≡ cs
parts cs window from to e le =
    let past : drop (to - from) (drop from cs) ≡ drop to cs = drop-drop (to - from) from cs ∙ ap (λ n. drop n cs) (let f : from + (to - from) ≡ to = omega (arith, le) in f) in
    ap₂ (λ w r. take from cs ++ (w ++ r)) e (sym past)
    ∙ ap (λ l. take from cs ++ l) (take-append-drop (to - from) (drop from cs)) ∙ take-append-drop from cs

pub held_in_window : (unit : Grain) (cs window : List ℕ) (reaches : Reaches) (from to at start end : ℕ) → window ≡ take (to - from) (drop from cs)
    → from ≤ at → from ≤ to → to ≤ length cs → (reaches.start ≡ true → from ≡ 0) → (reaches.end ≡ true → to ≡ length cs)
    → IsUnitWithin unit window reaches (at - from) start end → IsUnitAt (units unit cs) at (from + start) (from + end)
held_in_window unit cs window reaches from to at start end e low le high first last h =
    let front = take from cs in
    let count : length front ≡ from = length-take-le from cs (omega (arith, le, high)) in
    let none_before : reaches.start ≡ true → front ≡ [] = λ r. ap (λ n. take n cs) (first r) in
    let none_behind : reaches.end ≡ true → drop to cs ≡ [] = λ r. drop_all to cs (omega (arith, last r)) in
    let is = h front (drop to cs) none_before none_behind in
    moved unit (front ++ (window ++ drop to cs)) cs (parts cs window from to e le) (length front + (at - from)) at (length front + start) (from + start) (length front + end) (from + end)
    (omega (arith, count, low)) (omega (arith, count)) (omega (arith, count)) is
  where
    moved : (unit : Grain) (text same : List ℕ) → text ≡ same → (x a y b z c : ℕ) → x ≡ a → y ≡ b → z ≡ c → IsUnitAt (units unit text) x y z → IsUnitAt (units unit same) a b c
    moved unit text same t x a y b z c p q r u =
        subst (λ k. IsUnitAt (units unit k) a b c) t
        (subst (λ k. IsUnitAt (units unit text) a b k) r (subst (λ k. IsUnitAt (units unit text) a k z) q (subst (λ k. IsUnitAt (units unit text) k y z) p u)))

-- the same of the part of a node's text between two places
pub near : (kind : FaceKind) (is : kind ≡ chars_kind) (texts : Nodes) (kept : AreContents kind texts) (n : ℕ) (unit : Grain)
    (window : List ℕ) (from to count at start end : ℕ)
    → window ≡ part_at texts n from to → count ≡ length (text_at texts n).characters → from ≤ at → at < to → to ≤ count
    → IsUnitWithin unit window (record { start = from == 0; end = to == count }) (at - from) start end
    → IsUnitAt (units unit (text_at texts n).characters) at (from + start) (from + end)
near kind is texts kept n unit window from to count at start end e whole low high within h =
    held_in_window unit (text_at texts n).characters window (record { start = from == 0; end = to == count }) from to at
    start end (e ∙ part_is kind is texts kept n from to) low (omega (arith, low, high)) (omega (arith, whole, within))
    (eqb-true from 0) (λ r. eqb-true to count r ∙ whole) h

-- what is told of a piece that holds a character
pub told_piece : (unit : Grain) (cs : List ℕ) (at start end : ℕ) → IsUnitAt (units unit cs) at start end
    → piece_data (piece_there (Some unit) cs (pos at)) ≡ piece_data (Some (record { characters = take (end - start) (drop start cs); start = start; end = end }))
told_piece unit cs at start end u =
    ap piece_data (piece_held (units unit cs) at start end u)
    ∙ ap (λ l. piece_data (Some (record { characters = take (end - start) (drop start l); start = start; end = end }))) (concat-cut (ends_unit unit) [] cs [])

-- and where there is no such character
pub told_none : (unit : Option Grain) (cs : List ℕ) (place : ℤ) → place_in place (length cs) ≡ None → piece_there unit cs place ≡ None
told_none None cs place e = refl
told_none (Some unit) cs (negsuc n) e = refl
told_none (Some unit) cs (pos n) e = by (nat_lt n (length cs)) refl e
  where
    by : (b : Bool) → nat_lt n (length cs) ≡ b → cond b (Some n) None ≡ None → piece_there (Some unit) cs (pos n) ≡ None
    by true t e = absurd cc
    by false t e = piece_none (units unit cs) n (omega (arith, ap length (concat-cut (ends_unit unit) [] cs []), ltb-false n (length cs) t))

pub place_is : (place : ℤ) (count at : ℕ) → place_in place count ≡ Some at → place ≡ pos at
place_is (negsuc n) count at e = absurd cc
place_is (pos n) count at e = by (nat_lt n count) e
  where
    by : (b : Bool) → cond b (Some n) None ≡ Some at → pos n ≡ pos at
    by true e = cc
    by false e = absurd cc
