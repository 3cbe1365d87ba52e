-- Marks at the end of room for 64.
use Rattle.std.proofs.Common.{◌≡◌, ℕ, ◌+◌, ◌-◌, ◌<◌, ◌≤◌, List, [], ◌∷◌, Some, length, drop, refl, sym, ap, ◌∙◌, arith}
use Rattle.std.specs.Prelude.{slice_set}
use Rattle.std.proofs.lemmas.List.{drop-set, length-drop, drop-drop}
use Rattle.std.proofs.Math.ListN.{length-set}
use Rattle.atspi_marshal_in_place.specs.declared.codes.marks.Mark.{Mark}
use Rattle.atspi_marshal_in_place.specs.declared.codes.marks.Mark.TheVariants as marks
use Rattle.atspi_marshal_in_place.specs.codes.inner.Marks.{innermost, arrays_in, structs_in, typed, AreCounted}

-- each mark is an array or a struct
pub counts : (ms : List Mark) → arrays_in ms + structs_in ms ≡ length ms
counts [] = refl
counts (marks.Array ∷ ms) = omega (arith, counts ms)
counts (marks.Struct ∷ ms) = omega (arith, counts ms)
counts (marks.Fields ∷ ms) = omega (arith, counts ms)
counts (marks.Entry ∷ ms) = omega (arith, counts ms)
counts (marks.Key ∷ ms) = omega (arith, counts ms)
counts (marks.Both ∷ ms) = omega (arith, counts ms)

pub room_left : (room : List Mark) (top a s : ℕ) → AreCounted room top a s → a + s < 64 → 1 ≤ top
room_left room top a s h few = omega (arith, counts (drop top room), length-drop top room, h.whole, h.within, h.arrays_are, h.structs_are)

-- one mark more
pub pushed : (room : List Mark) (top : ℕ) (m : Mark) → 1 ≤ top → top ≤ length room → drop (top - 1) (slice_set room (top - 1) m) ≡ m ∷ drop top room
pushed room top m some le =
    let next : top - 1 + 1 ≡ top = omega arith in
    drop-set room (top - 1) m (omega arith) ∙ ap (λ n. m ∷ drop n room) next

pub array_pushed : (room : List Mark) (top a s : ℕ) → AreCounted room top a s → a < 32 → AreCounted (slice_set room (top - 1) marks.Array) (top - 1) (a + 1) s
array_pushed room top a s h few =
    let some = room_left room top a s h (omega (arith, few, h.few_structs)) in
    let more = pushed room top marks.Array some (omega (arith, h.whole, h.within)) in
    record {
      whole = length-set room (top - 1) marks.Array ∙ h.whole;
      within = omega (arith, h.within);
      arrays_are = ap (λ n. n + 1) h.arrays_are ∙ sym (ap arrays_in more);
      structs_are = h.structs_are ∙ sym (ap structs_in more);
      few_arrays = omega (arith, few);
      few_structs = h.few_structs;
    }

pub struct_pushed : (room : List Mark) (top a s : ℕ) → AreCounted room top a s → s < 32 → AreCounted (slice_set room (top - 1) marks.Struct) (top - 1) a (s + 1)
struct_pushed room top a s h few =
    let some = room_left room top a s h (omega (arith, few, h.few_arrays)) in
    let more = pushed room top marks.Struct some (omega (arith, h.whole, h.within)) in
    record {
      whole = length-set room (top - 1) marks.Struct ∙ h.whole;
      within = omega (arith, h.within);
      arrays_are = h.arrays_are ∙ sym (ap arrays_in more);
      structs_are = ap (λ n. n + 1) h.structs_are ∙ sym (ap structs_in more);
      few_arrays = h.few_arrays;
      few_structs = omega (arith, few);
    }

-- another mark in the place of the innermost
pub innermost_is : (ms : List Mark) (x : Mark) → innermost ms ≡ Some x → ms ≡ x ∷ drop 1 ms
innermost_is [] x e = absurd cc
innermost_is (m ∷ ms) x e = cc

some_marks : (room : List Mark) (top : ℕ) (x : Mark) → innermost (drop top room) ≡ Some x → top < length room
some_marks room top x e = omega (arith, ap length (innermost_is (drop top room) x e), length-drop top room)

pub set_mark : (room : List Mark) (top : ℕ) (x m : Mark) → innermost (drop top room) ≡ Some x → drop top (slice_set room top m) ≡ m ∷ drop 1 (drop top room)
set_mark room top x m e = drop-set room top m (some_marks room top x e) ∙ ap (λ ms. m ∷ ms) (behind room top)
  where
    behind : (room : List Mark) (top : ℕ) → drop (top + 1) room ≡ drop 1 (drop top room)
    behind room top = sym (drop-drop 1 top room) ∙ refl

-- of the same sort
abbrev pub SameSort : Mark → Mark → Type 0
SameSort x m = (rest : List Mark) → (arrays_in (x ∷ rest) ≡ arrays_in (m ∷ rest)) × (structs_in (x ∷ rest) ≡ structs_in (m ∷ rest))

pub still_counted : (room : List Mark) (top a s : ℕ) (x m : Mark) → AreCounted room top a s → innermost (drop top room) ≡ Some x → SameSort x m → AreCounted (slice_set room top m) top a s
still_counted room top a s x m h e same =
    let old = innermost_is (drop top room) x e in
    let new = set_mark room top x m e in
    let counts = same (drop 1 (drop top room)) in
    record {
      whole = length-set room top m ∙ h.whole;
      within = h.within;
      arrays_are = h.arrays_are ∙ (ap arrays_in old ∙ (counts.0 ∙ sym (ap arrays_in new)));
      structs_are = h.structs_are ∙ (ap structs_in old ∙ (counts.1 ∙ sym (ap structs_in new)));
      few_arrays = h.few_arrays;
      few_structs = h.few_structs;
    }

pub now_typed : (room now : List Mark) (top : ℕ) (x m : Mark) → drop top room ≡ now → innermost now ≡ Some x → ((rest : List Mark) → typed (x ∷ rest) ≡ m ∷ rest) → drop top (slice_set room top m) ≡ typed now
now_typed room now top x m is e step =
    let here : innermost (drop top room) ≡ Some x = ap innermost is ∙ e in
    set_mark room top x m here ∙ (ap (λ ms. m ∷ drop 1 ms) is ∙ (sym (step (drop 1 now)) ∙ sym (ap typed (innermost_is now x e))))
