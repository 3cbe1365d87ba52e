-- What is left of bytes behind a first byte that was told, and behind a byte in quotes.
use Rattle.std.proofs.Common.{◌≡◌, ℕ, ◌+◌, ◌-◌, ◌<◌, List, [], ◌∷◌, ◌++◌, length, get_or, take, drop, sym, ap, ◌∙◌, arith, append_assoc}
use Rattle.std.proofs.lemmas.List.{append-nil, drop-drop, take_all}
use Rattle.std.proofs.lemmas.Grind.{flat_map-append}
use Rattle.std.specs.List.{flat_map}
use Rattle.atspi_base.specs.Quoted.{escaped}
use Rattle.atspi_script_lines.specs.inner.Reading.{StartsEscaped}

-- bytes that begin with x
pub cut_front : (word : List ℕ) (x : ℕ) → 0 < length word → get_or word 0 0 ≡ x → word ≡ x ∷ take (length word - 1) (drop 1 word)
cut_front [] x some e = absurd (omega (arith, some))
cut_front (b ∷ word) x some e = ap (λ c. c ∷ word) e ∙ ap (λ l. x ∷ l) (sym (take_all (length (b ∷ word) - 1) word (omega arith)))

-- a byte in quotes is read
pub byte_read : (inner out new : List ℕ) (at byte len : ℕ) → inner ≡ flat_map escaped out ++ drop at inner → StartsEscaped (drop at inner) byte len
    → new ≡ out ++ byte ∷ [] → inner ≡ flat_map escaped new ++ drop (at + len) inner
byte_read inner out new at byte len e s g =
    let more = drop len (drop at inner) in
    let read : flat_map escaped new ≡ flat_map escaped out ++ escaped byte =
    ap (flat_map escaped) g ∙ flat_map-append escaped out (byte ∷ []) ∙ ap (λ l. flat_map escaped out ++ l) (append-nil (escaped byte)) in
    e
    ∙ ap (λ l. flat_map escaped out ++ l) s.front
    ∙ sym (append_assoc (flat_map escaped out) (escaped byte) more)
    ∙ ap (λ l. l ++ more) (sym read)
    ∙ ap (λ l. flat_map escaped new ++ l) (drop-drop len at inner)
