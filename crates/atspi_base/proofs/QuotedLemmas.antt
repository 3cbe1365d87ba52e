-- Bytes that are written between quotes piece by piece.
use Rattle.std.proofs.Common.{◌≡◌, ℕ, ◌+◌, ◌-◌, ◌<◌, List, ◌++◌, length, get_or, take, drop, sym, ap, ◌∙◌, append_assoc, arith}
use Rattle.std.proofs.lemmas.Grind.{flat_map-append}
use Rattle.std.proofs.lemmas.List.{take_more, flat_map_more}
use Rattle.std.proofs.Math.Seq.{take-add}
use Rattle.std.specs.List.{flat_map}
use Rattle.atspi_base.specs.Quoted.{escaped}

-- a run that stands as it is
run_at : (bytes out before : List ℕ) (at n : ℕ) → flat_map escaped (take n (drop at bytes)) ≡ take n (drop at bytes) → out ≡ before ++ flat_map escaped (take at bytes) → out ++ take n (drop at bytes) ≡ before ++ flat_map escaped (take (at + n) bytes)
run_at bytes out before at n plain e =
    let run = take n (drop at bytes) in
    let all : flat_map escaped (take (at + n) bytes) ≡ flat_map escaped (take at bytes) ++ run =
    ap (flat_map escaped) (take-add at n bytes) ∙ flat_map-append escaped (take at bytes) run ∙ ap (λ w. flat_map escaped (take at bytes) ++ w) plain
    in
    ap (λ w. w ++ run) e ∙ append_assoc before (flat_map escaped (take at bytes)) run ∙ sym (ap (λ w. before ++ w) all)

-- the same, where the run is cut out of the bytes and appended
pub run_written : (bytes out new before : List ℕ) (at n : ℕ) → flat_map escaped (take n (drop at bytes)) ≡ take n (drop at bytes) → new ≡ out ++ take (at + n - at) (drop at bytes) → out ≡ before ++ flat_map escaped (take at bytes) → new ≡ before ++ flat_map escaped (take (at + n) bytes)
run_written bytes out new before at n plain appended e =
    let len : at + n - at ≡ n = omega arith in
    appended ∙ ap (λ m. out ++ take m (drop at bytes)) len ∙ run_at bytes out before at n plain e

-- a byte behind it
pub byte_written : (bytes out new before : List ℕ) (at : ℕ) → at < length bytes → new ≡ out ++ escaped (get_or bytes at 0) → out ≡ before ++ flat_map escaped (take at bytes) → new ≡ before ++ flat_map escaped (take (at + 1) bytes)
byte_written bytes out new before at h appended e =
    appended
    ∙ ap (λ w. w ++ escaped (get_or bytes at 0)) e
    ∙ flat_map_more escaped before (take at bytes) (get_or bytes at 0)
    ∙ sym (ap (λ w. before ++ flat_map escaped w) (take_more bytes at 0 h))
