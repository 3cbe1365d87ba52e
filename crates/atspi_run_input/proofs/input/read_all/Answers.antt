use Rattle.std.proofs.Common.{rules, arith, sym, ap, ◌∙◌, ◌≡◌, ◌<◌, ◌≤◌, ◌-◌, ℕ, List, ◌++◌, length, take, drop, append_assoc, length-take, length-drop}
use Rattle.std.proofs.lemmas.List.{take-append-drop, take-take}
use Rattle.atspi_base.specs.Outside.{consumes_both}
use Rattle.atspi_run_input.proofs.input.read_all.Goals as goal

cut : (text chunk : List ℕ) (n room : ℕ) → room ≤ n → (text ++ take room chunk) ++ drop room (take n chunk) ≡ text ++ take n chunk
cut text chunk n room h =
    append_assoc text (take room chunk) _
    ∙ ap (λ w. text ++ w) (ap (λ w. w ++ drop room (take n chunk)) (sym (take-take room n chunk h)) ∙ take-append-drop room (take n chunk))

some : (chunk : List ℕ) (n room : ℕ) → room < n → n ≤ length chunk → 0 < length (drop room (take n chunk))
some chunk n room h k = omega (arith, length-drop room (take n chunk), length-take n chunk)

pub returns-then-n-room-clause-read : goal.returns-then-n-room-clause-read
returns-then-n-room-clause-read g c =
    let chunk = c.read.new.into in
    let n = c.in-Ok.n in
    let room = 16777216 - c.len-room.result in (
      search rules,
      (
        drop room (take n chunk),
        some chunk n room (omega arith) (search rules),
        rw (c.in_ok-extend_from_slice.ensures.items, cut c.loop-n.text.items chunk n room (omega arith))
            (consumes_both _ _ _ _ _ c.loop-n.invariant.read c.in-Ok.ensures.bytes.0),
      ),
    )
