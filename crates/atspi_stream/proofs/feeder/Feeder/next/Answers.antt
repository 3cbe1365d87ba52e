use Rattle.std.proofs.Common.{◌≡◌, ◌+◌, ℕ, List, drop, refl, subst, sym, ap, ◌∙◌}
use Rattle.std.proofs.lemmas.List.{drop-drop, take_rest}
use Rattle.atspi_marshal.proofs.Places.{IsBytes}
use Rattle.atspi_stream.specs.declared.feeder.Got.{Got}
use Rattle.atspi_stream.specs.Stream.{Leaves}
use Rattle.atspi_stream.specs.inner.Seen.{Sees}
use Rattle.atspi_stream.proofs.NextLaws.{only, not_yet, waits, bad, told, leaves}
use Rattle.atspi_stream.proofs.feeder.Feeder.next.Goals as goal

seen_is : (r : Got × ℕ) (held view : List ℕ) → held ≡ view → Sees r held → Sees r view
seen_is r held view e s = subst (λ (bs : List ℕ). Sees r bs) e s

bytes_are : (held view : List ℕ) → held ≡ view → IsBytes held → IsBytes view
bytes_are held view e h = subst IsBytes e h

left_is : (items view : List ℕ) (start n : ℕ) → drop start items ≡ view → drop n view ≡ drop (start + n) items
left_is items view start n v = ap (λ (bs : List ℕ). drop n bs) (sym v) ∙ drop-drop n start items

pub returns : goal.returns
returns c =
    let held = c.args.self.now in
    let r = c.look-length.result in
    let v = take_rest c.deref.result.now c.self.inside.start ∙ ap (λ (bs : List ℕ). drop c.self.inside.start bs) c.deref.ensures.value ∙ c.self.view_is in
    let s = seen_is r _ held v c.look-length.ensures.seen in
    let b = bytes_are _ held v c.look-length.ensures.bytes in
    let left = subst (λ (bs : List ℕ). Leaves r.0 held bs) (left_is c.self.inside.bytes.items held c.self.inside.start r.1 c.self.view_is) (leaves r held s) in (
      (refl, (λ _. tt), left),
      record {
        only = λ e bytes rest is front. only r held b s e bytes rest is front;
        not_yet = not_yet r held s;
        waits = λ w. waits r held b s w;
        bad = bad r held s;
        told = λ place reason f. told r held b s place reason f;
        left = tt;
      },
    )
