-- What lies at an end is a part of the first message of its down link: it begins with no whole message.
use Rattle.std.proofs.Common.{◌≡◌, ℕ, ◌<◌, List, [], ◌∷◌, ◌++◌, length, take, drop, Some, refl, sym, ap, ◌∙◌, subst, append_assoc, arith}
use Rattle.std.specs.Prelude.{slice_get}
use Rattle.std.specs.Option.{option_map}
use Rattle.std.specs.List.{AllByRecursion}
use Rattle.std.proofs.Math.Seq.{take-nil}
use Rattle.std.proofs.lemmas.List.{length-append, length-take-le, take-append-le, take-append-drop}
use Rattle.std.proofs.lemmas.Option.{same_Some}
use Rattle.atspi_message.specs.Envelope.{Envelope}
use Rattle.atspi_message.specs.Bytes.{IsMessage, written}
use Rattle.atspi_message.specs.Front.{length_in}
use Rattle.atspi_stream.proofs.StreamLaws.{Stated, message_states}
use Rattle.atspi_trace.specs.World.{Letter, End, World}
use Rattle.atspi_trace.specs.Ends.{end_at}
use Rattle.atspi_bus_laws.specs.handed.Handing.{IsLetter, AreLetters}
use Rattle.atspi_world_moves.specs.Downs.{bytes_down, IsBegun}
use Rattle.atspi_world_moves.specs.Linked.{given_of, IsLinked}
use Rattle.atspi_world_links.proofs.Changes.{get-map}
use Rattle.atspi_world_moves.proofs.Downs.{begun_within}
use Rattle.atspi_world_moves.proofs.Ties.{all_at}
use Rattle.atspi_world_moves.proofs.Views.{empty_message}

-- a part of a message begins with none: what it states is as long as the whole
part_begins_none : (m x : Envelope) (h more rest : List ℕ) (n : ℕ) → IsMessage m (written m) → h ++ more ≡ written m ++ rest → length h < length (written m) → IsMessage x (take n h) → ⊥
part_begins_none m x h more rest n is all less begins =
    let b = take n h in
    let s : Stated (written m) = message_states m (written m) is in
    let t : Stated b = message_states x b begins in
    let parted : b ++ (drop n h ++ more) ≡ written m ++ rest = sym (append_assoc b (drop n h) more) ∙ ap (λ l. l ++ more) (take-append-drop n h) ∙ all in
    let front : take 16 b ≡ take 16 (written m) = sym (take-append-le 16 b (drop n h ++ more) t.long) ∙ ap (take 16) parted ∙ take-append-le 16 (written m) rest s.long in
    let same : length b ≡ length (written m) = sym t.whole ∙ ap length_in front ∙ s.whole in
    let sum : length h ≡ length (b ++ drop n h) = ap length (sym (take-append-drop n h)) in
    omega (arith, same, sum, length-append b (drop n h), less)

-- WHAT LIES AT AN END
pub none_whole : (w : World) (given : List (List ℕ)) (conn : ℕ) (e : End) (h : List ℕ) (m : Envelope) (n : ℕ) → IsLinked w given → end_at w.ends conn ≡ Some e → slice_get given conn ≡ Some h → IsMessage m (take n h) → ⊥
none_whole w given conn e h m n is at lies begins = by e.down refl
  where
    there : h ≡ given_of e
    there = same_Some h (given_of e) (sym lies ∙ ap (λ l. slice_get l conn) is.given_are ∙ get-map given_of w.ends conn ∙ ap (option_map given_of) at)

    by : (letters : List Letter) → e.down ≡ letters → ⊥
    by [] link = empty_message m n h (there ∙ ap (λ l. take e.down_moved (bytes_down l)) link ∙ take-nil e.down_moved) begins
    by (letter ∷ rest) link =
        let waiting = is.wait conn e at in
        let first = letter.said.message in
        let begun : e.down_moved < length (written first) = subst (IsBegun e.down_moved) link waiting.begun in
        let short : length h ≡ e.down_moved = ap length there ∙ length-take-le e.down_moved (bytes_down e.down) (begun_within e.down_moved e.down waiting.begun) in
        let all : h ++ drop e.down_moved (bytes_down e.down) ≡ written first ++ bytes_down rest =
        ap (λ l. l ++ drop e.down_moved (bytes_down e.down)) there ∙ take-append-drop e.down_moved (bytes_down e.down) ∙ ap bytes_down link in
        let spelled : IsMessage first (written first) = (subst (AllByRecursion IsLetter) link (all_at AreLetters w.ends conn e is.hands.letters at)).0 in
        part_begins_none first m h (drop e.down_moved (bytes_down e.down)) (bytes_down rest) n spelled all (omega (arith, short, begun)) begins
