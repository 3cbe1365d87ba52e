use Rattle.std.proofs.Common.{◌≡◌, ℕ, List, Result, Ok, Err, IfOk, sym, ap, ◌∙◌, string_bytes, String, encode_utf8_all, take, drop, chars}
use Rattle.std.proofs.lemmas.Iterator.{YieldsList-from_chars, YieldsList-from_take, text_from_collect}
use Rattle.std.proofs.lemmas.Iterator.Adapters.{YieldsList-from_skip}
use Rattle.atspi_tree_edits.proofs.cuts.characters.Goals as goal

at_ok : {Z E : Type 0} (r : Result (String Z) E) (s : String Z) (bytes : List ℕ) → r ≡ Ok s → IfOk r (λ s. string_bytes s ≡ bytes) → string_bytes s ≡ bytes
at_ok (Ok x) s bytes e h = let same : x ≡ s = cc in sym (ap string_bytes same) ∙ h
at_ok (Err x) s bytes e h = cc

pub returns : goal.returns
returns c =
    at_ok c.collect.result c.in_ok-part.part (encode_utf8_all (take c.args.count (drop c.args.from (chars c.args.text.now)))) c.in_ok-part.was
    (text_from_collect c.collect.result c.collect.ensures.ran
    (YieldsList-from_take c.args.count (YieldsList-from_skip c.args.from (YieldsList-from_chars c.args.text.now c.utf8.text (cc)) (cc)) (cc)))
