-- Two texts are the same where their characters are.
use Rattle.std.proofs.Common.{◌≡◌, ℕ, Bool, true, false, List, refl, sym, ap, ◌∙◌, chars, IsUtf8}
use Rattle.std.specs.Prelude.{bytes_eq, encode_utf8_all}
use Rattle.std.proofs.lemmas.Slice.Eq.{bytes_eq-Decides}
use Rattle.std.proofs.lemmas.Str.{encodes-chars}

pub same_text : (a b cs : List ℕ) → IsUtf8 a → IsUtf8 b → chars a ≡ cs → bytes_eq a b ≡ bytes_eq cs (chars b)
same_text a b cs u v e = by (bytes_eq a b) refl (bytes_eq cs (chars b)) refl
  where
    by : (s : Bool) → bytes_eq a b ≡ s → (t : Bool) → bytes_eq cs (chars b) ≡ t → s ≡ t
    by true p true q = refl
    by false p false q = refl
    by true p false q = let z = (bytes_eq-Decides cs (chars b)).1 (sym e ∙ ap chars ((bytes_eq-Decides a b).0 p)) in absurd cc
    by false p true q =
        let z = (bytes_eq-Decides a b).1 (sym (encodes-chars a u) ∙ ap encode_utf8_all (e ∙ (bytes_eq-Decides cs (chars b)).0 q) ∙ encodes-chars b v) in absurd cc
