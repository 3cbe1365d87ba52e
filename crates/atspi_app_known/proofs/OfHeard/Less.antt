-- A list without the pairs that are one which is not heard is the list itself.
use Rattle.std.proofs.Common.{◌≡◌, ℕ, Bool, true, false, List, [], ◌∷◌, refl, sym, ap}
use Rattle.std.specs.Prelude.{filter, not}
use Rattle.std.specs.List.{list_any}
use Rattle.std.proofs.lemmas.Bool.{or_parts}
use Rattle.atspi_protocol.specs.exporting.Hearing.{is_pair, is_heard, one_less}

none_filtered : (heard : List (List ℕ × List ℕ)) (p : List ℕ × List ℕ) → list_any (is_pair p) heard ≡ false
    → filter (λ q. not (is_pair p q)) heard ≡ heard
none_filtered [] p e = refl
none_filtered (q ∷ heard) p e =
    let both = or_parts (is_pair p q) (list_any (is_pair p) heard) e in
    rw both.0 (ap (λ rest. q ∷ rest) (none_filtered heard p both.1))

pub less_filtered : (heard : List (List ℕ × List ℕ)) (p : List ℕ × List ℕ) → (one_less heard p).heard ≡ filter (λ q. not (is_pair p q)) heard
less_filtered heard p = at (is_heard heard p) refl
  where
    at : (b : Bool) → is_heard heard p ≡ b → (one_less heard p).heard ≡ filter (λ q. not (is_pair p q)) heard
    at true e = rw e refl
    at false e = rw e (sym (none_filtered heard p e))
