-- What the words of the launcher come to, and how its run ends.
use Rattle.std.proofs.Common.{◌≡◌, ℕ, List, Option, Result, Ok, Err, subst, inl, inr}
use Rattle.std.specs.Prelude.{OnOk, OnErr, MatchResult}
use Rattle.std.specs.Io.KnownBytes.{Appends}
use Rattle.atspi_base.specs.Outside.{AppendsPart}
use Rattle.atspi_run_desktop.specs.Commands.{Tells}

-- a text that was written, or a front of it
pub tells : {T E : Type 0} (r : Result T E) (due status : ℕ) (text bytes : List ℕ) (w w' : Option (List ℕ)) → MatchResult r (λ _. status ≡ due) (λ _. status ≡ 4) → OnOk r (Appends w w' bytes) → OnErr r (AppendsPart w w' bytes) → bytes ≡ text → Tells due text status w w'
tells (Ok x) due status text bytes w w' is ok err e = inl (is, subst (λ bs. Appends w w' bs) e ok)
tells (Err x) due status text bytes w w' is ok err e = inr (is, subst (λ bs. AppendsPart w w' bs) e err)
