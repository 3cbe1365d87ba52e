-- What stands in front of a list stays there.
use Rattle.std.proofs.Common.{◌≡◌, ◌+◌, List, [], ◌∷◌, ◌++◌, length, take, length-append, Bool, true, false, refl, ◌∙◌, arith}
use Rattle.std.specs.Prelude.{◌&&◌, not, if◌then◌else◌}
use Rattle.std.specs.List.{list_any, fold}
use Rattle.std.proofs.lemmas.List.{take-append-le, take_all}
use Rattle.atspi_tree_model.specs.declared.news.Reference.{Reference}
use Rattle.atspi_protocol.specs.following.ReaderState.{Followed, is_named}
use Rattle.atspi_protocol.specs.following.Known.{is_connection, made_known, unasked}
use Rattle.atspi_reader.specs.inner.Turns.{StandsInFront}

pub front-append : (xs ys : List Followed) → take (length xs) (xs ++ ys) ≡ xs
front-append xs ys = take-append-le (length xs) xs ys (omega arith) ∙ take_all (length xs) xs (omega arith)

pub in_front : (xs : List Followed) → StandsInFront xs xs
in_front xs = record { within = omega arith; front = take_all (length xs) xs (omega arith) }

pub more_behind : (old new more : List Followed) → StandsInFront old new → StandsInFront old (new ++ more)
more_behind old new more f = record {
  within = let l : length (new ++ more) ≡ length new + length more = length-append new more in omega (arith, f.within);
  front = take-append-le (length old) new more f.within ∙ f.front;
}

pub made_behind : (old new : List Followed) (root : Reference) → StandsInFront old new → StandsInFront old (made_known new root)
made_behind old new root f = by (is_connection root.bus && not (list_any (is_named root.bus) new))
  where
    by : (b : Bool) → StandsInFront old (if b then new ++ unasked root ∷ [] else new)
    by true = more_behind old new (unasked root ∷ []) f
    by false = f

pub fold-more : (xs : List Reference) (x : Reference) (apps : List Followed) → fold made_known apps (xs ++ x ∷ []) ≡ made_known (fold made_known apps xs) x
fold-more [] x apps = refl
fold-more (y ∷ xs) x apps = fold-more xs x (made_known apps y)
