-- Read value by value, an end is what it is as a whole.
use Rattle.std.proofs.Common.{◌≡◌, ℕ, true, false, List, [], ◌∷◌, Some, None, refl}
use Rattle.std.specs.Prelude.{bytes_eq}
use Rattle.atspi_types.specs.Data.{Data, text_data}
use Rattle.atspi_protocol.specs.news.Arguments.{then_text}
use Rattle.atspi_protocol.specs.following.Known.{ended_name}
use Rattle.atspi_reader_told.specs.inner.Ended.{ended_if, ended_in}

owner_in : (name before owner : List ℕ) (ds : List Data) → ended_if name owner ds ≡ ended_name (text_data name ∷ (text_data before ∷ (text_data owner ∷ ds)))
owner_in name before [] [] = refl
owner_in name before [] (d ∷ ds) = refl
owner_in name before (x ∷ owner) [] = refl
owner_in name before (x ∷ owner) (d ∷ ds) = refl

third_in : (name before : List ℕ) (ds : List Data) → then_text (λ owner. ended_if name owner) ds ≡ ended_name (text_data name ∷ (text_data before ∷ ds))
third_in name before (text_data owner ∷ ds) = owner_in name before owner ds
third_in name before _ = refl

second_in : (name : List ℕ) (ds : List Data) → then_text (λ before. then_text (λ owner. ended_if name owner)) ds ≡ ended_name (text_data name ∷ ds)
second_in name (text_data before ∷ ds) = third_in name before ds
second_in name _ = refl

pub ended_is : (body : List Data) → ended_in body ≡ ended_name body
ended_is (text_data name ∷ ds) = second_in name ds
ended_is _ = refl

pub someone : (name owner : List ℕ) (rest : List Data) → bytes_eq owner [] ≡ false → None ≡ ended_if name owner rest
someone name [] rest e = absurd cc
someone name (x ∷ owner) rest e = refl

pub nobody : (name owner : List ℕ) (rest : List Data) → bytes_eq owner [] ≡ true → rest ≡ [] → Some name ≡ ended_if name owner rest
nobody name [] rest e f = rw f refl
nobody name (x ∷ owner) rest e f = absurd cc

pub more_behind : (name owner : List ℕ) (rest : List Data) (d : Data) (ds : List Data) → rest ≡ d ∷ ds → None ≡ ended_if name owner rest
more_behind name [] rest d ds f = rw f refl
more_behind name (x ∷ owner) rest d ds f = refl
