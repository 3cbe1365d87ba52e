use Rattle.std.proofs.Common.{◌≡◌, List, ℕ, Bool, true, false, [], refl}
use Rattle.std.specs.Prelude.{codes, pos}
use Rattle.std.proofs.lemmas.Bool.{false≢true}
use Rattle.std.proofs.lemmas.Slice.Eq.{bytes_eq-Decides}
use Rattle.atspi_reader_laws.proofs.examples.what_comes_anew.Goals as goal

pub returns-clause-anew : goal.returns-clause-anew
returns-clause-anew c = record {
  sender = refl;
  item = record {
    object = record { bus = codes ":1.7"; path = codes "/b" };
    application = record { bus = codes ":1.7"; path = codes "/r" };
    parent = record { bus = codes ":1.7"; path = codes "/a" };
    index = pos 0;
    children = pos 0;
    interfaces = [];
    name = codes "N";
    role = 61;
    description = [];
    states = 0;
  };
  told = refl;
  of_path = refl;
  no_row = refl;
}

pub returns-clause-known_row : goal.returns-clause-known_row
returns-clause-known_row c = λ h. (let z : false ≡ true = h.no_row in absurd cc)

pub returns-clause-other_sender : goal.returns-clause-other_sender
returns-clause-other_sender c = λ h. absurd (false≢true ((bytes_eq-Decides (codes ":1.8") (codes ":1.7")).1 h.sender))
