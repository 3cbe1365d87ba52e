-- An application as the tuple of its parts: how a proof tells two of them apart.
use Rattle.std.specs.Prelude.{◌≡◌, refl, ◌==◌, ℕ, Bool, List, Option, if◌then◌else◌}
use Rattle.std.specs.Coded.{Coded, code_by, coded_ℕ, coded_bool, coded_list, coded_option, coded×}
use Rattle.atspi_tree_model.specs.declared.view.Row.{Row}
use Rattle.atspi_tree_model.specs.Forest.{Forest}
use Rattle.atspi_tree_model.specs.ForestCode.{forest_code}
use Rattle.atspi_protocol.specs.declared.news.part.PartName.{PartName}
use Rattle.atspi_protocol.specs.declared.news.part.PartName.TheVariants.{Text, Caret, Columns}
use Rattle.atspi_protocol.specs.following.ReaderState.{Followed}

abbrev number_of : PartName → ℕ
number_of Text = 0
number_of Caret = 1
number_of Columns = 2

abbrev part_of : ℕ → PartName
part_of n = if n == 0 then Text else if n == 1 then Caret else Columns

pub part_of-number_of : (part : PartName) → part_of (number_of part) ≡ part
part_of-number_of Text = refl
part_of-number_of Caret = refl
part_of-number_of Columns = refl

abbrev pub part_code : Coded PartName
part_code = code_by ℕ coded_ℕ number_of part_of part_of-number_of

abbrev pub refused_code : Coded (List (List ℕ × PartName))
refused_code = coded_list (coded× (coded_list coded_ℕ) part_code)

abbrev pub followed_code : Coded Row → Coded Followed
followed_code row =
    code_by (List ℕ × (List ℕ × (Option (Forest Row) × (Bool × (ℕ × List (List ℕ × PartName))))))
    (coded× (coded_list coded_ℕ)
    (coded× (coded_list coded_ℕ)
    (coded× (coded_option (forest_code row)) (coded× coded_bool (coded× coded_ℕ refused_code)))))
    (λ a. (a.name, (a.root, (a.view, (a.reload, (a.last, a.refused))))))
    (λ p.
    record {
      name = p.0;
      root = p.1.0;
      view = p.1.1.0;
      reload = p.1.1.1.0;
      last = p.1.1.1.1.0;
      refused = p.1.1.1.1.1;
    }) (λ _. refl)
