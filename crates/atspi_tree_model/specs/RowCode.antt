-- How a proof tells two rows apart: each record as the tuple of its fields.
use Rattle.std.specs.Prelude.{ℕ, refl, Bool, List, Option}
use Rattle.std.specs.Coded.{Coded, code_by, coded×, coded_ℕ, coded_bool, coded_list, coded_option}
use Rattle.atspi_tree_model.specs.declared.contents.Kinds.{Kinds}
use Rattle.atspi_tree_model.specs.Row.{ShapeRow, TextContents, Contents, TreeRow}

-- texts
abbrev pub text_code : Coded (List ℕ)
text_code = coded_list coded_ℕ

-- interfaces
abbrev pub kinds_code : Coded Kinds
kinds_code =
    code_by ((Bool × Bool) × (Bool × (Bool × Bool)))
    (coded× (coded× coded_bool coded_bool) (coded× coded_bool (coded× coded_bool coded_bool)))
    (λ k. ((k.text, k.editable), (k.selection, (k.table, k.action))))
    (λ p. record { text = p.0.0; editable = p.0.1; selection = p.1.0; table = p.1.1.0; action = p.1.1.1 }) (λ _. refl)

-- shapes
abbrev pub shape_code : Coded ShapeRow
shape_code =
    code_by ((ℕ × (List ℕ × List ℕ)) × ((ℕ × ℕ) × (Kinds × List (ℕ × ℕ))))
    (coded× (coded× coded_ℕ (coded× text_code text_code))
    (coded× (coded× coded_ℕ coded_ℕ) (coded× kinds_code (coded_list (coded× coded_ℕ coded_ℕ)))))
    (λ r. ((r.node, (r.name, r.description)), ((r.role, r.states), (r.kinds, r.relations))))
    (λ p. record {
      node = p.0.0;
      name = p.0.1.0;
      description = p.0.1.1;
      role = p.1.0.0;
      states = p.1.0.1;
      kinds = p.1.1.0;
      relations = p.1.1.1;
    })
    (λ _. refl)

-- contents
abbrev pub contents_code : Coded Contents
contents_code =
    code_by (Option TextContents × (Option ℕ × List (List ℕ)))
    (coded× (coded_option text_contents_code) (coded× (coded_option coded_ℕ) (coded_list text_code)))
    (λ c. (c.text, (c.columns, c.actions))) (λ p. record { text = p.0; columns = p.1.0; actions = p.1.1 }) (λ _. refl)
  where
    text_contents_code : Coded TextContents
    text_contents_code =
        code_by (List ℕ × (ℕ × List (ℕ × ℕ))) (coded× text_code (coded× coded_ℕ (coded_list (coded× coded_ℕ coded_ℕ))))
        (λ c. (c.characters, (c.caret, c.selections)))
        (λ p. record { characters = p.0; caret = p.1.0; selections = p.1.1 }) (λ _. refl)

-- whole rows
abbrev pub row_code : Coded TreeRow
row_code =
    code_by (ShapeRow × Contents) (coded× shape_code contents_code) (λ r. (r.shape, r.contents))
    (λ p. record { shape = p.0; contents = p.1 }) (λ _. refl)
