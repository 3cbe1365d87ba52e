-- Names that are put behind others one by one.
use Rattle.std.proofs.Common.{◌≡◌, ℕ, Bool, true, false, List, [], ◌∷◌, ◌++◌, refl, sym, ap, ◌∙◌, append_assoc}
use Rattle.std.specs.Prelude.{codes}
use Rattle.atspi_tree_model.specs.declared.contents.Kinds.{Kinds}
use Rattle.atspi_tree_model.specs.Announce.{named, interfaces_of}
use Rattle.atspi_app_items.specs.inner.Names.{first_of_all}

named-append : (b : Bool) (x : List ℕ) (ys : List (List ℕ)) → named b x [] ++ ys ≡ named b x ys
named-append true x ys = refl
named-append false x ys = refl

abbrev Names : Type 0
Names = List (List ℕ)

pub first_put : (is_root : Bool) (k : Kinds) (a b c d : Names) → a ≡ [] → b ≡ a ++ named true (codes "org.a11y.atspi.Accessible") []
    → c ≡ b ++ named is_root (codes "org.a11y.atspi.Application") [] → d ≡ c ++ named k.text (codes "org.a11y.atspi.Text") [] → d ≡ first_of_all is_root k
first_put is_root k a b c d ea eb ec ed =
    ed ∙ ap (λ (l : Names). l ++ named k.text (codes "org.a11y.atspi.Text") []) (ec ∙ ap (λ (l : Names). l ++ named is_root (codes "org.a11y.atspi.Application") []) (eb ∙ ap (λ (l : Names). l ++ codes "org.a11y.atspi.Accessible" ∷ []) ea))
    ∙ ap (λ (l : Names). codes "org.a11y.atspi.Accessible" ∷ l) (named-append is_root (codes "org.a11y.atspi.Application") (named k.text (codes "org.a11y.atspi.Text") []))

module _ (is_root : Bool) (k : Kinds) where
  abbrev last : Names
  last = named k.table (codes "org.a11y.atspi.Table") (named k.action (codes "org.a11y.atspi.Action") [])

  abbrev rest : Names
  rest = named k.editable (codes "org.a11y.atspi.EditableText") (named k.selection (codes "org.a11y.atspi.Selection") last)

  first_and_rest : first_of_all is_root k ++ rest ≡ interfaces_of is_root k
  first_and_rest =
      ap (λ (l : Names). codes "org.a11y.atspi.Accessible" ∷ l)
      (from is_root k.text (codes "org.a11y.atspi.Application") (codes "org.a11y.atspi.Text") rest)
    where
      from : (b c : Bool) (x y : List ℕ) (zs : Names) → named b x (named c y []) ++ zs ≡ named b x (named c y zs)
      from true true x y zs = refl
      from true false x y zs = refl
      from false true x y zs = refl
      from false false x y zs = refl

  pub all_put : (a b c d e : Names) → a ≡ first_of_all is_root k → b ≡ a ++ named k.editable (codes "org.a11y.atspi.EditableText") []
      → c ≡ b ++ named k.selection (codes "org.a11y.atspi.Selection") [] → d ≡ c ++ named k.table (codes "org.a11y.atspi.Table") []
      → e ≡ d ++ named k.action (codes "org.a11y.atspi.Action") [] → e ≡ interfaces_of is_root k
  all_put a b c d e ea eb ec ed ee =
      ee ∙ ap (λ (l : Names). l ++ named k.action (codes "org.a11y.atspi.Action") []) (ed ∙ ap (λ (l : Names). l ++ named k.table (codes "org.a11y.atspi.Table") []) (ec ∙ ap (λ (l : Names). l ++ named k.selection (codes "org.a11y.atspi.Selection") []) (eb ∙ ap (λ (l : Names). l ++ named k.editable (codes "org.a11y.atspi.EditableText") []) ea)))
      ∙ step k.editable k.selection k.table k.action (codes "org.a11y.atspi.EditableText") (codes "org.a11y.atspi.Selection") (codes "org.a11y.atspi.Table") (codes "org.a11y.atspi.Action") (first_of_all is_root k)
      ∙ first_and_rest
    where
      step : (p q r s : Bool) (x y z w : List ℕ) (first : Names) → (((first ++ named p x []) ++ named q y []) ++ named r z []) ++ named s w [] ≡ first ++ named p x (named q y (named r z (named s w [])))
      step p q r s x y z w first =
          append_assoc ((first ++ named p x []) ++ named q y []) (named r z []) (named s w [])
          ∙ append_assoc (first ++ named p x []) (named q y []) (named r z [] ++ named s w [])
          ∙ append_assoc first (named p x []) (named q y [] ++ (named r z [] ++ named s w []))
          ∙ ap (λ (l : Names). first ++ (named p x [] ++ (named q y [] ++ l))) (named-append r z (named s w []))
          ∙ ap (λ (l : Names). first ++ (named p x [] ++ l)) (named-append q y (named r z (named s w [])))
          ∙ ap (λ (l : Names). first ++ l) (named-append p x (named q y (named r z (named s w []))))
