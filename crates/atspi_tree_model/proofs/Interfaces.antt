-- The interfaces that an item names are read back as the kinds of the node.
use Rattle.std.proofs.Common.{◌≡◌, ℕ, Bool, true, false, List, refl, ◌∙◌}
use Rattle.std.specs.Prelude.{codes, bytes_eq}
use Rattle.atspi_tree_model.specs.declared.contents.Kinds.{Kinds}
use Rattle.atspi_tree_model.specs.News.{offers, kinds_of}
use Rattle.atspi_tree_model.specs.Announce.{named, interfaces_of}

-- another name is passed over
skip : (y : List ℕ) (b : Bool) (x : List ℕ) (xs : List (List ℕ)) → bytes_eq x y ≡ false
    → offers y (named b x xs) ≡ offers y xs
skip y true x xs e = rw e refl
skip y false x xs e = refl

-- the name itself is found where it is put
found : (y : List ℕ) (b : Bool) (xs : List (List ℕ)) → bytes_eq y y ≡ true → offers y xs ≡ false
    → offers y (named b y xs) ≡ b
found y true xs e n = rw e refl
found y false xs e n = n

pub kinds_read_back : (is_root : Bool) (k : Kinds) → kinds_of (interfaces_of is_root k) ≡ k
kinds_read_back root k = rw (text, editable, selection, table, action) refl
  where
    text : offers (codes "org.a11y.atspi.Text") (interfaces_of root k) ≡ k.text
    text = skip _ root _ _ refl ∙ found _ k.text _ refl (skip _ k.editable _ _ refl ∙ skip _ k.selection _ _ refl ∙ skip _ k.table _ _ refl ∙ skip _ k.action _ _ refl)

    editable : offers (codes "org.a11y.atspi.EditableText") (interfaces_of root k) ≡ k.editable
    editable = skip _ root _ _ refl ∙ skip _ k.text _ _ refl ∙ found _ k.editable _ refl (skip _ k.selection _ _ refl ∙ skip _ k.table _ _ refl ∙ skip _ k.action _ _ refl)

    selection : offers (codes "org.a11y.atspi.Selection") (interfaces_of root k) ≡ k.selection
    selection = skip _ root _ _ refl ∙ skip _ k.text _ _ refl ∙ skip _ k.editable _ _ refl ∙ found _ k.selection _ refl (skip _ k.table _ _ refl ∙ skip _ k.action _ _ refl)

    table : offers (codes "org.a11y.atspi.Table") (interfaces_of root k) ≡ k.table
    table = skip _ root _ _ refl ∙ skip _ k.text _ _ refl ∙ skip _ k.editable _ _ refl ∙ skip _ k.selection _ _ refl ∙ found _ k.table _ refl (skip _ k.action _ _ refl)

    action : offers (codes "org.a11y.atspi.Action") (interfaces_of root k) ≡ k.action
    action = skip _ root _ _ refl ∙ skip _ k.text _ _ refl ∙ skip _ k.editable _ _ refl ∙ skip _ k.selection _ _ refl ∙ skip _ k.table _ _ refl ∙ found _ k.action _ refl refl
