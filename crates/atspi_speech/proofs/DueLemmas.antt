-- What is spoken from a view is what is due from the tree.
use Rattle.std.proofs.Common.{◌≡◌, ℕ, Bool, true, false, cond, List, [], ◌∷◌, Option, Some, None, refl, ap, ◌∙◌, arith}
use Rattle.std.specs.Prelude.{map, codes}
use Rattle.std.specs.Option.{option_map}
use Rattle.std.proofs.lemmas.Bool.{eqb-true}
use Rattle.atspi_tree_model.specs.declared.view.Row.{Row}
use Rattle.atspi_tree_model.specs.declared.step.Step.{Step}
use Rattle.atspi_tree_model.specs.declared.step.Step.TheVariants.{Add, Remove, Move, SetName, SetDescription, SetRole, SetState, Insert, Delete, Caret, TextSelect, Relate}
use Rattle.atspi_tree_model.specs.declared.news.News.{News}
use Rattle.atspi_tree_model.specs.declared.news.News.TheVariants.{Removed}
use Rattle.atspi_tree_model.specs.Forest.{Forest, nil, tree, labels, has, pick, width, find, children_at}
use Rattle.atspi_tree_model.specs.Row.{TreeRow, Each}
use Rattle.atspi_tree_model.specs.RowRules.{rows}
use Rattle.atspi_tree_model.specs.Tree.{is_node, after, seat_of, IsTree, Applies}
use Rattle.atspi_tree_model.specs.Path.{path_of}
use Rattle.atspi_tree_model.specs.View.{Told, shown, view}
use Rattle.atspi_tree_model.specs.News.{is_path}
use Rattle.atspi_tree_model.specs.Announce.{item_news, removed_news, announcement, echoes}
use Rattle.atspi_tree_model.specs.Laws.{UntoldOfNew}
use Rattle.atspi_tree_model.proofs.Relabel.{has-relabel}
use Rattle.atspi_tree_model.proofs.Found.{not_there, find-passes}
use Rattle.atspi_tree_model.proofs.Lookup.{find-relabel}
use Rattle.atspi_tree_model.proofs.Seen.{same_node, seen}
use Rattle.atspi_speech.specs.Speech.{Subject, of_row, of_node, name_lines, state_lines, text_lines, alert_lines, of_found, row_at, node_at, lines, says, closing_lines, closing_says}

same_subject : (told : List ℕ → Told) (o : Option TreeRow)
    → option_map of_row (option_map (shown told) o) ≡ option_map of_node o
same_subject told None = refl
same_subject told (Some row) = refl

-- what is not known is spoken of
unless_known : (b : Bool) (xs ys : List (List ℕ)) → b ≡ false → xs ≡ ys → cond b [] xs ≡ ys
unless_known b xs ys e h = ap (λ b. cond b [] xs) e ∙ h

module _ (bus : List ℕ) (told : List ℕ → Told) where
  has_seen : (n : ℕ) (f : Forest TreeRow) → has (is_path (path_of n)) (view told f) ≡ has (is_node n) f
  has_seen n f = has-relabel (shown told) (is_path (path_of n)) (is_node n) (same_node bus told n) f

  row_seen : (n : ℕ) (f : Forest TreeRow) → row_at (path_of n) (view told f) ≡ node_at n f
  row_seen n f =
      ap (option_map of_row) (find-relabel (shown told) (is_path (path_of n)) (is_node n) (same_node bus told n) f)
      ∙ same_subject told (find (is_node n) f)

  -- what is read of a row is what is read of its node
  found : (F : Subject → List (List ℕ)) (n : ℕ) (w : Forest Row) (f : Forest TreeRow) → w ≡ view told f
      → of_found F (row_at (path_of n) w) ≡ of_found F (node_at n f)
  found F n w f e = ap (λ w. of_found F (row_at (path_of n) w)) e ∙ ap (of_found F) (row_seen n f)

  -- a removal is silent
  removed : (v : Forest Row) (n : ℕ) (o : Option (Option ℕ × ℕ)) → lines (path_of 0) bus v (removed_news n o) ≡ []
  removed v n None = refl
  removed v n (Some (None, i)) = refl
  removed v n (Some (Some p, i)) = refl

  -- and so is a move, since its node is known
  moved : (f g : Forest TreeRow) (n p i children : ℕ) (o : Option TreeRow) → has (is_node n) f ≡ true
      → find (is_node n) g ≡ o → lines (path_of 0) bus (view told f) (item_news bus p i children o) ≡ []
  moved f g n p i children None there e = refl
  moved f g n p i children (Some row) there e =
      let is : row.shape.node ≡ n = eqb-true row.shape.node n (find-passes (is_node n) g row e).0 in
      let known : has (is_path (path_of row.shape.node)) (view told f) ≡ true =
      ap (λ m. has (is_path (path_of m)) (view told f)) is ∙ has_seen n f ∙ there in
      rw known refl

  pub says_due : (f : Forest TreeRow) (k : ℕ) (step : Step) → IsTree rows f k → Applies rows f k step
      → UntoldOfNew told step → lines (path_of 0) bus (view told f) (announcement bus f step) ≡ says f step
  says_due f k (Add n p i seed) t a u =
      let none = t.numbered n (let l = a.next in omega arith) in
      let missing : has (is_path (path_of n)) (view told f) ≡ false = has_seen n f ∙ not_there (is_node n) f none in
      unless_known _ _ _ missing (found alert_lines n _ _ (seen bus told f k (Add n p i seed) t a u).announcement)
  says_due f k (Remove n) t a u = removed (view told f) n (seat_of rows n f)
  says_due f k (Move n p i) t a u =
      let g = after rows f (Move n p i) in
      moved f g n p i (width (children_at (is_node n) g)) (find (is_node n) g) a.there refl
  says_due f k (SetName n x) t a u = found name_lines n _ _ (seen bus told f k (SetName n x) t a u).announcement
  says_due f k (SetDescription n x) t a u = refl
  says_due f k (SetRole n x) t a u = refl
  says_due f k (SetState n s on) t a u = found (state_lines s on) n _ _ (seen bus told f k (SetState n s on) t a u).announcement
  says_due f k (Insert n at x) t a u =
      found (text_lines (codes "typed: ") x) n _ _ (seen bus told f k (Insert n at x) t a u).announcement
  says_due f k (Delete n at x) t a u =
      found (text_lines (codes "deleted: ") x) n _ _ (seen bus told f k (Delete n at x) t a u).announcement
  says_due f k (Caret n at) t a u = refl
  says_due f k (TextSelect n marks) t a u = refl
  says_due f k (Relate n kind ts) t a u = refl

abbrev IsSilent : List ℕ → Forest Row → News → Type 0
IsSilent bus v news = lines (path_of 0) bus v news ≡ []

all_removed : (bus : List ℕ) (v : Forest Row) (xs : List TreeRow)
    → Each (IsSilent bus v) (map (λ (row : TreeRow). Removed (path_of row.shape.node)) xs)
all_removed bus v [] = tt
all_removed bus v (x ∷ xs) = (refl, all_removed bus v xs)

pub echoes_silent : (bus : List ℕ) (f : Forest TreeRow) (v : Forest Row) (step : Step)
    → Each (IsSilent bus v) (echoes bus f step)
echoes_silent bus f v (Add n p i seed) = (refl, tt)
echoes_silent bus f v (Remove n) = all_removed bus v (labels (pick (is_node n) f))
echoes_silent bus f v (Move n p i) = (removed bus (λ _. record { text = false; caret = false; columns = false }) v n (seat_of rows n f), (refl, (refl, tt)))
echoes_silent bus f v _ = tt

pub closes_due : (told : List ℕ → Told) (f : Forest TreeRow) → closing_lines (view told f) ≡ closing_says f
closes_due told nil = refl
closes_due told (tree row c r) = refl
