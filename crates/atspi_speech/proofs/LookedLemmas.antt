-- The lines of a news, from the rows that were looked up.
use Rattle.std.proofs.Common.{◌≡◌, ℕ, ◌*◌, ◌≤◌, Bool, true, false, cond, List, [], ◌++◌, Result, OnOk, Option, Some, None, refl, sym, ap, subst, ◌∙◌, arith}
use Rattle.std.specs.Prelude.{ℤ, codes}
use Rattle.std.specs.Str.{bytes_eq}
use Rattle.std.specs.Option.{option_map}
use Rattle.std.proofs.lemmas.Slice.Eq.{bytes_eq-Decides}
use Rattle.std.proofs.lemmas.List.{append-nil}
use Rattle.std.proofs.lemmas.Result.{on_ok_weaker}
use Rattle.atspi_tree_model.specs.declared.view.Row.{Row}
use Rattle.atspi_tree_model.specs.declared.news.Item.{Item}
use Rattle.atspi_tree_model.specs.declared.news.News.{News}
use Rattle.atspi_tree_model.specs.declared.news.News.TheVariants.{Name, State, Inserted, Deleted, Item as NewItem}
use Rattle.atspi_tree_model.specs.Forest.{Forest, nil, tree, count, has, put_in, change, find, EachLabel}
use Rattle.atspi_tree_model.specs.Row.{insert_there, delete_there}
use Rattle.atspi_tree_model.specs.News.{is_path, names, spot, known_text_with, renewed, fresh, added}
use Rattle.atspi_tree_model.proofs.Counts.{count-put_in}
use Rattle.atspi_tree_model.proofs.Found.{count-has, has-count, not_there, none_passes, find-none, find-passes, find-has}
use Rattle.atspi_tree_model.proofs.Labels.{each_put_in}
use Rattle.atspi_tree_model.proofs.Lookup.{each-find, find-relabel, find-change}
use Rattle.atspi_speech.specs.Speech.{of_row, name_lines, state_lines, text_lines, alert_lines, of_found, row_at, lines}
use Rattle.atspi_speech.specs.Looked.{adds, with_name, with_state_of}

-- the row of a path after a change of that row
row_changed : (path : List ℕ) (h : Row → Row) → ((row : Row) → (h row).path ≡ row.path) → (v : Forest Row) (o : Option Row)
    → find (is_path path) v ≡ o → row_at path (change (is_path path) h v) ≡ option_map (λ row. of_row (h row)) o
row_changed path h keeps v (Some x) e =
    ap (option_map of_row) (find-change (is_path path) h (λ a. ap (λ q. bytes_eq q path) (keeps a)) v x e)
row_changed path h keeps v None e =
    ap (option_map of_row)
    (find-relabel (λ a. cond (is_path path a) (h a) a) (is_path path) (is_path path) (λ a. at a (is_path path a)) v
    ∙ ap (option_map (λ a. cond (is_path path a) (h a) a)) e)
  where
    at : (a : Row) (b : Bool) → is_path path (cond b (h a) a) ≡ is_path path a
    at a true = ap (λ q. bytes_eq q path) (keeps a)
    at a false = refl

module _ (root bus : List ℕ) (v : Forest Row) where
  pub name_told : (path name : List ℕ) (o : Option Row) → find (is_path path) v ≡ o
      → lines root bus v (Name path name) ≡ of_found name_lines (option_map (λ row. of_row (with_name name row)) o)
  name_told path name o e = ap (of_found name_lines) (row_changed path (with_name name) (λ row. refl) v o e)

  pub state_told : (path : List ℕ) (state : ℕ) (on : Bool) (o : Option Row) → find (is_path path) v ≡ o
      → lines root bus v (State path state on)
      ≡ of_found (state_lines state on) (option_map (λ row. of_row (with_state_of state on row)) o)
  state_told path state on o e =
      ap (of_found (state_lines state on)) (row_changed path (with_state_of state on) (λ row. refl) v o e)

  pub inserted_told : (path : List ℕ) (at : ℤ) (text : List ℕ) (o : Option Row) → find (is_path path) v ≡ o
      → lines root bus v (Inserted path at text) ≡ of_found (text_lines (codes "typed: ") text) (option_map of_row o)
  inserted_told path at text o e =
      ap (of_found (text_lines (codes "typed: ") text))
      (row_changed path (λ row. record row { text = known_text_with (insert_there at text) row.text }) (λ row. refl) v o e)

  pub deleted_told : (path : List ℕ) (at len : ℤ) (text : List ℕ) (o : Option Row) → find (is_path path) v ≡ o
      → lines root bus v (Deleted path at len text) ≡ of_found (text_lines (codes "deleted: ") text) (option_map of_row o)
  deleted_told path at len text o e =
      ap (of_found (text_lines (codes "deleted: ") text))
      (row_changed path (λ row. record row { text = known_text_with (delete_there at len) row.text }) (λ row. refl) v o e)

-- a new node is found where its parent is known
put_found : (p up : Row → Bool) (i : Option ℕ) (a : Row) (v : Forest Row) → count p v ≡ 0 → has up v ≡ true
    → p a ≡ true → find p (put_in up i (tree a nil nil) v) ≡ Some a
put_found p up i a v z there passes =
    let one : count p (tree a nil nil) ≡ 1 = rw passes refl in
    let some : 1 ≤ count up v = count-has up v there in
    let product : count up v * count p (tree a nil nil) ≡ count up v = rw one (omega arith) in
    let counted = count-put_in p up i (tree a nil nil) v in
    let enough : 1 ≤ count p (put_in up i (tree a nil nil) v) = omega (arith, counted, product, some) in
    let f = find-has p (put_in up i (tree a nil nil) v) enough in
    let alone : EachLabel (λ y. p y ≡ true → y ≡ a) (put_in up i (tree a nil nil) v) =
    each_put_in (λ y. p y ≡ true → y ≡ a) up i (tree a nil nil) v ((λ _. refl), tt, tt) (none_passes p (λ y. y ≡ a) v z) in
    let is : p f.0 ≡ true → f.0 ≡ a =
    each-find (λ y. p y ≡ true → y ≡ a) p (put_in up i (tree a nil nil) v) f.0 alone f.1 in
    f.1 ∙ ap Some (is (find-passes p (put_in up i (tree a nil nil) v) f.0 f.1).0)

none_has : (v : Forest Row) → has (λ row. false) v ≡ false
none_has nil = refl
none_has (tree a c r) = rw (none_has c, none_has r) refl

-- a reference names a row where the bus name is the application's
has_named : (b : Bool) (path : List ℕ) (v : Forest Row)
    → has (λ row. cond b (is_path path row) false) v ≡ cond b (has (is_path path) v) false
has_named true path v = refl
has_named false path v = none_has v

-- a node that is known is not added
not_added : (b c d : Bool) → cond b (cond c false (cond true false d)) false ≡ false
not_added true true d = refl
not_added true false d = refl
not_added false c d = refl

module _ (root bus : List ℕ) (v : Forest Row) (item : Item) where
  abbrev is_own : Row → Bool
  is_own = is_path item.object.path

  abbrev new_lines : List (List ℕ)
  new_lines = alert_lines (of_row (fresh item))

  same_path : (path : List ℕ) → bytes_eq path path ≡ true
  same_path path = (bytes_eq-Decides path path).1 refl

  -- an unknown node below a parent
  below : (b : Bool) → has (names bus item.parent) v ≡ b → find is_own v ≡ None
      → of_found alert_lines (row_at item.object.path (cond b (put_in (names bus item.parent) (spot item.index) (tree (fresh item) nil nil) v) v))
      ≡ cond b new_lines []
  below false e none = ap (λ o. of_found alert_lines (option_map of_row o)) none
  below true e none =
      ap (λ o. of_found alert_lines (option_map of_row o))
      (put_found is_own (names bus item.parent) (spot item.index) (fresh item) v (find-none is_own v none) e (same_path item.object.path))

  -- an unknown node, by whose it is
  unknown : (b c : Bool) → bytes_eq item.object.bus bus ≡ b → bytes_eq item.object.path root ≡ c → find is_own v ≡ None
      → of_found alert_lines (row_at item.object.path (cond b (cond c (change (is_path root) (renewed item) v) (added (names bus item.parent) item v)) v))
      ≡ cond (cond b (cond c false (has (names bus item.parent) v)) false) new_lines []
  unknown false c e k none = ap (λ o. of_found alert_lines (option_map of_row o)) none
  unknown true true e k none =
      let is : item.object.path ≡ root = (bytes_eq-Decides item.object.path root).0 k in
      let P : List ℕ → Type 0 = λ r. of_found alert_lines (row_at item.object.path (change (is_path r) (renewed item) v)) ≡ [] in
      subst P is (ap (of_found alert_lines) (row_changed item.object.path (renewed item) (λ row. refl) v None none))
  unknown true false e k none = below (has (names bus item.parent) v) refl none

  pub item_told : (o : Option Row) (b : Bool) → find is_own v ≡ o → has (is_path item.parent.path) v ≡ b
      → lines root bus v (NewItem item) ≡ cond (adds root bus o b item) new_lines []
  item_told (Some x) b e h =
      let known : has is_own v ≡ true = has-count is_own v (find-passes is_own v x e).1 in
      rw (known, not_added (bytes_eq item.object.bus bus) (bytes_eq item.object.path root) (cond (bytes_eq item.parent.bus bus) b false)) refl
  item_told None b e h =
      let missing : has is_own v ≡ false = not_there is_own v (find-none is_own v e) in
      let parent : has (names bus item.parent) v ≡ cond (bytes_eq item.parent.bus bus) b false =
      has_named (bytes_eq item.parent.bus bus) item.parent.path v ∙ ap (λ b. cond (bytes_eq item.parent.bus bus) b false) h in
      let told = unknown (bytes_eq item.object.bus bus) (bytes_eq item.object.path root) refl refl e in
      rw missing (told ∙ (rw parent refl))

-- lines that were appended are those of the news
pub heard : {E : Type 0} (r : Result (Unit {0}) E) (news is : News) (told old new : List (List ℕ)) (L : News → List (List ℕ))
    → news ≡ is → L is ≡ told → OnOk r (new ≡ old ++ told) → OnOk r (new ≡ old ++ L news)
heard r news is told old new L e h appended =
    on_ok_weaker r (λ k. k ∙ ap (λ l. old ++ l) (sym (ap L e ∙ h))) appended

-- and none were appended where it has none
pub heard_none : (news is : News) (old : List (List ℕ)) (L : News → List (List ℕ)) → news ≡ is → L is ≡ []
    → old ≡ old ++ L news
heard_none news is old L e h = sym (ap (λ l. old ++ l) (ap L e ∙ h) ∙ append-nil old)
