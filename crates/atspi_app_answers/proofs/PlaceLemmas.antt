-- Which object has a path.
use Rattle.std.proofs.Common.{◌≡◌, ◌≢◌, ℕ, ◌<◌, ◌≤◌, ◌^◌, ◌==◌, Bool, true, false, List, ℤ, Option, None, Some, refl, sym, ap, ◌∙◌, arith}
use Rattle.std.specs.Prelude.{[], bytes_eq, nat_lt, option_and_then, unwrap_or, Result, Ok, Err}
use Rattle.std.specs.Option.{option_map}
use Rattle.std.proofs.lemmas.Bool.{eqb-true, eqb-false, eq-eqb, ltb-true, ltb-false}
use Rattle.std.proofs.lemmas.Slice.Eq.{bytes_eq-Decides}
use Rattle.atspi_tree_model.specs.Forest.{Forest, nil, tree, count, has, find, EachLabel}
use Rattle.atspi_tree_model.specs.Path.{path_of}
use Rattle.atspi_tree_model.specs.Row.{ShapeRow, TreeRow}
use Rattle.atspi_tree_model.specs.Tree.{is_shape}
use Rattle.atspi_tree_model.proofs.Found.{each_counted, EachLabel-weaker}
use Rattle.atspi_tree_model.proofs.Lookup.{find-relabel}
use Rattle.atspi_tree_model.proofs.Path.{path_of_apart}
use Rattle.atspi_protocol.specs.ends.Places.{cache_path}
use Rattle.atspi_tree.specs.TreeShape.{TreeShape, IsLawful, row_of}
use Rattle.atspi_tree.proofs.Held.{no_row}
use Rattle.atspi_protocol.specs.whole.Whole.{Faces, whole, filled}
use Rattle.atspi_tree_model.specs.declared.contents.Kinds.{Kinds}
use Rattle.atspi_tree_model.specs.Announce.{interfaces_of}
use Rattle.atspi_message.specs.Envelope.{Envelope}
use Rattle.atspi_protocol.specs.declared.ends.error.CallError.{CallError}
use Rattle.atspi_protocol.specs.declared.ends.error.CallError.TheVariants.{UnknownObject}
use Rattle.atspi_protocol.specs.members.Objects.{Object, object_with}
use Rattle.atspi_protocol.specs.members.Asked.{asked}
use Rattle.atspi_protocol.specs.objects.Places.{Place, node, node_at, place_at, offered, offered_if_there}
use Rattle.atspi_protocol.specs.objects.Answers.{place_answers}
use Rattle.atspi_app_calls.specs.declared.ask.Ask.{Ask}
use Rattle.atspi_app_calls.specs.declared.object.AppObject.TheVariants as AppObjects
use Rattle.atspi_app_calls.specs.Object.{object_of}
use Rattle.atspi_app_calls.specs.Ask.{as_asked}
use Rattle.atspi_app_calls.proofs.Names.{not_same}
use Rattle.atspi_app_answers.specs.declared.place.AppPlace.{AppPlace}
use Rattle.atspi_app_answers.specs.Seen.{seen}
use Rattle.atspi_app_answers.specs.Place.{place_of}
use Rattle.atspi_app_answers.specs.Asking.{answer_to, Asks}
use Rattle.atspi_app_answers.proofs.Telling.{found_number, part_found}
use Rattle.atspi_app_answers.specs.declared.place.AppPlace.TheVariants.{Tree, Node}

-- the numbers of the nodes of a tree fit
bounded : (t : TreeShape) → IsLawful t → EachLabel (λ (s : ShapeRow). s.node < 2 ^ 32) t.rows
bounded t lawful =
    EachLabel-weaker (λ (s : ShapeRow). 1 ≤ count (λ (b : ShapeRow). b.node == s.node) t.rows) (λ (s : ShapeRow). s.node < 2 ^ 32) small t.rows
    (each_counted (λ (a b : ShapeRow). b.node == a.node) (λ a. eq-eqb a.node a.node refl) t.rows t.rows (λ p. omega arith))
  where
    small : (s : ShapeRow) → 1 ≤ count (λ (b : ShapeRow). b.node == s.node) t.rows → s.node < 2 ^ 32
    small s one = by (nat_lt t.added s.node) refl
      where
        by : (b : Bool) → nat_lt t.added s.node ≡ b → s.node < 2 ^ 32
        by true e = let none = lawful.numbered s.node (ltb-true t.added s.node e) in absurd (omega (arith, one, none))
        by false e = let le = ltb-false t.added s.node e in omega (arith, le, lawful.few_ever)

abbrev has_path : List ℕ → ShapeRow → Bool
has_path path s = bytes_eq (path_of s.node) path

find_none : (p : ShapeRow → Bool) (f : Forest ShapeRow) → EachLabel (λ s. p s ≡ false) f → find p f ≡ None
find_none p nil h = refl
find_none p (tree a c r) h = rw (h.0, find_none p c h.1, find_none p r h.2) refl

find_same : (p q : ShapeRow → Bool) → ((s : ShapeRow) → p s ≡ q s) → (f : Forest ShapeRow) → find p f ≡ find q f
find_same p q e nil = refl
find_same p q e (tree a c r) = rw (e a, find_same p q e c, find_same p q e r) refl

same_test : (n : ℕ) (path : List ℕ) → path_of n ≡ path → (s : ShapeRow) → has_path path s ≡ (s.node == n)
same_test n path is s = by (s.node == n) refl
  where
    by : (b : Bool) → (s.node == n) ≡ b → has_path path s ≡ b
    by true e = (bytes_eq-Decides (path_of s.node) path).1 (ap path_of (eqb-true s.node n e) ∙ is)
    by false e = not_same (path_of s.node) path (λ f. eqb-false s.node n e (path_of_apart s.node n (f ∙ sym is)))

-- a node of the whole tree by its path is one of the tree
whole_find : (t : TreeShape) (faces : Faces) (path : List ℕ) → node_at (whole t.rows faces) path ≡ option_map (filled faces) (find (has_path path) t.rows)
whole_find t faces path = find-relabel (filled faces) (λ (row : TreeRow). bytes_eq (path_of row.shape.node) path) (has_path path) (λ s. refl) t.rows

abbrev or_none : Option TreeRow → Option Place
or_none None = None
or_none (Some row) = Some (node row)

place_is : (f : Forest TreeRow) (path : List ℕ) (o : Option TreeRow) → bytes_eq path cache_path ≡ false → node_at f path ≡ o → place_at f path ≡ or_none o
place_is f path None other e = rw (other, e) refl
place_is f path (Some row) other e = rw (other, e) refl

none_of : (faces : Faces) (o : Option ShapeRow) → or_none (option_map (filled faces) o) ≡ option_map (λ (s : ShapeRow). node (filled faces s)) o
none_of faces None = refl
none_of faces (Some s) = refl

-- an object has a path, whatever the contents of nodes
abbrev pub IsPlace : TreeShape → List ℕ → Option AppPlace → Type 0
IsPlace t path place = (faces : Faces) → place_at (whole t.rows faces) path ≡ option_and_then (place_of t faces) place

module _ (t : TreeShape) (path : List ℕ) where
  pub tree_place : bytes_eq path cache_path ≡ true → IsPlace t path (Some Tree)
  tree_place is faces = rw is refl

  pub no_place : IsLawful t → bytes_eq path cache_path ≡ false → ((n : ℕ) → n < 2 ^ 32 → path_of n ≢ path) → IsPlace t path None
  no_place lawful other none faces =
      place_is (whole t.rows faces) path None other
      (whole_find t faces path
      ∙ ap (option_map (filled faces))
      (find_none (has_path path) t.rows (EachLabel-weaker (λ (s : ShapeRow). s.node < 2 ^ 32) (λ s. has_path path s ≡ false) (λ s l. not_same (path_of s.node) path (none s.node l)) t.rows (bounded t lawful))))

  module _ (n : ℕ) (other : bytes_eq path cache_path ≡ false) (is : path_of n ≡ path) where
    found : (faces : Faces) (o : Option ShapeRow) → row_of n t ≡ o → place_at (whole t.rows faces) path ≡ or_none (option_map (filled faces) o)
    found faces o e =
        place_is (whole t.rows faces) path (option_map (filled faces) o) other
        (whole_find t faces path ∙ ap (option_map (filled faces)) (find_same (has_path path) (is_shape n) (same_test n path is) t.rows ∙ e))

    pub gone : has (is_shape n) t.rows ≡ false → IsPlace t path None
    gone h faces = found faces None (no_row (is_shape n) t.rows h)

    pub node_place : IsPlace t path (Some (Node n))
    node_place faces = found faces (row_of n t) refl ∙ none_of faces (row_of n t)

-- what is offered where a path was looked for
offered_map : (o : Option Place) → offered_if_there o ≡ option_map offered o
offered_map None = refl
offered_map (Some p) = refl

module _ (t : TreeShape) (e : Envelope) (place : AppPlace) (o : Object) where
  -- an object that was found is asked, and gives what is asked or an error
  asked_there : (r : Result Ask CallError) → IsPlace t (unwrap_or e.path []) (Some place) → ((faces : Faces) → option_map offered (place_of t faces place) ≡ Some o)
      → asked (Some o) e.interface e.member e.body ≡ as_asked e.body r
      → (faces : Faces) (name : List ℕ) (id : ℤ) → answer_to (seen t faces name id) e ≡ place_answers (seen t faces name id) (place_of t faces place) (as_asked e.body r)
  asked_there r is offers h faces name id =
      ap (λ p. place_answers (seen t faces name id) p (asked (offered_if_there p) e.interface e.member e.body)) (is faces)
      ∙ ap (λ q. place_answers (seen t faces name id) (place_of t faces place) (asked q e.interface e.member e.body)) (offered_map (place_of t faces place) ∙ offers faces)
      ∙ ap (place_answers (seen t faces name id) (place_of t faces place)) h

  pub asks_this : (ask : Ask) → IsPlace t (unwrap_or e.path []) (Some place) → ((faces : Faces) → option_map offered (place_of t faces place) ≡ Some o)
      → asked (Some o) e.interface e.member e.body ≡ as_asked e.body (Ok ask) → Asks t e (Ok (place, ask))
  asks_this ask is offers h = asked_there (Ok ask) is offers h

  pub asks_wrong : (error : CallError) → IsPlace t (unwrap_or e.path []) (Some place) → ((faces : Faces) → option_map offered (place_of t faces place) ≡ Some o)
      → asked (Some o) e.interface e.member e.body ≡ as_asked e.body (Err error) → Asks t e (Err error)
  asks_wrong error is offers h faces name id = asked_there (Err error) is offers h faces name id

pub asks_nobody : (t : TreeShape) (e : Envelope) → IsPlace t (unwrap_or e.path []) None → Asks t e (Err UnknownObject)
asks_nobody t e is faces name id = ap (λ p. place_answers (seen t faces name id) p (asked (offered_if_there p) e.interface e.member e.body)) (is faces)

-- what a node offers
pub node_offers : (t : TreeShape) (n : ℕ) (kinds : Kinds) → option_map (λ (s : ShapeRow). s.kinds) (row_of n t) ≡ Some kinds
    → (faces : Faces) → option_map offered (place_of t faces (Node n)) ≡ Some (object_of (AppObjects.Node (n == 0) kinds))
node_offers t n kinds h faces = by (row_of n t) refl
  where
    by : (o : Option ShapeRow) → row_of n t ≡ o → option_map offered (option_map (λ (s : ShapeRow). node (filled faces s)) (row_of n t)) ≡ Some (object_of (AppObjects.Node (n == 0) kinds))
    by None e = absurd (let z : None ≡ Some kinds = ap (option_map (λ (s : ShapeRow). s.kinds)) (sym e) ∙ h in cc)
    by (Some s) e =
        ap (λ o. option_map offered (option_map (λ (s : ShapeRow). node (filled faces s)) o)) e
        ∙ ap (λ m. Some (object_with (interfaces_of (m == 0) s.kinds))) (found_number t n s e)
        ∙ ap (λ (k : Kinds). Some (object_with (interfaces_of (n == 0) k))) (part_found (λ (s : ShapeRow). s.kinds) t n s kinds e h)
