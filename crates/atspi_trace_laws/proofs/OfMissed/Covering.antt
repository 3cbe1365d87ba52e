-- The five patterns of a reader cover all that applications tell.
use Rattle.std.proofs.Common.{◌≡◌, ℕ, Bool, true, false, List, [], ◌∷◌, ◌++◌, map, Option, None, Some, refl, sym, ap, ◌∙◌}
use Rattle.std.specs.Prelude.{◌&&◌, ◌||◌, bytes_eq, codes, encode_utf8_all}
use Rattle.std.specs.List.{AllByRecursion, list_any}
use Rattle.std.proofs.lemmas.Slice.Eq.{bytes_eq-Decides}
use lib.Utf8.{encode}
use Rattle.atspi_tree_model.specs.declared.step.Step.{Step}
use Rattle.atspi_tree_model.specs.declared.step.Step.TheVariants.{Add, Remove, Move, SetName, SetDescription, SetRole, SetState, Insert, Delete, Caret, TextSelect, Relate}
use Rattle.atspi_tree_model.specs.Forest.{Forest, labels, width, pick, find, children_at}
use Rattle.atspi_tree_model.specs.Row.{TreeRow}
use Rattle.atspi_tree_model.specs.RowRules.{rows}
use Rattle.atspi_tree_model.specs.Tree.{is_node, after, seat_of}
use Rattle.atspi_protocol.specs.ends.Covering.{covers}
use Rattle.atspi_protocol.specs.announcing.Signals.{Signal, removed}
use Rattle.atspi_protocol.specs.announcing.Announced.{told_node, left, announced}
use Rattle.atspi_protocol.specs.exporting.Hearing.{is_pair, is_heard, is_covered}
use Rattle.atspi_trace_laws.specs.folds.Laws.{AreAllCovered}
use Rattle.atspi_trace_laws.specs.missed.Laws.{IsHeardOf, AreHeardOf}
use Rattle.atspi_trace_laws.proofs.OfOrder.Parties.{false_true, all_append}

and_right : (a b : Bool) → (a && b) ≡ true → b ≡ true
and_right true b h = h
and_right false b h = absurd (false_true h)

or_true : (a b : Bool) → b ≡ true → (a || b) ≡ true
or_true true b h = refl
or_true false b h = h

-- a pattern that was heard covers what it covers, whoever listens
heard_covers : (listener pattern event minor : List ℕ) (pairs : List (List ℕ × List ℕ)) → covers (encode_utf8_all pattern) event minor ≡ true → is_heard pairs (listener, pattern) ≡ true → is_covered pairs event minor ≡ true
heard_covers listener pattern event minor [] c h = absurd (false_true h)
heard_covers listener pattern event minor (q ∷ qs) c h = by (is_pair (listener, pattern) q) refl h (λ g. heard_covers listener pattern event minor qs c g)
  where
    by : (b : Bool) → is_pair (listener, pattern) q ≡ b → (b || list_any (is_pair (listener, pattern)) qs) ≡ true → (list_any (is_pair (listener, pattern)) qs ≡ true → is_covered qs event minor ≡ true)
        → (covers (encode_utf8_all q.1) event minor || is_covered qs event minor) ≡ true
    by true g k f =
        let same : pattern ≡ q.1 = (bytes_eq-Decides pattern q.1).0 (and_right (bytes_eq listener q.0) (bytes_eq pattern q.1) g) in
        ap (λ t. covers (encode_utf8_all t) event minor || is_covered qs event minor) (sym same) ∙ ap (λ b. b || is_covered qs event minor) c
    by false g k f = or_true (covers (encode_utf8_all q.1) event minor) (is_covered qs event minor) (f k)

-- what each covers
children_covered : (minor : List ℕ) → covers (encode_utf8_all (codes "object:children-changed")) (codes "children-changed") minor ≡ true
unfolding encode
children_covered minor = refl

property_covered : (minor : List ℕ) → covers (encode_utf8_all (codes "object:property-change")) (codes "property-change") minor ≡ true
unfolding encode
property_covered minor = refl

state_covered : (minor : List ℕ) → covers (encode_utf8_all (codes "object:state-changed")) (codes "state-changed") minor ≡ true
unfolding encode
state_covered minor = refl

text_covered : (minor : List ℕ) → covers (encode_utf8_all (codes "object:text-changed")) (codes "text-changed") minor ≡ true
unfolding encode
text_covered minor = refl

caret_covered : (minor : List ℕ) → covers (encode_utf8_all (codes "object:text-caret-moved")) (codes "text-caret-moved") minor ≡ true
unfolding encode
caret_covered minor = refl

by_heard : (pairs : List (List ℕ × List ℕ)) (pattern event minor : List ℕ) → covers (encode_utf8_all pattern) event minor ≡ true → IsHeardOf pairs pattern → is_covered pairs event minor ≡ true
by_heard pairs pattern event minor c h = heard_covers h.0 pattern event minor pairs c h.1

module _ (pairs : List (List ℕ × List ℕ)) (heard : AreHeardOf pairs) where
  abbrev IsAsked : Signal → Type 0
  IsAsked s = is_covered pairs s.event s.minor ≡ true

  children_ : (minor : List ℕ) → is_covered pairs (codes "children-changed") minor ≡ true
  children_ minor = by_heard pairs (codes "object:children-changed") (codes "children-changed") minor (children_covered minor) heard.0

  property_ : (minor : List ℕ) → is_covered pairs (codes "property-change") minor ≡ true
  property_ minor = by_heard pairs (codes "object:property-change") (codes "property-change") minor (property_covered minor) heard.1.0

  state_ : (minor : List ℕ) → is_covered pairs (codes "state-changed") minor ≡ true
  state_ minor = by_heard pairs (codes "object:state-changed") (codes "state-changed") minor (state_covered minor) heard.1.1.0

  text_ : (minor : List ℕ) → is_covered pairs (codes "text-changed") minor ≡ true
  text_ minor = by_heard pairs (codes "object:text-changed") (codes "text-changed") minor (text_covered minor) heard.1.1.1.0

  caret_ : (minor : List ℕ) → is_covered pairs (codes "text-caret-moved") minor ≡ true
  caret_ minor = by_heard pairs (codes "object:text-caret-moved") (codes "text-caret-moved") minor (caret_covered minor) heard.1.1.1.1.0

  node_asked : (b : List ℕ) (p i n : ℕ) (o : Option TreeRow) → AllByRecursion IsAsked (told_node b p i n o)
  node_asked b p i n None = tt
  node_asked b p i n (Some row) = (children_ _, tt)

  left_asked : (b : List ℕ) (n : ℕ) (o : Option (Option ℕ × ℕ)) → AllByRecursion IsAsked (left b n o)
  left_asked b n None = tt
  left_asked b n (Some (None, index)) = tt
  left_asked b n (Some (Some parent, index)) = (children_ _, tt)

  removed_asked : (b : List ℕ) (rs : List TreeRow) → AllByRecursion IsAsked (map (λ (row : TreeRow). removed b row.shape.node) rs)
  removed_asked b [] = tt
  removed_asked b (r ∷ rs) = (children_ _, removed_asked b rs)

  pub all_covered : (b : List ℕ) (f : Forest TreeRow) (step : Step) → AreAllCovered pairs (announced b f step)
  all_covered b f (Add n p i seed) = (children_ _, (children_ _, tt))
  all_covered b f (Remove n) =
      all_append IsAsked (left b n (seat_of rows n f)) (map (λ (row : TreeRow). removed b row.shape.node) (labels (pick (is_node n) f))) (left_asked b n (seat_of rows n f)) (removed_asked b (labels (pick (is_node n) f)))
  all_covered b f (Move n p i) =
      let g : Forest TreeRow = after rows f (Move n p i) in
      all_append IsAsked (told_node b p i (width (children_at (is_node n) g)) (find (is_node n) g) ++ left b n (seat_of rows n f)) _
      (all_append IsAsked (told_node b p i (width (children_at (is_node n) g)) (find (is_node n) g)) (left b n (seat_of rows n f)) (node_asked b p i (width (children_at (is_node n) g)) (find (is_node n) g))
      (left_asked b n (seat_of rows n f)))
      (property_ _, (children_ _, tt))
  all_covered b f (SetName n x) = (property_ _, tt)
  all_covered b f (SetDescription n x) = (property_ _, tt)
  all_covered b f (SetRole n role) = (property_ _, tt)
  all_covered b f (SetState n state on) = (state_ _, tt)
  all_covered b f (Insert n at x) = (text_ _, tt)
  all_covered b f (Delete n at x) = (text_ _, tt)
  all_covered b f (Caret n at) = (caret_ _, tt)
  all_covered b f (TextSelect n marks) = tt
  all_covered b f (Relate n kind targets) = tt

pub patterns_cover : (pairs : List (List ℕ × List ℕ)) (name : List ℕ) (f : Forest TreeRow) (step : Step) → AreHeardOf pairs → AreAllCovered pairs (announced name f step)
patterns_cover pairs name f step heard = all_covered pairs heard name f step
