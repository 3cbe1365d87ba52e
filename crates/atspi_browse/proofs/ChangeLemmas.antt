-- Which messages tell of a text, and what they tell.
use Rattle.std.proofs.Common.{◌≡◌, ◌==◌, ◌&&◌, ◌+◌, ℕ, ℤ, pos, negsuc, Bool, true, false, List, [], ◌∷◌, Option, None, Some, if◌then◌else◌, refl, sym, ap, ◌∙◌}
use Rattle.std.specs.Prelude.{codes, bytes_eq}
use Rattle.std.proofs.lemmas.Bool.{and_parts, eqb-true, eqb-false}
use Rattle.std.proofs.lemmas.Slice.Eq.{bytes_eq-Decides}
use Rattle.atspi_types.specs.Kinds.{byte, i16, u16, i32, u32, i64, u64, double}
use Rattle.atspi_types.specs.Data.{Data, number_data, boolean_data, text_data, path_data, signature_data, array_data, structure_data, dictionary_data, variant_data}
use Rattle.atspi_message.specs.Envelope.{Envelope}
use Rattle.atspi_tree_model.specs.Path.{path_of}
use Rattle.atspi_tree_model.proofs.Path.{path_of_apart}
use Rattle.atspi_tree_model.specs.declared.news.Item.{Item}
use Rattle.atspi_tree_model.specs.declared.news.News.{News}
use Rattle.atspi_tree_model.specs.declared.news.News.TheVariants.{ChildAdded, ChildRemoved, Name, Description, Inserted, Deleted, Nothing, Removed}
use Rattle.atspi_tree_model.specs.declared.news.Reference.{Reference}
use Rattle.atspi_protocol.specs.news.Arguments.{Event, event_in, reference_in, signed}
use Rattle.atspi_protocol.specs.news.CacheSignals.{added, cache_news, if_item, if_reference, only_of}
use Rattle.atspi_protocol.specs.news.Events.{children_changed, event_news, is_front, is_on, named_in, own_child, property_change, role_news, role_at_least_0, state_changed, state_lines, text_changed, with_text}
use Rattle.atspi_protocol.specs.news.NewsOf.{cache_interface, event_interface, if_event, news_of, or_empty}
use Rattle.atspi_browse.specs.Cursor.{Moment, other, of_message, of_news}
use Rattle.atspi_browse.specs.declared.changes.Change.{Change}
use Rattle.atspi_browse.specs.inner.Changes.{moment_of, of_deletion, of_event, of_events, of_insertion, of_minor, of_valued}

-- NEWS OF ANYTHING BUT A TEXT tell a cursor nothing
module _ (path : List ℕ) where
  abbrev Still : News → Type 0
  Still news = of_news path news ≡ other

  of_if : (b : Bool) (x y : News) → (b ≡ true → Still x) → (b ≡ false → Still y) → Still (if b then x else y)
  of_if true x y f g = f refl
  of_if false x y f g = g refl

  child_still : (bus : List ℕ) (o : Option Reference) (news : List ℕ → News) → ((p : List ℕ) → Still (news p)) → Still (own_child bus o news)
  child_still bus None news h = refl
  child_still bus (Some child) news h = of_if (bytes_eq child.bus bus) (news child.path) Nothing (λ _. h child.path) (λ _. refl)

  children_still : (bus p : List ℕ) (e : Event) → Still (children_changed bus p e)
  children_still bus p e =
      of_if (bytes_eq (codes "add") e.minor) _ _ (λ _. child_still bus (reference_in e.value) ChildAdded (λ q. refl))
      (λ _. of_if (bytes_eq (codes "remove") e.minor) _ _ (λ _. child_still bus (reference_in e.value) (ChildRemoved p e.detail1) (λ q. refl)) (λ _. refl))

  text_still : (d : Data) (news : List ℕ → News) → ((t : List ℕ) → Still (news t)) → Still (with_text d news)
  text_still (number_data n x) news h = refl
  text_still (boolean_data b) news h = refl
  text_still (text_data t) news h = h t
  text_still (path_data p) news h = refl
  text_still (signature_data k) news h = refl
  text_still (array_data k xs) news h = refl
  text_still (structure_data xs) news h = refl
  text_still (dictionary_data k v es) news h = refl
  text_still (variant_data k x) news h = refl

  signed_still : (z : ℤ) (p : List ℕ) → Still (role_at_least_0 z p)
  signed_still (pos n) p = refl
  signed_still (negsuc n) p = refl

  role_still : (d : Data) (p : List ℕ) → Still (role_news d p)
  role_still (number_data byte x) p = refl
  role_still (number_data i16 x) p = refl
  role_still (number_data u16 x) p = refl
  role_still (number_data i32 x) p = signed_still (signed x) p
  role_still (number_data u32 x) p = refl
  role_still (number_data i64 x) p = refl
  role_still (number_data u64 x) p = refl
  role_still (number_data double x) p = refl
  role_still (boolean_data b) p = refl
  role_still (text_data t) p = refl
  role_still (path_data q) p = refl
  role_still (signature_data k) p = refl
  role_still (array_data k xs) p = refl
  role_still (structure_data xs) p = refl
  role_still (dictionary_data k v es) p = refl
  role_still (variant_data k x) p = refl

  property_still : (p : List ℕ) (e : Event) → Still (property_change p e)
  property_still p e =
      of_if (bytes_eq (codes "accessible-name") e.minor) _ _ (λ _. text_still e.value (Name p) (λ t. refl))
      (λ _. of_if (bytes_eq (codes "accessible-description") e.minor) _ _ (λ _. text_still e.value (Description p) (λ t. refl))
      (λ _. of_if (bytes_eq (codes "accessible-role") e.minor) _ _ (λ _. role_still e.value p) (λ _. refl)))

  states_still : (bit : ℕ) (names : List (List ℕ)) (p : List ℕ) (on : Bool) (name : List ℕ) → Still (named_in (state_lines bit names p on) name)
  states_still bit [] p on name = refl
  states_still bit (x ∷ names) p on name = of_if (bytes_eq x name) _ _ (λ _. refl) (λ _. states_still (1 + bit) names p on name)

  state_still : (p : List ℕ) (e : Event) → Still (state_changed p e)
  state_still p e = of_if (bytes_eq (codes "default") e.minor) _ _ (λ _. refl) (λ _. states_still 0 _ p (is_on e.detail1) e.minor)

  -- an event of another name
  event_still : (bus p member : List ℕ) (e : Event) → (member ≡ codes "TextChanged" → ⊥) → Still (event_news bus p member e)
  event_still bus p member e isnt =
      of_if (bytes_eq (codes "ChildrenChanged") member) _ _ (λ _. children_still bus p e)
      (λ _. of_if (bytes_eq (codes "PropertyChange") member) _ _ (λ _. property_still p e)
      (λ _. of_if (bytes_eq (codes "StateChanged") member) _ _ (λ _. state_still p e)
      (λ _. of_if (bytes_eq (codes "TextChanged") member) _ _ (λ is_so. absurd (isnt (sym ((bytes_eq-Decides (codes "TextChanged") member).0 is_so))))
      (λ _. of_if (bytes_eq (codes "TextCaretMoved") member) _ _ (λ _. refl) (λ _. refl)))))

  if_still : (bus : List ℕ) (p : Option (List ℕ)) (member : List ℕ) (o : Option Event) → (member ≡ codes "TextChanged" → ⊥) → Still (if_event bus p member o)
  if_still bus None member o isnt = refl
  if_still bus (Some p) member None isnt = refl
  if_still bus (Some p) member (Some e) isnt = event_still bus p member e isnt

  added_still : (o : Option Item) → Still (added o)
  added_still None = refl
  added_still (Some item) = refl

  cache_still : (bus member : List ℕ) (body : List Data) → Still (cache_news bus member body)
  cache_still bus member body =
      of_if (bytes_eq (codes "AddAccessible") member) _ _ (λ _. added_still (if_item (only_of body)))
      (λ _. of_if (bytes_eq (codes "RemoveAccessible") member) _ _ (λ _. child_still bus (if_reference (only_of body)) Removed (λ q. refl)) (λ _. refl))

  left_over : (k i m : Bool) → k ≡ true → i ≡ true → k && (i && m) ≡ false → m ≡ false
  left_over true true m a b e = e
  left_over true false m a b e = absurd cc
  left_over false i m a b e = absurd cc

  not_both : (m : Bool) → m ≡ false → m ≡ true → ⊥
  not_both true a b = cc
  not_both false a b = cc

  pub quiet : (e : Envelope) → (e.kind == 4) && (bytes_eq (or_empty e.interface) event_interface && bytes_eq (or_empty e.member) (codes "TextChanged")) ≡ false → of_message path (Some e) ≡ other
  quiet e isnt =
      of_if (e.kind == 4) _ _ (λ k. of_if (bytes_eq (or_empty e.interface) event_interface) _ _
      (λ i. if_still [] e.path (or_empty e.member) (event_in e.body)
      (λ same. not_both (bytes_eq (or_empty e.member) (codes "TextChanged")) (left_over (e.kind == 4) (bytes_eq (or_empty e.interface) event_interface) (bytes_eq (or_empty e.member) (codes "TextChanged")) k i isnt)
      ((bytes_eq-Decides (or_empty e.member) (codes "TextChanged")).1 same)))
      (λ _. of_if (bytes_eq (or_empty e.interface) cache_interface) _ _ (λ _. cache_still [] (or_empty e.member) e.body) (λ _. refl))) (λ _. refl)

-- NEWS OF A TEXT
inserted_at : (path p : List ℕ) (at : ℤ) (text : List ℕ) → of_news path (Inserted p at text) ≡ (if bytes_eq p path then of_insertion at text else other)
inserted_at path p (pos n) text = refl
inserted_at path p (negsuc n) text = by (bytes_eq p path)
  where
    by : (b : Bool) → other ≡ (if b then other else other)
    by true = refl
    by false = refl

deleted_at : (path p : List ℕ) (at count : ℤ) (text : List ℕ) → of_news path (Deleted p at count text) ≡ (if bytes_eq p path then of_deletion at count else other)
deleted_at path p (pos n) (pos m) text = refl
deleted_at path p (pos n) (negsuc m) text = by (bytes_eq p path)
  where
    by : (b : Bool) → other ≡ (if b then other else other)
    by true = refl
    by false = refl
deleted_at path p (negsuc n) count text = by (bytes_eq p path)
  where
    by : (b : Bool) → other ≡ (if b then other else other)
    by true = refl
    by false = refl

none_at : (b : Bool) → other ≡ (if b then other else other)
none_at true = refl
none_at false = refl

valued_at : (path p : List ℕ) (e : Event) → of_news path (text_changed p e) ≡ (if bytes_eq p path then of_event e else other)
valued_at path p e = by e.value
  where
    nothing : (i k : Bool) → of_news path (if i then Nothing else if k then Nothing else Nothing) ≡ (if bytes_eq p path then other else other)
    nothing true k = none_at (bytes_eq p path)
    nothing false true = none_at (bytes_eq p path)
    nothing false false = none_at (bytes_eq p path)

    pick : (t : List ℕ) (i k : Bool)
        → of_news path (if i then Inserted p e.detail1 t else if k then Deleted p e.detail1 e.detail2 t else Nothing)
        ≡ (if bytes_eq p path then (if i then of_insertion e.detail1 t else if k then of_deletion e.detail1 e.detail2 else other) else other)
    pick t true k = inserted_at path p e.detail1 t
    pick t false true = deleted_at path p e.detail1 e.detail2 t
    pick t false false = none_at (bytes_eq p path)

    by : (d : Data)
        → of_news path (if is_front (codes "insert") e.minor then with_text d (Inserted p e.detail1) else if is_front (codes "delete") e.minor then with_text d (Deleted p e.detail1 e.detail2) else Nothing)
        ≡ (if bytes_eq p path then of_valued e.minor e.detail1 e.detail2 d else other)
    by (text_data t) = pick t (is_front (codes "insert") e.minor) (is_front (codes "delete") e.minor)
    by (number_data n x) = nothing (is_front (codes "insert") e.minor) (is_front (codes "delete") e.minor)
    by (boolean_data b) = nothing (is_front (codes "insert") e.minor) (is_front (codes "delete") e.minor)
    by (path_data q) = nothing (is_front (codes "insert") e.minor) (is_front (codes "delete") e.minor)
    by (signature_data q) = nothing (is_front (codes "insert") e.minor) (is_front (codes "delete") e.minor)
    by (array_data q xs) = nothing (is_front (codes "insert") e.minor) (is_front (codes "delete") e.minor)
    by (structure_data xs) = nothing (is_front (codes "insert") e.minor) (is_front (codes "delete") e.minor)
    by (dictionary_data q v es) = nothing (is_front (codes "insert") e.minor) (is_front (codes "delete") e.minor)
    by (variant_data q x) = nothing (is_front (codes "insert") e.minor) (is_front (codes "delete") e.minor)

abbrev at_path : List ℕ → Option (List ℕ) → Moment → Moment
at_path path None m = other
at_path path (Some p) m = if bytes_eq p path then m else other

event_at : (path : List ℕ) (p : Option (List ℕ)) (o : Option Event) → of_news path (if_event [] p (codes "TextChanged") o) ≡ at_path path p (of_events o)
event_at path None o = refl
event_at path (Some p) None = none_at (bytes_eq p path)
event_at path (Some p) (Some e) = valued_at path p e

picked : (b : Bool) (x y : News) → b ≡ true → (if b then x else y) ≡ x
picked true x y e = refl
picked false x y e = absurd cc

-- the message is an event of a text
abbrev IsOfText : Envelope → Type 0
IsOfText e = (e.kind == 4) && (bytes_eq (or_empty e.interface) event_interface && bytes_eq (or_empty e.member) (codes "TextChanged")) ≡ true

told_at : (path : List ℕ) (e : Envelope) → IsOfText e → of_message path (Some e) ≡ at_path path e.path (of_events (event_in e.body))
told_at path e is_so =
    let p = and_parts (e.kind == 4) (bytes_eq (or_empty e.interface) event_interface && bytes_eq (or_empty e.member) (codes "TextChanged")) is_so in
    let q = and_parts (bytes_eq (or_empty e.interface) event_interface) (bytes_eq (or_empty e.member) (codes "TextChanged")) p.1 in
    let m : or_empty e.member ≡ codes "TextChanged" = (bytes_eq-Decides (or_empty e.member) (codes "TextChanged")).0 q.1 in
    let news : news_of [] e ≡ if_event [] e.path (codes "TextChanged") (event_in e.body) =
    picked (e.kind == 4) _ _ p.0 ∙ picked (bytes_eq (or_empty e.interface) event_interface) _ _ q.0 ∙ ap (λ x. if_event [] e.path x (event_in e.body)) m in
    ap (of_news path) news ∙ event_at path e.path (event_in e.body)

-- BY THE NODE of the path
pub no_path : (e : Envelope) (n : ℕ) → IsOfText e → e.path ≡ None → of_message (path_of n) (Some e) ≡ other
no_path e n is_so none = told_at (path_of n) e is_so ∙ ap (λ p. at_path (path_of n) p (of_events (event_in e.body))) none

pub no_node : (e : Envelope) (path : List ℕ) (n : ℕ) → IsOfText e → e.path ≡ Some path → (path_of n ≡ path → ⊥) → of_message (path_of n) (Some e) ≡ other
no_node e path n is_so is isnt =
    told_at (path_of n) e is_so ∙ ap (λ p. at_path (path_of n) p (of_events (event_in e.body))) is ∙ by (bytes_eq path (path_of n)) refl
  where
    by : (b : Bool) → bytes_eq path (path_of n) ≡ b → (if b then of_events (event_in e.body) else other) ≡ other
    by true h = absurd (isnt (sym ((bytes_eq-Decides path (path_of n)).0 h)))
    by false h = refl

not_true : (b : Bool) → (b ≡ true → ⊥) → b ≡ false
not_true true f = absurd (f refl)
not_true false f = refl

pub at_node : (e : Envelope) (path : List ℕ) (node n : ℕ) (change : Option Change) → IsOfText e → e.path ≡ Some path → path_of node ≡ path → moment_of change ≡ of_events (event_in e.body)
    → of_message (path_of n) (Some e) ≡ (if node == n then moment_of change else other)
at_node e path node n change is_so is named change_is =
    told_at (path_of n) e is_so ∙ ap (λ p. at_path (path_of n) p (of_events (event_in e.body))) is ∙ ap (λ m. if bytes_eq path (path_of n) then m else other) (sym change_is)
    ∙ ap (λ b. if b then moment_of change else other) (by (node == n) refl)
  where
    by : (b : Bool) → (node == n) ≡ b → bytes_eq path (path_of n) ≡ b
    by true h = (bytes_eq-Decides path (path_of n)).1 (sym named ∙ ap path_of (eqb-true node n h))
    by false h = not_true (bytes_eq path (path_of n)) (λ t. eqb-false node n h (path_of_apart node n (named ∙ (bytes_eq-Decides path (path_of n)).0 t)))

pub none_at_node : (e : Envelope) (path : List ℕ) (n : ℕ) → IsOfText e → e.path ≡ Some path → other ≡ of_events (event_in e.body) → of_message (path_of n) (Some e) ≡ other
none_at_node e path n is_so is none =
    told_at (path_of n) e is_so ∙ ap (λ p. at_path (path_of n) p (of_events (event_in e.body))) is ∙ ap (λ m. if bytes_eq path (path_of n) then m else other) (sym none)
    ∙ sym (none_at (bytes_eq path (path_of n)))

-- WHAT AN EVENT OF A TEXT TELLS, by its minor
pub told_insert : (minor : List ℕ) (at count : ℤ) (text : List ℕ) (m : Moment) → is_front (codes "insert") minor ≡ true → m ≡ of_insertion at text → m ≡ of_minor minor at count text
told_insert minor at count text m f h = h ∙ sym (ap (λ b. if b then of_insertion at text else if is_front (codes "delete") minor then of_deletion at count else other) f)

pub told_delete : (minor : List ℕ) (at count : ℤ) (text : List ℕ) (m : Moment) → is_front (codes "insert") minor ≡ false → is_front (codes "delete") minor ≡ true → m ≡ of_deletion at count → m ≡ of_minor minor at count text
told_delete minor at count text m f g h =
    h
    ∙ sym (ap (λ b. if b then of_insertion at text else if is_front (codes "delete") minor then of_deletion at count else other) f ∙ ap (λ b. if b then of_deletion at count else other) g)

pub told_neither : (minor : List ℕ) (at count : ℤ) (text : List ℕ) → is_front (codes "insert") minor ≡ false → is_front (codes "delete") minor ≡ false → other ≡ of_minor minor at count text
told_neither minor at count text f g =
    sym (ap (λ b. if b then of_insertion at text else if is_front (codes "delete") minor then of_deletion at count else other) f ∙ ap (λ b. if b then of_deletion at count else other) g)
