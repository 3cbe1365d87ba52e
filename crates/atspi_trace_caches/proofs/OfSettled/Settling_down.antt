-- The facts together: where nothing waits, each reader that is here holds each application that is here as it is now, with every part known.
use Rattle.std.proofs.Common.{◌≡◌, ◌⊎◌, inl, inr, ℕ, zero, suc, Bool, true, false, List, [], ◌∷◌, ◌++◌, map, Option, None, Some, refl, sym, ap, ◌∙◌, subst}
use Rattle.std.specs.Prelude.{◌&&◌}
use Rattle.std.specs.List.{AllByRecursion, list_all}
use Rattle.atspi_base.specs.valid_names.Names.{is_bus_name}
use Rattle.atspi_tree_model.specs.declared.view.Row.{Row}
use Rattle.atspi_tree_model.specs.Forest.{Forest, nil, tree, first_of, labels, relabel}
use Rattle.atspi_tree_model.specs.Path.{path_of}
use Rattle.atspi_tree_model.specs.Row.{TextContents, TreeRow}
use Rattle.atspi_tree_model.specs.View.{text_part, number_part, characters_of, caret_of, shown, view}
use Rattle.atspi_script_lines.specs.declared.line.Party.{Party}
use Rattle.atspi_script_lines.specs.declared.line.Party.TheVariants.{Bus as The_bus, Registry, App, Reader}
use Rattle.atspi_protocol.specs.declared.news.part.PartName.{PartName}
use Rattle.atspi_protocol.specs.declared.news.part.PartName.TheVariants.{Text, Caret, Columns}
use Rattle.atspi_protocol.specs.declared.following.question.Question.{Question}
use Rattle.atspi_protocol.specs.declared.following.question.Question.TheVariants.{GetChildren, GetItems, GetPart}
use Rattle.atspi_protocol.specs.following.ReaderState.{start_calls}
use Rattle.atspi_protocol.specs.following.Wishes.{is_refused, text_is_unknown, number_is_unknown, unknown_if, unknown_parts}
use Rattle.atspi_protocol.specs.exporting.Exporter.{Phase, new, awaits, over, Exporter}
use Rattle.atspi_trace.specs.Entry.{Entry}
use Rattle.atspi_trace.specs.World.{Standing, here, stopped, away, Fate, waits, returned, failed, Asked, Holding, Role, the_registry, an_application, a_reader, Hearer, Said, Letter, End, World}
use Rattle.atspi_trace.specs.Ends.{number_of, end_at}
use Rattle.atspi_trace.specs.Hearing.{holding_of, is_answered}
use Rattle.atspi_trace.specs.Causes.{routes, gets, told_in}
use Rattle.atspi_trace.specs.Work.{up_turn, down_turn, first_up, first_down}
use Rattle.atspi_trace.specs.Due.{IsFollowed, HoldsWell, Follows, FollowsAll, IsSettled}
use Rattle.atspi_trace_laws.specs.laws.NineLaws.{Everywhere}
use Rattle.atspi_trace_caches.specs.settled.Laws.{NothingWaits, AsksOfNode, IsAsked, question_of, BeginsWell, IsPartAsked, ArePartsAsked, IsNameHere, HasAskedAll, AllAsk}
use Rattle.atspi_trace_laws.proofs.OfOrder.Parties.{no_none, same_some, false_true}
use Rattle.atspi_trace_laws.proofs.OfOrder.Shape.{RoleFits, Shape}
use Rattle.atspi_trace_laws.proofs.OfOwn.Writing.{Lives}
use Rattle.atspi_trace_caches.proofs.OfServed.Facts.{Embeds}
use Rattle.atspi_trace_caches.proofs.OfSettled.Facts.{IsForOne, IsAppName, IsReplied, AllReplied, AllEmbed, IsIn, AllTold, NeverFails, IsNotRefused, NoneRefused, IsHeld, AllHeld, HasNone, Lacks, WaitsFor, AllPartsTold}

-- NOTHING IS ON A LINK of an end that is here
pub none_of : {A : Type 0} (o p : Option A) → first_of o p ≡ None → (o ≡ None) × (p ≡ None)
none_of None p h = (refl, h)
none_of (Some x) p h = absurd (no_none x (sym h))

up_rests : (n k : ℕ) (ends : List End) (e : End) → first_up n ends ≡ None → end_at ends k ≡ Some e → (conn : ℕ) × (up_turn conn e.standing e.up ≡ None)
up_rests n k [] e h there = absurd (no_none e there)
up_rests n zero (x ∷ xs) e h there = (n, subst (λ (y : End). up_turn n y.standing y.up ≡ None) (same_some x e there) (none_of (up_turn n x.standing x.up) (first_up (suc n) xs) h).0)
up_rests n (suc k) (x ∷ xs) e h there = up_rests (suc n) k xs e (none_of (up_turn n x.standing x.up) (first_up (suc n) xs) h).1 there

down_rests : (n k : ℕ) (ends : List End) (e : End) → first_down n ends ≡ None → end_at ends k ≡ Some e → (conn : ℕ) × (down_turn conn e.standing e.down ≡ None)
down_rests n k [] e h there = absurd (no_none e there)
down_rests n zero (x ∷ xs) e h there = (n, subst (λ (y : End). down_turn n y.standing y.down ≡ None) (same_some x e there) (none_of (down_turn n x.standing x.down) (first_down (suc n) xs) h).0)
down_rests n (suc k) (x ∷ xs) e h there = down_rests (suc n) k xs e (none_of (down_turn n x.standing x.down) (first_down (suc n) xs) h).1 there

pub up_empty : (w : World) (k : ℕ) (e : End) → NothingWaits w → end_at w.ends k ≡ Some e → e.standing ≡ here → e.up ≡ []
up_empty w k e none there on =
    let x = up_rests 0 k w.ends e (none_of (first_up 0 w.ends) (first_down 0 w.ends) none).0 there in
    by x.0 e.up (subst (λ s. up_turn x.0 s e.up ≡ None) on x.1)
  where
    by : (conn : ℕ) (l : List Said) → up_turn conn here l ≡ None → l ≡ []
    by conn [] h = refl
    by conn (said ∷ rest) h = absurd (no_none (routes conn) (sym h))

pub down_empty : (w : World) (k : ℕ) (e : End) → NothingWaits w → end_at w.ends k ≡ Some e → e.standing ≡ here → e.down ≡ []
down_empty w k e none there on =
    let x = down_rests 0 k w.ends e (none_of (first_up 0 w.ends) (first_down 0 w.ends) none).1 there in
    by x.0 e.down (subst (λ s. down_turn x.0 s e.down ≡ None) on x.1)
  where
    by : (conn : ℕ) (l : List Letter) → down_turn conn here l ≡ None → l ≡ []
    by conn [] h = refl
    by conn (letter ∷ rest) h = absurd (no_none (gets conn) (sym h))

-- WHAT WAS ASKED
abbrev InQuestions : Question → List Question → Type 0
InQuestions q [] = ⊥
InQuestions q (x ∷ xs) = (x ≡ q) ⊎ InQuestions q xs

asked_in : (q : Question) (asked : List Asked) (qs : List Question) → map question_of asked ≡ qs → InQuestions q qs → IsAsked q asked
asked_in q asked qs is i = by asked (subst (InQuestions q) (sym is) i)
  where
    by : (asked : List Asked) → InQuestions q (map question_of asked) → IsAsked q asked
    by [] i = i
    by (x ∷ xs) (inl h) = inl h
    by (x ∷ xs) (inr i) = inr (by xs i)

asks_children : (asked : List Asked) → BeginsWell asked → IsAsked GetChildren asked
asks_children asked b = asked_in GetChildren asked (start_calls ++ b.0) b.1 (inr (inr (inr (inr (inr (inr (inr (inr (inr (inl refl))))))))))

-- one that was asked, with what holds of all
found_asked : (P : Asked → Type 0) (q : Question) (asked : List Asked) → AllByRecursion P asked → IsAsked q asked → (x : Asked) × (x.question ≡ q) × P x
found_asked P q [] a i = absurd i
found_asked P q (x ∷ xs) a (inl h) = (x, h, a.0)
found_asked P q (x ∷ xs) a (inr i) = found_asked P q xs a.1 i

both : {X : Type 0} (P Q : X → Type 0) (xs : List X) → AllByRecursion P xs → AllByRecursion Q xs → AllByRecursion (λ x. P x × Q x) xs
both P Q [] a b = tt
both P Q (x ∷ xs) a b = ((a.0, b.0), both P Q xs a.1 b.1)

both_true : (a b : Bool) → a ≡ true → b ≡ true → (a && b) ≡ true
both_true true b h g = g
both_true false b h g = absurd (false_true h)

answered_if : (x : Asked) → (x.fate ≡ waits → ⊥) → is_answered x ≡ true
answered_if x h = by x.fate refl
  where
    by : (f : Fate) → x.fate ≡ f → is_answered (record x { fate = f }) ≡ true
    by waits g = absurd (h g)
    by returned g = refl
    by failed g = refl

all_answered : (ends : List End) (asked : List Asked) → AllByRecursion (IsReplied ends) asked → AllByRecursion (λ (x : Asked). IsForOne ends x.question) asked → list_all is_answered asked ≡ true
all_answered ends [] r o = refl
all_answered ends (x ∷ xs) r o = both_true (is_answered x) (list_all is_answered xs) (answered_if x (r.0 o.0)) (all_answered ends xs r.1 o.1)

-- it was returned
was_returned : (f : Fate) → (f ≡ waits → ⊥) → (f ≡ failed → ⊥) → f ≡ returned
was_returned waits a b = absurd (a refl)
was_returned failed a b = absurd (b refl)
was_returned returned a b = refl

name_in_all : (P : List ℕ → Type 0) (name : List ℕ) (names : List (List ℕ)) → AllByRecursion P names → IsIn name names → P name
name_in_all P name [] a i = absurd i
name_in_all P name (n ∷ ns) a (inl h) = subst P h a.0
name_in_all P name (n ∷ ns) a (inr i) = name_in_all P name ns a.1 i

-- nobody waits for a call that was replied
none_waits : (ends : List End) (q : Question) (asked : List Asked) → AllByRecursion (IsReplied ends) asked → AllByRecursion (λ (x : Asked). IsForOne ends x.question) asked → WaitsFor q asked → ⊥
none_waits ends q [] r o w = w
none_waits ends q (x ∷ xs) r o (inl h) = r.0 o.0 h.1
none_waits ends q (x ∷ xs) r o (inr w) = none_waits ends q xs r.1 o.1 w

-- THE PARTS OF A ROW: each that is unknown was asked for, and each that was asked for was told or is not there
row_known : (parts : List (List ℕ × PartName)) (row : TreeRow) (P : PartName → Type 0) → AllByRecursion P (unknown_parts (shown (told_in parts) row))
    → ((part : PartName) → P part → (is_refused parts (path_of row.shape.node) part ≡ true) ⊎ HasNone part row) → unknown_parts (shown (told_in parts) row) ≡ []
row_known parts row P a f = by (text_of row.contents.text (is_refused parts (path_of row.shape.node) Text) (f Text)) (caret_is row.contents.text (is_refused parts (path_of row.shape.node) Caret) (f Caret)) (columns_is row.contents.columns (is_refused parts (path_of row.shape.node) Columns) (f Columns)) a
  where
    text_of : (o : Option TextContents) (b : Bool) → (P Text → (b ≡ true) ⊎ (o ≡ None)) → (text_is_unknown (text_part b (characters_of o)) ≡ false) ⊎ (P Text → ⊥)
    text_of None b g = inl refl
    text_of (Some t) true g = inl refl
    text_of (Some t) false g = inr (λ p. no (g p))
      where
        no : (false ≡ true) ⊎ (Some t ≡ None) → ⊥
        no (inl h) = false_true h
        no (inr h) = no_none t (sym h)

    caret_is : (o : Option TextContents) (b : Bool) → (P Caret → (b ≡ true) ⊎ (o ≡ None)) → (number_is_unknown (number_part b (caret_of o)) ≡ false) ⊎ (P Caret → ⊥)
    caret_is None b g = inl refl
    caret_is (Some t) true g = inl refl
    caret_is (Some t) false g = inr (λ p. no (g p))
      where
        no : (false ≡ true) ⊎ (Some t ≡ None) → ⊥
        no (inl h) = false_true h
        no (inr h) = no_none t (sym h)

    columns_is : (o : Option ℕ) (b : Bool) → (P Columns → (b ≡ true) ⊎ (o ≡ None)) → (number_is_unknown (number_part b o) ≡ false) ⊎ (P Columns → ⊥)
    columns_is None b g = inl refl
    columns_is (Some t) true g = inl refl
    columns_is (Some t) false g = inr (λ p. no (g p))
      where
        no : (false ≡ true) ⊎ (Some t ≡ None) → ⊥
        no (inl h) = false_true h
        no (inr h) = no_none t (sym h)

    none : (b c d : Bool) → (b ≡ false) ⊎ (P Text → ⊥) → (c ≡ false) ⊎ (P Caret → ⊥) → (d ≡ false) ⊎ (P Columns → ⊥) → AllByRecursion P (unknown_if b Text ++ (unknown_if c Caret ++ unknown_if d Columns))
        → unknown_if b Text ++ (unknown_if c Caret ++ unknown_if d Columns) ≡ []
    none true c d (inl h) y z a = absurd (false_true (sym h))
    none true c d (inr h) y z a = absurd (h a.0)
    none false true d x (inl h) z a = absurd (false_true (sym h))
    none false true d x (inr h) z a = absurd (h a.0)
    none false false true x y (inl h) a = absurd (false_true (sym h))
    none false false true x y (inr h) a = absurd (h a.0)
    none false false false x y z a = refl

    row_of : Row
    row_of = shown (told_in parts) row

    by : (text_is_unknown row_of.text ≡ false) ⊎ (P Text → ⊥) → (number_is_unknown row_of.caret ≡ false) ⊎ (P Caret → ⊥) → (number_is_unknown row_of.columns ≡ false) ⊎ (P Columns → ⊥)
        → AllByRecursion P (unknown_parts row_of) → unknown_parts row_of ≡ []
    by x y z a = none (text_is_unknown row_of.text) (number_is_unknown row_of.caret) (number_is_unknown row_of.columns) x y z a

-- the rows of a view
labels_relabel : {A B : Type 0} (h : A → B) (f : Forest A) → labels (relabel h f) ≡ map h (labels f)
labels_relabel h nil = refl
labels_relabel h (tree a children rest) = ap (λ xs. h a ∷ (xs ++ labels (relabel h rest))) (labels_relabel h children) ∙ ap (λ xs. h a ∷ (map h (labels children) ++ xs)) (labels_relabel h rest) ∙ ap (λ xs. h a ∷ xs) (sym (map_front h (labels children) (labels rest)))
  where
    map_front : {A B : Type 0} (h : A → B) (xs ys : List A) → map h (xs ++ ys) ≡ map h xs ++ map h ys
    map_front h [] ys = refl
    map_front h (x ∷ xs) ys = ap (λ l. h x ∷ l) (map_front h xs ys)

abbrev IsKnownRow : Row → Type 0
IsKnownRow row = unknown_parts row ≡ []

abbrev LacksAt : List ℕ → PartName → TreeRow → Type 0
LacksAt path part row = path_of row.shape.node ≡ path → HasNone part row

rows_known : (parts : List (List ℕ × PartName)) (P : List ℕ → PartName → Type 0) (rows : List TreeRow)
    → AllByRecursion (λ (row : Row). AllByRecursion (P row.path) (unknown_parts row)) (map (shown (told_in parts)) rows)
    → ((path : List ℕ) (part : PartName) → P path part → (is_refused parts path part ≡ true) ⊎ AllByRecursion (LacksAt path part) rows)
    → AllByRecursion IsKnownRow (map (shown (told_in parts)) rows)
rows_known parts P [] a f = tt
rows_known parts P (row ∷ rows) a f = (
  row_known parts row (P (path_of row.shape.node)) a.0 (λ part p. first part (f (path_of row.shape.node) part p)),
  rows_known parts P rows a.1 (λ path part p. later path part (f path part p)),
)
  where
    first : (part : PartName) → (is_refused parts (path_of row.shape.node) part ≡ true) ⊎ AllByRecursion (LacksAt (path_of row.shape.node) part) (row ∷ rows) → (is_refused parts (path_of row.shape.node) part ≡ true) ⊎ HasNone part row
    first part (inl h) = inl h
    first part (inr l) = inr (l.0 refl)

    later : (path : List ℕ) (part : PartName) → (is_refused parts path part ≡ true) ⊎ AllByRecursion (LacksAt path part) (row ∷ rows) → (is_refused parts path part ≡ true) ⊎ AllByRecursion (LacksAt path part) rows
    later path part (inl h) = inl h
    later path part (inr l) = inr l.1

-- WHAT ELSE IS KNOWN of a world: every own call of a reader is for the bus, the registry or an application; an application has begun its start, and where it embedded it has its name; what a reader
-- holds of one that is here is as that is now
abbrev pub AllForOne : World → Type 0
AllForOne w = (k r : ℕ) (e : End) (h : Hearer) → end_at w.ends k ≡ Some e → e.who ≡ Reader r → e.role ≡ a_reader h → e.standing ≡ here → AllByRecursion (λ (x : Asked). IsForOne w.ends x.question) h.asked

abbrev pub AllBegun : World → Type 0
AllBegun w = (k a : ℕ) (e : End) (s : Exporter) → end_at w.ends k ≡ Some e → e.who ≡ App a → e.role ≡ an_application s → e.standing ≡ here → s.phase ≡ new → ⊥

abbrev pub HasItsName : End → Type 0
HasItsName e = (name : List ℕ) × (e.unique ≡ Some name) × (is_bus_name name ≡ true)

abbrev pub AllNamed : List Entry → World → Type 0
AllNamed es w = Lives es → (k a : ℕ) (e : End) (s : Exporter) → end_at w.ends k ≡ Some e → e.who ≡ App a → e.role ≡ an_application s → e.standing ≡ here → Embeds es a → HasItsName e

abbrev pub AllAsNow : World → Type 0
AllAsNow w =
    (k r : ℕ) (e : End) (h : Hearer) → end_at w.ends k ≡ Some e → e.who ≡ Reader r → e.role ≡ a_reader h → e.standing ≡ here
    → (j a : ℕ) (d : End) (s : Exporter) → end_at w.ends j ≡ Some d → d.who ≡ App a → d.role ≡ an_application s → d.standing ≡ here
    → (held : Holding) → holding_of a h.holds ≡ Some held → view (told_in held.told) held.tree ≡ view (told_in held.told) s.tree

-- THE WHOLE
module _ (es : List Entry) (w : World) (shape : Shape w) (live : Lives es) (nodes : Everywhere AsksOfNode es) (replied : AllReplied w) (embed : AllEmbed es w) (told : AllTold es w) (refused : NoneRefused es w) (held : AllHeld es w)
    (parts : AllPartsTold es w) (one : AllForOne w) (begun : AllBegun w) (named : AllNamed es w) (as_now : AllAsNow w) (asks : AllAsk es w) where
  -- a reader and an application
  module _ (k r : ℕ) (e : End) (h : Hearer) (there : end_at w.ends k ≡ Some e) (whose : e.who ≡ Reader r) (role : e.role ≡ a_reader h) (on : e.standing ≡ here) (j a : ℕ) (d : End) (s : Exporter) (its_there : end_at w.ends j ≡ Some d)
      (its_whose : d.who ≡ App a) (its_role : d.role ≡ an_application s) (its_on : d.standing ≡ here) where
    all_replied : AllByRecursion (IsReplied w.ends) h.asked
    all_replied = replied.readers k r e h there whose role on

    all_one : AllByRecursion (λ (x : Asked). IsForOne w.ends x.question) h.asked
    all_one = one k r e h there whose role on

    ask : HasAskedAll es w.ends r h
    ask = asks k r e h there whose on role (all_answered w.ends h.asked all_replied all_one)

    is_over : (p : Phase) → s.phase ≡ p → s.phase ≡ over
    is_over new at = absurd (begun j a d s its_there its_whose its_role its_on at)
    is_over (awaits call serial) at = absurd (replied.apps j a d s its_there its_whose its_role its_on call serial at)
    is_over over at = at

    embeds : Embeds es a
    embeds = embed live j a d s its_there its_whose its_role its_on (is_over s.phase refl)

    its : HasItsName d
    its = named live j a d s its_there its_whose its_role its_on embeds

    it_is : IsAppName w.ends its.0
    it_is = (j, a, d, its_there, its_whose, its_on, its.1)

    -- it was told of
    abbrev TellsOf : Asked → Type 0
    TellsOf x =
        x.question ≡ GetChildren → x.fate ≡ returned
        → (j a : ℕ) (d : End) (name : List ℕ) → end_at w.ends j ≡ Some d → d.who ≡ App a → d.standing ≡ here → d.unique ≡ Some name → Embeds es a → IsIn name h.named

    abbrev Known : Asked → Type 0
    Known x = (IsReplied w.ends x × IsForOne w.ends x.question) × IsNotRefused w.ends x

    all_known : AllByRecursion Known h.asked
    all_known =
        both (λ (x : Asked). IsReplied w.ends x × IsForOne w.ends x.question) (IsNotRefused w.ends) h.asked (both (IsReplied w.ends) (λ (x : Asked). IsForOne w.ends x.question) h.asked all_replied all_one)
        (refused live k r e h there whose role on)

    is_told : IsIn its.0 h.named
    is_told =
        let x = found_asked (λ (x : Asked). Known x × TellsOf x) GetChildren h.asked (both Known TellsOf h.asked all_known (told live k r e h there whose role on ask.starts)) (asks_children h.asked ask.starts) in
        x.2.1 x.1 (was_returned x.0.fate (x.2.0.0.0 x.2.0.0.1) (subst (NeverFails w.ends x.0.fate) x.1 x.2.0.1)) j a d its.0 its_there its_whose its_on its.1 embeds

    -- its items were asked for and returned
    holds : (hold : Holding) × (holding_of a h.holds ≡ Some hold)
    holds =
        let i = name_in_all (λ name. IsNameHere w.ends name → IsAsked (GetItems name) h.asked) its.0 h.named ask.items is_told it_is in
        let x = found_asked (λ (x : Asked). Known x × IsHeld w.ends h x) (GetItems its.0) h.asked (both Known (IsHeld w.ends h) h.asked all_known (held live k r e h there whose role on)) i in
        x.2.1 its.0 x.1 (was_returned x.0.fate (x.2.0.0.0 x.2.0.0.1) (subst (NeverFails w.ends x.0.fate) x.1 x.2.0.1 it_is)) j a d its_there its_whose its_on its.1

    -- and so were its parts
    follows_it : (hold : Holding) → holding_of a h.holds ≡ Some hold → IsFollowed s.tree hold
    follows_it hold has = record { same = same; known = subst (λ v. AllByRecursion IsKnownRow (labels v)) (sym same) (subst (AllByRecursion IsKnownRow) (sym rows_are) known) }
      where
        same : view (told_in hold.told) hold.tree ≡ view (told_in hold.told) s.tree
        same = as_now k r e h there whose role on j a d s its_there its_whose its_role its_on hold has

        rows_are : labels (view (told_in hold.told) s.tree) ≡ map (shown (told_in hold.told)) (labels s.tree)
        rows_are = labels_relabel (shown (told_in hold.told)) s.tree

        asked : AllByRecursion (ArePartsAsked es r a its.0) (map (shown (told_in hold.told)) (labels s.tree))
        asked =
            subst (AllByRecursion (ArePartsAsked es r a its.0)) rows_are
            (subst (λ v. AllByRecursion (ArePartsAsked es r a its.0) (labels v)) same (ask.parts j a d its.0 hold its_there its_whose its.1 has))

        found : (path : List ℕ) (part : PartName) → IsPartAsked es r a its.0 path part → (is_refused hold.told path part ≡ true) ⊎ Lacks s.tree path part
        found path part p = by (parts live nodes k r e h there whose role on j a d s its.0 its_there its_whose its_role its_on its.1 hold has path part p)
          where
            by : WaitsFor (GetPart its.0 path part) h.asked ⊎ ((is_refused hold.told path part ≡ true) ⊎ Lacks s.tree path part) → (is_refused hold.told path part ≡ true) ⊎ Lacks s.tree path part
            by (inl waiting) = absurd (none_waits w.ends (GetPart its.0 path part) h.asked all_replied all_one waiting)
            by (inr other) = other

        known : AllByRecursion IsKnownRow (map (shown (told_in hold.told)) (labels s.tree))
        known = rows_known hold.told (IsPartAsked es r a its.0) (labels s.tree) asked found

    pub holds_well : HoldsWell s.tree (holding_of a h.holds)
    holds_well = subst (HoldsWell s.tree) (sym holds.1) (follows_it holds.0 holds.1)

  -- each of each
  fits : (k : ℕ) (e : End) → end_at w.ends k ≡ Some e → (p : Party) → e.who ≡ p → (role : Role) → e.role ≡ role → RoleFits p role
  fits k e there p whose role is = subst (λ q. RoleFits q role) whose (subst (RoleFits e.who) is (shape.roles k e there))

  follows_end : (k r : ℕ) (e : End) (h : Hearer) → end_at w.ends k ≡ Some e → e.who ≡ Reader r → e.role ≡ a_reader h → e.standing ≡ here → (j : ℕ) (d : End) → end_at w.ends j ≡ Some d → Follows h (number_of d.who) d.standing d.role
  follows_end k r e h there whose role on j d its_there = by d.standing refl d.role refl d.who refl
    where
      by : (st : Standing) → d.standing ≡ st → (ro : Role) → d.role ≡ ro → (p : Party) → d.who ≡ p → Follows h (number_of p) st ro
      by here its_on (an_application s) its_role (App a) its_whose = holds_well k r e h there whose role on j a d s its_there its_whose its_role its_on
      by here its_on (an_application s) its_role The_bus its_whose = absurd (fits j d its_there The_bus its_whose (an_application s) its_role)
      by here its_on (an_application s) its_role Registry its_whose = absurd (fits j d its_there Registry its_whose (an_application s) its_role)
      by here its_on (an_application s) its_role (Reader q) its_whose = absurd (fits j d its_there (Reader q) its_whose (an_application s) its_role)
      by here its_on (the_registry s) its_role p its_whose = tt
      by here its_on (a_reader g) its_role p its_whose = tt
      by stopped its_on ro its_role p its_whose = tt
      by away its_on ro its_role p its_whose = tt

  each_end : (P : End → Type 0) (ends : List End) → ((k : ℕ) (e : End) → end_at ends k ≡ Some e → P e) → AllByRecursion P ends
  each_end P [] f = tt
  each_end P (x ∷ xs) f = (f 0 x refl, each_end P xs (λ k e there. f (suc k) e there))

  follows_all : (k : ℕ) (e : End) → end_at w.ends k ≡ Some e → FollowsAll w.ends e.standing e.role
  follows_all k e there = by e.standing refl e.role refl e.who refl
    where
      by : (st : Standing) → e.standing ≡ st → (ro : Role) → e.role ≡ ro → (p : Party) → e.who ≡ p → FollowsAll w.ends st ro
      by here on (a_reader h) role (Reader r) whose = each_end (λ (d : End). Follows h (number_of d.who) d.standing d.role) w.ends (λ j d its_there. follows_end k r e h there whose role on j d its_there)
      by here on (a_reader h) role The_bus whose = absurd (fits k e there The_bus whose (a_reader h) role)
      by here on (a_reader h) role Registry whose = absurd (fits k e there Registry whose (a_reader h) role)
      by here on (a_reader h) role (App a) whose = absurd (fits k e there (App a) whose (a_reader h) role)
      by here on (the_registry s) role p whose = tt
      by here on (an_application s) role p whose = tt
      by stopped on ro role p whose = tt
      by away on ro role p whose = tt

  pub settled : IsSettled w
  settled = each_end (λ (e : End). FollowsAll w.ends e.standing e.role) w.ends follows_all
