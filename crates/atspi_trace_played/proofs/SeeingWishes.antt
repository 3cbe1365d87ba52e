-- What a reader asks for next: where it asks for all items of an application, it knows that and does not hold it.
use Rattle.std.proofs.Common.{◌≡◌, ℕ, false, List, [], ◌∷◌, ◌++◌, map, length, Option, None, Some, refl, sym, ap, ◌∙◌, subst, arith}
use Rattle.std.specs.Prelude.{bytes_eq, filter, flat_map, not, if◌then◌else◌}
use Rattle.std.specs.List.{AllByRecursion}
use Rattle.std.proofs.lemmas.Slice.Eq.{bytes_eq-Decides}
use Rattle.atspi_tree_model.specs.declared.view.Row.{Row}
use Rattle.atspi_tree_model.specs.Forest.{Forest, labels}
use Rattle.atspi_protocol.specs.declared.news.part.PartName.{PartName}
use Rattle.atspi_protocol.specs.declared.following.question.Question.{Question}
use Rattle.atspi_protocol.specs.declared.following.question.Question.TheVariants.{GetItems, GetPart}
use Rattle.atspi_protocol.specs.following.ReaderState.{Followed, Pending, ReaderState}
use Rattle.atspi_protocol.specs.following.Takes.{found_in, asks, goes_on}
use Rattle.atspi_protocol.specs.following.Wishes.{is_refused, unknown_parts, row_wishes, wishes_of, wishes}
use Rattle.atspi_trace_laws.proofs.OfOrder.Parties.{false_true, all_append}
use Rattle.atspi_trace_played.proofs.Facts.{AreDistinct, NoItems}
use Rattle.atspi_trace_played.proofs.SeeingApps.{named_same, named_apart}

-- WHERE NAMES DIFFER each is found by its name
abbrev pub IsFound : List Followed → Followed → Type 0
IsFound apps g = found_in g.name apps ≡ Some g

each_later : (f : Followed) (fs gs : List Followed) → AllByRecursion (λ (g : Followed). bytes_eq g.name f.name ≡ false) gs → AllByRecursion (IsFound fs) gs → AllByRecursion (IsFound (f ∷ fs)) gs
each_later f fs [] a b = tt
each_later f fs (g ∷ gs) a b = (ap (λ t. if t then Some f else found_in g.name fs) differs ∙ b.0, each_later f fs gs a.1 b.1)
  where
    differs : bytes_eq f.name g.name ≡ false
    differs = named_apart f.name g.name (λ same. false_true (sym a.0 ∙ (bytes_eq-Decides g.name f.name).1 (sym same)))

pub each_found : (apps : List Followed) → AreDistinct apps → AllByRecursion (IsFound apps) apps
each_found [] d = tt
each_found (f ∷ fs) d = (ap (λ t. if t then Some f else found_in f.name fs) (named_same f.name), each_later f fs fs d.0 (each_found fs d.1))

-- wishes about rows are for parts
parts_only : (name path : List ℕ) (ps : List PartName) → AllByRecursion NoItems (map (λ (part : PartName). GetPart name path part) ps)
parts_only name path [] = tt
parts_only name path (p ∷ ps) = (tt, parts_only name path ps)

rows_only : (g : Followed) (rows : List Row) → AllByRecursion NoItems (flat_map (row_wishes g) rows)
rows_only g [] = tt
rows_only g (row ∷ rows) =
    all_append NoItems (row_wishes g row) (flat_map (row_wishes g) rows)
    (parts_only g.name row.path (filter (λ (part : PartName). not (is_refused g.refused row.path part)) (unknown_parts row))) (rows_only g rows)

wish_none : (g : Followed) → g.view ≡ None → wishes_of g ≡ GetItems g.name ∷ []
wish_none g h = rw h refl

wish_some : (g : Followed) (v : Forest Row) → g.view ≡ Some v → g.reload ≡ false → wishes_of g ≡ flat_map (row_wishes g) (labels v)
wish_some g v h k = opened ∙ ap (λ t. if t then GetItems g.name ∷ [] else flat_map (row_wishes g) (labels v)) k
  where
    opened : wishes_of g ≡ (if g.reload then GetItems g.name ∷ [] else flat_map (row_wishes g) (labels v))
    opened = rw h refl

abbrev head_or : Question → List Question → Question
head_or d [] = d
head_or d (x ∷ xs) = x

name_in_question : Question → List ℕ
name_in_question (GetItems name) = name
name_in_question question = []

items_same : (a b : List ℕ) → GetItems a ≡ GetItems b → a ≡ b
unfolding name_in_question
items_same a b h = ap name_in_question h

-- THE FIRST WISH for items
pub record IsWished (all : List Followed) (name : List ℕ) : Type 0 where
  pub one : Followed
  pub found : found_in name all ≡ Some one
  pub unheld : one.view ≡ None

pub first_wish : (all apps : List Followed) (name : List ℕ) (rest : List Question) → AllByRecursion (IsFound all) apps → AllByRecursion (λ (g : Followed). g.reload ≡ false) apps → wishes apps ≡ GetItems name ∷ rest → IsWished all name
first_wish all [] name rest a b h = absurd (none (ap length h))
  where
    none : 0 ≡ length (GetItems name ∷ rest) → ⊥
    none e = absurd (omega (arith, e))
first_wish all (g ∷ gs) name rest a b h = by g.view refl (λ k. first_wish all gs name rest a.1 b.1 k)
  where
    next : (l : List Question) → wishes_of g ≡ l → AllByRecursion NoItems l → (wishes gs ≡ GetItems name ∷ rest → IsWished all name) → IsWished all name
    next [] is only ih = ih (ap (λ k. k ++ wishes gs) (sym is) ∙ h)
    next (x ∷ xs) is only ih = absurd (subst NoItems (ap (head_or x) (ap (λ k. k ++ wishes gs) (sym is) ∙ h)) only.0)

    by : (o : Option (Forest Row)) → g.view ≡ o → (wishes gs ≡ GetItems name ∷ rest → IsWished all name) → IsWished all name
    by None is ih =
        let same : g.name ≡ name = items_same g.name name (ap (head_or (GetItems name)) (ap (λ k. k ++ wishes gs) (sym (wish_none g is)) ∙ h)) in
        record { one = g; found = ap (λ n. found_in n all) (sym same) ∙ a.0; unheld = is }
    by (Some v) is ih = next (flat_map (row_wishes g) (labels v)) (wish_some g v is b.0) (rows_only g (labels v)) ih

-- WHAT COMES NEXT
pub data GoesOn (u : ReaderState) : Type 0 where
  stays : goes_on u ≡ u → GoesOn u
  begins_one : (question : Question) (rest : List Question) → u.to_come ≡ question ∷ rest → goes_on u ≡ asks (record u { to_come = rest }) question → GoesOn u
  wishes_one : (question : Question) (rest : List Question) → wishes u.apps ≡ question ∷ rest → u.to_come ≡ [] → goes_on u ≡ asks u question → GoesOn u

pub next_of : (u : ReaderState) → GoesOn u
next_of u = by u.pending refl u.to_come refl (wishes u.apps) refl
  where
    by : (o : Option Pending) → u.pending ≡ o → (l : List Question) → u.to_come ≡ l → (k : List Question) → wishes u.apps ≡ k → GoesOn u
    by (Some p) is l e k f = stays (rw is refl)
    by None is (question ∷ rest) e k f = begins_one question rest e (rw (is, e) refl)
    by None is [] e [] f = stays (rw (is, e) (rw f refl))
    by None is [] e (question ∷ rest) f = wishes_one question rest f e (rw (is, e) (rw f refl))
