-- Who has a name once a connection has left, worked out before.
use Rattle.std.proofs.Common.{◌≡◌, ◌≢◌, ℕ, Bool, true, false, cond, not, List, [], ◌∷◌, ◌++◌, Option, None, Some, refl, sym, ap, ◌∙◌}
use Rattle.std.proofs.lemmas.Bool.Decides.{Decides-eqb}
use Rattle.std.specs.Prelude.{◌==◌, unwrap_or, codes}
use Rattle.std.specs.Ordering.{nat_cmp, eq_by_cmp}
use Rattle.std.specs.Cmp.{nat_cmp_total}
use Rattle.std.specs.FinMap as finmap
use Rattle.std.specs.FinMap.{get-remove, nat_cmp-IsAntisymmetric}
use Rattle.atspi_types.specs.Data.{text_data}
use Rattle.atspi_message.specs.Envelope.{Envelope}
use Rattle.atspi_names.specs.Queue.{owner_in, without}
use Rattle.atspi_names.specs.Owners.{Owners, list_of, after_gone}
use Rattle.atspi_names.proofs.BookLemmas.{list_of-lists_without}
use Rattle.atspi_names.proofs.Maps.{equal_of_tie}
use Rattle.atspi_match.specs.routing.BusState.{unique_of, text_or_empty, name_or_empty}
use Rattle.atspi_match.specs.routing.OwnMessages.{signal, name_acquired, owner_changed}
use Rattle.atspi_bus_steps.specs.Farewell.{name_passes_on}

-- who leaves a list does not own it
not_itself : (conn c : ℕ) (list : List (ℕ × ℕ)) → owner_in (without conn list) ≡ Some c → c ≢ conn
not_itself conn c [] is = cc
not_itself conn c (entry ∷ list) is = by (entry.0 == conn) refl (not_itself conn c list)
  where
    by : (b : Bool) → (entry.0 == conn) ≡ b → (owner_in (without conn list) ≡ Some c → c ≢ conn) → c ≢ conn
    by true here rest = rest (sym (ap (λ b. owner_in (cond (not b) (entry ∷ without conn list) (without conn list))) here) ∙ is)
    by false here rest = λ same.
        let first : Some entry.0 ≡ Some c = sym (ap (λ b. owner_in (cond (not b) (entry ∷ without conn list) (without conn list))) here) ∙ is in
        let it : entry.0 ≡ conn = ap (λ o. unwrap_or o c) first ∙ same in
        let t = sym here ∙ (Decides-eqb entry.0 conn).1 it in
        cc

-- another connection keeps its unique name
still : (owners : Owners) (conn c : ℕ) → c ≢ conn → unique_of owners c ≡ unique_of (after_gone owners conn) c
still owners conn c other = sym (get-remove nat_cmp_total owners.unique conn c ∙ by (eq_by_cmp nat_cmp c conn) refl)
  where
    by : (b : Bool) → eq_by_cmp nat_cmp c conn ≡ b → cond (eq_by_cmp nat_cmp c conn) None (finmap.get owners.unique c) ≡ finmap.get owners.unique c
    by true is = absurd (other (nat_cmp-IsAntisymmetric c conn (equal_of_tie _ is)))
    by false is = ap (λ b. cond b None (finmap.get owners.unique c)) is

heir_acquired : (owners : Owners) (conn : ℕ) (name : List ℕ) (list : List (ℕ × ℕ)) (o : Option ℕ) → o ≡ owner_in (without conn list)
    → name_acquired owners name o ≡ name_acquired (after_gone owners conn) name o
heir_acquired owners conn name list None is = refl
heir_acquired owners conn name list (Some c) is =
    ap (λ u. signal (codes "NameAcquired") u (text_data name ∷ []) ∷ []) (still owners conn c (not_itself conn c list (sym is)))

heir_named : (owners : Owners) (conn : ℕ) (list : List (ℕ × ℕ)) (o : Option ℕ) → o ≡ owner_in (without conn list) → name_or_empty owners o ≡ name_or_empty (after_gone owners conn) o
heir_named owners conn list None is = refl
heir_named owners conn list (Some c) is = ap text_or_empty (still owners conn c (not_itself conn c list (sym is)))

-- what a name is told of its next owner
pub heir-told : (owners : Owners) (conn : ℕ) (unique name : List ℕ) (o : Option ℕ) → o ≡ owner_in (without conn (list_of owners.lists name))
    → name_acquired owners name o ++ owner_changed name unique (name_or_empty owners o) ∷ [] ≡ name_passes_on (after_gone owners conn) unique name
heir-told owners conn unique name o is =
    let after = after_gone owners conn in
    let list = list_of owners.lists name in
    ap (λ (l : List Envelope). l ++ owner_changed name unique (name_or_empty owners o) ∷ []) (heir_acquired owners conn name list o is)
    ∙ ap (λ n. name_acquired after name o ++ owner_changed name unique n ∷ []) (heir_named owners conn list o is)
    ∙ ap (λ x. name_acquired after name x ++ owner_changed name unique (name_or_empty after x) ∷ []) (is ∙ ap owner_in (sym (list_of-lists_without conn owners.lists name)))
