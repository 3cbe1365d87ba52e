-- How applications become known, beside a change of those that are known already; and what each change of the list keeps.
use Rattle.std.proofs.Common.{◌≡◌, ℕ, Bool, true, false, cond, not, List, [], ◌∷◌, ◌++◌, filter, Option, Some, None, refl, sym, ap, subst, ◌∙◌}
use Rattle.std.specs.Prelude.{◌||◌, ◌&&◌, bytes_eq, if◌then◌else◌, IfSome}
use Rattle.std.specs.List.{list_any, list_all, fold}
use Rattle.std.proofs.lemmas.Bool.{and_parts}
use Rattle.std.proofs.lemmas.List.{append-nil}
use Rattle.std.proofs.lemmas.List.Folds.{list_any-append, list_all-append}
use Rattle.std.proofs.lemmas.Slice.Eq.{bytes_eq-Decides}
use Rattle.atspi_base.specs.valid_names.Names.{is_bus_name, is_unique_name}
use Rattle.atspi_tree_model.specs.declared.news.Reference.{Reference}
use Rattle.atspi_protocol.specs.following.ReaderState.{Followed, is_named}
use Rattle.atspi_protocol.specs.following.Known.{is_connection, made_known, unasked}
use Rattle.atspi_protocol.specs.following.Replied.{changed}
use Rattle.atspi_reader_known.proofs.Uniqueness.{changed_none, unique_push, unique_filter}
use Rattle.atspi_reader.specs.inner.Turns.{app_in, listed, IsNewTo}
use Rattle.atspi_reader.specs.Steps.{Fine}
use Rattle.atspi_reader.proofs.Changed.{Keeps, no, any_changed, unique_changed, all_changed, changed-append}

abbrev is_new : List Followed → Reference → Bool
is_new apps root = is_connection root.bus && not (list_any (is_named root.bus) apps)

pub pushed : (apps : List Followed) (root : Reference) → is_new apps root ≡ true → made_known apps root ≡ apps ++ unasked root ∷ []
pushed apps root e = ap (λ (b : Bool). if b then apps ++ unasked root ∷ [] else apps) e

pub stayed : (apps : List Followed) (root : Reference) → is_new apps root ≡ false → made_known apps root ≡ apps
stayed apps root e = ap (λ (b : Bool). if b then apps ++ unasked root ∷ [] else apps) e

not_true : (b : Bool) → not b ≡ true → b ≡ false
not_true true e = absurd cc
not_true false e = refl

or_more : (a b : Bool) → a ≡ true → (a || b) ≡ true
or_more true b e = refl
or_more false b e = absurd cc

any_made : (m : List ℕ) (apps : List Followed) (root : Reference) → list_any (is_named m) apps ≡ true → list_any (is_named m) (made_known apps root) ≡ true
any_made m apps root e = by (is_new apps root) refl
  where
    by : (b : Bool) → is_new apps root ≡ b → list_any (is_named m) (made_known apps root) ≡ true
    by true p =
        ap (list_any (is_named m)) (pushed apps root p) ∙ list_any-append (is_named m) apps (unasked root ∷ [])
        ∙ or_more (list_any (is_named m) apps) (list_any (is_named m) (unasked root ∷ [])) e
    by false p = ap (list_any (is_named m)) (stayed apps root p) ∙ e

another : (m : List ℕ) (apps : List Followed) (root : Reference) → list_any (is_named m) apps ≡ true → list_any (is_named root.bus) apps ≡ false
    → is_named m (unasked root) ≡ false
another m apps root e f = by (bytes_eq root.bus m) refl
  where
    by : (b : Bool) → bytes_eq root.bus m ≡ b → b ≡ false
    by true p = let same = ap (λ (n : List ℕ). list_any (is_named n) apps) ((bytes_eq-Decides root.bus m).0 p) in absurd cc
    by false p = refl

-- a change of an application that was known before those that become known
module _ (f : Followed → Followed) (keeps : Keeps f) (m : List ℕ) where
  made-changed : (apps : List Followed) (root : Reference) → list_any (is_named m) apps ≡ true
      → made_known (changed f m apps) root ≡ changed f m (made_known apps root)
  made-changed apps root e = by (is_new apps root) refl
    where
      same : is_new (changed f m apps) root ≡ is_new apps root
      same = ap (λ (b : Bool). is_connection root.bus && not b) (any_changed f keeps root.bus m apps)

      by : (b : Bool) → is_new apps root ≡ b → made_known (changed f m apps) root ≡ changed f m (made_known apps root)
      by true p =
          let stays = no f m (unasked root) (another m apps root e (not_true (list_any (is_named root.bus) apps) (and_parts (is_connection root.bus) (not (list_any (is_named root.bus) apps)) p).1)) in
          pushed (changed f m apps) root (same ∙ p)
          ∙ ap (λ (a : Followed). changed f m apps ++ a ∷ []) (sym stays)
          ∙ sym (changed-append f m apps (unasked root ∷ []))
          ∙ sym (ap (changed f m) (pushed apps root p))
      by false p = stayed (changed f m apps) root (same ∙ p) ∙ sym (ap (changed f m) (stayed apps root p))

  fold-changed : (roots : List Reference) (apps : List Followed) → list_any (is_named m) apps ≡ true
      → fold made_known (changed f m apps) roots ≡ changed f m (fold made_known apps roots)
  fold-changed [] apps e = refl
  fold-changed (root ∷ roots) apps e =
      ap (λ (l : List Followed). fold made_known l roots) (made-changed apps root e) ∙ fold-changed roots (made_known apps root) (any_made m apps root e)

  -- whether it was known before
  pub known-changed : (b : Bool) (roots : List Reference) (apps : List Followed) → list_any (is_named m) apps ≡ b
      → (if b then changed f m (fold made_known apps roots) else fold made_known apps roots) ≡ fold made_known (changed f m apps) roots
  known-changed true roots apps e = sym (fold-changed roots apps e)
  known-changed false roots apps e = ap (λ (l : List Followed). fold made_known l roots) (sym (changed_none f m apps e))

-- the name of an application is a bus name
abbrev is_named_well : Followed → Bool
is_named_well app = is_bus_name app.name

pub fine_changed : (f : Followed → Followed) → Keeps f → (n : List ℕ) (apps : List Followed) → Fine apps → Fine (changed f n apps)
fine_changed f keeps n apps fine = record {
  named = all_changed f keeps is_named_well (λ a b e. ap is_bus_name e) n apps ∙ fine.named;
  unique = unique_changed f keeps n apps fine.unique;
}

all_filter : (p q : Followed → Bool) (apps : List Followed) → list_all p apps ≡ true → list_all p (filter q apps) ≡ true
all_filter p q [] e = refl
all_filter p q (a ∷ apps) e = by (q a) (all_filter p q apps (and_parts (p a) (list_all p apps) e).1)
  where
    by : (b : Bool) → list_all p (filter q apps) ≡ true → list_all p (cond b (a ∷ filter q apps) (filter q apps)) ≡ true
    by true h = rw ((and_parts (p a) (list_all p apps) e).0, h) refl
    by false h = h

pub fine_filter : (q : Followed → Bool) (apps : List Followed) → Fine apps → Fine (filter q apps)
fine_filter q apps fine = record { named = all_filter is_named_well q apps fine.named; unique = unique_filter q apps fine.unique }

pub fine_made : (apps : List Followed) (root : Reference) → Fine apps → Fine (made_known apps root)
fine_made apps root fine = by (is_new apps root) refl
  where
    by : (b : Bool) → is_new apps root ≡ b → Fine (made_known apps root)
    by true p =
        let both = and_parts (is_connection root.bus) (not (list_any (is_named root.bus) apps)) p in
        rw (pushed apps root p) (record {
          named = list_all-append is_named_well apps (unasked root ∷ []) ∙ rw (fine.named, (and_parts (is_bus_name root.bus) (is_unique_name root.bus) both.0).0) refl;
          unique = unique_push (unasked root) apps fine.unique (not_true (list_any (is_named root.bus) apps) both.1);
        })
    by false p = rw (stayed apps root p) fine

pub fine_fold : (roots : List Reference) (apps : List Followed) → Fine apps → Fine (fold made_known apps roots)
fine_fold [] apps fine = fine
fine_fold (root ∷ roots) apps fine = fine_fold roots (made_known apps root) (fine_made apps root fine)

new_is : (apps : List Followed) (root : Reference) (named known : Bool) → is_connection root.bus ≡ named → list_any (is_named root.bus) apps ≡ known
    → is_new apps root ≡ (named && not known)
new_is apps root named known e f = ap (λ (b : Bool). b && not (list_any (is_named root.bus) apps)) e ∙ ap (λ (b : Bool). named && not b) f

-- the new application of a reference, where it names one and none with its name is known
new_by : (apps : List Followed) (root : Reference) (named known : Bool) → is_connection root.bus ≡ named → list_any (is_named root.bus) apps ≡ known
    → apps ++ listed (if known then None else (if named then Some (unasked root) else None)) ≡ made_known apps root
new_by apps root true true e f = append-nil apps ∙ sym (stayed apps root (new_is apps root true true e f))
new_by apps root true false e f = sym (pushed apps root (new_is apps root true false e f))
new_by apps root false true e f = append-nil apps ∙ sym (stayed apps root (new_is apps root false true e f))
new_by apps root false false e f = append-nil apps ∙ sym (stayed apps root (new_is apps root false false e f))

-- the one that a reference names is put behind the others, if it is new
pub named_app : (apps : List Followed) (root : Reference) (app : Followed) (o : Option Followed) → Some app ≡ app_in root → o ≡ (if list_any (is_named app.name) apps then None else Some app)
    → (apps ++ listed o ≡ made_known apps root) × (IfSome o (IsNewTo apps))
named_app apps root app o e h = by (is_connection root.bus) refl e
  where
    at : (k : Bool) → list_any (is_named root.bus) apps ≡ k → app ≡ unasked root → is_connection root.bus ≡ true → (apps ++ listed o ≡ made_known apps root) × (IfSome o (IsNewTo apps))
    at true f same n =
        let none : o ≡ None = h ∙ ap (λ (a : Followed). if list_any (is_named a.name) apps then None else Some a) same ∙ ap (λ (b : Bool). if b then None else Some (unasked root)) f in
        (ap (λ (x : Option Followed). apps ++ listed x) none ∙ new_by apps root true true n f, subst (λ (x : Option Followed). IfSome x (IsNewTo apps)) (sym none) tt)
    at false f same n =
        let some : o ≡ Some (unasked root) = h ∙ ap (λ (a : Followed). if list_any (is_named a.name) apps then None else Some a) same ∙ ap (λ (b : Bool). if b then None else Some (unasked root)) f in (
          ap (λ (x : Option Followed). apps ++ listed x) some ∙ new_by apps root true false n f,
          subst (λ (x : Option Followed). IfSome x (IsNewTo apps)) (sym some) (record { other = f; unheld = refl }),
        )

    by : (b : Bool) → is_connection root.bus ≡ b → Some app ≡ (if b then Some (unasked root) else None) → (apps ++ listed o ≡ made_known apps root) × (IfSome o (IsNewTo apps))
    by true n e = let same : app ≡ unasked root = cc in at (list_any (is_named root.bus) apps) refl same n
    by false n e = absurd cc

pub nobody_named : (apps : List Followed) (root : Reference) → None ≡ app_in root → apps ++ listed None ≡ made_known apps root
nobody_named apps root e = by (is_connection root.bus) refl e
  where
    by : (b : Bool) → is_connection root.bus ≡ b → None ≡ (if b then Some (unasked root) else None) → apps ++ listed None ≡ made_known apps root
    by true n e = absurd cc
    by false n e = append-nil apps ∙ sym (stayed apps root (new_is apps root false (list_any (is_named root.bus) apps) n refl))
