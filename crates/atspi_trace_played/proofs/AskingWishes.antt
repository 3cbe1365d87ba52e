-- What a reader wishes to know it may ask; each of its own calls is read as its question; and what it begins with.
use Rattle.std.proofs.Common.{◌≡◌, ◌⊎◌, inl, inr, ℕ, suc, ◌+◌, Bool, true, false, List, [], ◌∷◌, length, map, Option, None, Some, refl, sym, ap, ◌∙◌, subst, arith}
use Rattle.std.specs.Prelude.{bytes_eq, flat_map, filter, not, if◌then◌else◌}
use Rattle.std.specs.List.{AllByRecursion, list_any}
use Rattle.std.proofs.lemmas.Bool.{and_from}
use lib.Utf8.{encode}
use Rattle.atspi_base.specs.valid_names.Names.{is_bus_name, is_path}
use Rattle.atspi_tree_model.specs.declared.view.Row.{Row}
use Rattle.atspi_tree_model.specs.Forest.{Forest, labels}
use Rattle.atspi_script_lines.specs.declared.deed.Deed.{Deed}
use Rattle.atspi_protocol.specs.declared.news.part.PartName.{PartName}
use Rattle.atspi_protocol.specs.declared.news.part.PartName.TheVariants.{Text, Caret, Columns}
use Rattle.atspi_protocol.specs.declared.following.question.Question.{Question}
use Rattle.atspi_protocol.specs.declared.following.question.Question.TheVariants.{Hello, AddMatch, RegisterEvent, GetChildren, GetItems, GetPart}
use Rattle.atspi_protocol.specs.following.Calls.{asking}
use Rattle.atspi_protocol.specs.following.ReaderState.{Followed, ReaderState, start_calls, begins}
use Rattle.atspi_protocol.specs.following.Takes.{starts, reader_calls}
use Rattle.atspi_protocol.specs.following.Wishes.{is_refused, unknown_parts, row_wishes, wishes_of, wishes}
use Rattle.atspi_trace.specs.World.{Hearer}
use Rattle.atspi_trace.specs.Hearing.{question_in, is_registered, is_listening}
use Rattle.atspi_trace.specs.Causes.{asks, first_hearer}
use Rattle.atspi_trace.specs.play.Playing.{silent}
use Rattle.atspi_trace_played.proofs.Facts.{KnowsNothing, IsStarted, IsNamed, AsksWell}
use Rattle.atspi_trace_played.proofs.AskingWords.{all_both, all_flat}
use Rattle.atspi_trace_played.proofs.AskingGoes.{IsWish, sent_well, idle_after}
use Rattle.atspi_trace_played.proofs.AskingPaths.{HasPaths}

-- EACH OWN CALL is read as its question
pub own_read : (serial : ℕ) (q : Question) → question_in (asking serial q) ≡ Some q
unfolding encode
own_read serial Hello = refl
own_read serial (AddMatch rule) = refl
own_read serial (RegisterEvent pattern) = refl
own_read serial GetChildren = refl
own_read serial (GetItems name) = refl
own_read serial (GetPart name path Text) = refl
own_read serial (GetPart name path Caret) = refl
own_read serial (GetPart name path Columns) = refl

-- WISHES
module _ (h : Hearer) (listening : is_listening h.asked ≡ true) (registered : is_registered h.asked ≡ true) where
  for_items : (f : Followed) → IsNamed h f → IsWish h (GetItems f.name)
  for_items f n =
      (and_from (is_bus_name f.name) _ n.bus_name (and_from (is_listening h.asked) _ listening (and_from (is_registered h.asked) (list_any (bytes_eq f.name) h.named) registered n.told)), tt)

  for_parts : (name path : List ℕ) → is_bus_name name ≡ true → is_path path ≡ true → (parts : List PartName) → AllByRecursion (IsWish h) (map (λ (part : PartName). GetPart name path part) parts)
  for_parts name path b p [] = tt
  for_parts name path b p (part ∷ parts) = ((and_from (is_bus_name name) (is_path path) b p, tt), for_parts name path b p parts)

  of_one : (f : Followed) → IsNamed h f × HasPaths f → AllByRecursion (IsWish h) (wishes_of f)
  of_one f k = by f.view refl k.0 k.1
    where
      by : (view : Option (Forest Row)) → f.view ≡ view → IsNamed h f → HasPaths f → AllByRecursion (IsWish h) (wishes_of (record f { view = view }))
      by None is n p = (for_items f n, tt)
      by (Some v) is n p = if_loaded f.reload
        where
          row_all : (row : Row) → is_path row.path ≡ true → AllByRecursion (IsWish h) (row_wishes (record f { view = Some v }) row)
          row_all row e = for_parts f.name row.path n.bus_name e (filter (λ (part : PartName). not (is_refused f.refused row.path part)) (unknown_parts row))

          if_loaded : (b : Bool) → AllByRecursion (IsWish h) (if b then GetItems f.name ∷ [] else flat_map (row_wishes (record f { view = Some v })) (labels v))
          if_loaded true = (for_items f n, tt)
          if_loaded false = all_flat (λ (row : Row). is_path row.path ≡ true) (IsWish h) (row_wishes (record f { view = Some v })) row_all (labels v) (p v is)

pub wishes_may : (h : Hearer) (s : ReaderState) → AsksWell h s → AllByRecursion HasPaths s.apps → AllByRecursion (IsWish h) (wishes s.apps)
wishes_may h s a paths = by a.started
  where
    by : KnowsNothing s ⊎ IsStarted s h → AllByRecursion (IsWish h) (wishes s.apps)
    by (inl k) = subst (λ fs. AllByRecursion (IsWish h) (wishes fs)) (sym k.apps) tt
    by (inr i) =
        all_flat (λ f. IsNamed h f × HasPaths f) (IsWish h) wishes_of (of_one h i.listening i.registered) s.apps (all_both (IsNamed h) HasPaths s.apps a.names paths)

-- IT BEGINS
begins_well : AsksWell first_hearer (silent begins)
begins_well = record {
  next = refl;
  silent = refl;
  waiting = refl;
  order = ([], refl, tt);
  starting = inr refl;
  returned = tt;
  started = inl (record { registry = refl; apps = refl });
  registry = refl;
  names = tt;
  distinct = tt;
}

abbrev tail_of : List Question → List Question
tail_of [] = []
tail_of (q ∷ qs) = qs

pub asks_first : AsksWell (asks Hello first_hearer) (silent (starts begins))
asks_first = sent_well first_hearer begins (tail_of start_calls) Hello begins_well refl ([], refl, tt) (inr refl) (λ e. absurd (none e))
  where
    none : start_calls ≡ [] → ⊥
    none e = let no : length start_calls ≡ 0 = ap length e in omega (arith, no)

-- A CALL OF ITS USER is none of its own
pub asks_called : (h : Hearer) (s : ReaderState) (name : List ℕ) (node : ℕ) (deed : Deed) → AsksWell h s → AsksWell (record h { next = suc h.next }) (silent (reader_calls s name node deed))
asks_called h s name node deed a = record {
  next = ap (λ n. n + 1) a.next ∙ one h.next;
  silent = refl;
  waiting = a.waiting;
  order = a.order;
  starting = a.starting;
  returned = a.returned;
  started = by a.started;
  registry = a.registry;
  names = names s.apps a.names;
  distinct = a.distinct;
}
  where
    one : (n : ℕ) → n + 1 ≡ suc n
    one n = omega arith

    by : KnowsNothing s ⊎ IsStarted s h → KnowsNothing (silent (reader_calls s name node deed)) ⊎ IsStarted (silent (reader_calls s name node deed)) (record h { next = suc h.next })
    by (inl k) = inl (record { registry = k.registry; apps = k.apps })
    by (inr i) = inr (record { come = i.come; listening = i.listening; registered = i.registered })

    names : (fs : List Followed) → AllByRecursion (IsNamed h) fs → AllByRecursion (IsNamed (record h { next = suc h.next })) fs
    names [] n = tt
    names (f ∷ fs) n = (record { bus_name = n.0.bus_name; told = n.0.told }, names fs n.1)

-- IDLE: where no call is in flight nothing is left to be asked
abbrev pub IsIdle : ReaderState → Type 0
IsIdle s = s.pending ≡ None → (s.to_come ≡ []) × (wishes s.apps ≡ [])

pub idle_first : IsIdle (silent (starts begins))
idle_first = idle_after begins

pub idle_called : (s : ReaderState) (name : List ℕ) (node : ℕ) (deed : Deed) → IsIdle s → IsIdle (silent (reader_calls s name node deed))
idle_called s name node deed i = i
