-- The calls of a reader's start that are to come are the last of all of them, or none: that is kept by each message that it takes and by each call of
-- its user. So each message that it sends asks for a rule of the table, or for none.
use Rattle.std.proofs.Common.{◌≡◌, ◌⊎◌, inl, inr, ℕ, List, [], ◌∷◌, ◌++◌, map, Option, None, Some, refl, sym, ◌∙◌, subst, append_assoc}
use Rattle.std.specs.Prelude.{not, filter, flat_map, if◌then◌else◌}
use Rattle.std.specs.List.{AllByRecursion}
use Rattle.atspi_script_lines.specs.declared.deed.Deed.{Deed}
use Rattle.atspi_message.specs.Envelope.{Envelope}
use Rattle.atspi_tree_model.specs.declared.view.Row.{Row}
use Rattle.atspi_tree_model.specs.Forest.{Forest, labels}
use Rattle.atspi_protocol.specs.declared.news.part.PartName.{PartName}
use Rattle.atspi_protocol.specs.declared.following.question.Question.{Question}
use Rattle.atspi_protocol.specs.declared.following.question.Question.TheVariants.{Hello, GetItems, GetPart}
use Rattle.atspi_protocol.specs.following.Calls.{asking}
use Rattle.atspi_protocol.specs.following.ReaderState.{Followed, Pending, Done, sends, speaks, tells_end, ReaderState, start_calls, begins}
use Rattle.atspi_protocol.specs.following.Takes.{asks, asks_first, goes_on, starts, reader_takes, reader_calls}
use Rattle.atspi_protocol.specs.following.Wishes.{is_refused, unknown_parts, row_wishes, wishes_of, wishes}
use Rattle.atspi_world.specs.Cast.{IsLeftOfStart}
use Rattle.atspi_world_parties.specs.Doing.{messages}
use Rattle.atspi_world.proofs.Asking.{AsksTruly, either_way}
use Rattle.atspi_world.proofs.AskingQuestions.{IsAskedTruly, items_ask, part_asks, start_asks}
use Rattle.atspi_world.proofs.AskingTelling.{IsTold, OnlyTells, before_asking, message_tells}
use Rattle.atspi_world.proofs.AskingOnce.{IsNext, of_start, of_wishes, AsksOnce, reader_asks_once}
use Rattle.atspi_world.proofs.Signals.{all-append}

all_behind : {X : Type 0} (P : X → Type 0) (xs ys : List X) → AllByRecursion P (xs ++ ys) → AllByRecursion P ys
all_behind P [] ys a = a
all_behind P (x ∷ xs) ys a = all_behind P xs ys a.1

-- whatever all calls of the start are, those that are to come are
pub left_all : (P : Question → Type 0) (to_come : List Question) → AllByRecursion P start_calls → IsLeftOfStart to_come → AllByRecursion P to_come
left_all P to_come a (inl l) = all_behind P l.0 to_come (subst (AllByRecursion P) (sym l.1) a)
left_all P to_come a (inr none) = subst (AllByRecursion P) (sym none) tt

-- the next is asked
left_asked : (q : Question) (left : List Question) → IsLeftOfStart (q ∷ left) → IsLeftOfStart left
left_asked q left (inl l) = inl (l.0 ++ q ∷ [], append_assoc l.0 (q ∷ []) left ∙ l.1)
left_asked q left (inr none) = absurd cc

left_told : (s u : ReaderState) → OnlyTells s u → IsLeftOfStart s.to_come → IsLeftOfStart u.to_come
left_told s u o i = by o.to_come
  where
    by : (u.to_come ≡ s.to_come) ⊎ (u.to_come ≡ []) → IsLeftOfStart u.to_come
    by (inl same) = subst IsLeftOfStart (sym same) i
    by (inr none) = inr none

-- AT THE BEGINNING, and once it started
pub begins_left : IsLeftOfStart begins.to_come
begins_left = inl ([], refl)

pub starts_left : IsLeftOfStart (starts begins).to_come
starts_left = inl (Hello ∷ [], refl)

-- A CALL OF ITS USER
pub calls_left : (s : ReaderState) (name : List ℕ) (node : ℕ) (deed : Deed) → IsLeftOfStart s.to_come → IsLeftOfStart (reader_calls s name node deed).to_come
calls_left s name node deed i = i

-- A MESSAGE
wish_left : (u : ReaderState) (ws : List Question) → IsLeftOfStart u.to_come → IsLeftOfStart (asks_first u ws).to_come
wish_left u [] i = i
wish_left u (q ∷ qs) i = i

goes_left : (u : ReaderState) → IsLeftOfStart u.to_come → IsLeftOfStart (goes_on u).to_come
goes_left u i = by u.pending u.to_come refl
  where
    next : Option Pending → List Question → ReaderState
    next (Some p) to_come = u
    next None (q ∷ left) = asks (record u { to_come = left }) q
    next None [] = asks_first u (wishes u.apps)

    by : (p : Option Pending) (l : List Question) → u.to_come ≡ l → IsLeftOfStart (next p l).to_come
    by (Some p) l is = i
    by None (q ∷ left) is = left_asked q left (subst IsLeftOfStart is i)
    by None [] is = wish_left u (wishes u.apps) i

pub takes_left : (s : ReaderState) (e : Envelope) → IsLeftOfStart s.to_come → IsLeftOfStart (reader_takes s e).to_come
takes_left s e i = goes_left (before_asking s e) (left_told s (before_asking s e) (message_tells s e) i)

-- WISHES ask the bus for nothing
all_flat : {X Y : Type 0} (P : Y → Type 0) (f : X → List Y) → ((x : X) → AllByRecursion P (f x)) → (xs : List X) → AllByRecursion P (flat_map f xs)
all_flat P f each [] = tt
all_flat P f each (x ∷ xs) = all-append P (f x) (flat_map f xs) (each x) (all_flat P f each xs)

parts_ask : (name path : List ℕ) (parts : List PartName) → AllByRecursion IsAskedTruly (map (λ (part : PartName). GetPart name path part) parts)
parts_ask name path [] = tt
parts_ask name path (part ∷ parts) = (part_asks name path part, parts_ask name path parts)

row_asks : (app : Followed) (row : Row) → AllByRecursion IsAskedTruly (row_wishes app row)
row_asks app row = parts_ask app.name row.path (filter (λ (part : PartName). not (is_refused app.refused row.path part)) (unknown_parts row))

app_asks : (app : Followed) → AllByRecursion IsAskedTruly (wishes_of app)
app_asks app = by app.view
  where
    wished : Option (Forest Row) → List Question
    wished None = GetItems app.name ∷ []
    wished (Some view) = if app.reload then GetItems app.name ∷ [] else flat_map (row_wishes app) (labels view)

    by : (o : Option (Forest Row)) → AllByRecursion IsAskedTruly (wished o)
    by None = (items_ask app.name, tt)
    by (Some view) =
        either_way (AllByRecursion IsAskedTruly) app.reload (GetItems app.name ∷ []) (flat_map (row_wishes app) (labels view)) (items_ask app.name, tt)
        (all_flat IsAskedTruly (row_wishes app) (row_asks app) (labels view))

pub wishes_ask : (apps : List Followed) → AllByRecursion IsAskedTruly (wishes apps)
wishes_ask apps = all_flat IsAskedTruly wishes_of app_asks apps

-- WHAT IS ASKED NEXT
pub next_asks : (u : ReaderState) (q : Question) (left : List Question) → IsNext u q left → IsLeftOfStart u.to_come → IsAskedTruly q
next_asks u q left (of_start is) i = let all : AllByRecursion IsAskedTruly (q ∷ left) = subst (AllByRecursion IsAskedTruly) is (left_all IsAskedTruly u.to_come start_asks i) in all.0
next_asks u q left (of_wishes others last none wished) i = let all : AllByRecursion IsAskedTruly (q ∷ others) = subst (AllByRecursion IsAskedTruly) wished (wishes_ask u.apps) in all.0

-- what is sent asks for a rule of the table, or for none
abbrev pub DoesTruly : Done → Type 0
DoesTruly (sends m) = AsksTruly m
DoesTruly (speaks name line) = Unit {0}
DoesTruly (tells_end name) = Unit {0}

told_truly : (told : List Done) → AllByRecursion IsTold told → AllByRecursion DoesTruly told
told_truly [] a = tt
told_truly (sends m ∷ told) a = absurd a.0
told_truly (speaks name line ∷ told) a = (tt, told_truly told a.1)
told_truly (tells_end name ∷ told) a = (tt, told_truly told a.1)

-- A READER that has queued nothing takes a message
pub reader_asks : (s : ReaderState) (e : Envelope) → s.out ≡ [] → IsLeftOfStart s.to_come → AllByRecursion DoesTruly (reader_takes s e).out
reader_asks s e quiet i = by (reader_asks_once s e quiet)
  where
    told : IsLeftOfStart (before_asking s e).to_come
    told = left_told s (before_asking s e) (message_tells s e) i

    by : AsksOnce s (before_asking s e) (reader_takes s e) → AllByRecursion DoesTruly (reader_takes s e).out
    by (inl a) = told_truly (reader_takes s e).out a.tells
    by (inr a) =
        subst (AllByRecursion DoesTruly) (sym a.out)
        (all-append DoesTruly a.told (sends (asking s.next a.question) ∷ []) (told_truly a.told a.tells) (next_asks (before_asking s e) a.question a.left a.is_next told s.next, tt))

pub messages_ask : (ds : List Done) → AllByRecursion DoesTruly ds → AllByRecursion AsksTruly (messages ds)
messages_ask [] a = tt
messages_ask (sends m ∷ ds) a = (a.0, messages_ask ds a.1)
messages_ask (speaks name line ∷ ds) a = messages_ask ds a.1
messages_ask (tells_end name ∷ ds) a = messages_ask ds a.1
