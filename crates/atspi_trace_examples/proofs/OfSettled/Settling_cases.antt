-- What worked cases share: questions told apart, calls that are not among those asked, and entries that ask for no part.
use Rattle.std.proofs.Common.{◌≡◌, inl, inr, Bool, true, false, ℕ, List, [], ◌∷◌, ◌++◌, Option, Some, sym, ap, ◌∙◌, subst}
use Rattle.std.specs.List.{AllByRecursion}
use Rattle.atspi_script_lines.specs.declared.line.Party.TheVariants.{Reader}
use Rattle.atspi_protocol.specs.declared.following.question.Question.{Question}
use Rattle.atspi_protocol.specs.declared.following.question.Question.TheVariants.{Hello, GetItems, GetPart}
use Rattle.atspi_trace.specs.Entry.{Entry, sent}
use Rattle.atspi_trace.specs.World.{Asked}
use Rattle.atspi_trace.specs.Hearing.{question_in}
use Rattle.atspi_trace_caches.specs.settled.Laws.{IsAsked}
use Rattle.atspi_trace_laws.proofs.OfOrder.Parties.{false_true, all_front, all_back}

abbrev pub is_hello : Question → Bool
is_hello Hello = true
is_hello question = false

abbrev pub begins_so : List Question → Bool
begins_so [] = false
begins_so (question ∷ questions) = is_hello question

abbrev pub is_items : Question → Bool
is_items (GetItems name) = true
is_items question = false

abbrev pub NoItems : Asked → Type 0
NoItems a = is_items a.question ≡ false

pub none_asked : (name : List ℕ) (xs : List Asked) → AllByRecursion NoItems xs → IsAsked (GetItems name) xs → ⊥
none_asked name [] a h = h
none_asked name (x ∷ xs) a (inl is) = false_true (sym a.0 ∙ ap is_items is)
none_asked name (x ∷ xs) a (inr more) = none_asked name xs a.1 more

-- a reader's call for a part
abbrev pub part_asked : Option Question → Bool
part_asked (Some (GetPart name path part)) = true
part_asked question = false

abbrev pub is_part : Entry → Bool
is_part (sent (Reader r) e) = part_asked (question_in e)
is_part entry = false

abbrev pub NoPart : Entry → Type 0
NoPart entry = is_part entry ≡ false

pub no_split : (xs early late : List Entry) (y : Entry) → AllByRecursion NoPart xs → is_part y ≡ true → xs ≡ (early ++ y ∷ []) ++ late → ⊥
no_split xs early late y a part is = false_true (sym (all_back NoPart early (y ∷ []) (all_front NoPart (early ++ y ∷ []) late (subst (AllByRecursion NoPart) is a))).0 ∙ part)

-- nothing is around an entry
pub no_middle : (xs ys : List Entry) (y : Entry) → [] ≡ xs ++ y ∷ ys → ⊥
no_middle xs ys y is = false_true (by xs is)
  where
    is_there : List Entry → Bool
    is_there [] = false
    is_there (z ∷ zs) = true

    by : (zs : List Entry) → [] ≡ zs ++ y ∷ ys → false ≡ true
    by [] h = ap is_there h
    by (z ∷ zs) h = ap is_there h
