use Rattle.std.proofs.Common.{◌≡◌, ℕ, List, [], ◌∷◌, ◌++◌, true, refl, sym, ap, subst}
use Rattle.atspi_tree_model.specs.Path.{path_of}
use Rattle.atspi_script_lines.specs.declared.line.Party.TheVariants.{Reader}
use Rattle.atspi_protocol.specs.declared.news.part.PartName.TheVariants.{Text}
use Rattle.atspi_protocol.specs.declared.following.question.Question.TheVariants.{GetPart}
use Rattle.atspi_protocol.specs.following.Calls.{asking}
use Rattle.atspi_trace.specs.Entry.{Entry, sent, quiet}
use Rattle.atspi_trace_examples.specs.caches.Cases.{its_name, told, loaded}
use Rattle.atspi_trace_examples.specs.settled.Cases.{asks_text, asked_before}
use Rattle.atspi_trace_caches.specs.settled.Laws.{NoLoad}
use Rattle.atspi_trace_caches.proofs.OfSettled.Settling_parts.{part_read}
use Rattle.atspi_trace_examples.proofs.OfSettled.Settling_cases.{part_asked, is_part, no_split, no_middle}
use Rattle.atspi_trace_examples.proofs.settled.what_part_is_asked.Goals as goal

pub returns-clause-behind : goal.returns-clause-behind
returns-clause-behind c = record { early = loaded; serial = 6; late = []; is = refl; no_load = λ xs ys serial is load. no_middle xs ys _ is }

-- the call that a reader sent with a serial
abbrev call : ℕ → Entry
call n = sent (Reader 0) (asking n (GetPart its_name (path_of 0) Text))

is_call : (n : ℕ) → is_part (call n) ≡ true
is_call n = ap part_asked (part_read n its_name (path_of 0) Text)

abbrev head : List Entry → Entry
head [] = quiet
head (x ∷ xs) = x

abbrev tail : List Entry → List Entry
tail [] = []
tail (x ∷ xs) = xs

not_before : (early late : List Entry) (n : ℕ) → asked_before ≡ (early ++ call n ∷ []) ++ late → NoLoad (early ++ call n ∷ []) 0 0 late → ⊥
not_before [] late n is none =
    subst (λ (l : List Entry). NoLoad (asks_text its_name 0 ∷ []) 0 0 l) (sym (ap tail is)) (subst (λ (x : Entry). NoLoad (x ∷ []) 0 0 late) (sym (ap head is)) none) told [] 5 refl tt
not_before (e ∷ early) late n is none = no_split loaded early late (call n) (refl, (refl, (refl, tt))) (is_call n) (ap tail is)

pub returns-clause-before : goal.returns-clause-before
returns-clause-before c h = not_before h.early h.late h.serial h.is h.no_load

pub returns-clause-never : goal.returns-clause-never
returns-clause-never c h = no_split [] h.early h.late (call h.serial) tt (is_call h.serial) h.is

pub returns-clause-all_behind : goal.returns-clause-all_behind
returns-clause-all_behind c = (returns-clause-behind c, tt)

pub returns-clause-one_before : goal.returns-clause-one_before
returns-clause-one_before c h = returns-clause-before c h.0

pub returns-clause-nothing_unknown : goal.returns-clause-nothing_unknown
returns-clause-nothing_unknown c = tt
