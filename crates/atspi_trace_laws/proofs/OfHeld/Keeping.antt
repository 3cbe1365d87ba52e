-- What the trace tells of a reader, entry by entry.
use Rattle.std.proofs.Common.{◌≡◌, ℕ, false, List, [], ◌∷◌, ◌++◌, Option, None, Some, refl, sym, ap, ◌∙◌, subst}
use Rattle.std.specs.Prelude.{◌==◌, ◌&&◌, if◌then◌else◌}
use Rattle.std.specs.List.{AllByRecursion, cons_option}
use Rattle.std.proofs.lemmas.List.{append-nil, append_assoc}
use Rattle.atspi_script_lines.specs.declared.line.Party.TheVariants.{Bus as The_bus, Registry, App, Reader}
use Rattle.atspi_message.specs.Envelope.{Envelope}
use Rattle.atspi_trace.specs.Entry.{Entry, sent, got, gone}
use Rattle.atspi_trace.specs.World.{Holding, Hearer}
use Rattle.atspi_trace.specs.Hearing.{holding_of}
use Rattle.atspi_trace_laws.specs.laws.Words.{messages, message, with_serial, as_of, live_tree, own_call, question_if, answers_question, Kept, kept_with, kept_after, held_on, held}
use Rattle.atspi_trace_laws.proofs.OfSerials.Serial.{messages_more}
use Rattle.atspi_trace_laws.proofs.OfTaken.Found.{found_more, front_more}
use Rattle.atspi_trace_laws.proofs.OfHeld.Holdings.{call_at}

-- entries behind entries
pub held_append : (early xs ys : List Entry) (reader app : ℕ) (kept : Option Kept) → held_on early reader app kept (xs ++ ys) ≡ held_on (early ++ xs) reader app (held_on early reader app kept xs) ys
held_append early [] ys reader app kept = ap (λ l. held_on l reader app kept ys) (sym (append-nil early))
held_append early (x ∷ xs) ys reader app kept =
    held_append (early ++ x ∷ []) xs ys reader app (kept_after early reader app kept x)
    ∙ ap (λ l. held_on l reader app (held_on (early ++ x ∷ []) reader app (kept_after early reader app kept x) xs) ys) (append_assoc early (x ∷ []) xs)

pub held_more : (es ys : List Entry) (reader app : ℕ) → held (es ++ ys) reader app ≡ held_on es reader app (held es reader app) ys
held_more es ys reader app = held_append [] es ys reader app None

-- entries of others
abbrev pub NotOfReader : ℕ → Entry → Type 0
NotOfReader reader (got (Reader q) from serial) = (q == reader) ≡ false
NotOfReader reader (gone q app) = (q == reader) ≡ false
NotOfReader reader (sent (Reader q) e) = (q == reader) ≡ false
NotOfReader reader entry = Unit {0}

other_kept : (early : List Entry) (reader app : ℕ) (kept : Option Kept) (entry : Entry) → NotOfReader reader entry → kept_after early reader app kept entry ≡ kept
other_kept early reader app kept (got (Reader q) (App a) serial) h =
    ap (λ b. if b && a == app then kept_with serial (answers_question early reader (message early (App app) serial)) kept else kept) h
other_kept early reader app kept (gone q a) h = ap (λ b. if b && a == app then None else kept) h
other_kept early reader app kept entry h = refl

pub others_kept : (early : List Entry) (reader app : ℕ) (kept : Option Kept) (ys : List Entry) → AllByRecursion (NotOfReader reader) ys → held_on early reader app kept ys ≡ kept
others_kept early reader app kept [] a = refl
others_kept early reader app kept (y ∷ ys) a =
    ap (λ k. held_on (early ++ y ∷ []) reader app k ys) (other_kept early reader app kept y a.0) ∙ others_kept (early ++ y ∷ []) reader app kept ys a.1

pub others_messages : (reader : ℕ) (ys : List Entry) → AllByRecursion (NotOfReader reader) ys → messages ys (Reader reader) ≡ []
others_messages reader [] a = refl
others_messages reader (sent (Reader q) e ∷ ys) a = ap (λ b. cons_option (if b then Some e else None) (messages ys (Reader reader))) a.0 ∙ others_messages reader ys a.1
others_messages reader (sent The_bus e ∷ ys) a = others_messages reader ys a.1
others_messages reader (sent Registry e ∷ ys) a = others_messages reader ys a.1
others_messages reader (sent (App b) e ∷ ys) a = others_messages reader ys a.1
others_messages reader (y ∷ ys) a = others_messages reader ys a.1

-- WHAT IS HELD, BOTH WAYS
pub record SameHolding (es : List Entry) (app : ℕ) (k : Kept) (h : Holding) : Type 0 where
  pub last : k.last ≡ h.last
  pub told : k.told ≡ h.told
  pub first : Envelope
  pub was : message es (App app) h.last ≡ Some first
  pub tree : as_of es app h.last ≡ h.tree

abbrev pub SameKept : List Entry → ℕ → Option Kept → Option Holding → Type 0
SameKept es app None None = Unit {0}
SameKept es app (Some k) (Some h) = SameHolding es app k h
SameKept es app k h = ⊥

pub same_more : (es ys : List Entry) (app : ℕ) (k : Option Kept) (h : Option Holding) → SameKept es app k h → SameKept (es ++ ys) app k h
same_more es ys app None None s = tt
same_more es ys app (Some k) (Some h) s = record {
  last = s.last;
  told = s.told;
  first = s.first;
  was = found_more es ys (App app) h.last s.first s.was;
  tree = ap (λ l. live_tree l app) (front_more es ys (App app) h.last s.first s.was) ∙ s.tree;
}
same_more es ys app None (Some h) s = absurd s
same_more es ys app (Some k) None s = absurd s

-- a reader, as the trace tells of it
pub record ReaderIs (es : List Entry) (reader : ℕ) (h : Hearer) : Type 0 where
  pub calls : (s : ℕ) → own_call es reader s ≡ call_at s h.asked
  pub holds : (app : ℕ) → SameKept es app (held es reader app) (holding_of app h.holds)

pub calls_same : (es ys : List Entry) (reader : ℕ) → messages ys (Reader reader) ≡ [] → (s : ℕ) → own_call (es ++ ys) reader s ≡ own_call es reader s
calls_same es ys reader none s =
    ap (λ l. question_if (with_serial s l)) (messages_more es ys (Reader reader) ∙ ap (λ l. messages es (Reader reader) ++ l) none ∙ append-nil (messages es (Reader reader)))

-- others act
pub others_act : (es ys : List Entry) (reader : ℕ) (h : Hearer) → AllByRecursion (NotOfReader reader) ys → ReaderIs es reader h → ReaderIs (es ++ ys) reader h
others_act es ys reader h a i = record {
  calls = λ s. calls_same es ys reader (others_messages reader ys a) s ∙ i.calls s;
  holds = λ app.
      subst (λ k. SameKept (es ++ ys) app k (holding_of app h.holds)) (sym (held_more es ys reader app ∙ others_kept es reader app (held es reader app) ys a))
      (same_more es ys app (held es reader app) (holding_of app h.holds) (i.holds app));
}
