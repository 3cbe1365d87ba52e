-- Serials that differ, Hello as the first call alone, and words for replies.
use Rattle.std.proofs.Common.{◌≡◌, ◌⊎◌, inl, inr, ℕ, suc, ◌<◌, ◌≤◌, Bool, true, false, List, [], ◌∷◌, map, Option, None, Some, refl, sym, ap, ap₂, ◌∙◌, subst, arith}
use Rattle.std.specs.Prelude.{◌==◌, ◌||◌, ◌&&◌, bytes_eq, if◌then◌else◌}
use Rattle.std.specs.List.{AllByRecursion}
use Rattle.std.proofs.lemmas.Bool.{eqb-true}
use Rattle.std.proofs.lemmas.Slice.Eq.{bytes_eq-Decides}
use Rattle.atspi_types.specs.Data.{Data, text_data}
use Rattle.atspi_base.specs.valid_names.Names.{is_bus_name, is_unique_name}
use Rattle.atspi_message.specs.Envelope.{Envelope}
use Rattle.atspi_names.specs.Owners.{own_name}
use Rattle.atspi_match.specs.routing.Members.{is_text}
use Rattle.atspi_match.specs.routing.Routing.{is_reply, is_for_bus}
use Rattle.atspi_protocol.specs.ends.Places.{bus}
use Rattle.atspi_protocol.specs.news.NewsOf.{or_empty}
use Rattle.atspi_protocol.specs.declared.news.part.PartName.{PartName}
use Rattle.atspi_protocol.specs.declared.news.part.PartName.TheVariants.{Text, Caret, Columns}
use Rattle.atspi_protocol.specs.declared.following.question.Question.{Question}
use Rattle.atspi_protocol.specs.declared.following.question.Question.TheVariants.{Hello, GetPart}
use Rattle.atspi_protocol.specs.following.Calls.{asking}
use Rattle.atspi_protocol.specs.following.Replied.{is_reply_to, is_unique_name_alone}
use Rattle.atspi_trace.specs.World.{returned, failed, Asked}
use Rattle.atspi_trace.specs.Hearing.{answered_by, fate_of}
use Rattle.atspi_trace_caches.specs.settled.Laws.{question_of}
use Rattle.atspi_trace_laws.proofs.OfOrder.Parties.{false_true, all_append, all_front}
use Rattle.atspi_trace_laws.proofs.OfOrder.Each.{all_map}
use Rattle.atspi_trace_caches.proofs.OfSettled.Settling_counted.{Rises, HeadOne}
use Rattle.atspi_trace_played.proofs.Facts.{AllBelow, SerialsDiffer, IsLate, InOrder}
use Rattle.atspi_trace_played.proofs.ReplyingFails.{IsNext, nine, nine_next}

-- SERIALS
pub all_below : (n lo : ℕ) (xs : List Asked) → n < lo → Rises lo (map (λ (a : Asked). a.serial) xs) → AllBelow n xs
all_below n lo [] less rises = tt
all_below n lo (a ∷ xs) less rises = (by (bytes_eq (n ∷ []) (a.serial ∷ [])) refl, all_below n (suc a.serial) xs (further lo a.serial n less rises.0) rises.1)
  where
    head : List ℕ → ℕ
    head [] = 0
    head (x ∷ xs) = x

    further : (lo s n : ℕ) → n < lo → lo ≤ s → n < suc s
    further lo s n h g = omega (arith, h, g)

    by : (b : Bool) → bytes_eq (n ∷ []) (a.serial ∷ []) ≡ b → bytes_eq (n ∷ []) (a.serial ∷ []) ≡ false
    by true is = let same : n ≡ a.serial = ap head ((bytes_eq-Decides (n ∷ []) (a.serial ∷ [])).0 is) in let low : lo ≤ a.serial = rises.0 in absurd (omega (arith, less, same, low))
    by false is = is

pub serials_differ : (lo : ℕ) (xs : List Asked) → Rises lo (map (λ (a : Asked). a.serial) xs) → SerialsDiffer xs
serials_differ lo [] rises = tt
serials_differ lo (a ∷ xs) rises = (all_below a.serial (suc a.serial) xs (less a.serial) rises.1, serials_differ (suc a.serial) xs rises.1)
  where
    less : (n : ℕ) → n < suc n
    less n = omega arith

-- HELLO is the first call alone
abbrev pub NoHello : Question → Type 0
NoHello q = q ≡ Hello → ⊥

pub from_next : (qs : List Question) → AllByRecursion IsNext qs → AllByRecursion NoHello qs
from_next qs a = all_map IsNext NoHello qs (λ q next is. subst IsNext is next) a

pub from_late : (qs : List Question) → AllByRecursion IsLate qs → AllByRecursion NoHello qs
from_late qs a = all_map IsLate NoHello qs (λ q late is. subst IsLate is late) a

abbrev pub HelloIsOne : Asked → Type 0
HelloIsOne x = x.question ≡ Hello → x.serial ≡ 1

abbrev pub tail_of : List Question → List Question
tail_of [] = []
tail_of (x ∷ xs) = xs

pub hello_one : (asked : List Asked) (to_come : List Question) → InOrder asked to_come → HeadOne (map (λ (a : Asked). a.serial) asked) → AllByRecursion HelloIsOne asked
hello_one [] to_come order one = tt
hello_one (x ∷ xs) to_come order one = (
  (λ is. one),
  rest xs
      (all_front NoHello (map question_of xs) to_come (subst (AllByRecursion NoHello) (sym (ap tail_of order.1)) (all_append NoHello nine order.0 (from_next nine nine_next) (from_late order.0 order.2)))),
)
  where
    rest : (xs : List Asked) → AllByRecursion NoHello (map question_of xs) → AllByRecursion HelloIsOne xs
    rest [] a = tt
    rest (x ∷ xs) a = ((λ is. absurd (a.0 is)), rest xs a.1)

abbrev pub is_first : Question → Bool
is_first Hello = true
is_first q = false

-- KINDS
pub kinds : (m : Envelope) → is_reply m ≡ true → (m.kind ≡ 2) ⊎ (m.kind ≡ 3)
kinds m h = by (m.kind == 2) refl (m.kind == 3) refl h
  where
    by : (a : Bool) → (m.kind == 2) ≡ a → (b : Bool) → (m.kind == 3) ≡ b → (a || b) ≡ true → (m.kind ≡ 2) ⊎ (m.kind ≡ 3)
    by true g b f k = inl (eqb-true m.kind 2 g)
    by false g true f k = inr (eqb-true m.kind 3 f)
    by false g false f k = absurd (false_true k)

pub fails_now : (m : Envelope) (a : Asked) → is_reply m ≡ true → is_reply_to a.serial m.reply ≡ true → m.kind ≡ 3 → answered_by m a ≡ record a { fate = failed }
fails_now m a replies to three =
    ap₂ (λ b c. if b && c then record a { fate = fate_of m } else a) replies to ∙ ap (λ k. record a { fate = if k == 2 then returned else failed }) three

pub of_map : (P : Asked → Type 0) (f : Asked → Asked) (xs : List Asked) → AllByRecursion P (map f xs) → AllByRecursion (λ a. P (f a)) xs
of_map P f [] a = tt
of_map P f (x ∷ xs) a = (a.0, of_map P f xs a.1)

pub alone_is : (b : List Data) (name : List ℕ) → b ≡ text_data name ∷ [] → is_bus_name name ≡ true → is_unique_name name ≡ true → is_unique_name_alone b ≡ true
alone_is b name is one two = ap is_unique_name_alone is ∙ ap₂ (λ x y. x && y) one two

pub hello_for_bus : (n : ℕ) → is_for_bus (asking n Hello) ≡ true
hello_for_bus n = refl

pub part_goes : (n : ℕ) (name path : List ℕ) (part : PartName) → (asking n (GetPart name path part)).destination ≡ Some name
part_goes n name path Text = refl
part_goes n name path Caret = refl
part_goes n name path Columns = refl

pub of_bus : (m : Envelope) → is_text m.sender own_name ≡ true → bytes_eq (or_empty m.sender) bus ≡ true
of_bus m h = by m.sender h
  where
    by : (o : Option (List ℕ)) → is_text o own_name ≡ true → bytes_eq (or_empty o) bus ≡ true
    by None g = absurd (false_true g)
    by (Some field) g = g

pub or_true : (a b : Bool) → b ≡ true → (a || b) ≡ true
or_true true b h = refl
or_true false b h = h
