-- WHAT IS DELIVERED TO ONE END by the words of the run is what its queue let in.
use Rattle.std.proofs.Common.{◌≡◌, ℕ, zero, suc, ◌+◌, ◌-◌, ◌≤◌, Bool, true, false, List, [], ◌∷◌, ◌++◌, length, map, Option, None, Some, refl, sym, ap, ap₂, ◌∙◌, subst, arith}
use Rattle.std.specs.Prelude.{◌==◌, nat_lt, filter_map, option_map, slice_get, if◌then◌else◌}
use Rattle.std.specs.List.{AllByRecursion, cons_option}
use Rattle.std.proofs.lemmas.Bool.{eq-eqb, eqb-true}
use Rattle.std.proofs.lemmas.List.{append-nil, append_assoc}
use Rattle.atspi_message.specs.Envelope.{Envelope}
use Rattle.atspi_message.specs.Bytes.{written}
use Rattle.atspi_names.specs.Owners.{own_name}
use Rattle.atspi_script_lines.specs.declared.line.Party.{Party}
use Rattle.atspi_script_lines.specs.declared.line.Party.TheVariants.{Bus as The_bus}
use Rattle.atspi_match.specs.routing.Members.{is_text}
use Rattle.atspi_match.specs.routing.Steps.{Move, says, delivers, closes, bus_leaves}
use Rattle.atspi_trace.specs.World.{Said, Letter, End}
use Rattle.atspi_trace.specs.Ends.{end_at}
use Rattle.atspi_trace.specs.Carrying.{Carried, own_letter, letter_of, one_closed}
use Rattle.atspi_match.specs.declared.routing.closing.Why.{Why}
use Rattle.atspi_headline.specs.Words.{Act, is_same, ends}
use Rattle.atspi_headline.specs.Links.{moved, Delivery, delivery_to, delivery_in, letters, size, sizes, passes, kept}
use Rattle.atspi_trace_laws.proofs.OfOrder.Parties.{false_true, same-party}
use Rattle.atspi_headline_laws.proofs.Reading.{same_who}
use Rattle.atspi_headline_laws.proofs.Joining.{parties}
use Rattle.atspi_headline_quiet.proofs.Standing.{self_same}
use Rattle.atspi_headline_quiet.proofs.Filling.{given, given_one, first_given, course_given, LetIn}
use Rattle.atspi_headline_quiet.proofs.Walking.{StandsOnce, first_deliveries, course_deliveries, pair, to_one, to_more}

-- QUOTAS: each delivery has room behind those before it
abbrev pub AllFit : ℕ → List Delivery → List Delivery → Type 0
AllFit quota made [] = Unit {0}
AllFit quota made (d ∷ ds) = (passes quota made d ≡ false) × AllFit quota (made ++ d ∷ []) ds

pub all_kept : (quota : ℕ) (made ds : List Delivery) → AllFit quota made ds → kept quota made ds ≡ made ++ ds
all_kept quota made [] a = sym (append-nil made)
all_kept quota made (d ∷ ds) a =
    ap (λ b. if b then made else kept quota (made ++ d ∷ []) ds) a.0 ∙ all_kept quota (made ++ d ∷ []) ds a.1 ∙ append_assoc made (d ∷ []) ds

pub fit_more : (quota : ℕ) (made xs ys : List Delivery) → AllFit quota made xs → AllFit quota (made ++ xs) ys → AllFit quota made (xs ++ ys)
fit_more quota made [] ys a b = subst (λ l. AllFit quota l ys) (append-nil made) b
fit_more quota made (x ∷ xs) ys a b = (a.0, fit_more quota (made ++ x ∷ []) xs ys a.1 (subst (λ l. AllFit quota l ys) (sym (append_assoc made (x ∷ []) xs)) b))

abbrev pub Marked : ℕ → Delivery → Type 0
Marked n d = d.mark ≡ n

pub letters_more : (xs ys : List Delivery) → letters (xs ++ ys) ≡ letters xs ++ letters ys
letters_more [] ys = refl
letters_more (x ∷ xs) ys = ap (λ l. (x.from, x.letter) ∷ l) (letters_more xs ys)

pub sizes_more : (xs ys : List (Party × Envelope)) → sizes (xs ++ ys) ≡ sizes xs + sizes ys
sizes_more [] ys = omega arith
sizes_more (m ∷ xs) ys = let ih : sizes (xs ++ ys) ≡ sizes xs + sizes ys = sizes_more xs ys in omega (arith, ih)

head_or : Party × Envelope → List (Party × Envelope) → Envelope
head_or z [] = z.1
head_or z (m ∷ ms) = m.1

tail_of : List (Party × Envelope) → List (Party × Envelope)
tail_of [] = []
tail_of (m ∷ ms) = ms

no_cons : (m : Party × Envelope) (ms : List (Party × Envelope)) → [] ≡ m ∷ ms → ⊥
no_cons m ms h = absurd (omega (arith, ap length h))

pub fits_on : (quota mark n : ℕ) (made ds : List Delivery) (ls : List Letter) → letters ds ≡ map pair ls → AllByRecursion (Marked mark) ds → mark ≤ sizes (letters made) → n ≡ sizes (letters made) - mark → LetIn quota n ls → AllFit quota made ds
unfolding head_or tail_of
fits_on quota mark n made [] ls same marks low is fits = tt
fits_on quota mark n made (d ∷ ds) [] same marks low is fits = absurd (no_cons (d.from, d.letter) (letters ds) (sym same))
fits_on quota mark n made (d ∷ ds) (l ∷ ls) same marks low is fits =
    let letter : d.letter ≡ l.said.message = ap (head_or (d.from, d.letter)) same in
    let size_is : size d.letter ≡ length (written l.said.message) = ap size letter in
    let now : sizes (letters made) - d.mark ≡ n = ap (λ k. sizes (letters made) - k) marks.0 ∙ sym is in
    let all : sizes (letters (made ++ d ∷ [])) ≡ sizes (letters made) + (size d.letter + 0) = ap sizes (letters_more made (d ∷ [])) ∙ sizes_more (letters made) (letters (d ∷ [])) in (
      ap₂ (λ a b. nat_lt quota (a + b)) now size_is ∙ fits.0,
      fits_on quota mark (n + length (written l.said.message)) (made ++ d ∷ []) ds ls (ap tail_of same) marks.1 (higher (sizes (letters made)) (sizes (letters (made ++ d ∷ []))) (size d.letter) low all)
          (shift (sizes (letters made)) (sizes (letters (made ++ d ∷ []))) (size d.letter) (length (written l.said.message)) low is all size_is) fits.1,
    )
  where
    higher : (s t x : ℕ) → mark ≤ s → t ≡ s + (x + 0) → mark ≤ t
    higher s t x g h = omega (arith, g, h)

    shift : (s t x y : ℕ) → mark ≤ s → n ≡ s - mark → t ≡ s + (x + 0) → x ≡ y → n + y ≡ t - mark
    shift s t x y f i h g = omega (arith, f, i, h, g)

-- WHICH OF THEM ARE OF ONE END
pub party_get : (es : List End) (k : ℕ) → slice_get (parties es) k ≡ option_map (λ (e : End). e.who) (end_at es k)
party_get [] zero = refl
party_get [] (suc k) = refl
party_get (x ∷ xs) zero = refl
party_get (x ∷ xs) (suc k) = party_get xs k

module _ (run : List Act) (es : List End) (once : StandsOnce es) (tie : parties es ≡ ends run) (k : ℕ) (e : End) (there : end_at es k ≡ Some e) where
  abbrev mine : Party → List Move → List Delivery
  mine from moves = to_one e.who (filter_map (delivery_in run from) moves)

  not_mine : (x : End) (place : ℕ) → end_at es place ≡ Some x → (place ≡ k → ⊥) → is_same x.who e.who ≡ false
  not_mine x place h differ = by (is_same x.who e.who) refl
    where
      by : (b : Bool) → is_same x.who e.who ≡ b → b ≡ false
      by false g = refl
      by true g = absurd (differ (once place k x e h there (same-party x.who e.who (sym (same_who x.who e.who) ∙ g))))

  abbrev a_letter : Party → Envelope → Party × Envelope
  a_letter from m = ((if is_text m.sender own_name then The_bus else from), m)

  pub record Of (from : Party) (moves : List Move) : Type 0 where
    pub letters_ : letters (mine from moves) ≡ map (a_letter from) (given k moves)
    pub marks_ : AllByRecursion (Marked (moved run e.who false)) (mine from moves)

  of_none : (from : Party) (move : Move) (moves : List Move) → mine from (move ∷ moves) ≡ mine from moves → given_one k move ≡ [] → Of from moves → Of from (move ∷ moves)
  of_none from move moves same none o = record {
    letters_ = ap letters same ∙ o.letters_ ∙ ap (λ l. map (a_letter from) (l ++ given k moves)) (sym none);
    marks_ = subst (AllByRecursion (Marked (moved run e.who false))) (sym same) o.marks_;
  }

  given_so : (conn : ℕ) (m : Envelope) (b : Bool) → (conn == k) ≡ b → given_one k (delivers conn m) ≡ (if b then m ∷ [] else [])
  given_so conn m b h = ap (λ t. if t then m ∷ [] else []) h

  pub of_moves : (from : Party) (moves : List Move) → Of from moves
  of_moves from [] = record { letters_ = refl; marks_ = tt }
  of_moves from (says m ∷ moves) = of_none from (says m) moves refl refl (of_moves from moves)
  of_moves from (closes conn ∷ moves) = of_none from (closes conn) moves refl refl (of_moves from moves)
  of_moves from (delivers place m ∷ moves) = by (place == k) refl (of_moves from moves)
    where
      got : delivery_in run from (delivers place m) ≡ option_map (delivery_to run from m) (option_map (λ (x : End). x.who) (end_at es place))
      got = ap (λ l. option_map (delivery_to run from m) (slice_get l place)) (sym tie) ∙ ap (option_map (delivery_to run from m)) (party_get es place)

      other : (o : Option End) → end_at es place ≡ o → (place ≡ k → ⊥) → mine from (delivers place m ∷ moves) ≡ mine from moves
      other None h differ = ap (λ d. to_one e.who (cons_option d (filter_map (delivery_in run from) moves))) (got ∙ ap (λ x. option_map (delivery_to run from m) (option_map (λ (y : End). y.who) x)) h)
      other (Some x) h differ =
          ap (λ d. to_one e.who (cons_option d (filter_map (delivery_in run from) moves))) (got ∙ ap (λ y. option_map (delivery_to run from m) (option_map (λ (z : End). z.who) y)) h)
          ∙ ap (λ b. if b then delivery_to run from m x.who ∷ mine from moves else mine from moves) (not_mine x place h differ)

      own : place ≡ k → mine from (delivers place m ∷ moves) ≡ delivery_to run from m e.who ∷ mine from moves
      own is =
          ap (λ d. to_one e.who (cons_option d (filter_map (delivery_in run from) moves))) (got ∙ ap (λ y. option_map (delivery_to run from m) (option_map (λ (z : End). z.who) y)) (ap (end_at es) is ∙ there))
          ∙ ap (λ b. if b then delivery_to run from m e.who ∷ mine from moves else mine from moves) (self_same e.who)

      by : (b : Bool) → (place == k) ≡ b → Of from moves → Of from (delivers place m ∷ moves)
      by false h o = of_none from (delivers place m) moves (other (end_at es place) refl (λ s. false_true (sym h ∙ eq-eqb place k s))) (given_so place m false h) o
      by true h o = record {
        letters_ = ap letters (own (eqb-true place k h)) ∙ ap (λ l. a_letter from m ∷ l) o.letters_ ∙ ap (λ l. map (a_letter from) (l ++ given k moves)) (sym (given_so place m true h));
        marks_ = subst (AllByRecursion (Marked (moved run e.who false))) (sym (own (eqb-true place k h))) (refl, o.marks_);
      }

  -- as letters
  of_said : (who : Party) (said : Said) (ms : List Envelope) → map (a_letter who) ms ≡ map pair (map (letter_of who said) ms)
  of_said who said [] = refl
  of_said who said (m ∷ ms) = ap₂ (λ x l. x ∷ l) (by (is_text m.sender own_name)) (of_said who said ms)
    where
      by : (b : Bool) → ((if b then The_bus else who), m) ≡ pair (if b then own_letter m else record { from = who; said = record said { message = m } })
      by true = refl
      by false = refl

  of_own : (ms : List Envelope) → map (a_letter The_bus) ms ≡ map pair (map own_letter ms)
  of_own [] = refl
  of_own (m ∷ ms) = ap₂ (λ x l. x ∷ l) (by (is_text m.sender own_name)) (of_own ms)
    where
      by : (b : Bool) → ((if b then The_bus else The_bus), m) ≡ pair (own_letter m)
      by true = refl
      by false = refl

  pub record Delivered (ds : List Delivery) (ls : List Letter) : Type 0 where
    pub letters_ : letters (to_one e.who ds) ≡ map pair ls
    pub marks_ : AllByRecursion (Marked (moved run e.who false)) (to_one e.who ds)

  pub said_delivered : (who : Party) (said : Said) (moves : List Move) → Delivered (filter_map (delivery_in run who) moves) (map (letter_of who said) (given k moves))
  said_delivered who said moves = let o = of_moves who moves in record { letters_ = o.letters_ ∙ of_said who said (given k moves); marks_ = o.marks_ }

  pub own_delivered : (moves : List Move) → Delivered (filter_map (delivery_in run The_bus) moves) (map own_letter (given k moves))
  own_delivered moves = let o = of_moves The_bus moves in record { letters_ = o.letters_ ∙ of_own (given k moves); marks_ = o.marks_ }

  pub both_delivered : (ds fs : List Delivery) (ls gs : List Letter) → Delivered ds ls → Delivered fs gs → Delivered (ds ++ fs) (ls ++ gs)
  both_delivered ds fs ls gs a b = record {
    letters_ = ap letters (to_more e.who ds fs) ∙ letters_more (to_one e.who ds) (to_one e.who fs) ∙ ap₂ (λ x y. x ++ y) a.letters_ b.letters_ ∙ sym (map_more ls gs);
    marks_ = subst (AllByRecursion (Marked (moved run e.who false))) (sym (to_more e.who ds fs)) (all_more (to_one e.who ds) (to_one e.who fs) a.marks_ b.marks_);
  }
    where
      map_more : (xs ys : List Letter) → map pair (xs ++ ys) ≡ map pair xs ++ map pair ys
      map_more [] ys = refl
      map_more (x ∷ xs) ys = ap (λ l. pair x ∷ l) (map_more xs ys)

      all_more : (xs ys : List Delivery) → AllByRecursion (Marked (moved run e.who false)) xs → AllByRecursion (Marked (moved run e.who false)) ys → AllByRecursion (Marked (moved run e.who false)) (xs ++ ys)
      all_more [] ys p q = q
      all_more (x ∷ xs) ys p q = (p.0, all_more xs ys p.1 q)

  pub course_delivered : (n : ℕ) (c : Carried) → Delivered (course_deliveries run n c) (map own_letter (course_given k n c))
  course_delivered zero c = record { letters_ = refl; marks_ = tt }
  course_delivered (suc n) c =
      let d : Carried = one_closed c c.bus.waiting.due in
      subst (Delivered (first_deliveries run c c.bus.waiting.due ++ course_deliveries run n d)) (sym (maps (first_given k c c.bus.waiting.due) (course_given k n d)))
      (both_delivered (first_deliveries run c c.bus.waiting.due) (course_deliveries run n d) (map own_letter (first_given k c c.bus.waiting.due)) (map own_letter (course_given k n d)) (by c.bus.waiting.due) (course_delivered n d))
    where
      maps : (xs ys : List Envelope) → map own_letter (xs ++ ys) ≡ map own_letter xs ++ map own_letter ys
      maps [] ys = refl
      maps (x ∷ xs) ys = ap (λ l. own_letter x ∷ l) (maps xs ys)

      by : (due : List (ℕ × Why)) → Delivered (first_deliveries run c due) (map own_letter (first_given k c due))
      by [] = record { letters_ = refl; marks_ = tt }
      by (first ∷ rest) = own_delivered (bus_leaves c.bus.state first.0).moves
