-- WHAT AN UP LINK HAS: of an end that is here, the messages that it sent and the bus did not take.
use Rattle.std.proofs.Common.{◌≡◌, ℕ, zero, suc, ◌+◌, ◌<◌, ◌≤◌, true, List, [], ◌∷◌, ◌++◌, length, map, take, drop, Some, refl, sym, ap, ◌∙◌, subst, arith}
use Rattle.std.specs.Prelude.{Option, if◌then◌else◌}
use Rattle.std.specs.List.{AllByRecursion}
use Rattle.std.proofs.lemmas.Bool.{ne_eqb, eq-eqb}
use Rattle.std.proofs.lemmas.List.{take-append-drop, take-append-le}
use Rattle.atspi_script_lines.specs.declared.line.Party.{Party}
use Rattle.atspi_script_lines.specs.declared.line.Party.TheVariants.{Bus as The_bus, Registry, App, Reader}
use Rattle.atspi_message.specs.Envelope.{Envelope}
use Rattle.atspi_trace.specs.Entry.{Entry}
use Rattle.atspi_trace.specs.World.{here, Role, Said, End, World}
use Rattle.atspi_trace.specs.Ends.{end_at, is_here}
use Rattle.atspi_headline.specs.Words.{Act, entries_in, messages, sent_by}
use Rattle.atspi_headline.specs.Links.{link}
use Rattle.atspi_trace_laws.specs.laws.Words as told
use Rattle.atspi_trace_laws.specs.laws.NineLaws.{sent_before, count_got_by_bus}
use Rattle.atspi_trace_laws.proofs.OfOrder.Parties.{same_some}
use Rattle.atspi_trace_laws.proofs.OfOrder.Growing.{Shaped, And}
use Rattle.atspi_trace_laws.proofs.OfOrder.Shape.{RoleFits}
use Rattle.atspi_trace_laws.proofs.OfOrder.Each.{all_map}
use Rattle.atspi_trace_laws.proofs.OfSteps.LawSteps.{Below, Stepped}
use Rattle.atspi_trace_laws.proofs.OfSerials.Speaking.{next_of}
use Rattle.atspi_trace_laws.proofs.OfSerials.Numbers.{Numbered}
use Rattle.atspi_trace_laws.proofs.OfSerials.LawNumbers.{numbers_keep}
use Rattle.atspi_trace_laws.proofs.OfLinks.Ups.{Ups}
use Rattle.atspi_trace_laws.proofs.OfLinks.LawLinks.{IsLinked, Linked, first_unread}
use Rattle.atspi_trace_laws.proofs.OfLinks.TakenInOrder.{Base, links_keep}
use Rattle.atspi_trace_laws.proofs.OfTaken.Said.{IsSaid}
use Rattle.atspi_trace_laws.proofs.OfTaken.LawTaken.{Taken, Under, taken_keeps}
use Rattle.atspi_headline_laws.proofs.Reading.{messages_told}
use Rattle.atspi_headline_laws.proofs.Numbering.{From, IsPlain, numbered}
use Rattle.atspi_headline_laws.proofs.Growing.{Front}
use Rattle.atspi_headline_laws.proofs.Handing.{shape, numbers}
use Rattle.atspi_headline_links.proofs.Sizes.{Mail}
use Rattle.atspi_headline_links.proofs.Moved.{chosen_more}

-- messages that are numbered one behind the other, and those on a link, each of which is found among them
abbrev IsFound : List Envelope → Said → Type 0
IsFound ms said = told.with_serial said.message.serial ms ≡ Some said.message

abbrev said_messages : List Said → List Envelope
said_messages ss = map (λ (s : Said). s.message) ss

found_behind : (m : Envelope) (ms : List Envelope) (n : ℕ) (ss : List Said) → m.serial < n → Ups n ss → AllByRecursion (IsFound (m ∷ ms)) ss → AllByRecursion (IsFound ms) ss
found_behind m ms n [] low u a = tt
found_behind m ms n (s ∷ ss) low u a = (
  ap (λ b. if b then Some m else told.with_serial s.message.serial ms) (sym (ne_eqb m.serial s.message.serial (λ same. differ u.0 same))) ∙ a.0,
  found_behind m ms (n + 1) ss (later low) u.1 a.1,
)
  where
    differ : s.message.serial ≡ n → m.serial ≡ s.message.serial → ⊥
    differ is same = absurd (omega (arith, is, same, low))

    later : m.serial < n → m.serial < n + 1
    later h = omega (arith, h)

first_found : (m : Envelope) (ms : List Envelope) (s : Said) → m.serial ≡ s.message.serial → IsFound (m ∷ ms) s → m ≡ s.message
first_found m ms s same h = same_some m s.message (sym (ap (λ b. if b then Some m else told.with_serial s.message.serial ms) (eq-eqb m.serial s.message.serial same)) ∙ h)

below_next : (k n : ℕ) → k ≡ n → k < suc n
below_next k n h = omega (arith, h)

left_on_link : (n k : ℕ) (ms : List Envelope) (ss : List Said) → From n ms → Ups (n + k) ss → k + length ss ≡ length ms → AllByRecursion (IsFound ms) ss → drop k ms ≡ said_messages ss
left_on_link n zero [] [] f u c a = refl
left_on_link n zero [] (s ∷ ss) f u c a = absurd (omega (arith, c))
left_on_link n zero (m ∷ ms) [] f u c a = absurd (omega (arith, c))
left_on_link n zero (m ∷ ms) (s ∷ ss) f u c a =
    let same : m.serial ≡ s.message.serial = first f.0 u.0 in
    let next : (n + 0) + 1 ≡ suc n + 0 = omega arith in
    let count : 0 + length ss ≡ length ms = omega (arith, c) in
    let rest : Ups (suc n + 0) ss = subst (λ k. Ups k ss) next u.1 in
    ap (λ x. x ∷ ms) (first_found m ms s same a.0)
    ∙ ap (λ l. s.message ∷ l) (left_on_link (suc n) zero ms ss f.1 rest count (found_behind m ms (suc n + 0) ss (low f.0) rest a.1))
  where
    first : m.serial ≡ n → s.message.serial ≡ n + 0 → m.serial ≡ s.message.serial
    first h g = omega (arith, h, g)

    low : m.serial ≡ n → m.serial < suc n + 0
    low h = omega (arith, h)
left_on_link n (suc k) [] ss f u c a = absurd (omega (arith, c))
left_on_link n (suc k) (m ∷ ms) ss f u c a =
    let next : n + suc k ≡ suc n + k = omega arith in
    let count : k + length ss ≡ length ms = omega (arith, c) in
    let rest : Ups (suc n + k) ss = subst (λ j. Ups j ss) next u in
    left_on_link (suc n) k ms ss f.1 rest count (found_behind m ms (suc n + k) ss (low f.0) rest a)
  where
    low : m.serial ≡ n → m.serial < suc n + k
    low h = omega (arith, h)

-- what lies on the up link of an end, and what the bus took of it
abbrev pub of_party : Party → List Envelope → Mail
of_party who es = map (λ e. (who, e)) es

abbrev pub ups : End → Mail
ups e = map (λ (s : Said). (e.who, s.message)) e.up

abbrev pub took_up : List Act → Party → Mail
took_up run who = of_party who (take (count_got_by_bus (entries_in run) who) (messages run who))

pub record UpsAre (run : List Act) (e : End) : Type 0 where
  pub count : count_got_by_bus (entries_in run) e.who + length e.up ≡ length (messages run e.who)
  pub on_link : drop (count_got_by_bus (entries_in run) e.who) (messages run e.who) ≡ said_messages e.up

plain_role : (who : Party) (role : Role) → RoleFits who role → IsPlain who
plain_role The_bus role f = absurd (no role f)
  where
    no : (role : Role) → RoleFits The_bus role → ⊥
    no role g = g
plain_role Registry role f = tt
plain_role (App a) role f = tt
plain_role (Reader r) role f = tt

pub ups_are : (front : List Act) (w : World) (free : Option ℕ) → Front front w free → (k : ℕ) (e : End) → end_at w.ends k ≡ Some e → e.standing ≡ here → UpsAre front e
ups_are front w free f k e there standing = record { count = total; on_link = on_link }
  where
    es : List Entry
    es = entries_in front

    ms : List Envelope
    ms = told.messages es e.who

    c : ℕ
    c = count_got_by_bus es e.who

    s : ℕ
    s = sent_before e.who

    same : messages front e.who ≡ ms
    same = messages_told front e.who

    linked : IsLinked (first_unread es e.who) e
    linked = (f.kept (Shaped (And Base Linked)) links_keep).1.1.1 k e there (ap is_here standing)

    next : next_of e.role ≡ suc (sent_before e.who + length ms)
    next = (f.kept (Shaped (And (And Below Stepped) Numbered)) numbers_keep).1.1.1 k e there

    from : From (suc s) ms
    from = numbered e.who (plain_role e.who e.role ((shape front w free f).roles k e there)) es (numbers front w free f)

    known : AllByRecursion (IsSaid es e.who) e.up
    known = ((f.kept (Shaped (And Under Taken)) taken_keeps).1.1.1 k e there).0

    sum : next_of e.role ≡ first_unread es e.who + length e.up → c + length e.up ≡ length ms
    sum h = omega (arith, h, next)

    total : c + length e.up ≡ length (messages front e.who)
    total = sum linked.total ∙ ap length (sym same)

    on_link : drop c (messages front e.who) ≡ said_messages e.up
    on_link =
        let unread : first_unread es e.who ≡ suc s + c = omega arith in
        ap (drop c) same
        ∙ left_on_link (suc s) c ms e.up from (subst (λ n. Ups n e.up) unread linked.ups) (sum linked.total)
        (all_map (IsSaid es e.who) (IsFound ms) e.up (λ said i. i.was) known)

map_both : (who : Party) (ss : List Said) → of_party who (said_messages ss) ≡ map (λ (s : Said). (who, s.message)) ss
map_both who [] = refl
map_both who (s ∷ ss) = ap (λ l. (who, s.message) ∷ l) (map_both who ss)

of_party_both : (who : Party) (xs ys : List Envelope) → of_party who (xs ++ ys) ≡ of_party who xs ++ of_party who ys
of_party_both who [] ys = refl
of_party_both who (x ∷ xs) ys = ap (λ l. (who, x) ∷ l) (of_party_both who xs ys)

-- the link: what the bus took, and what it did not
pub link_is : (run : List Act) (e : End) → UpsAre run e → link run e.who true ≡ took_up run e.who ++ ups e
link_is run e u =
    let c : ℕ = count_got_by_bus (entries_in run) e.who in
    let ms : List Envelope = messages run e.who in
    ap (of_party e.who) (sym (take-append-drop c ms)) ∙ of_party_both e.who (take c ms) (drop c ms)
    ∙ ap (λ l. took_up run e.who ++ l) (ap (of_party e.who) u.on_link ∙ map_both e.who e.up)

-- MORE ACTS
pub messages_more : (xs ys : List Act) (who : Party) → messages (xs ++ ys) who ≡ messages xs who ++ messages ys who
messages_more xs ys who = chosen_more (sent_by who) xs ys

-- of which the bus takes nothing
pub took_same : (run acts : List Act) (who : Party) → count_got_by_bus (entries_in (run ++ acts)) who ≡ count_got_by_bus (entries_in run) who
    → count_got_by_bus (entries_in run) who ≤ length (messages run who) → took_up (run ++ acts) who ≡ took_up run who
took_same run acts who same within =
    let c : ℕ = count_got_by_bus (entries_in run) who in
    ap (λ n. of_party who (take n (messages (run ++ acts) who))) same
    ∙ ap (λ l. of_party who (take c l)) (messages_more run acts who)
    ∙ ap (of_party who) (take-append-le c (messages run who) (messages acts who) within)

-- of which it takes the next
take_next : (c : ℕ) (ms : List Envelope) (m : Envelope) (rest : List Envelope) → drop c ms ≡ m ∷ rest → take (c + 1) ms ≡ take c ms ++ m ∷ []
take_next zero ms m rest h = ap (take 1) h
take_next (suc c) [] m rest h = absurd (none h)
  where
    none : [] ≡ m ∷ rest → ⊥
    none g = absurd (omega (arith, ap length g))
take_next (suc c) (x ∷ ms) m rest h =
    let more : suc c + 1 ≡ suc (c + 1) = omega arith in
    ap (λ n. take n (x ∷ ms)) more ∙ ap (λ l. x ∷ l) (take_next c ms m rest h)

pub took_next : (run acts : List Act) (e : End) (said : Said) (rest : List Said) → UpsAre run e → e.up ≡ said ∷ rest → count_got_by_bus (entries_in (run ++ acts)) e.who ≡ count_got_by_bus (entries_in run) e.who + 1
    → took_up (run ++ acts) e.who ≡ took_up run e.who ++ (e.who, said.message) ∷ []
took_next run acts e said rest u link more =
    let c : ℕ = count_got_by_bus (entries_in run) e.who in
    let ms : List Envelope = messages run e.who in
    let size : length e.up ≡ suc (length rest) = ap length link in
    let within : c + 1 ≤ length ms = omega (arith, u.count, size) in
    ap (λ n. of_party e.who (take n (messages (run ++ acts) e.who))) more
    ∙ ap (λ l. of_party e.who (take (c + 1) l)) (messages_more run acts e.who)
    ∙ ap (of_party e.who) (take-append-le (c + 1) ms (messages acts e.who) within ∙ take_next c ms said.message (said_messages rest) (u.on_link ∙ ap said_messages link))
    ∙ of_party_both e.who (take c ms) (said.message ∷ [])
