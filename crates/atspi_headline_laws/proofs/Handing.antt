-- What an end takes of its link is, by the words of the headline, the message with that serial that its sender sent, under the sender's name.
use Rattle.std.proofs.Common.{◌≡◌, inl, inr, ℕ, suc, ◌+◌, Bool, true, false, List, [], ◌∷◌, ◌++◌, map, Option, None, Some, refl, sym, ap, ◌∙◌, subst, arith}
use Rattle.std.specs.Prelude.{◌==◌, filter, filter_map, option_map, codes, if◌then◌else◌}
use Rattle.std.specs.Fmt.{digits}
use Rattle.std.specs.List.{AllByRecursion, cons_option}
use Rattle.std.proofs.lemmas.Bool.{eqb-true}
use Rattle.atspi_script_lines.specs.declared.line.Party.{Party}
use Rattle.atspi_script_lines.specs.declared.line.Party.TheVariants.{Bus as The_bus, Registry, App, Reader}
use Rattle.atspi_message.specs.Envelope.{Envelope}
use Rattle.atspi_names.specs.Owners.{unique_name}
use Rattle.atspi_trace.specs.Entry.{Entry, started, changed, sent, got, heard, unheard, spoke, showed, exited, gone, dropped, busy, quiet}
use Rattle.atspi_trace.specs.World.{here as stands_here, Role, Said, Letter, End, World}
use Rattle.atspi_trace.specs.Ends.{same_party, end_at}
use Rattle.atspi_headline.specs.Words as here
use Rattle.atspi_headline.specs.Words.{Act, entries_in, is_same, signed, handed, name_of}
use Rattle.atspi_trace_laws.specs.laws.Words as told
use Rattle.atspi_trace_laws.specs.laws.NineLaws.{sent_before, count_got_by_bus}
use Rattle.atspi_trace_laws.specs.links.Laws.{IsTakenInOrder}
use Rattle.atspi_trace_laws.specs.serials.Laws.{HasNextNumber}
use Rattle.atspi_trace_laws.proofs.OfOrder.Parties.{no_none}
use Rattle.atspi_trace_laws.proofs.OfOrder.Each.{Each}
use Rattle.atspi_trace_laws.proofs.OfOrder.Growing.{Shaped, And}
use Rattle.atspi_trace_laws.proofs.OfOrder.Shape.{RoleFits, Shape}
use Rattle.atspi_trace_laws.proofs.OfSteps.LawSteps.{Below, Stepped}
use Rattle.atspi_trace_laws.proofs.OfSerials.Numbers.{Numbered}
use Rattle.atspi_trace_laws.proofs.OfSerials.LawNumbers.{numbers_keep}
use Rattle.atspi_trace_laws.proofs.OfLinks.LawLinks.{Linked}
use Rattle.atspi_trace_laws.proofs.OfLinks.TakenInOrder.{Base, links_keep}
use Rattle.atspi_trace_laws.proofs.OfNames.Places.{first_at, position_is, greeted, told_is}
use Rattle.atspi_trace_laws.proofs.OfNames.LawNames.{IsAt, Named, Under_names, names_keep}
use Rattle.atspi_trace_laws.proofs.OfSigned.Mail.{NameIs, IsPost, IsMail}
use Rattle.atspi_trace_laws.proofs.OfSigned.LawMail.{Mail, Under_mail, Known_mail, mail_keeps}
use Rattle.atspi_trace_laws.proofs.OfLinks.Ups as ups
use Rattle.atspi_trace_laws.proofs.OfReaders.BusSaid.{OwnIs}
use Rattle.atspi_trace_laws.proofs.OfReaders.TellsBus.{Told, Below_told, Speaks_true, told_keeps}
use Rattle.atspi_headline_laws.proofs.Reading.{messages_told}
use Rattle.atspi_headline_laws.proofs.Numbering.{From, as_list, one_with, IsPlain, numbered}
use Rattle.atspi_headline_laws.proofs.Naming.{name_same}
use Rattle.atspi_headline_laws.proofs.Growing.{Front}

-- WHO WAS GREETED: nobody but ends that are there, and never the registry, which sent its Hello before
none_at : (p : Party → Bool) (xs : List Party) → AllByRecursion (λ x. p x ≡ false) xs → first_at p xs ≡ None
none_at p [] a = refl
none_at p (x ∷ xs) a = ap (λ b. if b then Some 0 else option_map suc (first_at p xs)) a.0 ∙ ap (option_map suc) (none_at p xs a.1)

late_registry : (before : List Entry) (serial : ℕ) → serial ≡ suc (sent_before Registry + count_got_by_bus before Registry) → serial ≡ 1 → ⊥
late_registry before serial h one = no (sent_before Registry) (count_got_by_bus before Registry) refl h
  where
    no : (k n : ℕ) → k ≡ 3 → serial ≡ suc (k + n) → ⊥
    no k n three g = absurd (omega (arith, three, g, one))

other_greeted : (before : List Entry) (who : Party) (serial : ℕ) → serial ≡ suc (sent_before who + count_got_by_bus before who) → serial ≡ 1 → same_party Registry who ≡ false
other_greeted before The_bus serial h one = refl
other_greeted before Registry serial h one = absurd (late_registry before serial h one)
other_greeted before (App a) serial h one = refl
other_greeted before (Reader r) serial h one = refl

no_registry : (early es : List Entry) → Each IsTakenInOrder early es → AllByRecursion (λ p. same_party Registry p ≡ false) (greeted es)
no_registry early [] e = tt
no_registry early (got The_bus who serial ∷ es) e = by (serial == 1) refl (no_registry (early ++ got The_bus who serial ∷ []) es e.1)
  where
    by : (b : Bool) → (serial == 1) ≡ b → AllByRecursion (λ p. same_party Registry p ≡ false) (greeted es)
        → AllByRecursion (λ p. same_party Registry p ≡ false) (cons_option (if b then Some who else None) (greeted es))
    by true h rest = (other_greeted early who serial e.0.1 (eqb-true serial 1 h), rest)
    by false h rest = rest
no_registry early (got Registry who serial ∷ es) e = no_registry (early ++ got Registry who serial ∷ []) es e.1
no_registry early (got (App a) who serial ∷ es) e = no_registry (early ++ got (App a) who serial ∷ []) es e.1
no_registry early (got (Reader r) who serial ∷ es) e = no_registry (early ++ got (Reader r) who serial ∷ []) es e.1
no_registry early (started p name ∷ es) e = no_registry (early ++ started p name ∷ []) es e.1
no_registry early (changed a step ∷ es) e = no_registry (early ++ changed a step ∷ []) es e.1
no_registry early (sent p m ∷ es) e = no_registry (early ++ sent p m ∷ []) es e.1
no_registry early (heard a listener pattern ∷ es) e = no_registry (early ++ heard a listener pattern ∷ []) es e.1
no_registry early (unheard a listener pattern ∷ es) e = no_registry (early ++ unheard a listener pattern ∷ []) es e.1
no_registry early (spoke r a text ∷ es) e = no_registry (early ++ spoke r a text ∷ []) es e.1
no_registry early (showed r a rows ∷ es) e = no_registry (early ++ showed r a rows ∷ []) es e.1
no_registry early (exited p ∷ es) e = no_registry (early ++ exited p ∷ []) es e.1
no_registry early (gone r a ∷ es) e = no_registry (early ++ gone r a ∷ []) es e.1
no_registry early (dropped p queued len ∷ es) e = no_registry (early ++ dropped p queued len ∷ []) es e.1
no_registry early (busy turns ∷ es) e = no_registry (early ++ busy turns ∷ []) es e.1
no_registry early (quiet ∷ es) e = no_registry (early ++ quiet ∷ []) es e.1

no_bus : (w : World) → Shape w → (ps : List Party) → AllByRecursion (IsAt w) ps → AllByRecursion (λ p. same_party The_bus p ≡ false) ps
no_bus w s [] a = tt
no_bus w s (The_bus ∷ ps) a = absurd (no_role a.0.1.role (subst (λ p. RoleFits p a.0.1.role) a.0.3 (s.roles a.0.0 a.0.1 a.0.2)))
  where
    no_role : (role : Role) → RoleFits The_bus role → ⊥
    no_role role f = f
no_bus w s (Registry ∷ ps) a = (refl, no_bus w s ps a.1)
no_bus w s (App n ∷ ps) a = (refl, no_bus w s ps a.1)
no_bus w s (Reader n ∷ ps) a = (refl, no_bus w s ps a.1)

-- NAMES
registry_name : (run : List Act) → name_of run Registry ≡ Some (codes ":1.0")
unfolding digits
registry_name run = ap (option_map unique_name) (position_is (is_same Registry) (Registry ∷ filter_map here.greeting_in run))

bus_is_none : (p : Party) → The_bus ≡ Registry → ⊥
bus_is_none p h = cc

app_is_none : (a : ℕ) → App a ≡ Registry → ⊥
app_is_none a h = cc

reader_is_none : (r : ℕ) → Reader r ≡ Registry → ⊥
reader_is_none r h = cc

from_suc : (n : ℕ) (ms : List Envelope) → ups.From n ms → From n ms
from_suc n [] f = tt
from_suc n (m ∷ ms) f = (f.0, from_suc (suc n) ms (subst (λ k. ups.From k ms) (next n) f.1))
  where
    next : (k : ℕ) → k + 1 ≡ suc k
    next k = omega arith

module _ (front : List Act) (w : World) (free : Option ℕ) (f : Front front w free) where
  abbrev es : List Entry
  es = entries_in front

  pub shape : Shape w
  shape = (f.kept (Shaped (And (And Below Stepped) Numbered)) numbers_keep).0

  pub numbers : Each HasNextNumber [] es
  numbers = (f.kept (Shaped (And (And Below Stepped) Numbered)) numbers_keep).1.1.0

  in_order : Each IsTakenInOrder [] es
  in_order = (f.kept (Shaped (And Base Linked)) links_keep).1.1.0

  pub named : Named es w
  named = (f.kept (Shaped (And Under_names Named)) names_keep).1.1

  pub mail : Mail es w
  mail = (f.kept (Shaped (And Under_mail Known_mail)) mail_keeps).1.1.0

  pub bus_told : Told es w
  bus_told = (f.kept (Shaped (And Below_told Speaks_true)) told_keeps).1.1 f.lives

  -- the name of who sent a message
  pub name_is : (p : Party) (caller : List ℕ) → NameIs es p caller → IsPlain p × (name_of front p ≡ Some caller)
  name_is The_bus caller (inl x) = absurd (bus_is_none The_bus x.0)
  name_is The_bus caller (inr h) =
      absurd (no_none caller (sym (ap (option_map (λ n. unique_name (suc n))) (none_at (same_party The_bus) (greeted es) (no_bus w shape (greeted es) named.among))) ∙ h))
  name_is Registry caller (inl x) = (tt, registry_name front ∙ ap Some (sym x.1))
  name_is Registry caller (inr h) =
      absurd (no_none caller (sym (ap (option_map (λ n. unique_name (suc n))) (none_at (same_party Registry) (greeted es) (no_registry [] es in_order))) ∙ h))
  name_is (App a) caller (inl x) = absurd (app_is_none a x.0)
  name_is (App a) caller (inr h) = (tt, name_same front (App a) refl ∙ told_is es (App a) ∙ h)
  name_is (Reader r) caller (inl x) = absurd (reader_is_none r x.0)
  name_is (Reader r) caller (inr h) = (tt, name_same front (Reader r) refl ∙ told_is es (Reader r) ∙ h)

  -- the message with a serial
  pub with_is : (p : Party) (serial : ℕ) (m : Envelope) → IsPlain p → told.message es p serial ≡ Some m → here.with_serial front p serial ≡ m ∷ []
  with_is p serial m plain was =
      ap (filter (λ (e : Envelope). e.serial == serial)) (messages_told front p)
      ∙ one_with (suc (sent_before p)) serial (told.messages es p) (numbered p plain es numbers) ∙ ap as_list was

  signed_is : (p : Party) (caller : List ℕ) (m : Envelope) → IsPlain p → name_of front p ≡ Some caller → signed p (name_of front p) m ≡ record m { sender = Some caller }
  signed_is The_bus caller m plain name = absurd plain
  signed_is Registry caller m plain name = ap (λ n. record m { sender = n }) name
  signed_is (App a) caller m plain name = ap (λ n. record m { sender = n }) name
  signed_is (Reader r) caller m plain name = ap (λ n. record m { sender = n }) name

  of_post : (who : Party) (letter : Letter) → IsPost es who letter → handed front letter.from letter.said.message.serial ≡ letter.said.message ∷ []
  of_post who letter i =
      let name = name_is letter.from i.caller i.name in
      let message : letter.said.message ≡ record i.first.message { sender = Some i.caller } = ap (λ (s : Said). s.message) i.alike in
      let serial : letter.said.message.serial ≡ i.first.message.serial = ap (λ (e : Envelope). e.serial) message in
      ap (λ n. map (signed letter.from (name_of front letter.from)) (here.with_serial front letter.from n)) serial
      ∙ ap (map (signed letter.from (name_of front letter.from))) (with_is letter.from i.first.message.serial i.first.message name.0 i.sent_.was)
      ∙ ap (λ e. e ∷ []) (signed_is letter.from i.caller i.first.message name.0 name.1 ∙ sym message)

  of_bus : (letter : Letter) → letter.from ≡ The_bus → OwnIs (told.messages es The_bus) letter → handed front letter.from letter.said.message.serial ≡ letter.said.message ∷ []
  of_bus letter bus own =
      let all : From 8 (told.messages es The_bus) = from_suc 8 (told.messages es The_bus) bus_told.from in
      let one : here.with_serial front The_bus letter.said.message.serial ≡ letter.said.message ∷ [] =
      ap (filter (λ (e : Envelope). e.serial == letter.said.message.serial)) (messages_told front The_bus)
      ∙ one_with 8 letter.said.message.serial (told.messages es The_bus) all ∙ ap as_list (own bus) in
      ap (λ p. handed front p letter.said.message.serial) bus ∙ ap (map (signed The_bus (name_of front The_bus))) one

  pub with_bus : (serial : ℕ) → here.with_serial front The_bus serial ≡ as_list (told.message es The_bus serial)
  with_bus serial =
      ap (filter (λ (e : Envelope). e.serial == serial)) (messages_told front The_bus)
      ∙ one_with 8 serial (told.messages es The_bus) (from_suc 8 (told.messages es The_bus) bus_told.from)

  -- WHAT IS HANDED to an end that is here
  pub handed_is : (k : ℕ) (e : End) (letter : Letter) (rest : List Letter) → end_at w.ends k ≡ Some e → e.standing ≡ stands_here → e.down ≡ letter ∷ rest
      → handed front letter.from letter.said.message.serial ≡ letter.said.message ∷ []
  handed_is k e letter rest there standing link = by (subst (AllByRecursion (IsMail es e.who)) link (mail.downs k e there standing)).0
    where
      own : OwnIs (told.messages es The_bus) letter
      own = (subst (AllByRecursion (OwnIs (told.messages es The_bus))) link (bus_told.links k e there)).0

      by : IsMail es e.who letter → handed front letter.from letter.said.message.serial ≡ letter.said.message ∷ []
      by (inl b) = of_bus letter b.from own
      by (inr i) = of_post e.who letter i
