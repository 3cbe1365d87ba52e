-- No signal is missed, along a lawful trace.
use Rattle.std.proofs.Common.{◌≡◌, inl, inr, ℕ, ◌<◌, List, [], ◌∷◌, ◌++◌, Option, None, Some, refl, sym, ap, ◌∙◌, subst, arith}
use Rattle.std.specs.List.{AllByRecursion}
use Rattle.atspi_script_lines.specs.declared.limits.TheConstants.{QUOTA_MOST}
use Rattle.atspi_script_lines.specs.declared.line.Line.{Line}
use Rattle.atspi_script_lines.specs.declared.line.Party.{Party}
use Rattle.atspi_script_lines.specs.declared.line.Party.TheVariants.{Bus as The_bus, Registry, App, Reader}
use Rattle.atspi_message.specs.Envelope.{Envelope}
use Rattle.atspi_protocol.specs.registering.Steps.{registry_takes}
use Rattle.atspi_protocol.specs.exporting.Taking.{app_takes}
use Rattle.atspi_trace.specs.Entry.{Entry, sent, got}
use Rattle.atspi_trace.specs.World.{a_reader, Holding, Hearer, Letter, End, World}
use Rattle.atspi_trace.specs.Ends.{same_party, number_of, end_at}
use Rattle.atspi_trace.specs.Carrying as carrying
use Rattle.atspi_trace.specs.Hearing.{holding_of, heard_entries}
use Rattle.atspi_trace.specs.Causes.{Done, app_starts, reader_starts}
use Rattle.atspi_trace.specs.Due.{begins, Goes}
use Rattle.atspi_trace_laws.specs.laws.Words.{message, Kept, held}
use Rattle.atspi_trace_laws.specs.laws.NineLaws.{Everywhere}
use Rattle.atspi_trace_laws.specs.serials.Laws.{HasNextNumber}
use Rattle.atspi_trace_laws.specs.order.Scripts.{CanAllStand}
use Rattle.atspi_trace_laws.specs.missed.Laws.{NoSignalBetween, TookAll}
use Rattle.atspi_trace_laws.proofs.OfOrder.Parties.{same_some, party-same, false_true}
use Rattle.atspi_trace_laws.proofs.OfOrder.Effects.{received, ReaderTakes, Effect, resets, app_joins, reader_joins, app_edited, app_took, reader_called, swapped, exited_, showed_, told_busy, told_quiet, bus_took, bus_ended, registry_took, reader_took}
use Rattle.atspi_trace_laws.proofs.OfOrder.Along.{Keeps, kept}
use Rattle.atspi_trace_laws.proofs.OfOrder.Growing.{Grows, Shaped, Nothing, And, grown}
use Rattle.atspi_trace_laws.proofs.OfOrder.Each.{Each, everywhere, each_more, each_of}
use Rattle.atspi_trace_laws.proofs.OfHeard.Quiet.{heard_all}
use Rattle.atspi_trace_laws.proofs.OfHeld.Keeping.{SameKept, ReaderIs}
use Rattle.atspi_trace_laws.proofs.OfOwn.Writing.{Lives}
use Rattle.atspi_trace_laws.proofs.OfLost.Alive.{registry_lives}
use Rattle.atspi_trace_laws.proofs.OfTaken.Said as told
use Rattle.atspi_trace_laws.proofs.OfTaken.LawTaken.{NotGot, did_not_got, sent_not_got, bus_not_got, Known}
use Rattle.atspi_trace_laws.proofs.OfTurns.Turning.{Turns, IsBehind}
use Rattle.atspi_trace_laws.proofs.OfTurns.LawTurns.{Beneath_turns, Turned, turns_keep}
use Rattle.atspi_trace_laws.proofs.OfReaders.Fates.{Holding_told, Fated, fated_keeps, both_keep}
use Rattle.atspi_trace_laws.proofs.OfLinks.LawLinks.{first_unread}
use Rattle.atspi_trace_laws.proofs.OfNames.LawEnds.{few_greeted}
use Rattle.atspi_trace_laws.proofs.OfSigned.LawMail.{Under_mail, Known_mail, mail_keeps}
use Rattle.atspi_trace_laws.proofs.OfMissed.Arriving.{On}
use Rattle.atspi_trace_laws.proofs.OfMissed.Resting.{Rests, rests_keep}
use Rattle.atspi_trace_laws.proofs.OfMissed.Ruled.{Ruled, asks_ruled}
use Rattle.atspi_trace_laws.proofs.OfMissed.LawRuled.{caused_ruled, first_ruled, moved_ruled}
use Rattle.atspi_trace_laws.proofs.OfMissed.Delivering.{StandsOn, HeldAll, HasAll, Delivers, asks_deliver, caused_delivers, first_delivers, moved_delivers, all_on}
use Rattle.atspi_trace_laws.proofs.OfMissed.Consecutive.{none_between}

-- THE LAYERS
abbrev pub Under_missed : List Entry → World → Type 0
Under_missed es w = And (And Holding_told Fated) (And (And Under_mail Known_mail) (And (And Nothing Rests) (And Beneath_turns Turned))) es w

under_keeps : Keeps (Shaped Under_missed)
under_keeps =
    both_keep (And Holding_told Fated) (And (And Under_mail Known_mail) (And (And Nothing Rests) (And Beneath_turns Turned))) fated_keeps
    (both_keep (And Under_mail Known_mail) (And (And Nothing Rests) (And Beneath_turns Turned)) mail_keeps (both_keep (And Nothing Rests) (And Beneath_turns Turned) rests_keep turns_keep))

ruled_grow : Grows Under_missed Ruled
ruled_grow = record {
  begins = first_ruled QUOTA_MOST;
  caused = λ es w d s u i e after b.
      let t = u.0.0 in
      let m = u.1.0 in
      caused_ruled es w d s t.0.0.0.0.0.1 t.0.0.0.0.1 m.0.1.1.1 (few_greeted es w m.0.1.1.1 m.0.0.1) t.0.0.1.1 m.1.0 u.0.1 i e;
  moved = λ es w v s u i m. moved_ruled es w v i m;
  asked = λ es w conn r m question s u i a. asks_ruled es w conn r m question i a;
}

ruled_keep : Keeps (Shaped (And Under_missed Ruled))
ruled_keep = grown Under_missed Ruled under_keeps ruled_grow

abbrev pub Under_delivered : List Entry → World → Type 0
Under_delivered es w = And Under_missed Ruled es w

delivers_grow : Grows Under_delivered Delivers
delivers_grow = record {
  begins = first_delivers QUOTA_MOST;
  caused = λ es w d s u i e after b.
      let t = u.0.0.0 in
      let m = u.0.1.0 in
      caused_delivers es w d s t.0.0.0.0.1 m.0.1.1.1 m.0.1.1.0.0.1.0 t.0.0.1.1 m.1.0 t.0.0.0.1.0 u.0.1.1.0.1 u.1 u.0.1.1.1.1 i e;
  moved = λ es w v s u i m. moved_delivers es w v i m;
  asked = λ es w conn r m question s u i a.
      let t = u.0.0.0 in
      let n = u.0.1.0 in
      asks_deliver es w conn r m question s t.0.0.0.0.0.1 (few_greeted es w n.0.1.1.1 n.0.0.1) n.1.0 i a;
}

pub delivers_keep : Keeps (Shaped (And Under_delivered Delivers))
delivers_keep = grown Under_delivered Delivers ruled_keep delivers_grow

-- THE LAW OF LISTS, where the registry lives
abbrev TookWhere : List Entry → Entry → List Entry → Type 0
TookWhere before entry behind = Lives before → TookAll before entry behind

weaker : (ys before : List Entry) (entry : Entry) (behind : List Entry) → TookWhere before entry behind → TookWhere before entry (behind ++ ys)
weaker ys before (got (Reader r) (App a) serial) behind h = h
weaker ys before (got (Reader r) The_bus serial) behind h = λ live. tt
weaker ys before (got (Reader r) Registry serial) behind h = λ live. tt
weaker ys before (got (Reader r) (Reader q) serial) behind h = λ live. tt
weaker ys before (got The_bus from serial) behind h = λ live. tt
weaker ys before (got Registry from serial) behind h = λ live. tt
weaker ys before (got (App a) from serial) behind h = λ live. tt
weaker ys before entry behind h = λ live. tt

all_weaker : (ys early xs : List Entry) → Each TookWhere early xs → Each (λ before entry behind. TookWhere before entry (behind ++ ys)) early xs
all_weaker ys early [] e = tt
all_weaker ys early (x ∷ xs) e = (weaker ys early x xs e.0, all_weaker ys (early ++ x ∷ []) xs e.1)

law_more : (es ys : List Entry) → Each TookWhere [] es → Each TookWhere es ys → Each TookWhere [] (es ++ ys)
law_more es ys a b = each_more TookWhere [] es ys (all_weaker ys [] es a) b

quiet_law : (before : List Entry) (entry : Entry) (behind : List Entry) → NotGot entry → TookWhere before entry behind
quiet_law before (got taker sender serial) behind h = absurd h
quiet_law before entry behind h = λ live. tt

quietly : (es ys : List Entry) → Each TookWhere [] es → AllByRecursion NotGot ys → Each TookWhere [] (es ++ ys)
quietly es ys law q = law_more es ys law (each_of NotGot TookWhere es ys quiet_law q)

not_got_of : (d x : Done) → d ≡ x → AllByRecursion NotGot x.entries → AllByRecursion NotGot d.entries
not_got_of d x is a = subst (λ y. AllByRecursion NotGot y.entries) (sym is) a

other_got : (who from : Party) (serial : ℕ) (es ys : List Entry) → ((r : ℕ) → who ≡ Reader r → ⊥) → Each TookWhere [] es → AllByRecursion NotGot ys → Each TookWhere [] (es ++ got who from serial ∷ ys)
other_got who from serial es ys never law q = law_more es (got who from serial ∷ ys) law (first who never, each_of NotGot TookWhere (es ++ got who from serial ∷ []) ys quiet_law q)
  where
    first : (p : Party) → ((r : ℕ) → p ≡ Reader r → ⊥) → TookWhere es (got p from serial) ys
    first The_bus f = λ live. tt
    first Registry f = λ live. tt
    first (App a) f = λ live. tt
    first (Reader r) f = absurd (f r refl)

-- A READER TAKES A MESSAGE of one that it holds
module _ (es : List Entry) (w : World) (numbers : Each HasNextNumber [] es) (known : Known es w) (turned : Turned es w) (reader : (k r : ℕ) (e : End) (h : Hearer) → end_at w.ends k ≡ Some e → e.who ≡ Reader r → e.role ≡ a_reader h → ReaderIs es r h)
    (delivers : Delivers es w) (d : Done) (b : ReaderTakes w d) (live : Lives es) where
  abbrev s0 : ℕ
  s0 = b.letter.said.message.serial

  in_turn : Turns es b.e.who (b.letter ∷ b.rest)
  in_turn = subst (Turns es b.e.who) b.link (turned.2 b.conn b.e b.is_here.there)

  all : HasAll es b.hearer (b.letter ∷ b.rest)
  all = subst (HasAll es b.hearer) b.link (delivers live b.conn b.reader b.e b.hearer b.is_here.there b.whose b.role b.is_here.standing)

  comes : told.Comes es b.letter
  comes = (subst (AllByRecursion (told.Comes es)) b.link (known b.conn b.e b.is_here.there).1).0

  from_apart : (a : ℕ) (l : Letter) → l.from ≡ App a → l.from ≡ The_bus → ⊥
  from_apart a l h g = false_true (ap (λ p. same_party p (App a)) (sym g ∙ h) ∙ party-same (App a))

  took : (a : ℕ) → b.letter.from ≡ App a → (k : Kept) → held es b.reader a ≡ Some k → NoSignalBetween es a k.last s0
  took a from k is = by (holding_of a b.hearer.holds) refl (subst (λ o. SameKept es a o (holding_of a b.hearer.holds)) is ((reader b.conn b.reader b.e b.hearer b.is_here.there b.whose b.role).holds a))
    where
      second : (first : Envelope) × (message es (App a) s0 ≡ Some first)
      second = at comes
        where
          at : told.Comes es b.letter → (first : Envelope) × (message es (App a) s0 ≡ Some first)
          at (inl bus) = absurd (from_apart a b.letter from bus)
          at (inr l) = (l.first, subst (λ p. message es p s0 ≡ Some l.first) from l.was)

      below : s0 < first_unread es (App a)
      below = subst (λ p. s0 < first_unread es p) from (in_turn.0 (from_apart a b.letter from)).below

      -- a letter on the link of a lower serial: there is none
      no_lower : (s : ℕ) → s < s0 → StandsOn a s (b.letter ∷ b.rest) → ⊥
      no_lower s less x = at x.1
        where
          at : On x.0 (b.letter ∷ b.rest) → ⊥
          at (inl same) = never (ap (λ (l : Letter). l.said.message.serial) same ∙ x.3)
            where
              never : s0 ≡ s → ⊥
              never h = absurd (omega (arith, h, less))
          at (inr o) = never (all_on (IsBehind b.letter) b.rest in_turn.1 x.0 o (from_apart a x.0 x.2) (from ∙ sym x.2)) x.3
            where
              never : s0 < x.0.said.message.serial → x.0.said.message.serial ≡ s → ⊥
              never h g = absurd (omega (arith, h, g, less))

      by : (o : Option Holding) → holding_of a b.hearer.holds ≡ o → SameKept es a (Some k) o → NoSignalBetween es a k.last s0
      by None g x = absurd x
      by (Some j) g x =
          let h : HeldAll es b.hearer (b.letter ∷ b.rest) a j = all.held a j g in
          subst (λ n. NoSignalBetween es a n s0) (sym x.last)
          (none_between es numbers a j.last s0 x.first second.0 x.was second.1 (h.before b.letter (inl refl) from)
          (λ s m more less found four.
          let y = h.behind s more (lower less) in
          let same : y.0 ≡ m = same_some y.0 m (sym y.1 ∙ found) in
          no_lower s less (y.2 (ap (λ (z : Envelope). z.kind) same ∙ four))))
        where
          lower : {s : ℕ} → s < s0 → s < first_unread es (App a)
          lower {s} h = let low = below in omega (arith, h, low)

reader_got : (es : List Entry) (w : World) (d : Done) → Each HasNextNumber [] es → Known es w → Turned es w → ((k r : ℕ) (e : End) (h : Hearer) → end_at w.ends k ≡ Some e → e.who ≡ Reader r → e.role ≡ a_reader h → ReaderIs es r h)
    → Delivers es w → Each TookWhere [] es → ReaderTakes w d → Each TookWhere [] (es ++ d.entries)
reader_got es w d numbers known turned reader delivers law b =
    subst (λ l. Each TookWhere [] (es ++ l)) (sym wrote)
    (law_more es (got (Reader b.reader) b.letter.from b.letter.said.message.serial ∷ rest) law (
      first b.letter.from refl,
      each_of NotGot TookWhere (es ++ got (Reader b.reader) b.letter.from b.letter.said.message.serial ∷ []) rest quiet_law (heard_all NotGot (λ r app line. tt) (λ r app. tt) (number_of b.e.who) b.hearer (received w b.conn b.e b.letter).ends b.letter),
    ))
  where
    rest : List Entry
    rest = heard_entries (number_of b.e.who) b.hearer (received w b.conn b.e b.letter).ends b.letter

    wrote : d.entries ≡ got (Reader b.reader) b.letter.from b.letter.said.message.serial ∷ rest
    wrote = ap (λ x. x.entries) b.is ∙ ap (λ p. got p b.letter.from b.letter.said.message.serial ∷ rest) b.whose

    first : (from : Party) → b.letter.from ≡ from → TookWhere es (got (Reader b.reader) from b.letter.said.message.serial) rest
    first The_bus h = λ live. tt
    first Registry h = λ live. tt
    first (Reader q) h = λ live. tt
    first (App a) h = λ live no_load k is. took es w numbers known turned reader delivers d b live a h k is

-- EACH CAUSE
no_reader_registry : (r : ℕ) → Registry ≡ Reader r → ⊥
no_reader_registry r h = false_true (ap (λ p. same_party p (Reader r)) h ∙ party-same (Reader r))

no_reader_app : (a r : ℕ) → App a ≡ Reader r → ⊥
no_reader_app a r h = false_true (ap (λ p. same_party p (Reader r)) h ∙ party-same (Reader r))

no_reader_bus : (r : ℕ) → The_bus ≡ Reader r → ⊥
no_reader_bus r h = false_true (ap (λ p. same_party p (Reader r)) h ∙ party-same (Reader r))

abbrev Tooks : List Entry → World → Type 0
Tooks es w = Each TookWhere [] es

caused : (es : List Entry) (w : World) (d : Done) → (ReaderTakes w d → Each TookWhere [] (es ++ d.entries)) → Tooks es w → Effect w d → Tooks (es ++ d.entries) d.world
caused es w d f i (resets quota old is) = quietly es d.entries i (not_got_of d _ is tt)
caused es w d f i (app_joins name short is) = quietly es d.entries i (not_got_of d (app_starts w name) is (tt, (tt, tt)))
caused es w d f i (reader_joins old is) = quietly es d.entries i (not_got_of d (reader_starts w) is (tt, (tt, tt)))
caused es w d f i (app_edited b) = quietly es d.entries i (not_got_of d _ b.is (did_not_got _ b.after.out))
caused es w d f i (app_took b) =
    subst (λ x. Tooks (es ++ x.entries) w) (sym b.is)
    (other_got b.e.who b.letter.from b.letter.said.message.serial es _ (λ r h. no_reader_app b.app r (sym b.whose ∙ h)) i (did_not_got _ (app_takes b.before b.letter.said.message).out))
caused es w d f i (reader_called b) = quietly es d.entries i (not_got_of d _ b.is (tt, tt))
caused es w d f i (swapped b) = quietly es d.entries i (not_got_of d _ b.is tt)
caused es w d f i (exited_ b) = quietly es d.entries i (not_got_of d _ b.is (tt, tt))
caused es w d f i (showed_ b) = quietly es d.entries i (not_got_of d _ b.is (tt, tt))
caused es w d f i (told_busy turns is) = quietly es d.entries i (not_got_of d _ is (tt, tt))
caused es w d f i (told_quiet none is) = quietly es d.entries i (not_got_of d _ is (tt, tt))
caused es w d f i (bus_took b) =
    let c = carrying.takes (record { bus = w.bus; ends = w.ends }) b.conn b.e.who b.said in
    subst (λ x. Tooks (es ++ x.entries) w) (sym b.is) (other_got The_bus b.e.who b.said.message.serial es _ no_reader_bus i (bus_not_got c.ends c.bus.own c.bus.closings))
caused es w d f i (bus_ended b) =
    let c = carrying.takes_end (record { bus = w.bus; ends = w.ends }) b.conn in quietly es d.entries i (not_got_of d _ b.is (bus_not_got c.ends c.bus.own c.bus.closings))
caused es w d f i (registry_took b) =
    subst (λ x. Tooks (es ++ x.entries) w) (sym b.is)
    (other_got b.e.who b.letter.from b.letter.said.message.serial es _ (λ r h. no_reader_registry r (sym b.whose ∙ h)) i (sent_not_got b.e.who (registry_takes b.before b.letter.said.message).sent))
caused es w d f i (reader_took b) = f b

abbrev Under_took : List Entry → World → Type 0
Under_took es w = And Under_delivered Delivers es w

took_grows : Grows Under_took Tooks
took_grows = record {
  begins = tt;
  caused = λ es w d s u i e after b.
      let t = u.0.0.0.0 in
      caused es w d (λ x. reader_got es w d t.0.0.0.0.0.1.0 t.0.0.1.1 u.0.0.1.1.1.1 t.0.1.1 u.1 i x) i e;
  moved = λ es w v s u i m. i;
  asked = λ es w conn r m question s u i a. quietly es (sent (Reader r) m ∷ []) i (tt, tt);
}

took_keeps : Keeps (Shaped (And Under_took Tooks))
took_keeps = grown Under_took Tooks delivers_keep took_grows

each_front : (xs ys : List Entry) (early : List Entry) → Each TookWhere early (xs ++ ys) → Each TookWhere early xs
each_front [] ys early e = tt
each_front (x ∷ xs) ys early e = (fewer early x xs ys e.0, each_front xs ys (early ++ x ∷ []) e.1)
  where
    fewer : (before : List Entry) (entry : Entry) (behind more : List Entry) → TookWhere before entry (behind ++ more) → TookWhere before entry behind
    fewer before (got (Reader r) (App a) serial) behind more h = h
    fewer before (got (Reader r) The_bus serial) behind more h = λ live. tt
    fewer before (got (Reader r) Registry serial) behind more h = λ live. tt
    fewer before (got (Reader r) (Reader q) serial) behind more h = λ live. tt
    fewer before (got The_bus from serial) behind more h = λ live. tt
    fewer before (got Registry from serial) behind more h = λ live. tt
    fewer before (got (App a) from serial) behind more h = λ live. tt
    fewer before entry behind more h = λ live. tt

-- THE LAW
pub no_signal_missed : (lines : List Line) (trace : List Entry) → CanAllStand lines → Goes (begins lines) trace → Everywhere TookAll trace
no_signal_missed lines trace a g before entry behind at =
    let k = kept (Shaped (And Under_took Tooks)) took_keeps lines trace a g in
    everywhere TookWhere trace (each_front trace _ [] k.state.1.1) before entry behind at (registry_lives lines trace a g before entry behind at)
