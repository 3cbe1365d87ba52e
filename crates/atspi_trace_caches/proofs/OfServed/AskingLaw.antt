-- Each step was asked for whole, of every lawful trace, where the facts under it are kept.
use Rattle.std.proofs.Common.{◌≡◌, ℕ, Bool, true, false, List, [], ◌∷◌, ◌++◌, Option, Some, refl, sym, ap, ◌∙◌, subst}
use Rattle.std.specs.Prelude.{if◌then◌else◌}
use Rattle.std.specs.List.{AllByRecursion}
use Rattle.std.proofs.lemmas.List.{append-nil, append_assoc}
use Rattle.atspi_script_lines.specs.declared.limits.TheConstants.{QUOTA_MOST}
use Rattle.atspi_script_lines.specs.declared.line.Line.{Line}
use Rattle.atspi_script_lines.specs.declared.line.Party.{Party}
use Rattle.atspi_script_lines.specs.declared.line.Party.TheVariants.{Bus as The_bus, Registry, App, Reader}
use Rattle.atspi_protocol.specs.registering.Steps.{registry_takes}
use Rattle.atspi_protocol.specs.exporting.Taking.{app_takes}
use Rattle.atspi_trace.specs.Entry.{Entry, changed, sent, got}
use Rattle.atspi_trace.specs.World.{a_reader, Hearer, World}
use Rattle.atspi_trace.specs.Ends.{same_party, number_of}
use Rattle.atspi_trace.specs.Carrying as carrying
use Rattle.atspi_trace.specs.Hearing.{heard_entries}
use Rattle.atspi_trace.specs.Causes.{Done, app_starts, reader_starts}
use Rattle.atspi_trace.specs.Due.{begins, after_all, Scene, Goes}
use Rattle.atspi_trace_laws.specs.laws.Words.{live_tree, is_sent_as, before_sent, heard_pairs, Kept, held}
use Rattle.atspi_trace_laws.specs.order.Scripts.{CanAllStand}
use Rattle.atspi_trace_caches.specs.caches.Laws.{AreAsked, AsksAll, IsServed}
use Rattle.atspi_trace_caches.specs.ways.Laws.{AreHere, AreAskedSince}
use Rattle.atspi_trace_laws.proofs.OfOrder.Parties.{party-same, false_true}
use Rattle.atspi_trace_laws.proofs.OfOrder.Shape.{Shape, RoleFits}
use Rattle.atspi_trace_laws.proofs.OfOrder.Told.{Tells}
use Rattle.atspi_trace_laws.proofs.OfOrder.Acts.{IsActive}
use Rattle.atspi_trace_laws.proofs.OfOrder.Effects.{received, ReaderTakes, reader_role, Effect, resets, app_joins, reader_joins, app_edited, app_took, reader_called, swapped, exited_, showed_, told_busy, told_quiet, bus_took, bus_ended, registry_took, reader_took}
use Rattle.atspi_trace_laws.proofs.OfOrder.Along.{Keeps, kept}
use Rattle.atspi_trace_laws.proofs.OfOrder.Growing.{Grows, Shaped, Nothing, And, grown}
use Rattle.atspi_trace_laws.proofs.OfOrder.Each.{Each, everywhere, each_more, each_of}
use Rattle.atspi_trace_laws.proofs.OfOwn.Writing.{Lives, lived}
use Rattle.atspi_trace_laws.proofs.OfLost.Alive.{registry_lives}
use Rattle.atspi_trace_laws.proofs.OfHeard.Quiet.{heard_all}
use Rattle.atspi_trace_laws.proofs.OfTaken.LawTaken.{NotGot, did_not_got, sent_not_got, bus_not_got}
use Rattle.atspi_trace_laws.proofs.OfReaders.Fates.{both_keep}
use Rattle.atspi_trace_laws.proofs.OfQuiet.Here.{Present, present_keeps}
use Rattle.atspi_trace_laws.proofs.OfMissed.Covering.{patterns_cover}
use Rattle.atspi_trace_caches.proofs.OfServed.Facts.{AllEntered, AllKnown, AllHear, AllListed, Carries}
use Rattle.atspi_trace_caches.proofs.OfServed.Asking.{HeardAt, LoadIsServed, AreHeardSince, heard_since}
use Rattle.atspi_trace_caches.proofs.OfServed.AskingFrame.{IsReader, AllAsking}
use Rattle.atspi_trace_caches.proofs.OfServed.AskingAnswers.{Answers, Under_answers, Answered, answers_keep}
use Rattle.atspi_trace_caches.proofs.OfServed.AskingCaused.{Underlies, nobody, caused_asking}
use Rattle.atspi_trace_caches.proofs.OfServed.AskingOwn.{asked_asking, moved_asking}

-- WHERE A READER TAKES A MESSAGE of an application that it holds, each step since the last that it took was heard of
abbrev pub HeardWhere : List Entry → Entry → List Entry → Type 0
HeardWhere before (got (Reader r) (App a) serial) behind = Lives before → (k : Kept) → held before r a ≡ Some k → AreHeardSince before a k.last
HeardWhere before entry behind = Unit {0}

weaker : (ys before : List Entry) (entry : Entry) (behind : List Entry) → HeardWhere before entry behind → HeardWhere before entry (behind ++ ys)
weaker ys before (got (Reader r) (App a) serial) behind h = h
weaker ys before (got (Reader r) The_bus serial) behind h = tt
weaker ys before (got (Reader r) Registry serial) behind h = tt
weaker ys before (got (Reader r) (Reader q) serial) behind h = tt
weaker ys before (got The_bus from serial) behind h = tt
weaker ys before (got Registry from serial) behind h = tt
weaker ys before (got (App a) from serial) behind h = tt
weaker ys before entry behind h = tt

all_weaker : (ys early xs : List Entry) → Each HeardWhere early xs → Each (λ before entry behind. HeardWhere before entry (behind ++ ys)) early xs
all_weaker ys early [] e = tt
all_weaker ys early (x ∷ xs) e = (weaker ys early x xs e.0, all_weaker ys (early ++ x ∷ []) xs e.1)

law_more : (es ys : List Entry) → Each HeardWhere [] es → Each HeardWhere es ys → Each HeardWhere [] (es ++ ys)
law_more es ys a b = each_more HeardWhere [] es ys (all_weaker ys [] es a) b

quiet_law : (before : List Entry) (entry : Entry) (behind : List Entry) → NotGot entry → HeardWhere before entry behind
quiet_law before (got taker sender serial) behind h = absurd h
quiet_law before entry behind h = tt

quietly : (es ys : List Entry) → Each HeardWhere [] es → AllByRecursion NotGot ys → Each HeardWhere [] (es ++ ys)
quietly es ys law q = law_more es ys law (each_of NotGot HeardWhere es ys quiet_law q)

not_got_of : (d x : Done) → d ≡ x → AllByRecursion NotGot x.entries → AllByRecursion NotGot d.entries
not_got_of d x is a = subst (λ y. AllByRecursion NotGot y.entries) (sym is) a

other_got : (who from : Party) (serial : ℕ) (es ys : List Entry) → ((r : ℕ) → who ≡ Reader r → ⊥) → Each HeardWhere [] es → AllByRecursion NotGot ys → Each HeardWhere [] (es ++ got who from serial ∷ ys)
other_got who from serial es ys never law q = law_more es (got who from serial ∷ ys) law (first who never, each_of NotGot HeardWhere (es ++ got who from serial ∷ []) ys quiet_law q)
  where
    first : (p : Party) → ((r : ℕ) → p ≡ Reader r → ⊥) → HeardWhere es (got p from serial) ys
    first The_bus f = tt
    first Registry f = tt
    first (App a) f = tt
    first (Reader r) f = absurd (f r refl)

-- which loads were served
all_served : (early xs : List Entry) → Each Answers early xs → Each LoadIsServed early xs
all_served early [] e = tt
all_served early (x ∷ xs) e = (e.0.1, all_served (early ++ x ∷ []) xs e.1)

reader_heard : (es : List Entry) (w : World) (d : Done) → ((r a : ℕ) → Each (HeardAt r a) [] es → (k : Kept) → held es r a ≡ Some k → AreHeardSince es a k.last) → AllAsking es w → Each HeardWhere [] es → ReaderTakes w d → Each HeardWhere [] (es ++ d.entries)
reader_heard es w d since asking_ law b =
    subst (λ l. Each HeardWhere [] (es ++ l)) (sym wrote)
    (law_more es (got (Reader b.reader) b.letter.from b.letter.said.message.serial ∷ rest) law (
      first b.letter.from,
      each_of NotGot HeardWhere (es ++ got (Reader b.reader) b.letter.from b.letter.said.message.serial ∷ []) rest quiet_law (heard_all NotGot (λ r app line. tt) (λ r app. tt) (number_of b.e.who) b.hearer (received w b.conn b.e b.letter).ends b.letter),
    ))
  where
    rest : List Entry
    rest = heard_entries (number_of b.e.who) b.hearer (received w b.conn b.e b.letter).ends b.letter

    wrote : d.entries ≡ got (Reader b.reader) b.letter.from b.letter.said.message.serial ∷ rest
    wrote = ap (λ x. x.entries) b.is ∙ ap (λ p. got p b.letter.from b.letter.said.message.serial ∷ rest) b.whose

    reader : IsReader w b.conn b.reader b.e b.hearer
    reader = record { there = b.is_here.there; whose = b.whose; role = b.role; standing = b.is_here.standing }

    first : (from : Party) → HeardWhere es (got (Reader b.reader) from b.letter.said.message.serial) rest
    first The_bus = tt
    first Registry = tt
    first (Reader q) = tt
    first (App a) = λ live k is. since b.reader a ((asking_ live).heard b.conn b.reader b.e b.hearer reader a) k is

no_reader_registry : (r : ℕ) → Registry ≡ Reader r → ⊥
no_reader_registry r h = false_true (ap (λ p. same_party p (Reader r)) h ∙ party-same (Reader r))

no_reader_app : (a r : ℕ) → App a ≡ Reader r → ⊥
no_reader_app a r h = false_true (ap (λ p. same_party p (Reader r)) h ∙ party-same (Reader r))

no_reader_bus : (r : ℕ) → The_bus ≡ Reader r → ⊥
no_reader_bus r h = false_true (ap (λ p. same_party p (Reader r)) h ∙ party-same (Reader r))

abbrev Heards : List Entry → World → Type 0
Heards es w = Each HeardWhere [] es

caused : (es : List Entry) (w : World) (d : Done) → (ReaderTakes w d → Each HeardWhere [] (es ++ d.entries)) → Heards es w → Effect w d → Heards (es ++ d.entries) d.world
caused es w d f i (resets quota old is) = quietly es d.entries i (not_got_of d _ is tt)
caused es w d f i (app_joins name short is) = quietly es d.entries i (not_got_of d (app_starts w name) is (tt, (tt, tt)))
caused es w d f i (reader_joins old is) = quietly es d.entries i (not_got_of d (reader_starts w) is (tt, (tt, tt)))
caused es w d f i (app_edited b) = quietly es d.entries i (not_got_of d _ b.is (did_not_got _ b.after.out))
caused es w d f i (app_took b) =
    subst (λ x. Heards (es ++ x.entries) w) (sym b.is)
    (other_got b.e.who b.letter.from b.letter.said.message.serial es _ (λ r h. no_reader_app b.app r (sym b.whose ∙ h)) i (did_not_got _ (app_takes b.before b.letter.said.message).out))
caused es w d f i (reader_called b) = quietly es d.entries i (not_got_of d _ b.is (tt, tt))
caused es w d f i (swapped b) = quietly es d.entries i (not_got_of d _ b.is tt)
caused es w d f i (exited_ b) = quietly es d.entries i (not_got_of d _ b.is (tt, tt))
caused es w d f i (showed_ b) = quietly es d.entries i (not_got_of d _ b.is (tt, tt))
caused es w d f i (told_busy turns is) = quietly es d.entries i (not_got_of d _ is (tt, tt))
caused es w d f i (told_quiet none is) = quietly es d.entries i (not_got_of d _ is (tt, tt))
caused es w d f i (bus_took b) =
    let c = carrying.takes (record { bus = w.bus; ends = w.ends }) b.conn b.e.who b.said in
    subst (λ x. Heards (es ++ x.entries) w) (sym b.is) (other_got The_bus b.e.who b.said.message.serial es _ no_reader_bus i (bus_not_got c.ends c.bus.own c.bus.closings))
caused es w d f i (bus_ended b) =
    let c = carrying.takes_end (record { bus = w.bus; ends = w.ends }) b.conn in quietly es d.entries i (not_got_of d _ b.is (bus_not_got c.ends c.bus.own c.bus.closings))
caused es w d f i (registry_took b) =
    subst (λ x. Heards (es ++ x.entries) w) (sym b.is)
    (other_got b.e.who b.letter.from b.letter.said.message.serial es _ (λ r h. no_reader_registry r (sym b.whose ∙ h)) i (sent_not_got b.e.who (registry_takes b.before b.letter.said.message).sent))
caused es w d f i (reader_took b) = f b

each_front : (xs ys : List Entry) (early : List Entry) → Each HeardWhere early (xs ++ ys) → Each HeardWhere early xs
each_front [] ys early e = tt
each_front (x ∷ xs) ys early e = (fewer early x xs ys e.0, each_front xs ys (early ++ x ∷ []) e.1)
  where
    fewer : (before : List Entry) (entry : Entry) (behind more : List Entry) → HeardWhere before entry (behind ++ more) → HeardWhere before entry behind
    fewer before (got (Reader r) (App a) serial) behind more h = h
    fewer before (got (Reader r) The_bus serial) behind more h = tt
    fewer before (got (Reader r) Registry serial) behind more h = tt
    fewer before (got (Reader r) (Reader q) serial) behind more h = tt
    fewer before (got The_bus from serial) behind more h = tt
    fewer before (got Registry from serial) behind more h = tt
    fewer before (got (App a) from serial) behind more h = tt
    fewer before entry behind more h = tt

-- what stands before a message is a front
front_of : (who : Party) (serial : ℕ) (es : List Entry) → (rest : List Entry) × (es ≡ before_sent who serial es ++ rest)
front_of who serial [] = ([], refl)
front_of who serial (x ∷ es) = by (is_sent_as who serial x) (front_of who serial es)
  where
    by : (b : Bool) → ((rest : List Entry) × (es ≡ before_sent who serial es ++ rest)) → (rest : List Entry) × (x ∷ es ≡ (if b then [] else x ∷ before_sent who serial es) ++ rest)
    by true r = (x ∷ es, refl)
    by false r = (r.0, ap (λ l. x ∷ l) r.1)

asked_between : (name : List ℕ) (before : List Entry) (app last serial : ℕ) → AreHeardSince before app last → AreAsked name before app last serial
asked_between name before app last serial heard early ys step stands there =
    let r = front_of (App app) serial before in
    patterns_cover (heard_pairs early app) name (live_tree early app) step
    (heard early (ys ++ r.0) step (r.1 ∙ ap (λ l. l ++ r.0) stands ∙ append_assoc early (changed app step ∷ ys) r.0) there)

all_asked : (name : List ℕ) (reader app : ℕ) (before : List Entry) (entry : Entry) (behind : List Entry) → Lives before → HeardWhere before entry behind → AsksAll name reader app before entry behind
all_asked name reader app before (got (Reader r) (App a) serial) behind live h =
    λ same_reader same_app no_load k is.
    asked_between name before app k.last serial
    (subst (λ b. (j : Kept) → held before reader b ≡ Some j → AreHeardSince before b j.last) same_app (subst (λ q. (j : Kept) → held before q a ≡ Some j → AreHeardSince before a j.last) same_reader (h live)) k is)
all_asked name reader app before (got (Reader r) The_bus serial) behind live h = tt
all_asked name reader app before (got (Reader r) Registry serial) behind live h = tt
all_asked name reader app before (got (Reader r) (Reader q) serial) behind live h = tt
all_asked name reader app before (got The_bus from serial) behind live h = tt
all_asked name reader app before (got Registry from serial) behind live h = tt
all_asked name reader app before (got (App a) from serial) behind live h = tt
all_asked name reader app before entry behind live h = tt

-- OVER THE FACTS
module _ (F : List Entry → World → Type 0) (keeps : Keeps (Shaped F)) (entered : (es : List Entry) (w : World) → F es w → AllEntered es w) (known : (es : List Entry) (w : World) → F es w → AllKnown es w) (hear : (es : List Entry) (w : World) → F es w → AllHear es w)
    (listed : (es : List Entry) (w : World) → F es w → AllListed es w) (carries : (es : List Entry) (w : World) (d : Done) → Shape w → F es w → Effect w d → Shape d.world → F (es ++ d.entries) d.world → Carries es (es ++ d.entries) w d.world) where
  abbrev pub Beneath : List Entry → World → Type 0
  Beneath es w = And (And Under_answers Answered) F es w

  beneath_keeps : Keeps (Shaped Beneath)
  beneath_keeps = both_keep (And Under_answers Answered) F answers_keep keeps

  pub underlies : (es : List Entry) (w : World) → Beneath es w → Underlies es w
  underlies es w b =
      let u = b.0.0 in
      let m = u.0.0.1.0 in
      let q = m.0.1.0 in
      record {
        numbered = q.0.0.0.1;
        trees = q.0.0.0.0.1.1;
        linked = q.0.0.1;
        pairs = q.0.1.1;
        known = q.1.1;
        readers = u.0.0.0.0.0.1.1;
        turned = u.0.0.1.1.1.1.2;
        names = m.0.1.1.1;
        mail = m.1.0;
        hear = hear es w b.1;
        listed = listed es w b.1;
      }

  asking_grows : Grows Beneath AllAsking
  asking_grows = record {
    begins = λ live. nobody [] QUOTA_MOST;
    caused = λ es w d s u i e after v. caused_asking es w d after (underlies es w u) (underlies (es ++ d.entries) d.world v) (carries es w d s u.1 e after v.1) i e;
    moved = λ es w v s u i m. let x = underlies es w u in moved_asking es w v x.readers x.known i m;
    asked = λ es w conn r m question s u i a live.
        let x = underlies es w u in asked_asking es w conn r m question s x.readers x.known (entered es w u.1) (known es w u.1) (i (lived es (sent (Reader r) m ∷ []) live)) a live;
  }

  pub asking_keeps : Keeps (Shaped (And Beneath AllAsking))
  asking_keeps = grown Beneath AllAsking beneath_keeps asking_grows

  abbrev Under_heards : List Entry → World → Type 0
  Under_heards es w = And Beneath AllAsking es w

  since_last : (es : List Entry) (w : World) → Beneath es w → (r a : ℕ) → Each (HeardAt r a) [] es → (k : Kept) → held es r a ≡ Some k → AreHeardSince es a k.last
  since_last es w b r a law k is = heard_since es r a (underlies es w b).numbered.0 (all_served [] es b.0.1) b.0.0.0.0.1.1.1.1.0 law k is

  heards_grow : Grows Under_heards Heards
  heards_grow = record {
    begins = tt;
    caused = λ es w d s u i e after v. caused es w d (λ b. reader_heard es w d (since_last es w u.0) u.1 i b) i e;
    moved = λ es w v s u i m. i;
    asked = λ es w conn r m question s u i a. quietly es (sent (Reader r) m ∷ []) i (tt, tt);
  }

  heards_keep : Keeps (Shaped (And Under_heards Heards))
  heards_keep = grown Under_heards Heards asking_keeps heards_grow

  -- THE LAWS
  pub steps_asked : (lines : List Line) (trace : List Entry) → CanAllStand lines → Goes (begins lines) trace → (name : List ℕ) (reader app : ℕ) → IsServed trace name reader app
  steps_asked lines trace a g name reader app = record {
    all_asked = λ before entry behind at.
        all_asked name reader app before entry behind (registry_lives lines trace a g before entry behind at)
        (everywhere HeardWhere trace (each_front trace _ [] (kept (Shaped (And Under_heards Heards)) heards_keep lines trace a g).state.1.1) before entry behind at);
  }

  pub steps_asked_since : (lines : List Line) (trace : List Entry) → CanAllStand lines → Goes (begins lines) trace → (after_all (begins lines) trace).owing ≡ []
      → (name : List ℕ) (reader app : ℕ) → AreHere trace reader app → (k : Kept) → held trace reader app ≡ Some k → AreAskedSince name trace app k.last
  steps_asked_since lines trace a g none name reader app are_here k is early ys step stands there =
      patterns_cover (heard_pairs early app) name (live_tree early app) step
      (since_last trace s.world now.1.0 reader app ((now.1.1 are_here.registry_lives).heard r.conn reader r.e hearer.0 (record { there = r.there; whose = r.whose; role = hearer.1; standing = r.standing }) app) k is early ys step stands there)
    where
      s : Scene
      s = after_all (begins lines) trace

      state : (Inv : List Entry → World → Option ℕ → Type 0) → Keeps Inv → Inv trace s.world s.free
      state Inv l = subst (λ z. Inv z s.world s.free) (ap (λ z. trace ++ z) none ∙ append-nil trace) (kept Inv l lines trace a g).state

      now : Shaped (And Beneath AllAsking) trace s.world s.free
      now = state (Shaped (And Beneath AllAsking)) asking_keeps

      r : IsActive s.world (Reader reader)
      r = (state (Shaped (And (And Nothing Tells) Present)) present_keeps).1.1.1 (Reader reader) (λ h. false_true (ap (λ p. same_party p The_bus) h)) are_here.registry_lives are_here.reader_lives

      hearer : (h : Hearer) × (r.e.role ≡ a_reader h)
      hearer = reader_role r.e.role reader (subst (λ p. RoleFits p r.e.role) r.whose (now.0.roles r.conn r.e r.there))
