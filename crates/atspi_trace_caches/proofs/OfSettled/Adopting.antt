-- EACH APPLICATION THAT IS HERE, and whose call of Embed the registry replied to, is a child of the registry's root.
use Rattle.std.proofs.Common.{◌≡◌, ◌⊎◌, inl, inr, ℕ, zero, suc, ◌≤◌, Bool, true, false, List, [], ◌∷◌, ◌++◌, length, Some, refl, sym, ap, ◌∙◌, subst, arith}
use Rattle.std.specs.Prelude.{codes, encode_utf8_all}
use Rattle.std.specs.List.{AllByRecursion}
use Rattle.std.proofs.lemmas.List.{append-nil}
use Rattle.atspi_script_lines.specs.declared.limits.TheConstants.{QUOTA_MOST}
use Rattle.atspi_script_lines.specs.declared.line.Party.{Party}
use Rattle.atspi_script_lines.specs.declared.line.Party.TheVariants.{Bus as The_bus, Registry, App, Reader}
use Rattle.atspi_message.specs.Envelope.{Envelope}
use Rattle.atspi_base.specs.valid_names.Names.{is_unique_name}
use Rattle.atspi_names.specs.Owners.{own_name}
use Rattle.atspi_protocol.specs.ends.Messages.{Reply, returns, fails, reply_to}
use Rattle.atspi_protocol.specs.members.Asked.{asked}
use Rattle.atspi_protocol.specs.registering.RegistryState.{RegistryState}
use Rattle.atspi_protocol.specs.registering.Answers.{object_at}
use Rattle.atspi_protocol.specs.registering.Steps.{answer_to, name_gone, registry_takes}
use Rattle.atspi_protocol.specs.exporting.Exporter.{StartCall, hello, add_match, get_registered_events, embed, Exporter}
use Rattle.atspi_protocol.specs.exporting.Starting.{start_call}
use Rattle.atspi_protocol.specs.declared.following.question.Question.{Question}
use Rattle.atspi_match.specs.routing.Members.{is_text}
use Rattle.atspi_match.specs.routing.Routing.{is_reply}
use Rattle.atspi_trace.specs.Entry.{Entry, sent}
use Rattle.atspi_trace.specs.World.{here, Role, the_registry, an_application, a_reader, Letter, End, World, first_registry, first_world}
use Rattle.atspi_trace.specs.Ends.{is_here, end_at, same_party}
use Rattle.atspi_trace.specs.Causes.{Done, only, at_end, asks, reader_sends}
use Rattle.atspi_trace.specs.Due.{asks_at}
use Rattle.atspi_trace_laws.specs.laws.Words.{messages, message}
use Rattle.atspi_trace_laws.proofs.OfOrder.Parties.{no_none, same_some, false_true}
use Rattle.atspi_trace_laws.proofs.OfOrder.Along.{Keeps}
use Rattle.atspi_trace_laws.proofs.OfOrder.Allowed.{Asks}
use Rattle.atspi_trace_laws.proofs.OfOrder.Frame.{Over, over_with, joined_cases}
use Rattle.atspi_trace_laws.proofs.OfOrder.Gone.{at_front}
use Rattle.atspi_trace_laws.proofs.OfOrder.Shape.{Shape, RoleFits}
use Rattle.atspi_trace_laws.proofs.OfOrder.Shaped.{registry_over}
use Rattle.atspi_trace_laws.proofs.OfOrder.Growing.{Grows, Shaped, And, grown}
use Rattle.atspi_trace_laws.proofs.OfOrder.Effects.{RegistryTakes}
use Rattle.atspi_trace_laws.proofs.OfReaders.Fates.{both_keep}
use Rattle.atspi_trace_laws.proofs.OfOwn.Writing.{Lives, lived}
use Rattle.atspi_trace_laws.proofs.OfSerials.Serial.{messages_more}
use Rattle.atspi_trace_laws.proofs.OfTaken.Found.{found_more}
use Rattle.atspi_trace_laws.proofs.OfNames.Places.{greeted, greeted_more}
use Rattle.atspi_trace_laws.proofs.OfSigned.Mail.{NameIs, name_more, Called, IsCallOf, IsMail}
use Rattle.atspi_trace_laws.proofs.OfSigned.Self.{unique_told, one_named}
use Rattle.atspi_trace_laws.proofs.OfSigned.LawMail.{taken_call}
use Rattle.atspi_trace_laws.proofs.OfMissed.Returning.{not_the_bus}
use Rattle.atspi_trace_laws.proofs.OfMissed.Registering.{HasTold, NotRegistry}
use Rattle.atspi_trace_laws.proofs.OfEnds.News.{IsPlain}
use Rattle.atspi_trace_laws.proofs.OfEnds.Ordered.{NotFrom, Ordered, AwayAs}
use Rattle.atspi_trace_laws.proofs.OfEnds.LawEnds.{away_named}
use Rattle.atspi_trace_caches.proofs.OfServed.Facts.{Embeds}
use Rattle.atspi_trace_caches.proofs.OfServed.HearingWords.{IsStart, SaysWell, said_well}
use Rattle.atspi_trace_caches.proofs.OfServed.Leaving.{name_spelled, unique_written, told_same, gone_from}
use Rattle.atspi_trace_caches.proofs.OfSettled.Answering.{Answers, IsReplyOf, registry_answers, registry_or, registry_wrote}
use Rattle.atspi_trace_caches.proofs.OfSettled.TellingWords.{HasOne}
use Rattle.atspi_trace_caches.proofs.OfSettled.AdoptingWords.{HasChild, NoUnembed, unembed_by, child_stays, start_keeps, embed_adopts}
use Rattle.atspi_trace_caches.proofs.OfSettled.Embedding.{IsBack, HasEmbedded, NamesItself, with_found}
use Rattle.atspi_trace_caches.proofs.OfSettled.EmbeddingAll.{Under_embed, AllBegin, begin_keep}
use Rattle.atspi_trace_caches.proofs.OfSettled.Settling_ground.{Ground, ground_keep, Grounds, grounds, is_at}
use Rattle.atspi_trace_caches.proofs.OfSettled.Telling_of.{named_then}
use Rattle.atspi_trace_caches.proofs.OfSettled.TellingAsked.{AskedBack, Reading, reads_on, joins, begins_, reading, moved_back, asked_cases}
use Rattle.atspi_trace_caches.proofs.OfSettled.TellingKept.{SameRegistry, same_registry, Registers, same_, joined_, first_, takes_, registers, same_messages, moved_registry, state_now, asks_same, one_longer}

-- ADOPTED
abbrev pub Adopted : List Entry → World → Type 0
Adopted es w =
    Lives es → (j : ℕ) (f : End) (t : RegistryState) → end_at w.ends j ≡ Some f → f.role ≡ the_registry t → (k a : ℕ) (e : End) → end_at w.ends k ≡ Some e → e.who ≡ App a → e.standing ≡ here
    → (u : List ℕ) → NameIs es (App a) u → HasEmbedded es a → HasChild u t.children

-- one name
app_same : (es : List Entry) (a : ℕ) (x y : List ℕ) → NameIs es (App a) x → NameIs es (App a) y → x ≡ y
app_same es a x y (inl h) g = absurd (false_true (ap (λ p. same_party p Registry) h.0))
app_same es a x y (inr h) (inl g) = absurd (false_true (ap (λ p. same_party p Registry) g.0))
app_same es a x y (inr h) (inr g) = same_some x y (sym h ∙ g)

one_split : {X : Type 0} (P : X → Type 0) (xs ys : List X) → HasOne P (xs ++ ys) → HasOne P xs ⊎ HasOne P ys
one_split P [] ys h = inr h
one_split P (x ∷ xs) ys (inl h) = inl (inl h)
one_split P (x ∷ xs) ys (inr h) = by (one_split P xs ys h)
  where
    by : HasOne P xs ⊎ HasOne P ys → HasOne P (x ∷ xs) ⊎ HasOne P ys
    by (inl g) = inl (inr g)
    by (inr g) = inr g

one_with : {X : Type 0} (P Q : X → Type 0) (xs : List X) → HasOne P xs → AllByRecursion Q xs → (x : X) × P x × Q x
one_with P Q [] h a = absurd h
one_with P Q (x ∷ xs) (inl h) a = (x, h, a.0)
one_with P Q (x ∷ xs) (inr h) a = one_with P Q xs h a.1

-- A REPLY THAT WAS SENT is to a call that was taken
record WasBack (es : List Entry) (a : ℕ) (u : List ℕ) (ms : List Envelope) : Type 0 where
  name : NameIs es (App a) u
  call : Embeds es a
  back : HasOne (IsBack es a call.serial) ms

module _ (es ys : List Entry) (a : ℕ) (u : List ℕ) (few : length (greeted (es ++ ys)) ≤ 1000) (name : NameIs (es ++ ys) (App a) u) (x : HasEmbedded (es ++ ys) a) where
  abbrev n : ℕ
  n = x.call.serial

  was_one : (m : Envelope) (ms : List Envelope) → Answers es m → IsBack (es ++ ys) a n m → WasBack es a u (m ∷ ms)
  was_one m ms f b =
      let y = named_then es ys (App a) m b.caller few (f b.replies) b.to b.name in
      let number : y.1 ≡ n = same_some y.1 n (sym y.3 ∙ b.number) in
      let same : y.0 ≡ x.call.call = same_some y.0 x.call.call (sym (found_more es ys (App a) y.1 y.0 y.4) ∙ ap (message (es ++ ys) (App a)) number ∙ x.call.was) in
      record {
        name = subst (NameIs es (App a)) (app_same (es ++ ys) a b.caller u b.name name) y.2;
        call = record { call = y.0; serial = y.1; was = y.4; is_call = ap (λ (z : Envelope). z.kind) same ∙ x.call.is_call; member = ap (λ (z : Envelope). z.member) same ∙ x.call.member };
        back = inl (record { replies = b.replies; number = y.3; caller = b.caller; to = b.to; name = y.2 });
      }

  was_among : (ms : List Envelope) → AllByRecursion (Answers es) ms → HasOne (IsBack (es ++ ys) a n) ms → WasBack es a u ms
  was_among [] f h = absurd h
  was_among (m ∷ ms) f (inl h) = was_one m ms f.0 h
  was_among (m ∷ ms) f (inr h) = let r = was_among ms f.1 h in record { name = r.name; call = r.call; back = inr r.back }

  was_back : AllByRecursion (Answers es) (messages es Registry) → HasOne (IsBack (es ++ ys) a n) (messages es Registry) → NameIs es (App a) u × HasEmbedded es a
  was_back f h = let r = was_among (messages es Registry) f h in (r.name, record { call = r.call; back = r.back })

-- an application's role
abbrev no_app : Party → Bool
no_app (App a) = false
no_app p = true

pub role_app : (a : ℕ) (who : Party) (role : Role) → who ≡ App a → RoleFits who role → (s : Exporter) × (role ≡ an_application s)
role_app a (App b) (an_application s) h f = (s, refl)
role_app a (App b) (the_registry s) h f = absurd f
role_app a (App b) (a_reader g) h f = absurd f
role_app a Registry role h f = absurd (false_true (ap (λ p. same_party p Registry) (sym h)))
role_app a The_bus role h f = absurd (false_true (sym (ap (λ p. same_party p The_bus) h)))
role_app a (Reader r) role h f = absurd (false_true (sym (ap no_app h)))

-- only Embed has its member
embed_call : (name : List ℕ) (call : StartCall) → (start_call name call).member ≡ Some (codes "Embed") → call ≡ embed
embed_call name hello h = absurd (false_true (ap (λ o. is_text o (codes "Embed")) h))
embed_call name add_match h = absurd (false_true (ap (λ o. is_text o (codes "Embed")) h))
embed_call name get_registered_events h = absurd (false_true (ap (λ o. is_text o (codes "Embed")) h))
embed_call name embed h = refl

reply_for : (caller : List ℕ) (serial : ℕ) (r : Reply) → ((reply_to caller serial r).destination ≡ Some caller) × ((reply_to caller serial r).reply ≡ Some serial)
reply_for caller serial (returns values) = (refl, refl)
reply_for caller serial (fails word) = (refl, refl)

-- whose call a reply answers, and which
whose_call : (later : List Entry) (a n : ℕ) (u : List ℕ) (s : RegistryState) (m reply : Envelope) → IsBack later a n reply → IsReplyOf s m reply → NameIs later (App a) u → (m.sender ≡ Some u) × (m.serial ≡ n)
whose_call later a n u s m reply back r name =
    let f = reply_for r.1 m.serial (answer_to s r.0 r.1 (asked (object_at m.path) m.interface m.member m.body)).reply in
    let to : reply.destination ≡ Some r.1 = ap (λ (x : Envelope). x.destination) r.3 ∙ f.0 in
    let number : reply.reply ≡ Some m.serial = ap (λ (x : Envelope). x.reply) r.3 ∙ f.1 in
    let caller : r.1 ≡ u = same_some r.1 back.caller (sym to ∙ back.to) ∙ app_same later a back.caller u back.name name in
    (r.2 ∙ ap Some caller, same_some m.serial n (sym number ∙ back.number))

-- whose name was told before
named_caller : (es ys : List Entry) (who : Party) (l : Letter) (a : ℕ) (u : List ℕ) → length (greeted (es ++ ys)) ≤ 1000 → IsMail es who l → l.said.message.sender ≡ Some u → NameIs (es ++ ys) (App a) u → NameIs es (App a) u
named_caller es ys who l a u few mail sender name = by c.0.known
  where
    c : (x : Called es l.said.message) × (x.caller ≡ u)
    c = taken_call es who l u mail sender

    by : (c.0.caller ≡ own_name) ⊎ IsCallOf es c.0.from c.0.caller l.said.message → NameIs es (App a) u
    by (inl own) = absurd (false_true (ap is_unique_name (sym own ∙ c.1) ∙ unique_told (es ++ ys) (App a) u name))
    by (inr i) =
        let has : NameIs es c.0.from u = subst (NameIs es c.0.from) c.1 i.name in
        subst (λ p. NameIs es p u) (one_named (es ++ ys) c.0.from (App a) u few (name_more es ys c.0.from u has) name) has

-- THE LAYER
abbrev pub Under_adopting : List Entry → World → Type 0
Under_adopting es w = And Ground (And Under_embed AllBegin) es w

under_adopting_keep : Keeps (Shaped Under_adopting)
under_adopting_keep = both_keep Ground (And Under_embed AllBegin) ground_keep begin_keep

well_of : (es : List Entry) (w : World) → Under_adopting es w → AllByRecursion SaysWell es
well_of es w u = u.1.0.0.0.0.1

answers_of : (es : List Entry) (w : World) → Under_adopting es w → AllByRecursion (Answers es) (messages es Registry)
answers_of es w u = u.0.1.1.0.1

-- THE REGISTRY TAKES A MESSAGE
module _ (es : List Entry) (w : World) (d : Done) (s : Shape w) (v : Under_adopting es w) (b : RegistryTakes w d) (a : ℕ) (u : List ℕ) (name : NameIs es (App a) u) where
  abbrev m : Envelope
  m = b.letter.said.message

  g : Grounds es w
  g = grounds es w v.0

  told : HasTold es b.before
  told = v.0.1.1.0.0.1.registry b.conn b.e b.before b.is_here.there b.role

  its_mail : IsMail es b.e.who b.letter
  its_mail = (subst (AllByRecursion (IsMail es b.e.who)) b.link (g.mail.downs b.conn b.e b.is_here.there b.is_here.standing)).0

  unique : is_unique_name u ≡ true
  unique = unique_told es (App a) u name

  -- a call of its own, as it was sent
  record Own : Type 0 where
    first : Envelope
    was : message es (App a) m.serial ≡ Some first
    alike : m ≡ record first { sender = Some u }

  own_call : m.sender ≡ Some u → Own
  own_call sender = by c.0.known
    where
      c : (x : Called es m) × (x.caller ≡ u)
      c = taken_call es b.e.who b.letter u its_mail sender

      by : (c.0.caller ≡ own_name) ⊎ IsCallOf es c.0.from c.0.caller m → Own
      by (inl own) = absurd (false_true (ap is_unique_name (sym own ∙ c.1) ∙ unique))
      by (inr i) =
          let from : c.0.from ≡ App a = one_named es c.0.from (App a) u g.few (subst (NameIs es c.0.from) c.1 i.name) name in
          record { first = i.first; was = ap (λ p. message es p m.serial) (sym from) ∙ i.was; alike = i.alike ∙ ap (λ x. record i.first { sender = Some x }) c.1 }

  is_start : (o : Own) → o.first.kind ≡ 1 → IsStart o.first
  is_start o one = said_well es (App a) m.serial o.first (well_of es w v) o.was one

  -- which it never takes back
  keeps_its : m.kind ≡ 1 → (caller : List ℕ) → m.sender ≡ Some caller → NoUnembed u (asked (object_at m.path) m.interface m.member m.body) caller
  keeps_its one caller sender = unembed_by u (asked (object_at m.path) m.interface m.member m.body) caller (λ same. by (own_call (sender ∙ ap Some same)))
    where
      by : Own → NoUnembed u (asked (object_at m.path) m.interface m.member m.body) caller
      by o =
          let i = is_start o (ap (λ (x : Envelope). x.kind) (sym o.alike) ∙ one) in
          subst (λ (x : Envelope). NoUnembed u (asked (object_at x.path) x.interface x.member x.body) caller) (sym (o.alike ∙ ap (λ (x : Envelope). record x { sender = Some u }) i.2)) (start_keeps u i.0 caller i.1 o.first.serial (Some u))

  -- and nobody tells that it left
  from_bus : (gone : List ℕ) → name_gone m ≡ Some gone → b.letter.from ≡ The_bus
  from_bus gone h = by its_mail
    where
      by : IsMail es b.e.who b.letter → b.letter.from ≡ The_bus
      by (inl p) = p.from
      by (inr p) = absurd (false_true (sym (ap (λ o. is_text o own_name) p.sender ∙ not_the_bus p.caller (unique_told es b.letter.from p.caller p.name)) ∙ gone_from m gone h))

  none_gone : (k : ℕ) (e : End) → end_at w.ends k ≡ Some e → e.who ≡ App a → e.standing ≡ here → (gone : List ℕ) → name_gone m ≡ Some gone → encode_utf8_all gone ≡ u → ⊥
  none_gone k e there who on gone h same = by (news.0 (from_bus gone h) gone (sym (told_same m m.body) ∙ h))
    where
      news : Ordered (AwayAs w.ends) (b.letter ∷ b.rest)
      news = subst (Ordered (AwayAs w.ends)) b.link (g.ends.told.links b.conn b.e b.is_here.there)

      not_away : (p : Party) → AwayAs w.ends p gone → p ≡ App a → ⊥
      not_away p x is =
          let at : x.conn ≡ k = s.one x.conn k x.e e x.there there (x.whose ∙ is ∙ sym who) in
          let one : x.e ≡ e = same_some x.e e (sym x.there ∙ ap (end_at w.ends) at ∙ there) in
          false_true (sym (ap is_here x.out) ∙ ap (λ (y : End). is_here y.standing) one ∙ ap is_here on)

      by : IsPlain gone ⊎ ((p : Party) × AwayAs w.ends p gone × AllByRecursion (NotFrom p) b.rest) → ⊥
      by (inl plain) = false_true (sym plain ∙ unique_written gone (ap is_unique_name same ∙ unique))
      by (inr x) =
          let its : NameIs es x.0 gone = away_named es w g.names g.mail x.0 gone x.1 in
          let is : u ≡ gone = sym same ∙ name_spelled es x.0 gone g.few its in
          not_away x.0 x.1 (one_named es x.0 (App a) gone g.few its (subst (NameIs es (App a)) is name))

  pub stays_child : (k : ℕ) (e : End) → end_at w.ends k ≡ Some e → e.who ≡ App a → e.standing ≡ here → HasChild u b.before.children → HasChild u (registry_takes b.before m).state.children
  stays_child k e there who on c = child_stays b.before u c m keeps_its (none_gone k e there who on)

  -- WHERE IT REPLIES, it takes the call
  pub adopts_now : Lives es → (k : ℕ) (e : End) → end_at w.ends k ≡ Some e → e.who ≡ App a → e.standing ≡ here → (later : List Entry) (call : Embeds later a) → ((n : ℕ) (x : Envelope) → message es (App a) n ≡ Some x → message later (App a) n ≡ Some x)
      → NameIs later (App a) u → (reply : Envelope) → IsBack later a call.serial reply → IsReplyOf b.before m reply → HasChild u (registry_takes b.before m).state.children
  adopts_now live k e there who on later call more name_later reply back r = by (own_call sender)
    where
      its : (m.sender ≡ Some u) × (m.serial ≡ call.serial)
      its = whose_call later a call.serial u b.before m reply back r name_later

      sender : m.sender ≡ Some u
      sender = its.0

      number : m.serial ≡ call.serial
      number = its.1

      role : (x : Exporter) × (e.role ≡ an_application x)
      role = role_app a e.who e.role who (s.roles k e there)

      by : Own → HasChild u (registry_takes b.before m).state.children
      by o =
          let same : o.first ≡ call.call = same_some o.first call.call (sym (more m.serial o.first o.was) ∙ ap (message later (App a)) number ∙ call.was) in
          let i = is_start o (ap (λ (x : Envelope). x.kind) same ∙ call.is_call) in
          let is_embed : i.1 ≡ embed = embed_call i.0 i.1 (ap (λ (x : Envelope). x.member) (sym i.2) ∙ ap (λ (x : Envelope). x.member) same ∙ call.member) in
          let is : o.first ≡ record (start_call i.0 embed) { serial = o.first.serial } = i.2 ∙ ap (λ c. record (start_call i.0 c) { serial = o.first.serial }) is_embed in
          let names : NamesItself es a o.first = with_found (NamesItself es a) m.serial (messages es (App a)) o.first (v.1.1 live k a e role.0 there who role.1 on).names o.was in
          let own : NameIs es (App a) i.0 = inr (names i.0 is) in
          let spelled : encode_utf8_all i.0 ≡ u = name_spelled es (App a) i.0 g.few own ∙ app_same es a i.0 u own name in
          subst (λ (x : Envelope). HasChild u (registry_takes b.before x).state.children) (sym (o.alike ∙ ap (λ (x : Envelope). record x { sender = Some u }) is)) (embed_adopts b.before (codes ":1.0") u i.0 o.first.serial told.own spelled)

-- EACH CAUSE
abbrev is_registry : Role → Bool
is_registry (the_registry s) = true
is_registry role = false

no_app_first : (quota k a : ℕ) (e : End) → end_at (first_world quota).ends k ≡ Some e → e.who ≡ App a → ⊥
no_app_first quota zero a e there who = false_true (sym (ap no_app who) ∙ ap (λ (x : End). no_app x.who) (sym (same_some first_registry e there)))
no_app_first quota (suc k) a e there who = no_none e there

past_none : (ends : List End) (k : ℕ) (e : End) → k ≡ length ends → end_at ends k ≡ Some e → ⊥
past_none [] zero e h there = no_none e there
past_none [] (suc k) e h there = no_none e there
past_none (x ∷ xs) zero e h there = absurd (omega (arith, h))
past_none (x ∷ xs) (suc k) e h there = past_none xs k e (less k (length xs) h) there
  where
    less : (a b : ℕ) → suc a ≡ suc b → a ≡ b
    less a b g = omega (arith, g)

first_adopted : (es : List Entry) (d : Done) (quota : ℕ) → d ≡ only (first_world quota) [] → Adopted (es ++ d.entries) d.world
first_adopted es d quota is = subst (λ y. Adopted (es ++ y.entries) y.world) (sym is) (λ live j f t at_f role_f k a e there who on. absurd (no_app_first quota k a e there who))

module _ (es : List Entry) (w : World) (d : Done) (s : Shape w) (v : Under_adopting es w) (after : Shape d.world) (few_later : length (greeted (es ++ d.entries)) ≤ 1000) (i : Adopted es w) where
  abbrev later : List Entry
  later = es ++ d.entries

  -- what the registry had sent
  before : AllByRecursion NotRegistry d.entries → (a : ℕ) (u : List ℕ) → NameIs later (App a) u → HasEmbedded later a → NameIs es (App a) u × HasEmbedded es a
  before n a u name x = was_back es d.entries a u few_later name x (answers_of es w v) (subst (HasOne (IsBack later a x.call.serial)) (same_messages es d.entries n) x.back)

  quiet_adopted : Over SameRegistry w.ends d.world.ends → Over AskedBack w.ends d.world.ends → AllByRecursion NotRegistry d.entries → Adopted later d.world
  quiet_adopted o p n live j f t at_f role_f k a e there who on u name x =
      let r = o.back j f at_f in
      let y = p.back k e there in
      let was = before n a u name x in
      i (lived es d.entries live) j r.0 t r.1 (r.2 t role_f) k a y.0 y.1 (sym y.2.whose ∙ who) (y.2.on on) u was.0 was.1

  joined_adopted : (nu mu : End) → d.world.ends ≡ w.ends ++ nu ∷ [] → is_registry nu.role ≡ false → d.world.ends ≡ w.ends ++ mu ∷ [] → AllByRecursion NotRegistry d.entries → Adopted later d.world
  joined_adopted nu mu is none_ are n live j f t at_f role_f k a e there who on u name x = registry_at (joined_cases w.ends nu j f (ap (λ l. end_at l j) (sym is) ∙ at_f))
    where
      was : NameIs es (App a) u × HasEmbedded es a
      was = before n a u name x

      -- who has a name was there
      no_new : k ≡ length w.ends → NameIs es (App a) u → ⊥
      no_new at (inl h) = false_true (ap (λ p. same_party p Registry) h.0)
      no_new at (inr h) =
          let z = is_at es w s (grounds es w v.0) (App a) u h in
          let still : end_at d.world.ends z.0 ≡ Some z.1 = ap (λ l. end_at l z.0) are ∙ at_front w.ends mu z.0 z.1 z.2 in
          past_none w.ends z.0 z.1 (after.one z.0 k z.1 e still there (z.3 ∙ sym who) ∙ at) z.2

      app_at : end_at w.ends j ≡ Some f → (end_at w.ends k ≡ Some e) ⊎ ((k ≡ length w.ends) × (e ≡ mu)) → HasChild u t.children
      app_at h (inl q) = i (lived es d.entries live) j f t h role_f k a e q who on u was.0 was.1
      app_at h (inr q) = absurd (no_new q.0 was.0)

      registry_at : (end_at w.ends j ≡ Some f) ⊎ ((j ≡ length w.ends) × (f ≡ nu)) → HasChild u t.children
      registry_at (inl h) = app_at h (joined_cases w.ends mu k e (ap (λ l. end_at l k) (sym are) ∙ there))
      registry_at (inr h) = absurd (false_true (sym none_ ∙ ap is_registry (ap (λ (z : End). z.role) (sym h.1) ∙ role_f)))

  took_adopted : RegistryTakes w d → Over AskedBack w.ends d.world.ends → Adopted later d.world
  took_adopted b p live j f t at_f role_f k a e there who on u name x =
      subst (λ (z : RegistryState). HasChild u z.children) (state_now w d after b j f t at_f role_f)
      (by (one_split (IsBack later a x.call.serial) (messages es Registry) (registry_takes b.before b.letter.said.message).sent
      (subst (HasOne (IsBack later a x.call.serial)) (messages_more es d.entries Registry ∙ ap (λ l. messages es Registry ++ l) (registry_wrote w d b)) x.back)))
    where
      before_live : Lives es
      before_live = lived es d.entries live

      y : (z : End) × (end_at w.ends k ≡ Some z) × AskedBack z e
      y = p.back k e there

      y_who : y.0.who ≡ App a
      y_who = sym y.2.whose ∙ who

      its_mail_ : IsMail es b.e.who b.letter
      its_mail_ = (subst (AllByRecursion (IsMail es b.e.who)) b.link ((grounds es w v.0).mail.downs b.conn b.e b.is_here.there b.is_here.standing)).0

      by : HasOne (IsBack later a x.call.serial) (messages es Registry) ⊎ HasOne (IsBack later a x.call.serial) (registry_takes b.before b.letter.said.message).sent → HasChild u (registry_takes b.before b.letter.said.message).state.children
      by (inl old) =
          let was = was_back es d.entries a u few_later name x (answers_of es w v) old in
          stays_child es w d s v b a u was.0 k y.0 y.1 y_who (y.2.on on) (i before_live b.conn b.e b.before b.is_here.there b.role k a y.0 y.1 y_who (y.2.on on) u was.0 was.1)
      by (inr new) =
          let r = one_with (IsBack later a x.call.serial) (λ m. is_reply m ≡ true → IsReplyOf b.before b.letter.said.message m) (registry_takes b.before b.letter.said.message).sent new (registry_answers b.before b.letter.said.message) in
          let whose = whose_call later a x.call.serial u b.before b.letter.said.message r.0 r.1 (r.2 r.1.replies) name in
          let name_then : NameIs es (App a) u = named_caller es d.entries b.e.who b.letter a u few_later its_mail_ whose.0 name in
          adopts_now es w d s v b a u name_then before_live k y.0 y.1 y_who (y.2.on on) later x.call (λ n z h. found_more es d.entries (App a) n z h) name r.0 r.1 (r.2 r.1.replies)

adopted_kept : (es : List Entry) (w : World) (d : Done) → Shape w → Under_adopting es w → Shape d.world → length (greeted (es ++ d.entries)) ≤ 1000 → Adopted es w → Registers w d → Reading w d → AllByRecursion NotRegistry d.entries ⊎ RegistryTakes w d → Adopted (es ++ d.entries) d.world
adopted_kept es w d s v after few i (first_ quota is) y n = first_adopted es d quota is
adopted_kept es w d s v after few i (takes_ b) (begins_ quota is) n = first_adopted es d quota is
adopted_kept es w d s v after few i (same_ o) (begins_ quota is) n = first_adopted es d quota is
adopted_kept es w d s v after few i (joined_ nu are none) (begins_ quota is) n = first_adopted es d quota is
adopted_kept es w d s v after few i (takes_ b) (reads_on p) n = took_adopted es w d s v after few i b p
adopted_kept es w d s v after few i (takes_ b) (joins mu are new) n = absurd (one_longer w.ends d.world.ends mu (registry_over w d b).size are)
adopted_kept es w d s v after few i (same_ o) (reads_on p) (inl n) = quiet_adopted es w d s v after few i o p n
adopted_kept es w d s v after few i (same_ o) (reads_on p) (inr b) = took_adopted es w d s v after few i b p
adopted_kept es w d s v after few i (same_ o) (joins mu are new) n = absurd (one_longer w.ends d.world.ends mu o.size are)
adopted_kept es w d s v after few i (joined_ nu is none) (reads_on p) n = absurd (one_longer w.ends d.world.ends nu p.size is)
adopted_kept es w d s v after few i (joined_ nu is none) (joins mu are new) (inl n) = joined_adopted es w d s v after few i nu mu is none are n
adopted_kept es w d s v after few i (joined_ nu is none) (joins mu are new) (inr b) = absurd (one_longer w.ends d.world.ends mu (registry_over w d b).size are)

moved_adopted : (es : List Entry) (w v : World) → Over SameRegistry w.ends v.ends → Over AskedBack w.ends v.ends → Adopted es w → Adopted es v
moved_adopted es w v o p i live j f t at_f role_f k a e there who on u name x =
    let r = o.back j f at_f in
    let y = p.back k e there in
    i live j r.0 t r.1 (r.2 t role_f) k a y.0 y.1 (sym y.2.whose ∙ who) (y.2.on on) u name x

few_of : (es : List Entry) (w : World) → Under_adopting es w → length (greeted es) ≤ 1000
few_of es w u = (grounds es w u.0).few

asked_adopted : (es : List Entry) (w : World) (conn r : ℕ) (m : Envelope) (question : Question) → Under_adopting es w → Adopted es w → Asks w conn r m question → Adopted (es ++ sent (Reader r) m ∷ []) (at_end w conn (asks_at m question))
asked_adopted es w conn r m question v i q live j f t at_f role_f k a e there who on u name x = by (asked_cases w conn r m question q k e there)
  where
    ys : List Entry
    ys = sent (Reader r) m ∷ []

    few : length (greeted (es ++ ys)) ≤ 1000
    few = subst (λ l. length l ≤ 1000) (sym (greeted_more es ys ∙ append-nil (greeted es))) (few_of es w v)

    was : NameIs es (App a) u × HasEmbedded es a
    was = was_back es ys a u few name x (answers_of es w v) (subst (HasOne (IsBack (es ++ ys) a x.call.serial)) (same_messages es ys (refl, tt)) x.back)

    registry_at : (z : End) × (end_at w.ends j ≡ Some z) × SameRegistry z f
    registry_at = (over_with SameRegistry same_registry (asks_at m question) (λ z. asks_same m question z) conn w.ends).back j f at_f

    by : (end_at w.ends k ≡ Some e) ⊎ (e ≡ reader_sends (asks question q.hearer) m q.asker) → HasChild u t.children
    by (inl g) = i (lived es ys live) j registry_at.0 t registry_at.1 (registry_at.2 t role_f) k a e g who on u was.0 was.1
    by (inr same) = i (lived es ys live) j registry_at.0 t registry_at.1 (registry_at.2 t role_f) k a q.asker asker_at (ap (λ (z : End). z.who) (sym same) ∙ who) q.is_here.standing u was.0 was.1
      where
        asker_at : end_at w.ends k ≡ Some q.asker
        asker_at = absurd (false_true (ap no_app (sym who ∙ ap (λ (z : End). z.who) same ∙ q.whose)))

adopted_grow : Grows Under_adopting Adopted
adopted_grow = record {
  begins = λ live j f t at_f role_f k a e there who on. absurd (no_app_first QUOTA_MOST k a e there who);
  caused = λ es w d s u i e after v. adopted_kept es w d s u after (few_of (es ++ d.entries) d.world v) i (registers w d e) (reading w d e) (registry_or w d e);
  moved = λ es w v s u i m. moved_adopted es w v (moved_registry w v m) (moved_back w v m) i;
  asked = λ es w conn r m question s u i a. asked_adopted es w conn r m question u i a;
}

pub adopted_keep : Keeps (Shaped (And Under_adopting Adopted))
adopted_keep = grown Under_adopting Adopted under_adopting_keep adopted_grow
