-- How applications listen to the registry, along a lawful trace: the bus has the rule of each whose call for it was returned, the list of pairs comes behind that, and from the list on each of the
-- registry's news was heard or stands on the down link. What is kept, and that it is kept where no application acts.
use Rattle.std.proofs.Common.{◌≡◌, ◌⊎◌, inl, inr, ℕ, ◌<◌, ◌≤◌, Bool, true, false, List, [], ◌∷◌, ◌++◌, length, map, Option, None, Some, refl, sym, ap, ◌∙◌, subst, arith}
use Rattle.std.specs.Prelude.{◌==◌, codes, if◌then◌else◌}
use Rattle.std.specs.List.{AllByRecursion, cons_option}
use Rattle.std.proofs.lemmas.Bool.{ne_eqb}
use Rattle.atspi_script_lines.specs.declared.line.Party.{Party}
use Rattle.atspi_script_lines.specs.declared.line.Party.TheVariants.{Bus as The_bus, Registry, App}
use Rattle.atspi_message.specs.Envelope.{Envelope}
use Rattle.atspi_match.specs.declared.condition.Condition.{Condition}
use Rattle.atspi_protocol.specs.ends.Places.{registry}
use Rattle.atspi_protocol.specs.members.Asked.{is_text}
use Rattle.atspi_protocol.specs.exporting.Exporter.{StartCall, hello, add_match, get_registered_events, embed, Phase, new, awaits, over, Happening, steps, sends, hears as hears_of, deaf, Exporter, begins as begins_app}
use Rattle.atspi_protocol.specs.exporting.Hearing.{is_heard}
use Rattle.atspi_protocol.specs.exporting.Starting.{start_call, starts}
use Rattle.atspi_trace.specs.Entry.{Entry, started, sent}
use Rattle.atspi_trace.specs.Rules.{registry_rule}
use Rattle.atspi_trace.specs.World.{here, Role, an_application, Letter, End, World, newcomer}
use Rattle.atspi_trace.specs.Ends.{is_here, same_party, number_of, whose, end_at, with_end, put_up, taken_down, app_count}
use Rattle.atspi_trace.specs.Causes.{did, app_starts}
use Rattle.atspi_trace_laws.specs.laws.Words.{messages, message, with_serial}
use Rattle.atspi_trace_laws.specs.serials.Laws.{HasNextNumber}
use Rattle.atspi_trace_laws.specs.missed.Laws.{IsPastList}
use Rattle.atspi_trace_laws.proofs.OfOrder.Parties.{no_none, same_some, party-same, false_true}
use Rattle.atspi_trace_laws.proofs.OfOrder.Frame.{Over, IsOrder, with_cases, joined_cases}
use Rattle.atspi_trace_laws.proofs.OfOrder.Shape.{Shape}
use Rattle.atspi_trace_laws.proofs.OfOrder.Shaped.{new_app, app_joined}
use Rattle.atspi_trace_laws.proofs.OfOrder.Acts.{last_at}
use Rattle.atspi_trace_laws.proofs.OfOrder.Each.{Each}
use Rattle.atspi_trace_laws.proofs.OfSerials.Serial.{messages_more}
use Rattle.atspi_trace_laws.proofs.OfSerials.Numbers.{Numbered}
use Rattle.atspi_trace_laws.proofs.OfLinks.LawLinks.{first_unread}
use Rattle.atspi_trace_laws.proofs.OfOwn.Writing.{Lives, lived}
use Rattle.atspi_trace_laws.proofs.OfTaken.Found.{found_more, none_more}
use Rattle.atspi_trace_laws.proofs.OfMissed.Arriving.{On}
use Rattle.atspi_trace_laws.proofs.OfMissed.Ruling.{Has}
use Rattle.atspi_trace_caches.proofs.OfServed.Facts.{IsNews, Embeds, OnLink, told_by}
use Rattle.atspi_trace_caches.proofs.OfServed.HearingFold.{told_more}

-- WHAT IS KEPT
abbrev pub is_hello_call : StartCall → Bool
is_hello_call hello = true
is_hello_call call = false

-- who waits for a return to a call of its start sent that call, Hello first
abbrev pub IsAsked : List Entry → ℕ → ℕ → Phase → Type 0
IsAsked es a next (awaits call n) = (name : List ℕ) × (message es (App a) n ≡ Some (record (start_call name call) { serial = n })) × (n < next) × (is_hello_call call ≡ false → 2 ≤ n)
IsAsked es a next phase = Unit {0}

-- a message of the bus's own is none of the registry's news; where it is the return to the call for the rule, the rule is there
pub record FromBus (k : ℕ) (rules : List (ℕ × List Condition)) (s : Exporter) (m : Envelope) : Type 0 where
  pub other : is_text m.interface registry ≡ false
  pub reply : m.kind ≡ 2 → (n : ℕ) → m.reply ≡ Some n → (n < s.next) × (s.phase ≡ awaits add_match n → Has k registry_rule rules)

-- what the bus took of the registry behind a serial: where it is news it stands on the link
abbrev pub NewsAt : List Entry → List Letter → ℕ → Type 0
NewsAt es ls n = (m : Envelope) × (message es Registry n ≡ Some m) × (IsNews m → OnLink n ls)

abbrev pub AllNews : List Entry → ℕ → List Letter → Type 0
AllNews es base ls = (n : ℕ) → base < n → n < first_unread es Registry → NewsAt es ls n

-- before the list is taken
abbrev pub IsList : Letter → ℕ → Type 0
IsList l n = (l.from ≡ Registry) × (l.said.message.kind ≡ 2) × (l.said.message.reply ≡ Some n)

pub record Early (es : List Entry) (rules : List (ℕ × List Condition)) (k a : ℕ) (s : Exporter) (down : List Letter) : Type 0 where
  pub no_embed : Embeds es a → ⊥
  pub phase : (n : ℕ) → s.phase ≡ awaits embed n → ⊥
  pub has : (n : ℕ) → s.phase ≡ awaits get_registered_events n → Has k registry_rule rules
  pub list : (l : Letter) → On l down → (n : ℕ) → IsList l n → s.phase ≡ awaits get_registered_events n → AllNews es l.said.message.serial down

-- and behind it
pub record Hears (es : List Entry) (s : Exporter) (down : List Letter) : Type 0 where
  pub base : ℕ
  pub last : Envelope
  pub was : message es Registry base ≡ Some last
  pub heard : (pair : List ℕ × List ℕ) → is_heard s.heard pair ≡ is_heard (told_by es base) pair
  pub taken : base < first_unread es Registry
  pub behind : AllNews es base down
  pub before : (l : Letter) → On l down → l.from ≡ Registry → base < l.said.message.serial

pub record Late (es : List Entry) (rules : List (ℕ × List Condition)) (k : ℕ) (s : Exporter) (down : List Letter) : Type 0 where
  pub past : IsPastList s.phase
  pub name : List ℕ
  pub named : s.name ≡ Some name
  pub has : Has k registry_rule rules
  pub hears : Hears es s down

pub record Tuned (es : List Entry) (rules : List (ℕ × List Condition)) (k a : ℕ) (s : Exporter) (down : List Letter) : Type 0 where
  pub next : 2 ≤ s.next
  pub asked : IsAsked es a s.next s.phase
  pub bus : (l : Letter) → On l down → l.from ≡ The_bus → FromBus k rules s l.said.message
  pub stage : Early es rules k a s down ⊎ Late es rules k s down

abbrev pub AllTuned : List Entry → World → Type 0
AllTuned es w = Lives es → (k a : ℕ) (e : End) (s : Exporter) → end_at w.ends k ≡ Some e → e.who ≡ App a → e.role ≡ an_application s → e.standing ≡ here → Tuned es w.bus.state.rules k a s e.down

-- MORE ENTRIES
abbrev pub NotEmbed : Envelope → Type 0
NotEmbed m = m.kind ≡ 1 → m.member ≡ Some (codes "Embed") → ⊥

found_all : (P : Envelope → Type 0) (n : ℕ) (xs : List Envelope) (m : Envelope) → AllByRecursion P xs → with_serial n xs ≡ Some m → P m
found_all P n [] m a h = absurd (no_none m h)
found_all P n (x ∷ xs) m a h = by (x.serial == n) h (λ g. found_all P n xs m a.1 g)
  where
    by : (b : Bool) → (if b then Some x else with_serial n xs) ≡ Some m → (with_serial n xs ≡ Some m → P m) → P m
    by true g ih = subst P (same_some x m g) a.0
    by false g ih = ih g

pub no_embeds : (es ys : List Entry) (a : ℕ) → AllByRecursion NotEmbed (messages ys (App a)) → (Embeds es a → ⊥) → Embeds (es ++ ys) a → ⊥
no_embeds es ys a none never e = by (message es (App a) e.serial) refl
  where
    by : (o : Option Envelope) → message es (App a) e.serial ≡ o → ⊥
    by (Some m) h =
        let same : m ≡ e.call = same_some m e.call (sym (found_more es ys (App a) e.serial m h) ∙ e.was) in
        never (record { call = e.call; serial = e.serial; was = h ∙ ap Some same; is_call = e.is_call; member = e.member })
    by None h = found_all NotEmbed e.serial (messages ys (App a)) e.call none (sym (none_more es ys (App a) e.serial h) ∙ e.was) e.is_call e.member

-- entries in which nobody says anything as this party
abbrev pub NotSaid : Party → Entry → Type 0
NotSaid who (sent other e) = same_party other who ≡ false
NotSaid who entry = Unit {0}

pub none_said : (who : Party) (ys : List Entry) → AllByRecursion (NotSaid who) ys → messages ys who ≡ []
none_said who [] a = refl
none_said who (sent other e ∷ ys) a = ap (λ b. cons_option (if b then Some e else None) (messages ys who)) a.0 ∙ none_said who ys a.1
none_said who (entry ∷ ys) a = none_said who ys a.1

pub none_embed : (a : ℕ) (ys : List Entry) → AllByRecursion (NotSaid (App a)) ys → AllByRecursion NotEmbed (messages ys (App a))
none_embed a ys n = subst (AllByRecursion NotEmbed) (sym (none_said (App a) ys n)) tt

pub news_more : (es ys : List Entry) (base : ℕ) (ls : List Letter) → first_unread (es ++ ys) Registry ≡ first_unread es Registry → AllNews es base ls → AllNews (es ++ ys) base ls
news_more es ys base ls same b n more less =
    let x = b n more (subst (λ k. n < k) same less) in
    (x.0, found_more es ys Registry n x.0 x.1, x.2)

pub asked_more : (es ys : List Entry) (a next later : ℕ) (p : Phase) → next ≤ later → IsAsked es a next p → IsAsked (es ++ ys) a later p
asked_more es ys a next later (awaits call n) le i = (i.0, found_more es ys (App a) n (record (start_call i.0 call) { serial = n }) i.1, under i.2, i.3)
  where
    under : n < next → n < later
    under less = omega (arith, less, le)
asked_more es ys a next later new le i = tt
asked_more es ys a next later over le i = tt

pub bus_more : (k : ℕ) (rules more : List (ℕ × List Condition)) (s : Exporter) (m : Envelope) → (Has k registry_rule rules → Has k registry_rule more) → FromBus k rules s m → FromBus k more s m
bus_more k rules more s m f i = record { other = i.other; reply = λ two n reply. let y = i.reply two n reply in (y.0, λ at. f (y.1 at)) }

pub hears_more : (es ys : List Entry) (s : Exporter) (ls : List Letter) → Each HasNextNumber [] (es ++ ys) → first_unread (es ++ ys) Registry ≡ first_unread es Registry → Hears es s ls → Hears (es ++ ys) s ls
hears_more es ys s ls law same i = record {
  base = i.base;
  last = i.last;
  was = found_more es ys Registry i.base i.last i.was;
  heard = λ pair. i.heard pair ∙ ap (λ pairs. is_heard pairs pair) (sym (told_more es ys i.base i.last law i.was));
  taken = subst (λ n. i.base < n) (sym same) i.taken;
  behind = news_more es ys i.base ls same i.behind;
  before = i.before;
}

pub early_more : (es ys : List Entry) (rules more : List (ℕ × List Condition)) (k a : ℕ) (s : Exporter) (ls : List Letter) → (Has k registry_rule rules → Has k registry_rule more) → AllByRecursion NotEmbed (messages ys (App a))
    → first_unread (es ++ ys) Registry ≡ first_unread es Registry → Early es rules k a s ls → Early (es ++ ys) more k a s ls
early_more es ys rules more k a s ls f none same i = record {
  no_embed = no_embeds es ys a none i.no_embed;
  phase = i.phase;
  has = λ n at. f (i.has n at);
  list = λ l o n is at. news_more es ys l.said.message.serial ls same (i.list l o n is at);
}

pub late_more : (es ys : List Entry) (rules more : List (ℕ × List Condition)) (k : ℕ) (s : Exporter) (ls : List Letter) → (Has k registry_rule rules → Has k registry_rule more) → Each HasNextNumber [] (es ++ ys)
    → first_unread (es ++ ys) Registry ≡ first_unread es Registry → Late es rules k s ls → Late (es ++ ys) more k s ls
late_more es ys rules more k s ls f law same i = record { past = i.past; name = i.name; named = i.named; has = f i.has; hears = hears_more es ys s ls law same i.hears }

least : (n : ℕ) → n ≤ n
least n = omega arith

pub tuned_more : (es ys : List Entry) (rules more : List (ℕ × List Condition)) (k a : ℕ) (s : Exporter) (ls : List Letter) → (Has k registry_rule rules → Has k registry_rule more) → Each HasNextNumber [] (es ++ ys)
    → AllByRecursion NotEmbed (messages ys (App a)) → first_unread (es ++ ys) Registry ≡ first_unread es Registry → Tuned es rules k a s ls → Tuned (es ++ ys) more k a s ls
tuned_more es ys rules more k a s ls f law none same i = record {
  next = i.next;
  asked = asked_more es ys a s.next s.next s.phase (least s.next) i.asked;
  bus = λ l o from. bus_more k rules more s l.said.message f (i.bus l o from);
  stage = by i.stage;
}
  where
    by : Early es rules k a s ls ⊎ Late es rules k s ls → Early (es ++ ys) more k a s ls ⊎ Late (es ++ ys) more k s ls
    by (inl x) = inl (early_more es ys rules more k a s ls f none same x)
    by (inr x) = inr (late_more es ys rules more k s ls f law same x)

-- NO APPLICATION ACTS
pub record SameTuned (e d : End) : Type 0 where
  pub whose : d.who ≡ e.who
  pub same : d.standing ≡ here → (s : Exporter) → d.role ≡ an_application s → (e.role ≡ an_application s) × (d.down ≡ e.down) × (e.standing ≡ here)

pub same_tuned : IsOrder SameTuned
same_tuned = record {
  same = λ e. record { whose = refl; same = λ on s g. (g, refl, on) };
  both = λ e d c f g. record { whose = g.whose ∙ f.whose; same = λ on s x. let y = g.same on s x in let z = f.same y.2 s y.0 in (z.0, y.1 ∙ z.1, z.2) };
}

abbrev pub is_app_role : Role → Bool
is_app_role (an_application s) = true
is_app_role role = false

no_app : (role : Role) (s : Exporter) → is_app_role role ≡ false → role ≡ an_application s → ⊥
no_app role s none is = false_true (sym none ∙ ap is_app_role is)

-- an end that is no application's may do anything
pub not_app : (e d : End) → d.who ≡ e.who → is_app_role d.role ≡ false → SameTuned e d
not_app e d who none = record { whose = who; same = λ on s g. absurd (no_app d.role s none g) }

pub gone_tuned : (e d : End) → d.who ≡ e.who → is_here d.standing ≡ false → SameTuned e d
gone_tuned e d who none = record { whose = who; same = λ on s g. absurd (false_true (sym none ∙ ap is_here on)) }

pub alike_tuned : (e d : End) → d.who ≡ e.who → d.role ≡ e.role → d.down ≡ e.down → d.standing ≡ e.standing → SameTuned e d
alike_tuned e d who role down standing = record { whose = who; same = λ on s g. (sym role ∙ g, down, sym standing ∙ on) }

pub quiet_tuned : (es ys : List Entry) (w v : World) → Each HasNextNumber [] (es ++ ys) → AllTuned es w → Over SameTuned w.ends v.ends → v.bus.state.rules ≡ w.bus.state.rules
    → ((a : ℕ) → AllByRecursion (NotSaid (App a)) ys) → first_unread (es ++ ys) Registry ≡ first_unread es Registry → AllTuned (es ++ ys) v
quiet_tuned es ys w v law i o is none same live k a d s there who role on =
    let x = o.back k d there in
    let y = x.2.same on s role in
    subst (Tuned (es ++ ys) v.bus.state.rules k a s) (sym y.1)
    (tuned_more es ys w.bus.state.rules v.bus.state.rules k a s x.0.down (λ h. subst (Has k registry_rule) (sym is) h) law (none_embed a ys (none a)) same
    (i (lived es ys live) k a x.0 s x.1 (sym x.2.whose ∙ who) y.0 y.2))

-- ONE APPLICATION ACTS
abbrev pub ChangedAt : World → World → ℕ → End → Type 0
ChangedAt w v conn d = (k : ℕ) (x : End) → end_at v.ends k ≡ Some x → ((k ≡ conn) × (x ≡ d)) ⊎ ((k ≡ conn → ⊥) × (end_at w.ends k ≡ Some x))

pub changed_at : (w v : World) (conn : ℕ) (e : End) (f : End → End) → end_at w.ends conn ≡ Some e → v.ends ≡ with_end conn f w.ends → ChangedAt w v conn (f e)
changed_at w v conn e f there is k x h = by (with_cases f w.ends conn k x (ap (λ l. end_at l k) (sym is) ∙ h))
  where
    by : ((y : End) × (end_at w.ends k ≡ Some y) × (((k ≡ conn) × (x ≡ f y)) ⊎ ((k ≡ conn → ⊥) × (x ≡ y)))) → ((k ≡ conn) × (x ≡ f e)) ⊎ ((k ≡ conn → ⊥) × (end_at w.ends k ≡ Some x))
    by g = at g.2
      where
        at : (((k ≡ conn) × (x ≡ f g.0)) ⊎ ((k ≡ conn → ⊥) × (x ≡ g.0))) → ((k ≡ conn) × (x ≡ f e)) ⊎ ((k ≡ conn → ⊥) × (end_at w.ends k ≡ Some x))
        at (inl c) = inl (c.0, c.1 ∙ ap f (same_some g.0 e (sym g.1 ∙ ap (end_at w.ends) c.0 ∙ there)))
        at (inr c) = inr (c.0, g.1 ∙ ap Some (sym c.1))

pub changed_both : (w v : World) (conn : ℕ) (e : End) (f : End → End) → end_at w.ends conn ≡ Some e → v.ends ≡ with_end conn f (with_end conn taken_down w.ends) → ChangedAt w v conn (f (taken_down e))
changed_both w v conn e f there is k x h = by (with_cases f (with_end conn taken_down w.ends) conn k x (ap (λ l. end_at l k) (sym is) ∙ h))
  where
    by : ((y : End) × (end_at (with_end conn taken_down w.ends) k ≡ Some y) × (((k ≡ conn) × (x ≡ f y)) ⊎ ((k ≡ conn → ⊥) × (x ≡ y)))) → ((k ≡ conn) × (x ≡ f (taken_down e))) ⊎ ((k ≡ conn → ⊥) × (end_at w.ends k ≡ Some x))
    by g = at g.2 (with_cases taken_down w.ends conn k g.0 g.1)
      where
        at : (((k ≡ conn) × (x ≡ f g.0)) ⊎ ((k ≡ conn → ⊥) × (x ≡ g.0))) → ((z : End) × (end_at w.ends k ≡ Some z) × (((k ≡ conn) × (g.0 ≡ taken_down z)) ⊎ ((k ≡ conn → ⊥) × (g.0 ≡ z))))
            → ((k ≡ conn) × (x ≡ f (taken_down e))) ⊎ ((k ≡ conn → ⊥) × (end_at w.ends k ≡ Some x))
        at (inl c) z = inl (c.0, c.1 ∙ ap f (inner z.2))
          where
            inner : (((k ≡ conn) × (g.0 ≡ taken_down z.0)) ⊎ ((k ≡ conn → ⊥) × (g.0 ≡ z.0))) → g.0 ≡ taken_down e
            inner (inl d) = d.1 ∙ ap taken_down (same_some z.0 e (sym z.1 ∙ ap (end_at w.ends) c.0 ∙ there))
            inner (inr d) = absurd (d.0 c.0)
        at (inr c) z = inner z.2
          where
            inner : (((k ≡ conn) × (g.0 ≡ taken_down z.0)) ⊎ ((k ≡ conn → ⊥) × (g.0 ≡ z.0))) → ((k ≡ conn) × (x ≡ f (taken_down e))) ⊎ ((k ≡ conn → ⊥) × (end_at w.ends k ≡ Some x))
            inner (inl d) = absurd (c.0 d.0)
            inner (inr d) = inr (c.0, z.1 ∙ ap Some (sym (c.1 ∙ d.1)))

abbrev app_in : Role → Exporter → Exporter
app_in (an_application s) t = s
app_in role t = t

pub same_exporter : (s t : Exporter) → an_application s ≡ an_application t → s ≡ t
same_exporter s t e = ap (λ r. app_in r s) e

-- what another application says is not said as this one
pub did_others : (app a : ℕ) (hs : List Happening) → (app ≡ a → ⊥) → AllByRecursion (NotSaid (App a)) (map (did app) hs)
did_others app a [] differ = tt
did_others app a (steps step ∷ hs) differ = (tt, did_others app a hs differ)
did_others app a (sends e ∷ hs) differ = (ne_eqb app a differ, did_others app a hs differ)
did_others app a (hears_of listener pattern ∷ hs) differ = (tt, did_others app a hs differ)
did_others app a (deaf listener pattern ∷ hs) differ = (tt, did_others app a hs differ)

pub one_tuned : (es ys : List Entry) (w v : World) (conn app : ℕ) (e d : End) (t : Exporter) → Shape w → end_at w.ends conn ≡ Some e → e.who ≡ App app → Each HasNextNumber [] (es ++ ys) → AllTuned es w → ChangedAt w v conn d
    → v.bus.state.rules ≡ w.bus.state.rules → ((a : ℕ) → (app ≡ a → ⊥) → AllByRecursion (NotSaid (App a)) ys) → first_unread (es ++ ys) Registry ≡ first_unread es Registry → d.who ≡ App app → d.role ≡ an_application t
    → (Lives es → d.standing ≡ here → Tuned (es ++ ys) w.bus.state.rules conn app t d.down) → AllTuned (es ++ ys) v
one_tuned es ys w v conn app e d t sh at_e whose law i c is none same who role now live k a x s there whose_ role_ on = by (c k x there)
  where
    by : ((k ≡ conn) × (x ≡ d)) ⊎ ((k ≡ conn → ⊥) × (end_at w.ends k ≡ Some x)) → Tuned (es ++ ys) v.bus.state.rules k a s x.down
    by (inl y) =
        let number : app ≡ a = ap number_of (sym who ∙ ap (λ (z : End). z.who) (sym y.1) ∙ whose_) in
        let state : t ≡ s = same_exporter t s (sym role ∙ ap (λ (z : End). z.role) (sym y.1) ∙ role_) in
        let on_d : d.standing ≡ here = ap (λ (z : End). z.standing) (sym y.1) ∙ on in
        subst (λ rules. Tuned (es ++ ys) rules k a s x.down) (sym is)
        (subst (λ n. Tuned (es ++ ys) w.bus.state.rules n a s x.down) (sym y.0)
        (subst (λ (z : End). Tuned (es ++ ys) w.bus.state.rules conn a s z.down) (sym y.1)
        (subst (λ n. Tuned (es ++ ys) w.bus.state.rules conn n s d.down) number (subst (λ z. Tuned (es ++ ys) w.bus.state.rules conn app z d.down) state (now (lived es ys live) on_d)))))
    by (inr y) =
        tuned_more es ys w.bus.state.rules v.bus.state.rules k a s x.down (λ h. subst (Has k registry_rule) (sym is) h) law
        (none_embed a ys (none a (λ number. y.0 (sh.one k conn x e y.1 at_e (whose_ ∙ ap App (sym number) ∙ sym whose))))) same (i (lived es ys live) k a x s y.1 whose_ role_ on)

-- AN APPLICATION STARTS
hello_embeds : (m : Envelope) → m.member ≡ Some (codes "Hello") → NotEmbed m
hello_embeds m is one embeds_ = false_true (ap (λ o. is_text o (codes "Embed")) (sym is ∙ embeds_))

module _ (es : List Entry) (w : World) (name : List ℕ) (sh : Shape w) (m : Numbered es w) (law : Each HasNextNumber [] (es ++ (app_starts w name).entries)) (i : AllTuned es w)
    (same : first_unread (es ++ (app_starts w name).entries) Registry ≡ first_unread es Registry) where
  abbrev n : ℕ
  n = app_count w.ends

  abbrev first_call : Envelope
  first_call = record (start_call [] hello) { serial = 1 }

  abbrev ys : List Entry
  ys = started (App n) (Some name) ∷ (sent (App n) first_call ∷ [])

  wrote : (app_starts w name).entries ≡ ys
  wrote = ap (λ k. started (App n) (Some name) ∷ (sent (App k) first_call ∷ [])) (ap (λ o. number_of (whose o)) (last_at w.ends (put_up [] (newcomer (App n) (an_application (begins_app name))))))

  all : messages (es ++ ys) (App n) ≡ first_call ∷ []
  all =
      messages_more es ys (App n) ∙ ap (λ l. l ++ messages ys (App n)) (m.2 (App n) (least n)) ∙ ap (λ b. cons_option (if b then Some first_call else None) []) (party-same (App n))

  abbrev begun : Exporter
  begun = record (starts (begins_app name)) { out = [] }

  no_embed_yet : Embeds (es ++ ys) n → ⊥
  no_embed_yet e = found_all NotEmbed e.serial (first_call ∷ []) e.call (hello_embeds first_call refl, tt) (sym (ap (with_serial e.serial) all) ∙ e.was) e.is_call e.member

  no_phase : (call : StartCall) (j : ℕ) → is_hello_call call ≡ false → awaits hello 1 ≡ awaits call j → ⊥
  no_phase call j none is = false_true (sym none ∙ ap phase_hello (sym is))
    where
      phase_hello : Phase → Bool
      phase_hello (awaits c k) = is_hello_call c
      phase_hello p = false

  mine : (rules : List (ℕ × List Condition)) (k : ℕ) → Tuned (es ++ ys) rules k n begun []
  mine rules k = record {
    next = two;
    asked = ([], ap (with_serial 1) all, one_two, λ other. absurd (false_true (sym other)));
    bus = λ l o. absurd o;
    stage = inl (record { no_embed = no_embed_yet; phase = λ j is. absurd (no_phase embed j refl is); has = λ j is. absurd (no_phase get_registered_events j refl is); list = λ l o. absurd o });
  }
    where
      two : 2 ≤ 2
      two = omega arith

      one_two : 1 < 2
      one_two = omega arith

  pub started_tuned : AllTuned (es ++ (app_starts w name).entries) (app_starts w name).world
  started_tuned live k a e s there who role on = by (joined_cases w.ends (new_app w name) k e (ap (λ l. end_at l k) (sym (app_joined w name)) ∙ there))
    where
      rules : List (ℕ × List Condition)
      rules = w.bus.state.rules

      by : (end_at w.ends k ≡ Some e) ⊎ ((k ≡ length w.ends) × (e ≡ new_app w name)) → Tuned (es ++ (app_starts w name).entries) rules k a s e.down
      by (inl g) =
          tuned_more es (app_starts w name).entries rules rules k a s e.down (λ h. h) law
          (subst (λ l. AllByRecursion NotEmbed (messages l (App a))) (sym wrote) (none_embed a ys (tt, (ne_eqb n a other, tt)))) same (i (lived es (app_starts w name).entries live) k a e s g who role on)
        where
          other : n ≡ a → ⊥
          other same_number = less (sh.apps k a e g who) same_number
            where
              less : a < n → n ≡ a → ⊥
              less h q = absurd (omega (arith, h, q))
      by (inr g) =
          let number : n ≡ a = ap number_of (ap (λ (x : End). x.who) (sym g.1) ∙ who) in
          let state : begun ≡ s = same_exporter begun s (ap (λ (x : End). x.role) (sym g.1) ∙ role) in
          let empty : e.down ≡ [] = ap (λ (x : End). x.down) g.1 in
          subst (λ l. Tuned (es ++ l) rules k a s e.down) (sym wrote)
          (subst (Tuned (es ++ ys) rules k a s) (sym empty) (subst (λ j. Tuned (es ++ ys) rules k j s []) number (subst (λ z. Tuned (es ++ ys) rules k n z []) state (mine rules k))))
