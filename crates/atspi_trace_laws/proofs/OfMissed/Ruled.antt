-- The match rules of readers, along a lawful trace: where a reader's AddMatch was returned the bus has the rule, so the bus has both rules for signals of
-- each reader that ever asked for items.
use Rattle.std.proofs.Common.{◌≡◌, ◌⊎◌, inl, inr, ℕ, suc, ◌<◌, ◌≤◌, Bool, true, false, List, [], ◌∷◌, ◌++◌, length, None, Some, refl, sym, ap, ◌∙◌, subst, arith}
use Rattle.std.specs.Prelude.{◌&&◌, ◌||◌, bytes_eq, codes, encode_utf8_all, if◌then◌else◌}
use Rattle.std.specs.List.{AllByRecursion, list_any, cons_option}
use Rattle.std.proofs.lemmas.Slice.Eq.{bytes_eq-Decides}
use lib.Utf8.{encode}
use Rattle.atspi_base.specs.valid_names.Names.{is_bus_name}
use Rattle.atspi_script_lines.specs.declared.deed.Deed.{Deed}
use Rattle.atspi_script_lines.specs.declared.deed.Deed.TheVariants.{SetCaret, InsertText, DeleteText, SetText, SelectChild, DeselectChild, SelectAll, ClearSelection, DoAction}
use Rattle.atspi_script_lines.specs.declared.line.Party.TheVariants.{Bus as The_bus, Reader}
use Rattle.atspi_message.specs.Envelope.{Envelope}
use Rattle.atspi_match.specs.declared.condition.Condition.{Condition}
use Rattle.atspi_protocol.specs.declared.news.part.PartName.TheVariants.{Text, Caret, Columns}
use Rattle.atspi_protocol.specs.declared.following.question.Question.{Question}
use Rattle.atspi_protocol.specs.declared.following.question.Question.TheVariants.{Hello, AddMatch, RegisterEvent, GetChildren, GetItems, GetPart}
use Rattle.atspi_protocol.specs.following.Calls.{asking, user_call}
use Rattle.atspi_trace.specs.Entry.{Entry, started, sent}
use Rattle.atspi_trace.specs.Rules.{rules_asked, rule_written, cache_rule, event_rule}
use Rattle.atspi_trace.specs.World.{Fate, waits, returned, failed, Asked, here, Role, a_reader, Hearer, Said, Letter, End, World}
use Rattle.atspi_trace.specs.Ends.{is_here, number_of, end_at, with_end, plain, taken_down, reader_count}
use Rattle.atspi_trace.specs.Hearing.{listens, is_listening, is_registered, may_ask}
use Rattle.atspi_trace.specs.Causes.{Done, at_end, asks, reader_sends, first_hearer, reader_starts}
use Rattle.atspi_trace.specs.Due.{asks_as, asks_at}
use Rattle.atspi_trace_laws.specs.laws.Words.{messages, message, with_serial}
use Rattle.atspi_trace_laws.proofs.OfOrder.Parties.{same_some, false_true, party-same, all_append}
use Rattle.atspi_trace_laws.proofs.OfOrder.Allowed.{Asks}
use Rattle.atspi_trace_laws.proofs.OfOrder.Frame.{Over, IsOrder, with_cases, joined_cases}
use Rattle.atspi_trace_laws.proofs.OfOrder.Effects.{ReaderCalls}
use Rattle.atspi_trace_laws.proofs.OfOrder.Shaped.{new_reader}
use Rattle.atspi_trace_laws.proofs.OfOrder.Each.{all_map}
use Rattle.atspi_trace_laws.proofs.OfSerials.Numbers.{Numbered}
use Rattle.atspi_trace_laws.proofs.OfSerials.Serial.{messages_more}
use Rattle.atspi_trace_laws.proofs.OfOwn.Writing.{Lives, lived}
use Rattle.atspi_trace_laws.proofs.OfTaken.Found.{found_more}
use Rattle.atspi_trace_laws.proofs.OfMissed.Ruling.{Has, Removes}

-- WHAT IS KEPT
-- a question asks for this rule
abbrev pub Spells : Question → List Condition → Type 0
Spells (AddMatch text) rule = rule_written (encode_utf8_all text) rules_asked ≡ Some rule
Spells question rule = ⊥

-- the bus has the rule that a call asks for
abbrev pub HasAsked : ℕ → List (ℕ × List Condition) → Asked → Type 0
HasAsked k rules a = (rule : List Condition) → Spells a.question rule → Has k rule rules

abbrev pub Both : ℕ → List (ℕ × List Condition) → Type 0
Both k rules = Has k cache_rule rules × Has k event_rule rules

-- a return of the bus's answers an AddMatch only where the rule is there
abbrev pub ReturnsRule : ℕ → List (ℕ × List Condition) → Hearer → Letter → Type 0
ReturnsRule k rules h letter =
    letter.from ≡ The_bus → letter.said.message.kind ≡ 2 → (n : ℕ) → letter.said.message.reply ≡ Some n → (n < h.next) × AllByRecursion (λ (a : Asked). a.serial ≡ n → HasAsked k rules a) h.asked

pub record RulesOf (es : List Entry) (rules : List (ℕ × List Condition)) (k r : ℕ) (e : End) (h : Hearer) : Type 0 where
  pub hello : message es (Reader r) 1 ≡ Some (asking 1 Hello)
  pub next : 2 ≤ h.next
  pub serials : AllByRecursion (λ (a : Asked). 1 ≤ a.serial) h.asked
  pub plain : AllByRecursion (λ (said : Said). Removes said.message → ⊥) e.up
  pub kept : AllByRecursion (λ (a : Asked). a.fate ≡ returned → HasAsked k rules a) h.asked
  pub letters : AllByRecursion (ReturnsRule k rules h) e.down
  pub items : AllByRecursion (λ (a : Asked). (name : List ℕ) → a.question ≡ GetItems name → Both k rules) h.asked

abbrev pub Ruled : List Entry → World → Type 0
Ruled es w = Lives es → (k r : ℕ) (e : End) (h : Hearer) → end_at w.ends k ≡ Some e → e.who ≡ Reader r → e.role ≡ a_reader h → e.standing ≡ here → RulesOf es w.bus.state.rules k r e h

-- NO READER ACTS
pub record SameIn (e d : End) : Type 0 where
  pub whose : d.who ≡ e.who
  pub same : d.standing ≡ here → (h : Hearer) → d.role ≡ a_reader h → (e.role ≡ a_reader h) × (d.up ≡ e.up) × (d.down ≡ e.down) × (e.standing ≡ here)

pub same_in : IsOrder SameIn
same_in = record {
  same = λ e. record { whose = refl; same = λ on h g. (g, refl, refl, on) };
  both = λ e d c f g. record { whose = g.whose ∙ f.whose; same = λ on h x. let y = g.same on h x in let z = f.same y.3 h y.0 in (z.0, y.1 ∙ z.1, y.2 ∙ z.2, z.3) };
}

abbrev pub is_reader_role : Role → Bool
is_reader_role (a_reader h) = true
is_reader_role role = false

no_reader : (role : Role) (h : Hearer) → is_reader_role role ≡ false → role ≡ a_reader h → ⊥
no_reader role h none is = false_true (sym none ∙ ap is_reader_role is)

-- an end that is no reader's may do anything
pub not_reader : (e d : End) → d.who ≡ e.who → is_reader_role d.role ≡ false → SameIn e d
not_reader e d who none = record { whose = who; same = λ on h g. absurd (no_reader d.role h none g) }

pub gone_in : (e d : End) → d.who ≡ e.who → is_here d.standing ≡ false → SameIn e d
gone_in e d who none = record { whose = who; same = λ on h g. absurd (false_true (sym none ∙ ap is_here on)) }

pub alike : (e d : End) → d.who ≡ e.who → d.role ≡ e.role → d.up ≡ e.up → d.down ≡ e.down → d.standing ≡ e.standing → SameIn e d
alike e d who role up down standing = record { whose = who; same = λ on h g. (sym role ∙ g, up, down, sym standing ∙ on) }

-- more rules and more entries
has_more : (k : ℕ) (rules more : List (ℕ × List Condition)) → ((rule : List Condition) → Has k rule rules → Has k rule more) → (a : Asked) → HasAsked k rules a → HasAsked k more a
has_more k rules more f a h rule s = f rule (h rule s)

pub returns_more : (k : ℕ) (rules more : List (ℕ × List Condition)) (h : Hearer) → ((rule : List Condition) → Has k rule rules → Has k rule more) → (letter : Letter) → ReturnsRule k rules h letter → ReturnsRule k more h letter
returns_more k rules more h f letter x bus two n reply =
    let y = x bus two n reply in
    (y.0, all_map (λ (a : Asked). a.serial ≡ n → HasAsked k rules a) (λ (a : Asked). a.serial ≡ n → HasAsked k more a) h.asked (λ a g same. has_more k rules more f a (g same)) y.1)

pub rules_more : (es ys : List Entry) (rules more : List (ℕ × List Condition)) (k r : ℕ) (e d : End) (h : Hearer) → d.up ≡ e.up → d.down ≡ e.down → ((rule : List Condition) → Has k rule rules → Has k rule more)
    → RulesOf es rules k r e h → RulesOf (es ++ ys) more k r d h
rules_more es ys rules more k r e d h up down f i = record {
  hello = found_more es ys (Reader r) 1 (asking 1 Hello) i.hello;
  next = i.next;
  serials = i.serials;
  plain = subst (AllByRecursion (λ (said : Said). Removes said.message → ⊥)) (sym up) i.plain;
  kept = all_map (λ (a : Asked). a.fate ≡ returned → HasAsked k rules a) (λ (a : Asked). a.fate ≡ returned → HasAsked k more a) h.asked (λ a g fate. has_more k rules more f a (g fate)) i.kept;
  letters = subst (AllByRecursion (ReturnsRule k more h)) (sym down) (all_map (ReturnsRule k rules h) (ReturnsRule k more h) e.down (returns_more k rules more h f) i.letters);
  items = all_map (λ (a : Asked). (name : List ℕ) → a.question ≡ GetItems name → Both k rules) (λ (a : Asked). (name : List ℕ) → a.question ≡ GetItems name → Both k more) h.asked
      (λ a g name q. (f cache_rule (g name q).0, f event_rule (g name q).1)) i.items;
}

same_rules : (rules more : List (ℕ × List Condition)) (k : ℕ) → more ≡ rules → (rule : List Condition) → Has k rule rules → Has k rule more
same_rules rules more k is rule h = subst (Has k rule) (sym is) h

pub quiet_ruled : (es ys : List Entry) (w v : World) → Ruled es w → Over SameIn w.ends v.ends → v.bus.state.rules ≡ w.bus.state.rules → Ruled (es ++ ys) v
quiet_ruled es ys w v i o is live k r d h there who role on =
    let x = o.back k d there in
    let y = x.2.same on h role in
    rules_more es ys w.bus.state.rules v.bus.state.rules k r x.0 d h y.1 y.2 (same_rules w.bus.state.rules v.bus.state.rules k is)
    (i (lived es ys live) k r x.0 h x.1 (sym x.2.whose ∙ who) y.0 y.3)

-- ONE READER ACTS
abbrev pub Changed : World → World → ℕ → End → Type 0
Changed w v conn d = (k : ℕ) (x : End) → end_at v.ends k ≡ Some x → ((k ≡ conn) × (x ≡ d)) ⊎ (end_at w.ends k ≡ Some x)

pub changed_once : (w v : World) (conn : ℕ) (e : End) (f : End → End) → end_at w.ends conn ≡ Some e → v.ends ≡ with_end conn f w.ends → Changed w v conn (f e)
changed_once w v conn e f there is k x h = by (with_cases f w.ends conn k x (ap (λ l. end_at l k) (sym is) ∙ h))
  where
    by : ((y : End) × (end_at w.ends k ≡ Some y) × (((k ≡ conn) × (x ≡ f y)) ⊎ ((k ≡ conn → ⊥) × (x ≡ y)))) → ((k ≡ conn) × (x ≡ f e)) ⊎ (end_at w.ends k ≡ Some x)
    by g = at g.2
      where
        at : (((k ≡ conn) × (x ≡ f g.0)) ⊎ ((k ≡ conn → ⊥) × (x ≡ g.0))) → ((k ≡ conn) × (x ≡ f e)) ⊎ (end_at w.ends k ≡ Some x)
        at (inl c) = inl (c.0, c.1 ∙ ap f (same_some g.0 e (sym g.1 ∙ ap (end_at w.ends) c.0 ∙ there)))
        at (inr c) = inr (g.1 ∙ ap Some (sym c.1))

pub changed_twice : (w v : World) (conn : ℕ) (e : End) (f : End → End) → end_at w.ends conn ≡ Some e → v.ends ≡ with_end conn f (with_end conn taken_down w.ends) → Changed w v conn (f (taken_down e))
changed_twice w v conn e f there is k x h = by (with_cases f (with_end conn taken_down w.ends) conn k x (ap (λ l. end_at l k) (sym is) ∙ h))
  where
    by : ((y : End) × (end_at (with_end conn taken_down w.ends) k ≡ Some y) × (((k ≡ conn) × (x ≡ f y)) ⊎ ((k ≡ conn → ⊥) × (x ≡ y)))) → ((k ≡ conn) × (x ≡ f (taken_down e))) ⊎ (end_at w.ends k ≡ Some x)
    by g = at g.2 (with_cases taken_down w.ends conn k g.0 g.1)
      where
        at : (((k ≡ conn) × (x ≡ f g.0)) ⊎ ((k ≡ conn → ⊥) × (x ≡ g.0))) → ((z : End) × (end_at w.ends k ≡ Some z) × (((k ≡ conn) × (g.0 ≡ taken_down z)) ⊎ ((k ≡ conn → ⊥) × (g.0 ≡ z))))
            → ((k ≡ conn) × (x ≡ f (taken_down e))) ⊎ (end_at w.ends k ≡ Some x)
        at (inl c) z = inl (c.0, c.1 ∙ ap f (inner z.2))
          where
            inner : (((k ≡ conn) × (g.0 ≡ taken_down z.0)) ⊎ ((k ≡ conn → ⊥) × (g.0 ≡ z.0))) → g.0 ≡ taken_down e
            inner (inl d) = d.1 ∙ ap taken_down (same_some z.0 e (sym z.1 ∙ ap (end_at w.ends) c.0 ∙ there))
            inner (inr d) = absurd (d.0 c.0)
        at (inr c) z = inner z.2
          where
            inner : (((k ≡ conn) × (g.0 ≡ taken_down z.0)) ⊎ ((k ≡ conn → ⊥) × (g.0 ≡ z.0))) → ((k ≡ conn) × (x ≡ f (taken_down e))) ⊎ (end_at w.ends k ≡ Some x)
            inner (inl d) = absurd (c.0 d.0)
            inner (inr d) = inr (z.1 ∙ ap Some (sym (c.1 ∙ d.1)))

abbrev hearer_in : Role → Hearer → Hearer
hearer_in (a_reader h) g = h
hearer_in role g = g

same_hearer : (h g : Hearer) → a_reader h ≡ a_reader g → h ≡ g
same_hearer h g e = ap (λ r. hearer_in r h) e

pub one_ruled : (es ys : List Entry) (w v : World) (conn r : ℕ) (d : End) (g : Hearer) → Ruled es w → Changed w v conn d → v.bus.state.rules ≡ w.bus.state.rules → d.who ≡ Reader r → d.role ≡ a_reader g
    → (Lives es → d.standing ≡ here → RulesOf (es ++ ys) w.bus.state.rules conn r d g) → Ruled (es ++ ys) v
one_ruled es ys w v conn r d g i c is who role now live k q x h there whose_ role_ on = by (c k x there)
  where
    by : ((k ≡ conn) × (x ≡ d)) ⊎ (end_at w.ends k ≡ Some x) → RulesOf (es ++ ys) v.bus.state.rules k q x h
    by (inl y) =
        let number : r ≡ q = ap number_of (sym who ∙ ap (λ (t : End). t.who) (sym y.1) ∙ whose_) in
        let state : g ≡ h = same_hearer g h (sym role ∙ ap (λ (t : End). t.role) (sym y.1) ∙ role_) in
        let on_d : d.standing ≡ here = ap (λ (t : End). t.standing) (sym y.1) ∙ on in
        subst (λ rules. RulesOf (es ++ ys) rules k q x h) (sym is)
        (subst (λ n. RulesOf (es ++ ys) w.bus.state.rules n q x h) (sym y.0)
        (subst (λ t. RulesOf (es ++ ys) w.bus.state.rules conn q t h) (sym y.1)
        (subst (λ n. RulesOf (es ++ ys) w.bus.state.rules conn n d h) number (subst (RulesOf (es ++ ys) w.bus.state.rules conn r d) state (now (lived es ys live) on_d)))))
    by (inr y) = rules_more es ys w.bus.state.rules v.bus.state.rules k q x x h refl refl (same_rules w.bus.state.rules v.bus.state.rules k is) (i (lived es ys live) k q x h y whose_ role_ on)

-- a user's call
user_removes : (serial : ℕ) (name : List ℕ) (node : ℕ) (deed : Deed) → Removes (user_call serial name node deed) → ⊥
user_removes serial name node (SetCaret at) h = false_true h
user_removes serial name node (InsertText at text) h = false_true h
user_removes serial name node (DeleteText from to) h = false_true h
user_removes serial name node (SetText text) h = false_true h
user_removes serial name node (SelectChild index) h = false_true h
user_removes serial name node (DeselectChild index) h = false_true h
user_removes serial name node SelectAll h = false_true h
user_removes serial name node ClearSelection h = false_true h
user_removes serial name node (DoAction index) h = false_true h

more_next : (k : ℕ) (rules : List (ℕ × List Condition)) (h g : Hearer) → h.next ≤ g.next → g.asked ≡ h.asked → (letter : Letter) → ReturnsRule k rules h letter → ReturnsRule k rules g letter
more_next k rules h g more same letter x bus two n reply =
    let y = x bus two n reply in
    let less : n < h.next = y.0 in
    (omega (arith, less, more), subst (AllByRecursion (λ (a : Asked). a.serial ≡ n → HasAsked k rules a)) (sym same) y.1)

pub calls_ruled : (es : List Entry) (w : World) (d : Done) → Ruled es w → ReaderCalls w d → Ruled (es ++ d.entries) d.world
calls_ruled es w d i b =
    let m : Envelope = user_call b.hearer.next b.name b.node b.deed in
    let g : Hearer = record b.hearer { next = suc b.hearer.next } in
    let f : End → End = reader_sends g m in
    one_ruled es d.entries w d.world b.conn b.reader (f b.e) g i (changed_once w d.world b.conn b.e f b.is_here.there (ap (λ x. x.world.ends) b.is)) (ap (λ x. x.world.bus.state.rules) b.is) b.whose refl
    (λ live on.
    let old : RulesOf es w.bus.state.rules b.conn b.reader b.e b.hearer = i live b.conn b.reader b.e b.hearer b.is_here.there b.whose b.role b.is_here.standing in
    record {
      hello = found_more es d.entries (Reader b.reader) 1 (asking 1 Hello) old.hello;
      next = higher b.hearer.next old.next;
      serials = old.serials;
      plain = all_append (λ (said : Said). Removes said.message → ⊥) b.e.up (plain m ∷ []) old.plain (user_removes b.hearer.next b.name b.node b.deed, tt);
      kept = old.kept;
      letters = all_map (ReturnsRule b.conn w.bus.state.rules b.hearer) (ReturnsRule b.conn w.bus.state.rules g) b.e.down (more_next b.conn w.bus.state.rules b.hearer g (least b.hearer.next) refl) old.letters;
      items = old.items;
    })
  where
    higher : (n : ℕ) → 2 ≤ n → 2 ≤ suc n
    higher n h = omega (arith, h)

    least : (n : ℕ) → n ≤ suc n
    least n = omega arith

-- AN OWN CALL
own_removes : (serial : ℕ) (q : Question) → Removes (asking serial q) → ⊥
own_removes serial Hello h = false_true h
own_removes serial (AddMatch text) h = false_true h
own_removes serial (RegisterEvent pattern) h = false_true h
own_removes serial GetChildren h = false_true h
own_removes serial (GetItems name) h = false_true h
own_removes serial (GetPart name path Text) h = false_true h
own_removes serial (GetPart name path Caret) h = false_true h
own_removes serial (GetPart name path Columns) h = false_true h

abbrev is_waiting : Fate → Bool
is_waiting waits = true
is_waiting fate = false

not_yet : waits ≡ returned → ⊥
not_yet h = false_true (sym (ap is_waiting h))

-- whose rule was returned
listened : (k : ℕ) (rules : List (ℕ × List Condition)) (text : List ℕ) (rule : List Condition) (xs : List Asked) → rule_written (encode_utf8_all text) rules_asked ≡ Some rule
    → AllByRecursion (λ (a : Asked). a.fate ≡ returned → HasAsked k rules a) xs → list_any (λ (a : Asked). listens text a.question a.fate) xs ≡ true → Has k rule rules
listened k rules text rule [] spelled a h = absurd (false_true h)
listened k rules text rule (x ∷ xs) spelled a h = by (listens text x.question x.fate) refl h (λ g. listened k rules text rule xs spelled a.1 g)
  where
    found : (q : Question) (f : Fate) → listens text q f ≡ true → (q ≡ AddMatch text) × (f ≡ returned)
    found (AddMatch other) returned g = (ap AddMatch ((bytes_eq-Decides other text).0 g), refl)
    found (AddMatch other) waits g = absurd (false_true g)
    found (AddMatch other) failed g = absurd (false_true g)
    found Hello f g = absurd (false_true g)
    found (RegisterEvent pattern) f g = absurd (false_true g)
    found GetChildren f g = absurd (false_true g)
    found (GetItems name) f g = absurd (false_true g)
    found (GetPart name path part) f g = absurd (false_true g)

    by : (b : Bool) → listens text x.question x.fate ≡ b → (b || list_any (λ (y : Asked). listens text y.question y.fate) xs) ≡ true → (list_any (λ (y : Asked). listens text y.question y.fate) xs ≡ true → Has k rule rules) → Has k rule rules
    by true g z ih = let y = found x.question x.fate g in a.0 y.1 rule (subst (λ q. Spells q rule) (sym y.0) spelled)
    by false g z ih = ih z

cache_text : List ℕ
cache_text = codes "type='signal',interface='org.a11y.atspi.Cache'"

event_text : List ℕ
event_text = codes "type='signal',interface='org.a11y.atspi.Event.Object'"

cache_spelled : rule_written (encode_utf8_all (codes "type='signal',interface='org.a11y.atspi.Cache'")) rules_asked ≡ Some cache_rule
unfolding encode
cache_spelled = refl

event_spelled : rule_written (encode_utf8_all (codes "type='signal',interface='org.a11y.atspi.Event.Object'")) rules_asked ≡ Some event_rule
unfolding encode
event_spelled = refl

and_left : (a b : Bool) → (a && b) ≡ true → a ≡ true
and_left true b h = refl
and_left false b h = absurd (false_true h)

and_right : (a b : Bool) → (a && b) ≡ true → b ≡ true
and_right true b h = h
and_right false b h = absurd (false_true h)

abbrev any_of : List Asked → List ℕ → Bool
any_of xs text = list_any (λ (a : Asked). listens text a.question a.fate) xs

both_listened : (k : ℕ) (rules : List (ℕ × List Condition)) (xs : List Asked) → AllByRecursion (λ (a : Asked). a.fate ≡ returned → HasAsked k rules a) xs → is_listening xs ≡ true → Both k rules
both_listened k rules xs a h = (listened k rules (codes "type='signal',interface='org.a11y.atspi.Cache'") cache_rule xs cache_spelled a cache_, listened k rules (codes "type='signal',interface='org.a11y.atspi.Event.Object'") event_rule xs event_spelled a event_)
  where
    owner_ : Bool
    owner_ = any_of xs (codes "type='signal',interface='org.freedesktop.DBus',member='NameOwnerChanged'")

    rest : (any_of xs (codes "type='signal',interface='org.a11y.atspi.Cache'") && (any_of xs (codes "type='signal',interface='org.a11y.atspi.Event.Object'") && true)) ≡ true
    rest = and_right owner_ _ h

    cache_ : any_of xs (codes "type='signal',interface='org.a11y.atspi.Cache'") ≡ true
    cache_ = and_left (any_of xs (codes "type='signal',interface='org.a11y.atspi.Cache'")) _ rest

    event_ : any_of xs (codes "type='signal',interface='org.a11y.atspi.Event.Object'") ≡ true
    event_ = and_left (any_of xs (codes "type='signal',interface='org.a11y.atspi.Event.Object'")) _ (and_right (any_of xs (codes "type='signal',interface='org.a11y.atspi.Cache'")) _ rest)

pub asks_ruled : (es : List Entry) (w : World) (conn r : ℕ) (m : Envelope) (question : Question) → Ruled es w → Asks w conn r m question → Ruled (es ++ sent (Reader r) m ∷ []) (at_end w conn (asks_at m question))
asks_ruled es w conn r m question i b =
    one_ruled es (sent (Reader r) m ∷ []) w (at_end w conn (asks_at m question)) conn r d g i
    (λ k x h. subst (λ z. ((k ≡ conn) × (x ≡ z)) ⊎ (end_at w.ends k ≡ Some x)) is_f (changed_once w (at_end w conn (asks_at m question)) conn b.asker (asks_at m question) b.is_here.there refl k x h)) refl b.whose refl
    (λ live on. now (i live conn r b.asker b.hearer b.is_here.there b.whose b.reader b.is_here.standing))
  where
    g : Hearer
    g = asks question b.hearer

    d : End
    d = reader_sends g m b.asker

    is_f : asks_at m question b.asker ≡ d
    is_f = ap (λ x. asks_as x m question b.asker) b.reader

    new : Asked
    new = record { serial = b.hearer.next; question = question; fate = waits }

    rules : List (ℕ × List Condition)
    rules = w.bus.state.rules

    higher : (n : ℕ) → 2 ≤ n → 2 ≤ suc n
    higher n h = omega (arith, h)

    one : (n : ℕ) → 2 ≤ n → 1 ≤ n
    one n h = omega (arith, h)

    later : (letter : Letter) → ReturnsRule conn rules b.hearer letter → ReturnsRule conn rules g letter
    later letter x bus two n reply =
        let y = x bus two n reply in
        let less : n < b.hearer.next = y.0 in
        (omega (arith, less), all_append (λ (a : Asked). a.serial ≡ n → HasAsked conn rules a) b.hearer.asked (new ∷ []) y.1 ((λ same. absurd (omega (arith, less, same))), tt))

    now : RulesOf es rules conn r b.asker b.hearer → RulesOf (es ++ sent (Reader r) m ∷ []) rules conn r d g
    now old = record {
      hello = found_more es (sent (Reader r) m ∷ []) (Reader r) 1 (asking 1 Hello) old.hello;
      next = higher b.hearer.next old.next;
      serials = all_append (λ (a : Asked). 1 ≤ a.serial) b.hearer.asked (new ∷ []) old.serials (one b.hearer.next old.next, tt);
      plain = all_append (λ (said : Said). Removes said.message → ⊥) b.asker.up (plain m ∷ []) old.plain (subst (λ z. Removes z → ⊥) (sym b.spelled) (own_removes b.hearer.next question), tt);
      kept = all_append (λ (a : Asked). a.fate ≡ returned → HasAsked conn rules a) b.hearer.asked (new ∷ []) old.kept ((λ h. absurd (not_yet h)), tt);
      letters = all_map (ReturnsRule conn rules b.hearer) (ReturnsRule conn rules g) b.asker.down later old.letters;
      items = all_append (λ (a : Asked). (name : List ℕ) → a.question ≡ GetItems name → Both conn rules) b.hearer.asked (new ∷ []) old.items ((λ name q. both_listened conn rules b.hearer.asked old.kept (may name q)), tt);
    }
      where
        may : (name : List ℕ) → question ≡ GetItems name → is_listening b.hearer.asked ≡ true
        may name q =
            and_left (is_listening b.hearer.asked) (is_registered b.hearer.asked && list_any (bytes_eq name) b.hearer.named)
            (and_right (is_bus_name name) (is_listening b.hearer.asked && (is_registered b.hearer.asked && list_any (bytes_eq name) b.hearer.named)) (ap (may_ask b.hearer) (sym q) ∙ b.allowed))

-- A READER STARTS
pub joins_ruled : (es : List Entry) (w : World) (d : Done) → Numbered es w → Ruled es w → d ≡ reader_starts w → Ruled (es ++ d.entries) d.world
joins_ruled es w d m i is live k r e h there who role on = by (joined_cases w.ends (new_reader w) k e (ap (λ l. end_at l k) (sym (ap (λ x. x.world.ends) is)) ∙ there))
  where
    n : ℕ
    n = reader_count w.ends

    ys : List Entry
    ys = started (Reader n) None ∷ (sent (Reader n) (asking 1 Hello) ∷ [])

    least : (k : ℕ) → k ≤ k
    least k = omega arith

    all : messages (es ++ ys) (Reader n) ≡ asking 1 Hello ∷ []
    all =
        messages_more es ys (Reader n) ∙ ap (λ l. l ++ messages ys (Reader n)) (m.2 (Reader n) (least n))
        ∙ ap (λ b. cons_option (if b then Some (asking 1 Hello) else None) []) (party-same (Reader n))

    two : 2 ≤ 2
    two = omega arith

    one : 1 ≤ 1
    one = omega arith

    mine : RulesOf (es ++ ys) d.world.bus.state.rules k n (new_reader w) (asks Hello first_hearer)
    mine = record {
      hello = ap (with_serial 1) all;
      next = two;
      serials = (one, tt);
      plain = (own_removes 1 Hello, tt);
      kept = ((λ f. absurd (not_yet f)), tt);
      letters = tt;
      items = ((λ name q. absurd (no_items q)), tt);
    }
      where
        is_items : Question → Bool
        is_items (GetItems name) = true
        is_items q = false

        no_items : {name : List ℕ} → Hello ≡ GetItems name → ⊥
        no_items q = false_true (ap is_items q)

    by : (end_at w.ends k ≡ Some e) ⊎ ((k ≡ length w.ends) × (e ≡ new_reader w)) → RulesOf (es ++ d.entries) d.world.bus.state.rules k r e h
    by (inl g) = rules_more es d.entries w.bus.state.rules d.world.bus.state.rules k r e e h refl refl (same_rules w.bus.state.rules d.world.bus.state.rules k (ap (λ x. x.world.bus.state.rules) is)) (i (lived es d.entries live) k r e h g who role on)
    by (inr g) =
        let number : n ≡ r = ap number_of (ap (λ (x : End). x.who) (sym g.1) ∙ who) in
        let state : asks Hello first_hearer ≡ h = same_hearer (asks Hello first_hearer) h (ap (λ (x : End). x.role) (sym g.1) ∙ role) in
        subst (λ l. RulesOf (es ++ l) d.world.bus.state.rules k r e h) (sym (ap (λ x. x.entries) is))
        (subst (λ x. RulesOf (es ++ ys) d.world.bus.state.rules k r x h) (sym g.1)
        (subst (λ q. RulesOf (es ++ ys) d.world.bus.state.rules k q (new_reader w) h) number (subst (RulesOf (es ++ ys) d.world.bus.state.rules k n (new_reader w)) state mine)))
