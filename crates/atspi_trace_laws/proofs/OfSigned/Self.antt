-- What an application knows of itself: its own unique name and no other, and who listens only once it knows it.
use Rattle.std.proofs.Common.{◌≡◌, ◌⊎◌, inl, inr, ℕ, suc, ◌+◌, ◌≤◌, ◌<◌, Bool, true, false, List, [], ◌∷◌, ◌++◌, length, Option, None, Some, refl, sym, ap, ap₂, ◌∙◌, subst, arith, is_some}
use Rattle.std.specs.Prelude.{◌==◌, ◌&&◌, ◌||◌, ◌^◌, codes, option_map, if◌then◌else◌, Result, Ok, Err}
use Rattle.std.specs.List.{cons_option}
use Rattle.std.proofs.lemmas.Bool.{eqb-true}
use Rattle.std.proofs.lemmas.Slice.Eq.{bytes_eq-Decides}
use Rattle.std.proofs.lemmas.Fmt.{decimal_is_IsNumeral}
use Rattle.std.specs.Fmt.{decimal}
use Rattle.std.specs.Str.Parse.{digits_value}
use Rattle.atspi_types.specs.Data.{text_data}
use Rattle.atspi_base.specs.valid_names.Names.{is_unique_name, is_bus_name}
use Rattle.atspi_tree_model.specs.declared.edit.Edit.{Edit}
use Rattle.atspi_tree_model.specs.declared.edit.EditFault.{EditFault}
use Rattle.atspi_tree_model.specs.declared.step.Step.{Step}
use Rattle.atspi_tree_model.specs.Edits.{steps_of_tree}
use Rattle.atspi_script_lines.specs.declared.line.Party.{Party}
use Rattle.atspi_script_lines.specs.declared.line.Party.TheVariants.{Registry, App, Reader}
use Rattle.atspi_message.specs.Envelope.{Envelope}
use Rattle.atspi_names.specs.Owners.{own_name, unique_name}
use Rattle.atspi_match.specs.routing.Routing.{is_for_bus}
use Rattle.atspi_protocol.specs.declared.following.question.Question.{Question}
use Rattle.atspi_protocol.specs.exporting.Exporter.{StartCall, hello, add_match, get_registered_events, embed, Phase, new, awaits, over, Exporter, begins as begins_app, queues}
use Rattle.atspi_protocol.specs.exporting.Hearing.{pairs_in}
use Rattle.atspi_protocol.specs.exporting.Telling.{steps_told}
use Rattle.atspi_protocol.specs.exporting.Starting.{starts, awaited, is_number, goes_on, greeted as greeted_by, listened, ends_start, unique_name_in, name_or_empty, start_call}
use Rattle.atspi_protocol.specs.exporting.Taking.{app_takes, app_edits, stepped, takes_other, takes_call, takes_signal, called}
use Rattle.atspi_trace.specs.Entry.{Entry, started, sent}
use Rattle.atspi_trace.specs.World.{an_application, Letter, newcomer, first_world, End, World}
use Rattle.atspi_trace.specs.Ends.{is_app, same_party, number_of, whose, end_at, with_end, put_up, taken_down, app_count}
use Rattle.atspi_trace.specs.Causes.{Done, at_end, has_done, app_starts, reader_starts}
use Rattle.atspi_trace.specs.Due.{asks_at}
use Rattle.atspi_trace_laws.specs.laws.Words.{messages, message, with_serial}
use Rattle.atspi_trace_laws.proofs.OfOrder.Parties.{no_none, same_some, party-same, false_true}
use Rattle.atspi_trace_laws.proofs.OfOrder.Allowed.{IsHere, MovedUp, MovedDown, Asks}
use Rattle.atspi_trace_laws.proofs.OfOrder.Frame.{Over, over_same, over_with, over_at, with_cases, joined_cases}
use Rattle.atspi_trace_laws.proofs.OfOrder.Effects.{AppEdits, AppTakes, Effect, resets, app_joins, reader_joins, app_edited, app_took, reader_called, swapped, exited_, showed_, told_busy, told_quiet, bus_took, bus_ended, registry_took, reader_took}
use Rattle.atspi_trace_laws.proofs.OfOrder.Shaped.{received_at, new_app, new_reader, app_joined}
use Rattle.atspi_trace_laws.proofs.OfOrder.Acts.{last_at}
use Rattle.atspi_trace_laws.proofs.OfSteps.Steps.{SameApp, same_app, same_app_of}
use Rattle.atspi_trace_laws.proofs.OfSteps.Stepping.{bus_took_still, bus_ended_still, called_still, stopping_still, registry_still, up_moved_same, down_moved_same}
use Rattle.atspi_trace_laws.proofs.OfSerials.Serial.{messages_more}
use Rattle.atspi_trace_laws.proofs.OfSerials.Numbers.{Numbered}
use Rattle.atspi_trace_laws.proofs.OfHeard.LawHeard.{reader_took_ends, no_app_first, asks_same, down_same, same_ends}
use Rattle.atspi_trace_laws.proofs.OfTaken.Found.{found_more}
use Rattle.atspi_trace_laws.proofs.OfNames.Places.{first_at, first_below, greeted, name_told, names_differ}
use Rattle.atspi_trace_laws.proofs.OfSigned.Mail.{NameIs, told_more, IsCallOf, IsAnswer, IsMail}

-- NAMES TELL PARTIES APART
pub unique_told : (es : List Entry) (who : Party) (name : List ℕ) → NameIs es who name → is_unique_name name ≡ true
unique_told es who name (inl r) = ap is_unique_name r.1
unique_told es who name (inr h) = by (first_at (same_party who) (greeted es)) h
  where
    by : (o : Option ℕ) → option_map (λ n. unique_name (suc n)) o ≡ Some name → is_unique_name name ≡ true
    by None g = absurd (no_none name g)
    by (Some i) g = ap is_unique_name (sym (same_some (unique_name (suc i)) name g))

small : (i n : ℕ) → i < n → n ≤ 1000 → suc i < 2 ^ 32
small i n a b = omega (arith, a, b)

abbrev digits_behind : List ℕ → List ℕ
digits_behind (a ∷ (b ∷ (c ∷ ds))) = ds
digits_behind ds = ds

none_is_first : (es : List Entry) (who : Party) (name : List ℕ) → length (greeted es) ≤ 1000 → name_told es who ≡ Some name → name ≡ codes ":1.0" → ⊥
none_is_first es who name few h first = by (first_at (same_party who) (greeted es)) refl h
  where
    wide : (i : ℕ) → suc i < 2 ^ 32 → suc i < 2 ^ 64
    wide i l = omega (arith, l)

    by : (o : Option ℕ) → first_at (same_party who) (greeted es) ≡ o → option_map (λ n. unique_name (suc n)) o ≡ Some name → ⊥
    by None g k = no_none name k
    by (Some i) g k =
        let digits : decimal (suc i) ≡ 48 ∷ [] = ap digits_behind (same_some (unique_name (suc i)) name k ∙ first) in
        let value : digits_value 10 (decimal (suc i)) ≡ suc i = (decimal_is_IsNumeral (suc i) (wide i (small i (length (greeted es)) (first_below (same_party who) (greeted es) i g) few))).1 in
        let zero_ : 0 ≡ suc i = ap (digits_value 10) (sym digits) ∙ value in
        absurd (omega (arith, zero_))

pub one_named : (es : List Entry) (p q : Party) (name : List ℕ) → length (greeted es) ≤ 1000 → NameIs es p name → NameIs es q name → p ≡ q
one_named es p q name few (inl a) (inl b) = a.0 ∙ sym b.0
one_named es p q name few (inl a) (inr b) = absurd (none_is_first es q name few b a.1)
one_named es p q name few (inr a) (inl b) = absurd (none_is_first es p name few a b.1)
one_named es p q name few (inr a) (inr b) = names_differ es p q name few a b

no_registry : (a : ℕ) → App a ≡ Registry → ⊥
no_registry a h = false_true (ap (λ p. same_party p Registry) h)

pub app_name : (es : List Entry) (a : ℕ) (name : List ℕ) → NameIs es (App a) name → name_told es (App a) ≡ Some name
app_name es a name (inl r) = absurd (no_registry a r.0)
app_name es a name (inr h) = h

-- WHAT AN APPLICATION KNOWS OF ITSELF
abbrev pub InStart : Phase → Option (List ℕ) → Type 0
InStart (awaits hello serial) name = serial ≡ 1
InStart (awaits call serial) name = is_some name ≡ true
InStart phase name = Unit {0}

-- its first message is for the bus
pub record IsHello (es : List Entry) (a : ℕ) : Type 0 where
  pub first : Envelope
  pub was : message es (App a) 1 ≡ Some first
  pub for_bus : first.destination ≡ Some own_name

pub record IsSelf (es : List Entry) (a : ℕ) (s : Exporter) : Type 0 where
  pub deaf_ : s.name ≡ None → s.heard ≡ []
  pub told : (name : List ℕ) → s.name ≡ Some name → name_told es (App a) ≡ Some name
  pub start : InStart s.phase s.name
  pub greeting : IsHello es a

hello_more : (es ys : List Entry) (a : ℕ) → IsHello es a → IsHello (es ++ ys) a
hello_more es ys a h = record { first = h.first; was = found_more es ys (App a) 1 h.first h.was; for_bus = h.for_bus }

pub self_more : (es ys : List Entry) (a : ℕ) (s : Exporter) → IsSelf es a s → IsSelf (es ++ ys) a s
self_more es ys a s i = record { deaf_ = i.deaf_; told = λ n h. told_more es ys (App a) n (i.told n h); start = i.start; greeting = hello_more es ys a i.greeting }

-- THE RETURN TO ITS HELLO is the bus's, and tells its name
pub for_bus_true : (m : Envelope) → m.destination ≡ Some own_name → is_for_bus m ≡ true
for_bus_true m h = rw h ((bytes_eq-Decides own_name own_name).1 refl)

greeting_told : (es : List Entry) (a : ℕ) (letter : Letter) → length (greeted es) ≤ 1000 → IsHello es a → IsMail es (App a) letter → letter.said.message.kind ≡ 2 → letter.said.message.reply ≡ Some 1 → (name : List ℕ) → unique_name_in letter.said.message.body ≡ Some name
    → name_told es (App a) ≡ Some name
greeting_told es a letter few hello_ (inl b) two one name body =
    let g = b.greets two one in
    let same : g.0 ≡ name = in_body g.0 (sym (ap unique_name_in g.1) ∙ body) in
    app_name es a g.0 g.2 ∙ ap Some same
  where
    in_body : (n : List ℕ) → unique_name_in (text_data n ∷ []) ≡ Some name → n ≡ name
    in_body n h = by (is_unique_name n && is_bus_name n) h
      where
        by : (t : Bool) → (if t then Some n else None) ≡ Some name → n ≡ name
        by true q = same_some n name q
        by false q = absurd (no_none name q)
greeting_told es a letter few hello_ (inr p) two one name body = absurd (by answer.called.known)
  where
    is_it : letter.said.message ≡ record p.first.message { sender = Some p.caller }
    is_it = ap (λ z. z.message) p.alike

    answer : IsAnswer es letter.from p.first
    answer = p.speech.answers (ap (λ n. n == 2 || n == 3) (sym (ap (λ (m : Envelope). m.kind) is_it) ∙ two))

    serial : answer.call.serial ≡ 1
    serial = same_some answer.call.serial 1 (sym answer.with_ ∙ sym (ap (λ (m : Envelope). m.reply) is_it) ∙ one)

    goes : letter.said.message.destination ≡ Some answer.called.caller
    goes = ap (λ (m : Envelope). m.destination) is_it ∙ answer.to

    by : (answer.called.caller ≡ own_name) ⊎ IsCallOf es answer.called.from answer.called.caller answer.call → ⊥
    by (inl own) = false_true (sym p.not_bus ∙ for_bus_true letter.said.message (goes ∙ ap Some own))
    by (inr c) =
        let mine : NameIs es (App a) answer.called.caller = p.routed answer.called.caller goes (unique_told es answer.called.from answer.called.caller c.name) in
        let who : answer.called.from ≡ App a = one_named es answer.called.from (App a) answer.called.caller few c.name mine in
        let same : c.first ≡ hello_.first = same_some c.first hello_.first (sym c.was ∙ ap₂ (message es) who serial ∙ hello_.was) in
        false_true (sym c.not_bus ∙ for_bus_true answer.call (ap (λ (m : Envelope). m.destination) c.alike ∙ ap (λ (m : Envelope). m.destination) same ∙ hello_.for_bus))

-- A MESSAGE
module _ (es : List Entry) (a : ℕ) (s : Exporter) (e : Envelope) (i : IsSelf es a s) (greets : e.kind ≡ 2 → e.reply ≡ Some 1 → (name : List ℕ) → unique_name_in e.body ≡ Some name → name_told es (App a) ≡ Some name) where
  ends_self : IsSelf es a (ends_start s)
  ends_self = record { deaf_ = i.deaf_; told = i.told; start = tt; greeting = i.greeting }

  called_self : (name caller : List ℕ) → IsSelf es a (called s name caller e)
  called_self name caller = record { deaf_ = i.deaf_; told = i.told; start = i.start; greeting = i.greeting }

  call_self : (name : List ℕ) (o : Option (List ℕ)) → e.sender ≡ o → IsSelf es a (takes_call s name e)
  call_self name None h = rw h i
  call_self name (Some caller) h = rw h (called_self name caller)

  signal_self : (b : Bool) (name : List ℕ) → s.name ≡ Some name → IsSelf es a (if b then takes_signal s e else s)
  signal_self true name mine = record { deaf_ = λ none. absurd (no_none name (sym none ∙ mine)); told = i.told; start = i.start; greeting = i.greeting }
  signal_self false name mine = i

  named_self : (b : Bool) (name : List ℕ) → s.name ≡ Some name → IsSelf es a (if b then takes_call s name e else if e.kind == 4 then takes_signal s e else s)
  named_self true name mine = call_self name e.sender refl
  named_self false name mine = signal_self (e.kind == 4) name mine

  other_self : (o : Option (List ℕ)) → s.name ≡ o → IsSelf es a (takes_other s o e)
  other_self None mine = i
  other_self (Some name) mine = named_self (e.kind == 1) name mine

  -- the start goes on
  greeted_self : (o : Option (List ℕ)) → unique_name_in e.body ≡ o → e.kind ≡ 2 → e.reply ≡ Some 1 → IsSelf es a (greeted_by s o)
  greeted_self None h two one = ends_self
  greeted_self (Some name) h two one = record {
    deaf_ = λ none. absurd (no_none name (sym none));
    told = λ n k. greets two one name h ∙ k;
    start = refl;
    greeting = i.greeting;
  }

  listened_self : (name : List ℕ) → s.name ≡ Some name → (o : Option (List (List ℕ × List ℕ))) → IsSelf es a (listened s o)
  listened_self name mine None = ends_self
  listened_self name mine (Some listed) =
      record { deaf_ = λ none. absurd (no_none name (sym none ∙ mine)); told = i.told; start = ap is_some mine; greeting = i.greeting }

  has_name : (o : Option (List ℕ)) → is_some o ≡ true → (name : List ℕ) × (o ≡ Some name)
  has_name None h = absurd (false_true h)
  has_name (Some name) h = (name, refl)

  goes_self : (call : StartCall) (serial : ℕ) → InStart (awaits call serial) s.name → e.kind ≡ 2 → e.reply ≡ Some serial → IsSelf es a (goes_on s call e.body)
  goes_self hello serial at two reply = greeted_self (unique_name_in e.body) refl two (reply ∙ ap Some at)
  goes_self add_match serial at two reply = record { deaf_ = i.deaf_; told = i.told; start = at; greeting = i.greeting }
  goes_self get_registered_events serial at two reply = let n = has_name s.name at in listened_self n.0 n.1 (pairs_in e.body)
  goes_self embed serial at two reply = ends_self

  numbered_reply : (o : Option ℕ) (serial : ℕ) → is_number o serial ≡ true → o ≡ Some serial
  numbered_reply None serial h = absurd (false_true h)
  numbered_reply (Some m) serial h = ap Some (eqb-true m serial h)

  pub takes_self : IsSelf es a (app_takes s e)
  takes_self = by (awaited s.phase e) refl
    where
      two_by : (b : Bool) → (e.kind == 2) ≡ b → (call : StartCall) (serial : ℕ) → InStart (awaits call serial) s.name → e.reply ≡ Some serial → IsSelf es a (if b then goes_on s call e.body else ends_start s)
      two_by true h call serial at reply = goes_self call serial at (eqb-true e.kind 2 h) reply
      two_by false h call serial at reply = ends_self

      waiting : (p : Phase) (call : StartCall) → s.phase ≡ p → awaited p e ≡ Some call → (serial : ℕ) × InStart (awaits call serial) s.name × (e.reply ≡ Some serial)
      waiting new call h g = absurd (no_none call g)
      waiting over call h g = absurd (no_none call g)
      waiting (awaits other serial) call h g = at ((e.kind == 2 || e.kind == 3) && is_number e.reply serial) refl g
        where
          right : (x y : Bool) → (x && y) ≡ true → y ≡ true
          right true y q = q
          right false y q = absurd (false_true q)

          at : (b : Bool) → ((e.kind == 2 || e.kind == 3) && is_number e.reply serial) ≡ b → (if b then Some other else None) ≡ Some call → (n : ℕ) × InStart (awaits call n) s.name × (e.reply ≡ Some n)
          at true q r =
              (serial, subst (λ c. InStart (awaits c serial) s.name) (same_some other call r) (subst (λ z. InStart z s.name) h i.start), numbered_reply e.reply serial (right (e.kind == 2 || e.kind == 3) (is_number e.reply serial) q))
          at false q r = absurd (no_none call r)

      by : (o : Option StartCall) → awaited s.phase e ≡ o → IsSelf es a (app_takes s e)
      by None h = rw h (other_self s.name refl)
      by (Some call) h = let x = waiting s.phase call refl h in rw h (two_by (e.kind == 2) refl call x.0 x.1 x.2)

-- AN EDIT changes neither name nor pairs nor phase
abbrev result : Exporter → Result (List Step) EditFault → Result Exporter EditFault
result s (Ok ss) = Ok (queues (stepped s ss) (steps_told s.heard (name_or_empty s.name) s.tree ss))
result s (Err fault) = Err fault

abbrev ok_or : Exporter → Result Exporter EditFault → Exporter
ok_or s (Ok u) = u
ok_or s (Err fault) = s

edit_self : (es : List Entry) (a : ℕ) (s t : Exporter) (edit : Edit) → app_edits s edit ≡ Ok t → IsSelf es a s → IsSelf es a t
edit_self es a s t edit h i = by (steps_of_tree s.tree s.added edit) refl h
  where
    by : (r : Result (List Step) EditFault) → steps_of_tree s.tree s.added edit ≡ r → app_edits s edit ≡ Ok t → IsSelf es a t
    by (Ok ss) e g =
        let same : app_edits s edit ≡ result s (Ok ss) = rw e refl in
        subst (IsSelf es a) (ap (ok_or s) (sym same ∙ g)) (record { deaf_ = i.deaf_; told = i.told; start = i.start; greeting = i.greeting })
    by (Err fault) e g =
        let same : app_edits s edit ≡ Err fault = rw e refl in
        absurd (no (sym same ∙ g))
      where
        no : Err fault ≡ Ok t → ⊥
        no z = cc

-- THE STATE
abbrev pub Selves : List Entry → World → Type 0
Selves es w = (k a : ℕ) (e : End) (s : Exporter) → end_at w.ends k ≡ Some e → e.who ≡ App a → e.role ≡ an_application s → IsSelf es a s

still_selves : (es ys : List Entry) (w v : World) → Selves es w → Over SameApp w.ends v.ends → Selves (es ++ ys) v
still_selves es ys w v i o k a e s h who role = let x = o.back k e h in self_more es ys a s (i k a x.0 s x.1 (sym x.2.whose ∙ who) (x.2.role s role))

-- one acts
acts_selves : (es ys : List Entry) (w v : World) (conn app : ℕ) (e : End) (s t : Exporter) (base : List End) → Selves es w → Over SameApp w.ends base → end_at base conn ≡ Some e → e.who ≡ App app → v.ends ≡ with_end conn (has_done s t) base → IsSelf es app t
    → Selves (es ++ ys) v
acts_selves es ys w v conn app e s t base i o there is ends mine k a x u h who role = by (with_cases (has_done s t) base conn k x (ap (λ l. end_at l k) (sym ends) ∙ h))
  where
    by : ((y : End) × (end_at base k ≡ Some y) × (((k ≡ conn) × (x ≡ has_done s t y)) ⊎ ((k ≡ conn → ⊥) × (x ≡ y)))) → IsSelf (es ++ ys) a u
    by g = one g.2
      where
        one : (((k ≡ conn) × (x ≡ has_done s t g.0)) ⊎ ((k ≡ conn → ⊥) × (x ≡ g.0))) → IsSelf (es ++ ys) a u
        one (inl c) =
            let same : g.0 ≡ e = same_some g.0 e (sym g.1 ∙ ap (end_at base) c.0 ∙ there) in
            let number : app ≡ a = ap number_of (sym is ∙ ap (λ (z : End). z.who) (sym same) ∙ ap (λ (z : End). z.who) (sym c.1) ∙ who) in
            let state : record t { out = [] } ≡ u = same_app_of (record t { out = [] }) u (ap (λ (z : End). z.role) (sym c.1) ∙ role) in
            self_more es ys a u (subst (λ n. IsSelf es n u) number (subst (IsSelf es app) state (record { deaf_ = mine.deaf_; told = mine.told; start = mine.start; greeting = mine.greeting })))
        one (inr c) = let y = o.back k g.0 g.1 in self_more es ys a u (i k a y.0 u y.1 (sym y.2.whose ∙ ap (λ (z : End). z.who) (sym c.1) ∙ who) (y.2.role u (ap (λ (z : End). z.role) (sym c.1) ∙ role)))

-- an application starts
join_selves : (es : List Entry) (w : World) (d : Done) (name : List ℕ) → Numbered es w → Selves es w → d ≡ app_starts w name → Selves (es ++ d.entries) d.world
join_selves es w d name m i is = subst (λ x. Selves (es ++ x.entries) x.world) (sym is) selves
  where
    n : ℕ
    n = app_count w.ends

    new_entries : List Entry
    new_entries = (app_starts w name).entries

    hello_ : Envelope
    hello_ = record (start_call [] hello) { serial = 1 }

    wrote : new_entries ≡ started (App n) (Some name) ∷ (sent (App n) hello_ ∷ [])
    wrote = ap (λ k. started (App n) (Some name) ∷ (sent (App k) hello_ ∷ [])) (ap (λ o. number_of (whose o)) (last_at w.ends (put_up [] (newcomer (App n) (an_application (begins_app name))))))

    least : (k : ℕ) → k ≤ k
    least k = omega arith

    all : messages (es ++ new_entries) (App n) ≡ hello_ ∷ []
    all =
        ap (λ l. messages (es ++ l) (App n)) wrote ∙ messages_more es (started (App n) (Some name) ∷ (sent (App n) hello_ ∷ [])) (App n)
        ∙ ap (λ l. l ++ messages (started (App n) (Some name) ∷ (sent (App n) hello_ ∷ [])) (App n)) (m.2 (App n) (least n)) ∙ ap (λ b. cons_option (if b then Some hello_ else None) []) (party-same (App n))

    mine : IsSelf (es ++ new_entries) n (record (starts (begins_app name)) { out = [] })
    mine = record { deaf_ = λ h. refl; told = λ own h. absurd (no_none own h); start = refl; greeting = record { first = hello_; was = ap (with_serial 1) all; for_bus = refl } }

    selves : Selves (es ++ new_entries) (app_starts w name).world
    selves k a e u h who role = by (joined_cases w.ends (new_app w name) k e (ap (λ l. end_at l k) (sym (app_joined w name)) ∙ h))
      where
        by : ((end_at w.ends k ≡ Some e) ⊎ ((k ≡ length w.ends) × (e ≡ new_app w name))) → IsSelf (es ++ new_entries) a u
        by (inl g) = self_more es new_entries a u (i k a e u g who role)
        by (inr g) =
            let number : n ≡ a = ap number_of (ap (λ (x : End). x.who) (sym g.1) ∙ who) in
            let state : record (starts (begins_app name)) { out = [] } ≡ u = same_app_of (record (starts (begins_app name)) { out = [] }) u (ap (λ (x : End). x.role) (sym g.1) ∙ role) in
            subst (λ j. IsSelf (es ++ new_entries) j u) number (subst (IsSelf (es ++ new_entries) n) state mine)

reader_selves : (es : List Entry) (w : World) (d : Done) → Selves es w → d ≡ reader_starts w → Selves (es ++ d.entries) d.world
reader_selves es w d i is = subst (λ x. Selves (es ++ x.entries) x.world) (sym is) selves
  where
    selves : Selves (es ++ (reader_starts w).entries) (reader_starts w).world
    selves k a e u h who role = by (joined_cases w.ends (new_reader w) k e h)
      where
        by : ((end_at w.ends k ≡ Some e) ⊎ ((k ≡ length w.ends) × (e ≡ new_reader w))) → IsSelf (es ++ (reader_starts w).entries) a u
        by (inl g) = self_more es (reader_starts w).entries a u (i k a e u g who role)
        by (inr g) = absurd (false_true (ap is_app (sym (ap (λ (x : End). x.who) g.1) ∙ who)))

-- EACH CAUSE
edits_selves : (es : List Entry) (w : World) (d : Done) → Selves es w → AppEdits w d → Selves (es ++ d.entries) d.world
edits_selves es w d i b =
    acts_selves es d.entries w d.world b.conn b.app b.e b.before b.after w.ends i (over_same SameApp same_app w.ends) b.is_here.there b.whose (ap (λ x. x.world.ends) b.is)
    (edit_self es b.app b.before b.after b.edit b.done (i b.conn b.app b.e b.before b.is_here.there b.whose b.role))

takes_selves : (es : List Entry) (w : World) (d : Done) → length (greeted es) ≤ 1000 → Selves es w → (b : AppTakes w d) → IsMail es b.e.who b.letter → Selves (es ++ d.entries) d.world
takes_selves es w d few i b mail =
    let old : IsSelf es b.app b.before = i b.conn b.app b.e b.before b.is_here.there b.whose b.role in
    acts_selves es d.entries w d.world b.conn b.app (taken_down b.e) b.before (app_takes b.before b.letter.said.message) (with_end b.conn taken_down w.ends) i
    (over_with SameApp same_app taken_down down_same b.conn w.ends) (received_at w b.conn b.e b.letter b.is_here.there) b.whose (ap (λ x. x.world.ends) b.is)
    (takes_self es b.app b.before b.letter.said.message old
    (λ two one name body. greeting_told es b.app b.letter few old.greeting (subst (λ p. IsMail es p b.letter) b.whose mail) two one name body))

pub caused_selves : (es : List Entry) (w : World) (d : Done) → Numbered es w → length (greeted es) ≤ 1000 → Selves es w → ((conn : ℕ) (e : End) (letter : Letter) (rest : List Letter) → IsHere w.ends conn e → e.down ≡ letter ∷ rest → IsMail es e.who letter)
    → Effect w d → Selves (es ++ d.entries) d.world
caused_selves es w d m few i mail (resets quota old is) = subst (λ x. Selves (es ++ x.entries) x.world) (sym is) (λ k a e u h who role. absurd (no_app_first quota k e a h who))
caused_selves es w d m few i mail (app_joins name short is) = join_selves es w d name m i is
caused_selves es w d m few i mail (reader_joins old is) = reader_selves es w d i is
caused_selves es w d m few i mail (app_edited b) = edits_selves es w d i b
caused_selves es w d m few i mail (app_took b) = takes_selves es w d few i b (mail b.conn b.e b.letter b.rest b.is_here b.link)
caused_selves es w d m few i mail (reader_called b) = still_selves es d.entries w d.world i (called_still w d b).ends
caused_selves es w d m few i mail (swapped b) = still_selves es d.entries w d.world i (same_ends w d (ap (λ x. x.world.ends) b.is))
caused_selves es w d m few i mail (exited_ b) = still_selves es d.entries w d.world i (stopping_still w d b).ends
caused_selves es w d m few i mail (showed_ b) = still_selves es d.entries w d.world i (same_ends w d (ap (λ x. x.world.ends) b.is))
caused_selves es w d m few i mail (told_busy turns is) = still_selves es d.entries w d.world i (same_ends w d (ap (λ x. x.world.ends) is))
caused_selves es w d m few i mail (told_quiet none is) = still_selves es d.entries w d.world i (same_ends w d (ap (λ x. x.world.ends) is))
caused_selves es w d m few i mail (bus_took b) = still_selves es d.entries w d.world i (bus_took_still w d b).ends
caused_selves es w d m few i mail (bus_ended b) = still_selves es d.entries w d.world i (bus_ended_still w d b).ends
caused_selves es w d m few i mail (registry_took b) = still_selves es d.entries w d.world i (registry_still w d b).ends
caused_selves es w d m few i mail (reader_took b) = still_selves es d.entries w d.world i (reader_took_ends w d b)

pub moved_selves : (es : List Entry) (w v : World) → Selves es w → (MovedUp w v ⊎ MovedDown w v) → Selves (es ++ []) v
moved_selves es w v i (inl m) =
    still_selves es [] w v i (subst (λ (x : World). Over SameApp w.ends x.ends) (sym m.after) (over_with SameApp same_app (λ e. record e { up_moved = e.up_moved + m.count }) (up_moved_same m.count) m.conn w.ends))
moved_selves es w v i (inr m) =
    still_selves es [] w v i (subst (λ (x : World). Over SameApp w.ends x.ends) (sym m.after) (over_with SameApp same_app (λ e. record e { down_moved = e.down_moved + m.count }) (down_moved_same m.count) m.conn w.ends))

pub asked_selves : (es : List Entry) (w : World) (conn r : ℕ) (m : Envelope) (question : Question) → Selves es w → Asks w conn r m question → Selves (es ++ sent (Reader r) m ∷ []) (at_end w conn (asks_at m question))
asked_selves es w conn r m question i asks =
    still_selves es (sent (Reader r) m ∷ []) w (at_end w conn (asks_at m question)) i
    (over_at SameApp same_app (asks_at m question) conn w.ends asks.asker asks.is_here.there (asks_same m question asks.asker asks.hearer asks.reader))

pub first_selves : (es : List Entry) (quota : ℕ) → Selves es (first_world quota)
first_selves es quota k a e u h who role = absurd (no_app_first quota k e a h who)
