-- What ends send: an application signals, replies and the calls of its start; the registry signals, replies and the call that gives a root its number.
use Rattle.std.proofs.Common.{◌≡◌, ℕ, ◌+◌, Bool, true, false, List, [], ◌∷◌, ◌++◌, length, map, Option, None, Some, refl, sym, ap, ◌∙◌, subst}
use Rattle.std.specs.Prelude.{◌==◌, slice_get, bytes_eq, codes, encode_utf8_all, if◌then◌else◌, Result, Ok, Err}
use Rattle.std.specs.List.{AllByRecursion, list_any}
use Rattle.atspi_types.specs.Data.{Data}
use Rattle.atspi_tree_model.specs.declared.edit.Edit.{Edit}
use Rattle.atspi_tree_model.specs.declared.edit.EditFault.{EditFault}
use Rattle.atspi_tree_model.specs.declared.step.Step.{Step}
use Rattle.atspi_tree_model.specs.Edits.{steps_of_tree}
use Rattle.atspi_tree_model.specs.Forest.{Forest}
use Rattle.atspi_tree_model.specs.Row.{TreeRow}
use Rattle.atspi_tree_model.specs.RowRules.{rows}
use Rattle.atspi_tree_model.specs.Tree.{after}
use Rattle.atspi_message.specs.Envelope.{Envelope}
use Rattle.atspi_protocol.specs.ends.Places.{registry_root}
use Rattle.atspi_protocol.specs.ends.Messages.{Reply, returns, fails, reply_to, replies, expects_reply}
use Rattle.atspi_protocol.specs.ends.Messages as messages
use Rattle.atspi_protocol.specs.declared.members.member.ObjectMember.{ObjectMember}
use Rattle.atspi_protocol.specs.declared.members.member.ObjectMember.TheVariants as members
use Rattle.atspi_protocol.specs.members.Asked.{Asked, calls, gets, gets_all, sets, asked}
use Rattle.atspi_protocol.specs.members.Arguments.{text_at}
use Rattle.atspi_protocol.specs.registering.RegistryState.{RegistryState, is_of, has_pair, without_pair, pairs_of, pairs_without, child_place}
use Rattle.atspi_protocol.specs.registering.Told.{registered, deregistered, id_call, children_changed, is_asked_for}
use Rattle.atspi_protocol.specs.registering.Answers.{Answer, only, registers, deregisters, reference_in, new_child, adopts, news_of_removal_at, news_of_removal, releases, answers_member, object_at}
use Rattle.atspi_protocol.specs.registering.Steps.{RegistryStep, called_by, named, hears as registry_hears, name_told, name_gone, takes_as, registry_takes}
use Rattle.atspi_protocol.specs.registering.Steps as registering_steps
use Rattle.atspi_protocol.specs.announcing.Signals.{Signal}
use Rattle.atspi_protocol.specs.announcing.Announced.{announced}
use Rattle.atspi_protocol.specs.exporting.Exporter.{StartCall, hello, add_match, get_registered_events, embed, Happening, steps, sends, hears as hears_of, deaf, Exporter, numbered, queues}
use Rattle.atspi_protocol.specs.exporting.Hearing.{exchanged, pairs_in, heard_after, Change, is_covered}
use Rattle.atspi_protocol.specs.exporting.Telling.{asked_for, steps_told}
use Rattle.atspi_protocol.specs.exporting.Starting.{awaited, goes_on, asks, greeted, listened, ends_start, start_call, name_or_empty, unique_name_in}
use Rattle.atspi_protocol.specs.exporting.Taking.{app_takes, app_edits, takes_other, takes_call, takes_signal, called, stepped, answer_to}
use Rattle.atspi_trace.specs.World.{Said}
use Rattle.atspi_trace.specs.Causes.{saids}
use Rattle.atspi_trace_laws.proofs.OfOrder.Parties.{all_append}
use Rattle.atspi_trace_laws.proofs.OfHeard.Heeding.{IsOfListeners, heard_told, exchanged_told}
use Rattle.atspi_trace_laws.proofs.OfSigned.Between.{IsSignal, all_signals}

-- WHAT IS SENT, among happenings
module _ (P : Envelope → Type 0) where
  abbrev pub Sends : List Happening → Type 0
  Sends [] = Unit {0}
  Sends (sends e ∷ hs) = P e × Sends hs
  Sends (h ∷ hs) = Sends hs

  pub said_sends : (s : Exporter) (f : Forest TreeRow) (a : Option Step) (hs : List Happening) → Sends hs → AllByRecursion (λ (said : Said). P said.message) (saids s f a hs)
  said_sends s f a [] n = tt
  said_sends s f a (sends e ∷ hs) n = (n.0, said_sends s f None hs n.1)
  said_sends s f a (steps step ∷ hs) n = said_sends s (after rows f step) _ hs n
  said_sends s f a (hears_of listener pattern ∷ hs) n = said_sends s f a hs n
  said_sends s f a (deaf listener pattern ∷ hs) n = said_sends s f a hs n

  sends_append : (hs ks : List Happening) → Sends hs → Sends ks → Sends (hs ++ ks)
  sends_append [] ks a b = b
  sends_append (sends e ∷ hs) ks a b = (a.0, sends_append hs ks a.1 b)
  sends_append (steps step ∷ hs) ks a b = sends_append hs ks a b
  sends_append (hears_of listener pattern ∷ hs) ks a b = sends_append hs ks a b
  sends_append (deaf listener pattern ∷ hs) ks a b = sends_append hs ks a b

  listeners_send : (hs : List Happening) → IsOfListeners hs → Sends hs
  listeners_send [] a = tt
  listeners_send (hears_of listener pattern ∷ hs) a = listeners_send hs a
  listeners_send (deaf listener pattern ∷ hs) a = listeners_send hs a
  listeners_send (steps step ∷ hs) a = absurd a
  listeners_send (sends e ∷ hs) a = absurd a

  -- whatever number it gets
  module _ (number : (n : ℕ) (e : Envelope) → P e → P (record e { serial = n })) where
    sends_numbered : (n : ℕ) (hs : List Happening) → Sends hs → Sends (numbered n hs)
    sends_numbered n [] a = tt
    sends_numbered n (sends e ∷ hs) a = (number n e a.0, sends_numbered (n + 1) hs a.1)
    sends_numbered n (steps step ∷ hs) a = sends_numbered n hs a
    sends_numbered n (hears_of listener pattern ∷ hs) a = sends_numbered n hs a
    sends_numbered n (deaf listener pattern ∷ hs) a = sends_numbered n hs a

    queued_send : (s : Exporter) (hs : List Happening) → Sends s.out → Sends hs → Sends (queues s hs).out
    queued_send s hs a b = sends_append s.out (numbered s.next hs) a (sends_numbered s.next hs b)

    module _ (signals : (e : Envelope) → e.kind ≡ 4 → P e) (reply : (caller : List ℕ) (serial : ℕ) (r : Reply) → P (reply_to caller serial r)) where
      signals_send : (xs : List Signal) → AllByRecursion IsSignal xs → Sends (map (λ (s : Signal). sends s.message) xs)
      signals_send [] a = tt
      signals_send (x ∷ xs) a = (signals x.message a.0, signals_send xs a.1)

      asked_signals : (ps : List (List ℕ × List ℕ)) (xs : List Signal) → AllByRecursion IsSignal xs → AllByRecursion IsSignal (asked_for ps xs)
      asked_signals ps [] a = tt
      asked_signals ps (x ∷ xs) a = by (is_covered ps x.event x.minor) (asked_signals ps xs a.1)
        where
          by : (b : Bool) → AllByRecursion IsSignal (asked_for ps xs) → AllByRecursion IsSignal (if b then x ∷ asked_for ps xs else asked_for ps xs)
          by true r = (a.0, r)
          by false r = r

      told_send : (ps : List (List ℕ × List ℕ)) (name : List ℕ) (f : Forest TreeRow) (ss : List Step) → Sends (steps_told ps name f ss)
      told_send ps name f [] = tt
      told_send ps name f (step ∷ ss) =
          sends_append (map (λ (s : Signal). sends s.message) (asked_for ps (announced name f step))) (steps_told ps name (after rows f step) ss)
          (signals_send (asked_for ps (announced name f step)) (asked_signals ps (announced name f step) (all_signals name f step))) (told_send ps name (after rows f step) ss)

      -- AN APPLICATION
      module _ (starting : (name : List ℕ) (call : StartCall) → P (start_call name call)) where
        pub asks_send : (s : Exporter) (call : StartCall) → Sends s.out → Sends (asks s call).out
        asks_send s call a = queued_send s (sends (start_call (name_or_empty s.name) call) ∷ []) a (starting (name_or_empty s.name) call, tt)

        start_sends : (s : Exporter) (call : StartCall) (body : List Data) → Sends s.out → Sends (goes_on s call body).out
        start_sends s hello body a = by (unique_name_in body)
          where
            by : (o : Option (List ℕ)) → Sends (greeted s o).out
            by None = a
            by (Some name) = asks_send (record s { name = Some name }) add_match a
        start_sends s add_match body a = asks_send s get_registered_events a
        start_sends s get_registered_events body a = by (pairs_in body)
          where
            by : (o : Option (List (List ℕ × List ℕ))) → Sends (listened s o).out
            by None = a
            by (Some listed) =
                let change : Change = exchanged s.heard listed in
                asks_send (queues (record s { heard = change.heard }) change.told) embed
                (queued_send (record s { heard = change.heard }) change.told a (listeners_send change.told (exchanged_told s.heard listed).listeners))
        start_sends s embed body a = a

        start_by : (b : Bool) (s : Exporter) (call : StartCall) (body : List Data) → Sends s.out → Sends (if b then goes_on s call body else ends_start s).out
        start_by true s call body a = start_sends s call body a
        start_by false s call body a = a

        signal_sends : (b : Bool) (s : Exporter) (e : Envelope) → Sends s.out → Sends (if b then takes_signal s e else s).out
        signal_sends true s e a =
            queued_send (record s { heard = (heard_after s.heard e).heard }) (heard_after s.heard e).told a (listeners_send (heard_after s.heard e).told (heard_told s.heard e).listeners)
        signal_sends false s e a = a

        replies_send : (b : Bool) (caller : List ℕ) (serial : ℕ) (r : Reply) → Sends (map sends (if b then reply_to caller serial r ∷ [] else []))
        replies_send true caller serial r = (reply caller serial r, tt)
        replies_send false caller serial r = tt

        called_sends : (s : Exporter) (name caller : List ℕ) (e : Envelope) → Sends s.out → Sends (called s name caller e).out
        called_sends s name caller e a =
            let x = answer_to s name e in
            queued_send (record (stepped s x.steps) { id = x.id }) (steps_told s.heard name s.tree x.steps ++ map sends (replies caller e x.reply)) a
            (sends_append (steps_told s.heard name s.tree x.steps) (map sends (replies caller e x.reply)) (told_send s.heard name s.tree x.steps) (replies_send (expects_reply e) caller e.serial x.reply))

        call_sends : (s : Exporter) (name : List ℕ) (e : Envelope) (sender : Option (List ℕ)) → e.sender ≡ sender → Sends s.out → Sends (takes_call s name e).out
        call_sends s name e None h a = rw h a
        call_sends s name e (Some caller) h a = rw h (called_sends s name caller e a)

        named_sends : (b : Bool) (s : Exporter) (name : List ℕ) (e : Envelope) → Sends s.out → Sends (if b then takes_call s name e else if e.kind == 4 then takes_signal s e else s).out
        named_sends true s name e a = call_sends s name e e.sender refl a
        named_sends false s name e a = signal_sends (e.kind == 4) s e a

        other_sends : (s : Exporter) (o : Option (List ℕ)) (e : Envelope) → Sends s.out → Sends (takes_other s o e).out
        other_sends s None e a = a
        other_sends s (Some name) e a = named_sends (e.kind == 1) s name e a

        pub takes_send : (s : Exporter) (e : Envelope) → Sends s.out → Sends (app_takes s e).out
        takes_send s e a = by (awaited s.phase e) refl
          where
            by : (o : Option StartCall) → awaited s.phase e ≡ o → Sends (app_takes s e).out
            by None h = rw h (other_sends s s.name e a)
            by (Some call) h = rw h (start_by (e.kind == 2) s call e.body a)

        abbrev edit_result : Exporter → Result (List Step) EditFault → Result Exporter EditFault
        edit_result s (Ok ss) = Ok (queues (stepped s ss) (steps_told s.heard (name_or_empty s.name) s.tree ss))
        edit_result s (Err fault) = Err fault

        abbrev ok_or : Exporter → Result Exporter EditFault → Exporter
        ok_or s (Ok u) = u
        ok_or s (Err fault) = s

        pub edits_send : (s t : Exporter) (edit : Edit) → app_edits s edit ≡ Ok t → Sends s.out → Sends t.out
        edits_send s t edit h a = by (steps_of_tree s.tree s.added edit) refl h
          where
            by : (r : Result (List Step) EditFault) → steps_of_tree s.tree s.added edit ≡ r → app_edits s edit ≡ Ok t → Sends t.out
            by (Ok ss) e g =
                let same : app_edits s edit ≡ edit_result s (Ok ss) = rw e refl in
                subst (λ (x : Exporter). Sends x.out) (ap (ok_or s) (sym same ∙ g)) (queued_send (stepped s ss) (steps_told s.heard (name_or_empty s.name) s.tree ss) a (told_send s.heard (name_or_empty s.name) s.tree ss))
            by (Err fault) e g =
                let same : app_edits s edit ≡ Err fault = rw e refl in
                absurd (no (sym same ∙ g))
              where
                no : Err fault ≡ Ok t → ⊥
                no z = cc

      -- THE REGISTRY
      module _ (gives_number : (child : List ℕ × List ℕ) (n : ℕ) → P (id_call child n)) where
        all_numbered : (n : ℕ) (es : List Envelope) → AllByRecursion P es → AllByRecursion P (messages.numbered n es)
        all_numbered n [] a = tt
        all_numbered n (e ∷ es) a = (number n e a.0, all_numbered (n + 1) es a.1)

        news_sent : (b : Bool) (minor : List ℕ) (index : ℕ) (child : List ℕ × List ℕ) → AllByRecursion P (if b then children_changed minor index child ∷ [] else [])
        news_sent true minor index child = (signals (children_changed minor index child) refl, tt)
        news_sent false minor index child = tt

        removal_at : (pairs : List (List ℕ × List ℕ)) (i : ℕ) (o : Option (List ℕ × List ℕ)) → AllByRecursion P (news_of_removal_at pairs i o)
        removal_at pairs i None = tt
        removal_at pairs i (Some child) = news_sent (is_asked_for pairs (codes "remove")) (codes "remove") i child

        removal_sent : (pairs children : List (List ℕ × List ℕ)) (place : Option ℕ) → AllByRecursion P (news_of_removal pairs children place)
        removal_sent pairs children None = tt
        removal_sent pairs children (Some i) = removal_at pairs i (slice_get children i)

        fallen_sent : (pairs : List (List ℕ × List ℕ)) → AllByRecursion P (map deregistered pairs)
        fallen_sent [] = tt
        fallen_sent (p ∷ ps) = (signals (deregistered p) refl, fallen_sent ps)

        abbrev Tells : Answer → Type 0
        Tells a = AllByRecursion P a.before × AllByRecursion P a.behind

        registers_tell : (s : RegistryState) (caller pattern : List ℕ) → Tells (registers s caller pattern)
        registers_tell s caller pattern = by (has_pair s.pairs caller pattern)
          where
            by : (b : Bool) → Tells (if b then only s (returns []) else record (only s (returns [])) { pairs = s.pairs ++ (caller, pattern) ∷ []; before = registered (caller, pattern) ∷ [] })
            by true = (tt, tt)
            by false = ((signals (registered (caller, pattern)) refl, tt), tt)

        deregisters_tell : (s : RegistryState) (caller pattern : List ℕ) → Tells (deregisters s caller pattern)
        deregisters_tell s caller pattern = by (has_pair s.pairs caller pattern)
          where
            by : (b : Bool) → Tells (if b then record (only s (returns [])) { pairs = without_pair s.pairs caller pattern; before = deregistered (caller, pattern) ∷ [] } else only s (returns []))
            by true = ((signals (deregistered (caller, pattern)) refl, tt), tt)
            by false = (tt, tt)

        own_tells : (s : RegistryState) (b : Bool) (a : Answer) → Tells a → Tells (if b then a else only s (fails (codes "InvalidArgs")))
        own_tells s true a t = t
        own_tells s false a t = (tt, tt)

        adopts_tells : (s : RegistryState) (child : List ℕ × List ℕ) (b : Bool) → Tells (if b then only s (returns (registry_root ∷ [])) else new_child s child)
        adopts_tells s child true = (tt, tt)
        adopts_tells s child false = (tt, (gives_number child s.embeds, news_sent (is_asked_for s.pairs (codes "add")) (codes "add") (length s.children) child))

        member_tells : (member : ObjectMember) (s : RegistryState) (own caller : List ℕ) (args : List Data) → Tells (answers_member member s own caller args)
        member_tells members.RegisterEvent s own caller args = registers_tell s caller (text_at 0 args)
        member_tells members.DeregisterEvent s own caller args = deregisters_tell s caller (text_at 0 args)
        member_tells members.Embed s own caller args =
            let child : List ℕ × List ℕ = (caller, (reference_in args).1) in
            own_tells s (bytes_eq (encode_utf8_all (reference_in args).0) caller) (adopts s child) (adopts_tells s child (list_any (is_of caller) s.children))
        member_tells members.Unembed s own caller args =
            own_tells s (bytes_eq (encode_utf8_all (reference_in args).0) caller) (releases s caller) (removal_sent s.pairs s.children (child_place s.children caller), tt)
        member_tells _ s own caller args = (tt, tt)

        answer_tells : (r : Result Asked (List ℕ)) (s : RegistryState) (own caller : List ℕ) → Tells (registering_steps.answer_to s own caller r)
        answer_tells (Ok (calls member args)) s own caller = member_tells member s own caller args
        answer_tells (Ok (gets property)) s own caller = (tt, tt)
        answer_tells (Ok (gets_all ls)) s own caller = (tt, tt)
        answer_tells (Ok (sets property d)) s own caller = (tt, tt)
        answer_tells (Err word) s own caller = (tt, tt)

        abbrev Sent : RegistryStep → Type 0
        Sent step = AllByRecursion P step.sent

        reply_sent : (b : Bool) (caller : List ℕ) (serial : ℕ) (r : Reply) → AllByRecursion P (if b then reply_to caller serial r ∷ [] else [])
        reply_sent true caller serial r = (reply caller serial r, tt)
        reply_sent false caller serial r = tt

        called_sent : (s : RegistryState) (own : List ℕ) (e : Envelope) (o : Option (List ℕ)) → Sent (called_by s own e o)
        called_sent s own e None = tt
        called_sent s own e (Some caller) =
            let question = asked (object_at e.path) e.interface e.member e.body in
            let a : Answer = registering_steps.answer_to s own caller question in
            let t : Tells a = answer_tells question s own caller in
            all_numbered s.next (a.before ++ (replies caller e a.reply ++ a.behind))
            (all_append P a.before (replies caller e a.reply ++ a.behind) t.0 (all_append P (replies caller e a.reply) a.behind (reply_sent (expects_reply e) caller e.serial a.reply) t.1))

        left_sent : (s : RegistryState) (o : Option (List ℕ)) → Sent (registry_hears s o)
        left_sent s None = tt
        left_sent s (Some word) =
            let name = encode_utf8_all word in
            let fallen = map deregistered (pairs_of s.pairs name) in
            let news = news_of_removal (pairs_without s.pairs name) s.children (child_place s.children name) in
            all_numbered s.next (fallen ++ news)
            (all_append P fallen news (fallen_sent (pairs_of s.pairs name)) (removal_sent (pairs_without s.pairs name) s.children (child_place s.children name)))

        named_sent : (s : RegistryState) (o : Option (List ℕ)) → Sent (named s o)
        named_sent s None = tt
        named_sent s (Some name) = tt

        as_sent : (s : RegistryState) (e : Envelope) (o : Option (List ℕ)) → Sent (takes_as s e o)
        as_sent s e None = named_sent s (name_told s.hello e)
        as_sent s e (Some own) = by (e.kind == 1)
          where
            by : (b : Bool) → Sent (if b then called_by s own e e.sender else registry_hears s (name_gone e))
            by true = called_sent s own e e.sender
            by false = left_sent s (name_gone e)

        pub registry_sends : (s : RegistryState) (e : Envelope) → AllByRecursion P (registry_takes s e).sent
        registry_sends s e = as_sent s e s.own
