-- What is known of messages on their way, along a lawful trace.
use Rattle.std.proofs.Common.{◌≡◌, ◌⊎◌, inl, inr, ℕ, zero, suc, ◌+◌, Bool, true, false, List, [], ◌∷◌, ◌++◌, length, map, Option, None, Some, refl, sym, ap, ap₂, ◌∙◌, subst, arith, cond}
use Rattle.std.specs.Prelude.{◌==◌, ◌||◌, codes, option_map, unwrap_or, is_some, if◌then◌else◌}
use Rattle.std.specs.Ordering.{nat_cmp, eq_by_cmp}
use Rattle.std.specs.Cmp.Lexicographic.{slice_cmp}
use Rattle.std.specs.List.{AllByRecursion}
use Rattle.std.specs.FinMap as finmap
use Rattle.std.specs.FinMap.{get-from_sorted}
use Rattle.std.proofs.lemmas.Bool.{eqb-true, eq-eqb}
use Rattle.std.proofs.lemmas.List.{append-nil}
use Rattle.std.proofs.lemmas.Slice.Eq.{bytes_eq-Decides}
use Rattle.atspi_base.specs.valid_names.Names.{is_unique_name}
use Rattle.atspi_tree_model.specs.Forest.{first_of}
use Rattle.atspi_script_lines.specs.declared.deed.Deed.{Deed}
use Rattle.atspi_script_lines.specs.declared.deed.Deed.TheVariants.{SetCaret, InsertText, DeleteText, SetText, SelectChild, DeselectChild, SelectAll, ClearSelection, DoAction}
use Rattle.atspi_script_lines.specs.declared.limits.TheConstants.{QUOTA_MOST}
use Rattle.atspi_script_lines.specs.declared.line.Party.{Party}
use Rattle.atspi_script_lines.specs.declared.line.Party.TheVariants.{Bus as The_bus, Registry, App, Reader}
use Rattle.atspi_message.specs.Envelope.{Envelope}
use Rattle.atspi_names.specs.Owners.{own_name, unique_name}
use Rattle.atspi_names.specs.Queue.{stands}
use Rattle.atspi_names.proofs.ListsLemmas.{names_apart}
use Rattle.atspi_protocol.specs.ends.Places.{registry as registry_name}
use Rattle.atspi_match.specs.routing.BusState.{BusState, unique_of}
use Rattle.atspi_match.specs.routing.Members.{is_text}
use Rattle.atspi_match.specs.routing.Routing.{receivers, owners_of, is_for_bus, is_reply}
use Rattle.atspi_match.specs.routing.Steps.{BusStep, is_hello, greets, bus_takes}
use Rattle.atspi_match.specs.routing.Queues.{Bus}
use Rattle.atspi_protocol.specs.ends.Messages.{Reply, returns, fails, reply_to}
use Rattle.atspi_protocol.specs.registering.Steps.{RegistryStep, registry_takes}
use Rattle.atspi_protocol.specs.exporting.Exporter.{Exporter}
use Rattle.atspi_protocol.specs.exporting.Laws.{HasTree}
use Rattle.atspi_protocol.specs.exporting.Taking.{app_takes, answer_to}
use Rattle.atspi_protocol.specs.following.Calls.{asking, user_call}
use Rattle.atspi_protocol.specs.declared.following.question.Question.{Question}
use Rattle.atspi_protocol.specs.declared.following.question.Question.TheVariants.{Hello, AddMatch, RegisterEvent, GetChildren, GetItems, GetPart}
use Rattle.atspi_protocol.specs.declared.news.part.PartName.TheVariants.{Text, Caret, Columns}
use Rattle.atspi_trace.specs.Entry.{Entry, sent}
use Rattle.atspi_trace.specs.Rules.{rule_in}
use Rattle.atspi_trace.specs.World.{here, a_reader, Hearer, Said, Letter, first_unique, first_lists, first_registry, first_world, End, World}
use Rattle.atspi_trace.specs.Ends.{is_here, same_party, end_at, with_end, plain, put_down, rest_of, taken_up, taken_down, stops, leaves, app_count, reader_count}
use Rattle.atspi_trace.specs.Carrying as carrying
use Rattle.atspi_trace.specs.Carrying.{Carried, own_letter, letter_of, stepped, named, with_name, settled}
use Rattle.atspi_trace.specs.Hearing.{question_in, hears_letter}
use Rattle.atspi_trace.specs.Causes.{Done, at_end, saids, has_done, reader_sends, asks, registry_did, app_starts, reader_starts}
use Rattle.atspi_trace.specs.Due.{asks_as, asks_at}
use Rattle.atspi_trace_laws.specs.laws.Words.{message}
use Rattle.atspi_trace_laws.specs.laws.NineLaws.{count_got_by_bus}
use Rattle.atspi_trace_laws.proofs.OfOrder.Parties.{no_none, same_some, same-party, party-same, false_true, all_append}
use Rattle.atspi_trace_laws.proofs.OfOrder.Plain.{user_plain}
use Rattle.atspi_trace_laws.proofs.OfOrder.Allowed.{MovedUp, MovedDown, Asks}
use Rattle.atspi_trace_laws.proofs.OfOrder.Frame.{Over, IsOrder, over_same, over_both, over_with, over_at, takes_over, ends_over, joined_cases}
use Rattle.atspi_trace_laws.proofs.OfOrder.Shape.{Shape}
use Rattle.atspi_trace_laws.proofs.OfOrder.Effects.{received, AppEdits, AppTakes, ReaderCalls, BusTakes, BusEnds, RegistryTakes, Effect, resets, app_joins, reader_joins, app_edited, app_took, reader_called, swapped, exited_, showed_, told_busy, told_quiet, bus_took, bus_ended, registry_took, reader_took}
use Rattle.atspi_trace_laws.proofs.OfOrder.Shaped.{received_at, new_app, new_reader, app_joined}
use Rattle.atspi_trace_laws.proofs.OfOrder.Along.{Keeps}
use Rattle.atspi_trace_laws.proofs.OfOrder.Growing.{Grows, Shaped, Nothing, And, grown}
use Rattle.atspi_trace_laws.proofs.OfOrder.Each.{all_map}
use Rattle.atspi_trace_laws.proofs.OfOrder.Closed.{IsTold}
use Rattle.atspi_trace_laws.proofs.OfSteps.Steps.{Trees}
use Rattle.atspi_trace_laws.proofs.OfSerials.Numbers.{Numbered}
use Rattle.atspi_trace_laws.proofs.OfLinks.LawLinks.{Linked, no_bus}
use Rattle.atspi_trace_laws.proofs.OfTaken.Said.{IsSaid, said_more}
use Rattle.atspi_trace_laws.proofs.OfTaken.LawTaken.{Known, Under, Taken, taken_keeps}
use Rattle.atspi_trace_laws.proofs.OfReaders.Fates.{both_keep, hello_read}
use Rattle.atspi_trace_laws.proofs.OfQuiet.Hello.{equal_of_tie, takes_hello}
use Rattle.atspi_trace_laws.proofs.OfQuiet.Here.{Greeted}
use Rattle.atspi_trace_laws.proofs.OfNames.Naming.{takes_same, hello_here}
use Rattle.atspi_trace_laws.proofs.OfNames.LawNames.{NamedAt, Named, Under_names, names_keep}
use Rattle.atspi_trace_laws.proofs.OfNames.LawNames as names
use Rattle.atspi_trace_laws.proofs.OfNames.Places.{first_at, greeted}
use Rattle.atspi_trace_laws.proofs.OfNames.Bounds.{Bounded, bounds_keep}
use Rattle.atspi_trace_laws.proofs.OfNames.LawEnds.{few_greeted}
use Rattle.atspi_trace_laws.proofs.OfSigned.Self.{IsSelf, Selves, caused_selves, moved_selves, asked_selves, first_selves}
use Rattle.atspi_trace_laws.proofs.OfSigned.Unique.{OwnLists, takes_lists, greets_lists, gone_lists, settled_lists, IsIn, owner_has}
use Rattle.atspi_trace_laws.proofs.OfSigned.Mail.{NameIs, name_more, Called, called_more, Content, IsSpeech, speech_more, IsOwn, told_more, IsMail, mail_more}
use Rattle.atspi_trace_laws.proofs.OfSigned.Speech.{IsReplyTo, RepliesOnly, takes_replies, edit_silent, IsItsReply, registry_replies}
use Rattle.atspi_trace_laws.proofs.OfSigned.Handing.{Fine, Gives, takes_gives, greets_gives, Downs, downs_with, PutsAt, stepped_downs, left_downs, settled_downs}

-- WHAT IS KEPT
pub record Mail (es : List Entry) (w : World) : Type 0 where
  pub lists : OwnLists w.bus.state.owners
  pub registry : (k : ℕ) (e : End) → end_at w.ends k ≡ Some e → e.who ≡ Registry → e.unique ≡ Some (codes ":1.0")
  pub ups : (k : ℕ) (e : End) → end_at w.ends k ≡ Some e → AllByRecursion (IsSpeech es e.who) e.up
  pub downs : (k : ℕ) (e : End) → end_at w.ends k ≡ Some e → e.standing ≡ here → AllByRecursion (IsMail es e.who) e.down

-- an end afterwards: with what it says
pub record Says_on (es : List Entry) (e d : End) : Type 0 where
  pub whose : d.who ≡ e.who
  pub keeps : (name : List ℕ) → e.unique ≡ Some name → d.unique ≡ Some name
  pub on : d.standing ≡ here → e.standing ≡ here
  pub up : AllByRecursion (IsSpeech es e.who) e.up → AllByRecursion (IsSpeech es d.who) d.up

saying : (es : List Entry) → IsOrder (Says_on es)
saying es = record {
  same = λ e. record { whose = refl; keeps = λ n h. h; on = λ h. h; up = λ a. a };
  both = λ e d c f g. record { whose = g.whose ∙ f.whose; keeps = λ n h. g.keeps n (f.keeps n h); on = λ h. f.on (g.on h); up = λ a. g.up (f.up a) };
}

-- and with what it is told
abbrev Goes_on : List Entry → End → End → Type 0
Goes_on es e d = Says_on es e d × (AllByRecursion (IsMail es e.who) e.down → AllByRecursion (IsMail es d.who) d.down)

going : (es : List Entry) → IsOrder (Goes_on es)
going es = record {
  same = λ e. ((saying es).same e, λ a. a);
  both = λ e d c f g. ((saying es).both e d c f.0 g.0, λ a. g.1 (f.1 a));
}

alike : (es : List Entry) (e d : End) → d.who ≡ e.who → d.unique ≡ e.unique → d.standing ≡ e.standing → (AllByRecursion (IsSpeech es e.who) e.up → AllByRecursion (IsSpeech es e.who) d.up) → Says_on es e d
alike es e d who unique standing up = record {
  whose = who;
  keeps = λ n h. unique ∙ h;
  on = λ h. sym standing ∙ h;
  up = λ a. subst (λ p. AllByRecursion (IsSpeech es p) d.up) (sym who) (up a);
}

all_rest : {X : Type 0} (P : X → Type 0) (xs : List X) → AllByRecursion P xs → AllByRecursion P (rest_of xs)
all_rest P [] a = tt
all_rest P (x ∷ xs) a = a.1

-- changes of an end
puts_up : (es : List Entry) (more : List Said) (e d : End) → d.who ≡ e.who → d.unique ≡ e.unique → d.standing ≡ e.standing → d.up ≡ e.up ++ more → d.down ≡ e.down → AllByRecursion (IsSpeech es e.who) more → Goes_on es e d
puts_up es more e d who unique standing up down a = (
  alike es e d who unique standing (λ old. subst (AllByRecursion (IsSpeech es e.who)) (sym up) (all_append (IsSpeech es e.who) e.up more old a)),
  λ old. subst (λ p. AllByRecursion (IsMail es p) d.down) (sym who) (subst (AllByRecursion (IsMail es e.who)) (sym down) old),
)

stays_as : (es : List Entry) (e d : End) → d.who ≡ e.who → d.unique ≡ e.unique → d.standing ≡ e.standing → d.up ≡ e.up → d.down ≡ e.down → Goes_on es e d
stays_as es e d who unique standing up down = puts_up es [] e d who unique standing (up ∙ sym (append-nil e.up)) down tt

takes_down : (es : List Entry) (e : End) → Goes_on es e (taken_down e)
takes_down es e = (alike es e (taken_down e) refl refl refl (λ a. a), λ a. all_rest (IsMail es e.who) e.down a)

no_longer : (es : List Entry) (e d : End) → d.who ≡ e.who → d.unique ≡ e.unique → is_here d.standing ≡ false → d.up ≡ [] → Says_on es e d
no_longer es e d who unique gone up = record {
  whose = who;
  keeps = λ n h. unique ∙ h;
  on = λ h. absurd (false_true (sym gone ∙ ap is_here h));
  up = λ a. subst (AllByRecursion (IsSpeech es d.who)) (sym up) tt;
}

takes_up : (es : List Entry) (e : End) → Says_on es e (taken_up e)
takes_up es e = alike es e (taken_up e) refl refl refl (λ a. all_rest (IsSpeech es e.who) e.up a)

is_put : (es : List Entry) (letter : Letter) (e : End) → Says_on es e (put_down letter e)
is_put es letter e = alike es e (put_down letter e) refl refl refl (λ a. a)

is_named : (es : List Entry) (b : Bus) (conn : ℕ) (e : End) → Says_on es e (named b conn e)
is_named es b conn e = record {
  whose = refl;
  keeps = λ n h. ap (λ o. first_of o (unique_of b.state.owners conn)) h;
  on = λ h. h;
  up = λ a. a;
}

leaves_it : (es : List Entry) (e : End) → Says_on es e (leaves e)
leaves_it es e = no_longer es e (leaves e) refl refl refl refl

-- MORE ENTRIES
more_speech : (es ys : List Entry) (who : Party) (xs : List Said) → AllByRecursion (IsSpeech es who) xs → AllByRecursion (IsSpeech (es ++ ys) who) xs
more_speech es ys who xs a = all_map (IsSpeech es who) (IsSpeech (es ++ ys) who) xs (speech_more es ys who) a

more_mail : (es ys : List Entry) (who : Party) (xs : List Letter) → AllByRecursion (IsMail es who) xs → AllByRecursion (IsMail (es ++ ys) who) xs
more_mail es ys who xs a = all_map (IsMail es who) (IsMail (es ++ ys) who) xs (mail_more es ys who) a

pub mail_over : (es ys : List Entry) (w v : World) → Mail es w → OwnLists v.bus.state.owners → Over (Goes_on (es ++ ys)) w.ends v.ends → Mail (es ++ ys) v
mail_over es ys w v i lists o = record {
  lists = lists;
  registry = λ k d h who. let x = o.back k d h in x.2.0.keeps (codes ":1.0") (i.registry k x.0 x.1 (sym x.2.0.whose ∙ who));
  ups = λ k d h. let x = o.back k d h in x.2.0.up (more_speech es ys x.0.who x.0.up (i.ups k x.0 x.1));
  downs = λ k d h stands. let x = o.back k d h in x.2.1 (more_mail es ys x.0.who x.0.down (i.downs k x.0 x.1 (x.2.0.on stands)));
}

same_lists : (w v : World) → v.bus.state.owners ≡ w.bus.state.owners → OwnLists w.bus.state.owners → OwnLists v.bus.state.owners
same_lists w v h i = subst OwnLists (sym h) i

-- one end acts
module _ (es : List Entry) (w : World) (d : Done) (i : Mail es w) (owners : d.world.bus.state.owners ≡ w.bus.state.owners) where
  abbrev now : List Entry
  now = es ++ d.entries

  lists_now : OwnLists d.world.bus.state.owners
  lists_now = same_lists w d.world owners i.lists

  by_same : d.world.ends ≡ w.ends → Mail now d.world
  by_same is = mail_over es d.entries w d.world i lists_now (subst (Over (Goes_on now) w.ends) (sym is) (over_same (Goes_on now) (going now) w.ends))

  by_end : (f : End → End) (conn : ℕ) (e : End) → end_at w.ends conn ≡ Some e → Goes_on now e (f e) → d.world.ends ≡ with_end conn f w.ends → Mail now d.world
  by_end f conn e there g is = mail_over es d.entries w d.world i lists_now (subst (Over (Goes_on now) w.ends) (sym is) (over_at (Goes_on now) (going now) f conn w.ends e there g))

  by_both : (f : End → End) (conn : ℕ) (e : End) → end_at w.ends conn ≡ Some e → end_at (with_end conn taken_down w.ends) conn ≡ Some (taken_down e) → Goes_on now (taken_down e) (f (taken_down e))
      → d.world.ends ≡ with_end conn f (with_end conn taken_down w.ends) → Mail now d.world
  by_both f conn e there taken g is =
      mail_over es d.entries w d.world i lists_now
      (subst (Over (Goes_on now) w.ends) (sym is)
      (over_both (Goes_on now) (going now) w.ends (with_end conn taken_down w.ends) (with_end conn f (with_end conn taken_down w.ends)) (over_with (Goes_on now) (going now) taken_down (takes_down now) conn w.ends)
      (over_at (Goes_on now) (going now) f conn (with_end conn taken_down w.ends) (taken_down e) taken g)))

  by_join : (n : End) → d.world.ends ≡ w.ends ++ n ∷ [] → (n.who ≡ Registry → ⊥) → AllByRecursion (IsSpeech now n.who) n.up → n.down ≡ [] → Mail now d.world
  by_join n is other up down = record {
    lists = lists_now;
    registry = λ k e h who. reg k e who (joined_cases w.ends n k e (ap (λ l. end_at l k) (sym is) ∙ h));
    ups = λ k e h. says k e (joined_cases w.ends n k e (ap (λ l. end_at l k) (sym is) ∙ h));
    downs = λ k e h stands. told k e stands (joined_cases w.ends n k e (ap (λ l. end_at l k) (sym is) ∙ h));
  }
    where
      reg : (k : ℕ) (e : End) → e.who ≡ Registry → ((end_at w.ends k ≡ Some e) ⊎ ((k ≡ length w.ends) × (e ≡ n))) → e.unique ≡ Some (codes ":1.0")
      reg k e who (inl h) = i.registry k e h who
      reg k e who (inr h) = absurd (other (ap (λ (x : End). x.who) (sym h.1) ∙ who))

      says : (k : ℕ) (e : End) → ((end_at w.ends k ≡ Some e) ⊎ ((k ≡ length w.ends) × (e ≡ n))) → AllByRecursion (IsSpeech now e.who) e.up
      says k e (inl h) = more_speech es d.entries e.who e.up (i.ups k e h)
      says k e (inr h) = subst (λ (x : End). AllByRecursion (IsSpeech now x.who) x.up) (sym h.1) up

      told : (k : ℕ) (e : End) → e.standing ≡ here → ((end_at w.ends k ≡ Some e) ⊎ ((k ≡ length w.ends) × (e ≡ n))) → AllByRecursion (IsMail now e.who) e.down
      told k e stands (inl h) = more_mail es d.entries e.who e.down (i.downs k e h stands)
      told k e stands (inr h) = subst (λ (x : End). AllByRecursion (IsMail now x.who) x.down) (sym h.1) (subst (AllByRecursion (IsMail now n.who)) (sym down) tt)

-- WHAT IS SAID
one_three : ◌≡◌ {A = Bool} false true → ⊥
one_three h = false_true h

-- a call is no reply
call_speech : (es : List Entry) (who : Party) (m : Envelope) → is_reply m ≡ false → ((r : ℕ) → who ≡ Reader r → (question : Question) → question_in m ≡ Some question → m ≡ asking m.serial question) → AllByRecursion (IsSpeech es who) (plain m ∷ [])
call_speech es who m none asks_ = (record { answers = λ h. absurd (false_true (sym none ∙ h)); asks = asks_ }, tt)

-- who made the call that an end takes
pub taken_call : (es : List Entry) (who : Party) (letter : Letter) (caller : List ℕ) → IsMail es who letter → letter.said.message.sender ≡ Some caller → (c : Called es letter.said.message) × (c.caller ≡ caller)
taken_call es who letter caller (inl b) sender =
    (record { from = The_bus; caller = caller; sender = sender; known = inl (own_is letter.said.message.sender sender b.own) }, refl)
  where
    own_is : (o : Option (List ℕ)) → o ≡ Some caller → is_text o own_name ≡ true → caller ≡ own_name
    own_is o h t = (bytes_eq-Decides caller own_name).0 (ap (λ z. is_text z own_name) (sym h) ∙ t)
taken_call es who letter caller (inr p) sender =
    let same : p.caller ≡ caller = same_some p.caller caller (sym p.sender ∙ sender) in (
      record {
        from = letter.from;
        caller = p.caller;
        sender = p.sender;
        known = inr (record {
          name = p.name;
          first = p.first.message;
          was = ap (λ (z : Said). message es letter.from z.message.serial) p.alike ∙ p.sent_.was;
          alike = ap (λ (z : Said). z.message) p.alike;
          not_bus = p.not_bus;
          asks = λ r is question q. p.speech.asks r is question q;
        });
      },
      same,
    )

-- an application
no_reader_app : (a r : ℕ) → App a ≡ Reader r → ⊥
no_reader_app a r h = false_true (ap (λ p. same_party p (Reader r)) h ∙ party-same (Reader r))

reply_for : (caller : List ℕ) (serial : ℕ) (r : Reply) → ((reply_to caller serial r).destination ≡ Some caller) × ((reply_to caller serial r).reply ≡ Some serial)
reply_for caller serial (returns values) = (refl, refl)
reply_for caller serial (fails word) = (refl, refl)

reply_speech : (es ys : List Entry) (who : Party) (a : ℕ) (letter : Letter) (s : Exporter) (said : Said) → IsSelf es a s → HasTree s → IsMail es who letter → RepliesOnly (IsReplyTo s letter.said.message) said → IsSpeech (es ++ ys) (App a) said
unfolding called_more
reply_speech es ys who a letter s said self has mail f = record {
  answers = λ h.
      let r : IsReplyTo s letter.said.message said = f h in
      let c = taken_call es who letter r.caller mail r.sender in
      let for = reply_for r.caller letter.said.message.serial (answer_to s r.name letter.said.message).reply in
      record {
        call = letter.said.message;
        called = called_more es ys letter.said.message c.0;
        to = ap (λ (m : Envelope). m.destination) r.message ∙ for.0 ∙ ap Some (sym c.1);
        with_ = ap (λ (m : Envelope). m.reply) r.message ∙ for.1;
        content = subst (Content (es ++ ys) (App a) said letter.said.message) (sym c.1) (record { app = s; has = has; name = r.name; named = r.named; told = told_more es ys (App a) r.name (self.told r.name r.named); tree = r.tree; message = r.message });
      };
  asks = λ r is. absurd (no_reader_app a r is);
}

replies_speech : (es ys : List Entry) (who : Party) (a : ℕ) (letter : Letter) (s : Exporter) (xs : List Said) → IsSelf es a s → HasTree s → IsMail es who letter → AllByRecursion (RepliesOnly (IsReplyTo s letter.said.message)) xs → AllByRecursion (IsSpeech (es ++ ys) (App a)) xs
replies_speech es ys who a letter s xs self has mail f = all_map (RepliesOnly (IsReplyTo s letter.said.message)) (IsSpeech (es ++ ys) (App a)) xs (λ said g. reply_speech es ys who a letter s said self has mail g) f

silent_speech : (es : List Entry) (a : ℕ) (xs : List Said) → AllByRecursion (RepliesOnly (λ said. ⊥)) xs → AllByRecursion (IsSpeech es (App a)) xs
silent_speech es a xs f = all_map (RepliesOnly (λ said. ⊥)) (IsSpeech es (App a)) xs (λ said g. record { answers = λ h. absurd (g h); asks = λ r is. absurd (no_reader_app a r is) }) f

module _ (es : List Entry) (w : World) (d : Done) (s : Shape w) (t : Trees es w) (i : Mail es w) where
  abbrev then_ : List Entry
  then_ = es ++ d.entries

  edits_mail : AppEdits w d → Mail then_ d.world
  edits_mail b =
      let empty = (t b.conn b.app b.e b.before b.is_here.there b.whose b.role).empty in
      by_end es w d i (ap (λ x. x.world.bus.state.owners) b.is) (has_done b.before b.after) b.conn b.e b.is_here.there
      (puts_up then_ (saids b.before b.before.tree None b.after.out) b.e (has_done b.before b.after b.e) refl refl refl refl refl
      (subst (λ p. AllByRecursion (IsSpeech then_ p) (saids b.before b.before.tree None b.after.out)) (sym b.whose)
      (silent_speech then_ b.app (saids b.before b.before.tree None b.after.out) (edit_silent (λ said. ⊥) b.before b.after b.edit b.done empty))))
      (ap (λ x. x.world.ends) b.is)

  -- the message that an end takes
  taken_mail : (conn : ℕ) (e : End) (letter : Letter) (rest : List Letter) → end_at w.ends conn ≡ Some e → e.standing ≡ here → e.down ≡ letter ∷ rest → IsMail es e.who letter
  taken_mail conn e letter rest there stands link = (subst (AllByRecursion (IsMail es e.who)) link (i.downs conn e there stands)).0

  takes_mail : Selves es w → AppTakes w d → Mail then_ d.world
  takes_mail selves b =
      let after : Exporter = app_takes b.before b.letter.said.message in
      let tree_is = t b.conn b.app b.e b.before b.is_here.there b.whose b.role in
      let mail : IsMail es b.e.who b.letter = taken_mail b.conn b.e b.letter b.rest b.is_here.there b.is_here.standing b.link in
      by_both es w d i (ap (λ x. x.world.bus.state.owners) b.is) (has_done b.before after) b.conn b.e b.is_here.there (received_at w b.conn b.e b.letter b.is_here.there)
      (puts_up then_ (saids b.before b.before.tree None after.out) (taken_down b.e) (has_done b.before after (taken_down b.e)) refl refl refl refl refl
      (subst (λ p. AllByRecursion (IsSpeech then_ p) (saids b.before b.before.tree None after.out)) (sym b.whose)
      (replies_speech es d.entries b.e.who b.app b.letter b.before (saids b.before b.before.tree None after.out) (selves b.conn b.app b.e b.before b.is_here.there b.whose b.role) tree_is.is mail (takes_replies b.before b.letter.said.message tree_is.empty))))
      (ap (λ x. x.world.ends) b.is)

  -- a reader's calls
  calls_mail : ReaderCalls w d → Mail then_ d.world
  calls_mail b =
      let m : Envelope = user_call b.hearer.next b.name b.node b.deed in
      let g : Hearer = record b.hearer { next = suc b.hearer.next } in
      by_end es w d i (ap (λ x. x.world.bus.state.owners) b.is) (reader_sends g m) b.conn b.e b.is_here.there
      (puts_up then_ (plain m ∷ []) b.e (reader_sends g m b.e) refl refl refl refl refl
      (call_speech then_ b.e.who m (called_kind b.name b.node b.deed) (λ r is question q. absurd (no_none question (sym (user_plain b.hearer.next b.name b.node b.deed) ∙ q)))))
      (ap (λ x. x.world.ends) b.is)
    where
      called_kind : (name : List ℕ) (node : ℕ) (deed : Deed) → is_reply (user_call b.hearer.next name node deed) ≡ false
      called_kind name node (SetCaret at) = refl
      called_kind name node (InsertText at text) = refl
      called_kind name node (DeleteText from to) = refl
      called_kind name node (SetText text) = refl
      called_kind name node (SelectChild index) = refl
      called_kind name node (DeselectChild index) = refl
      called_kind name node SelectAll = refl
      called_kind name node ClearSelection = refl
      called_kind name node (DoAction index) = refl

  -- the registry
  registry_mail : RegistryTakes w d → Mail then_ d.world
  unfolding called_more
  registry_mail b =
      let step : RegistryStep = registry_takes b.before b.letter.said.message in
      let mail : IsMail es b.e.who b.letter = taken_mail b.conn b.e b.letter b.rest b.is_here.there b.is_here.standing b.link in
      by_both es w d i (ap (λ x. x.world.bus.state.owners) b.is) (registry_did step) b.conn b.e b.is_here.there (received_at w b.conn b.e b.letter b.is_here.there)
      (puts_up then_ (map plain step.sent) (taken_down b.e) (registry_did step (taken_down b.e)) refl refl refl refl refl
      (subst (λ p. AllByRecursion (IsSpeech then_ p) (map plain step.sent)) (sym b.whose) (its_speech step.sent mail (registry_replies b.before b.letter.said.message))))
      (ap (λ x. x.world.ends) b.is)
    where
      no_reader_registry : (r : ℕ) → Registry ≡ Reader r → ⊥
      no_reader_registry r h = false_true (ap (λ p. same_party p (Reader r)) h ∙ party-same (Reader r))

      its_speech : (xs : List Envelope) → IsMail es b.e.who b.letter → AllByRecursion (λ m. is_reply m ≡ true → IsItsReply b.letter.said.message m) xs → AllByRecursion (IsSpeech then_ Registry) (map plain xs)
      its_speech [] mail a = tt
      its_speech (x ∷ xs) mail a = (
        record {
          answers = λ h.
              let r = a.0 h in
              let c = taken_call es b.e.who b.letter r.0 mail r.1 in
              record { call = b.letter.said.message; called = called_more es d.entries b.letter.said.message c.0; to = r.2 ∙ ap Some (sym c.1); with_ = r.3; content = tt };
          asks = λ r is. absurd (no_reader_registry r is);
        },
        its_speech xs mail a.1,
      )

  -- who joins
  app_joins_mail : (name : List ℕ) → d ≡ app_starts w name → Mail then_ d.world
  app_joins_mail name is =
      by_join es w d i (ap (λ x. x.world.bus.state.owners) is) (new_app w name) (ap (λ x. x.world.ends) is ∙ app_joined w name) (λ h. false_true (ap (λ p. same_party p Registry) h)) (
        record { answers = λ h. absurd (false_true h); asks = λ r h. absurd (no_reader_app (app_count w.ends) r h) },
        tt,
      ) refl

  reader_joins_mail : d ≡ reader_starts w → Mail then_ d.world
  reader_joins_mail is =
      by_join es w d i (ap (λ x. x.world.bus.state.owners) is) (new_reader w) (ap (λ x. x.world.ends) is) (λ h. false_true (ap (λ p. same_party p Registry) h))
      (call_speech then_ (Reader (reader_count w.ends)) (asking 1 Hello) refl (λ r h question q. ap (asking 1) (same_some Hello question (sym hello_read ∙ q)))) refl

-- THE NAME OF AN END THAT IS HERE
pub named_is : (es : List Entry) (w : World) → Named es w → ((k : ℕ) (e : End) → end_at w.ends k ≡ Some e → e.who ≡ Registry → e.unique ≡ Some (codes ":1.0")) → (k : ℕ) (e : End) → end_at w.ends k ≡ Some e → e.standing ≡ here
    → (name : List ℕ) → unique_of w.bus.state.owners k ≡ Some name → NameIs es e.who name
named_is es w n registry k e there stands name own = by (same_party e.who Registry) refl
  where
    at : NamedAt es w.bus.state.owners k e
    at = n.ends k e there

    has : e.unique ≡ Some name
    has = sym (at.owner stands) ∙ own

    by : (b : Bool) → same_party e.who Registry ≡ b → NameIs es e.who name
    by true h = let r : e.who ≡ Registry = same-party e.who Registry h in inl (r, same_some name (codes ":1.0") (sym has ∙ registry k e there r))
    by false h = inr (sym (at.known (λ r. false_true (sym h ∙ ap (λ p. same_party p Registry) r))) ∙ has)

-- it is not the bus's
pub name_of_end : (es : List Entry) (who : Party) (name : List ℕ) → NameIs es who name → is_text (Some name) own_name ≡ false
name_of_end es who name (inl r) = ap (λ n. is_text (Some n) own_name) r.1
name_of_end es who name (inr h) = by (first_at (same_party who) (greeted es)) h
  where
    by : (o : Option ℕ) → option_map (λ n. unique_name (suc n)) o ≡ Some name → is_text (Some name) own_name ≡ false
    by None g = absurd (no_none name g)
    by (Some i) g = ap (λ o. is_text o own_name) (sym g)

-- A MESSAGE GOES TO WHOEVER HAS THE NAME THAT IT IS SENT TO
goes_to : (s : BusState) (m : Envelope) (to : List ℕ) (c : ℕ) → m.destination ≡ Some to → IsIn c (receivers s m) → IsIn c (owners_of s to)
goes_to s m to c h = by m.destination h
  where
    by : (o : Option (List ℕ)) → o ≡ Some to → IsIn c (receivers s (record m { destination = o })) → IsIn c (owners_of s to)
    by o g = subst (λ z. IsIn c (receivers s (record m { destination = z })) → IsIn c (owners_of s to)) (sym g) (λ x. x)

-- THE BUS TAKES A MESSAGE
module _ (es : List Entry) (w : World) (d : Done) (s : Shape w) (t : IsTold w) (g : Greeted w) (numbers : Numbered es w) (l : Linked es w) (n : Named es w) (k : Known es w) (after : Named (es ++ d.entries) d.world) (i : Mail es w) (b : BusTakes w d) where
  abbrev later : List Entry
  later = es ++ d.entries

  abbrev c0 : Carried
  c0 = record { bus = w.bus; ends = w.ends }

  abbrev step : BusStep
  step = bus_takes w.bus.state b.conn b.said.message (rule_in b.said.message)

  abbrev base : Carried
  base = record c0 { ends = with_end b.conn taken_up w.ends }

  abbrev done_ : Carried
  done_ = with_name b.conn (stepped (letter_of b.e.who b.said) base step)

  says_over : Over (Says_on later) w.ends d.world.ends
  says_over =
      subst (λ x. Over (Says_on later) w.ends x.world.ends) (sym b.is)
      (takes_over (Says_on later) (saying later) (λ m e. is_put later (own_letter m) e) (leaves_it later) (is_named later) (takes_up later) c0 b.conn b.e.who b.said (λ m e. is_put later (letter_of b.e.who b.said m) e))

  registry_now : (j : ℕ) (e : End) → end_at d.world.ends j ≡ Some e → e.who ≡ Registry → e.unique ≡ Some (codes ":1.0")
  registry_now j e h who = let x = says_over.back j e h in x.2.keeps (codes ":1.0") (i.registry j x.0 x.1 (sym x.2.whose ∙ who))

  -- who has a name behind the step
  named_now : (j : ℕ) (z : End) → end_at d.world.ends j ≡ Some z → z.standing ≡ here → (name : List ℕ) → unique_of step.state.owners j ≡ Some name → NameIs later z.who name
  named_now j z there stands name own = named_is later d.world after registry_now j z there stands name (names.owner_now es w d s t g numbers l n b j z there stands ∙ own)

  abbrev At : ℕ → Letter → Type 0
  At j letter = (z : End) → end_at d.world.ends j ≡ Some z → z.standing ≡ here → IsMail later z.who letter

  -- messages of the bus's own
  own_at : (serial : ℕ) → (serial == 1) ≡ false → (j : ℕ) (m : Envelope) → Fine serial m → At j (own_letter m)
  own_at serial other j m f z there stands =
      inl (record { from = refl; own = f.0; no_call = f.3; greets = λ two one. absurd (false_true (sym other ∙ eq-eqb serial 1 (same_some serial 1 (sym (f.1 two) ∙ one)))) })

  as_own : (j : ℕ) (m : Envelope) → IsOwn m → At j (own_letter m) → At j (letter_of b.e.who b.said m)
  as_own j m own a = subst (At j) (sym (ap (λ t. if t then own_letter m else record { from = b.e.who; said = record b.said { message = m } }) own)) a

  before_at : Downs At base.ends
  before_at = downs_with At taken_up b.conn w.ends (λ e a. a) (λ j e there. all_at j e there)
    where
      all_at : (j : ℕ) (e : End) → end_at w.ends j ≡ Some e → AllByRecursion (At j) e.down
      all_at j e there = each e.down (λ z at stands. by z at stands)
        where
          by : (z : End) → end_at d.world.ends j ≡ Some z → z.standing ≡ here → AllByRecursion (IsMail later z.who) e.down
          by z at stands =
              let x = says_over.back j z at in
              let same : x.0 ≡ e = same_some x.0 e (sym x.1 ∙ there) in
              let on : e.standing ≡ here = ap (λ (y : End). y.standing) (sym same) ∙ x.2.on stands in
              let who : e.who ≡ z.who = ap (λ (y : End). y.who) (sym same) ∙ sym x.2.whose in
              subst (λ p. AllByRecursion (IsMail later p) e.down) who (more_mail es d.entries e.who e.down (i.downs j e there on))

          each : (xs : List Letter) → ((z : End) → end_at d.world.ends j ≡ Some z → z.standing ≡ here → AllByRecursion (IsMail later z.who) xs) → AllByRecursion (At j) xs
          each [] f = tt
          each (x ∷ xs) f = ((λ z at stands. (f z at stands).0), each xs (λ z at stands. (f z at stands).1))

  after_all : AllByRecursion (Gives (PutsAt At (letter_of b.e.who b.said))) step.moves → Mail later d.world
  after_all gives = record {
    lists = subst (λ x. OwnLists x.world.bus.state.owners) (sym b.is) (settled_lists (length w.bus.state.joined) done_ (takes_lists w.bus.state b.conn b.said.message (rule_in b.said.message) i.lists));
    registry = registry_now;
    ups = λ j z there. let x = says_over.back j z there in x.2.up (more_speech es d.entries x.0.who x.0.up (i.ups j x.0 x.1));
    downs = λ j z there stands. all_of z.down j z there stands (whole j z (ap (λ x. end_at x.world.ends j) (sym b.is) ∙ there));
  }
    where
      whole : Downs At (settled (length w.bus.state.joined) done_).ends
      whole =
          settled_downs At (λ c m f. own_at 0 refl c m f) (length w.bus.state.joined) done_
          (downs_with At (named (stepped (letter_of b.e.who b.said) base step).bus b.conn) b.conn (stepped (letter_of b.e.who b.said) base step).ends (λ e a. a) (stepped_downs At (letter_of b.e.who b.said) base step gives before_at))

      all_of : (xs : List Letter) (j : ℕ) (z : End) → end_at d.world.ends j ≡ Some z → z.standing ≡ here → AllByRecursion (At j) xs → AllByRecursion (IsMail later z.who) xs
      all_of [] j z there stands a = tt
      all_of (x ∷ xs) j z there stands a = (a.0 z there stands, all_of xs j z there stands a.1)

  abbrev signed_as : List ℕ → Envelope
  signed_as own = record b.said.message { sender = Some own }

  -- of one that has its name
  took_named : (own : List ℕ) → unique_of w.bus.state.owners b.conn ≡ Some own → Mail later d.world
  took_named own has =
      after_all
      (takes_gives (PutsAt At (letter_of b.e.who b.said)) w.bus.state b.conn b.said.message (rule_in b.said.message) own has (λ c m f. as_own c m f.0 (own_at b.said.message.serial not_one c m f))
      (λ not_bus c is. post not_bus c is))
    where
      at : NamedAt es w.bus.state.owners b.conn b.e
      at = n.ends b.conn b.e b.is_here.there

      not_one : (b.said.message.serial == 1) ≡ false
      not_one =
          names.not_first b.e.who b.said.message.serial (count_got_by_bus es b.e.who) (no_bus w b.conn b.e s b.is_here.there) (names.serial_is es w d s t g numbers l n b) (at.said (ap is_some (sym (at.owner b.is_here.standing) ∙ has)))

      name_then : NameIs es b.e.who own
      name_then = named_is es w n i.registry b.conn b.e b.is_here.there b.is_here.standing own has

      speech : IsSpeech es b.e.who b.said
      speech = (subst (AllByRecursion (IsSpeech es b.e.who)) b.link (i.ups b.conn b.e b.is_here.there)).0

      said_ : IsSaid es b.e.who b.said
      said_ = (subst (AllByRecursion (IsSaid es b.e.who)) b.link (k b.conn b.e b.is_here.there).0).0

      same_owners : (c : ℕ) → unique_of step.state.owners c ≡ unique_of w.bus.state.owners c
      same_owners c = ap (λ u. finmap.get u c) (takes_same w.bus.state b.conn b.said.message (rule_in b.said.message) own has).0

      post : is_for_bus (signed_as own) ≡ false → (c : ℕ) → IsIn c (receivers w.bus.state (signed_as own)) → At c (letter_of b.e.who b.said (signed_as own))
      post not_bus c is =
          subst (At c) (sym (ap (λ t. if t then own_letter (signed_as own) else record { from = b.e.who; said = record b.said { message = (signed_as own) } }) (name_of_end es b.e.who own name_then)))
          (λ z there stands. inr (record {
            caller = own;
            sender = refl;
            name = name_more es d.entries b.e.who own name_then;
            first = b.said;
            sent_ = said_more es d.entries b.e.who b.said said_;
            alike = refl;
            speech = speech_more es d.entries b.e.who b.said speech;
            routed = λ to h u. named_now c z there stands to (same_owners c ∙ owner_has w.bus.state to c i.lists u (goes_to w.bus.state (signed_as own) to c h is));
            not_bus = not_bus;
          }))

  -- of one that says Hello
  took_hello : unique_of w.bus.state.owners b.conn ≡ None → Mail later d.world
  took_hello none =
      after_all
      (subst (λ (x : BusStep). AllByRecursion (Gives (PutsAt At (letter_of b.e.who b.said))) x.moves) (sym step_is)
      (greets_gives (PutsAt At (letter_of b.e.who b.said)) w.bus.state b.conn b.said.message (greets_lists w.bus.state b.conn b.said.message none i.lists) (λ c m f. as_own c m f.0 (own_at 0 refl c m f))
      (λ c m has f body. as_own c m f.0 (λ z there stands.
      inl (record {
        from = refl;
        own = f.0;
        no_call = f.3;
        greets = λ two one. (unique_name w.bus.state.owners.given, body, named_now c z there stands (unique_name w.bus.state.owners.given) (ap (λ (x : BusStep). unique_of x.state.owners c) step_is ∙ has));
      })))
      (hello_here w.bus.state b.conn b.said.message)))
    where
      hello : is_hello b.said.message ≡ true
      hello =
          let y = g.hello b.conn b.e b.is_here.there b.is_here.standing none in
          let same : y.0 ≡ b.said = ap (first_said b.said) (sym y.2 ∙ b.link) in
          subst (λ (m : Said). is_hello m.message ≡ true) same y.3
        where
          first_said : Said → List Said → Said
          first_said z [] = z
          first_said z (x ∷ xs) = x

      step_is : step ≡ greets w.bus.state b.conn b.said.message
      step_is = takes_hello w.bus.state b.conn b.said.message none hello

  pub took_mail : Mail later d.world
  took_mail = by (unique_of w.bus.state.owners b.conn) refl
    where
      by : (o : Option (List ℕ)) → unique_of w.bus.state.owners b.conn ≡ o → Mail later d.world
      by None h = took_hello h
      by (Some own) h = took_named own h

-- THE END OF ONE
module _ (es : List Entry) (w : World) (d : Done) (i : Mail es w) (b : BusEnds w d) where
  abbrev ended_ : List Entry
  ended_ = es ++ d.entries

  abbrev was : Carried
  was = record { bus = w.bus; ends = w.ends }

  over : Over (Says_on ended_) w.ends d.world.ends
  over = subst (λ x. Over (Says_on ended_) w.ends x.world.ends) (sym b.is) (ends_over (Says_on ended_) (saying ended_) (λ m e. is_put ended_ (own_letter m) e) (leaves_it ended_) was b.conn)

  abbrev Has : ℕ → Letter → Type 0
  Has j letter = (z : End) → end_at d.world.ends j ≡ Some z → z.standing ≡ here → IsMail ended_ z.who letter

  own_has : (j : ℕ) (m : Envelope) → Fine 0 m → Has j (own_letter m)
  own_has j m f z there stands =
      inl (record { from = refl; own = f.0; no_call = f.3; greets = λ two one. absurd (false_true (eq-eqb 0 1 (same_some 0 1 (sym (f.1 two) ∙ one)))) })

  at_first : Downs Has w.ends
  at_first j e there = each e.down (λ z at stands. by z at stands)
    where
      by : (z : End) → end_at d.world.ends j ≡ Some z → z.standing ≡ here → AllByRecursion (IsMail ended_ z.who) e.down
      by z at stands =
          let x = over.back j z at in
          let same : x.0 ≡ e = same_some x.0 e (sym x.1 ∙ there) in
          let on : e.standing ≡ here = ap (λ (y : End). y.standing) (sym same) ∙ x.2.on stands in
          let who : e.who ≡ z.who = ap (λ (y : End). y.who) (sym same) ∙ sym x.2.whose in
          subst (λ p. AllByRecursion (IsMail ended_ p) e.down) who (more_mail es d.entries e.who e.down (i.downs j e there on))

      each : (xs : List Letter) → ((z : End) → end_at d.world.ends j ≡ Some z → z.standing ≡ here → AllByRecursion (IsMail ended_ z.who) xs) → AllByRecursion (Has j) xs
      each [] f = tt
      each (x ∷ xs) f = ((λ z at stands. (f z at stands).0), each xs (λ z at stands. (f z at stands).1))

  pub ended_mail : Mail ended_ d.world
  ended_mail = record {
    lists = subst (λ x. OwnLists x.world.bus.state.owners) (sym b.is) (settled_lists (length w.bus.state.joined) (carrying.left was b.conn) (gone_lists w.bus.state.owners b.conn i.lists));
    registry = λ j e h who. let x = over.back j e h in x.2.keeps (codes ":1.0") (i.registry j x.0 x.1 (sym x.2.whose ∙ who));
    ups = λ j z there. let x = over.back j z there in x.2.up (more_speech es d.entries x.0.who x.0.up (i.ups j x.0 x.1));
    downs = λ j z there stands. all_of z.down j z there stands (whole j z (ap (λ x. end_at x.world.ends j) (sym b.is) ∙ there));
  }
    where
      whole : Downs Has (settled (length w.bus.state.joined) (carrying.left was b.conn)).ends
      whole = settled_downs Has own_has (length w.bus.state.joined) (carrying.left was b.conn) (left_downs Has own_has was b.conn at_first)

      all_of : (xs : List Letter) (j : ℕ) (z : End) → end_at d.world.ends j ≡ Some z → z.standing ≡ here → AllByRecursion (Has j) xs → AllByRecursion (IsMail ended_ z.who) xs
      all_of [] j z there stands a = tt
      all_of (x ∷ xs) j z there stands a = (a.0 z there stands, all_of xs j z there stands a.1)

-- AT THE BEGINNING
one_of : (b : Bool) → (b || false) ≡ true → b ≡ true
one_of true h = refl
one_of false h = h

first_mail : (es : List Entry) (quota : ℕ) → Mail es (first_world quota)
first_mail es quota = record {
  lists = lists;
  registry = λ k e h who. by k e h;
  ups = λ k e h. up k e h;
  downs = λ k e h stands. down k e h;
}
  where
    by : (k : ℕ) (e : End) → end_at (first_registry ∷ []) k ≡ Some e → e.unique ≡ Some (codes ":1.0")
    by zero e h = ap (λ (x : End). x.unique) (sym (same_some first_registry e h))
    by (suc k) e h = absurd (no_none e h)

    up : (k : ℕ) (e : End) → end_at (first_registry ∷ []) k ≡ Some e → AllByRecursion (IsSpeech es e.who) e.up
    up zero e h = subst (λ (x : End). AllByRecursion (IsSpeech es x.who) x.up) (same_some first_registry e h) tt
    up (suc k) e h = absurd (no_none e h)

    down : (k : ℕ) (e : End) → end_at (first_registry ∷ []) k ≡ Some e → AllByRecursion (IsMail es e.who) e.down
    down zero e h = subst (λ (x : End). AllByRecursion (IsMail es x.who) x.down) (same_some first_registry e h) tt
    down (suc k) e h = absurd (no_none e h)

    lists : OwnLists (first_world quota).bus.state.owners
    lists name k u st = found (eq_by_cmp (slice_cmp nat_cmp) name (codes ":1.0")) refl (eq_by_cmp (slice_cmp nat_cmp) name registry_name) refl (sym (ap (λ o. stands k (unwrap_or o [])) (get-from_sorted (slice_cmp nat_cmp) first_lists name tt)) ∙ st)
      where
        found : (b : Bool) → eq_by_cmp (slice_cmp nat_cmp) name (codes ":1.0") ≡ b → (c : Bool) → eq_by_cmp (slice_cmp nat_cmp) name registry_name ≡ c
            → stands k (unwrap_or (cond b (Some ((0, 0) ∷ [])) (cond c (Some ((0, 4) ∷ [])) None)) []) ≡ true → unique_of (first_world quota).bus.state.owners k ≡ Some name
        found true g c h q = only k q (names_apart name (codes ":1.0") (equal_of_tie _ g))
          where
            only : (j : ℕ) → stands j ((0, 0) ∷ []) ≡ true → name ≡ codes ":1.0" → unique_of (first_world quota).bus.state.owners j ≡ Some name
            only zero q same = get-from_sorted nat_cmp first_unique 0 tt ∙ ap Some (sym same)
            only (suc j) q same = let zero_ : 0 ≡ suc j = eqb-true 0 (suc j) (one_of (0 == suc j) q) in absurd (omega (arith, zero_))
        found false g true h q = absurd (false_true (ap is_unique_name (sym (names_apart name registry_name (equal_of_tie _ h))) ∙ u))
        found false g false h q = absurd (false_true q)

-- EACH CAUSE
caused : (es : List Entry) (w : World) (d : Done) → Shape w → Trees es w → IsTold w → Greeted w → Numbered es w → Linked es w → Named es w → Known es w → Named (es ++ d.entries) d.world → Mail es w → Selves es w → Effect w d → Mail (es ++ d.entries) d.world
caused es w d s t o g m l n k after i j (resets quota few is) = subst (λ x. Mail (es ++ x.entries) x.world) (sym is) (first_mail (es ++ []) quota)
caused es w d s t o g m l n k after i j (app_joins name short is) = app_joins_mail es w d s t i name is
caused es w d s t o g m l n k after i j (reader_joins few is) = reader_joins_mail es w d s t i is
caused es w d s t o g m l n k after i j (app_edited b) = edits_mail es w d s t i b
caused es w d s t o g m l n k after i j (app_took b) = takes_mail es w d s t i j b
caused es w d s t o g m l n k after i j (reader_called b) = calls_mail es w d s t i b
caused es w d s t o g m l n k after i j (swapped b) = by_same es w d i (ap (λ x. x.world.bus.state.owners) b.is) (ap (λ x. x.world.ends) b.is)
caused es w d s t o g m l n k after i j (exited_ b) =
    by_end es w d i (ap (λ x. x.world.bus.state.owners) b.is) stops b.conn b.e b.is_here.there (no_longer (es ++ d.entries) b.e (stops b.e) refl refl refl refl, λ a. a) (ap (λ x. x.world.ends) b.is)
caused es w d s t o g m l n k after i j (showed_ b) = by_same es w d i (ap (λ x. x.world.bus.state.owners) b.is) (ap (λ x. x.world.ends) b.is)
caused es w d s t o g m l n k after i j (told_busy turns is) = by_same es w d i (ap (λ x. x.world.bus.state.owners) is) (ap (λ x. x.world.ends) is)
caused es w d s t o g m l n k after i j (told_quiet none is) = by_same es w d i (ap (λ x. x.world.bus.state.owners) is) (ap (λ x. x.world.ends) is)
caused es w d s t o g m l n k after i j (bus_took b) = took_mail es w d s o g m l n k after i b
caused es w d s t o g m l n k after i j (bus_ended b) = ended_mail es w d i b
caused es w d s t o g m l n k after i j (registry_took b) = registry_mail es w d s t i b
caused es w d s t o g m l n k after i j (reader_took b) =
    let v : World = received w b.conn b.e b.letter in
    let f : End → End = λ x. record x { role = a_reader (hears_letter b.hearer v.ends b.letter) } in
    by_both es w d i (ap (λ x. x.world.bus.state.owners) b.is) f b.conn b.e b.is_here.there (received_at w b.conn b.e b.letter b.is_here.there) (stays_as (es ++ d.entries) (taken_down b.e) (f (taken_down b.e)) refl refl refl refl refl)
    (ap (λ x. x.world.ends) b.is)

abbrev pub Under_mail : List Entry → World → Type 0
Under_mail es w = And (And Nothing Bounded) (And (And Under Taken) (And Under_names Named)) es w

-- and what each application knows of itself
abbrev pub Known_mail : List Entry → World → Type 0
Known_mail es w = Mail es w × Selves es w

asks_mail : (es : List Entry) (w : World) (conn r : ℕ) (m : Envelope) (question : Question) → Mail es w → Asks w conn r m question → Mail (es ++ sent (Reader r) m ∷ []) (at_end w conn (asks_at m question))
asks_mail es w conn r m question i a =
    mail_over es (sent (Reader r) m ∷ []) w (at_end w conn (asks_at m question)) i i.lists
    (over_at (Goes_on ys) (going ys) (asks_at m question) conn w.ends a.asker a.is_here.there
    (subst (λ x. Goes_on ys a.asker (asks_as x m question a.asker)) (sym a.reader)
    (puts_up ys (plain m ∷ []) a.asker (reader_sends (asks question a.hearer) m a.asker) refl refl refl refl refl
    (call_speech ys a.asker.who m (subst (λ (x : Envelope). is_reply x ≡ false) (sym a.spelled) (no_reply_asked question)) spelled))))
  where
    ys : List Entry
    ys = es ++ sent (Reader r) m ∷ []

    no_reply_asked : (q : Question) → is_reply (asking a.hearer.next q) ≡ false
    no_reply_asked Hello = refl
    no_reply_asked (AddMatch rule) = refl
    no_reply_asked (RegisterEvent pattern) = refl
    no_reply_asked GetChildren = refl
    no_reply_asked (GetItems name) = refl
    no_reply_asked (GetPart name path Text) = refl
    no_reply_asked (GetPart name path Caret) = refl
    no_reply_asked (GetPart name path Columns) = refl

    spelled : (q : ℕ) → a.asker.who ≡ Reader q → (other : Question) → question_in m ≡ Some other → m ≡ asking m.serial other
    spelled q is other h =
        a.spelled ∙ ap₂ asking (sym (ap (λ (x : Envelope). x.serial) a.spelled)) (same_some question other (sym a.read ∙ h))

mail_grows : Grows Under_mail Known_mail
mail_grows = record {
  begins = (first_mail [] QUOTA_MOST, first_selves [] QUOTA_MOST);
  caused = λ es w d s a i e after b.
      let u = a.1.0 in
      let n = a.1.1 in (
        caused es w d s u.0.0.0.0.1.1 n.0.0.0.1 n.0.0.1.0 u.0.0.0.1 u.0.0.1 n.1 u.1.1 b.1.1.1 i.0 i.1 e,
        caused_selves es w d u.0.0.0.1 (few_greeted es w n.1 a.0.1) i.1 (λ conn x letter rest at link. (subst (AllByRecursion (IsMail es x.who)) link (i.0.downs conn x at.there at.standing)).0) e,
      );
  moved = λ es w v s a i m. subst (λ l. Known_mail l v) (append-nil es) (by es w v i.0 m, moved_selves es w v i.1 m);
  asked = λ es w conn r m question s a i asks. (asks_mail es w conn r m question i.0 asks, asked_selves es w conn r m question i.1 asks);
}
  where
    by : (es : List Entry) (w v : World) → Mail es w → (MovedUp w v ⊎ MovedDown w v) → Mail (es ++ []) v
    by es w v i (inl m) =
        mail_over es [] w v i (subst (λ (x : World). OwnLists x.bus.state.owners) (sym m.after) i.lists)
        (subst (λ (x : World). Over (Goes_on (es ++ [])) w.ends x.ends) (sym m.after)
        (over_with (Goes_on (es ++ [])) (going (es ++ [])) (λ e. record e { up_moved = e.up_moved + m.count }) (λ e. stays_as (es ++ []) e (record e { up_moved = e.up_moved + m.count }) refl refl refl refl refl) m.conn w.ends))
    by es w v i (inr m) =
        mail_over es [] w v i (subst (λ (x : World). OwnLists x.bus.state.owners) (sym m.after) i.lists)
        (subst (λ (x : World). Over (Goes_on (es ++ [])) w.ends x.ends) (sym m.after)
        (over_with (Goes_on (es ++ [])) (going (es ++ [])) (λ e. record e { down_moved = e.down_moved + m.count }) (λ e. stays_as (es ++ []) e (record e { down_moved = e.down_moved + m.count }) refl refl refl refl refl) m.conn w.ends))

pub mail_keeps : Keeps (Shaped (And Under_mail Known_mail))
mail_keeps =
    grown Under_mail Known_mail
    (both_keep (And Nothing Bounded) (And (And Under Taken) (And Under_names Named)) bounds_keep (both_keep (And Under Taken) (And Under_names Named) taken_keeps names_keep)) mail_grows
