-- Who returns a call to the registry's name: the registry alone. The bus returns calls to itself, and nobody but the registry takes a call that goes there, since it has its name as long as it is here.
use Rattle.std.proofs.Common.{◌≡◌, ◌⊎◌, inl, inr, ℕ, zero, suc, ◌+◌, ◌≤◌, Bool, true, false, List, [], ◌∷◌, ◌++◌, length, map, Option, None, Some, refl, sym, ap, ap₂, ◌∙◌, subst, arith}
use Rattle.std.specs.Prelude.{◌==◌, ◌||◌, codes, bytes_eq, unwrap_or, is_some, if◌then◌else◌}
use Rattle.std.specs.Ordering.{nat_cmp}
use Rattle.std.specs.Cmp.Lexicographic.{slice_cmp}
use Rattle.std.specs.List.{AllByRecursion}
use Rattle.std.specs.FinMap.{get-from_sorted}
use Rattle.std.proofs.lemmas.List.{append-nil}
use Rattle.std.proofs.lemmas.Slice.Eq.{bytes_eq-Decides}
use Rattle.atspi_script_lines.specs.declared.deed.Deed.{Deed}
use Rattle.atspi_script_lines.specs.declared.deed.Deed.TheVariants.{SetCaret, InsertText, DeleteText, SetText, SelectChild, DeselectChild, SelectAll, ClearSelection, DoAction}
use Rattle.atspi_script_lines.specs.declared.limits.TheConstants.{QUOTA_MOST}
use Rattle.atspi_script_lines.specs.declared.line.Party.{Party}
use Rattle.atspi_script_lines.specs.declared.line.Party.TheVariants.{Bus as The_bus, Registry, App, Reader}
use Rattle.atspi_message.specs.Envelope.{Envelope}
use Rattle.atspi_names.specs.Owners.{own_name}
use Rattle.atspi_protocol.specs.ends.Places.{registry}
use Rattle.atspi_protocol.specs.ends.Messages.{Reply, returns, fails, reply_to}
use Rattle.atspi_protocol.specs.registering.Steps.{RegistryStep, registry_takes}
use Rattle.atspi_protocol.specs.exporting.Exporter.{StartCall, hello, add_match, get_registered_events, embed, Exporter}
use Rattle.atspi_protocol.specs.exporting.Starting.{start_call}
use Rattle.atspi_protocol.specs.exporting.Taking.{app_takes, answer_to}
use Rattle.atspi_protocol.specs.following.Calls.{asking, user_call}
use Rattle.atspi_protocol.specs.declared.following.question.Question.{Question}
use Rattle.atspi_protocol.specs.declared.following.question.Question.TheVariants.{Hello, AddMatch, RegisterEvent, GetChildren, GetItems, GetPart}
use Rattle.atspi_protocol.specs.declared.news.part.PartName.TheVariants.{Text, Caret, Columns}
use Rattle.atspi_base.specs.valid_names.Names.{is_unique_name}
use Rattle.atspi_match.specs.declared.condition.Condition.{Condition}
use Rattle.atspi_match.specs.routing.BusState.{BusState, unique_of}
use Rattle.atspi_match.specs.routing.OwnMessages.{error_to}
use Rattle.atspi_match.specs.routing.Answers.{fails as fails_bus}
use Rattle.atspi_match.specs.routing.Members.{is_text}
use Rattle.atspi_match.specs.routing.Routing.{receivers, owners_of, is_for_bus, is_reply, expects_reply}
use Rattle.atspi_match.specs.routing.Steps.{Move, says, delivers, closes, BusStep, handed, speaks, replies, called, undeliverable, is_unowned, is_hello, greets, bus_takes}
use Rattle.atspi_trace.specs.Entry.{Entry, sent}
use Rattle.atspi_trace.specs.Rules.{rule_in}
use Rattle.atspi_trace.specs.World.{here, a_reader, Hearer, Said, Letter, first_lists, first_registry, first_world, End, World}
use Rattle.atspi_trace.specs.Ends.{is_here, end_at, with_end, plain, put_down, rest_of, taken_up, taken_down, stops, leaves, reader_count}
use Rattle.atspi_trace.specs.Carrying as carrying
use Rattle.atspi_trace.specs.Carrying.{Carried, own_letter, letter_of, stepped, named, with_name, settled}
use Rattle.atspi_trace.specs.Hearing.{hears_letter}
use Rattle.atspi_trace.specs.Causes.{Done, at_end, saids, has_done, reader_sends, asks, registry_did, app_starts, reader_starts}
use Rattle.atspi_trace.specs.Due.{asks_as, asks_at}
use Rattle.atspi_trace_laws.specs.laws.Words.{message}
use Rattle.atspi_trace_laws.specs.laws.NineLaws.{sent_before, count_got_by_bus}
use Rattle.atspi_trace_laws.proofs.OfOrder.Parties.{no_none, same_some, false_true, all_append}
use Rattle.atspi_trace_laws.proofs.OfOrder.Allowed.{MovedUp, MovedDown, Asks}
use Rattle.atspi_trace_laws.proofs.OfOrder.Frame.{Over, IsOrder, over_same, over_both, over_with, over_at, takes_over, ends_over, joined_cases}
use Rattle.atspi_trace_laws.proofs.OfOrder.Shape.{Shape}
use Rattle.atspi_trace_laws.proofs.OfOrder.Effects.{received, AppEdits, AppTakes, ReaderCalls, BusTakes, BusEnds, RegistryTakes, Effect, resets, app_joins, reader_joins, app_edited, app_took, reader_called, swapped, exited_, showed_, told_busy, told_quiet, bus_took, bus_ended, registry_took, reader_took}
use Rattle.atspi_trace_laws.proofs.OfOrder.Shaped.{received_at, new_app, new_reader, app_joined}
use Rattle.atspi_trace_laws.proofs.OfOrder.Along.{Keeps}
use Rattle.atspi_trace_laws.proofs.OfOrder.Growing.{Grows, Shaped, And, grown}
use Rattle.atspi_trace_laws.proofs.OfOrder.Each.{all_map}
use Rattle.atspi_trace_laws.proofs.OfSteps.Steps.{Trees}
use Rattle.atspi_trace_laws.proofs.OfLinks.LawLinks.{Linked, no_bus, first_unread}
use Rattle.atspi_trace_laws.proofs.OfLinks.Ups.{Ups}
use Rattle.atspi_trace_laws.proofs.OfTaken.Found.{found_more}
use Rattle.atspi_trace_laws.proofs.OfTaken.Said.{IsSaid}
use Rattle.atspi_trace_laws.proofs.OfTaken.LawTaken.{Known}
use Rattle.atspi_trace_laws.proofs.OfNames.Places.{greeted}
use Rattle.atspi_trace_laws.proofs.OfNames.LawNames.{NamedAt, Named}
use Rattle.atspi_trace_laws.proofs.OfNames.LawEnds.{few_greeted}
use Rattle.atspi_trace_laws.proofs.OfSigned.Mail.{NameIs, name_more, IsOwn, IsMail}
use Rattle.atspi_trace_laws.proofs.OfSigned.Self.{unique_told, one_named, for_bus_true}
use Rattle.atspi_trace_laws.proofs.OfSigned.Speech.{IsReplyTo, RepliesOnly, takes_replies, edit_silent, IsItsReply, registry_replies}
use Rattle.atspi_trace_laws.proofs.OfSigned.Unique.{IsIn}
use Rattle.atspi_trace_laws.proofs.OfSigned.LawMail.{Mail, Under_mail, Known_mail, mail_keeps, named_is}
use Rattle.atspi_trace_laws.proofs.OfSigned.Handing.{Fine, Gives, handed_gives, speaks_gives, takes_gives, Downs, downs_with, PutsAt, stepped_downs, left_downs, settled_downs}
use Rattle.atspi_trace_laws.proofs.OfMissed.Returning.{ReturnsTo, OwnOrOther, takes_to, greets_to, not_the_bus}
use Rattle.atspi_trace_caches.proofs.OfServed.Owning.{KeepsName, asks_name, takes_keep, gone_keeps, settled_keep, goes_first}
use Rattle.atspi_trace_caches.proofs.OfServed.Sending.{Sends, said_sends, takes_send, edits_send, registry_sends}

-- WHAT A REPLY ANSWERS: a call of who has the name that it goes to; one that went to the registry's name only the registry answers, and one that went to a unique name who has it
pub record CallOf (es : List Entry) (who : Party) (caller : List ℕ) (serial : ℕ) : Type 0 where
  pub from : Party
  pub name : NameIs es from caller
  pub first : Envelope
  pub was : message es from serial ≡ Some first
  pub its : first.destination ≡ Some registry → who ≡ Registry
  pub named : (to : List ℕ) → first.destination ≡ Some to → is_unique_name to ≡ true → NameIs es who to

pub record RepliesTo (es : List Entry) (who : Party) (m : Envelope) : Type 0 where
  pub caller : List ℕ
  pub serial : ℕ
  pub to : m.destination ≡ Some caller
  pub with_ : m.reply ≡ Some serial
  pub known : (caller ≡ own_name) ⊎ CallOf es who caller serial

abbrev pub AnswersOwn : List Entry → Party → Envelope → Type 0
AnswersOwn es who m = is_reply m ≡ true → RepliesTo es who m

-- a call that asks for no name
abbrev pub NoNaming : Envelope → Type 0
NoNaming m = m.kind ≡ 1 → asks_name m ≡ true → ⊥

-- what an end says
abbrev pub Speaks : List Entry → Party → Said → Type 0
Speaks es who said = NoNaming said.message × AnswersOwn es who said.message

-- a letter: of the bus, which returns only calls to itself (Hello is the first message, and no message has the number 0); or of an end
abbrev pub BusAnswers : List Entry → Party → Envelope → Type 0
BusAnswers es who m = m.kind ≡ 2 → (n : ℕ) → m.reply ≡ Some n → 2 ≤ n → (first : Envelope) × (message es who n ≡ Some first) × (is_for_bus first ≡ true)

pub record OfEnd (es : List Entry) (who : Party) (letter : Letter) : Type 0 where
  pub other : is_text letter.said.message.sender own_name ≡ false
  pub answers : AnswersOwn es letter.from letter.said.message
  pub routed : letter.said.message.destination ≡ Some registry → who ≡ Registry

abbrev pub Fits : List Entry → Party → Letter → Type 0
Fits es who letter = (IsOwn letter.said.message × BusAnswers es who letter.said.message) ⊎ OfEnd es who letter

-- WHAT IS KEPT
pub record Rightly (es : List Entry) (w : World) : Type 0 where
  pub owned : KeepsName w.bus.state.owners
  pub ups : (k : ℕ) (e : End) → end_at w.ends k ≡ Some e → AllByRecursion (Speaks es e.who) e.up
  pub downs : (k : ℕ) (e : End) → end_at w.ends k ≡ Some e → e.standing ≡ here → AllByRecursion (Fits es e.who) e.down

-- more entries
call_more : (es ys : List Entry) (who : Party) (caller : List ℕ) (serial : ℕ) → CallOf es who caller serial → CallOf (es ++ ys) who caller serial
call_more es ys who caller serial c = record {
  from = c.from;
  name = name_more es ys c.from caller c.name;
  first = c.first;
  was = found_more es ys c.from serial c.first c.was;
  its = c.its;
  named = λ to h u. name_more es ys who to (c.named to h u);
}

replies_more : (es ys : List Entry) (who : Party) (m : Envelope) → RepliesTo es who m → RepliesTo (es ++ ys) who m
replies_more es ys who m r = record { caller = r.caller; serial = r.serial; to = r.to; with_ = r.with_; known = by r.known }
  where
    by : (r.caller ≡ own_name) ⊎ CallOf es who r.caller r.serial → (r.caller ≡ own_name) ⊎ CallOf (es ++ ys) who r.caller r.serial
    by (inl h) = inl h
    by (inr c) = inr (call_more es ys who r.caller r.serial c)

answers_more : (es ys : List Entry) (who : Party) (m : Envelope) → AnswersOwn es who m → AnswersOwn (es ++ ys) who m
answers_more es ys who m a h = replies_more es ys who m (a h)

speaks_more : (es ys : List Entry) (who : Party) (said : Said) → Speaks es who said → Speaks (es ++ ys) who said
speaks_more es ys who said s = (s.0, answers_more es ys who said.message s.1)

fits_more : (es ys : List Entry) (who : Party) (letter : Letter) → Fits es who letter → Fits (es ++ ys) who letter
fits_more es ys who letter (inl b) =
    inl (b.0, λ two n reply more. let x = b.1 two n reply more in (x.0, found_more es ys who n x.0 x.1, x.2))
fits_more es ys who letter (inr o) = inr (record { other = o.other; answers = answers_more es ys letter.from letter.said.message o.answers; routed = o.routed })

-- AN END AFTERWARDS
pub record Says_on (es : List Entry) (e d : End) : Type 0 where
  pub whose : d.who ≡ e.who
  pub on : d.standing ≡ here → e.standing ≡ here
  pub up : AllByRecursion (Speaks es e.who) e.up → AllByRecursion (Speaks es d.who) d.up

saying : (es : List Entry) → IsOrder (Says_on es)
saying es = record {
  same = λ e. record { whose = refl; on = λ h. h; up = λ a. a };
  both = λ e d c f g. record { whose = g.whose ∙ f.whose; on = λ h. f.on (g.on h); up = λ a. g.up (f.up a) };
}

abbrev Goes_on : List Entry → End → End → Type 0
Goes_on es e d = Says_on es e d × (AllByRecursion (Fits es e.who) e.down → AllByRecursion (Fits es d.who) d.down)

going : (es : List Entry) → IsOrder (Goes_on es)
going es = record {
  same = λ e. ((saying es).same e, λ a. a);
  both = λ e d c f g. ((saying es).both e d c f.0 g.0, λ a. g.1 (f.1 a));
}

alike : (es : List Entry) (e d : End) → d.who ≡ e.who → d.standing ≡ e.standing → (AllByRecursion (Speaks es e.who) e.up → AllByRecursion (Speaks es e.who) d.up) → Says_on es e d
alike es e d who standing up = record {
  whose = who;
  on = λ h. sym standing ∙ h;
  up = λ a. subst (λ p. AllByRecursion (Speaks es p) d.up) (sym who) (up a);
}

all_rest : {X : Type 0} (P : X → Type 0) (xs : List X) → AllByRecursion P xs → AllByRecursion P (rest_of xs)
all_rest P [] a = tt
all_rest P (x ∷ xs) a = a.1

puts_up : (es : List Entry) (more : List Said) (e d : End) → d.who ≡ e.who → d.standing ≡ e.standing → d.up ≡ e.up ++ more → d.down ≡ e.down → AllByRecursion (Speaks es e.who) more → Goes_on es e d
puts_up es more e d who standing up down a = (
  alike es e d who standing (λ old. subst (AllByRecursion (Speaks es e.who)) (sym up) (all_append (Speaks es e.who) e.up more old a)),
  λ old. subst (λ p. AllByRecursion (Fits es p) d.down) (sym who) (subst (AllByRecursion (Fits es e.who)) (sym down) old),
)

stays_as : (es : List Entry) (e d : End) → d.who ≡ e.who → d.standing ≡ e.standing → d.up ≡ e.up → d.down ≡ e.down → Goes_on es e d
stays_as es e d who standing up down = puts_up es [] e d who standing (up ∙ sym (append-nil e.up)) down tt

takes_down : (es : List Entry) (e : End) → Goes_on es e (taken_down e)
takes_down es e = (alike es e (taken_down e) refl refl (λ a. a), λ a. all_rest (Fits es e.who) e.down a)

no_longer : (es : List Entry) (e d : End) → d.who ≡ e.who → is_here d.standing ≡ false → d.up ≡ [] → Says_on es e d
no_longer es e d who gone up = record {
  whose = who;
  on = λ h. absurd (false_true (sym gone ∙ ap is_here h));
  up = λ a. subst (AllByRecursion (Speaks es d.who)) (sym up) tt;
}

takes_up : (es : List Entry) (e : End) → Says_on es e (taken_up e)
takes_up es e = alike es e (taken_up e) refl refl (λ a. all_rest (Speaks es e.who) e.up a)

is_put : (es : List Entry) (letter : Letter) (e : End) → Says_on es e (put_down letter e)
is_put es letter e = alike es e (put_down letter e) refl refl (λ a. a)

more_ups : (es ys : List Entry) (who : Party) (xs : List Said) → AllByRecursion (Speaks es who) xs → AllByRecursion (Speaks (es ++ ys) who) xs
more_ups es ys who xs a = all_map (Speaks es who) (Speaks (es ++ ys) who) xs (speaks_more es ys who) a

more_downs : (es ys : List Entry) (who : Party) (xs : List Letter) → AllByRecursion (Fits es who) xs → AllByRecursion (Fits (es ++ ys) who) xs
more_downs es ys who xs a = all_map (Fits es who) (Fits (es ++ ys) who) xs (fits_more es ys who) a

over_rightly : (es ys : List Entry) (w v : World) → Rightly es w → KeepsName v.bus.state.owners → Over (Goes_on (es ++ ys)) w.ends v.ends → Rightly (es ++ ys) v
over_rightly es ys w v i owned o = record {
  owned = owned;
  ups = λ k d h. let x = o.back k d h in x.2.0.up (more_ups es ys x.0.who x.0.up (i.ups k x.0 x.1));
  downs = λ k d h stands. let x = o.back k d h in x.2.1 (more_downs es ys x.0.who x.0.down (i.downs k x.0 x.1 (x.2.0.on stands)));
}

-- one end acts
module _ (es : List Entry) (w : World) (d : Done) (i : Rightly es w) (owners : d.world.bus.state.owners ≡ w.bus.state.owners) where
  abbrev now : List Entry
  now = es ++ d.entries

  owned_now : KeepsName d.world.bus.state.owners
  owned_now = subst KeepsName (sym owners) i.owned

  by_same : d.world.ends ≡ w.ends → Rightly now d.world
  by_same is = over_rightly es d.entries w d.world i owned_now (subst (Over (Goes_on now) w.ends) (sym is) (over_same (Goes_on now) (going now) w.ends))

  by_end : (f : End → End) (conn : ℕ) (e : End) → end_at w.ends conn ≡ Some e → Goes_on now e (f e) → d.world.ends ≡ with_end conn f w.ends → Rightly now d.world
  by_end f conn e there g is = over_rightly es d.entries w d.world i owned_now (subst (Over (Goes_on now) w.ends) (sym is) (over_at (Goes_on now) (going now) f conn w.ends e there g))

  by_both : (f : End → End) (conn : ℕ) (e : End) → end_at w.ends conn ≡ Some e → end_at (with_end conn taken_down w.ends) conn ≡ Some (taken_down e) → Goes_on now (taken_down e) (f (taken_down e))
      → d.world.ends ≡ with_end conn f (with_end conn taken_down w.ends) → Rightly now d.world
  by_both f conn e there taken g is =
      over_rightly es d.entries w d.world i owned_now
      (subst (Over (Goes_on now) w.ends) (sym is)
      (over_both (Goes_on now) (going now) w.ends (with_end conn taken_down w.ends) (with_end conn f (with_end conn taken_down w.ends)) (over_with (Goes_on now) (going now) taken_down (takes_down now) conn w.ends)
      (over_at (Goes_on now) (going now) f conn (with_end conn taken_down w.ends) (taken_down e) taken g)))

  by_join : (n : End) → d.world.ends ≡ w.ends ++ n ∷ [] → AllByRecursion (Speaks now n.who) n.up → n.down ≡ [] → Rightly now d.world
  by_join n is up down = record {
    owned = owned_now;
    ups = λ k e h. says k e (joined_cases w.ends n k e (ap (λ l. end_at l k) (sym is) ∙ h));
    downs = λ k e h stands. told k e stands (joined_cases w.ends n k e (ap (λ l. end_at l k) (sym is) ∙ h));
  }
    where
      says : (k : ℕ) (e : End) → ((end_at w.ends k ≡ Some e) ⊎ ((k ≡ length w.ends) × (e ≡ n))) → AllByRecursion (Speaks now e.who) e.up
      says k e (inl h) = more_ups es d.entries e.who e.up (i.ups k e h)
      says k e (inr h) = subst (λ (x : End). AllByRecursion (Speaks now x.who) x.up) (sym h.1) up

      told : (k : ℕ) (e : End) → e.standing ≡ here → ((end_at w.ends k ≡ Some e) ⊎ ((k ≡ length w.ends) × (e ≡ n))) → AllByRecursion (Fits now e.who) e.down
      told k e stands (inl h) = more_downs es d.entries e.who e.down (i.downs k e h stands)
      told k e stands (inr h) = subst (λ (x : End). AllByRecursion (Fits now x.who) x.down) (sym h.1) (subst (AllByRecursion (Fits now n.who)) (sym down) tt)

-- WHAT IS SAID
four_one : ◌≡◌ {A = ℕ} 4 1 → ⊥
four_one h = omega (arith, h)

two_one : ◌≡◌ {A = ℕ} 2 1 → ⊥
two_one h = omega (arith, h)

three_one : ◌≡◌ {A = ℕ} 3 1 → ⊥
three_one h = omega (arith, h)

signal_names : (e : Envelope) → e.kind ≡ 4 → NoNaming e
signal_names e four one = absurd (four_one (sym four ∙ one))

reply_names : (caller : List ℕ) (serial : ℕ) (r : Reply) → NoNaming (reply_to caller serial r)
reply_names caller serial (returns values) one = absurd (two_one one)
reply_names caller serial (fails word) one = absurd (three_one one)

start_names : (name : List ℕ) (call : StartCall) → NoNaming (start_call name call)
start_names name hello one h = false_true h
start_names name add_match one h = false_true h
start_names name get_registered_events one h = false_true h
start_names name embed one h = false_true h

number_names : (n : ℕ) (e : Envelope) → NoNaming e → NoNaming (record e { serial = n })
number_names n e h = h

user_names : (serial : ℕ) (name : List ℕ) (node : ℕ) (deed : Deed) → NoNaming (user_call serial name node deed) × (is_reply (user_call serial name node deed) ≡ false)
user_names serial name node (SetCaret at) = ((λ one h. false_true h), refl)
user_names serial name node (InsertText at text) = ((λ one h. false_true h), refl)
user_names serial name node (DeleteText from to) = ((λ one h. false_true h), refl)
user_names serial name node (SetText text) = ((λ one h. false_true h), refl)
user_names serial name node (SelectChild index) = ((λ one h. false_true h), refl)
user_names serial name node (DeselectChild index) = ((λ one h. false_true h), refl)
user_names serial name node SelectAll = ((λ one h. false_true h), refl)
user_names serial name node ClearSelection = ((λ one h. false_true h), refl)
user_names serial name node (DoAction index) = ((λ one h. false_true h), refl)

own_names : (serial : ℕ) (q : Question) → NoNaming (asking serial q) × (is_reply (asking serial q) ≡ false)
own_names serial Hello = ((λ one h. false_true h), refl)
own_names serial (AddMatch text) = ((λ one h. false_true h), refl)
own_names serial (RegisterEvent pattern) = ((λ one h. false_true h), refl)
own_names serial GetChildren = ((λ one h. false_true h), refl)
own_names serial (GetItems name) = ((λ one h. false_true h), refl)
own_names serial (GetPart name path Text) = ((λ one h. false_true h), refl)
own_names serial (GetPart name path Caret) = ((λ one h. false_true h), refl)
own_names serial (GetPart name path Columns) = ((λ one h. false_true h), refl)

call_speaks : (es : List Entry) (who : Party) (m : Envelope) → NoNaming m × (is_reply m ≡ false) → AllByRecursion (Speaks es who) (plain m ∷ [])
call_speaks es who m f = ((f.0, λ h. absurd (false_true (sym f.1 ∙ h))), tt)

-- whose call a reply answers, where an end takes the call
text_is : (o : Option (List ℕ)) (caller : List ℕ) → o ≡ Some caller → is_text o own_name ≡ true → caller ≡ own_name
text_is o caller h t = (bytes_eq-Decides caller own_name).0 (ap (λ z. is_text z own_name) (sym h) ∙ t)

answers_taken : (es : List Entry) (who : Party) (letter : Letter) (caller : List ℕ) → IsMail es who letter → Fits es who letter → letter.said.message.sender ≡ Some caller
    → (caller ≡ own_name) ⊎ CallOf es who caller letter.said.message.serial
answers_taken es who letter caller (inl b) fits sender = inl (text_is letter.said.message.sender caller sender b.own)
answers_taken es who letter caller (inr p) (inl own) sender = inl (text_is letter.said.message.sender caller sender own.0)
answers_taken es who letter caller (inr p) (inr o) sender =
    let same : p.caller ≡ caller = same_some p.caller caller (sym p.sender ∙ sender) in
    inr (record {
      from = letter.from;
      name = subst (NameIs es letter.from) same p.name;
      first = p.first.message;
      was = ap (λ (z : Said). message es letter.from z.message.serial) p.alike ∙ p.sent_.was;
      its = λ h. o.routed (ap (λ (z : Said). z.message.destination) p.alike ∙ h);
      named = λ to h u. p.routed to (ap (λ (z : Said). z.message.destination) p.alike ∙ h) u;
    })

reply_for : (caller : List ℕ) (serial : ℕ) (r : Reply) → ((reply_to caller serial r).destination ≡ Some caller) × ((reply_to caller serial r).reply ≡ Some serial)
reply_for caller serial (returns values) = (refl, refl)
reply_for caller serial (fails word) = (refl, refl)

replies_known : (es ys : List Entry) (who : Party) (caller : List ℕ) (serial : ℕ) → (caller ≡ own_name) ⊎ CallOf es who caller serial → (caller ≡ own_name) ⊎ CallOf (es ++ ys) who caller serial
replies_known es ys who caller serial (inl h) = inl h
replies_known es ys who caller serial (inr c) = inr (call_more es ys who caller serial c)

app_speaks : (es ys : List Entry) (who : Party) (letter : Letter) (s : Exporter) (said : Said) → IsMail es who letter → Fits es who letter → NoNaming said.message → RepliesOnly (IsReplyTo s letter.said.message) said → Speaks (es ++ ys) who said
app_speaks es ys who letter s said mail fits names f = (
  names,
  λ h.
      let r : IsReplyTo s letter.said.message said = f h in
      let for = reply_for r.caller letter.said.message.serial (answer_to s r.name letter.said.message).reply in
      record {
        caller = r.caller;
        serial = letter.said.message.serial;
        to = ap (λ (m : Envelope). m.destination) r.message ∙ for.0;
        with_ = ap (λ (m : Envelope). m.reply) r.message ∙ for.1;
        known = replies_known es ys who r.caller letter.said.message.serial (answers_taken es who letter r.caller mail fits r.sender);
      },
)

all_app_speak : (es ys : List Entry) (who : Party) (letter : Letter) (s : Exporter) (xs : List Said) → IsMail es who letter → Fits es who letter
    → AllByRecursion (λ (said : Said). NoNaming said.message) xs → AllByRecursion (RepliesOnly (IsReplyTo s letter.said.message)) xs → AllByRecursion (Speaks (es ++ ys) who) xs
all_app_speak es ys who letter s [] mail fits a b = tt
all_app_speak es ys who letter s (x ∷ xs) mail fits a b = (app_speaks es ys who letter s x mail fits a.0 b.0, all_app_speak es ys who letter s xs mail fits a.1 b.1)

all_silent : (es : List Entry) (who : Party) (xs : List Said) → AllByRecursion (λ (said : Said). NoNaming said.message) xs → AllByRecursion (RepliesOnly (λ said. ⊥)) xs → AllByRecursion (Speaks es who) xs
all_silent es who [] a b = tt
all_silent es who (x ∷ xs) a b = ((a.0, λ h. absurd (b.0 h)), all_silent es who xs a.1 b.1)

module _ (es : List Entry) (w : World) (d : Done) (t : Trees es w) (mail : Mail es w) (i : Rightly es w) where
  abbrev then_ : List Entry
  then_ = es ++ d.entries

  taken_mail : (conn : ℕ) (e : End) (letter : Letter) (rest : List Letter) → end_at w.ends conn ≡ Some e → e.standing ≡ here → e.down ≡ letter ∷ rest → IsMail es e.who letter × Fits es e.who letter
  taken_mail conn e letter rest there stands link = ((subst (AllByRecursion (IsMail es e.who)) link (mail.downs conn e there stands)).0, (subst (AllByRecursion (Fits es e.who)) link (i.downs conn e there stands)).0)

  edits_rightly : AppEdits w d → Rightly then_ d.world
  edits_rightly b =
      let empty = (t b.conn b.app b.e b.before b.is_here.there b.whose b.role).empty in
      by_end es w d i (ap (λ x. x.world.bus.state.owners) b.is) (has_done b.before b.after) b.conn b.e b.is_here.there
      (puts_up then_ (saids b.before b.before.tree None b.after.out) b.e (has_done b.before b.after b.e) refl refl refl refl
      (all_silent then_ b.e.who (saids b.before b.before.tree None b.after.out)
      (said_sends NoNaming b.before b.before.tree None b.after.out (edits_send NoNaming number_names signal_names reply_names start_names b.before b.after b.edit b.done (subst (Sends NoNaming) (sym empty) tt)))
      (edit_silent (λ said. ⊥) b.before b.after b.edit b.done empty)))
      (ap (λ x. x.world.ends) b.is)

  takes_rightly : AppTakes w d → Rightly then_ d.world
  takes_rightly b =
      let after : Exporter = app_takes b.before b.letter.said.message in
      let empty = (t b.conn b.app b.e b.before b.is_here.there b.whose b.role).empty in
      let m = taken_mail b.conn b.e b.letter b.rest b.is_here.there b.is_here.standing b.link in
      by_both es w d i (ap (λ x. x.world.bus.state.owners) b.is) (has_done b.before after) b.conn b.e b.is_here.there (received_at w b.conn b.e b.letter b.is_here.there)
      (puts_up then_ (saids b.before b.before.tree None after.out) (taken_down b.e) (has_done b.before after (taken_down b.e)) refl refl refl refl
      (all_app_speak es d.entries b.e.who b.letter b.before (saids b.before b.before.tree None after.out) m.0 m.1
      (said_sends NoNaming b.before b.before.tree None after.out (takes_send NoNaming number_names signal_names reply_names start_names b.before b.letter.said.message (subst (Sends NoNaming) (sym empty) tt)))
      (takes_replies b.before b.letter.said.message empty)))
      (ap (λ x. x.world.ends) b.is)

  calls_rightly : ReaderCalls w d → Rightly then_ d.world
  calls_rightly b =
      let m : Envelope = user_call b.hearer.next b.name b.node b.deed in
      let g : Hearer = record b.hearer { next = suc b.hearer.next } in
      by_end es w d i (ap (λ x. x.world.bus.state.owners) b.is) (reader_sends g m) b.conn b.e b.is_here.there
      (puts_up then_ (plain m ∷ []) b.e (reader_sends g m b.e) refl refl refl refl (call_speaks then_ b.e.who m (user_names b.hearer.next b.name b.node b.deed)))
      (ap (λ x. x.world.ends) b.is)

  registry_rightly : RegistryTakes w d → Rightly then_ d.world
  registry_rightly b =
      let step : RegistryStep = registry_takes b.before b.letter.said.message in
      let m = taken_mail b.conn b.e b.letter b.rest b.is_here.there b.is_here.standing b.link in
      by_both es w d i (ap (λ x. x.world.bus.state.owners) b.is) (registry_did step) b.conn b.e b.is_here.there (received_at w b.conn b.e b.letter b.is_here.there)
      (puts_up then_ (map plain step.sent) (taken_down b.e) (registry_did step (taken_down b.e)) refl refl refl refl
      (its_speech step.sent m.0 m.1 (registry_sends NoNaming number_names signal_names reply_names (λ child n one h. false_true h) b.before b.letter.said.message) (registry_replies b.before b.letter.said.message)))
      (ap (λ x. x.world.ends) b.is)
    where
      its_speech : (xs : List Envelope) → IsMail es b.e.who b.letter → Fits es b.e.who b.letter → AllByRecursion NoNaming xs → AllByRecursion (λ m. is_reply m ≡ true → IsItsReply b.letter.said.message m) xs → AllByRecursion (Speaks then_ b.e.who) (map plain xs)
      its_speech [] mail_ fits a r = tt
      its_speech (x ∷ xs) mail_ fits a r = (
        (
          a.0,
          λ h.
              let y = r.0 h in
              record { caller = y.0; serial = b.letter.said.message.serial; to = y.2; with_ = y.3; known = replies_known es d.entries b.e.who y.0 b.letter.said.message.serial (answers_taken es b.e.who b.letter y.0 mail_ fits y.1) },
        ),
        its_speech xs mail_ fits a.1 r.1,
      )

  app_joins_rightly : (name : List ℕ) → d ≡ app_starts w name → Rightly then_ d.world
  app_joins_rightly name is =
      by_join es w d i (ap (λ x. x.world.bus.state.owners) is) (new_app w name) (ap (λ x. x.world.ends) is ∙ app_joined w name) (((λ one h. false_true h), λ h. absurd (false_true h)), tt) refl

  reader_joins_rightly : d ≡ reader_starts w → Rightly then_ d.world
  reader_joins_rightly is =
      by_join es w d i (ap (λ x. x.world.bus.state.owners) is) (new_reader w) (ap (λ x. x.world.ends) is) (call_speaks then_ (Reader (reader_count w.ends)) (asking 1 Hello) (own_names 1 Hello)) refl

-- THE BUS TAKES A MESSAGE: what it returns of its own are calls to itself
abbrev ForBus : Envelope → ℕ → Envelope → Type 0
ForBus e c m = is_text m.sender own_name ≡ true → m.kind ≡ 2 → is_for_bus e ≡ true

gives_any : (H : ℕ → Envelope → Type 0) → ((c : ℕ) (m : Envelope) → H c m) → (moves : List Move) → AllByRecursion (Gives H) moves
gives_any H f [] = tt
gives_any H f (delivers c m ∷ moves) = (f c m, gives_any H f moves)
gives_any H f (says m ∷ moves) = (tt, gives_any H f moves)
gives_any H f (closes c ∷ moves) = (tt, gives_any H f moves)

pub gives_both : (H K J : ℕ → Envelope → Type 0) → ((c : ℕ) (m : Envelope) → H c m → K c m → J c m) → (moves : List Move) → AllByRecursion (Gives H) moves → AllByRecursion (Gives K) moves → AllByRecursion (Gives J) moves
gives_both H K J f [] a b = tt
gives_both H K J f (delivers c m ∷ moves) a b = (f c m a.0 b.0, gives_both H K J f moves a.1 b.1)
gives_both H K J f (says m ∷ moves) a b = (tt, gives_both H K J f moves a.1 b.1)
gives_both H K J f (closes c ∷ moves) a b = (tt, gives_both H K J f moves a.1 b.1)

three_two : ◌≡◌ {A = ℕ} 3 2 → ⊥
three_two h = omega (arith, h)

mine : bytes_eq own_name own_name ≡ true
mine = (bytes_eq-Decides own_name own_name).1 refl

-- an error is no return
abbrev NoReturn : ℕ → Envelope → Type 0
NoReturn c m = m.kind ≡ 2 → ⊥

zero_one : ◌≡◌ {A = ℕ} 0 1 → ⊥
zero_one h = omega (arith, h)

errors_fine : (n : ℕ) (s : BusState) (conn : ℕ) (e : Envelope) (name : List ℕ) → AllByRecursion (Fine n) (replies s conn e (fails_bus name))
errors_fine n s conn e name = by (expects_reply e)
  where
    by : (b : Bool) → AllByRecursion (Fine n) (if b then error_to (unique_of s.owners conn) e.serial name ∷ [] else [])
    by true = ((mine, λ k. absurd (three_two k), refl, three_one), tt)
    by false = tt

errors_give : (s : BusState) (conn : ℕ) (e : Envelope) (name : List ℕ) → AllByRecursion (Gives NoReturn) (speaks s (replies s conn e (fails_bus name))).moves
errors_give s conn e name =
    gives_both (λ c m. Fine 0 m) (λ c m. Fine 1 m) NoReturn (λ c m f g two. zero_one (same_some 0 1 (sym (f.1 two) ∙ g.1 two))) (speaks s (replies s conn e (fails_bus name))).moves
    (speaks_gives (λ c m. Fine 0 m) 0 s (replies s conn e (fails_bus name)) (λ c m f. f) (errors_fine 0 s conn e name))
    (speaks_gives (λ c m. Fine 1 m) 1 s (replies s conn e (fails_bus name)) (λ c m f. f) (errors_fine 1 s conn e name))

for_bus_by : (a b c : Bool) (s : BusState) (conn : ℕ) (e : Envelope) (own : List ℕ) (rule : Option (List Condition)) (t : BusStep) → (a ≡ true → is_for_bus e ≡ true) → e.sender ≡ Some own → is_unique_name own ≡ true → t.moves ≡ handed s e
    → AllByRecursion (Gives (ForBus e)) (if a then (if b then called s conn e rule else speaks s []) else (if c then undeliverable s conn e else t)).moves
for_bus_by true true c s conn e own rule t f sender unique is = gives_any (ForBus e) (λ k m own_ two. f refl) (called s conn e rule).moves
for_bus_by true false c s conn e own rule t f sender unique is = tt
for_bus_by false b true s conn e own rule t f sender unique is =
    gives_both NoReturn NoReturn (ForBus e) (λ k m g h own_ two. absurd (g two)) (undeliverable s conn e).moves (errors_give s conn e (codes "ServiceUnknown")) (errors_give s conn e (codes "ServiceUnknown"))
for_bus_by false b false s conn e own rule t f sender unique is =
    subst (AllByRecursion (Gives (ForBus e))) (sym is)
    (handed_gives (ForBus e) e (receivers s e) (λ k i own_ two. absurd (false_true (sym (subst (λ z. is_text z own_name ≡ false) (sym sender) (not_the_bus own unique)) ∙ own_))))

takes_for : (s : BusState) (conn : ℕ) (e : Envelope) (rule : Option (List Condition)) (own : List ℕ) → unique_of s.owners conn ≡ Some own → is_unique_name own ≡ true
    → AllByRecursion (Gives (ForBus (record e { sender = Some own }))) (bus_takes s conn e rule).moves
takes_for s conn e rule own named_ unique =
    let m : Envelope = record e { sender = Some own } in
    rw named_ (for_bus_by (is_for_bus m) (e.kind == 1) (is_unowned e.destination (receivers s m)) s conn m own rule _ (λ h. h) refl unique refl)

-- a message goes to whoever has the name that it is sent to
goes_to : (s : BusState) (m : Envelope) (to : List ℕ) (c : ℕ) → m.destination ≡ Some to → IsIn c (receivers s m) → IsIn c (owners_of s to)
goes_to s m to c h = by m.destination h
  where
    by : (o : Option (List ℕ)) → o ≡ Some to → IsIn c (receivers s (record m { destination = o })) → IsIn c (owners_of s to)
    by o g = subst (λ z. IsIn c (receivers s (record m { destination = z })) → IsIn c (owners_of s to)) (sym g) (λ x. x)

same_for : (e : Envelope) (own : List ℕ) → is_for_bus (record e { sender = Some own }) ≡ true → is_for_bus e ≡ true
same_for e own = by e.destination
  where
    by : (d : Option (List ℕ)) → is_for_bus (record e { sender = Some own; destination = d }) ≡ true → is_for_bus (record e { destination = d }) ≡ true
    by None g = g
    by (Some name) g = g

module _ (es : List Entry) (w : World) (d : Done) (s : Shape w) (after : Shape d.world) (l : Linked es w) (n : Named es w) (few : length (greeted es) ≤ 1000) (k : Known es w) (mail : Mail es w) (i : Rightly es w) (b : BusTakes w d) where
  abbrev later : List Entry
  later = es ++ d.entries

  abbrev c0 : Carried
  c0 = record { bus = w.bus; ends = w.ends }

  abbrev e0 : Envelope
  e0 = b.said.message

  abbrev step : BusStep
  step = bus_takes w.bus.state b.conn e0 (rule_in e0)

  abbrev base : Carried
  base = record c0 { ends = with_end b.conn taken_up w.ends }

  abbrev done_ : Carried
  done_ = with_name b.conn (stepped (letter_of b.e.who b.said) base step)

  says_over : Over (Says_on later) w.ends d.world.ends
  says_over =
      subst (λ x. Over (Says_on later) w.ends x.world.ends) (sym b.is)
      (takes_over (Says_on later) (saying later) (λ m e. is_put later (own_letter m) e) (λ e. no_longer later e (leaves e) refl refl refl) (λ t conn e. alike later e (named t conn e) refl refl (λ a. a)) (takes_up later) c0 b.conn b.e.who b.said
      (λ m e. is_put later (letter_of b.e.who b.said m) e))

  said_ : message es b.e.who e0.serial ≡ Some e0
  said_ = (subst (AllByRecursion (IsSaid es b.e.who)) b.link (k b.conn b.e b.is_here.there).0).0.was

  speaks_ : Speaks es b.e.who b.said
  speaks_ = (subst (AllByRecursion (Speaks es b.e.who)) b.link (i.ups b.conn b.e b.is_here.there)).0

  at : NamedAt es w.bus.state.owners b.conn b.e
  at = n.ends b.conn b.e b.is_here.there

  abbrev At : ℕ → Letter → Type 0
  At j letter = (z : End) → end_at d.world.ends j ≡ Some z → z.standing ≡ here → Fits later z.who letter

  too_low : (a c : ℕ) → a ≡ c → c ≡ 0 → 2 ≤ a → ⊥
  too_low a c same zero_ more = omega (arith, same, zero_, more)

  own_at : (c : ℕ) (m : Envelope) → Fine 0 m → At c (own_letter m)
  own_at c m f z there on = inl (f.0, λ two q reply more. absurd (too_low q 0 (sym (same_some 0 q (sym (f.1 two) ∙ reply))) refl more))

  as_own : (c : ℕ) (m : Envelope) → IsOwn m → At c (own_letter m) → At c (letter_of b.e.who b.said m)
  as_own c m own a = subst (At c) (sym (ap (λ t. if t then own_letter m else record { from = b.e.who; said = record b.said { message = m } }) own)) a

  before_at : Downs At base.ends
  before_at = downs_with At taken_up b.conn w.ends (λ e a. a) (λ j e there. each j e.down (λ z at_ on. by j e there z at_ on))
    where
      by : (j : ℕ) (e : End) → end_at w.ends j ≡ Some e → (z : End) → end_at d.world.ends j ≡ Some z → z.standing ≡ here → AllByRecursion (Fits later z.who) e.down
      by j e there z at_ stands =
          let x = says_over.back j z at_ in
          let same : x.0 ≡ e = same_some x.0 e (sym x.1 ∙ there) in
          let on : e.standing ≡ here = ap (λ (y : End). y.standing) (sym same) ∙ x.2.on stands in
          let who : e.who ≡ z.who = ap (λ (y : End). y.who) (sym same) ∙ sym x.2.whose in
          subst (λ p. AllByRecursion (Fits later p) e.down) who (more_downs es d.entries e.who e.down (i.downs j e there on))

      each : (j : ℕ) (xs : List Letter) → ((z : End) → end_at d.world.ends j ≡ Some z → z.standing ≡ here → AllByRecursion (Fits later z.who) xs) → AllByRecursion (At j) xs
      each j [] f = tt
      each j (x ∷ xs) f = ((λ z at_ stands. (f z at_ stands).0), each j xs (λ z at_ stands. (f z at_ stands).1))

  -- of one that has its name
  module _ (own : List ℕ) (named_ : unique_of w.bus.state.owners b.conn ≡ Some own) where
    abbrev signed_as : Envelope
    signed_as = record e0 { sender = Some own }

    has_b : NameIs es b.e.who own
    has_b = named_is es w n mail.registry b.conn b.e b.is_here.there b.is_here.standing own named_

    unique : is_unique_name own ≡ true
    unique = unique_told es b.e.who own has_b

    returned_at : (c : ℕ) (m : Envelope) → ReturnsTo w.bus.state.owners own e0.serial c m → ForBus signed_as c m → At c (own_letter m)
    returned_at c m f for z there stands =
        inl (
          f.0,
          λ two q reply more.
              let x = says_over.back c z there in
              let has_c : NameIs es x.0.who own = named_is es w n mail.registry c x.0 x.1 (x.2.on stands) own (f.1 two).1 in
              let party : z.who ≡ b.e.who = x.2.whose ∙ one_named es x.0.who b.e.who own few has_c has_b in
              let is_q : e0.serial ≡ q = same_some e0.serial q (sym (f.1 two).0 ∙ reply) in
              (e0, found_more es d.entries z.who q e0 (ap₂ (message es) party (sym is_q) ∙ said_), same_for e0 own (for f.0 two)),
        )

    abbrev ItOrOwn : ℕ → Envelope → Type 0
    ItOrOwn c m = IsOwn m ⊎ ((m ≡ signed_as) × IsIn c (receivers w.bus.state signed_as))

    passed_at : (c : ℕ) → IsIn c (receivers w.bus.state signed_as) → At c (letter_of b.e.who b.said signed_as)
    passed_at c is =
        subst (At c) (sym (ap (λ t. if t then own_letter signed_as else record { from = b.e.who; said = record b.said { message = signed_as } }) (not_the_bus own unique)))
        (λ z there stands. inr (record {
          other = not_the_bus own unique;
          answers = λ h. let r : RepliesTo es b.e.who e0 = speaks_.1 h in replies_more es d.entries b.e.who signed_as (record { caller = r.caller; serial = r.serial; to = r.to; with_ = r.with_; known = r.known });
          routed = λ h. after.registry z (ap (end_at d.world.ends) (sym (goes_first w.bus.state c i.owned (goes_to w.bus.state signed_as registry c h is))) ∙ there);
        }))

    abbrev Mine : ℕ → Envelope → Type 0
    Mine c m = OwnOrOther w.bus.state.owners own e0.serial c m × ForBus signed_as c m

    one_at : (c : ℕ) (m : Envelope) → Mine c m → ItOrOwn c m → PutsAt At (letter_of b.e.who b.said) c m
    one_at c m f (inr x) = subst (λ y. At c (letter_of b.e.who b.said y)) (sym x.0) (passed_at c x.1)
    one_at c m f (inl own_) = own_by f.0
      where
        own_by : OwnOrOther w.bus.state.owners own e0.serial c m → PutsAt At (letter_of b.e.who b.said) c m
        own_by (inl g) = as_own c m own_ (returned_at c m g f.1)
        own_by (inr other) = absurd (false_true (sym other ∙ own_))

    named_gives : AllByRecursion (Gives (PutsAt At (letter_of b.e.who b.said))) step.moves
    named_gives =
        gives_both Mine ItOrOwn (PutsAt At (letter_of b.e.who b.said)) one_at step.moves
        (gives_both (OwnOrOther w.bus.state.owners own e0.serial) (ForBus signed_as) Mine (λ c m f g. (f, g)) step.moves (takes_to w.bus.state b.conn e0 (rule_in e0) own named_ unique mail.lists) (takes_for w.bus.state b.conn e0 (rule_in e0) own named_ unique))
        (takes_gives ItOrOwn w.bus.state b.conn e0 (rule_in e0) own named_ (λ c m f. inl f.0) (λ not_bus c is. inr (refl, is)))

  -- of one that has none: its first message
  first_said : unique_of w.bus.state.owners b.conn ≡ None → e0.serial ≡ 1
  first_said none = party b.e.who refl (at.unsaid nobody) ((subst (Ups (first_unread es b.e.who)) b.link (l.1 b.conn b.e b.is_here.there (ap is_here b.is_here.standing)).ups).0)
    where
      nobody : b.e.unique ≡ None
      nobody = sym (at.owner b.is_here.standing) ∙ none

      party : (p : Party) → b.e.who ≡ p → count_got_by_bus es b.e.who ≡ 0 → e0.serial ≡ first_unread es b.e.who → e0.serial ≡ 1
      party The_bus is zero_ next = absurd (no_bus w b.conn b.e s b.is_here.there is)
      party Registry is zero_ next = absurd (false_true (ap is_some (sym nobody) ∙ at.registry is))
      party (App a) is zero_ next = let before_ : sent_before b.e.who ≡ 0 = ap sent_before is in omega (arith, zero_, next, before_)
      party (Reader a) is zero_ next = let before_ : sent_before b.e.who ≡ 0 = ap sent_before is in omega (arith, zero_, next, before_)

  greeted_at : e0.serial ≡ 1 → (c : ℕ) (m : Envelope) → Fine e0.serial m → At c (own_letter m)
  greeted_at one c m f z there on = inl (f.0, λ two q reply more. absurd (too_one q (sym one ∙ same_some e0.serial q (sym (f.1 two) ∙ reply)) more))
    where
      too_one : (q : ℕ) → 1 ≡ q → 2 ≤ q → ⊥
      too_one q is more = omega (arith, is, more)

  gives : AllByRecursion (Gives (PutsAt At (letter_of b.e.who b.said))) step.moves
  gives = by (unique_of w.bus.state.owners b.conn) refl
    where
      hello_by : (t : Bool) → e0.serial ≡ 1 → AllByRecursion (Gives (PutsAt At (letter_of b.e.who b.said))) (if t then greets w.bus.state b.conn e0 else record { state = w.bus.state; moves = closes b.conn ∷ [] }).moves
      hello_by true one =
          gives_both (λ c m. Fine e0.serial m) (λ c m. Unit {0}) (PutsAt At (letter_of b.e.who b.said)) (λ c m f u. as_own c m f.0 (greeted_at one c m f)) (greets w.bus.state b.conn e0).moves (greets_to w.bus.state b.conn e0)
          (gives_any (λ c m. Unit {0}) (λ c m. tt) (greets w.bus.state b.conn e0).moves)
      hello_by false one = (tt, tt)

      by : (o : Option (List ℕ)) → unique_of w.bus.state.owners b.conn ≡ o → AllByRecursion (Gives (PutsAt At (letter_of b.e.who b.said))) step.moves
      by None none = rw none (hello_by (is_hello e0) (first_said none))
      by (Some own) h = named_gives own h

  no_first : unique_of w.bus.state.owners b.conn ≡ None → 0 ≡ b.conn → ⊥
  no_first none zero_ =
      let who : b.e.who ≡ Registry = s.registry b.e (ap (end_at w.ends) zero_ ∙ b.is_here.there) in
      false_true (ap is_some (sym (sym (at.owner b.is_here.standing) ∙ none)) ∙ at.registry who)

  took_rightly : Rightly later d.world
  took_rightly = record {
    owned = subst (λ x. KeepsName x.world.bus.state.owners) (sym b.is) (settled_keep (length w.bus.state.joined) done_ (takes_keep w.bus.state b.conn e0 (rule_in e0) (λ for one. speaks_.0 one) no_first i.owned));
    ups = λ j z there. let x = says_over.back j z there in x.2.up (more_ups es d.entries x.0.who x.0.up (i.ups j x.0 x.1));
    downs = λ j z there stands. all_of z.down j z there stands (whole j z (ap (λ x. end_at x.world.ends j) (sym b.is) ∙ there));
  }
    where
      whole : Downs At (settled (length w.bus.state.joined) done_).ends
      whole =
          settled_downs At own_at (length w.bus.state.joined) done_
          (downs_with At (named (stepped (letter_of b.e.who b.said) base step).bus b.conn) b.conn (stepped (letter_of b.e.who b.said) base step).ends (λ e a. a) (stepped_downs At (letter_of b.e.who b.said) base step gives before_at))

      all_of : (xs : List Letter) (j : ℕ) (z : End) → end_at d.world.ends j ≡ Some z → z.standing ≡ here → AllByRecursion (At j) xs → AllByRecursion (Fits later z.who) xs
      all_of [] j z there stands a = tt
      all_of (x ∷ xs) j z there stands a = (a.0 z there stands, all_of xs j z there stands a.1)

-- THE END OF ONE
module _ (es : List Entry) (w : World) (d : Done) (i : Rightly es w) (b : BusEnds w d) where
  abbrev ended_ : List Entry
  ended_ = es ++ d.entries

  abbrev was : Carried
  was = record { bus = w.bus; ends = w.ends }

  over : Over (Says_on ended_) w.ends d.world.ends
  over = subst (λ x. Over (Says_on ended_) w.ends x.world.ends) (sym b.is) (ends_over (Says_on ended_) (saying ended_) (λ m e. is_put ended_ (own_letter m) e) (λ e. no_longer ended_ e (leaves e) refl refl refl) was b.conn)

  abbrev Has : ℕ → Letter → Type 0
  Has j letter = (z : End) → end_at d.world.ends j ≡ Some z → z.standing ≡ here → Fits ended_ z.who letter

  own_has : (c : ℕ) (m : Envelope) → Fine 0 m → Has c (own_letter m)
  own_has c m f z there on = inl (f.0, λ two q reply more. absurd (too_low q (sym (same_some 0 q (sym (f.1 two) ∙ reply))) more))
    where
      too_low : (a : ℕ) → a ≡ 0 → 2 ≤ a → ⊥
      too_low a zero_ more = omega (arith, zero_, more)

  at_first : Downs Has w.ends
  at_first j e there = each e.down (λ z at stands. by z at stands)
    where
      by : (z : End) → end_at d.world.ends j ≡ Some z → z.standing ≡ here → AllByRecursion (Fits ended_ z.who) e.down
      by z at stands =
          let x = over.back j z at in
          let same : x.0 ≡ e = same_some x.0 e (sym x.1 ∙ there) in
          let on : e.standing ≡ here = ap (λ (y : End). y.standing) (sym same) ∙ x.2.on stands in
          let who : e.who ≡ z.who = ap (λ (y : End). y.who) (sym same) ∙ sym x.2.whose in
          subst (λ p. AllByRecursion (Fits ended_ p) e.down) who (more_downs es d.entries e.who e.down (i.downs j e there on))

      each : (xs : List Letter) → ((z : End) → end_at d.world.ends j ≡ Some z → z.standing ≡ here → AllByRecursion (Fits ended_ z.who) xs) → AllByRecursion (Has j) xs
      each [] f = tt
      each (x ∷ xs) f = ((λ z at stands. (f z at stands).0), each xs (λ z at stands. (f z at stands).1))

  ended_rightly : Rightly ended_ d.world
  ended_rightly = record {
    owned = subst (λ x. KeepsName x.world.bus.state.owners) (sym b.is) (settled_keep (length w.bus.state.joined) (carrying.left was b.conn) (gone_keeps w.bus.state.owners b.conn i.owned));
    ups = λ j z there. let x = over.back j z there in x.2.up (more_ups es d.entries x.0.who x.0.up (i.ups j x.0 x.1));
    downs = λ j z there stands. all_of z.down j z there stands (whole j z (ap (λ x. end_at x.world.ends j) (sym b.is) ∙ there));
  }
    where
      whole : Downs Has (settled (length w.bus.state.joined) (carrying.left was b.conn)).ends
      whole = settled_downs Has own_has (length w.bus.state.joined) (carrying.left was b.conn) (left_downs Has own_has was b.conn at_first)

      all_of : (xs : List Letter) (j : ℕ) (z : End) → end_at d.world.ends j ≡ Some z → z.standing ≡ here → AllByRecursion (Has j) xs → AllByRecursion (Fits ended_ z.who) xs
      all_of [] j z there stands a = tt
      all_of (x ∷ xs) j z there stands a = (a.0 z there stands, all_of xs j z there stands a.1)

-- AT THE BEGINNING
first_rightly : (es : List Entry) (quota : ℕ) → Rightly es (first_world quota)
first_rightly es quota = record {
  owned = inl (ap (λ o. unwrap_or o []) (get-from_sorted (slice_cmp nat_cmp) first_lists registry tt));
  ups = λ k e h. up k e h;
  downs = λ k e h stands. down k e h;
}
  where
    up : (k : ℕ) (e : End) → end_at (first_registry ∷ []) k ≡ Some e → AllByRecursion (Speaks es e.who) e.up
    up zero e h = subst (λ (x : End). AllByRecursion (Speaks es x.who) x.up) (same_some first_registry e h) tt
    up (suc k) e h = absurd (no_none e h)

    down : (k : ℕ) (e : End) → end_at (first_registry ∷ []) k ≡ Some e → AllByRecursion (Fits es e.who) e.down
    down zero e h = subst (λ (x : End). AllByRecursion (Fits es x.who) x.down) (same_some first_registry e h) tt
    down (suc k) e h = absurd (no_none e h)

-- EACH CAUSE
caused : (es : List Entry) (w : World) (d : Done) → Shape w → Shape d.world → Trees es w → Linked es w → Named es w → length (greeted es) ≤ 1000 → Known es w → Mail es w → Rightly es w → Effect w d → Rightly (es ++ d.entries) d.world
caused es w d s after t l n few k mail i (resets quota old is) = subst (λ x. Rightly (es ++ x.entries) x.world) (sym is) (first_rightly (es ++ []) quota)
caused es w d s after t l n few k mail i (app_joins name short is) = app_joins_rightly es w d t mail i name is
caused es w d s after t l n few k mail i (reader_joins old is) = reader_joins_rightly es w d t mail i is
caused es w d s after t l n few k mail i (app_edited b) = edits_rightly es w d t mail i b
caused es w d s after t l n few k mail i (app_took b) = takes_rightly es w d t mail i b
caused es w d s after t l n few k mail i (reader_called b) = calls_rightly es w d t mail i b
caused es w d s after t l n few k mail i (swapped b) = by_same es w d i (ap (λ x. x.world.bus.state.owners) b.is) (ap (λ x. x.world.ends) b.is)
caused es w d s after t l n few k mail i (exited_ b) =
    by_end es w d i (ap (λ x. x.world.bus.state.owners) b.is) stops b.conn b.e b.is_here.there (no_longer (es ++ d.entries) b.e (stops b.e) refl refl refl, λ a. a) (ap (λ x. x.world.ends) b.is)
caused es w d s after t l n few k mail i (showed_ b) = by_same es w d i (ap (λ x. x.world.bus.state.owners) b.is) (ap (λ x. x.world.ends) b.is)
caused es w d s after t l n few k mail i (told_busy turns is) = by_same es w d i (ap (λ x. x.world.bus.state.owners) is) (ap (λ x. x.world.ends) is)
caused es w d s after t l n few k mail i (told_quiet none is) = by_same es w d i (ap (λ x. x.world.bus.state.owners) is) (ap (λ x. x.world.ends) is)
caused es w d s after t l n few k mail i (bus_took b) = took_rightly es w d s after l n few k mail i b
caused es w d s after t l n few k mail i (bus_ended b) = ended_rightly es w d i b
caused es w d s after t l n few k mail i (registry_took b) = registry_rightly es w d t mail i b
caused es w d s after t l n few k mail i (reader_took b) =
    let v : World = received w b.conn b.e b.letter in
    let f : End → End = λ x. record x { role = a_reader (hears_letter b.hearer v.ends b.letter) } in
    by_both es w d i (ap (λ x. x.world.bus.state.owners) b.is) f b.conn b.e b.is_here.there (received_at w b.conn b.e b.letter b.is_here.there) (stays_as (es ++ d.entries) (taken_down b.e) (f (taken_down b.e)) refl refl refl refl)
    (ap (λ x. x.world.ends) b.is)

asks_rightly : (es : List Entry) (w : World) (conn r : ℕ) (m : Envelope) (question : Question) → Rightly es w → Asks w conn r m question → Rightly (es ++ sent (Reader r) m ∷ []) (at_end w conn (asks_at m question))
asks_rightly es w conn r m question i a =
    over_rightly es (sent (Reader r) m ∷ []) w (at_end w conn (asks_at m question)) i i.owned
    (over_at (Goes_on ys) (going ys) (asks_at m question) conn w.ends a.asker a.is_here.there
    (subst (λ x. Goes_on ys a.asker (asks_as x m question a.asker)) (sym a.reader)
    (puts_up ys (plain m ∷ []) a.asker (reader_sends (asks question a.hearer) m a.asker) refl refl refl refl
    (call_speaks ys a.asker.who m (subst (λ (x : Envelope). NoNaming x × (is_reply x ≡ false)) (sym a.spelled) (own_names a.hearer.next question))))))
  where
    ys : List Entry
    ys = es ++ sent (Reader r) m ∷ []

abbrev pub Under_rightly : List Entry → World → Type 0
Under_rightly es w = And Under_mail Known_mail es w

rightly_grows : Grows Under_rightly Rightly
rightly_grows = record {
  begins = first_rightly [] QUOTA_MOST;
  caused = λ es w d s a i e after b.
      let u = a.0.1.0 in
      let n = a.0.1.1 in
      caused es w d s after u.0.0.0.0.1.1 u.0.0.1 n.1 (few_greeted es w n.1 a.0.0.1) u.1.1 a.1.0 i e;
  moved = λ es w v s a i m. subst (λ l. Rightly l v) (append-nil es) (by es w v i m);
  asked = λ es w conn r m question s a i asks. asks_rightly es w conn r m question i asks;
}
  where
    by : (es : List Entry) (w v : World) → Rightly es w → (MovedUp w v ⊎ MovedDown w v) → Rightly (es ++ []) v
    by es w v i (inl m) =
        over_rightly es [] w v i (subst (λ (x : World). KeepsName x.bus.state.owners) (sym m.after) i.owned)
        (subst (λ (x : World). Over (Goes_on (es ++ [])) w.ends x.ends) (sym m.after)
        (over_with (Goes_on (es ++ [])) (going (es ++ [])) (λ e. record e { up_moved = e.up_moved + m.count }) (λ e. stays_as (es ++ []) e (record e { up_moved = e.up_moved + m.count }) refl refl refl refl) m.conn w.ends))
    by es w v i (inr m) =
        over_rightly es [] w v i (subst (λ (x : World). KeepsName x.bus.state.owners) (sym m.after) i.owned)
        (subst (λ (x : World). Over (Goes_on (es ++ [])) w.ends x.ends) (sym m.after)
        (over_with (Goes_on (es ++ [])) (going (es ++ [])) (λ e. record e { down_moved = e.down_moved + m.count }) (λ e. stays_as (es ++ []) e (record e { down_moved = e.down_moved + m.count }) refl refl refl refl) m.conn w.ends))

pub rightly_keeps : Keeps (Shaped (And Under_rightly Rightly))
rightly_keeps = grown Under_rightly Rightly mail_keeps rightly_grows

-- WHO RETURNS a call that went to the registry's name
registry_not_bus : (m : Envelope) → m.destination ≡ Some registry → is_for_bus m ≡ true → ⊥
registry_not_bus m to for = false_true (by m.destination to for)
  where
    by : (o : Option (List ℕ)) → o ≡ Some registry → is_for_bus (record m { destination = o }) ≡ true → false ≡ true
    by o h = subst (λ z. is_for_bus (record m { destination = z }) ≡ true → false ≡ true) (sym h) (λ g. g)

pub returned_by : (es : List Entry) (who : Party) (letter : Letter) → length (greeted es) ≤ 1000 → IsMail es who letter → Fits es who letter → letter.said.message.kind ≡ 2 → (n : ℕ) → letter.said.message.reply ≡ Some n → 2 ≤ n
    → (first : Envelope) → message es who n ≡ Some first → first.destination ≡ Some registry → letter.from ≡ Registry
returned_by es who letter few mail (inl b) two n reply more first found to =
    let x = b.1 two n reply more in
    absurd (registry_not_bus x.0 (ap (λ (m : Envelope). m.destination) (same_some x.0 first (sym x.1 ∙ found)) ∙ to) x.2)
returned_by es who letter few (inl own) (inr o) two n reply more first found to = absurd (false_true (sym o.other ∙ own.own))
returned_by es who letter few (inr p) (inr o) two n reply more first found to = by r.known
  where
    r : RepliesTo es letter.from letter.said.message
    r = o.answers (ap (λ k. k == 2 || k == 3) two)

    is_n : r.serial ≡ n
    is_n = same_some r.serial n (sym r.with_ ∙ reply)

    by : (r.caller ≡ own_name) ⊎ CallOf es letter.from r.caller r.serial → letter.from ≡ Registry
    by (inl own) = absurd (false_true (sym p.not_bus ∙ for_bus_true letter.said.message (r.to ∙ ap Some own)))
    by (inr c) =
        let name : NameIs es who r.caller = p.routed r.caller r.to (unique_told es c.from r.caller c.name) in
        let same : c.from ≡ who = one_named es c.from who r.caller few c.name name in
        let call : c.first ≡ first = same_some c.first first (sym c.was ∙ ap₂ (message es) same is_n ∙ found) in
        c.its (ap (λ (m : Envelope). m.destination) call ∙ to)
