-- What is known of messages on their way: who made the call that a reply answers, and for whom each is.
use Rattle.std.proofs.Common.{◌≡◌, ◌⊎◌, inl, inr, ℕ, suc, Bool, true, false, List, [], ◌∷◌, ◌++◌, Option, None, Some, refl, ap, ◌∙◌}
use Rattle.std.specs.Prelude.{codes, option_map, if◌then◌else◌}
use Rattle.atspi_types.specs.Data.{text_data}
use Rattle.atspi_base.specs.valid_names.Names.{is_unique_name}
use Rattle.atspi_tree_model.specs.RowRules.{rows}
use Rattle.atspi_tree_model.specs.Tree.{after_all}
use Rattle.atspi_script_lines.specs.declared.line.Party.{Party}
use Rattle.atspi_script_lines.specs.declared.line.Party.TheVariants.{Bus as The_bus, Registry, App, Reader}
use Rattle.atspi_message.specs.Envelope.{Envelope}
use Rattle.atspi_names.specs.Owners.{own_name, unique_name}
use Rattle.atspi_match.specs.routing.Members.{is_text}
use Rattle.atspi_match.specs.routing.Routing.{is_for_bus, is_reply}
use Rattle.atspi_protocol.specs.ends.Messages.{reply_to}
use Rattle.atspi_protocol.specs.exporting.Exporter.{Exporter}
use Rattle.atspi_protocol.specs.exporting.Taking.{answer_to}
use Rattle.atspi_protocol.specs.exporting.Laws.{HasTree}
use Rattle.atspi_protocol.specs.following.Calls.{asking}
use Rattle.atspi_protocol.specs.declared.following.question.Question.{Question}
use Rattle.atspi_trace.specs.Entry.{Entry}
use Rattle.atspi_trace.specs.World.{Said, Letter}
use Rattle.atspi_trace.specs.Ends.{same_party}
use Rattle.atspi_trace.specs.Hearing.{question_in}
use Rattle.atspi_trace_laws.specs.laws.Words.{message}
use Rattle.atspi_trace_laws.proofs.OfOrder.Parties.{no_none}
use Rattle.atspi_trace_laws.proofs.OfTaken.Found.{found_more}
use Rattle.atspi_trace_laws.proofs.OfTaken.Said.{IsSaid, said_more}
use Rattle.atspi_trace_laws.proofs.OfNames.Places.{first_at, greeted, greeted_more, name_told}

-- NAMES
abbrev pub NameIs : List Entry → Party → List ℕ → Type 0
NameIs es who name = ((who ≡ Registry) × (name ≡ codes ":1.0")) ⊎ (name_told es who ≡ Some name)

first_front : {X : Type 0} (p : X → Bool) (xs ys : List X) (i : ℕ) → first_at p xs ≡ Some i → first_at p (xs ++ ys) ≡ Some i
first_front p [] ys i h = absurd (no_none i h)
first_front p (x ∷ xs) ys i h = by (p x) (first_at p xs) refl h (λ j g. first_front p xs ys j g)
  where
    by : (b : Bool) (o : Option ℕ) → first_at p xs ≡ o → (if b then Some 0 else option_map suc o) ≡ Some i → ((j : ℕ) → first_at p xs ≡ Some j → first_at p (xs ++ ys) ≡ Some j)
        → (if b then Some 0 else option_map suc (first_at p (xs ++ ys))) ≡ Some i
    by true o g k f = k
    by false None g k f = absurd (no_none i k)
    by false (Some j) g k f = ap (option_map suc) (f j g) ∙ k

pub told_more : (es ys : List Entry) (who : Party) (name : List ℕ) → name_told es who ≡ Some name → name_told (es ++ ys) who ≡ Some name
told_more es ys who name h = by (first_at (same_party who) (greeted es)) refl h
  where
    by : (o : Option ℕ) → first_at (same_party who) (greeted es) ≡ o → option_map (λ n. unique_name (suc n)) o ≡ Some name → name_told (es ++ ys) who ≡ Some name
    by None g k = absurd (no_none name k)
    by (Some i) g k = ap (λ l. option_map (λ n. unique_name (suc n)) (first_at (same_party who) l)) (greeted_more es ys) ∙ ap (option_map (λ n. unique_name (suc n))) (first_front (same_party who) (greeted es) (greeted ys) i g) ∙ k

pub name_more : (es ys : List Entry) (who : Party) (name : List ℕ) → NameIs es who name → NameIs (es ++ ys) who name
name_more es ys who name (inl r) = inl r
name_more es ys who name (inr h) = inr (told_more es ys who name h)

-- CALLS, as they are taken
pub record IsCallOf (es : List Entry) (from : Party) (caller : List ℕ) (call : Envelope) : Type 0 where
  pub name : NameIs es from caller
  pub first : Envelope
  pub was : message es from call.serial ≡ Some first
  pub alike : call ≡ record first { sender = Some caller }
  pub not_bus : is_for_bus call ≡ false
  pub asks : (r : ℕ) → from ≡ Reader r → (question : Question) → question_in first ≡ Some question → first ≡ asking first.serial question

pub record Called (es : List Entry) (call : Envelope) : Type 0 where
  pub from : Party
  pub caller : List ℕ
  pub sender : call.sender ≡ Some caller
  pub known : (caller ≡ own_name) ⊎ IsCallOf es from caller call

unfoldable pub called_more : (es ys : List Entry) (call : Envelope) → Called es call → Called (es ++ ys) call
called_more es ys call c = record { from = c.from; caller = c.caller; sender = c.sender; known = by c.known }
  where
    by : (c.caller ≡ own_name) ⊎ IsCallOf es c.from c.caller call → (c.caller ≡ own_name) ⊎ IsCallOf (es ++ ys) c.from c.caller call
    by (inl h) = inl h
    by (inr i) =
        inr (record { name = name_more es ys c.from c.caller i.name; first = i.first; was = found_more es ys c.from call.serial i.first i.was; alike = i.alike; not_bus = i.not_bus; asks = i.asks })

-- REPLIES, as they are sent: to whom the call came from, with its serial; an application's reply is its answer, with the tree as that leaves it
pub record IsAnswerOf (es : List Entry) (a : ℕ) (said : Said) (call : Envelope) (caller : List ℕ) : Type 0 where
  pub app : Exporter
  pub has : HasTree app
  pub name : List ℕ
  pub named : app.name ≡ Some name
  pub told : name_told es (App a) ≡ Some name
  pub tree : said.tree ≡ after_all rows app.tree (answer_to app name call).steps
  pub message : said.message ≡ record (reply_to caller call.serial (answer_to app name call).reply) { serial = said.message.serial }

abbrev pub Content : List Entry → Party → Said → Envelope → List ℕ → Type 0
Content es (App a) said call caller = IsAnswerOf es a said call caller
Content es who said call caller = Unit {0}

content_more : (es ys : List Entry) (who : Party) (said : Said) (call : Envelope) (caller : List ℕ) → Content es who said call caller → Content (es ++ ys) who said call caller
content_more es ys (App a) said call caller c =
    record { app = c.app; has = c.has; name = c.name; named = c.named; told = told_more es ys (App a) c.name c.told; tree = c.tree; message = c.message }
content_more es ys The_bus said call caller c = tt
content_more es ys Registry said call caller c = tt
content_more es ys (Reader r) said call caller c = tt

pub record IsAnswer (es : List Entry) (who : Party) (said : Said) : Type 0 where
  pub call : Envelope
  pub called : Called es call
  pub to : said.message.destination ≡ Some called.caller
  pub with_ : said.message.reply ≡ Some call.serial
  pub content : Content es who said call called.caller

pub record IsSpeech (es : List Entry) (who : Party) (said : Said) : Type 0 where
  pub answers : is_reply said.message ≡ true → IsAnswer es who said
  pub asks : (r : ℕ) → who ≡ Reader r → (question : Question) → question_in said.message ≡ Some question → said.message ≡ asking said.message.serial question

pub speech_more : (es ys : List Entry) (who : Party) (said : Said) → IsSpeech es who said → IsSpeech (es ++ ys) who said
unfolding called_more
speech_more es ys who said i = record {
  answers = λ h. let a = i.answers h in record { call = a.call; called = called_more es ys a.call a.called; to = a.to; with_ = a.with_; content = content_more es ys who said a.call a.called.caller a.content };
  asks = i.asks;
}

-- MAIL: of the bus, or of an end, which is named as its sender; it is for whoever has the name that it is sent to
abbrev pub IsOwn : Envelope → Type 0
IsOwn m = is_text m.sender own_name ≡ true

pub record IsOfBus (es : List Entry) (who : Party) (letter : Letter) : Type 0 where
  pub from : letter.from ≡ The_bus
  pub own : IsOwn letter.said.message
  pub no_call : letter.said.message.kind ≡ 1 → ⊥
  pub greets : letter.said.message.kind ≡ 2 → letter.said.message.reply ≡ Some 1 → (name : List ℕ) × (letter.said.message.body ≡ text_data name ∷ []) × NameIs es who name

pub record IsPost (es : List Entry) (who : Party) (letter : Letter) : Type 0 where
  pub caller : List ℕ
  pub sender : letter.said.message.sender ≡ Some caller
  pub name : NameIs es letter.from caller
  pub first : Said
  pub sent_ : IsSaid es letter.from first
  pub alike : letter.said ≡ record first { message = record first.message { sender = Some caller } }
  pub speech : IsSpeech es letter.from first
  pub routed : (to : List ℕ) → letter.said.message.destination ≡ Some to → is_unique_name to ≡ true → NameIs es who to
  pub not_bus : is_for_bus letter.said.message ≡ false

abbrev pub IsMail : List Entry → Party → Letter → Type 0
IsMail es who letter = IsOfBus es who letter ⊎ IsPost es who letter

pub mail_more : (es ys : List Entry) (who : Party) (letter : Letter) → IsMail es who letter → IsMail (es ++ ys) who letter
mail_more es ys who letter (inl b) = inl (record {
  from = b.from;
  own = b.own;
  no_call = b.no_call;
  greets = λ k h. let g = b.greets k h in (g.0, g.1, name_more es ys who g.0 g.2);
})
mail_more es ys who letter (inr p) = inr (record {
  caller = p.caller;
  sender = p.sender;
  name = name_more es ys letter.from p.caller p.name;
  first = p.first;
  sent_ = said_more es ys letter.from p.first p.sent_;
  alike = p.alike;
  speech = speech_more es ys letter.from p.first p.speech;
  routed = λ to h u. name_more es ys who to (p.routed to h u);
  not_bus = p.not_bus;
})
