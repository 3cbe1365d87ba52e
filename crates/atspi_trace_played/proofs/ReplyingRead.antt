-- What stands in the replies that a reader takes: the registry's list of children, and an application's items.
use Rattle.std.proofs.Common.{◌≡◌, ℕ, true, List, [], ◌∷◌, None, Some, refl, sym, ap, ◌∙◌}
use Rattle.std.specs.Prelude.{bytes_eq}
use lib.Utf8.{encode}
use Rattle.atspi_message.specs.Envelope.{Envelope}
use Rattle.atspi_protocol.specs.ends.Messages.{Reply, returns, reply_to}
use Rattle.atspi_protocol.specs.ends.Places.{references}
use Rattle.atspi_protocol.specs.members.Asked.{asked}
use Rattle.atspi_protocol.specs.news.Arguments.{signature_of}
use Rattle.atspi_protocol.specs.news.Replies.{items_told}
use Rattle.atspi_protocol.specs.registering.RegistryState.{RegistryState}
use Rattle.atspi_protocol.specs.registering.Answers.{object_at}
use Rattle.atspi_protocol.specs.registering.Steps as registering
use Rattle.atspi_protocol.specs.exporting.Exporter.{Exporter, named}
use Rattle.atspi_protocol.specs.exporting.Taking.{answer_to}
use Rattle.atspi_protocol.specs.exporting.Laws.{HasTree}
use Rattle.atspi_protocol.specs.following.Calls.{asking}
use Rattle.atspi_protocol.specs.following.Replied.{children_signature}
use Rattle.atspi_protocol.specs.declared.following.question.Question.TheVariants.{GetChildren, GetItems}
use Rattle.atspi_protocol.specs.objects.Answers.{Answer}
use Rattle.atspi_trace_laws.proofs.OfOrder.Parties.{no_none}
use Rattle.atspi_trace_laws.proofs.OfAnswered.Items.{answers_items, told_items}

abbrev pub registry_answer : RegistryState → List ℕ → List ℕ → Envelope → Reply
registry_answer state own caller m = (registering.answer_to state own caller (asked (object_at m.path) m.interface m.member m.body)).reply

pub children_answer : (caller own : List ℕ) (state : RegistryState) (n : ℕ) → registry_answer state own caller (asking n GetChildren) ≡ returns (references state.children ∷ [])
unfolding encode
children_answer caller own state n = refl

pub children_signed : (children : List (List ℕ × List ℕ)) → bytes_eq (signature_of (references children ∷ [])) children_signature ≡ true
unfolding encode
children_signed children = refl

-- an answer to a call for items tells some
pub items_answer : (app : Exporter) (name caller asked_ : List ℕ) (n serial at : ℕ) → HasTree app
    → items_told (record (reply_to caller n (answer_to app name (record (asking at (GetItems asked_)) { sender = Some caller })).reply) { serial = serial }) ≡ None → ⊥
items_answer app name caller asked_ n serial at has none =
    no_none _ (sym none ∙ ap (λ (y : Answer). items_told (record (reply_to caller n y.reply) { serial = serial })) (answers_items (named app name)) ∙ told_items (named app name) app.added caller n serial has)
