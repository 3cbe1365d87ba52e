-- An entry is refused where another is due, or none is, and it is no reader's own call.
use Rattle.std.proofs.Common.{◌≡◌, ℕ, Bool, true, false, T, not, None, Some, sym, ap, ap₂, ◌∙◌, subst, is_some}
use Rattle.std.specs.Prelude.{unwrap_or}
use Rattle.atspi_message.specs.Envelope.{Envelope}
use Rattle.atspi_protocol.specs.declared.following.question.Question.{Question}
use Rattle.atspi_trace.specs.Entry.{Entry}
use Rattle.atspi_trace.specs.World.{Hearer, Role, the_registry, an_application, a_reader, End}
use Rattle.atspi_trace.specs.Ends.{end_at}
use Rattle.atspi_trace.specs.Hearing.{question_in, may_ask}
use Rattle.atspi_trace.specs.Due.{Scene, due, IsDue, IsOwnCall}

same_some : {A : Type 0} (x y : A) → Some x ≡ Some y → x ≡ y
same_some x y e = ap (λ o. unwrap_or o x) e

-- a test tells the two apart
pub refuses : (test : Entry → Bool) (s : Scene) (right wrong : Entry) → due s ≡ Some right → test right ≡ true → test wrong ≡ false → IsDue s wrong → ⊥
refuses test s right wrong h r w d = subst T (sym r ∙ ap test (same_some right wrong (sym h ∙ d.next)) ∙ w) tt

pub refuses_all : (s : Scene) (wrong : Entry) → due s ≡ None → IsDue s wrong → ⊥
refuses_all s wrong h d = subst (λ o. T (not (is_some o))) (sym h ∙ d.next) tt

-- a reader's call that it may not send: who may send one, what that reader knows, and what the call asks
pub refuses_call : (s : Scene) (r : ℕ) (e : Envelope) (conn : ℕ) (asker : End) (h : Hearer) (question : Question) → s.free ≡ Some conn → end_at s.world.ends conn ≡ Some asker → asker.role ≡ a_reader h → question_in e ≡ Some question
    → may_ask h question ≡ false → IsOwnCall s r e → ⊥
refuses_call s r e conn asker h question free there role read not_allowed own =
    let conns : conn ≡ own.conn = same_some conn own.conn (sym free ∙ own.free) in
    let askers : asker ≡ own.asker = same_some asker own.asker (sym there ∙ ap (end_at s.world.ends) conns ∙ own.there) in
    let hearers : h ≡ own.hearer = ap (hearer_or h) (sym role ∙ ap (λ (x : End). x.role) askers ∙ own.reader) in
    let questions : question ≡ own.question = same_some question own.question (sym read ∙ own.read) in
    subst T (sym own.allowed ∙ sym (ap₂ may_ask hearers questions) ∙ not_allowed) tt
  where
    hearer_or : Hearer → Role → Hearer
    hearer_or d (a_reader x) = x
    hearer_or d (the_registry x) = d
    hearer_or d (an_application x) = d
