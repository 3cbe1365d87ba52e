-- The message that brings a reply answers the call, where the reply is that of the call.
use Rattle.std.proofs.Common.{◌≡◌, ℕ, cond, List, [], ◌∷◌, Option, None, Some, Result, Ok, Err, refl, ap, ◌∙◌, subst, inl, inr}
use Rattle.std.specs.Prelude.{IfOk, MatchOption, unwrap_or}
use Rattle.atspi_base.specs.declared.outside.NoMemory.{NoMemory}
use Rattle.atspi_message.specs.declared.message.Message.{Message}
use Rattle.atspi_message.specs.Envelope.{Envelope, envelope_of}
use Rattle.atspi_tree.specs.TreeShape.{TreeShape}
use Rattle.atspi_protocol.specs.ends.Messages.{Reply, returns, fails, error_word}
use Rattle.atspi_protocol.specs.declared.ends.error.CallError.{CallError}
use Rattle.atspi_protocol.specs.declared.ends.error.CallError.TheVariants.{UnknownObject}
use Rattle.atspi_hit.specs.declared.rect.Rect.{Rect}
use Rattle.atspi_hit_answers.specs.declared.ask.Ask.{Ask}
use Rattle.atspi_hit_answers.specs.Component.{Asks, IsAnswer, IsNode, Replies, answered, node_reply, reply_with}

module _ (t : TreeShape) (rects : ℕ → Rect) (name : List ℕ) (serial : ℕ) (call : Envelope) where
  pub brings : (r : Result Message NoMemory) (reply : Reply) (caller : List ℕ) → Replies t rects name call reply
      → caller ≡ unwrap_or call.sender []
      → IfOk r (λ m. envelope_of m ≡ reply_with serial caller call.serial reply)
      → IfOk r (λ m. IsAnswer t rects name serial call (envelope_of m))
  brings (Ok m) reply caller replies same e =
      (reply, replies, e ∙ ap (λ who. reply_with serial who call.serial reply) same)
  brings (Err x) reply caller replies same e = tt

  -- no node has the path
  pub nobody : (o : Option ℕ)
      → MatchOption o ((n : ℕ) → IsNode t (unwrap_or call.path []) n → ⊥) (λ n. IsNode t (unwrap_or call.path []) n)
      → o ≡ None → Replies t rects name call (fails (error_word UnknownObject))
  nobody None none e = inr (none, refl)
  nobody (Some n) is e = absurd cc

  module _ (o : Option ℕ) (n : ℕ)
      (found : MatchOption o ((n : ℕ) → IsNode t (unwrap_or call.path []) n → ⊥) (λ n. IsNode t (unwrap_or call.path []) n))
      (is : o ≡ Some n) (r : Result Ask CallError) (asks : Asks (unwrap_or call.member []) call.body r) where
    node_is : IsNode t (unwrap_or call.path []) n
    node_is = subst (λ o. MatchOption o ((n : ℕ) → IsNode t (unwrap_or call.path []) n → ⊥) (λ n. IsNode t (unwrap_or call.path []) n)) is found

    -- what is asked is answered
    pub answers_it : (ask : Ask) → r ≡ Ok ask → Replies t rects name call (node_reply t rects name n ask)
    answers_it ask e =
        inl (
          n,
          Ok ask,
          node_is,
          subst (λ r. Asks (unwrap_or call.member []) call.body r) e asks,
          ap (λ b. cond b (returns (answered t rects name n ask ∷ [])) (fails (error_word UnknownObject))) node_is.0,
        )

    -- or the call gets its error
    pub refuses_it : (error : CallError) → r ≡ Err error → Replies t rects name call (fails (error_word error))
    refuses_it error e =
        inl (n, Err error, node_is, subst (λ r. Asks (unwrap_or call.member []) call.body r) e asks, refl)
