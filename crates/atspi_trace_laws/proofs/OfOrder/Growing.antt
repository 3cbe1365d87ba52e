-- What is kept along a lawful trace, layer by layer: each may stand on the shape of the world and on what was kept before it.
use Rattle.std.proofs.Common.{◌⊎◌, inl, inr, ℕ, List, [], ◌∷◌, ◌++◌, None, sym, subst}
use Rattle.std.specs.Prelude.{Option}
use Rattle.atspi_script_lines.specs.declared.limits.TheConstants.{QUOTA_MOST}
use Rattle.atspi_script_lines.specs.declared.line.Party.TheVariants.{Reader}
use Rattle.atspi_message.specs.Envelope.{Envelope}
use Rattle.atspi_protocol.specs.declared.following.question.Question.{Question}
use Rattle.atspi_trace.specs.Entry.{Entry, sent}
use Rattle.atspi_trace.specs.World.{World, first_world}
use Rattle.atspi_trace.specs.Causes.{Done, does, at_end}
use Rattle.atspi_trace.specs.Due.{asks_at}
use Rattle.atspi_trace_laws.proofs.OfOrder.Allowed.{MovedUp, MovedDown, Moves, Asks}
use Rattle.atspi_trace_laws.proofs.OfOrder.Along.{Keeps}
use Rattle.atspi_trace_laws.proofs.OfOrder.Shape.{Shape}
use Rattle.atspi_trace_laws.proofs.OfOrder.Effects.{Effect, effect}
use Rattle.atspi_trace_laws.proofs.OfOrder.Shaped.{shape_first, shape_kept, shape_moved, shape_asked}

pub record Grows (A B : List Entry → World → Type 0) : Type 0 where
  pub begins : B [] (first_world QUOTA_MOST)
  pub caused : (es : List Entry) (w : World) (d : Done) → Shape w → A es w → B es w → Effect w d → Shape d.world → A (es ++ d.entries) d.world → B (es ++ d.entries) d.world
  pub moved : (es : List Entry) (w v : World) → Shape w → A es w → B es w → (MovedUp w v ⊎ MovedDown w v) → B es v
  pub asked : (es : List Entry) (w : World) (conn r : ℕ) (m : Envelope) (question : Question) → Shape w → A es w → B es w → Asks w conn r m question
      → B (es ++ sent (Reader r) m ∷ []) (at_end w conn (asks_at m question))

abbrev pub Shaped : (List Entry → World → Type 0) → List Entry → World → Option ℕ → Type 0
Shaped A es w free = Shape w × A es w

abbrev pub Nothing : List Entry → World → Type 0
Nothing es w = Unit {0}

abbrev pub And : (A B : List Entry → World → Type 0) → List Entry → World → Type 0
And A B es w = A es w × B es w

pub shaped_keeps : Keeps (Shaped Nothing)
shaped_keeps = record {
  begins = (shape_first, tt);
  caused = λ es w c i a. (shape_kept w (does w c) i.0 (effect w c i.0 a), tt);
  moved = λ es w v i m. by es w v i m;
  passed = λ es w free i. i;
  asked = λ es w conn r m question i a. (shape_asked w conn r m question i.0 a, tt);
}
  where
    by : (es : List Entry) (w v : World) → Shaped Nothing es w None → Moves w v → Shaped Nothing es v None
    by es w v i (inl same) = subst (λ u. Shaped Nothing es u None) (sym same) i
    by es w v i (inr m) = (shape_moved w v i.0 m, tt)

-- one layer more
pub grown : (A B : List Entry → World → Type 0) → Keeps (Shaped A) → Grows A B → Keeps (Shaped (And A B))
grown A B k g = record {
  begins = (k.begins.0, (k.begins.1, g.begins));
  caused = λ es w c i a.
      let after : Shaped A (es ++ (does w c).entries) (does w c).world None = k.caused es w c (i.0, i.1.0) a in
      (after.0, (after.1, g.caused es w (does w c) i.0 i.1.0 i.1.1 (effect w c i.0 a) after.0 after.1));
  moved = λ es w v i m. by es w v i m;
  passed = λ es w free i. i;
  asked = λ es w conn r m question i a.
      let after : Shaped A (es ++ sent (Reader r) m ∷ []) (at_end w conn (asks_at m question)) None = k.asked es w conn r m question (i.0, i.1.0) a in
      (after.0, (after.1, g.asked es w conn r m question i.0 i.1.0 i.1.1 a));
}
  where
    by : (es : List Entry) (w v : World) → Shaped (And A B) es w None → Moves w v → Shaped (And A B) es v None
    by es w v i (inl same) = subst (λ u. Shaped (And A B) es u None) (sym same) i
    by es w v i (inr m) =
        let after : Shaped A es v None = k.moved es w v (i.0, i.1.0) (inr m) in
        (after.0, (after.1, g.moved es w v i.0 i.1.0 i.1.1 m))
