-- The signals of a step have no numbers yet, and have none again when those are taken off that a queue gave them.
use Rattle.std.proofs.Common.{◌≡◌, ℕ, ◌+◌, Bool, true, false, cond, Option, Some, None, List, [], ◌∷◌, ◌++◌, refl, sym, ap, ◌∙◌, append_assoc}
use Rattle.std.specs.Prelude.{map}
use Rattle.std.proofs.lemmas.List.{append-nil}
use Rattle.atspi_tree_model.specs.declared.step.Step.{Step}
use Rattle.atspi_tree_model.specs.declared.step.Step.TheVariants.{Add, Remove, Move, SetName, SetDescription, SetRole, SetState, Insert, Delete, Caret, TextSelect, Relate}
use Rattle.atspi_tree_model.specs.Forest.{Forest, labels, width, pick, find, children_at}
use Rattle.atspi_tree_model.specs.Row.{TreeRow, Each}
use Rattle.atspi_tree_model.specs.RowRules.{rows}
use Rattle.atspi_tree_model.specs.Tree.{is_node, after, seat_of}
use Rattle.atspi_message.specs.Envelope.{Envelope}
use Rattle.atspi_protocol.specs.ends.Messages.{numbered, Queue, posted}
use Rattle.atspi_protocol.specs.announcing.Signals.{Signal, removed}
use Rattle.atspi_protocol.specs.announcing.Announced.{told_node, left, announced}
use Rattle.atspi_protocol.specs.exporting.Exporter.{Happening, sends}
use Rattle.atspi_protocol.specs.exporting.Hearing.{is_covered}
use Rattle.atspi_protocol.specs.exporting.Telling.{asked_for}
use Rattle.atspi_app_signals.specs.Asked.{messages_asked}
use Rattle.atspi_app.specs.inner.Seen.{AreUnnumbered}

abbrev IsUnnumbered : Signal → Type 0
IsUnnumbered s = s.message.serial ≡ 0

each_append : (xs ys : List Signal) → Each IsUnnumbered xs → Each IsUnnumbered ys → Each IsUnnumbered (xs ++ ys)
each_append [] ys h g = g
each_append (x ∷ xs) ys h g = (h.0, each_append xs ys h.1 g)

told_unnumbered : (bus : List ℕ) (p i c : ℕ) (o : Option TreeRow) → Each IsUnnumbered (told_node bus p i c o)
told_unnumbered bus p i c None = tt
told_unnumbered bus p i c (Some row) = (refl, tt)

left_unnumbered : (bus : List ℕ) (n : ℕ) (o : Option (Option ℕ × ℕ)) → Each IsUnnumbered (left bus n o)
left_unnumbered bus n None = tt
left_unnumbered bus n (Some (None, index)) = tt
left_unnumbered bus n (Some (Some parent, index)) = (refl, tt)

gone_unnumbered : (bus : List ℕ) (gone : List TreeRow) → Each IsUnnumbered (map (λ (row : TreeRow). removed bus row.shape.node) gone)
gone_unnumbered bus [] = tt
gone_unnumbered bus (row ∷ gone) = (refl, gone_unnumbered bus gone)

step_unnumbered : (bus : List ℕ) (f : Forest TreeRow) (step : Step) → Each IsUnnumbered (announced bus f step)
step_unnumbered bus f (Add n p i seed) = (refl, (refl, tt))
step_unnumbered bus f (Remove n) =
    each_append (left bus n (seat_of rows n f)) (map (λ (row : TreeRow). removed bus row.shape.node) (labels (pick (is_node n) f)))
    (left_unnumbered bus n (seat_of rows n f)) (gone_unnumbered bus (labels (pick (is_node n) f)))
step_unnumbered bus f (Move n p i) =
    let g = after rows f (Move n p i) in
    each_append (told_node bus p i (width (children_at (is_node n) g)) (find (is_node n) g) ++ left bus n (seat_of rows n f)) _
    (each_append (told_node bus p i (width (children_at (is_node n) g)) (find (is_node n) g)) (left bus n (seat_of rows n f))
    (told_unnumbered bus p i (width (children_at (is_node n) g)) (find (is_node n) g)) (left_unnumbered bus n (seat_of rows n f)))
    (refl, (refl, tt))
step_unnumbered bus f (SetName n x) = (refl, tt)
step_unnumbered bus f (SetDescription n x) = (refl, tt)
step_unnumbered bus f (SetRole n r) = (refl, tt)
step_unnumbered bus f (SetState n s on) = (refl, tt)
step_unnumbered bus f (Insert n at x) = (refl, tt)
step_unnumbered bus f (Delete n at x) = (refl, tt)
step_unnumbered bus f (Caret n at) = (refl, tt)
step_unnumbered bus f (TextSelect n marks) = tt
step_unnumbered bus f (Relate n kind ts) = tt

asked_at : (heard : List (List ℕ × List ℕ)) (s : Signal) (signals : List Signal) (b : Bool) → s.message.serial ≡ 0 → AreUnnumbered (messages_asked heard signals)
    → AreUnnumbered (map (λ (x : Signal). x.message) (cond b (s ∷ asked_for heard signals) (asked_for heard signals)))
asked_at heard s signals true one more = (one, more)
asked_at heard s signals false one more = more

asked_unnumbered : (heard : List (List ℕ × List ℕ)) (signals : List Signal) → Each IsUnnumbered signals → AreUnnumbered (messages_asked heard signals)
asked_unnumbered heard [] h = tt
asked_unnumbered heard (s ∷ signals) h = asked_at heard s signals (is_covered heard s.event s.minor) h.0 (asked_unnumbered heard signals h.1)

-- the messages of a step
pub messages_unnumbered : (heard : List (List ℕ × List ℕ)) (bus : List ℕ) (f : Forest TreeRow) (step : Step) → AreUnnumbered (messages_asked heard (announced bus f step))
messages_unnumbered heard bus f step = asked_unnumbered heard (announced bus f step) (step_unnumbered bus f step)

-- without its number
abbrev pub unnumbered : Envelope → Envelope
unnumbered e = record e { serial = 0 }

taken_off : (n : ℕ) (es : List Envelope) → AreUnnumbered es → map unnumbered (numbered n es) ≡ es
taken_off n [] h = refl
taken_off n (e ∷ es) h = ap (λ k. record e { serial = k } ∷ map unnumbered (numbered (n + 1) es)) (sym h.0) ∙ ap (λ l. e ∷ l) (taken_off (n + 1) es h.1)

-- what is told so far, with what the queue has still to hand out, is all
pub record IsPushing (told : List Happening) (left : List Envelope) (old : List Happening) (mail : List Envelope) : Type 0 where
  pub all : told ++ map sends (map unnumbered left) ≡ old ++ map sends mail

pub pushing_starts : (old : List Happening) (mail : List Envelope) (empty full : Queue) → AreUnnumbered mail → empty.next ≡ 1 → empty.out ≡ [] → full ≡ posted empty mail
    → IsPushing old full.out old mail
pushing_starts old mail empty full h next out is = record {
  all =
      ap (λ (q : Queue). old ++ map sends (map unnumbered q.out)) is
      ∙ ap (λ (l : List Envelope). old ++ map sends (map unnumbered (l ++ numbered empty.next mail))) out
      ∙ ap (λ (l : List Envelope). old ++ map sends l) (taken_off empty.next mail h);
}

pub pushing_goes_on : (now next old : List Happening) (left rest mail : List Envelope) (e m : Envelope) → IsPushing now left old mail → left ≡ e ∷ rest
    → m ≡ unnumbered e → next ≡ now ++ sends m ∷ [] → IsPushing next rest old mail
pushing_goes_on now next old left rest mail e m p is same more = record {
  all =
      ap (λ hs. hs ++ map sends (map unnumbered rest)) more
      ∙ append_assoc now (sends m ∷ []) (map sends (map unnumbered rest))
      ∙ ap (λ (x : Envelope). now ++ sends x ∷ map sends (map unnumbered rest)) same
      ∙ ap (λ (l : List Envelope). now ++ map sends (map unnumbered l)) (sym is)
      ∙ p.all;
}

pub pushing_ends : (told old : List Happening) (left mail : List Envelope) → IsPushing told left old mail → left ≡ [] → told ≡ old ++ map sends mail
pushing_ends told old left mail p none =
    sym (append-nil told) ∙ sym (ap (λ (l : List Envelope). told ++ map sends (map unnumbered l)) none) ∙ p.all
