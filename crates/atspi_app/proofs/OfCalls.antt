-- What an application does with a call that it answers.
use Rattle.std.proofs.Common.{◌≡◌, ℕ, Bool, true, false, List, [], ◌∷◌, ◌++◌, Option, Some, None, refl, sym, ap, ◌∙◌, subst}
use Rattle.std.specs.Prelude.{ℤ, if◌then◌else◌, map, unwrap_or, Result, Ok, Err, OnOk, OnErr}
use Rattle.atspi_types.specs.declared.value.Values.{Values}
use Rattle.atspi_tree_model.specs.declared.contents.FaceKind.{FaceKind}
use Rattle.atspi_tree_model.specs.declared.step.Step.{Step}
use Rattle.atspi_tree_model.specs.Forest.{Forest}
use Rattle.atspi_tree_model.specs.Row.{TreeRow, Each}
use Rattle.atspi_tree_model.specs.RowRules.{rows}
use Rattle.atspi_tree_model.specs.Tree.{shape_of, IsTree, AllApply}
use Rattle.atspi_message.specs.Envelope.{Envelope}
use Rattle.atspi_protocol.specs.declared.ends.error.CallError.{CallError}
use Rattle.atspi_protocol.specs.ends.Messages.{Reply, replies, reply_to, expects_reply, returns, fails}
use Rattle.atspi_protocol.specs.objects.Answers.{Answer, answer}
use Rattle.atspi_tree.specs.TreeShape.{TreeShape}
use Rattle.atspi_faces.specs.face.Nodes.{Nodes}
use Rattle.atspi_protocol.specs.whole.Whole.{Faces, whole}
use Rattle.atspi_protocol.proofs.OfWhole.Followed.{shape_is_kept}
use Rattle.atspi_protocol.specs.exporting.Exporter.{Exporter, Happening, sends, named, queues}
use Rattle.atspi_protocol.specs.exporting.Starting.{name_or_empty}
use Rattle.atspi_protocol.specs.exporting.Taking.{answer_to, app_takes, stepped, is_spent}
use Rattle.atspi_protocol.specs.exporting.Telling.{steps_told}
use Rattle.atspi_protocol.proofs.OfExporting.Staying.{answers_apply}
use Rattle.atspi_app_known.specs.declared.starting.known.Known.{Known}
use Rattle.atspi_app_exported.specs.Parts.{Parts, Kinds, AreKinds, parts, faces_of, kinds_of, whole_of}
use Rattle.atspi_app_signals.specs.Asked.{CanBeTold}
use Rattle.atspi_app_signals.specs.Laws.{told_of_one, StayInPlace}
use Rattle.atspi_app_signals.proofs.CallsStay.{calls_stay_in_place}
use Rattle.atspi_app_signals.proofs.Staying.{staying_is_told_at_once, staying_can_be_told}
use Rattle.atspi_app_answers.specs.Asking.{answer_to as answer_of_tree}
use Rattle.atspi_app_answers.specs.Seen.{seen as seen_tree}
use Rattle.atspi_app_answers.specs.Replies.{sent_back}
use Rattle.atspi_app_answers.proofs.Senders.{sent_to}
use Rattle.atspi_app.specs.declared.called.outcome.Called.{Called}
use Rattle.atspi_app.specs.called.Called.{answer_of, reply_of}
use Rattle.atspi_app.specs.Seen.{seen}
use Rattle.atspi_app.specs.inner.Seen.{AreUnnumbered}
use Rattle.atspi_app_known.specs.heeding.Heeding.{is_answered}
use Rattle.atspi_app_known.proofs.OfHeeding.Heeded.{IsAnswered, answered}
use Rattle.atspi_app.proofs.OfEdits.{same_shape}

-- the reply has no number yet
reply_unnumbered : (call : Envelope) (caller : List ℕ) (reply : Reply) → AreUnnumbered (replies caller call reply)
reply_unnumbered call caller reply = by (expects_reply call) reply
  where
    by : (b : Bool) (r : Reply) → AreUnnumbered (if b then reply_to caller call.serial r ∷ [] else [])
    by true (returns values) = (refl, tt)
    by true (fails word) = (refl, tt)
    by false r = tt

pub back_unnumbered : (call : Envelope) (reply : Reply) → AreUnnumbered (sent_back call reply)
back_unnumbered call reply = by call.sender refl
  where
    by : (o : Option (List ℕ)) → call.sender ≡ o → AreUnnumbered (sent_back call reply)
    by None e = rw e tt
    by (Some caller) e = subst AreUnnumbered (sym (sent_to call caller reply e)) (reply_unnumbered call caller reply)

-- the parts that are lent are those that are exported
same_parts : (p : Parts) (t : TreeShape) (chars grid deeds : Nodes) → t ≡ p.tree → chars ≡ p.faces.chars → grid ≡ p.faces.grid → deeds ≡ p.faces.deeds
    → parts t (faces_of chars grid deeds) ≡ p
same_parts p t chars grid deeds et ec eg ed = λ i. record { tree = et i; faces = record { chars = ec i; grid = eg i; deeds = ed i } }

pub lent_lawful : (p : Parts) (t : TreeShape) (chars grid deeds : Nodes) → t ≡ p.tree → chars ≡ p.faces.chars → grid ≡ p.faces.grid → deeds ≡ p.faces.deeds
    → IsTree rows (whole_of p) p.tree.added → IsTree rows (whole t.rows (faces_of chars grid deeds)) t.added
lent_lawful p t chars grid deeds et ec eg ed h =
    subst (λ (q : Parts). IsTree rows (whole_of q) q.tree.added) (sym (same_parts p t chars grid deeds et ec eg ed)) h

pub lent_kinds : (of : Kinds) (chars grid deeds : FaceKind) → chars ≡ of.chars → grid ≡ of.grid → deeds ≡ of.deeds → AreKinds of → AreKinds (kinds_of chars grid deeds)
lent_kinds of chars grid deeds ec eg ed h = record { texts = ec ∙ h.texts; columns = eg ∙ h.columns; actions = ed ∙ h.actions }

-- the answer of what is lent is that of the application
same_path : (o : Option (List ℕ)) → name_or_empty o ≡ unwrap_or o []
same_path None = refl
same_path (Some path) = refl

pub lent_answer : (p : Parts) (id : ℤ) (k : Known) (t : TreeShape) (chars grid deeds : Nodes) (bus : List ℕ) (e : Envelope) (a : Answer)
    → t ≡ p.tree → chars ≡ p.faces.chars → grid ≡ p.faces.grid → deeds ≡ p.faces.deeds → bus ≡ name_or_empty k.name
    → answer_of_tree (seen_tree t (faces_of chars grid deeds) bus id) e ≡ a → answer_to (seen p id k) (name_or_empty k.name) e ≡ a
lent_answer p id k t chars grid deeds bus e a et ec eg ed eb h =
    ap (λ (n : List ℕ). answer (named (seen p id k) n) (name_or_empty e.path) e.interface e.member e.body) (sym eb)
    ∙ ap (λ (path : List ℕ). answer (named (seen p id k) bus) path e.interface e.member e.body) (same_path e.path)
    ∙ sym (ap (λ (q : Parts). answer_of_tree (seen_tree q.tree q.faces bus id) e) (same_parts p t chars grid deeds et ec eg ed))
    ∙ h

-- the same where the number is told in another way
pub lent_answer_at : (p : Parts) (z id : ℤ) (k : Known) (t : TreeShape) (chars grid deeds : Nodes) (bus : List ℕ) (e : Envelope) (a : Answer) → z ≡ id
    → t ≡ p.tree → chars ≡ p.faces.chars → grid ≡ p.faces.grid → deeds ≡ p.faces.deeds → bus ≡ name_or_empty k.name
    → answer_of_tree (seen_tree t (faces_of chars grid deeds) bus z) e ≡ a → answer_to (seen p id k) (name_or_empty k.name) e ≡ a
lent_answer_at p z id k t chars grid deeds bus e a same et ec eg ed eb h =
    subst (λ (x : ℤ). answer_to (seen p x k) (name_or_empty k.name) e ≡ a) same (lent_answer p z k t chars grid deeds bus e a et ec eg ed eb h)

-- its steps apply, and stay in place
module _ (p : Parts) (id : ℤ) (k : Known) (e : Envelope) (c : Called) (comes : answer_to (seen p id k) (name_or_empty k.name) e ≡ answer_of c) where
  stays : StayInPlace c.steps
  stays =
      subst StayInPlace (ap (λ (a : Answer). a.steps) comes)
      (calls_stay_in_place (named (seen p id k) (name_or_empty k.name)) (name_or_empty e.path) e.interface e.member e.body)

  pub call_applies : IsTree rows (whole_of p) p.tree.added → AllApply rows (whole_of p) p.tree.added c.steps
  call_applies tree =
      subst (AllApply rows (whole_of p) p.tree.added) (ap (λ (a : Answer). a.steps) comes)
      (answers_apply (named (seen p id k) (name_or_empty k.name)) (name_or_empty e.path) e.interface e.member e.body tree)

  pub call_can_be_told : IsTree rows (whole_of p) p.tree.added → Each (CanBeTold p.tree) c.steps
  call_can_be_told tree =
      subst (λ (t : TreeShape). Each (CanBeTold t) c.steps) (same_shape p)
      (staying_can_be_told (whole_of p) p.tree.added c.steps tree (call_applies tree) stays)

  -- what is told of it
  abbrev call_told : List Happening
  call_told = steps_told k.heard (name_or_empty k.name) (whole_of p) c.steps ++ map sends (sent_back e (reply_of c.reply))

  told_at_once : (hs : List Happening)
      → hs ≡ told_of_one k.heard (name_or_empty k.name) (whole_of p) c.steps ++ map sends (sent_back e (reply_of c.reply)) → hs ≡ call_told
  told_at_once hs h =
      h ∙ ap (λ (l : List Happening). l ++ map sends (sent_back e (reply_of c.reply))) (sym (staying_is_told_at_once (whole_of p) c.steps stays k.heard (name_or_empty k.name)))

  abbrev after_answer : List ℕ → List ℕ → Answer → Exporter
  after_answer name caller a =
      let s = seen p id k in
      queues (record (stepped s a.steps) { id = a.id }) (steps_told s.heard name s.tree a.steps ++ map sends (replies caller e a.reply))

  settled : is_answered (seen p id k) e ≡ true → app_takes (seen p id k) e ≡ queues (record (stepped (seen p id k) c.steps) { id = c.id }) call_told
  settled h =
      let x = answered (seen p id k) e h in
      x.taken
      ∙ ap (λ (n : List ℕ). after_answer n x.caller (answer_to (seen p id k) n e)) (sym (ap name_or_empty x.named))
      ∙ ap (after_answer (name_or_empty k.name) x.caller) comes
      ∙ ap (λ (l : List Envelope). queues (record (stepped (seen p id k) c.steps) { id = c.id }) (steps_told k.heard (name_or_empty k.name) (whole_of p) c.steps ++ map sends l)) (sym (sent_to e x.caller (reply_of c.reply) x.sent))

  -- what happened is what the definitions say
  pub call_is_taken : (hs : List Happening) → is_answered (seen p id k) e ≡ true
      → ((f : Forest TreeRow) → shape_of f ≡ p.tree.rows → hs ≡ told_of_one k.heard (name_or_empty k.name) f c.steps ++ map sends (sent_back e (reply_of c.reply)))
      → app_takes (seen p id k) e ≡ queues (record (stepped (seen p id k) c.steps) { id = c.id }) hs
  call_is_taken hs h told =
      settled h ∙ ap (queues (record (stepped (seen p id k) c.steps) { id = c.id })) (sym (told_at_once hs (told (whole_of p) (shape_is_kept p.tree.rows p.faces))))

  pub call_is_taken_at : (z : ℤ) → z ≡ c.id → (hs : List Happening) → is_answered (seen p id k) e ≡ true
      → ((f : Forest TreeRow) → shape_of f ≡ p.tree.rows → hs ≡ told_of_one k.heard (name_or_empty k.name) f c.steps ++ map sends (sent_back e (reply_of c.reply)))
      → app_takes (seen p id k) e ≡ queues (record (stepped (seen p id k) c.steps) { id = z }) hs
  call_is_taken_at z same hs h told =
      call_is_taken hs h told ∙ ap (λ (x : ℤ). queues (record (stepped (seen p id k) c.steps) { id = x }) hs) (sym same)

-- along an equation of what comes after
pub ok_along : {T E : Type 0} (r : Result T E) (new meant other : Exporter) → other ≡ meant → OnOk r (new ≡ meant) → OnOk r (new ≡ other)
ok_along (Ok x) new meant other e h = h ∙ sym e
ok_along (Err x) new meant other e h = tt

pub spent_along : (meant other : Exporter) → other ≡ meant → is_spent meant ≡ true → is_spent other ≡ true
spent_along meant other e h = ap is_spent e ∙ h

-- with another number
pub with_number : (new meant : Exporter) (z id : ℤ) → z ≡ id → new ≡ meant → ◌≡◌ {A = Exporter} (record new { id = z }) (record meant { id = id })
with_number new meant z id same e = λ i. record (e i) { id = same i }

-- what is told, and behind it the reply
pub reply_behind : (new old first : List Happening) (mail back : List Envelope) → new ≡ old ++ map sends mail → old ≡ first → mail ≡ back → new ≡ first ++ map sends back
reply_behind new old first mail back n o m = n ∙ (λ i. o i ++ map sends (m i))
