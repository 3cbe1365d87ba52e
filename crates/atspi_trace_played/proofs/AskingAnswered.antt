-- What a reader asked, behind the reply to the call that waits, and behind any message taken as a reply or not.
use Rattle.std.proofs.Common.{◌≡◌, ℕ, Bool, true, false, List, [], ◌∷◌, ◌++◌, map, Option, None, Some, refl, sym, ap, ◌∙◌, subst}
use Rattle.std.specs.Prelude.{bytes_eq, ◌&&◌, ◌==◌, if◌then◌else◌}
use Rattle.std.specs.List.{AllByRecursion, fold}
use Rattle.std.proofs.lemmas.Bool.{and_from, and_parts, eq-eqb}
use Rattle.atspi_message.specs.Envelope.{Envelope}
use Rattle.atspi_match.specs.routing.Routing.{is_reply}
use Rattle.atspi_protocol.specs.declared.following.question.Question.{Question}
use Rattle.atspi_protocol.specs.declared.following.question.Question.TheVariants.{Hello, AddMatch, RegisterEvent, GetChildren, GetItems, GetPart}
use Rattle.atspi_protocol.specs.news.Arguments.{signature_of}
use Rattle.atspi_protocol.specs.news.Replies.{elements_of, items_told, part_told}
use Rattle.atspi_protocol.specs.following.ReaderState.{Followed, Pending, Done, ReaderState}
use Rattle.atspi_protocol.specs.following.Known.{made_known, references_among}
use Rattle.atspi_protocol.specs.following.Replied.{is_reply_to, may_answer, is_unique_name_alone, children_signature, goes_on_if, replied, takes_reply}
use Rattle.atspi_trace.specs.World.{Fate, waits, returned, failed, Asked, Holding, Hearer, World}
use Rattle.atspi_trace.specs.Hearing.{fate_of, answered_by, question_returned, registry_after, is_answered}
use Rattle.atspi_trace_laws.proofs.OfOrder.Parties.{false_true, all_append, all_back}
use Rattle.atspi_trace_played.proofs.Facts.{IsReplyWell, RepliesWell, IsReturnedWell, AsksWell}
use Rattle.atspi_trace_played.proofs.AskingWords.{test_of_all}
use Rattle.atspi_trace_played.proofs.AskingReplies.{heard, NotTo, none_to, none_returned, not_to, unanswered, returned_if, plain, items, part, children, over_at}

-- a call of the start is returned
was_returned : (m : Envelope) → m.kind ≡ 2 → fate_of m ≡ failed → ⊥
was_returned m e f = no (ap (λ b. if b then returned else failed) (sym (eq-eqb m.kind 2 e)) ∙ f)
  where
    is_failed : Fate → Bool
    is_failed failed = true
    is_failed fate = false

    no : returned ≡ failed → ⊥
    no g = false_true (ap is_failed g)

-- none but that to the call for the registry's children tells of the registry
abbrev IsOther : Question → Type 0
IsOther GetChildren = ⊥
IsOther question = Unit {0}

same_registry : (h : Hearer) (m : Envelope) (b : Bool) (q : Question) → IsOther q → registry_after h m (returned_if b q) ≡ h.registry
same_registry h m false q i = refl
same_registry h m true Hello i = refl
same_registry h m true (AddMatch rule) i = refl
same_registry h m true (RegisterEvent pattern) i = refl
same_registry h m true GetChildren i = absurd i
same_registry h m true (GetItems name) i = refl
same_registry h m true (GetPart name path part) i = refl

module _ (w : World) (h : Hearer) (m : Envelope) (holds : List Holding) (to_come : List Question) (serial : ℕ) (registry : Option (List ℕ)) (apps : List Followed) (next : ℕ) where
  abbrev waiting : Question → ReaderState
  waiting q = record { to_come = to_come; pending = Some (record { serial = serial; question = q }); registry = registry; apps = apps; next = next; out = [] }

  abbrev rested : ReaderState
  rested = record { to_come = to_come; pending = None; registry = registry; apps = apps; next = next; out = [] }

  abbrev Then : (q : Question) → AsksWell h (waiting q) → Option Question → ReaderState → Type 0
  Then q a o s = AsksWell (heard h m (a.waiting.0 ++ record { serial = serial; question = q; fate = fate_of m } ∷ []) o holds) s

  -- by the question
  by_question : (q : Question) (a : AsksWell h (waiting q)) → IsReturnedWell w m q → Then q a (returned_if (m.kind == 2) q) (replied q rested m)
  by_question Hello a well =
      subst (λ b. Then Hello a (returned_if (m.kind == 2) Hello) (goes_on_if b rested)) (sym (and_from (m.kind == 2) (is_unique_name_alone m.body) (eq-eqb m.kind 2 well.0) well.1))
      (plain w h m holds to_come serial Hello registry apps next a (was_returned m well.0) (returned_if (m.kind == 2) Hello) (same_registry h m (m.kind == 2) Hello tt))
  by_question (AddMatch rule) a well =
      subst (λ b. Then (AddMatch rule) a (returned_if (m.kind == 2) (AddMatch rule)) (goes_on_if b rested)) (sym (eq-eqb m.kind 2 well))
      (plain w h m holds to_come serial (AddMatch rule) registry apps next a (was_returned m well) (returned_if (m.kind == 2) (AddMatch rule)) (same_registry h m (m.kind == 2) (AddMatch rule) tt))
  by_question (RegisterEvent pattern) a well =
      subst (λ b. Then (RegisterEvent pattern) a (returned_if (m.kind == 2) (RegisterEvent pattern)) (goes_on_if b rested)) (sym (eq-eqb m.kind 2 well))
      (plain w h m holds to_come serial (RegisterEvent pattern) registry apps next a (was_returned m well) (returned_if (m.kind == 2) (RegisterEvent pattern)) (same_registry h m (m.kind == 2) (RegisterEvent pattern) tt))
  by_question GetChildren a well =
      let known : ReaderState = record rested { registry = m.sender; apps = fold made_known apps (references_among (elements_of m.body)) } in
      subst (λ b. Then GetChildren a (returned_if (m.kind == 2) GetChildren) (if b then known else goes_on_if false rested)) (sym (and_from (m.kind == 2) (bytes_eq (signature_of m.body) children_signature) (eq-eqb m.kind 2 well.0) well.1))
      (subst (λ b. Then GetChildren a (returned_if b GetChildren) known) (sym (eq-eqb m.kind 2 well.0))
      (children w h m holds to_come serial GetChildren registry apps next a (was_returned m well.0) (over_at w h m holds to_come serial GetChildren registry apps next a refl a.starting)))
  by_question (GetItems name) a well =
      items w h m holds to_come serial (GetItems name) registry apps next a tt (returned_if (m.kind == 2) (GetItems name)) (same_registry h m (m.kind == 2) (GetItems name) tt) name (items_told m)
  by_question (GetPart name path p) a well =
      part w h m holds to_come serial (GetPart name path p) registry apps next a tt (returned_if (m.kind == 2) (GetPart name path p)) (same_registry h m (m.kind == 2) (GetPart name path p) tt) name path p (part_told p path m)

-- ANY MESSAGE, taken as a reply or not
both_false : (r t v : Bool) → (r && t) ≡ false → (r && (t && v)) ≡ false
both_false true true v e = absurd (false_true (sym e))
both_false true false v e = refl
both_false false t v e = refl

map_last : (m : Envelope) (early : List Asked) (x : Asked) → map (answered_by m) (early ++ x ∷ []) ≡ map (answered_by m) early ++ answered_by m x ∷ []
map_last m [] x = refl
map_last m (a ∷ early) x = ap (λ l. answered_by m a ∷ l) (map_last m early x)

returned_one : (m : Envelope) (x : Asked) → is_reply_to x.serial m.reply ≡ true → question_returned m (x ∷ []) ≡ returned_if (m.kind == 2) x.question
returned_one m x e = ap (λ t. if m.kind == 2 && t then Some x.question else None) e ∙ by (m.kind == 2)
  where
    by : (b : Bool) → (if b && true then Some x.question else None) ≡ returned_if b x.question
    by true = refl
    by false = refl

abbrev pub Took : Hearer → Envelope → List Holding → ReaderState → Type 0
Took h m holds s = AsksWell (heard h m (map (answered_by m) h.asked) (question_returned m h.asked) holds) s

takes : (w : World) (h : Hearer) (m : Envelope) (holds : List Holding) (to_come : List Question) (pending : Option Pending) (registry : Option (List ℕ)) (apps : List Followed) (next : ℕ)
    → AsksWell h (record { to_come = to_come; pending = pending; registry = registry; apps = apps; next = next; out = [] }) → RepliesWell w m h.asked
    → Took h m holds (takes_reply (record { to_come = to_come; pending = pending; registry = registry; apps = apps; next = next; out = [] }) m)
takes w h m holds to_come None registry apps next a well =
    unanswered h m holds (record { to_come = to_come; pending = None; registry = registry; apps = apps; next = next; out = [] }) (not_to w m h.asked (test_of_all is_answered h.asked a.waiting) well) a
takes w h m holds to_come (Some p) registry apps next a well = by (is_reply m && is_reply_to p.serial m.reply) refl
  where
    early : List Asked
    early = a.waiting.0

    x : Asked
    x = record { serial = p.serial; question = p.question; fate = waits }

    s : ReaderState
    s = record { to_come = to_come; pending = Some p; registry = registry; apps = apps; next = next; out = [] }

    replies : RepliesWell w m (a.waiting.0 ++ record { serial = p.serial; question = p.question; fate = waits } ∷ [])
    replies = subst (RepliesWell w m) a.waiting.1 well

    early_not : AllByRecursion (NotTo m) a.waiting.0
    early_not = not_to w m a.waiting.0 (test_of_all is_answered a.waiting.0 a.waiting.2) (λ k. front a.waiting.0 (replies k))
      where
        front : (l : List Asked) → AllByRecursion (λ (z : Asked). is_reply_to z.serial m.reply ≡ true → IsReplyWell w m z) (l ++ record { serial = p.serial; question = p.question; fate = waits } ∷ [])
            → AllByRecursion (λ (z : Asked). is_reply_to z.serial m.reply ≡ true → IsReplyWell w m z) l
        front [] k = tt
        front (z ∷ l) k = (k.0, front l k.1)

    by : (b : Bool) → (is_reply m && is_reply_to p.serial m.reply) ≡ b → Took h m holds (takes_reply (record { to_come = to_come; pending = Some p; registry = registry; apps = apps; next = next; out = [] }) m)
    by false e =
        subst (λ b. Took h m holds (if b then replied p.question (record s { pending = None }) m else s)) (sym (both_false (is_reply m) (is_reply_to p.serial m.reply) (may_answer p.question m) e))
        (unanswered h m holds s (subst (AllByRecursion (NotTo m)) (sym a.waiting.1) (all_append (NotTo m) early (x ∷ []) early_not (e, tt))) a)
    by true e =
        let both = and_parts (is_reply m) (is_reply_to p.serial m.reply) e in
        let one : IsReplyWell w m x = (all_back (λ (z : Asked). is_reply_to z.serial m.reply ≡ true → IsReplyWell w m z) early (x ∷ []) (replies both.0)).0 both.1 in
        let asked : map (answered_by m) h.asked ≡ early ++ record { serial = p.serial; question = p.question; fate = fate_of m } ∷ [] =
        ap (map (answered_by m)) a.waiting.1 ∙ map_last m early x ∙ ap (λ l. l ++ answered_by m x ∷ []) (none_to m early early_not) ∙ ap (λ b. early ++ (if b then record x { fate = fate_of m } else x) ∷ []) e in
        let told : question_returned m h.asked ≡ returned_if (m.kind == 2) p.question =
        ap (question_returned m) a.waiting.1 ∙ none_returned m early (x ∷ []) early_not ∙ returned_one m x both.1 in
        subst (λ b. Took h m holds (if b then replied p.question (record s { pending = None }) m else s))
        (sym (and_from (is_reply m) (is_reply_to p.serial m.reply && may_answer p.question m) both.0 (and_from (is_reply_to p.serial m.reply) (may_answer p.question m) both.1 one.from)))
        (subst (λ l. AsksWell (heard h m l (question_returned m h.asked) holds) (replied p.question (record s { pending = None }) m)) (sym asked)
        (subst (λ o. AsksWell (heard h m (early ++ record { serial = p.serial; question = p.question; fate = fate_of m } ∷ []) o holds) (replied p.question (record s { pending = None }) m)) (sym told)
        (by_question w h m holds to_come p.serial registry apps next p.question a one.well)))

pub took_reply : (w : World) (h : Hearer) (m : Envelope) (holds : List Holding) (s : ReaderState) → AsksWell h s → RepliesWell w m h.asked → Took h m holds (takes_reply s m)
took_reply w h m holds s a well =
    subst (λ (l : List Done). Took h m holds (takes_reply (record s { out = l }) m)) (sym a.silent)
    (takes w h m holds s.to_come s.pending s.registry s.apps s.next (subst (λ (l : List Done). AsksWell h (record s { out = l })) a.silent a) well)
