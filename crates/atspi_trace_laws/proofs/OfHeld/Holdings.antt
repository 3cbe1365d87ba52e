-- What a reader holds: lists of holdings, looked up by application.
use Rattle.std.proofs.Common.{◌≡◌, ℕ, Bool, true, false, List, [], ◌∷◌, ◌++◌, map, Option, None, Some, refl, sym, ap, ◌∙◌}
use Rattle.std.specs.Prelude.{◌==◌, ◌&&◌, not, option_map, if◌then◌else◌}
use Rattle.std.proofs.lemmas.Bool.{eq-eqb, eqb-true, ne_eqb}
use Rattle.atspi_tree_model.specs.Forest.{first_of}
use Rattle.atspi_message.specs.Envelope.{Envelope}
use Rattle.atspi_protocol.specs.declared.news.part.PartName.{PartName}
use Rattle.atspi_protocol.specs.declared.following.question.Question.{Question}
use Rattle.atspi_protocol.specs.following.Replied.{is_reply_to}
use Rattle.atspi_match.specs.routing.Routing.{is_reply}
use Rattle.atspi_trace.specs.World.{Asked, Holding, Said}
use Rattle.atspi_trace.specs.Hearing.{fate_of, answered_by, question_returned, is_of, holding_of, without, loaded, noted, noted_of}

pub or_none : {A : Type 0} (o : Option A) → first_of o None ≡ o
or_none None = refl
or_none (Some x) = refl

-- one that is put last
pub holding_last : (a : ℕ) (ks : List Holding) (k : Holding) → holding_of a (ks ++ k ∷ []) ≡ first_of (holding_of a ks) (if is_of a k then Some k else None)
holding_last a [] k = refl
holding_last a (x ∷ ks) k = by (is_of a x) (holding_last a ks k)
  where
    by : (b : Bool) → holding_of a (ks ++ k ∷ []) ≡ first_of (holding_of a ks) (if is_of a k then Some k else None)
        → (if b then Some x else holding_of a (ks ++ k ∷ [])) ≡ first_of (if b then Some x else holding_of a ks) (if is_of a k then Some k else None)
    by true h = refl
    by false h = h

-- one less
pub without_it : (a : ℕ) (ks : List Holding) → holding_of a (without a ks) ≡ None
without_it a [] = refl
without_it a (x ∷ ks) = by (is_of a x) refl (without_it a ks)
  where
    by : (b : Bool) → is_of a x ≡ b → holding_of a (without a ks) ≡ None → holding_of a (if not b then x ∷ without a ks else without a ks) ≡ None
    by true g h = h
    by false g h = ap (λ t. if t then Some x else holding_of a (without a ks)) g ∙ h

apart_of : (a b : ℕ) (k : Holding) → (a ≡ b → ⊥) → is_of a k ≡ true → is_of b k ≡ false
apart_of a b k differ h = ne_eqb k.app b (λ same. differ (sym (eqb-true k.app a h) ∙ same))

pub without_other : (a b : ℕ) (ks : List Holding) → (a ≡ b → ⊥) → holding_of b (without a ks) ≡ holding_of b ks
without_other a b [] differ = refl
without_other a b (x ∷ ks) differ = by (is_of a x) refl (without_other a b ks differ)
  where
    by : (t : Bool) → is_of a x ≡ t → holding_of b (without a ks) ≡ holding_of b ks → holding_of b (if not t then x ∷ without a ks else without a ks) ≡ (if is_of b x then Some x else holding_of b ks)
    by true g h = h ∙ sym (ap (λ t. if t then Some x else holding_of b ks) (apart_of a b x differ g))
    by false g h = ap (λ l. if is_of b x then Some x else l) h

-- all was told
pub loaded_it : (a : ℕ) (said : Said) (ks : List Holding) → holding_of a (loaded a said ks) ≡ Some (record { app = a; tree = said.tree; last = said.message.serial; told = [] })
loaded_it a said ks =
    let k : Holding = record { app = a; tree = said.tree; last = said.message.serial; told = [] } in
    holding_last a (without a ks) k ∙ ap (λ o. first_of o (if is_of a k then Some k else None)) (without_it a ks) ∙ ap (λ t. if t then Some k else None) (eq-eqb a a refl)

pub loaded_other : (a b : ℕ) (said : Said) (ks : List Holding) → (a ≡ b → ⊥) → holding_of b (loaded a said ks) ≡ holding_of b ks
loaded_other a b said ks differ =
    let k : Holding = record { app = a; tree = said.tree; last = said.message.serial; told = [] } in
    holding_last b (without a ks) k ∙ ap (λ t. first_of (holding_of b (without a ks)) (if t then Some k else None)) (ne_eqb a b differ)
    ∙ or_none (holding_of b (without a ks)) ∙ without_other a b ks differ

-- some parts were told
pub noted_it : (a : ℕ) (said : Said) (parts : List (List ℕ × PartName)) (ks : List Holding) → holding_of a (noted_of a said parts ks) ≡ option_map (noted said parts) (holding_of a ks)
noted_it a said parts [] = refl
noted_it a said parts (x ∷ ks) = by (is_of a x) refl (noted_it a said parts ks)
  where
    by : (t : Bool) → is_of a x ≡ t → holding_of a (noted_of a said parts ks) ≡ option_map (noted said parts) (holding_of a ks)
        → holding_of a ((if t then noted said parts x else x) ∷ noted_of a said parts ks) ≡ option_map (noted said parts) (if t then Some x else holding_of a ks)
    by true g h = ap (λ t. if t then Some (noted said parts x) else holding_of a (noted_of a said parts ks)) g
    by false g h = ap (λ t. if t then Some x else holding_of a (noted_of a said parts ks)) g ∙ h

pub noted_other : (a b : ℕ) (said : Said) (parts : List (List ℕ × PartName)) (ks : List Holding) → (a ≡ b → ⊥) → holding_of b (noted_of a said parts ks) ≡ holding_of b ks
noted_other a b said parts [] differ = refl
noted_other a b said parts (x ∷ ks) differ = by (is_of a x) refl (noted_other a b said parts ks differ)
  where
    by : (t : Bool) → is_of a x ≡ t → holding_of b (noted_of a said parts ks) ≡ holding_of b ks
        → holding_of b ((if t then noted said parts x else x) ∷ noted_of a said parts ks) ≡ (if is_of b x then Some x else holding_of b ks)
    by true g h =
        ap (λ t. if t then Some (noted said parts x) else holding_of b (noted_of a said parts ks)) (apart_of a b x differ g) ∙ h
        ∙ sym (ap (λ t. if t then Some x else holding_of b ks) (apart_of a b x differ g))
    by false g h = ap (λ l. if is_of b x then Some x else l) h

-- A READER'S OWN CALLS
abbrev pub call_at : ℕ → List Asked → Option Question
call_at s [] = None
call_at s (a ∷ asked) = if s == a.serial then Some a.question else call_at s asked

pub call_last : (s : ℕ) (asked : List Asked) (x : Asked) → call_at s (asked ++ x ∷ []) ≡ first_of (call_at s asked) (if s == x.serial then Some x.question else None)
call_last s [] x = refl
call_last s (a ∷ asked) x = by (s == a.serial) (call_last s asked x)
  where
    by : (b : Bool) → call_at s (asked ++ x ∷ []) ≡ first_of (call_at s asked) (if s == x.serial then Some x.question else None)
        → (if b then Some a.question else call_at s (asked ++ x ∷ [])) ≡ first_of (if b then Some a.question else call_at s asked) (if s == x.serial then Some x.question else None)
    by true h = refl
    by false h = h

-- an answer changes no question
pub call_answered : (s : ℕ) (m : Envelope) (asked : List Asked) → call_at s (map (answered_by m) asked) ≡ call_at s asked
call_answered s m [] = refl
call_answered s m (a ∷ asked) = by (is_reply m && is_reply_to a.serial m.reply) (call_answered s m asked)
  where
    by : (b : Bool) → call_at s (map (answered_by m) asked) ≡ call_at s asked
        → call_at s ((if b then record a { fate = fate_of m } else a) ∷ map (answered_by m) asked) ≡ (if s == a.serial then Some a.question else call_at s asked)
    by true h = ap (λ l. if s == a.serial then Some a.question else l) h
    by false h = ap (λ l. if s == a.serial then Some a.question else l) h

-- the question that a return answers
abbrev pub question_by : Bool → Option ℕ → List Asked → Option Question
question_by returns None asked = None
question_by returns (Some s) asked = if returns then call_at s asked else None

pub returned_is : (m : Envelope) (asked : List Asked) → question_returned m asked ≡ question_by (m.kind == 2) m.reply asked
returned_is m [] = by (m.kind == 2) m.reply
  where
    by : (b : Bool) (o : Option ℕ) → None ≡ question_by b o []
    by b None = refl
    by true (Some s) = refl
    by false (Some s) = refl
returned_is m (a ∷ asked) = by (m.kind == 2) m.reply (returned_is m asked)
  where
    by : (b : Bool) (o : Option ℕ) → question_returned m asked ≡ question_by b o asked → (if b && is_reply_to a.serial o then Some a.question else question_returned m asked) ≡ question_by b o (a ∷ asked)
    by true None h = h
    by false None h = h
    by true (Some s) h = ap (λ l. if s == a.serial then Some a.question else l) h
    by false (Some s) h = h
