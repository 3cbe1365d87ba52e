-- A reader takes a message: what it holds then is what the trace tells then, and what it speaks is due.
use Rattle.std.proofs.Common.{◌≡◌, ℕ, Bool, true, false, List, [], ◌∷◌, ◌++◌, map, Option, None, Some, refl, sym, ap, ap₂, ◌∙◌, subst, is_some}
use Rattle.std.specs.Prelude.{◌==◌, ◌&&◌, option_map, if◌then◌else◌}
use Rattle.std.proofs.lemmas.Bool.{eq-eqb, ne_eqb, eqb-true}
use Rattle.std.proofs.lemmas.List.{append-nil}
use Rattle.atspi_script_lines.specs.declared.line.Party.{Party}
use Rattle.atspi_script_lines.specs.declared.line.Party.TheVariants.{App, Reader}
use Rattle.atspi_message.specs.Envelope.{Envelope}
use Rattle.atspi_protocol.specs.declared.news.part.PartName.{PartName}
use Rattle.atspi_protocol.specs.declared.following.question.Question.{Question}
use Rattle.atspi_protocol.specs.declared.following.question.Question.TheVariants.{Hello, AddMatch, RegisterEvent, GetChildren, GetItems, GetPart}
use Rattle.atspi_speech.specs.Speech.{says_after}
use Rattle.atspi_trace.specs.Entry.{Entry, got, spoke, gone}
use Rattle.atspi_trace.specs.World.{Holding, Hearer, Said, Letter, End}
use Rattle.atspi_trace.specs.Hearing.{answered_by, question_returned, holding_of, without, noted, holds_after, without_ended, registry_after, names_told, hears_letter, step_lines, lines_if_held, last_lines, ended_entries, heard_entries}
use Rattle.atspi_trace_laws.specs.laws.Words.{messages, message, as_of, answer_to, answers_question, Kept, kept_with, kept_after, held_on, held}
use Rattle.atspi_trace_laws.specs.laws.NineLaws.{IsSpoken, Follow}
use Rattle.atspi_trace_laws.proofs.OfOrder.Parties.{false_true}
use Rattle.atspi_trace_laws.proofs.OfTaken.Said.{TellsTree, IsLetter}
use Rattle.atspi_trace_laws.proofs.OfHeld.Holdings.{without_it, without_other, loaded_it, loaded_other, noted_it, noted_other, call_answered, question_by, returned_is}
use Rattle.atspi_trace_laws.proofs.OfHeld.Keeping.{held_more, SameHolding, SameKept, same_more, ReaderIs, calls_same}

-- what is spoken changes nothing that is held
pub spoken_kept : (early : List Entry) (reader app r a : ℕ) (kept : Option Kept) (lines : List (List ℕ)) → held_on early reader app kept (map (spoke r a) lines) ≡ kept
spoken_kept early reader app r a kept [] = refl
spoken_kept early reader app r a kept (line ∷ lines) = spoken_kept (early ++ spoke r a line ∷ []) reader app r a kept lines

pub spoken_messages : (r a : ℕ) (who : Party) (lines : List (List ℕ)) → messages (map (spoke r a) lines) who ≡ []
spoken_messages r a who [] = refl
spoken_messages r a who (line ∷ lines) = spoken_messages r a who lines

ended_messages : (r : ℕ) (h : Hearer) (o : Option ℕ) (who : Party) → messages (ended_entries r h o) who ≡ []
ended_messages r h None who = refl
ended_messages r h (Some app) who = spoken_messages r app who (last_lines (holding_of app h.holds))

-- the question that a message answers is the same both ways
same_question : (es : List Entry) (reader app : ℕ) (h : Hearer) (m first : Envelope) → ReaderIs es reader h → message es (App app) m.serial ≡ Some first → m ≡ record first { sender = m.sender }
    → answers_question es reader (message es (App app) m.serial) ≡ question_returned m h.asked
same_question es reader app h m first i was alike =
    ap (answers_question es reader) was ∙ by first.reply
    ∙ ap₂ (λ b o. question_by b o h.asked) (ap (λ (e : Envelope). e.kind == 2) (sym alike)) (ap (λ (e : Envelope). e.reply) (sym alike)) ∙ sym (returned_is m h.asked)
  where
    by : (o : Option ℕ) → answer_to es reader first o ≡ question_by (first.kind == 2) o h.asked
    by None = refl
    by (Some s) = ap (λ q. if first.kind == 2 then q else None) (i.calls s)

-- what a message of an application brings
module _ (es : List Entry) (app : ℕ) (said : Said) (first : Envelope) (was : message es (App app) said.message.serial ≡ Some first) (tells : TellsTree es app said) where
  fresh : (k : Kept) (h : Holding) → k.last ≡ said.message.serial → k.told ≡ h.told → h.last ≡ said.message.serial → h.tree ≡ said.tree → SameHolding es app k h
  fresh k h last told now tree = record {
    last = last ∙ sym now;
    told = told;
    first = first;
    was = ap (message es (App app)) now ∙ was;
    tree = ap (as_of es app) now ∙ tells.tree ∙ sym tree;
  }

  noted_same : (parts : List (List ℕ × PartName)) (k : Option Kept) (h : Option Holding) → SameKept es app k h
      → SameKept es app (option_map (λ (x : Kept). record { last = said.message.serial; told = x.told ++ parts }) k) (option_map (noted said parts) h)
  noted_same parts None None s = tt
  noted_same parts (Some k) (Some h) s =
      fresh (record { last = said.message.serial; told = k.told ++ parts }) (noted said parts h) refl (ap (λ l. l ++ parts) s.told) refl refl
  noted_same parts None (Some h) s = absurd s
  noted_same parts (Some k) None s = absurd s

  plain_same : (k : Option Kept) (h : Option Holding) → SameKept es app k h → SameKept es app (option_map (λ (x : Kept). record x { last = said.message.serial }) k) (option_map (noted said []) h)
  plain_same None None s = tt
  plain_same (Some k) (Some h) s = fresh (record k { last = said.message.serial }) (noted said [] h) refl (s.told ∙ sym (append-nil h.told)) refl refl
  plain_same None (Some h) s = absurd s
  plain_same (Some k) None s = absurd s

  pub brought : (question : Option Question) (ks : List Holding) (k : Option Kept) → SameKept es app k (holding_of app ks)
      → SameKept es app (kept_with said.message.serial question k) (holding_of app (holds_after app said question ks))
  brought (Some (GetItems name)) ks k s =
      subst (SameKept es app (Some (record { last = said.message.serial; told = [] }))) (sym (loaded_it app said ks))
      (fresh (record { last = said.message.serial; told = [] }) (record { app = app; tree = said.tree; last = said.message.serial; told = [] }) refl refl refl refl)
  brought (Some (GetPart name path part)) ks k s = subst (SameKept es app _) (sym (noted_it app said ((path, part) ∷ []) ks)) (noted_same ((path, part) ∷ []) k (holding_of app ks) s)
  brought (Some Hello) ks k s = subst (SameKept es app _) (sym (noted_it app said [] ks)) (plain_same k (holding_of app ks) s)
  brought (Some (AddMatch rule)) ks k s = subst (SameKept es app _) (sym (noted_it app said [] ks)) (plain_same k (holding_of app ks) s)
  brought (Some (RegisterEvent pattern)) ks k s = subst (SameKept es app _) (sym (noted_it app said [] ks)) (plain_same k (holding_of app ks) s)
  brought (Some GetChildren) ks k s = subst (SameKept es app _) (sym (noted_it app said [] ks)) (plain_same k (holding_of app ks) s)
  brought None ks k s = subst (SameKept es app _) (sym (noted_it app said [] ks)) (plain_same k (holding_of app ks) s)

-- of others it brings nothing
pub brought_other : (app b : ℕ) (said : Said) (question : Option Question) (ks : List Holding) → (app ≡ b → ⊥) → holding_of b (holds_after app said question ks) ≡ holding_of b ks
brought_other app b said (Some (GetItems name)) ks differ = loaded_other app b said ks differ
brought_other app b said (Some (GetPart name path part)) ks differ = noted_other app b said ((path, part) ∷ []) ks differ
brought_other app b said (Some Hello) ks differ = noted_other app b said [] ks differ
brought_other app b said (Some (AddMatch rule)) ks differ = noted_other app b said [] ks differ
brought_other app b said (Some (RegisterEvent pattern)) ks differ = noted_other app b said [] ks differ
brought_other app b said (Some GetChildren) ks differ = noted_other app b said [] ks differ
brought_other app b said None ks differ = noted_other app b said [] ks differ

-- AN APPLICATION'S MESSAGE
kept_here : (es : List Entry) (r app b serial : ℕ) (kept : Option Kept)
    → kept_after es r b kept (got (Reader r) (App app) serial) ≡ (if app == b then kept_with serial (answers_question es r (message es (App b) serial)) kept else kept)
kept_here es r app b serial kept =
    ap (λ t. if t && app == b then kept_with serial (answers_question es r (message es (App b) serial)) kept else kept) (eq-eqb r r refl)

module _ (es : List Entry) (r app : ℕ) (h : Hearer) (ends : List End) (said : Said) (i : ReaderIs es r h) (is : IsLetter es (record { from = App app; said = said })) where
  abbrev its_letter : Letter
  its_letter = record { from = App app; said = said }

  abbrev its_first : Entry
  its_first = got (Reader r) (App app) said.message.serial

  abbrev its_entries : List Entry
  its_entries = its_first ∷ heard_entries r h ends its_letter

  -- the trace's side: the message counts, and what is spoken behind it does not
  kept_now : (b : ℕ) → held (es ++ its_entries) r b ≡ (if app == b then kept_with said.message.serial (answers_question es r (message es (App b) said.message.serial)) (held es r b) else held es r b)
  kept_now b =
      held_more es its_entries r b
      ∙ spoken_kept (es ++ its_first ∷ []) r b r app (kept_after es r b (held es r b) its_first) (lines_if_held (holding_of app h.holds) said)
      ∙ kept_here es r app b said.message.serial (held es r b)

  its_own : SameKept (es ++ its_entries) app (held (es ++ its_entries) r app) (holding_of app (hears_letter h ends its_letter).holds)
  its_own =
      subst (λ k. SameKept (es ++ its_entries) app k (holding_of app (hears_letter h ends its_letter).holds))
      (sym (kept_now app ∙ ap (λ t. if t then kept_with said.message.serial (answers_question es r (message es (App app) said.message.serial)) (held es r app) else held es r app) (eq-eqb app app refl)
      ∙ ap (λ q. kept_with said.message.serial q (held es r app)) (same_question es r app h said.message is.first i is.was is.alike)))
      (same_more es its_entries app (kept_with said.message.serial (question_returned said.message h.asked) (held es r app)) (holding_of app (hears_letter h ends its_letter).holds)
      (brought es app said is.first is.was is.tells (question_returned said.message h.asked) h.holds (held es r app) (i.holds app)))

  its_others : (b : ℕ) → (app ≡ b → ⊥) → SameKept (es ++ its_entries) b (held (es ++ its_entries) r b) (holding_of b (hears_letter h ends its_letter).holds)
  its_others b differ =
      subst (λ k. SameKept (es ++ its_entries) b k (holding_of b (hears_letter h ends its_letter).holds))
      (sym (kept_now b ∙ ap (λ t. if t then kept_with said.message.serial (answers_question es r (message es (App b) said.message.serial)) (held es r b) else held es r b) (ne_eqb app b differ)))
      (subst (SameKept (es ++ its_entries) b (held es r b)) (sym (brought_other app b said (question_returned said.message h.asked) h.holds differ))
      (same_more es its_entries b (held es r b) (holding_of b h.holds) (i.holds b)))

  pub app_heard : ReaderIs (es ++ its_entries) r (hears_letter h ends its_letter)
  app_heard = record {
    calls = λ s. calls_same es its_entries r (spoken_messages r app (Reader r) (lines_if_held (holding_of app h.holds) said)) s ∙ i.calls s ∙ sym (call_answered s said.message h.asked);
    holds = λ b. by b (app == b) refl;
  }
    where
      by : (b : ℕ) (t : Bool) → (app == b) ≡ t → SameKept (es ++ its_entries) b (held (es ++ its_entries) r b) (holding_of b (hears_letter h ends its_letter).holds)
      by b true g = subst (λ c. SameKept (es ++ its_entries) c (held (es ++ its_entries) r c) (holding_of c (hears_letter h ends its_letter).holds)) (eqb-true app b g) its_own
      by b false g = its_others b (λ same. false_true (sym g ∙ eq-eqb app b same))

  -- and what is spoken of it is due
  pub app_spoken : (rest : List Entry) → IsSpoken es its_first (heard_entries r h ends its_letter ++ rest)
  app_spoken rest holding step announces = by (held es r app) (holding_of app h.holds) holding (i.holds app)
    where
      lines_of : Option Holding → List (List ℕ)
      lines_of o = lines_if_held o said

      by : (k : Option Kept) (o : Option Holding) → is_some k ≡ true → SameKept es app k o
          → Follow (map (spoke r app) (says_after (as_of es app said.message.serial) step)) (map (spoke r app) (lines_if_held o said) ++ rest)
      by (Some k) (Some o) some s =
          let due : lines_if_held (Some o) said ≡ says_after (as_of es app said.message.serial) step =
          ap (step_lines said) (is.tells.step step announces) ∙ ap (λ t. says_after t step) (sym is.tells.tree) in
          (rest, ap (λ l. map (spoke r app) l ++ rest) due)
      by None o some s = absurd (false_true some)
      by (Some k) None some s = absurd s

-- A MESSAGE OF SOMEBODY ELSE
abbrev without_kept : ℕ → Option ℕ → Option Kept → Option Kept
without_kept b None k = k
without_kept b (Some app) k = if app == b then None else k

module _ (es : List Entry) (r : ℕ) (h : Hearer) (serial : ℕ) (m : Envelope) (from : Party) (o : Option ℕ) (i : ReaderIs es r h)
    (apart : (early : List Entry) (b : ℕ) (k : Option Kept) → kept_after early r b k (got (Reader r) from serial) ≡ k) where
  abbrev got_it : Entry
  got_it = got (Reader r) from serial

  abbrev got_entries : List Entry
  got_entries = got_it ∷ ended_entries r h o

  abbrev got_hearer : Hearer
  got_hearer =
      let answered = question_returned m h.asked in
      record h { asked = map (answered_by m) h.asked; registry = registry_after h m answered; named = h.named ++ names_told h m answered; holds = without_ended o h.holds }

  ended_now : (b : ℕ) (p : Option ℕ) (early : List Entry) (k : Option Kept) → held_on early r b k (ended_entries r h p) ≡ without_kept b p k
  ended_now b None early k = refl
  ended_now b (Some app) early k =
      spoken_kept (early ++ gone r app ∷ []) r b r app (kept_after early r b k (gone r app)) (last_lines (holding_of app h.holds))
      ∙ ap (λ t. if t && app == b then None else k) (eq-eqb r r refl)

  same_without : (b : ℕ) (p : Option ℕ) → SameKept (es ++ got_entries) b (without_kept b p (held es r b)) (holding_of b (without_ended p h.holds))
  same_without b None = same_more es got_entries b (held es r b) (holding_of b h.holds) (i.holds b)
  same_without b (Some app) = by (app == b) refl
    where
      by : (t : Bool) → (app == b) ≡ t → SameKept (es ++ got_entries) b (if t then None else held es r b) (holding_of b (without app h.holds))
      by true g = subst (SameKept (es ++ got_entries) b None) (sym (ap (λ c. holding_of c (without app h.holds)) (sym (eqb-true app b g)) ∙ without_it app h.holds)) tt
      by false g =
          subst (SameKept (es ++ got_entries) b (held es r b)) (sym (without_other app b h.holds (λ same. false_true (sym g ∙ eq-eqb app b same))))
          (same_more es got_entries b (held es r b) (holding_of b h.holds) (i.holds b))

  pub other_heard : ReaderIs (es ++ got_entries) r got_hearer
  other_heard = record {
    calls = λ s. calls_same es got_entries r (ended_messages r h o (Reader r)) s ∙ i.calls s ∙ sym (call_answered s m h.asked);
    holds = λ b.
        subst (λ k. SameKept (es ++ got_entries) b k (holding_of b (without_ended o h.holds)))
        (sym (held_more es got_entries r b ∙ ap (λ k. held_on (es ++ got_it ∷ []) r b k (ended_entries r h o)) (apart es b (held es r b)) ∙ ended_now b o (es ++ got_it ∷ []) (held es r b)))
        (same_without b o);
  }
