-- THE LAW OF SPOKEN LINES.
use Rattle.std.proofs.Common.{◌≡◌, inl, inr, ℕ, false, List, [], ◌∷◌, ◌++◌, map, Option, None, Some, refl, sym, ap, ap₂, ◌∙◌, subst, is_some}
use Rattle.std.specs.Prelude.{if◌then◌else◌}
use Rattle.std.specs.List.{AllByRecursion}
use Rattle.std.proofs.lemmas.List.{append-nil}
use Rattle.atspi_tree_model.specs.declared.step.Step.{Step}
use Rattle.atspi_script_lines.specs.declared.line.Line.{Line}
use Rattle.atspi_script_lines.specs.declared.line.Party.{Party}
use Rattle.atspi_script_lines.specs.declared.line.Party.TheVariants.{Bus as The_bus, Registry, App, Reader}
use Rattle.atspi_message.specs.Envelope.{Envelope}
use Rattle.atspi_speech.specs.Speech.{says_after, closing_says}
use Rattle.atspi_protocol.specs.registering.Steps.{registry_takes}
use Rattle.atspi_protocol.specs.exporting.Taking.{app_takes}
use Rattle.atspi_trace.specs.Entry.{Entry, sent, got, spoke, gone, busy, quiet}
use Rattle.atspi_trace.specs.World.{Holding, Hearer, Said, Letter, End, World}
use Rattle.atspi_trace.specs.Ends.{number_of}
use Rattle.atspi_trace.specs.Carrying as carrying
use Rattle.atspi_trace.specs.Hearing.{holding_of, app_ended, step_lines, lines_if_held, last_lines, ended_entries, heard_entries}
use Rattle.atspi_trace.specs.Causes.{Cause, Done}
use Rattle.atspi_trace.specs.Work.{Work}
use Rattle.atspi_headline.specs.Words as here
use Rattle.atspi_headline.specs.Words.{Act, begins_line, writes, entries_in, speaking, is_a, Along, next_of, Held, held_of}
use Rattle.atspi_headline.specs.Headline.{step_of, lines_of, closing_lines, spoken_due, LawOfSpokenLines}
use Rattle.atspi_trace_laws.specs.laws.Words as told
use Rattle.atspi_trace_laws.specs.laws.Words.{Kept}
use Rattle.atspi_trace_laws.specs.serials.Laws.{HasNextNumber}
use Rattle.atspi_trace_laws.proofs.OfOrder.Each.{Each}
use Rattle.atspi_trace_laws.proofs.OfOrder.Effects.{received}
use Rattle.atspi_trace_laws.proofs.OfOrder.Growing.{Shaped, And}
use Rattle.atspi_trace_laws.proofs.OfSteps.LawSteps.{Below, Stepped}
use Rattle.atspi_trace_laws.proofs.OfSerials.Numbers.{Numbered}
use Rattle.atspi_trace_laws.proofs.OfSerials.LawNumbers.{numbers_keep}
use Rattle.atspi_trace_laws.proofs.OfSerials.Serial.{messages_more}
use Rattle.atspi_trace_laws.proofs.OfTaken.Said.{IsLetter, Comes}
use Rattle.atspi_trace_laws.proofs.OfTaken.LawTaken.{Known}
use Rattle.atspi_trace_laws.proofs.OfHeld.Keeping.{SameKept, same_more, ReaderIs, held_more}
use Rattle.atspi_trace_laws.proofs.OfHeld.LawHeld.{Below_held, Holds, holds_keep}
use Rattle.atspi_trace_laws.proofs.OfOwn.Writing.{Lives}
use Rattle.atspi_headline_laws.proofs.Ran.{Ran}
use Rattle.atspi_headline_laws.proofs.Making.{entries_more}
use Rattle.atspi_headline_laws.proofs.Reading.{as_of_told}
use Rattle.atspi_headline_laws.proofs.Numbering.{From, numbered}
use Rattle.atspi_headline_laws.proofs.Holding.{as_kept, held_told}
use Rattle.atspi_headline_laws.proofs.Dues.{IsOwed, Still, still_along, still_writes}
use Rattle.atspi_headline_laws.proofs.Acting.{LineDid, TurnDid, told_busy, told_quiet, bus_took, bus_ended, registry_took, app_took, reader_took, IsBareLine}
use Rattle.atspi_headline_laws.proofs.Growing.{Front, Written, still_written, IsLaw, law_along}
use Rattle.atspi_headline_laws.proofs.Sorting.{AppSorts, BusSorts, LineSorts, sent_all, app_all, of_bus_all, line_all}
use Rattle.atspi_headline_laws.proofs.Telling.{IsTight}
use Rattle.atspi_headline_laws.proofs.Announcing.{step_is}

-- NOTHING IS SPOKEN
abbrev Stills : Entry → Type 0
Stills entry = Still speaking spoken_due (writes entry)

apps_still : AppSorts Stills
apps_still = record {
  steps_ = λ app step. record { none = refl; nothing = λ before. refl };
  sends_ = λ app e. record { none = refl; nothing = λ before. refl };
  hears_ = λ app listener pattern. record { none = refl; nothing = λ before. refl };
  deaf_ = λ app listener pattern. record { none = refl; nothing = λ before. refl };
}

bus_still : BusSorts Stills
bus_still = record { says_ = λ e. record { none = refl; nothing = λ before. refl }; drops_ = λ who queued len. record { none = refl; nothing = λ before. refl } }

sent_still : (who : Party) (e : Envelope) → Stills (sent who e)
sent_still The_bus e = record { none = refl; nothing = λ before. refl }
sent_still Registry e = record { none = refl; nothing = λ before. refl }
sent_still (App a) e = record { none = refl; nothing = λ before. refl }
sent_still (Reader r) e = record { none = refl; nothing = λ before. refl }

lines_still : LineSorts Stills
lines_still = record {
  app = apps_still;
  starts_ = λ who name. record { none = refl; nothing = λ before. refl };
  calls_ = sent_still;
  exits_ = λ who. record { none = refl; nothing = λ before. refl };
  shows_ = λ reader app rows. record { none = refl; nothing = λ before. refl };
}

spoken_line : (run : List Act) (w : World) (line : Line) (d : Done) → Front run w None → LineDid w line d → Along (IsOwed speaking spoken_due) run (begins_line line ∷ map writes d.entries)
spoken_line run w line d f l =
    still_along speaking spoken_due run (begins_line line ∷ map writes d.entries)
    (record { none = refl; nothing = λ before. refl }, still_writes speaking spoken_due d.entries (line_all Stills lines_still w line d l))

-- LINES stand one behind the other
lines_next : (r a : ℕ) (lines : List (List ℕ)) → next_of (is_a speaking) (map writes (map (spoke r a) lines)) ≡ map (spoke r a) lines
lines_next r a [] = refl
lines_next r a (line ∷ lines) = ap (λ l. spoke r a line ∷ l) (lines_next r a lines)

lines_along : (before : List Act) (r a : ℕ) (lines : List (List ℕ)) → Along (IsOwed speaking spoken_due) before (map writes (map (spoke r a) lines))
lines_along before r a [] = tt
lines_along before r a (line ∷ lines) = (tt, lines_along (before ++ writes (spoke r a line) ∷ []) r a lines)

-- BEHIND AN APPLICATION'S MESSAGE
lines_same : (front : List Act) (a : ℕ) (said : Said) (o : Option Step) → here.as_of front a said.message.serial ≡ said.tree → lines_of front a said.message.serial o ≡ step_lines said o
lines_same front a said None tree = refl
lines_same front a said (Some step) tree = ap (λ t. says_after t step) tree

due_same : (front : List Act) (r a : ℕ) (said : Said) (held : Option Held) (k : Option Holding) → SameKept (entries_in front) a (as_kept held) k
    → lines_of front a said.message.serial (step_of front a said.message.serial) ≡ step_lines said said.announces
    → map (spoke r a) (lines_if_held k said) ≡ (if is_some held then map (spoke r a) (lines_of front a said.message.serial (step_of front a said.message.serial)) else [])
due_same front r a said None None s lines = refl
due_same front r a said (Some h) (Some k) s lines = ap (map (spoke r a)) (sym lines)
due_same front r a said None (Some k) s lines = absurd s
due_same front r a said (Some h) None s lines = absurd s

-- what is known where a reader takes a message
pub record Reads (front : List Act) (r : ℕ) (h : Hearer) : Type 0 where
  pub reader : ReaderIs (entries_in front) r h
  pub numbers : Each HasNextNumber [] (entries_in front)

held_same : (front : List Act) (r a : ℕ) (h : Hearer) → Reads front r h → SameKept (entries_in front) a (as_kept (held_of front r a)) (holding_of a h.holds)
held_same front r a h i =
    let is : as_kept (held_of front r a) ≡ told.held (entries_in front) r a =
    held_told front r a (numbered (Reader r) tt (entries_in front) i.numbers) (numbered (App a) tt (entries_in front) i.numbers) in
    subst (λ k. SameKept (entries_in front) a k (holding_of a h.holds)) (sym is) (i.reader.holds a)

app_said : (front : List Act) (r a : ℕ) (h : Hearer) (said : Said) → Along IsTight [] front → Reads front r h → IsLetter (entries_in front) (record { from = App a; said = said })
    → Along (IsOwed speaking spoken_due) front (writes (got (Reader r) (App a) said.message.serial) ∷ map writes (map (spoke r a) (lines_if_held (holding_of a h.holds) said)))
app_said front r a h said tight i is =
    let serial : ℕ = said.message.serial in
    let tree : here.as_of front a serial ≡ said.tree = as_of_told front a serial ∙ is.tells.tree in
    let step : step_of front a serial ≡ said.announces = step_is front a serial said refl (ap is_some is.was) tight is.tells in
    let lines : lines_of front a serial (step_of front a serial) ≡ step_lines said said.announces = ap (lines_of front a serial) step ∙ lines_same front a said said.announces tree in (
      lines_next r a (lines_if_held (holding_of a h.holds) said) ∙ due_same front r a said (held_of front r a) (holding_of a h.holds) (held_same front r a h i) lines,
      lines_along (front ++ writes (got (Reader r) (App a) serial) ∷ []) r a (lines_if_held (holding_of a h.holds) said),
    )

-- BEHIND THE NEWS OF AN END
closing_same : (before : List Act) (a : ℕ) (held : Option Held) (k : Option Holding) → SameKept (entries_in before) a (as_kept held) k → last_lines k ≡ closing_lines before a held
closing_same before a None None s = refl
closing_same before a (Some h) (Some k) s = sym (ap closing_says (as_of_told before a h.last ∙ ap (told.as_of (entries_in before) a) s.last ∙ s.tree))
closing_same before a None (Some k) s = absurd s
closing_same before a (Some h) None s = absurd s

module _ (front : List Act) (r serial : ℕ) (h : Hearer) (i : Reads front r h) where
  abbrev first : Entry
  first = got (Reader r) The_bus serial

  abbrev behind : List Act
  behind = front ++ writes first ∷ []

  its_entries : entries_in behind ≡ entries_in front ++ first ∷ []
  its_entries = entries_more front (writes first ∷ [])

  same_messages : (who : Party) → told.messages (entries_in behind) who ≡ told.messages (entries_in front) who
  same_messages who = ap (λ l. told.messages l who) its_entries ∙ messages_more (entries_in front) (first ∷ []) who ∙ append-nil (told.messages (entries_in front) who)

  still_held : (a : ℕ) → SameKept (entries_in behind) a (as_kept (held_of behind r a)) (holding_of a h.holds)
  still_held a =
      let calls : From 1 (told.messages (entries_in behind) (Reader r)) = subst (From 1) (sym (same_messages (Reader r))) (numbered (Reader r) tt (entries_in front) i.numbers) in
      let own : From 1 (told.messages (entries_in behind) (App a)) = subst (From 1) (sym (same_messages (App a))) (numbered (App a) tt (entries_in front) i.numbers) in
      let kept : told.held (entries_in behind) r a ≡ told.held (entries_in front) r a = ap (λ l. told.held l r a) its_entries ∙ held_more (entries_in front) (first ∷ []) r a in
      subst (λ k. SameKept (entries_in behind) a k (holding_of a h.holds)) (sym (held_told behind r a calls own ∙ kept))
      (subst (λ l. SameKept l a (told.held (entries_in front) r a) (holding_of a h.holds)) (sym its_entries)
      (same_more (entries_in front) (first ∷ []) a (told.held (entries_in front) r a) (holding_of a h.holds) (i.reader.holds a)))

  pub bus_said : (o : Option ℕ) → Along (IsOwed speaking spoken_due) front (writes first ∷ map writes (ended_entries r h o))
  bus_said None = (refl, tt)
  bus_said (Some a) = (
    refl,
    (
      lines_next r a (last_lines (holding_of a h.holds)) ∙ ap (map (spoke r a)) (closing_same behind a (held_of behind r a) (holding_of a h.holds) (still_held a)),
      lines_along (behind ++ writes (gone r a) ∷ []) r a (last_lines (holding_of a h.holds)),
    ),
  )

-- by who sent it
said_by : (front : List Act) (r : ℕ) (h : Hearer) (ends : List End) (said : Said) (from : Party) → Along IsTight [] front → Reads front r h
    → ((a : ℕ) → from ≡ App a → IsLetter (entries_in front) (record { from = App a; said = said }))
    → Along (IsOwed speaking spoken_due) front (map writes (got (Reader r) from said.message.serial ∷ heard_entries r h ends (record { from = from; said = said })))
said_by front r h ends said (App a) tight i f = app_said front r a h said tight i (f a refl)
said_by front r h ends said The_bus tight i f = bus_said front r said.message.serial h i (app_ended ends (record { from = The_bus; said = said }))
said_by front r h ends said Registry tight i f = (refl, tt)
said_by front r h ends said (Reader q) tight i f = (refl, tt)

not_bus : (a : ℕ) (from : Party) → from ≡ App a → from ≡ The_bus → ⊥
not_bus a from h g = by (sym g ∙ h)
  where
    is_bus : Party → Type 0
    is_bus The_bus = Unit {0}
    is_bus who = ⊥

    by : The_bus ≡ App a → ⊥
    by e = subst is_bus e tt

letter_of : (es : List Entry) (letter : Letter) → Comes es letter → (a : ℕ) → letter.from ≡ App a → IsLetter es (record { from = App a; said = letter.said })
letter_of es letter (inl bus) a h = absurd (not_bus a letter.from h bus)
letter_of es letter (inr i) a h = subst (λ p. IsLetter es (record { from = p; said = letter.said })) h i

spoken_turn : (front : List Act) (w : World) (c : Cause) (d : Done) → Front front w None → TurnDid w c d → Written speaking spoken_due front d.entries
spoken_turn front w _ _ f (told_busy turns) = still_written speaking spoken_due front (busy turns ∷ []) (record { none = refl; nothing = λ before. refl }, tt)
spoken_turn front w _ _ f (told_quiet none) = still_written speaking spoken_due front (quiet ∷ []) (record { none = refl; nothing = λ before. refl }, tt)
spoken_turn front w _ _ f (bus_took d b) =
    let c = carrying.takes (record { bus = w.bus; ends = w.ends }) b.conn b.e.who b.said in
    still_written speaking spoken_due front d.entries
    (subst (λ (x : Done). AllByRecursion Stills x.entries) (sym b.is) (record { none = refl; nothing = λ before. refl }, of_bus_all Stills bus_still c.ends c.bus.own c.bus.closings))
spoken_turn front w _ _ f (bus_ended d b) =
    let c = carrying.takes_end (record { bus = w.bus; ends = w.ends }) b.conn in
    still_written speaking spoken_due front d.entries (subst (λ (x : Done). AllByRecursion Stills x.entries) (sym b.is) (of_bus_all Stills bus_still c.ends c.bus.own c.bus.closings))
spoken_turn front w _ _ f (registry_took d b) =
    still_written speaking spoken_due front d.entries
    (subst (λ (x : Done). AllByRecursion Stills x.entries) (sym b.is) (
      subst (λ p. Stills (got p b.letter.from b.letter.said.message.serial)) (sym b.whose) (record { none = refl; nothing = λ before. refl }),
      sent_all Stills b.e.who (λ e. sent_still b.e.who e) (registry_takes b.before b.letter.said.message).sent,
    ))
spoken_turn front w _ _ f (app_took d b) =
    still_written speaking spoken_due front d.entries
    (subst (λ (x : Done). AllByRecursion Stills x.entries) (sym b.is) (
      subst (λ p. Stills (got p b.letter.from b.letter.said.message.serial)) (sym b.whose) (record { none = refl; nothing = λ before. refl }),
      app_all Stills apps_still _ (app_takes b.before b.letter.said.message).out,
    ))
spoken_turn front w _ _ f (reader_took d b) =
    let es : List Entry = entries_in front in
    let v : World = received w b.conn b.e b.letter in
    let kept = f.kept (Shaped (And Below_held Holds)) holds_keep in
    let known : Known es w = kept.1.0.1.1 in
    let comes : Comes es b.letter = (subst (AllByRecursion (Comes es)) b.link (known b.conn b.e b.is_here.there).1).0 in
    let i : Reads front b.reader b.hearer = record {
      reader = kept.1.1.1 b.conn b.reader b.e b.hearer b.is_here.there b.whose b.role;
      numbers = (f.kept (Shaped (And (And Below Stepped) Numbered)) numbers_keep).1.1.0;
    } in
    let number : number_of b.e.who ≡ b.reader = ap number_of b.whose in
    let wrote : d.entries ≡ got (Reader b.reader) b.letter.from b.letter.said.message.serial ∷ heard_entries b.reader b.hearer v.ends b.letter =
    ap (λ (x : Done). x.entries) b.is ∙ ap₂ (λ p n. got p b.letter.from b.letter.said.message.serial ∷ heard_entries n b.hearer v.ends b.letter) b.whose number in
    let along = said_by front b.reader b.hearer v.ends b.letter.said b.letter.from f.tight i (letter_of es b.letter comes) in
    subst (Written speaking spoken_due front) (sym wrote) (record { first = refl; along = along })

bare_still : (line : Line) → IsBareLine line → Still speaking spoken_due (begins_line line)
bare_still line b = record { none = refl; nothing = λ before. refl }

spoken_law : IsLaw speaking spoken_due
spoken_law = record {
  line = spoken_line;
  turn = spoken_turn;
  bare = bare_still;
  moving = λ who up count. record { none = refl; nothing = λ before. refl };
  ending = λ who. record { none = refl; nothing = λ before. refl };
  asks = λ r m. record { none = refl; nothing = λ before. refl };
}

pub lines_are_spoken : (run : List Act) (w : World) (free : Option ℕ) (at : Option Work) → Ran run w free at → Lives (entries_in run) → LawOfSpokenLines false run
lines_are_spoken run w free at r live = law_along speaking spoken_due spoken_law run w free at r live
