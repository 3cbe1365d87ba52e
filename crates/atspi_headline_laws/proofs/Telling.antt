-- Directly behind a step whose announcement somebody asked for stands an entry: no bytes are moved, and no line begins, between the step and what
-- is sent of it.
use Rattle.std.proofs.Common.{◌≡◌, ℕ, suc, ◌+◌, true, false, List, [], ◌∷◌, ◌++◌, length, map, Option, None, Some, sym, ap, ap₂, ◌∙◌, subst, arith}
use Rattle.std.specs.Prelude.{if◌then◌else◌}
use Rattle.std.proofs.lemmas.List.{append-nil, append_assoc}
use Rattle.atspi_tree_model.specs.declared.step.Step.{Step}
use Rattle.atspi_script_lines.specs.declared.line.Party.TheVariants.{App, Reader}
use Rattle.atspi_protocol.specs.ends.Messages.{numbered}
use Rattle.atspi_protocol.specs.announcing.Signals.{Signal}
use Rattle.atspi_protocol.specs.announcing.Announced.{announced}
use Rattle.atspi_protocol.specs.exporting.Starting.{name_or_empty}
use Rattle.atspi_protocol.specs.exporting.Telling.{asked_for}
use Rattle.atspi_trace.specs.Entry.{Entry, started, changed, sent, got, heard, unheard, spoke, showed, exited, gone, dropped, busy, quiet}
use Rattle.atspi_trace.specs.World.{World}
use Rattle.atspi_trace.specs.Causes.{does}
use Rattle.atspi_trace.specs.Work.{Work, work_of}
use Rattle.atspi_headline.specs.Words as here
use Rattle.atspi_headline.specs.Words.{Act, begins_line, moves_bytes, takes_end, writes, entries_in, Along}
use Rattle.atspi_headline.specs.Headline.{signals_of, is_first_covered}
use Rattle.atspi_trace_laws.specs.laws.Words as told
use Rattle.atspi_trace_laws.specs.laws.NineLaws.{Follow}
use Rattle.atspi_trace_laws.specs.heard.Laws.{signals_under}
use Rattle.atspi_trace_laws.specs.signed.Laws.{IsItsName, IsSignedTruly}
use Rattle.atspi_trace_laws.proofs.OfOrder.Each.{Each}
use Rattle.atspi_trace_laws.proofs.OfOrder.Growing.{Shaped, And}
use Rattle.atspi_trace_laws.proofs.OfSigned.LawSigned.{Under_signed, Signed, signed_keeps}
use Rattle.atspi_headline_laws.proofs.Ran.{Ran, nothing_yet, did, began, caused, rested, asked, moves_for, line_moves}
use Rattle.atspi_headline_laws.proofs.Making.{AllMoves, entries_more, entries_written, entries_of_both, no_entries, moves_are, line_moves_are}
use Rattle.atspi_headline_laws.proofs.Keeping.{kept_along}
use Rattle.atspi_headline_laws.proofs.Reading.{tree_told, pairs_told}
use Rattle.atspi_headline_laws.proofs.Naming.{app_name}
use Rattle.atspi_headline_laws.proofs.Dues.{along_more, along_map}

-- the signals of a step, in the words of the trace
pub signals_same : (run : List Act) (app : ℕ) (step : Step)
    → signals_of run app step ≡ announced (name_or_empty (told.name_in (entries_in run) (App app))) (told.live_tree (entries_in run) app) step
signals_same run app step = ap₂ (λ n f. announced n f step) (app_name run app) (tree_told run app)

-- an entry stands next
abbrev pub HasNext : List Act → Type 0
HasNext behind = (entry : Entry) × (rest : List Act) × (behind ≡ writes entry ∷ rest)

abbrev pub IsTight : List Act → Act → List Act → Type 0
IsTight before (writes (changed app step)) behind = is_first_covered (here.heard_pairs before app) (signals_of before app step) ≡ true → HasNext behind
IsTight before act behind = Unit {0}

tight_behind : (ys before : List Act) (act : Act) (behind : List Act) → IsTight before act behind → IsTight before act (behind ++ ys)
tight_behind ys before (writes (changed app step)) behind t = λ h. let x = t h in (x.0, x.1 ++ ys, ap (λ l. l ++ ys) x.2)
tight_behind ys before (writes (started who name)) behind t = tt
tight_behind ys before (writes (sent who e)) behind t = tt
tight_behind ys before (writes (got taker sender serial)) behind t = tt
tight_behind ys before (writes (heard a listener pattern)) behind t = tt
tight_behind ys before (writes (unheard a listener pattern)) behind t = tt
tight_behind ys before (writes (spoke r a text)) behind t = tt
tight_behind ys before (writes (showed r a rows)) behind t = tt
tight_behind ys before (writes (exited who)) behind t = tt
tight_behind ys before (writes (gone r a)) behind t = tt
tight_behind ys before (writes (dropped who queued len)) behind t = tt
tight_behind ys before (writes (busy turns)) behind t = tt
tight_behind ys before (writes quiet) behind t = tt
tight_behind ys before (begins_line line) behind t = tt
tight_behind ys before (moves_bytes who up count) behind t = tt
tight_behind ys before (takes_end who) behind t = tt

pub tight_more : (run acts : List Act) → Along IsTight [] run → Along IsTight run acts → Along IsTight [] (run ++ acts)
tight_more run acts old new = along_more IsTight [] run acts (along_map IsTight (λ before act behind. IsTight before act (behind ++ acts)) [] run (tight_behind acts) old) new

-- moves are tight
pub tight_moves : (before acts : List Act) → AllMoves acts → Along IsTight before acts
tight_moves before [] m = tt
tight_moves before (moves_bytes who up count ∷ acts) m = (tt, tight_moves (before ++ moves_bytes who up count ∷ []) acts m)
tight_moves before (takes_end who ∷ acts) m = (tt, tight_moves (before ++ takes_end who ∷ []) acts m)
tight_moves before (begins_line line ∷ acts) m = absurd m
tight_moves before (writes entry ∷ acts) m = absurd m

-- WHAT WAS ASKED FOR is sent
first_asked : (pairs : List (List ℕ × List ℕ)) (signals : List Signal) → is_first_covered pairs signals ≡ true → (first : Signal) × (rest : List Signal) × (asked_for pairs signals ≡ first ∷ rest)
first_asked pairs [] h = absurd (no h)
  where
    no : false ≡ true → ⊥
    no e = cc
first_asked pairs (signal ∷ signals) h =
    (signal, asked_for pairs signals, ap (λ b. if b then signal ∷ asked_for pairs signals else asked_for pairs signals) h)

some_sent : (app n : ℕ) (signals : List Signal) (first : Signal) (rest : List Signal) → signals ≡ first ∷ rest
    → (e : Entry) × (es : List Entry) × (map (sent (App app)) (numbered n (map (λ (s : Signal). s.message) signals)) ≡ e ∷ es)
some_sent app n signals first rest h = (
  sent (App app) (record (first.message) { serial = n }),
  map (sent (App app)) (numbered (n + 1) (map (λ (s : Signal). s.message) rest)),
  ap (λ l. map (sent (App app)) (numbered n (map (λ (s : Signal). s.message) l))) h,
)

-- what a cause wrote is tight
follows : (es behind : List Entry) (e : Entry) (rest : List Entry) → es ≡ e ∷ rest → Follow es behind → HasNext (map writes behind)
follows es behind e rest h f = (e, map writes (rest ++ f.0), ap (map writes) (f.1 ∙ ap (λ l. l ++ f.0) h))

tight_entry : (before : List Act) (entry : Entry) (behind : List Entry) → IsSignedTruly (entries_in before) entry behind → IsTight before (writes entry) (map writes behind)
tight_entry before (changed app step) behind law = λ covered.
    let es : List Entry = entries_in before in
    let name : List ℕ = name_or_empty (told.name_in es (App app)) in
    let its : IsItsName es app name = λ own h. sym (ap name_or_empty h) in
    let signals : List Signal = announced name (told.live_tree es app) step in
    let covered_so : is_first_covered (told.heard_pairs es app) signals ≡ true = sym (ap₂ is_first_covered (pairs_told before app) (signals_same before app step)) ∙ covered in
    let x = first_asked (told.heard_pairs es app) signals covered_so in
    let y = some_sent app (suc (length (told.messages es (App app)))) (asked_for (told.heard_pairs es app) signals) x.0 x.1 x.2 in
    follows (signals_under name es app step) behind y.0 y.1 y.2 (law name its)
tight_entry before (started who name) behind law = tt
tight_entry before (sent who e) behind law = tt
tight_entry before (got taker sender serial) behind law = tt
tight_entry before (heard a listener pattern) behind law = tt
tight_entry before (unheard a listener pattern) behind law = tt
tight_entry before (spoke r a text) behind law = tt
tight_entry before (showed r a rows) behind law = tt
tight_entry before (exited who) behind law = tt
tight_entry before (gone r a) behind law = tt
tight_entry before (dropped who queued len) behind law = tt
tight_entry before (busy turns) behind law = tt
tight_entry before quiet behind law = tt

tight_entries : (before : List Act) (es : List Entry) → Each IsSignedTruly (entries_in before) es → Along IsTight before (map writes es)
tight_entries before [] a = tt
tight_entries before (e ∷ es) a =
    (tight_entry before e es a.0, tight_entries (before ++ writes e ∷ []) es (subst (λ l. Each IsSignedTruly l es) (sym (entries_more before (writes e ∷ []))) a.1))

-- the law of what was written behind
each_behind : (Law : List Entry → Entry → List Entry → Type 0) (early xs ys : List Entry) → Each Law early (xs ++ ys) → Each Law (early ++ xs) ys
each_behind Law early [] ys a = subst (λ l. Each Law l ys) (sym (append-nil early)) a
each_behind Law early (x ∷ xs) ys a = subst (λ l. Each Law l ys) (append_assoc early (x ∷ []) xs) (each_behind Law (early ++ x ∷ []) xs ys a.1)

signed_behind : (run acts : List Act) (w : World) (free : Option ℕ) (at : Option Work) (es : List Entry) → Ran (run ++ acts) w free at → entries_in acts ≡ es → Each IsSignedTruly (entries_in run) es
signed_behind run acts w free at es r h =
    let all : Each IsSignedTruly [] (entries_in (run ++ acts)) = (kept_along (Shaped (And Under_signed Signed)) signed_keeps (run ++ acts) w free at r).1.1 in
    each_behind IsSignedTruly [] (entries_in run) es (subst (Each IsSignedTruly []) (entries_more run acts ∙ ap (λ l. entries_in run ++ l) h) all)

-- moves, and then what was written
tight_both : (run moves : List Act) (es : List Entry) → AllMoves moves → Each IsSignedTruly (entries_in run) es → Along IsTight run (moves ++ map writes es)
tight_both run moves es m a =
    along_more IsTight run moves (map writes es) (along_map IsTight (λ before act behind. IsTight before act (behind ++ map writes es)) run moves (tight_behind (map writes es)) (tight_moves run moves m))
    (tight_entries (run ++ moves) es
    (subst (λ l. Each IsSignedTruly l es) (sym (entries_more run moves ∙ ap (λ l. entries_in run ++ l) (no_entries moves m) ∙ append-nil (entries_in run))) a))

pub tight_along : (run : List Act) (w : World) (free : Option ℕ) (at : Option Work) → Ran run w free at → Along IsTight [] run
tight_along _ _ _ _ nothing_yet = tt
tight_along _ _ _ _ (did run w line c r ok can is a) =
    tight_more run (begins_line line ∷ map writes (does w c).entries) (tight_along run w None None r) (
      tt,
      tight_entries (run ++ begins_line line ∷ []) (does w c).entries
          (subst (λ l. Each IsSignedTruly l (does w c).entries) (sym (entries_more run (begins_line line ∷ []) ∙ append-nil (entries_in run)))
          (signed_behind run (begins_line line ∷ map writes (does w c).entries) _ _ _ (does w c).entries (did run w line c r ok can is a) (entries_written (does w c).entries))),
    )
tight_along _ _ _ _ (began run w line r ok can b) =
    tight_more run (begins_line line ∷ line_moves w (work_of w line)) (tight_along run w None None r)
    (tt, tight_moves (run ++ begins_line line ∷ []) (line_moves w (work_of w line)) (line_moves_are w (work_of w line)))
tight_along _ _ _ _ (caused run w free work left c r is b a) =
    tight_more run (moves_for w work c ++ map writes (does w c).entries) (tight_along run w free (Some work) r)
    (tight_both run (moves_for w work c) (does w c).entries (moves_are w work c)
    (signed_behind run (moves_for w work c ++ map writes (does w c).entries) _ _ _ (does w c).entries (caused run w free work left c r is b a)
    (entries_of_both (moves_for w work c) (does w c).entries (moves_are w work c))))
tight_along _ _ _ _ (rested run w v free work r is m well) = tight_along run w free (Some work) r
tight_along _ _ _ _ (asked run w conn q m question work r a) = tight_more run (writes (sent (Reader q) m) ∷ []) (tight_along run w (Some conn) work r) (tt, tt)

-- the law of an act of a run
no_act : (before : List Act) (act : Act) (behind : List Act) → [] ≡ before ++ act ∷ behind → ⊥
no_act [] act behind h = absurd (omega (arith, ap length h))
no_act (b ∷ bs) act behind h = absurd (omega (arith, ap length h))

abbrev first_or : Act → List Act → Act
first_or x [] = x
first_or x (y ∷ ys) = y

abbrev rest_of : List Act → List Act
rest_of [] = []
rest_of (x ∷ xs) = xs

pub along_split : (Law : List Act → Act → List Act → Type 0) (early run : List Act) → Along Law early run → (before : List Act) (act : Act) (behind : List Act) → run ≡ before ++ act ∷ behind → Law (early ++ before) act behind
along_split Law early [] a before act behind h = absurd (no_act before act behind h)
along_split Law early (x ∷ xs) a [] act behind h =
    subst (λ l. Law l act behind) (sym (append-nil early)) (subst (λ y. Law early y behind) (ap (first_or x) h) (subst (λ l. Law early x l) (ap rest_of h) a.0))
along_split Law early (x ∷ xs) a (b ∷ bs) act behind h =
    subst (λ l. Law l act behind) (append_assoc early (b ∷ []) bs)
    (subst (λ y. Law ((early ++ y ∷ []) ++ bs) act behind) (ap (first_or x) h) (along_split Law (early ++ x ∷ []) xs a.1 bs act behind (ap rest_of h)))
