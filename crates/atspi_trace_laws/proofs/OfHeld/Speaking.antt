-- What is written behind a message that a reader took is due, word by word.
use Rattle.std.proofs.Common.{◌≡◌, inl, inr, ℕ, List, [], ◌∷◌, ◌++◌, map, Option, None, Some, refl, sym, ap, ◌∙◌, subst, is_some}
use Rattle.std.proofs.lemmas.List.{append-nil, append_assoc}
use Rattle.atspi_tree_model.specs.declared.step.Step.{Step}
use Rattle.atspi_script_lines.specs.declared.line.Party.{Party}
use Rattle.atspi_script_lines.specs.declared.line.Party.TheVariants.{Bus as The_bus, Registry, App, Reader}
use Rattle.atspi_speech.specs.Speech.{says_after, closing_says}
use Rattle.atspi_trace.specs.Entry.{Entry, got, spoke, gone}
use Rattle.atspi_trace.specs.World.{Holding, Hearer, Said, End}
use Rattle.atspi_trace.specs.Hearing.{holding_of, app_ended, step_lines, lines_if_held, last_lines, ended_entries, heard_entries}
use Rattle.atspi_trace_laws.specs.laws.Words.{as_of, Kept, held}
use Rattle.atspi_trace_laws.specs.laws.NineLaws.{ShowsTree, IsSpoken}
use Rattle.atspi_trace_laws.proofs.OfOrder.Each.{Each}
use Rattle.atspi_trace_laws.proofs.OfTaken.Said.{IsLetter}
use Rattle.atspi_trace_laws.specs.held.Laws.{IsDueWord}
use Rattle.atspi_trace_laws.proofs.OfHeld.Keeping.{held_more, SameHolding, SameKept, same_more, ReaderIs}

-- the three laws of an entry
abbrev pub Reads : List Entry → Entry → List Entry → Type 0
Reads before entry behind = ShowsTree before entry behind × IsSpoken before entry behind × IsDueWord before entry behind

map_last : (r app : ℕ) (xs : List (List ℕ)) (x : List ℕ) → map (spoke r app) (xs ++ x ∷ []) ≡ map (spoke r app) xs ++ spoke r app x ∷ []
map_last r app [] x = refl
map_last r app (y ∷ ys) x = ap (λ l. spoke r app y ∷ l) (map_last r app ys x)

-- lines one behind the other, each of which is due with those before it
pub lines_each : (early : List Entry) (r app : ℕ) (all front xs : List (List ℕ)) → all ≡ front ++ xs
    → ((done back : List (List ℕ)) (text : List ℕ) → all ≡ done ++ text ∷ back → IsDueWord (early ++ map (spoke r app) done) (spoke r app text) [])
    → Each Reads (early ++ map (spoke r app) front) (map (spoke r app) xs)
lines_each early r app all front [] h f = tt
lines_each early r app all front (x ∷ xs) h f = (
  (tt, tt, f front xs x h),
  subst (λ l. Each Reads l (map (spoke r app) xs))
      (ap (λ l. early ++ l) (map_last r app front x) ∙ sym (append_assoc early (map (spoke r app) front) (spoke r app x ∷ [])))
      (lines_each early r app all (front ++ x ∷ []) xs (h ∙ sym (append_assoc front (x ∷ []) xs)) f),
)

-- behind an application's message
pub app_words : (es : List Entry) (r app : ℕ) (h : Hearer) (ends : List End) (said : Said) → ReaderIs es r h → IsLetter es (record { from = App app; said = said })
    → Each Reads (es ++ got (Reader r) (App app) said.message.serial ∷ []) (heard_entries r h ends (record { from = App app; said = said }))
app_words es r app h ends said i is = by (held es r app) refl (holding_of app h.holds) (i.holds app)
  where
    first : Entry
    first = got (Reader r) (App app) said.message.serial

    spoken : (k : Kept) → held es r app ≡ Some k → (o : Option Step) → said.announces ≡ o → Each Reads (es ++ first ∷ []) (map (spoke r app) (step_lines said o))
    spoken k is_held None a = tt
    spoken k is_held (Some step) a =
        subst (λ l. Each Reads l (map (spoke r app) (says_after said.tree step))) (append-nil (es ++ first ∷ []))
        (lines_each (es ++ first ∷ []) r app (says_after said.tree step) [] (says_after said.tree step) refl
        (λ done back text listed. inl (record {
          early = es;
          serial = said.message.serial;
          step = step;
          front = done;
          back = back;
          stands = append_assoc es (first ∷ []) (map (spoke r app) done);
          holds = ap is_some is_held;
          announces = is.tells.announced step a;
          listed = ap (λ t. says_after t step) is.tells.tree ∙ listed;
        })))

    by : (k : Option Kept) → held es r app ≡ k → (o : Option Holding) → SameKept es app k o → Each Reads (es ++ first ∷ []) (map (spoke r app) (lines_if_held o said))
    by (Some k) e (Some o) s = spoken k e said.announces refl
    by None e None s = tt
    by (Some k) e None s = absurd s
    by None e (Some o) s = absurd s

-- behind a message of the bus
pub bus_words : (es : List Entry) (r : ℕ) (h : Hearer) (serial : ℕ) (o : Option ℕ) → ReaderIs es r h → Each Reads (es ++ got (Reader r) The_bus serial ∷ []) (ended_entries r h o)
bus_words es r h serial None i = tt
bus_words es r h serial (Some app) i = (
  (tt, tt, record { early = es; serial = serial; stands = refl }),
  by (held es r app) refl (holding_of app h.holds) (i.holds app),
)
  where
    first : Entry
    first = got (Reader r) The_bus serial

    early : List Entry
    early = es ++ first ∷ []

    there : early ++ gone r app ∷ [] ≡ early ++ gone r app ∷ []
    there = refl

    by : (k : Option Kept) → held es r app ≡ k → (x : Option Holding) → SameKept es app k x → Each Reads (early ++ gone r app ∷ []) (map (spoke r app) (last_lines x))
    by None e None s = tt
    by (Some k) e None s = absurd s
    by None e (Some x) s = absurd s
    by (Some k) e (Some x) s =
        let now : SameHolding early app k x = same_more es (first ∷ []) app (Some k) (Some x) s in
        subst (λ l. Each Reads l (map (spoke r app) (closing_says x.tree))) (append-nil (early ++ gone r app ∷ []))
        (lines_each (early ++ gone r app ∷ []) r app (closing_says x.tree) [] (closing_says x.tree) refl
        (λ done back text listed. inr (record {
          early = early;
          kept = k;
          front = done;
          back = back;
          stands = append_assoc early (gone r app ∷ []) (map (spoke r app) done);
          holds = held_more es (first ∷ []) r app ∙ e;
          listed = ap closing_says (ap (as_of early app) now.last ∙ now.tree) ∙ listed;
        })))

-- by who sent it
pub words_by : (es : List Entry) (r : ℕ) (h : Hearer) (ends : List End) (said : Said) (from : Party) → ReaderIs es r h → ((app : ℕ) → from ≡ App app → IsLetter es (record { from = App app; said = said }))
    → Each Reads (es ++ got (Reader r) from said.message.serial ∷ []) (heard_entries r h ends (record { from = from; said = said }))
words_by es r h ends said (App app) i f = app_words es r app h ends said i (f app refl)
words_by es r h ends said The_bus i f = bus_words es r h said.message.serial (app_ended ends (record { from = The_bus; said = said })) i
words_by es r h ends said Registry i f = tt
words_by es r h ends said (Reader q) i f = tt
