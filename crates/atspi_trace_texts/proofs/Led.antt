-- Words that are written are spelled, and a few words in front are read in one way.
use Rattle.std.proofs.Common.{◌≡◌, ℕ, zero, suc, ◌<◌, ◌^◌, List, [], ◌∷◌, ◌++◌, length, Option, None, Some, refl, sym, ap, subst, ◌∙◌, append_assoc, arith, inl, inr}
use Rattle.std.proofs.lemmas.List.{append-nil}
use Rattle.std.specs.Prelude.{slice_get, unwrap_or}
use Rattle.std.specs.Fmt.{decimal}
use Rattle.std.specs.List.{AllByRecursion}
use Rattle.atspi_tables.specs.Roles.{role_words}
use Rattle.atspi_tables.specs.States.{state_names}
use Rattle.atspi_script_lines.specs.declared.line.Party.{Party}
use Rattle.atspi_script_lines.specs.declared.line.Party.TheVariants.{Bus, Registry, App, Reader}
use Rattle.atspi_script_lines.specs.Words.{Word, literal, number, place, quota, app_name, reader_name, party_name, role_name, state_name, quote, IsBehind, Leads, SpellsParty, SpellsRole, SpellsWord, SpellsWords}
use Rattle.atspi_script_lines.specs.inner.Reading.{LeadAll}
use Rattle.atspi_script_lines.proofs.LeadLemmas.{AllAlike, lead_once}
use Rattle.atspi_trace_texts.specs.Written.{party_text, role_text, state_text, word_behind, word_text, words_behind}
use Rattle.atspi_trace_texts.specs.InTrace.{IsEnd, IsWord}

role_spelled : (role : ℕ) → role < 2 ^ 32 → SpellsRole role (role_text role)
role_spelled role small = by (slice_get role_words role) refl
  where
    by : (o : Option (List ℕ)) → slice_get role_words role ≡ o → SpellsRole role (unwrap_or o (decimal role))
    by (Some w) e = inl e
    by None e = inr (small, refl)

-- a place in a list has an element
no_place : {X : Type 0} (xs : List X) (i : ℕ) → i < length xs → slice_get xs i ≡ None → ⊥
no_place [] i l e = absurd (omega arith)
no_place (x ∷ xs) zero l e = absurd cc
no_place (x ∷ xs) (suc i) l e = no_place xs i (omega arith) e

count_states : length state_names ≡ 44
unfolding state_names
count_states = refl

state_spelled : (state : ℕ) → state < 44 → slice_get state_names state ≡ Some (state_text state)
state_spelled state small = by (slice_get state_names state) refl
  where
    by : (o : Option (List ℕ)) → slice_get state_names state ≡ o → slice_get state_names state ≡ Some (unwrap_or o (decimal state))
    by (Some w) e = e
    by None e = absurd (no_place state_names state (omega (arith, count_states)) e)

party_spelled : (who : Party) → IsEnd who → (who ≡ Bus → ⊥) → SpellsParty who (party_text who)
party_spelled Bus h other = absurd (other refl)
party_spelled Registry h other = refl
party_spelled (App a) h other = (h, refl)
party_spelled (Reader r) h other = (h, refl)

pub word_spelled : (w : Word) → IsWord w → SpellsWord w (word_text w)
word_spelled (literal word) h = refl
word_spelled (number n) h = (h, refl)
word_spelled (place n) h = (h, refl)
word_spelled (quota n) h = (h.0, h.1, refl)
word_spelled (app_name a) h = (h, refl)
word_spelled (reader_name r) h = (h, refl)
word_spelled (party_name who) h = party_spelled who h.0 h.1
word_spelled (role_name role) h = role_spelled role h
word_spelled (state_name state) h = state_spelled state h
word_spelled (quote text) h = (h, refl)

word_led : (w : Word) (rest : List ℕ) → IsWord w → IsBehind rest → Leads w rest (word_behind w ++ rest)
word_led w rest h b = record { spelling = word_text w; spelled = word_spelled w h; front = refl; behind = b }

behind_rest : (ws : List Word) (rest : List ℕ) → IsBehind rest → IsBehind (words_behind ws ++ rest)
behind_rest [] rest b = b
behind_rest (w ∷ ws) rest b = refl

-- words that are written, and what follows them
pub words_led : (ws : List Word) (rest : List ℕ) → AllByRecursion IsWord ws → IsBehind rest → LeadAll ws rest (words_behind ws ++ rest)
words_led [] rest h b = refl
words_led (w ∷ ws) rest h b = (
  words_behind ws ++ rest,
  subst (λ bytes. Leads w (words_behind ws ++ rest) bytes) (sym (append_assoc (word_behind w) (words_behind ws) rest)) (word_led w (words_behind ws ++ rest) h.0 (behind_rest ws rest b)),
  words_led ws rest h.1 b,
)

-- words behind one another with nothing behind them
all_led : (ws : List Word) (bytes : List ℕ) → LeadAll ws [] bytes → SpellsWords ws bytes
all_led [] bytes h = h
all_led (w ∷ ws) bytes h = (h.0, h.1, all_led ws h.0 h.2)

pub words_spelled : (ws : List Word) → AllByRecursion IsWord ws → SpellsWords ws (words_behind ws)
words_spelled ws h = all_led ws (words_behind ws) (subst (LeadAll ws []) (append-nil (words_behind ws)) (words_led ws [] h tt))

-- two lists of words that begin alike, spelled by the same bytes, and what is left of each
pub record SameHeads (ws vs xs ys : List Word) : Type 0 where
  pub same : ws ≡ vs
  pub rest : List ℕ
  pub left : SpellsWords xs rest
  pub right : SpellsWords ys rest

pub heads_once : (ws vs xs ys : List Word) (bytes : List ℕ) → AllAlike ws vs → SpellsWords (ws ++ xs) bytes → SpellsWords (vs ++ ys) bytes → SameHeads ws vs xs ys
heads_once [] [] xs ys bytes k s t = record { same = refl; rest = bytes; left = s; right = t }
heads_once (w ∷ ws) (v ∷ vs) xs ys bytes k s t =
    let one = lead_once w v s.0 t.0 bytes k.0 s.1 t.1 in
    let more = heads_once ws vs xs ys s.0 k.1 s.2 (subst (SpellsWords (vs ++ ys)) (sym one.1) t.2) in
    record { same = ap (λ x. x ∷ ws) one.0 ∙ ap (λ l. v ∷ l) more.same; rest = more.rest; left = more.left; right = more.right }
heads_once [] (v ∷ vs) xs ys bytes k s t = absurd k
heads_once (w ∷ ws) [] xs ys bytes k s t = absurd k
