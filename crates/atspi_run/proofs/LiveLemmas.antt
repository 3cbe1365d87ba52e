-- Words that ask for an end on a socket ask for nothing else.
use Rattle.std.proofs.Common.{◌≡◌, ℕ, List, [], ◌∷◌, length, get_or, ap, sym, ◌∙◌, subst, arith, inl, inr, refl}
use Rattle.atspi_trace_texts.specs.declared.options.TraceOptions.{TraceOptions}
use Rattle.atspi_run_live.specs.Words.{IsLive, IsPath, name_of}
use Rattle.atspi_run_live.specs.declared.words.Service.{Service}
use Rattle.atspi_run_live.specs.declared.words.Service.TheVariants.{Bus, Registry, App, Read}
use Rattle.atspi_run_live.proofs.OfWords.{live_is, same_live}
use Rattle.atspi_run.specs.declared.words.Task.{Task}
use Rattle.atspi_run.specs.declared.words.Task.TheVariants.{Replay, Make}
use Rattle.atspi_run.specs.Words.{Asks, IsCheck, IsHit, IsMake, IsReplay, IsTask}
use Rattle.atspi_run.proofs.WordLemmas.{make_is}

-- how long the first word is, and its first letter
abbrev first_length : List (List ℕ) → ℕ
first_length [] = 0
first_length (word ∷ words) = length word

abbrev first_letter : List (List ℕ) → ℕ
first_letter [] = 0
first_letter (word ∷ words) = get_or word 0 0

not_six : (service : Service) → 6 ≡ length (name_of service) → ⊥
not_six Bus e = omega (arith, e)
not_six Registry e = omega (arith, e)
not_six App e = omega (arith, e)
not_six Read e = omega (arith, e)

not_m : (service : Service) → 109 ≡ get_or (name_of service) 0 0 → ⊥
not_m Bus e = omega (arith, e)
not_m Registry e = omega (arith, e)
not_m App e = omega (arith, e)
not_m Read e = omega (arith, e)

not_replay_and_live : (words : List (List ℕ)) (options : TraceOptions) (service : Service) (path : List ℕ) (rounds : ℕ) → IsReplay words options → IsLive words service path rounds → ⊥
not_replay_and_live words options service path rounds r is =
    let l = live_is words service path rounds is in
    let long : 6 ≡ length (name_of service) = ap first_length (sym r ∙ l.2) in
    not_six service long

not_make_and_live : (words : List (List ℕ)) (count seed : ℕ) (service : Service) (path : List ℕ) (rounds : ℕ) → IsMake words count seed → IsLive words service path rounds → ⊥
not_make_and_live words count seed service path rounds m is =
    let l = live_is words service path rounds is in
    let made = make_is words count seed m in
    let letters : 109 ≡ get_or (name_of service) 0 0 = ap first_letter (sym made.2 ∙ l.2) in
    not_m service letters

pub not_task_and_live : (words : List (List ℕ)) (task : Task) (service : Service) (path : List ℕ) (rounds : ℕ) → IsTask words task → IsLive words service path rounds → ⊥
not_task_and_live words (Replay options) service path rounds t is = not_replay_and_live words options service path rounds t is
not_task_and_live words (Make script) service path rounds t is = not_make_and_live words script.count script.seed service path rounds t is

-- the words of a live command are three
three : (words : List (List ℕ)) (service : Service) (path : List ℕ) (rounds : ℕ) → IsLive words service path rounds → length words ≡ 3
three words service path rounds is = let l = live_is words service path rounds is in ap length l.2

pub not_check_and_live : (words : List (List ℕ)) (service : Service) (path : List ℕ) (rounds : ℕ) → IsCheck words → IsLive words service path rounds → ⊥
not_check_and_live words service path rounds c is = let one : length words ≡ 1 = ap length c in omega (arith, one, three words service path rounds is)

pub not_hit_and_live : (words : List (List ℕ)) (service : Service) (path : List ℕ) (rounds : ℕ) → IsHit words → IsLive words service path rounds → ⊥
not_hit_and_live words service path rounds h is = let one : length words ≡ 1 = ap length h in omega (arith, one, three words service path rounds is)

few : (words : List (List ℕ)) (text : List ℕ) → Asks words text → (n : ℕ) → length words ≡ n → n ≡ 3 → ⊥
few words text (inl (e, t)) n is three = let one : length words ≡ 1 = ap length e in omega (arith, one, is, three)
few words text (inr (inl (e, t))) n is three = let one : length words ≡ 1 = ap length e in omega (arith, one, is, three)
few words text (inr (inr (inl (e, t)))) n is three = let two : length words ≡ 2 = ap length e in omega (arith, two, is, three)
few words text (inr (inr (inr (inl (e, t))))) n is three = let two : length words ≡ 2 = ap length e in omega (arith, two, is, three)
few words text (inr (inr (inr (inr (inl (e, t)))))) n is three = let two : length words ≡ 2 = ap length e in omega (arith, two, is, three)
few words text (inr (inr (inr (inr (inr (e, t)))))) n is three = let two : length words ≡ 2 = ap length e in omega (arith, two, is, three)

pub not_told_and_live : (words : List (List ℕ)) (text : List ℕ) (service : Service) (path : List ℕ) (rounds : ℕ) → Asks words text → IsLive words service path rounds → ⊥
not_told_and_live words text service path rounds asks is = few words text asks (length words) refl (three words service path rounds is)

-- what holds of the command that was read holds of the one that is asked for
pub as_asked : (P : List ℕ → ℕ → Type 0) (words : List (List ℕ)) (read asked : Service) (p q : List ℕ) (n k : ℕ) → IsLive words read p n → IsLive words asked q k → (read ≡ asked → P p n) → P q k
as_asked P words read asked p q n k a b does =
    let same = same_live words read asked p q n k a b in
    subst (λ (x : List ℕ). P x k) same.1 (subst (λ (m : ℕ). P p m) same.2 (does same.0))

-- the path of a live command is that of a socket
pub path_of : (words : List (List ℕ)) (service : Service) (path : List ℕ) (rounds : ℕ) → IsLive words service path rounds → IsPath path
path_of [] service path rounds is = absurd is
path_of (x ∷ []) service path rounds is = absurd is
path_of (x ∷ y ∷ []) service path rounds is = absurd is
path_of (x ∷ y ∷ z ∷ []) service path rounds is = is.2
path_of (x ∷ y ∷ z ∷ w ∷ ws) service path rounds is = absurd is
