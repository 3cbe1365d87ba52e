-- What words ask for, and what is written then.
use Rattle.std.proofs.Common.{Bool, true, false, IsTrue, ◌≡◌, ◌<◌, ℕ, get_or, Some, None, List, [], ◌∷◌, ◌++◌, ap, sym, ◌∙◌, inl, inr, Option, Result, Ok, Err, subst, arith, refl}
use Rattle.std.proofs.lemmas.Bool.{false≢true}
use Rattle.std.proofs.lemmas.Fmt.{decimal_injective}
use Rattle.std.specs.Prelude.{codes, OnOk, OnErr, MatchOption, MatchResult}
use Rattle.std.specs.Fmt.{decimal}
use Rattle.std.specs.Io.KnownBytes.{Appends}
use Rattle.atspi_base.specs.Outside.{AppendsPart}
use Rattle.atspi_trace_texts.specs.declared.options.TraceOptions.{TraceOptions}
use Rattle.atspi_run_live.specs.Words.{IsLive}
use Rattle.atspi_run_live.specs.declared.words.Service.{Service}
use Rattle.atspi_run.specs.declared.words.Script.{Script}
use Rattle.atspi_run.specs.declared.words.Task.{Task}
use Rattle.atspi_run.specs.declared.words.Task.TheVariants.{Replay, Make}
use Rattle.atspi_run.specs.Words.{AreOf, Asks, IsAllowed, IsCheck, IsCommand, IsHit, IsMake, IsReplay, IsTask, IsTold, Tells, check_help, help, hit_help, make_help, replay_help, version, word_if}

-- what a test that failed says
pub not_if : {P : Type 0} (r : Bool) → r ≡ false → (P → IsTrue r) → P → ⊥
not_if r off test p = false≢true (sym off ∙ test p)

-- a text that was written, or a front of it
pub tells : {T E : Type 0} (r : Result T E) (due status : ℕ) (text bytes : List ℕ) (w w' : Option (List ℕ)) → MatchResult r (λ _. status ≡ due) (λ _. status ≡ 4) → OnOk r (Appends w w' bytes) → OnErr r (AppendsPart w w' bytes) → bytes ≡ text → Tells due text status w w'
tells (Ok x) due status text bytes w w' is ok err e = inl (is, subst (λ bs. Appends w w' bs) e ok)
tells (Err x) due status text bytes w w' is ok err e = inr (is, subst (λ bs. AppendsPart w w' bs) e err)

-- the words `replay --help` ask for one text
pub asks_replay_help : (words : List (List ℕ)) (text : List ℕ) → words ≡ codes "replay" ∷ codes "--help" ∷ [] → Asks words text → text ≡ replay_help
asks_replay_help words text w (inl (e, t)) = let both = sym w ∙ e in absurd cc
asks_replay_help words text w (inr (inl (e, t))) = let both = sym w ∙ e in absurd cc
asks_replay_help words text w (inr (inr (inl (e, t)))) = t
asks_replay_help words text w (inr (inr (inr (inl (e, t))))) = let both = sym w ∙ e in absurd cc
asks_replay_help words text w (inr (inr (inr (inr (inl (e, t)))))) = let both = sym w ∙ e in absurd cc
asks_replay_help words text w (inr (inr (inr (inr (inr (e, t)))))) = let both = sym w ∙ e in absurd cc

pub asks_make_help : (words : List (List ℕ)) (text : List ℕ) → words ≡ codes "make" ∷ codes "--help" ∷ [] → Asks words text → text ≡ make_help
asks_make_help words text w (inl (e, t)) = let both = sym w ∙ e in absurd cc
asks_make_help words text w (inr (inl (e, t))) = let both = sym w ∙ e in absurd cc
asks_make_help words text w (inr (inr (inl (e, t)))) = let both = sym w ∙ e in absurd cc
asks_make_help words text w (inr (inr (inr (inl (e, t))))) = t
asks_make_help words text w (inr (inr (inr (inr (inl (e, t)))))) = let both = sym w ∙ e in absurd cc
asks_make_help words text w (inr (inr (inr (inr (inr (e, t)))))) = let both = sym w ∙ e in absurd cc

pub asks_help : (words : List (List ℕ)) (text : List ℕ) → words ≡ codes "--help" ∷ [] → Asks words text → text ≡ help
asks_help words text w (inl (e, t)) = t
asks_help words text w (inr (inl (e, t))) = let both = sym w ∙ e in absurd cc
asks_help words text w (inr (inr (inl (e, t)))) = let both = sym w ∙ e in absurd cc
asks_help words text w (inr (inr (inr (inl (e, t))))) = let both = sym w ∙ e in absurd cc
asks_help words text w (inr (inr (inr (inr (inl (e, t)))))) = let both = sym w ∙ e in absurd cc
asks_help words text w (inr (inr (inr (inr (inr (e, t)))))) = let both = sym w ∙ e in absurd cc

pub asks_version : (words : List (List ℕ)) (text : List ℕ) → words ≡ codes "--version" ∷ [] → Asks words text → text ≡ version
asks_version words text w (inl (e, t)) = let both = sym w ∙ e in absurd cc
asks_version words text w (inr (inl (e, t))) = t
asks_version words text w (inr (inr (inl (e, t)))) = let both = sym w ∙ e in absurd cc
asks_version words text w (inr (inr (inr (inl (e, t))))) = let both = sym w ∙ e in absurd cc
asks_version words text w (inr (inr (inr (inr (inl (e, t)))))) = let both = sym w ∙ e in absurd cc
asks_version words text w (inr (inr (inr (inr (inr (e, t)))))) = let both = sym w ∙ e in absurd cc

pub asks_check_help : (words : List (List ℕ)) (text : List ℕ) → words ≡ codes "check" ∷ codes "--help" ∷ [] → Asks words text → text ≡ check_help
asks_check_help words text w (inl (e, t)) = let both = sym w ∙ e in absurd cc
asks_check_help words text w (inr (inl (e, t))) = let both = sym w ∙ e in absurd cc
asks_check_help words text w (inr (inr (inl (e, t)))) = let both = sym w ∙ e in absurd cc
asks_check_help words text w (inr (inr (inr (inl (e, t))))) = let both = sym w ∙ e in absurd cc
asks_check_help words text w (inr (inr (inr (inr (inl (e, t)))))) = t
asks_check_help words text w (inr (inr (inr (inr (inr (e, t)))))) = let both = sym w ∙ e in absurd cc

pub asks_hit_help : (words : List (List ℕ)) (text : List ℕ) → words ≡ codes "hit" ∷ codes "--help" ∷ [] → Asks words text → text ≡ hit_help
asks_hit_help words text w (inl (e, t)) = let both = sym w ∙ e in absurd cc
asks_hit_help words text w (inr (inl (e, t))) = let both = sym w ∙ e in absurd cc
asks_hit_help words text w (inr (inr (inl (e, t)))) = let both = sym w ∙ e in absurd cc
asks_hit_help words text w (inr (inr (inr (inl (e, t))))) = let both = sym w ∙ e in absurd cc
asks_hit_help words text w (inr (inr (inr (inr (inl (e, t)))))) = let both = sym w ∙ e in absurd cc
asks_hit_help words text w (inr (inr (inr (inr (inr (e, t)))))) = t

-- words that are none of these ask for no text
pub none_asked : (words : List (List ℕ)) (text : List ℕ) → (words ≡ codes "--help" ∷ [] → ⊥) → (words ≡ codes "--version" ∷ [] → ⊥) → (words ≡ codes "replay" ∷ codes "--help" ∷ [] → ⊥)
    → (words ≡ codes "make" ∷ codes "--help" ∷ [] → ⊥) → (words ≡ codes "check" ∷ codes "--help" ∷ [] → ⊥) → (words ≡ codes "hit" ∷ codes "--help" ∷ [] → ⊥) → Asks words text → ⊥
none_asked words text a b c d f h (inl (e, t)) = a e
none_asked words text a b c d f h (inr (inl (e, t))) = b e
none_asked words text a b c d f h (inr (inr (inl (e, t)))) = c e
none_asked words text a b c d f h (inr (inr (inr (inl (e, t))))) = d e
none_asked words text a b c d f h (inr (inr (inr (inr (inl (e, t)))))) = f e
none_asked words text a b c d f h (inr (inr (inr (inr (inr (e, t)))))) = h e

-- words that are none of the four choices ask for no replay
pub no_choice : (words : List (List ℕ)) → (words ≡ codes "replay" ∷ [] → ⊥) → (words ≡ codes "replay" ∷ codes "--brief" ∷ [] → ⊥) → (words ≡ codes "replay" ∷ codes "--wire" ∷ [] → ⊥)
    → (words ≡ codes "replay" ∷ codes "--brief" ∷ codes "--wire" ∷ [] → ⊥) → (brief wire : Bool) → words ≡ codes "replay" ∷ (word_if brief (codes "--brief") ++ word_if wire (codes "--wire")) → ⊥
no_choice words a b c d false false e = a e
no_choice words a b c d true false e = b e
no_choice words a b c d false true e = c e
no_choice words a b c d true true e = d e

-- the first letter of the first word, and the third of the second
abbrev first_letter : List (List ℕ) → ℕ
first_letter [] = 0
first_letter (word ∷ words) = get_or word 0 0

abbrev third_of_second : List (List ℕ) → ℕ
third_of_second [] = 0
third_of_second (word ∷ []) = 0
third_of_second (word ∷ next ∷ words) = get_or next 2 0

-- words that begin otherwise are others
replay_not_help : (ws vs : List (List ℕ)) → codes "replay" ∷ ws ≡ codes "--help" ∷ vs → ⊥
replay_not_help ws vs e = let letters : 114 ≡ 45 = ap first_letter e in absurd (omega (arith, letters))

replay_not_version : (ws vs : List (List ℕ)) → codes "replay" ∷ ws ≡ codes "--version" ∷ vs → ⊥
replay_not_version ws vs e = let letters : 114 ≡ 45 = ap first_letter e in absurd (omega (arith, letters))

replay_not_make : (ws vs : List (List ℕ)) → codes "replay" ∷ ws ≡ codes "make" ∷ vs → ⊥
replay_not_make ws vs e = let letters : 114 ≡ 109 = ap first_letter e in absurd (omega (arith, letters))

replay_not_check : (ws vs : List (List ℕ)) → codes "replay" ∷ ws ≡ codes "check" ∷ vs → ⊥
replay_not_check ws vs e = let letters : 114 ≡ 99 = ap first_letter e in absurd (omega (arith, letters))

replay_not_hit : (ws vs : List (List ℕ)) → codes "replay" ∷ ws ≡ codes "hit" ∷ vs → ⊥
replay_not_hit ws vs e = let letters : 114 ≡ 104 = ap first_letter e in absurd (omega (arith, letters))

wire_not_help : codes "replay" ∷ codes "--wire" ∷ [] ≡ codes "replay" ∷ codes "--help" ∷ [] → ⊥
wire_not_help e = let letters : 119 ≡ 104 = ap third_of_second e in absurd (omega (arith, letters))

-- no other words ask for a replay
choice_is_not_told : (words : List (List ℕ)) (text : List ℕ) (brief wire : Bool) → words ≡ codes "replay" ∷ (word_if brief (codes "--brief") ++ word_if wire (codes "--wire")) → Asks words text → ⊥
choice_is_not_told words text brief wire w (inl (e, t)) = replay_not_help _ _ (sym w ∙ e)
choice_is_not_told words text brief wire w (inr (inl (e, t))) = replay_not_version _ _ (sym w ∙ e)
choice_is_not_told words text false false w (inr (inr (inl (e, t)))) = let both = sym w ∙ e in absurd cc
choice_is_not_told words text true false w (inr (inr (inl (e, t)))) = let both = sym w ∙ e in absurd cc
choice_is_not_told words text false true w (inr (inr (inl (e, t)))) = wire_not_help (sym w ∙ e)
choice_is_not_told words text true true w (inr (inr (inl (e, t)))) = let both = sym w ∙ e in absurd cc
choice_is_not_told words text brief wire w (inr (inr (inr (inl (e, t))))) = replay_not_make _ _ (sym w ∙ e)
choice_is_not_told words text brief wire w (inr (inr (inr (inr (inl (e, t)))))) = replay_not_check _ _ (sym w ∙ e)
choice_is_not_told words text brief wire w (inr (inr (inr (inr (inr (e, t)))))) = replay_not_hit _ _ (sym w ∙ e)

pub replay_is_not_told : (words : List (List ℕ)) (text : List ℕ) (options : TraceOptions) → IsReplay words options → Asks words text → ⊥
replay_is_not_told words text options w a = choice_is_not_told words text options.brief options.wire w a

pub check_is_not_told : (words : List (List ℕ)) (text : List ℕ) → IsCheck words → Asks words text → ⊥
check_is_not_told words text w (inl (e, t)) = let both = sym w ∙ e in absurd cc
check_is_not_told words text w (inr (inl (e, t))) = let both = sym w ∙ e in absurd cc
check_is_not_told words text w (inr (inr (inl (e, t)))) = let both = sym w ∙ e in absurd cc
check_is_not_told words text w (inr (inr (inr (inl (e, t))))) = let both = sym w ∙ e in absurd cc
check_is_not_told words text w (inr (inr (inr (inr (inl (e, t)))))) = let both = sym w ∙ e in absurd cc
check_is_not_told words text w (inr (inr (inr (inr (inr (e, t)))))) = let both = sym w ∙ e in absurd cc

pub hit_is_not_told : (words : List (List ℕ)) (text : List ℕ) → IsHit words → Asks words text → ⊥
hit_is_not_told words text w (inl (e, t)) = let both = sym w ∙ e in absurd cc
hit_is_not_told words text w (inr (inl (e, t))) = let both = sym w ∙ e in absurd cc
hit_is_not_told words text w (inr (inr (inl (e, t)))) = let both = sym w ∙ e in absurd cc
hit_is_not_told words text w (inr (inr (inr (inl (e, t))))) = let both = sym w ∙ e in absurd cc
hit_is_not_told words text w (inr (inr (inr (inr (inl (e, t)))))) = let both = sym w ∙ e in absurd cc
hit_is_not_told words text w (inr (inr (inr (inr (inr (e, t)))))) = let both = sym w ∙ e in absurd cc

-- the words of `make` are three, and begin with it
pub make_is : (words : List (List ℕ)) (count seed : ℕ) → IsMake words count seed → (first : List ℕ) × (second : List ℕ) × (words ≡ codes "make" ∷ first ∷ second ∷ [])
make_is [] count seed is = absurd is
make_is (a ∷ []) count seed is = absurd is
make_is (a ∷ b ∷ []) count seed is = absurd is
make_is (a ∷ b ∷ c ∷ []) count seed is = (b, c, ap (λ w. w ∷ b ∷ c ∷ []) is.0)
make_is (a ∷ b ∷ c ∷ d ∷ ws) count seed is = absurd is

pub make_is_not_told : (words : List (List ℕ)) (text : List ℕ) (count seed : ℕ) → IsMake words count seed → Asks words text → ⊥
make_is_not_told words text count seed is a = by (make_is words count seed is) a
  where
    by : ((first : List ℕ) × (second : List ℕ) × (words ≡ codes "make" ∷ first ∷ second ∷ [])) → Asks words text → ⊥
    by m (inl (e, t)) = let both = sym m.2 ∙ e in absurd cc
    by m (inr (inl (e, t))) = let both = sym m.2 ∙ e in absurd cc
    by m (inr (inr (inl (e, t)))) = let both = sym m.2 ∙ e in absurd cc
    by m (inr (inr (inr (inl (e, t))))) = let both = sym m.2 ∙ e in absurd cc
    by m (inr (inr (inr (inr (inl (e, t)))))) = let both = sym m.2 ∙ e in absurd cc
    by m (inr (inr (inr (inr (inr (e, t)))))) = let both = sym m.2 ∙ e in absurd cc

-- no words are those of two commands
pub not_replay_and_check : (words : List (List ℕ)) (options : TraceOptions) → IsReplay words options → IsCheck words → ⊥
not_replay_and_check words options r c = replay_not_check _ _ (sym r ∙ c)

pub not_replay_and_hit : (words : List (List ℕ)) (options : TraceOptions) → IsReplay words options → IsHit words → ⊥
not_replay_and_hit words options r h = replay_not_hit _ _ (sym r ∙ h)

pub not_check_and_hit : (words : List (List ℕ)) → IsCheck words → IsHit words → ⊥
not_check_and_hit words c h = let both = sym c ∙ h in absurd cc

pub not_make_and_hit : (words : List (List ℕ)) (count seed : ℕ) → IsMake words count seed → IsHit words → ⊥
not_make_and_hit words count seed is h = let m = make_is words count seed is in let both = sym m.2 ∙ h in absurd cc

pub not_replay_and_make : (words : List (List ℕ)) (options : TraceOptions) (count seed : ℕ) → IsReplay words options → IsMake words count seed → ⊥
not_replay_and_make words options count seed r is = let m = make_is words count seed is in replay_not_make _ _ (sym r ∙ m.2)

pub not_make_and_check : (words : List (List ℕ)) (count seed : ℕ) → IsMake words count seed → IsCheck words → ⊥
not_make_and_check words count seed is c = let m = make_is words count seed is in let both = sym m.2 ∙ c in absurd cc

abbrev choice : Bool → Bool → TraceOptions
choice brief wire = record { brief = brief; wire = wire }

-- words ask for one choice of options alone
pub same_options : (words : List (List ℕ)) (o p : TraceOptions) → IsReplay words o → IsReplay words p → o ≡ p
same_options words o p a b = same o.brief o.wire p.brief p.wire (sym a ∙ b)
  where
    same : (b w c v : Bool) → codes "replay" ∷ (word_if b (codes "--brief") ++ word_if w (codes "--wire")) ≡ codes "replay" ∷ (word_if c (codes "--brief") ++ word_if v (codes "--wire")) → choice b w ≡ choice c v
    same false false false false e = refl
    same false false false true e = absurd cc
    same false false true false e = absurd cc
    same false false true true e = absurd cc
    same false true false false e = absurd cc
    same false true false true e = refl
    same false true true false e = absurd cc
    same false true true true e = absurd cc
    same true false false false e = absurd cc
    same true false false true e = absurd cc
    same true false true false e = refl
    same true false true true e = absurd cc
    same true true false false e = absurd cc
    same true true false true e = absurd cc
    same true true true false e = absurd cc
    same true true true true e = refl

-- and for one script
pub same_numbers : (words : List (List ℕ)) (count seed n k : ℕ) → IsMake words count seed → IsMake words n k → (count ≡ n) × (seed ≡ k)
same_numbers [] count seed n k a b = absurd a
same_numbers (x ∷ []) count seed n k a b = absurd a
same_numbers (x ∷ y ∷ []) count seed n k a b = absurd a
same_numbers (x ∷ y ∷ z ∷ []) count seed n k a b = (
  decimal_injective count n (omega (arith, a.1.few)) (omega (arith, b.1.few)) (sym a.1.first_is ∙ b.1.first_is),
  decimal_injective seed k (omega (arith, a.1.small)) (omega (arith, b.1.small)) (sym a.1.second_is ∙ b.1.second_is),
)
same_numbers (x ∷ y ∷ z ∷ w ∷ ws) count seed n k a b = absurd a

told_or_4 : (status : ℕ) (text : List ℕ) (w w' : Option (List ℕ)) → Tells 0 text status w w' → status ≡ 2 → ⊥
told_or_4 status text w w' (inl (due, a)) is = absurd (omega (arith, due, is))
told_or_4 status text w w' (inr (due, a)) is = absurd (omega (arith, due, is))

-- words that ask for a text are not told how the program is used
told_is_not_2 : (status : ℕ) (words : List (List ℕ)) (w w' : Option (List ℕ)) → ((text : List ℕ) → Asks words text → Tells 0 text status w w') → status ≡ 2 → IsTold words → ⊥
told_is_not_2 status words w w' tell is told = told_or_4 status told.0 w w' (tell told.0 told.1) is

-- status 2 comes for the words of no command
pub no_command : (status : ℕ) (words : List (List ℕ)) (w w' : Option (List ℕ)) → ((options : TraceOptions) → IsReplay words options → ⊥) → ((count seed : ℕ) → IsMake words count seed → ⊥) → (IsCheck words → ⊥)
    → ((service : Service) (path : List ℕ) (rounds : ℕ) → IsLive words service path rounds → ⊥) → (IsHit words → ⊥) → ((text : List ℕ) → Asks words text → Tells 0 text status w w') → status ≡ 2 → IsCommand words → ⊥
no_command status words w w' r m c l h tell is (inl replay) = r replay.0 replay.1
no_command status words w w' r m c l h tell is (inr (inl made)) = m made.0 made.1 made.2
no_command status words w w' r m c l h tell is (inr (inr (inl check))) = c check
no_command status words w w' r m c l h tell is (inr (inr (inr (inl told)))) = told_is_not_2 status words w w' tell is told
no_command status words w w' r m c l h tell is (inr (inr (inr (inr (inl live))))) = l live.0 live.1 live.2 live.3
no_command status words w w' r m c l h tell is (inr (inr (inr (inr (inr hit))))) = h hit

-- the numbers of `make`, by its words
pub asked : (r : Option Script) (words : List (List ℕ)) (first second : List ℕ) → words ≡ codes "make" ∷ first ∷ second ∷ []
    → MatchOption r ((n k : ℕ) → AreOf first second n k → ⊥) (λ (s : Script). AreOf first second s.count s.seed)
    → MatchOption r ((n k : ℕ) → IsMake words n k → ⊥) (λ (s : Script). IsMake words s.count s.seed)
asked None words first second e none = λ n k is. let at : IsMake (codes "make" ∷ first ∷ second ∷ []) n k = subst (λ ws. IsMake ws n k) e is in none n k at.1
asked (Some s) words first second e are = subst (λ ws. IsMake ws s.count s.seed) (sym e) (refl, are)

-- another command's words
pub not_asked : (words : List (List ℕ)) (make first second : List ℕ) (n k : ℕ) → words ≡ make ∷ first ∷ second ∷ [] → (make ≡ codes "make" → ⊥) → IsMake words n k → ⊥
not_asked words make first second n k e other is = let at : IsMake (make ∷ first ∷ second ∷ []) n k = subst (λ ws. IsMake ws n k) e is in other at.0

-- words that ask for no replay and no script
pub no_task : (words : List (List ℕ)) → ((options : TraceOptions) → IsReplay words options → ⊥) → ((count seed : ℕ) → IsMake words count seed → ⊥) → (task : Task) → IsTask words task → ⊥
no_task words r m (Replay options) is = r options is
no_task words r m (Make script) is = m script.count script.seed is

-- numbers that are spelled so are those that are asked for
pub same_script : (first second : List ℕ) (s : Script) (n k : ℕ) → first ≡ decimal s.count → second ≡ decimal s.seed → s.count < 4294967296 → s.seed < 4294967296 → AreOf first second n k → IsAllowed s
same_script first second s n k f g c d a =
    let count : n ≡ s.count = decimal_injective n s.count (omega (arith, a.few)) (omega (arith, c)) (sym a.first_is ∙ f) in
    let seed : k ≡ s.seed = decimal_injective k s.seed (omega (arith, a.small)) (omega (arith, d)) (sym a.second_is ∙ g) in
    record { some = omega (arith, a.some, count); few = omega (arith, a.few, count); small = omega (arith, a.small, seed) }
