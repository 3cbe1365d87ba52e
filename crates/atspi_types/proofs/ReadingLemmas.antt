-- Steps of reading a signature, as the code takes them.
use Rattle.std.proofs.Common.{◌≡◌, ℕ, ◌+◌, ◌<◌, ◌≤◌, List, [], ◌∷◌, ◌++◌, length, length-append, take, drop, get_or, refl, sym, ap, subst, ◌∙◌, arith, Result, Ok, Err, None, add-one, drop-cons, inl, inr, ◌⊎◌}
use Rattle.std.specs.Prelude.{min}
use Rattle.std.proofs.lemmas.List.{drop_all, take_all}
use Rattle.std.proofs.lemmas.Bool.{cases_lt}
use Rattle.atspi_types.specs.Kinds.{Kind}
use Rattle.atspi_types.specs.SignatureFaults.{Token, code, token_of, Context, at_top, BeginsSignature}
use Rattle.atspi_types.specs.SignatureReading.{Gives, refusal, with_token, walk, step_at, ◌>>=◌, signature_in, behind_front}
use Rattle.atspi_types.specs.declared.fault.Fault.{Fault}
use Rattle.atspi_types.specs.declared.fault.ReadFault.{ReadFault}
use Rattle.atspi_types.specs.declared.fault.ReadFault.TheVariants as faults
use Rattle.atspi_types.proofs.SignatureFronts.{goes_on}

-- a fault that is handed on
pub handed_on : {X Y Z W : Type 0} (view : X → Y) (other : Z → W) (e : ReadFault) (read : Result Y Fault) (whole : Result W Fault) → ((f : Fault) → read ≡ Err f → whole ≡ Err f) → Gives view (Err e) read → Gives other (Err e) whole
handed_on view other (faults.Bad f) read whole h g = h f g
handed_on view other faults.NoMemory read whole h g = tt

-- one byte further
pub walk-drop : (c : Context) (bytes : List ℕ) (i : ℕ) → i < length bytes → walk c i (drop i bytes) ≡ (step_at c i (get_or bytes i 0) >>= λ after. walk after (i + 1) (drop (i + 1) bytes))
unfolding walk
walk-drop c bytes i lt = ap (walk c i) (drop-cons bytes i 0 lt ∙ ap (λ m. get_or bytes i 0 ∷ drop m bytes) (sym (add-one i)))

pub walk-err : (c : Context) (bytes : List ℕ) (i : ℕ) (f : Fault) → i < length bytes → step_at c i (get_or bytes i 0) ≡ Err f → walk c i (drop i bytes) ≡ Err f
walk-err c bytes i f lt e = walk-drop c bytes i lt ∙ rw e refl

pub walk-ok : (c after : Context) (bytes : List ℕ) (i : ℕ) → i < length bytes → step_at c i (get_or bytes i 0) ≡ Ok after → walk c i (drop i bytes) ≡ walk after (i + 1) (drop (i + 1) bytes)
walk-ok c after bytes i lt e = walk-drop c bytes i lt ∙ rw e refl

pub walk-end : (c : Context) (bytes : List ℕ) (i : ℕ) → length bytes ≤ i → walk c i (drop i bytes) ≡ Ok c
unfolding walk
walk-end c bytes i le = rw (drop_all i bytes le) refl

-- types of one byte each in front, up to a place
pub record Began (bytes : List ℕ) (ks : List Kind) (i : ℕ) : Type 0 where
  pub count : length ks ≡ i
  pub begins : BeginsSignature (at_top ks)
  pub rest : walk (at_top ks) i (drop i bytes) ≡ walk (at_top []) 0 bytes

pub began-nothing : (bytes : List ℕ) → Began bytes [] 0
began-nothing bytes = record { count = refl; begins = record { lawful = tt; arrays = omega arith; structs = omega arith }; rest = refl }

code-refusal : (ks : List Kind) (k : Kind) (t : Token) → code k ≡ t → refusal (at_top ks) t ≡ None
unfolding refusal
code-refusal ks k t e = rw (sym e) refl

code-with_token : (ks : List Kind) (k : Kind) (t : Token) → code k ≡ t → with_token (at_top ks) t ≡ at_top (ks ++ k ∷ [])
unfolding with_token
code-with_token ks k t e = rw (sym e) refl

code-step : (ks : List Kind) (k : Kind) (i b : ℕ) → code k ≡ token_of b → step_at (at_top ks) i b ≡ Ok (at_top (ks ++ k ∷ []))
unfolding step_at
code-step ks k i b e = rw (code-refusal ks k (token_of b) e, code-with_token ks k (token_of b) e) refl

-- one type more
pub began-code : (bytes : List ℕ) (ks : List Kind) (i : ℕ) (k : Kind) → i < length bytes → code k ≡ token_of (get_or bytes i 0) → Began bytes ks i → Began bytes (ks ++ k ∷ []) (i + 1)
began-code bytes ks i k lt e h =
    let b : ℕ = get_or bytes i 0 in
    let after = goes_on (at_top ks) b h.begins (code-refusal ks k (token_of b) e) in
    record {
      count = rw (length-append ks (k ∷ [])) (omega (arith, h.count));
      begins = subst BeginsSignature (code-with_token ks k (token_of b) e) after.begins;
      rest = sym (walk-ok (at_top ks) (at_top (ks ++ k ∷ [])) bytes i lt (code-step ks k i b e)) ∙ h.rest;
    }

-- the whole, by its parts
pub front-err : (bytes : List ℕ) (f : Fault) → walk (at_top []) 0 (take 255 bytes) ≡ Err f → signature_in bytes ≡ Err f
unfolding signature_in
front-err bytes f e = rw e refl

pub front-ok : (bytes : List ℕ) (c : Context) → walk (at_top []) 0 (take 255 bytes) ≡ Ok c → signature_in bytes ≡ behind_front c (length bytes)
unfolding signature_in
front-ok bytes c e = rw e refl

-- the first 255 bytes, or all
pub take-min : (bytes : List ℕ) (n : ℕ) → take (min (length bytes) n) bytes ≡ take n bytes
take-min bytes n = by (cases_lt (length bytes) n)
  where
    by : (length bytes < n) ⊎ (n ≤ length bytes) → take (min (length bytes) n) bytes ≡ take n bytes
    by (inl lt) = let all : min (length bytes) n ≡ length bytes = omega arith in rw (all, take_all (length bytes) bytes (omega arith), take_all n bytes (omega (arith, lt))) refl
    by (inr le) = let some : min (length bytes) n ≡ n = omega arith in rw some refl
