-- A live application takes a message, hands one out, and does a line.
use Rattle.std.proofs.Common.{◌≡◌, ℕ, ◌+◌, ◌<◌, ◌≤◌, List, [], ◌∷◌, ◌++◌, length, Option, Some, None, Bool, true, false, refl, sym, ap, subst, ◌∙◌, append_assoc, append-nil, length-append, arith}
use Rattle.std.specs.Prelude.{◌==◌, if◌then◌else◌, Result, Ok, Err, IfSome, IfNone, OnOk}
use Rattle.atspi_message.specs.Envelope.{Envelope}
use Rattle.atspi_message.specs.Rules.{MeetsRules}
use Rattle.atspi_live_conversation.specs.Sent.{AllMeet}
use Rattle.atspi_protocol.specs.exporting.Exporter.{Exporter}
use Rattle.atspi_live_app.specs.Input.{left_in}
use Rattle.atspi_live_app.specs.inner.Input.{Passes}
use Rattle.atspi_live_app.specs.Lines.{lines_of, onto}
use Rattle.atspi_live_app.specs.Standing.{Does, Event, HandedOut, IsNumbered, does, takes, lines_in, taken_in}
use Rattle.atspi_live_app.specs.Live.{IsKept, Stands, marks_in, seen}
use Rattle.atspi_live_app.specs.inner.Live.{Hands, IsStarted}
use Rattle.atspi_live_app.specs.declared.asking.Ask.{Ask}
use Rattle.atspi_live_app.proofs.Making.{after_taken, comes_taken, does_whole, handed_both, lines_both, makes_both, numbered_on, taken_both, took_whole}
use Rattle.atspi_live_app.proofs.Meeting.{next_meets}

-- behind how many messages lines were done
marked_line : (n : ℕ) (line : List ℕ) (h : List Event) → marks_in n (h ++ does line ∷ []) ≡ marks_in n h ++ (n + length (taken_in h)) ∷ []
marked_line n line [] = ap (λ (m : ℕ). m ∷ []) (omega arith)
marked_line n line (does l ∷ h) = ap (λ (ms : List ℕ). n ∷ ms) (marked_line n line h)
marked_line n line (takes e ∷ h) = marked_line (n + 1) line h ∙ ap (λ (m : ℕ). marks_in (n + 1) h ++ m ∷ []) (omega arith)

marked_message : (n : ℕ) (e : Envelope) (h : List Event) → marks_in n (h ++ takes e ∷ []) ≡ marks_in n h
marked_message n e [] = refl
marked_message n e (does l ∷ h) = ap (λ (ms : List ℕ). n ∷ ms) (marked_message n e h)
marked_message n e (takes f ∷ h) = marked_message (n + 1) e h

marks_all : (es took : List Envelope) → es ≡ took → 0 + length es ≡ length took
marks_all es took e = omega (arith, ap (λ (x : List Envelope). length x) e)

-- a message was taken
pub stands_took : {A K : Type 0} (is_app : A → Type 0) (exporter : A → Exporter) (is_kit : K → Type 0) (text marks : List ℕ) (old new : Option A) (kit : Option K) (held : List ℕ) (at number : ℕ) (e : Envelope) (took said : List Envelope)
    → IsKept is_app is_kit new kit → IsNumbered (seen exporter new) → seen exporter new ≡ after_taken (seen exporter old) e → Stands is_app exporter is_kit text marks old kit held at number took said
    → Stands is_app exporter is_kit text marks new kit held at number (took ++ e ∷ []) said
stands_took is_app exporter is_kit text marks old new kit held at number e took said kept numbered is f =
    let lines : lines_in (f.history ++ takes e ∷ []) ≡ lines_in f.history = lines_both f.history (takes e ∷ []) ∙ append-nil (lines_in f.history) in
    record {
      kept = kept;
      same = f.same;
      short = f.short;
      history = f.history ++ takes e ∷ [];
      all = ap (λ (w : List (List ℕ)). w ++ left_in text at) lines ∙ f.all;
      marked = marked_message 0 e f.history ∙ f.marked;
      taken = taken_both f.history (takes e ∷ []) ∙ ap (λ (w : List Envelope). w ++ e ∷ []) f.taken;
      whole = after_taken f.whole e;
      makes = makes_both f.history (takes e ∷ []) None f.whole (after_taken f.whole e) f.makes (after_taken f.whole e, comes_taken f.whole e, refl);
      handed = subst (λ (s : Option Exporter). HandedOut said s (after_taken f.whole e)) (sym is) (took_whole said e (seen exporter old) f.whole f.handed);
      numbered = numbered;
      counted = f.counted ∙ ap (λ (w : List (List ℕ)). length w) (sym lines);
    }

-- messages were handed out
pub stands_handed : {A K : Type 0} (is_app : A → Type 0) (exporter : A → Exporter) (is_kit : K → Type 0) (text marks : List ℕ) (old new : Option A) (kit : Option K) (held : List ℕ) (at number : ℕ) (more took said : List Envelope)
    → IsKept is_app is_kit new kit → HandedOut more (seen exporter new) (seen exporter old) → Stands is_app exporter is_kit text marks old kit held at number took said
    → Stands is_app exporter is_kit text marks new kit held at number took (said ++ more)
stands_handed is_app exporter is_kit text marks old new kit held at number more took said kept h f = record {
  kept = kept;
  same = f.same;
  short = f.short;
  history = f.history;
  all = f.all;
  marked = f.marked;
  taken = f.taken;
  whole = f.whole;
  makes = f.makes;
  handed = handed_both said more (seen exporter new) (seen exporter old) f.whole f.handed h;
  numbered = numbered_on more (seen exporter new) (seen exporter old) h f.numbered;
  counted = f.counted;
}

pub stands_meets : {A K : Type 0} (is_app : A → Type 0) (exporter : A → Exporter) (is_kit : K → Type 0) (text marks : List ℕ) (old new : Option A) (kit : Option K) (held : List ℕ) (at number : ℕ) (e : Envelope) (took said : List Envelope)
    → HandedOut (e ∷ []) (seen exporter new) (seen exporter old) → Stands is_app exporter is_kit text marks old kit held at number took said → AllMeet took → MeetsRules e
stands_meets is_app exporter is_kit text marks old new kit held at number e took said h f m =
    next_meets f.history said e (seen exporter new) (seen exporter old) f.whole (subst (λ (w : List Envelope). AllMeet w) (sym f.taken) m) f.makes f.handed h

-- it is kept, whatever is handed out
pub kept_on : {A K : Type 0} (is_app : A → Type 0) (exporter : A → Exporter) (is_kit : K → Type 0) (more : List Envelope) (old new : Option A) (kit : Option K)
    → HandedOut more (seen exporter new) (seen exporter old) → IsKept is_app is_kit old kit → IsStarted is_app new → IsKept is_app is_kit new kit
kept_on is_app exporter is_kit more None None kit h kept is = kept
kept_on is_app exporter is_kit more old (Some app) kit h kept is = is
kept_on is_app exporter is_kit more (Some app) None kit h kept is = absurd h

-- what a message that was handed out says, and none
pub of_some : {M : Type 0} (envelope : M → Envelope) (r : Option M) (old new : Option Exporter) (P : M → Type 0) → Hands envelope r old new → ((m : M) → HandedOut (envelope m ∷ []) new old → P m) → IfSome r P
of_some envelope None old new P h f = tt
of_some envelope (Some m) old new P h f = f m h

pub of_none : {M : Type 0} (envelope : M → Envelope) (r : Option M) (old new : Option Exporter) (P : Type 0) → Hands envelope r old new → (HandedOut [] new old → P) → IfNone r P
of_none envelope None old new P h f = f h
of_none envelope (Some m) old new P h f = tt

-- two clauses of what was done
pub on_both : {T X : Type 0} (r : Result T X) (P Q : Type 0) → OnOk r P → OnOk r Q → OnOk r (P × Q)
on_both (Ok x) P Q p q = (p, q)
on_both (Err x) P Q p q = tt

-- a text has no more lines than bytes
onto_few : (b : ℕ) (ls : List (List ℕ)) (n : ℕ) → length ls ≤ n → length (onto b ls) ≤ n + 1
onto_few b [] n h = omega (arith, h)
onto_few b (l ∷ ls) n h = omega (arith, h)

few_at : (c : Bool) (b n : ℕ) (ls : List (List ℕ)) → length ls ≤ n → length (if c then [] ∷ ls else onto b ls) ≤ n + 1
few_at true b n ls h = omega (arith, h)
few_at false b n ls h = onto_few b ls n h

lines_few : (text : List ℕ) → length (lines_of text) ≤ length text
lines_few [] = omega arith
lines_few (b ∷ bs) = omega (arith, few_at (b == 10) b (length bs) (lines_of bs) (lines_few bs))

done_few : (done left : List (List ℕ)) (text : List ℕ) → done ++ left ≡ lines_of text → length text ≤ 16777216 → length done + 1 < 18446744073709551616
done_few done left text e short = omega (arith, length-append done left, ap (λ (w : List (List ℕ)). length w) e, lines_few text, short)

-- the number of the next line
pub number_next : {A K : Type 0} (is_app : A → Type 0) (exporter : A → Exporter) (is_kit : K → Type 0) (text marks : List ℕ) (app : Option A) (kit : Option K) (held : List ℕ) (at number : ℕ) (took said : List Envelope)
    → Stands is_app exporter is_kit text marks app kit held at number took said → number + 1 < 18446744073709551616
number_next is_app exporter is_kit text marks app kit held at number took said f =
    omega (arith, f.counted, done_few (lines_in f.history) (left_in text at) text f.all f.short)

-- a line was done
pub stands_did : {A K : Type 0} (is_app : A → Type 0) (exporter : A → Exporter) (is_kit : K → Type 0) (text marks : List ℕ) (old new : Option A) (kit kit' : Option K) (held held' : List ℕ) (at number at' number' : ℕ) (what : Ask) (took said : List Envelope)
    → IsKept is_app is_kit new kit' → IsNumbered (seen exporter new) → held' ≡ held → Passes (Ok what) held at number at' number' → Does (seen exporter old) what (seen exporter new) → Stands is_app exporter is_kit text marks old kit held at number took said
    → Stands is_app exporter is_kit text (marks ++ length took ∷ []) new kit' held' at' number' took said
stands_did is_app exporter is_kit text marks old new kit kit' held held' at number at' number' what took said kept numbered same p d f =
    let w = does_whole said what (seen exporter old) (seen exporter new) f.whole f.handed d in
    let lines : lines_in (f.history ++ does p.line ∷ []) ≡ lines_in f.history ++ p.line ∷ [] = lines_both f.history (does p.line ∷ []) in
    let first : left_in text at ≡ p.line ∷ left_in text at' = subst (λ (x : List ℕ). left_in x at ≡ p.line ∷ left_in x at') f.same p.first in
    record {
      kept = kept;
      same = same ∙ f.same;
      short = f.short;
      history = f.history ++ does p.line ∷ [];
      all = ap (λ (x : List (List ℕ)). x ++ left_in text at') lines ∙ append_assoc (lines_in f.history) (p.line ∷ []) (left_in text at') ∙ ap (λ (x : List (List ℕ)). lines_in f.history ++ x) (sym first) ∙ f.all;
      marked = marked_line 0 p.line f.history ∙ ap (λ (x : List ℕ). x ++ (0 + length (taken_in f.history)) ∷ []) f.marked ∙ ap (λ (n : ℕ). marks ++ n ∷ []) (marks_all (taken_in f.history) took f.taken);
      taken = taken_both f.history (does p.line ∷ []) ∙ append-nil (taken_in f.history) ∙ f.taken;
      whole = w.then;
      makes = makes_both f.history (does p.line ∷ []) None f.whole w.then f.makes (w.then, (what, p.asks, w.does), refl);
      handed = w.handed;
      numbered = numbered;
      counted =
          let n = number_next is_app exporter is_kit text marks old kit held at number took said f in
          omega (arith, p.counted n, f.counted, ap (λ (x : List (List ℕ)). length x) lines, length-append (lines_in f.history) (p.line ∷ []));
    }

-- no line was left
pub stands_passed : {A K : Type 0} (is_app : A → Type 0) (exporter : A → Exporter) (is_kit : K → Type 0) (text marks : List ℕ) (app : Option A) (kit : Option K) (held held' : List ℕ) (at number at' number' : ℕ) (took said : List Envelope)
    → held' ≡ held → at' ≡ at → number' ≡ number → Stands is_app exporter is_kit text marks app kit held at number took said → Stands is_app exporter is_kit text marks app kit held' at' number' took said
stands_passed is_app exporter is_kit text marks app kit held held' at number at' number' took said h a n f =
    subst (λ (x : List ℕ). Stands is_app exporter is_kit text marks app kit x at' number' took said) (sym h)
    (subst (λ (x : ℕ). Stands is_app exporter is_kit text marks app kit held x number' took said) (sym a) (subst (λ (x : ℕ). Stands is_app exporter is_kit text marks app kit held at x took said) (sym n) f))
