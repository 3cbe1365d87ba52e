-- A bus and its links, step behind step.
use Rattle.std.proofs.Common.{◌≡◌, ℕ, ◌<◌, ◌≤◌, ◌==◌, List, [], ◌∷◌, ◌++◌, length, zero, suc, Option, None, Some, slice_index_or, slice_set, refl, sym, ap, subst, ◌∙◌, inl, inr, append-nil, arith}
use Rattle.std.specs.Prelude.{if◌then◌else◌}
use Rattle.std.proofs.lemmas.Bool.Decides.{eqb_tells}
use Rattle.std.specs.List.{remove}
use Rattle.atspi_message.specs.Envelope.{Envelope}
use Rattle.atspi_match.specs.routing.Queues.{empty_bus}
use Rattle.atspi_match.specs.routing.Queues as queues
use Rattle.atspi_match.specs.declared.routing.closing.Closing.{Closing}
use Rattle.atspi_bus.specs.declared.bus.Bus.{Bus}
use Rattle.atspi_bus.specs.View.{bus_of, given_of}
use Rattle.atspi_live_host.specs.declared.call.Call.{Call}
use Rattle.atspi_live_host.specs.declared.call.Call.TheVariants.{Accept}
use Rattle.atspi_live_host.specs.declared.call.Did.TheVariants.{Done}
use Rattle.atspi_live_host.specs.Calls.{IsNew, taken, given}
use Rattle.atspi_live_bus.specs.Asked.{Asked, joining, taking, leaving, popping, telling, Runs, Spends, messages_of, handed_to}
use Rattle.atspi_live_bus.specs.Course.{AreTellings, Course, IsCourse, start, told_all}
use Rattle.atspi_live_bus.specs.Service.{AreApart, HasSpent, IsSaid, IsService, IsSpeech, IsStopped, OfTold}
use Rattle.atspi_live_bus.specs.Stops.{IsFree, IsWant, status_of}
use Rattle.atspi_live_bus.specs.declared.stop.Stop.{Stop}
use Rattle.atspi_live_bus.specs.declared.stop.Stop.TheVariants as stops
use Rattle.atspi_live_bus.specs.inner.Serving.{Serves, numbers}
use Rattle.atspi_live_bus.specs.Turns.{Converses, StopsAt}
use Rattle.atspi_live_bus.specs.inner.Turns.{Each, Goes, IsOfOne, IsSeated, IsTold, OthersRest, Seats}
use Rattle.atspi_live_bus.specs.declared.link.Link.{Link}
use Rattle.atspi_live_bus.proofs.Asking.{handed_both, handed_same, messages_both, messages_same, one_run, runs_both}
use Rattle.atspi_live_bus.proofs.Calling.{given_still, taken_still, told_map}
use Rattle.atspi_live_bus.proofs.Conversing.{converses_same, speech_of, speech_same}
use Rattle.atspi_live_bus.proofs.Serving.{rest_new}

-- each of a list of links, of which one is taken out, is read or is put in the place of another
pub each_all : (P Q : Link → Type 0) (ls : List Link) → ((l : Link) → P l → Q l) → Each P ls → Each Q ls
each_all P Q [] f e = tt
each_all P Q (l ∷ ls) f e = (f l e.0, each_all P Q ls f e.1)

each_other : (P Q : Link → Type 0) (k : ℕ) (ls : List Link) → IsNew k (numbers ls) → ((l : Link) → (l.number ≡ k → ⊥) → P l → Q l) → Each P ls → Each Q ls
each_other P Q k [] n f e = tt
each_other P Q k (l ∷ ls) n f e = (f l n.0 e.0, each_other P Q k ls n.1 f e.1)

each_remove : (P : Link → Type 0) (ls : List Link) (at : ℕ) → Each P ls → Each P (remove ls at)
each_remove P [] zero e = tt
each_remove P [] (suc at) e = tt
each_remove P (l ∷ ls) zero e = e.1
each_remove P (l ∷ ls) (suc at) e = (e.0, each_remove P ls at e.1)

pub each_at : (P : Link → Type 0) (ls : List Link) (at : ℕ) (l : Link) → at < length ls → l ≡ slice_index_or ls at l → Each P ls → P l
each_at P [] at l h e p = absurd (omega (arith, h))
each_at P (x ∷ ls) zero l h e p = subst P (sym e) p.0
each_at P (x ∷ ls) (suc at) l h e p = each_at P ls at l (omega (arith, h)) e p.1

each_set : (P : Link → Type 0) (ls : List Link) (at : ℕ) (m : Link) → at < length ls → P m → Each P (remove ls at) → Each P (slice_set ls at m)
each_set P [] at m h p e = absurd (omega (arith, h))
each_set P (l ∷ ls) zero m h p e = (p, e)
each_set P (l ∷ ls) (suc at) m h p e = (e.0, each_set P ls at m (omega (arith, h)) p e.1)

each_push : (P : Link → Type 0) (ls : List Link) (m : Link) → P m → Each P ls → Each P (ls ++ m ∷ [])
each_push P [] m p e = (p, tt)
each_push P (l ∷ ls) m p e = (e.0, each_push P ls m p e.1)

pub remove_set : (ls : List Link) (at : ℕ) (m : Link) → remove (slice_set ls at m) at ≡ remove ls at
remove_set [] zero m = refl
remove_set [] (suc at) m = refl
remove_set (l ∷ ls) zero m = refl
remove_set (l ∷ ls) (suc at) m = ap (λ (w : List Link). l ∷ w) (remove_set ls at m)

-- what is said of a link for whose connection nothing was asked
said_still : (asked asks : List Asked) (o : Option ℕ) (t t' g g' : List ℕ) → t' ≡ t → g' ≡ g → ((d : ℕ) → o ≡ Some d → (messages_of d asks ≡ []) × (handed_to d asks ≡ [])) → IsSaid asked o t g → IsSaid (asked ++ asks) o t' g'
said_still asked asks None t t' g g' e f n s = (e ∙ s.0, f ∙ s.1)
said_still asked asks (Some d) t t' g g' e f n s =
    let none = n d refl in
    speech_same (messages_of d asked) (messages_of d (asked ++ asks)) (handed_to d asked) (handed_to d (asked ++ asks)) t t' g g' (messages_same d asked asks none.0) (handed_same d asked asks none.1) e f s

pub said_same : (asked : List Asked) (o : Option ℕ) (t t' g g' : List ℕ) → t' ≡ t → g' ≡ g → IsSaid asked o t g → IsSaid asked o t' g'
said_same asked o t t' g g' e f s = subst (λ (w : List ℕ). IsSaid asked o w g') (sym e) (subst (λ (w : List ℕ). IsSaid asked o t w) (sym f) s)

seated_still : (asked asks : List Asked) (conn : ℕ → Option ℕ) (cs cs' : List Call) (l : Link) → (taken l.number cs' ≡ taken l.number cs) × (given l.number cs' ≡ given l.number cs) → (messages_of l.conn asks ≡ []) × (handed_to l.conn asks ≡ [])
    → IsSeated asked conn cs l → IsSeated (asked ++ asks) conn cs' l
seated_still asked asks conn cs cs' l same none s = (
  s.0,
  converses_same (messages_of l.conn asked) (messages_of l.conn (asked ++ asks)) (handed_to l.conn asked) (handed_to l.conn (asked ++ asks)) l (taken l.number cs) (taken l.number cs') (given l.number cs) (given l.number cs')
      (messages_same l.conn asked asks none.0) (handed_same l.conn asked asks none.1) same.0 same.1 s.1,
)

-- another link has another connection
other_conn : (conn : ℕ → Option ℕ) (j k c d : ℕ) → AreApart conn → conn k ≡ Some c → conn j ≡ Some d → (j ≡ k → ⊥) → d ≡ c → ⊥
other_conn conn j k c d apart at there n e = n (apart j k d there (at ∙ ap (λ (x : ℕ). Some x) (sym e)))

others_seated : (asked asks : List Asked) (conn : ℕ → Option ℕ) (k c : ℕ) (cs cs' : List Call) (ls : List Link) → AreApart conn → conn k ≡ Some c → IsOfOne c asks → OthersRest k cs cs' → IsNew k (numbers ls)
    → Each (λ l. IsSeated asked conn cs l) ls → Each (λ l. IsSeated (asked ++ asks) conn cs' l) ls
others_seated asked asks conn k c cs cs' ls apart at one rest new e =
    each_other (λ l. IsSeated asked conn cs l) (λ l. IsSeated (asked ++ asks) conn cs' l) k ls new
    (λ l n s. seated_still asked asks conn cs cs' l (rest l.number n) (one l.conn (other_conn conn l.number k c l.conn apart at s.0 n)) s) e

-- a course that went on
abbrev pub on_with : Course → List Asked → Bus → Course
on_with x asks b = record { asked = x.asked ++ asks; bus = bus_of b; conn = x.conn }

pub on_none : (x : Course) (b : Bus) → x.bus ≡ bus_of b → on_with x [] b ≡ x
on_none x b e =
    ap (λ (w : List Asked). record { asked = w; bus = bus_of b; conn = x.conn }) (append-nil x.asked)
    ∙ ap (λ (w : queues.Bus). record { asked = x.asked; bus = w; conn = x.conn }) (sym e)

-- one link and its connection went on, and the others did not
goes_with : (b b' : Bus) (links links' : List Link) (cs cs' : List Call) (asks : List Asked) (k c : ℕ) (x : Course) (g : Goes b links x cs) → Runs (bus_of b) asks (bus_of b') → given_of b' ≡ given_of b → OthersRest k cs cs' → IsOfOne c asks → x.conn k ≡ Some c
    → Each (λ l. IsSeated (x.asked ++ asks) x.conn cs' l) links' → IsSpeech (messages_of c x.asked ++ messages_of c asks) (handed_to c x.asked ++ handed_to c asks) (taken k cs') (given k cs')
    → Goes b' links' (on_with x asks b') cs'
goes_with b b' links links' cs cs' asks k c x g run same rest one at each speech = record {
  run = runs_both (empty_bus 16777216) (bus_of b) (bus_of b') x.asked asks g.run run;
  bus_is = refl;
  apart = g.apart;
  below = λ j d e. subst (λ (n : ℕ). d < n) (sym same) (g.below j d e);
  unasked = λ d h. (
    messages_same d x.asked asks (one d (above d h)).0 ∙ (g.unasked d (before d h)).0,
    handed_same d x.asked asks (one d (above d h)).1 ∙ (g.unasked d (before d h)).1,
  );
  each = each;
  said = said;
}
  where
    before : (d : ℕ) → given_of b' ≤ d → given_of b ≤ d
    before d h = subst (λ (n : ℕ). n ≤ d) same h

    above : (d : ℕ) → given_of b' ≤ d → d ≡ c → ⊥
    above d h e = omega (arith, before d h, g.below k c at, e)

    here : IsSpeech (messages_of c (x.asked ++ asks)) (handed_to c (x.asked ++ asks)) (taken k cs') (given k cs')
    here =
        speech_same (messages_of c x.asked ++ messages_of c asks) (messages_of c (x.asked ++ asks)) (handed_to c x.asked ++ handed_to c asks) (handed_to c (x.asked ++ asks)) (taken k cs') (taken k cs') (given k cs') (given k cs')
        (messages_both c x.asked asks) (handed_both c x.asked asks) refl refl speech

    said : (j : ℕ) → IsSaid (x.asked ++ asks) (x.conn j) (taken j cs') (given j cs')
    said j = elim (eqb_tells j k) [
      | inl e ↦
          subst (λ (i : ℕ). IsSaid (x.asked ++ asks) (x.conn i) (taken i cs') (given i cs')) (sym e.1)
          (subst (λ (o : Option ℕ). IsSaid (x.asked ++ asks) o (taken k cs') (given k cs')) (sym at) here)
      | inr e ↦
          said_still x.asked asks (x.conn j) (taken j cs) (taken j cs') (given j cs) (given j cs') (rest j e.1).0 (rest j e.1).1
          (λ d there. one d (other_conn x.conn j k c d g.apart at there e.1)) (g.said j)
    ]

-- a link that heard or said something, with what was asked for it
pub turned_goes : (b b' : Bus) (links : List Link) (at : ℕ) (l m : Link) (o : List ℕ) (x : Course) (cs cs' : List Call) (asks : List Asked) → at < length links → l ≡ slice_index_or links at l → Serves o links → m.number ≡ l.number → m.conn ≡ l.conn
    → Runs (bus_of b) asks (bus_of b') → given_of b' ≡ given_of b → IsOfOne l.conn asks → OthersRest l.number cs cs'
    → ((took : List Envelope) (handed : List ℕ) → Converses took handed l (taken l.number cs) (given l.number cs) → Converses (took ++ messages_of l.conn asks) (handed ++ handed_to l.conn asks) m (taken l.number cs') (given l.number cs'))
    → Goes b links x cs → Goes b' (slice_set links at m) (on_with x asks b') cs'
turned_goes b b' links at l m o x cs cs' asks h e s number conn run same one rest f g =
    goes_with b b' links (slice_set links at m) cs cs' asks l.number l.conn x g run same rest one here.0
    (each_set (λ n. IsSeated (x.asked ++ asks) x.conn cs' n) links at m h seat
    (others_seated x.asked asks x.conn l.number l.conn cs cs' (remove links at) g.apart here.0 one rest (rest_new links at l o h e s) (each_remove (λ n. IsSeated x.asked x.conn cs n) links at g.each)))
    (speech_of (messages_of l.conn x.asked ++ messages_of l.conn asks) (handed_to l.conn x.asked ++ handed_to l.conn asks) m (taken l.number cs') (given l.number cs') talks)
  where
    here : IsSeated x.asked x.conn cs l
    here = each_at (λ n. IsSeated x.asked x.conn cs n) links at l h e g.each

    talks : Converses (messages_of l.conn x.asked ++ messages_of l.conn asks) (handed_to l.conn x.asked ++ handed_to l.conn asks) m (taken l.number cs') (given l.number cs')
    talks = f (messages_of l.conn x.asked) (handed_to l.conn x.asked) here.1

    seat : IsSeated (x.asked ++ asks) x.conn cs' m
    seat = (
      ap (λ (j : ℕ). x.conn j) number ∙ here.0 ∙ ap (λ (c : ℕ). Some c) (sym conn),
      converses_same (messages_of l.conn x.asked ++ messages_of l.conn asks) (messages_of m.conn (x.asked ++ asks)) (handed_to l.conn x.asked ++ handed_to l.conn asks) (handed_to m.conn (x.asked ++ asks)) m
          (taken l.number cs') (taken m.number cs') (given l.number cs') (given m.number cs')
          (ap (λ (c : ℕ). messages_of c (x.asked ++ asks)) conn ∙ messages_both l.conn x.asked asks) (ap (λ (c : ℕ). handed_to c (x.asked ++ asks)) conn ∙ handed_both l.conn x.asked asks)
          (ap (λ (j : ℕ). taken j cs') number) (ap (λ (j : ℕ). given j cs') number) talks,
    )

-- a link that is to be closed: what was said on it stands
pub lost_goes : (b : Bus) (links : List Link) (at : ℕ) (l : Link) (o : List ℕ) (x : Course) (cs cs' : List Call) → at < length links → l ≡ slice_index_or links at l → Serves o links → OthersRest l.number cs cs'
    → ((took : List Envelope) (handed : List ℕ) → Converses took handed l (taken l.number cs) (given l.number cs) → IsSpeech took handed (taken l.number cs') (given l.number cs'))
    → Goes b links x cs → Goes b (remove links at) x cs'
lost_goes b links at l o x cs cs' h e s rest f g =
    subst (λ (y : Course). Goes b (remove links at) y cs') (on_none x b g.bus_is)
    (goes_with b b links (remove links at) cs cs' [] l.number l.conn x g refl refl rest (λ d n. (refl, refl)) here.0
    (others_seated x.asked [] x.conn l.number l.conn cs cs' (remove links at) g.apart here.0 (λ d n. (refl, refl)) rest (rest_new links at l o h e s) (each_remove (λ n. IsSeated x.asked x.conn cs n) links at g.each))
    (speech_same (messages_of l.conn x.asked) (messages_of l.conn x.asked ++ []) (handed_to l.conn x.asked) (handed_to l.conn x.asked ++ []) (taken l.number cs') (taken l.number cs') (given l.number cs') (given l.number cs')
    (append-nil (messages_of l.conn x.asked)) (append-nil (handed_to l.conn x.asked)) refl refl (f (messages_of l.conn x.asked) (handed_to l.conn x.asked) here.1)))
  where
    here : IsSeated x.asked x.conn cs l
    here = each_at (λ n. IsSeated x.asked x.conn cs n) links at l h e g.each

-- without one of the links the others go on
pub rest_goes : (b : Bus) (links : List Link) (at : ℕ) (x : Course) (cs : List Call) → Goes b links x cs → Goes b (remove links at) x cs
rest_goes b links at x cs g = record {
  run = g.run;
  bus_is = g.bus_is;
  apart = g.apart;
  below = g.below;
  unasked = g.unasked;
  each = each_remove (λ n. IsSeated x.asked x.conn cs n) links at g.each;
  said = g.said;
}

-- a bus was asked something that is nobody's
pub still_goes : (b b' : Bus) (links : List Link) (x : Course) (cs : List Call) (asks : List Asked) → Runs (bus_of b) asks (bus_of b') → ((d : ℕ) → (messages_of d asks ≡ []) × (handed_to d asks ≡ [])) → given_of b' ≡ given_of b
    → Goes b links x cs → Goes b' links (on_with x asks b') cs
still_goes b b' links x cs asks run nobodys same g = record {
  run = runs_both (empty_bus 16777216) (bus_of b) (bus_of b') x.asked asks g.run run;
  bus_is = refl;
  apart = g.apart;
  below = λ j d e. subst (λ (n : ℕ). d < n) (sym same) (g.below j d e);
  unasked = λ d h. (
    messages_same d x.asked asks (nobodys d).0 ∙ (g.unasked d (subst (λ (n : ℕ). n ≤ d) same h)).0,
    handed_same d x.asked asks (nobodys d).1 ∙ (g.unasked d (subst (λ (n : ℕ). n ≤ d) same h)).1,
  );
  each = each_all (λ l. IsSeated x.asked x.conn cs l) (λ l. IsSeated (x.asked ++ asks) x.conn cs l) links (λ l s. seated_still x.asked asks x.conn cs cs l (refl, refl) (nobodys l.conn) s) g.each;
  said = λ j. said_still x.asked asks (x.conn j) (taken j cs) (taken j cs) (given j cs) (given j cs) refl refl (λ d there. nobodys d) (g.said j);
}

-- it was asked nothing, and by the calls of the host nothing passed
pub same_goes : (b b' : Bus) (links : List Link) (x : Course) (cs cs' : List Call) → bus_of b' ≡ bus_of b → given_of b' ≡ given_of b → ((j : ℕ) → (taken j cs' ≡ taken j cs) × (given j cs' ≡ given j cs)) → Goes b links x cs → Goes b' links x cs'
same_goes b b' links x cs cs' e same calls g = record {
  run = subst (λ (w : queues.Bus). Runs (empty_bus 16777216) x.asked w) (sym e) g.run;
  bus_is = g.bus_is ∙ sym e;
  apart = g.apart;
  below = λ j d f. subst (λ (n : ℕ). d < n) (sym same) (g.below j d f);
  unasked = λ d h. g.unasked d (subst (λ (n : ℕ). n ≤ d) same h);
  each = each_all (λ l. IsSeated x.asked x.conn cs l) (λ l. IsSeated x.asked x.conn cs' l) links
      (λ l s. (
        s.0,
        converses_same (messages_of l.conn x.asked) (messages_of l.conn x.asked) (handed_to l.conn x.asked) (handed_to l.conn x.asked) l (taken l.number cs) (taken l.number cs') (given l.number cs) (given l.number cs') refl refl (calls l.number).0 (calls l.number).1 s.1,
      )) g.each;
  said = λ j. said_same x.asked (x.conn j) (taken j cs) (taken j cs') (given j cs) (given j cs') (calls j).0 (calls j).1 (g.said j);
}

-- the course of a bus fits the calls
pub course_of : (b : Bus) (links : List Link) (x : Course) (cs : List Call) → Goes b links x cs → IsCourse x cs
course_of b links x cs g = record { run = subst (λ (w : queues.Bus). Runs (empty_bus 16777216) x.asked w) (sym g.bus_is) g.run; apart = g.apart; said = g.said }

-- what is said stands
pub service_of : (x : Course) (cs : List Call) → IsCourse x cs → IsService cs
service_of x cs g = record { asked = x.asked; bus = x.bus; run = g.run; conn = x.conn; apart = g.apart; said = g.said }

-- before the first link
pub begins_going : (b : Bus) (links : List Link) (cs : List Call) → bus_of b ≡ empty_bus 16777216 → links ≡ [] → ((k : ℕ) → (taken k cs ≡ []) × (given k cs ≡ [])) → Goes b links start cs
begins_going b links cs new none calls = record {
  run = new;
  bus_is = sym new;
  apart = λ j k c e f. absurd (no c e);
  below = λ k c e. absurd (no c e);
  unasked = λ c h. (refl, refl);
  each = subst (λ (w : List Link). Each (λ l. IsSeated [] (λ k. None) cs l) w) (sym none) tt;
  said = calls;
}
  where
    no : (c : ℕ) → None ≡ Some c → ⊥
    no c e = cc

-- the connection of each link, with one more
abbrev pub with_link : (ℕ → Option ℕ) → ℕ → ℕ → ℕ → Option ℕ
with_link conn k c j = if j == k then Some c else conn j

-- the calls with one more link
abbrev accepted : List Call → ℕ → List Call
accepted cs k = cs ++ Accept (Done k) ∷ []

pub of_new : (conn : ℕ → Option ℕ) (k c j : ℕ) → j ≡ k → with_link conn k c j ≡ Some c
of_new conn k c j e = elim (eqb_tells j k) [ inl s ↦ rw s.0 refl | inr s ↦ absurd (s.1 e) ]

pub of_old : (conn : ℕ → Option ℕ) (k c j : ℕ) → (j ≡ k → ⊥) → with_link conn k c j ≡ conn j
of_old conn k c j n = elim (eqb_tells j k) [ inl s ↦ absurd (n s.1) | inr s ↦ rw s.0 refl ]

pub same_some : (x y : ℕ) → Some x ≡ Some y → x ≡ y
same_some x y e = cc

-- a link came, and its connection joined
abbrev pub seated_with : Course → ℕ → ℕ → Bus → Course
seated_with x k c b = record { asked = x.asked ++ joining c ∷ []; bus = bus_of b; conn = with_link x.conn k c }

pub seated_goes : (b b' : Bus) (links links' : List Link) (k : ℕ) (x : Course) (cs : List Call) (q : Seats k b b' links links') → IsNew k (numbers links) → taken k cs ≡ [] → given k cs ≡ []
    → Goes b links x cs → Goes b' links' (seated_with x k q.link.conn b') (cs ++ Accept (Done k) ∷ [])
seated_goes b b' links links' k x cs q new none_taken none_given g = record {
  run = runs_both (empty_bus 16777216) (bus_of b) (bus_of b') x.asked (joining q.link.conn ∷ []) g.run (one_run (bus_of b) (bus_of b') (joining q.link.conn) q.joined);
  bus_is = refl;
  apart = apart;
  below = below;
  unasked = λ d h. (
    messages_same d x.asked (joining q.link.conn ∷ []) refl ∙ (g.unasked d (omega (arith, h, q.counted))).0,
    handed_same d x.asked (joining q.link.conn ∷ []) refl ∙ (g.unasked d (omega (arith, h, q.counted))).1,
  );
  each = subst (λ (w : List Link). Each (λ n. IsSeated (x.asked ++ (joining q.link.conn ∷ [])) (with_link x.conn k q.link.conn) (accepted cs k) n) w) (sym q.behind_others)
      (each_push (λ n. IsSeated (x.asked ++ (joining q.link.conn ∷ [])) (with_link x.conn k q.link.conn) (accepted cs k) n) links q.link seat
      (each_other (λ n. IsSeated x.asked x.conn cs n) (λ n. IsSeated (x.asked ++ (joining q.link.conn ∷ [])) (with_link x.conn k q.link.conn) (accepted cs k) n) k links new others g.each));
  said = said;
}
  where
    calls : (j : ℕ) → (taken j (accepted cs k) ≡ taken j cs) × (given j (accepted cs k) ≡ given j cs)
    calls j = (taken_still j cs (Accept (Done k)) refl, given_still j cs (Accept (Done k)) refl)

    below : (j d : ℕ) → (with_link x.conn k q.link.conn) j ≡ Some d → d < given_of b'
    below j d e = elim (eqb_tells j k) [
      | inl s ↦ omega (arith, same_some q.link.conn d (sym (of_new x.conn k q.link.conn j s.1) ∙ e), q.conn_is, q.counted)
      | inr s ↦ omega (arith, g.below j d (sym (of_old x.conn k q.link.conn j s.1) ∙ e), q.counted)
    ]

    too_new : (i j d : ℕ) → i ≡ k → (j ≡ k → ⊥) → (with_link x.conn k q.link.conn) i ≡ Some d → (with_link x.conn k q.link.conn) j ≡ Some d → ⊥
    too_new i j d a n e f = omega (arith, same_some q.link.conn d (sym (of_new x.conn k q.link.conn i a) ∙ e), q.conn_is, g.below j d (sym (of_old x.conn k q.link.conn j n) ∙ f))

    apart : AreApart (with_link x.conn k q.link.conn)
    apart i j d e f = elim (eqb_tells i k) [
      | inl a ↦ elim (eqb_tells j k) [ inl z ↦ a.1 ∙ sym z.1 | inr n ↦ absurd (too_new i j d a.1 n.1 e f) ]
      | inr m ↦ elim (eqb_tells j k) [
        | inl z ↦ absurd (too_new j i d z.1 m.1 f e)
        | inr n ↦ g.apart i j d (sym (of_old x.conn k q.link.conn i m.1) ∙ e) (sym (of_old x.conn k q.link.conn j n.1) ∙ f)
      ]
    ]

    unasked : (messages_of q.link.conn x.asked ≡ []) × (handed_to q.link.conn x.asked ≡ [])
    unasked = g.unasked q.link.conn (omega (arith, q.conn_is))

    seat : IsSeated (x.asked ++ (joining q.link.conn ∷ [])) (with_link x.conn k q.link.conn) (accepted cs k) q.link
    seat = (
      of_new x.conn k q.link.conn q.link.number q.number_is,
      converses_same [] (messages_of q.link.conn (x.asked ++ (joining q.link.conn ∷ []))) [] (handed_to q.link.conn (x.asked ++ (joining q.link.conn ∷ []))) q.link [] (taken q.link.number (accepted cs k)) [] (given q.link.number (accepted cs k))
          (messages_same q.link.conn x.asked (joining q.link.conn ∷ []) refl ∙ unasked.0) (handed_same q.link.conn x.asked (joining q.link.conn ∷ []) refl ∙ unasked.1)
          (ap (λ (j : ℕ). taken j (accepted cs k)) q.number_is ∙ (calls k).0 ∙ none_taken) (ap (λ (j : ℕ). given j (accepted cs k)) q.number_is ∙ (calls k).1 ∙ none_given) q.begins,
    )

    others : (l : Link) → (l.number ≡ k → ⊥) → IsSeated x.asked x.conn cs l → IsSeated (x.asked ++ (joining q.link.conn ∷ [])) (with_link x.conn k q.link.conn) (accepted cs k) l
    others l n s = (of_old x.conn k q.link.conn l.number n ∙ s.0, (seated_still x.asked (joining q.link.conn ∷ []) x.conn cs (accepted cs k) l (calls l.number) (refl, refl) s).1)

    said : (j : ℕ) → IsSaid (x.asked ++ (joining q.link.conn ∷ [])) ((with_link x.conn k q.link.conn) j) (taken j (accepted cs k)) (given j (accepted cs k))
    said j = elim (eqb_tells j k) [
      | inl s ↦
          subst (λ (o : Option ℕ). IsSaid (x.asked ++ (joining q.link.conn ∷ [])) o (taken j (accepted cs k)) (given j (accepted cs k))) (sym (of_new x.conn k q.link.conn j s.1))
          (speech_same [] (messages_of q.link.conn (x.asked ++ (joining q.link.conn ∷ []))) [] (handed_to q.link.conn (x.asked ++ (joining q.link.conn ∷ []))) [] (taken j (accepted cs k)) [] (given j (accepted cs k))
          (messages_same q.link.conn x.asked (joining q.link.conn ∷ []) refl ∙ unasked.0) (handed_same q.link.conn x.asked (joining q.link.conn ∷ []) refl ∙ unasked.1)
          ((calls j).0 ∙ ap (λ (i : ℕ). taken i cs) s.1 ∙ none_taken) ((calls j).1 ∙ ap (λ (i : ℕ). given i cs) s.1 ∙ none_given)
          (speech_of [] [] q.link [] [] q.begins))
      | inr s ↦
          subst (λ (o : Option ℕ). IsSaid (x.asked ++ (joining q.link.conn ∷ [])) o (taken j (accepted cs k)) (given j (accepted cs k))) (sym (of_old x.conn k q.link.conn j s.1))
          (said_still x.asked (joining q.link.conn ∷ []) (x.conn j) (taken j cs) (taken j (accepted cs k)) (given j cs) (given j (accepted cs k)) (calls j).0 (calls j).1 (λ d there. (refl, refl)) (g.said j))
    ]

-- a bus told of its own messages, or of its closings
pub told_own : (old new : queues.Bus) (es : List Envelope) → old ≡ record new { own = es } → IsTold old new
told_own old new es e = record {
  asked = telling ∷ [];
  are = (tt, tt);
  run = one_run old new telling
      (e ∙ ap (λ (w : List Envelope). record new { own = w }) (sym (ap (λ (b : queues.Bus). b.own) e)) ∙ ap (λ (w : List Closing). record new { own = old.own; closings = w }) (sym (ap (λ (b : queues.Bus). b.closings) e)));
}

pub told_closings : (old new : queues.Bus) (cs : List Closing) → old ≡ record new { closings = cs } → IsTold old new
told_closings old new cs e = record {
  asked = telling ∷ [];
  are = (tt, tt);
  run = one_run old new telling
      (e ∙ ap (λ (w : List Envelope). record new { own = w; closings = cs }) (sym (ap (λ (b : queues.Bus). b.own) e)) ∙ ap (λ (w : List Closing). record new { own = old.own; closings = w }) (sym (ap (λ (b : queues.Bus). b.closings) e)));
}

-- nothing was asked, or some and then more
pub tells_both : (asks more : List Asked) → AreTellings asks → AreTellings more → AreTellings (asks ++ more)
tells_both [] more p q = q
tells_both (a ∷ asks) more p q = (p.0, tells_both asks more p.1 q)

pub nothing_told : (b : queues.Bus) → IsTold b b
nothing_told b = record { asked = []; are = tt; run = refl }

pub tells_more : (a b c : queues.Bus) → IsTold a b → IsTold b c → IsTold a c
tells_more a b c p q = record { asked = p.asked ++ q.asked; are = tells_both p.asked q.asked p.are q.are; run = runs_both a b c p.asked q.asked p.run q.run }

-- it is of no connection's
pub tells_nobodys : (asks : List Asked) → AreTellings asks → (d : ℕ) → (messages_of d asks ≡ []) × (handed_to d asks ≡ [])
tells_nobodys [] t d = (refl, refl)
tells_nobodys (joining c ∷ asks) t d = absurd t.0
tells_nobodys (taking c e ∷ asks) t d = absurd t.0
tells_nobodys (leaving c ∷ asks) t d = absurd t.0
tells_nobodys (popping c bytes ∷ asks) t d = absurd t.0
tells_nobodys (telling ∷ asks) t d = tells_nobodys asks t.1 d

-- and all else is as it was
pub tells_same : (asks : List Asked) (b b' : queues.Bus) → AreTellings asks → Runs b asks b' → b ≡ record b' { own = b.own; closings = b.closings }
tells_same [] b b' t r = subst (λ (w : queues.Bus). b ≡ record w { own = b.own; closings = b.closings }) (sym r) refl
tells_same (joining c ∷ asks) b b' t r = absurd t.0
tells_same (taking c e ∷ asks) b b' t r = absurd t.0
tells_same (leaving c ∷ asks) b b' t r = absurd t.0
tells_same (popping c bytes ∷ asks) b b' t r = absurd t.0
tells_same (telling ∷ asks) b b' t r = r.1 ∙ ap (λ (w : queues.Bus). record w { own = b.own; closings = b.closings }) (tells_same asks r.0 b' t.1 r.2)

pub all_told : (b b' : queues.Bus) → b ≡ record b' { own = b.own; closings = b.closings } → b'.own ≡ [] → b'.closings ≡ [] → b' ≡ told_all b
all_told b b' e own closings =
    ap (λ (w : List Envelope). record b' { own = w; closings = b'.closings }) own
    ∙ ap (λ (w : List Closing). record b' { own = []; closings = w }) closings
    ∙ sym (ap (λ (w : queues.Bus). told_all w) e)

-- a bus that stops
pub stopped_at : (stop : Stop) (b : Bus) (links : List Link) (x : Course) (cs : List Call) → (stop ≡ stops.Spent → Spends (bus_of b)) → Goes b links x cs → StopsAt stop x cs
stopped_at stop b links x cs f g = (course_of b links x cs g, λ e. subst Spends (sym g.bus_is) (f e))

-- where memory is wanting the course stands
pub want_stops : (stop : Stop) (x : Course) (cs : List Call) → IsWant stop → IsCourse x cs → StopsAt stop x cs
want_stops stops.HostFailed x cs w s = absurd w
want_stops stops.Spent x cs w s = absurd w
want_stops stops.NoMemory x cs w s = (s, λ e. absurd (no e))
  where
    no : stops.NoMemory ≡ stops.Spent → ⊥
    no e = cc

pub want_free : (stop : Stop) → IsWant stop → IsFree stop
want_free stops.HostFailed w = w
want_free stops.Spent w = tt
want_free stops.NoMemory w = w

-- what is said where a bus stops
pub stops_stopped : (stop : Stop) (x : Course) (cs : List Call) → StopsAt stop x cs → IsStopped stop cs
stops_stopped stops.HostFailed x cs s = service_of x cs s.0
stops_stopped stops.Spent x cs s = record { service = record { asked = x.asked; bus = x.bus; run = s.0.run; conn = x.conn; apart = s.0.apart; said = s.0.said }; spends = s.1 refl }
stops_stopped stops.NoMemory x cs s = service_of x cs s.0

pub stops_service : (stop : Stop) (calls : Option (List Call)) → OfTold (IsStopped stop) calls → OfTold IsService calls
stops_service stops.HostFailed calls s = s
stops_service stops.Spent calls s = told_map HasSpent IsService calls (λ cs h. h.service) s
stops_service stops.NoMemory calls s = s

pub stops_spent : (stop : Stop) (status : ℕ) (calls : Option (List Call)) → status ≡ status_of stop → OfTold (IsStopped stop) calls → status ≡ 13 → OfTold HasSpent calls
stops_spent stops.HostFailed status calls e s t = absurd (omega (arith, e, t))
stops_spent stops.Spent status calls e s t = s
stops_spent stops.NoMemory status calls e s t = absurd (omega (arith, e, t))
