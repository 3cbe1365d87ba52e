-- What is kept of calls for items on their way: the reader's patterns are entered, and no news of them stands behind the call; so where an application took it, it has heard of them
-- before anything that the registry sends later. And how it is kept where links grow.
use Rattle.std.proofs.Common.{◌≡◌, ◌⊎◌, inl, inr, ℕ, ◌<◌, ◌≤◌, Bool, true, false, List, [], ◌∷◌, ◌++◌, map, Option, None, Some, refl, sym, ap, ◌∙◌, subst, arith}
use Rattle.std.specs.Prelude.{◌==◌, bytes_eq, if◌then◌else◌}
use Rattle.std.specs.List.{AllByRecursion, list_any}
use Rattle.std.proofs.lemmas.List.{append_assoc}
use Rattle.atspi_script_lines.specs.declared.line.Party.TheVariants.{Bus as The_bus, Registry, App, Reader}
use Rattle.atspi_message.specs.Envelope.{Envelope}
use Rattle.atspi_protocol.specs.declared.following.question.Question.{Question}
use Rattle.atspi_protocol.specs.declared.following.question.Question.TheVariants.{GetItems}
use Rattle.atspi_protocol.specs.following.ReaderState.{start_calls}
use Rattle.atspi_trace.specs.Entry.{Entry, changed, got}
use Rattle.atspi_trace.specs.World.{here, Asked, a_reader, Hearer, Letter, End, World}
use Rattle.atspi_trace.specs.Ends.{same_party, end_at}
use Rattle.atspi_trace.specs.Hearing.{patterns_in}
use Rattle.atspi_trace_laws.specs.laws.Words.{message, own_call, question_if}
use Rattle.atspi_trace_laws.proofs.OfOrder.Parties.{no_none, same_some, party-same, false_true}
use Rattle.atspi_trace_laws.proofs.OfOrder.Each.{Each, each_more, all_map}
use Rattle.atspi_trace_laws.proofs.OfLinks.LawLinks.{first_unread}
use Rattle.atspi_trace_laws.proofs.OfOwn.Writing.{Lives}
use Rattle.atspi_trace_laws.proofs.OfHeld.Holdings.{call_at}
use Rattle.atspi_trace_laws.proofs.OfHeld.LawHeld.{Readers}
use Rattle.atspi_trace_laws.proofs.OfTaken.Found.{found_more}
use Rattle.atspi_trace_laws.proofs.OfTaken.Said.{Comes}
use Rattle.atspi_trace_laws.proofs.OfTaken.LawTaken.{Known}
use Rattle.atspi_trace_laws.proofs.OfMissed.Arriving.{On}
use Rattle.atspi_trace_caches.proofs.OfServed.Facts.{Entered, Embeds, Carries}
use Rattle.atspi_trace_caches.proofs.OfServed.Asking.{IsService, ServedOn, Served, served_front, served_split, HeardAt}

-- WHAT IS KEPT
-- the patterns of a reader's start
abbrev pub patterns : List (List ℕ)
patterns = patterns_in start_calls

-- an embedded application has behind a place of its down link only what the registry sent behind the news of each of the reader's pairs
pub record IsCleared (es : List Entry) (name : List ℕ) (ls : List Letter) (pattern : List ℕ) : Type 0 where
  pub entered : Entered es (name, pattern)
  pub behind : (l : Letter) → On l ls → l.from ≡ Registry → entered.at < l.said.message.serial

abbrev pub Clear : List Entry → List ℕ → List Letter → Type 0
Clear es name ls = AllByRecursion (IsCleared es name ls) patterns

-- a call of the reader's for all items
pub record IsItsCall (es : List Entry) (r : ℕ) (l : Letter) : Type 0 where
  pub from : l.from ≡ Reader r
  pub name : List ℕ
  pub call : own_call es r l.said.message.serial ≡ Some (GetItems name)

-- on its way to the application
abbrev pub Waits : List Entry → ℕ → List ℕ → ℕ → List Letter → Type 0
Waits es r name a [] = Unit {0}
Waits es r name a (l ∷ ls) = (IsItsCall es r l → Embeds es a × Clear es name ls) × Waits es r name a ls

pub record Minds (es : List Entry) (r : ℕ) (name : List ℕ) (a : ℕ) (ls : List Letter) : Type 0 where
  pub waits : Waits es r name a ls
  pub served : Served es r a → Clear es name ls

-- who asks for items has its name, its patterns are entered, and it was told of the application
abbrev pub AllEnteredFor : List Entry → List ℕ → Type 0
AllEnteredFor es name = AllByRecursion (λ pattern. Entered es (name, pattern)) patterns

pub record IsReadyFor (es : List Entry) (e : End) (h : Hearer) (name : List ℕ) : Type 0 where
  pub own : List ℕ
  pub known : e.unique ≡ Some own
  pub entered : AllEnteredFor es own
  pub listed : list_any (bytes_eq name) h.named ≡ true

abbrev pub IsReady : List Entry → End → Hearer → Question → Type 0
IsReady es e h q = (name : List ℕ) → q ≡ GetItems name → IsReadyFor es e h name

abbrev pub questions : Hearer → List Question
questions h = map (λ (x : Asked). x.question) h.asked

pub record IsReader (w : World) (k r : ℕ) (e : End) (h : Hearer) : Type 0 where
  pub there : end_at w.ends k ≡ Some e
  pub whose : e.who ≡ Reader r
  pub role : e.role ≡ a_reader h
  pub standing : e.standing ≡ here

pub record IsApp (w : World) (j a : ℕ) (d : End) : Type 0 where
  pub there : end_at w.ends j ≡ Some d
  pub whose : d.who ≡ App a
  pub standing : d.standing ≡ here

pub record Asking (es : List Entry) (w : World) : Type 0 where
  pub ready : (k r : ℕ) (e : End) (h : Hearer) → IsReader w k r e h → AllByRecursion (IsReady es e h) (questions h)
  pub minds : (k r : ℕ) (e : End) (h : Hearer) (name : List ℕ) → IsReader w k r e h → e.unique ≡ Some name → (j a : ℕ) (d : End) → IsApp w j a d → Minds es r name a d.down
  pub embeds : (k r : ℕ) (e : End) (h : Hearer) → IsReader w k r e h → (a : ℕ) → Served es r a → Embeds es a
  pub heard : (k r : ℕ) (e : End) (h : Hearer) → IsReader w k r e h → (a : ℕ) → Each (HeardAt r a) [] es

abbrev pub AllAsking : List Entry → World → Type 0
AllAsking es w = Lives es → Asking es w

-- SMALL FACTS
pub embeds_more : (es ys : List Entry) (a : ℕ) → Embeds es a → Embeds (es ++ ys) a
embeds_more es ys a e = record { call = e.call; serial = e.serial; was = found_more es ys (App a) e.serial e.call e.was; is_call = e.is_call; member = e.member }

pub call_more : (es ys : List Entry) (r n : ℕ) (q : Question) → own_call es r n ≡ Some q → own_call (es ++ ys) r n ≡ Some q
call_more es ys r n q h = by (message es (Reader r) n) refl
  where
    by : (o : Option Envelope) → message es (Reader r) n ≡ o → own_call (es ++ ys) r n ≡ Some q
    by None g = absurd (no_none q (sym (ap question_if g) ∙ h))
    by (Some m) g = ap question_if (found_more es ys (Reader r) n m g ∙ sym g) ∙ h

-- a call that was sent before
pub call_before : (es ys : List Entry) (r n : ℕ) (first : Envelope) → message es (Reader r) n ≡ Some first → own_call (es ++ ys) r n ≡ own_call es r n
call_before es ys r n first h = ap question_if (found_more es ys (Reader r) n first h ∙ sym h)

abbrev pub Calls : List Entry → ℕ → Type 0
Calls es r = (n : ℕ) × (name : List ℕ) × (own_call es r n ≡ Some (GetItems name))

service_call : (before ys : List Entry) (r a : ℕ) (x : Entry) → IsService before r a x → Calls (before ++ ys) r
service_call before ys r a (got (App b) (Reader q) n) s = (n, s.2, call_more before ys r n (GetItems s.2) s.3)
service_call before ys r a (got (App b) The_bus n) s = absurd s
service_call before ys r a (got (App b) Registry n) s = absurd s
service_call before ys r a (got (App b) (App c) n) s = absurd s
service_call before ys r a (got The_bus from n) s = absurd s
service_call before ys r a (got Registry from n) s = absurd s
service_call before ys r a (got (Reader q) from n) s = absurd s
service_call before ys r a x s = absurd s

served_call_on : (before xs : List Entry) (r a : ℕ) → ServedOn before r a xs → Calls (before ++ xs) r
served_call_on before [] r a s = absurd s
served_call_on before (x ∷ xs) r a (inl s) = service_call before (x ∷ xs) r a x s
served_call_on before (x ∷ xs) r a (inr s) = subst (λ l. Calls l r) (append_assoc before (x ∷ []) xs) (served_call_on (before ++ x ∷ []) xs r a s)

pub served_call : (es : List Entry) (r a : ℕ) → Served es r a → Calls es r
served_call es r a s = served_call_on [] es r a s

pub asked_at : (P : Question → Type 0) (n : ℕ) (xs : List Asked) (q : Question) → call_at n xs ≡ Some q → AllByRecursion P (map (λ (x : Asked). x.question) xs) → P q
asked_at P n [] q h a = absurd (no_none q h)
asked_at P n (x ∷ xs) q h a = by (n == x.serial) (λ g. asked_at P n xs q g a.1) h
  where
    by : (b : Bool) → (call_at n xs ≡ Some q → P q) → (if b then Some x.question else call_at n xs) ≡ Some q → P q
    by true ih g = subst P (same_some x.question q g) a.0
    by false ih g = ih g

-- a reader that asked for items is ready
pub ready_at : (es : List Entry) (w : World) (k r : ℕ) (e : End) (h : Hearer) → Asking es w → Readers es w → IsReader w k r e h → (n : ℕ) (name : List ℕ) → own_call es r n ≡ Some (GetItems name) → IsReadyFor es e h name
ready_at es w k r e h i readers is n name call =
    asked_at (IsReady es e h) n h.asked (GetItems name) (sym ((readers k r e h is.there is.whose is.role).calls n) ∙ call) (i.ready k r e h is) name refl

-- MORE LETTERS
pub on_split : (l : Letter) (xs ys : List Letter) → On l (xs ++ ys) → On l xs ⊎ On l ys
on_split l [] ys o = inr o
on_split l (x ∷ xs) ys (inl h) = inl (inl h)
on_split l (x ∷ xs) ys (inr o) = by (on_split l xs ys o)
  where
    by : On l xs ⊎ On l ys → On l (x ∷ xs) ⊎ On l ys
    by (inl p) = inl (inr p)
    by (inr p) = inr p

pub on_back : (l : Letter) (xs ys : List Letter) → On l ys → On l (xs ++ ys)
on_back l [] ys o = o
on_back l (x ∷ xs) ys o = inr (on_back l xs ys o)

all_in : (P : Letter → Type 0) (ls : List Letter) → AllByRecursion P ls → (l : Letter) → On l ls → P l
all_in P [] a l o = absurd o
all_in P (x ∷ xs) a l (inl h) = subst P h a.0
all_in P (x ∷ xs) a l (inr o) = all_in P xs a.1 l o

-- a letter that the bus put down now: one of the registry's is the next of its, and a call for items goes to one that embedded
pub record IsPut (es ys : List Entry) (v : World) (a : ℕ) (l : Letter) : Type 0 where
  pub next : l.from ≡ Registry → first_unread es Registry ≤ l.said.message.serial
  pub goes : (k r : ℕ) (z : End) (h : Hearer) → IsReader v k r z h → IsItsCall (es ++ ys) r l → Embeds (es ++ ys) a

clear_back : (es : List Entry) (name : List ℕ) (gone kept : List Letter) → Clear es name (gone ++ kept) → Clear es name kept
clear_back es name gone kept c = all_map (IsCleared es name (gone ++ kept)) (IsCleared es name kept) patterns (λ p x. record { entered = x.entered; behind = λ l o from. x.behind l (on_back l gone kept o) from }) c

waits_back : (es : List Entry) (r : ℕ) (name : List ℕ) (a : ℕ) (gone kept : List Letter) → Waits es r name a (gone ++ kept) → Waits es r name a kept
waits_back es r name a [] kept w = w
waits_back es r name a (l ∷ gone) kept w = waits_back es r name a gone kept w.1

-- WHERE LINKS GROW, and what was entered is carried on
abbrev pub CarriesOn : List Entry → List Entry → List ℕ → Type 0
CarriesOn es ys name = (pattern : List ℕ) (i : Entered es (name, pattern)) → (j : Entered (es ++ ys) (name, pattern)) × (j.at ≡ i.at)

module _ (es ys : List Entry) (v : World) (name : List ℕ) (on : CarriesOn es ys name) where
  pub clear_more : (kept more : List Letter) → AllByRecursion (λ (l : Letter). l.from ≡ Registry → first_unread es Registry ≤ l.said.message.serial) more → Clear es name kept → Clear (es ++ ys) name (kept ++ more)
  clear_more kept more next c = all_map (IsCleared es name kept) (IsCleared (es ++ ys) name (kept ++ more)) patterns one c
    where
      one : (p : List ℕ) → IsCleared es name kept p → IsCleared (es ++ ys) name (kept ++ more) p
      one p x = record { entered = (on p x.entered).0; behind = λ l o from. later l from (on_split l kept more o) }
        where
          later : (l : Letter) → l.from ≡ Registry → On l kept ⊎ On l more → (on p x.entered).0.at < l.said.message.serial
          later l from (inl o) = let same : (on p x.entered).0.at ≡ x.entered.at = (on p x.entered).1 in let less : x.entered.at < l.said.message.serial = x.behind l o from in omega (arith, same, less)
          later l from (inr o) =
              let same : (on p x.entered).0.at ≡ x.entered.at = (on p x.entered).1 in
              let taken : x.entered.at < first_unread es Registry = x.entered.taken in
              let least : first_unread es Registry ≤ l.said.message.serial = all_in (λ (l : Letter). l.from ≡ Registry → first_unread es Registry ≤ l.said.message.serial) more next l o from in
              omega (arith, same, taken, least)

  clear_new : (more : List Letter) → AllByRecursion (λ (l : Letter). l.from ≡ Registry → first_unread es Registry ≤ l.said.message.serial) more → AllEnteredFor es name → Clear (es ++ ys) name more
  clear_new more next all = clear_more [] more next (all_map (λ pattern. Entered es (name, pattern)) (IsCleared es name []) patterns (λ p i. record { entered = i; behind = λ l o. absurd o }) all)

  nexts : (a : ℕ) (more : List Letter) → AllByRecursion (IsPut es ys v a) more → AllByRecursion (λ (l : Letter). l.from ≡ Registry → first_unread es Registry ≤ l.said.message.serial) more
  nexts a more p = all_map (IsPut es ys v a) (λ (l : Letter). l.from ≡ Registry → first_unread es Registry ≤ l.said.message.serial) more (λ l x. x.next) p

  module _ (k r : ℕ) (z : End) (h : Hearer) (is : IsReader v k r z h) (a : ℕ) (entered : Calls (es ++ ys) r → AllEnteredFor es name) where
    waits_new : (more : List Letter) → AllByRecursion (IsPut es ys v a) more → Waits (es ++ ys) r name a more
    waits_new [] p = tt
    waits_new (l ∷ more) p = (
      (λ c. (p.0.goes k r z h is c, clear_new more (nexts a more p.1) (entered (l.said.message.serial, c.name, c.call)))),
      waits_new more p.1,
    )

    waits_more : (kept more : List Letter) → AllByRecursion (Comes es) kept → AllByRecursion (IsPut es ys v a) more → Waits es r name a kept → Waits (es ++ ys) r name a (kept ++ more)
    waits_more [] more c p w = waits_new more p
    waits_more (l ∷ kept) more c p w = (
      (λ x. let y = w.0 (old x c.0) in (embeds_more es ys a y.0, clear_more kept more (nexts a more p) y.1)),
      waits_more kept more c.1 p w.1,
    )
      where
        no_bus : l.from ≡ The_bus → l.from ≡ Reader r → ⊥
        no_bus bus from = false_true (ap (λ p. same_party p (Reader r)) (sym bus ∙ from) ∙ party-same (Reader r))

        old : IsItsCall (es ++ ys) r l → Comes es l → IsItsCall es r l
        old x (inl bus) = absurd (no_bus bus x.from)
        old x (inr i) = record {
          from = x.from;
          name = x.name;
          call = sym (call_before es ys r l.said.message.serial i.first (subst (λ q. message es q l.said.message.serial ≡ Some i.first) x.from i.was)) ∙ x.call;
        }

-- ENDS BEFORE AND AFTER
-- the patterns of a reader are entered, where it asks for items
pub record IsEnteredFor (es : List Entry) (e : End) : Type 0 where
  pub own : List ℕ
  pub known : e.unique ≡ Some own
  pub entered : AllEnteredFor es own

pub record WasReader (es ys : List Entry) (w : World) (k r : ℕ) (z : End) : Type 0 where
  pub e : End
  pub h : Hearer
  pub was : IsReader w k r e h
  pub keeps : (name : List ℕ) → e.unique ≡ Some name → z.unique ≡ Some name
  pub calls : Calls (es ++ ys) r → IsEnteredFor es e

abbrev pub NoCalls : List Entry → ℕ → Type 0
NoCalls es r = Calls es r → ⊥

pub record WasApp (es ys : List Entry) (w v : World) (j a : ℕ) (z : End) : Type 0 where
  pub d : End
  pub was : IsApp w j a d
  pub gone : List Letter
  pub kept : List Letter
  pub more : List Letter
  pub before : d.down ≡ gone ++ kept
  pub after : z.down ≡ kept ++ more
  pub puts : AllByRecursion (IsPut es ys v a) more

pub record IsNewApp (es : List Entry) (a : ℕ) (z : End) : Type 0 where
  pub empty : z.down ≡ []
  pub new : Embeds es a → ⊥

weaker : (r a : ℕ) (ys before : List Entry) (entry : Entry) (behind : List Entry) → HeardAt r a before entry behind → HeardAt r a before entry (behind ++ ys)
weaker r a ys before (changed b step) behind h = h
weaker r a ys before entry behind h = tt

all_weaker : (r a : ℕ) (ys early xs : List Entry) → Each (HeardAt r a) early xs → Each (λ before entry behind. HeardAt r a before entry (behind ++ ys)) early xs
all_weaker r a ys early [] e = tt
all_weaker r a ys early (x ∷ xs) e = (weaker r a ys early x xs e.0, all_weaker r a ys (early ++ x ∷ []) xs e.1)

pub heard_law_more : (r a : ℕ) (es ys : List Entry) → Each (HeardAt r a) [] es → Each (HeardAt r a) es ys → Each (HeardAt r a) [] (es ++ ys)
heard_law_more r a es ys x y = each_more (HeardAt r a) [] es ys (all_weaker r a ys [] es x) y

-- nobody was served
heard_nobody : (r a : ℕ) (early xs : List Entry) → (Served (early ++ xs) r a → ⊥) → Each (HeardAt r a) early xs
heard_nobody r a early [] none = tt
heard_nobody r a early (x ∷ xs) none = (at x none, heard_nobody r a (early ++ x ∷ []) xs (λ s. none (subst (λ l. Served l r a) (append_assoc early (x ∷ []) xs) s)))
  where
    at : (x : Entry) → (Served (early ++ x ∷ xs) r a → ⊥) → HeardAt r a early x xs
    at (changed b step) f = λ same s. absurd (f (served_front [] early (changed b step ∷ xs) r a s))
    at entry f = tt

-- THE FRAME
module _ (es ys : List Entry) (w v : World) (i : Asking es w) (live : Lives (es ++ ys)) (readers : Readers es w) (known : Known es w) (carries : Carries es (es ++ ys) w v)
    (was_reader : (k r : ℕ) (z : End) (h : Hearer) → IsReader v k r z h → NoCalls (es ++ ys) r ⊎ WasReader es ys w k r z)
    (was_app : (j a : ℕ) (z : End) → IsApp v j a z → IsNewApp es a z ⊎ WasApp es ys w v j a z)
    (ready_now : (k r : ℕ) (z : End) (h : Hearer) → IsReader v k r z h → AllByRecursion (IsReady (es ++ ys) z h) (questions h))
    (embeds_now : (k r : ℕ) (z : End) (h : Hearer) → IsReader v k r z h → (a : ℕ) → ServedOn es r a ys → Embeds (es ++ ys) a)
    (clear_now : (k r : ℕ) (z : End) (h : Hearer) (name : List ℕ) → IsReader v k r z h → z.unique ≡ Some name → (j a : ℕ) (y : End) → IsApp v j a y → ServedOn es r a ys → Clear (es ++ ys) name y.down)
    (heard_now : (k r : ℕ) (z : End) (h : Hearer) → IsReader v k r z h → (a : ℕ) → Each (HeardAt r a) es ys) where
  carried : (k r : ℕ) (z : End) (h : Hearer) (name : List ℕ) → IsReader v k r z h → (x : WasReader es ys w k r z) → x.e.unique ≡ Some name → CarriesOn es ys name
  carried k r z h name is x named p entered = carries live k r x.e z name p x.was.there is.there x.was.whose named is.standing entered

  -- who asked for nothing
  none_waits : (r : ℕ) (name : List ℕ) (a : ℕ) (ls : List Letter) → NoCalls (es ++ ys) r → Waits (es ++ ys) r name a ls
  none_waits r name a [] none = tt
  none_waits r name a (l ∷ ls) none = ((λ c. absurd (none (l.said.message.serial, c.name, c.call))), none_waits r name a ls none)

  none_minds : (r : ℕ) (name : List ℕ) (a : ℕ) (ls : List Letter) → NoCalls (es ++ ys) r → Minds (es ++ ys) r name a ls
  none_minds r name a ls none = record { waits = none_waits r name a ls none; served = λ s. absurd (none (served_call (es ++ ys) r a s)) }

  -- who asked, and an application that was there
  module _ (k r : ℕ) (z : End) (h : Hearer) (name : List ℕ) (is : IsReader v k r z h) (named : z.unique ≡ Some name) (x : WasReader es ys w k r z) (was_named : x.e.unique ≡ Some name) where
    entered : Calls (es ++ ys) r → AllEnteredFor es name
    entered c = let y = x.calls c in subst (AllEnteredFor es) (same_some y.own name (sym y.known ∙ was_named)) y.entered

    old_minds : (j a : ℕ) (y : End) → IsApp v j a y → (d : WasApp es ys w v j a y) → Minds (es ++ ys) r name a y.down
    old_minds j a y app d = record {
      waits = subst (Waits (es ++ ys) r name a) (sym d.after)
          (waits_more es ys v name on k r z h is a entered d.kept d.more (comes d.gone d.kept (subst (AllByRecursion (Comes es)) d.before (known j d.d d.was.there).1)) d.puts (waits_back es r name a d.gone d.kept (subst (Waits es r name a) d.before m.waits)));
      served = λ s. by (served_split [] es ys r a s);
    }
      where
        on : CarriesOn es ys name
        on = carried k r z h name is x was_named

        m : Minds es r name a d.d.down
        m = i.minds k r x.e x.h name x.was was_named j a d.d d.was

        comes : (gone kept : List Letter) → AllByRecursion (Comes es) (gone ++ kept) → AllByRecursion (Comes es) kept
        comes [] kept c = c
        comes (l ∷ gone) kept c = comes gone kept c.1

        by : ServedOn [] r a es ⊎ ServedOn es r a ys → Clear (es ++ ys) name y.down
        by (inl s) = subst (Clear (es ++ ys) name) (sym d.after) (clear_more es ys v name on d.kept d.more (nexts es ys v name on a d.more d.puts) (clear_back es name d.gone d.kept (subst (Clear es name) d.before (m.served s))))
        by (inr s) = clear_now k r z h name is named j a y app s

    new_minds : (j a : ℕ) (y : End) → IsApp v j a y → IsNewApp es a y → Minds (es ++ ys) r name a y.down
    new_minds j a y app n = record {
      waits = subst (Waits (es ++ ys) r name a) (sym n.empty) tt;
      served = λ s. by (served_split [] es ys r a s);
    }
      where
        by : ServedOn [] r a es ⊎ ServedOn es r a ys → Clear (es ++ ys) name y.down
        by (inl s) = absurd (n.new (i.embeds k r x.e x.h x.was a s))
        by (inr s) = clear_now k r z h name is named j a y app s

    minds_now : (j a : ℕ) (y : End) → IsApp v j a y → Minds (es ++ ys) r name a y.down
    minds_now j a y app = by (was_app j a y app)
      where
        by : IsNewApp es a y ⊎ WasApp es ys w v j a y → Minds (es ++ ys) r name a y.down
        by (inl n) = new_minds j a y app n
        by (inr d) = old_minds j a y app d

  all_mind : (k r : ℕ) (z : End) (h : Hearer) (name : List ℕ) → IsReader v k r z h → z.unique ≡ Some name → (j a : ℕ) (y : End) → IsApp v j a y → Minds (es ++ ys) r name a y.down
  all_mind k r z h name is named j a y app = by (was_reader k r z h is)
    where
      by : NoCalls (es ++ ys) r ⊎ WasReader es ys w k r z → Minds (es ++ ys) r name a y.down
      by (inl none) = none_minds r name a y.down none
      by (inr x) = at x.e.unique refl
        where
          at : (o : Option (List ℕ)) → x.e.unique ≡ o → Minds (es ++ ys) r name a y.down
          at None g = none_minds r name a y.down (λ c. no_none (x.calls c).own (sym g ∙ (x.calls c).known))
          at (Some own) g =
              let same : own ≡ name = same_some own name (sym (x.keeps own g) ∙ named) in
              minds_now k r z h name is named x (g ∙ ap Some same) j a y app

  pub asking_now : Asking (es ++ ys) v
  asking_now = record {
    ready = ready_now;
    minds = all_mind;
    embeds = λ k r z h is a s. embed k r z h is a (was_reader k r z h is) (served_split [] es ys r a s);
    heard = λ k r z h is a. hear k r z h is a (was_reader k r z h is);
  }
    where
      embed : (k r : ℕ) (z : End) (h : Hearer) → IsReader v k r z h → (a : ℕ) → NoCalls (es ++ ys) r ⊎ WasReader es ys w k r z → ServedOn [] r a es ⊎ ServedOn es r a ys → Embeds (es ++ ys) a
      embed k r z h is a c (inr s) = embeds_now k r z h is a s
      embed k r z h is a (inl none) (inl s) = absurd (none (served_call (es ++ ys) r a (served_front [] es ys r a s)))
      embed k r z h is a (inr x) (inl s) = embeds_more es ys a (i.embeds k r x.e x.h x.was a s)

      hear : (k r : ℕ) (z : End) (h : Hearer) → IsReader v k r z h → (a : ℕ) → NoCalls (es ++ ys) r ⊎ WasReader es ys w k r z → Each (HeardAt r a) [] (es ++ ys)
      hear k r z h is a (inl none) = heard_nobody r a [] (es ++ ys) (λ s. none (served_call (es ++ ys) r a s))
      hear k r z h is a (inr x) = heard_law_more r a es ys (i.heard k r x.e x.h x.was a) (heard_now k r z h is a)
