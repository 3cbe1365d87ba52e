-- What a message is to the call that waits: no reply, a return, or an error; and what it makes of the applications that the reader knows.
use Rattle.std.proofs.Common.{◌≡◌, ◌⊎◌, inl, inr, ℕ, Bool, true, false, List, [], ◌∷◌, ◌++◌, Option, None, Some, refl, sym, ap, ap₂, ◌∙◌, subst, arith}
use Rattle.std.specs.Prelude.{◌==◌, ◌&&◌, ◌||◌, not, bytes_eq, filter, fold, if◌then◌else◌}
use Rattle.std.specs.List.{AllByRecursion, list_all}
use Rattle.std.proofs.lemmas.Bool.{eqb-true}
use Rattle.atspi_message.specs.Envelope.{Envelope}
use Rattle.atspi_match.specs.routing.Routing.{is_reply}
use Rattle.atspi_tree_model.specs.declared.news.Item.{Item}
use Rattle.atspi_tree_model.specs.declared.news.News.{News}
use Rattle.atspi_protocol.specs.ends.Places.{bus}
use Rattle.atspi_protocol.specs.declared.news.part.PartName.{PartName}
use Rattle.atspi_protocol.specs.declared.following.question.Question.{Question}
use Rattle.atspi_protocol.specs.declared.following.question.Question.TheVariants.{Hello, AddMatch, RegisterEvent, GetChildren, GetItems, GetPart}
use Rattle.atspi_protocol.specs.news.Arguments.{signature_of}
use Rattle.atspi_protocol.specs.news.NewsOf.{or_empty}
use Rattle.atspi_protocol.specs.news.Replies.{elements_of, items_told, part_told}
use Rattle.atspi_protocol.specs.following.ReaderState.{Followed, Pending, ReaderState, is_named}
use Rattle.atspi_protocol.specs.following.Known.{made_known, references_among}
use Rattle.atspi_protocol.specs.following.Replied.{is_reply_to, may_answer, ends_call, changed, loaded, told_part, refused_part, with_items, with_part, goes_on_if, is_unique_name_alone, children_signature, replied, takes_reply}
use Rattle.atspi_protocol.specs.following.Takes.{notes}
use Rattle.atspi_trace.specs.World.{Asked, waits, Hearer, World}
use Rattle.atspi_trace.specs.Hearing.{is_answered, question_returned}
use Rattle.atspi_trace_laws.proofs.OfOrder.Parties.{no_none, false_true}
use Rattle.atspi_trace_played.proofs.Facts.{IsReturnedWell, IsReplyWell, RepliesWell, Waits}

-- A return to none of the calls
not_returned : (m : Envelope) (asked : List Asked) → (m.kind == 2) ≡ false → question_returned m asked ≡ None
not_returned m [] h = refl
not_returned m (a ∷ asked) h = ap (λ b. if b && is_reply_to a.serial m.reply then Some a.question else question_returned m asked) h ∙ not_returned m asked h

answered_waits : (a : Asked) → a.fate ≡ waits → is_answered a ≡ true → ⊥
answered_waits a h g = false_true (sym (ap (λ f. is_answered (record a { fate = f })) h) ∙ g)

both_true : (b c : Bool) → (b && c) ≡ true → (b ≡ true) × (c ≡ true)
both_true true true h = (refl, refl)
both_true true false h = absurd (false_true h)
both_true false c h = absurd (false_true h)

abbrev Well : World → Envelope → Asked → Type 0
Well w m a = is_reply_to a.serial m.reply ≡ true → IsReplyWell w m a

none_returned : (w : World) (m : Envelope) (asked : List Asked) → list_all is_answered asked ≡ true → AllByRecursion (Well w m) asked → question_returned m asked ≡ None
none_returned w m [] h a = refl
none_returned w m (x ∷ xs) h a = by (m.kind == 2) (is_reply_to x.serial m.reply) refl (none_returned w m xs (both_true (is_answered x) (list_all is_answered xs) h).1 a.1)
  where
    by : (b c : Bool) → is_reply_to x.serial m.reply ≡ c → question_returned m xs ≡ None → (if b && c then Some x.question else question_returned m xs) ≡ None
    by true true g ih = absurd (answered_waits x (a.0 g).waited (both_true (is_answered x) (list_all is_answered xs) h).0)
    by true false g ih = ih
    by false c g ih = ih

all_early : (P : Asked → Type 0) (early : List Asked) (x : Asked) → AllByRecursion P (early ++ x ∷ []) → AllByRecursion P early × P x
all_early P [] x a = (tt, a.0)
all_early P (y ∷ ys) x a = let r = all_early P ys x a.1 in ((a.0, r.0), r.1)

returned_last : (m : Envelope) (early : List Asked) (x : Asked) → question_returned m early ≡ None
    → question_returned m (early ++ x ∷ []) ≡ (if m.kind == 2 && is_reply_to x.serial m.reply then Some x.question else None)
returned_last m [] x h = refl
returned_last m (y ∷ ys) x h = by (m.kind == 2 && is_reply_to y.serial m.reply) h (λ g. returned_last m ys x g)
  where
    by : (b : Bool) → (if b then Some y.question else question_returned m ys) ≡ None
        → (question_returned m ys ≡ None → question_returned m (ys ++ x ∷ []) ≡ (if m.kind == 2 && is_reply_to x.serial m.reply then Some x.question else None))
        → (if b then Some y.question else question_returned m (ys ++ x ∷ [])) ≡ (if m.kind == 2 && is_reply_to x.serial m.reply then Some x.question else None)
    by true g ih = absurd (no_none y.question (sym g))
    by false g ih = ih g

-- WHAT IT IS
pub data Reply (w : World) (m : Envelope) (h : Hearer) (s : ReaderState) : Type 0 where
  none : question_returned m h.asked ≡ None → takes_reply (notes s m) m ≡ notes s m → Reply w m h s
  returned : (p : Pending) → s.pending ≡ Some p → m.kind ≡ 2 → question_returned m h.asked ≡ Some p.question → may_answer p.question m ≡ true → IsReturnedWell w m p.question
      → takes_reply (notes s m) m ≡ replied p.question (record (notes s m) { pending = None }) m → Reply w m h s
  failed : (p : Pending) → s.pending ≡ Some p → m.kind ≡ 3 → question_returned m h.asked ≡ None → may_answer p.question m ≡ true → IsReturnedWell w m p.question
      → takes_reply (notes s m) m ≡ replied p.question (record (notes s m) { pending = None }) m → Reply w m h s

takes_none : (s : ReaderState) (e : Envelope) → s.pending ≡ None → takes_reply s e ≡ s
takes_none s e h = rw h refl

takes_some : (s : ReaderState) (e : Envelope) (p : Pending) → s.pending ≡ Some p → takes_reply s e ≡ (if ends_call p e then replied p.question (record s { pending = None }) e else s)
takes_some s e p h = rw h refl

module _ (w : World) (m : Envelope) (h : Hearer) (s : ReaderState) (replies : RepliesWell w m h.asked) where
  two_is_reply : (m.kind == 2) ≡ true → is_reply m ≡ true
  two_is_reply g = ap (λ k. k == 2 || k == 3) (eqb-true m.kind 2 g)

  three_is_reply : (m.kind == 3) ≡ true → is_reply m ≡ true
  three_is_reply g = ap (λ k. k == 2 || k == 3) (eqb-true m.kind 3 g)

  not_two : (m.kind == 3) ≡ true → (m.kind == 2) ≡ false
  not_two g = ap (λ k. k == 2) (eqb-true m.kind 3 g)

  no_call : s.pending ≡ None → list_all is_answered h.asked ≡ true → Reply w m h s
  no_call is all = none (by (m.kind == 2) refl) (takes_none (notes s m) m is)
    where
      by : (b : Bool) → (m.kind == 2) ≡ b → question_returned m h.asked ≡ None
      by true g = none_returned w m h.asked all (replies (two_is_reply g))
      by false g = not_returned m h.asked g

  module _ (p : Pending) (early : List Asked) (is : s.pending ≡ Some p) (asked : h.asked ≡ early ++ record { serial = p.serial; question = p.question; fate = waits } ∷ []) (all : list_all is_answered early ≡ true) where
    abbrev its : Asked
    its = record { serial = p.serial; question = p.question; fate = waits }

    -- what is known of a reply
    its_well : is_reply m ≡ true → AllByRecursion (Well w m) early × Well w m its
    its_well g = all_early (Well w m) early its (subst (AllByRecursion (Well w m)) asked (replies g))

    question_is : (m.kind == 2) ≡ true → question_returned m h.asked ≡ (if m.kind == 2 && is_reply_to p.serial m.reply then Some p.question else None)
    question_is g = ap (question_returned m) asked ∙ returned_last m early its (none_returned w m early all (its_well (two_is_reply g)).0)

    -- no reply to it
    passes : ends_call p m ≡ false → question_returned m h.asked ≡ None → Reply w m h s
    passes g q = none q (takes_some (notes s m) m p is ∙ ap (λ b. if b then replied p.question (record (notes s m) { pending = None }) m else notes s m) g)

    ends : ends_call p m ≡ true → takes_reply (notes s m) m ≡ replied p.question (record (notes s m) { pending = None }) m
    ends g = takes_some (notes s m) m p is ∙ ap (λ b. if b then replied p.question (record (notes s m) { pending = None }) m else notes s m) g

    ending : (b c d : Bool) → (m.kind == 2 || m.kind == 3) ≡ b → is_reply_to p.serial m.reply ≡ c → may_answer p.question m ≡ d → ends_call p m ≡ (b && (c && d))
    ending b c d e f g = ap₂ (λ x y. x && y) e (ap₂ (λ x y. x && y) f g)

    a_call : Reply w m h s
    a_call = by (m.kind == 2) refl (m.kind == 3) refl (is_reply_to p.serial m.reply) refl
      where
        by : (b : Bool) → (m.kind == 2) ≡ b → (c : Bool) → (m.kind == 3) ≡ c → (d : Bool) → is_reply_to p.serial m.reply ≡ d → Reply w m h s
        by true two c three true to =
            let it = (its_well (two_is_reply two)).1 to in
            returned p is (eqb-true m.kind 2 two) (question_is two ∙ ap₂ (λ x y. if x && y then Some p.question else None) two to) it.from it.well
            (ends (ending true true true (two_is_reply two) to it.from))
        by true two c three false to =
            passes (ending true false (may_answer p.question m) (two_is_reply two) to refl) (question_is two ∙ ap₂ (λ x y. if x && y then Some p.question else None) two to)
        by false two true three true to =
            let it = (its_well (three_is_reply three)).1 to in
            failed p is (eqb-true m.kind 3 three) (not_returned m h.asked two) it.from it.well (ends (ending true true true (three_is_reply three) to it.from))
        by false two true three false to = passes (ending true false (may_answer p.question m) (three_is_reply three) to refl) (not_returned m h.asked two)
        by false two false three d to = passes (ending false d (may_answer p.question m) (ap₂ (λ x y. x || y) two three) to refl) (not_returned m h.asked two)

  by_pending : (o : Option Pending) → s.pending ≡ o → Waits o h.asked → Reply w m h s
  by_pending None is all = no_call is all
  by_pending (Some p) is x = a_call p x.0 is x.1 x.2

  pub reply : Waits s.pending h.asked → Reply w m h s
  reply = by_pending s.pending refl

-- WHAT IT MAKES OF THE APPLICATIONS, and of the registry: by the question that it returns an answer to
abbrev pub IsPlain : Option Question → Type 0
IsPlain (Some (GetItems name)) = ⊥
IsPlain (Some (GetPart name path part)) = ⊥
IsPlain (Some GetChildren) = ⊥
IsPlain q = Unit {0}

abbrev pub NotBus : Envelope → Type 0
NotBus m = bytes_eq (or_empty m.sender) bus ≡ false

pub data Brings (m : Envelope) (pending : Option Pending) (registry : Option (List ℕ)) (apps : List Followed) (q : Option Question) (t : ReaderState) : Type 0 where
  same : IsPlain q → t.apps ≡ apps → t.registry ≡ registry → Brings m pending registry apps q t
  items : (p : Pending) (name : List ℕ) (all : List Item) → pending ≡ Some p → p.question ≡ GetItems name → q ≡ Some (GetItems name) → m.kind ≡ 2 → NotBus m → may_answer (GetItems name) m ≡ true
      → items_told m ≡ Some all → t.apps ≡ changed (loaded all) name apps → t.registry ≡ registry → Brings m pending registry apps q t
  told : (name path : List ℕ) (which : PartName) (news : News) → q ≡ Some (GetPart name path which) → m.kind ≡ 2 → NotBus m → may_answer (GetPart name path which) m ≡ true
      → part_told which path m ≡ Some news → t.apps ≡ changed (told_part news) name apps → t.registry ≡ registry → Brings m pending registry apps q t
  refuses : (name path : List ℕ) (which : PartName) → (q ≡ None) ⊎ (q ≡ Some (GetPart name path which)) → (m.kind ≡ 2 → NotBus m) → may_answer (GetPart name path which) m ≡ true → part_told which path m ≡ None
      → (m.kind == 4) ≡ false → t.apps ≡ changed (refused_part path which) name apps → t.registry ≡ registry → Brings m pending registry apps q t
  fails : (p : Pending) (name : List ℕ) → pending ≡ Some p → p.question ≡ GetItems name → q ≡ None → (m.kind == 4) ≡ false → t.apps ≡ filter (λ app. not (is_named name app)) apps → t.registry ≡ registry
      → Brings m pending registry apps q t
  children : q ≡ Some GetChildren → m.kind ≡ 2 → t.apps ≡ fold made_known apps (references_among (elements_of m.body)) → t.registry ≡ m.sender → Brings m pending registry apps q t

pub record Replied (m : Envelope) (h : Hearer) (s : ReaderState) : Type 0 where
  pub brings : Brings m s.pending s.registry (notes s m).apps (question_returned m h.asked) (takes_reply (notes s m) m)
  pub out : (takes_reply (notes s m) m).out ≡ s.out
  pub still : ((takes_reply (notes s m) m).pending ≡ None) ⊎ (takes_reply (notes s m) m ≡ notes s m)
  pub to_come : ((takes_reply (notes s m) m).to_come ≡ s.to_come) ⊎ ((takes_reply (notes s m) m).to_come ≡ [])

record Alike (s t : ReaderState) : Type 0 where
  out : t.out ≡ s.out
  pending : t.pending ≡ s.pending
  to_come : (t.to_come ≡ s.to_come) ⊎ (t.to_come ≡ [])

if_same : (b : Bool) (s : ReaderState) → ((goes_on_if b s).apps ≡ s.apps) × ((goes_on_if b s).registry ≡ s.registry) × Alike s (goes_on_if b s)
if_same true s = (refl, refl, record { out = refl; pending = refl; to_come = inl refl })
if_same false s = (refl, refl, record { out = refl; pending = refl; to_come = inr refl })

three_two : (k : ℕ) → k ≡ 3 → k ≡ 2 → ⊥
three_two k h g = absurd (omega (arith, h, g))

items_three : (m : Envelope) → m.kind ≡ 3 → items_told m ≡ None
items_three m h = rw h refl

part_three : (which : PartName) (path : List ℕ) (m : Envelope) → m.kind ≡ 3 → part_told which path m ≡ None
part_three which path m h = rw h refl

no_four : (m : Envelope) (n : ℕ) → m.kind ≡ n → (n == 4) ≡ false → (m.kind == 4) ≡ false
no_four m n h g = ap (λ k. k == 4) h ∙ g

module _ (w : World) (m : Envelope) (h : Hearer) (s : ReaderState) where
  abbrev t0 : ReaderState
  t0 = record (notes s m) { pending = None }

  abbrev Whole : Type 0
  Whole = Replied m h s

  -- what the state behind the reply has
  given : (t : ReaderState) → takes_reply (notes s m) m ≡ t → Brings m s.pending s.registry (notes s m).apps (question_returned m h.asked) t → Alike t0 t → Whole
  given t is b o = record {
    brings = subst (Brings m s.pending s.registry (notes s m).apps (question_returned m h.asked)) (sym is) b;
    out = ap (λ (x : ReaderState). x.out) is ∙ o.out;
    still = inl (ap (λ (x : ReaderState). x.pending) is ∙ o.pending);
    to_come = by o.to_come;
  }
    where
      by : (t.to_come ≡ s.to_come) ⊎ (t.to_come ≡ []) → ((takes_reply (notes s m) m).to_come ≡ s.to_come) ⊎ ((takes_reply (notes s m) m).to_come ≡ [])
      by (inl h) = inl (ap (λ (x : ReaderState). x.to_come) is ∙ h)
      by (inr h) = inr (ap (λ (x : ReaderState). x.to_come) is ∙ h)

  alike : (t : ReaderState) → t.out ≡ s.out → t.pending ≡ None → t.to_come ≡ s.to_come → Alike t0 t
  alike t a b c = record { out = a; pending = b; to_come = inl c }

  plainly : (q : Question) (b : Bool) → question_returned m h.asked ≡ Some q → IsPlain (Some q) → takes_reply (notes s m) m ≡ goes_on_if b t0 → Whole
  plainly q b asks plain is = let x = if_same b t0 in given (goes_on_if b t0) is (same (subst IsPlain (sym asks) plain) x.0 x.1) x.2

  when_returned : (p : Pending) (q : Question) → p.question ≡ q → s.pending ≡ Some p → m.kind ≡ 2 → question_returned m h.asked ≡ Some q → may_answer q m ≡ true → IsReturnedWell w m q → takes_reply (notes s m) m ≡ replied q t0 m → Whole
  when_returned p Hello e is two asks may well t = plainly Hello (m.kind == 2 && is_unique_name_alone m.body) asks tt t
  when_returned p (AddMatch rule) e is two asks may well t = plainly (AddMatch rule) (m.kind == 2) asks tt t
  when_returned p (RegisterEvent pattern) e is two asks may well t = plainly (RegisterEvent pattern) (m.kind == 2) asks tt t
  when_returned p GetChildren e is two asks may well t =
      let test : (m.kind == 2 && bytes_eq (signature_of m.body) children_signature) ≡ true = ap₂ (λ x y. x && y) (ap (λ k. k == 2) two) well.1 in
      given (record t0 { registry = m.sender; apps = fold made_known t0.apps (references_among (elements_of m.body)) })
      (t ∙ ap (λ b. if b then record t0 { registry = m.sender; apps = fold made_known t0.apps (references_among (elements_of m.body)) } else goes_on_if false t0) test)
      (children asks two refl refl) (alike (record t0 { registry = m.sender; apps = fold made_known t0.apps (references_among (elements_of m.body)) }) refl refl refl)
  when_returned p (GetItems name) e is two asks may (inr x) t = absurd (three_two m.kind x.0 two)
  when_returned p (GetItems name) e is two asks may (inl x) t = by (items_told m) refl
    where
      by : (o : Option (List Item)) → items_told m ≡ o → Whole
      by None g = absurd (x.2 g)
      by (Some all) g = given (record t0 { apps = changed (loaded all) name t0.apps }) (t ∙ ap (with_items t0 name) g) (items p name all is e asks two x.1 may g refl refl)
          (alike (record t0 { apps = changed (loaded all) name t0.apps }) refl refl refl)
  when_returned p (GetPart name path which) e is two asks may well t = by (part_told which path m) refl
    where
      by : (o : Option News) → part_told which path m ≡ o → Whole
      by None g =
          given (record t0 { apps = changed (refused_part path which) name t0.apps }) (t ∙ ap (with_part t0 name path which) g)
          (refuses name path which (inr asks) well may g (no_four m 2 two refl) refl refl) (alike (record t0 { apps = changed (refused_part path which) name t0.apps }) refl refl refl)
      by (Some news) g = given (record t0 { apps = changed (told_part news) name t0.apps }) (t ∙ ap (with_part t0 name path which) g) (told name path which news asks two (well two) may g refl refl)
          (alike (record t0 { apps = changed (told_part news) name t0.apps }) refl refl refl)

  when_failed : (p : Pending) (q : Question) → p.question ≡ q → s.pending ≡ Some p → m.kind ≡ 3 → question_returned m h.asked ≡ None → may_answer q m ≡ true → IsReturnedWell w m q → takes_reply (notes s m) m ≡ replied q t0 m → Whole
  when_failed p Hello e is three none_ may well t = absurd (three_two m.kind three well.0)
  when_failed p (AddMatch rule) e is three none_ may well t = absurd (three_two m.kind three well)
  when_failed p (RegisterEvent pattern) e is three none_ may well t = absurd (three_two m.kind three well)
  when_failed p GetChildren e is three none_ may well t = absurd (three_two m.kind three well.0)
  when_failed p (GetItems name) e is three none_ may well t =
      given (record t0 { apps = filter (λ app. not (is_named name app)) t0.apps }) (t ∙ ap (with_items t0 name) (items_three m three)) (fails p name is e none_ (no_four m 3 three refl) refl refl)
      (alike (record t0 { apps = filter (λ app. not (is_named name app)) t0.apps }) refl refl refl)
  when_failed p (GetPart name path which) e is three none_ may well t =
      given (record t0 { apps = changed (refused_part path which) name t0.apps }) (t ∙ ap (with_part t0 name path which) (part_three which path m three))
      (refuses name path which (inl none_) well may (part_three which path m three) (no_four m 3 three refl) refl refl) (alike (record t0 { apps = changed (refused_part path which) name t0.apps }) refl refl refl)

  by_reply : Reply w m h s → Whole
  by_reply (none q t) = record {
    brings = subst (Brings m s.pending s.registry (notes s m).apps (question_returned m h.asked)) (sym t) (same (subst IsPlain (sym q) tt) refl refl);
    out = ap (λ (x : ReaderState). x.out) t;
    still = inr t;
    to_come = inl (ap (λ (x : ReaderState). x.to_come) t);
  }
  by_reply (returned p is two q may well t) = when_returned p p.question refl is two q may well t
  by_reply (failed p is three q may well t) = when_failed p p.question refl is three q may well t

pub replied_to : (w : World) (m : Envelope) (h : Hearer) (s : ReaderState) → RepliesWell w m h.asked → Waits s.pending h.asked → Replied m h s
replied_to w m h s replies waiting = by_reply w m h s (reply w m h s replies waiting)
