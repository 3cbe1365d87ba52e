-- The ways through a message: which of the changes each kind of message makes.
use Rattle.std.proofs.Common.{◌≡◌, ℕ, Bool, true, false, List, [], ◌∷◌, ◌++◌, filter, flat_map, Option, Some, None, codes, refl, sym, ap, ◌∙◌, arith}
use Rattle.std.specs.Prelude.{◌==◌, ◌||◌, ◌&&◌, bytes_eq, if◌then◌else◌}
use Rattle.std.specs.Option.{option_map}
use Rattle.std.proofs.lemmas.Bool.{and_parts, eqb-true}
use Rattle.std.proofs.lemmas.List.{append-nil}
use Rattle.std.proofs.lemmas.Slice.Eq.{bytes_eq-Decides}
use Rattle.atspi_message.specs.Envelope.{Envelope}
use Rattle.atspi_protocol.specs.ends.Places.{bus}
use Rattle.atspi_tree_model.specs.declared.view.Row.{Row}
use Rattle.atspi_tree_model.specs.declared.news.News.{News}
use Rattle.atspi_tree_model.specs.declared.news.News.TheVariants.{Nothing}
use Rattle.atspi_tree_model.specs.Forest.{Forest}
use Rattle.atspi_protocol.specs.news.NewsOf.{news_of, or_empty, event_interface, cache_interface}
use Rattle.atspi_protocol.specs.news.Arguments.{event_in}
use Rattle.atspi_protocol.specs.declared.following.question.Question.{Question}
use Rattle.atspi_protocol.specs.following.ReaderState.{Followed, Pending, Done, ReaderState, is_named}
use Rattle.atspi_protocol.specs.following.Known.{new_child, child_added, is_from, with_child, takes_child, told_end, ended_name, with_end, takes_end}
use Rattle.atspi_protocol.specs.following.Replied.{changed, ends_call, replied, takes_reply}
use Rattle.atspi_protocol.specs.following.Takes.{folded, lines_at, notes, takes_news, goes_on, reader_takes}
use Rattle.atspi_reader.specs.inner.Turns.{is_answer, asked_of, free}
use Rattle.atspi_reader.proofs.Changed.{changed_same}

or_false : (b : Bool) → (b || false) ≡ b
or_false true = refl
or_false false = refl

folded_nothing : (app : Followed) → folded Nothing app ≡ app
folded_nothing app = by app.view refl
  where
    by : (v : Option (Forest Row)) → app.view ≡ v → folded Nothing app ≡ app
    by None e = rw e refl
    by (Some v) e =
        rw e (ap (λ (r : Bool). record app { view = Some v; reload = r }) (or_false app.reload))

lines_nothing : (app : Followed) → lines_at Nothing app ≡ []
lines_nothing app = by app.view refl
  where
    by : (v : Option (Forest Row)) → app.view ≡ v → lines_at Nothing app ≡ []
    by None e = rw e refl
    by (Some v) e = rw e refl

flat_nothing : (apps : List Followed) → flat_map (lines_at Nothing) apps ≡ []
flat_nothing [] = refl
flat_nothing (app ∷ apps) = ap (λ (l : List Done). l ++ flat_map (lines_at Nothing) apps) (lines_nothing app) ∙ flat_nothing apps

-- a message without news
pub no_news : (s : ReaderState) (e : Envelope) → news_of (or_empty e.sender) e ≡ Nothing → takes_news s e ≡ s
no_news s e h =
    let name = or_empty e.sender in
    ap (λ (n : News). record s { apps = changed (folded n) name s.apps; out = s.out ++ flat_map (lines_at n) (filter (is_named name) s.apps) }) h
    ∙ ap (λ (l : List Followed). record s { apps = l; out = s.out ++ flat_map (lines_at Nothing) (filter (is_named name) s.apps) }) (changed_same (folded Nothing) folded_nothing name s.apps)
    ∙ ap (λ (l : List Done). record s { out = s.out ++ l }) (flat_nothing (filter (is_named name) s.apps))
    ∙ ap (λ (l : List Done). record s { out = l }) (append-nil s.out)

news_by : (name : List ℕ) (e : Envelope) (k : Bool) → (e.kind == 4) ≡ k → k ≡ false → news_of name e ≡ Nothing
news_by name e k h f = rw (h ∙ f) refl

and_false : (a b : Bool) → a ≡ false → (a && b) ≡ false
and_false a b e = rw e refl

no_child : (s : ReaderState) (e : Envelope) → new_child s e ≡ None → takes_child s e ≡ s
no_child s e h = ap (with_child s) h

no_end : (s : ReaderState) (e : Envelope) → told_end e ≡ None → takes_end s e ≡ s
no_end s e h = ap (with_end s) h

-- a message that is not the reply that is waited for
pub unanswered : (s : ReaderState) (e : Envelope) → is_answer s.pending e ≡ false → takes_reply s e ≡ s
unanswered s e h = by s.pending refl h
  where
    by : (p : Option Pending) → s.pending ≡ p → is_answer p e ≡ false → takes_reply s e ≡ s
    by None q h = rw q refl
    by (Some p) q h = rw q (ap (λ (b : Bool). if b then replied p.question (record s { pending = None }) e else record s { pending = Some p }) h)

-- a message that is no signal
module _ (e : Envelope) (other : (e.kind == 4) ≡ false) where
  pub unsignalled : (s : ReaderState) → takes_news (takes_child (takes_end s e) e) e ≡ s
  unsignalled s =
      let ended : told_end e ≡ None = rw other refl in
      let child : new_child s e ≡ None = rw other refl in
      ap (λ (t : ReaderState). takes_news (takes_child t e) e) (no_end s e ended)
      ∙ ap (λ (t : ReaderState). takes_news t e) (no_child s e child)
      ∙ no_news s e (news_by (or_empty e.sender) e false other refl)

  pub takes_other : (s : ReaderState) → is_answer s.pending e ≡ false → reader_takes s e ≡ goes_on (notes s e)
  takes_other s h = ap (λ (t : ReaderState). goes_on (takes_news (takes_child (takes_end t e) e) e)) (unanswered (notes s e) e h) ∙ ap goes_on (unsignalled (notes s e))

no_four : (k : ℕ) → (k == 2 || k == 3) ≡ true → (k == 4) ≡ false
no_four k h = by (k == 4) refl (k == 2) refl (k == 3) refl h
  where
    by : (a : Bool) → (k == 4) ≡ a → (b : Bool) → (k == 2) ≡ b → (c : Bool) → (k == 3) ≡ c → (b || c) ≡ true → a ≡ false
    by false e b f c g h = refl
    by true e true f c g h = let z : ◌≡◌ {A = ℕ} 4 2 = sym (eqb-true k 4 e) ∙ eqb-true k 2 f in absurd (omega (arith, z))
    by true e false f true g h = let z : ◌≡◌ {A = ℕ} 4 3 = sym (eqb-true k 4 e) ∙ eqb-true k 3 g in absurd (omega (arith, z))
    by true e false f false g h = absurd cc

pub answers_unsignalled : (p : Pending) (e : Envelope) → ends_call p e ≡ true → (e.kind == 4) ≡ false
answers_unsignalled p e h = no_four e.kind (and_parts (e.kind == 2 || e.kind == 3) _ h).0

-- the reply
pub takes_answer : (s : ReaderState) (e : Envelope) (p : Pending) → s.pending ≡ Some p → ends_call p e ≡ true
    → reader_takes s e ≡ goes_on (replied p.question (free s e) e)
takes_answer s e p q h =
    let answered : takes_reply (notes s e) e ≡ replied p.question (free s e) e =
    rw q (ap (λ (b : Bool). if b then replied p.question (free s e) e else record (notes s e) { pending = Some p }) h) in
    ap (λ (t : ReaderState). goes_on (takes_news (takes_child (takes_end t e) e) e)) answered
    ∙ ap goes_on (unsignalled e (answers_unsignalled p e h) (replied p.question (free s e) e))

-- the same, by the question alone
pub takes_question : (s : ReaderState) (e : Envelope) (question : Question) → Some question ≡ option_map asked_of s.pending → is_answer s.pending e ≡ true
    → reader_takes s e ≡ goes_on (replied question (free s e) e)
takes_question s e question q h = by s.pending refl q h
  where
    by : (o : Option Pending) → s.pending ≡ o → Some question ≡ option_map asked_of o → is_answer o e ≡ true → reader_takes s e ≡ goes_on (replied question (free s e) e)
    by None p q h = absurd cc
    by (Some waiting) p q h =
        let same : waiting.question ≡ question = cc in
        takes_answer s e waiting p h ∙ ap (λ (x : Question). goes_on (replied x (free s e) e)) same

pub no_question : (o : Option Pending) (e : Envelope) → None ≡ option_map asked_of o → is_answer o e ≡ true → ⊥
no_question None e q h = cc
no_question (Some p) e q h = cc

-- a signal is no reply
four : (k : ℕ) → (k == 4) ≡ true → (k == 2 || k == 3) ≡ false
four k h = by (k == 2) refl (k == 3) refl
  where
    by : (b : Bool) → (k == 2) ≡ b → (c : Bool) → (k == 3) ≡ c → (b || c) ≡ false
    by true f c g = let z : ◌≡◌ {A = ℕ} 4 2 = sym (eqb-true k 4 h) ∙ eqb-true k 2 f in absurd (omega (arith, z))
    by false f true g = let z : ◌≡◌ {A = ℕ} 4 3 = sym (eqb-true k 4 h) ∙ eqb-true k 3 g in absurd (omega (arith, z))
    by false f false g = refl

signal_unanswered : (o : Option Pending) (e : Envelope) → (e.kind == 4) ≡ true → is_answer o e ≡ false
signal_unanswered None e h = refl
signal_unanswered (Some p) e h = and_false (e.kind == 2 || e.kind == 3) _ (four e.kind h)

-- the interface of the end of a name is the bus's, and so neither that of events nor that of a cache
of_bus : (e : Envelope) (name : List ℕ) → told_end e ≡ Some name → bytes_eq (or_empty e.interface) bus ≡ true
of_bus e name h = by (e.kind == 4) (bytes_eq (or_empty e.sender) bus) (bytes_eq (or_empty e.interface) bus) (bytes_eq (or_empty e.member) (codes "NameOwnerChanged")) h
  where
    by : (k s i m : Bool) → (if k && (s && (i && m)) then ended_name e.body else None) ≡ Some name → i ≡ true
    by true true true true h = refl
    by true true true false h = absurd cc
    by true true false m h = absurd cc
    by true false i m h = absurd cc
    by false s i m h = absurd cc

module _ (e : Envelope) (name : List ℕ) (signal : (e.kind == 4) ≡ true) (end : told_end e ≡ Some name) where
  interface_is : or_empty e.interface ≡ bus
  interface_is = (bytes_eq-Decides (or_empty e.interface) bus).0 (of_bus e name end)

  no_event : bytes_eq (or_empty e.interface) event_interface ≡ false
  no_event = ap (λ (i : List ℕ). bytes_eq i event_interface) interface_is

  no_cache : bytes_eq (or_empty e.interface) cache_interface ≡ false
  no_cache = ap (λ (i : List ℕ). bytes_eq i cache_interface) interface_is

  end_no_news : news_of (or_empty e.sender) e ≡ Nothing
  end_no_news = rw (signal, no_event, no_cache) refl

  end_no_child : (s : ReaderState) → new_child s e ≡ None
  end_no_child s = rw (signal, no_event) (by (is_from s.registry e))
    where
      by : (b : Bool) → (if b && (false && bytes_eq (or_empty e.member) (codes "ChildrenChanged")) then child_added (event_in e.body) else None) ≡ None
      by true = refl
      by false = refl

  -- the end of a name
  pub takes_ended : (s : ReaderState) → reader_takes s e ≡ goes_on (with_end (notes s e) (Some name))
  takes_ended s =
      ap (λ (t : ReaderState). goes_on (takes_news (takes_child (takes_end t e) e) e)) (unanswered (notes s e) e (signal_unanswered s.pending e signal))
      ∙ ap (λ (o : Option (List ℕ)). goes_on (takes_news (takes_child (with_end (notes s e) o) e) e)) end
      ∙ ap (λ (t : ReaderState). goes_on (takes_news t e)) (no_child (with_end (notes s e) (Some name)) e (end_no_child (with_end (notes s e) (Some name))))
      ∙ ap goes_on (no_news (with_end (notes s e) (Some name)) e end_no_news)

-- any other signal
pub takes_told : (s : ReaderState) (e : Envelope) → (e.kind == 4) ≡ true → told_end e ≡ None → reader_takes s e ≡ goes_on (takes_news (takes_child (notes s e) e) e)
takes_told s e signal end =
    ap (λ (t : ReaderState). goes_on (takes_news (takes_child (takes_end t e) e) e)) (unanswered (notes s e) e (signal_unanswered s.pending e signal))
    ∙ ap (λ (t : ReaderState). goes_on (takes_news (takes_child t e) e)) (no_end (notes s e) e end)
