-- The ways of a message through a reader: which of its changes each kind of message makes.
use Rattle.std.proofs.Common.{◌≡◌, ℕ, Bool, true, false, List, [], ◌∷◌, Option, Some, None, refl, sym, ap, subst, inl, inr}
use Rattle.std.specs.Prelude.{◌==◌, ◌||◌, ◌&&◌, ◌⊎◌, bytes_eq, codes, if◌then◌else◌}
use Rattle.std.proofs.lemmas.Bool.{eqb-true, and_parts, or_cases}
use Rattle.std.proofs.lemmas.Slice.Eq.{bytes_eq-Decides}
use Rattle.atspi_message.specs.Envelope.{Envelope}
use Rattle.atspi_tree_model.specs.declared.news.News.TheVariants.{Nothing}
use Rattle.atspi_protocol.specs.ends.Places.{bus}
use Rattle.atspi_protocol.specs.news.Arguments.{event_in}
use Rattle.atspi_protocol.specs.news.NewsOf.{event_interface, news_of, or_empty}
use Rattle.atspi_protocol.specs.declared.following.question.Question.{Question}
use Rattle.atspi_protocol.specs.following.ReaderState.{Pending, ReaderState}
use Rattle.atspi_protocol.specs.following.Wishes.{wishes}
use Rattle.atspi_protocol.specs.following.Known.{child_added, is_from, new_child, takes_child, told_end, ended_name, takes_end}
use Rattle.atspi_protocol.specs.following.Replied.{ends_call, may_answer, is_reply_to, replied, takes_reply}
use Rattle.atspi_protocol.specs.following.Takes.{takes_news, asks, asks_first, goes_on}
use Rattle.atspi_reader_laws.specs.Laws.{IsReplyTo}

-- a reader whose call does not wait any more
abbrev pub free : ReaderState → ReaderState
free s = record s { pending = None }

-- what a reader is after a message, before it asks on
abbrev pub taken : ReaderState → Envelope → ReaderState
taken s e = takes_news (takes_child (takes_end s e) e) e

-- what holds of a state that stays, and of one behind each reply, holds once a message was taken as a reply or not
pub by_reply : (P : ReaderState → Type 0) (s : ReaderState) (e : Envelope) → P s → ((question : Question) → IsReplyTo question s e → P (replied question (free s) e)) → P (takes_reply s e)
by_reply P s e stays answered = by s.pending refl
  where
    ended : (p : Pending) → s.pending ≡ Some p → (b : Bool) → ends_call p e ≡ b → P (if b then replied p.question (free s) e else s)
    ended p waits true ends = answered p.question (record { serial = p.serial; waits = waits; ends = ends })
    ended p waits false ends = stays

    by : (o : Option Pending) → s.pending ≡ o → P (takes_reply s e)
    by None waits = rw waits (rw waits at stays)
    by (Some p) waits = subst P (sym (rw waits refl)) (ended p waits (ends_call p e) refl)

pub reply_is : (question : Question) (s : ReaderState) (e : Envelope) → IsReplyTo question s e → takes_reply s e ≡ replied question (free s) e
reply_is question s e r = rw (r.waits, r.ends) refl

-- a reply is no signal
no_signal : (k : ℕ) → (k == 2 || k == 3) ≡ true → (k == 4) ≡ false
no_signal k e = by (or_cases (k == 2) (k == 3) e)
  where
    by : ((k == 2) ≡ true) ⊎ ((k == 3) ≡ true) → (k == 4) ≡ false
    by (inl h) = rw (eqb-true k 2 h) refl
    by (inr h) = rw (eqb-true k 3 h) refl

pub reply_is_no_signal : (question : Question) (s : ReaderState) (e : Envelope) → IsReplyTo question s e → (e.kind == 4) ≡ false
reply_is_no_signal question s e r =
    no_signal e.kind (and_parts (e.kind == 2 || e.kind == 3) (is_reply_to r.serial e.reply && may_answer question e) r.ends).0

pub no_end : (e : Envelope) → (e.kind == 4) ≡ false → told_end e ≡ None
no_end e h = rw h refl

pub no_news : (name : List ℕ) (e : Envelope) → (e.kind == 4) ≡ false → news_of name e ≡ Nothing
no_news name e h = rw h refl

pub no_child : (s : ReaderState) (e : Envelope) → (e.kind == 4) ≡ false → new_child s e ≡ None
no_child s e h = rw h refl

-- the news of an end tells no child
end_interface : (e : Envelope) (name : List ℕ) → told_end e ≡ Some name → or_empty e.interface ≡ bus
end_interface e name h = by (e.kind == 4) (bytes_eq (or_empty e.sender) bus) (bytes_eq (or_empty e.interface) bus) refl (bytes_eq (or_empty e.member) (codes "NameOwnerChanged")) h
  where
    by : (a b c : Bool) → bytes_eq (or_empty e.interface) bus ≡ c → (d : Bool) → (if a && (b && (c && d)) then ended_name e.body else None) ≡ Some name → or_empty e.interface ≡ bus
    by true true true i d g = (bytes_eq-Decides (or_empty e.interface) bus).0 i
    by true true false i d g = absurd cc
    by true false c i d g = absurd cc
    by false b c i d g = absurd cc

pub end_is_no_child : (s : ReaderState) (e : Envelope) (name : List ℕ) → told_end e ≡ Some name → new_child s e ≡ None
end_is_no_child s e name h =
    by (e.kind == 4) (is_from s.registry e) (bytes_eq (or_empty e.interface) event_interface) (ap (λ (n : List ℕ). bytes_eq n event_interface) (end_interface e name h))
  where
    by : (a b c : Bool) → c ≡ false → (if a && (b && (c && bytes_eq (or_empty e.member) (codes "ChildrenChanged"))) then child_added (event_in e.body) else None) ≡ None
    by true true c i = rw i refl
    by true false c i = refl
    by false b c i = refl

-- What holds of a reader that asks nothing, since its call waits or nothing is left to ask, and of one that asks the next of its start or its first wish, holds once it asked on.
pub by_asking : (P : ReaderState → Type 0) (s : ReaderState) → ((p : Pending) → s.pending ≡ Some p → P s)
    → (s.pending ≡ None → s.to_come ≡ [] → wishes s.apps ≡ [] → P s)
    → ((question : Question) (to_come : List Question) → s.pending ≡ None → s.to_come ≡ question ∷ to_come → P (asks (record s { to_come = to_come }) question))
    → ((question : Question) (questions : List Question) → s.pending ≡ None → s.to_come ≡ [] → wishes s.apps ≡ question ∷ questions → P (asks s question))
    → P (goes_on s)
by_asking P s waiting resting starting wishing = by s.pending refl s.to_come refl (wishes s.apps) refl
  where
    by : (o : Option Pending) → s.pending ≡ o → (to_come : List Question) → s.to_come ≡ to_come → (questions : List Question) → wishes s.apps ≡ questions → P (goes_on s)
    by (Some p) w to_come c questions q = let same : goes_on s ≡ s = rw w refl in subst P (sym same) (waiting p w)
    by None w (question ∷ to_come) c questions q =
        let same : goes_on s ≡ asks (record s { to_come = to_come }) question = rw (w, c) refl in
        subst P (sym same) (starting question to_come w c)
    by None w [] c [] q = let same : goes_on s ≡ s = rw (w, c) (ap (asks_first (record s { pending = None; to_come = [] })) q) in subst P (sym same) (resting w c q)
    by None w [] c (question ∷ questions) q =
        let same : goes_on s ≡ asks s question = rw (w, c) (ap (asks_first (record s { pending = None; to_come = [] })) q) in
        subst P (sym same) (wishing question questions w c q)

-- asking on changes no application
pub apps_stay : (s : ReaderState) → (goes_on s).apps ≡ s.apps
apps_stay s =
    by_asking (λ (now : ReaderState). now.apps ≡ s.apps) s (λ p w. refl) (λ w c q. refl) (λ question to_come w c. refl) (λ question questions w c q. refl)
