-- What a reader asked, behind all that it does with a message but asking; and what it does then is no call.
use Rattle.std.proofs.Common.{◌≡◌, ◌⊎◌, inl, inr, ℕ, Bool, true, false, List, [], ◌∷◌, ◌++◌, map, Option, None, Some, refl, sym, ap, ◌∙◌, subst}
use Rattle.std.specs.Prelude.{bytes_eq, filter, flat_map, not, ◌&&◌, ◌||◌, ◌==◌, if◌then◌else◌}
use Rattle.std.specs.List.{AllByRecursion, list_any}
use Rattle.std.proofs.lemmas.Bool.{eqb-true, and_parts}
use Rattle.atspi_base.specs.valid_names.Names.{is_bus_name, is_unique_name}
use Rattle.atspi_tree_model.specs.declared.news.News.{News}
use Rattle.atspi_tree_model.specs.declared.news.Reference.{Reference}
use Rattle.atspi_tree_model.specs.declared.view.Row.{Row}
use Rattle.atspi_tree_model.specs.Forest.{Forest}
use Rattle.atspi_message.specs.Envelope.{Envelope}
use Rattle.atspi_protocol.specs.declared.following.question.Question.{Question}
use Rattle.atspi_protocol.specs.declared.following.question.Question.TheVariants.{Hello, AddMatch, RegisterEvent, GetChildren, GetItems, GetPart}
use Rattle.atspi_protocol.specs.news.Arguments.{event_in}
use Rattle.atspi_protocol.specs.news.NewsOf.{news_of, or_empty, event_interface}
use Rattle.atspi_protocol.specs.following.ReaderState.{Followed, Done, sends, speaks, tells_end, ReaderState, is_named, begins}
use Rattle.atspi_protocol.specs.following.Known.{made_known, child_added, is_from, new_child, with_child, takes_child, told_end, closing_of, closings, end_of_connection, with_end, takes_end}
use Rattle.atspi_protocol.specs.following.Replied.{is_reply_to, changed, takes_reply}
use Rattle.atspi_protocol.specs.following.Takes.{noted, notes, lines_at, folded, takes_news}
use Rattle.std.specs.Prelude.{codes}
use Rattle.atspi_speech.specs.Speech.{lines, closing_lines}
use Rattle.atspi_protocol.specs.declared.news.part.PartName.{PartName}
use Rattle.atspi_trace.specs.World.{Asked, Holding, Hearer, World}
use Rattle.atspi_trace.specs.Hearing.{answered_by, question_returned, registry_after, names_told, child_name}
use Rattle.atspi_trace.specs.play.Playing.{silent}
use Rattle.atspi_trace_laws.proofs.OfOrder.Parties.{no_none, all_append}
use Rattle.atspi_trace_played.proofs.Facts.{RepliesWell, KnowsNothing, IsStarted, IsNamed, AreDistinct, AsksWell}
use Rattle.atspi_trace_played.proofs.AskingWords.{all_filter, any_back, bytes_same, KeepsName, changed_all, changed_distinct, filter_distinct, made_all, made_distinct}
use Rattle.atspi_trace_played.proofs.AskingReplies.{heard, named_same}
use Rattle.atspi_trace_played.proofs.AskingAnswered.{Took, took_reply}

-- OTHER APPLICATIONS are known
with_apps : (h : Hearer) (s : ReaderState) (apps : List Followed) → AsksWell h (silent s) → KnowsNothing (record s { apps = apps }) ⊎ IsStarted (record s { apps = apps }) h → AllByRecursion (IsNamed h) apps → AreDistinct apps
    → AsksWell h (silent (record s { apps = apps }))
with_apps h s apps a started names distinct = record {
  next = a.next;
  silent = refl;
  waiting = a.waiting;
  order = a.order;
  starting = a.starting;
  returned = a.returned;
  started = by started;
  registry = a.registry;
  names = names;
  distinct = distinct;
}
  where
    by : KnowsNothing (record s { apps = apps }) ⊎ IsStarted (record s { apps = apps }) h → KnowsNothing (silent (record s { apps = apps })) ⊎ IsStarted (silent (record s { apps = apps })) h
    by (inl k) = inl (record { registry = k.registry; apps = k.apps })
    by (inr i) = inr (record { come = i.come; listening = i.listening; registered = i.registered })

still : (h : Hearer) (s : ReaderState) (apps : List Followed) → (s.apps ≡ [] → apps ≡ []) → KnowsNothing (silent s) ⊎ IsStarted (silent s) h → KnowsNothing (record s { apps = apps }) ⊎ IsStarted (record s { apps = apps }) h
still h s apps empty (inl k) = inl (record { registry = k.registry; apps = empty k.apps })
still h s apps empty (inr i) = inr (record { come = i.come; listening = i.listening; registered = i.registered })

pub changed_asks : (h : Hearer) (s : ReaderState) (change : Followed → Followed) (name : List ℕ) → KeepsName change → AsksWell h (silent s) → AsksWell h (silent (record s { apps = changed change name s.apps }))
changed_asks h s change name k a =
    with_apps h s (changed change name s.apps) a (still h s (changed change name s.apps) (λ e. ap (changed change name) e) a.started)
    (changed_all (IsNamed h) (named_same h) change name k s.apps a.names) (changed_distinct change name k s.apps a.distinct)

-- THE END OF A NAME
pub end_asks : (h : Hearer) (s : ReaderState) (o : Option (List ℕ)) → AsksWell h (silent s) → AsksWell h (silent (with_end s o))
end_asks h s None a = a
end_asks h s (Some name) a =
    let keeps : Followed → Bool = λ app. not (is_named name app) in
    with_apps h s (filter keeps s.apps) a (still h s (filter keeps s.apps) (λ e. ap (filter keeps) e) a.started) (all_filter (IsNamed h) keeps s.apps a.names) (filter_distinct keeps s.apps a.distinct)

-- A CHILD of the registry's
abbrev child_with : Option (List ℕ) → Envelope → Option Reference
child_with registry m = new_child (record begins { registry = registry }) m

none_without : (m : Envelope) → child_with None m ≡ None
none_without m = by (m.kind == 4)
  where
    by : (b : Bool) → (if b && false then child_added (event_in m.body) else None) ≡ None
    by true = refl
    by false = refl

none_in_return : (registry : Option (List ℕ)) (m : Envelope) → m.kind ≡ 2 → child_with registry m ≡ None
none_in_return registry m e =
    ap (λ k. if k == 4 && (is_from registry m && (bytes_eq (or_empty m.interface) event_interface && bytes_eq (or_empty m.member) (codes "ChildrenChanged"))) then child_added (event_in m.body) else None) e

-- it is one that the registry told of
told_one : (h : Hearer) (m : Envelope) (root : Reference) → child_with h.registry m ≡ Some root → list_any (bytes_eq root.bus) (h.named ++ child_name (child_with h.registry m)) ≡ true
told_one h m root is =
    any_back (bytes_eq root.bus) h.named (child_name (child_with h.registry m)) (ap (λ o. list_any (bytes_eq root.bus) (child_name o)) is ∙ ap (λ b. b || false) (bytes_same root.bus))

told_child : (h : Hearer) (m : Envelope) (o : Option Question) → ((q : Question) → o ≡ Some q → m.kind ≡ 2) → (root : Reference)
    → child_with (registry_after h m o) m ≡ Some root → list_any (bytes_eq root.bus) (h.named ++ names_told h m o) ≡ true
told_child h m None kind root is = told_one h m root is
told_child h m (Some Hello) kind root is = told_one h m root is
told_child h m (Some (AddMatch rule)) kind root is = told_one h m root is
told_child h m (Some (RegisterEvent pattern)) kind root is = told_one h m root is
told_child h m (Some GetChildren) kind root is = absurd (no_none root (sym (none_in_return m.sender m (kind GetChildren refl)) ∙ is))
told_child h m (Some (GetItems name)) kind root is = told_one h m root is
told_child h m (Some (GetPart name path part)) kind root is = told_one h m root is

returned_kind : (m : Envelope) (asked : List Asked) (q : Question) → question_returned m asked ≡ Some q → m.kind ≡ 2
returned_kind m [] q h = absurd (no_none q h)
returned_kind m (a ∷ asked) q h = by (m.kind == 2 && is_reply_to a.serial m.reply) refl h (λ k. returned_kind m asked q k)
  where
    by : (b : Bool) → (m.kind == 2 && is_reply_to a.serial m.reply) ≡ b → (if b then Some a.question else question_returned m asked) ≡ Some q → (question_returned m asked ≡ Some q → m.kind ≡ 2) → m.kind ≡ 2
    by true e k rest = eqb-true m.kind 2 (and_parts (m.kind == 2) (is_reply_to a.serial m.reply) e).0
    by false e k rest = rest k

child_asks : (h : Hearer) (s : ReaderState) (o : Option Reference) → ((root : Reference) → o ≡ Some root → list_any (bytes_eq root.bus) h.named ≡ true) → (s.registry ≡ None → o ≡ None)
    → AsksWell h (silent s) → AsksWell h (silent (with_child s o))
child_asks h s None told none a = a
child_asks h s (Some root) told none a =
    with_apps h s (made_known s.apps root) a (by a.started) (made_all (IsNamed h) s.apps root (λ e. record { bus_name = (and_parts (is_bus_name root.bus) (is_unique_name root.bus) e).0; told = told root refl }) a.names) (made_distinct s.apps root a.distinct)
  where
    by : KnowsNothing (silent s) ⊎ IsStarted (silent s) h → KnowsNothing (record s { apps = made_known s.apps root }) ⊎ IsStarted (record s { apps = made_known s.apps root }) h
    by (inl k) = absurd (no_none root (sym (none k.registry)))
    by (inr i) = inr (record { come = i.come; listening = i.listening; registered = i.registered })

-- NO CALL among what it does
abbrev pub IsNoCall : Done → Type 0
IsNoCall (sends e) = ⊥
IsNoCall d = Unit {0}

abbrev pub NoCalls : List Done → Type 0
NoCalls out = AllByRecursion IsNoCall out

spoken : (name : List ℕ) (lines : List (List ℕ)) → NoCalls (map (λ (line : List ℕ). speaks name line) lines)
spoken name [] = tt
spoken name (line ∷ lines) = (tt, spoken name lines)

tells_none : (fs : List Followed) → NoCalls (closings fs)
tells_none [] = tt
tells_none (f ∷ fs) = all_append IsNoCall (closing_of f) (closings fs) (by f.name f.root f.view f.reload f.last f.refused) (tells_none fs)
  where
    by : (name root : List ℕ) (view : Option (Forest Row)) (reload : Bool) (last : ℕ) (refused : List (List ℕ × PartName))
        → NoCalls (closing_of (record { name = name; root = root; view = view; reload = reload; last = last; refused = refused }))
    by name root None reload last refused = tt
    by name root (Some v) reload last refused = spoken name (closing_lines v)

reads_none : (news : News) (fs : List Followed) → NoCalls (flat_map (lines_at news) fs)
reads_none news [] = tt
reads_none news (f ∷ fs) = all_append IsNoCall (lines_at news f) (flat_map (lines_at news) fs) (by f.name f.root f.view f.reload f.last f.refused) (reads_none news fs)
  where
    by : (name root : List ℕ) (view : Option (Forest Row)) (reload : Bool) (last : ℕ) (refused : List (List ℕ × PartName))
        → NoCalls (lines_at news (record { name = name; root = root; view = view; reload = reload; last = last; refused = refused }))
    by name root None reload last refused = tt
    by name root (Some v) reload last refused = spoken name (lines root name v news)

folded_keeps : (news : News) → KeepsName (folded news)
folded_keeps news f = by f.name f.root f.view f.reload f.last f.refused
  where
    by : (name root : List ℕ) (view : Option (Forest Row)) (reload : Bool) (last : ℕ) (refused : List (List ℕ × PartName))
        → (folded news (record { name = name; root = root; view = view; reload = reload; last = last; refused = refused })).name ≡ name
    by name root None reload last refused = refl
    by name root (Some v) reload last refused = refl

end_out : (s : ReaderState) (o : Option (List ℕ)) → NoCalls s.out → NoCalls (with_end s o).out
end_out s None n = n
end_out s (Some name) n = all_append IsNoCall s.out _ n (all_append IsNoCall (end_of_connection name) (closings (filter (is_named name) s.apps)) (by (is_bus_name name && is_unique_name name)) (tells_none (filter (is_named name) s.apps)))
  where
    by : (b : Bool) → NoCalls (if b then tells_end name ∷ [] else [])
    by true = (tt, tt)
    by false = tt

child_out : (s : ReaderState) (o : Option Reference) → NoCalls s.out → NoCalls (with_child s o).out
child_out s None n = n
child_out s (Some root) n = n

end_registry : (s : ReaderState) (o : Option (List ℕ)) → (with_end s o).registry ≡ s.registry
end_registry s None = refl
end_registry s (Some name) = refl

-- ALL THAT IT DOES before it asks
abbrev pub before_asking : ReaderState → Envelope → ReaderState
before_asking s m = takes_news (takes_child (takes_end (takes_reply (notes s m) m) m) m) m

pub took_message : (w : World) (h : Hearer) (m : Envelope) (holds : List Holding) (s : ReaderState) → AsksWell h s → RepliesWell w m h.asked → Took h m holds (silent (before_asking s m)) × NoCalls (before_asking s m).out
took_message w h m holds s a well = (
  changed_asks g s3 (folded (news_of (or_empty m.sender) m)) (or_empty m.sender) (folded_keeps (news_of (or_empty m.sender) m)) childed,
  all_append IsNoCall s3.out _ (child_out s2 (new_child s2 m) (end_out s1 (told_end m) (subst NoCalls (sym replied.silent) tt))) (reads_none (news_of (or_empty m.sender) m) (filter (is_named (or_empty m.sender)) s3.apps)),
)
  where
    g : Hearer
    g = heard h m (map (answered_by m) h.asked) (question_returned m h.asked) holds

    s1 : ReaderState
    s1 = takes_reply (notes s m) m

    s2 : ReaderState
    s2 = takes_end s1 m

    s3 : ReaderState
    s3 = takes_child s2 m

    quiet : AsksWell h (silent s)
    quiet = subst (λ (l : List Done). AsksWell h (record s { out = l })) a.silent a

    noting : AsksWell h (notes s m)
    noting = subst (λ (l : List Done). AsksWell h (record (notes s m) { out = l })) (sym a.silent) (changed_asks h s (noted m.serial) (or_empty m.sender) (λ f. refl) quiet)

    replied : AsksWell g (takes_reply (notes s m) m)
    replied = took_reply w h m holds (notes s m) noting well

    ended : AsksWell g (silent (takes_end (takes_reply (notes s m) m) m))
    ended = end_asks g (takes_reply (notes s m) m) (told_end m) (subst (λ (l : List Done). AsksWell g (record (takes_reply (notes s m) m) { out = l })) replied.silent replied)

    same : s2.registry ≡ g.registry
    same = end_registry s1 (told_end m) ∙ replied.registry

    childed : AsksWell g (silent (takes_child (takes_end (takes_reply (notes s m) m) m) m))
    childed =
        child_asks g s2 (new_child s2 m) (λ root is. told_child h m (question_returned m h.asked) (returned_kind m h.asked) root (ap (λ r. child_with r m) (sym same) ∙ is))
        (λ e. ap (λ r. child_with r m) e ∙ none_without m) ended
