-- What applications have heard of and announce, along a lawful trace.
use Rattle.std.proofs.Common.{◌≡◌, ◌⊎◌, inl, inr, ℕ, zero, suc, ◌+◌, ◌≤◌, false, List, [], ◌∷◌, ◌++◌, length, map, Some, refl, sym, ap, ◌∙◌, subst, arith}
use Rattle.std.specs.Prelude.{nat_lt, if◌then◌else◌}
use Rattle.std.specs.List.{AllByRecursion, fold}
use Rattle.std.proofs.lemmas.Bool.{ltb-false, ne_eqb, eq-eqb}
use Rattle.std.proofs.lemmas.List.{append-nil, append_assoc}
use Rattle.atspi_tree_model.specs.RowRules.{rows}
use Rattle.atspi_tree_model.specs.Tree.{first_tree}
use Rattle.atspi_script_lines.specs.declared.limits.TheConstants.{QUOTA_MOST}
use Rattle.atspi_script_lines.specs.declared.line.Line.{Line}
use Rattle.atspi_script_lines.specs.declared.line.Party.{Party}
use Rattle.atspi_script_lines.specs.declared.line.Party.TheVariants.{Bus as The_bus, Registry, App, Reader}
use Rattle.atspi_message.specs.Envelope.{Envelope}
use Rattle.atspi_protocol.specs.registering.Steps.{registry_takes}
use Rattle.atspi_protocol.specs.exporting.Exporter.{Exporter, begins as begins_app}
use Rattle.atspi_protocol.specs.exporting.Starting.{starts}
use Rattle.atspi_protocol.specs.exporting.Taking.{app_takes}
use Rattle.atspi_protocol.specs.declared.following.question.Question.{Question}
use Rattle.atspi_trace.specs.Entry.{Entry, started, changed, sent, got, heard, unheard}
use Rattle.atspi_trace.specs.World.{an_application, a_reader, Hearer, newcomer, first_registry, first_world, End, World}
use Rattle.atspi_trace.specs.Ends.{is_app, number_of, whose, party_at, end_at, with_end, put_up, taken_down, app_count, reader_count}
use Rattle.atspi_trace.specs.Carrying as carrying
use Rattle.atspi_trace.specs.Hearing.{hears_letter}
use Rattle.atspi_trace.specs.Causes.{Done, only, at_end, did, has_done, app_starts, reader_starts, asks}
use Rattle.atspi_trace.specs.Due.{asks_as, asks_at, begins, after_all, Goes}
use Rattle.atspi_trace_laws.specs.laws.Words.{pairs_after, heard_pairs, live_tree, messages}
use Rattle.atspi_trace_laws.specs.laws.NineLaws.{Everywhere, sent_before}
use Rattle.atspi_trace_laws.specs.order.Scripts.{CanAllStand}
use Rattle.atspi_trace_laws.proofs.OfOrder.Parties.{no_none, same_some, false_true, all_append}
use Rattle.atspi_trace_laws.proofs.OfOrder.Allowed.{MovedUp, MovedDown}
use Rattle.atspi_trace_laws.proofs.OfOrder.Frame.{Over, over_same, over_both, over_with, over_at, with_cases, joined_cases}
use Rattle.atspi_trace_laws.proofs.OfOrder.Shape.{Lasts, lasting, Shape}
use Rattle.atspi_trace_laws.proofs.OfOrder.Effects.{received, AppEdits, AppTakes, ReaderTakes, Effect, resets, app_joins, reader_joins, app_edited, app_took, reader_called, swapped, exited_, showed_, told_busy, told_quiet, bus_took, bus_ended, registry_took, reader_took}
use Rattle.atspi_trace_laws.proofs.OfOrder.Shaped.{received_at, new_app, new_reader, app_joined, bus_takes_over, bus_ends_over, edits_over, app_takes_over, calls_over, stopping_over, registry_over, reader_over, up_moved_over, down_moved_over, asked_over}
use Rattle.atspi_trace_laws.proofs.OfOrder.Along.{Keeps, kept}
use Rattle.atspi_trace_laws.proofs.OfOrder.Growing.{Grows, Shaped, And, grown}
use Rattle.atspi_trace_laws.proofs.OfOrder.Each.{Each, everywhere, each_of, all_map}
use Rattle.atspi_trace_laws.proofs.OfOrder.Acts.{last_at, number_at}
use Rattle.atspi_trace_laws.proofs.OfSteps.Trees.{tree_more}
use Rattle.atspi_trace_laws.proofs.OfSteps.Steps.{SameApp, same_app, Trees, same_app_of}
use Rattle.atspi_trace_laws.proofs.OfSteps.Stepping.{bus_took_still, bus_ended_still, called_still, stopping_still, registry_still, no_reader, reader_same, up_moved_same, down_moved_same}
use Rattle.atspi_trace_laws.proofs.OfSerials.Serial.{messages_more}
use Rattle.atspi_trace_laws.proofs.OfSerials.Speaking.{next_of}
use Rattle.atspi_trace_laws.proofs.OfSerials.Numbers.{AreNext, IsFresh, Numbered, Speaks, known_not_fresh, fresh_over}
use Rattle.atspi_trace_laws.proofs.OfSerials.Hushing.{app_speaks, reader_speaks}
use Rattle.atspi_trace_laws.proofs.OfLinks.LawLinks.{Linked}
use Rattle.atspi_trace_laws.proofs.OfLinks.TakenInOrder.{Base, links_keep}
use Rattle.atspi_trace_laws.specs.heard.Laws.{IsToldUnder, IsOneOfThem}
use Rattle.atspi_trace_laws.proofs.OfHeard.Pairs.{heard_by, heard_more, did_heard, NotHeard, all_heard_same, did_not_heard}
use Rattle.atspi_trace_laws.proofs.OfHeard.Telling.{Both, both_more, At}
use Rattle.atspi_trace_laws.proofs.OfHeard.Heeding.{Says, takes_says, edit_says, starts_says}
use Rattle.atspi_trace_laws.proofs.OfHeard.Quiet.{IsQuiet, bus_quiet, registry_quiet, heard_all}

-- the pairs of each application are those that the trace tells, and who did not join has heard of none
abbrev pub Pairs : List Entry → World → Type 0
Pairs es w = (k a : ℕ) (e : End) (s : Exporter) → end_at w.ends k ≡ Some e → e.who ≡ App a → e.role ≡ an_application s → heard_pairs es a ≡ s.heard

abbrev pub NoneHeard : List Entry → World → Type 0
NoneHeard es w = (a : ℕ) → IsFresh w (App a) → heard_pairs es a ≡ []

abbrev pub Heard : List Entry → World → Type 0
Heard es w = Each Both [] es × Pairs es w × NoneHeard es w

-- QUIET ENTRIES
quiet_law : (before : List Entry) (entry : Entry) (behind : List Entry) → IsQuiet entry → Both before entry behind
quiet_law before (changed app step) behind q = absurd q
quiet_law before (sent (App app) e) behind q = absurd q
quiet_law before (sent The_bus e) behind q = (tt, tt)
quiet_law before (sent Registry e) behind q = (tt, tt)
quiet_law before (sent (Reader r) e) behind q = (tt, tt)
quiet_law before entry behind q = (tt, tt)

quiet_heard : (app : ℕ) (entry : Entry) → IsQuiet entry → NotHeard app entry
quiet_heard app (heard a listener pattern) q = absurd q
quiet_heard app (unheard a listener pattern) q = absurd q
quiet_heard app entry q = tt

quiet_pairs : (es ys : List Entry) (app : ℕ) → AllByRecursion IsQuiet ys → heard_pairs (es ++ ys) app ≡ heard_pairs es app
quiet_pairs es ys app q = heard_more app es ys ∙ all_heard_same app (heard_pairs es app) ys (all_map IsQuiet (NotHeard app) ys (quiet_heard app) q)

law_quiet : (es ys : List Entry) → Each Both [] es → AllByRecursion IsQuiet ys → Each Both [] (es ++ ys)
law_quiet es ys law q = both_more [] es ys law (each_of IsQuiet Both es ys quiet_law q)

pub still_heard : (es ys : List Entry) (w v : World) → Heard es w → Over SameApp w.ends v.ends → ((p : Party) → IsFresh v p → IsFresh w p) → AllByRecursion IsQuiet ys → Heard (es ++ ys) v
still_heard es ys w v i o fewer q = (
  law_quiet es ys i.0 q,
  λ k a e s h who role.
      let x = o.back k e h in
      quiet_pairs es ys a q ∙ i.1 k a x.0 s x.1 (sym x.2.whose ∙ who) (x.2.role s role),
  λ a f. quiet_pairs es ys a q ∙ i.2 a (fewer (App a) f),
)

-- AN APPLICATION ACTS
pub at_es : (es : List Entry) (w : World) (k a : ℕ) (e : End) (s : Exporter) → Trees es w → AreNext es w → Pairs es w → end_at w.ends k ≡ Some e → e.who ≡ App a → e.role ≡ an_application s
    → At es a s.heard s.tree s.next
at_es es w k a e s t m i h who role = record {
  pairs = i k a e s h who role;
  tree = sym (t k a e s h who role).tree;
  next = sum (sym (ap next_of role) ∙ m k e h ∙ ap (λ p. suc (sent_before p + length (messages es p))) who);
}
  where
    sum : s.next ≡ suc (0 + length (messages es (App a))) → s.next ≡ suc (length (messages es (App a)))
    sum h = omega (arith, h)

-- what it took stands in front
pub at_got : (es : List Entry) (taker from : Party) (serial a : ℕ) (s : Exporter) → At es a s.heard s.tree s.next → At (es ++ got taker from serial ∷ []) a s.heard s.tree s.next
at_got es taker from serial a s at = record {
  pairs = heard_more a es (got taker from serial ∷ []) ∙ at.pairs;
  tree = tree_more a es (got taker from serial ∷ []) ∙ at.tree;
  next = at.next ∙ ap (λ l. suc (length l)) (sym (messages_more es (got taker from serial ∷ []) (App a) ∙ append-nil (messages es (App a))));
}

module _ (es front : List Entry) (w v : World) (conn app : ℕ) (e : End) (s t : Exporter) (base : List End) (sh : Shape w) (i : Heard es w) (says : Says app s t) (empty : s.out ≡ [])
    (o : Over SameApp w.ends base) (there : end_at base conn ≡ Some e) (is : e.who ≡ App app) (ends : v.ends ≡ with_end conn (has_done s t) base) (fewer : (p : Party) → IsFresh v p → IsFresh w p)
    (q : AllByRecursion IsQuiet front) (at : At (es ++ front) app s.heard s.tree s.next) where
  out_now : t.out ≡ says.doings
  out_now = says.out ∙ ap (λ l. l ++ says.doings) empty

  abbrev wrote_now : List Entry
  wrote_now = front ++ map (did app) t.out

  law_now : Each Both [] (es ++ wrote_now)
  law_now =
      both_more [] es wrote_now i.0
      (both_more es front (map (did app) t.out) (each_of IsQuiet Both es front quiet_law q)
      (subst (λ hs. Each Both (es ++ front) (map (did app) hs)) (sym out_now) (says.law (es ++ front) at)))

  mine_now : heard_pairs (es ++ wrote_now) app ≡ t.heard
  mine_now =
      ap (λ l. heard_pairs l app) (sym (append_assoc es front (map (did app) t.out)))
      ∙ heard_more app (es ++ front) (map (did app) t.out) ∙ ap (λ p. fold (pairs_after app) p (map (did app) t.out)) at.pairs
      ∙ did_heard app s.heard t.out ∙ ap (heard_by s.heard) out_now ∙ sym says.pairs

  others_now : (a : ℕ) → (app ≡ a → ⊥) → heard_pairs (es ++ wrote_now) a ≡ heard_pairs es a
  others_now a differ =
      heard_more a es wrote_now
      ∙ all_heard_same a (heard_pairs es a) wrote_now
      (all_append (NotHeard a) front (map (did app) t.out) (all_map IsQuiet (NotHeard a) front (quiet_heard a) q) (did_not_heard a app t.out (ne_eqb app a differ)))

  pairs_now : Pairs (es ++ wrote_now) v
  pairs_now k a x u h who role = by (with_cases (has_done s t) base conn k x (ap (λ l. end_at l k) (sym ends) ∙ h))
    where
      by : ((y : End) × (end_at base k ≡ Some y) × (((k ≡ conn) × (x ≡ has_done s t y)) ⊎ ((k ≡ conn → ⊥) × (x ≡ y)))) → heard_pairs (es ++ wrote_now) a ≡ u.heard
      by g = one g.2
        where
          one : (((k ≡ conn) × (x ≡ has_done s t g.0)) ⊎ ((k ≡ conn → ⊥) × (x ≡ g.0))) → heard_pairs (es ++ wrote_now) a ≡ u.heard
          one (inl c) =
              let same : g.0 ≡ e = same_some g.0 e (sym g.1 ∙ ap (end_at base) c.0 ∙ there) in
              let number : app ≡ a = ap number_of (sym is ∙ ap (λ (z : End). z.who) (sym same) ∙ ap (λ (z : End). z.who) (sym c.1) ∙ who) in
              let state : record t { out = [] } ≡ u = same_app_of (record t { out = [] }) u (ap (λ (z : End). z.role) (sym c.1) ∙ role) in
              subst (λ n. heard_pairs (es ++ wrote_now) n ≡ u.heard) number (mine_now ∙ ap (λ (z : Exporter). z.heard) state)
          one (inr c) =
              let y = o.back k g.0 g.1 in
              let z = o.back conn e there in
              let who_y : y.0.who ≡ App a = sym y.2.whose ∙ ap (λ (z : End). z.who) (sym c.1) ∙ who in
              others_now a (λ same. c.0 (sh.one k conn y.0 z.0 y.1 z.1 (who_y ∙ ap App (sym same) ∙ sym is ∙ z.2.whose)))
              ∙ i.1 k a y.0 u y.1 who_y (y.2.role u (ap (λ (z : End). z.role) (sym c.1) ∙ role))

  pub acted_heard : Heard (es ++ wrote_now) v
  acted_heard = (
    law_now,
    pairs_now,
    λ a f.
        let z = o.back conn e there in
        others_now a (λ same. known_not_fresh w conn z.0 (App a) sh z.1 (sym z.2.whose ∙ is ∙ ap App same) (fewer (App a) f)) ∙ i.2 a (fewer (App a) f),
  )

-- EACH CAUSE
heard_of : (es : List Entry) (v : World) (xs ys : List Entry) → xs ≡ ys → Heard (es ++ ys) v → Heard (es ++ xs) v
heard_of es v xs ys h i = subst (λ l. Heard (es ++ l) v) (sym h) i

edits_heard : (es : List Entry) (w : World) (d : Done) → Shape w → Trees es w → AreNext es w → Heard es w → AppEdits w d → Heard (es ++ d.entries) d.world
edits_heard es w d s t m i b =
    let at = at_es es w b.conn b.app b.e b.before t m i.1 b.is_here.there b.whose b.role in
    heard_of es d.world d.entries (map (did b.app) b.after.out) (ap (λ x. x.entries) b.is ∙ ap (λ n. map (did n) b.after.out) (number_at w.ends b.conn b.app b.e b.is_here.there b.whose))
    (acted_heard es [] w d.world b.conn b.app b.e b.before b.after w.ends s i (edit_says b.app b.before b.after b.edit b.done) (t b.conn b.app b.e b.before b.is_here.there b.whose b.role).empty
    (over_same SameApp same_app w.ends) b.is_here.there b.whose (ap (λ x. x.world.ends) b.is) (fresh_over w d.world (edits_over w d b)) tt
    (subst (λ l. At l b.app b.before.heard b.before.tree b.before.next) (sym (append-nil es)) at))

pub down_same : (e : End) → SameApp e (taken_down e)
down_same e = record { whose = refl; role = λ s h. h }

takes_heard : (es : List Entry) (w : World) (d : Done) → Shape w → Trees es w → AreNext es w → Heard es w → AppTakes w d → Heard (es ++ d.entries) d.world
takes_heard es w d s t m i b =
    let after : Exporter = app_takes b.before b.letter.said.message in
    let first : Entry = got b.e.who b.letter.from b.letter.said.message.serial in
    let v : World = received w b.conn b.e b.letter in
    let at = at_es es w b.conn b.app b.e b.before t m i.1 b.is_here.there b.whose b.role in
    heard_of es d.world d.entries (first ∷ map (did b.app) after.out)
    (ap (λ x. x.entries) b.is ∙ ap (λ n. first ∷ map (did n) after.out) (number_at v.ends b.conn b.app (taken_down b.e) (received_at w b.conn b.e b.letter b.is_here.there) b.whose))
    (acted_heard es (first ∷ []) w d.world b.conn b.app (taken_down b.e) b.before after v.ends s i (takes_says b.app b.before b.letter.said.message)
    (t b.conn b.app b.e b.before b.is_here.there b.whose b.role).empty (over_with SameApp same_app taken_down down_same b.conn w.ends) (received_at w b.conn b.e b.letter b.is_here.there) b.whose
    (ap (λ x. x.world.ends) b.is) (fresh_over w d.world (app_takes_over w d b)) (tt, tt)
    (at_got es b.e.who b.letter.from b.letter.said.message.serial b.app b.before at))

-- an end joins
no_app_role : (e : End) (r a : ℕ) → e.who ≡ Reader r → e.who ≡ App a → ⊥
no_app_role e r a h g = false_true (ap is_app (sym h ∙ g))

reader_heard : (es : List Entry) (w : World) (d : Done) → Shape w → Heard es w → d ≡ reader_starts w → Heard (es ++ d.entries) d.world
reader_heard es w d sh i is =
    subst (λ x. Heard (es ++ x.entries) x.world) (sym is) (
      law_quiet es ys i.0 q,
      λ k a e s h who role. by k a e s who role (joined_cases w.ends (new_reader w) k e h),
      λ a f. quiet_pairs es ys a q ∙ i.2 a ((reader_speaks w (reader_starts w) sh refl).grown (App a) f),
    )
  where
    ys : List Entry
    ys = (reader_starts w).entries

    q : AllByRecursion IsQuiet ys
    q = (tt, (tt, tt))

    by : (k a : ℕ) (e : End) (s : Exporter) → e.who ≡ App a → e.role ≡ an_application s → ((end_at w.ends k ≡ Some e) ⊎ ((k ≡ length w.ends) × (e ≡ new_reader w))) → heard_pairs (es ++ ys) a ≡ s.heard
    by k a e s who role (inl h) = quiet_pairs es ys a q ∙ i.1 k a e s h who role
    by k a e s who role (inr h) = absurd (no_app_role e (reader_count w.ends) a (ap (λ (x : End). x.who) h.1) who)

least : (n : ℕ) → n ≤ n
least n = omega arith

-- behind its start it has its first tree, no pairs and no messages
pub at_started : (es : List Entry) (w : World) (name : List ℕ) → Numbered es w → Heard es w → At (es ++ started (App (app_count w.ends)) (Some name) ∷ []) (app_count w.ends) [] (first_tree rows name) 1
at_started es w name m i =
    let n : ℕ = app_count w.ends in
    let first : Entry = started (App n) (Some name) in
    record {
      pairs = heard_more n es (first ∷ []) ∙ i.2 n (least n);
      tree = tree_more n es (first ∷ []) ∙ ap (λ b. if b then first_tree rows name else live_tree es n) (eq-eqb n n refl);
      next = ap (λ l. suc (length l)) (sym (messages_more es (first ∷ []) (App n) ∙ append-nil (messages es (App n)) ∙ m.2 (App n) (least n)));
    }

join_heard : (es : List Entry) (w : World) (d : Done) (name : List ℕ) → Shape w → Numbered es w → Heard es w → d ≡ app_starts w name → Heard (es ++ d.entries) d.world
join_heard es w d name sh m i is =
    subst (λ x. Heard (es ++ x.entries) x.world) (sym is) (heard_of es v (app_starts w name).entries ys wrote (
      both_more [] es ys i.0 ((tt, tt), subst (λ hs. Each Both (es ++ first ∷ []) (map (did n) hs)) (sym says.out) (says.law (es ++ first ∷ []) at)),
      λ k a e u h who role. by k a e u who role (joined_cases w.ends (new_app w name) k e (ap (λ l. end_at l k) (sym (app_joined w name)) ∙ h)),
      λ a f. others a (λ same. speaks.not_fresh (subst (λ c. IsFresh v (App c)) (sym same) f)) ∙ i.2 a (speaks.grown (App a) f),
    ))
  where
    n : ℕ
    n = app_count w.ends

    s : Exporter
    s = begins_app name

    t : Exporter
    t = starts s

    v : World
    v = (app_starts w name).world

    first : Entry
    first = started (App n) (Some name)

    says : Says n s t
    says = starts_says n s

    speaks : Speaks w v (app_starts w name).entries (App n) 1
    speaks = app_speaks w (app_starts w name) sh name refl

    ys : List Entry
    ys = first ∷ map (did n) t.out

    wrote : (app_starts w name).entries ≡ ys
    wrote =
        let n0 : End = put_up [] (newcomer (App n) (an_application s)) in
        let number : number_of (party_at (w.ends ++ n0 ∷ []) (length w.ends)) ≡ n = ap (λ o. number_of (whose o)) (last_at w.ends n0) in
        ap (λ k. first ∷ map (did k) t.out) number

    fresh : IsFresh w (App n)
    fresh = least n

    at : At (es ++ first ∷ []) n s.heard s.tree s.next
    at = at_started es w name m i

    mine : heard_pairs (es ++ ys) n ≡ t.heard
    mine = heard_more n es ys ∙ ap (λ p. fold (pairs_after n) p ys) (i.2 n fresh) ∙ did_heard n [] t.out

    others : (a : ℕ) → (n ≡ a → ⊥) → heard_pairs (es ++ ys) a ≡ heard_pairs es a
    others a differ = heard_more a es ys ∙ all_heard_same a (heard_pairs es a) ys (tt, did_not_heard a n t.out (ne_eqb n a differ))

    by : (k a : ℕ) (e : End) (u : Exporter) → e.who ≡ App a → e.role ≡ an_application u → ((end_at w.ends k ≡ Some e) ⊎ ((k ≡ length w.ends) × (e ≡ new_app w name))) → heard_pairs (es ++ ys) a ≡ u.heard
    by k a e u who role (inl h) =
        others a (λ same. known_not_fresh w k e (App n) sh h (who ∙ ap App (sym same)) fresh) ∙ i.1 k a e u h who role
    by k a e u who role (inr h) =
        let number : n ≡ a = ap number_of (ap (λ (x : End). x.who) (sym h.1) ∙ who) in
        let state : record t { out = [] } ≡ u = same_app_of (record t { out = [] }) u (ap (λ (x : End). x.role) (sym h.1) ∙ role) in
        subst (λ a. heard_pairs (es ++ ys) a ≡ u.heard) number (mine ∙ ap (λ (z : Exporter). z.heard) state)

-- only the registry is there, as at the beginning
pub no_app_first : (quota k : ℕ) (x : End) (a : ℕ) → end_at (first_world quota).ends k ≡ Some x → x.who ≡ App a → ⊥
no_app_first quota zero x a h who = false_true (ap is_app (ap (λ (y : End). y.who) (same_some first_registry x h) ∙ who))
no_app_first quota (suc k) x a h who = no_none x h

anew : (es : List Entry) (w : World) (d : Done) (quota : ℕ) → Shape w → Heard es w → nat_lt 1 (length w.ends) ≡ false → d ≡ only (first_world quota) [] → Heard (es ++ d.entries) d.world
anew es w d quota s i few is =
    subst (λ x. Heard (es ++ x.entries) x.world) (sym is) (subst (λ l. Heard l (first_world quota)) (sym (append-nil es)) (by s.alone))
  where
    by : ((2 ≤ length w.ends) ⊎ (w ≡ first_world w.bus.quota)) → Heard es (first_world quota)
    by (inl two) = let less : length w.ends ≤ 1 = ltb-false 1 (length w.ends) few in absurd (omega (arith, two, less))
    by (inr h) = let j : Heard es (first_world w.bus.quota) = subst (Heard es) h i in (j.0, (λ k a e s at who. absurd (no_app_first quota k e a at who)), j.2)

pub same_ends : (w : World) (d : Done) → d.world.ends ≡ w.ends → Over SameApp w.ends d.world.ends
same_ends w d h = subst (Over SameApp w.ends) (sym h) (over_same SameApp same_app w.ends)

same_fresh : (w v : World) → v.ends ≡ w.ends → (p : Party) → IsFresh v p → IsFresh w p
same_fresh w v h p f = fresh_over w v (subst (Over Lasts w.ends) (sym h) (over_same Lasts lasting w.ends)) p f

-- where the cause is known as it was written
pub quiet_of : (d x : Done) → d ≡ x → AllByRecursion IsQuiet x.entries → AllByRecursion IsQuiet d.entries
quiet_of d x is a = subst (λ y. AllByRecursion IsQuiet y.entries) (sym is) a

pub sent_quiet : (who : Party) (r : ℕ) (e : Envelope) → who ≡ Reader r → IsQuiet (sent who e)
sent_quiet who r e h = subst (λ p. IsQuiet (sent p e)) (sym h) tt

pub all_sent_quiet : (who : Party) (es : List Envelope) → who ≡ Registry → AllByRecursion IsQuiet (map (sent who) es)
all_sent_quiet who es h = subst (λ p. AllByRecursion IsQuiet (map (sent p) es)) (sym h) (registry_quiet es)

pub reader_took_ends : (w : World) (d : Done) → ReaderTakes w d → Over SameApp w.ends d.world.ends
reader_took_ends w d b =
    let v : World = received w b.conn b.e b.letter in
    let hearer : Hearer = hears_letter b.hearer v.ends b.letter in
    subst (λ x. Over SameApp w.ends x.world.ends) (sym b.is)
    (over_both SameApp same_app w.ends v.ends _ (over_with SameApp same_app taken_down down_same b.conn w.ends)
    (over_with SameApp same_app (λ x. record x { role = a_reader hearer }) (λ x. record { whose = refl; role = λ s h. absurd (no_reader hearer s h) }) b.conn v.ends))

caused_heard : (es : List Entry) (w : World) (d : Done) → Shape w → Trees es w → Numbered es w → Heard es w → Effect w d → Heard (es ++ d.entries) d.world
caused_heard es w d s t m i (resets quota few is) = anew es w d quota s i few is
caused_heard es w d s t m i (app_joins name short is) = join_heard es w d name s m i is
caused_heard es w d s t m i (reader_joins few is) = reader_heard es w d s i is
caused_heard es w d s t m i (app_edited b) = edits_heard es w d s t m.1 i b
caused_heard es w d s t m i (app_took b) = takes_heard es w d s t m.1 i b
caused_heard es w d s t m i (reader_called b) =
    still_heard es d.entries w d.world i (called_still w d b).ends (fresh_over w d.world (calls_over w d b))
    (quiet_of d _ b.is (sent_quiet (party_at w.ends b.conn) b.reader _ (ap whose b.is_here.there ∙ b.whose), tt))
caused_heard es w d s t m i (swapped b) =
    still_heard es d.entries w d.world i (same_ends w d (ap (λ x. x.world.ends) b.is)) (same_fresh w d.world (ap (λ x. x.world.ends) b.is)) (quiet_of d _ b.is tt)
caused_heard es w d s t m i (exited_ b) =
    still_heard es d.entries w d.world i (stopping_still w d b).ends (fresh_over w d.world (stopping_over w d b)) (quiet_of d _ b.is (tt, tt))
caused_heard es w d s t m i (showed_ b) =
    still_heard es d.entries w d.world i (same_ends w d (ap (λ x. x.world.ends) b.is)) (same_fresh w d.world (ap (λ x. x.world.ends) b.is)) (quiet_of d _ b.is (tt, tt))
caused_heard es w d s t m i (told_busy turns is) =
    still_heard es d.entries w d.world i (same_ends w d (ap (λ x. x.world.ends) is)) (same_fresh w d.world (ap (λ x. x.world.ends) is)) (quiet_of d _ is (tt, tt))
caused_heard es w d s t m i (told_quiet none is) =
    still_heard es d.entries w d.world i (same_ends w d (ap (λ x. x.world.ends) is)) (same_fresh w d.world (ap (λ x. x.world.ends) is)) (quiet_of d _ is (tt, tt))
caused_heard es w d s t m i (bus_took b) =
    let c = carrying.takes (record { bus = w.bus; ends = w.ends }) b.conn b.e.who b.said in
    still_heard es d.entries w d.world i (bus_took_still w d b).ends (fresh_over w d.world (bus_takes_over w d b)) (quiet_of d _ b.is (tt, bus_quiet c.ends c.bus.own c.bus.closings))
caused_heard es w d s t m i (bus_ended b) =
    let c = carrying.takes_end (record { bus = w.bus; ends = w.ends }) b.conn in
    still_heard es d.entries w d.world i (bus_ended_still w d b).ends (fresh_over w d.world (bus_ends_over w d b)) (quiet_of d _ b.is (bus_quiet c.ends c.bus.own c.bus.closings))
caused_heard es w d s t m i (registry_took b) =
    still_heard es d.entries w d.world i (registry_still w d b).ends (fresh_over w d.world (registry_over w d b))
    (quiet_of d _ b.is (tt, all_sent_quiet b.e.who (registry_takes b.before b.letter.said.message).sent b.whose))
caused_heard es w d s t m i (reader_took b) =
    still_heard es d.entries w d.world i (reader_took_ends w d b) (fresh_over w d.world (reader_over w d b))
    (quiet_of d _ b.is (tt, heard_all IsQuiet (λ r app line. tt) (λ r app. tt) (number_of b.e.who) b.hearer (received w b.conn b.e b.letter).ends b.letter))

abbrev pub Beneath : List Entry → World → Type 0
Beneath es w = And Base Linked es w

pub asks_same : (m : Envelope) (question : Question) (e : End) (h : Hearer) → e.role ≡ a_reader h → SameApp e (asks_at m question e)
asks_same m question e h role = subst (λ x. SameApp e (asks_as x m question e)) (sym role) (reader_same (asks question h) m e)

heard_grows : Grows Beneath Heard
heard_grows = record {
  begins = (tt, (λ k a e s at who. absurd (no_app_first QUOTA_MOST k e a at who)), λ a f. refl);
  caused = λ es w d s a i e after b. caused_heard es w d s a.0.0.1.1 a.0.1 i e;
  moved = λ es w v s a i m. by es w v i m;
  asked = λ es w conn r m question s a i asks.
      let v : World = at_end w conn (asks_at m question) in
      still_heard es (sent (Reader r) m ∷ []) w v i
      (over_at SameApp same_app (asks_at m question) conn w.ends asks.asker asks.is_here.there (asks_same m question asks.asker asks.hearer asks.reader))
      (fresh_over w v (asked_over w conn r m question asks)) (tt, tt);
}
  where
    by : (es : List Entry) (w v : World) → Heard es w → (MovedUp w v ⊎ MovedDown w v) → Heard es v
    by es w v i (inl m) =
        subst (λ l. Heard l v) (append-nil es) (still_heard es [] w v i
        (subst (λ (x : World). Over SameApp w.ends x.ends) (sym m.after) (over_with SameApp same_app (λ e. record e { up_moved = e.up_moved + m.count }) (up_moved_same m.count) m.conn w.ends))
        (fresh_over w v (up_moved_over w v m)) tt)
    by es w v i (inr m) =
        subst (λ l. Heard l v) (append-nil es) (still_heard es [] w v i
        (subst (λ (x : World). Over SameApp w.ends x.ends) (sym m.after) (over_with SameApp same_app (λ e. record e { down_moved = e.down_moved + m.count }) (down_moved_same m.count) m.conn w.ends))
        (fresh_over w v (down_moved_over w v m)) tt)

pub heard_keeps : Keeps (Shaped (And Beneath Heard))
heard_keeps = grown Beneath Heard links_keep heard_grows

-- THE LAWS
one_front : (xs ys : List Entry) (early : List Entry) → Each Both early (xs ++ ys) → Each IsOneOfThem early xs
one_front [] ys early e = tt
one_front (x ∷ xs) ys early e = (fewer x e.0.1, one_front xs ys (early ++ x ∷ []) e.1)
  where
    fewer : (entry : Entry) → IsOneOfThem early entry (xs ++ ys) → IsOneOfThem early entry xs
    fewer (sent (App app) m) law = law
    fewer (sent The_bus m) law = tt
    fewer (sent Registry m) law = tt
    fewer (sent (Reader r) m) law = tt
    fewer entry law = tt

pub no_others : (lines : List Line) (trace : List Entry) → CanAllStand lines → Goes (begins lines) trace → Everywhere IsOneOfThem trace
no_others lines trace a g =
    let k = kept (Shaped (And Beneath Heard)) heard_keeps lines trace a g in
    everywhere IsOneOfThem trace (one_front trace _ [] k.state.1.1.0)

all_told : (early xs : List Entry) → Each Both early xs → Each IsToldUnder early xs
all_told early [] e = tt
all_told early (x ∷ xs) e = (e.0.0, all_told (early ++ x ∷ []) xs e.1)

pub steps_told : (lines : List Line) (trace : List Entry) → CanAllStand lines → Goes (begins lines) trace → (after_all (begins lines) trace).owing ≡ [] → Everywhere IsToldUnder trace
steps_told lines trace a g none =
    let k = kept (Shaped (And Beneath Heard)) heard_keeps lines trace a g in
    let whole : Each Both [] trace = subst (Each Both []) (ap (λ l. trace ++ l) none ∙ append-nil trace) k.state.1.1.0 in
    everywhere IsToldUnder trace (all_told [] trace whole)
