-- Behind an end's exit, and behind the news that it was dropped, stands nothing of it.
use Rattle.std.proofs.Common.{◌≡◌, ◌⊎◌, inl, inr, Bool, true, false, List, [], ◌∷◌, ◌++◌, refl, sym, ap, ◌∙◌, subst}
use Rattle.std.specs.List.{AllByRecursion}
use Rattle.atspi_script_lines.specs.declared.line.Line.{Line}
use Rattle.atspi_script_lines.specs.declared.line.Party.{Party}
use Rattle.atspi_script_lines.specs.declared.line.Party.TheVariants.{Bus as The_bus, App, Reader}
use Rattle.atspi_trace.specs.Entry.{Entry, changed, sent, got, exited, dropped}
use Rattle.atspi_trace.specs.World.{Role, End, World}
use Rattle.atspi_trace.specs.Ends.{is_here, same_party, whose, party_at, end_at, stops}
use Rattle.atspi_trace.specs.Causes.{Done, at_end}
use Rattle.atspi_trace.specs.Due.{asks_at, begins, Goes}
use Rattle.atspi_trace_laws.specs.laws.NineLaws.{Everywhere, IsNotOf, IsLast}
use Rattle.atspi_trace_laws.specs.order.Scripts.{CanAllStand}
use Rattle.atspi_trace_laws.specs.order.Laws.{IsOut}
use Rattle.atspi_trace_laws.proofs.OfOrder.Parties.{same_some, false_true, same-party, all_append, all_front}
use Rattle.atspi_trace_laws.proofs.OfOrder.Allowed.{MovedUp, MovedDown}
use Rattle.atspi_trace_laws.proofs.OfOrder.Frame.{at_changed}
use Rattle.atspi_trace_laws.proofs.OfOrder.Shape.{RoleFits, Shape, not_new}
use Rattle.atspi_trace_laws.proofs.OfOrder.Effects.{Stopping}
use Rattle.atspi_trace_laws.proofs.OfOrder.Shaped.{up_moved_over, down_moved_over, asked_over}
use Rattle.atspi_trace_laws.proofs.OfOrder.Along.{Keeps, kept}
use Rattle.atspi_trace_laws.proofs.OfOrder.Growing.{Grows, Shaped, Nothing, And, grown}
use Rattle.atspi_trace_laws.proofs.OfOrder.Each.{Each, everywhere, each_more, each_map, each_of, all_map}
use Rattle.atspi_trace_laws.proofs.OfOrder.Gone.{IsGone, gone_over, gone_kept}
use Rattle.atspi_trace_laws.proofs.OfOrder.Closed.{IsDropped}
use Rattle.atspi_trace_laws.proofs.OfOrder.Told.{Tells, told_keeps}
use Rattle.atspi_trace_laws.proofs.OfOrder.Acts.{Act, OfBus, IsActive, Actor, Written, acted, told, stopped_, acts}

-- who exited is gone, and so is who was dropped
abbrev pub Out : World → Entry → Type 0
Out w (exited who) = IsGone w who
Out w (dropped who queued len) = IsDropped w who
Out w entry = Unit {0}

-- who is gone does not act
no_bus : (w : World) (who : Party) → Shape w → IsGone w who → The_bus ≡ who → ⊥
no_bus w who s g h =
    let fits : RoleFits g.e.who g.e.role = s.roles g.conn g.e g.there in
    no g.e.role (subst (λ p. RoleFits p g.e.role) (g.whose ∙ sym h) fits)
  where
    no : (role : Role) → RoleFits The_bus role → ⊥
    no role f = f

pub not_active : (w : World) (who : Party) → Shape w → IsActive w who → IsGone w who → ⊥
not_active w who s a g =
    let same : a.conn ≡ g.conn = s.one a.conn g.conn a.e g.e a.there g.there (a.whose ∙ sym g.whose) in
    let one : a.e ≡ g.e = same_some a.e g.e (sym a.there ∙ ap (end_at w.ends) same ∙ g.there) in
    false_true (sym g.gone ∙ ap (λ (x : End). is_here x.standing) (sym one) ∙ ap is_here a.standing)

apart : (w : World) (p who : Party) → Shape w → Actor w p → IsGone w who → p ≡ who → ⊥
apart w p who s (inl bus) g h = no_bus w who s g (sym bus ∙ h)
apart w p who s (inr (inl a)) g h = not_active w who s (subst (IsActive w) h a) g
apart w p who s (inr (inr n)) g h = not_new w s g.conn g.e p g.there n (g.whose ∙ sym h)

other : (w : World) (p who : Party) → Shape w → Actor w p → IsGone w who → same_party p who ≡ false
other w p who s a g = by (same_party p who) refl
  where
    by : (b : Bool) → same_party p who ≡ b → b ≡ false
    by true h = absurd (apart w p who s a g (same-party p who h))
    by false h = refl

not_of : (w : World) (who : Party) → Shape w → IsGone w who → (entry : Entry) → Act (Actor w) entry → IsNotOf who entry
not_of w who s g (changed app step) a = other w (App app) who s a g
not_of w who s g (sent p e) a = other w p who s a g
not_of w who s g (got taker sender serial) a = other w taker who s a g
not_of w who s g entry a = tt

not_bus : (w v : World) (who : Party) → Shape w → IsGone w who → (entry : Entry) → OfBus v entry → IsNotOf who entry
not_bus w v who s g (sent p e) a = other w p who s (inl a) g
not_bus w v who s g (dropped p queued len) a = tt
not_bus w v who s g entry a = absurd a

-- an act says that nobody is out, and the bus says it of those that it drops
act_out : (w v : World) (entry : Entry) → Act (Actor w) entry → Out v entry
act_out w v (exited p) a = absurd a
act_out w v (dropped p queued len) a = absurd a
act_out w v entry a = tt

bus_out : (v : World) (entry : Entry) → OfBus v entry → Out v entry
bus_out v (sent p e) a = tt
bus_out v (dropped p queued len) a = a
bus_out v entry a = absurd a

abbrev Free : World → Entry → Type 0
Free w entry = (who : Party) → IsGone w who → IsNotOf who entry

abbrev Others : World → List Entry → Type 0
Others w ys = AllByRecursion (Free w) ys

-- more entries of others stand behind
still_out : (w : World) (ys : List Entry) → Others w ys → (before : List Entry) (entry : Entry) (behind : List Entry) → Out w entry → IsOut before entry behind → IsOut before entry (behind ++ ys)
still_out w ys a before (exited who) behind g law = all_append (IsNotOf who) behind ys law (all_map (Free w) (IsNotOf who) ys (λ entry f. f who g) a)
still_out w ys a before (dropped who queued len) behind (inl bus) law = λ no. absurd (no bus)
still_out w ys a before (dropped who queued len) behind (inr g) law = λ no. all_append (IsNotOf who) behind ys (law no) (all_map (Free w) (IsNotOf who) ys (λ entry f. f who g) a)
still_out w ys a before entry behind g law = tt

-- what a cause writes meets the law
act_law : (w : World) (before : List Entry) (entry : Entry) (behind : List Entry) → Act (Actor w) entry → IsOut before entry behind
act_law w before (exited p) behind a = absurd a
act_law w before (dropped p queued len) behind a = absurd a
act_law w before entry behind a = tt

bus_other : (v : World) (who : Party) → (who ≡ The_bus → ⊥) → (entry : Entry) → OfBus v entry → IsNotOf who entry
bus_other v who differ (sent p e) a = by (same_party p who) refl
  where
    by : (b : Bool) → same_party p who ≡ b → b ≡ false
    by true h = absurd (differ (sym (same-party p who h) ∙ a))
    by false h = refl
bus_other v who differ (dropped p queued len) a = tt
bus_other v who differ entry a = absurd a

bus_law : (v : World) (early xs : List Entry) → AllByRecursion (OfBus v) xs → Each IsOut early xs
bus_law v early [] a = tt
bus_law v early (sent p e ∷ xs) a = (tt, bus_law v (early ++ sent p e ∷ []) xs a.1)
bus_law v early (dropped p queued len ∷ xs) a =
    ((λ no. all_map (OfBus v) (IsNotOf p) xs (λ entry b. bus_other v p no entry b) a.1), bus_law v (early ++ dropped p queued len ∷ []) xs a.1)
bus_law v early (entry ∷ xs) a = absurd a.0

abbrev pub Exited : List Entry → World → Type 0
Exited es w = Each IsOut [] es × AllByRecursion (Out w) es

out_kept : (w v : World) → ((who : Party) → IsGone w who → IsGone v who) → (entry : Entry) → Out w entry → Out v entry
out_kept w v f (exited who) g = f who g
out_kept w v f (dropped who queued len) (inl bus) = inl bus
out_kept w v f (dropped who queued len) (inr g) = inr (f who g)
out_kept w v f entry g = tt

exits_more : (es ys : List Entry) (w v : World) → Exited es w → Others w ys → ((who : Party) → IsGone w who → IsGone v who) → Each IsOut es ys → AllByRecursion (Out v) ys → Exited (es ++ ys) v
exits_more es ys w v i others f law out = (
  each_more IsOut [] es ys (each_map (Out w) IsOut (λ before entry behind. IsOut before entry (behind ++ ys)) [] es (still_out w ys others) i.1 i.0) law,
  all_append (Out v) es ys (all_map (Out w) (Out v) es (out_kept w v f) i.1) out,
)

no_act : (es ys : List Entry) (w v : World) → Shape w → Exited es w → AllByRecursion (Act (Actor w)) ys → ((who : Party) → IsGone w who → IsGone v who) → Exited (es ++ ys) v
no_act es ys w v s i a f =
    exits_more es ys w v i (all_map (Act (Actor w)) (Free w) ys (λ entry x who g. not_of w who s g entry x) a) f
    (each_of (Act (Actor w)) IsOut es ys (act_law w) a) (all_map (Act (Actor w)) (Out v) ys (act_out w v) a)

bus_words : (es front back : List Entry) (w v : World) → Shape w → Exited es w → AllByRecursion (Act (Actor w)) front → AllByRecursion (OfBus v) back
    → ((who : Party) → IsGone w who → IsGone v who) → Exited (es ++ (front ++ back)) v
bus_words es front back w v s i a b f =
    exits_more es (front ++ back) w v i
    (all_append (Free w) front back (all_map (Act (Actor w)) (Free w) front (λ entry x who g. not_of w who s g entry x) a) (all_map (OfBus v) (Free w) back (λ entry x who g. not_bus w v who s g entry x) b)) f
    (each_more IsOut es front back (each_of (Act (Actor w)) (λ before entry behind. IsOut before entry (behind ++ back)) es front (λ before entry behind x. act_law w before entry (behind ++ back) x) a)
    (bus_law v (es ++ front) back b))
    (all_append (Out v) front back (all_map (Act (Actor w)) (Out v) front (act_out w v) a) (all_map (OfBus v) (Out v) back (bus_out v) b))

stopped_now : (w : World) (d : Done) (b : Stopping w d) → IsGone d.world b.e.who
stopped_now w d b =
    subst (λ x. IsGone x.world b.e.who) (sym b.is)
    (record { conn = b.conn; e = stops b.e; there = at_changed stops w.ends b.conn b.e b.is_here.there; whose = refl; gone = refl })

stop_grows : (es : List Entry) (w : World) (d : Done) (b : Stopping w d) → Exited es w → ((who : Party) → IsGone w who → IsGone d.world who) → Exited (es ++ d.entries) d.world
stop_grows es w d b i f =
    let who : party_at w.ends b.conn ≡ b.e.who = ap whose b.is_here.there in
    let is : d.entries ≡ exited b.e.who ∷ [] = ap (λ x. x.entries) b.is ∙ ap (λ p. exited p ∷ []) who in
    subst (λ ys. Exited (es ++ ys) d.world) (sym is) (exits_more es (exited b.e.who ∷ []) w d.world i ((λ p g. tt), tt) f (tt, tt) (stopped_now w d b, tt))

by_written : (es : List Entry) (w : World) (d : Done) → Shape w → Exited es w → ((who : Party) → IsGone w who → IsGone d.world who) → Written w d → Exited (es ++ d.entries) d.world
by_written es w d s i f (acted a) = no_act es d.entries w d.world s i a f
by_written es w d s i f (told front back is a b) = subst (λ ys. Exited (es ++ ys) d.world) (sym is) (bus_words es front back w d.world s i a b f)
by_written es w d s i f (stopped_ b) = stop_grows es w d b i f

exits_grow : Grows (And Nothing Tells) Exited
exits_grow = record {
  begins = (tt, tt);
  caused = λ es w d s a i e after b. by_written es w d s i (λ who g. gone_kept w d who s e g) (acts w d s a.1 e);
  moved = λ es w v s a i m. by es w v i m;
  asked = λ es w conn r m question s a i asks.
      no_act es (sent (Reader r) m ∷ []) w (at_end w conn (asks_at m question)) s i
      (inr (inl (record { conn = conn; e = asks.asker; there = asks.is_here.there; whose = asks.whose; standing = asks.is_here.standing })), tt)
      (λ who g. gone_over w (at_end w conn (asks_at m question)) who (asked_over w conn r m question asks) g);
}
  where
    by : (es : List Entry) (w v : World) → Exited es w → (MovedUp w v ⊎ MovedDown w v) → Exited es v
    by es w v i (inl m) = (i.0, all_map (Out w) (Out v) es (out_kept w v (λ who g. gone_over w v who (up_moved_over w v m) g)) i.1)
    by es w v i (inr m) = (i.0, all_map (Out w) (Out v) es (out_kept w v (λ who g. gone_over w v who (down_moved_over w v m) g)) i.1)

pub exits_keep : Keeps (Shaped (And (And Nothing Tells) Exited))
exits_keep = grown (And Nothing Tells) Exited told_keeps exits_grow

-- the law of a front of a list
each_front : (xs ys : List Entry) (early : List Entry) → Each IsOut early (xs ++ ys) → Each IsOut early xs
each_front [] ys early e = tt
each_front (x ∷ xs) ys early e = (fewer x e.0, each_front xs ys (early ++ x ∷ []) e.1)
  where
    fewer : (entry : Entry) → IsOut early entry (xs ++ ys) → IsOut early entry xs
    fewer (exited who) law = all_front (IsNotOf who) xs ys law
    fewer (dropped who queued len) law = λ no. all_front (IsNotOf who) xs ys (law no)
    fewer entry law = tt

pub nobody_returns : (lines : List Line) (trace : List Entry) → CanAllStand lines → Goes (begins lines) trace → Everywhere IsOut trace
nobody_returns lines trace a g =
    let k = kept (Shaped (And (And Nothing Tells) Exited)) exits_keep lines trace a g in
    everywhere IsOut trace (each_front trace _ [] k.state.1.1.0)

last_of : (before : List Entry) (entry : Entry) (behind : List Entry) → IsOut before entry behind → IsLast before entry behind
last_of before (exited who) behind law = law
last_of before entry behind law = tt

pub nothing_follows : (lines : List Line) (trace : List Entry) → CanAllStand lines → Goes (begins lines) trace → Everywhere IsLast trace
nothing_follows lines trace a g before entry behind h = last_of before entry behind (nobody_returns lines trace a g before entry behind h)
