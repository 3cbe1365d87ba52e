-- Where one leaves: the errors that the bus then says go to the callers of open calls that it was to answer, with their serials; so it is of all closings that a step causes.
use Rattle.std.proofs.Common.{◌≡◌, ◌⊎◌, inl, inr, ℕ, zero, suc, Bool, true, false, List, [], ◌∷◌, ◌++◌, map, Option, None, Some, refl, sym, ap, ◌∙◌, subst, arith}
use Rattle.std.specs.Prelude.{◌==◌, ◌&&◌, ◌||◌, not, filter, flat_map, codes, if◌then◌else◌}
use Rattle.std.specs.List.{AllByRecursion}
use Rattle.std.proofs.lemmas.Bool.{eqb-true, eq-eqb}
use Rattle.atspi_message.specs.Envelope.{Envelope}
use Rattle.atspi_match.specs.RuleIndex.{without_rules}
use Rattle.atspi_names.specs.Owners.{list_of, after_gone, owned_by}
use Rattle.atspi_names.specs.Queue.{owner_in}
use Rattle.atspi_match.specs.declared.routing.closing.Why.{Why}
use Rattle.atspi_match.specs.routing.BusState.{OpenCall, BusState, unique_of, name_or_empty, calls_without, waiting_for}
use Rattle.atspi_match.specs.routing.OwnMessages.{error_to, name_acquired, owner_changed}
use Rattle.atspi_match.specs.routing.Steps.{Move, says, delivers, closes, no_replies, name_passes_on, names_pass_on, farewell, bus_leaves}
use Rattle.atspi_match.specs.routing.Queues.{Bus, without_queue}
use Rattle.atspi_trace.specs.World.{Letter, End}
use Rattle.atspi_trace.specs.Ends.{is_here, end_at, with_end, leaves}
use Rattle.atspi_trace.specs.Carrying.{Carried, own_letter, left, one_closed, settled}
use Rattle.atspi_trace_laws.proofs.OfOrder.Parties.{false_true, all_append}
use Rattle.atspi_trace_laws.proofs.OfOrder.Frame.{Over, with_cases, stepped_over, left_over, settled_over}
use Rattle.atspi_trace_laws.proofs.OfOrder.Shape.{Lasts, lasting, put_lasts, leaves_lasts}
use Rattle.atspi_trace_laws.proofs.OfNames.Naming.{gone_other}
use Rattle.atspi_trace_laws.proofs.OfSigned.Unique.{IsIn}
use Rattle.atspi_trace_laws.proofs.OfSigned.Handing.{Gives, Downs, downs_with, PutsAt, stepped_downs}
use Rattle.atspi_trace_caches.proofs.OfSettled.ReplyingOwners.{Owned, gone_owned, owners_are}
use Rattle.atspi_trace_caches.proofs.OfSettled.RefusingBus.{ToAll, said_to_all, IsNews, acquired_news}

-- fewer calls, names and names' owners
kept_calls : (P : OpenCall → Type 0) (p : OpenCall → Bool) (calls : List OpenCall) → AllByRecursion P calls → AllByRecursion P (filter p calls)
kept_calls P p [] a = tt
kept_calls P p (c ∷ cs) a = by (p c) (kept_calls P p cs a.1)
  where
    by : (b : Bool) → AllByRecursion P (filter p cs) → AllByRecursion P (if b then c ∷ filter p cs else filter p cs)
    by true r = (a.0, r)
    by false r = r

-- AN ERROR TO THE CALLER of an open call that this connection was to answer
pub record LeftErr (P : OpenCall → Type 0) (conn k : ℕ) (m : Envelope) : Type 0 where
  pub call : OpenCall
  pub its : P call
  pub callee : call.callee ≡ conn
  pub with_ : m.reply ≡ Some call.serial
  pub taker : k ≡ call.caller

abbrev pub LeftErrs : (OpenCall → Type 0) → ℕ → ℕ → Envelope → Type 0
LeftErrs P conn k m = m.kind ≡ 3 → LeftErr P conn k m

four_three : ◌≡◌ {A = ℕ} 4 3 → ⊥
four_three h = omega (arith, h)

not_true : (a : Bool) → not a ≡ true → a ≡ false
not_true true h = absurd (false_true h)
not_true false h = refl

and_right : (a b : Bool) → (a && b) ≡ true → b ≡ true
and_right true b h = h
and_right false b h = absurd (false_true h)

and_left : (a b : Bool) → (a && b) ≡ true → a ≡ true
and_left true b h = refl
and_left false b h = absurd (false_true h)

abbrev pub IsAway : List End → ℕ → Type 0
IsAway ends conn = (d : End) → end_at ends conn ≡ Some d → is_here d.standing ≡ false

module _ (P : OpenCall → Type 0) where
  -- what is carried through the closings
  pub record Inner (s : BusState) : Type 0 where
    pub calls : AllByRecursion P s.calls
    pub owned : Owned s.owners

  pub inner_left : (s : BusState) (conn : ℕ) → Inner s → Inner (bus_leaves s conn).state
  inner_left s conn i = record { calls = kept_calls P (λ (c : OpenCall). not (c.caller == conn || c.callee == conn)) s.calls i.calls; owned = gone_owned s.owners conn i.owned }

  module _ (s : BusState) (conn : ℕ) (i : Inner s) where
    abbrev H : ℕ → Envelope → Type 0
    H = LeftErrs P conn

    abbrev t : BusState
    t = record s {
      joined = filter (λ c. not (c == conn)) s.joined;
      owners = after_gone s.owners conn;
      rules = without_rules conn s.rules;
      calls = calls_without conn s.calls;
    }

    news_all : (es : List Envelope) → AllByRecursion IsNews es → AllByRecursion (ToAll H t) es
    news_all [] a = tt
    news_all (e ∷ es) a = ((λ n c at three. absurd (four_three (sym a.0 ∙ three))), news_all es a.1)

    alone : (c k : ℕ) → IsIn c (k ∷ []) → c ≡ k
    alone c k (inl same) = same
    alone c k (inr none) = absurd none

    one_error : (call : OpenCall) → P call → call.callee ≡ conn → (conn ≡ call.caller → ⊥) → (u : Option (List ℕ)) → unique_of s.owners call.caller ≡ u → ToAll H t (error_to u call.serial (codes "NoReply"))
    one_error call p callee differ None h n c at three = absurd at
    one_error call p callee differ (Some name) h n c at three =
        let its : unique_of t.owners call.caller ≡ Some name = gone_other s.owners conn call.caller differ ∙ h in
        record { call = call; its = p; callee = callee; with_ = refl; taker = alone c call.caller (subst (IsIn c) (owners_are t call.caller name (gone_owned s.owners conn i.owned) its) at) }

    errors_all : (calls : List OpenCall) → AllByRecursion P calls → AllByRecursion (ToAll H t) (map (λ (c : OpenCall). error_to (unique_of s.owners c.caller) c.serial (codes "NoReply")) (waiting_for conn calls))
    errors_all [] a = tt
    errors_all (c ∷ cs) a = by (c.callee == conn && not (c.caller == conn)) refl (errors_all cs a.1)
      where
        errors : List OpenCall → List Envelope
        errors xs = map (λ (x : OpenCall). error_to (unique_of s.owners x.caller) x.serial (codes "NoReply")) xs

        by : (b : Bool) → (c.callee == conn && not (c.caller == conn)) ≡ b → AllByRecursion (ToAll H t) (errors (waiting_for conn cs))
            → AllByRecursion (ToAll H t) (errors (if b then c ∷ waiting_for conn cs else waiting_for conn cs))
        by true g r =
            let other : (c.caller == conn) ≡ false = not_true (c.caller == conn) (and_right (c.callee == conn) (not (c.caller == conn)) g) in
            (one_error c a.0 (eqb-true c.callee conn (and_left (c.callee == conn) (not (c.caller == conn)) g)) (λ same. false_true (sym other ∙ eq-eqb c.caller conn (sym same))) (unique_of s.owners c.caller) refl, r)
        by false g r = r

    passed_news : (names : List (List ℕ)) → AllByRecursion IsNews (flat_map (name_passes_on s.owners t.owners conn) names)
    passed_news [] = tt
    passed_news (name ∷ names) =
        let next = owner_in (list_of t.owners.lists name) in
        all_append IsNews (name_passes_on s.owners t.owners conn name) (flat_map (name_passes_on s.owners t.owners conn) names)
        (all_append IsNews (name_acquired t.owners name next) (owner_changed name (name_or_empty s.owners (Some conn)) (name_or_empty t.owners next) ∷ []) (acquired_news t.owners name next) (refl, tt)) (passed_news names)

    farewell_all : (u : Option (List ℕ)) → AllByRecursion (ToAll H t) (farewell s t.owners conn u)
    farewell_all None = tt
    farewell_all (Some own) =
        let news : List Envelope = names_pass_on s.owners t.owners conn ++ owner_changed own own [] ∷ [] in
        all_append (ToAll H t) (no_replies s conn) news (errors_all s.calls i.calls)
        (news_all news (all_append IsNews (names_pass_on s.owners t.owners conn) (owner_changed own own [] ∷ []) (passed_news (owned_by s.owners.lists conn)) (refl, tt)))

    pub leaves_errs : AllByRecursion (Gives H) (bus_leaves s conn).moves
    leaves_errs = said_to_all H t s.next (farewell s t.owners conn (unique_of s.owners conn)) (farewell_all (unique_of s.owners conn))

  -- ON THE DOWN LINKS, behind all closings: who left is away in the end
  left_lasts : (c : Carried) (conn : ℕ) → Over Lasts c.ends (left c conn).ends
  left_lasts c conn = left_over Lasts lasting (λ m e. put_lasts (own_letter m) e) leaves_lasts c conn

  left_away : (c : Carried) (conn : ℕ) (fin : List End) → Over Lasts (left c conn).ends fin → IsAway fin conn
  left_away c conn fin o d h =
      let z = o.back conn d h in
      let step = stepped_over Lasts lasting own_letter (λ m e. put_lasts (own_letter m) e)
      (record { bus = record c.bus { waiting = without_queue c.bus.waiting conn }; ends = with_end conn leaves c.ends }) (bus_leaves c.bus.state conn) in
      let x = step.back conn z.0 z.1 in
      z.2.gone (x.2.gone (by x.0 (with_cases leaves c.ends conn conn x.0 x.1)))
    where
      by : (e : End) → ((b : End) × (end_at c.ends conn ≡ Some b) × (((conn ≡ conn) × (e ≡ leaves b)) ⊎ ((conn ≡ conn → ⊥) × (e ≡ b)))) → is_here e.standing ≡ false
      by e g = at g.2
        where
          at : (((conn ≡ conn) × (e ≡ leaves g.0)) ⊎ ((conn ≡ conn → ⊥) × (e ≡ g.0))) → is_here e.standing ≡ false
          at (inl k) = ap (λ (y : End). is_here y.standing) k.1
          at (inr k) = absurd (k.0 refl)

  module _ (At : ℕ → Letter → Type 0) (fin : List End) (own : (conn k : ℕ) (m : Envelope) → IsAway fin conn → LeftErrs P conn k m → At k (own_letter m)) where
    gives_own : (conn : ℕ) → IsAway fin conn → (moves : List Move) → AllByRecursion (Gives (LeftErrs P conn)) moves → AllByRecursion (Gives (PutsAt At own_letter)) moves
    gives_own conn away [] a = tt
    gives_own conn away (delivers k m ∷ moves) a = (own conn k m away a.0, gives_own conn away moves a.1)
    gives_own conn away (says m ∷ moves) a = (tt, gives_own conn away moves a.1)
    gives_own conn away (closes k ∷ moves) a = (tt, gives_own conn away moves a.1)

    pub left_errs : (c : Carried) (conn : ℕ) → Inner c.bus.state → Over Lasts (left c conn).ends fin → Downs At c.ends → Downs At (left c conn).ends
    left_errs c conn i last d =
        let without : Bus = record c.bus { waiting = without_queue c.bus.waiting conn } in
        stepped_downs At own_letter (record { bus = without; ends = with_end conn leaves c.ends }) (bus_leaves c.bus.state conn)
        (gives_own conn (left_away c conn fin last) (bus_leaves c.bus.state conn).moves (leaves_errs c.bus.state conn i)) (downs_with At leaves conn c.ends (λ e a. tt) d)

    one_closed_errs : (c : Carried) (due : List (ℕ × Why)) → Inner c.bus.state → Over Lasts (one_closed c due).ends fin → Downs At c.ends → Downs At (one_closed c due).ends
    one_closed_errs c [] i last d = d
    one_closed_errs c (first ∷ rest) i last d = left_errs c first.0 i last d

  one_inner : (c : Carried) (due : List (ℕ × Why)) → Inner c.bus.state → Inner (one_closed c due).bus.state
  one_inner c [] i = i
  one_inner c (first ∷ rest) i = let x = inner_left c.bus.state first.0 i in record { calls = x.calls; owned = x.owned }

  pub settled_inner : (rounds : ℕ) (c : Carried) → Inner c.bus.state → Inner (settled rounds c).bus.state
  settled_inner zero c i = i
  settled_inner (suc rounds) c i = settled_inner rounds (one_closed c c.bus.waiting.due) (one_inner c c.bus.waiting.due i)

  settled_lasts : (rounds : ℕ) (c : Carried) → Over Lasts c.ends (settled rounds c).ends
  settled_lasts rounds c = settled_over Lasts lasting (λ m e. put_lasts (own_letter m) e) leaves_lasts rounds c

  pub settled_errs : (At : ℕ → Letter → Type 0) (fin : List End) (own : (conn k : ℕ) (m : Envelope) → IsAway fin conn → LeftErrs P conn k m → At k (own_letter m))
      (rounds : ℕ) (c : Carried) → Inner c.bus.state → (settled rounds c).ends ≡ fin → Downs At c.ends → Downs At (settled rounds c).ends
  settled_errs At fin own zero c i is d = d
  settled_errs At fin own (suc rounds) c i is d =
      let next : Carried = one_closed c c.bus.waiting.due in
      settled_errs At fin own rounds next (one_inner c c.bus.waiting.due i) is
      (one_closed_errs At fin own c c.bus.waiting.due i (subst (Over Lasts next.ends) is (settled_lasts rounds next)) d)

  -- and where one leaves first
  pub left_settled : (At : ℕ → Letter → Type 0) (fin : List End) (own : (conn k : ℕ) (m : Envelope) → IsAway fin conn → LeftErrs P conn k m → At k (own_letter m))
      (rounds : ℕ) (c : Carried) (conn : ℕ) → Inner c.bus.state → (settled rounds (left c conn)).ends ≡ fin → Downs At c.ends → Downs At (settled rounds (left c conn)).ends
  left_settled At fin own rounds c conn i is d =
      let x = inner_left c.bus.state conn i in
      settled_errs At fin own rounds (left c conn) (record { calls = x.calls; owned = x.owned }) is (left_errs At fin own c conn i (subst (Over Lasts (left c conn).ends) is (settled_lasts rounds (left c conn))) d)
