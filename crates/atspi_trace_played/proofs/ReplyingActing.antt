-- EACH CALL OF A READER'S HAS ONE REPLY AT MOST: what is kept, and that it is kept where one end acts, or joins.
use Rattle.std.proofs.Common.{◌≡◌, ◌⊎◌, inl, inr, ℕ, ◌+◌, ◌≤◌, false, List, [], ◌∷◌, ◌++◌, length, Option, None, Some, refl, sym, ap, ◌∙◌, subst, arith}
use Rattle.std.specs.Prelude.{nat_lt}
use Rattle.atspi_script_lines.specs.declared.line.Party.TheVariants.{Reader}
use Rattle.atspi_match.specs.routing.BusState.{OpenCall}
use Rattle.atspi_trace.specs.World.{here, Hearer, a_reader, Said, Letter, End, World}
use Rattle.atspi_trace.specs.Ends.{end_at, with_end}
use Rattle.atspi_trace_laws.proofs.OfOrder.Parties.{same_some}
use Rattle.atspi_trace_laws.proofs.OfOrder.Frame.{with_cases, at_changed, joined_cases}
use Rattle.atspi_trace_caches.proofs.OfSettled.ReplyingActs.{dec}
use Rattle.atspi_trace_played.proofs.ReplyingTally.{one_if, tally, and_false, replies_to, calls_as, calls_from, replies_for, is_name, opens, opens_at, answered, in_letter, in_said}
use Rattle.atspi_trace_played.proofs.ReplyingHolds.{Holds}

-- WHAT IS KEPT: of each serial that a reader used; of those to come there is nothing
abbrev pub limit : ℕ → Hearer → ℕ
limit n h = one_if (nat_lt n h.next)

abbrev pub Once : World → Type 0
Once w = (k r : ℕ) (e : End) (h : Hearer) → end_at w.ends k ≡ Some e → e.who ≡ Reader r → e.role ≡ a_reader h → e.standing ≡ here → (n : ℕ) → Holds w.ends w.bus.state.calls k n e.unique (tally (answered n) h.asked) (limit n h) e

-- ONE END ACTS
pub record Acted (w v : World) (conn : ℕ) (e d : End) : Type 0 where
  pub there : end_at w.ends conn ≡ Some e
  pub now : end_at v.ends conn ≡ Some d
  pub back : (k : ℕ) (x : End) → (k ≡ conn → ⊥) → end_at v.ends k ≡ Some x → end_at w.ends k ≡ Some x
  pub calls : v.bus.state.calls ≡ w.bus.state.calls

pub one_acts : (w v : World) (conn : ℕ) (e : End) (f : End → End) → end_at w.ends conn ≡ Some e → v.ends ≡ with_end conn f w.ends → v.bus.state.calls ≡ w.bus.state.calls → Acted w v conn e (f e)
one_acts w v conn e f there is calls = record {
  there = there;
  now = ap (λ l. end_at l conn) is ∙ at_changed f w.ends conn e there;
  back = λ k x differ h. by k x differ (with_cases f w.ends conn k x (ap (λ l. end_at l k) (sym is) ∙ h));
  calls = calls;
}
  where
    by : (k : ℕ) (x : End) → (k ≡ conn → ⊥) → ((y : End) × (end_at w.ends k ≡ Some y) × (((k ≡ conn) × (x ≡ f y)) ⊎ ((k ≡ conn → ⊥) × (x ≡ y)))) → end_at w.ends k ≡ Some x
    by k x differ y = at y.2
      where
        at : (((k ≡ conn) × (x ≡ f y.0)) ⊎ ((k ≡ conn → ⊥) × (x ≡ y.0))) → end_at w.ends k ≡ Some x
        at (inl h) = absurd (differ h.0)
        at (inr h) = y.1 ∙ ap Some (sym h.1)

pub both_act : (w v : World) (conn : ℕ) (e : End) (f g : End → End) → end_at w.ends conn ≡ Some e → v.ends ≡ with_end conn g (with_end conn f w.ends) → v.bus.state.calls ≡ w.bus.state.calls → Acted w v conn e (g (f e))
both_act w v conn e f g there is calls =
    let middle : World = record w { ends = with_end conn f w.ends } in
    let first : Acted w middle conn e (f e) = one_acts w middle conn e f there refl refl in
    let second : Acted middle v conn (f e) (g (f e)) = one_acts middle v conn (f e) g first.now is calls in
    record { there = there; now = second.now; back = λ k x differ h. first.back k x differ (second.back k x differ h); calls = calls }

abbrev pub Sum : World → End → ℕ → ℕ → ℕ → ℕ
Sum w e k n taken = tally (in_letter (replies_to n)) e.down + (tally (opens k n) w.bus.state.calls + (tally (in_said (calls_as n)) e.up + taken))

-- the end itself
pub record ActsWell (w v : World) (conn : ℕ) (e d : End) : Type 0 where
  pub on : d.standing ≡ here → e.standing ≡ here
  pub unique : d.unique ≡ e.unique
  pub less : (u : Option (List ℕ)) (n : ℕ) → tally (in_letter (calls_from u n)) d.down + tally (in_said (replies_for u n)) d.up ≤ tally (in_letter (calls_from u n)) e.down + tally (in_said (replies_for u n)) e.up
  pub reader : (r : ℕ) (h : Hearer) → d.who ≡ Reader r → d.role ≡ a_reader h → d.standing ≡ here
      → (g : Hearer) × (e.who ≡ Reader r) × (e.role ≡ a_reader g) × ((n : ℕ) → Sum w e conn n (tally (answered n) g.asked) ≤ limit n g → Sum v d conn n (tally (answered n) h.asked) ≤ limit n h)

pub acts_once : (w v : World) (conn : ℕ) (e d : End) → Acted w v conn e d → ActsWell w v conn e d → Once w → Once v
acts_once w v conn e d in_ a i k r x h there who role on n = by (dec k conn)
  where
    Theirs : ℕ → Option (List ℕ) → List OpenCall → ℕ → End → Type 0
    Theirs c u calls y z = tally (in_letter (calls_from u n)) z.down + tally (in_said (replies_for u n)) z.up ≤ tally (opens_at c n y) calls

    both_le : (a b c : ℕ) → a ≤ b → b ≤ c → a ≤ c
    both_le a b c h g = omega (arith, h, g)

    others : (c : ℕ) (u : Option (List ℕ)) → ((y : ℕ) (z : End) → end_at w.ends y ≡ Some z → z.standing ≡ here → tally (in_letter (calls_from u n)) z.down + tally (in_said (replies_for u n)) z.up ≤ tally (opens_at c n y) w.bus.state.calls)
        → (y : ℕ) (z : End) → end_at v.ends y ≡ Some z → z.standing ≡ here → tally (in_letter (calls_from u n)) z.down + tally (in_said (replies_for u n)) z.up ≤ tally (opens_at c n y) v.bus.state.calls
    others c u old y z at stands = subst (λ calls. tally (in_letter (calls_from u n)) z.down + tally (in_said (replies_for u n)) z.up ≤ tally (opens_at c n y) calls) (sym in_.calls) (of (dec y conn))
      where
        of : (y ≡ conn) ⊎ (y ≡ conn → ⊥) → tally (in_letter (calls_from u n)) z.down + tally (in_said (replies_for u n)) z.up ≤ tally (opens_at c n y) w.bus.state.calls
        of (inl same) =
            let it : z ≡ d = same_some z d (sym at ∙ ap (end_at v.ends) same ∙ in_.now) in
            let stood : e.standing ≡ here = a.on (ap (λ (q : End). q.standing) (sym it) ∙ stands) in
            let before : tally (in_letter (calls_from u n)) e.down + tally (in_said (replies_for u n)) e.up ≤ tally (opens_at c n y) w.bus.state.calls = old y e (ap (end_at w.ends) same ∙ in_.there) stood in
            subst (λ (q : End). tally (in_letter (calls_from u n)) q.down + tally (in_said (replies_for u n)) q.up ≤ tally (opens_at c n y) w.bus.state.calls) (sym it)
            (both_le (tally (in_letter (calls_from u n)) d.down + tally (in_said (replies_for u n)) d.up) (tally (in_letter (calls_from u n)) e.down + tally (in_said (replies_for u n)) e.up) (tally (opens_at c n y) w.bus.state.calls)
            (a.less u n) before)
        of (inr differ) = old y z (in_.back y z differ at) stands

    by : (k ≡ conn) ⊎ (k ≡ conn → ⊥) → Holds v.ends v.bus.state.calls k n x.unique (tally (answered n) h.asked) (limit n h) x
    by (inl same) =
        let it : x ≡ d = same_some x d (sym there ∙ ap (end_at v.ends) same ∙ in_.now) in
        let y = a.reader r h (ap (λ (q : End). q.who) (sym it) ∙ who) (ap (λ (q : End). q.role) (sym it) ∙ role) (ap (λ (q : End). q.standing) (sym it) ∙ on) in
        let old = i conn r e y.0 in_.there y.1 y.2 (a.on (ap (λ (q : End). q.standing) (sym it) ∙ on)) n in
        subst (λ (q : End). Holds v.ends v.bus.state.calls k n q.unique (tally (answered n) h.asked) (limit n h) q) (sym it)
        (subst (λ c. Holds v.ends v.bus.state.calls c n d.unique (tally (answered n) h.asked) (limit n h) d) (sym same)
        (record {
          mine = y.3 n old.mine;
          theirs =
              subst (λ u. (p : ℕ) (z : End) → end_at v.ends p ≡ Some z → z.standing ≡ here → tally (in_letter (calls_from u n)) z.down + tally (in_said (replies_for u n)) z.up ≤ tally (opens_at conn n p) v.bus.state.calls) (sym a.unique)
              (others conn e.unique old.theirs);
        }))
    by (inr differ) =
        let old = i k r x h (in_.back k x differ there) who role on n in
        record {
          mine = subst (λ calls. tally (in_letter (replies_to n)) x.down + (tally (opens k n) calls + (tally (in_said (calls_as n)) x.up + tally (answered n) h.asked)) ≤ limit n h) (sym in_.calls) old.mine;
          theirs = others k x.unique old.theirs;
        }

-- WHO JOINS, who is no reader, with no reply on its link; or a reader with its first call
pub joins_once : (w v : World) (nu : End) → v.ends ≡ w.ends ++ nu ∷ [] → v.bus.state.calls ≡ w.bus.state.calls → nu.down ≡ [] → ((u : Option (List ℕ)) (n : ℕ) → tally (in_said (replies_for u n)) nu.up ≡ 0)
    → ((r : ℕ) (h : Hearer) → nu.who ≡ Reader r → nu.role ≡ a_reader h → (n : ℕ) → (nu.unique ≡ None) × (Sum v nu (length w.ends) n (tally (answered n) h.asked) ≤ limit n h)) → Once w → Once v
joins_once w v nu is calls down none new i k r x h there who role on n = by (joined_cases w.ends nu k x (ap (λ l. end_at l k) (sym is) ∙ there))
  where
    nothing : (u : Option (List ℕ)) (y : ℕ) → tally (in_letter (calls_from u n)) nu.down + tally (in_said (replies_for u n)) nu.up ≤ y
    nothing u y = low (tally (in_letter (calls_from u n)) nu.down) (tally (in_said (replies_for u n)) nu.up) y (ap (tally (in_letter (calls_from u n))) down) (none u n)
      where
        low : (a b y : ℕ) → a ≡ 0 → b ≡ 0 → a + b ≤ y
        low a b y h g = omega (arith, h, g)

    unnamed : (y : ℕ) (z : End) → tally (in_letter (calls_from None n)) z.down + tally (in_said (replies_for None n)) z.up ≤ y
    unnamed y z = low (tally (in_letter (calls_from None n)) z.down) (tally (in_said (replies_for None n)) z.up) y (letters z.down) (said z.up)
      where
        low : (a b y : ℕ) → a ≡ 0 → b ≡ 0 → a + b ≤ y
        low a b y h g = omega (arith, h, g)

        no_name : (o : Option (List ℕ)) → is_name o None ≡ false
        no_name None = refl
        no_name (Some a) = refl

        plus : (a b : ℕ) → a ≡ 0 → b ≡ 0 → a + b ≡ 0
        plus a b h g = omega (arith, h, g)

        letters : (ls : List Letter) → tally (in_letter (calls_from None n)) ls ≡ 0
        letters [] = refl
        letters (l ∷ ls) = plus (one_if (calls_from None n l.said.message)) (tally (in_letter (calls_from None n)) ls)
            (ap one_if (and_false (calls_as n l.said.message) (is_name l.said.message.sender None) (no_name l.said.message.sender))) (letters ls)

        said : (ss : List Said) → tally (in_said (replies_for None n)) ss ≡ 0
        said [] = refl
        said (s ∷ ss) = plus (one_if (replies_for None n s.message)) (tally (in_said (replies_for None n)) ss) (ap one_if (and_false (replies_to n s.message) (is_name s.message.destination None) (no_name s.message.destination))) (said ss)

    by : (end_at w.ends k ≡ Some x) ⊎ ((k ≡ length w.ends) × (x ≡ nu)) → Holds v.ends v.bus.state.calls k n x.unique (tally (answered n) h.asked) (limit n h) x
    by (inl at) =
        let old = i k r x h at who role on n in
        record {
          mine = subst (λ c. tally (in_letter (replies_to n)) x.down + (tally (opens k n) c + (tally (in_said (calls_as n)) x.up + tally (answered n) h.asked)) ≤ limit n h) (sym calls) old.mine;
          theirs = λ y z at_z stands. of y z stands (joined_cases w.ends nu y z (ap (λ l. end_at l y) (sym is) ∙ at_z));
        }
      where
        of : (y : ℕ) (z : End) → z.standing ≡ here → (end_at w.ends y ≡ Some z) ⊎ ((y ≡ length w.ends) × (z ≡ nu))
            → tally (in_letter (calls_from x.unique n)) z.down + tally (in_said (replies_for x.unique n)) z.up ≤ tally (opens_at k n y) v.bus.state.calls
        of y z stands (inl q) =
            subst (λ c. tally (in_letter (calls_from x.unique n)) z.down + tally (in_said (replies_for x.unique n)) z.up ≤ tally (opens_at k n y) c) (sym calls) ((i k r x h at who role on n).theirs y z q stands)
        of y z stands (inr q) =
            subst (λ (d : End). tally (in_letter (calls_from x.unique n)) d.down + tally (in_said (replies_for x.unique n)) d.up ≤ tally (opens_at k n y) v.bus.state.calls) (sym q.1)
            (nothing x.unique (tally (opens_at k n y) v.bus.state.calls))
    by (inr at) =
        let y = new r h (ap (λ (q : End). q.who) (sym at.1) ∙ who) (ap (λ (q : End). q.role) (sym at.1) ∙ role) n in
        subst (λ (q : End). Holds v.ends v.bus.state.calls k n q.unique (tally (answered n) h.asked) (limit n h) q) (sym at.1)
        (subst (λ c. Holds v.ends v.bus.state.calls c n nu.unique (tally (answered n) h.asked) (limit n h) nu) (sym at.0)
        (subst (λ u. Holds v.ends v.bus.state.calls (length w.ends) n u (tally (answered n) h.asked) (limit n h) nu) (sym y.0)
        (record { mine = y.1; theirs = λ p z q stands. unnamed (tally (opens_at (length w.ends) n p) v.bus.state.calls) z })))
