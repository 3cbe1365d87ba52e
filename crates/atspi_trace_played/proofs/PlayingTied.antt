-- Readers stay tied to their own states where others act, and where one of them changes.
use Rattle.std.proofs.Common.{◌≡◌, ◌⊎◌, inl, inr, ℕ, suc, Bool, true, false, List, [], ◌∷◌, ◌++◌, length, Some, sym, ap, ◌∙◌, subst, cond}
use Rattle.std.specs.Prelude.{filter, slice_get, slice_set}
use Rattle.atspi_script_lines.specs.declared.line.Party.TheVariants.{Reader}
use Rattle.atspi_protocol.specs.following.ReaderState.{ReaderState}
use Rattle.atspi_trace.specs.Entry.{Entry}
use Rattle.atspi_trace.specs.World.{Hearer, a_reader, End, World}
use Rattle.atspi_trace.specs.Ends.{number_of, end_at, with_end, is_reader, reader_count}
use Rattle.atspi_trace_laws.specs.laws.NineLaws.{Everywhere}
use Rattle.atspi_trace_caches.specs.settled.Laws.{AsksOfNode}
use Rattle.atspi_trace_laws.proofs.OfOrder.Parties.{same_some}
use Rattle.atspi_trace_laws.proofs.OfOrder.Frame.{with_cases, with_length, joined_cases}
use Rattle.atspi_trace_laws.proofs.OfOrder.Shape.{Shape, counts}
use Rattle.atspi_trace.specs.play.Playing.{Playing}
use Rattle.atspi_trace_played.proofs.Facts.{Tied, AllTied}
use Rattle.atspi_trace_played.proofs.PlayingEnds.{Untouched}
use Rattle.atspi_trace_played.proofs.PlayingLists.{set_here, set_other, set_length, got_more, got_last, one_longer}

-- a reader changed, and no other
pub record Changed (w v : World) (r : ℕ) (g : Hearer) : Type 0 where
  pub back : (k q : ℕ) (d : End) → end_at v.ends k ≡ Some d → d.who ≡ Reader q
      → ((q ≡ r) × (d.role ≡ a_reader g)) ⊎ ((q ≡ r → ⊥) × ((e : End) × (end_at w.ends k ≡ Some e) × (e.who ≡ Reader q) × (d.role ≡ e.role)))
  pub count : reader_count v.ends ≡ reader_count w.ends

reader_is : (q r : ℕ) → Reader q ≡ Reader r → q ≡ r
reader_is q r h = ap number_of h

pub changed_at : (w v : World) (conn r : ℕ) (e : End) (g : Hearer) (f : End → End) → Shape w → end_at w.ends conn ≡ Some e → e.who ≡ Reader r → v.ends ≡ with_end conn f w.ends
    → ((x : End) → (f x).who ≡ x.who) → (f e).role ≡ a_reader g → Changed w v r g
changed_at w v conn r e g f s there who is same role = record {
  back = λ k q d at whose. by k q d whose (with_cases f w.ends conn k d (ap (λ l. end_at l k) (sym is) ∙ at));
  count = ap reader_count is ∙ counts is_reader w.ends (with_end conn f w.ends) (with_length f w.ends conn) (λ k d at. kept k d (with_cases f w.ends conn k d at));
}
  where
    kept : (k : ℕ) (d : End) → ((x : End) × (end_at w.ends k ≡ Some x) × (((k ≡ conn) × (d ≡ f x)) ⊎ ((k ≡ conn → ⊥) × (d ≡ x)))) → (x : End) × (end_at w.ends k ≡ Some x) × (d.who ≡ x.who)
    kept k d c = (c.0, c.1, at c.2)
      where
        at : (((k ≡ conn) × (d ≡ f c.0)) ⊎ ((k ≡ conn → ⊥) × (d ≡ c.0))) → d.who ≡ c.0.who
        at (inl h) = ap (λ (y : End). y.who) h.1 ∙ same c.0
        at (inr h) = ap (λ (y : End). y.who) h.1

    by : (k q : ℕ) (d : End) → d.who ≡ Reader q → ((x : End) × (end_at w.ends k ≡ Some x) × (((k ≡ conn) × (d ≡ f x)) ⊎ ((k ≡ conn → ⊥) × (d ≡ x))))
        → ((q ≡ r) × (d.role ≡ a_reader g)) ⊎ ((q ≡ r → ⊥) × ((e : End) × (end_at w.ends k ≡ Some e) × (e.who ≡ Reader q) × (d.role ≡ e.role)))
    by k q d whose c = at c.2
      where
        at : (((k ≡ conn) × (d ≡ f c.0)) ⊎ ((k ≡ conn → ⊥) × (d ≡ c.0)))
            → ((q ≡ r) × (d.role ≡ a_reader g)) ⊎ ((q ≡ r → ⊥) × ((e : End) × (end_at w.ends k ≡ Some e) × (e.who ≡ Reader q) × (d.role ≡ e.role)))
        at (inl h) =
            let x_is : c.0 ≡ e = same_some c.0 e (sym c.1 ∙ ap (end_at w.ends) h.0 ∙ there) in
            let d_is : d ≡ f e = h.1 ∙ ap f x_is in
            inl (reader_is q r (sym whose ∙ ap (λ (y : End). y.who) d_is ∙ same e ∙ who), ap (λ (y : End). y.role) d_is ∙ role)
        at (inr h) =
            let x_who : c.0.who ≡ Reader q = ap (λ (y : End). y.who) (sym h.1) ∙ whose in
            let elsewhere : q ≡ r → ⊥ = λ qr. h.0 (s.one k conn c.0 e c.1 there (x_who ∙ ap Reader qr ∙ sym who)) in
            inr (elsewhere, (c.0, c.1, x_who, ap (λ (y : End). y.role) h.1))

-- ALL ARE TIED STILL, where no reader acts
pub tied_apart : (es fs : List Entry) (p : Playing) (v : World) → Untouched p.world v
    → ((k r : ℕ) (e : End) (h : Hearer) (s : ReaderState) → end_at p.world.ends k ≡ Some e → e.who ≡ Reader r → e.role ≡ a_reader h → Tied es p.world r h s → Tied fs v r h s)
    → Everywhere AsksOfNode fs → AllTied es p → AllTied fs (record p { world = v })
tied_apart es fs p v u more nodes all = record {
  tied = λ k r d there who.
      let b = u.back k r d there who in
      let t = all.tied k r b.0 b.1 b.2 in
      (t.0, b.3 t.0 t.1, (t.2.0, t.2.1, more k r b.0 t.0 t.2.0 b.1 b.2 t.1 t.2.2));
  count = u.count ∙ all.count;
  of_nodes = nodes;
}

-- where one changes
pub tied_changed : (es fs : List Entry) (p : Playing) (v : World) (r : ℕ) (g : Hearer) (s t : ReaderState) → Changed p.world v r g → slice_get p.readers r ≡ Some s
    → ((k q : ℕ) (e : End) (h : Hearer) (o : ReaderState) → (q ≡ r → ⊥) → end_at p.world.ends k ≡ Some e → e.who ≡ Reader q → e.role ≡ a_reader h → Tied es p.world q h o → Tied fs v q h o)
    → Tied fs v r g t → Everywhere AsksOfNode fs → AllTied es p → AllTied fs (record { world = v; readers = slice_set p.readers r t })
tied_changed es fs p v r g s t c at others its nodes all = record {
  tied = λ k q d there who. by k q d (c.back k q d there who);
  count = c.count ∙ all.count ∙ sym (set_length p.readers r t);
  of_nodes = nodes;
}
  where
    by : (k q : ℕ) (d : End) → (((q ≡ r) × (d.role ≡ a_reader g)) ⊎ ((q ≡ r → ⊥) × ((e : End) × (end_at p.world.ends k ≡ Some e) × (e.who ≡ Reader q) × (d.role ≡ e.role))))
        → (h : Hearer) × (d.role ≡ a_reader h) × ((o : ReaderState) × (slice_get (slice_set p.readers r t) q ≡ Some o) × Tied fs v q h o)
    by k q d (inl x) =
        (g, x.1, (t, ap (slice_get (slice_set p.readers r t)) x.0 ∙ set_here p.readers r s t at, subst (λ n. Tied fs v n g t) (sym x.0) its))
    by k q d (inr x) =
        let e = x.1 in
        let o = all.tied k q e.0 e.1 e.2 in
        (o.0, e.3 ∙ o.1, (o.2.0, set_other p.readers r q t x.0 ∙ o.2.1, others k q e.0 o.0 o.2.0 x.0 e.1 e.2 o.1 o.2.2))

-- where one starts
count_more : (xs : List End) (n : End) → is_reader n.who ≡ true → reader_count (xs ++ n ∷ []) ≡ suc (reader_count xs)
count_more [] n h = ap (λ b. length (cond b (n ∷ []) [])) h
count_more (x ∷ xs) n h = by (is_reader x.who) (count_more xs n h)
  where
    by : (b : Bool) → reader_count (xs ++ n ∷ []) ≡ suc (reader_count xs)
        → length (cond b (x ∷ filter (λ (e : End). is_reader e.who) (xs ++ n ∷ [])) (filter (λ (e : End). is_reader e.who) (xs ++ n ∷ []))) ≡ suc
        (length (cond b (x ∷ filter (λ (e : End). is_reader e.who) xs) (filter (λ (e : End). is_reader e.who) xs)))
    by true g = ap suc g
    by false g = g

pub tied_joined : (es fs : List Entry) (p : Playing) (v : World) (n : End) (g : Hearer) (t : ReaderState) → v.ends ≡ p.world.ends ++ n ∷ [] → n.who ≡ Reader (reader_count p.world.ends) → n.role ≡ a_reader g
    → ((k r : ℕ) (e : End) (h : Hearer) (s : ReaderState) → end_at p.world.ends k ≡ Some e → e.who ≡ Reader r → e.role ≡ a_reader h → Tied es p.world r h s → Tied fs v r h s)
    → Tied fs v (reader_count p.world.ends) g t → Everywhere AsksOfNode fs → AllTied es p → AllTied fs (record { world = v; readers = p.readers ++ t ∷ [] })
tied_joined es fs p v n g t is who role more its nodes all = record {
  tied = λ k r d there whose. by k r d whose (joined_cases p.world.ends n k d (ap (λ l. end_at l k) (sym is) ∙ there));
  count = ap reader_count is ∙ count_more p.world.ends n (ap is_reader who) ∙ ap suc all.count ∙ sym (one_longer p.readers t);
  of_nodes = nodes;
}
  where
    by : (k r : ℕ) (d : End) → d.who ≡ Reader r → ((end_at p.world.ends k ≡ Some d) ⊎ ((k ≡ length p.world.ends) × (d ≡ n)))
        → (h : Hearer) × (d.role ≡ a_reader h) × ((s : ReaderState) × (slice_get (p.readers ++ t ∷ []) r ≡ Some s) × Tied fs v r h s)
    by k r d whose (inl h) =
        let o = all.tied k r d h whose in
        (o.0, o.1, (o.2.0, got_more p.readers t r o.2.0 o.2.1, more k r d o.0 o.2.0 h whose o.1 o.2.2))
    by k r d whose (inr h) =
        let number : r ≡ reader_count p.world.ends = reader_is r (reader_count p.world.ends) (sym whose ∙ ap (λ (y : End). y.who) h.1 ∙ who) in (
          g,
          ap (λ (y : End). y.role) h.1 ∙ role,
          (
            t,
            ap (slice_get (p.readers ++ t ∷ [])) (number ∙ all.count) ∙ got_last p.readers t,
            subst (λ m. Tied fs v m g t) (sym number) its,
          ),
        )
