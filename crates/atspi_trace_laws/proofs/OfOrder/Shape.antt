-- The shape of a world: each end is in its party's role, no party has two ends, and they are numbered in the order of joining.
use Rattle.std.proofs.Common.{◌≡◌, ◌⊎◌, inl, inr, ℕ, suc, ◌<◌, ◌≤◌, Bool, true, false, List, [], ◌∷◌, ◌++◌, length, Some, refl, sym, ap, ◌∙◌, subst, arith, cond, length-append}
use Rattle.std.specs.Prelude.{filter}
use Rattle.atspi_script_lines.specs.declared.line.Party.{Party}
use Rattle.atspi_script_lines.specs.declared.line.Party.TheVariants.{Bus as The_bus, Registry, App, Reader}
use Rattle.atspi_trace.specs.World.{Role, the_registry, an_application, a_reader, Letter, End, World, first_world}
use Rattle.atspi_trace.specs.Ends.{is_here, number_of, end_at, is_app, is_reader, app_count, reader_count, put_down, leaves}
use Rattle.atspi_trace_laws.proofs.OfOrder.Parties.{same_some, false_true}
use Rattle.atspi_trace_laws.proofs.OfOrder.Frame.{Over, IsOrder, joined_cases}

abbrev pub RoleFits : Party → Role → Type 0
RoleFits Registry (the_registry s) = Unit {0}
RoleFits (App a) (an_application s) = Unit {0}
RoleFits (Reader r) (a_reader h) = Unit {0}
RoleFits who role = ⊥

-- the same party, in its role; an end that is not here is not here again
pub record Lasts (e d : End) : Type 0 where
  pub whose : d.who ≡ e.who
  pub role : RoleFits e.who e.role → RoleFits d.who d.role
  pub gone : is_here e.standing ≡ false → is_here d.standing ≡ false

pub lasting : IsOrder Lasts
lasting = record {
  same = λ e. record { whose = refl; role = λ r. r; gone = λ h. h };
  both = λ e d c f g. record { whose = g.whose ∙ f.whose; role = λ r. g.role (f.role r); gone = λ h. g.gone (f.gone h) };
}

-- whatever is on its links, and whatever its name
pub put_lasts : (letter : Letter) (e : End) → Lasts e (put_down letter e)
put_lasts letter e = record { whose = refl; role = λ r. r; gone = λ h. h }

pub leaves_lasts : (e : End) → Lasts e (leaves e)
leaves_lasts e = record { whose = refl; role = λ r. r; gone = λ h. refl }

pub record Shape (w : World) : Type 0 where
  pub roles : (k : ℕ) (e : End) → end_at w.ends k ≡ Some e → RoleFits e.who e.role
  pub one : (j k : ℕ) (d e : End) → end_at w.ends j ≡ Some d → end_at w.ends k ≡ Some e → d.who ≡ e.who → j ≡ k
  pub apps : (k a : ℕ) (e : End) → end_at w.ends k ≡ Some e → e.who ≡ App a → a < app_count w.ends
  pub readers : (k r : ℕ) (e : End) → end_at w.ends k ≡ Some e → e.who ≡ Reader r → r < reader_count w.ends
  pub registry : (e : End) → end_at w.ends 0 ≡ Some e → e.who ≡ Registry
  pub alone : (2 ≤ length w.ends) ⊎ (w ≡ first_world w.bus.quota)

-- counts of ends by their parties
pub counts : (p : Party → Bool) (xs ys : List End) → length ys ≡ length xs → ((k : ℕ) (d : End) → end_at ys k ≡ Some d → (e : End) × (end_at xs k ≡ Some e) × (d.who ≡ e.who))
    → length (filter (λ (e : End). p e.who) ys) ≡ length (filter (λ (e : End). p e.who) xs)
counts p [] [] s b = refl
counts p [] (y ∷ ys) s b = absurd (omega (arith, s))
counts p (x ∷ xs) [] s b = absurd (omega (arith, s))
counts p (x ∷ xs) (y ∷ ys) s b =
    let first : (e : End) × (Some x ≡ Some e) × (y.who ≡ e.who) = b 0 y refl in
    let whose : y.who ≡ x.who = first.2 ∙ ap (λ (e : End). e.who) (sym (same_some x first.0 first.1)) in
    let rest : length ys ≡ length xs = omega (arith, s) in
    let ih = counts p xs ys rest (λ k d h. b (suc k) d h) in
    ap (λ w. length (cond (p w) (y ∷ filter (λ (e : End). p e.who) ys) (filter (λ (e : End). p e.who) ys))) whose ∙ by (p x.who) ih
  where
    by : (t : Bool) → length (filter (λ (e : End). p e.who) ys) ≡ length (filter (λ (e : End). p e.who) xs)
        → length (cond t (y ∷ filter (λ (e : End). p e.who) ys) (filter (λ (e : End). p e.who) ys)) ≡ length (cond t (x ∷ filter (λ (e : End). p e.who) xs) (filter (λ (e : End). p e.who) xs))
    by true h = ap suc h
    by false h = h

pub more : (p : End → Bool) (xs : List End) (n : End) → length (filter p xs) ≤ length (filter p (xs ++ n ∷ []))
more p [] n = omega arith
more p (x ∷ xs) n = by (p x) (more p xs n)
  where
    by : (t : Bool) → length (filter p xs) ≤ length (filter p (xs ++ n ∷ [])) → length (cond t (x ∷ filter p xs) (filter p xs)) ≤ length (cond t (x ∷ filter p (xs ++ n ∷ [])) (filter p (xs ++ n ∷ [])))
    by true h = omega (arith, h)
    by false h = h

pub new : (p : End → Bool) (xs : List End) (n : End) → p n ≡ true → length (filter p xs) < length (filter p (xs ++ n ∷ []))
new p [] n h = by (p n) h
  where
    by : (t : Bool) → t ≡ true → 0 < length (cond t (n ∷ []) [])
    by true e = omega arith
    by false e = absurd (false_true e)
new p (x ∷ xs) n h = by (p x) (new p xs n h)
  where
    by : (t : Bool) → length (filter p xs) < length (filter p (xs ++ n ∷ [])) → length (cond t (x ∷ filter p xs) (filter p xs)) < length (cond t (x ∷ filter p (xs ++ n ∷ [])) (filter p (xs ++ n ∷ [])))
    by true g = omega (arith, g)
    by false g = g

-- what lasts keeps the shape
pub shape_lasts : (w v : World) → Shape w → Over Lasts w.ends v.ends → (2 ≤ length w.ends) ⊎ (v ≡ first_world v.bus.quota) → Shape v
shape_lasts w v s o alone = record {
  roles = λ k d h. let e = o.back k d h in e.2.role (s.roles k e.0 e.1);
  one = λ j k d e h g same.
      let x = o.back j d h in
      let y = o.back k e g in
      s.one j k x.0 y.0 x.1 y.1 (sym x.2.whose ∙ same ∙ y.2.whose);
  apps = λ k a d h who.
      let e = o.back k d h in
      subst (λ n. a < n) (sym (counts is_app w.ends v.ends o.size whose)) (s.apps k a e.0 e.1 (sym e.2.whose ∙ who));
  readers = λ k a d h who.
      let e = o.back k d h in
      subst (λ n. a < n) (sym (counts is_reader w.ends v.ends o.size whose)) (s.readers k a e.0 e.1 (sym e.2.whose ∙ who));
  registry = λ d h. let e = o.back 0 d h in e.2.whose ∙ s.registry e.0 e.1;
  alone = by alone;
}
  where
    whose : (k : ℕ) (d : End) → end_at v.ends k ≡ Some d → (e : End) × (end_at w.ends k ≡ Some e) × (d.who ≡ e.who)
    whose k d h = let e = o.back k d h in (e.0, e.1, e.2.whose)

    by : ((2 ≤ length w.ends) ⊎ (v ≡ first_world v.bus.quota)) → (2 ≤ length v.ends) ⊎ (v ≡ first_world v.bus.quota)
    by (inl h) = inl (subst (λ n. 2 ≤ n) (sym o.size) h)
    by (inr h) = inr h

-- who joins is new: the next application, or the next reader
abbrev pub IsNew : World → Party → Type 0
IsNew w (App a) = a ≡ app_count w.ends
IsNew w (Reader r) = r ≡ reader_count w.ends
IsNew w who = ⊥

app_of : (p : Party) (a b : ℕ) → p ≡ App a → p ≡ App b → a ≡ b
app_of p a b h g = ap number_of (sym h ∙ g)

reader_of : (p : Party) (a b : ℕ) → p ≡ Reader a → p ≡ Reader b → a ≡ b
reader_of p a b h g = ap number_of (sym h ∙ g)

apart : (a b : ℕ) → a < b → a ≡ b → ⊥
apart a b h g = omega (arith, h, g)

pub not_new : (w : World) (s : Shape w) (k : ℕ) (e : End) (who : Party) → end_at w.ends k ≡ Some e → IsNew w who → e.who ≡ who → ⊥
not_new w s k e (App a) h n g = apart a (app_count w.ends) (s.apps k a e h g) n
not_new w s k e (Reader r) h n g = apart r (reader_count w.ends) (s.readers k r e h g) n
not_new w s k e The_bus h n g = n
not_new w s k e Registry h n g = n

-- the shape of a world that an end joined
module _ (w v : World) (s : Shape w) (n : End) (fits : RoleFits n.who n.role) (is_new : IsNew w n.who) (joined : v.ends ≡ w.ends ++ n ∷ []) (some : 1 ≤ length w.ends) where
  there : (k : ℕ) (d : End) → end_at v.ends k ≡ Some d → (end_at w.ends k ≡ Some d) ⊎ ((k ≡ length w.ends) × (d ≡ n))
  there k d h = joined_cases w.ends n k d (ap (λ es. end_at es k) (sym joined) ∙ h)

  role_at : (k : ℕ) (d : End) → ((end_at w.ends k ≡ Some d) ⊎ ((k ≡ length w.ends) × (d ≡ n))) → RoleFits d.who d.role
  role_at k d (inl h) = s.roles k d h
  role_at k d (inr h) = subst (λ (e : End). RoleFits e.who e.role) (sym h.1) fits

  one_at : (j k : ℕ) (d e : End) → d.who ≡ e.who → ((end_at w.ends j ≡ Some d) ⊎ ((j ≡ length w.ends) × (d ≡ n))) → ((end_at w.ends k ≡ Some e) ⊎ ((k ≡ length w.ends) × (e ≡ n))) → j ≡ k
  one_at j k d e same (inl h) (inl g) = s.one j k d e h g same
  one_at j k d e same (inr h) (inr g) = h.0 ∙ sym g.0
  one_at j k d e same (inl h) (inr g) = absurd (not_new w s j d n.who h is_new (same ∙ ap (λ (x : End). x.who) g.1))
  one_at j k d e same (inr h) (inl g) = absurd (not_new w s k e n.who g is_new (sym same ∙ ap (λ (x : End). x.who) h.1))

  app_at : (k a : ℕ) (d : End) → d.who ≡ App a → ((end_at w.ends k ≡ Some d) ⊎ ((k ≡ length w.ends) × (d ≡ n))) → a < app_count (w.ends ++ n ∷ [])
  app_at k a d who (inl h) = let old = s.apps k a d h who in let grown = more (λ (e : End). is_app e.who) w.ends n in omega (arith, old, grown)
  app_at k a d who (inr h) =
      let whose : n.who ≡ App a = ap (λ (x : End). x.who) (sym h.1) ∙ who in
      let number : a ≡ app_count w.ends = subst (λ p. IsNew w p) whose is_new in
      let grown = new (λ (e : End). is_app e.who) w.ends n (ap is_app whose) in
      omega (arith, number, grown)

  reader_at : (k a : ℕ) (d : End) → d.who ≡ Reader a → ((end_at w.ends k ≡ Some d) ⊎ ((k ≡ length w.ends) × (d ≡ n))) → a < reader_count (w.ends ++ n ∷ [])
  reader_at k a d who (inl h) = let old = s.readers k a d h who in let grown = more (λ (e : End). is_reader e.who) w.ends n in omega (arith, old, grown)
  reader_at k a d who (inr h) =
      let whose : n.who ≡ Reader a = ap (λ (x : End). x.who) (sym h.1) ∙ who in
      let number : a ≡ reader_count w.ends = subst (λ p. IsNew w p) whose is_new in
      let grown = new (λ (e : End). is_reader e.who) w.ends n (ap is_reader whose) in
      omega (arith, number, grown)

  first_at : (d : End) → ((end_at w.ends 0 ≡ Some d) ⊎ ((0 ≡ length w.ends) × (d ≡ n))) → d.who ≡ Registry
  first_at d (inl h) = s.registry d h
  first_at d (inr h) = let none : 0 ≡ length w.ends = h.0 in absurd (omega (arith, none, some))

  pub shape_joined : Shape v
  shape_joined = record {
    roles = λ k d h. role_at k d (there k d h);
    one = λ j k d e h g same. one_at j k d e same (there j d h) (there k e g);
    apps = λ k a d h who. subst (λ es. a < app_count es) (sym joined) (app_at k a d who (there k d h));
    readers = λ k a d h who. subst (λ es. a < reader_count es) (sym joined) (reader_at k a d who (there k d h));
    registry = λ d h. first_at d (there 0 d h);
    alone = inl (two (ap length joined));
  }
    where
      two : length v.ends ≡ length (w.ends ++ n ∷ []) → 2 ≤ length v.ends
      two h = omega (arith, h, length-append w.ends (n ∷ []), some)
