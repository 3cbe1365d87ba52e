-- The ends of parties, where one end changes and where one joins.
use Rattle.std.proofs.Common.{◌≡◌, ℕ, zero, suc, ◌+◌, ◌<◌, Bool, true, false, cond, List, [], ◌∷◌, ◌++◌, length, map, Option, None, Some, refl, sym, ap, ◌∙◌, arith}
use Rattle.std.specs.Prelude.{not, filter}
use Rattle.std.specs.List.{find}
use Rattle.std.specs.Option.{option_map}
use Rattle.std.proofs.lemmas.Option.{same_Some}
use Rattle.atspi_tree_model.specs.Forest.{first_of}
use Rattle.atspi_script_lines.specs.declared.line.Party.{Party}
use Rattle.atspi_trace.specs.World.{Role, End}
use Rattle.atspi_trace.specs.Ends.{same_party, conn_of, end_at, end_of, with_end}
use Rattle.atspi_world.proofs.Conns.{place_in, place_is}
use Rattle.atspi_world_parties.proofs.Seats.{end_of-find}

-- the end of a party
abbrev pub seek : Party → List End → Option End
seek who ends = find (λ (e : End). same_party e.who who) ends

-- the first end of a party is at a connection
abbrev IsFirst : Party → List End → ℕ → Type 0
IsFirst who [] conn = ⊥
IsFirst who (e ∷ es) zero = same_party e.who who ≡ true
IsFirst who (e ∷ es) (suc conn) = (same_party e.who who ≡ false) × IsFirst who es conn

is_first : (ends : List End) (who : Party) (conn : ℕ) → place_in who ends ≡ conn → conn < length ends → IsFirst who ends conn
is_first [] who conn p l = absurd (omega (arith, l))
is_first (e ∷ es) who zero p l = by (same_party e.who who) refl p
  where
    by : (b : Bool) → same_party e.who who ≡ b → cond (not b) (1 + place_in who es) 0 ≡ 0 → same_party e.who who ≡ true
    by true t h = t
    by false t h = absurd (omega (arith, h))
is_first (e ∷ es) who (suc conn) p l = by (same_party e.who who) refl p (λ q. is_first es who conn q (omega (arith, l)))
  where
    by : (b : Bool) → same_party e.who who ≡ b → cond (not b) (1 + place_in who es) 0 ≡ suc conn → (place_in who es ≡ conn → IsFirst who es conn)
        → (same_party e.who who ≡ false) × IsFirst who es conn
    by true t h go = absurd (omega (arith, h))
    by false t h go = (t, go (omega (arith, h)))

module _ (f : End → End) (same : (e : End) → (f e).who ≡ e.who) where
  own_first : (who : Party) (ends : List End) (conn : ℕ) (e : End) → IsFirst who ends conn → end_at ends conn ≡ Some e → seek who (with_end conn f ends) ≡ Some (f e)
  own_first who [] zero e i at = absurd i
  own_first who [] (suc conn) e i at = absurd i
  own_first who (x ∷ xs) zero e i at =
      ap (λ b. cond b (Some (f x)) (seek who xs)) (ap (λ p. same_party p who) (same x) ∙ i) ∙ ap (λ y. Some (f y)) (same_Some x e at)
  own_first who (x ∷ xs) (suc conn) e i at = ap (λ b. cond b (Some x) (seek who (with_end conn f xs))) i.0 ∙ own_first who xs conn e i.1 at

  -- the party whose end changes
  pub own_end : (who : Party) (ends : List End) (conn : ℕ) (e : End) → conn_of ends who ≡ Some conn → end_at ends conn ≡ Some e → end_of (with_end conn f ends) who ≡ Some (f e)
  own_end who ends conn e h at =
      let place = place_is ends who conn h in
      end_of-find (with_end conn f ends) who ∙ own_first who ends conn e (is_first ends who conn place.0 place.1) at

  seek_other : (who : Party) (ends : List End) (conn : ℕ) → ((e : End) → end_at ends conn ≡ Some e → same_party e.who who ≡ false) → seek who (with_end conn f ends) ≡ seek who ends
  seek_other who [] zero differs = refl
  seek_other who [] (suc conn) differs = refl
  seek_other who (e ∷ es) zero differs =
      ap (λ b. cond b (Some (f e)) (seek who es)) (ap (λ p. same_party p who) (same e) ∙ differs e refl) ∙ sym (ap (λ b. cond b (Some e) (seek who es)) (differs e refl))
  seek_other who (e ∷ es) (suc conn) differs = ap (λ o. cond (same_party e.who who) (Some e) o) (seek_other who es conn differs)

  -- another party
  pub other_end : (who : Party) (ends : List End) (conn : ℕ) → ((e : End) → end_at ends conn ≡ Some e → same_party e.who who ≡ false) → end_of (with_end conn f ends) who ≡ end_of ends who
  other_end who ends conn differs = end_of-find (with_end conn f ends) who ∙ seek_other who ends conn differs ∙ sym (end_of-find ends who)

  -- how many there are of a kind
  pub same_count : (p : Party → Bool) (ends : List End) (conn : ℕ) → length (filter (λ (e : End). p e.who) (with_end conn f ends)) ≡ length (filter (λ (e : End). p e.who) ends)
  same_count p [] zero = refl
  same_count p [] (suc conn) = refl
  same_count p (e ∷ es) zero = ap (λ b. length (cond b (f e ∷ filter (λ (x : End). p x.who) es) (filter (λ (x : End). p x.who) es))) (ap p (same e)) ∙ by (p e.who)
    where
      by : (b : Bool) → length (cond b (f e ∷ filter (λ (x : End). p x.who) es) (filter (λ (x : End). p x.who) es)) ≡ length (cond b (e ∷ filter (λ (x : End). p x.who) es) (filter (λ (x : End). p x.who) es))
      by true = refl
      by false = refl
  same_count p (e ∷ es) (suc conn) = by (p e.who) (same_count p es conn)
    where
      by : (b : Bool) → length (filter (λ (x : End). p x.who) (with_end conn f es)) ≡ length (filter (λ (x : End). p x.who) es)
          → length (cond b (e ∷ filter (λ (x : End). p x.who) (with_end conn f es)) (filter (λ (x : End). p x.who) (with_end conn f es))) ≡ length (cond b (e ∷ filter (λ (x : End). p x.who) es) (filter (λ (x : End). p x.who) es))
      by true h = ap suc h
      by false h = h

-- who ends are, and what they play
abbrev pub part_of : End → Party × Role
part_of e = (e.who, e.role)

abbrev role_in : Party → List (Party × Role) → Option Role
role_in who [] = None
role_in who (x ∷ xs) = cond (same_party x.0 who) (Some x.1) (role_in who xs)

seek_role : (who : Party) (ends : List End) → option_map (λ (e : End). e.role) (seek who ends) ≡ role_in who (map part_of ends)
seek_role who [] = refl
seek_role who (e ∷ es) = by (same_party e.who who) (seek_role who es)
  where
    by : (b : Bool) → option_map (λ (x : End). x.role) (seek who es) ≡ role_in who (map part_of es)
        → option_map (λ (x : End). x.role) (cond b (Some e) (seek who es)) ≡ cond b (Some e.role) (role_in who (map part_of es))
    by true h = refl
    by false h = h

-- where all are and play the same
pub same_role : (who : Party) (ends ends' : List End) → map part_of ends' ≡ map part_of ends → option_map (λ (e : End). e.role) (end_of ends' who) ≡ option_map (λ (e : End). e.role) (end_of ends who)
same_role who ends ends' same =
    ap (option_map (λ (e : End). e.role)) (end_of-find ends' who) ∙ seek_role who ends' ∙ ap (role_in who) same ∙ sym (seek_role who ends)
    ∙ sym (ap (option_map (λ (e : End). e.role)) (end_of-find ends who))

abbrev part_count : (p : Party → Bool) → List (Party × Role) → ℕ
part_count p [] = 0
part_count p (x ∷ xs) = cond (p x.0) (suc (part_count p xs)) (part_count p xs)

count_parts : (p : Party → Bool) (ends : List End) → length (filter (λ (e : End). p e.who) ends) ≡ part_count p (map part_of ends)
count_parts p [] = refl
count_parts p (e ∷ es) = by (p e.who) (count_parts p es)
  where
    by : (b : Bool) → length (filter (λ (x : End). p x.who) es) ≡ part_count p (map part_of es)
        → length (cond b (e ∷ filter (λ (x : End). p x.who) es) (filter (λ (x : End). p x.who) es)) ≡ cond b (suc (part_count p (map part_of es))) (part_count p (map part_of es))
    by true h = ap suc h
    by false h = h

pub parts_count : (p : Party → Bool) (ends ends' : List End) → map part_of ends' ≡ map part_of ends → length (filter (λ (e : End). p e.who) ends') ≡ length (filter (λ (e : End). p e.who) ends)
parts_count p ends ends' same = count_parts p ends' ∙ ap (part_count p) same ∙ sym (count_parts p ends)

-- one more end
seek_more : (who : Party) (ends : List End) (n : End) → seek who (ends ++ n ∷ []) ≡ first_of (seek who ends) (cond (same_party n.who who) (Some n) None)
seek_more who [] n = refl
seek_more who (e ∷ es) n = by (same_party e.who who) (seek_more who es n)
  where
    by : (b : Bool) → seek who (es ++ n ∷ []) ≡ first_of (seek who es) (cond (same_party n.who who) (Some n) None)
        → cond b (Some e) (seek who (es ++ n ∷ [])) ≡ first_of (cond b (Some e) (seek who es)) (cond (same_party n.who who) (Some n) None)
    by true h = refl
    by false h = h

pub more_end : (who : Party) (ends : List End) (n : End) → end_of (ends ++ n ∷ []) who ≡ first_of (end_of ends who) (cond (same_party n.who who) (Some n) None)
more_end who ends n =
    end_of-find (ends ++ n ∷ []) who ∙ seek_more who ends n ∙ ap (λ o. first_of o (cond (same_party n.who who) (Some n) None)) (sym (end_of-find ends who))

pub more_count : (p : Party → Bool) (ends : List End) (n : End) → length (filter (λ (e : End). p e.who) (ends ++ n ∷ [])) ≡ length (filter (λ (e : End). p e.who) ends) + cond (p n.who) 1 0
more_count p [] n = by (p n.who)
  where
    by : (b : Bool) → length (cond b (n ∷ []) []) ≡ 0 + cond b 1 0
    by true = refl
    by false = refl
more_count p (e ∷ es) n = by (p e.who) (more_count p es n)
  where
    by : (b : Bool) → length (filter (λ (x : End). p x.who) (es ++ n ∷ [])) ≡ length (filter (λ (x : End). p x.who) es) + cond (p n.who) 1 0
        → length (cond b (e ∷ filter (λ (x : End). p x.who) (es ++ n ∷ [])) (filter (λ (x : End). p x.who) (es ++ n ∷ []))) ≡ length (cond b (e ∷ filter (λ (x : End). p x.who) es) (filter (λ (x : End). p x.who) es)) + cond (p n.who) 1 0
    by true h = omega (arith, h)
    by false h = h

-- it is the last, and changes there
pub last_end : (ends : List End) (n : End) → end_at (ends ++ n ∷ []) (length ends) ≡ Some n
last_end [] n = refl
last_end (e ∷ es) n = last_end es n

pub last_with : (f : End → End) (ends : List End) (n : End) → with_end (length ends) f (ends ++ n ∷ []) ≡ ends ++ f n ∷ []
last_with f [] n = refl
last_with f (e ∷ es) n = ap (λ l. e ∷ l) (last_with f es n)
