-- The connection of a party, and its end.
use Rattle.std.proofs.Common.{◌≡◌, ℕ, zero, suc, ◌+◌, ◌<◌, Bool, true, false, cond, List, [], ◌∷◌, length, None, Some, refl, sym, ap, ◌∙◌, subst, arith}
use Rattle.std.specs.Prelude.{not, nat_lt}
use Rattle.std.specs.List.{position_or_len}
use Rattle.std.proofs.lemmas.Bool.{eqb-true, ltb-true}
use Rattle.std.proofs.lemmas.Option.{same_Some}
use Rattle.atspi_script_lines.specs.declared.line.Party.{Party}
use Rattle.atspi_script_lines.specs.declared.line.Party.TheVariants.{Bus, Registry, App, Reader}
use Rattle.atspi_trace.specs.World.{End}
use Rattle.atspi_trace.specs.Ends.{same_party, conn_of, end_at}

-- who is the same
pub same-party : (a b : Party) → same_party a b ≡ true → a ≡ b
same-party Bus Bus h = refl
same-party Registry Registry h = refl
same-party (App a) (App b) h = ap App (eqb-true a b h)
same-party (Reader a) (Reader b) h = ap Reader (eqb-true a b h)
same-party Bus Registry h = absurd cc
same-party Bus (App b) h = absurd cc
same-party Bus (Reader b) h = absurd cc
same-party Registry Bus h = absurd cc
same-party Registry (App b) h = absurd cc
same-party Registry (Reader b) h = absurd cc
same-party (App a) Bus h = absurd cc
same-party (App a) Registry h = absurd cc
same-party (App a) (Reader b) h = absurd cc
same-party (Reader a) Bus h = absurd cc
same-party (Reader a) Registry h = absurd cc
same-party (Reader a) (App b) h = absurd cc

-- the place of a party, and who is there
abbrev pub place_in : Party → List End → ℕ
place_in who ends = position_or_len (λ (e : End). same_party e.who who) ends

-- whoever has a connection has a place
pub place_is : (ends : List End) (who : Party) (conn : ℕ) → conn_of ends who ≡ Some conn → (place_in who ends ≡ conn) × (conn < length ends)
place_is ends who conn h = by (nat_lt (place_in who ends) (length ends)) refl h
  where
    by : (b : Bool) → nat_lt (place_in who ends) (length ends) ≡ b → cond b (Some (place_in who ends)) None ≡ Some conn → (place_in who ends ≡ conn) × (conn < length ends)
    by true t e =
        let same : place_in who ends ≡ conn = same_Some (place_in who ends) conn e in
        (same, subst (λ n. n < length ends) same (ltb-true (place_in who ends) (length ends) t))
    by false t e = absurd cc

end_there : (ends : List End) (conn : ℕ) → conn < length ends → (e : End) × (end_at ends conn ≡ Some e)
end_there [] conn h = absurd (omega (arith, h))
end_there (e ∷ es) zero h = (e, refl)
end_there (e ∷ es) (suc conn) h = end_there es conn (omega (arith, h))

pub conn_end : (ends : List End) (who : Party) (conn : ℕ) → conn_of ends who ≡ Some conn → (e : End) × (end_at ends conn ≡ Some e)
conn_end ends who conn h = end_there ends conn (place_is ends who conn h).1

who_there : (ends : List End) (who : Party) (conn : ℕ) (e : End) → place_in who ends ≡ conn → end_at ends conn ≡ Some e → e.who ≡ who
who_there [] who zero e p at = absurd cc
who_there [] who (suc conn) e p at = absurd cc
who_there (x ∷ xs) who conn e p at = by (same_party x.who who) refl p (λ later. who_there xs who (place_in who xs) e refl later)
  where
    by : (b : Bool) → same_party x.who who ≡ b → cond (not b) (1 + place_in who xs) 0 ≡ conn → (end_at xs (place_in who xs) ≡ Some e → e.who ≡ who) → e.who ≡ who
    by true t h go =
        let first : end_at (x ∷ xs) 0 ≡ Some e = subst (λ n. end_at (x ∷ xs) n ≡ Some e) (sym h) at in
        ap (λ (y : End). y.who) (sym (same_Some x e first)) ∙ same-party x.who who t
    by false t h go =
        let next : conn ≡ suc (place_in who xs) = omega (arith, h) in
        let later : end_at (x ∷ xs) (suc (place_in who xs)) ≡ Some e = subst (λ n. end_at (x ∷ xs) n ≡ Some e) next at in
        go later

pub conn_who : (ends : List End) (who : Party) (conn : ℕ) (e : End) → conn_of ends who ≡ Some conn → end_at ends conn ≡ Some e → e.who ≡ who
conn_who ends who conn e h at = who_there ends who conn e (place_is ends who conn h).0 at
