-- The end of a party, and its connection.
use Rattle.std.proofs.Common.{◌≡◌, ℕ, ◌≤◌, Bool, true, false, cond, List, [], ◌∷◌, length, map, Option, None, Some, refl, sym, ◌∙◌, ap, arith, zero, suc, nat_lt}
use Rattle.std.proofs.lemmas.Bool.{ltb-false}
use Rattle.std.proofs.lemmas.Option.{same_Some}
use Rattle.std.specs.List.{find, slice_get, position_or_len}
use Rattle.std.specs.Option.{option_map}
use Rattle.std.proofs.lemmas.List.Folds.{find_at}
use Rattle.atspi_script_lines.specs.declared.line.Party.{Party}
use Rattle.atspi_world_links.specs.declared.post.Post.{Post}
use Rattle.atspi_trace.specs.World.{Standing, End}
use Rattle.atspi_trace.specs.Ends.{end_of, end_if, same_party, is_here}
use Rattle.atspi_trace.specs.Work as work
use Rattle.atspi_trace.specs.Work.{if_started, if_here, no_more}
use Rattle.atspi_tree_model.specs.Forest.{first_of}
use Rattle.atspi_world_parties.specs.Places.{post_of}
use Rattle.atspi_world_parties.specs.Refusals.{standing_of, seat_of_end, seat_of_post, HaveSeats}

-- a party's standing among seats
abbrev found : Party → List (Party × Standing) → Option Standing
found who [] = None
found who (x ∷ xs) = cond (same_party x.0 who) (Some x.1) (found who xs)

-- past the end there is none
past : {A : Type 0} → (xs : List A) (n : ℕ) → length xs ≤ n → slice_get xs n ≡ None
past [] n h = refl
past (x ∷ xs) zero h = let no : ⊥ = omega (arith, h) in absurd no
past (x ∷ xs) (suc n) h = let less : length xs ≤ n = omega (arith, h) in past xs n less

within : (ends : List End) (n : ℕ) (b : Bool) → nat_lt n (length ends) ≡ b → end_if ends (cond b (Some n) None) ≡ slice_get ends n
within ends n true h = refl
within ends n false h = sym (past ends n (ltb-false n (length ends) h))

pub end_of-find : (ends : List End) (who : Party) → end_of ends who ≡ find (λ (e : End). same_party e.who who) ends
end_of-find ends who =
    let p : End → Bool = λ e. same_party e.who who in
    within ends (position_or_len p ends) (nat_lt (position_or_len p ends) (length ends)) refl ∙ sym (find_at p ends)

end-found : (who : Party) (ends : List End) → option_map (λ (e : End). e.standing) (find (λ (e : End). same_party e.who who) ends) ≡ found who (map seat_of_end ends)
end-found who [] = refl
end-found who (e ∷ es) =
    elim (same_party e.who who) as (λ b. option_map (λ (x : End). x.standing) (cond b (Some e) (find (λ (x : End). same_party x.who who) es)) ≡ cond b (Some e.standing) (found who (map seat_of_end es))) [
      | true ↦ refl
      | false ↦ end-found who es
    ]

post-found : (who : Party) (posts : List Post) → option_map (λ (p : Post). standing_of p.standing) (post_of who posts) ≡ found who (map seat_of_post posts)
post-found who [] = refl
post-found who (p ∷ ps) =
    elim (same_party p.who who) as (λ b. option_map (λ (x : Post). standing_of x.standing) (cond b (Some p) (post_of who ps)) ≡ cond b (Some (standing_of p.standing)) (found who (map seat_of_post ps))) [
      | true ↦ refl
      | false ↦ post-found who ps
    ]

-- the end of a party stands as its connection does
pub same-standing : (who : Party) (ends : List End) (posts : List Post) → HaveSeats ends posts
    → option_map (λ (e : End). e.standing) (end_of ends who) ≡ option_map (λ (p : Post). standing_of p.standing) (post_of who posts)
same-standing who ends posts seats =
    ap (option_map (λ (e : End). e.standing)) (end_of-find ends who) ∙ end-found who ends ∙ ap (found who) seats.same ∙ sym (post-found who posts)

-- a connection that is not there, or is
by_none : (o : Option End) → option_map (λ (e : End). e.standing) o ≡ None → (then_ : End → Option work.Refusal) → Some work.no_party ≡ if_started o then_
by_none None h then_ = refl
by_none (Some e) h then_ = absurd cc

by_some : (o : Option End) (s : Standing) → option_map (λ (e : End). e.standing) o ≡ Some s → None ≡ if_started o no_more
by_some None s h = absurd cc
by_some (Some e) s h = refl

of_standing : (e : End) (s : Standing) → e.standing ≡ s → if_here e no_more ≡ cond (is_here s) None (Some work.dead)
of_standing e s h = ap (λ t. cond (is_here t) None (Some work.dead)) h

by_here : (o : Option End) (s : Standing) → option_map (λ (e : End). e.standing) o ≡ Some s → cond (is_here s) None (Some work.dead) ≡ if_started o (λ e. if_here e no_more)
by_here None s h = absurd cc
by_here (Some e) s h = sym (of_standing e s (same_Some e.standing s h))

-- a party that was not started
pub not-started : (who : Party) (ends : List End) (posts : List Post) (then_ : End → Option work.Refusal) → HaveSeats ends posts → None ≡ post_of who posts
    → Some work.no_party ≡ if_started (end_of ends who) then_
not-started who ends posts then_ seats none =
    by_none (end_of ends who) (same-standing who ends posts seats ∙ ap (option_map (λ (p : Post). standing_of p.standing)) (sym none)) then_

-- one that was
pub is-started : (who : Party) (ends : List End) (posts : List Post) (p : Post) → HaveSeats ends posts → Some p ≡ post_of who posts → None ≡ if_started (end_of ends who) no_more
is-started who ends posts p seats some =
    by_some (end_of ends who) (standing_of p.standing) (same-standing who ends posts seats ∙ ap (option_map (λ (q : Post). standing_of q.standing)) (sym some))

-- and by its standing
pub stands-so : (who : Party) (ends : List End) (posts : List Post) (p : Post) (s : Standing) → HaveSeats ends posts → Some p ≡ post_of who posts → standing_of p.standing ≡ s
    → cond (is_here s) None (Some work.dead) ≡ if_started (end_of ends who) (λ e. if_here e no_more)
stands-so who ends posts p s seats some is =
    by_here (end_of ends who) s (same-standing who ends posts seats ∙ ap (option_map (λ (q : Post). standing_of q.standing)) (sym some) ∙ ap Some is)

-- the three tests of a call are its refusal
pub call-refusal : (r a : Option End) → first_of (first_of (if_started r no_more) (if_started a no_more)) (if_started r (λ e. if_here e no_more))
    ≡ if_started r (λ e. if_started a (λ b. if_here e no_more))
call-refusal None a = refl
call-refusal (Some e) None = refl
call-refusal (Some e) (Some b) = refl

-- the two tests of a swap
pub swap-refusal : (o : Option End) (x : Option work.Refusal) → first_of (if_started o (λ e. if_here e no_more)) x ≡ if_started o (λ e. if_here e (λ a. x))
swap-refusal None x = refl
swap-refusal (Some e) x =
    elim (is_here e.standing) as (λ b. first_of (cond b None (Some work.dead)) x ≡ cond b x (Some work.dead)) [ true ↦ refl | false ↦ refl ]

-- the two of what a reader shows
pub show-refusal : (r a : Option End) → first_of (if_started r no_more) (if_started a no_more) ≡ if_started r (λ e. if_started a no_more)
show-refusal None a = refl
show-refusal (Some e) a = refl

-- the answers of a call's tests, put together
pub call-exact : (x y z xy xyz : Option work.Refusal) (r a : Option End) → xyz ≡ first_of xy z → xy ≡ first_of x y → x ≡ if_started r no_more → y ≡ if_started a no_more
    → z ≡ if_started r (λ e. if_here e no_more) → xyz ≡ if_started r (λ e. if_started a (λ b. if_here e no_more))
call-exact x y z xy xyz r a e1 e2 hx hy hz =
    e1 ∙ ap (λ t. first_of t z) (e2 ∙ ap (λ t. first_of t y) hx ∙ ap (λ t. first_of (if_started r no_more) t) hy)
    ∙ ap (λ t. first_of (first_of (if_started r no_more) (if_started a no_more)) t) hz ∙ call-refusal r a

-- those of a swap's
pub swap-exact : (x y xy s : Option work.Refusal) (o : Option End) → xy ≡ first_of x y → x ≡ if_started o (λ e. if_here e no_more) → y ≡ s → xy ≡ if_started o (λ e. if_here e (λ a. s))
swap-exact x y xy s o e hx hy =
    e ∙ ap (λ t. first_of t y) hx ∙ ap (λ t. first_of (if_started o (λ e'. if_here e' no_more)) t) hy ∙ swap-refusal o s

-- those of what a reader shows
pub show-exact : (x y xy : Option work.Refusal) (r a : Option End) → xy ≡ first_of x y → x ≡ if_started r no_more → y ≡ if_started a no_more → xy ≡ if_started r (λ e. if_started a no_more)
show-exact x y xy r a e hx hy =
    e ∙ ap (λ t. first_of t y) hx ∙ ap (λ t. first_of (if_started r no_more) t) hy ∙ show-refusal r a
