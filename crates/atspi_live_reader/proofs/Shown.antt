-- What a reader shows at the end, piece behind piece.
use Rattle.std.proofs.Common.{◌≡◌, ℕ, zero, suc, ◌+◌, false, Bool, List, [], ◌∷◌, ◌++◌, take, map, Option, None, Some, refl, sym, ap, subst, ◌∙◌, inl, inr, append_assoc, append-nil, arith}
use Rattle.std.specs.Prelude.{slice_get}
use Rattle.std.specs.List.{flat_map}
use Rattle.std.specs.Option.{option_map}
use Rattle.std.proofs.lemmas.Grind.{flat_map-append}
use Rattle.atspi_cache_arena.specs.Sights.{Sight, sights}
use Rattle.atspi_tree_model.specs.Forest.{Forest}
use Rattle.atspi_tree_model.specs.declared.view.Row.{Row}
use Rattle.atspi_trace.specs.play.Playing.{shown_sight, view_rows}
use Rattle.atspi_live_conversation.specs.declared.ending.Ending.{Ending}
use Rattle.atspi_live_conversation.specs.declared.ending.Ending.TheVariants as endings
use Rattle.atspi_protocol.specs.following.ReaderState.{ReaderState}
use Rattle.atspi_protocol.specs.following.Takes.{held_names}
use Rattle.atspi_live_reader.specs.Handed.{KeepsLine}
use Rattle.atspi_live_reader.specs.inner.Handed.{GivesRest}
use Rattle.atspi_live_reader.specs.Shows.{last_words, show_if, show_text, shown_in, shown_of}
use Rattle.atspi_live_reader.specs.Spoken.{spoken_in}

-- what a view shows
pub view_shown : (name : List ℕ) (rows : List Sight) (v : Option (Forest Row)) → Some rows ≡ option_map (λ (x : Forest Row). sights x) v → show_if name (view_rows v) ≡ show_text name (map shown_sight rows)
view_shown name rows None e = absurd cc
view_shown name rows (Some x) e = ap (λ (w : List Sight). show_text name (map shown_sight w)) (sym (some_is e))
  where
    some_is : Some rows ≡ Some (sights x) → rows ≡ sights x
    some_is h = cc

pub view_none : (name : List ℕ) (v : Option (Forest Row)) → option_map (λ (x : Forest Row). sights x) v ≡ None → show_if name (view_rows v) ≡ []
view_none name None e = refl
view_none name (Some x) e = absurd cc

-- one more application
one_suc : (names : List (List ℕ)) (name : List ℕ) (k : ℕ) → Some name ≡ slice_get names k → take (suc k) names ≡ take k names ++ name ∷ []
one_suc [] name k e = absurd cc
one_suc (x ∷ xs) name zero e = ap (λ (w : List ℕ). w ∷ []) (sym (some_is e))
  where
    some_is : Some name ≡ Some x → name ≡ x
    some_is h = cc
one_suc (x ∷ xs) name (suc k) e = ap (λ (w : List (List ℕ)). x ∷ w) (one_suc xs name k e)

pub one_more : (names : List (List ℕ)) (name : List ℕ) (k : ℕ) → Some name ≡ slice_get names k → take (k + 1) names ≡ take k names ++ name ∷ []
one_more names name k e = subst (λ (m : ℕ). take m names ≡ take k names ++ name ∷ []) (suc_is k) (one_suc names name k e)
  where
    suc_is : (n : ℕ) → suc n ≡ n + 1
    suc_is n = omega arith

pub shown_more : (s : ReaderState) (initial out new name : List ℕ) (k : ℕ) → Some name ≡ slice_get (held_names s) k → out ≡ initial ++ flat_map (shown_of s) (take k (held_names s)) → new ≡ out ++ shown_of s name
    → new ≡ initial ++ flat_map (shown_of s) (take (k + 1) (held_names s))
shown_more s initial out new name k e before after =
    let done : List ℕ = flat_map (shown_of s) (take k (held_names s)) in
    after ∙ ap (λ (w : List ℕ). w ++ shown_of s name) before ∙ append_assoc initial done (shown_of s name)
    ∙ ap (λ (w : List ℕ). initial ++ (done ++ w)) (sym (append-nil (shown_of s name)))
    ∙ ap (λ (w : List ℕ). initial ++ w) (sym (flat_map-append (shown_of s) (take k (held_names s)) (name ∷ [])))
    ∙ ap (λ (w : List (List ℕ)). initial ++ flat_map (shown_of s) w) (sym (one_more (held_names s) name k e))

none_left : (names : List (List ℕ)) (k : ℕ) → None ≡ slice_get names k → take k names ≡ names
none_left [] zero e = refl
none_left [] (suc k) e = refl
none_left (x ∷ xs) zero e = absurd cc
none_left (x ∷ xs) (suc k) e = ap (λ (w : List (List ℕ)). x ∷ w) (none_left xs k e)

pub shown_all : (s : ReaderState) (initial out : List ℕ) (k : ℕ) → None ≡ slice_get (held_names s) k → out ≡ initial ++ flat_map (shown_of s) (take k (held_names s)) → out ≡ initial ++ shown_in s
shown_all s initial out k e before = before ∙ ap (λ (w : List (List ℕ)). initial ++ flat_map (shown_of s) w) (none_left (held_names s) k e)

-- the lines that are left, behind those that were kept
pub silenced : (r s : ReaderState) (starved starved' : Bool) (lines lines' : List ℕ) → starved' ≡ false → GivesRest r s starved starved' lines lines' → (starved ≡ false) × (lines' ≡ lines ++ spoken_in r.out)
silenced r s starved starved' lines lines' fed g = by g.kept
  where
    by : KeepsLine starved starved' lines lines' (spoken_in r.out) → (starved ≡ false) × (lines' ≡ lines ++ spoken_in r.out)
    by (inl h) = absurd cc
    by (inr h) = (sym h.0 ∙ fed, h.1)

-- and then what is held
pub concluded : (r s : ReaderState) (lines mid new : List ℕ) → mid ≡ lines ++ spoken_in r.out → r ≡ record s { out = r.out } → new ≡ mid ++ shown_in s → new ≡ lines ++ last_words endings.PeerEnded r
concluded r s lines mid new l h e =
    e ∙ ap (λ (w : List ℕ). w ++ shown_in s) l ∙ append_assoc lines (spoken_in r.out) (shown_in s) ∙ ap (λ (w : List ℕ). lines ++ (spoken_in r.out ++ w)) (ap (λ (x : ReaderState). shown_in x) (sym h))

-- where the peer has not ended
pub other_words : (ending : Ending) (r : ReaderState) → (ending ≡ endings.PeerEnded → ⊥) → last_words ending r ≡ spoken_in r.out
other_words endings.PeerEnded r n = absurd (n refl)
other_words endings.RoundsDone r n = refl
other_words endings.HostFailed r n = refl
other_words endings.NotAuthenticated r n = refl
other_words (endings.Malformed start fault) r n = refl
other_words endings.Spent r n = refl
other_words endings.NoMemory r n = refl
