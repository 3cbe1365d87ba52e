-- One more thing happens: what that is to a cursor, and to what messages told.
use Rattle.std.proofs.Common.{◌≡◌, ℕ, List, [], ◌∷◌, ◌++◌, Option, None, Some, refl, sym, ap, ◌∙◌, append_assoc, append-nil}
use Rattle.atspi_tree_model.specs.Forest.{first_of}
use Rattle.atspi_script_lines.specs.declared.line.Party.{Party}
use Rattle.atspi_browse.specs.Cursor.{Happening, Moment, moved, cursor_behind, sent_with, message_sent, moment, moments, cursor}

moments_more : (r a n : ℕ) (before xs : List Happening) (h : Happening) → moments r a n before (xs ++ h ∷ []) ≡ moments r a n before xs ++ moment r a n (before ++ xs) h ∷ []
moments_more r a n before [] h = ap (λ b. moment r a n b h ∷ []) (sym (append-nil before))
moments_more r a n before (x ∷ xs) h =
    ap (λ ms. moment r a n before x ∷ ms) (moments_more r a n (before ++ x ∷ []) xs h ∙ ap (λ b. moments r a n (before ++ x ∷ []) xs ++ moment r a n b h ∷ []) (append_assoc before (x ∷ []) xs))

behind_more : (c : ℕ) (ms : List Moment) (m : Moment) → cursor_behind c (ms ++ m ∷ []) ≡ moved (cursor_behind c ms) m
behind_more c [] m = refl
behind_more c (x ∷ ms) m = behind_more (moved c x) ms m

-- the cursor
pub cursor_more : (r a n : ℕ) (hs : List Happening) (h : Happening) → cursor r a n (hs ++ h ∷ []) ≡ moved (cursor r a n hs) (moment r a n hs h)
cursor_more r a n hs h = ap (cursor_behind 0) (moments_more r a n [] hs h) ∙ behind_more 0 (moments r a n [] hs) (moment r a n hs h)

first_none : {B : Type 0} (o : Option B) → o ≡ first_of o None
first_none None = refl
first_none (Some x) = refl

first_first : {B : Type 0} (x y z : Option B) → first_of (first_of x y) z ≡ first_of x (first_of y z)
first_first None y z = refl
first_first (Some x) y z = refl

-- the last message with a serial
pub sent_more : (who : Party) (serial : ℕ) (hs : List Happening) (h : Happening) → message_sent who serial (hs ++ h ∷ []) ≡ first_of (sent_with who serial h) (message_sent who serial hs)
sent_more who serial [] h = first_none (sent_with who serial h)
sent_more who serial (x ∷ hs) h =
    ap (λ o. first_of o (sent_with who serial x)) (sent_more who serial hs h) ∙ first_first (sent_with who serial h) (message_sent who serial hs) (sent_with who serial x)
